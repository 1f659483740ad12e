-- A pass in which what it knows of one queue has changed.
use Rattle.std.proofs.Common.{◌≡◌, ◌≢◌, ℕ, ◌<◌, ◌≤◌, List, [], ◌∷◌, ◌++◌, length, set, sym, ap, ◌∙◌, subst, ⊎_elim, arith, Bool, length-set, slice_get, slice_index_or, vec_len, Some}
use Rattle.std.specs.Prelude.{IsTrue}
use Rattle.std.specs.declared.alloc.Global.{Global}
use Rattle.std.proofs.lemmas.Bool.{cases_lt, cases_eq}
use Rattle.std.proofs.lemmas.List.{length-append, get_or_push, get_or_append_left, get_or-set_same, get_or-set_other, get_or_read_under}
use Rattle.std.proofs.lemmas.Option.{slice_get-get_or, slice_get_past}
use Rattle.crossbeam_queue.specs.SegTies.{SegId, IsSegPassOf}
use Rattle.pb_mail.specs.declared.letter.Sent.{Sent}
use Rattle.pb_mail.specs.declared.view.View.{View}
use Rattle.pb_mail.specs.declared.pass.PostPass.{PostPass}
use Rattle.pb_mail.specs.declared.post.Post.{Post}
use Rattle.pb_mail.specs.Rule.{IsTaken}
use Rattle.pb_mail.specs.Passes.{QueuePass, with_queue_pass, view_in, view_at, IsViewOf, IsPassOf, ChangesAt, TakesFrom, KnowsTheSame, IsQueuePassOf, HasQueuePasses}

pub get_set_here : {A : Type 0} (l : List A) (i : ℕ) (a : A) → i < length l → slice_get (set l i a) i ≡ Some a
get_set_here l i a less = slice_get-get_or (set l i a) i a (let e = length-set l i a in omega arith) ∙ ap Some (get_or-set_same l i a a less)

pub get_set_else : {A : Type 0} (l : List A) (i j : ℕ) (a : A) → j ≢ i → slice_get (set l i a) j ≡ slice_get l j
get_set_else l i j a off =
    let e = length-set l i a in
    ⊎_elim (λ (less : j < length l). slice_get-get_or (set l i a) j a (omega arith) ∙ ap Some (get_or-set_other l i j a a off) ∙ sym (slice_get-get_or l j a less))
    (λ (past : length l ≤ j). slice_get_past (set l i a) j (omega arith) ∙ sym (slice_get_past l j past)) (cases_lt j (length l))

-- one more at the end
pub get_push : {A : Type 0} (xs : List A) (y : A) (k : ℕ) → k < length xs → slice_get (xs ++ y ∷ []) k ≡ slice_get xs k
get_push xs y k less = slice_get-get_or (xs ++ y ∷ []) k y (let e = length-append xs (y ∷ []) in omega arith) ∙ ap Some (get_or_append_left xs (y ∷ []) y k less) ∙ sym (slice_get-get_or xs k y less)

pub get_last : {A : Type 0} (xs : List A) (y : A) (k : ℕ) → length xs ≡ k → slice_get (xs ++ y ∷ []) k ≡ Some y
get_last xs y k is = slice_get-get_or (xs ++ y ∷ []) k y (let e = length-append xs (y ∷ []) in omega arith) ∙ ap Some (get_or_push xs y y k is)

module _ (pass : PostPass) (at : ℕ) (queue_pass : QueuePass) where
  pub here : at < vec_len pass.queue_passes → view_at (with_queue_pass pass at queue_pass) at ≡ queue_pass.me.view.client
  here less = ap view_in (get_set_here pass.queue_passes.items at queue_pass (let e = pass.queue_passes.ok.0 in omega arith))

  pub else : (j : ℕ) → j ≢ at → view_at (with_queue_pass pass at queue_pass) j ≡ view_at pass j
  else j off = ap view_in (get_set_else pass.queue_passes.items at j queue_pass off)

-- the view of a queue_pass
pub viewed : (pass : PostPass) (at : ℕ) (queue_pass : QueuePass) → at < vec_len pass.queue_passes → queue_pass ≡ slice_index_or pass.queue_passes.items at queue_pass → queue_pass.me.view.client ≡ view_at pass at
viewed pass at queue_pass less is = ap (λ (p : QueuePass). p.me.view.client) is ∙ sym (ap view_in (slice_get-get_or pass.queue_passes.items at queue_pass (let e = pass.queue_passes.ok.0 in omega arith)))

module _ {K : Type 0} (post : Post K) (pass : PostPass) (own : IsPassOf post pass) (at : ℕ) (queue_pass : QueuePass) (less : at < vec_len post.queues) where
  within : at < vec_len pass.queue_passes
  within = let e = own.many in omega arith

  -- it still is a pass of these queues, if what it knows of this one is its owner's, and it may still take from it
  pub still : ((queue : _) → IsSegPassOf (slice_index_or post.queues.items at queue) queue_pass) → IsViewOf pass queue_pass.me.view.client → (IsTrue (view_at pass at).takes → IsTrue queue_pass.me.view.client.takes)
      → IsPassOf post (with_queue_pass pass at queue_pass)
  still of_one_queue of_pass takes = record {
    many = own.many;
    queue_passes = λ j queue other low. ⊎_elim
        (λ (e : j ≡ at). subst (IsSegPassOf (slice_index_or post.queues.items j queue)) (sym (ap (λ n. slice_index_or (set pass.queue_passes.items at queue_pass) n other) e ∙ get_or-set_same pass.queue_passes.items at queue_pass other (let k = pass.queue_passes.ok.0 in let w = within in omega arith)))
        (subst (λ n. IsSegPassOf (slice_index_or post.queues.items n queue) queue_pass) (sym e) (of_one_queue queue)))
        (λ (off : j ≢ at). subst (IsSegPassOf (slice_index_or post.queues.items j queue)) (sym (get_or-set_other pass.queue_passes.items at j queue_pass other off)) (own.queue_passes j queue other low)) (cases_eq j at);
    views = λ j low. ⊎_elim
        (λ (e : j ≡ at). again (subst (IsViewOf pass) (sym (ap (view_at (with_queue_pass pass at queue_pass)) e ∙ here pass at queue_pass within)) of_pass))
        (λ (off : j ≢ at). again (subst (IsViewOf pass) (sym (else pass at queue_pass j off)) (own.views j low))) (cases_eq j at);
    below = own.below;
    takes = may pass.number own.takes;
    counts = own.counts;
    free = λ first j made low. may j (own.free first j made low);
  }
    where
      again : {v : View} → IsViewOf pass v → IsViewOf (with_queue_pass pass at queue_pass) v
      again k = record { live = k.live; number = k.number; made = k.made }

      may : (j : ℕ) → IsTrue (view_at pass j).takes → IsTrue (view_at (with_queue_pass pass at queue_pass) j).takes
      may j t = ⊎_elim
          (λ (e : j ≡ at). subst (λ (v : View). IsTrue v.takes) (sym (ap (view_at (with_queue_pass pass at queue_pass)) e ∙ here pass at queue_pass within)) (takes (subst (λ n. IsTrue (view_at pass n).takes) e t)))
          (λ (off : j ≢ at). subst (λ (v : View). IsTrue v.takes) (sym (else pass at queue_pass j off)) t) (cases_eq j at)

  -- the same, with what was read of the queues and of the pass, and the view that the queue_pass had
  pub still_at : (queue : SegId Global) (was : QueuePass) → queue ≡ slice_index_or post.queues.items at queue → was ≡ slice_index_or pass.queue_passes.items at was → IsSegPassOf queue queue_pass
      → (w : View) → queue_pass.me.view.client ≡ w → w.is_live ≡ was.me.view.client.is_live → w.number ≡ was.me.view.client.number → w.made ≡ was.me.view.client.made
      → (IsTrue was.me.view.client.takes → IsTrue w.takes) → IsPassOf post (with_queue_pass pass at queue_pass)
  still_at queue was read old of_one_queue w is live number made takes =
      let at_was = viewed pass at was within old in
      let k = subst (IsViewOf pass) (sym at_was) (own.views at less) in
      still (λ d. subst (λ l. IsSegPassOf l queue_pass) (get_or_read_under post.queues.items at (vec_len post.queues) queue d read less post.queues.ok.0) of_one_queue)
      (subst (IsViewOf pass) (sym is) (record { live = live ∙ k.live; number = number ∙ k.number; made = made ∙ k.made }))
      (λ t. subst (λ (v : View). IsTrue v.takes) (sym is) (takes (subst (λ (v : View). IsTrue v.takes) (sym at_was) t)))

  pub changes : (v : View) → queue_pass.me.view.client ≡ v → ChangesAt pass (with_queue_pass pass at queue_pass) at v
  changes v is = record { here = here pass at queue_pass within ∙ is; others = else pass at queue_pass }

  pub takes_from : (fits : ℕ → Bool) (x : Sent) → IsTaken fits (view_at pass at) x queue_pass.me.view.client → TakesFrom fits pass (with_queue_pass pass at queue_pass) at x
  takes_from fits x taken = record { taken = subst (IsTaken fits (view_at pass at) x) (sym (here pass at queue_pass within)) taken; others = else pass at queue_pass }

  -- the same view is no change
  pub same : queue_pass.me.view.client ≡ view_at pass at → KnowsTheSame pass (with_queue_pass pass at queue_pass)
  same is j = ⊎_elim (λ (e : j ≡ at). ap (view_at (with_queue_pass pass at queue_pass)) e ∙ (here pass at queue_pass within ∙ (is ∙ sym (ap (view_at pass) e)))) (λ (off : j ≢ at). else pass at queue_pass j off) (cases_eq j at)

-- a pass with another queue_pass has queue_passes
pub with_queue_pass_of : {K : Type 0} (post : Post K) (pass : PostPass) (at : ℕ) (queue_pass : QueuePass) → at < vec_len post.queues → HasQueuePasses post pass → IsQueuePassOf post at queue_pass → HasQueuePasses post (with_queue_pass pass at queue_pass)
with_queue_pass_of post pass at queue_pass less h of_queue = record {
  many = h.many;
  queue_passes = λ j other low. ⊎_elim
      (λ (e : j ≡ at). subst (IsQueuePassOf post j) (sym (ap (λ n. slice_index_or (set pass.queue_passes.items at queue_pass) n other) e ∙ get_or-set_same pass.queue_passes.items at queue_pass other (let k = pass.queue_passes.ok.0 in let w = h.many in omega arith)))
      (subst (λ n. IsQueuePassOf post n queue_pass) (sym e) of_queue))
      (λ (off : j ≢ at). subst (IsQueuePassOf post j) (sym (get_or-set_other pass.queue_passes.items at j queue_pass other off)) (h.queue_passes j other low)) (cases_eq j at);
}

-- what was read of the pass is what it knows
pub known : {K : Type 0} (post : Post K) (pass : PostPass) → IsPassOf post pass → (at : ℕ) → at < vec_len post.queues → (was : QueuePass) → was ≡ slice_index_or pass.queue_passes.items at was → was.me.view.client ≡ view_at pass at
known post pass own at less was old = viewed pass at was (let e = own.many in omega arith) old

-- its owner's view is live
pub is_live : {K : Type 0} (post : Post K) (pass : PostPass) → IsPassOf post pass → (at : ℕ) → at < vec_len post.queues → (was : QueuePass) → was ≡ slice_index_or pass.queue_passes.items at was → IsTrue was.me.view.client.is_live
is_live post pass own at less was old = subst (λ (v : View). IsTrue v.is_live) (sym (known post pass own at less was old)) (own.views at less).live

pub queue_passes_of : {K : Type 0} (post : Post K) (pass : PostPass) → IsPassOf post pass → HasQueuePasses post pass
queue_passes_of post pass own = record { many = own.many; queue_passes = λ owner queue_pass less queue. own.queue_passes owner queue queue_pass less }
