-- A pass is split, one queue after another.
use Rattle.std.proofs.Common.{◌≡◌, ◌≢◌, ℕ, ◌+◌, ◌<◌, ◌≤◌, ◌==◌, List, [], ◌∷◌, ◌++◌, length, sym, refl, ap, ◌∙◌, subst, ⊎_elim, arith, Bool, true, false, slice_get, slice_index_or, vec_len, eq-eqb, ne_eqb}
use Rattle.std.specs.Prelude.{IsTrue}
use Rattle.std.proofs.lemmas.Bool.{cases_eq}
use Rattle.std.proofs.lemmas.List.{length-append, get_or_push, get_or_append_left}
use Rattle.pb_mail.specs.declared.view.View.{View}
use Rattle.pb_mail.specs.declared.pass.PostPass.{PostPass}
use Rattle.pb_mail.specs.declared.post.Post.{Post}
use Rattle.pb_mail.specs.Views.{kept_view, given_view}
use Rattle.pb_mail.specs.Passes.{QueuePass, view_in, view_at, owners_of, IsViewOf, IsPassOf, IsSplit, IsQueuePassOf, HasQueuePasses, HasNewQueuePass}
use Rattle.pb_mail.proofs.Passing.{get_push, get_last, here, else, with_queue_pass_of}

-- the pass was split at the queues of the first few owners
pub record HasCut {K : Type 0} (post : Post K) (old new : PostPass) (at : ℕ) (given : List QueuePass) : Type 0 where
  pub number : new.number ≡ old.number
  pub made : new.made ≡ old.made
  pub queue_passes : HasQueuePasses post new
  pub many : length given ≡ at
  pub given_queue_passes : (owner : ℕ) (queue_pass : QueuePass) → owner < at → IsQueuePassOf post owner (slice_index_or given owner queue_pass)
  pub kept_views : (owner : ℕ) → owner < at → view_at new owner ≡ kept_view (owner == old.made) (view_at old owner)
  pub given_views : (owner : ℕ) → owner < at → view_in (slice_get given owner) ≡ given_view (owner == old.made) (view_at old owner)
  pub rest : (owner : ℕ) → at ≤ owner → view_at new owner ≡ view_at old owner

module _ {K : Type 0} (post : Post K) where
  pub cut_none : (old : PostPass) → HasQueuePasses post old → HasCut post old old 0 []
  cut_none old queue_passes = record {
    number = refl;
    made = refl;
    queue_passes = queue_passes;
    many = refl;
    given_queue_passes = λ owner queue_pass less. absurd (omega arith);
    kept_views = λ owner less. absurd (omega arith);
    given_views = λ owner less. absurd (omega arith);
    rest = λ owner _. refl;
  }

  pub cut_more : (old new next : PostPass) (at : ℕ) (given : List QueuePass) (other : QueuePass) → at < vec_len post.queues → HasCut post old new at given
      → HasNewQueuePass post new next at (kept_view (at == new.made) (view_at new at)) → IsQueuePassOf post at other → other.me.view.client ≡ given_view (at == new.made) (view_at new at)
      → HasCut post old next (at + 1) (given ++ other ∷ [])
  cut_more old new next at given other less h p of_queue view_is =
      let within : at < vec_len new.queue_passes = let e = h.queue_passes.many in omega arith in
      let at_here : view_at next at ≡ kept_view (at == old.made) (view_at old at) = ap (λ (q : PostPass). view_at q at) p.new_is ∙ here new at p.queue_pass within ∙ p.view_is ∙ (λ i. kept_view (at == h.made i) (h.rest at (omega arith) i)) in
      let at_else : (j : ℕ) → j ≢ at → view_at next j ≡ view_at new j = λ j off. ap (λ (q : PostPass). view_at q j) p.new_is ∙ else new at p.queue_pass j off in
      record {
        number = ap (λ (q : PostPass). q.number) p.new_is ∙ h.number;
        made = ap (λ (q : PostPass). q.made) p.new_is ∙ h.made;
        queue_passes = subst (HasQueuePasses post) (sym p.new_is) (with_queue_pass_of post new at p.queue_pass less h.queue_passes p.of_queue);
        many = let e = length-append given (other ∷ []) in let k = h.many in omega arith;
        given_queue_passes = λ owner queue_pass low. ⊎_elim
            (λ (e : owner ≡ at). subst (IsQueuePassOf post owner) (sym (get_or_push given other queue_pass owner (h.many ∙ sym e))) (subst (λ n. IsQueuePassOf post n other) (sym e) of_queue))
            (λ (off : owner ≢ at). subst (IsQueuePassOf post owner) (sym (get_or_append_left given (other ∷ []) queue_pass owner (let k = h.many in omega arith))) (h.given_queue_passes owner queue_pass (omega arith))) (cases_eq owner at);
        kept_views = λ owner low. ⊎_elim
            (λ (e : owner ≡ at). subst (λ n. view_at next n ≡ kept_view (n == old.made) (view_at old n)) (sym e) at_here)
            (λ (off : owner ≢ at). at_else owner off ∙ h.kept_views owner (omega arith)) (cases_eq owner at);
        given_views = λ owner low. ⊎_elim
            (λ (e : owner ≡ at). subst (λ n. view_in (slice_get (given ++ other ∷ []) n) ≡ given_view (n == old.made) (view_at old n)) (sym e) (ap view_in (get_last given other at h.many) ∙ view_is ∙ (λ i. given_view (at == h.made i) (h.rest at (omega arith) i))))
            (λ (off : owner ≢ at). ap view_in (get_push given other owner (let k = h.many in omega arith)) ∙ h.given_views owner (omega arith)) (cases_eq owner at);
        rest = λ owner past. at_else owner (λ e. omega arith) ∙ h.rest owner (omega arith);
      }

  -- what the first pass keeps
  kept_of : (old next : PostPass) (own : Bool) (v : View) → IsViewOf old v → next.number ≡ old.number → next.made ≡ old.made + 1 → IsViewOf next (kept_view own v)
  kept_of old next true v k number made = record { live = k.live; number = k.number ∙ sym number; made = ap (λ n. n + 1) k.made ∙ sym made }
  kept_of old next false v k number made = record { live = k.live; number = k.number ∙ sym number; made = ap (λ n. n + 1) k.made ∙ sym made }

  -- what the new one gets
  given_of : (old other : PostPass) (own : Bool) (v : View) → IsViewOf old v → other.number ≡ old.made → other.made ≡ 0 → IsViewOf other (given_view own v)
  given_of old other true v k number made = record { live = refl; number = k.made ∙ sym number; made = sym made }
  given_of old other false v k number made = record { live = refl; number = k.made ∙ sym number; made = sym made }

  -- the pass was split at all queues
  module _ (old new : PostPass) (given : List QueuePass) (own : IsPassOf post old) (first : old.number ≡ 0) (more : old.made < vec_len post.queues) (h : HasCut post old new (vec_len post.queues) given) where
    pub kept_pass : (next : PostPass) → next ≡ record { queue_passes = new.queue_passes; number = new.number; made = new.made + 1 } → IsPassOf post next
    kept_pass next is = subst (IsPassOf post) (sym is) record {
      many = h.queue_passes.many;
      queue_passes = λ owner queue queue_pass less. h.queue_passes.queue_passes owner queue_pass less queue;
      views = λ owner less. subst (IsViewOf _) (sym (h.kept_views owner less)) (kept_of old (record { queue_passes = new.queue_passes; number = new.number; made = new.made + 1 }) (owner == old.made) (view_at old owner) (own.views owner less) h.number (ap (λ n. n + 1) h.made));
      below = let e = own.below in let k = h.number in omega arith;
      takes = let low : new.number < vec_len post.queues = (let e = own.below in let k = h.number in omega arith) in
          subst (λ (v : View). IsTrue v.takes) (sym (h.kept_views new.number low ∙ ap (λ b. kept_view b (view_at old new.number)) (ne_eqb new.number old.made (λ e. let c = own.counts first in let k = h.number in omega arith))))
          (subst (λ n. IsTrue (view_at old n).takes) (sym h.number) own.takes);
      counts = λ _. omega arith;
      free = λ zero owner past low.
          subst (λ (v : View). IsTrue v.takes) (sym (h.kept_views owner low ∙ ap (λ b. kept_view b (view_at old owner)) (ne_eqb owner old.made (λ e. let k = h.made in omega arith))))
          (own.free first owner (let k = h.made in omega arith) low);
    }

    pub given_pass : (other : PostPass) → other.queue_passes.items ≡ given → vec_len other.queue_passes ≡ vec_len post.queues → other.number ≡ old.made → other.made ≡ 0 → IsPassOf post other
    given_pass other items len number made = record {
      many = len;
      queue_passes = λ owner queue queue_pass less. subst (λ xs. IsQueuePassOf post owner (slice_index_or xs owner queue_pass)) (sym items) (h.given_queue_passes owner queue_pass less) queue;
      views = λ owner less. subst (IsViewOf other) (sym (at owner less)) (given_of old other (owner == old.made) (view_at old owner) (own.views owner less) number made);
      below = let e = number in omega arith;
      takes = subst (λ n. IsTrue (view_at other n).takes) (sym number) (subst (λ (v : View). IsTrue v.takes) (sym (at old.made more ∙ ap (λ b. given_view b (view_at old old.made)) (eq-eqb old.made old.made refl))) refl);
      counts = λ zero. absurd (let c = own.counts first in let e = number in omega arith);
      free = λ zero. absurd (let c = own.counts first in let e = number in omega arith);
    }
      where
        at : (owner : ℕ) → owner < vec_len post.queues → view_at other owner ≡ given_view (owner == old.made) (view_at old owner)
        at owner less = ap (λ xs. view_in (slice_get xs owner)) items ∙ h.given_views owner less

    pub is_split : (next other : PostPass) → next.queue_passes ≡ new.queue_passes → other.queue_passes.items ≡ given → IsSplit (owners_of post) old next other
    is_split next other same items = record {
      kept = λ owner less. ap (λ p. view_in (slice_get p.items owner)) same ∙ h.kept_views owner less;
      given = λ owner less. ap (λ xs. view_in (slice_get xs owner)) items ∙ h.given_views owner less;
    }
