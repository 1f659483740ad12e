-- A pass takes in another, one queue after another, the last one first.
use Rattle.std.proofs.Common.{◌≡◌, ◌≢◌, ℕ, ◌+◌, ◌<◌, ◌≤◌, List, [], ◌∷◌, ◌++◌, length, sym, refl, ap, ◌∙◌, subst, ⊎_elim, arith, Bool, true, false, slice_index_or, vec_len}
use Rattle.std.specs.Prelude.{IsTrue, ◌||◌}
use Rattle.std.proofs.lemmas.Bool.{cases_eq}
use Rattle.std.proofs.lemmas.List.{length-append, get_or_push, get_or_append_left}
use Rattle.pb_mail.specs.declared.view.View.{View}
use Rattle.pb_mail.specs.declared.pass.PostPass.{PostPass}
use Rattle.pb_mail.specs.declared.post.Post.{Post}
use Rattle.pb_mail.specs.Views.{met_view}
use Rattle.pb_mail.specs.Passes.{QueuePass, view_at, IsViewOf, IsPassOf, IsQueuePassOf, HasQueuePasses, HasNewQueuePass}
use Rattle.pb_mail.proofs.Passing.{here, else, with_queue_pass_of, viewed}

-- the pass took in the other at the queues from this number on
pub record HasMetFrom {K : Type 0} (post : Post K) (old other new : PostPass) (left : ℕ) (rest : List QueuePass) : Type 0 where
  pub number : new.number ≡ old.number
  pub made : new.made ≡ old.made
  pub queue_passes : HasQueuePasses post new
  pub within : left ≤ vec_len post.queues
  pub many : length rest ≡ left
  pub begins : (owner : ℕ) (queue_pass : QueuePass) → owner < left → slice_index_or rest owner queue_pass ≡ slice_index_or other.queue_passes.items owner queue_pass
  pub met : (owner : ℕ) → left ≤ owner → owner < vec_len post.queues → view_at new owner ≡ met_view (view_at old owner) (view_at other owner)
  pub kept : (owner : ℕ) → owner < left → view_at new owner ≡ view_at old owner

module _ {K : Type 0} (post : Post K) where
  pub met_none : (old other : PostPass) → HasQueuePasses post old → HasQueuePasses post other → HasMetFrom post old other old (vec_len other.queue_passes) other.queue_passes.items
  met_none old other queue_passes there = record {
    number = refl;
    made = refl;
    queue_passes = queue_passes;
    within = let e = there.many in omega arith;
    many = sym other.queue_passes.ok.0;
    begins = λ owner queue_pass _. refl;
    met = λ owner past low. absurd (let e = there.many in omega arith);
    kept = λ owner _. refl;
  }

  -- the last queue_pass is taken off, and the others are left
  module _ (old other new : PostPass) (left at : ℕ) (rest more : List QueuePass) (queue_pass : QueuePass) (there : HasQueuePasses post other) (h : HasMetFrom post old other new left rest) (parts : rest ≡ more ++ queue_pass ∷ []) (len : length more ≡ at) where
    one_less : left ≡ at + 1
    one_less = let e = ap (λ (l : List QueuePass). length l) parts in let k = h.many in omega (arith, length-append more (queue_pass ∷ []))

    last : queue_pass ≡ slice_index_or other.queue_passes.items at queue_pass
    last = sym (get_or_push more queue_pass queue_pass at len) ∙ (λ i. slice_index_or (sym parts i) at queue_pass) ∙ h.begins at queue_pass (let e = one_less in omega arith)

    pub last_view : queue_pass.me.view.client ≡ view_at other at
    last_view = viewed other at queue_pass (let e = there.many in let k = h.within in let o = one_less in omega arith) last

    pub last_queue_pass : IsQueuePassOf post at queue_pass
    last_queue_pass = subst (IsQueuePassOf post at) (sym last) (there.queue_passes at queue_pass (let k = h.within in let o = one_less in omega arith))

    pub met_more : (next : PostPass) → HasNewQueuePass post new next at (met_view (view_at new at) queue_pass.me.view.client) → HasMetFrom post old other next at more
    met_more next p =
        let is : left ≡ at + 1 = one_less in
        let within : at < vec_len new.queue_passes = let e = h.queue_passes.many in let k = h.within in omega arith in
        let at_here : view_at next at ≡ met_view (view_at old at) (view_at other at) = ap (λ (q : PostPass). view_at q at) p.new_is ∙ here new at p.queue_pass within ∙ p.view_is ∙ (λ i. met_view (h.kept at (omega arith) i) (last_view i)) in
        let at_else : (j : ℕ) → j ≢ at → view_at next j ≡ view_at new j = λ j off. ap (λ (q : PostPass). view_at q j) p.new_is ∙ else new at p.queue_pass j off in
        record {
          number = ap (λ (q : PostPass). q.number) p.new_is ∙ h.number;
          made = ap (λ (q : PostPass). q.made) p.new_is ∙ h.made;
          queue_passes = subst (HasQueuePasses post) (sym p.new_is) (with_queue_pass_of post new at p.queue_pass (let k = h.within in omega arith) h.queue_passes p.of_queue);
          within = let k = h.within in omega arith;
          many = len;
          begins = λ owner q low. sym (get_or_append_left more (queue_pass ∷ []) q owner (omega arith)) ∙ (λ i. slice_index_or (sym parts i) owner q) ∙ h.begins owner q (omega arith);
          met = λ owner past low. ⊎_elim
              (λ (e : owner ≡ at). subst (λ n. view_at next n ≡ met_view (view_at old n) (view_at other n)) (sym e) at_here)
              (λ (off : owner ≢ at). at_else owner off ∙ h.met owner (omega arith) low) (cases_eq owner at);
          kept = λ owner low. at_else owner (λ e. omega arith) ∙ h.kept owner (omega arith);
        }

  or_true : (a b : Bool) → IsTrue a → IsTrue (a || b)
  or_true true b e = refl
  or_true false b e = absurd (let bad : false ≡ true = e in cc)

  -- all queues were met
  pub met_pass : (old other new : PostPass) (rest : List QueuePass) → IsPassOf post old → HasMetFrom post old other new 0 rest → IsPassOf post new
  met_pass old other new rest own h =
      let at : (owner : ℕ) → owner < vec_len post.queues → view_at new owner ≡ met_view (view_at old owner) (view_at other owner) = λ owner low. h.met owner (omega arith) low in
      let low : new.number < vec_len post.queues = let e = own.below in let k = h.number in omega arith in
      record {
        many = h.queue_passes.many;
        queue_passes = λ owner queue queue_pass less. h.queue_passes.queue_passes owner queue_pass less queue;
        views = λ owner less. let k = own.views owner less in subst (IsViewOf new) (sym (at owner less)) (record { live = k.live; number = k.number ∙ sym h.number; made = k.made ∙ sym h.made });
        below = low;
        takes = subst (λ (v : View). IsTrue v.takes) (sym (at new.number low)) (or_true (view_at old new.number).takes (view_at other new.number).takes (subst (λ n. IsTrue (view_at old n).takes) (sym h.number) own.takes));
        counts = λ zero. let c = own.counts (sym h.number ∙ zero) in let k = h.made in omega arith;
        free = λ zero owner past less. subst (λ (v : View). IsTrue v.takes) (sym (at owner less)) (or_true (view_at old owner).takes (view_at other owner).takes (own.free (sym h.number ∙ zero) owner (let k = h.made in omega arith) less));
      }
