-- Queues are made, one after another, each with the first pass's queue_pass.
use Rattle.std.proofs.Common.{◌≡◌, ◌≢◌, ℕ, ◌<◌, List, [], ◌∷◌, ◌++◌, length, sym, refl, ap, ◌∙◌, subst, ⊎_elim, arith, slice_get, slice_index_or, vec_len}
use Rattle.std.specs.Prelude.{IsTrue}
use Rattle.std.specs.declared.alloc.Global.{Global}
use Rattle.std.proofs.lemmas.Bool.{cases_eq}
use Rattle.std.proofs.lemmas.List.{length-append, get_or_push, get_or_append_left}
use Rattle.crossbeam_queue.specs.SegTies.{SegId, IsSegPassOf}
use Rattle.pb_mail.specs.declared.view.View.{View}
use Rattle.pb_mail.specs.declared.pass.PostPass.{PostPass}
use Rattle.pb_mail.specs.declared.post.Post.{Post}
use Rattle.pb_mail.specs.Views.{first_view}
use Rattle.pb_mail.specs.Passes.{QueuePass, view_in, view_at, IsViewOf, IsPassOf}
use Rattle.pb_mail.proofs.Passing.{get_push, get_last}

-- each queue_pass is of its queue, and nothing was sent or taken
pub record AreOpened (queues : List (SegId Global)) (queue_passes : List QueuePass) : Type 0 where
  pub many : length queues ≡ length queue_passes
  pub of_queue : (at : ℕ) (queue : SegId Global) (queue_pass : QueuePass) → at < length queues → IsSegPassOf (slice_index_or queues at queue) (slice_index_or queue_passes at queue_pass)
  pub views : (at : ℕ) → at < length queues → view_in (slice_get queue_passes at) ≡ first_view

pub opened_none : AreOpened [] []
opened_none = record { many = refl; of_queue = λ at queue queue_pass less. absurd (omega arith); views = λ at less. absurd (omega arith) }

pub opened_more : (queues : List (SegId Global)) (queue_passes : List QueuePass) (queue : SegId Global) (queue_pass : QueuePass) → AreOpened queues queue_passes → IsSegPassOf queue queue_pass → queue_pass.me.view.client ≡ first_view → AreOpened (queues ++ queue ∷ []) (queue_passes ++ queue_pass ∷ [])
opened_more queues queue_passes queue queue_pass h of_queue view = record {
  many = let k = h.many in omega (arith, length-append queues (queue ∷ []), length-append queue_passes (queue_pass ∷ []));
  of_queue = λ at d e less. ⊎_elim
      (λ (last : at ≡ length queues).
      subst (λ (q : SegId Global). IsSegPassOf q (slice_index_or (queue_passes ++ queue_pass ∷ []) at e)) (sym (get_or_push queues queue d at (sym last)))
      (subst (λ (p : QueuePass). IsSegPassOf queue p) (sym (get_or_push queue_passes queue_pass e at (let k = h.many in omega arith))) of_queue))
      (λ (off : at ≢ length queues). let low : at < length queues = omega (arith, length-append queues (queue ∷ [])) in
      subst (λ (q : SegId Global). IsSegPassOf q (slice_index_or (queue_passes ++ queue_pass ∷ []) at e)) (sym (get_or_append_left queues (queue ∷ []) d at low))
      (subst (λ (p : QueuePass). IsSegPassOf (slice_index_or queues at d) p) (sym (get_or_append_left queue_passes (queue_pass ∷ []) e at (let k = h.many in omega arith))) (h.of_queue at d e low))) (cases_eq at (length queues));
  views = λ at less. ⊎_elim
      (λ (last : at ≡ length queues). ap view_in (get_last queue_passes queue_pass at (let k = h.many in omega arith)) ∙ view)
      (λ (off : at ≢ length queues). let low : at < length queues = omega (arith, length-append queues (queue ∷ [])) in ap view_in (get_push queue_passes queue_pass at (let k = h.many in omega arith)) ∙ h.views at low) (cases_eq at (length queues));
}

module _ {K : Type 0} (post : Post K) (pass : PostPass) (h : AreOpened post.queues.items pass.queue_passes.items) (len : vec_len pass.queue_passes ≡ vec_len post.queues) (first : pass.number ≡ 0) (one : pass.made ≡ 1) (some : 0 < vec_len post.queues) where
  pub opened_view : (at : ℕ) → at < vec_len post.queues → view_at pass at ≡ first_view
  opened_view at less = h.views at (let n = post.queues.ok.0 in omega arith)

  pub opened_pass : IsPassOf post pass
  opened_pass = record {
    many = len;
    queue_passes = λ owner queue queue_pass less. h.of_queue owner queue queue_pass (let n = post.queues.ok.0 in omega arith);
    views = λ owner less. subst (IsViewOf pass) (sym (opened_view owner less)) (record { live = refl; number = sym first; made = sym one });
    below = omega arith;
    takes = subst (λ n. IsTrue (view_at pass n).takes) (sym first) (subst (λ (v : View). IsTrue v.takes) (sym (opened_view 0 some)) refl);
    counts = λ _. omega arith;
    free = λ _ owner past less. subst (λ (v : View). IsTrue v.takes) (sym (opened_view owner less)) refl;
  }
