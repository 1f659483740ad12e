use Rattle.std.proofs.Common.{◌≡◌, ℕ, true, false, ◌+◌, ◌==◌, ◌||◌, inl, inr, take, get_or, sym, ap, subst, ◌∙◌, true≢false}
use Rattle.pb_model.proofs.Callers.{by_cases, equal}
use Rattle.pb_machine.specs.Blocks.{interferes}
use Rattle.pb_abstract.specs.Graph.{AbstractGraph, blocks_of, has}
use Rattle.pb_lease.specs.Tables.{blocks, counts_of}
use Rattle.pb_lease.specs.Free.{Shows, IsBesideHotIn, IsIn}
use Rattle.pb_lease.proofs.Lists.{has_more}
use Rattle.pb_lease.proofs.Free.{shows_more, shows_fewer}
use Rattle.pb_lease.proofs.graph.free.show_beside_hot.Goals as goal
use Rattle.pb_lease.proofs.graph.free.show_beside_hot.Goals.{then-is_hot, else-is_hot}

pub loop-other-preserved : goal.loop-other-preserved
loop-other-preserved c =
    let near = c.interference-near.result.now in
    let i = c.loop-other.other-index in
    let x = get_or near i 0 in
    let keys = c.args.homes.now.keys in
    let t = c.args.tables.now in
    let L : ℕ → Type 0 = IsBesideHotIn t (take i near) in
    let N : ℕ → Type 0 = IsBesideHotIn t (take (i + 1) near) in
    let old = c.args.free.now in
    let mid = c.loop-other.free in
    let last : (other : ℕ) → has (take (i + 1) near) other ≡ true → has (take i near) other ≡ false → x ≡ other =
    λ other it not_yet. equal x other (sym (ap (λ r. r || (x == other)) not_yet) ∙ sym (has_more near i other c.loop-other-test.true) ∙ it) in
    elim c.if-is_hot.branch [
      | then-is_hot w ↦
          subst (Shows N keys old) (sym w.free-is)
          (shows_more L (IsIn w.interference.result.now) N keys old mid w.show_all.new.free c.loop-other.invariant w.show_all.ensures
          (λ b n. by_cases (has (take i near) n.0) (λ e. inl (n.0, e, n.2, n.3))
          (λ e. inr (w.interference.ensures.each b ∙ ap (λ (g : AbstractGraph). interferes (blocks_of g) x b) w.abstraction-then-is_hot.ensures ∙ ap (λ o. interferes (blocks t) o b) (last n.0 n.1 e) ∙ n.3))))
      | else-is_hot w ↦
          subst (Shows N keys old) (sym w.free-is)
          (shows_fewer L N keys old mid c.loop-other.invariant
          (λ b n. by_cases (has (take i near) n.0) (λ e. (n.0, e, n.2, n.3))
          (λ e. absurd (true≢false (sym n.2 ∙ ap (counts_of t).hot (sym (last n.0 n.1 e)) ∙ sym c.is_hot.ensures ∙ w.if-is_hot.false)))))
    ]
