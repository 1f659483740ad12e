use Rattle.std.proofs.Common.{◌≡◌, ℕ, ◌<◌, ◌*◌, rules, List, Option, IsSome, IsTrue, None, get_or, length, sym, ap, subst, ◌∙◌, arith}
use Rattle.pb_model.specs.declared.key.Key.{Key}
use Rattle.pb_bundles.specs.declared.winner.Winner.{Winner}
use Rattle.pb_bundles.specs.Tree.{node}
use Rattle.pb_bundles.proofs.Trees.{root_some, some_root}
use Rattle.pb_bundles.proofs.tree.KeyTree.is_any.Goals as goal

pub returns : goal.returns
returns c =
    let keys = c.self.inside.keys.items in
    let winners = c.self.inside.winners.items in
    let inside : 1 < 2 * length c.deref.result.now = search rules in
    let more : 0 < length keys = subst (λ (ks : List (Option Key)). 0 < length ks) c.deref.ensures.value (omega (arith, inside)) in
    let root : c.node_of.result ≡ node keys winners 1 =
    c.node_of.ensures ∙ ap (λ (ks : List (Option Key)). node ks c.deref-2.result.now 1) c.deref.ensures.value ∙ ap (λ (ws : List Winner). node keys ws 1) c.deref-2.ensures.value in
    subst (λ (ks : List (Option Key)). (IsTrue c.is_some.result → (block : ℕ) × IsSome (get_or ks block None)) × (((block : ℕ) × IsSome (get_or ks block None)) → IsTrue c.is_some.result)) c.self.view_is (
      (λ e. some_root keys winners c.self.invariant more (subst (λ (w : Winner). IsSome w.key) root (sym c.is_some.ensures ∙ e))),
      (λ p. c.is_some.ensures ∙ subst (λ (w : Winner). IsSome w.key) (sym root) (root_some keys winners c.self.invariant p.0 p.1)),
    )
