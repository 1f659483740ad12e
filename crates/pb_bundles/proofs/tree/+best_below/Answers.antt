use Rattle.std.proofs.Common.{◌≡◌, ◌<◌, true, false, Some, IsSome, length, sym, ap, subst, ◌∙◌}
use Rattle.std.proofs.lemmas.Option.{same_Some}
use Rattle.pb_bundles.specs.declared.winner.Winner.{Winner}
use Rattle.pb_bundles.specs.Tree.{leaf, IsAhead, IsBestBelow}
use Rattle.pb_bundles.proofs.Trees.{leaf_of, own_leaf, stays, takes, ends, both}
use Rattle.pb_bundles.proofs.tree.+best_below.Goals as goal

pub returns-then-not-improves-clause-best : goal.returns-then-not-improves-clause-best
returns-then-not-improves-clause-best g t c = λ test says.
    let keys = c.args.keys.now in
    let winners = c.args.winners.now in
    stays keys winners c.requires.tree test c.args.at c.requires.node.0 c.requires.node.1 c.args.best c.requires.best
    (subst (λ (w : Winner). IsSome w.key → (other : Winner) × (c.args.best ≡ Some other) × (IsAhead w other → ⊥)) c.node_of-winner.ensures (c.improves.ensures.worse c.if-not-improves.true))

pub pass-requires : goal.pass-requires
pass-requires g t c =
    let found = leaf_of c.args.keys.now c.args.winners.now c.requires.tree c.args.at c.requires.node.0 c.requires.node.1 in
    c.requires.pass c.node_of-winner.result.block (subst (λ n. n < length c.args.keys.now) (sym (ap (λ (w : Winner). w.block) (c.node_of-winner.ensures ∙ found.2))) found.1)

pub returns-then-pass-clause-leaf : goal.returns-then-pass-clause-leaf
returns-then-pass-clause-leaf g t c = λ other is.
    let keys = c.args.keys.now in
    let own = own_leaf keys c.args.winners.now c.requires.tree c.args.at c.requires.node.0 c.requires.node.1 in
    subst (λ (w : Winner). w ≡ leaf keys w.block) (sym c.node_of-winner.ensures ∙ same_Some c.node_of-winner.result other is) own

pub returns-then-pass-clause-best : goal.returns-then-pass-clause-best
returns-then-pass-clause-best g t c = λ test says.
    let keys = c.args.keys.now in
    let winners = c.args.winners.now in
    let here = leaf_of keys winners c.requires.tree c.args.at c.requires.node.0 c.requires.node.1 in
    let w = c.node_of-winner.result in
    let inside : w.block < length keys = subst (λ n. n < length keys) (sym (ap (λ (v : Winner). v.block) (c.node_of-winner.ensures ∙ here.2))) here.1 in
    let passes : test w.block ≡ true = sym (says w.block c.pass.result inside c.pass.ensures) ∙ c.if-pass.true in
    let better = c.improves.ensures.better c.if-not-improves.false in
    subst (λ (v : Winner). IsBestBelow test keys c.args.at c.args.best (Some v)) (sym c.node_of-winner.ensures)
    (takes keys winners c.requires.tree test c.args.at c.requires.node.0 c.requires.node.1 c.args.best
    (subst (λ (v : Winner). test v.block ≡ true) c.node_of-winner.ensures passes) (subst (λ (v : Winner). IsSome v.key) c.node_of-winner.ensures better.0)
    (subst (λ (v : Winner). (other : Winner) → c.args.best ≡ Some other → IsAhead v other) c.node_of-winner.ensures better.1))

pub returns-then-at-keys-clause-best : goal.returns-then-at-keys-clause-best
returns-then-at-keys-clause-best g t c = λ test says.
    let keys = c.args.keys.now in
    let winners = c.args.winners.now in
    let here = leaf_of keys winners c.requires.tree c.args.at c.requires.node.0 c.requires.node.1 in
    let w = c.node_of-winner.result in
    let inside : w.block < length keys = subst (λ n. n < length keys) (sym (ap (λ (v : Winner). v.block) (c.node_of-winner.ensures ∙ here.2))) here.1 in
    let fails : test w.block ≡ false = sym (says w.block c.pass.result inside c.pass.ensures) ∙ c.if-pass.false in
    ends keys winners c.requires.tree test c.args.at c.requires.node.0 c.requires.node.1 c.args.best c.if-at-keys.true
    (subst (λ (v : Winner). test v.block ≡ false) c.node_of-winner.ensures fails)

pub returns-clause-best : goal.returns-clause-best
returns-clause-best g t c = λ test says.
    both c.args.keys.now c.args.winners.now c.requires.tree test c.args.at c.requires.node.0 c.requires.node.1 c.args.best c.if-at-keys.false
    c.best_below-left.result c.best_below.result (c.best_below-left.ensures.best test says) (c.best_below.ensures.best test says)
