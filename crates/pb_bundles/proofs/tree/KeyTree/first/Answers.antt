use Rattle.std.proofs.Common.{◌<◌, List, Option, None, length, subst, ◌∙◌}
use Rattle.pb_model.specs.declared.key.Key.{Key}
use Rattle.pb_bundles.specs.Tree.{IsBestBelow}
use Rattle.pb_bundles.proofs.Trees.{found_first, found_none}
use Rattle.pb_bundles.proofs.tree.KeyTree.first.Goals as goal

pub returns-in-Some : goal.returns-in-Some
returns-in-Some g c = λ test says.
    let keys = c.args.self.now in
    found_first keys test c.in-Some.winner (subst (IsBestBelow test keys 1 None) c.in-Some.is (subst (λ (ks : List (Option Key)). IsBestBelow test ks 1 None c.best_below.result) (c.deref.ensures.value ∙ c.self.view_is)
    (c.best_below.ensures.best test (λ block answer low post. says block answer (subst (λ (ks : List (Option Key)). block < length ks) (c.deref.ensures.value ∙ c.self.view_is) low) post))))

pub returns-in-None : goal.returns-in-None
returns-in-None g c = λ test says.
    let keys = c.args.self.now in
    found_none keys test (subst (IsBestBelow test keys 1 None) c.in-None.is (subst (λ (ks : List (Option Key)). IsBestBelow test ks 1 None c.best_below.result) (c.deref.ensures.value ∙ c.self.view_is)
    (c.best_below.ensures.best test (λ block answer low post. says block answer (subst (λ (ks : List (Option Key)). block < length ks) (c.deref.ensures.value ∙ c.self.view_is) low) post))))
