use Rattle.std.proofs.Common.{◌≡◌, ℕ, ◌≤◌, ◌⊎◌, inl, inr, subst, sym, ap, ◌∙◌}
use Rattle.std.proofs.lemmas.List.{get_or_read}
use Rattle.pb_estimate.specs.declared.exploration.AtomCost.{AtomCost}
use Rattle.pb_estimate.specs.declared.exploration.AtomCost.TheVariants.{Unreached, Open, Final}
use Rattle.pb_estimate.specs.Hmax.{IsAtMost}
use Rattle.pb_estimate.specs.Exploring.{known_in, known_cost, final_cost}
use Rattle.pb_estimate.proofs.Lowered.{lowered_none}
use Rattle.pb_estimate.proofs.exploration.Exploration.lower.Goals as goal

pub returns-then-is_no_more-clause-lowered : goal.returns-then-is_no_more-clause-lowered
returns-then-is_no_more-clause-lowered c =
    let costs = c.args.self.now.costs.items in
    let read : known_in costs c.args.atom ≡ c.index.result.now = sym (get_or_read costs c.args.atom c.index.result.now c.requires.inside c.index.ensures Unreached) in
    lowered_none costs c.args.atom c.args.cost c.requires.inside (go read (c.is_no_more.ensures c.if-is_no_more.true)) where
      go : known_in c.args.self.now.costs.items c.args.atom ≡ c.index.result.now
          → ((known : ℕ) × (c.index.result.now ≡ Final known)) ⊎ ((known : ℕ) × (c.index.result.now ≡ Open known) × (known ≤ c.args.cost))
          → IsAtMost (known_cost (known_in c.args.self.now.costs.items c.args.atom)) c.args.cost
      go read (inl (known, e)) =
          subst (λ (k : AtomCost). IsAtMost (known_cost k) c.args.cost) (sym (read ∙ e)) (c.requires.finals c.args.atom known (ap final_cost (read ∙ e)))
      go read (inr (known, e, le)) = subst (λ (k : AtomCost). IsAtMost (known_cost k) c.args.cost) (sym (read ∙ e)) le
