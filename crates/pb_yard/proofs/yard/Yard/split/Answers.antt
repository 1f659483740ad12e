use Rattle.std.proofs.Common.{◌≡◌, ◌%◌, length, sym, ap, ◌∙◌, subst, arith}
use Rattle.pb_turn.specs.Passes.{view}
use Rattle.pb_machine.specs.Settings.{AreInRange}
use Rattle.pb_yard.specs.declared.view.View.{View}
use Rattle.pb_yard.proofs.Passing.{split_keeps}
use Rattle.pb_yard.proofs.yard.Yard.split.Goals as goal

pub split-turn-requires-clause-rule : goal.split-turn-requires-clause-rule
split-turn-requires-clause-rule c = let p = c.args.pass.now in split_keeps _ _ p.is_live (p.worker_is ∙ c.requires.first) c.requires.more

pub invariant_of-result : goal.invariant_of-result
invariant_of-result c =
    let p = c.args.pass.now in
    let v = view p.turn in
    let is = c.split-turn.ensures.given.2 in
    let range = p.in_range.workers.1 in
    let more = c.requires.more in
    let counted = p.made_is in
    let some = p.counts c.requires.first in
    let made : v.journal.made ≡ p.made = omega arith in
    record {
      is_live = ap (λ (u : View). u.journal.is_live) is;
      worker_is = ap (λ (u : View). u.journal.own.worker) is ∙ made;
      made_is = ap (λ (u : View). u.journal.made % 4294967296) (sym is);
      seen_is = ap (λ (u : View). length u.journal.seen) is ∙ p.seen_is;
      last_is = ap (λ (u : View). u.last) is ∙ p.first_is;
      first_is = ap (λ (u : View). u.begin.incumbent) is ∙ p.first_is;
      in_range = subst (λ (u : View). AreInRange u.settings) (sym is) p.in_range;
      counts = λ none. absurd (omega arith);
      has_parts = λ none. absurd (omega arith);
      rests = c.split-turn.ensures.given.1;
    }
