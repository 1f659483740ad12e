use Rattle.std.proofs.Common.{◌≡◌, ◌∙◌, ◌^◌, ◌<◌, ℕ, length, take, ap, sym, subst, arith}
use Rattle.pb_packed.specs.Words.{number_of, AreWords}
use Rattle.pb_task.specs.Strips.{action_at, is_within}
use Rattle.pb_task.proofs.Callers.{held_by, taken}
use Rattle.pb_tables.specs.Images.{both}
use Rattle.pb_tables.proofs.AtomSets.{both_small}
use Rattle.pb_tables.proofs.effect.may_act.Goals as goal
use Rattle.pb_tables.proofs.effect.may_act.Goals.{Start}

-- the words that are looked at hold all that the action needs
needs_are : (c : Start) → number_of (take c.args.effect.now.width c.args.effect.now.needs) ≡ both c.args.strips.now.atoms (action_at c.args.strips.now.actions c.args.action).needs c.args.tracked.now
needs_are c =
    held_by 16 c.args.effect.now.width c.args.effect.now.needs c.requires.effect.needs_words c.requires.effect.needs_fit ∙ c.requires.effect.needs

pub is_within_words-requires-clause-small : goal.is_within_words-requires-clause-small
is_within_words-requires-clause-small c =
    let long : 16 ≡ length c.args.effect.now.needs = omega arith in
    taken c.args.effect.now.width c.args.effect.now.needs (subst (λ n. AreWords n c.args.effect.now.needs) long c.requires.effect.needs_words)

pub is_within_words-requires-clause-bits : goal.is_within_words-requires-clause-bits
is_within_words-requires-clause-bits c =
    subst (λ (n : ℕ). n < 2 ^ c.args.strips.now.atoms) (sym (needs_are (goal.at.is_within_words-requires-clause-bits c).Start))
    (both_small c.args.strips.now.atoms (action_at c.args.strips.now.actions c.args.action).needs c.args.tracked.now)

pub returns : goal.returns
returns c =
    c.is_within_words.ensures ∙ ap (λ (n : ℕ). is_within c.args.strips.now.atoms n (number_of c.args.image.now)) (needs_are (goal.at.returns c).Start)
