use Rattle.std.proofs.Common.{◌≡◌, ◌∷◌, ◌++◌, [], List, ℕ, not, is_some, sym, ap, ◌∙◌, length}
use Rattle.pb_lifted.specs.Names.{number_of, is_among}
use Rattle.pb_lifted.proofs.Numbering.{among_number, after_new, after_old}
use Rattle.pb_lifted.proofs.names.Names.enter.Goals as goal
use Rattle.pb_lifted.proofs.names.Names.enter.Goals.{then-fresh+in_ok-key+in_ok-insert, else-fresh}

is_known : (c : goal.In_ok-push) → c.contains_key-fresh.result ≡ is_among c.args.text.now c.self.inside.texts.items
is_known c =
    let names = c.self.inside.texts.items in
    c.contains_key-fresh.ensures ∙ ap is_some (c.self.invariant c.as_slice.result.now ∙ ap (λ t. number_of t names) c.as_slice.ensures) ∙ sym (among_number c.args.text.now names)

is_added : (c : goal.In_ok-push) → c.if-fresh.self-inside.texts.items ≡ c.reserve.new.self.items → c.push.new.self.items ≡ c.self.inside.texts.items ++ c.args.text.now ∷ []
is_added c same =
    c.in_ok-push.ensures.items ∙ ap (λ (ts : List (List ℕ)). ts ++ c.in_ok-copy.copy ∷ []) (same ∙ c.in_ok-reserve.ensures.items)
    ∙ ap (λ t. c.self.inside.texts.items ++ t ∷ []) c.in_ok-copy.ensures

pub invariant_of-self-2 : goal.invariant_of-self-2
invariant_of-self-2 c = elim c.if-fresh.branch [
  | then-fresh+in_ok-key+in_ok-insert w ↦
      after_new c.self.inside.numbers c.if-fresh.self-inside.numbers c.self.inside.texts.items c.push.new.self.items w.in_ok-key.key (length w.as_slice-then-fresh-2.result.now) c.args.text.now c.self.invariant
      (ap (λ s. s.numbers.entries) w.self-inside-is ∙ w.in_ok-insert.ensures.entries) (w.in_ok-key.ensures.items ∙ w.as_slice-then-fresh.ensures) (ap length (w.as_slice-then-fresh-2.ensures.value ∙ c.in_ok-reserve.ensures.items)) (ap not (sym (is_known c) ∙ w.if-fresh.true)) (is_added c (ap (λ s. s.texts.items) w.self-inside-is))
  | else-fresh w ↦
      after_old c.self.inside.numbers c.if-fresh.self-inside.numbers c.self.inside.texts.items c.push.new.self.items c.args.text.now c.self.invariant
      (ap (λ s. s.numbers) w.self-inside-is) (ap not (sym (is_known c) ∙ w.if-fresh.false)) (is_added c (ap (λ s. s.texts.items) w.self-inside-is))
]

pub returns-clause-fresh : goal.returns-clause-fresh
returns-clause-fresh c = ap not (is_known c ∙ ap (λ ts. is_among c.args.text.now ts) c.self.view_is)
