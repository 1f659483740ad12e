-- The keyword of a section of a domain, where those before it do not stand.
use Rattle.std.proofs.Common.{◌≡◌, true, false, List, Err, ◌∙◌}
use Rattle.std.proofs.lemmas.Bool.{cond-true, cond-false}
use Rattle.std.specs.Prelude.{codes}
use Rattle.pb_pddl.specs.declared.token.TokenKind.TheVariants as kinds
use Rattle.pb_pddl.specs.declared.token.Token.{Token}
use Rattle.pb_pddl.specs.declared.parts.DomainParts.{DomainParts}
use Rattle.pb_pddl.specs.Reading.{spells, limited, action_section, no_section, domain_key}

module _ (d : DomainParts) (ts : List Token) (n0 : spells kinds.Key (codes ":requirements") ts ≡ false) (n1 : spells kinds.Key (codes ":types") ts ≡ false)
    (n2 : spells kinds.Key (codes ":constants") ts ≡ false) (n3 : spells kinds.Key (codes ":predicates") ts ≡ false) (n4 : spells kinds.Key (codes ":functions") ts ≡ false) where
  pub at_action : spells kinds.Key (codes ":action") ts ≡ true → domain_key limited d ts ≡ action_section limited d ts
  unfolding domain_key
  at_action is =
      cond-false (spells kinds.Key (codes ":requirements") ts) _ _ n0
      ∙ cond-false (spells kinds.Key (codes ":types") ts) _ _ n1
      ∙ cond-false (spells kinds.Key (codes ":constants") ts) _ _ n2
      ∙ cond-false (spells kinds.Key (codes ":predicates") ts) _ _ n3
      ∙ cond-false (spells kinds.Key (codes ":functions") ts) _ _ n4
      ∙ cond-true (spells kinds.Key (codes ":action") ts) _ _ is

  pub at_none : spells kinds.Key (codes ":action") ts ≡ false → domain_key limited d ts ≡ Err (no_section ts)
  unfolding domain_key
  at_none is =
      cond-false (spells kinds.Key (codes ":requirements") ts) _ _ n0
      ∙ cond-false (spells kinds.Key (codes ":types") ts) _ _ n1
      ∙ cond-false (spells kinds.Key (codes ":constants") ts) _ _ n2
      ∙ cond-false (spells kinds.Key (codes ":predicates") ts) _ _ n3
      ∙ cond-false (spells kinds.Key (codes ":functions") ts) _ _ n4
      ∙ cond-false (spells kinds.Key (codes ":action") ts) _ _ is
