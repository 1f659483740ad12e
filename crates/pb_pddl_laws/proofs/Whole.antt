-- What is read of a text, and what it spells.
use Rattle.std.proofs.Common.{◌≡◌, ◌≢◌, ℕ, List, Result, Ok, Err, sym, subst, ◌∙◌}
use Rattle.std.specs.Prelude.{IfOk, IfErr}
use Rattle.pb_pddl.specs.declared.token.Token.{Token}
use Rattle.pb_pddl.specs.declared.tree.Domain.{Domain}
use Rattle.pb_pddl.specs.declared.tree.Problem.{Problem}
use Rattle.pb_pddl.specs.declared.error.SyntaxError.{SyntaxError}
use Rattle.pb_pddl.specs.declared.error.SyntaxError.TheVariants as errors
use Rattle.pb_pddl.specs.Tokens.{TextTokens}
use Rattle.pb_pddl.specs.Reading.{Gives, domain_at, problem_at, unlimited}
use Rattle.pb_pddl.specs.Places.{IsFault}
use Rattle.pb_pddl.specs.Readings.{domain_reading, problem_reading}
use Rattle.pb_pddl.specs.Trees.{IsRead, FirstFault, SpellsDomain, SpellsProblem}
use Rattle.pb_pddl_laws.specs.Table.{Symbol, IsTold, ToldFault}
use Rattle.pb_pddl_laws.proofs.FormsRead.{domain_again, problem_again}
use Rattle.pb_pddl_laws.proofs.TokensOf.{tokens_are_unique}

abbrev fails : {X : Type 0} → SyntaxError → Result X SyntaxError
fails e = Err e

err_ok : {X : Type 0} (e : SyntaxError) (x : X) → Ok x ≡ fails e → ⊥
err_ok e x clash = cc

-- what a text spells is read of it
pub domain_is_read : (text : List ℕ) (domain : Domain) → SpellsDomain text domain → domain_reading text ≡ Ok domain
unfolding domain_reading
domain_is_read text domain (ts, are, is) = subst (λ (us : List Token). domain_at unlimited us ≡ Ok domain) (tokens_are_unique text ts are) (domain_again ts domain is)

pub problem_is_read : (text : List ℕ) (problem : Problem) → SpellsProblem text problem → problem_reading text ≡ Ok problem
unfolding problem_reading
problem_is_read text problem (ts, are, is) = subst (λ (us : List Token). problem_at unlimited us ≡ Ok problem) (tokens_are_unique text ts are) (problem_again ts problem is)

module _ {X : Type 0} (reading : List Token → Result X SyntaxError) (Is : List Token → X → Type 0) (text : List ℕ) where
  abbrev Spelled : X → Type 0
  Spelled x = (ts : List Token) × TextTokens text ts × Is ts x

  pub found : (r : Result X SyntaxError) → ((ts : List Token) (x : X) → reading ts ≡ Ok x → Is ts x) → IsRead reading text r → IfOk r (λ x. (ts : List Token) × TextTokens text ts × Is ts x)
  found (Ok x) sound (ts, are, e) = (ts, are, sound ts x e)
  found (Err e) sound is = tt

  pub only : (r : Result X SyntaxError) → ((ts : List Token) (x : X) → Is ts x → reading ts ≡ Ok x) → ((ts : List Token) → TextTokens text ts → Gives (λ y. y) r (reading ts))
      → (x : X) → (ts : List Token) × TextTokens text ts × Is ts x → Gives (λ y. y) r (Ok x)
  only r complete all x (ts, are, is) = subst (λ (q : Result X SyntaxError). Gives (λ y. y) r q) (complete ts x is) (all ts are)

  pub none : (r : Result X SyntaxError) → ((ts : List Token) (x : X) → Is ts x → reading ts ≡ Ok x) → ((ts : List Token) → TextTokens text ts → Gives (λ y. y) r (reading ts))
      → IfErr r (λ e. e ≢ errors.Memory → (x : X) → (ts : List Token) × TextTokens text ts × Is ts x → ⊥)
  none (Ok y) complete all = tt
  none (Err e) complete all = λ some x spelled. err_ok e x (sym (complete spelled.0 x spelled.2) ∙ all spelled.0 spelled.1 some)

  pub first : (r : Result X SyntaxError) → ((ts : List Token) (e : SyntaxError) → reading ts ≡ Err e → IsFault X Is ts e) → IsRead reading text r → IfErr r (λ e. e ≢ errors.Memory → FirstFault X Is text e)
  first (Ok x) fault is = tt
  first (Err e) fault is = λ some. let u = is some in (u.0, u.1, fault u.0 e u.2)

  pub told : (whole : List Symbol) (r : Result X SyntaxError) → ((ts : List Token) (e : SyntaxError) → reading ts ≡ Err e → IsTold X Is whole ts e) → IsRead reading text r → IfErr r (λ e. e ≢ errors.Memory → ToldFault X Is whole text e)
  told whole (Ok x) tells is = tt
  told whole (Err e) tells is = λ some. let u = is some in (u.0, u.1, tells u.0 e u.2)

  pub fault : (whole : List Symbol) (r : Result X SyntaxError) → ((ts : List Token) (e : SyntaxError) → IsTold X Is whole ts e → reading ts ≡ Err e) → ((ts : List Token) → TextTokens text ts → Gives (λ y. y) r (reading ts))
      → (e : SyntaxError) → ToldFault X Is whole text e → Gives (λ y. y) r (Err e)
  fault whole r read all e (ts, are, is) = subst (λ (q : Result X SyntaxError). Gives (λ y. y) r q) (read ts e is) (all ts are)
