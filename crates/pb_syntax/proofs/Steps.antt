-- Reading a form in larger steps gives the same.
use Rattle.std.proofs.Common.{◌≡◌, ℕ, List, [], ◌∷◌, ◌++◌, Option, Some, None, Result, Ok, Err, refl, ap, sym, ◌∙◌}
use Rattle.std.specs.Prelude.{codes}
use Rattle.pb_pddl.specs.declared.token.TokenKind.TheVariants as kinds
use Rattle.pb_pddl.specs.declared.token.Token.{Token}
use Rattle.pb_pddl.specs.declared.error.SyntaxError.{SyntaxError}
use Rattle.pb_pddl.specs.declared.error.Want.TheVariants as wants
use Rattle.pb_pddl.specs.declared.tree.Name.{Name}
use Rattle.pb_pddl.specs.declared.tree.Action.{Action}
use Rattle.pb_pddl.specs.declared.tree.Atom.{Atom}
use Rattle.pb_pddl.specs.declared.tree.Problem.{Problem}
use Rattle.pb_pddl.specs.declared.parts.ActionParts.{ActionParts}
use Rattle.pb_pddl.specs.Reading.{◌>>=◌, all_of, begins_key, begins_open, need, need_word, name_at, part_at, parts_want, add_action, no_parts, title_at, domain_at, domain_section, no_domain, problem_at, problem_section, sections_want, no_problem, there, or_empty, end_at, limited}
use Rattle.pb_syntax.specs.Forms.{head_at, all_parts, action_of, whole_domain, domain_of, whole_problem, problem_of}

-- one step and then another
one_then : {A B C : Type 0} (m : Result A SyntaxError) (f : A → Result B SyntaxError) (g : B → Result C SyntaxError) → (m >>= λ a. f a >>= g) ≡ ((m >>= f) >>= g)
one_then (Ok a) f g = refl
one_then (Err e) f g = refl

-- the same below an earlier step
below : {A B : Type 0} (m : Result A SyntaxError) (f g : A → Result B SyntaxError) → ((a : A) → f a ≡ g a) → (m >>= f) ≡ (m >>= g)
below (Ok a) f g same = same a
below (Err e) f g same = refl

pub title_in_steps : (word : List ℕ) (ts : List Token) → title_at word ts
    ≡ (head_at word ts >>= λ d. name_at kinds.Word wants.Name d >>= λ name. need kinds.Close wants.Close name.1 >>= λ rest. Ok (name.0, rest))
unfolding title_at head_at
title_in_steps word ts =
    below (need kinds.Open wants.Paren ts) _ _ (λ a. below (need_word (codes "define") a) _ _ (λ b. one_then (need kinds.Open wants.Paren b) (λ c. need_word word c) _) ∙ one_then (need_word (codes "define") a) _ _)
    ∙ one_then (need kinds.Open wants.Paren ts) _ _

pub action_in_steps : (out : List Action) (ts : List Token) → add_action limited out ts
    ≡ (name_at kinds.Word wants.Name ts >>= λ name. all_parts no_parts name.1 >>= λ all. Ok (out ++ action_of name.0 all.0 ∷ [], all.1))
unfolding add_action all_parts
action_in_steps out ts =
    below (name_at kinds.Word wants.Name ts) _ _ (λ name.
    below (all_of begins_key (part_at limited) no_parts name.1) _ _ (λ all. one_then (need kinds.Close (parts_want all.0) all.1) (λ rest. Ok (all.0, rest)) _)
    ∙ one_then (all_of begins_key (part_at limited) no_parts name.1) _ _)

pub domain_in_steps : (ts : List Token) → domain_at limited ts ≡ (title_at (codes "domain") ts >>= λ name. whole_domain no_domain name.1 >>= λ d. Ok (domain_of name.0 d))
unfolding domain_at whole_domain
domain_in_steps ts =
    below (title_at (codes "domain") ts) _ _ (λ name.
    below (all_of begins_open (domain_section limited) no_domain name.1) _ _ (λ all.
    below (need kinds.Close wants.Paren all.1) _ _ (λ rest. one_then (end_at rest) (λ end. Ok all.0) (λ d. Ok (domain_of name.0 d))) ∙ one_then (need kinds.Close wants.Paren all.1) _ _)
    ∙ one_then (all_of begins_open (domain_section limited) no_domain name.1) _ _)

-- sections that are there are so at any later place
at_any_place : (domain : Option Name) (goal : Option (List Atom)) (last : List Token) (end : Result (List Token) SyntaxError) (f : Name → List Atom → Problem)
    → (there domain last >>= λ d. there goal last >>= λ g. end >>= λ e. Ok (f d g))
    ≡ (there domain last >>= λ d. there goal last >>= λ g. end >>= λ e. (there domain [] >>= λ d. there goal [] >>= λ g. Ok (f d g)))
unfolding there
at_any_place None goal last end f = refl
at_any_place (Some d) None last end f = refl
at_any_place (Some d) (Some g) last (Ok e) f = refl
at_any_place (Some d) (Some g) last (Err e) f = refl

pub problem_in_steps : (ts : List Token) → problem_at limited ts ≡ (title_at (codes "problem") ts >>= λ name. whole_problem no_problem name.1 >>= λ p. problem_of name.0 p [])
unfolding problem_at whole_problem problem_of
problem_in_steps ts =
    below (title_at (codes "problem") ts) _ _ (λ name.
    below (all_of begins_open (problem_section limited) no_problem name.1) _ _ (λ all.
    below (need kinds.Close (sections_want all.0) all.1) _ _ (λ rest.
    at_any_place all.0.domain all.0.goal all.1 (end_at rest) _
    ∙ below (there all.0.domain all.1) _ _ (λ d.
    below (there all.0.goal all.1) _ _ (λ g. one_then (end_at rest) (λ end. Ok all.0) (λ p. problem_of name.0 p [])) ∙ one_then (there all.0.goal all.1) _ _)
    ∙ one_then (there all.0.domain all.1) _ _)
    ∙ one_then (need kinds.Close (sections_want all.0) all.1) _ _)
    ∙ one_then (all_of begins_open (problem_section limited) no_problem name.1) _ _)
