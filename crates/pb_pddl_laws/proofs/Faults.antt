-- Whole forms: the first token that can't go on.
use Rattle.std.proofs.Common.{◌≡◌, ℕ, Bool, true, false, cond, List, [], ◌∷◌, ◌++◌, length, Result, Ok, Err, refl, sym, ap, subst, ◌∙◌, arith, inl, inr, Some, None, true≢false, append-nil}
use Rattle.std.proofs.lemmas.Bool.{false_from_ne_true}
use Rattle.std.proofs.lemmas.List.{append_assoc}
use Rattle.std.specs.Prelude.{codes}
use Rattle.std.specs.Str.{bytes_eq}
use Rattle.pb_pddl.specs.declared.token.TokenKind.TheVariants as kinds
use Rattle.pb_pddl.specs.declared.token.Token.{Token}
use Rattle.pb_pddl.specs.declared.tree.Name.{Name}
use Rattle.pb_pddl.specs.declared.tree.Atom.{Atom}
use Rattle.pb_pddl.specs.declared.tree.Domain.{Domain}
use Rattle.pb_pddl.specs.declared.tree.Problem.{Problem}
use Rattle.pb_pddl.specs.declared.parts.DomainParts.{DomainParts}
use Rattle.pb_pddl.specs.declared.parts.ProblemParts.{ProblemParts}
use Rattle.pb_pddl.specs.declared.error.SyntaxError.{SyntaxError}
use Rattle.pb_pddl.specs.declared.error.SyntaxError.TheVariants as errors
use Rattle.pb_pddl.specs.declared.error.Want.TheVariants as wants
use Rattle.pb_pddl.specs.Reading.{◌>>=◌, Read, kind_number, same_kind, front, begins, begins_open, need, all_of, title_at, end_at, unlimited, or_empty, domain_section, no_domain, domain_at, problem_section, no_problem, sections_want, there, problem_at}
use Rattle.pb_pddl.specs.Places
use Rattle.pb_pddl.specs.Places.{Place, fits, is_kind, sample, refused_token, refused, Begins, IsFault}
use Rattle.pb_pddl.specs.Grammar.{IsDomain, IsProblem}
use Rattle.pb_pddl_laws.proofs.CondsRead.{if_true}
use Rattle.pb_pddl_laws.proofs.Readers.{failed, err_ok, bind_err, Stops}
use Rattle.pb_pddl_laws.proofs.FormsRead.{domain_is, domain_again, problem_is, problem_again}
use Rattle.pb_pddl_laws.specs.Table
use Rattle.pb_pddl_laws.specs.Table.{Symbol, place_of, after, Leads, IsWhole, place_due, IsTold, domain_form, problem_form}
use Rattle.pb_pddl_laws.proofs.Following.{nothing, seen, misfit, leads_misfit}
use Rattle.pb_pddl_laws.proofs.Ends.{outcome, outcome_err, outcome_ok, whole_of, whole_misfit, due_stuck, due_fits, leading, only_end, ends_not}
use Rattle.pb_pddl_laws.proofs.Singles.{bind_bind}
use Rattle.pb_pddl_laws.proofs.Agreeing.{Agrees, agrees_then, agrees_more}
use Rattle.pb_pddl_laws.proofs.Refusals.{agrees_open, agrees_word, agrees_name, agrees_closed_value}
use Rattle.pb_pddl_laws.proofs.DomainPlaces.{domain_sections, agrees_domain_sections}
use Rattle.pb_pddl_laws.proofs.ProblemPlaces.{sections_end, problem_sections, agrees_problem_sections}

-- ---- ( define ( WORD NAME )

module _ (word : List ℕ) (same : bytes_eq word word ≡ true) where
  abbrev title_due : List Symbol
  title_due = Table.Opening ∷ Table.ThisWord (codes "define") ∷ Table.Opening ∷ Table.ThisWord word ∷ Table.AnyName ∷ Table.Closing ∷ []

  pub agrees_title : Agrees Name (title_at word) nothing title_due
  unfolding title_at
  agrees_title = agrees_open (agrees_word (codes "define") refl (agrees_open (agrees_word word same (agrees_name (λ name ts. need kinds.Close wants.Close ts >>= λ rest. Ok (name, rest)) agrees_closed_value))))

-- ---- what is read, with nothing behind it

module _ {X : Type 0} (body : List Token → Read X) (form : List Symbol) (agrees : Agrees X body nothing form) where
  abbrev pub whole : List Token → Result X SyntaxError
  whole ts = body ts >>= λ p. (end_at p.1 >>= λ e. Ok p.0)

  the_end : Token
  the_end = sample kinds.End

  -- behind these tokens, the form is refused at each token that does not fit, and goes on with each that does
  pub record Halts (before : List Token) (place : Place) : Type 0 where
    pub refuses : (after : List Token) → fits place (front after) ≡ false → whole (before ++ after) ≡ Err (refused place (front after))
    pub goes_on : (t : Token) → fits place t ≡ true → (us : List Token) × (x : X) × (whole (before ++ t ∷ us) ≡ Ok x)
    pub lives : (us : List Token) × (x : X) × (whole (before ++ us) ≡ Ok x)

  end_fits : (ts : List Token) → is_kind kinds.End (front ts) ≡ true → end_at ts ≡ Ok ts
  unfolding end_at begins
  end_fits ts e = if_true (is_kind kinds.End (front ts)) _ _ e

  the_end_fits : (rest : List Token) → is_kind kinds.End (front (the_end ∷ rest)) ≡ true
  unfolding front the_end same_kind kind_number
  the_end_fits rest = refl

  ends_whole : (ts : List Token) (x : X) → body ts ≡ Ok (x, the_end ∷ []) → whole ts ≡ Ok x
  ends_whole ts x e = ap (λ r. r >>= λ p. (end_at p.1 >>= λ q. Ok p.0)) e ∙ ap (λ (r : Result (List Token) SyntaxError). r >>= λ q. Ok x) (end_fits (the_end ∷ []) (the_end_fits []))

  halts_inside : (before : List Token) (place : Place) → Stops X body before place → Halts before place
  halts_inside before place s = record {
    refuses = λ after misfit. ap (λ r. r >>= λ p. (end_at p.1 >>= λ q. Ok p.0)) (s.refuses after misfit);
    goes_on = λ t fit. let u = s.goes_on t fit in (u.0 ++ the_end ∷ [], u.1, ends_whole (before ++ t ∷ (u.0 ++ the_end ∷ [])) u.1 (u.2 (the_end ∷ [])));
    lives = (s.lives.0 ++ the_end ∷ [], s.lives.1, ends_whole (before ++ (s.lives.0 ++ the_end ∷ [])) s.lives.1 (s.lives.2 (the_end ∷ [])));
  }

  -- the errors behind the whole form
  end_refused : (ts : List Token) → fits Places.TheEnd (front ts) ≡ false → end_at ts ≡ Err (refused Places.TheEnd (front ts))
  unfolding end_at begins fits refused refused_token same_kind kind_number
  end_refused ts misfit = by_kind (front ts) misfit where
    by_kind : (t : Token) → same_kind t.kind kinds.End ≡ false
        → cond (same_kind t.kind kinds.End) (Ok ts) (cond (same_kind t.kind kinds.Byte) (Err (errors.Byte t.at)) (cond (same_kind t.kind kinds.Deep) (Err (errors.Deep t.at)) (Err (errors.Extra t.at)))) ≡ Err (refused Places.TheEnd t)
    by_kind t other = elim t.kind as (λ k. same_kind k kinds.End ≡ false
        → cond (same_kind k kinds.End) (Ok ts) (cond (same_kind k kinds.Byte) (Err (errors.Byte t.at)) (cond (same_kind k kinds.Deep) (Err (errors.Deep t.at)) (Err (errors.Extra t.at))))
        ≡ Err (elim k as (λ _. SyntaxError) [ kinds.Byte ↦ errors.Byte t.at | kinds.Deep ↦ errors.Deep t.at | kinds.End ↦ errors.Unclosed t.at | _ ↦ errors.Extra t.at ])) [
          | kinds.Open ↦ λ e. refl
          | kinds.Close ↦ λ e. refl
          | kinds.Equals ↦ λ e. refl
          | kinds.Dash ↦ λ e. refl
          | kinds.Word ↦ λ e. refl
          | kinds.Variable ↦ λ e. refl
          | kinds.Key ↦ λ e. refl
          | kinds.Deep ↦ λ e. refl
          | kinds.Byte ↦ λ e. refl
          | kinds.End ↦ λ e. absurd (true≢false e)
        ] other

  fits_end : (t : Token) (us : List Token) → fits Places.TheEnd t ≡ true → is_kind kinds.End (front (t ∷ us)) ≡ true
  unfolding fits front
  fits_end t us e = e

  halts_behind : (used : List Token) (x : X) → ((more : List Token) → body (used ++ more) ≡ Ok (x, more)) → Halts used Places.TheEnd
  halts_behind used x frame = record {
    refuses = λ after misfit. ap (λ r. r >>= λ p. (end_at p.1 >>= λ q. Ok p.0)) (frame after) ∙ ap (λ (r : Result (List Token) SyntaxError). r >>= λ q. Ok x) (end_refused after misfit);
    goes_on = λ t fit. ([], x, ap (λ r. r >>= λ p. (end_at p.1 >>= λ q. Ok p.0)) (frame (t ∷ [])) ∙ ap (λ (r : Result (List Token) SyntaxError). r >>= λ q. Ok x) (end_fits (t ∷ []) (fits_end t [] fit)));
    lives = (the_end ∷ [], x, ends_whole (used ++ the_end ∷ []) x (frame (the_end ∷ [])));
  }

  end_fault : (ts : List Token) (x : X) (e : SyntaxError) → (end_at ts >>= λ q. Ok x) ≡ Err e → fits Places.TheEnd (front ts) ≡ false
  unfolding fits
  end_fault ts x e err = false_from_ne_true (is_kind kinds.End (front ts)) (λ fit. err_ok e x (sym (ap (λ (r : Result (List Token) SyntaxError). r >>= λ q. Ok x) (end_fits ts fit)) ∙ err))

  pub whole_faults : (ts : List Token) (e : SyntaxError) → whole ts ≡ Err e
      → (before : List Token) × (after : List Token) × (place : Place) × (ts ≡ before ++ after) × (fits place (front after) ≡ false) × Halts before place
  whole_faults ts e err = elim (bind_err (body ts) (λ p. (end_at p.1 >>= λ q. Ok p.0)) e err) [
    | inl first ↦ let u = (agrees.reads (length ts)).faults ts e (omega arith) first in (u.0, u.1, u.2, u.3, u.4, halts_inside u.0 u.2 u.5)
    | inr (p, ok, second) ↦
        let a = (agrees.reads (length ts)).frames ts p.0 p.1 (omega arith) ok in
        (a.0, p.1, Places.TheEnd, a.1, end_fault p.1 p.0 e second, halts_behind a.0 p.0 a.2)
  ]

  refuses_one : (before : List Token) (place : Place) → Halts before place → (t : Token) (us : List Token) → fits place t ≡ false → whole (before ++ t ∷ us) ≡ Err (refused place t)
  unfolding front
  refuses_one before place h t us misfit = h.refuses (t ∷ us) misfit

  -- with what the grammar has
  pub fault_is : (Is : List Token → X → Type 0) → ((ts : List Token) (x : X) → whole ts ≡ Ok x → Is ts x) → ((ts : List Token) (x : X) → Is ts x → whole ts ≡ Ok x) → (ts : List Token) (e : SyntaxError) → whole ts ≡ Err e → IsFault X Is ts e
  fault_is Is sound complete ts e err =
      let u = whole_faults ts e err in
      let h = u.5 in
      record {
        before = u.0;
        after = u.1;
        place = u.2;
        split = u.3;
        begins = (h.lives.0, h.lives.1, sound (u.0 ++ h.lives.0) h.lives.1 h.lives.2);
        follows = λ t fit. let c = h.goes_on t fit in (c.0, c.1, subst (λ (us : List Token). Is us c.1) (sym (append_assoc u.0 (t ∷ []) c.0)) (sound (u.0 ++ t ∷ c.0) c.1 c.2));
        ends = λ t misfit begun.
            err_ok (refused u.2 t) begun.1
            (sym (complete ((u.0 ++ t ∷ []) ++ begun.0) begun.1 begun.2) ∙ ap whole (append_assoc u.0 (t ∷ []) begun.0) ∙ refuses_one u.0 u.2 h t begun.0 misfit);
        stuck = u.4;
        error = same_error e (refused u.2 (front u.1)) (sym err ∙ ap whole u.3 ∙ h.refuses u.1 u.4);
      } where
        same_error : (a b : SyntaxError) → failed {X = X} a ≡ failed b → a ≡ b
        same_error a b is = cc

  -- ---- beside the table

  is_end : (ts : List Token) → fits Places.TheEnd (front ts) ≡ true → is_kind kinds.End (front ts) ≡ true
  unfolding fits
  is_end ts e = e

  abbrev ending : X × List Token → Result X SyntaxError
  ending p = end_at p.1 >>= λ q. Ok p.0

  sees_end : (p : X × List Token) (v : Bool) → fits Places.TheEnd (front p.1) ≡ v → misfit [] p.1 ≡ outcome (ending p)
  sees_end p true e =
      ap (λ b. cond b None (Some (refused Places.TheEnd (front p.1)))) e ∙ sym (ap (λ (r : Result (List Token) SyntaxError). outcome {X = X} (r >>= λ q. Ok p.0)) (end_fits p.1 (is_end p.1 e)))
  sees_end p false e =
      ap (λ b. cond b None (Some (refused Places.TheEnd (front p.1)))) e ∙ sym (ap (λ (r : Result (List Token) SyntaxError). outcome {X = X} (r >>= λ q. Ok p.0)) (end_refused p.1 e))

  sees_read : (r : Read X) → seen nothing [] r ≡ outcome (r >>= ending)
  sees_read (Ok p) = sees_end p (fits Places.TheEnd (front p.1)) refl
  sees_read (Err e) = refl

  sees : (ts : List Token) → misfit form ts ≡ outcome (whole ts)
  sees ts = ap (λ (s : List Symbol). misfit s ts) (sym (append-nil form)) ∙ sym (agrees.does (length ts) [] ts (omega arith)) ∙ sees_read (body ts)

  -- what the table tells is read
  pub stuck_is_read : (before after : List Token) (due : List Symbol) → Leads form before due → fits (place_due due) (front after) ≡ false → whole (before ++ after) ≡ Err (refused (place_due due) (front after))
  stuck_is_read before after due leads stuck =
      outcome_err (whole (before ++ after)) (refused (place_due due) (front after)) (sym (sees (before ++ after)) ∙ leads_misfit form before due after leads ∙ due_stuck due after stuck)

  pub told_is_read : (Is : List Token → X → Type 0) (ts : List Token) (e : SyntaxError) → IsTold X Is form ts e → whole ts ≡ Err e
  told_is_read Is ts e t = ap whole t.split ∙ stuck_is_read t.before t.after t.due t.leads t.stuck ∙ ap (λ (d : SyntaxError). Err d) (sym t.error)

  -- the whole forms of the table are those that are read
  pub whole_is : (Is : List Token → X → Type 0) → ((ts : List Token) (x : X) → whole ts ≡ Ok x → Is ts x) → (ts : List Token) → IsWhole form ts → (x : X) × Is ts x
  whole_is Is sound ts w = let o = outcome_ok (whole ts) (sym (sees ts) ∙ whole_misfit form ts w) in (o.0, sound ts o.0 o.1)

  pub is_whole : (Is : List Token → X → Type 0) → ((ts : List Token) (x : X) → Is ts x → whole ts ≡ Ok x) → (ts : List Token) (x : X) → Is ts x → IsWhole form ts
  is_whole Is complete ts x is = whole_of form ts (sees ts ∙ ap outcome (complete ts x is))

  -- a token that the place refuses does not fit what is due
  not_due : (before : List Token) (place : Place) → Halts before place → (due : List Symbol) → Leads form before due → (t : Token) → fits place t ≡ false → fits (place_due due) t ≡ true → ⊥
  not_due before place h due leads t misfits fit = only_end due t (refused place t) fit (λ us. sym (leads_misfit form before due (t ∷ us) leads) ∙ sees (before ++ t ∷ us) ∙ ap outcome (refuses_one before place h t us misfits)) (λ n is. refused_end n is)
    where
      refused_end : (n : ℕ) → refused place t ≡ errors.Unclosed n → is_kind kinds.End t ≡ true
      refused_end n is = ends_not place t n is

  same_fit : (before : List Token) (place : Place) → Halts before place → (due : List Symbol) → Leads form before due → (t : Token) (v : Bool) → fits place t ≡ v → fits (place_due due) t ≡ v
  same_fit before place h due leads t true fit =
      let c = h.goes_on t fit in due_fits due t c.0 (sym (leads_misfit form before due (t ∷ c.0) leads) ∙ sees (before ++ t ∷ c.0) ∙ ap outcome c.2)
  same_fit before place h due leads t false misfits = false_from_ne_true (fits (place_due due) t) (λ fit. not_due before place h due leads t misfits fit)

  pub told_fault : (Is : List Token → X → Type 0) → ((ts : List Token) (x : X) → whole ts ≡ Ok x → Is ts x) → ((ts : List Token) (x : X) → Is ts x → whole ts ≡ Ok x) → (ts : List Token) (e : SyntaxError) → whole ts ≡ Err e → IsTold X Is form ts e
  told_fault Is sound complete ts e err =
      let u = whole_faults ts e err in
      let h = u.5 in
      let l = leading form u.0 h.lives.0 u.1 e (sees (u.0 ++ h.lives.0) ∙ ap outcome h.lives.2) (sees (u.0 ++ u.1) ∙ ap outcome (ap whole (sym u.3) ∙ err)) in
      let same : (t : Token) → fits (place_due l.0) t ≡ fits u.2 t = λ t. same_fit u.0 u.2 h l.0 l.1 t (fits u.2 t) refl in
      let stuck : fits (place_due l.0) (front u.1) ≡ false = same (front u.1) ∙ u.4 in
      record {
        before = u.0;
        after = u.1;
        due = l.0;
        split = u.3;
        leads = l.1;
        begins = (h.lives.0, h.lives.1, sound (u.0 ++ h.lives.0) h.lives.1 h.lives.2);
        follows = λ t fit.
            let c = h.goes_on t (sym (same t) ∙ fit) in (c.0, c.1, subst (λ (us : List Token). Is us c.1) (sym (append_assoc u.0 (t ∷ []) c.0)) (sound (u.0 ++ t ∷ c.0) c.1 c.2));
        ends = λ t misfits begun.
            err_ok (refused u.2 t) begun.1
            (sym (complete ((u.0 ++ t ∷ []) ++ begun.0) begun.1 begun.2) ∙ ap whole (append_assoc u.0 (t ∷ []) begun.0) ∙ refuses_one u.0 u.2 h t begun.0 (sym (same t) ∙ misfits));
        stuck = stuck;
        error = equal e (refused (place_due l.0) (front u.1)) (sym err ∙ ap whole u.3 ∙ stuck_is_read u.0 u.1 l.0 l.1 stuck);
      } where
        equal : (a b : SyntaxError) → failed {X = X} a ≡ failed b → a ≡ b
        equal a b is = cc

-- ---- domains and problems

bind_same : {A B : Type 0} (r : Result A SyntaxError) (f g : A → Result B SyntaxError) → ((x : A) → f x ≡ g x) → (r >>= f) ≡ (r >>= g)
bind_same (Ok x) f g same = same x
bind_same (Err e) f g same = refl

abbrev domain_of : Name → DomainParts → Domain
domain_of name all = record { name = name; types = or_empty all.types; constants = or_empty all.constants; predicates = or_empty all.predicates; actions = all.actions; has_cost = all.has_cost }

abbrev domain_body : List Token → Read Domain
domain_body ts = title_at (codes "domain") ts >>= λ p. domain_sections (domain_of p.0) no_domain p.1

agrees_domain : Agrees Domain domain_body nothing domain_form
agrees_domain = agrees_then (λ name. domain_sections (domain_of name) no_domain) (agrees_more (Table.DomainSections no_domain ∷ []) (agrees_title (codes "domain") refl)) (λ name. agrees_domain_sections (domain_of name) no_domain)

domain_whole : (ts : List Token) → domain_at unlimited ts ≡ whole domain_body domain_form agrees_domain ts
unfolding domain_at
domain_whole ts =
    bind_same (title_at (codes "domain") ts) _ _ (λ name.
    bind_same (all_of begins_open (domain_section unlimited) no_domain name.1) _ _ (λ all. sym (bind_bind (need kinds.Close wants.Paren all.1) (λ rest. Ok (domain_of name.0 all.0, rest)) (λ p. end_at p.1 >>= λ e. Ok p.0)))
    ∙ sym (bind_bind (all_of begins_open (domain_section unlimited) no_domain name.1) (λ all. need kinds.Close wants.Paren all.1 >>= λ rest. Ok (domain_of name.0 all.0, rest)) (λ p. end_at p.1 >>= λ e. Ok p.0)))
    ∙ sym (bind_bind (title_at (codes "domain") ts) (λ p. domain_sections (domain_of p.0) no_domain p.1) (λ p. end_at p.1 >>= λ e. Ok p.0))

pub domain_fault : (ts : List Token) (e : SyntaxError) → domain_at unlimited ts ≡ Err e → IsFault Domain IsDomain ts e
domain_fault ts e err =
    fault_is domain_body domain_form agrees_domain IsDomain (λ us x is. domain_is us x (domain_whole us ∙ is)) (λ us x is. sym (domain_whole us) ∙ domain_again us x is) ts e (sym (domain_whole ts) ∙ err)

pub domain_told : (ts : List Token) (e : SyntaxError) → domain_at unlimited ts ≡ Err e → IsTold Domain IsDomain domain_form ts e
domain_told ts e err =
    told_fault domain_body domain_form agrees_domain IsDomain (λ us x is. domain_is us x (domain_whole us ∙ is)) (λ us x is. sym (domain_whole us) ∙ domain_again us x is) ts e (sym (domain_whole ts) ∙ err)

pub domain_table : (ts : List Token) → IsWhole domain_form ts → (x : Domain) × IsDomain ts x
domain_table = whole_is domain_body domain_form agrees_domain IsDomain (λ us x is. domain_is us x (domain_whole us ∙ is))

pub domain_in_table : (ts : List Token) (x : Domain) → IsDomain ts x → IsWhole domain_form ts
domain_in_table = is_whole domain_body domain_form agrees_domain IsDomain (λ us x is. sym (domain_whole us) ∙ domain_again us x is)

pub told_domain : (ts : List Token) (e : SyntaxError) → IsTold Domain IsDomain domain_form ts e → domain_at unlimited ts ≡ Err e
told_domain ts e told = domain_whole ts ∙ told_is_read domain_body domain_form agrees_domain IsDomain ts e told

abbrev problem_of : Name → ProblemParts → Name → List Atom → Problem
problem_of name all domain goal = record { name = name; domain = domain; objects = or_empty all.objects; init = or_empty all.init; goal = goal; costs = all.costs; metric = all.metric }

abbrev problem_body : List Token → Read Problem
problem_body ts = title_at (codes "problem") ts >>= λ p. problem_sections (problem_of p.0) no_problem p.1

agrees_problem : Agrees Problem problem_body nothing problem_form
agrees_problem = agrees_then (λ name. problem_sections (problem_of name) no_problem) (agrees_more (Table.ProblemSections no_problem ∷ []) (agrees_title (codes "problem") refl)) (λ name. agrees_problem_sections (problem_of name) no_problem)

abbrev finish : Problem × List Token → Result Problem SyntaxError
finish p = end_at p.1 >>= λ e. Ok p.0

problem_end : (name : Name) (s : ProblemParts) (ts : List Token)
    → (need kinds.Close (sections_want s) ts >>= λ rest. (there s.domain ts >>= λ domain. (there s.goal ts >>= λ goal. (end_at rest >>= λ e. Ok (problem_of name s domain goal))))) ≡ (sections_end (problem_of name) s ts >>= finish)
problem_end name s ts =
    bind_same (need kinds.Close (sections_want s) ts) _ _ (λ rest.
    bind_same (there s.domain ts) _ _ (λ domain. sym (bind_bind (there s.goal ts) (λ goal. Ok (problem_of name s domain goal, rest)) finish))
    ∙ sym (bind_bind (there s.domain ts) (λ domain. there s.goal ts >>= λ goal. Ok (problem_of name s domain goal, rest)) finish))
    ∙ sym (bind_bind (need kinds.Close (sections_want s) ts) (λ rest. there s.domain ts >>= λ domain. (there s.goal ts >>= λ goal. Ok (problem_of name s domain goal, rest))) finish)

problem_whole : (ts : List Token) → problem_at unlimited ts ≡ whole problem_body problem_form agrees_problem ts
unfolding problem_at
problem_whole ts =
    bind_same (title_at (codes "problem") ts) _ _ (λ name.
    bind_same (all_of begins_open (problem_section unlimited) no_problem name.1) _ _ (λ all. problem_end name.0 all.0 all.1)
    ∙ sym (bind_bind (all_of begins_open (problem_section unlimited) no_problem name.1) (λ all. sections_end (problem_of name.0) all.0 all.1) finish))
    ∙ sym (bind_bind (title_at (codes "problem") ts) (λ p. problem_sections (problem_of p.0) no_problem p.1) finish)

pub problem_fault : (ts : List Token) (e : SyntaxError) → problem_at unlimited ts ≡ Err e → IsFault Problem IsProblem ts e
problem_fault ts e err =
    fault_is problem_body problem_form agrees_problem IsProblem (λ us x is. problem_is us x (problem_whole us ∙ is)) (λ us x is. sym (problem_whole us) ∙ problem_again us x is) ts e (sym (problem_whole ts) ∙ err)

pub problem_told : (ts : List Token) (e : SyntaxError) → problem_at unlimited ts ≡ Err e → IsTold Problem IsProblem problem_form ts e
problem_told ts e err =
    told_fault problem_body problem_form agrees_problem IsProblem (λ us x is. problem_is us x (problem_whole us ∙ is)) (λ us x is. sym (problem_whole us) ∙ problem_again us x is) ts e (sym (problem_whole ts) ∙ err)

pub problem_table : (ts : List Token) → IsWhole problem_form ts → (x : Problem) × IsProblem ts x
problem_table = whole_is problem_body problem_form agrees_problem IsProblem (λ us x is. problem_is us x (problem_whole us ∙ is))

pub problem_in_table : (ts : List Token) (x : Problem) → IsProblem ts x → IsWhole problem_form ts
problem_in_table = is_whole problem_body problem_form agrees_problem IsProblem (λ us x is. sym (problem_whole us) ∙ problem_again us x is)

pub told_problem : (ts : List Token) (e : SyntaxError) → IsTold Problem IsProblem problem_form ts e → problem_at unlimited ts ≡ Err e
told_problem ts e told = problem_whole ts ∙ told_is_read problem_body problem_form agrees_problem IsProblem ts e told
