-- Lists of names with types: where their reading stops, and beside the table.
use Rattle.std.proofs.Common.{◌≡◌, ℕ, Bool, true, false, cond, not, ◌&&◌, ◌||◌, ◌==◌, List, [], ◌∷◌, ◌++◌, length, Ok, Err, refl, sym, ap, ◌∙◌, suc, arith, true≢false}
use Rattle.std.proofs.lemmas.Bool.{or_parts}
use Rattle.std.proofs.Math.Bool.{and-false}
use Rattle.std.specs.Prelude.{Some, None, if◌then◌else◌}
use Rattle.std.proofs.lemmas.Bool.Decides.{nat_tests}
use Rattle.pb_pddl.specs.declared.token.TokenKind.{TokenKind}
use Rattle.pb_pddl.specs.declared.token.TokenKind.TheVariants as kinds
use Rattle.pb_pddl.specs.declared.token.Token.{Token}
use Rattle.pb_pddl.specs.declared.tree.Name.{Name}
use Rattle.pb_pddl.specs.declared.tree.Typed.{Typed}
use Rattle.pb_pddl.specs.declared.parts.Group.{Group}
use Rattle.pb_pddl.specs.declared.error.SyntaxError.{SyntaxError}
use Rattle.pb_pddl.specs.declared.error.Want.{Want}
use Rattle.pb_pddl.specs.declared.error.Want.TheVariants as wants
use Rattle.pb_pddl.specs.declared.error.LeftOut.TheVariants as left
use Rattle.pb_pddl.specs.Reading.{◌>>=◌, Read, kind_number, same_kind, front, begins, refusal, fault_at, left_at, name_of, typed, type_at, close_group, group_step, begins_group, list_at}
use Rattle.pb_pddl.specs.Places
use Rattle.pb_pddl.specs.Places.{fits, is_kind, sample, reserved_head, takes_section, takes_part, first_fit, left_out, wanted, refused_token, refused}
use Rattle.pb_pddl_laws.proofs.Singles.{kinds_same}
use Rattle.pb_pddl_laws.proofs.CondsRead.{if_true, if_false}
use Rattle.pb_pddl_laws.proofs.ListsRead.{Step, step_sound, step_complete}
use Rattle.pb_pddl_laws.proofs.Loops.{Takes}
use Rattle.pb_pddl_laws.specs.Table
use Rattle.pb_pddl_laws.specs.Table.{Symbol, after}
use Rattle.pb_pddl_laws.proofs.Refusals.{plain}
use Rattle.pb_pddl_laws.proofs.Closing.{or_last, Pieces, takes_piece, agrees_closed}
use Rattle.pb_pddl_laws.proofs.CostPlaces.{opens_left, open_left}
use Rattle.pb_pddl_laws.proofs.Following.{SamePlace, nothing}
use Rattle.pb_pddl_laws.proofs.Agreeing.{Agrees, TakesOne, takes_test, agrees_one, agrees_done, agrees_same, agrees_as, agrees_either, agrees_make}

-- ---- the type behind a -

take_type : TakesOne (Name × List Token) type_at (λ t us. Ok (name_of t, us)) Places.AType
unfolding type_at begins left_at fault_at fits same_kind kind_number left_out wanted refused_token
take_type =
    takes_test (is_kind kinds.Word) (opens_left left.Either wants.TypeName) (λ t us. (name_of t, us)) (λ t. refl) (open_left Places.AType left.Either wants.TypeName (λ t. refl) (λ t. refl) (λ t. refl)) refl
    (sample kinds.Word) refl

agrees_type : Agrees Name type_at nothing (Table.TypeName ∷ [])
agrees_type = agrees_one Table.TypeName (λ t. (refl, refl)) take_type (λ t fit. agrees_done (name_of t))

-- a name that waits
some_waits : (names : List Name) (name : Name) → not (length (names ++ name ∷ []) == 0) ≡ true
some_waits [] name = refl
some_waits (other ∷ names) name = not_none (length (names ++ name ∷ []))
  where
    not_none : (n : ℕ) → not (suc n == 0) ≡ true
    not_none n = grind (arith, nat_tests)

dash_close : same_kind kinds.Dash kinds.Close ≡ false
unfolding same_kind kind_number
dash_close = refl

-- ---- lists of words or of variables

module _ (kind : TokenKind) (want : Want) (some : same_kind kinds.End kind ≡ false) (no_dash : same_kind kinds.Dash kind ≡ false) (no_close : same_kind kinds.Close kind ≡ false)
    (first : (waits : Bool) → first_fit (Places.MoreNames kind waits) ≡ want) where
  abbrev is_part : Token → Bool
  is_part t = is_kind kind t || is_kind kinds.Dash t

  -- whether a name waits for its type
  abbrev waits : Group → Bool
  waits g = not (length g.waiting == 0)

  -- a -, where none waits
  group_refused : (t : Token) → is_kind kinds.Dash t ≡ true → refused (Places.MoreNames kind false) t ≡ refusal wants.Group t
  unfolding refused_token left_out wanted
  group_refused t e = plain (Places.MoreNames kind false) t wants.Group refl refl (ap (λ b. if b then wants.Group else first_fit (Places.MoreNames kind false)) e)

  part_refused : (g : Group) (t : Token) (us : List Token) → is_part t ≡ true → fits (Places.MoreNames kind (waits g)) t ≡ false → group_step kind g (t ∷ us) ≡ Err (refused (Places.MoreNames kind (waits g)) t)
  unfolding fits group_step begins front fault_at
  part_refused g t us goes misfit =
      let a = or_parts (is_kind kind t || waits g && is_kind kinds.Dash t) (is_kind kinds.Close t) misfit in
      let b = or_parts (is_kind kind t) (waits g && is_kind kinds.Dash t) a.0 in
      let dash : is_kind kinds.Dash t ≡ true = or_last (is_kind kind t) (is_kind kinds.Dash t) b.0 goes in
      let none_waits : length g.waiting == 0 ≡ true = not_waits (length g.waiting == 0) (is_kind kinds.Dash t) dash b.1 in
      if_false (is_kind kind t) _ _ b.0 ∙ if_true (length g.waiting == 0) _ _ none_waits
      ∙ ap (λ (e : SyntaxError). Err e) (sym (group_refused t dash) ∙ ap (λ b. refused (Places.MoreNames kind (not b)) t) (sym none_waits)) where
        not_waits : (a b : Bool) → b ≡ true → not a && b ≡ false → a ≡ true
        not_waits true b holds e = refl
        not_waits false b holds e = absurd (true≢false (sym holds ∙ e))

  part_last : (g : Group) (t : Token) → is_part t ≡ false → fits (Places.MoreNames kind (waits g)) t ≡ same_kind t.kind kinds.Close
  unfolding fits
  part_last g t e =
      let a = or_parts (is_kind kind t) (is_kind kinds.Dash t) e in
      ap (λ b. b || waits g && is_kind kinds.Dash t || is_kind kinds.Close t) a.0 ∙ ap (λ b. waits g && b || is_kind kinds.Close t) a.1 ∙ ap (λ b. b || is_kind kinds.Close t) (and-false (waits g))

  part_end : (g : Group) (t : Token) → is_part t ≡ false → refused (Places.MoreNames kind (waits g)) t ≡ refusal want t
  unfolding refused_token left_out wanted
  part_end g t e =
      let a = or_parts (is_kind kind t) (is_kind kinds.Dash t) e in
      plain (Places.MoreNames kind (waits g)) t want refl refl (ap (λ b. if b then wants.Group else first_fit (Places.MoreNames kind (waits g))) a.1 ∙ first (waits g))

  abbrev waiting : Group → Token → Group
  waiting g t = record { done = g.done; waiting = g.waiting ++ name_of t ∷ [] }

  abbrev emptied : Group → Name → Group
  emptied g name = record { done = g.done ++ typed (Some name) g.waiting; waiting = [] }

  abbrev typed_behind : Group → List Token → Read Group
  typed_behind g us = type_at us >>= λ p. Ok (emptied g p.0, p.1)

  -- what follows a name or a -
  abbrev part_behind : Group → Token → List Token → Read Group
  part_behind g t us = cond (is_kind kind t) (Ok (waiting g t, us)) (typed_behind g us)

  fits_dash : (g : Group) (t : Token) → fits (Places.MoreNames kind (waits g)) t ≡ true → is_part t ≡ true → is_kind kind t ≡ false → length g.waiting == 0 ≡ false
  unfolding fits
  fits_dash g t fit goes none =
      let dash : is_kind kinds.Dash t ≡ true = or_last (is_kind kind t) (is_kind kinds.Dash t) none goes in
      let no_end : is_kind kinds.Close t ≡ false = ap (λ k. same_kind k kinds.Close) (kinds_same t.kind kinds.Dash dash) ∙ dash_close in
      some_waits (length g.waiting == 0) (is_kind kinds.Dash t) (is_kind kinds.Close t) no_end (ap (λ b. b || not (length g.waiting == 0) && is_kind kinds.Dash t || is_kind kinds.Close t) (sym none) ∙ fit) where
        some_waits : (a b c : Bool) → c ≡ false → false || not a && b || c ≡ true → a ≡ false
        some_waits true b c e is = absurd (true≢false (sym is ∙ e))
        some_waits false b c e is = refl

  part_take : (g : Group) (t : Token) (us : List Token) → is_part t ≡ true → fits (Places.MoreNames kind (waits g)) t ≡ true → group_step kind g (t ∷ us) ≡ part_behind g t us
  unfolding group_step close_group begins front
  part_take g t us goes fit =
      let cases : (v : Bool) → is_kind kind t ≡ v → cond v (Ok (waiting g t, us)) (cond (length g.waiting == 0) (Err (fault_at wants.Group (t ∷ us))) (typed_behind g us)) ≡ cond v (Ok (waiting g t, us)) (typed_behind g us) =
      λ v. elim v as (λ v. is_kind kind t ≡ v → cond v (Ok (waiting g t, us)) (cond (length g.waiting == 0) (Err (fault_at wants.Group (t ∷ us))) (typed_behind g us)) ≡ cond v (Ok (waiting g t, us)) (typed_behind g us)) [
        | true ↦ λ e. refl
        | false ↦ λ e. if_false (length g.waiting == 0) _ _ (fits_dash g t fit goes e)
      ] in
      cases (is_kind kind t) refl

  takes_part_of : Takes (begins_group kind) (group_step kind)
  takes_part_of = takes_piece (begins_group kind) (group_step kind) (Step kind) (step_sound kind some) (step_complete kind no_dash)

  pieces : Pieces Group (begins_group kind) (group_step kind) (λ g. want) is_part (λ g. Places.MoreNames kind (waits g))
  unfolding begins_group begins front fits same_kind kind_number
  pieces = record {
    more_is = λ ts. refl;
    none = ap (λ b. b || false) some;
    takes = takes_part_of;
    no_end = λ g. ap (λ b. b || waits g && false || false) some ∙ ap (λ b. b || false) (and-false (waits g));
    refuse_step = part_refused;
    close_last = part_last;
    end_refused = part_end;
    no_close = ap (λ b. b || false) no_close;
  }

  abbrev all_typed : Group → List Typed
  all_typed g = g.done ++ typed None g.waiting

  module _ (names : Bool → Symbol) (place_is : (w : Bool) → SamePlace (names w) (Places.MoreNames kind w))
      (after_is : (w : Bool) (t : Token) → after (names w) t ≡ cond (is_kind kind t) (names true ∷ []) (cond (is_kind kinds.Dash t) (Table.TypeName ∷ names false ∷ []) [])) where
    abbrev due : Group → List Symbol
    due g = names (waits g) ∷ []

    abbrev typed_due : List Symbol
    typed_due = Table.TypeName ∷ names false ∷ []

    abbrev choice : Bool → Bool → List Symbol
    choice a b = cond a (names true ∷ []) (cond b typed_due [])

    agrees_behind : (g : Group) (t : Token) → is_part t ≡ true → Agrees Group (part_behind g t) due (after (names (waits g)) t)
    agrees_behind g t goes =
        agrees_either (is_kind kind t)
        (λ e. agrees_as (after_is (waits g) t ∙ ap (λ b. choice b (is_kind kinds.Dash t)) e ∙ ap (λ b. names b ∷ []) (sym (some_waits g.waiting (name_of t)))) (agrees_done (waiting g t)))
        (λ e. agrees_as (after_is (waits g) t ∙ ap (λ b. choice b (is_kind kinds.Dash t)) e ∙ ap (λ b. cond b typed_due []) (or_last (is_kind kind t) (is_kind kinds.Dash t) e goes))
        (agrees_make (emptied g) (names false ∷ []) (λ x. refl) agrees_type))

    none_due : (g : Group) (t : Token) → is_part t ≡ false → after (names (waits g)) t ≡ []
    none_due g t stops =
        let a = or_parts (is_kind kind t) (is_kind kinds.Dash t) stops in
        after_is (waits g) t ∙ ap (λ b. choice b (is_kind kinds.Dash t)) a.0 ∙ ap (λ b. cond b typed_due []) a.1

    pub agrees_list : Agrees (List Typed) (list_at kind want) nothing (names false ∷ [])
    unfolding list_at
    agrees_list =
        agrees_closed pieces all_typed (λ g. names (waits g)) (λ g. place_is (waits g)) (λ g t goes fit. agrees_same (λ us. part_take g t us goes fit) (agrees_behind g t goes)) (λ g t stops. sym (none_due g t stops))
        (record { done = []; waiting = [] })

pub agrees_words : Agrees (List Typed) (list_at kinds.Word wants.Name) nothing (Table.Names false false ∷ [])
unfolding same_kind kind_number first_fit takes_section takes_part fits
agrees_words = agrees_list kinds.Word wants.Name refl refl refl first (Table.Names false) (λ w t. (refl, refl)) (λ w t. refl) where
  first : (waits : Bool) → first_fit (Places.MoreNames kinds.Word waits) ≡ wants.Name
  first true = refl
  first false = refl

pub agrees_variables : Agrees (List Typed) (list_at kinds.Variable wants.Variable) nothing (Table.Names true false ∷ [])
unfolding same_kind kind_number first_fit takes_section takes_part fits
agrees_variables = agrees_list kinds.Variable wants.Variable refl refl refl first (Table.Names true) (λ w t. (refl, refl)) (λ w t. refl) where
  first : (waits : Bool) → first_fit (Places.MoreNames kinds.Variable waits) ≡ wants.Variable
  first true = refl
  first false = refl
