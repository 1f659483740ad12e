-- What an owner does alone, piece by piece.
use Rattle.std.proofs.Common.{◌≡◌, ℕ, ◌+◌, ◌<◌, ◌==◌, ◌&&◌, false, cond, IsTrue, List, [], ◌∷◌, ◌++◌, length, take, Some, None, refl, sym, ap, ◌∙◌, subst, arith, inl, inr}
use Rattle.std.proofs.lemmas.Bool.{eqb-false}
use Rattle.std.proofs.lemmas.List.{append-nil}
use Rattle.pb_model.specs.declared.row.Status.{Status}
use Rattle.pb_model.specs.declared.row.Status.TheVariants.{Opened, Closed, Cut}
use Rattle.pb_model.specs.declared.row.Row.{Row}
use Rattle.pb_model.specs.declared.row.Succ.{Succ}
use Rattle.pb_model.specs.Space.{Space, steps}
use Rattle.pb_model.specs.Weight.{Weight}
use Rattle.pb_model.specs.Guide.{Guide}
use Rattle.pb_model.specs.Store.{Part, Store, row_at, is_place_of, MayBeCut, lesser}
use Rattle.pb_model.specs.Key.{IsFirstRow}
use Rattle.pb_machine.specs.Turns.{IsLeaseTurn}
use Rattle.pb_model.specs.Work.{Work, expand, break_off, cut, take_goal, lower, reopen, row_after_offers, with_status, row_after_status, row_after, incumbent_after, g_of, g_before, May, expansions, broken_expansions}
use Rattle.pb_model.proofs.Callers.{by_cases, equal, equal_self}
use Rattle.pb_model.proofs.Callers.{some_row, place_of, IsFresh, Left, offers_leave}
use Rattle.pb_model.proofs.Callers.{are_steps, all_take}
use Rattle.pb_model.proofs.Callers.{broken_append}
use Rattle.pb_lists.specs.Bundle.{SetsStatus}
use Rattle.pb_hashed.specs.Mailed.{Owner, share_store}
use Rattle.pb_hashed.specs.MailWork.{sent_by, IsOwnWork, share_after, ComesAlone, letters_out}
use Rattle.pb_owner.specs.Shares.{AreOwn, AreOwnTurns, IsBrokenLast, HasWorked}

expansions_append : (xs ys : List Work) → expansions (xs ++ ys) ≡ expansions xs + expansions ys
expansions_append [] ys = omega arith
expansions_append (expand own ∷ xs) ys = omega (arith, expansions_append xs ys)
expansions_append (break_off own offers ∷ xs) ys = expansions_append xs ys
expansions_append (cut own ∷ xs) ys = expansions_append xs ys
expansions_append (take_goal own ∷ xs) ys = expansions_append xs ys
expansions_append (lower cost ∷ xs) ys = expansions_append xs ys
expansions_append (reopen x ∷ xs) ys = expansions_append xs ys

last_append : (xs ys : List Work) → broken_expansions xs ≡ 0 → IsBrokenLast ys → IsBrokenLast (xs ++ ys)
last_append [] ys none last = last
last_append (expand own ∷ xs) ys none last = last_append xs ys none last
last_append (break_off own offers ∷ xs) ys none last = absurd (omega arith)
last_append (cut own ∷ xs) ys none last = last_append xs ys none last
last_append (take_goal own ∷ xs) ys none last = last_append xs ys none last
last_append (lower cost ∷ xs) ys none last = last_append xs ys none last
last_append (reopen x ∷ xs) ys none last = last_append xs ys none last

last_one : (x : Work) → IsBrokenLast (x ∷ [])
last_one (expand own) = tt
last_one (break_off own offers) = refl
last_one (cut own) = tt
last_one (take_goal own) = tt
last_one (lower cost) = tt
last_one (reopen x) = tt

module _ (space : Space) (guide : Guide) (weight : Weight) (number : ℕ) where
  pub worked_none : (old new : Owner) → new ≡ old → HasWorked space guide weight number 0 0 old new
  worked_none old new is = record { works = []; comes = is; turns = tt; used_is = refl; broken_is = refl; broken_last = tt }

  alone_append : (xs ys : List Work) (old mid new : Owner) → ComesAlone space guide weight number xs old mid → ComesAlone space guide weight number ys mid new
      → ComesAlone space guide weight number (xs ++ ys) old new
  alone_append [] ys old mid new one two = subst (λ k. ComesAlone space guide weight number ys k new) one two
  alone_append (x ∷ xs) ys old mid new one two = (one.0, one.1, alone_append xs ys (share_after space guide weight number x old) mid new one.2 two)

  turns_append : (xs ys : List Work) (old mid : Owner) → ComesAlone space guide weight number xs old mid → AreOwnTurns space guide weight number xs old → AreOwnTurns space guide weight number ys mid
      → AreOwnTurns space guide weight number (xs ++ ys) old
  turns_append [] ys old mid comes one two = subst (λ k. AreOwnTurns space guide weight number ys k) comes two
  turns_append (x ∷ xs) ys old mid comes one two = (one.0, turns_append xs ys (share_after space guide weight number x old) mid comes.2 one.1 two)

  pub worked_then : (used broken more other : ℕ) → broken ≡ 0 → (old mid new : Owner) → HasWorked space guide weight number used broken old mid → HasWorked space guide weight number more other mid new
      → HasWorked space guide weight number (used + more) (broken + other) old new
  worked_then used broken more other none old mid new one two = record {
    works = one.works ++ two.works;
    comes = alone_append one.works two.works old mid new one.comes two.comes;
    turns = turns_append one.works two.works old mid one.comes one.turns two.turns;
    used_is = omega (arith, expansions_append one.works two.works, one.used_is, two.used_is);
    broken_is = omega (arith, broken_append one.works two.works, one.broken_is, two.broken_is);
    broken_last = last_append one.works two.works (one.broken_is ∙ none) two.broken_last;
  }

  -- ---- one piece

  module _ (o : Owner) where
    abbrev s : Store
    s = share_store weight number o

    here : (state : ℕ) → s.rows number state ≡ o.part state
    here state = ap (λ b. cond b (o.part state) None) (equal_self number)

    found_at : (own : ℕ) (row : Row) → guide.home own ≡ number → o.part own ≡ Some row → row_at guide s own ≡ Some row
    found_at own row at is = ap (λ b. cond b (o.part own) None) (ap (λ k. k == number) at ∙ equal_self number) ∙ is

    -- the same from a premise on the share after the piece
    one_worked : (x : Work) (g used broken : ℕ) (new : Owner) → IsOwnWork x → May space guide x s → IsLeaseTurn guide s x → g_before guide s x ≡ g
        → ((state : ℕ) → new.part state ≡ row_after space guide x g o.incumbent number state (o.part state)) → new.incumbent ≡ incumbent_after x g o.incumbent
        → ((to : ℕ) → new.letters to ≡ o.letters to ++ sent_by space guide x g number to)
        → expansions (x ∷ []) ≡ used → broken_expansions (x ∷ []) ≡ broken → HasWorked space guide weight number used broken o new
    one_worked x g used broken new mine may turn before part incumbent letters u b = record {
      works = x ∷ [];
      comes = (mine, may, is);
      turns = (turn, tt);
      used_is = u;
      broken_is = b;
      broken_last = last_one x;
    }
      where
        is : new ≡ share_after space guide weight number x o
        is i = record {
          part = λ state. (part state ∙ (λ j. row_after space guide x (sym before j) o.incumbent number state (sym (here state) j))) i;
          incumbent = (incumbent ∙ (λ j. incumbent_after x (sym before j) o.incumbent)) i;
          letters = λ to. (letters to ∙ (λ j. o.letters to ++ sent_by space guide x (sym before j) number to)) i;
        }

    place_is : (own state : ℕ) → guide.home own ≡ number → is_place_of guide own number state ≡ (state == own)
    place_is own state at = ap (λ k. (number == k) && (state == own)) at ∙ ap (λ b. b && (state == own)) (equal_self number)

    status_part : (own : ℕ) → guide.home own ≡ number → (old new : Part) (status : Status) → SetsStatus old new own status → (state : ℕ) → new state ≡ row_after_status guide own status number state (old state)
    status_part own at old new status set state = by_cases (state == own)
        (λ e. subst (λ k. new k ≡ with_status status (old k)) (sym (equal state own e)) set.here ∙ sym (ap (λ b. cond b (with_status status (old state)) (old state)) (place_is own state at ∙ e)))
        (λ e. set.others state (eqb-false state own e) ∙ sym (ap (λ b. cond b (with_status status (old state)) (old state)) (place_is own state at ∙ e)))

    -- the first Opened row of the owner's rows is that of its part of the store
    first_at : (own : ℕ) (row : Row) → guide.home own ≡ number → IsFirstRow weight o.part own row → IsFirstRow weight (s.rows (guide.home own)) own row
    first_at own row at first = subst (λ (part : Part). IsFirstRow weight part own row) (λ i state. cond (sym (ap (λ k. k == number) at ∙ equal_self number) i) (o.part state) None) first

    module _ (are : AreOwn guide number o.part) (own : ℕ) (row : Row) (first : IsFirstRow weight o.part own row) where
      found_here : row_at guide s own ≡ Some row
      found_here = found_at own row (are own row first.found) first.found

      first_here : IsFirstRow weight (s.rows (guide.home own)) own row
      first_here = first_at own row (are own row first.found) first

      pub cut_worked : MayBeCut weight o.incumbent row.g row.estimate → (new : Owner) → SetsStatus o.part new.part own Cut → new.incumbent ≡ o.incumbent → ((to : ℕ) → new.letters to ≡ o.letters to)
          → HasWorked space guide weight number 0 0 o new
      cut_worked may new set incumbent letters =
          one_worked (cut own) row.g 0 0 new tt (row, found_here, first.opened, may) (row, first_here) (ap g_of found_here) (status_part own (are own row first.found) o.part new.part Cut set) incumbent
          (λ to. letters to ∙ sym (append-nil (o.letters to))) refl refl

      pub goal_worked : ¬ MayBeCut weight o.incumbent row.g row.estimate → IsTrue (space.is_goal own) → (new : Owner) → SetsStatus o.part new.part own Cut → new.incumbent ≡ lesser o.incumbent (Some row.g) → ((to : ℕ) → new.letters to ≡ o.letters to)
          → HasWorked space guide weight number 0 0 o new
      goal_worked kept goal new set incumbent letters =
          one_worked (take_goal own) row.g 0 0 new tt ((row, found_here, first.opened), goal) (row, first_here, kept) (ap g_of found_here) (status_part own (are own row first.found) o.part new.part Cut set) incumbent
          (λ to. letters to ∙ sym (append-nil (o.letters to))) refl refl

      pub expand_worked : ¬ MayBeCut weight o.incumbent row.g row.estimate → space.is_goal own ≡ false → (mid : Part) (new : Owner) → ((state : ℕ) → mid state ≡ row_after_offers guide own row.g (steps space own) number state (o.part state))
          → SetsStatus mid new.part own Closed → new.incumbent ≡ o.incumbent → ((to : ℕ) → new.letters to ≡ o.letters to ++ letters_out guide own row.g number to (steps space own))
          → HasWorked space guide weight number 1 0 o new
      expand_worked kept no_goal mid new offers set incumbent letters =
          one_worked (expand own) row.g 1 0 new tt ((row, found_here, first.opened), no_goal) (row, first_here, kept) (ap g_of found_here)
          (λ state. status_part own (are own row first.found) mid new.part Closed set state ∙ ap (row_after_status guide own Closed number state) (offers state)) incumbent letters refl refl

      pub break_worked : ¬ MayBeCut weight o.incumbent row.g row.estimate → space.is_goal own ≡ false → (count : ℕ) → count < length (steps space own) → (new : Owner)
          → ((state : ℕ) → new.part state ≡ row_after_offers guide own row.g (take count (steps space own)) number state (o.part state)) → new.incumbent ≡ o.incumbent
          → ((to : ℕ) → new.letters to ≡ o.letters to ++ letters_out guide own row.g number to (take count (steps space own)))
          → HasWorked space guide weight number 0 1 o new
      break_worked kept no_goal count less new offers incumbent letters =
          one_worked (break_off own count) row.g 0 1 new tt ((row, found_here, first.opened), no_goal, less) (row, first_here, kept) (ap g_of found_here) offers incumbent letters refl refl

      -- the row stays Opened while its successors are offered
      pub own_left : (succs : List Succ) → Rattle.std.specs.List.AllByRecursion (Rattle.pb_model.proofs.Callers.IsStep space own) succs
          → (r : Row) × (row_after_offers guide own row.g succs number own (o.part own) ≡ Some r) × (r.status ≡ Opened)
      own_left succs all = go (offers_leave space guide own row.g succs number own (o.part own) all)
        where
          go : Left space guide own row.g number own (o.part own) (row_after_offers guide own row.g succs number own (o.part own))
              → (r : Row) × (row_after_offers guide own row.g succs number own (o.part own) ≡ Some r) × (r.status ≡ Opened)
          go (inl same) = (row, same ∙ first.found, first.opened)
          go (inr f) = (f.row, f.is, f.opened)
