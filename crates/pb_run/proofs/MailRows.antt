-- Of a search by owners too only expansions bring rows, one for each step at most: as a row of the
-- owner itself, or by a letter.
use Rattle.std.proofs.Common.{◌≡◌, ◌⊎◌, inl, inr, ℕ, ◌+◌, ◌*◌, ◌≤◌, length, Bool, true, false, cond, ◌&&◌, ◌==◌, not, nat_lt, IsSome, List, [], ◌∷◌, ◌++◌, take, drop, Option, Some, None, refl, sym, ap, subst, arith}
use Rattle.std.specs.List.{AllByRecursion}
use Rattle.std.proofs.lemmas.Bool.{or_left, or_right}
use Rattle.std.proofs.lemmas.List.{length-append, append-nil, append_assoc}
use Rattle.std.proofs.Math.Nat.{mul-add}
use Rattle.pb_model.specs.declared.row.Row.{Row}
use Rattle.pb_model.specs.declared.row.Succ.{Succ}
use Rattle.pb_model.specs.Space.{Space, steps}
use Rattle.pb_model.specs.Weight.{Weight}
use Rattle.pb_model.specs.Guide.{Guide}
use Rattle.pb_model.specs.Store.{Store}
use Rattle.pb_model.specs.Work.{Work, expand, break_off, cut, take_goal, lower, reopen, offered_row, g_before, expansions, broken_expansions}
use Rattle.pb_model.proofs.Callers.{equal, equal_self}
use Rattle.pb_mail.specs.declared.letter.Letter.{Letter}
use Rattle.pb_hashed.specs.Mailed.{Mailed, share_store, own_store, least_copy}
use Rattle.pb_hashed.specs.MailWork.{MailWork, by_owner, take_in, agree, letter_for, letters_out, sent_by, owner_after, part_with, without_first, with_owner, with_row_in, mail_after, MayMail, ComesByMail, mail_expansions, mail_broken}
use Rattle.pb_owners.specs.Between.{opening_mailed}
use Rattle.pb_run.proofs.Rows.{has, has_left, has_right, states_of, offered, few_offered, work_brings, opening_is, HasFewRows, few_of_met}

abbrev offered_by : Space → MailWork → List ℕ
offered_by space (by_owner owner work) = offered space work
offered_by space (take_in from to letter) = []
offered_by space (agree owners) = []

abbrev all_offered_by : Space → List MailWork → List ℕ
all_offered_by space [] = []
all_offered_by space (work ∷ works) = offered_by space work ++ all_offered_by space works

few_offered_by : (space : Space) (works : List MailWork) → length (all_offered_by space works)
    ≤ space.actions * (mail_expansions works + mail_broken works)
few_offered_by space [] = omega arith
few_offered_by space (by_owner owner work ∷ works) =
    let both = length-append (offered space work) (all_offered_by space works) in
    let here = few_offered space (work ∷ []) in
    let one = length-append (offered space work) [] in
    let rest = few_offered_by space works in
    let sum = mul-add space.actions
    (expansions (work ∷ []) + broken_expansions (work ∷ [])) (mail_expansions works + mail_broken works) in
    let same : space.actions * ((expansions (work ∷ []) + mail_expansions works)
    + (broken_expansions (work ∷ []) + mail_broken works))
    ≡ space.actions * ((expansions (work ∷ []) + broken_expansions (work ∷ []))
    + (mail_expansions works + mail_broken works)) =
    ap (λ k. space.actions * k) (omega arith) in
    omega (arith, both, here, one, rest, sum, same)
few_offered_by space (take_in from to letter ∷ works) =
    few_offered_by space works
few_offered_by space (agree owners ∷ works) =
    few_offered_by space works

-- these letters offer states of the list
abbrev Offer : List ℕ → List Letter → Type 0
Offer all letters = AllByRecursion (λ (letter : Letter). has all letter.state ≡ true) letters

offers_more : (all more : List ℕ) → ((state : ℕ) → has all state ≡ true → has more state ≡ true)
    → (letters : List Letter) → Offer all letters → Offer more letters
offers_more all more f [] are = tt
offers_more all more f (letter ∷ letters) are =
    (f letter.state are.0, offers_more all more f letters are.1)

offers_append : (all : List ℕ) (first second : List Letter) → Offer all first → Offer all second
    → Offer all (first ++ second)
offers_append all [] second are too = too
offers_append all (letter ∷ first) second are too = (are.0, offers_append all first second are.1 too)

offers_drop : (all : List ℕ) (letters : List Letter) → Offer all letters → Offer all (drop 1 letters)
offers_drop all [] are = tt
offers_drop all (letter ∷ letters) are = are.1

-- each row is of a state of the list, and each letter offers one
record AreMet (all : List ℕ) (m : Mailed) : Type 0 where
  pub rows : (home state : ℕ) → IsSome ((m.owner home).part state) → has all state ≡ true
  pub letters : (from to : ℕ) → Offer all ((m.owner from).letters to)

module _ (space : Space) (guide : Guide) where
  letters_offer : (parent g owner to : ℕ) (succs : List Succ)
      → Offer (states_of succs) (letters_out guide parent g owner to succs)
  letters_offer parent g owner to [] = tt
  letters_offer parent g owner to (succ ∷ succs) =
      go (offers_more (states_of succs) (states_of (succ ∷ succs))
      (λ state h. or_right (state == succ.state) (has (states_of succs) state) h)
      (letters_out guide parent g owner to succs) (letters_offer parent g owner to succs))
      ((guide.home succ.state == to) && not (to == owner))
    where
      go : Offer (states_of (succ ∷ succs)) (letters_out guide parent g owner to succs)
          → (b : Bool) → Offer (states_of (succ ∷ succs))
          (cond b (letter_for parent g succ ∷ letters_out guide parent g owner to succs)
          (letters_out guide parent g owner to succs))
      go later true = (
        or_left (succ.state == succ.state) (has (states_of succs) succ.state)
            (equal_self succ.state),
        later,
      )
      go later false = later

  sent_offer : (work : Work) (g owner to : ℕ)
      → Offer (offered space work) (sent_by space guide work g owner to)
  sent_offer (expand own) g owner to = letters_offer own g owner to (steps space own)
  sent_offer (break_off own offers) g owner to =
      letters_offer own g owner to (take offers (steps space own))
  sent_offer (cut own) g owner to = tt
  sent_offer (take_goal own) g owner to = tt
  sent_offer (lower cost) g owner to = tt
  sent_offer (reopen weight) g owner to = tt

  module _ (all : List ℕ) (m : Mailed) (met : AreMet all m) where
    own_row : (owner : ℕ) (work : Work) (state : ℕ)
        → IsSome ((owner_after space guide owner work m).part state)
        → has (all ++ offered space work) state ≡ true
    own_row owner work state now =
        go (work_brings space guide work (g_before guide (own_store m owner) work)
        (m.owner owner).incumbent owner state ((own_store m owner).rows owner state) now)
      where
        go : IsSome ((own_store m owner).rows owner state) ⊎ (has (offered space work) state ≡ true)
            → has (all ++ offered space work) state ≡ true
        go (inl was) = has_left all (offered space work) state (met.rows owner state
            (subst (λ b. IsSome (cond b ((m.owner owner).part state) None)) (equal_self owner) was))
        go (inr is) = has_right all (offered space work) state is

    by_one : (owner : ℕ) (work : Work)
        → AreMet (all ++ offered space work) (mail_after space guide (by_owner owner work) m)
    by_one owner work = record {
      rows = λ home state. row home state (home == owner);
      letters = λ from to. letter from to (from == owner);
    }
      where
        more : (state : ℕ) → has all state ≡ true → has (all ++ offered space work) state ≡ true
        more state h = has_left all (offered space work) state h

        row : (home state : ℕ) (b : Bool)
            → IsSome ((cond b (owner_after space guide owner work m) (m.owner home)).part state)
            → has (all ++ offered space work) state ≡ true
        row home state true now = own_row owner work state now
        row home state false now = more state (met.rows home state now)

        letter : (from to : ℕ) (b : Bool) → Offer (all ++ offered space work)
            ((cond b (owner_after space guide owner work m) (m.owner from)).letters to)
        letter from to true =
            let g = g_before guide (share_store m.weight owner (m.owner owner)) work in
            offers_append (all ++ offered space work) ((m.owner owner).letters to)
            (sent_by space guide work g owner to)
            (offers_more all (all ++ offered space work) more ((m.owner owner).letters to)
            (met.letters owner to))
            (offers_more (offered space work) (all ++ offered space work)
            (λ state h. has_right all (offered space work) state h)
            (sent_by space guide work g owner to) (sent_offer work g owner to))
        letter from to false = offers_more all (all ++ offered space work) more
            ((m.owner from).letters to) (met.letters from to)

    with_row : (from to : ℕ) (taken : Letter)
        → (m.owner from).letters to ≡ taken ∷ drop 1 ((m.owner from).letters to)
        → AreMet all (with_row_in guide to taken m)
    with_row from to taken first = record {
      rows = λ home state. row home state (home == to);
      letters = λ sender other. letter sender other (sender == to);
    }
      where
        known : has all taken.state ≡ true
        known = (subst (λ letters. Offer all letters) first (met.letters from to)).0

        here : (state : ℕ) (b : Bool) → (state == taken.state) ≡ b → IsSome (cond b
            (Some (offered_row taken.g (guide.estimate state) (Some taken.parent) taken.action
            ((m.owner to).part state))) ((m.owner to).part state))
            → has all state ≡ true
        here state true is now = subst (λ s. has all s ≡ true) (sym (equal state taken.state is)) known
        here state false is now = met.rows to state now

        row : (home state : ℕ) (b : Bool)
            → IsSome ((cond b (record (m.owner to) { part = part_with guide taken (m.owner to).part })
            (m.owner home)).part state)
            → has all state ≡ true
        row home state true now = here state (state == taken.state) refl now
        row home state false now = met.rows home state now

        letter : (sender other : ℕ) (b : Bool) → Offer all
            ((cond b (record (m.owner to) { part = part_with guide taken (m.owner to).part })
            (m.owner sender)).letters other)
        letter sender other true = met.letters to other
        letter sender other false = met.letters sender other

    agreed : (owners : ℕ) → AreMet all (mail_after space guide (agree owners) m)
    agreed owners = record {
      rows = λ home state. row home state (nat_lt home owners);
      letters = λ from to. letter from to (nat_lt from owners);
    }
      where
        row : (home state : ℕ) (b : Bool)
            → IsSome ((cond b (record (m.owner home) { incumbent = least_copy owners m })
            (m.owner home)).part state)
            → has all state ≡ true
        row home state true now = met.rows home state now
        row home state false now = met.rows home state now

        letter : (from to : ℕ) (b : Bool) → Offer all
            ((cond b (record (m.owner from) { incumbent = least_copy owners m })
            (m.owner from)).letters to)
        letter from to true = met.letters from to
        letter from to false = met.letters from to

  without : (from to : ℕ) (all : List ℕ) (m : Mailed) → AreMet all m
      → AreMet all (with_owner m from (without_first (m.owner from) to))
  without from to all m met = record {
    rows = λ home state. row home state (home == from);
    letters = λ sender other. letter sender other (sender == from);
  }
    where
      row : (home state : ℕ) (b : Bool)
          → IsSome ((cond b (without_first (m.owner from) to) (m.owner home)).part state)
          → has all state ≡ true
      row home state true now = met.rows from state now
      row home state false now = met.rows home state now

      dropped : (other : ℕ) (b : Bool) → Offer all
          (cond b (drop 1 ((m.owner from).letters other)) ((m.owner from).letters other))
      dropped other true = offers_drop all ((m.owner from).letters other) (met.letters from other)
      dropped other false = met.letters from other

      letter : (sender other : ℕ) (b : Bool) → Offer all
          ((cond b (without_first (m.owner from) to) (m.owner sender)).letters other)
      letter sender other true = dropped other (other == to)
      letter sender other false = met.letters sender other

  one_met : (work : MailWork) (all : List ℕ) (m : Mailed) → MayMail space guide work m
      → AreMet all m → AreMet (all ++ offered_by space work) (mail_after space guide work m)
  one_met (by_owner owner work) all m may met = by_one all m met owner work
  one_met (take_in from to letter) all m may met =
      subst (λ l. AreMet l (mail_after space guide (take_in from to letter) m)) (sym (append-nil all))
      (without from to all (with_row_in guide to letter m) (with_row all m met from to letter may))
  one_met (agree owners) all m may met =
      subst (λ l. AreMet l (mail_after space guide (agree owners) m)) (sym (append-nil all))
      (agreed all m met owners)

  works_met : (works : List MailWork) (all : List ℕ) (old new : Mailed)
      → ComesByMail space guide works old new → AreMet all old
      → (state home : ℕ) → IsSome ((new.owner home).part state)
      → has (all ++ all_offered_by space works) state ≡ true
  works_met [] all old new comes met state home now =
      has_left all [] state
      (met.rows home state (subst (λ (m : Mailed). IsSome ((m.owner home).part state)) comes now))
  works_met (work ∷ works) all old new comes met state home now =
      subst (λ l. has l state ≡ true)
      (append_assoc all (offered_by space work) (all_offered_by space works))
      (works_met works (all ++ offered_by space work) (mail_after space guide work old) new comes.1
      (one_met work all old comes.0 met) state home now)

  opening_met : (weight : Weight) → AreMet (space.start ∷ []) (opening_mailed space guide weight)
  opening_met weight = record {
    rows = λ home state now. or_left (state == space.start) false
        (opening_is space guide weight home state now);
    letters = λ from to. tt;
  }

  pub mail_rows_are_few : (weight : Weight) (works : List MailWork) (m : Mailed) (store : Store)
      → ComesByMail space guide works (opening_mailed space guide weight) m
      → ((home state : ℕ) → store.rows home state ≡ (m.owner home).part state)
      → HasFewRows guide store (1 + space.actions * (mail_expansions works + mail_broken works))
  mail_rows_are_few weight works m store comes rows states apart there =
      let few = few_of_met guide store (space.start ∷ all_offered_by space works)
      (λ state now. works_met works (space.start ∷ []) (opening_mailed space guide weight) m comes
      (opening_met weight) state (guide.home state)
      (subst (λ (r : Option Row). IsSome r) (rows (guide.home state) state) now))
      states apart there in
      let long = few_offered_by space works in
      omega (arith, few, long)
