-- A round of owners: what each did alone, and then what each took, one owner after another.
use Rattle.std.proofs.Common.{◌≡◌, ◌≢◌, ℕ, zero, suc, ◌+◌, ◌<◌, ◌≤◌, ◌==◌, Bool, true, false, cond, nat_lt, List, [], ◌∷◌, ◌++◌, map, drop, take, not, ◌&&◌, Option, Some, None, refl, sym, ap, ◌∙◌, subst, arith, ◌⊎◌, inl, inr, ⊎_elim}
use Rattle.std.proofs.lemmas.Bool.{cases_eq, cases_lt, cases_order, ne_eqb, eq-eqb, lt-ltb, le-ltb}
use Rattle.pb_model.specs.declared.row.Succ.{Succ}
use Rattle.pb_model.specs.Space.{Space, steps}
use Rattle.pb_model.specs.Weight.{Weight}
use Rattle.pb_model.specs.Guide.{Guide}
use Rattle.pb_model.specs.Store.{Part, lesser}
use Rattle.pb_model.specs.Work.{Work, expand, break_off, cut, take_goal, lower, reopen, g_before, May, expansions, broken_expansions}
use Rattle.pb_model.proofs.Callers.{equal_self}
use Rattle.pb_mail.specs.declared.letter.Letter.{Letter}
use Rattle.pb_mail.specs.declared.letter.Sent.{Sent}
use Rattle.pb_mail.specs.Views.{letters_of}
use Rattle.pb_hashed.specs.Mailed.{Owner, Mailed, share_store, HasNoLetter, least_of, least_copy}
use Rattle.pb_hashed.specs.MailWork.{MailWork, by_owner, take_in, agree, letter_for, letters_out, sent_by, share_after, ComesAlone, part_with, without_first, without_letter, with_owner, with_row_in, mail_after, MayMail, ComesByMail, part_after, mail_expansions, mail_broken}
use Rattle.pb_hashed.specs.Laws.{sum_below, IsRound, IsAfterRound, RoundsAreWork}
use Rattle.pb_hashed.proofs.OwnWork.{owner_here, owner_else}

-- ---- work after work

module _ (space : Space) (guide : Guide) where
  pub comes_append : (xs ys : List MailWork) (old mid new : Mailed) → ComesByMail space guide xs old mid → ComesByMail space guide ys mid new → ComesByMail space guide (xs ++ ys) old new
  comes_append [] ys old mid new one two = subst (λ k. ComesByMail space guide ys k new) one two
  comes_append (x ∷ xs) ys old mid new one two = (one.0, comes_append xs ys (mail_after space guide x old) mid new one.1 two)

pub expansions_append : (xs ys : List MailWork) → mail_expansions (xs ++ ys) ≡ mail_expansions xs + mail_expansions ys
expansions_append [] ys = omega arith
expansions_append (by_owner i work ∷ xs) ys = omega (arith, expansions_append xs ys)
expansions_append (take_in from to letter ∷ xs) ys = expansions_append xs ys
expansions_append (agree n ∷ xs) ys = expansions_append xs ys

pub broken_append : (xs ys : List MailWork) → mail_broken (xs ++ ys) ≡ mail_broken xs + mail_broken ys
broken_append [] ys = omega arith
broken_append (by_owner i work ∷ xs) ys = omega (arith, broken_append xs ys)
broken_append (take_in from to letter ∷ xs) ys = broken_append xs ys
broken_append (agree n ∷ xs) ys = broken_append xs ys

one_expansion : (x : Work) (xs : List Work) → expansions (x ∷ xs) ≡ expansions (x ∷ []) + expansions xs
one_expansion (expand own) xs = omega arith
one_expansion (break_off own offers) xs = omega arith
one_expansion (cut own) xs = omega arith
one_expansion (take_goal own) xs = omega arith
one_expansion (lower cost) xs = omega arith
one_expansion (reopen w) xs = omega arith

one_broken : (x : Work) (xs : List Work) → broken_expansions (x ∷ xs) ≡ broken_expansions (x ∷ []) + broken_expansions xs
one_broken (expand own) xs = omega arith
one_broken (break_off own offers) xs = omega arith
one_broken (cut own) xs = omega arith
one_broken (take_goal own) xs = omega arith
one_broken (lower cost) xs = omega arith
one_broken (reopen w) xs = omega arith

own_expansions : (i : ℕ) (xs : List Work) → mail_expansions (map (by_owner i) xs) ≡ expansions xs
own_expansions i [] = refl
own_expansions i (x ∷ xs) = omega (arith, own_expansions i xs, one_expansion x xs)

own_broken : (i : ℕ) (xs : List Work) → mail_broken (map (by_owner i) xs) ≡ broken_expansions xs
own_broken i [] = refl
own_broken i (x ∷ xs) = omega (arith, own_broken i xs, one_broken x xs)

-- the same shares
same_mailed : (m n : Mailed) → ((k : ℕ) → m.owner k ≡ n.owner k) → m.weight ≡ n.weight → m ≡ n
same_mailed m n owners weight = λ i. record { owner = λ k. owners k i; weight = weight i }

-- ---- an owner's work alone

module _ (space : Space) (guide : Guide) where
  pub alone_comes : (i : ℕ) (works : List Work) (m : Mailed) (new : Owner) → ComesAlone space guide m.weight i works (m.owner i) new → ComesByMail space guide (map (by_owner i) works) m (with_owner m i new)
  alone_comes i [] m new is =
      same_mailed (with_owner m i new) m (λ k. ⊎_elim (λ (at : k ≡ i). ap (λ j. (with_owner m i new).owner j) at ∙ owner_here m i new ∙ is ∙ ap (λ j. m.owner j) (sym at)) (λ (off : k ≢ i). owner_else m i new k off) (cases_eq k i)) refl
  alone_comes i (x ∷ xs) m new h =
      let o : Owner = share_after space guide m.weight i x (m.owner i) in
      let mid : Mailed = with_owner m i o in
      let rest = alone_comes i xs mid new (subst (λ (k : Owner). ComesAlone space guide m.weight i xs k new) (sym (owner_here m i o)) h.2) in
      let twice : with_owner mid i new ≡ with_owner m i new = same_mailed (with_owner mid i new) (with_owner m i new)
      (λ k. ⊎_elim (λ (at : k ≡ i). ap (λ j. (with_owner mid i new).owner j) at ∙ owner_here mid i new ∙ sym (owner_here m i new) ∙ ap (λ j. (with_owner m i new).owner j) (sym at))
      (λ (off : k ≢ i). owner_else mid i new k off ∙ owner_else m i o k off ∙ sym (owner_else m i new k off)) (cases_eq k i)) refl in
      ((h.0, h.1), subst (λ k. ComesByMail space guide (map (by_owner i) xs) mid k) twice rest)

  -- no letter goes to an owner that there isn't
  module _ (owners : ℕ) (homes : (state : ℕ) → guide.home state < owners) (weight : Weight) (i to : ℕ) (past : owners ≤ to) where
    none_out : (own g : ℕ) (ys : List Succ) → letters_out guide own g i to ys ≡ []
    none_out own g [] = refl
    none_out own g (y ∷ ys) = ap (λ b. cond (b && not (to == i)) (letter_for own g y ∷ letters_out guide own g i to ys) (letters_out guide own g i to ys)) (ne_eqb (guide.home y.state) to (λ e. let h = homes y.state in omega arith)) ∙ none_out own g ys

    none_sent : (x : Work) (g : ℕ) → sent_by space guide x g i to ≡ []
    none_sent (expand own) g = none_out own g (steps space own)
    none_sent (break_off own offers) g = none_out own g (take offers (steps space own))
    none_sent (cut own) g = refl
    none_sent (take_goal own) g = refl
    none_sent (lower cost) g = refl
    none_sent (reopen w) g = refl

    pub none_far : (works : List Work) (old new : Owner) → ComesAlone space guide weight i works old new → old.letters to ≡ [] → new.letters to ≡ []
    none_far [] old new is none = ap (λ (o : Owner). o.letters to) is ∙ none
    none_far (x ∷ xs) old new h none =
        none_far xs (share_after space guide weight i x old) new h.2 (ap (λ l. l ++ sent_by space guide x (g_before guide (share_store weight i old) x) i to) none ∙ none_sent x (g_before guide (share_store weight i old) x))

  -- ---- letters are taken in

  module _ (from to : ℕ) (letter : Letter) (m : Mailed) where
    abbrev mid : Mailed
    mid = with_row_in guide to letter m

    abbrev new : Mailed
    new = mail_after space guide (take_in from to letter) m

    mid_letters : (k other : ℕ) → (mid.owner k).letters other ≡ (m.owner k).letters other
    mid_letters k other = go (k == to) refl
      where
        go : (b : Bool) → (k == to) ≡ b → (mid.owner k).letters other ≡ (m.owner k).letters other
        go true e = ap (λ b. (cond b (record (m.owner to) { part = part_with guide letter (m.owner to).part }) (m.owner k)).letters other) e ∙ ap (λ j. (m.owner j).letters other) (sym (Rattle.pb_model.proofs.Callers.equal k to e))
        go false e = ap (λ b. (cond b (record (m.owner to) { part = part_with guide letter (m.owner to).part }) (m.owner k)).letters other) e

    mid_copy : (k : ℕ) → (mid.owner k).incumbent ≡ (m.owner k).incumbent
    mid_copy k = go (k == to) refl
      where
        go : (b : Bool) → (k == to) ≡ b → (mid.owner k).incumbent ≡ (m.owner k).incumbent
        go true e = ap (λ b. (cond b (record (m.owner to) { part = part_with guide letter (m.owner to).part }) (m.owner k)).incumbent) e ∙ ap (λ j. (m.owner j).incumbent) (sym (Rattle.pb_model.proofs.Callers.equal k to e))
        go false e = ap (λ b. (cond b (record (m.owner to) { part = part_with guide letter (m.owner to).part }) (m.owner k)).incumbent) e

    new_part : (k : ℕ) → (new.owner k).part ≡ (mid.owner k).part
    new_part k = ⊎_elim (λ (at : k ≡ from). ap (λ j. (new.owner j).part) at ∙ ap (λ (x : Owner). x.part) (owner_here mid from (without_first (mid.owner from) to)) ∙ ap (λ j. (mid.owner j).part) (sym at))
        (λ (off : k ≢ from). ap (λ (x : Owner). x.part) (owner_else mid from (without_first (mid.owner from) to) k off)) (cases_eq k from)

    take_part : (new.owner to).part ≡ part_with guide letter (m.owner to).part
    take_part = new_part to ∙ ap (λ (x : Owner). x.part) (owner_here m to (record (m.owner to) { part = part_with guide letter (m.owner to).part }))

    take_parts : (k : ℕ) → k ≢ to → (new.owner k).part ≡ (m.owner k).part
    take_parts k off = new_part k ∙ ap (λ (x : Owner). x.part) (owner_else m to (record (m.owner to) { part = part_with guide letter (m.owner to).part }) k off)

    take_copy : (k : ℕ) → (new.owner k).incumbent ≡ (m.owner k).incumbent
    take_copy k = ⊎_elim (λ (at : k ≡ from). ap (λ j. (new.owner j).incumbent) at ∙ ap (λ (x : Owner). x.incumbent) (owner_here mid from (without_first (mid.owner from) to)) ∙ mid_copy from ∙ ap (λ j. (m.owner j).incumbent) (sym at))
        (λ (off : k ≢ from). ap (λ (x : Owner). x.incumbent) (owner_else mid from (without_first (mid.owner from) to) k off) ∙ mid_copy k) (cases_eq k from)

    take_pair : (new.owner from).letters to ≡ drop 1 ((m.owner from).letters to)
    take_pair =
        ap (λ (x : Owner). x.letters to) (owner_here mid from (without_first (mid.owner from) to))
        ∙ ap (λ b. cond b (drop 1 ((mid.owner from).letters to)) ((mid.owner from).letters to)) (equal_self to) ∙ ap (λ (xs : List Letter). drop 1 xs) (mid_letters from to)

    take_others : (k other : ℕ) → (k ≢ from) ⊎ (other ≢ to) → (new.owner k).letters other ≡ (m.owner k).letters other
    take_others k other which = ⊎_elim
        (λ (at : k ≡ from). here at which)
        (λ (off : k ≢ from). ap (λ (x : Owner). x.letters other) (owner_else mid from (without_first (mid.owner from) to) k off) ∙ mid_letters k other) (cases_eq k from)
      where
        here : k ≡ from → (k ≢ from) ⊎ (other ≢ to) → (new.owner k).letters other ≡ (m.owner k).letters other
        here at (inl off) = absurd (off at)
        here at (inr off) =
            ap (λ j. (new.owner j).letters other) at ∙ ap (λ (x : Owner). x.letters other) (owner_here mid from (without_first (mid.owner from) to))
            ∙ ap (λ b. cond b (drop 1 ((mid.owner from).letters other)) ((mid.owner from).letters other)) (ne_eqb other to off) ∙ mid_letters from other ∙ ap (λ j. (m.owner j).letters other) (sym at)

  -- an owner took all letters to it
  pub record TakenAll (to : ℕ) (xs : List Sent) (m new : Mailed) : Type 0 where
    pub part : (new.owner to).part ≡ part_after guide xs (m.owner to).part
    pub parts : (k : ℕ) → k ≢ to → (new.owner k).part ≡ (m.owner k).part
    pub gone : (from : ℕ) → (new.owner from).letters to ≡ []
    pub letters : (from other : ℕ) → other ≢ to → (new.owner from).letters other ≡ (m.owner from).letters other
    pub copies : (k : ℕ) → (new.owner k).incumbent ≡ (m.owner k).incumbent
    pub weight : new.weight ≡ m.weight

  abbrev pub takes_of : (to : ℕ) → List Sent → List MailWork
  takes_of to xs = map (λ (x : Sent). take_in x.from to x.letter) xs

  pub takes_come : (to : ℕ) (xs : List Sent) (m : Mailed) → ((from : ℕ) → (m.owner from).letters to ≡ letters_of from xs) → (new : Mailed) × ComesByMail space guide (takes_of to xs) m new × TakenAll to xs m new
  takes_come to [] m letters = (m, refl, record { part = refl; parts = λ k off. refl; gone = letters; letters = λ from other off. refl; copies = λ k. refl; weight = refl })
  takes_come to (x ∷ xs) m letters =
      let own : (m.owner x.from).letters to ≡ x.letter ∷ letters_of x.from xs = letters x.from ∙ ap (λ b. cond b (x.letter ∷ letters_of x.from xs) (letters_of x.from xs)) (equal_self x.from) in
      let left : drop 1 ((m.owner x.from).letters to) ≡ letters_of x.from xs = ap (λ (l : List Letter). drop 1 l) own in
      let next : Mailed = mail_after space guide (take_in x.from to x.letter) m in
      let rest = takes_come to xs next (λ from. ⊎_elim
      (λ (at : from ≡ x.from). ap (λ k. (next.owner k).letters to) at ∙ take_pair x.from to x.letter m ∙ left ∙ ap (λ k. letters_of k xs) (sym at))
      (λ (off : from ≢ x.from). take_others x.from to x.letter m from to (inl off) ∙ letters from ∙ ap (λ b. cond b (x.letter ∷ letters_of from xs) (letters_of from xs)) (ne_eqb x.from from (λ e. off (sym e)))) (cases_eq from x.from)) in (
        rest.0,
        (own ∙ ap (λ (l : List Letter). x.letter ∷ l) (sym left), rest.1),
        record {
          part = rest.2.part ∙ ap (part_after guide xs) (take_part x.from to x.letter m);
          parts = λ k off. rest.2.parts k off ∙ take_parts x.from to x.letter m k off;
          gone = rest.2.gone;
          letters = λ from other off. rest.2.letters from other off ∙ take_others x.from to x.letter m from other (inr off);
          copies = λ k. rest.2.copies k ∙ take_copy x.from to x.letter m k;
          weight = rest.2.weight;
        },
      )

  takes_expand : (to : ℕ) (xs : List Sent) → mail_expansions (takes_of to xs) ≡ 0
  takes_expand to [] = refl
  takes_expand to (x ∷ xs) = takes_expand to xs

  takes_break : (to : ℕ) (xs : List Sent) → mail_broken (takes_of to xs) ≡ 0
  takes_break to [] = refl
  takes_break to (x ∷ xs) = takes_break to xs

  -- ---- the round

  module _ (owners : ℕ) (m : Mailed) (works : ℕ → List Work) (shares : ℕ → Owner) (takes : ℕ → List Sent) (round : IsRound space guide owners m works shares takes) where
    -- the first so many owners have worked
    abbrev worked : ℕ → Mailed
    worked k = record m { owner = λ i. cond (nat_lt i k) (shares i) (m.owner i) }

    worked_in : (k i : ℕ) → i < k → (worked k).owner i ≡ shares i
    worked_in k i less = ap (λ b. cond b (shares i) (m.owner i)) (lt-ltb i k less)

    worked_out : (k i : ℕ) → k ≤ i → (worked k).owner i ≡ m.owner i
    worked_out k i past = ap (λ b. cond b (shares i) (m.owner i)) (le-ltb i k past)

    abbrev alone_list : ℕ → List MailWork
    alone_list zero = []
    alone_list (suc k) = alone_list k ++ map (by_owner k) (works k)

    all_alone : (k : ℕ) → k ≤ owners → ComesByMail space guide (alone_list k) m (worked k)
    all_alone zero within = same_mailed (worked 0) m (λ i. worked_out 0 i (omega arith)) refl
    all_alone (suc k) within =
        let alone = round.alone k (omega arith) in
        let here : (worked k).owner k ≡ m.owner k = worked_out k k (omega arith) in
        let one = alone_comes k (works k) (worked k) (shares k) (subst (λ (o : Owner). ComesAlone space guide m.weight k (works k) o (shares k)) (sym here) alone) in
        let is : with_owner (worked k) k (shares k) ≡ worked (suc k) = same_mailed (with_owner (worked k) k (shares k)) (worked (suc k))
        (λ i. ⊎_elim (λ (at : i ≡ k). ap (λ j. (with_owner (worked k) k (shares k)).owner j) at ∙ owner_here (worked k) k (shares k) ∙ sym (worked_in (suc k) k (omega arith)) ∙ ap (λ j. (worked (suc k)).owner j) (sym at))
        (λ (off : i ≢ k). owner_else (worked k) k (shares k) i off ∙ ⊎_elim (λ (less : i < k). worked_in k i less ∙ sym (worked_in (suc k) i (omega arith)))
        (λ (past : k ≤ i). worked_out k i past ∙ sym (worked_out (suc k) i (omega arith))) (cases_lt i k)) (cases_eq i k)) refl in
        comes_append space guide (alone_list k) (map (by_owner k) (works k)) m (worked k) (worked (suc k)) (all_alone k (omega arith)) (subst (λ n. ComesByMail space guide (map (by_owner k) (works k)) (worked k) n) is one)

    alone_expansions : (k : ℕ) → mail_expansions (alone_list k) ≡ sum_below k (λ i. expansions (works i))
    alone_expansions zero = refl
    alone_expansions (suc k) = omega (arith, expansions_append (alone_list k) (map (by_owner k) (works k)), alone_expansions k, own_expansions k (works k))

    alone_broken : (k : ℕ) → mail_broken (alone_list k) ≡ sum_below k (λ i. broken_expansions (works i))
    alone_broken zero = refl
    alone_broken (suc k) = omega (arith, broken_append (alone_list k) (map (by_owner k) (works k)), alone_broken k, own_broken k (works k))

    abbrev all : Mailed
    all = worked owners

    -- the letters that were sent
    sent_is : (from to : ℕ) → to < owners → (all.owner from).letters to ≡ letters_of from (takes to)
    sent_is from to low = ⊎_elim (λ (less : from < owners). ap (λ (o : Owner). o.letters to) (worked_in owners from less) ∙ sym (round.whole from to less low))
        (λ (past : owners ≤ from). ap (λ (o : Owner). o.letters to) (worked_out owners from past) ∙ round.none_before from to ∙ sym (round.senders from to past)) (cases_lt from owners)

    abbrev take_list : ℕ → List MailWork
    take_list zero = []
    take_list (suc k) = take_list k ++ takes_of k (takes k)

    -- the first so many owners have taken their letters
    record HasTaken (k : ℕ) (new : Mailed) : Type 0 where
      pub comes : ComesByMail space guide (take_list k) all new
      pub part_in : (i : ℕ) → i < k → (new.owner i).part ≡ part_after guide (takes i) (all.owner i).part
      pub part_out : (i : ℕ) → k ≤ i → (new.owner i).part ≡ (all.owner i).part
      pub gone : (from to : ℕ) → to < k → (new.owner from).letters to ≡ []
      pub left : (from to : ℕ) → k ≤ to → (new.owner from).letters to ≡ (all.owner from).letters to
      pub copies : (i : ℕ) → (new.owner i).incumbent ≡ (all.owner i).incumbent
      pub weight : new.weight ≡ m.weight

    all_taken : (k : ℕ) → k ≤ owners → (new : Mailed) × HasTaken k new
    all_taken zero within = (
      all,
      record {
        comes = refl;
        part_in = λ i less. absurd (omega arith);
        part_out = λ i _. refl;
        gone = λ from to less. absurd (omega arith);
        left = λ from to _. refl;
        copies = λ i. refl;
        weight = refl;
      },
    )
    all_taken (suc k) within =
        let was = all_taken k (omega arith) in
        let h = was.1 in
        let one = takes_come k (takes k) was.0 (λ from. h.left from k (omega arith) ∙ sent_is from k (omega arith)) in
        let t = one.2 in (
          one.0,
          record {
            comes = comes_append space guide (take_list k) (takes_of k (takes k)) all was.0 one.0 h.comes one.1;
            part_in = λ i less. ⊎_elim
                (λ (at : i ≡ k). ap (λ j. (one.0.owner j).part) at ∙ t.part ∙ ap (part_after guide (takes k)) (h.part_out k (omega arith)) ∙ ap (λ j. part_after guide (takes j) (all.owner j).part) (sym at))
                (λ (off : i ≢ k). t.parts i off ∙ h.part_in i (omega arith)) (cases_eq i k);
            part_out = λ i past. t.parts i (λ e. omega arith) ∙ h.part_out i (omega arith);
            gone = λ from to less. ⊎_elim
                (λ (at : to ≡ k). ap (λ j. (one.0.owner from).letters j) at ∙ t.gone from)
                (λ (off : to ≢ k). t.letters from to off ∙ h.gone from to (omega arith)) (cases_eq to k);
            left = λ from to past. t.letters from to (λ e. omega arith) ∙ h.left from to (omega arith);
            copies = λ i. t.copies i ∙ h.copies i;
            weight = t.weight ∙ h.weight;
          },
        )

    -- no letter is left
    none_taken : (new : Mailed) → HasTaken owners new → (from to : ℕ) → (new.owner from).letters to ≡ []
    none_taken new h from to = ⊎_elim (λ (less : to < owners). h.gone from to less)
        (λ (past : owners ≤ to). h.left from to past ∙ ⊎_elim
        (λ (low : from < owners). ap (λ (o : Owner). o.letters to) (worked_in owners from low) ∙ none_far owners round.homes m.weight from to past (works from) (m.owner from) (shares from) (round.alone from low) (round.none_before from to))
        (λ (high : owners ≤ from). ap (λ (o : Owner). o.letters to) (worked_out owners from high) ∙ round.none_before from to) (cases_lt from owners)) (cases_lt to owners)

    take_expansions : (k : ℕ) → mail_expansions (take_list k) ≡ 0
    take_expansions zero = refl
    take_expansions (suc k) = omega (arith, expansions_append (take_list k) (takes_of k (takes k)), take_expansions k, takes_expand k (takes k))

    take_broken : (k : ℕ) → mail_broken (take_list k) ≡ 0
    take_broken zero = refl
    take_broken (suc k) = omega (arith, broken_append (take_list k) (takes_of k (takes k)), take_broken k, takes_break k (takes k))

    least_same : (k : ℕ) (one two : ℕ → Owner) → ((i : ℕ) → i < k → (one i).incumbent ≡ (two i).incumbent) → least_of k one ≡ least_of k two
    least_same zero one two same = refl
    least_same (suc k) one two same = λ i. lesser (least_same k one two (λ j less. same j (omega arith)) i) (same k (omega arith) i)

    pub after_round : (new : Mailed) × (list : List MailWork) × ComesByMail space guide list m new × IsAfterRound guide owners m shares takes new
        × (mail_expansions list ≡ sum_below owners (λ i. expansions (works i))) × (mail_broken list ≡ sum_below owners (λ i. broken_expansions (works i)))
    after_round =
        let taken = all_taken owners (omega arith) in
        let h = taken.1 in
        let list : List MailWork = alone_list owners ++ (take_list owners ++ agree owners ∷ []) in
        let new : Mailed = mail_after space guide (agree owners) taken.0 in
        let agreed_in : (i : ℕ) → i < owners → (new.owner i) ≡ record (taken.0.owner i) { incumbent = least_copy owners taken.0 } = λ i less. ap (λ b. cond b (record (taken.0.owner i) { incumbent = least_copy owners taken.0 }) (taken.0.owner i)) (lt-ltb i owners less) in
        let agreed_out : (i : ℕ) → owners ≤ i → (new.owner i) ≡ taken.0.owner i = λ i past. ap (λ b. cond b (record (taken.0.owner i) { incumbent = least_copy owners taken.0 }) (taken.0.owner i)) (le-ltb i owners past) in (
          new,
          list,
          comes_append space guide (alone_list owners) (take_list owners ++ agree owners ∷ []) m all new (all_alone owners (omega arith))
              (comes_append space guide (take_list owners) (agree owners ∷ []) all taken.0 new h.comes (tt, refl)),
          record {
            parts = λ i less. ap (λ (o : Owner). o.part) (agreed_in i less) ∙ h.part_in i less ∙ ap (λ (o : Owner). part_after guide (takes i) o.part) (worked_in owners i less);
            rest = λ i past. ap (λ (o : Owner). o.part) (agreed_out i past) ∙ h.part_out i past ∙ ap (λ (o : Owner). o.part) (worked_out owners i past);
            none_left = λ from to. ⊎_elim (λ (less : from < owners). ap (λ (o : Owner). o.letters to) (agreed_in from less) ∙ none_taken taken.0 h from to)
                (λ (past : owners ≤ from). ap (λ (o : Owner). o.letters to) (agreed_out from past) ∙ none_taken taken.0 h from to) (cases_lt from owners);
            agreed = λ i less. ap (λ (o : Owner). o.incumbent) (agreed_in i less) ∙ least_same owners taken.0.owner shares (λ j low. h.copies j ∙ ap (λ (o : Owner). o.incumbent) (worked_in owners j low));
            weight = h.weight;
          },
          omega (arith, expansions_append (alone_list owners) (take_list owners ++ agree owners ∷ []), expansions_append (take_list owners) (agree owners ∷ []), alone_expansions owners, take_expansions owners),
          omega (arith, broken_append (alone_list owners) (take_list owners ++ agree owners ∷ []), broken_append (take_list owners) (agree owners ∷ []), alone_broken owners, take_broken owners),
        )

pub rounds_are_work : RoundsAreWork
rounds_are_work space guide owners m works shares takes round = after_round space guide owners m works shares takes round
