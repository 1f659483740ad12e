-- Each piece of an owner's work, and what it does to the shares of all.
use Rattle.std.proofs.Common.{◌≡◌, ◌≢◌, ℕ, ◌+◌, ◌*◌, ◌<◌, ◌≤◌, Bool, true, false, cond, List, [], ◌∷◌, ◌++◌, length, take, Option, Some, None, Contains, refl, sym, ap, ◌∙◌, subst, arith, ◌⊎◌, inl, inr, ⊎_elim, mul-add, mul-one}
use Rattle.std.specs.List.{AllByRecursion}
use Rattle.std.proofs.lemmas.Bool.{cases_eq}
use Rattle.std.proofs.lemmas.List.Elements.{Contains-append_cases}
use Rattle.pb_model.specs.declared.row.Status.{Status}
use Rattle.pb_model.specs.declared.row.Status.TheVariants.{Opened, Closed, Cut}
use Rattle.pb_model.specs.declared.row.Row.{Row}
use Rattle.pb_model.specs.declared.row.Succ.{Succ}
use Rattle.pb_model.specs.Space.{Space, Steps, steps, IsProper}
use Rattle.pb_model.specs.Guide.{Guide}
use Rattle.pb_model.specs.Store.{Store, row_at, is_place_of, HasRowWithin, AtMost, MayBeCut, lesser}
use Rattle.pb_model.specs.Work.{Work, expand, break_off, cut, take_goal, lower, reopen, row_after_offers, with_status, row_after_status, row_after, incumbent_after, weight_after, g_of, g_before, store_after, May, expansions, broken_expansions}
use Rattle.pb_model.proofs.Callers.{at_most_self, lesser_at_most, goal_may_be_cut, all_more, all_take, are_steps, IsStep, some_row, place_of, IsFresh, Left, offers_leave, offers_cover, Change, same, fresh, marked, Effect}
use Rattle.pb_mail.specs.declared.letter.Letter.{Letter}
use Rattle.pb_hashed.specs.Mailed.{Owner, Mailed, all_rows, store_of, own_store, IsOffer, IsSoundMailed, MailCostsAtMost}
use Rattle.pb_hashed.specs.MailWork.{letter_for, letters_out, sent_by, IsOwnWork, owner_after, with_owner}
use Rattle.pb_hashed.proofs.Changes.{MailEffect}
use Rattle.pb_hashed.proofs.Sending.{IsOf, out_is, out_has, contains_none}
use Rattle.pb_hashed.proofs.OwnWork.{owner_here, owner_else, own_here, own_found, own_effect}

module _ (space : Space) (guide : Guide) where
  -- the store after the work, if the row that it is on has this g
  abbrev pub after_at : Work → ℕ → Store → Store
  after_at x g w = record { rows = λ home state. row_after space guide x g w.incumbent home state (w.rows home state); incumbent = incumbent_after x g w.incumbent; weight = weight_after x w.weight }

  module _ (own : ℕ) (w : Store) (row : Row) (found : row_at guide w own ≡ Some row) where
    here : (home state : ℕ) → home ≡ guide.home own → state ≡ own → w.rows home state ≡ Some row
    here home state a b = (λ i. w.rows (a i) (b i)) ∙ found

    status_change : (few : ℕ) (status : Status) (home state : ℕ) (b : Bool) → is_place_of guide own home state ≡ b
        → Change space guide own row status few home state (w.rows home state) (row_after_status guide own status home state (w.rows home state))
    status_change few status home state true e =
        let at = place_of guide own home state e in marked at.0 at.1 (ap (λ b. cond b (with_status status (w.rows home state)) (w.rows home state)) e ∙ ap (with_status status) (here home state at.0 at.1))
    status_change few status home state false e = same (ap (λ b. cond b (with_status status (w.rows home state)) (w.rows home state)) e)

    -- the row of the state, after the expansion's offers, is still that row
    closed : (home state : ℕ) (b : Bool) → is_place_of guide own home state ≡ b
        → row_after space guide (expand own) row.g w.incumbent home state (w.rows home state)
        ≡ cond b (with_status Closed (row_after_offers guide own row.g (steps space own) home state (w.rows home state))) (row_after_offers guide own row.g (steps space own) home state (w.rows home state))
    closed home state b e = ap (λ b. cond b (with_status Closed (row_after_offers guide own row.g (steps space own) home state (w.rows home state))) (row_after_offers guide own row.g (steps space own) home state (w.rows home state))) e

    pub expand_at : space.is_goal own ≡ false → Effect space guide 1 w (after_at (expand own) row.g w)
    expand_at no_goal = record {
      own = own;
      row = row;
      found = found;
      status = Closed;
      changes = λ home state. change home state (is_place_of guide own home state) refl (offers_leave space guide own row.g (steps space own) home state (w.rows home state) (are_steps space own));
      closes = λ _. (no_goal, all_more _ _ (λ y h. within y (is_place_of guide own (guide.home y.state) y.state) refl h) (steps space own) (offers_cover space guide own row.g (steps space own) w.rows (are_steps space own)));
      cuts = λ _ (e : Closed ≡ Cut). cc;
      falls = at_most_self w.incumbent;
      weight = refl;
      incumbent = inl refl;
    }
      where
        change : (home state : ℕ) (b : Bool) → is_place_of guide own home state ≡ b → Left space guide own row.g home state (w.rows home state) (row_after_offers guide own row.g (steps space own) home state (w.rows home state))
            → Change space guide own row Closed 1 home state (w.rows home state) (row_after space guide (expand own) row.g w.incumbent home state (w.rows home state))
        change home state true e (inl k) =
            let at = place_of guide own home state e in
            marked at.0 at.1 (closed home state true e ∙ ap (with_status Closed) (k ∙ here home state at.0 at.1))
        change home state true e (inr f) =
            let at = place_of guide own home state e in
            let less = f.better row (here home state at.0 at.1) in
            absurd (omega (arith, f.sum, less))
        change home state false e (inl k) = same (closed home state false e ∙ k)
        change home state false e (inr f) = fresh refl (record { row = f.row; is = closed home state false e ∙ f.is; opened = f.opened; parent = f.parent; cost = f.cost; step = f.step; at_home = f.at_home; sum = f.sum; estimate = f.estimate; better = f.better })

        within : (y : Succ) (b : Bool) → is_place_of guide own (guide.home y.state) y.state ≡ b
            → ((q : Row) × (row_after_offers guide own row.g (steps space own) (guide.home y.state) y.state (w.rows (guide.home y.state) y.state) ≡ Some q) × (q.g ≤ row.g + y.cost)) → HasRowWithin guide (after_at (expand own) row.g w) y.state (row.g + y.cost)
        within y true e h = (record h.0 { status = Closed }, closed (guide.home y.state) y.state true e ∙ ap (with_status Closed) h.1, h.2)
        within y false e h = (h.0, closed (guide.home y.state) y.state false e ∙ h.1, h.2)

    pub break_at : (offers : ℕ) → Effect space guide 1 w (after_at (break_off own offers) row.g w)
    break_at offers = record {
      own = own;
      row = row;
      found = found;
      status = Opened;
      changes = λ home state. kept home state (offers_leave space guide own row.g (take offers (steps space own)) home state (w.rows home state) (all_take _ offers (steps space own) (are_steps space own)));
      closes = λ (e : Opened ≡ Closed). cc;
      cuts = λ _ (e : Opened ≡ Cut). cc;
      falls = at_most_self w.incumbent;
      weight = refl;
      incumbent = inl refl;
    }
      where
        kept : (home state : ℕ) → Left space guide own row.g home state (w.rows home state) (row_after space guide (break_off own offers) row.g w.incumbent home state (w.rows home state))
            → Change space guide own row Opened 1 home state (w.rows home state) (row_after space guide (break_off own offers) row.g w.incumbent home state (w.rows home state))
        kept home state (inl e) = same e
        kept home state (inr f) = fresh refl f

    pub cut_at : MayBeCut w.weight w.incumbent row.g row.estimate → Effect space guide 0 w (after_at (cut own) row.g w)
    cut_at may = record {
      own = own;
      row = row;
      found = found;
      status = Cut;
      changes = λ home state. status_change 0 Cut home state (is_place_of guide own home state) refl;
      closes = λ (e : Cut ≡ Closed). cc;
      cuts = λ _ _. may;
      falls = at_most_self w.incumbent;
      weight = refl;
      incumbent = inl refl;
    }

    pub goal_at : space.is_goal own ≡ true → Effect space guide 0 w (after_at (take_goal own) row.g w)
    goal_at goal = record {
      own = own;
      row = row;
      found = found;
      status = Cut;
      changes = λ home state. status_change 0 Cut home state (is_place_of guide own home state) refl;
      closes = λ (e : Cut ≡ Closed). cc;
      cuts = λ heavy _. goal_may_be_cut w.weight w.incumbent row.g row.estimate heavy;
      falls = lesser_at_most w.incumbent (Some row.g);
      weight = refl;
      incumbent = inr (goal, refl);
    }

module _ (space : Space) (guide : Guide) (greatest_cost : ℕ) (proper : IsProper space greatest_cost) (m : Mailed) (l : IsSoundMailed space guide m) (i : ℕ) where
  abbrev w : Store
  w = own_store m i

  -- the owner's share after work on a row with this g
  abbrev owner_at : Work → ℕ → Owner
  owner_at x g = record {
    part = (after_at space guide x g w).rows i;
    incumbent = (after_at space guide x g w).incumbent;
    letters = λ to. (m.owner i).letters to ++ sent_by space guide x g i to;
  }

  -- each letter for a successor is an offer
  offers_of : (own : ℕ) (row : Row) → row_at guide w own ≡ Some row → (to : ℕ) (letter : Letter) → IsOf space guide own row.g i to letter → (to ≡ guide.home letter.state) × IsOffer space guide m letter
  offers_of own row found to letter is = (
    is.0,
    record {
      parent_row = row;
      cost = is.2.0;
      found = ap (λ s. row_at guide (store_of m None) s) is.1 ∙ (own_found m i (guide.home own) own row found).1;
      step = subst (λ s. Steps space s letter.action letter.state is.2.0) (sym is.1) is.2.1;
      cheaper = let e = is.2.2 in omega arith;
    },
  )

  -- with the g of the row that the work is on
  at_g : (x : Work) (g : ℕ) → g_before guide w x ≡ g → (P : Mailed → Type 0) → P (with_owner m i (owner_at x g)) → P (with_owner m i (owner_after space guide i x m))
  at_g x g is P p = subst (λ k. P (with_owner m i (owner_at x k))) (sym is) p

  pub piece_effect : (x : Work) → IsOwnWork x → May space guide x w → MailEffect space guide m (with_owner m i (owner_after space guide i x m))
  unfolding expand_at break_at cut_at goal_at
  piece_effect (expand own) mine may =
      let row : Row = may.0.0 in
      at_g (expand own) row.g (ap g_of may.0.1) (MailEffect space guide m)
      (own_effect space guide greatest_cost proper m l i 1 (after_at space guide (expand own) row.g w) (λ to. letters_out guide own row.g i to (steps space own)) (expand_at space guide own w row may.0.1 may.1)
      (λ _ y there off. out_has space guide own row.g i (steps space own) y there off)
      (λ to letter there. offers_of own row may.0.1 to letter (out_is space guide own row.g i (steps space own) to letter (are_steps space own) there)))
  piece_effect (break_off own offers) mine may =
      let row : Row = may.0.0 in
      at_g (break_off own offers) row.g (ap g_of may.0.1) (MailEffect space guide m)
      (own_effect space guide greatest_cost proper m l i 1 (after_at space guide (break_off own offers) row.g w) (λ to. letters_out guide own row.g i to (take offers (steps space own))) (break_at space guide own w row may.0.1 offers)
      (λ (e : Opened ≡ Closed). cc)
      (λ to letter there. offers_of own row may.0.1 to letter (out_is space guide own row.g i (take offers (steps space own)) to letter (all_take _ offers (steps space own) (are_steps space own)) there)))
  piece_effect (cut own) mine may =
      let row : Row = may.0 in
      at_g (cut own) row.g (ap g_of may.1) (MailEffect space guide m)
      (own_effect space guide greatest_cost proper m l i 0 (after_at space guide (cut own) row.g w) (λ to. []) (cut_at space guide own w row may.1 may.3) (λ (e : Cut ≡ Closed). cc) (λ to letter there. contains_none letter there))
  piece_effect (take_goal own) mine may =
      let row : Row = may.0.0 in
      at_g (take_goal own) row.g (ap g_of may.0.1) (MailEffect space guide m)
      (own_effect space guide greatest_cost proper m l i 0 (after_at space guide (take_goal own) row.g w) (λ to. []) (goal_at space guide own w row may.0.1 may.1) (λ (e : Cut ≡ Closed). cc) (λ to letter there. contains_none letter there))
  piece_effect (lower cost) mine may = absurd mine
  piece_effect (reopen x) mine may = absurd mine

  -- ---- costs

  module _ (count : ℕ) (most : MailCostsAtMost m (greatest_cost * count)) where
    own_most : (own : ℕ) (row : Row) → row_at guide w own ≡ Some row → row.g ≤ greatest_cost * count
    own_most own row found = most.rows (guide.home own) own row (own_found m i (guide.home own) own row found).1

    more : (few g : ℕ) → g ≤ greatest_cost * count → g ≤ greatest_cost * (count + few)
    more few g h = omega (arith, mul-add greatest_cost count few)

    one_more : (own : ℕ) (row : Row) → row_at guide w own ≡ Some row → (action to cost g : ℕ) → Steps space own action to cost → g ≡ row.g + cost → g ≤ greatest_cost * (count + 1)
    one_more own row found action to cost g step is = omega (arith, own_most own row found, proper.bounded own action to cost step, is, mul-add greatest_cost count 1, mul-one greatest_cost)

    own_costs : (few : ℕ) (v : Store) (posts : (to : ℕ) → List Letter) → Effect space guide few w v → ((to : ℕ) (letter : Letter) → Contains (posts to) letter → letter.g ≤ greatest_cost * (count + few))
        → MailCostsAtMost (with_owner m i (record { part = v.rows i; incumbent = v.incumbent; letters = λ to. (m.owner i).letters to ++ posts to })) (greatest_cost * (count + few))
    own_costs few v posts f small = record {
      rows = λ home state r is. ⊎_elim
          (λ (at : home ≡ i). go state r (f.changes i state) (sym (ap (λ h. all_rows n h state) at ∙ ap (λ (k : Owner). k.part state) (owner_here m i o)) ∙ is))
          (λ (off : home ≢ i). more few r.g (most.rows home state r (sym (ap (λ (k : Owner). k.part state) (owner_else m i o home off)) ∙ is))) (cases_eq home i);
      letters = λ from to letter there. ⊎_elim
          (λ (at : from ≡ i).
          which to letter (Contains-append_cases ((m.owner i).letters to) (posts to) letter (subst (λ (xs : List Letter). Contains xs letter) (ap (λ k. (n.owner k).letters to) at ∙ ap (λ (k : Owner). k.letters to) (owner_here m i o)) there)))
          (λ (off : from ≢ i). more few letter.g (most.letters from to letter (subst (λ (xs : List Letter). Contains xs letter) (ap (λ (k : Owner). k.letters to) (owner_else m i o from off)) there))) (cases_eq from i);
    }
      where
        o : Owner
        o = record { part = v.rows i; incumbent = v.incumbent; letters = λ to. (m.owner i).letters to ++ posts to }

        n : Mailed
        n = with_owner m i o

        which : (to : ℕ) (letter : Letter) → Contains ((m.owner i).letters to) letter ⊎ Contains (posts to) letter → letter.g ≤ greatest_cost * (count + few)
        which to letter (inl old) = more few letter.g (most.letters i to letter old)
        which to letter (inr new) = small to letter new

        go : (state : ℕ) (r : Row) → Change space guide f.own f.row f.status few i state (w.rows i state) (v.rows i state) → v.rows i state ≡ Some r → r.g ≤ greatest_cost * (count + few)
        go state r (same e) is = more few r.g (most.rows i state r (sym (own_here m i state) ∙ (sym e ∙ is)))
        go state r (fresh one k) is =
            subst (λ q. r.g ≤ greatest_cost * (count + q)) (sym one)
            (one_more f.own f.row f.found k.row.action state k.cost r.g k.step (ap (λ (x : Row). x.g) (some_row r k.row (sym is ∙ k.is)) ∙ k.sum))
        go state r (marked a b e) is = more few r.g (omega (arith, own_most f.own f.row f.found, ap (λ (x : Row). x.g) (some_row r (record f.row { status = f.status }) (sym is ∙ e))))

    pub piece_costs : (x : Work) → IsOwnWork x → May space guide x w → MailCostsAtMost (with_owner m i (owner_after space guide i x m)) (greatest_cost * (count + (expansions (x ∷ []) + broken_expansions (x ∷ []))))
    unfolding expand_at break_at cut_at goal_at
    piece_costs (expand own) mine may =
        let row : Row = may.0.0 in
        at_g (expand own) row.g (ap g_of may.0.1) (λ k. MailCostsAtMost k (greatest_cost * (count + 1)))
        (own_costs 1 (after_at space guide (expand own) row.g w) (λ to. letters_out guide own row.g i to (steps space own)) (expand_at space guide own w row may.0.1 may.1)
        (λ to letter there. let k = out_is space guide own row.g i (steps space own) to letter (are_steps space own) there in one_more own row may.0.1 letter.action letter.state k.2.0 letter.g k.2.1 k.2.2))
    piece_costs (break_off own offers) mine may =
        let row : Row = may.0.0 in
        at_g (break_off own offers) row.g (ap g_of may.0.1) (λ k. MailCostsAtMost k (greatest_cost * (count + 1)))
        (own_costs 1 (after_at space guide (break_off own offers) row.g w) (λ to. letters_out guide own row.g i to (take offers (steps space own))) (break_at space guide own w row may.0.1 offers)
        (λ to letter there. let k = out_is space guide own row.g i (take offers (steps space own)) to letter (all_take _ offers (steps space own) (are_steps space own)) there in one_more own row may.0.1 letter.action letter.state k.2.0 letter.g k.2.1 k.2.2))
    piece_costs (cut own) mine may =
        let row : Row = may.0 in
        at_g (cut own) row.g (ap g_of may.1) (λ k. MailCostsAtMost k (greatest_cost * (count + 0)))
        (own_costs 0 (after_at space guide (cut own) row.g w) (λ to. []) (cut_at space guide own w row may.1 may.3) (λ to letter there. contains_none letter there))
    piece_costs (take_goal own) mine may =
        let row : Row = may.0.0 in
        at_g (take_goal own) row.g (ap g_of may.0.1) (λ k. MailCostsAtMost k (greatest_cost * (count + 0)))
        (own_costs 0 (after_at space guide (take_goal own) row.g w) (λ to. []) (goal_at space guide own w row may.0.1 may.1) (λ to letter there. contains_none letter there))
    piece_costs (lower cost) mine may = absurd mine
    piece_costs (reopen x) mine may = absurd mine
