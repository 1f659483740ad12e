-- A letter is taken in: its state is offered, and the letter is gone.
use Rattle.std.proofs.Common.{◌≡◌, ◌≢◌, ℕ, ◌+◌, ◌*◌, ◌<◌, ◌≤◌, ◌==◌, Bool, true, false, cond, nat_lt, List, [], ◌∷◌, ◌++◌, length, drop, Option, Some, None, Contains, refl, sym, ap, ◌∙◌, subst, arith, ◌⊎◌, inl, inr, ⊎_elim}
use Rattle.std.proofs.lemmas.Bool.{cases_eq, ne_eqb}
use Rattle.pb_model.specs.declared.row.Estimate.{Estimate}
use Rattle.pb_model.specs.declared.row.Status.{Status}
use Rattle.pb_model.specs.declared.row.Status.TheVariants.{Opened, Closed, Cut}
use Rattle.pb_model.specs.declared.row.Row.{Row}
use Rattle.pb_model.specs.Space.{Space, Steps, IsProper}
use Rattle.pb_model.specs.Guide.{Guide}
use Rattle.pb_model.specs.Store.{Part, Store, row_at, HasRowWithin, AtMost}
use Rattle.pb_model.specs.Sound.{HasParent}
use Rattle.pb_model.specs.Work.{offered_row}
use Rattle.pb_model.proofs.Callers.{equal, equal_self, below, not_below, at_most_self, some_row}
use Rattle.pb_mail.specs.declared.letter.Letter.{Letter}
use Rattle.pb_hashed.specs.Mailed.{Owner, Mailed, all_rows, store_of, IsOffer, HasLetterWithin, IsSoundMailed, MailCostsAtMost}
use Rattle.pb_hashed.specs.MailWork.{MailWork, take_in, part_with, without_first, without_letter, with_owner, with_row_in, mail_after, MayMail}
use Rattle.pb_hashed.proofs.Changes.{MailChange, same, fresh, marked, MailEffect, Covers, effect_sound, keeps_row}
use Rattle.pb_hashed.proofs.Sending.{contains_head, contains_tail, contains_cases, contains_none}
use Rattle.pb_hashed.proofs.OwnWork.{owner_here, owner_else}

-- ---- its state is offered

-- what an offer leaves: a row that is no dearer than offered, and than the one before
module _ (g : ℕ) (estimate : Estimate) (parent : Option ℕ) (action : ℕ) where
  abbrev pub put : Option Row → Row
  put old = offered_row g estimate parent action old

  pub put_within : (old : Option Row) → (put old).g ≤ g
  put_within None = omega arith
  put_within (Some r) = go (nat_lt g r.g) refl
    where
      go : (b : Bool) → nat_lt g r.g ≡ b → (cond (nat_lt g r.g) (record { g = g; estimate = r.estimate; parent = parent; action = action; status = Opened }) r).g ≤ g
      go true k = subst (λ (b : Bool). (cond b (record { g = g; estimate = r.estimate; parent = parent; action = action; status = Opened }) r).g ≤ g) (sym k) (omega arith)
      go false k = subst (λ (b : Bool). (cond b (record { g = g; estimate = r.estimate; parent = parent; action = action; status = Opened }) r).g ≤ g) (sym k) (not_below g r.g k)

  -- the row before is left, or the offered one is there
  pub data Put (old : Option Row) : Type 0 where
    left : ◌≡◌ {A = Option Row} (Some (put old)) old → Put old
    new : (put old).g ≡ g → (put old).status ≡ Opened → (put old).parent ≡ parent → (put old).action ≡ action
        → ((put old).estimate ≡ estimate) ⊎ ((before : Row) × (old ≡ Some before) × ((put old).estimate ≡ before.estimate)) → ((before : Row) → old ≡ Some before → (put old).g ≤ before.g) → Put old

  pub put_cases : (old : Option Row) → Put old
  put_cases None = new refl refl refl refl (inl refl) (λ q (is : ◌≡◌ {A = Option Row} None (Some q)). cc)
  put_cases (Some r) = go (nat_lt g r.g) refl
    where
      lowered : Row
      lowered = record { g = g; estimate = r.estimate; parent = parent; action = action; status = Opened }

      go : (b : Bool) → nat_lt g r.g ≡ b → Put (Some r)
      go true k =
          let is : put (Some r) ≡ lowered = ap (λ b. cond b lowered r) k in
          new (ap (λ (x : Row). x.g) is) (ap (λ (x : Row). x.status) is) (ap (λ (x : Row). x.parent) is) (ap (λ (x : Row). x.action) is) (inr (r, refl, ap (λ (x : Row). x.estimate) is))
          (λ q was. let less = below g r.g k in omega (arith, ap (λ (x : Row). x.g) is, ap (λ (x : Row). x.g) (some_row r q was)))
      go false k = left (ap (λ b. Some (cond b lowered r)) k)

module _ (space : Space) (guide : Guide) (greatest_cost : ℕ) (proper : IsProper space greatest_cost) (m : Mailed) (l : IsSoundMailed space guide m) (from to : ℕ) (letter : Letter)
    (there : Contains ((m.owner from).letters to) letter) where
  abbrev o : Owner
  o = record (m.owner to) { part = part_with guide letter (m.owner to).part }

  abbrev n : Mailed
  n = with_row_in guide to letter m

  offered : (to ≡ guide.home letter.state) × IsOffer space guide m letter
  offered = l.offered from to letter there

  abbrev set : Option Row → Row
  set old = offered_row letter.g (guide.estimate letter.state) (Some letter.parent) letter.action old

  abbrev old_row : Option Row
  old_row = (m.owner to).part letter.state

  row_here : all_rows n to letter.state ≡ Some (set old_row)
  row_here = ap (λ (k : Owner). k.part letter.state) (owner_here m to o) ∙ ap (λ b. cond b (Some (set old_row)) old_row) (equal_self letter.state)

  row_else : (state : ℕ) → state ≢ letter.state → all_rows n to state ≡ all_rows m to state
  row_else state off =
      ap (λ (k : Owner). k.part state) (owner_here m to o)
      ∙ ap (λ b. cond b (Some (offered_row letter.g (guide.estimate state) (Some letter.parent) letter.action ((m.owner to).part state))) ((m.owner to).part state)) (ne_eqb state letter.state off)

  change_here : MailChange space guide m n to letter.state
  change_here = go (put_cases letter.g (guide.estimate letter.state) (Some letter.parent) letter.action old_row)
    where
      go : Put letter.g (guide.estimate letter.state) (Some letter.parent) letter.action old_row → MailChange space guide m n to letter.state
      go (left e) = same (row_here ∙ e)
      go (new g_is opened parent action estimate better) =
          let offer = offered.1 in
          fresh (set old_row) row_here opened offered.0 (proper.to_state letter.parent letter.action letter.state offer.cost offer.step) (told estimate)
          (record {
            parent = letter.parent;
            parent_row = offer.parent_row;
            cost = offer.cost;
            named = parent;
            found = offer.found;
            step = subst (λ a. Steps space letter.parent a letter.state offer.cost) (sym action) offer.step;
            cheaper = let k = offer.cheaper in omega arith;
          })
          better
        where
          told : ((set old_row).estimate ≡ guide.estimate letter.state) ⊎ ((before : Row) × (old_row ≡ Some before) × ((set old_row).estimate ≡ before.estimate)) → (set old_row).estimate ≡ guide.estimate letter.state
          told (inl h) = h
          told (inr h) = h.2 ∙ (l.place to letter.state h.0 h.1).2

  -- nothing but the rows of this owner changes
  pub letters_same : (k other : ℕ) → (n.owner k).letters other ≡ (m.owner k).letters other
  letters_same k other = ⊎_elim (λ (at : k ≡ to). ap (λ j. (n.owner j).letters other) at ∙ ap (λ (x : Owner). x.letters other) (owner_here m to o) ∙ ap (λ j. (m.owner j).letters other) (sym at))
      (λ (off : k ≢ to). ap (λ (x : Owner). x.letters other) (owner_else m to o k off)) (cases_eq k to)

  incumbent_same : (k : ℕ) → (n.owner k).incumbent ≡ (m.owner k).incumbent
  incumbent_same k = ⊎_elim (λ (at : k ≡ to). ap (λ j. (n.owner j).incumbent) at ∙ ap (λ (x : Owner). x.incumbent) (owner_here m to o) ∙ ap (λ j. (m.owner j).incumbent) (sym at))
      (λ (off : k ≢ to). ap (λ (x : Owner). x.incumbent) (owner_else m to o k off)) (cases_eq k to)

  pub offer_effect : MailEffect space guide m n
  offer_effect = record {
    changes = λ home state. ⊎_elim
        (λ (at : home ≡ to). subst (λ h. MailChange space guide m n h state) (sym at)
        (⊎_elim (λ (is : state ≡ letter.state). subst (MailChange space guide m n to) (sym is) change_here) (λ (off : state ≢ letter.state). same (row_else state off)) (cases_eq state letter.state)))
        (λ (off : home ≢ to). same (ap (λ (k : Owner). k.part state) (owner_else m to o home off))) (cases_eq home to);
    sent = λ k other x has. inl (subst (λ (xs : List Letter). Contains xs x) (letters_same k other) has);
    kept = λ k x has. inl (subst (λ (xs : List Letter). Contains xs x) (sym (letters_same k (guide.home x.state))) has);
    falls = λ k. subst (λ u. AtMost u (m.owner k).incumbent) (sym (incumbent_same k)) (at_most_self (m.owner k).incumbent);
    shown = λ k cost is. inl (k, cost, sym (incumbent_same k) ∙ is, omega arith);
    weight = refl;
  }

  -- the letter's state has a row that is no dearer
  pub offer_within : HasRowWithin guide (store_of n None) letter.state letter.g
  offer_within = (set old_row, ap (λ h. all_rows n h letter.state) (sym offered.0) ∙ row_here, put_within letter.g (guide.estimate letter.state) (Some letter.parent) letter.action old_row)

  pub offer_costs : (most : ℕ) → MailCostsAtMost m most → MailCostsAtMost n most
  offer_costs most h = record {
    rows = λ home state r is. go home state r is (offer_effect.changes home state);
    letters = λ k other x has. h.letters k other x (subst (λ (xs : List Letter). Contains xs x) (letters_same k other) has);
  }
    where
      go : (home state : ℕ) (r : Row) → all_rows n home state ≡ Some r → MailChange space guide m n home state → r.g ≤ most
      go home state r is c = ⊎_elim
          (λ (at : home ≡ to). ⊎_elim
          (λ (here : state ≡ letter.state).
          let e = some_row (set old_row) r (sym row_here ∙ (λ i. all_rows n (sym at i) (sym here i)) ∙ is) in
          let k = h.letters from to letter there in
          let p = put_within letter.g (guide.estimate letter.state) (Some letter.parent) letter.action old_row in omega (arith, ap (λ (x : Row). x.g) e))
          (λ (off : state ≢ letter.state). h.rows to state r (sym (row_else state off) ∙ (ap (λ j. all_rows n j state) (sym at) ∙ is))) (cases_eq state letter.state))
          (λ (off : home ≢ to). h.rows home state r (sym (ap (λ (k : Owner). k.part state) (owner_else m to o home off)) ∙ is)) (cases_eq home to)

-- ---- the letter is gone

module _ (space : Space) (guide : Guide) (m : Mailed) (from to : ℕ) (letter : Letter) (at_home : to ≡ guide.home letter.state)
    (first : (m.owner from).letters to ≡ letter ∷ drop 1 ((m.owner from).letters to)) (has : HasRowWithin guide (store_of m None) letter.state letter.g) where
  abbrev gone : Owner
  gone = without_first (m.owner from) to

  abbrev after : Mailed
  after = without_letter from to m

  part_same : (home state : ℕ) → all_rows after home state ≡ all_rows m home state
  part_same home state = ⊎_elim (λ (at : home ≡ from). ap (λ j. all_rows after j state) at ∙ ap (λ (k : Owner). k.part state) (owner_here m from gone) ∙ ap (λ j. all_rows m j state) (sym at))
      (λ (off : home ≢ from). ap (λ (k : Owner). k.part state) (owner_else m from gone home off)) (cases_eq home from)

  copy_same : (k : ℕ) → (after.owner k).incumbent ≡ (m.owner k).incumbent
  copy_same k = ⊎_elim (λ (at : k ≡ from). ap (λ j. (after.owner j).incumbent) at ∙ ap (λ (x : Owner). x.incumbent) (owner_here m from gone) ∙ ap (λ j. (m.owner j).incumbent) (sym at))
      (λ (off : k ≢ from). ap (λ (x : Owner). x.incumbent) (owner_else m from gone k off)) (cases_eq k from)

  -- the letters of this pair lose their first, all others stay
  letters_pair : (after.owner from).letters to ≡ drop 1 ((m.owner from).letters to)
  letters_pair = ap (λ (k : Owner). k.letters to) (owner_here m from gone) ∙ ap (λ b. cond b (drop 1 ((m.owner from).letters to)) ((m.owner from).letters to)) (equal_self to)

  letters_to_other : (other : ℕ) → other ≢ to → (after.owner from).letters other ≡ (m.owner from).letters other
  letters_to_other other off = ap (λ (k : Owner). k.letters other) (owner_here m from gone) ∙ ap (λ b. cond b (drop 1 ((m.owner from).letters other)) ((m.owner from).letters other)) (ne_eqb other to off)

  letters_of_other : (k other : ℕ) → k ≢ from → (after.owner k).letters other ≡ (m.owner k).letters other
  letters_of_other k other off = ap (λ (x : Owner). x.letters other) (owner_else m from gone k off)

  fewer : (k other : ℕ) (x : Letter) → Contains ((after.owner k).letters other) x → Contains ((m.owner k).letters other) x
  fewer k other x h = ⊎_elim
      (λ (at : k ≡ from). ⊎_elim
      (λ (is : other ≡ to).
      subst (λ (p : ℕ × ℕ). Contains ((m.owner p.0).letters p.1) x) (λ i. (sym at i, sym is i))
      (subst (λ (xs : List Letter). Contains xs x) (sym first)
      (contains_tail letter x (drop 1 ((m.owner from).letters to)) (subst (λ (xs : List Letter). Contains xs x) ((λ i. (after.owner (at i)).letters (is i)) ∙ letters_pair) h))))
      (λ (off : other ≢ to). subst (λ j. Contains ((m.owner j).letters other) x) (sym at) (subst (λ (xs : List Letter). Contains xs x) (ap (λ j. (after.owner j).letters other) at ∙ letters_to_other other off) h))
      (cases_eq other to))
      (λ (off : k ≢ from). subst (λ (xs : List Letter). Contains xs x) (letters_of_other k other off) h) (cases_eq k from)

  -- each letter but this one is still there
  rest : (k other : ℕ) (x : Letter) → Contains ((m.owner k).letters other) x → Contains ((after.owner k).letters other) x ⊎ (letter ≡ x)
  rest k other x h = ⊎_elim
      (λ (at : k ≡ from). ⊎_elim
      (λ (is : other ≡ to).
      go at is (contains_cases letter (drop 1 ((m.owner from).letters to)) x (subst (λ (xs : List Letter). Contains xs x) ((λ i. (m.owner (at i)).letters (is i)) ∙ first) h)))
      (λ (off : other ≢ to). inl (subst (λ j. Contains ((after.owner j).letters other) x) (sym at) (subst (λ (xs : List Letter). Contains xs x) (sym (letters_to_other other off)) (subst (λ j. Contains ((m.owner j).letters other) x) at h))))
      (cases_eq other to))
      (λ (off : k ≢ from). inl (subst (λ (xs : List Letter). Contains xs x) (sym (letters_of_other k other off)) h)) (cases_eq k from)
    where
      go : k ≡ from → other ≡ to → (letter ≡ x) ⊎ Contains (drop 1 ((m.owner from).letters to)) x → Contains ((after.owner k).letters other) x ⊎ (letter ≡ x)
      go at is (inl e) = inr e
      go at is (inr more) = inl (subst (λ (p : ℕ × ℕ). Contains ((after.owner p.0).letters p.1) x) (λ i. (sym at i, sym is i)) (subst (λ (xs : List Letter). Contains xs x) (sym letters_pair) more))

  has_after : HasRowWithin guide (store_of after None) letter.state letter.g
  has_after = (has.0, part_same (guide.home letter.state) letter.state ∙ has.1, has.2)

  pub gone_effect : MailEffect space guide m after
  gone_effect = record {
    changes = λ home state. same (part_same home state);
    sent = λ k other x h. inl (fewer k other x h);
    kept = λ k x h. which x _ (rest k (guide.home x.state) x h);
    falls = λ k. subst (λ u. AtMost u (m.owner k).incumbent) (sym (copy_same k)) (at_most_self (m.owner k).incumbent);
    shown = λ k cost is. inl (k, cost, sym (copy_same k) ∙ is, omega arith);
    weight = refl;
  }
    where
      which : (x : Letter) (xs : List Letter) → Contains xs x ⊎ (letter ≡ x) → Contains xs x ⊎ HasRowWithin guide (store_of after None) x.state x.g
      which x xs (inl h) = inl h
      which x xs (inr e) = inr (subst (λ (y : Letter). HasRowWithin guide (store_of after None) y.state y.g) e has_after)

  pub gone_costs : (most : ℕ) → MailCostsAtMost m most → MailCostsAtMost after most
  gone_costs most h = record {
    rows = λ home state r is. h.rows home state r (sym (part_same home state) ∙ is);
    letters = λ k other x c. h.letters k other x (fewer k other x c);
  }
