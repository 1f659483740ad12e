-- What an owner's work on its own rows does to the shares of all owners.
use Rattle.std.proofs.Common.{◌≡◌, ◌≢◌, ℕ, ◌+◌, ◌*◌, ◌<◌, ◌≤◌, ◌==◌, Bool, true, false, cond, List, [], ◌∷◌, ◌++◌, take, Option, Some, None, Contains, refl, sym, ap, ◌∙◌, subst, arith, ◌⊎◌, inl, inr, ⊎_elim, true≢false}
use Rattle.std.specs.List.{AllByRecursion}
use Rattle.std.proofs.lemmas.Bool.{cases_eq, ne_eqb}
use Rattle.std.proofs.lemmas.List.Elements.{Contains-append_left, Contains-append_right, Contains-append_cases}
use Rattle.pb_model.specs.declared.row.Status.{Status}
use Rattle.pb_model.specs.declared.row.Status.TheVariants.{Opened, Closed, Cut}
use Rattle.pb_model.specs.declared.row.Row.{Row}
use Rattle.pb_model.specs.declared.row.Succ.{Succ}
use Rattle.pb_model.specs.Space.{Space, Steps, steps, IsProper}
use Rattle.pb_model.specs.Weight.{Weight, IsWeight}
use Rattle.pb_model.specs.Guide.{Guide}
use Rattle.pb_model.specs.Store.{Store, row_at, HasRowWithin, HasGoalWithin, AtMost, MayBeCut, lesser}
use Rattle.pb_model.specs.Sound.{HasParent}
use Rattle.pb_model.specs.Work.{Work, expand, break_off, cut, take_goal, lower, reopen, g_of, g_before, store_after, May}
use Rattle.pb_model.proofs.Callers.{equal, equal_self, at_most_self, lesser_cases, some_row, IsFresh, are_steps, all_take, each_step, steps_are_successors, Change, Effect}
use Rattle.pb_model.proofs.Callers as effects
use Rattle.pb_mail.specs.declared.letter.Letter.{Letter}
use Rattle.pb_hashed.specs.Mailed.{Owner, Mailed, all_rows, store_of, own_store, IsOffer, HasLetterWithin, IsSoundMailed, MailCostsAtMost}
use Rattle.pb_hashed.specs.MailWork.{MailWork, by_owner, letter_for, letters_out, sent_by, IsOwnWork, owner_after, with_owner, mail_after}
use Rattle.pb_hashed.proofs.Changes.{MailChange, same, fresh, marked, MailEffect, Covers, effect_sound}
use Rattle.pb_hashed.proofs.Sending.{out_is, out_has}

-- ---- one owner's share is replaced

module _ (m : Mailed) (i : ℕ) (o : Owner) where
  pub owner_here : (with_owner m i o).owner i ≡ o
  owner_here = ap (λ b. cond b o (m.owner i)) (equal_self i)

  pub owner_else : (k : ℕ) → k ≢ i → (with_owner m i o).owner k ≡ m.owner k
  owner_else k off = ap (λ b. cond b o (m.owner k)) (ne_eqb k i off)

-- ---- an owner's own rows

module _ (m : Mailed) (i : ℕ) where
  pub own_here : (state : ℕ) → (own_store m i).rows i state ≡ all_rows m i state
  own_here state = ap (λ b. cond b ((m.owner i).part state) None) (equal_self i)

  -- a row of that store is the owner's
  pub own_found : (home state : ℕ) (row : Row) → (own_store m i).rows home state ≡ Some row → (home ≡ i) × (all_rows m home state ≡ Some row)
  own_found home state row is = go (home == i) refl
    where
      go : (b : Bool) → (home == i) ≡ b → (home ≡ i) × (all_rows m home state ≡ Some row)
      go true e = let at = equal home i e in (at, ap (λ h. all_rows m h state) at ∙ (sym (ap (λ b. cond b ((m.owner i).part state) None) e) ∙ is))
      go false e = let bad : ◌≡◌ {A = Option Row} None (Some row) = sym (ap (λ b. cond b ((m.owner i).part state) None) e) ∙ is in cc

module _ (space : Space) (guide : Guide) (greatest_cost : ℕ) (proper : IsProper space greatest_cost) (m : Mailed) (l : IsSoundMailed space guide m) (i : ℕ) (few : ℕ) (v : Store)
    (posts : (to : ℕ) → List Letter) (f : Effect space guide few (own_store m i) v) where
  abbrev w : Store
  w = own_store m i

  -- the owner's share afterwards
  abbrev o : Owner
  o = record { part = v.rows i; incumbent = v.incumbent; letters = λ to. (m.owner i).letters to ++ posts to }

  abbrev n : Mailed
  n = with_owner m i o

  own_row : (guide.home f.own ≡ i) × (all_rows m (guide.home f.own) f.own ≡ Some f.row)
  own_row = own_found m i (guide.home f.own) f.own f.row f.found

  new_is : (state : ℕ) → all_rows n i state ≡ v.rows i state
  new_is state = ap (λ (k : Owner). k.part state) (owner_here m i o)

  -- what the effect leaves at a home that is the owner's
  row_in : (state most : ℕ) → guide.home state ≡ i → HasRowWithin guide v state most → HasRowWithin guide (store_of n None) state most
  row_in state most at h = (h.0, ap (λ k. all_rows n k state) at ∙ new_is state ∙ ap (λ k. v.rows k state) (sym at) ∙ h.1, h.2)

  -- the letters that the work sends
  abbrev Posts : Type 0
  Posts = (to : ℕ) (letter : Letter) → Contains (posts to) letter → (to ≡ guide.home letter.state) × IsOffer space guide m letter

  -- each successor that another owner has gets a letter
  abbrev Sends : Type 0
  Sends = f.status ≡ Closed → (y : Succ) → Contains (steps space f.own) y → guide.home y.state ≢ i → Contains (posts (guide.home y.state)) (letter_for f.own f.row.g y)

  letters_here : (to : ℕ) → (n.owner i).letters to ≡ (m.owner i).letters to ++ posts to
  letters_here to = ap (λ (k : Owner). k.letters to) (owner_here m i o)

  covers : Sends → f.status ≡ Closed → Covers space guide n f.own f.row.g
  covers sends closed action to cost step = ⊎_elim
      (λ (at : guide.home to ≡ i). inl (row_in to (f.row.g + cost) at (each_step space f.own greatest_cost proper (λ y. HasRowWithin guide v y.state (f.row.g + y.cost)) (f.closes closed).1 action to cost step)))
      (λ (off : guide.home to ≢ i).
      let y : Succ = record { action = action; state = to; cost = cost } in
      let there = sends closed y ((steps_are_successors space greatest_cost f.own proper).1 action to cost step) off in
      inr (
        i,
        letter_for f.own f.row.g y,
        subst (λ (xs : List Letter). Contains xs (letter_for f.own f.row.g y)) (sym (letters_here (guide.home to)))
            (Contains-append_right ((m.owner i).letters (guide.home to)) (posts (guide.home to)) (letter_for f.own f.row.g y) there),
        refl,
        omega arith,
      ))
      (cases_eq (guide.home to) i)

  change_here : Sends → (state : ℕ) → MailChange space guide m n i state
  change_here sends state = go (f.changes i state)
    where
      go : Change space guide f.own f.row f.status few i state (w.rows i state) (v.rows i state) → MailChange space guide m n i state
      go (effects.same e) = same (new_is state ∙ e ∙ own_here m i state)
      go (effects.fresh one k) =
          fresh k.row (new_is state ∙ k.is) k.opened k.at_home (proper.to_state f.own k.row.action state k.cost k.step) (told k.estimate)
          (record { parent = f.own; parent_row = f.row; cost = k.cost; named = k.parent; found = own_row.1; step = k.step; cheaper = omega (arith, k.sum) })
          (λ before is. let less = k.better before (own_here m i state ∙ is) in omega arith)
        where
          told : ((k.row.estimate ≡ guide.estimate state) ⊎ ((q : Row) × (w.rows i state ≡ Some q) × (k.row.estimate ≡ q.estimate))) → k.row.estimate ≡ guide.estimate state
          told (inl h) = h
          told (inr h) = h.2 ∙ (l.place i state h.0 (sym (own_here m i state) ∙ h.1)).2
      go (effects.marked a b e) =
          marked f.row f.status (ap (λ s. all_rows m i s) b ∙ ap (λ h. all_rows m h f.own) a ∙ own_row.1) (new_is state ∙ e)
          (λ closed. (ap space.is_goal b ∙ (f.closes closed).0, subst (λ s. Covers space guide n s f.row.g) (sym b) (covers sends closed)))
          (λ ended. subst (λ u. MayBeCut m.weight u f.row.g f.row.estimate) (sym (ap (λ (k : Owner). k.incumbent) (owner_here m i o)))
          (subst (λ x. MayBeCut x v.incumbent f.row.g f.row.estimate) f.weight (f.cuts l.weight.at_least_one ended)))

  pub own_effect : Sends → Posts → MailEffect space guide m n
  own_effect sends offers = record {
    changes = λ home state. ⊎_elim
        (λ (at : home ≡ i). subst (λ h. MailChange space guide m n h state) (sym at) (change_here sends state))
        (λ (off : home ≢ i). same (ap (λ (k : Owner). k.part state) (owner_else m i o home off))) (cases_eq home i);
    sent = λ from to letter there. ⊎_elim
        (λ (at : from ≡ i).
        new from to letter at (Contains-append_cases ((m.owner i).letters to) (posts to) letter
        (subst (λ (xs : List Letter). Contains xs letter) (ap (λ k. (n.owner k).letters to) at ∙ letters_here to) there)))
        (λ (off : from ≢ i). inl (subst (λ (xs : List Letter). Contains xs letter) (ap (λ (k : Owner). k.letters to) (owner_else m i o from off)) there)) (cases_eq from i);
    kept = λ from letter there. inl (⊎_elim
        (λ (at : from ≡ i). subst (λ (xs : List Letter). Contains xs letter) (sym (ap (λ k. (n.owner k).letters (guide.home letter.state)) at ∙ letters_here (guide.home letter.state)))
        (Contains-append_left ((m.owner i).letters (guide.home letter.state)) (posts (guide.home letter.state)) letter (subst (λ k. Contains ((m.owner k).letters (guide.home letter.state)) letter) at there)))
        (λ (off : from ≢ i). subst (λ (xs : List Letter). Contains xs letter) (sym (ap (λ (k : Owner). k.letters (guide.home letter.state)) (owner_else m i o from off))) there) (cases_eq from i));
    falls = λ owner. ⊎_elim
        (λ (at : owner ≡ i). subst (λ k. AtMost (n.owner k).incumbent (m.owner k).incumbent) (sym at) (subst (λ (k : Owner). AtMost k.incumbent (m.owner i).incumbent) (sym (owner_here m i o)) f.falls))
        (λ (off : owner ≢ i). subst (λ (k : Owner). AtMost k.incumbent (m.owner owner).incumbent) (sym (owner_else m i o owner off)) (at_most_self (m.owner owner).incumbent)) (cases_eq owner i);
    shown = λ owner cost is. ⊎_elim
        (λ (at : owner ≡ i). which cost f.incumbent (sym (ap (λ k. (n.owner k).incumbent) at ∙ ap (λ (k : Owner). k.incumbent) (owner_here m i o)) ∙ is))
        (λ (off : owner ≢ i). inl (owner, cost, sym (ap (λ (k : Owner). k.incumbent) (owner_else m i o owner off)) ∙ is, omega arith)) (cases_eq owner i);
    weight = refl;
  }
    where
      new : (from to : ℕ) (letter : Letter) → from ≡ i → Contains ((m.owner i).letters to) letter ⊎ Contains (posts to) letter
          → Contains ((m.owner from).letters to) letter ⊎ ((to ≡ guide.home letter.state) × IsOffer space guide m letter)
      new from to letter at (inl there) = inl (subst (λ k. Contains ((m.owner k).letters to) letter) (sym at) there)
      new from to letter at (inr there) = inr (offers to letter there)

      Shown : ℕ → Type 0
      Shown cost = ((other before : ℕ) × ((m.owner other).incumbent ≡ Some before) × (before ≤ cost)) ⊎ HasGoalWithin space guide (store_of n None) cost

      which : (cost : ℕ) → (v.incumbent ≡ w.incumbent) ⊎ ((space.is_goal f.own ≡ true) × (v.incumbent ≡ lesser w.incumbent (Some f.row.g))) → v.incumbent ≡ Some cost → Shown cost
      which cost (inl k) is = inl (i, cost, sym k ∙ is, omega arith)
      which cost (inr k) is = by (lesser_cases w.incumbent f.row.g cost (sym k.1 ∙ is))
        where
          by : (f.row.g ≤ cost) ⊎ ((before : ℕ) × (w.incumbent ≡ Some before) × (before ≤ cost)) → Shown cost
          by (inl low) =
              let q = effects.keeps_within space guide few w v f f.own cost (f.row, f.found, low) in
              inr (f.own, k.0, row_in f.own cost own_row.0 q)
          by (inr h) = inl (i, h.0, h.1, h.2)
