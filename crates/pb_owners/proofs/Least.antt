-- What letters do to a row doesn't depend on the order in which they are taken in.
use Rattle.std.proofs.Common.{◌≡◌, ◌≢◌, ℕ, zero, suc, ◌<◌, ◌≤◌, ◌==◌, ⊎_elim, eq-eqb, ne_eqb, lt-ltb, le-ltb, length, min, Bool, true, false, cond, List, [], ◌∷◌, Option, Some, None, refl, sym, ap, ◌∙◌, arith}
use Rattle.std.proofs.lemmas.Bool.{cases_lt, cases_eq}
use Rattle.pb_model.specs.declared.row.Estimate.{Estimate}
use Rattle.pb_model.specs.declared.row.Status.TheVariants.{Opened}
use Rattle.pb_model.specs.declared.row.Row.{Row}
use Rattle.pb_model.specs.Guide.{Guide}
use Rattle.pb_model.specs.Store.{Part, lesser}
use Rattle.pb_model.specs.Work.{offered_row}
use Rattle.pb_model.proofs.Callers.{equal_self}
use Rattle.pb_mail.specs.declared.letter.Letter.{Letter}
use Rattle.pb_mail.specs.declared.letter.Sent.{Sent}
use Rattle.pb_mail.specs.Views.{letters_of}
use Rattle.pb_hashed.specs.MailWork.{part_with, part_after}
use Rattle.pb_owners.specs.Laws.{without_step, AreAlike}
use Rattle.pb_owners.proofs.Alike.{Like, like_offered}

-- ---- the lesser of two costs

min_swap : (a b : ℕ) → min a b ≡ min b a
min_swap a b = omega arith

min_chain : (a b c : ℕ) → min (min a b) c ≡ min a (min b c)
min_chain a b c = omega arith

lesser_swap : (u v : Option ℕ) → lesser u v ≡ lesser v u
lesser_swap None None = refl
lesser_swap None (Some b) = refl
lesser_swap (Some a) None = refl
lesser_swap (Some a) (Some b) = ap Some (min_swap a b)

lesser_chain : (u v w : Option ℕ) → lesser (lesser u v) w ≡ lesser u (lesser v w)
lesser_chain None v w = refl
lesser_chain (Some a) None w = refl
lesser_chain (Some a) (Some b) None = refl
lesser_chain (Some a) (Some b) (Some c) = ap Some (min_chain a b c)

-- ---- the least offer of a state

abbrev one_offer : (state : ℕ) → Letter → Option ℕ
one_offer state letter = cond (state == letter.state) (Some letter.g) None

abbrev least_offer : (state : ℕ) → List Letter → Option ℕ
least_offer state [] = None
least_offer state (letter ∷ letters) = lesser (one_offer state letter) (least_offer state letters)

abbrev least_taken : (state : ℕ) → List Sent → Option ℕ
least_taken state [] = None
least_taken state (x ∷ xs) = lesser (one_offer state x.letter) (least_taken state xs)

-- the least of the first so many
abbrev least_below : (count : ℕ) → (ℕ → Option ℕ) → Option ℕ
least_below zero f = None
least_below (suc k) f = lesser (least_below k f) (f k)

least_like : (count : ℕ) (f g : ℕ → Option ℕ) → ((i : ℕ) → i < count → f i ≡ g i) → least_below count f ≡ least_below count g
least_like zero f g same = refl
least_like (suc k) f g same = λ i. lesser (least_like k f g (λ j less. same j (omega arith)) i) (same k (omega arith) i)

-- one of them became less
abbrev with_one : (at : ℕ) (cost : Option ℕ) → (ℕ → Option ℕ) → ℕ → Option ℕ
with_one at cost f i = cond (at == i) (lesser cost (f i)) (f i)

at_other : (at i : ℕ) (cost : Option ℕ) (f : ℕ → Option ℕ) → (at ≡ i → ⊥) → with_one at cost f i ≡ f i
at_other at i cost f off = ap (λ b. cond b (lesser cost (f i)) (f i)) (ne_eqb at i off)

at_own : (at i : ℕ) (cost : Option ℕ) (f : ℕ → Option ℕ) → at ≡ i → with_one at cost f i ≡ lesser cost (f i)
at_own at i cost f is = ap (λ b. cond b (lesser cost (f i)) (f i)) (eq-eqb at i is)

least_with : (count at : ℕ) (cost : Option ℕ) (f : ℕ → Option ℕ) → at < count → least_below count (with_one at cost f) ≡ lesser cost (least_below count f)
least_with zero at cost f less = absurd (omega arith)
least_with (suc k) at cost f less = ⊎_elim
    (λ (is : at ≡ k).
    (λ i. lesser (least_like k (with_one at cost f) f (λ j low. at_other at j cost f (λ e. omega arith)) i) (at_own at k cost f is i))
    ∙ sym (lesser_chain (least_below k f) cost (f k)) ∙ ap (λ u. lesser u (f k)) (lesser_swap (least_below k f) cost) ∙ lesser_chain cost (least_below k f) (f k))
    (λ (off : at ≢ k).
    (λ i. lesser (least_with k at cost f (omega arith) i) (at_other at k cost f off i)) ∙ lesser_chain cost (least_below k f) (f k))
    (cases_eq at k)

none_below : (count : ℕ) → least_below count (λ i. None) ≡ None
none_below zero = refl
none_below (suc k) = ap (λ u. lesser u None) (none_below k)

-- the letters of each sender give the least offer
module _ (state owners : ℕ) where
  abbrev by_sender : List Sent → ℕ → Option ℕ
  by_sender xs from = least_offer state (letters_of from xs)

  sender_more : (x : Sent) (xs : List Sent) (from : ℕ) → by_sender (x ∷ xs) from ≡ with_one x.from (one_offer state x.letter) (by_sender xs) from
  sender_more x xs from = go (x.from == from)
    where
      go : (b : Bool) → least_offer state (cond b (x.letter ∷ letters_of from xs) (letters_of from xs)) ≡ cond b (lesser (one_offer state x.letter) (by_sender xs from)) (by_sender xs from)
      go true = refl
      go false = refl

  no_first : {A : Type 0} (x : Letter) (xs : List Letter) → x ∷ xs ≡ [] → A
  no_first x xs e = absurd (omega (arith, ap length e))

  taken_is : (xs : List Sent) → ((from : ℕ) → owners ≤ from → letters_of from xs ≡ []) → least_taken state xs ≡ least_below owners (by_sender xs)
  taken_is [] none = sym (none_below owners)
  taken_is (x ∷ xs) none =
      let own : letters_of x.from (x ∷ xs) ≡ x.letter ∷ letters_of x.from xs = ap (λ b. cond b (x.letter ∷ letters_of x.from xs) (letters_of x.from xs)) (equal_self x.from) in
      let low : x.from < owners = ⊎_elim (λ (l : x.from < owners). l) (λ (past : owners ≤ x.from). no_first x.letter (letters_of x.from xs) (sym own ∙ none x.from past)) (cases_lt x.from owners) in
      let rest : (from : ℕ) → owners ≤ from → letters_of from xs ≡ [] = λ from past. sym (ap (λ b. cond b (x.letter ∷ letters_of from xs) (letters_of from xs)) (ne_eqb x.from from (λ e. omega arith))) ∙ none from past in
      ap (lesser (one_offer state x.letter)) (taken_is xs rest) ∙ sym (least_with owners x.from (one_offer state x.letter) (by_sender xs) low)
      ∙ sym (least_like owners (by_sender (x ∷ xs)) (with_one x.from (one_offer state x.letter) (by_sender xs)) (λ i less. sender_more x xs i))

-- ---- rows

-- what the least offer makes of a row
abbrev after_least : Estimate → Option ℕ → Option Row → Option Row
after_least estimate None o = without_step o
after_least estimate (Some g) o = without_step (Some (offered_row g estimate None 0 o))

abbrev opened_row : (g : ℕ) → Estimate → (parent : Option ℕ) → (action : ℕ) → Row
opened_row g estimate parent action = record { g = g; estimate = estimate; parent = parent; action = action; status = Opened }

-- a test of the offer
offer_less : (g : ℕ) (estimate : Estimate) (parent : Option ℕ) (action : ℕ) (r : Row) → g < r.g → offered_row g estimate parent action (Some r) ≡ opened_row g r.estimate parent action
offer_less g estimate parent action r less = ap (λ t. cond t (opened_row g r.estimate parent action) r) (lt-ltb g r.g less)

offer_past : (g : ℕ) (estimate : Estimate) (parent : Option ℕ) (action : ℕ) (r : Row) → r.g ≤ g → offered_row g estimate parent action (Some r) ≡ r
offer_past g estimate parent action r past = ap (λ t. cond t (opened_row g r.estimate parent action) r) (le-ltb g r.g past)

-- two offers are one
two_rows : (g h : ℕ) (estimate : Estimate) (parent : Option ℕ) (action : ℕ) (o : Option Row)
    → without_step (Some (offered_row h estimate None 0 (Some (offered_row g estimate parent action o)))) ≡ without_step (Some (offered_row (min g h) estimate None 0 o))
two_rows g h estimate parent action None = ⊎_elim
    (λ (less : h < g).
    let is : h ≡ min g h = omega arith in
    ap (λ (r : Row). without_step (Some r)) (offer_less h estimate None 0 (opened_row g estimate parent action) less) ∙ ap (λ n. without_step (Some (opened_row n estimate None 0))) is)
    (λ (past : g ≤ h).
    let is : g ≡ min g h = omega arith in
    ap (λ (r : Row). without_step (Some r)) (offer_past h estimate None 0 (opened_row g estimate parent action) past) ∙ ap (λ n. without_step (Some (opened_row n estimate None 0))) is)
    (cases_lt h g)
two_rows g h estimate parent action (Some r) = ⊎_elim
    (λ (first : g < r.g).
    ap (λ (q : Row). without_step (Some (offered_row h estimate None 0 (Some q)))) (offer_less g estimate parent action r first) ∙ ⊎_elim
    (λ (less : h < g).
    let is : h ≡ min g h = omega arith in
    ap (λ (q : Row). without_step (Some q)) (offer_less h estimate None 0 (opened_row g r.estimate parent action) less) ∙ ap (λ n. without_step (Some (opened_row n r.estimate None 0))) is ∙ least (omega arith))
    (λ (past : g ≤ h).
    let is : g ≡ min g h = omega arith in
    ap (λ (q : Row). without_step (Some q)) (offer_past h estimate None 0 (opened_row g r.estimate parent action) past) ∙ ap (λ n. without_step (Some (opened_row n r.estimate None 0))) is ∙ least (omega arith))
    (cases_lt h g))
    (λ (kept : r.g ≤ g).
    ap (λ (q : Row). without_step (Some (offered_row h estimate None 0 (Some q)))) (offer_past g estimate parent action r kept) ∙ ⊎_elim
    (λ (less : h < r.g).
    let is : h ≡ min g h = omega arith in
    ap (λ (q : Row). without_step (Some q)) (offer_less h estimate None 0 r less) ∙ ap (λ n. without_step (Some (opened_row n r.estimate None 0))) is ∙ least (omega arith))
    (λ (past : r.g ≤ h).
    let both : r.g ≤ min g h = omega arith in
    ap (λ (q : Row). without_step (Some q)) (offer_past h estimate None 0 r past) ∙ sym (ap (λ (q : Row). without_step (Some q)) (offer_past (min g h) estimate None 0 r both)))
    (cases_lt h r.g))
    (cases_lt g r.g)
  where
    -- the least is cheaper than the row
    least : min g h < r.g → without_step (Some (opened_row (min g h) r.estimate None 0)) ≡ without_step (Some (offered_row (min g h) estimate None 0 (Some r)))
    least less = sym (ap (λ (q : Row). without_step (Some q)) (offer_less (min g h) estimate None 0 r less))

after_more : (estimate : Estimate) (g : ℕ) (parent : Option ℕ) (action : ℕ) (least : Option ℕ) (o : Option Row)
    → after_least estimate least (Some (offered_row g estimate parent action o)) ≡ after_least estimate (lesser (Some g) least) o
after_more estimate g parent action None o = like_offered g estimate parent None action 0 o o refl
after_more estimate g parent action (Some h) o = two_rows g h estimate parent action o

module _ (guide : Guide) (state : ℕ) where
  part_is : (xs : List Sent) (part : Part) → without_step (part_after guide xs part state) ≡ after_least (guide.estimate state) (least_taken state xs) (part state)
  part_is [] part = refl
  part_is (x ∷ xs) part = part_is xs (part_with guide x.letter part) ∙ go (state == x.letter.state)
    where
      go : (b : Bool) → after_least (guide.estimate state) (least_taken state xs) (cond b (Some (offered_row x.letter.g (guide.estimate state) (Some x.letter.parent) x.letter.action (part state))) (part state))
          ≡ after_least (guide.estimate state) (lesser (cond b (Some x.letter.g) None) (least_taken state xs)) (part state)
      go true = after_more (guide.estimate state) x.letter.g (Some x.letter.parent) x.letter.action (least_taken state xs) (part state)
      go false = refl

  after_like : (least : Option ℕ) (o p : Option Row) → Like o p → after_least (guide.estimate state) least o ≡ after_least (guide.estimate state) least p
  after_like None o p e = e
  after_like (Some g) o p e = like_offered g (guide.estimate state) None None 0 0 o p e

-- the same letters of each sender, in whatever order between the senders, leave parts that are alike
pub taken_like : (guide : Guide) (owners : ℕ) (xs ys : List Sent) (part other : Part) → ((from : ℕ) → letters_of from xs ≡ letters_of from ys) → ((from : ℕ) → owners ≤ from → letters_of from xs ≡ []) → AreAlike part other → AreAlike (part_after guide xs part) (part_after guide ys other)
taken_like guide owners xs ys part other same none e state =
    let least : least_taken state xs ≡ least_taken state ys =
    taken_is state owners xs none ∙ least_like owners (by_sender state owners xs) (by_sender state owners ys) (λ i less. ap (least_offer state) (same i)) ∙ sym (taken_is state owners ys (λ from past. sym (same from) ∙ none from past)) in
    part_is guide state xs part ∙ ap (λ u. after_least (guide.estimate state) u (part state)) least ∙ after_like guide state (least_taken state ys) (part state) (other state) (e state) ∙ sym (part_is guide state ys other)
