-- Rows that differ at most in their parents and actions stay so.
use Rattle.std.proofs.Common.{◌≡◌, ℕ, ◌+◌, ◌==◌, nat_lt, Bool, true, false, cond, List, [], ◌∷◌, ◌++◌, take, Option, Some, None, refl, sym, ap, ◌∙◌}
use Rattle.pb_model.specs.declared.row.Estimate.{Estimate}
use Rattle.pb_model.specs.declared.row.Status.{Status}
use Rattle.pb_model.specs.declared.row.Status.TheVariants.{Opened, Closed, Cut}
use Rattle.pb_model.specs.declared.row.Row.{Row}
use Rattle.pb_model.specs.declared.row.Succ.{Succ}
use Rattle.pb_model.specs.Space.{Space, steps}
use Rattle.pb_model.specs.Weight.{Weight}
use Rattle.pb_model.specs.Guide.{Guide}
use Rattle.pb_model.specs.Store.{Part, HasOpened, is_place_of, lesser}
use Rattle.pb_model.specs.Work.{Work, expand, break_off, cut, take_goal, lower, reopen, offered_row, row_after_offer, row_after_offers, with_status, row_after_status, g_of}
use Rattle.pb_model.proofs.Callers.{some_row}
use Rattle.pb_hashed.specs.Mailed.{Owner, share_store}
use Rattle.pb_hashed.specs.MailWork.{IsOwnWork, letters_out, share_after}
use Rattle.pb_owners.specs.Laws.{without_step, AreAlike}

-- a row without its step
abbrev pub plain : Row → Row
plain row = record row { parent = None; action = 0 }

abbrev pub Like : Option Row → Option Row → Type 0
Like one other = without_step one ≡ without_step other

pub none_is : {A B : Type 0} (x : A) → ◌≡◌ {A = Option A} None (Some x) → B
none_is x e = cc

pub rows_like : (r q : Row) → Like (Some r) (Some q) → plain r ≡ plain q
rows_like r q e = some_row (plain r) (plain q) e

-- the row that is like this one
pub like_row : (o p : Option Row) (r : Row) → o ≡ Some r → Like o p → (q : Row) × (p ≡ Some q) × (plain r ≡ plain q)
like_row o None r is e = none_is (plain r) (sym (sym (ap without_step is) ∙ e))
like_row o (Some q) r is e = (q, refl, rows_like r q (sym (ap without_step is) ∙ e))

pub g_like : (o p : Option Row) → Like o p → g_of o ≡ g_of p
g_like None None e = refl
g_like None (Some q) e = none_is (plain q) e
g_like (Some r) None e = none_is (plain r) (sym e)
g_like (Some r) (Some q) e = ap (λ (v : Row). v.g) (rows_like r q e)

pub like_cond : (b : Bool) (o p : Option Row) → Like o p → Like (cond b o None) (cond b p None)
like_cond true o p e = e
like_cond false o p e = refl

plain_cond : (b : Bool) (x r : Row) → plain (cond b x r) ≡ cond b (plain x) (plain r)
plain_cond true x r = refl
plain_cond false x r = refl

-- the same offer by other steps
pub like_offered : (g : ℕ) (estimate : Estimate) (parent other_parent : Option ℕ) (action other_action : ℕ) (o p : Option Row) → Like o p
    → Like (Some (offered_row g estimate parent action o)) (Some (offered_row g estimate other_parent other_action p))
like_offered g estimate parent other_parent action other_action None None e = refl
like_offered g estimate parent other_parent action other_action None (Some q) e = none_is (plain q) e
like_offered g estimate parent other_parent action other_action (Some r) None e = none_is (plain r) (sym e)
like_offered g estimate parent other_parent action other_action (Some r) (Some q) e =
    let same = rows_like r q e in
    ap Some (plain_cond (nat_lt g r.g) (record { g = g; estimate = r.estimate; parent = parent; action = action; status = Opened }) r)
    ∙ (λ i. Some (cond (nat_lt g (same i).g) (record { g = g; estimate = (same i).estimate; parent = None; action = 0; status = Opened }) (same i)))
    ∙ sym (ap Some (plain_cond (nat_lt g q.g) (record { g = g; estimate = q.estimate; parent = other_parent; action = other_action; status = Opened }) q))

pub like_status : (status : Status) (o p : Option Row) → Like o p → Like (with_status status o) (with_status status p)
like_status status None None e = refl
like_status status None (Some q) e = none_is (plain q) e
like_status status (Some r) None e = none_is (plain r) (sym e)
like_status status (Some r) (Some q) e = let same = rows_like r q e in λ i. Some (record (same i) { status = status })

pub like_choice : (b : Bool) (o p x y : Option Row) → Like o p → Like x y → Like (cond b x o) (cond b y p)
like_choice true o p x y e f = f
like_choice false o p x y e f = e

module _ (guide : Guide) where
  pub like_offers : (parent g : ℕ) (succs : List Succ) (home state : ℕ) (o p : Option Row) → Like o p → Like (row_after_offers guide parent g succs home state o) (row_after_offers guide parent g succs home state p)
  like_offers parent g [] home state o p e = e
  like_offers parent g (succ ∷ succs) home state o p e =
      like_offers parent g succs home state (row_after_offer guide parent g succ home state o) (row_after_offer guide parent g succ home state p)
      (like_choice (is_place_of guide succ.state home state) o p
      (Some (offered_row (g + succ.cost) (guide.estimate state) (Some parent) succ.action o)) (Some (offered_row (g + succ.cost) (guide.estimate state) (Some parent) succ.action p)) e
      (like_offered (g + succ.cost) (guide.estimate state) (Some parent) (Some parent) succ.action succ.action o p e))

  pub like_marked : (own : ℕ) (status : Status) (home state : ℕ) (o p : Option Row) → Like o p → Like (row_after_status guide own status home state o) (row_after_status guide own status home state p)
  like_marked own status home state o p e = like_choice (is_place_of guide own home state) o p (with_status status o) (with_status status p) e (like_status status o p e)

-- rows alike, and the same incumbent and letters
pub record LikeShares (one other : Owner) : Type 0 where
  pub rows : AreAlike one.part other.part
  pub incumbent : one.incumbent ≡ other.incumbent
  pub letters : (to : ℕ) → one.letters to ≡ other.letters to

pub like_swap : (one other : Owner) → LikeShares one other → LikeShares other one
like_swap one other h = record { rows = λ state. sym (h.rows state); incumbent = sym h.incumbent; letters = λ to. sym (h.letters to) }

-- some row is Opened in both, or in none
pub like_opened : (one other : Part) → AreAlike one other → HasOpened one → HasOpened other
like_opened one other e (state, row, found, opened) =
    let q = like_row (one state) (other state) row found (e state) in
    (state, q.0, q.1, sym (ap (λ (v : Row). v.status) q.2) ∙ opened)

-- the row at a place of a share's store, and the g of a state's row
abbrev row_in : Weight → (owner : ℕ) → Owner → (home state : ℕ) → Option Row
row_in weight owner share home state = (share_store weight owner share).rows home state

abbrev g_in : Guide → Weight → (owner : ℕ) → Owner → (own : ℕ) → ℕ
g_in guide weight owner share own = g_of (row_in weight owner share (guide.home own) own)

module _ (space : Space) (guide : Guide) (weight : Weight) (owner : ℕ) where
  module _ (one other : Owner) (h : LikeShares one other) where
    here : (home state : ℕ) → Like (row_in weight owner one home state) (row_in weight owner other home state)
    here home state = like_cond (home == owner) (one.part state) (other.part state) (h.rows state)

    g_is : (own : ℕ) → g_in guide weight owner one own ≡ g_in guide weight owner other own
    g_is own = g_like (row_in weight owner one (guide.home own) own) (row_in weight owner other (guide.home own) own) (here (guide.home own) own)

    offers_alike : (own state : ℕ) (succs : List Succ) → Like (row_after_offers guide own (g_in guide weight owner one own) succs owner state (row_in weight owner one owner state)) (row_after_offers guide own (g_in guide weight owner other own) succs owner state (row_in weight owner other owner state))
    offers_alike own state succs =
        ap (λ g. without_step (row_after_offers guide own g succs owner state (row_in weight owner one owner state))) (g_is own)
        ∙ like_offers guide own (g_in guide weight owner other own) succs owner state (row_in weight owner one owner state) (row_in weight owner other owner state) (here owner state)

    marked_alike : (own state : ℕ) (status : Status) → Like (row_after_status guide own status owner state (row_in weight owner one owner state)) (row_after_status guide own status owner state (row_in weight owner other owner state))
    marked_alike own state status = like_marked guide own status owner state (row_in weight owner one owner state) (row_in weight owner other owner state) (here owner state)

    -- the same work of one's own leaves them alike
    pub like_after : (work : Work) → IsOwnWork work → LikeShares (share_after space guide weight owner work one) (share_after space guide weight owner work other)
    like_after (expand own) is = record {
      rows = λ state. like_marked guide own Closed owner state
          (row_after_offers guide own (g_in guide weight owner one own) (steps space own) owner state (row_in weight owner one owner state))
          (row_after_offers guide own (g_in guide weight owner other own) (steps space own) owner state (row_in weight owner other owner state))
          (offers_alike own state (steps space own));
      incumbent = h.incumbent;
      letters = λ to. λ i. h.letters to i ++ letters_out guide own (g_is own i) owner to (steps space own);
    }
    like_after (break_off own offers) is = record {
      rows = λ state. offers_alike own state (take offers (steps space own));
      incumbent = h.incumbent;
      letters = λ to. λ i. h.letters to i ++ letters_out guide own (g_is own i) owner to (take offers (steps space own));
    }
    like_after (cut own) is = record {
      rows = λ state. marked_alike own state Cut;
      incumbent = h.incumbent;
      letters = λ to. λ i. h.letters to i ++ [];
    }
    like_after (take_goal own) is = record {
      rows = λ state. marked_alike own state Cut;
      incumbent = λ i. lesser (h.incumbent i) (Some (g_is own i));
      letters = λ to. λ i. h.letters to i ++ [];
    }
    like_after (lower cost) is = absurd is
    like_after (reopen heavier) is = absurd is
