-- One round after another, from the start of a search.
use Rattle.std.proofs.Common.{◌≡◌, ℕ, ◌+◌, ◌-◌, ◌*◌, ◌<◌, ◌≤◌, ◌++◌, List, [], ◌∷◌, Option, Some, None, Bool, true, false, cond, refl, sym, ap, ◌∙◌, subst, inl, arith}
use Rattle.std.specs.Prelude.{Contains}
use Rattle.pb_model.specs.declared.row.Row.{Row}
use Rattle.pb_model.specs.declared.row.Status.{Status}
use Rattle.pb_model.specs.declared.row.Status.TheVariants.{Opened, Closed, Cut}
use Rattle.pb_model.specs.Space.{Space, IsProper}
use Rattle.pb_model.specs.Weight.{Weight, IsWeight}
use Rattle.pb_model.specs.Guide.{Guide}
use Rattle.pb_model.specs.Store.{Part, Store, is_place_of, CostsAtMost, IsShown}
use Rattle.pb_model.specs.Sound.{IsSound}
use Rattle.pb_model.specs.Work.{opening_store, offered_row}
use Rattle.pb_model.proofs.Callers.{own_place, place_of, some_row}
use Rattle.pb_hashed.specs.Mailed.{Owner, Mailed, store_of, IsSoundMailed, MailCostsAtMost}
use Rattle.pb_hashed.specs.Laws.{MailKeepsSound, AgreedIsSound}
use Rattle.pb_hashed.proofs.Callers.{comes_append, expansions_append, broken_append}
use Rattle.pb_owners.specs.RoundRule.{IsRoundOf, total, RunsInRounds}
use Rattle.pb_owners.specs.Between.{opening_mailed, AnyOpened, IsBetween, RunsByMail, IsSearched, store_at}

module _ (space : Space) (guide : Guide) (weight : Weight) (owners lot budget : ℕ) where
  rounds_more : (left : ℕ) (rounds : List ℕ) (used : ℕ) (old mid new : Mailed) → RunsInRounds space guide owners lot left rounds old mid → IsRoundOf space guide owners lot (left - total rounds) used mid new → RunsInRounds space guide owners lot left (rounds ++ used ∷ []) old new
  rounds_more left [] used old mid new h round =
      let all : left - 0 ≡ left = omega arith in
      (new, subst (λ (m : Mailed). IsRoundOf space guide owners lot left used m new) h (subst (λ n. IsRoundOf space guide owners lot n used mid new) all round), refl)
  rounds_more left (one ∷ rounds) used old mid new (next, first, rest) round =
      let less : left - (one + total rounds) ≡ left - one - total rounds = omega arith in
      (next, first, rounds_more (left - one) rounds used next mid new rest (subst (λ n. IsRoundOf space guide owners lot n used mid new) less round))

  total_more : (rounds : List ℕ) (used : ℕ) → total (rounds ++ used ∷ []) ≡ total rounds + used
  total_more [] used = omega arith
  total_more (one ∷ rounds) used = let m = total_more rounds used in omega arith

  -- before the first round
  pub searched_none : (at : ℕ → Owner) → IsBetween owners weight at (opening_mailed space guide weight) → IsSearched space guide weight owners lot budget 0 at
  searched_none at b = record { store = opening_mailed space guide weight; works = []; comes = refl; between = b; expansions = refl; none_broken = refl; rounds = []; in_rounds = refl; spent_is = refl }

  -- one round more
  pub searched_more : (spent used : ℕ) (old new : ℕ → Owner) → IsSearched space guide weight owners lot budget spent old → RunsByMail space guide weight owners used (IsRoundOf space guide owners lot (budget - spent) used) old new → IsSearched space guide weight owners lot budget (spent + used) new
  searched_more spent used old new h runs =
      let r = runs h.store h.between in record {
        store = r.0;
        works = h.works ++ r.1;
        comes = comes_append space guide h.works r.1 (opening_mailed space guide weight) h.store r.0 h.comes r.2;
        between = r.3;
        expansions = expansions_append h.works r.1 ∙ (let a = h.expansions in let b = r.4 in omega arith);
        none_broken = broken_append h.works r.1 ∙ (let a = h.none_broken in let b = r.5 in omega arith);
        rounds = h.rounds ++ used ∷ [];
        in_rounds = rounds_more budget h.rounds used (opening_mailed space guide weight) h.store r.0 h.in_rounds (subst (λ n. IsRoundOf space guide owners lot (budget - n) used h.store r.0) (sym h.spent_is) r.6);
        spent_is = total_more h.rounds used ∙ ap (λ n. n + used) h.spent_is;
      }

  abbrev start_row : Row
  start_row = offered_row 0 (guide.estimate space.start) None 0 None

  -- the start's row is Opened
  pub opening_opened : (at : ℕ → Owner) → IsBetween owners weight at (opening_mailed space guide weight) → AnyOpened at
  opening_opened at b =
      let home = guide.home space.start in
      (home, (space.start, start_row, sym (ap (λ (p : Part). p space.start) (b.parts home)) ∙ ap (λ b. cond b (Some start_row) None) (own_place guide space.start), refl))

  open_closed : {A : Type 0} (st : Status) → st ≡ Opened → st ≡ Closed → A
  open_closed st a b = let e : Opened ≡ Closed = sym a ∙ b in cc

  open_cut : {A : Type 0} (st : Status) → st ≡ Opened → st ≡ Cut → A
  open_cut st a b = let e : Opened ≡ Cut = sym a ∙ b in cc

  opened_first : (home state : ℕ) (r : Row) → (opening_store space guide weight).rows home state ≡ Some r → (home ≡ guide.home space.start) × (state ≡ space.start) × (r ≡ start_row)
  opened_first home state r is = go (is_place_of guide space.start home state) refl
    where
      go : (b : Bool) → is_place_of guide space.start home state ≡ b → (home ≡ guide.home space.start) × (state ≡ space.start) × (r ≡ start_row)
      go true e =
          let at = place_of guide space.start home state e in
          let row : ◌≡◌ {A = Option Row} (Some start_row) (Some r) = sym (ap (λ b. cond b (Some start_row) None) e) ∙ is in
          (at.0, at.1, sym (some_row start_row r row))
      go false e = let bad : ◌≡◌ {A = Option Row} None (Some r) = sym (ap (λ b. cond b (Some start_row) None) e) ∙ is in cc

  -- the shares at the start are sound
  pub opening_sound : (greatest : ℕ) → IsProper space greatest → IsWeight weight → IsSoundMailed space guide (opening_mailed space guide weight) × MailCostsAtMost (opening_mailed space guide weight) (greatest * 0)
  opening_sound greatest proper heavy = (
    record {
      place = λ home state r is. let f = opened_first home state r is in (f.0 ∙ ap guide.home (sym f.1), ap space.is_state f.1 ∙ proper.start, ap (λ (v : Row). v.estimate) f.2 ∙ ap guide.estimate (sym f.1));
      start = (start_row, ap (λ b. cond b (Some start_row) None) (own_place guide space.start), omega arith);
      parent = λ state r is. inl (opened_first (guide.home state) state r is).1;
      offered = λ from to letter has. nothing has;
      closed = λ state r is st. open_closed r.status (ap (λ (v : Row). v.status) (opened_first (guide.home state) state r is).2) st;
      no_goal = λ state r is st. open_closed r.status (ap (λ (v : Row). v.status) (opened_first (guide.home state) state r is).2) st;
      cut = λ home state r is st. open_cut r.status (ap (λ (v : Row). v.status) (opened_first home state r is).2) st;
      shown = λ owner cost is. let bad : ◌≡◌ {A = Option ℕ} None (Some cost) = is in cc;
      weight = heavy;
    },
    record {
      rows = λ home state r is. omega (arith, ap (λ (v : Row). v.g) (opened_first home state r is).2);
      letters = λ from to letter has. nothing has;
    },
  )
    where
      nothing : {A B : Type 0} {x : A} → Contains [] x → B
      nothing h = absurd (omega (arith, h.1))

  -- what was searched is sound
  pub searched_sound : MailKeepsSound → (greatest spent : ℕ) (at : ℕ → Owner) → IsProper space greatest → IsWeight weight → (h : IsSearched space guide weight owners lot budget spent at) → IsSoundMailed space guide h.store × MailCostsAtMost h.store (greatest * spent)
  searched_sound law greatest spent at proper heavy h =
      let o = opening_sound greatest proper heavy in
      let l = law space greatest guide h.works (opening_mailed space guide weight) h.store 0 proper h.comes o.0 o.1 in
      (l.0, subst (λ n. MailCostsAtMost h.store (greatest * n)) (let a = h.expansions in let b = h.none_broken in omega arith) l.1)

  -- as a plain store
  pub store_is : (spent : ℕ) (at : ℕ → Owner) → 0 < owners → (h : IsSearched space guide weight owners lot budget spent at) → store_of h.store (at 0).incumbent ≡ store_at at weight
  store_is spent at some h = λ i. record { rows = λ owner. h.between.parts owner i; incumbent = (at 0).incumbent; weight = h.between.weight_is i }

  pub plain_sound : MailKeepsSound → AgreedIsSound → (greatest spent : ℕ) (at : ℕ → Owner) → IsProper space greatest → IsWeight weight → 0 < owners → ((state : ℕ) → guide.home state < owners) → IsSearched space guide weight owners lot budget spent at
      → IsSound space guide (store_at at weight) × IsShown space guide (store_at at weight)
  plain_sound law agreed greatest spent at proper heavy some homes h =
      subst (λ (s : Store). IsSound space guide s × IsShown space guide s) (store_is spent at some h)
      (agreed space guide h.store owners (at 0).incumbent (searched_sound law greatest spent at proper heavy h).0 h.between.no_letter some homes (λ owner less. h.between.agreed owner less ∙ h.between.incumbents 0 some))

  pub plain_costs : MailKeepsSound → (greatest spent most : ℕ) (at : ℕ → Owner) → IsProper space greatest → IsWeight weight → greatest * spent ≤ most → IsSearched space guide weight owners lot budget spent at → CostsAtMost (store_at at weight) most
  plain_costs law greatest spent most at proper heavy low h home state row is =
      let c = (searched_sound law greatest spent at proper heavy h).1.rows home state row ((λ i. h.between.parts home i state) ∙ is) in omega arith
