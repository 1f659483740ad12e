-- Shares that are alike have the same turns, and so an owner's part in a round is the same.
use Rattle.std.proofs.Common.{◌≡◌, ℕ, ◌+◌, ◌-◌, ◌==◌, ◌⊎◌, Bool, true, false, cond, List, [], ◌∷◌, Option, Some, None, inl, inr, refl, sym, ap, ◌∙◌, subst, arith}
use Rattle.pb_model.specs.declared.row.Status.TheVariants.{Opened}
use Rattle.pb_model.specs.declared.row.Row.{Row}
use Rattle.pb_model.specs.declared.key.Key.{Key}
use Rattle.pb_model.specs.Key.{key_of, IsBefore, IsFirstRow}
use Rattle.pb_model.specs.Space.{Space}
use Rattle.pb_model.specs.Weight.{Weight}
use Rattle.pb_model.specs.Guide.{Guide}
use Rattle.pb_model.specs.Store.{Part, HasOpened, MayBeCut}
use Rattle.pb_model.specs.Work.{Work, expand, break_off, cut, take_goal, lower, reopen, May, expansions, broken_expansions}
use Rattle.pb_model.proofs.Callers.{some_row, not_both_before}
use Rattle.pb_machine.specs.Turns.{IsLeaseTurn}
use Rattle.pb_hashed.specs.Mailed.{Owner, share_store}
use Rattle.pb_hashed.specs.MailWork.{IsOwnWork, share_after, ComesAlone}
use Rattle.pb_owners.specs.RoundRule.{IsNextExpansion, WorksByQuota}
use Rattle.pb_owners.specs.Laws.{AreAlike}
use Rattle.pb_owners.proofs.Alike.{plain, none_is, like_row, like_opened, LikeShares, like_swap, like_after}

abbrev key_at : Weight → Row → Key
key_at weight row = key_of weight row.g row.estimate

-- the first row of parts that are alike is alike
first_like : (weight : Weight) (one other : Part) → AreAlike one other → (a b : ℕ) (r q : Row) → IsFirstRow weight one a r → IsFirstRow weight other b q → (a ≡ b) × (plain r ≡ plain q)
first_like weight one other e a b r q first second = which (first.first b mine.0 mine.1 mine_opened) (second.first a its.0 its.1 its_opened)
  where
    mine : (x : Row) × (one b ≡ Some x) × (plain q ≡ plain x)
    mine = like_row (other b) (one b) q second.found (sym (e b))

    its : (x : Row) × (other a ≡ Some x) × (plain r ≡ plain x)
    its = like_row (one a) (other a) r first.found (e a)

    mine_opened : mine.0.status ≡ Opened
    mine_opened = sym (ap (λ (v : Row). v.status) mine.2) ∙ second.opened

    its_opened : its.0.status ≡ Opened
    its_opened = sym (ap (λ (v : Row). v.status) its.2) ∙ first.opened

    key_like : (x y : Row) → plain x ≡ plain y → key_at weight x ≡ key_at weight y
    key_like x y same = ap (λ (v : Row). key_of weight v.g v.estimate) same

    same : a ≡ b → (a ≡ b) × (plain r ≡ plain q)
    same is = (is, its.2 ∙ ap plain (some_row its.0 q (sym its.1 ∙ (ap other is ∙ second.found))))

    which : ((b ≡ a) ⊎ IsBefore (key_at weight r) a (key_at weight mine.0) b) → ((a ≡ b) ⊎ IsBefore (key_at weight q) b (key_at weight its.0) a) → (a ≡ b) × (plain r ≡ plain q)
    which (inl is) l = same (sym is)
    which (inr h) (inl is) = same is
    which (inr h) (inr l) = absurd (not_both_before (key_at weight r) a (key_at weight mine.0) b h
        (subst (λ k. IsBefore k b (key_at weight r) a) (key_like q mine.0 mine.2) (subst (λ k. IsBefore (key_at weight q) b k a) (sym (key_like r its.0 its.2)) l)))

-- what a row's turn is
data Kind : Type 0 where
  cutting : Kind
  taking : Kind
  expanding : Kind

module _ (space : Space) (weight : Weight) where
  abbrev IsKind : Kind → (share : Owner) → (state : ℕ) → Row → Work → Type 0
  IsKind cutting share state row work = MayBeCut weight share.incumbent row.g row.estimate × (work ≡ cut state)
  IsKind taking share state row work = (MayBeCut weight share.incumbent row.g row.estimate → ⊥) × (space.is_goal state ≡ true) × (work ≡ take_goal state)
  IsKind expanding share state row work = (MayBeCut weight share.incumbent row.g row.estimate → ⊥) × (space.is_goal state ≡ false) × (work ≡ expand state)

  -- the work is the turn of this share's first row
  record Turn (share : Owner) (work : Work) : Type 0 where
    state : ℕ
    row : Row
    first : IsFirstRow weight share.part state row
    kind : Kind
    is : IsKind kind share state row work

  opened_of : (share : Owner) (work : Work) → Turn share work → HasOpened share.part
  opened_of share work t = (t.state, t.row, t.first.found, t.first.opened)

  -- shares that are alike have one turn
  turn_same : (one other : Owner) → LikeShares one other → (work second : Work) → Turn one work → Turn other second → work ≡ second
  turn_same one other like work second t u = go t.kind u.kind t.is u.is
    where
      both : (t.state ≡ u.state) × (plain t.row ≡ plain u.row)
      both = first_like weight one.part other.part like.rows t.state u.state t.row u.row t.first u.first

      across : MayBeCut weight one.incumbent t.row.g t.row.estimate → MayBeCut weight other.incumbent u.row.g u.row.estimate
      across m = subst (λ (v : Row). MayBeCut weight other.incumbent v.g v.estimate) both.1 (subst (λ (o : Option ℕ). MayBeCut weight o t.row.g t.row.estimate) like.incumbent m)

      back : MayBeCut weight other.incumbent u.row.g u.row.estimate → MayBeCut weight one.incumbent t.row.g t.row.estimate
      back m = subst (λ (v : Row). MayBeCut weight one.incumbent v.g v.estimate) (sym both.1) (subst (λ (o : Option ℕ). MayBeCut weight o u.row.g u.row.estimate) (sym like.incumbent) m)

      goals : {A : Type 0} → space.is_goal t.state ≡ true → space.is_goal u.state ≡ false → A
      goals a b = let bad : true ≡ false = sym a ∙ (ap space.is_goal both.0 ∙ b) in cc

      others : {A : Type 0} → space.is_goal t.state ≡ false → space.is_goal u.state ≡ true → A
      others a b = let bad : false ≡ true = sym a ∙ (ap space.is_goal both.0 ∙ b) in cc

      go : (k l : Kind) → IsKind k one t.state t.row work → IsKind l other u.state u.row second → work ≡ second
      go cutting cutting (m, e) (n, f) = e ∙ ap cut both.0 ∙ sym f
      go cutting taking (m, e) (n, goal, f) = absurd (n (across m))
      go cutting expanding (m, e) (n, goal, f) = absurd (n (across m))
      go taking cutting (m, goal, e) (n, f) = absurd (m (back n))
      go taking taking (m, goal, e) (n, other_goal, f) = e ∙ ap take_goal both.0 ∙ sym f
      go taking expanding (m, goal, e) (n, other_goal, f) = goals goal other_goal
      go expanding cutting (m, goal, e) (n, f) = absurd (m (back n))
      go expanding taking (m, goal, e) (n, other_goal, f) = others goal other_goal
      go expanding expanding (m, goal, e) (n, other_goal, f) = e ∙ ap expand both.0 ∙ sym f

  -- the turn that is to come at the end of a part
  next_turn : (share : Owner) (n : IsNextExpansion space weight share) → Turn share (expand n.state)
  next_turn share n = record { state = n.state; row = n.row; first = n.first; kind = expanding; is = (n.kept, n.no_goal, refl) }

-- the rows of a share's store are those of its own part
module _ (weight : Weight) (number : ℕ) (share : Owner) where
  own_part : (home : ℕ) (b : Bool) → (home == number) ≡ b → (state : ℕ) (row : Row) → (share_store weight number share).rows home state ≡ Some row → b ≡ true
  own_part home true e state row found = refl
  own_part home false e state row found = none_is row (sym (ap (λ t. cond t (share.part state) None) e) ∙ found)

  part_here : (home : ℕ) → (home == number) ≡ true → (share_store weight number share).rows home ≡ share.part
  part_here home e = λ i state. cond (e i) (share.part state) None

  first_own : (home state : ℕ) (row : Row) → IsFirstRow weight ((share_store weight number share).rows home) state row → IsFirstRow weight share.part state row
  first_own home state row h = subst (λ (p : Part). IsFirstRow weight p state row) (part_here home (own_part home (home == number) refl state row h.found)) h

module _ (space : Space) (guide : Guide) (weight : Weight) (number : ℕ) where
  -- each piece of an owner's work that isn't broken off is a turn
  turn_of : (share : Owner) (work : Work) → IsOwnWork work → May space guide work (share_store weight number share) → IsLeaseTurn guide (share_store weight number share) work → broken_expansions (work ∷ []) ≡ 0 → Turn space weight share work
  turn_of share (cut own) is may (row, first) none =
      let same : may.0 ≡ row = some_row may.0 row (sym may.1 ∙ first.found) in
      record { state = own; row = row; first = first_own weight number share (guide.home own) own row first; kind = cutting; is = (subst (λ (v : Row). MayBeCut weight share.incumbent v.g v.estimate) same may.3, refl) }
  turn_of share (take_goal own) is may (row, first, kept) none =
      record { state = own; row = row; first = first_own weight number share (guide.home own) own row first; kind = taking; is = (kept, may.1, refl) }
  turn_of share (expand own) is may (row, first, kept) none =
      record { state = own; row = row; first = first_own weight number share (guide.home own) own row first; kind = expanding; is = (kept, may.1, refl) }
  turn_of share (break_off own offers) is may turn none = absurd (omega (arith, none))
  turn_of share (lower cost) is may turn none = absurd is
  turn_of share (reopen heavier) is may turn none = absurd is

  -- ---- a part in a round

  pub record Way (quota : ℕ) (works : List Work) (old new : Owner) : Type 0 where
    pub comes : ComesAlone space guide weight number works old new
    pub worked : WorksByQuota space guide weight number quota works old new

  one_more : (work : Work) (works : List Work) → expansions (work ∷ works) ≡ expansions (work ∷ []) + expansions works
  one_more (expand own) works = omega arith
  one_more (break_off own offers) works = omega arith
  one_more (cut own) works = omega arith
  one_more (take_goal own) works = omega arith
  one_more (lower cost) works = omega arith
  one_more (reopen heavier) works = omega arith

  broken_more : (work : Work) (works : List Work) → broken_expansions (work ∷ works) ≡ broken_expansions (work ∷ []) + broken_expansions works
  broken_more (expand own) works = omega arith
  broken_more (break_off own offers) works = omega arith
  broken_more (cut own) works = omega arith
  broken_more (take_goal own) works = omega arith
  broken_more (lower cost) works = omega arith
  broken_more (reopen heavier) works = omega arith

  module _ (quota : ℕ) (work : Work) (works : List Work) (old new : Owner) (way : Way quota (work ∷ works) old new) where
    first_turn : Turn space weight old work
    first_turn = turn_of old work way.comes.0 way.comes.1 way.worked.turns.0 (let b = broken_more work works in let n = way.worked.none_broken in omega arith)

    rest : Way (quota - expansions (work ∷ [])) works (share_after space guide weight number work old) new
    rest = record {
      comes = way.comes.2;
      worked = record {
        turns = way.worked.turns.1;
        none_broken = let b = broken_more work works in let n = way.worked.none_broken in omega arith;
        within = let m = one_more work works in let w = way.worked.within in omega arith;
        ends = less way.worked.ends;
      };
    }
      where
        less : (HasOpened new.part → ⊥) ⊎ ((expansions (work ∷ works) ≡ quota) × IsNextExpansion space weight new)
            → (HasOpened new.part → ⊥) ⊎ ((expansions works ≡ quota - expansions (work ∷ [])) × IsNextExpansion space weight new)
        less (inl none) = inl none
        less (inr h) = inr ((let m = one_more work works in let e = h.0 in omega arith), h.1)

  -- a part that ended has no turn more
  ended : (quota : ℕ) (work : Work) (works : List Work) (s t mid new : Owner) → LikeShares s t → Way quota [] s mid → Way quota (work ∷ works) t new → ⊥
  ended quota work works s t mid new like one other = go one.worked.ends
    where
      turn : Turn space weight t work
      turn = first_turn quota work works t new other

      go : (HasOpened mid.part → ⊥) ⊎ ((0 ≡ quota) × IsNextExpansion space weight mid) → ⊥
      go (inl none) = subst (λ (o : Owner). HasOpened o.part → ⊥) one.comes none (like_opened t.part s.part (λ state. sym (like.rows state)) (opened_of space weight t work turn))
      go (inr h) =
          let next : IsNextExpansion space weight s = subst (IsNextExpansion space weight) one.comes h.1 in
          let is = turn_same space weight s t like (expand next.state) work (next_turn space weight s next) turn in
          let count = ap (λ w. expansions (w ∷ [])) is in
          let m = one_more work works in let w = other.worked.within in let z = h.0 in omega arith

  -- shares that are alike come to shares that are alike, by the same work
  pub way_same : (quota : ℕ) (works others : List Work) (s t mid new : Owner) → LikeShares s t → Way quota works s mid → Way quota others t new → (works ≡ others) × LikeShares mid new
  way_same quota [] [] s t mid new like one other = (refl, subst (λ (o : Owner). LikeShares o new) (sym one.comes) (subst (LikeShares s) (sym other.comes) like))
  way_same quota [] (work ∷ works) s t mid new like one other = absurd (ended quota work works s t mid new like one other)
  way_same quota (work ∷ works) [] s t mid new like one other = absurd (ended quota work works t s new mid (like_swap s t like) other one)
  way_same quota (work ∷ works) (second ∷ others) s t mid new like one other =
      let is : work ≡ second = turn_same space weight s t like work second (first_turn quota work works s mid one) (first_turn quota second others t new other) in
      let after : LikeShares (share_after space guide weight number work s) (share_after space guide weight number second t)
      = subst (λ w. LikeShares (share_after space guide weight number work s) (share_after space guide weight number w t)) is (like_after space guide weight number s t like work one.comes.0) in
      let more = way_same (quota - expansions (work ∷ [])) works others (share_after space guide weight number work s) (share_after space guide weight number second t) mid new after (rest quota work works s mid one)
      (subst (λ w. Way (quota - expansions (w ∷ [])) others (share_after space guide weight number second t) new) (sym is) (rest quota second others t new other)) in
      ((λ i. is i ∷ more.0 i), more.1)

  -- from the clauses of a round
  pub part_same : (quota : ℕ) (works others : List Work) (s t mid new : Owner) → LikeShares s t → ComesAlone space guide weight number works s mid → WorksByQuota space guide weight number quota works s mid
      → ComesAlone space guide weight number others t new → WorksByQuota space guide weight number quota others t new → (works ≡ others) × LikeShares mid new
  part_same quota works others s t mid new like comes worked other_comes other_worked = way_same quota works others s t mid new like (record { comes = comes; worked = worked }) (record { comes = other_comes; worked = other_worked })
