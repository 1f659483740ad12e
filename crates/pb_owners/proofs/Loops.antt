-- The loops over seats.
use Rattle.std.proofs.Common.{◌≡◌, ◌≢◌, ℕ, zero, suc, ◌+◌, ◌*◌, ◌-◌, ◌<◌, ◌≤◌, ◌^◌, ◌⊎◌, ◌++◌, List, Option, Some, None, Bool, true, false, min, length, set, refl, sym, ap, ◌∙◌, subst, ⊎_elim, inl, inr, arith, slice_get, length-set, ne_eqb}
use Rattle.std.specs.Option.{option_map}
use Rattle.std.specs.Prelude.{◌↔◌}
use Rattle.pb_owner.specs.declared.working.WorkEnd.{WorkEnd}
use Rattle.pb_owner.specs.declared.working.WorkEnd.TheVariants.{Spent, Empty, Memory}
use Rattle.pb_owner.specs.Working.{broken_at}
use Rattle.std.proofs.lemmas.Bool.{cases_eq, cases_lt}
use Rattle.std.proofs.lemmas.Option.{slice_get_within, slice_get_past}
use Rattle.pb_model.specs.Store.{HasOpened}
use Rattle.pb_lists.specs.Bundle.{row_of}
use Rattle.pb_mail.specs.declared.letter.Sent.{Sent}
use Rattle.pb_mail.specs.declared.view.View.{View}
use Rattle.pb_mail.specs.declared.post.Post.{Post}
use Rattle.pb_mail.specs.declared.pass.PostPass.{PostPass}
use Rattle.pb_mail.specs.Rule.{AreWhole}
use Rattle.pb_mail.specs.Passes.{view_at, number_of, made_by, owners_of, IsPassOf, HasMet}
use Rattle.pb_hashed.specs.Laws.{sum_below}
use Rattle.pb_owner.specs.Taking.{HasTakenIn, KeepsQueues}
use Rattle.pb_owner.specs.declared.plan.Plan.{Plan}
use Rattle.pb_owners.specs.declared.seat.Seat.{Seat}
use Rattle.pb_owners.specs.Plans.{HasTools}
use Rattle.pb_owners.specs.Seats.{Each, EachPair, quota_in, used_in, quota_at, used_at}
use Rattle.pb_owners.specs.Passing.{IsFresh, HasSeat, IsOwnersPass, IsToMeet, KnowsAllOf, HasMetAll, KeepsSent}
use Rattle.pb_owners.specs.Rounds.{IsDrawn, IsCleared, AreLow, one_if}
use Rattle.pb_owners.specs.Shares.{owner_in, share_of, seat_at}
use Rattle.pb_owners.proofs.Pairs.{Pairs, pairs_more, pairs_map, get_set_here, get_set_else, some_is, none_some, old_of, there, sum_same}
use Rattle.pb_owners.proofs.Meetings.{knows_own, knows_still, knows_new, closed_still}

-- ---- sums

pub sum_next : (k : ℕ) (f : ℕ → ℕ) → sum_below (k + 1) f ≡ sum_below k f + f k
sum_next k f = let e : k + 1 ≡ suc k = omega arith in ap (λ n. sum_below n f) e

pub sum_set : (k : ℕ) (seats : List Seat) (y : Seat) (f : Option Seat → ℕ) → sum_below k (λ i. f (slice_get (set seats k y) i)) ≡ sum_below k (λ i. f (slice_get seats i))
sum_set k seats y f = sum_same k (λ i. f (slice_get (set seats k y) i)) (λ i. f (slice_get seats i)) (λ i less. ap f (get_set_else seats k i y (λ e. omega arith)))

pub sum_low : (k most : ℕ) (f : ℕ → ℕ) → ((i : ℕ) → i < k → f i ≤ most) → sum_below k f ≤ k * most
sum_low zero most f low = omega arith
sum_low (suc k) most f low = let a = sum_low k most f (λ i less. low i (omega arith)) in let b = low k (omega arith) in grind (arith, a, b)

pub used_fits : (seats : List Seat) (at used : ℕ) (x : Seat) → length seats ≤ 64 → AreLow seats → slice_get seats at ≡ Some x → used ≡ sum_below at (used_at seats) → used + x.used < 2 ^ 64
used_fits seats at used x few low is sum =
    let w = slice_get_within seats at x is in
    let all = sum_low at (2 ^ 40) (used_at seats) (λ i less. let y = there seats i (omega arith) in let e = ap used_in y.1 in let l = low.at i y.0 y.1 in omega arith) in
    let here = low.at at x is in omega arith

pub used_next : (seats : List Seat) (at used : ℕ) (x : Seat) → slice_get seats at ≡ Some x → used ≡ sum_below at (used_at seats) → used + x.used ≡ sum_below (at + 1) (used_at seats)
used_next seats at used x is sum = let n = sum_next at (used_at seats) in let e = ap used_in is in omega arith

-- ---- quotas

-- a sum up to a place doesn't see a seat from that place on
sum_before : (i k : ℕ) (seats : List Seat) (y : Seat) → i ≤ k → sum_below i (quota_at (set seats k y)) ≡ sum_below i (quota_at seats)
sum_before i k seats y low = sum_same i (quota_at (set seats k y)) (quota_at seats) (λ j less. ap quota_in (get_set_else seats k j y (λ e. omega arith)))

module _ (lot left : ℕ) (olds news : List Seat) (at rest quota : ℕ) (x : Seat) (pairs : Pairs at (IsDrawn lot left news) olds news) (sum : sum_below at (quota_at news) + rest ≡ left) (is : slice_get news at ≡ Some x)
    (opened : HasOpened (row_of x.share.bundle) → quota ≡ min lot rest) (none : (HasOpened (row_of x.share.bundle) → ⊥) → quota ≡ 0) (low : quota ≤ rest) where
  pub drawn_more : Pairs (at + 1) (IsDrawn lot left (set news at (record x { quota = quota }))) olds (set news at (record x { quota = quota }))
  drawn_more = pairs_more (IsDrawn lot left (set news at (record x { quota = quota }))) olds news at x (record x { quota = quota })
      (pairs_map (IsDrawn lot left news) (IsDrawn lot left (set news at (record x { quota = quota }))) olds news at
      (λ i u v less d. record {
        new_is = d.new_is;
        opened = λ h. d.opened h ∙ ap (λ n. min lot (left - n)) (sym (sum_before i at news (record x { quota = quota }) (omega arith)));
        none = d.none;
      }) pairs) is
      (λ _. record {
        new_is = refl;
        opened = λ h. opened h ∙ ap (min lot) (let s = sum in let b = sum_before at at news (record x { quota = quota }) (omega arith) in omega arith);
        none = none;
      })

  pub drawn_sum : sum_below (at + 1) (quota_at (set news at (record x { quota = quota }))) + (rest - quota) ≡ left
  drawn_sum =
      let here = ap quota_in (get_set_here news at (record x { quota = quota }) (slice_get_within news at x is)) in
      let b = sum_before at at news (record x { quota = quota }) (omega arith) in let n = sum_next at (quota_at (set news at (record x { quota = quota }))) in omega arith

-- ---- passes are given out

-- the first seat is as it was, and each other one got its pass
pub record GivenFrom {K : Type 0} (post : Post K) (i : ℕ) (x y : Seat) : Type 0 where
  pub other : 0 < i → HasSeat post i x y
  pub first : i ≡ 0 → y ≡ x

module _ {K : Type 0} (post : Post K) where
  pub given_none : (seats : List Seat) → Pairs 1 (GivenFrom post) seats seats
  given_none seats = record {
    many = refl;
    done = λ i x y less old new. record { other = λ some. absurd (omega arith); first = λ zero. some_is y x (sym new ∙ old) };
    left = λ i past. refl;
  }

  pub given_more : (olds news : List Seat) (at : ℕ) (x : Seat) (pass : PostPass) → 1 ≤ at → Pairs at (GivenFrom post) olds news → slice_get news at ≡ Some x → IsFresh post at pass → Pairs (at + 1) (GivenFrom post) olds (set news at (record x { pass = Some pass }))
  given_more olds news at x pass some pairs is fresh = pairs_more (GivenFrom post) olds news at x (record x { pass = Some pass }) pairs is (λ _. record {
    other = λ _. record { pass = pass; fresh = fresh; new_is = refl };
    first = λ zero. absurd (omega arith);
  })

  pub given_all : (olds news : List Seat) (at : ℕ) (x : Seat) (pass : PostPass) → length news ≤ at → Pairs at (GivenFrom post) olds news → slice_get news 0 ≡ Some x → IsFresh post 0 pass → EachPair (HasSeat post) olds (set news 0 (record x { pass = Some pass }))
  given_all olds news at x pass all pairs is fresh = record {
    many = length-set news 0 (record x { pass = Some pass }) ∙ pairs.many;
    at = λ i u v old new. ⊎_elim
        (λ (e : i ≡ 0).
        let u_is : x ≡ u = sym (some_is u x (sym old ∙ (ap (slice_get olds) e ∙ first_is))) in
        let v_is : record x { pass = Some pass } ≡ v = some_is (record x { pass = Some pass }) v (sym (get_set_here news 0 (record x { pass = Some pass }) (slice_get_within news 0 x is)) ∙ (ap (slice_get (set news 0 (record x { pass = Some pass }))) (sym e) ∙ new)) in
        record { pass = pass; fresh = subst (λ n. IsFresh post n pass) (sym e) fresh; new_is = sym v_is ∙ ap (λ (s : Seat). record s { pass = Some pass }) u_is })
        (λ (off : i ≢ 0).
        let still = sym (get_set_else news 0 i (record x { pass = Some pass }) off) ∙ new in
        (pairs.done i u v (let w = slice_get_within news i v still in omega arith) old still).other (omega arith)) (cases_eq i 0);
  }
    where
      first_is : slice_get olds 0 ≡ Some x
      first_is =
          let o = old_of olds news 0 x pairs.many is in
          o.1 ∙ ap Some (sym ((pairs.done 0 o.0 x (let w = slice_get_within news 0 x is in omega arith) o.1 is).first refl))

  -- ---- passes are met

  -- the first pass took in those of all seats below this place
  pub record HasMetBelow (seats : List Seat) (at : ℕ) (first : PostPass) : Type 0 where
    pub own : IsPassOf post first
    pub number_is : number_of first ≡ 0
    pub made_is : made_by first ≡ owners_of post
    pub knows : (i : ℕ) (seat : Seat) (pass : PostPass) → i < at → slice_get seats i ≡ Some seat → seat.pass ≡ Some pass → KnowsAllOf post first i pass
    pub closed : (q : ℕ) → at ≤ q → q < owners_of post → (view_at first q).takes ≡ false

  -- what is known of the pass of a seat that is to be met
  pub pass_to_meet : (seat : Seat) (i : ℕ) (pass : PostPass) → IsToMeet post i seat → seat.pass ≡ Some pass → IsOwnersPass post i pass
  pass_to_meet seat i pass h is = subst (IsOwnersPass post i) (some_is h.pass pass (sym h.pass_is ∙ is)) h.owners

  module _ (seats : List Seat) (to_meet : Each (IsToMeet post) seats) (many : length seats ≡ owners_of post) where
    pub met_first : (seat : Seat) (pass : PostPass) → slice_get seats 0 ≡ Some seat → seat.pass ≡ Some pass → HasMetBelow seats 1 pass
    met_first seat pass is pass_is =
        let own = pass_to_meet seat 0 pass (to_meet.at 0 seat is) pass_is in
        let some : 0 < owners_of post = let w = slice_get_within seats 0 seat is in omega arith in
        record {
          own = own.own;
          number_is = own.number_is;
          made_is = own.made_is refl;
          knows = λ i other its less there its_is.
              let zero : i ≡ 0 = omega arith in
              let same : seat ≡ other = some_is seat other (sym is ∙ (ap (slice_get seats) (sym zero) ∙ there)) in
              let same_pass : pass ≡ its = some_is pass its (sym pass_is ∙ (ap (λ (s : Seat). s.pass) same ∙ its_is)) in
              subst (KnowsAllOf post pass i) same_pass (subst (λ n. KnowsAllOf post pass n pass) (sym zero) (knows_own post pass own some));
          closed = λ q past below. own.role q below ∙ ne_eqb q 0 (λ e. omega arith);
        }

    pub met_more : (at : ℕ) (old other new : PostPass) (seat : Seat) → HasMetBelow seats at old → slice_get seats at ≡ Some seat → seat.pass ≡ Some other
        → IsPassOf post new → number_of new ≡ number_of old → made_by new ≡ made_by old → HasMet (owners_of post) old other new → HasMetBelow seats (at + 1) new
    met_more at old other new seat h is other_is own number made met =
        let its = pass_to_meet seat at other (to_meet.at at seat is) other_is in
        let low : at < owners_of post = let w = slice_get_within seats at seat is in omega arith in
        record {
          own = own;
          number_is = number ∙ h.number_is;
          made_is = made ∙ h.made_is;
          knows = λ i some pass less there pass_is. ⊎_elim
              (λ (e : i ≡ at).
              let same : seat ≡ some = some_is seat some (sym is ∙ (ap (slice_get seats) (sym e) ∙ there)) in
              let same_pass : other ≡ pass = some_is other pass (sym other_is ∙ (ap (λ (s : Seat). s.pass) same ∙ pass_is)) in
              subst (KnowsAllOf post new i) same_pass (subst (λ n. KnowsAllOf post new n other) (sym e) (knows_new post old other new at its low met (h.closed at (omega arith) low))))
              (λ (off : i ≢ at). knows_still post old other new at its low met i pass (omega arith) off (h.knows i some pass (omega arith) there pass_is)) (cases_eq i at);
          closed = λ q past below. closed_still post old other new at its low met q below (λ e. omega arith) (h.closed q (omega arith) below);
        }

    pub met_all : (at : ℕ) (first : PostPass) → length seats ≤ at → HasMetBelow seats at first → HasMetAll post seats first
    met_all at first all h = record {
      own = h.own;
      number_is = h.number_is;
      made_is = h.made_is;
      knows = λ i seat pass is pass_is. h.knows i seat pass (let w = slice_get_within seats i seat is in omega arith) is pass_is;
    }

-- ---- queues are cleared

pub keeps_none : (pass : PostPass) → KeepsSent pass pass
keeps_none pass = record { number_is = refl; made_is = refl; sent = λ q. refl; met = λ q. refl; number = λ q. refl; takes = λ q. refl }

module _ (at : ℕ) (old pass next : PostPass) (keeps : KeepsSent old pass) (queues : KeepsQueues at pass next) where
  stays : {A : Type 0} (f : View → A) → f (view_at next at) ≡ f (view_at pass at) → (q : ℕ) → f (view_at next q) ≡ f (view_at pass q)
  stays f here q = ⊎_elim (λ (e : q ≡ at). ap (λ n. f (view_at next n)) e ∙ here ∙ ap (λ n. f (view_at pass n)) (sym e)) (λ (off : q ≢ at). ap f (queues.others q off)) (cases_eq q at)

  pub keeps_more : KeepsSent old next
  keeps_more = record {
    number_is = queues.number_is ∙ keeps.number_is;
    made_is = queues.made_is ∙ keeps.made_is;
    sent = λ q. stays (λ (v : View). v.sent) queues.sent q ∙ keeps.sent q;
    met = λ q. stays (λ (v : View). v.met) queues.met q ∙ keeps.met q;
    number = λ q. stays (λ (v : View). v.number) queues.number q ∙ keeps.number q;
    takes = λ q. stays (λ (v : View). v.takes) queues.takes q ∙ keeps.takes q;
  }

  module _ (plan : Plan) (olds news : List Seat) (x y : Seat) (pairs : Pairs at (IsCleared plan old pass) olds news) (is : slice_get news at ≡ Some x)
      (untouched : (view_at pass at).taken ≡ (view_at old at).taken) (more : List Sent) (taken : (view_at next at).taken ≡ (view_at pass at).taken ++ more) (taken_in : HasTakenIn plan.task.now plan.choice.now more x.share y.share) (whole : AreWhole (view_at next at))
      (used_is : y.used ≡ x.used) (tools : HasTools plan y) where
    pub cleared_more : Pairs (at + 1) (IsCleared plan old next) olds (set news at y)
    cleared_more = pairs_more (IsCleared plan old next) olds news at x y
        (pairs_map (IsCleared plan old pass) (IsCleared plan old next) olds news at
        (λ i u v less c. record {
          more = c.more;
          taken = ap (λ (w : View). w.taken) (queues.others i (λ e. omega arith)) ∙ c.taken;
          taken_in = c.taken_in;
          whole = subst AreWhole (sym (queues.others i (λ e. omega arith))) c.whole;
          used_is = c.used_is;
          tools = c.tools;
        }) pairs) is
        (λ _. record { more = more; taken = taken ∙ ap (λ l. l ++ more) untouched; taken_in = taken_in; whole = whole; used_is = used_is; tools = tools })

-- ---- an Opened row

pub none_opened : (seats : List Seat) (at : ℕ) (x : Seat) → ((i : ℕ) → i < at → HasOpened (seat_at seats i).part → ⊥) → slice_get seats at ≡ Some x → (HasOpened (row_of x.share.bundle) → ⊥) → (i : ℕ) → i < at + 1 → HasOpened (seat_at seats i).part → ⊥
none_opened seats at x before is none i less opened = ⊎_elim
    (λ (e : i ≡ at). none (subst (λ (o : Option Seat). HasOpened (owner_in (option_map share_of o)).part) is (subst (λ n. HasOpened (seat_at seats n).part) e opened)))
    (λ (off : i ≢ at). before i (omega arith) opened) (cases_eq i at)

nothing_opened : HasOpened (owner_in None).part → ⊥
nothing_opened h = none_some h.1 h.2

pub none_beyond : (seats : List Seat) (at : ℕ) → length seats ≤ at → ((i : ℕ) → i < at → HasOpened (seat_at seats i).part → ⊥) → (i : ℕ) → HasOpened (seat_at seats i).part → ⊥
none_beyond seats at all before i opened = ⊎_elim
    (λ (less : i < at). before i less opened)
    (λ (past : at ≤ i). nothing_opened (subst (λ (o : Option Seat). HasOpened (owner_in (option_map share_of o)).part) (slice_get_past seats i (omega arith)) opened)) (cases_lt i at)

-- ---- why an owner's work ended

one_true : (b : Bool) → 1 ≡ one_if b → b ≡ true
one_true true e = refl
one_true false e = absurd (omega (arith, e))

pub ends_of : {O N : Type 0} (end : WorkEnd) (failed : Bool) (used quota : ℕ) → broken_at end ≡ one_if failed → ((end ≡ Spent) ↔ (O × (used ≡ quota))) → ((end ≡ Empty) ↔ (O → ⊥)) → (end ≡ Spent → N) → (failed ≡ true) ⊎ ((O → ⊥) ⊎ ((used ≡ quota) × N))
ends_of Spent failed used quota broken spent empty next = inr (inr ((spent.0 refl).1, next refl))
ends_of Empty failed used quota broken spent empty next = inr (inl (empty.0 refl))
ends_of Memory failed used quota broken spent empty next = inl (one_true failed broken)
