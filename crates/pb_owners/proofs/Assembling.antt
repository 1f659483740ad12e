-- The steps of a round, one after another, are a round.
use Rattle.std.proofs.Common.{◌≡◌, ℕ, ◌<◌, ◌≤◌, List, Option, Some, None, length, sym, ap, ◌∙◌, subst, ⊎_elim, arith, slice_get}
use Rattle.std.specs.Option.{option_map}
use Rattle.std.proofs.lemmas.Bool.{cases_lt}
use Rattle.std.proofs.lemmas.Option.{slice_get_within, slice_get_past}
use Rattle.pb_model.specs.Store.{HasOpened}
use Rattle.pb_lists.specs.Bundle.{row_of}
use Rattle.pb_mail.specs.declared.post.Post.{Post}
use Rattle.pb_mail.specs.declared.pass.PostPass.{PostPass}
use Rattle.pb_mail.specs.Passes.{owners_of, IsPassOf}
use Rattle.pb_hashed.specs.Mailed.{Owner, Mailed, least_of}
use Rattle.pb_hashed.specs.Laws.{sum_below}
use Rattle.pb_hashed.proofs.Callers.{rounds_are_work}
use Rattle.pb_owner.specs.declared.share.Share.{Share}
use Rattle.pb_owner.specs.declared.plan.Plan.{Plan}
use Rattle.pb_owners.specs.declared.seat.Seat.{Seat}
use Rattle.pb_owner.specs.Plans.{space_in, guide_in, weight_in}
use Rattle.pb_owners.specs.Plans.{IsPlan, HasTools}
use Rattle.pb_owners.specs.Seats.{Each, EachPair, quota_in, used_in, quota_at, used_at}
use Rattle.pb_owners.specs.Passing.{HasSeat, IsToMeet, IsWithoutPass, HasMetAll, KeepsSent, MayTakeAll}
use Rattle.pb_owners.specs.Rounds.{IsWithin, IsReady, HasBegun, HasLeft, HasTaken, NoneFailed, IsCleared, HasIncumbent, AreLow, IsDrawn, IsToRun, HasRun, IsToRound, HasRounded}
use Rattle.pb_owners.specs.RoundRule.{IsQuota, IsRoundWith}
use Rattle.pb_owners.specs.Between.{IsBetween, RunsByMail}
use Rattle.pb_owners.specs.Shares.{owner_in, share_of, seat_at}
use Rattle.pb_owners.proofs.Pairs.{there, old_of, sum_at_most, term_at_most}
use Rattle.pb_owners.proofs.Parting.{tools_with, ready_of, left_of, to_meet, did_part, last_used}
use Rattle.pb_owners.proofs.Rounding.{DidPart, runs}

-- the owner at a seat
pub seat_is : (seats : List Seat) (i : ℕ) (x : Seat) → slice_get seats i ≡ Some x → seat_at seats i ≡ owner_in (Some x.share)
seat_is seats i x is = ap (λ (o : Option Seat). owner_in (option_map share_of o)) is

pub seat_past : (seats : List Seat) (i : ℕ) → length seats ≤ i → seat_at seats i ≡ owner_in None
seat_past seats i past = ap (λ (o : Option Seat). owner_in (option_map share_of o)) (slice_get_past seats i past)

module _ {K : Type 0} (plan : Plan) (is_plan : IsPlan plan) (post : Post K) (owners_is : owners_of post ≡ plan.owners) (s0 sp : List Seat) (to_run : IsToRun plan s0) (seated : EachPair (HasSeat post) s0 sp) where
  pub all_ready : Each (IsReady plan post) sp
  all_ready = record { at = λ i y is. let x = old_of s0 sp i y seated.many is in ready_of plan post i x.0 y (seated.at i x.0 y x.1 is) (to_run.tools.at i x.0 x.1) (to_run.within.at i x.0 x.1) }

  pub many_given : length sp ≡ plan.owners
  many_given = seated.many ∙ to_run.many

  module _ (s1 : List Seat) (begun : EachPair (HasBegun plan post) sp s1) where
    pub all_left : Each (HasLeft plan post) s1
    all_left = record { at = λ i y is. let x = old_of sp s1 i y begun.many is in left_of plan post i x.0 y (begun.at i x.0 y x.1 is) }

    pub many_begun : length s1 ≡ plan.owners
    many_begun = begun.many ∙ many_given

    module _ (none1 : NoneFailed s1) (s2 : List Seat) (took : EachPair (HasTaken plan post) s1 s2) (none2 : NoneFailed s2) where
      pub many_taken : length s2 ≡ plan.owners
      many_taken = took.many ∙ many_begun

      pub all_to_meet : Each (IsToMeet post) s2
      all_to_meet = record {
        at = λ i x2 is2.
            let x1 = old_of s1 s2 i x2 took.many is2 in
            let xp = old_of sp s1 i x1.0 begun.many x1.1 in
            let x0 = old_of s0 sp i xp.0 seated.many xp.1 in
            to_meet plan post i x0.0 xp.0 x1.0 (seated.at i x0.0 xp.0 x0.1 xp.1) (begun.at i xp.0 x1.0 xp.1 x1.1) (let w = slice_get_within s2 i x2 is2 in let m = many_taken in omega arith) x2 (took.at i x1.0 x2 x1.1 is2) (none2.at i x2 is2);
      }

      module _ (first : PostPass) (met : HasMetAll post s2 first) (s3 : List Seat) (rest : EachPair (λ i. IsWithoutPass) s2 s3) where
        pub may_take : MayTakeAll post first
        may_take q below =
            let x = there s2 q (let m = many_taken in omega arith) in
            let t = all_to_meet.at q x.0 x.1 in (met.knows q x.0 t.pass x.1 t.pass_is).takes

        pub all_tools : Each (λ i. HasTools plan) s3
        all_tools = record {
          at = λ i x3 is3.
              let x2 = old_of s2 s3 i x3 rest.many is3 in
              let x1 = old_of s1 s2 i x2.0 took.many x2.1 in
              let w = rest.at i x2.0 x3 x2.1 is3 in
              tools_with plan x2.0 x3 (ap (λ (s : Seat). s.share.bundle.weight) w) (ap (λ (s : Seat). s.estimator) w) (ap (λ (s : Seat). s.succs) w) (took.at i x1.0 x2.0 x1.1 x2.1).tools;
        }

        pub many_met : length s3 ≡ plan.owners
        many_met = rest.many ∙ many_taken

        module _ (last : PostPass) (own : IsPassOf post last) (keeps : KeepsSent first last) (s4 : List Seat) (cleared : EachPair (IsCleared plan first last) s3 s4) where
          pub many_cleared : length s4 ≡ plan.owners
          many_cleared = cleared.many ∙ many_met

          -- what one owner did, and how much it used
          record Way (i : ℕ) : Type 0 where
            x0 : Seat
            x4 : Seat
            at0 : slice_get s0 i ≡ Some x0
            at4 : slice_get s4 i ≡ Some x4
            did : DidPart (space_in plan) (guide_in plan) (weight_in plan) post last i (owner_in (Some x0.share)) (owner_in (Some x4.share)) x0.quota x4.used
            low : x4.used ≤ x0.quota
            tools : HasTools plan x4

          way : (i : ℕ) → i < plan.owners → Way i
          way i less =
              let x4 = there s4 i (let m = many_cleared in omega arith) in
              let x3 = old_of s3 s4 i x4.0 cleared.many x4.1 in
              let x2 = old_of s2 s3 i x3.0 rest.many x3.1 in
              let x1 = old_of s1 s2 i x2.0 took.many x2.1 in
              let xp = old_of sp s1 i x1.0 begun.many x1.1 in
              let x0 = old_of s0 sp i xp.0 seated.many xp.1 in
              let seat = seated.at i x0.0 xp.0 x0.1 xp.1 in
              let part = begun.at i xp.0 x1.0 xp.1 x1.1 in
              let take = took.at i x1.0 x2.0 x1.1 x2.1 in
              let clear = cleared.at i x3.0 x4.0 x3.1 x4.1 in
              let without = rest.at i x2.0 x3.0 x2.1 x3.1 in
              let below : i < owners_of post = omega arith in
              let failed1 = none1.at i x1.0 x1.1 in
              let failed2 = none2.at i x2.0 x2.1 in
              record {
                x0 = x0.0;
                x4 = x4.0;
                at0 = x0.1;
                at4 = x4.1;
                did = did_part plan post i x0.0 xp.0 x1.0 seat part below x2.0 take failed2 failed1 x3.0 x4.0 first last (λ pass is. met.knows i x2.0 pass x2.1 is) without keeps clear;
                low = last_used plan post i x0.0 xp.0 x1.0 seat part below x2.0 take failed2 failed1 x3.0 x4.0 first last (λ pass is. met.knows i x2.0 pass x2.1 is) without keeps clear;
                tools = clear.tools;
              }

          did_at : (i : ℕ) → i < plan.owners → DidPart (space_in plan) (guide_in plan) (weight_in plan) post last i (seat_at s0 i) (seat_at s4 i) (quota_at s0 i) (used_at s4 i)
          did_at i less =
              let w = way i less in
              subst (λ (o : Option Seat). DidPart (space_in plan) (guide_in plan) (weight_in plan) post last i (owner_in (option_map share_of o)) (seat_at s4 i) (quota_in o) (used_at s4 i)) (sym w.at0)
              (subst (λ (o : Option Seat). DidPart (space_in plan) (guide_in plan) (weight_in plan) post last i (owner_in (Some w.x0.share)) (owner_in (option_map share_of o)) w.x0.quota (used_in o)) (sym w.at4) w.did)

          module _ (s5 : List Seat) (agreed : EachPair (HasIncumbent (least_of (length s4) (seat_at s4))) s4 s5) where
            pub many_agreed : length s5 ≡ plan.owners
            many_agreed = agreed.many ∙ many_cleared

            pub tools_agreed : Each (λ i. HasTools plan) s5
            tools_agreed = record {
              at = λ i x5 is5.
                  let w = way i (let l = slice_get_within s5 i x5 is5 in let m = many_agreed in omega arith) in
                  let a = agreed.at i w.x4 x5 w.at4 is5 in
                  tools_with plan w.x4 x5 (ap (λ (s : Seat). s.share.bundle.weight) a) (ap (λ (s : Seat). s.estimator) a) (ap (λ (s : Seat). s.succs) a) w.tools;
            }

            -- a seat after, and what it has of the one before
            last_at : (i : ℕ) (less : i < plan.owners) → (x5 : Seat) × (slice_get s5 i ≡ Some x5) × (x5 ≡ record (way i less).x4 { share = record (way i less).x4.share { incumbent = least_of (length s4) (seat_at s4) } })
            last_at i less =
                let x5 = there s5 i (let m = many_agreed in omega arith) in
                (x5.0, x5.1, agreed.at i (way i less).x4 x5.0 (way i less).at4 x5.1)

            used_is : (i : ℕ) (less : i < plan.owners) → used_at s5 i ≡ used_at s4 i
            used_is i less = let x = last_at i less in ap used_in x.1 ∙ ap (λ (s : Seat). s.used) x.2 ∙ sym (ap used_in (way i less).at4)

            used_low : (i : ℕ) → i < plan.owners → used_at s5 i ≤ quota_at s0 i
            used_low i less = let w = way i less in let a = used_is i less in let b = ap used_in w.at4 in let c = ap quota_in w.at0 in let l = w.low in omega arith

            pub low_used : AreLow s5
            low_used = record {
              at = λ i x5 is5.
                  let less : i < plan.owners = let l = slice_get_within s5 i x5 is5 in let m = many_agreed in omega arith in
                  let a = used_low i less in let b = ap used_in is5 in let w = way i less in let c = ap quota_in w.at0 in let l = to_run.low.at i w.x0 w.at0 in omega arith;
            }

            parts : (i : ℕ) → (seat_at s5 i).part ≡ (seat_at s4 i).part
            parts i = ⊎_elim
                (λ (less : i < plan.owners). let x = last_at i less in
                ap (λ (o : Owner). o.part) (seat_is s5 i x.0 x.1) ∙ ap (λ (s : Seat). (owner_in (Some s.share)).part) x.2 ∙ sym (ap (λ (o : Owner). o.part) (seat_is s4 i (way i less).x4 (way i less).at4)))
                (λ (past : plan.owners ≤ i). ap (λ (o : Owner). o.part) (seat_past s5 i (let m = many_agreed in omega arith) ∙ sym (seat_past s4 i (let m = many_cleared in omega arith)))) (cases_lt i plan.owners)

            pub has_run : (used : ℕ) → used ≡ sum_below (length s5) (used_at s5) → HasRun plan used s0 s5
            has_run used is = record {
              many = many_agreed;
              tools = tools_agreed;
              within =
                  let low = sum_at_most plan.owners (used_at s5) (quota_at s0) used_low in
                  let a = ap (λ n. sum_below n (used_at s5)) many_agreed in let b = ap (λ n. sum_below n (quota_at s0)) to_run.many in omega arith;
              mail = subst (λ n. RunsByMail (space_in plan) (guide_in plan) (weight_in plan) plan.owners n (IsRoundWith (space_in plan) (guide_in plan) plan.owners n (quota_at s0)) (seat_at s0) (seat_at s5)) (sym (is ∙ ap (λ n. sum_below n (used_at s5)) many_agreed))
                  (runs rounds_are_work (space_in plan) (guide_in plan) (weight_in plan) post last plan.owners (seat_at s0) (seat_at s4) (quota_at s0) (used_at s4)
                  (λ state. homes state) owners_is own (keeps.number_is ∙ met.number_is) (keeps.made_is ∙ met.made_is ∙ owners_is) did_at
                  (seat_at s5) (used_at s5) parts
                  (λ i less. let x = last_at i less in ap (λ (o : Owner). o.incumbent) (seat_is s5 i x.0 x.1) ∙ ap (λ (s : Seat). s.share.incumbent) x.2 ∙ ap (λ n. least_of n (seat_at s4)) many_cleared)
                  used_is
                  (λ i past. ap (λ (o : Owner). o.part) (seat_past s4 i (let m = many_cleared in omega arith) ∙ sym (seat_past s0 i (let m = to_run.many in omega arith))))
                  is_plan.some);
            }
              where
                homes : (state : ℕ) → (guide_in plan).home state < plan.owners
                homes state = let some = is_plan.some in omega arith

-- ---- quotas

module _ (plan : Plan) (lot left : ℕ) (seats drawn : List Seat) (ready : IsToRound plan left seats) (draws : EachPair (IsDrawn lot left drawn) seats drawn) (within : sum_below (length drawn) (quota_at drawn) ≤ left) where
  many_drawn : length drawn ≡ plan.owners
  many_drawn = draws.many ∙ ready.many

  quota_low : (i : ℕ) (y : Seat) → slice_get drawn i ≡ Some y → y.quota ≤ left
  quota_low i y is = let t = term_at_most (length drawn) (quota_at drawn) i (slice_get_within drawn i y is) in let e = ap quota_in is in omega arith

  -- the owners may run with what they drew
  pub drawn_to_run : IsToRun plan drawn
  drawn_to_run = record {
    many = many_drawn;
    tools = record {
      at = λ i y is.
          let x = old_of seats drawn i y draws.many is in let d = (draws.at i x.0 y x.1 is).new_is in
          tools_with plan x.0 y (ap (λ (s : Seat). s.share.bundle.weight) d) (ap (λ (s : Seat). s.estimator) d) (ap (λ (s : Seat). s.succs) d) (ready.tools.at i x.0 x.1);
    };
    within = record {
      at = λ i y is.
          let x = old_of seats drawn i y draws.many is in let d = (draws.at i x.0 y x.1 is).new_is in
          let w = ready.within.at i x.0 x.1 in
          subst (λ (s : Share). IsWithin plan i s y.quota) (sym (ap (λ (s : Seat). s.share) d)) (w.0, w.1, (let q = quota_low i y is in let l = w.2 in omega arith));
    };
    low = record { at = λ i y is. let q = quota_low i y is in let l = ready.low in omega arith };
  }

  drawn_is : seat_at drawn ≡ seat_at seats
  drawn_is = λ j i. same i j
    where
      same : (i : ℕ) → seat_at drawn i ≡ seat_at seats i
      same i = ⊎_elim
          (λ (less : i < length drawn).
          let y = there drawn i less in let x = old_of seats drawn i y.0 draws.many y.1 in
          seat_is drawn i y.0 y.1 ∙ ap (λ (s : Seat). owner_in (Some s.share)) (draws.at i x.0 y.0 x.1 y.1).new_is ∙ sym (seat_is seats i x.0 x.1))
          (λ (past : length drawn ≤ i). seat_past drawn i past ∙ sym (seat_past seats i (let m = draws.many in omega arith))) (cases_lt i (length drawn))

  -- each owner drew its quota
  drew : (m : Mailed) → IsBetween plan.owners (weight_in plan) (seat_at seats) m → (i : ℕ) → i < plan.owners → IsQuota lot left (quota_at drawn) m.owner i
  drew m b i less =
      let x = there seats i (let e = ready.many in omega arith) in
      let y = there drawn i (let e = many_drawn in omega arith) in
      let d = draws.at i x.0 y.0 x.1 y.1 in
      let part : (m.owner i).part ≡ row_of x.0.share.bundle = b.parts i ∙ ap (λ (o : Owner). o.part) (seat_is seats i x.0 x.1) in
      let quota : quota_at drawn i ≡ y.0.quota = ap quota_in y.1 in
      record {
        opened = λ h. quota ∙ d.opened (subst HasOpened part h);
        none = λ h. quota ∙ d.none (λ o. h (subst HasOpened (sym part) o));
      }

  pub rounded : (used : ℕ) (news : List Seat) → HasRun plan used drawn news → HasRounded plan lot left used seats news
  rounded used news h = record {
    many = h.many;
    tools = h.tools;
    within = let w = h.within in omega arith;
    mail = λ m b.
        let r = h.mail m (subst (λ (at : ℕ → Owner). IsBetween plan.owners (weight_in plan) at m) (sym drawn_is) b) in (
          r.0,
          r.1,
          r.2,
          r.3,
          r.4,
          r.5,
          record {
            opened = (ready.opened.0, subst HasOpened (sym (b.parts ready.opened.0)) ready.opened.1);
            some_left = ready.some_left;
            quotas = quota_at drawn;
            drawn = drew m b;
            round = r.6;
          },
        );
  }
