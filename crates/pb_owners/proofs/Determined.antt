-- Searches by the same rule are alike, whatever their schedules.
use Rattle.std.proofs.Common.{◌≡◌, ◌≢◌, ℕ, zero, suc, ◌-◌, ◌<◌, ◌≤◌, ◌⊎◌, min, List, [], ◌∷◌, inl, inr, refl, sym, ap, ◌∙◌, subst, ⊎_elim, arith}
use Rattle.std.proofs.lemmas.Bool.{cases_lt, cases_eq}
use Rattle.pb_model.specs.Space.{Space}
use Rattle.pb_model.specs.Weight.{Weight}
use Rattle.pb_model.specs.Guide.{Guide}
use Rattle.pb_model.specs.Store.{Part, HasOpened}
use Rattle.pb_model.specs.Work.{expansions}
use Rattle.pb_machine.specs.declared.event.End.{End}
use Rattle.pb_machine.specs.declared.event.End.TheVariants.{Quiet, Budget}
use Rattle.pb_mail.specs.Views.{letters_of}
use Rattle.pb_hashed.specs.Mailed.{Owner, Mailed}
use Rattle.pb_hashed.specs.MailWork.{ComesAlone}
use Rattle.pb_hashed.specs.Laws.{sum_below}
use Rattle.pb_owners.specs.RoundRule.{IsQuota, WorksByQuota, IsRoundOf, total, RunsInRounds}
use Rattle.pb_owners.specs.Between.{opening_mailed, AnyOpened}
use Rattle.pb_owners.specs.Shares.{IsEnd}
use Rattle.pb_owners.specs.Laws.{without_step, AreAlike, SearchesAreAlike}
use Rattle.pb_owners.proofs.Pairs.{sum_same}
use Rattle.pb_owners.proofs.Rounding.{least_same}
use Rattle.pb_owners.proofs.Alike.{LikeShares, like_opened}
use Rattle.pb_owners.proofs.Turning.{part_same}
use Rattle.pb_owners.proofs.Least.{taken_like}

-- the shares of so many owners are alike, and there are no other rows
record LikeAll (owners : ℕ) (one other : Mailed) : Type 0 where
  rows : (owner : ℕ) → AreAlike (one.owner owner).part (other.owner owner).part
  incumbents : (owner : ℕ) → owner < owners → (one.owner owner).incumbent ≡ (other.owner owner).incumbent
  weight : one.weight ≡ other.weight

like_all_swap : (owners : ℕ) (one other : Mailed) → LikeAll owners one other → LikeAll owners other one
like_all_swap owners one other h = record { rows = λ owner state. sym (h.rows owner state); incumbents = λ owner less. sym (h.incumbents owner less); weight = sym h.weight }

opened_like : (owners : ℕ) (one other : Mailed) → LikeAll owners one other → AnyOpened one.owner → AnyOpened other.owner
opened_like owners one other h (owner, opened) = (owner, like_opened (one.owner owner).part (other.owner owner).part (h.rows owner) opened)

-- ---- quotas

module _ (owners lot left : ℕ) (one other : Mailed) (like : LikeAll owners one other) (q r : ℕ → ℕ) (drawn : (i : ℕ) → i < owners → IsQuota lot left q one.owner i) (also : (i : ℕ) → i < owners → IsQuota lot left r other.owner i) where
  -- no owner can draw otherwise, whether a row of it is Opened or not
  one_quota : (i : ℕ) → i < owners → sum_below i q ≡ sum_below i r → q i ≡ r i
  one_quota i less same = ⊎_elim
      (λ (e : q i ≡ r i). e)
      (λ (off : q i ≢ r i).
      let none : HasOpened (one.owner i).part → ⊥ = λ h. off ((drawn i less).opened h ∙ ap (λ n. min lot (left - n)) same ∙ sym ((also i less).opened (like_opened (one.owner i).part (other.owner i).part (like.rows i) h))) in
      absurd (off ((drawn i less).none none ∙ sym ((also i less).none (λ h. none (like_opened (other.owner i).part (one.owner i).part (λ state. sym (like.rows i state)) h))))))
      (cases_eq (q i) (r i))

  quotas_below : (count : ℕ) → count ≤ owners → sum_below count q ≡ sum_below count r
  quotas_below zero low = refl
  quotas_below (suc k) low = let a = quotas_below k (omega arith) in let b = one_quota k (omega arith) a in omega arith

  quota_same : (i : ℕ) → i < owners → q i ≡ r i
  quota_same i less = one_quota i less (quotas_below i (omega arith))

-- ---- a round

module _ (space : Space) (guide : Guide) (owners lot left : ℕ) where
  module _ (used spent : ℕ) (one mid other new : Mailed) (like : LikeAll owners one other) (h : IsRoundOf space guide owners lot left used one mid) (k : IsRoundOf space guide owners lot left spent other new) where
    shares_like : (i : ℕ) → i < owners → LikeShares (one.owner i) (other.owner i)
    shares_like i less = record { rows = like.rows i; incumbent = like.incumbents i less; letters = λ to. h.round.round.none_before i to ∙ sym (k.round.round.none_before i to) }

    parts_same : (i : ℕ) → i < owners → (h.round.works i ≡ k.round.works i) × LikeShares (h.round.shares i) (k.round.shares i)
    parts_same i less = part_same space guide one.weight i (h.quotas i) (h.round.works i) (k.round.works i) (one.owner i) (other.owner i) (h.round.shares i) (k.round.shares i) (shares_like i less) (h.round.round.alone i less) (h.round.worked i less)
        (subst (λ (w : Weight). ComesAlone space guide w i (k.round.works i) (other.owner i) (k.round.shares i)) (sym like.weight) (k.round.round.alone i less))
        (subst (λ (w : Weight). WorksByQuota space guide w i (h.quotas i) (k.round.works i) (other.owner i) (k.round.shares i)) (sym like.weight)
        (subst (λ n. WorksByQuota space guide other.weight i n (k.round.works i) (other.owner i) (k.round.shares i)) (sym (quota_same owners lot left one other like h.quotas k.quotas h.drawn k.drawn i less)) (k.round.worked i less)))

    used_same : used ≡ spent
    used_same = sym h.round.used_is ∙ sum_same owners (λ i. expansions (h.round.works i)) (λ i. expansions (k.round.works i)) (λ i less. ap expansions (parts_same i less).0) ∙ k.round.used_is

    letters_same : (to : ℕ) → to < owners → (from : ℕ) → letters_of from (h.round.takes to) ≡ letters_of from (k.round.takes to)
    letters_same to less from = ⊎_elim
        (λ (low : from < owners). h.round.round.whole from to low less ∙ (parts_same from low).1.letters to ∙ sym (k.round.round.whole from to low less))
        (λ (past : owners ≤ from). h.round.round.senders from to past ∙ sym (k.round.round.senders from to past)) (cases_lt from owners)

    after_like : LikeAll owners mid new
    after_like = record {
      rows = λ i state. ⊎_elim
          (λ (less : i < owners).
          ap (λ (p : Part). without_step (p state)) (h.round.after.parts i less)
          ∙ taken_like guide owners (h.round.takes i) (k.round.takes i) (h.round.shares i).part (k.round.shares i).part (letters_same i less) (λ from past. h.round.round.senders from i past) (parts_same i less).1.rows state
          ∙ sym (ap (λ (p : Part). without_step (p state)) (k.round.after.parts i less)))
          (λ (past : owners ≤ i). ap (λ (p : Part). without_step (p state)) (h.round.after.rest i past) ∙ like.rows i state ∙ sym (ap (λ (p : Part). without_step (p state)) (k.round.after.rest i past))) (cases_lt i owners);
      incumbents = λ i less. h.round.after.agreed i less ∙ least_same owners h.round.shares k.round.shares (λ j low. (parts_same j low).1.incumbent) ∙ sym (k.round.after.agreed i less);
      weight = h.round.after.weight ∙ like.weight ∙ sym k.round.after.weight;
    }

-- ---- rounds

module _ (space : Space) (guide : Guide) (owners lot : ℕ) where
  -- no round may begin
  abbrev IsOver : (left : ℕ) → Mailed → Type 0
  IsOver left m = AnyOpened m.owner → 0 < left → ⊥

  rounds_same : (left : ℕ) (rounds others : List ℕ) (one mid other new : Mailed) → LikeAll owners one other → RunsInRounds space guide owners lot left rounds one mid → RunsInRounds space guide owners lot left others other new
      → IsOver (left - total rounds) mid → IsOver (left - total others) new → (rounds ≡ others) × LikeAll owners mid new
  rounds_same left [] [] one mid other new like h k over done = (refl, subst (λ (m : Mailed). LikeAll owners m new) (sym h) (subst (LikeAll owners one) (sym k) like))
  rounds_same left [] (used ∷ others) one mid other new like h (next, round, rest) over done =
      absurd (over (subst (λ (m : Mailed). AnyOpened m.owner) (sym h) (opened_like owners other one (like_all_swap owners one other like) round.opened)) (let some = round.some_left in omega arith))
  rounds_same left (used ∷ rounds) [] one mid other new like (next, round, rest) k over done =
      absurd (done (subst (λ (m : Mailed). AnyOpened m.owner) (sym k) (opened_like owners one other like round.opened)) (let some = round.some_left in omega arith))
  rounds_same left (used ∷ rounds) (spent ∷ others) one mid other new like (next, round, rest) (then, also, more) over done =
      let same : used ≡ spent = used_same space guide owners lot left used spent one next other then like round also in
      let after = after_like space guide owners lot left used spent one next other then like round also in
      let r = rounds_same (left - used) rounds others next mid then new after rest (subst (λ n. RunsInRounds space guide owners lot (left - n) others then new) (sym same) more)
      (λ opened some. over opened (omega arith)) (λ opened some. done opened (omega arith)) in
      ((λ i. same i ∷ r.0 i), r.1)

-- ---- whole searches

-- at an end no round may begin
is_over : (owners limit spent : ℕ) (at : ℕ → Owner) (end : End) (m : Mailed) → IsEnd limit spent at end → ((owner : ℕ) → (m.owner owner).part ≡ (at owner).part) → (n : ℕ) → n ≡ spent → AnyOpened m.owner → 0 < limit - n → ⊥
is_over owners limit spent at end m h parts n is (owner, opened) some = go h.either
  where
    go : (end ≡ Quiet) ⊎ (end ≡ Budget) → ⊥
    go (inl quiet) = h.quiet.0 quiet (owner, subst HasOpened (parts owner) opened)
    go (inr budget) = let e = (h.budget.0 budget).1 in omega arith

-- the same end
ends_same : (limit spent other_spent : ℕ) (at other_at : ℕ → Owner) (end other : End) → IsEnd limit spent at end → IsEnd limit other_spent other_at other → (AnyOpened at → AnyOpened other_at) → (AnyOpened other_at → AnyOpened at) → end ≡ other
ends_same limit spent other_spent at other_at end other h k there back = go h.either k.either
  where
    go : (end ≡ Quiet) ⊎ (end ≡ Budget) → (other ≡ Quiet) ⊎ (other ≡ Budget) → end ≡ other
    go (inl a) (inl b) = a ∙ sym b
    go (inl a) (inr b) = absurd (h.quiet.0 a (back (k.budget.0 b).0))
    go (inr a) (inl b) = absurd (k.quiet.0 b (there (h.budget.0 a).0))
    go (inr a) (inr b) = a ∙ sym b

pub searches_are_alike : SearchesAreAlike
searches_are_alike space guide weight owners lot budget spent other_spent at other_at end other_end one other =
    let h = one.searched in
    let k = other.searched in
    let opening : LikeAll owners (opening_mailed space guide weight) (opening_mailed space guide weight) = record { rows = λ owner state. refl; incumbents = λ owner less. refl; weight = refl } in
    let r = rounds_same space guide owners lot budget h.rounds k.rounds (opening_mailed space guide weight) h.store (opening_mailed space guide weight) k.store opening h.in_rounds k.in_rounds
    (is_over owners budget spent at end h.store one.end_is h.between.parts (total h.rounds) h.spent_is)
    (is_over owners budget other_spent other_at other_end k.store other.end_is k.between.parts (total k.rounds) k.spent_is) in
    let rows : (owner : ℕ) → AreAlike (at owner).part (other_at owner).part = λ owner state.
    sym (ap (λ (p : Part). without_step (p state)) (h.between.parts owner)) ∙ r.1.rows owner state ∙ ap (λ (p : Part). without_step (p state)) (k.between.parts owner) in (
      sym h.spent_is ∙ ap total r.0 ∙ k.spent_is,
      ends_same budget spent other_spent at other_at end other_end one.end_is other.end_is
          (λ o. (o.0, like_opened (at o.0).part (other_at o.0).part (rows o.0) o.1)) (λ o. (o.0, like_opened (other_at o.0).part (at o.0).part (λ state. sym (rows o.0 state)) o.1)),
      rows,
      λ owner less. sym (h.between.incumbents owner less) ∙ r.1.incumbents owner less ∙ k.between.incumbents owner less,
    )
