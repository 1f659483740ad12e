-- What each owner did in a round makes the round.
use Rattle.std.proofs.Common.{◌≡◌, ℕ, zero, suc, ◌<◌, ◌≤◌, List, [], ◌∷◌, ◌++◌, refl, sym, ap, ◌∙◌, subst, ⊎_elim, arith}
use Rattle.std.proofs.lemmas.Bool.{cases_lt}
use Rattle.pb_model.specs.Space.{Space}
use Rattle.pb_model.specs.Weight.{Weight}
use Rattle.pb_model.specs.Guide.{Guide}
use Rattle.pb_model.specs.Store.{Part, lesser}
use Rattle.pb_model.specs.Work.{Work, expansions, broken_expansions}
use Rattle.pb_mail.specs.declared.letter.Sent.{Sent}
use Rattle.pb_mail.specs.declared.post.Post.{Post}
use Rattle.pb_mail.specs.declared.pass.PostPass.{PostPass}
use Rattle.pb_mail.specs.Views.{letters_of}
use Rattle.pb_mail.specs.Rule.{AreWhole}
use Rattle.pb_mail.specs.Passes.{view_at, number_of, made_by, owners_of, IsPassOf}
use Rattle.pb_mail.specs.Posted.{KnowsOf}
use Rattle.pb_hashed.specs.Mailed.{Owner, Mailed, least_of}
use Rattle.pb_hashed.specs.MailWork.{ComesAlone, part_after}
use Rattle.pb_hashed.specs.Laws.{sum_below, IsRound, RoundsAreWork}
use Rattle.pb_owners.specs.RoundRule.{WorksByQuota, IsRoundWith}
use Rattle.pb_owners.specs.Between.{IsBetween, RunsByMail}
use Rattle.pb_owners.proofs.Pairs.{sum_same}
use Rattle.pb_owners.proofs.Meetings.{whole_of}

pub part_after_append : (guide : Guide) (xs ys : List Sent) (part : Part) → part_after guide (xs ++ ys) part ≡ part_after guide ys (part_after guide xs part)
part_after_append guide [] ys part = refl
part_after_append guide (x ∷ xs) ys part = part_after_append guide xs ys _

pub least_same : (k : ℕ) (one two : ℕ → Owner) → ((i : ℕ) → i < k → (one i).incumbent ≡ (two i).incumbent) → least_of k one ≡ least_of k two
least_same zero one two same = refl
least_same (suc k) one two same = λ i. lesser (least_same k one two (λ j less. same j (omega arith)) i) (same k (omega arith) i)

sum_none : (k : ℕ) (f : ℕ → ℕ) → ((i : ℕ) → i < k → f i ≡ 0) → sum_below k f ≡ 0
sum_none zero f none = refl
sum_none (suc k) f none = omega (arith, sum_none k f (λ i less. none i (omega arith)), none k (omega arith))

-- What an owner did in a round: its work alone, and the letters that it took. The first pass knows
-- what it sent and took, which is all that was sent to it.
pub record DidPart {K : Type 0} (space : Space) (guide : Guide) (weight : Weight) (post : Post K) (first : PostPass) (number : ℕ) (old new : Owner) (quota used : ℕ) : Type 0 where
  pub works : List Work
  pub mid : Owner
  pub takes : List Sent
  pub alone : ComesAlone space guide weight number works (record old { letters = λ to. [] }) mid
  pub used_is : expansions works ≡ used
  pub none_broken : broken_expansions works ≡ 0
  pub worked : WorksByQuota space guide weight number quota works (record old { letters = λ to. [] }) mid
  pub known : (q : ℕ) → q < owners_of post → KnowsOf (view_at first q) number (mid.letters q)
  pub taken : (view_at first number).taken ≡ takes
  pub whole : AreWhole (view_at first number)
  pub part_is : new.part ≡ part_after guide takes mid.part
  pub incumbent_is : new.incumbent ≡ mid.incumbent

-- the same, or nothing beyond the last owner
record Chosen (P : ℕ → List Work → Owner → List Sent → Type 0) (owners number : ℕ) (none : Owner) : Type 0 where
  works : List Work
  mid : Owner
  takes : List Sent
  is : number < owners → P number works mid takes
  beyond : owners ≤ number → takes ≡ []

module _ {K : Type 0} (law : RoundsAreWork) (space : Space) (guide : Guide) (weight : Weight) (post : Post K) (first : PostPass) (owners : ℕ) (old new : ℕ → Owner) (quota used : ℕ → ℕ)
    (homes : (state : ℕ) → guide.home state < owners) (owners_is : owners_of post ≡ owners) (own : IsPassOf post first) (number_is : number_of first ≡ 0) (made_is : made_by first ≡ owners)
    (did : (i : ℕ) → i < owners → DidPart space guide weight post first i (old i) (new i) (quota i) (used i)) where
  record Facts (i : ℕ) (works : List Work) (mid : Owner) (takes : List Sent) : Type 0 where
    alone : ComesAlone space guide weight i works (record (old i) { letters = λ to. [] }) mid
    used_is : expansions works ≡ used i
    none_broken : broken_expansions works ≡ 0
    worked : WorksByQuota space guide weight i (quota i) works (record (old i) { letters = λ to. [] }) mid
    known : (q : ℕ) → q < owners → KnowsOf (view_at first q) i (mid.letters q)
    taken : (view_at first i).taken ≡ takes
    whole : AreWhole (view_at first i)
    part_is : (new i).part ≡ part_after guide takes mid.part
    incumbent_is : (new i).incumbent ≡ mid.incumbent

  chosen : (i : ℕ) → Chosen Facts owners i (old i)
  chosen i = ⊎_elim
      (λ (less : i < owners). let d = did i less in record {
        works = d.works;
        mid = d.mid;
        takes = d.takes;
        is = λ low. record {
          alone = d.alone;
          used_is = d.used_is;
          none_broken = d.none_broken;
          worked = d.worked;
          known = λ q below. d.known q (omega (arith, owners_is, below));
          taken = d.taken;
          whole = d.whole;
          part_is = d.part_is;
          incumbent_is = d.incumbent_is;
        };
        beyond = λ past. absurd (omega arith);
      })
      (λ (past : owners ≤ i). record { works = []; mid = old i; takes = []; is = λ less. absurd (omega arith); beyond = λ _. refl }) (cases_lt i owners)

  fact : (i : ℕ) (less : i < owners) → Facts i (chosen i).works (chosen i).mid (chosen i).takes
  fact i less = (chosen i).is less

  owner_is : (m : Mailed) → IsBetween owners weight old m → (i : ℕ) → i < owners → m.owner i ≡ record (old i) { letters = λ to. [] }
  owner_is m b i less = λ k. record { part = b.parts i k; incumbent = b.incumbents i less k; letters = λ to. b.no_letter i to k }

  round : (m : Mailed) → IsBetween owners weight old m → IsRound space guide owners m (λ i. (chosen i).works) (λ i. (chosen i).mid) (λ i. (chosen i).takes)
  round m b = record {
    none_before = b.no_letter;
    homes = homes;
    alone = λ i less. subst (λ (w : Weight). ComesAlone space guide w i (chosen i).works (m.owner i) (chosen i).mid) (sym b.weight_is)
        (subst (λ (o : Owner). ComesAlone space guide weight i (chosen i).works o (chosen i).mid) (sym (owner_is m b i less)) (fact i less).alone);
    whole = λ from to low less. ap (letters_of from) (sym (fact to less).taken) ∙ whole_of (view_at first to) from ((chosen from).mid.letters to) (fact to less).whole ((fact from low).known to less);
    senders = λ from to past. ⊎_elim
        (λ (less : to < owners).
        let v = own.views to (omega (arith, owners_is, less)) in
        ap (letters_of from) (sym (fact to less).taken) ∙ (fact to less).whole.none (v.number ∙ number_is) from (let made = v.made ∙ made_is in omega arith))
        (λ (beyond : owners ≤ to). ap (letters_of from) ((chosen to).beyond beyond)) (cases_lt to owners);
  }

  pub runs : (last : ℕ → Owner) (spent : ℕ → ℕ) → ((i : ℕ) → (last i).part ≡ (new i).part) → ((i : ℕ) → i < owners → (last i).incumbent ≡ least_of owners new) → ((i : ℕ) → i < owners → spent i ≡ used i)
      → ((i : ℕ) → owners ≤ i → (new i).part ≡ (old i).part) → 0 < owners → RunsByMail space guide weight owners (sum_below owners spent) (IsRoundWith space guide owners (sum_below owners spent) quota) old last
  runs last spent parts incumbents spent_is rest some m b =
      let r = law space guide owners m (λ i. (chosen i).works) (λ i. (chosen i).mid) (λ i. (chosen i).takes) (round m b) in
      let after = r.3 in
      let spent_of : sum_below owners (λ i. expansions (chosen i).works) ≡ sum_below owners spent = sum_same owners (λ i. expansions (chosen i).works) spent (λ i less. (fact i less).used_is ∙ sym (spent_is i less)) in
      let least : least_of owners (λ i. (chosen i).mid) ≡ least_of owners new = least_same owners (λ i. (chosen i).mid) new (λ i less. sym (fact i less).incumbent_is) in (
        r.0,
        r.1,
        r.2,
        record {
          parts = λ i. ⊎_elim
              (λ (less : i < owners). after.parts i less ∙ sym (fact i less).part_is ∙ sym (parts i))
              (λ (past : owners ≤ i). after.rest i past ∙ b.parts i ∙ sym (rest i past) ∙ sym (parts i)) (cases_lt i owners);
          incumbents = λ i less. after.agreed i less ∙ least ∙ sym (incumbents i less);
          agreed = λ i less. after.agreed i less ∙ sym (after.agreed 0 some);
          no_letter = after.none_left;
          weight_is = after.weight ∙ b.weight_is;
        },
        r.4 ∙ spent_of,
        r.5 ∙ sum_none owners (λ i. broken_expansions (chosen i).works) (λ i less. (fact i less).none_broken),
        record {
          works = λ i. (chosen i).works;
          shares = λ i. (chosen i).mid;
          takes = λ i. (chosen i).takes;
          round = round m b;
          worked = λ i less. subst (λ (w : Weight). WorksByQuota space guide w i (quota i) (chosen i).works (m.owner i) (chosen i).mid) (sym b.weight_is)
              (subst (λ (o : Owner). WorksByQuota space guide weight i (quota i) (chosen i).works o (chosen i).mid) (sym (owner_is m b i less)) (fact i less).worked);
          after = after;
          used_is = spent_of;
        },
      )
