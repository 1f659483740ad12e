-- One thing after another: what an owner did, and what it sent.
use Rattle.std.proofs.Common.{◌≡◌, ℕ, ◌+◌, ◌*◌, ◌<◌, ◌≤◌, ◌-◌, ◌++◌, List, [], refl, sym, ap, ◌∙◌, subst, arith, mul-le-mul_left}
use Rattle.std.proofs.lemmas.List.{append-nil, append_assoc}
use Rattle.pb_model.specs.Space.{Space, IsProper}
use Rattle.pb_model.specs.Guide.{Guide}
use Rattle.pb_model.specs.Weight.{Weight}
use Rattle.pb_lists.specs.Bundle.{row_of}
use Rattle.pb_mail.specs.declared.letter.Letter.{Letter}
use Rattle.pb_mail.specs.declared.letter.Sent.{Sent}
use Rattle.pb_mail.specs.declared.pass.PostPass.{PostPass}
use Rattle.pb_mail.specs.declared.post.Post.{Post}
use Rattle.pb_mail.specs.Passes.{view_at, number_of, IsPassOf}
use Rattle.pb_mail.specs.Posted.{letters_to, HasPosted}
use Rattle.pb_mail.proofs.Callers.{letters_to_append, posted_none}
use Rattle.pb_hashed.specs.Mailed.{Owner}
use Rattle.pb_owner.specs.declared.share.Share.{Share}
use Rattle.pb_owner.specs.Shares.{owner_of, AreOwn, AreOwnWithin, HasWorked}
use Rattle.pb_owner.specs.Expanding.{HasExpanded}
use Rattle.pb_owner.proofs.Alone.{worked_none, worked_then}
use Rattle.pb_owner.proofs.Keeping.{worked_own, worked_within}

module _ {K : Type 0} (post : Post K) where
  pub posted_then : (old mid new : PostPass) (sends more : List (ℕ × Letter)) (takes others : List Sent) → HasPosted post old mid sends takes → HasPosted post mid new more others → HasPosted post old new (sends ++ more) (takes ++ others)
  posted_then old mid new sends more takes others one two = record {
    own = two.own;
    number = two.number ∙ one.number;
    made = two.made ∙ one.made;
    sent = λ owner less. two.sent owner less ∙ (λ i. one.sent owner less i ++ letters_to owner more) ∙ append_assoc (view_at old owner).sent (letters_to owner sends) (letters_to owner more)
        ∙ ap (λ l. (view_at old owner).sent ++ l) (sym (letters_to_append owner sends more));
    taken = ap (λ n. (view_at new n).taken) (sym one.number) ∙ two.taken ∙ (λ i. (view_at mid (one.number i)).taken ++ others) ∙ (λ i. one.taken i ++ others) ∙ append_assoc (view_at old (number_of old)).taken takes others;
    role = λ owner. two.role owner ∙ one.role owner;
    met = λ owner. two.met owner ∙ one.met owner;
  }

  module _ (space : Space) (guide : Guide) (weight : Weight) (number : ℕ) where
    pub expanded_none : (old : Share) (before : PostPass) → IsPassOf post before → HasExpanded space guide weight number 0 0 post old old before before
    expanded_none old before own = record {
      sends = [];
      posted = posted_none post before own;
      worked = λ letters. worked_none space guide weight number (owner_of old letters) (owner_of old (λ to. letters to ++ [])) (λ i. owner_of old (λ to. append-nil (letters to) i));
    }

    pub expanded_then : (used broken more other : ℕ) → broken ≡ 0 → (old mid new : Share) (before after next : PostPass) → HasExpanded space guide weight number used broken post old mid before after
        → HasExpanded space guide weight number more other post mid new after next → HasExpanded space guide weight number (used + more) (broken + other) post old new before next
    expanded_then used broken more other none old mid new before after next one two = record {
      sends = one.sends ++ two.sends;
      posted = posted_then before after next one.sends two.sends [] [] one.posted two.posted;
      worked = λ letters.
          subst (λ (o : Owner). HasWorked space guide weight number (used + more) (broken + other) (owner_of old letters) o)
          (λ i. owner_of new (λ to. (append_assoc (letters to) (letters_to to one.sends) (letters_to to two.sends) ∙ ap (λ l. letters to ++ l) (sym (letters_to_append to one.sends two.sends))) i))
          (worked_then space guide weight number used broken more other none (owner_of old letters) (owner_of mid (λ to. letters to ++ letters_to to one.sends)) (owner_of new (λ to. (letters to ++ letters_to to one.sends) ++ letters_to to two.sends))
          (one.worked letters) (two.worked (λ to. letters to ++ letters_to to one.sends)));
    }

    -- work that sends nothing
    expanded_still : (used broken : ℕ) → broken ≡ 0 → (old mid new : Share) (before after : PostPass) → HasExpanded space guide weight number used broken post old mid before after
        → ((letters : ℕ → List Letter) → HasWorked space guide weight number 0 0 (owner_of mid letters) (owner_of new letters)) → HasExpanded space guide weight number used broken post old new before after
    expanded_still used broken none old mid new before after one still = record {
      sends = one.sends;
      posted = one.posted;
      worked = λ letters.
          let both = worked_then space guide weight number used broken 0 0 none (owner_of old letters) (owner_of mid (λ to. letters to ++ letters_to to one.sends)) (owner_of new (λ to. letters to ++ letters_to to one.sends))
          (one.worked letters) (still (λ to. letters to ++ letters_to to one.sends)) in
          record { works = both.works; comes = both.comes; turns = both.turns; used_is = omega (arith, both.used_is); broken_is = omega (arith, both.broken_is); broken_last = both.broken_last };
    }

    expanded_own : (used broken : ℕ) (old new : Share) (before after : PostPass) → HasExpanded space guide weight number used broken post old new before after → AreOwn guide number (row_of old.bundle) → AreOwn guide number (row_of new.bundle)
    expanded_own used broken old new before after h are = worked_own space guide weight number used broken (owner_of old (λ to. [])) (owner_of new (λ to. letters_to to h.sends)) (h.worked (λ to. [])) are

    -- and then its rows were settled
    pub expanded_settled : (used : ℕ) (old mid new : Share) (before after : PostPass) → HasExpanded space guide weight number used 0 post old mid before after → AreOwn guide number (row_of old.bundle)
        → ((g : Guide) (n : ℕ) (letters : ℕ → List Letter) → AreOwn g n (row_of mid.bundle) → HasWorked space g weight n 0 0 (owner_of mid letters) (owner_of new letters))
        → HasExpanded space guide weight number used 0 post old new before after
    expanded_settled used old mid new before after one are settled =
        expanded_still used 0 refl old mid new before after one (λ letters. settled guide number letters (expanded_own used 0 old mid before after one are))

    module _ (greatest_cost : ℕ) (proper : IsProper space greatest_cost) where
      -- a bound on each g
      pub expanded_within : (used quota most bound : ℕ) (old new : Share) (before after : PostPass) → HasExpanded space guide weight number used 0 post old new before after → AreOwnWithin space guide number most (row_of old.bundle)
          → used ≤ quota → most + greatest_cost * quota < bound → AreOwnWithin space guide number (bound - 1) (row_of new.bundle)
      expanded_within used quota most bound old new before after h are within less =
          let w = worked_within space guide weight number greatest_cost proper used 0 most (owner_of old (λ to. [])) (owner_of new (λ to. letters_to to h.sends)) (h.worked (λ to. [])) are in
          record {
            own = w.own;
            states = w.states;
            small = λ state row is. let low = w.small state row is in let times = mul-le-mul_left greatest_cost (let k : used + 0 ≤ quota = omega arith in k) in omega (arith, low, times, less);
          }
