-- Owners look at their queues before they take letters in.
use Rattle.std.proofs.Common.{◌≡◌, ℕ, ◌++◌, [], List, sym, ap, ◌∙◌, subst}
use Rattle.pb_mail.specs.declared.letter.Sent.{Sent}
use Rattle.pb_mail.specs.declared.view.View.{View}
use Rattle.pb_mail.specs.declared.post.Post.{Post}
use Rattle.pb_mail.specs.declared.pass.PostPass.{PostPass}
use Rattle.pb_mail.specs.Passes.{view_at, number_of, made_by}
use Rattle.pb_mail.specs.Posted.{HasPosted}
use Rattle.pb_owner.specs.declared.share.Share.{Share}
use Rattle.pb_owner.specs.Taking.{HasTakenIn}
use Rattle.pb_owner.specs.declared.plan.Plan.{Plan}
use Rattle.pb_owners.specs.declared.seat.Seat.{Seat}
use Rattle.pb_owners.specs.Seats.{Each, EachPair}
use Rattle.pb_owners.specs.Plans.{HasTools}
use Rattle.pb_owners.specs.Passing.{HasPassOf, HasLooked}
use Rattle.pb_owners.specs.Rounds.{HasLeft, HasTaken}
use Rattle.pb_owners.proofs.Pairs.{old_of, some_is}
use Rattle.pb_owners.proofs.Parting.{tools_with}

module _ {K : Type 0} (plan : Plan) (post : Post K) where
  pub pass_of_left : (seats : List Seat) → Each (HasLeft plan post) seats → Each (λ i. HasPassOf post) seats
  pass_of_left seats h = record { at = λ i x is. let l = h.at i x is in record { pass = l.pass; pass_is = l.pass_is; own = l.own } }

  tools_kept : (old new : Seat) → HasLooked post old new → HasTools plan old → HasTools plan new
  tools_kept old new h = tools_with plan old new (ap (λ (s : Seat). s.share.bundle.weight) h.new_is) (ap (λ (s : Seat). s.estimator) h.new_is) (ap (λ (s : Seat). s.succs) h.new_is)

  pub left_still : (olds news : List Seat) → Each (HasLeft plan post) olds → EachPair (λ i. HasLooked post) olds news → Each (HasLeft plan post) news
  left_still olds news h looked = record {
    at = λ i y is.
        let x = old_of olds news i y looked.many is in
        let l = looked.at i x.0 y x.1 is in
        record { pass = l.after; pass_is = ap (λ (s : Seat). s.pass) l.new_is; own = l.own; tools = tools_kept x.0 y l (h.at i x.0 x.1).tools };
  }

  -- what was posted since, as the pass knew the same before
  posted_since : (before after last : PostPass) (takes : List Sent) → number_of after ≡ number_of before → ((owner : ℕ) → view_at after owner ≡ view_at before owner) → made_by after ≡ made_by before → HasPosted post after last [] takes → HasPosted post before last [] takes
  posted_since before after last takes number knows made h = record {
    own = h.own;
    number = h.number ∙ number;
    made = h.made ∙ made;
    sent = λ owner less. h.sent owner less ∙ ap (λ (v : View). v.sent ++ []) (knows owner);
    taken =
        ap (λ n. (view_at last n).taken) (sym number) ∙ h.taken ∙ ap (λ (v : View). v.taken ++ takes) (knows (number_of after)) ∙ ap (λ n. (view_at before n).taken ++ takes) number;
    role = λ owner. h.role owner ∙ ap (λ (v : View). v.takes) (knows owner);
    met = λ owner. h.met owner ∙ ap (λ (v : View). v.met) (knows owner);
  }

  taken_since : (i : ℕ) (old mid new : Seat) → HasLooked post old mid → HasTaken plan post i mid new → HasTaken plan post i old new
  taken_since i old mid new looked took = record {
    before = looked.before;
    before_is = looked.before_is;
    after = took.after;
    after_is = took.after_is;
    used_is = took.used_is ∙ ap (λ (s : Seat). s.used) looked.new_is;
    taken = λ done.
        let t = took.taken done in
        let pass : took.before ≡ looked.after = some_is took.before looked.after (sym took.before_is ∙ ap (λ (s : Seat). s.pass) looked.new_is) in
        let share : mid.share ≡ old.share = ap (λ (s : Seat). s.share) looked.new_is in
        record {
          takes = t.takes;
          posted = posted_since looked.before looked.after took.after t.takes looked.number_is looked.knows looked.made_is (subst (λ (p : PostPass). HasPosted post p took.after [] t.takes) pass t.posted);
          taken_in = subst (λ (s : Share). HasTakenIn plan.task.now plan.choice.now t.takes s new.share) share t.taken_in;
        };
    tools = took.tools;
  }

  pub all_taken : (olds mids news : List Seat) → EachPair (λ i. HasLooked post) olds mids → EachPair (HasTaken plan post) mids news → EachPair (HasTaken plan post) olds news
  all_taken olds mids news looked took = record {
    many = took.many ∙ looked.many;
    at = λ i x z first last. let y = old_of mids news i z took.many last in taken_since i x y.0 z (looked.at i x y.0 first y.1) (took.at i y.0 z y.1 last);
  }
