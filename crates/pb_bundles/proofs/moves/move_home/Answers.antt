use Rattle.std.proofs.Common.{◌≡◌, ◌++◌, ◌∷◌, [], ◌<◌, ℕ, List, All, Option, length, Some, refl, sym, ap, subst, ◌∙◌, length-set, ◌-◌, take, arith}
use Rattle.std.proofs.Math.Seq.{take-length}
use Rattle.std.proofs.lemmas.List.Elements.{All-pop, All-from_recursion}
use Rattle.indexmap.specs.Drain.{DrainKeeps, DrainStepsBack, drain_rest}
use Rattle.indexmap.specs.declared.map.drain.Drain.{Drain}
use Rattle.pb_lists.specs.Bundle.{Content}
use Rattle.pb_bundles.specs.Moves.{put_back}
use Rattle.pb_bundles.proofs.Lists.{by_found}
use Rattle.pb_bundles.proofs.Moving.{put_back_push}
use Rattle.pb_bundles.proofs.moves.move_home.Goals as goal

took : {K V S A H : Type 0} (old new : Drain K V S A H) (result : Option (K × V)) (part : K × V) → DrainStepsBack old result new → result ≡ Some part → (drain_rest old ≡ drain_rest new ++ part ∷ []) × DrainKeeps old new
took old new result part step is = subst (λ r. DrainStepsBack old r new) is step

pub put_home-requires : goal.put_home-requires
put_home-requires c =
    let places = length c.args.bundles.now.items in
    let part : ℕ × Content = (c.in-Some.block, c.in-Some.bundle) in
    let step = took c.loop-block.rest c.next_back.new.self c.next_back.result part c.next_back.ensures.steps c.in-Some.is in
    let last = (All-pop (λ (part : ℕ × Content). part.0 < places) (drain_rest c.loop-block.rest) (drain_rest c.next_back.new.self) (Some part) step.0 c.loop-block.invariant.below).1 in
    subst (λ n. c.in-Some.block < n) (sym c.loop-block.invariant.places) last

pub loop-block-preserved : goal.loop-block-preserved
loop-block-preserved c =
    let places = length c.args.bundles.now.items in
    let part : ℕ × Content = (c.in-Some.block, c.in-Some.bundle) in
    let step = took c.loop-block.rest c.next_back.new.self c.next_back.result part c.next_back.ensures.steps c.in-Some.is in
    let front = drain_rest c.next_back.new.self in
    record {
      places = ap length c.put_home.ensures ∙ length-set c.loop-block.bundles.items part.0 (Some part.1) ∙ c.loop-block.invariant.places;
      below = (All-pop (λ (part : ℕ × Content). part.0 < places) (drain_rest c.loop-block.rest) front (Some part) step.0 c.loop-block.invariant.below).0;
      back = ap (put_back front) c.put_home.ensures ∙ sym (put_back_push front part c.loop-block.bundles.items)
          ∙ ap (λ ps. put_back ps c.loop-block.bundles.items) (sym step.0) ∙ c.loop-block.invariant.back;
      kept = step.1.1 ∙ c.loop-block.invariant.kept;
      lender = step.1.0 ∙ c.loop-block.invariant.lender;
      room = omega (arith, step.1.3, c.loop-block.invariant.room);
    }

pub loop-block-init : goal.loop-block-init
loop-block-init c =
    let places = length c.args.bundles.now.items in
    let entries = c.args.parts.now.entries in
    let all : length entries - 0 ≡ length entries = omega arith in
    let whole = c.drain-rest.ensures.rest ∙ ap (λ n. take n entries) all ∙ take-length entries in
    record {
      places = refl;
      below = subst (λ (ps : List (ℕ × Content)). All (λ (part : ℕ × Content). part.0 < places) ps) (sym whole)
          (All-from_recursion (λ (part : ℕ × Content). part.0 < places) c.args.parts.now.entries (by_found (λ n. n < places) c.args.parts.now.entries c.requires));
      back = refl;
      kept = refl;
      lender = refl;
      room = omega arith;
    }
