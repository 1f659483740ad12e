use Rattle.std.proofs.Common.{◌≡◌, ◌*◌, ◌^◌, ◌<◌, ◌≤◌, suc, length, sym, ap, subst, ◌∙◌, arith, inr}
use Rattle.std.proofs.Math.Nat.{pow-suc}
use Rattle.std.proofs.lemmas.List.{length_push}
use Rattle.pb_packed.specs.Sizes.{most_atoms}
use Rattle.pb_abstract.specs.Ranking.{AreFirst, IsNext, IsNone}
use Rattle.pb_abstract.proofs.Ranking.{tracked_is, all_tracked, first_more, few_tracked, left_known}
use Rattle.pb_abstract.proofs.tracking.choose_atoms.Goals as goal

pub returns-in_default : goal.returns-in_default
returns-in_default c =
    let none : IsNone c.in_ok-counts.counts.items c.loop-blocks.atoms = subst (λ counts. IsNone counts c.loop-blocks.atoms) c.as_slice.ensures.value c.in_default.ensures.none in
    tracked_is c.args.strips.now c.args.wish c.loop-blocks.atoms c.loop-blocks.invariant.first (omega (arith, c.loop-blocks.invariant.count, c.loop-blocks.invariant.few))
    (inr (all_tracked c.args.strips.now c.in_ok-counts.counts.items c.in_ok-counts.ensures c.loop-blocks.atoms none))

pub push-requires-clause-few : goal.push-requires-clause-few
push-requires-clause-few c = few_tracked c.loop-blocks.blocks (length c.loop-blocks.atoms) c.args.wish c.loop-blocks.invariant.count (omega (arith, c.loop-blocks-test.true)) c.requires.few

pub push-requires-clause-small : goal.push-requires-clause-small
push-requires-clause-small c =
    let next : IsNext c.in_ok-counts.counts.items c.loop-blocks.atoms c.in-Some.atom = subst (λ counts. IsNext counts c.loop-blocks.atoms c.in-Some.atom) c.as_slice.ensures.value c.in-Some.ensures.next in
    let known : c.in-Some.atom < length c.in_ok-counts.counts.items = left_known c.in_ok-counts.counts.items c.loop-blocks.atoms c.in-Some.atom next.left in
    let many : length c.in_ok-counts.counts.items ≡ c.args.strips.now.atoms = c.in_ok-counts.ensures.len in
    let most : c.args.strips.now.atoms ≤ most_atoms = c.requires.strips.atoms in
    omega arith

pub loop-blocks-preserved : goal.loop-blocks-preserved
loop-blocks-preserved c =
    let next : IsNext c.in_ok-counts.counts.items c.loop-blocks.atoms c.in-Some.atom = subst (λ counts. IsNext counts c.loop-blocks.atoms c.in-Some.atom) c.as_slice.ensures.value c.in-Some.ensures.next in
    let more : length c.push.new.self ≡ suc (length c.loop-blocks.atoms) = ap length c.push.ensures ∙ length_push c.loop-blocks.atoms c.in-Some.atom ∙ omega arith in
    let up : 2 ^ suc (length c.loop-blocks.atoms) ≡ 2 ^ length c.loop-blocks.atoms * 2 = pow-suc 2 (length c.loop-blocks.atoms) in
    record {
      first = subst (AreFirst c.args.strips.now) (sym c.push.ensures) (first_more c.args.strips.now c.in_ok-counts.counts.items c.in_ok-counts.ensures c.loop-blocks.atoms c.in-Some.atom c.loop-blocks.invariant.first next);
      count = ap (λ n. n * 2) c.loop-blocks.invariant.count ∙ sym up ∙ ap (λ n. 2 ^ n) (sym more);
      few = omega arith;
    }
