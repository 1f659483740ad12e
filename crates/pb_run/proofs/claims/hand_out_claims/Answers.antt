-- Claims are handed out one after another: what holds between two, and how it ends.
use Rattle.std.proofs.Common.{inl, refl, arith, [], ◌∷◌, ◌++◌, ◌∙◌}
use Rattle.pb_answer.specs.Statuses.{number_of}
use Rattle.pb_run.specs.FallingParts.{HandsOutFalling, ClaimsIfTheyFit}
use Rattle.pb_answer.specs.FallingRuns.{part_of}
use Rattle.pb_run.proofs.Fitting.{nothing_used, still_fits}
use Rattle.pb_run.proofs.PartByPart.{hands_none}
use Rattle.pb_run.proofs.FallingParts.{first_claimed, known_still, ends_fit, of_first, ends_between_claims, next_claimed, comes_nearer}
use Rattle.pb_run.proofs.claims.hand_out_claims.Goals as goal

pub runs-init : goal.runs-init
runs-init g c = record {
  solve = refl;
  choice = refl;
  task = refl;
  steps = refl;
  claimed = (
    [],
    first_claimed c.args.first c.requires,
    hands_none (g.H.Shelf.files c.args.shelf.now) (g.H.Shelf.calls c.args.shelf.now) (g.K.Sink.calls c.args.out.now) (g.K.Sink.written c.args.out.now),
    nothing_used (g.H.Shelf.can_hold c.args.shelf.now) (g.K.Sink.can_take c.args.out.now),
  );
  shelf_later = omega arith;
  sink_later = omega arith;
}

pub returns-in-Some-clause-hands : goal.returns-in-Some-clause-hands
returns-in-Some-clause-hands g c =
    let inv = c.runs.invariant in
    let after = c.in-Some.ensures.after inv.claimed.0 (g.H.Shelf.files c.args.shelf.now) (g.H.Shelf.calls c.args.shelf.now) (g.K.Sink.calls c.args.out.now) (g.K.Sink.written c.args.out.now) inv.claimed.1 inv.claimed.2 in
    of_first c.runs.search c.args.first inv.solve inv.choice inv.task inv.steps
    (λ solve choice task steps. HandsOutFalling solve choice task steps (number_of c.in-Some.status) (g.H.Shelf.files c.args.shelf.now) (g.H.Shelf.files c.hand_out_claim.new.shelf)
    (g.H.Shelf.calls c.args.shelf.now) (g.H.Shelf.calls c.hand_out_claim.new.shelf) (g.K.Sink.calls c.args.out.now) (g.K.Sink.calls c.hand_out_claim.new.out)
    (g.K.Sink.written c.args.out.now) (g.K.Sink.written c.hand_out_claim.new.out)) after

pub returns-in-Some-clause-fits : goal.returns-in-Some-clause-fits
returns-in-Some-clause-fits g c known =
    let inv = c.runs.invariant in
    let still = known_still inv.claimed.0 (g.H.Shelf.files c.args.shelf.now) (g.H.Shelf.files c.runs.shelf) (g.H.Shelf.calls c.args.shelf.now) (g.H.Shelf.calls c.runs.shelf)
    (g.K.Sink.calls c.args.out.now) (g.K.Sink.calls c.runs.out) (g.K.Sink.written c.args.out.now) (g.K.Sink.written c.runs.out) inv.claimed.2 known in
    of_first c.runs.search c.args.first inv.solve inv.choice inv.task inv.steps
    (λ solve choice task steps. ClaimsIfTheyFit solve choice task steps (number_of c.in-Some.status) (g.H.Shelf.can_hold c.args.shelf.now) (g.K.Sink.can_take c.args.out.now))
    (ends_fit c.runs.search inv.claimed.0 (g.H.Shelf.can_hold c.args.shelf.now) (g.H.Shelf.can_hold c.runs.shelf) (g.K.Sink.can_take c.args.out.now) (g.K.Sink.can_take c.runs.out) inv.claimed.3
    (number_of c.in-Some.status) (c.in-Some.ensures.fits inv.claimed.0 inv.claimed.1 still))

pub go_on-requires-clause-not_last : goal.go_on-requires-clause-not_last
go_on-requires-clause-not_last g c κs within =
    let inv = c.runs.invariant in
    let after = c.in_default.ensures.after inv.claimed.0 (g.H.Shelf.files c.args.shelf.now) (g.H.Shelf.calls c.args.shelf.now) (g.K.Sink.calls c.args.out.now) (g.K.Sink.written c.args.out.now) inv.claimed.1 inv.claimed.2 in
    after.2.not_last

pub returns-in-Err-clause-hands : goal.returns-in-Err-clause-hands
returns-in-Err-clause-hands g c =
    let inv = c.runs.invariant in
    let after = c.in_default.ensures.after inv.claimed.0 (g.H.Shelf.files c.args.shelf.now) (g.H.Shelf.calls c.args.shelf.now) (g.K.Sink.calls c.args.out.now) (g.K.Sink.written c.args.out.now) inv.claimed.1 inv.claimed.2 in
    of_first c.runs.search c.args.first inv.solve inv.choice inv.task inv.steps
    (λ solve choice task steps. HandsOutFalling solve choice task steps 71 (g.H.Shelf.files c.args.shelf.now) (g.H.Shelf.files c.hand_out_claim.new.shelf)
    (g.H.Shelf.calls c.args.shelf.now) (g.H.Shelf.calls c.hand_out_claim.new.shelf) (g.K.Sink.calls c.args.out.now) (g.K.Sink.calls c.hand_out_claim.new.out)
    (g.K.Sink.written c.args.out.now) (g.K.Sink.written c.hand_out_claim.new.out))
    (ends_between_claims c.runs.search (inv.claimed.0 ++ part_of after.0 ∷ []) after.2 (g.H.Shelf.files c.args.shelf.now) (g.H.Shelf.files c.hand_out_claim.new.shelf)
    (g.H.Shelf.calls c.args.shelf.now) (g.H.Shelf.calls c.hand_out_claim.new.shelf) (g.K.Sink.calls c.args.out.now) (g.K.Sink.calls c.hand_out_claim.new.out)
    (g.K.Sink.written c.args.out.now) (g.K.Sink.written c.hand_out_claim.new.out) after.1)

pub returns-in-Err-clause-fits : goal.returns-in-Err-clause-fits
returns-in-Err-clause-fits g c known = inl refl

pub runs-smaller : goal.runs-smaller
runs-smaller g c =
    let inv = c.runs.invariant in
    let after = c.in_default.ensures.after inv.claimed.0 (g.H.Shelf.files c.args.shelf.now) (g.H.Shelf.calls c.args.shelf.now) (g.K.Sink.calls c.args.out.now) (g.K.Sink.written c.args.out.now) inv.claimed.1 inv.claimed.2 in
    comes_nearer c.runs.search.steps c.runs.search.run c.in-Ok.next.steps c.in-Ok.next.run after.2.run.within after.2.more c.in-Ok.ensures.steps c.in-Ok.ensures.run

pub runs-preserved : goal.runs-preserved
runs-preserved g c =
    let inv = c.runs.invariant in
    let after = c.in_default.ensures.after inv.claimed.0 (g.H.Shelf.files c.args.shelf.now) (g.H.Shelf.calls c.args.shelf.now) (g.K.Sink.calls c.args.out.now) (g.K.Sink.written c.args.out.now) inv.claimed.1 inv.claimed.2 in
    let goes = c.in-Ok.ensures.falling after.2.before after.2.machine after.2.run in
    record {
      solve = c.in-Ok.ensures.solve ∙ inv.solve;
      choice = goes.choice ∙ inv.choice;
      task = c.in-Ok.ensures.task ∙ inv.task;
      steps = c.in-Ok.ensures.steps ∙ inv.steps;
      claimed = (
        inv.claimed.0 ++ part_of after.0 ∷ [],
        next_claimed c.runs.search c.in-Ok.next (inv.claimed.0 ++ part_of after.0 ∷ []) after.2 goes c.in-Ok.ensures.solve c.in-Ok.ensures.task c.in-Ok.ensures.steps,
        after.1,
        still_fits (g.H.Shelf.can_hold c.args.shelf.now) (g.H.Shelf.can_hold c.runs.shelf) (g.H.Shelf.can_hold c.hand_out_claim.new.shelf)
            (g.K.Sink.can_take c.args.out.now) (g.K.Sink.can_take c.runs.out) (g.K.Sink.can_take c.hand_out_claim.new.out)
            inv.claimed.0 (part_of after.0) inv.claimed.3 c.hand_out_claim.ensures.holds after.3,
      );
      shelf_later = omega (arith, inv.shelf_later, c.hand_out_claim.ensures.shelf_later);
      sink_later = omega (arith, inv.sink_later, c.hand_out_claim.ensures.sink_later);
    }
