use Rattle.std.proofs.Common.{min, set}
use Rattle.pb_turn.specs.Passes.{view, number}
use Rattle.pb_turn.proofs.Callers.{put_there}
use Rattle.pb_yard.specs.Views.{cost_of, view_told}
use Rattle.pb_yard.proofs.Wording.{lower_keeps, cost_of_min}
use Rattle.pb_yard.proofs.yard.Yard.lower.Goals as goal

pub lower_word-requires-clause-rule : goal.lower_word-requires-clause-rule
lower_word-requires-clause-rule c = let p = c.args.pass.now in lower_keeps _ _ c.args.lease.now c.args.cost p.is_live c.requires.fits c.requires.found

pub returns-clause-step : goal.returns-clause-step
returns-clause-step c =
    let p = c.args.pass.now in
    let r = c.lower_word.ensures.rule in
    let v = view p.turn in
    let n = number p.turn in
    let s = r.2 in (
      r.0,
      record { shared = cost_of r.1; seat = n; views = s.0; yard = s.1; mine = s.2 },
      record {
        shared = cost_of (min r.1 c.args.cost);
        seat = n;
        views = set s.0 n (view_told v c.args.cost);
        yard = lower_keeps n v c.args.lease.now c.args.cost p.is_live c.requires.fits c.requires.found r.0 r.1 s.0 s.1 s.2;
        mine = put_there s.0 n v (view_told v c.args.cost) s.2;
      },
      cost_of_min r.1 c.args.cost c.requires.fits,
    )
