use Rattle.std.proofs.Common.{◌==◌, ◌∙◌, ap, sym, subst, arith, slice_get}
use Rattle.pb_machine.specs.Settings.{weight_of}
use Rattle.pb_owners.specs.Owners.{IsOpeningShare}
use Rattle.pb_owners.proofs.Pairs.{each_more}
use Rattle.pb_owners.proofs.owners.opening_shares.Goals as goal

pub loop-at-preserved : goal.loop-at-preserved
loop-at-preserved c =
    let was = c.loop-at.invariant in
    let pushed = c.push_reserved.ensures in
    record {
      each = λ i share is. each_more (λ j s. IsOpeningShare (weight_of c.args.settings.now) (j == c.args.home) c.args.start c.args.estimate s) c.loop-at.shares.items c.in_ok-share.share
          was.each (subst (λ n. IsOpeningShare (weight_of c.args.settings.now) (n == c.args.home) c.args.start c.args.estimate c.in_ok-share.share) (sym was.count ∙ c.loop-at.shares.ok.0) c.in_ok-share.ensures) i share (ap (λ l. slice_get l i) (sym pushed.items) ∙ is);
      count = let e = pushed.len in let k = was.count in omega arith;
      room = pushed.capacity ∙ was.room;
    }
