-- The incumbent of a yard, as a worker watches it while it works.
use Rattle.std.specs.Prelude.{◌≡◌, refl}
use mathlib.Core.Path.{◌∙◌}
use Rattle.pb_expand.specs.Watching.{WatchView}
use Rattle.pb_yard.specs.declared.view.View.{View}
use Rattle.pb_yard.specs.Rule.{was_read}
use Rattle.pb_yard.specs.Passes.{view_of, IsOf, KeepsPass}
use Rattle.pb_workers.specs.declared.yard_watch.YardWatch.{YardWatch}

-- what a watch knows if its pass has this view
abbrev pub watch_view : View → WatchView
watch_view view =
    record {
      task = view.task;
      abstraction = view.abstraction;
      choice = view.choice;
      lent = view.lent;
      read = was_read view;
      answers = view.read;
      least = view.last;
      told = view.told;
    }

-- the pass is one of the yard
abbrev pub IsWatchOf : YardWatch → Type 0
IsWatchOf watch = IsOf watch.yard.now watch.pass

-- Only what was read and told of the incumbent has changed.
pub record KeepsLease (old new : View) : Type 0 where
  pub journal : new.journal ≡ old.journal
  pub lent : new.lent ≡ old.lent
  pub task : new.task ≡ old.task
  pub abstraction : new.abstraction ≡ old.abstraction
  pub choice : new.choice ≡ old.choice
  pub settings : new.settings ≡ old.settings
  pub begin : new.begin ≡ old.begin
  pub left_order : new.left_order ≡ old.left_order

-- It is the same yard and the same pass, which has the same lease.
pub record IsSameWatch (old new : YardWatch) : Type 0 where
  pub yard : new.yard.now ≡ old.yard.now
  pub pass : KeepsPass old.pass new.pass
  pub lease : KeepsLease (view_of old.pass) (view_of new.pass)

-- it is the same watch after no call, and after two calls
pub same_watch : (watch : YardWatch) → IsSameWatch watch watch
same_watch watch =
    record {
      yard = refl;
      pass = ((((refl, refl, refl, refl), refl)), refl);
      lease = record {
        journal = refl;
        lent = refl;
        task = refl;
        abstraction = refl;
        choice = refl;
        settings = refl;
        begin = refl;
        left_order = refl;
      };
    }

pub same_watch_on : (old mid new : YardWatch) → IsSameWatch old mid → IsSameWatch mid new
    → IsSameWatch old new
same_watch_on old mid new one two =
    let p = one.pass.0.0 in
    let q = two.pass.0.0 in
    record {
      yard = two.yard ∙ one.yard;
      pass = (
        ((q.0 ∙ p.0, q.1 ∙ p.1, q.2 ∙ p.2, q.3 ∙ p.3), two.pass.0.1 ∙ one.pass.0.1),
        two.pass.1 ∙
            one.pass.1,
      );
      lease = record {
        journal = two.lease.journal ∙ one.lease.journal;
        lent = two.lease.lent ∙ one.lease.lent;
        task = two.lease.task ∙ one.lease.task;
        abstraction = two.lease.abstraction ∙ one.lease.abstraction;
        choice = two.lease.choice ∙ one.lease.choice;
        settings = two.lease.settings ∙ one.lease.settings;
        begin = two.lease.begin ∙ one.lease.begin;
        left_order = two.lease.left_order ∙ one.lease.left_order;
      };
    }
