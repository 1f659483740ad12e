use Rattle.std.proofs.Common.{◌<◌, take, length, sym, subst, arith}
use Rattle.pb_bundles.specs.Moves.{NotesKeys}
use Rattle.pb_bundles.proofs.Lists.{entry_at, take_next, some_at, absent_before}
use Rattle.pb_bundles.proofs.Noting.{notes_push}
use Rattle.pb_bundles.proofs.moves.note_keys.Goals as goal

pub loop-at-preserved : goal.loop-at-preserved
loop-at-preserved c =
    let parts = c.args.parts.now.entries in
    let at = c.loop-at.at in
    let old = c.args.keys.now in
    let keys = c.loop-at.keys in
    let within : at < length parts = omega (arith, c.loop-at-test.true, c.len-at-end.ensures.len) in
    let here = entry_at parts at within in
    let below : here.0.0 < length old = c.requires here.0.0 (some_at parts at here.0.0 here.0.1 here.1) in
    let place : here.0.0 < length keys = subst (λ n. here.0.0 < n) (sym c.loop-at.invariant.count) below in
    subst (λ ps. NotesKeys ps old c.note_one.new.keys) (sym (take_next parts at here.0 here.1))
    (notes_push (take at parts) here.0.0 here.0.1 old keys c.note_one.new.keys c.loop-at.invariant
    (absent_before parts at here.0.0 here.0.1 c.len-at-end.ensures.unique here.1) place (c.note_one.ensures here.0.0 here.0.1 here.1))

pub note_one-requires-clause-place : goal.note_one-requires-clause-place
note_one-requires-clause-place c = λ block content is.
    subst (λ n. block < n) (sym c.loop-at.invariant.count) (c.requires block (some_at c.args.parts.now.entries c.loop-at.at block content is))
