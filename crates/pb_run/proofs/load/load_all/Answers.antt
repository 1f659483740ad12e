use Rattle.std.proofs.Common.{◌≡◌, ◌+◌, ◌<◌, ◌++◌, ◌∷◌, ◌∙◌, [], List, None, ℕ, length, map, drop, sym, ap, subst, rules, arith, append-nil, length-append}
use Rattle.pb_outside.specs.Calls.{Call}
use Rattle.pb_run.specs.Calls.{load_calls}
use Rattle.pb_run.specs.Files.{wanted_of}
use Rattle.pb_run.proofs.Loads.{AreLoadedSoFar, loaded_first}
use Rattle.pb_run.proofs.CallLists.{no_loads}
use Rattle.pb_run.proofs.Loading.{kept_self, kept_still, one_loaded, ends_failed, ends_long, ends_full, sure_here, loaded_here}
use Rattle.pb_run.proofs.load.load_all.Goals as goal

pub loop-file-init : goal.loop-file-init
loop-file-init g c = record {
  kept = kept_self (g.H.Shelf.files c.args.shelf.now);
  later = omega arith;
  loaded = subst (λ (ts : List (List ℕ)). AreLoadedSoFar (g.H.Shelf.files c.args.shelf.now) (map wanted_of c.args.files.now) (map wanted_of c.args.files.now) ts) (sym c.new-texts.ensures)
      (loaded_first (g.H.Shelf.files c.args.shelf.now) (map wanted_of c.args.files.now));
  count = ap length c.new-texts.ensures;
  calls = sym (append-nil (g.H.Shelf.calls c.args.shelf.now))
      ∙ ap (λ (l : List Call). g.H.Shelf.calls c.args.shelf.now ++ l)
      (sym (no_loads (map wanted_of c.args.files.now)) ∙ ap (λ (ts : List (List ℕ)). load_calls (map wanted_of c.args.files.now) ts None) (sym c.new-texts.ensures));
  holds = λ name n h. h;
  loads = λ name h. h;
}

pub loop-file-preserved : goal.loop-file-preserved
loop-file-preserved g c =
    let less : c.loop-file.file-index < length c.args.files.now = search rules in
    let pushed : c.push.new.self ≡ c.loop-file.texts ++ c.in-Ok-Some.text.items ∷ [] = search rules in
    let noted = rw c.in-Ok-Some.field-0-is at c.in-Ok-Some.ensures.calls in
    let loaded = rw c.in-Ok-Some.field-0-is at c.in-Ok-Some.ensures.text in
    let more = length-append c.loop-file.texts (c.in-Ok-Some.text.items ∷ []) in
    record {
      kept = kept_still (g.H.Shelf.files c.args.shelf.now) (g.H.Shelf.files c.loop-file.shelf) (g.H.Shelf.files c.load.new.shelf) c.loop-file.invariant.kept c.load.ensures.same;
      later = omega (arith, c.loop-file.invariant.later, c.load.ensures.fault.later);
      loaded = subst (λ (ts : List (List ℕ)). AreLoadedSoFar (g.H.Shelf.files c.args.shelf.now) (map wanted_of c.args.files.now) (map wanted_of (drop (c.loop-file.file-index + 1) c.args.files.now)) ts)
          (sym pushed) (loaded_here (g.H.Shelf.calls c.args.shelf.now) (g.H.Shelf.calls c.loop-file.shelf) (g.H.Shelf.calls c.load.new.shelf) c.args.files.now c.loop-file.file-index _ c.loop-file.texts c.loop-file.invariant.calls c.loop-file.invariant.count less (g.H.Shelf.files c.args.shelf.now) (g.H.Shelf.files c.loop-file.shelf) c.in-Ok-Some.text.items c.loop-file.invariant.kept c.loop-file.invariant.loaded loaded);
      count = ap length pushed ∙ more ∙ ap (λ n. n + 1) c.loop-file.invariant.count;
      calls = one_loaded (g.H.Shelf.calls c.args.shelf.now) (g.H.Shelf.calls c.loop-file.shelf) (g.H.Shelf.calls c.load.new.shelf) c.args.files.now c.loop-file.file-index _ c.loop-file.texts c.loop-file.invariant.calls c.loop-file.invariant.count less c.in-Ok-Some.text.items noted
          ∙ ap (λ (ts : List (List ℕ)). g.H.Shelf.calls c.args.shelf.now ++ load_calls (map wanted_of c.args.files.now) ts None) (sym pushed);
      holds = λ name n h. c.load.ensures.holds name n (c.loop-file.invariant.holds name n h);
      loads = λ name h. c.load.ensures.loads name (c.loop-file.invariant.loads name h);
    }

pub returns-then-is_err-clause-calls_error : goal.returns-then-is_err-clause-calls_error
returns-then-is_err-clause-calls_error g c =
    let less : c.loop-file.file-index < length c.args.files.now = search rules in
    ends_full (g.H.Shelf.calls c.args.shelf.now) (g.H.Shelf.calls c.loop-file.shelf) (g.H.Shelf.calls c.load.new.shelf) c.args.files.now c.loop-file.file-index _ c.loop-file.texts c.loop-file.invariant.calls c.loop-file.invariant.count less c.in-Ok-Some.text.items (rw c.in-Ok-Some.field-0-is at c.in-Ok-Some.ensures.calls)

pub returns-in-Ok-None-clause-calls : goal.returns-in-Ok-None-clause-calls
returns-in-Ok-None-clause-calls g c =
    let less : c.loop-file.file-index < length c.args.files.now = search rules in
    ends_long (g.H.Shelf.calls c.args.shelf.now) (g.H.Shelf.calls c.loop-file.shelf) (g.H.Shelf.calls c.load.new.shelf) c.args.files.now c.loop-file.file-index _ c.loop-file.texts c.loop-file.invariant.calls c.loop-file.invariant.count less (rw c.in-Ok-None.field-0-is at c.in-Ok-None.ensures.calls)

pub returns-in-Err-clause-calls_error : goal.returns-in-Err-clause-calls_error
returns-in-Err-clause-calls_error g c =
    let less : c.loop-file.file-index < length c.args.files.now = search rules in
    ends_failed (g.H.Shelf.calls c.args.shelf.now) (g.H.Shelf.calls c.loop-file.shelf) (g.H.Shelf.calls c.load.new.shelf) c.args.files.now c.loop-file.file-index _ c.loop-file.texts c.loop-file.invariant.calls c.loop-file.invariant.count less c.in-Err.fault c.in-Err.ensures.calls_error

pub returns-in-Err-clause-sure : goal.returns-in-Err-clause-sure
returns-in-Err-clause-sure g c =
    let less : c.loop-file.file-index < length c.args.files.now = search rules in
    sure_here (g.H.Shelf.calls c.args.shelf.now) (g.H.Shelf.calls c.loop-file.shelf) (g.H.Shelf.calls c.load.new.shelf) c.args.files.now c.loop-file.file-index _ c.loop-file.texts c.loop-file.invariant.calls c.loop-file.invariant.count less (g.H.Shelf.can_load c.args.shelf.now) (g.H.Shelf.can_load c.loop-file.shelf) c.in-Err.fault c.loop-file.invariant.loads c.in-Err.ensures.sure
