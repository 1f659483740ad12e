use Rattle.std.proofs.Common.{◌≡◌, ◌∙◌, sym, ap, subst}
use Rattle.std.proofs.lemmas.Option.{same_Some}
use Rattle.pb_model.specs.declared.row.Status.TheVariants.{Opened}
use Rattle.pb_lists.specs.Fields.{weight_of}
use Rattle.pb_lists.specs.Reopened.{reopened_at, reopened_entries}
use Rattle.pb_lists.proofs.AgainOpened.{reopened_place, not_filed, filed_here, live_again}
use Rattle.pb_lists.proofs.Entries.{there_is}
use Rattle.pb_lists.proofs.reopening.file_at.Goals as goal

pub returns-in_default : goal.returns-in_default
returns-in_default c =
    let weight = weight_of c.args.num c.args.den in
    let entries = c.args.rows.now.entries in
    let at = there_is entries c.args.place c.requires.place in
    record {
      kept = λ sum entry had. had;
      filed = λ state row found opened. absurd (not_filed weight c.args.bound entries c.args.place at.0 at.1 c.costs_at-costs.result at.2 (c.costs_at-costs.ensures at.0 at.1 at.2)
          (λ is. c.in_default.not-Opened (c.reopened.ensures ∙ is)) state row found opened);
      tidy = λ tidy. tidy;
      placed = λ placed. placed;
    }

pub returns-in_ok-file-in-Opened-clause-filed : goal.returns-in_ok-file-in-Opened-clause-filed
returns-in_ok-file-in-Opened-clause-filed c = λ state row found opened.
    let weight = weight_of c.args.num c.args.den in
    let entries = c.args.rows.now.entries in
    let at = c.at-state.ensures in
    filed_here weight c.args.bound entries c.args.place c.at-state.result.0 c.at-state.result.1 c.costs_at-costs.result at (c.costs_at-costs.ensures c.at-state.result.0 c.at-state.result.1 at)
    c.key_of-key.result c.key_of-key.ensures c.file.new.buckets (c.args.place, c.in_ok-file-in-Opened.ensures.filed) state row found

pub returns-in_ok-file-in-Opened-clause-tidy : goal.returns-in_ok-file-in-Opened-clause-tidy
returns-in_ok-file-in-Opened-clause-tidy c = λ tidy.
    let weight = weight_of c.args.num c.args.den in
    let entries = c.args.rows.now.entries in
    let at = c.at-state.ensures in
    c.in_ok-file-in-Opened.ensures.led weight (reopened_entries weight c.args.bound entries)
    (live_again weight c.args.bound entries c.args.place c.at-state.result.0 c.at-state.result.1 c.costs_at-costs.result at (c.costs_at-costs.ensures c.at-state.result.0 c.at-state.result.1 at)
    c.key_of-key.result c.key_of-key.ensures c.len.ensures.distinct (sym c.reopened.ensures ∙ c.in-Opened.is)) tidy

pub returns-in_ok-file-in-Opened-clause-placed : goal.returns-in_ok-file-in-Opened-clause-placed
returns-in_ok-file-in-Opened-clause-placed c = λ placed.
    let weight = weight_of c.args.num c.args.den in
    let entries = c.args.rows.now.entries in
    c.in_ok-file-in-Opened.ensures.placed (reopened_entries weight c.args.bound entries)
    (reopened_at weight c.args.bound c.at-state.result.1, reopened_place weight c.args.bound entries c.args.place c.at-state.result.0 c.at-state.result.1 c.at-state.ensures) placed
