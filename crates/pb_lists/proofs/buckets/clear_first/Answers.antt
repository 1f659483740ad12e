use Rattle.std.proofs.Common.{◌∙◌, inr, sym, ap, is_some}
use Rattle.pb_lists.specs.Fields.{weight_of}
use Rattle.pb_lists.specs.Buckets.{has_in, is_tidy}
use Rattle.pb_lists.proofs.Filing.{set_filed, set_placed, tidy_led}
use Rattle.pb_lists.proofs.buckets.clear_first.Goals as goal

pub returns-clause-filed : goal.returns-clause-filed
returns-clause-filed c = λ filed.
    set_filed c.args.buckets.now (c.get_mut.follows.lender c.clear.new.bucket) c.args.sum.now c.clear.new.bucket
    (((c.get_mut.follows.holds c.clear.new.bucket).3 (ap is_some (sym c.in-Some.ensures.value))).0)
    (weight_of c.args.num c.args.den) c.args.rows.now.entries
    (λ entry live had. c.clear.ensures.kept entry live (ap (λ found. has_in found entry) c.in-Some.ensures.value ∙ had)) filed

pub returns-clause-tidy : goal.returns-clause-tidy
returns-clause-tidy c = λ left.
    let weight = weight_of c.args.num c.args.den in
    let entries = c.args.rows.now.entries in
    ap (λ list. is_tidy weight entries list) (c.get_mut.follows.holds c.clear.new.bucket).0
    ∙ tidy_led weight entries c.args.sum.now c.args.buckets.now.entries c.clear.new.bucket c.requires.first (c.clear.ensures.led left)

pub clear-requires-clause-placed : goal.clear-requires-clause-placed
clear-requires-clause-placed c = λ entry has. c.requires.placed c.args.sum.now entry (sym (ap (λ found. has_in found entry) c.in-Some.ensures.value) ∙ has)

pub returns-clause-placed : goal.returns-clause-placed
returns-clause-placed c =
    set_placed c.args.buckets.now (c.get_mut.follows.lender c.clear.new.bucket) c.args.sum.now c.clear.new.bucket
    (((c.get_mut.follows.holds c.clear.new.bucket).3 (ap is_some (sym c.in-Some.ensures.value))).0)
    c.args.rows.now.entries
    (λ entry has. inr (sym (ap (λ found. has_in found entry) c.in-Some.ensures.value) ∙ c.clear.ensures.had entry has)) c.requires.placed
