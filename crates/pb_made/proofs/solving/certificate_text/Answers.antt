use Rattle.std.proofs.Common.{◌≡◌, ◌∙◌, ap, arith, refl, subst}
use Rattle.pb_estimate.specs.Choices.{Choice, Plain}
use Rattle.pb_estimate.specs.Estimates.{estimate_by, suits}
use Rattle.pb_estimate.specs.Spelling.{IsSpelling, spelling_of}
use Rattle.pb_search.specs.Ends.{searched_guide}
use Rattle.pb_workers.specs.Ends.{home_store}
use Rattle.pb_search.proofs.Callers.{quiet_end}
use Rattle.pb_cert.proofs.Callers.{is_certificate}
use Rattle.pb_made.specs.Answers.{unweighted}
use Rattle.pb_made.proofs.solving.certificate_text.Goals as goal

pub returns : goal.returns
returns c =
    let plain : c.in_ok-clone.field-0 ≡ Plain =
    c.in_ok-clone.ensures.cases ∙ c.choice.ensures.choice ∙ c.requires.quiet.best.choice_is in
    let spelled = c.of-spelling.ensures.spelling
    ∙ ap (λ (choice : Choice). spelling_of c.args.task.now choice) plain in
    let known = c.of-spelling.ensures.known
    (ap (λ (choice : Choice). suits c.args.task.now choice) plain) in
    is_certificate c.args.task.now (searched_guide c.args.task.now c.args.graph.now.table.abstraction Plain)
    (home_store c.args.graph.now)
    (quiet_end c.args.task.now Plain c.args.graph.now.table.settings c.args.graph.now c.requires.quiet)
    c.max_degree-lawful.ensures.lawful
    Plain refl refl
    (subst IsSpelling spelled known)
    unweighted c.requires.weight (omega arith)
    (omega arith) c.in_ok-certificate.certificate c.args.plan _ c.in_ok-text.ensures
    (c.in_ok-certificate.ensures.spelling ∙ spelled)
    c.in_ok-certificate.ensures.weight c.in_ok-certificate.ensures.plan
    c.in_ok-certificate.ensures.count c.in_ok-certificate.ensures.lines
    c.in_ok-certificate.ensures.valid c.requires.plan
