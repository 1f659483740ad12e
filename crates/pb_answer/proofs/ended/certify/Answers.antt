use Rattle.std.proofs.Common.{◌≡◌, ◌∙◌, true, ap, sym, subst, refl}
use Rattle.pb_estimate.specs.Choices.{Choice}
use Rattle.pb_estimate.specs.Estimates.{suits}
use Rattle.pb_estimate.specs.Spelling.{IsSpelling, spelling_of}
use Rattle.pb_command.specs.Causes.{solve_meant}
use Rattle.pb_lists.specs.Store.{store_with}
use Rattle.pb_answer.proofs.Certified.{is_certificate, no_certificate}
use Rattle.pb_answer.proofs.ended.certify.Goals as goal

pub of-requires-clause-spelling : goal.of-requires-clause-spelling
of-requires-clause-spelling g c =
    c.of-spelling.ensures.known
    (subst (λ (choice : Choice). suits c.args.task.now choice ≡ true) (sym c.in_ok-stated-in-Some.ensures.cases)
    c.requires.suits)

pub returns-in_ok-certificate-in-Some : goal.returns-in_ok-certificate-in-Some
returns-in_ok-certificate-in-Some g c = λ stated.
    let spelled = c.of-spelling.ensures.spelling
    ∙ ap (λ (choice : Choice). spelling_of c.args.task.now choice) c.in_ok-stated-in-Some.ensures.cases in
    let known = c.of-spelling.ensures.known
    (subst (λ (choice : Choice). suits c.args.task.now choice ≡ true) (sym c.in_ok-stated-in-Some.ensures.cases)
    c.requires.suits) in
    is_certificate (solve_meant c.args.solve.now) c.args.task.now c.args.choice.now
    (g.S.Store.home c.args.store.now)
    (store_with (g.S.Store.rows c.args.store.now) (g.S.Store.weight c.args.store.now)
    (g.S.Store.incumbent c.args.store.now))
    c.requires.end c.requires.weight c.max_degree-lawful.ensures.lawful c.requires.range
    c.requires.suits (subst IsSpelling spelled known)
    c.in_ok-certificate-in-Some.certificate c.args.plan c.in-Some.name.now
    (rw c.in-Some.is refl)
    (c.in_ok-certificate-in-Some.ensures.spelling ∙ spelled)
    c.in_ok-certificate-in-Some.ensures.weight c.in_ok-certificate-in-Some.ensures.plan
    c.in_ok-certificate-in-Some.ensures.count c.in_ok-certificate-in-Some.ensures.lines
    c.in_ok-certificate-in-Some.ensures.valid stated

pub returns-in-None : goal.returns-in-None
returns-in-None g c = λ stated.
    no_certificate (solve_meant c.args.solve.now) c.args.task.now c.args.choice.now
    (g.S.Store.home c.args.store.now)
    (store_with (g.S.Store.rows c.args.store.now) (g.S.Store.weight c.args.store.now)
    (g.S.Store.incumbent c.args.store.now))
    c.args.plan (rw c.in-None.is refl)
