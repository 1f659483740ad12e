use Rattle.std.proofs.Common.{◌≡◌, Result, Ok, Err, inr, refl}
use Rattle.pb_check.specs.declared.fault.CertificateFault.{CertificateFault}
use Rattle.pb_check.specs.declared.fault.Verdict.{Verdict}
use Rattle.pb_answer.proofs.check.judge.Goals as goal

pub returns-in_ok-report-in-Err-Fault : goal.returns-in_ok-report-in-Err-Fault
returns-in_ok-report-in-Err-Fault g c =
    inr (
      refl,
      refl,
      (
        c.in-Err-Fault.fault,
        rw c.in-Err-Fault.field-0-is at c.in_ok-report-in-Err-Fault.ensures,
        rw c.in-Err-Fault.field-0-is at c.in-Err-Fault.ensures.exact,
        λ verdict is.
            let both : ◌≡◌ {A = Result Verdict CertificateFault} (Ok verdict) (Err c.in-Err-Fault.fault) = rw c.in-Err-Fault.field-0-is at c.in-Err-Fault.ensures.only verdict is in
            cc,
      ),
    )
