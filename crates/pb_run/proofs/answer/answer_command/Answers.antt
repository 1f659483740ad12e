-- The command that was lent is the one that was given.
use Rattle.std.proofs.Common.{refl, sym, subst}
use Rattle.pb_command.specs.declared.command.CommandLine.{CommandLine}
use Rattle.pb_command.specs.Meaning.{CheckMeaning, Read, Check}
use Rattle.pb_command.specs.Causes.{meaning_of}
use Rattle.pb_answer.specs.Loaded.{check_task}
use Rattle.pb_answer.specs.Answer.{said_of, IsChecked, OrRefused}
use Rattle.pb_answer.specs.Stops.{OrStopped}
use Rattle.pb_run.specs.Begun.{IsOnePart}
use Rattle.pb_run.proofs.answer.answer_command.Goals as goal

pub returns-in_ok-answer_check-in-Check-clause-begins : goal.returns-in_ok-answer_check-in-Check-clause-begins
returns-in_ok-answer_check-in-Check-clause-begins g c =
    let said = said_of c.in_ok-answer_check-in-Check.field-0 in (
      subst (λ (command : CommandLine). IsOnePart (Read (meaning_of command)) c.args.texts.now said) (sym c.in-Check.is) (
        subst (λ (m : CheckMeaning). OrStopped (Read (Check m)) c.args.texts.now (OrRefused (check_task m c.args.texts.now) (λ task. IsChecked m task.0 task.1)) said) c.lend_check.ensures
            c.in_ok-answer_check-in-Check.ensures.answers,
        refl,
      ),
      sym c.in_ok-answer_check-in-Check.ensures.counted,
    )
