use Rattle.std.proofs.Common.{◌≡◌, ◌++◌, refl, subst, arith, codes}
use Rattle.pb_model.specs.Texts.{line}
use Rattle.pb_print.proofs.Callers.{short_enough}
use Rattle.pb_journal.specs.Texts.{numbered}
use Rattle.pb_journal.proofs.Numbered.{setting_put}
use Rattle.pb_journal.proofs.lines.put_setting.Goals as goal

pub returns-in-0 : goal.returns-in-0
returns-in-0 c =
    setting_put c.args.out.now c.push.new.self c.args.settings.now c.args.at 0
    (codes "pbnf-journal 1") (omega (arith, c.in-0.if-at-lt1-own.true)) refl c.push.ensures
    (short_enough c.args.out.now c.push.new.self (line (codes "pbnf-journal 1")) c.push.ensures
    (omega arith))

pub returns-in-1 : goal.returns-in-1
returns-in-1 c =
    setting_put c.args.out.now c.put_numbered.new.out c.args.settings.now c.args.at 1
    (numbered (codes "blocks") c.args.settings.now.wish) (omega (arith, c.in-1.if-at-lt1-own.false, c.in-1.if-at-lt2-own.true)) refl
    (subst (λ n. c.put_numbered.new.out ≡ c.args.out.now ++ line (numbered (codes "blocks") n))
    c.from.ensures c.put_numbered.ensures.line) c.put_numbered.ensures.short

pub returns-in-2 : goal.returns-in-2
returns-in-2 c =
    setting_put c.args.out.now c.put_numbered-in-2.new.out c.args.settings.now c.args.at 2
    (numbered (codes "workers") c.args.settings.now.workers) (omega (arith, c.in-2.if-at-lt1-own.false, c.in-2.if-at-lt2-own.false, c.in-2.if-at-lt3-own.true)) refl
    (subst (λ n. c.put_numbered-in-2.new.out
    ≡ c.args.out.now ++ line (numbered (codes "workers") n))
    c.from-in-2.ensures c.put_numbered-in-2.ensures.line) c.put_numbered-in-2.ensures.short

pub returns-in-3 : goal.returns-in-3
returns-in-3 c =
    setting_put c.args.out.now c.put_numbered-in-3.new.out c.args.settings.now c.args.at 3
    (numbered (codes "budget") c.args.settings.now.budget) (omega (arith, c.in-3.if-at-lt1-own.false, c.in-3.if-at-lt2-own.false, c.in-3.if-at-lt3-own.false, c.in-3.if-at-lt4-own.true)) refl
    c.put_numbered-in-3.ensures.line c.put_numbered-in-3.ensures.short

pub returns-in-4 : goal.returns-in-4
returns-in-4 c =
    setting_put c.args.out.now c.put_numbered-in-4.new.out c.args.settings.now c.args.at 4
    (numbered (codes "lot") c.args.settings.now.lot) (omega (arith, c.in-4.if-at-lt1-own.false, c.in-4.if-at-lt2-own.false, c.in-4.if-at-lt3-own.false, c.in-4.if-at-lt4-own.false, c.in-4.if-at-lt5-own.true)) refl
    c.put_numbered-in-4.ensures.line c.put_numbered-in-4.ensures.short
