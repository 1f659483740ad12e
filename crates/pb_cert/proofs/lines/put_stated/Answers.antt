use Rattle.std.proofs.Common.{◌<◌, length, subst}
use Rattle.pb_estimate.specs.declared.spelling.Version.{Version}
use Rattle.pb_estimate.specs.declared.spelling.Version.TheVariants.{Three, Four}
use Rattle.pb_estimate.specs.Spelling.{stated_text}
use Rattle.pb_cert.proofs.LineTexts.{one_put, none_stated}
use Rattle.pb_cert.proofs.lines.put_stated.Goals as goal

pub returns-in-One : goal.returns-in-One
returns-in-One c = absurd (none_stated c.args.spelling.now.version c.args.spelling.now.width c.args.spelling.now.stated c.args.at c.in-One.is c.requires.within)

pub returns-in-Three : goal.returns-in-Three
returns-in-Three c =
    one_put c.args.out.now c.put_choice.new.out c.args.spelling.now.version c.args.spelling.now.width c.args.spelling.now.stated c.args.at Three c.in-Three.is
    (c.put_choice.ensures
    (subst (λ (version : Version). c.args.at < length (stated_text version c.args.spelling.now.width c.args.spelling.now.stated)) c.in-Three.is c.requires.within))

pub put_stated_4-requires-clause-within : goal.put_stated_4-requires-clause-within
put_stated_4-requires-clause-within c =
    subst (λ (version : Version). c.args.at < length (stated_text version c.args.spelling.now.width c.args.spelling.now.stated)) c.in-Four.is c.requires.within

pub returns-in-Four : goal.returns-in-Four
returns-in-Four c =
    one_put c.args.out.now c.put_stated_4.new.out c.args.spelling.now.version c.args.spelling.now.width c.args.spelling.now.stated c.args.at Four c.in-Four.is
    c.put_stated_4.ensures
