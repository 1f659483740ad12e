use Rattle.std.proofs.lemmas.Str.{utf8_lossy-IsUtf8}
use Rattle.pb_strips.specs.Names.{action_bytes}
use Rattle.pb_strips.proofs.laws.texts_keep_names.Goals as goal

pub returns : goal.returns
returns c domain action is = utf8_lossy-IsUtf8 (action_bytes domain action) is
