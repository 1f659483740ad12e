use Rattle.std.proofs.Common.{sym, ap, ◌∙◌}
use Rattle.std.specs.Hash as fed
use Rattle.std.specs.List.{flat_map, fold}
use Rattle.pb_packed.specs.Words.{words_of, words_are_back}
use Rattle.pb_packed.proofs.words.Words.feed.Goals as goal

pub returns : goal.returns
returns g c =
    c.hash_slice.ensures
    ∙ ap (λ ws. fold g.H.Hasher.write c.args.state.now (flat_map fed.u64 ws))
    (sym (ap (words_of g.row.W) (sym c.self.view_is) ∙ words_are_back g.row.W c.self.inside.words c.self.invariant))
