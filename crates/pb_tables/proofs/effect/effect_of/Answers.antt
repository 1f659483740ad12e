use Rattle.std.proofs.Common.{◌≡◌, ◌∙◌, ◌*◌, ◌^◌, ◌<◌, ◌≤◌, ℕ, ap, arith}
use Rattle.pb_packed.specs.Words.{number_of}
use Rattle.pb_tables.specs.Images.{both}
use Rattle.pb_tables.proofs.FlatNumbers.{more_than}
use Rattle.pb_tables.proofs.effect.effect_of.Goals as goal

-- a set that fits some words fits more
fits_more : (set number less more : ℕ) → number ≡ set → set < 2 ^ (64 * less) → less ≤ more → number < 2 ^ (64 * more)
fits_more set number less more same fits most =
    let room : 2 ^ (64 * less) ≤ 2 ^ (64 * more) = more_than (64 * less) (64 * more) (omega (arith, most)) in
    omega (arith, same, fits, room)

pub returns : goal.returns
returns c = record {
  needs_words = c.to_words.ensures.words;
  adds_words = c.to_words-2.ensures.words;
  deletes_words = c.to_words-3.ensures.words;
  tracked_words = c.to_words-4.ensures.words;
  needs = c.to_words.ensures.number ∙ c.both-needs.ensures.both ∙ ap (λ (set : ℕ). both c.args.strips.now.atoms set c.args.tracked.now) c.needs.ensures;
  adds = c.to_words-2.ensures.number ∙ c.both-adds.ensures.both ∙ ap (λ (set : ℕ). both c.args.strips.now.atoms set c.args.tracked.now) c.adds.ensures;
  deletes = c.to_words-3.ensures.number ∙ c.both-deletes.ensures.both ∙ ap (λ (set : ℕ). both c.args.strips.now.atoms set c.args.tracked.now) c.deletes.ensures;
  tracked_atoms = c.to_words-4.ensures.number;
  most = omega (arith, c.words_for.ensures.most, c.words_for-2.ensures.most, c.max.ensures);
  needs_fit = fits_more c.both-needs.result (number_of c.to_words.result) c.words_for.result c.max.result c.to_words.ensures.number c.words_for.ensures.fits (omega (arith, c.max.ensures));
  adds_fit = fits_more c.both-adds.result (number_of c.to_words-2.result) c.words_for-2.result c.max.result c.to_words-2.ensures.number c.words_for-2.ensures.fits (omega (arith, c.max.ensures));
}
