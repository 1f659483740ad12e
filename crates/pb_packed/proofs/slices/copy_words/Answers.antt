use Rattle.std.proofs.Common.{◌≤◌, ◌<◌, ◌^◌, ◌∙◌, ◌⊎◌, length, get_or, refl, sym, ap, subst, ℕ, arith}
use Rattle.pb_packed.specs.Words.{AreWords}
use Rattle.std.proofs.lemmas.List.{length-set}
use Rattle.pb_packed.proofs.WordLists.{set_words, zeros_are_words}
use Rattle.pb_packed.proofs.Zeros.{zero_at, copied, left_zero, whole_copied}
use Rattle.pb_packed.proofs.slices.copy_words.Goals as goal

pub loop-i-init : goal.loop-i-init
loop-i-init c = record {
  size = refl;
  words = subst (AreWords (length c.args.out.now)) (sym c.requires.zero) (zeros_are_words (length c.args.out.now));
  done = λ k less. absurd (none k less);
  left = λ k le. ap (λ ws. get_or ws k 0) c.requires.zero ∙ zero_at (length c.args.out.now) k;
}
  where
    none : (k : ℕ) → k < 0 → ⊥
    none k less = omega arith

pub loop-i-preserved : goal.loop-i-preserved
loop-i-preserved c =
    let x = get_or c.args.words.now c.loop-i.i 0 in
    let fits = c.type_inv.words c.loop-i.i in
    let small : x < 2 ^ 64 = fits.fits in record {
      size = length-set c.loop-i.out c.loop-i.i x ∙ c.loop-i.invariant.size;
      words = set_words (length c.args.out.now) c.loop-i.i x c.loop-i.out c.loop-i.invariant.words small;
      done = λ k less. copied c.args.words.now c.loop-i.out c.loop-i.i k x (omega arith) refl c.loop-i.invariant.done less;
      left = λ k le. left_zero c.loop-i.out c.loop-i.i k x (omega arith) (c.loop-i.invariant.left k (omega arith));
    }

pub returns-clause-number : goal.returns-clause-number
returns-clause-number c =
    let end : (length c.args.words.now ≤ c.loop-i.i) ⊎ (length c.args.out.now ≤ c.loop-i.i) = grind arith in
    whole_copied (length c.args.words.now) c.args.words.now c.loop-i.out c.loop-i.i (length c.args.out.now) c.requires.words refl c.requires.fits
    c.loop-i.invariant.done c.loop-i.invariant.left end

pub returns-clause-words : goal.returns-clause-words
returns-clause-words c = c.loop-i.invariant.words
