use Rattle.std.proofs.Common.{◌≡◌, ◌+◌, ℕ, List, ◌++◌, length, take, sym, ap, ◌∙◌}
use Rattle.std.proofs.Math.Seq.{take-append_seam}
use Rattle.std.proofs.lemmas.List.{length-append}
use Rattle.pb_packed.specs.Digits.{hex_digits}
use Rattle.pb_print.proofs.piece.Piece.push_hex.Goals as goal

digits_are : (count state : ℕ) (out front back : List ℕ) → out ≡ front ++ back → length front ≡ count
    → take count out ≡ hex_digits count state → front ≡ hex_digits count state
digits_are count state out front back is long written =
    sym (take-append_seam front back) ∙ ap (λ k. take k (front ++ back)) long ∙ ap (take count) (sym is) ∙ written

pub returns-clause-digits : goal.returns-clause-digits
returns-clause-digits c =
    c.push.ensures
    ∙ ap (λ text. c.args.self.now ++ text)
    (digits_are c.args.digits c.args.state.now c.hex.new.out c.split_at.result.0.now c.split_at.result.1.now (sym c.as_slice.ensures ∙ c.split_at.ensures.by_index.0) c.split_at.ensures.front_len c.hex.ensures.written)

pub returns-clause-len : goal.returns-clause-len
returns-clause-len c =
    ap length c.push.ensures ∙ length-append c.args.self.now c.split_at.result.0.now ∙ ap (λ k. length c.args.self.now + k) c.split_at.ensures.front_len
