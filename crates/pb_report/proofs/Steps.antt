-- One more line of steps.
use Rattle.std.proofs.Common.{◌≡◌, ℕ, ◌+◌, ◌<◌, List, [], ◌∷◌, ◌++◌, length, map, take, get_or, suc, sym, ap, ◌∙◌, arith, append_assoc}
use Rattle.std.proofs.lemmas.List.{map-append}
use Rattle.std.proofs.Math.Seq.{take-suc}
use Rattle.pb_model.specs.Texts.{line, lines}
use Rattle.pb_print.proofs.Callers.{lines-last}

-- the lines of the first names and one more
pub one_more : (name : ℕ → List ℕ) (actions : List ℕ) (at : ℕ) → at < length actions
    → lines (map name (take at actions)) ++ line (name (get_or actions at 0)) ≡ lines (map name (take (at + 1) actions))
one_more name actions at below =
    let next : suc at ≡ at + 1 = omega arith in
    let listed : map name (take (at + 1) actions) ≡ map name (take at actions) ++ name (get_or actions at 0) ∷ [] =
    ap (λ k. map name (take k actions)) (sym next) ∙ ap (map name) (take-suc actions at 0 below) ∙ map-append name (take at actions) (get_or actions at 0 ∷ []) in
    sym (ap lines listed ∙ lines-last (map name (take at actions)) (name (get_or actions at 0)))

pub pushed : (old more after now lines_before lines_after : List ℕ)
    → now ≡ old ++ lines_before → after ≡ now ++ more → lines_before ++ more ≡ lines_after → after ≡ old ++ lines_after
pushed old more after now lines_before lines_after is grown joined =
    grown ∙ ap (λ t. t ++ more) is ∙ append_assoc old lines_before more ∙ ap (λ t. old ++ t) joined
