-- The line of a made task with a plan.
use Rattle.std.proofs.Common.{◌≡◌, List, [], ◌∷◌, ◌++◌, ℕ, codes, ap, sym, ◌∙◌, append_assoc}
use Rattle.pb_model.specs.Texts.{line, spaced}

pub accepted_line : (cost bound : List ℕ)
    → codes "cost " ++ (cost ++ (codes " bound " ++ (bound ++ (codes " accepted" ++ 10 ∷ [])))) ≡ line (spaced (codes "cost") (spaced cost (spaced (codes "bound") (spaced bound (codes "accepted")))))
accepted_line cost bound =
    sym (ap (λ (rest : List ℕ). codes "cost " ++ rest)
    (append_assoc cost (codes " bound " ++ (bound ++ codes " accepted")) (10 ∷ [])
    ∙ ap (λ (rest : List ℕ). cost ++ (codes " bound " ++ rest)) (append_assoc bound (codes " accepted") (10 ∷ []))))
