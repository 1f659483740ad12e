-- Lists of lines, one behind another.
use Rattle.std.proofs.Common.{◌≡◌, ℕ, List, [], ◌∷◌, ◌++◌, refl, sym, ap, ◌∙◌, append_assoc, append-nil}
use Rattle.pb_model.specs.Texts.{line, lines}

pub lines-append : (texts others : List (List ℕ)) → lines (texts ++ others) ≡ lines texts ++ lines others
lines-append [] others = refl
lines-append (text ∷ texts) others = ap (λ t. line text ++ t) (lines-append texts others) ∙ sym (append_assoc (line text) (lines texts) (lines others))

pub lines-last : (texts : List (List ℕ)) (text : List ℕ) → lines (texts ++ text ∷ []) ≡ lines texts ++ line text
lines-last texts text = lines-append texts (text ∷ []) ∙ ap (λ t. lines texts ++ t) (append-nil (line text))
