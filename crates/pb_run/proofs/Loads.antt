-- Loading files one after another.
use Rattle.std.proofs.Common.{◌≡◌, ℕ, ◌<◌, ◌≤◌, Option, None, Some, IfSome, List, [], ◌∷◌, ◌++◌, length, refl, sym, ap, ◌∙◌, arith, append_assoc, nat_le, true, false, if◌then◌else◌, option_map}
use Rattle.std.proofs.lemmas.List.{append-nil}
use Rattle.std.proofs.lemmas.Bool.Decides.{nat_tests}
use Rattle.pb_outside.specs.Outside.{Files, IfTold, KeepsAll}
use Rattle.pb_run.specs.Asked.{Wanted}
use Rattle.pb_run.specs.Loads.{load_before, loads_of, AreLoaded}
use Rattle.pb_run.specs.Files.{LoadsText}

-- what is loaded behind these texts
abbrev pub behind : (texts : List (List ℕ)) → Option (List (List ℕ)) → Option (List (List ℕ))
behind texts more = option_map (λ (others : List (List ℕ)). texts ++ others) more

-- these texts were loaded, and what is loaded in all is they and what is loaded of the rest
abbrev pub AreLoadedSoFar : Option Files → (files rest : List Wanted) → (texts : List (List ℕ)) → Type 0
AreLoadedSoFar told files rest texts = IfSome told (λ shelf. loads_of shelf files ≡ behind texts (loads_of shelf rest))

behind_one : (texts : List (List ℕ)) (text : List ℕ) (more : Option (List (List ℕ))) → behind texts (option_map (λ (others : List (List ℕ)). text ∷ others) more) ≡ behind (texts ++ text ∷ []) more
behind_one texts text None = refl
behind_one texts text (Some others) = ap (λ (t : List (List ℕ)). Some t) (sym (append_assoc texts (text ∷ []) others))

behind_none : (more : Option (List (List ℕ))) → more ≡ behind [] more
behind_none None = refl
behind_none (Some others) = refl

fits : (text : List ℕ) (most : ℕ) → length text ≤ most → nat_le (length text) most ≡ true
fits text most h = grind (arith, nat_tests, h)

exceeds : (text : List ℕ) (most : ℕ) → most < length text → nat_le (length text) most ≡ false
exceeds text most h = grind (arith, nat_tests, h)

-- ---- the first file

loads_text : (told : Files) (file : Wanted) (files : List Wanted) (text : List ℕ) → told file.name ≡ Some text → length text ≤ file.most
    → loads_of told (file ∷ files) ≡ option_map (λ (others : List (List ℕ)). text ∷ others) (loads_of told files)
loads_text told file files text is short =
    ap (λ (t : Option (List ℕ)). load_before file.most t (loads_of told files)) is
    ∙ ap (λ b. if b then option_map (λ (others : List (List ℕ)). text ∷ others) (loads_of told files) else Some []) (fits text file.most short)

loads_no_more : (told : Files) (file : Wanted) (files : List Wanted) (text : List ℕ) → told file.name ≡ Some text → file.most < length text → loads_of told (file ∷ files) ≡ Some []
loads_no_more told file files text is long =
    ap (λ (t : Option (List ℕ)). load_before file.most t (loads_of told files)) is
    ∙ ap (λ b. if b then option_map (λ (others : List (List ℕ)). text ∷ others) (loads_of told files) else Some []) (exceeds text file.most long)

-- ---- with a shelf that keeps all files

pub loaded_first : (old : Option Files) (files : List Wanted) → AreLoadedSoFar old files files []
loaded_first None files = tt
loaded_first (Some told) files = behind_none (loads_of told files)

pub loaded_next : (old now : Option Files) (files rest : List Wanted) (file : Wanted) (texts : List (List ℕ)) (text : List ℕ) → IfTold old now KeepsAll
    → AreLoadedSoFar old files (file ∷ rest) texts → LoadsText now file (Some text) → AreLoadedSoFar old files rest (texts ++ text ∷ [])
loaded_next None now files rest file texts text keeps so_far is = tt
loaded_next (Some told) (Some shelf) files rest file texts text keeps so_far is =
    so_far ∙ ap (behind texts) (loads_text told file rest text (sym (keeps file.name) ∙ is.1) is.0) ∙ behind_one texts text (loads_of told rest)
loaded_next (Some told) None files rest file texts text keeps so_far is = absurd keeps

pub loaded_short : (old now : Option Files) (files rest : List Wanted) (file : Wanted) (texts : List (List ℕ)) → IfTold old now KeepsAll
    → AreLoadedSoFar old files (file ∷ rest) texts → LoadsText now file None → AreLoaded old files texts
loaded_short None now files rest file texts keeps so_far is = tt
loaded_short (Some told) (Some shelf) files rest file texts keeps so_far (text, here, long) =
    so_far ∙ ap (behind texts) (loads_no_more told file rest text (sym (keeps file.name) ∙ here) long) ∙ ap (λ (t : List (List ℕ)). Some t) (append-nil texts)
loaded_short (Some told) None files rest file texts keeps so_far is = absurd keeps

pub loaded_all : (old : Option Files) (files : List Wanted) (texts : List (List ℕ)) → AreLoadedSoFar old files [] texts → AreLoaded old files texts
loaded_all None files texts so_far = tt
loaded_all (Some told) files texts so_far = so_far ∙ ap (λ (t : List (List ℕ)). Some t) (append-nil texts)
