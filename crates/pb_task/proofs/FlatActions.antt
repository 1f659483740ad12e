-- Actions whose sets lie in flat arrays: what each place gives, and one more of them.
use Rattle.std.proofs.Common.{◌≡◌, ℕ, zero, suc, ◌+◌, ◌*◌, ◌<◌, ◌≤◌, List, [], ◌∷◌, ◌++◌, length, take, drop, get_or, refl, sym, ap, arith, ◌∙◌}
use Rattle.std.proofs.lemmas.List.{drop-drop, length-drop, take-append-le, drop-append-le, get_or_append_left, get_or_push, get_or_read}
use Rattle.std.proofs.Math.Seq.{take-length}
use Rattle.std.proofs.Math.Nat.{mul-le-mul_right, mul_comm, add-mul}
use Rattle.pb_packed.specs.Words.{number_of}
use Rattle.pb_task.specs.Actions.{action_with, actions_from}
use Rattle.pb_task.specs.FlatSets.{sets_of}
use Rattle.pb_task.specs.Strips.{action_at}
use Rattle.pb_task.specs.declared.actions.Label.{Label}
use Rattle.pb_task.specs.declared.parts.GroundAction.{GroundAction}

-- ---- sets in one array

pub many_sets : (width count : ℕ) (words : List ℕ) → length (sets_of width count words) ≡ count
many_sets width zero words = refl
many_sets width (suc count) words = ap suc (many_sets width count (drop width words))

no_place : (width : ℕ) (words : List ℕ) → drop (width * 0) words ≡ words
no_place width words = let none : width * 0 ≡ 0 = omega arith in ap (λ k. drop k words) none

pub set_at : (width count i : ℕ) (words : List ℕ) → i < count
    → get_or (sets_of width count words) i 0 ≡ number_of (take width (drop (width * i) words))
set_at width zero i words inside = absurd (omega (arith, inside))
set_at width (suc count) zero words inside = ap (λ ws. number_of (take width ws)) (sym (no_place width words))
set_at width (suc count) (suc i) words inside =
    let next : width + width * i ≡ width * suc i = omega arith in
    set_at width count i (drop width words) (omega (arith, inside))
    ∙ ap (λ ws. number_of (take width ws)) (drop-drop (width * i) width words ∙ ap (λ k. drop k words) next)

-- the words of a place end within all
pub within : (width count i : ℕ) → i < count → i * width + width ≤ width * count
within width count i inside =
    let le : i + 1 ≤ count = omega (arith, inside) in
    omega (arith, mul-le-mul_right width le, mul_comm count width, add-mul i 1 width)

no_words : (words : List ℕ) → length words ≡ 0 → words ≡ []
no_words [] none = refl
no_words (w ∷ ws) none = absurd (omega (arith, none))

-- a set's words are put behind those of others
pub set_added : (width count : ℕ) (words more : List ℕ) → length words ≡ width * count → length more ≡ width
    → sets_of width (suc count) (words ++ more) ≡ sets_of width count words ++ number_of more ∷ []
set_added width zero words more long size =
    let none : length words ≡ 0 = omega (arith, long) in
    let all : take width more ≡ more = ap (λ k. take k more) (sym size) ∙ take-length more in
    ap (λ ws. number_of (take width (ws ++ more)) ∷ []) (no_words words none) ∙ ap (λ ws. number_of ws ∷ []) all
set_added width (suc count) words more long size =
    let sum : width * suc count ≡ width + width * count = omega arith in
    let room : width ≤ length words = omega (arith, long, sum) in
    let rest : length (drop width words) ≡ width * count = length-drop width words ∙ omega (arith, long, sum) in
    ap (λ ws. number_of ws ∷ sets_of width (suc count) (drop width (words ++ more))) (take-append-le width words more room)
    ∙ ap (λ ws. number_of (take width words) ∷ sets_of width (suc count) ws) (drop-append-le width words more room)
    ∙ ap (λ ns. number_of (take width words) ∷ ns) (set_added width count (drop width words) more rest size)

-- ---- actions

pub many_actions : (at : ℕ) (labels : List Label) (needs adds deletes : List ℕ) → length (actions_from at labels needs adds deletes) ≡ length labels
many_actions at [] needs adds deletes = refl
many_actions at (label ∷ labels) needs adds deletes = ap suc (many_actions (suc at) labels needs adds deletes)

abbrev pub no_label : Label
no_label = record { name = []; cost = 1 }

pub action_is : (at : ℕ) (labels : List Label) (needs adds deletes : List ℕ) (i : ℕ) → i < length labels
    → action_at (actions_from at labels needs adds deletes) i ≡ action_with (at + i) (get_or labels i no_label) needs adds deletes
action_is at [] needs adds deletes i less = absurd (omega (arith, less))
action_is at (label ∷ labels) needs adds deletes zero less = let here : at ≡ at + zero = omega arith in ap (λ k. action_with k label needs adds deletes) here
action_is at (label ∷ labels) needs adds deletes (suc i) less =
    let here : suc at + i ≡ at + suc i = omega arith in
    action_is (suc at) labels needs adds deletes i (omega (arith, less)) ∙ ap (λ k. action_with k (get_or labels i no_label) needs adds deletes) here

-- an action as its label and its sets
abbrev pub action_made : Label → (needs adds deletes : ℕ) → GroundAction
action_made label needs adds deletes = record { name = label.name; needs = needs; adds = adds; deletes = deletes; cost = label.cost }

pub action_added : (at : ℕ) (labels : List Label) (label : Label) (needs adds deletes : List ℕ) (n a d : ℕ)
    → length needs ≡ at + length labels → length adds ≡ at + length labels → length deletes ≡ at + length labels
    → actions_from at (labels ++ label ∷ []) (needs ++ n ∷ []) (adds ++ a ∷ []) (deletes ++ d ∷ [])
    ≡ actions_from at labels needs adds deletes ++ action_made label n a d ∷ []
action_added at [] label needs adds deletes n a d e f g =
    let first : length needs ≡ at = omega (arith, e) in
    let second : length adds ≡ at = omega (arith, f) in
    let third : length deletes ≡ at = omega (arith, g) in
    ap (λ x. action_made label x (get_or (adds ++ a ∷ []) at 0) (get_or (deletes ++ d ∷ []) at 0) ∷ []) (get_or_push needs n 0 at first)
    ∙ ap (λ x. action_made label n x (get_or (deletes ++ d ∷ []) at 0) ∷ []) (get_or_push adds a 0 at second)
    ∙ ap (λ x. action_made label n a x ∷ []) (get_or_push deletes d 0 at third)
action_added at (head ∷ labels) label needs adds deletes n a d e f g =
    let rest = actions_from (suc at) (labels ++ label ∷ []) (needs ++ n ∷ []) (adds ++ a ∷ []) (deletes ++ d ∷ []) in
    ap (λ x. action_made head x (get_or (adds ++ a ∷ []) at 0) (get_or (deletes ++ d ∷ []) at 0) ∷ rest) (get_or_append_left needs (n ∷ []) 0 at (omega (arith, e)))
    ∙ ap (λ x. action_made head (get_or needs at 0) x (get_or (deletes ++ d ∷ []) at 0) ∷ rest) (get_or_append_left adds (a ∷ []) 0 at (omega (arith, f)))
    ∙ ap (λ x. action_made head (get_or needs at 0) (get_or adds at 0) x ∷ rest) (get_or_append_left deletes (d ∷ []) 0 at (omega (arith, g)))
    ∙ ap (λ xs. action_with at head needs adds deletes ∷ xs)
    (action_added (suc at) labels label needs adds deletes n a d (omega (arith, e)) (omega (arith, f)) (omega (arith, g)))

pub label_at : (labels : List Label) (needs adds deletes : List ℕ) (i : ℕ) (label : Label) → i < length labels → label ≡ get_or labels i label
    → action_at (actions_from 0 labels needs adds deletes) i ≡ action_with i label needs adds deletes
label_at labels needs adds deletes i label less is =
    let here : 0 + i ≡ i = omega arith in
    action_is 0 labels needs adds deletes i less
    ∙ ap (λ l. action_with (0 + i) l needs adds deletes) (sym (get_or_read labels i label less is no_label))
    ∙ ap (λ k. action_with k label needs adds deletes) here

pub sets_at : (labels : List Label) (needs adds deletes : List ℕ) (i : ℕ) → i < length labels
    → action_at (actions_from 0 labels needs adds deletes) i ≡ action_with i (get_or labels i no_label) needs adds deletes
sets_at labels needs adds deletes i less =
    let here : 0 + i ≡ i = omega arith in
    action_is 0 labels needs adds deletes i less ∙ ap (λ k. action_with k (get_or labels i no_label) needs adds deletes) here

-- how many labels there are
pub many_labels : (labels : List Label) (needs adds deletes : List ℕ) (actions : List GroundAction) → actions_from 0 labels needs adds deletes ≡ actions → length labels ≡ length actions
many_labels labels needs adds deletes actions is = sym (many_actions 0 labels needs adds deletes) ∙ ap (λ (xs : List GroundAction). length xs) is
