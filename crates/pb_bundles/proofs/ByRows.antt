-- The moves and the keys by rows and as stores.
use Rattle.std.proofs.Common.{◌≡◌, ℕ, ◌<◌, ◌≤◌, Bool, true, false, not, cond, ◌||◌, ◌==◌, nat_eq, nat_lt, is_some, List, [], ◌∷◌, Option, Some, None, get_or, length, refl, sym, ap, subst, ◌∙◌, true≢false}
use Rattle.std.proofs.lemmas.List.{get_or_past}
use Rattle.std.specs.Option.{option_or}
use Rattle.std.specs.Map.{keys_of, set_value}
use Rattle.pb_model.specs.declared.key.Key.{Key}
use Rattle.pb_model.specs.declared.row.Row.{Row}
use Rattle.pb_model.specs.Weight.{Weight}
use Rattle.pb_model.specs.Store.{Part, lesser}
use Rattle.pb_model.specs.Key.{IsBest}
use Rattle.pb_model.proofs.Callers.{by_cases, equal, equal_swap, not_true, below, not_below, none_found, some_found}
use Rattle.pb_lists.specs.Bundle.{Content, row_of}
use Rattle.pb_bundles.specs.Parts.{content_in, with_content, rows_in}
use Rattle.pb_bundles.specs.Homes.{content_at, key_at, home_rows}
use Rattle.pb_bundles.specs.Moves.{is_among, moved}
use Rattle.pb_bundles.specs.Stores.{store_of}
use Rattle.pb_bundles.specs.Laws.{HomeKeysAreBest, KeysAtHomeAreBest, NotedKeysAreBest, MovesTakeRows, TakenPlacesAreVacant, MovesBringRows, ChangesAreApart, AwayRowsAreOfBlocks, TakenRowsAreRestricted, BroughtRowsAreMerged, MovesTurnBack}
use Rattle.pb_bundles.proofs.Lists.{by_found, some_within}
use Rattle.pb_bundles.proofs.Moving.{vacated_at, vacated_length, moved_in, put_back_at}

-- ---- what is found and what is among

pub among_found : (parts : List (ℕ × Content)) (block : ℕ) → is_some (content_in parts block) ≡ is_among (keys_of parts) block
among_found [] block = refl
among_found (part ∷ parts) block = go (nat_eq block part.0) (among_found parts block) refl
  where
    go : (b : Bool) → is_some (content_in parts block) ≡ is_among (keys_of parts) block → nat_eq block part.0 ≡ b
        → is_some (cond (nat_eq block part.0) (Some part.1) (content_in parts block)) ≡ ((part.0 == block) || is_among (keys_of parts) block)
    go true rest e = ap (λ b. is_some (cond b (Some part.1) (content_in parts block))) e ∙ sym (ap (λ b. b || is_among (keys_of parts) block) (equal_swap part.0 block ∙ e))
    go false rest e = ap (λ b. is_some (cond b (Some part.1) (content_in parts block))) e ∙ rest ∙ sym (ap (λ b. b || is_among (keys_of parts) block) (equal_swap part.0 block ∙ e))

-- ---- the moves

pub moves_take_rows : MovesTakeRows
moves_take_rows list scope old new among left = record {
  taken_rows = λ block state inside. ap (λ found. rows_in found state) (taken block ∙ ap (λ b. cond b (content_at old block) None) inside);
  none_else = λ block state outside. ap (λ found. rows_in found state) (taken block ∙ ap (λ b. cond b (content_at old block) None) (not_true (scope block) outside));
  left_rows = λ block state outside. ap (λ found. rows_in found state) (stays block ∙ ap (λ b. cond b None (content_at old block)) (not_true (scope block) outside));
  none_left = λ block state inside. ap (λ found. rows_in found state) (stays block ∙ ap (λ b. cond b None (content_at old block)) inside);
}
  where
    taken : (block : ℕ) → content_in (moved list old.bundles) block ≡ cond (scope block) (content_at old block) None
    taken block = moved_in list old.bundles block ∙ ap (λ b. cond b (content_at old block) None) (among block)

    stays : (block : ℕ) → content_at new block ≡ cond (scope block) None (content_at old block)
    stays block = ap (λ bundles. get_or bundles block None) left ∙ vacated_at list old.bundles block ∙ ap (λ b. cond b None (content_at old block)) (among block)

pub taken_places_are_vacant : TakenPlacesAreVacant
taken_places_are_vacant list old new parts home left keys block there =
    let among : is_among list block ≡ true = ap (λ ks. is_among ks block) (sym keys) ∙ sym (among_found parts block) ∙ there in (
      subst (λ n. block < n) (sym (ap length left ∙ vacated_length list old.bundles)) (some_within old.bundles block (home block among)),
      ap (λ bundles. get_or bundles block None) left ∙ vacated_at list old.bundles block ∙ ap (λ b. cond b None (content_at old block)) among,
    )

pub moves_bring_rows : MovesBringRows
moves_bring_rows parts scope old new there among back = record {
  brought = λ block state inside. ap (λ found. rows_in found state) (home block
      ∙ (let some = some_found (content_in parts block) (among_found parts block ∙ among block ∙ inside) in ap (λ found. option_or found (content_at old block)) some.1 ∙ sym some.1));
  stays = λ block state outside. ap (λ found. rows_in found state) (home block
      ∙ ap (λ found. option_or found (content_at old block)) (none_found (content_in parts block) (among_found parts block ∙ among block ∙ not_true (scope block) outside)));
}
  where
    home : (block : ℕ) → content_at new block ≡ option_or (content_in parts block) (content_at old block)
    home block = ap (λ bundles. get_or bundles block None) back ∙ put_back_at parts old.bundles block (by_found (λ n. n < length old.bundles) parts there)

set_keys : (parts : List (ℕ × Content)) (test : ℕ → Bool) (content : Content) → keys_of (set_value test parts content) ≡ keys_of parts
set_keys [] test content = refl
set_keys (part ∷ parts) test content = go (test part.0) (set_keys parts test content)
  where
    go : (b : Bool) → keys_of (set_value test parts content) ≡ keys_of parts → keys_of (cond b ((part.0, content) ∷ parts) (part ∷ set_value test parts content)) ≡ part.0 ∷ keys_of parts
    go true rest = refl
    go false rest = ap (λ ks. part.0 ∷ ks) rest

set_found : (parts : List (ℕ × Content)) (block : ℕ) (content : Content) (other : ℕ) → is_some (content_in parts block) ≡ true
    → content_in (with_content parts block content) other ≡ cond (other == block) (Some content) (content_in parts other)
set_found [] block content other there = absurd (true≢false (sym there))
set_found (part ∷ parts) block content other there = go (nat_eq block part.0) refl
    (λ e. set_found parts block content other (sym (ap (λ b. is_some (cond b (Some part.1) (content_in parts block))) e) ∙ there))
  where
    apart : nat_eq block part.0 ≡ false → (b : Bool) → nat_eq other part.0 ≡ b → content_in (with_content parts block content) other ≡ cond (other == block) (Some content) (content_in parts other)
        → cond (nat_eq other part.0) (Some part.1) (content_in (with_content parts block content) other) ≡ cond (other == block) (Some content) (cond (nat_eq other part.0) (Some part.1) (content_in parts other))
    apart e true f rest =
        ap (λ b. cond b (Some part.1) (content_in (with_content parts block content) other)) f
        ∙ sym (ap (λ b. cond b (Some content) (cond (nat_eq other part.0) (Some part.1) (content_in parts other))) (ap (λ n. n == block) (equal other part.0 f) ∙ equal_swap part.0 block ∙ e)
        ∙ ap (λ b. cond b (Some part.1) (content_in parts other)) f)
    apart e false f rest =
        ap (λ b. cond b (Some part.1) (content_in (with_content parts block content) other)) f ∙ rest
        ∙ sym (ap (λ b. cond (other == block) (Some content) (cond b (Some part.1) (content_in parts other))) f)

    go : (b : Bool) → nat_eq block part.0 ≡ b → (nat_eq block part.0 ≡ false → content_in (with_content parts block content) other ≡ cond (other == block) (Some content) (content_in parts other))
        → content_in (with_content (part ∷ parts) block content) other ≡ cond (other == block) (Some content) (content_in (part ∷ parts) other)
    go true e rest =
        ap (λ b. content_in (cond b ((part.0, content) ∷ parts) (part ∷ with_content parts block content)) other) e
        ∙ ap (λ n. cond (nat_eq other n) (Some content) (content_in parts other)) (sym (equal block part.0 e))
        ∙ same (other == block) (Some content) (nat_eq other part.0) (content_in parts other) (ap (λ n. nat_eq other n) (sym (equal block part.0 e)))
      where
        same : (b : Bool) (some : Option Content) (c : Bool) (rest : Option Content) → c ≡ b → cond b some rest ≡ cond b some (cond c (Some part.1) rest)
        same true some c rest e = refl
        same false some c rest e = sym (ap (λ d. cond d (Some part.1) rest) e)
    go false e rest =
        ap (λ b. content_in (cond b ((part.0, content) ∷ parts) (part ∷ with_content parts block content)) other) e
        ∙ apart e (nat_eq other part.0) refl (rest e)

pub changes_are_apart : ChangesAreApart
changes_are_apart parts block content there = (
  set_keys parts (nat_eq block) content,
  λ other. set_found parts block content other there,
  λ home state. ap (λ found. rows_in found state) (set_found parts block content home there) ∙ spread (home == block) (content_in parts home) state,
)
  where
    spread : (b : Bool) (found : Option Content) (state : ℕ) → rows_in (cond b (Some content) found) state ≡ cond b (row_of content state) (rows_in found state)
    spread true found state = refl
    spread false found state = refl

pub away_rows_are_of_blocks : AwayRowsAreOfBlocks
away_rows_are_of_blocks parts scope among block state outside =
    ap (λ found. rows_in found state) (none_found (content_in parts block) (among_found parts block ∙ among block ∙ not_true (scope block) outside))

-- ---- stores

pub taken_rows_are_restricted : TakenRowsAreRestricted
taken_rows_are_restricted scope home left taken before incumbent weight takes = λ j. store_of (λ block state. each block state j) incumbent weight
  where
    each : (block state : ℕ) → taken block state ≡ cond (scope block) (home block state) None
    each block state = by_cases (scope block)
        (λ e. takes.taken_rows block state e ∙ sym (ap (λ b. cond b (home block state) None) e))
        (λ e. takes.none_else block state (ap not e) ∙ sym (ap (λ b. cond b (home block state) None) e))

pub brought_rows_are_merged : BroughtRowsAreMerged
brought_rows_are_merged scope home together worked incumbent other weight worked_weight brings = λ j. store_of (λ block state. each block state j) (lesser incumbent other) weight
  where
    each : (block state : ℕ) → together block state ≡ cond (scope block) (worked block state) (home block state)
    each block state = by_cases (scope block)
        (λ e. brings.brought block state e ∙ sym (ap (λ b. cond b (worked block state) (home block state)) e))
        (λ e. brings.stays block state (ap not e) ∙ sym (ap (λ b. cond b (worked block state) (home block state)) e))

pub moves_turn_back : MovesTurnBack
moves_turn_back scope home left taken together takes brings block state = by_cases (scope block)
    (λ e. brings.brought block state e ∙ takes.taken_rows block state e)
    (λ e. brings.stays block state (ap not e) ∙ takes.left_rows block state (ap not e))

-- ---- keys

best_of_same : (weight : Weight) (one other : Part) (key : Option Key) → ((state : ℕ) → one state ≡ other state) → IsBest weight other key → IsBest weight one key
best_of_same weight one other key same best = subst (λ (part : Part). IsBest weight part key) (sym (λ j state. same state j)) best

pub home_keys_are_best : HomeKeysAreBest
home_keys_are_best table store block content noted home weight rows =
    subst (λ w. IsBest w (store.rows block) (key_at table block)) weight
    (best_of_same content.weight (store.rows block) (row_of content) (key_at table block) (λ state. rows state ∙ ap (λ found. rows_in found state) home) (noted block content home))

pub keys_at_home_are_best : KeysAtHomeAreBest
keys_at_home_are_best table incumbent weight same_count noted all block = by_cases (nat_lt block (length table.bundles))
    (λ e. let one = all block (below block (length table.bundles) e) in
    home_keys_are_best table (store_of (home_rows table) incumbent weight) block one.0 noted one.1 one.2 (λ state. refl))
    (λ e. let above = not_below block (length table.bundles) e in
    subst (IsBest weight (home_rows table block)) (sym (get_or_past table.keys block None (subst (λ n. n ≤ block) (sym same_count) above)))
    (λ opened. no_row (content_at table block) opened.0 opened.1 (get_or_past table.bundles block None above) opened.2))
  where
    no_row : (found : Option Content) (state : ℕ) (row : Row) → found ≡ None → rows_in found state ≡ Some row → ⊥
    no_row found state row none is = let bad : ◌≡◌ {A = Option Row} None (Some row) = sym (ap (λ f. rows_in f state) none) ∙ is in cc

pub noted_keys_are_best : NotedKeysAreBest
noted_keys_are_best store worked scope parts old new has notes among agrees weights block = by_cases (scope block)
    (λ e. let some = some_found (content_in parts block) (among_found parts block ∙ among block ∙ e) in
    subst (λ w. IsBest w (λ state. cond (scope block) (worked.rows block state) (store.rows block state)) (get_or new block None)) (weights block some.0 some.1)
    (best_of_same some.0.weight (λ state. cond (scope block) (worked.rows block state) (store.rows block state)) (row_of some.0) (get_or new block None)
    (λ state. ap (λ b. cond b (worked.rows block state) (store.rows block state)) e ∙ sym (agrees block state e) ∙ ap (λ found. rows_in found state) some.1)
    (notes.noted block some.0 some.1)))
    (λ e. subst (IsBest store.weight (λ state. cond (scope block) (worked.rows block state) (store.rows block state))) (sym (notes.others block (none_found (content_in parts block) (among_found parts block ∙ among block ∙ e))))
    (best_of_same store.weight (λ state. cond (scope block) (worked.rows block state) (store.rows block state)) (store.rows block) (get_or old block None)
    (λ state. ap (λ b. cond b (worked.rows block state) (store.rows block state)) e) (has block)))
