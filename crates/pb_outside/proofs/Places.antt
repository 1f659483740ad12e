-- What stands under each name after a place was changed, or one was added.
use Rattle.std.proofs.Common.{◌≡◌, ℕ, ◌-◌, ◌<◌, ◌≤◌, take, Bool, true, false, Option, None, Some, List, [], ◌∷◌, ◌++◌, length, refl, sym, ap, subst, ◌∙◌, arith}
use Rattle.std.specs.Prelude.{if◌then◌else◌, slice_index_or, slice_set, slice_get, unwrap_or}
use Rattle.std.specs.List.{position, position_or_len}
use Rattle.std.specs.Option.{option_or, option_map, option_and_then}
use Rattle.std.specs.Str.{bytes_eq}
use Rattle.std.specs.Cmp.Lexicographic.{same_text}
use Rattle.std.proofs.lemmas.Cmp.{nat_list_eq_equiv}
use Rattle.std.proofs.lemmas.Grind.{common_steps}
use Rattle.std.proofs.lemmas.Bool.{false_from_ne_true}
use Rattle.std.proofs.lemmas.Bool.Decides.{nat_tests}
use Rattle.std.proofs.lemmas.Option.{cond_some, slice_get-get_or, slice_get_past}
use Rattle.std.proofs.lemmas.List.Folds.{find-set, find_past, find_at, find-append}
use Rattle.std.proofs.lemmas.List.Quantifiers.{position-Some}
use Rattle.pb_outside.specs.Outside.{AppendsPartTo}
use Rattle.pb_outside.specs.Memory.{PlaceView, is_named, place_of, place_or_new, file_in, grown, most_kept, KeepsOtherPlaces}
use Rattle.pb_outside.proofs.Kept.{first_part}

-- a place was changed that stood under the name
pub record Changed (old new : List PlaceView) (name : List ℕ) (before after : PlaceView) : Type 0 where
  pub was : place_of old name ≡ Some before
  pub here : place_of new name ≡ Some after
  pub others : KeepsOtherPlaces old new name

-- the first place that passes
first_place : (p : PlaceView → Bool) (xs : List PlaceView) (i : ℕ) → position p xs ≡ Some i → position_or_len p xs ≡ i
first_place p xs i at = (cond_some _ _ _ at).1

pub found : (old : List PlaceView) (name : List ℕ) (i : ℕ) (d : PlaceView) → position (is_named name) old ≡ Some i → place_of old name ≡ Some (slice_index_or old i d)
found old name i d at =
    let within : i < length old = (position-Some (is_named name) old i d at).0 in
    find_at (is_named name) old ∙ ap (slice_get old) (first_place (is_named name) old i at) ∙ slice_get-get_or old i d within

pub changed : (old : List PlaceView) (name : List ℕ) (i : ℕ) (d now : PlaceView) → position (is_named name) old ≡ Some i → now.name ≡ (slice_index_or old i d).name → Changed old (slice_set old i now) name (slice_index_or old i d) now
changed old name i d now at named =
    let facts = position-Some (is_named name) old i d at in
    let own : (slice_index_or old i d).name ≡ name = same_text _ name (sym facts.1) in
    record {
      was = found old name i d at;
      here = find-set (is_named name) old i now (sym (first_place (is_named name) old i at)) facts.0 (ap (λ n. bytes_eq n name) (named ∙ own) ∙ nat_list_eq_equiv.refl name);
      others = λ other ne.
          let apart : (n : List ℕ) → n ≡ name → bytes_eq n other ≡ false = λ n e. false_from_ne_true (bytes_eq n other) (λ same. ne (sym (same_text n other (sym same)) ∙ e)) in
          find_past (is_named other) old i now d (apart _ own) (apart now.name (named ∙ own));
    }

pub absent : (old : List PlaceView) (name : List ℕ) → position (is_named name) old ≡ None → place_of old name ≡ None
absent old name none = find_at (is_named name) old ∙ slice_get_past old (position_or_len (is_named name) old) (grind (arith, nat_tests, common_steps))

-- a place was added for a name that had none
pub record Added (old new : List PlaceView) (name : List ℕ) (after : PlaceView) : Type 0 where
  pub was : place_of old name ≡ None
  pub here : place_of new name ≡ Some after
  pub others : KeepsOtherPlaces old new name

or_none : (o : Option PlaceView) → option_or o None ≡ o
or_none None = refl
or_none (Some x) = refl

pub added : (old : List PlaceView) (name : List ℕ) (now : PlaceView) → position (is_named name) old ≡ None → now.name ≡ name → Added old (old ++ now ∷ []) name now
added old name now none named = record {
  was = absent old name none;
  here = pushed name (absent old name none) (ap (λ n. bytes_eq n name) named ∙ nat_list_eq_equiv.refl name);
  others = λ other ne. past other (false_from_ne_true (bytes_eq now.name other) (λ same. ne (sym (same_text now.name other (sym same)) ∙ named)));
} where
  pushed : (q : List ℕ) → place_of old q ≡ None → is_named q now ≡ true → place_of (old ++ now ∷ []) q ≡ Some now
  pushed q was passes = simp (find-append, was, passes)

  past : (q : List ℕ) → is_named q now ≡ false → place_of (old ++ now ∷ []) q ≡ place_of old q
  past q fails = simp (find-append, fails) (or_none (place_of old q))

-- a change by f, of the place that stood under the name or of a new one
pub put_there : (f : PlaceView → PlaceView) → ((p : PlaceView) → (f p).name ≡ p.name) → (old : List PlaceView) (name : List ℕ) (i : ℕ) (was now : PlaceView) → position (is_named name) old ≡ Some i → was ≡ slice_index_or old i was → now ≡ f was → (place_of (slice_set old i now) name ≡ Some (f (place_or_new old name))) × KeepsOtherPlaces old (slice_set old i now) name
put_there f keeps old name i was now at is after =
    let change = changed old name i was now at (ap (λ (p : PlaceView). p.name) after ∙ keeps was ∙ ap (λ (p : PlaceView). p.name) is) in
    (change.here ∙ ap Some (after ∙ ap f (is ∙ sym (ap (λ o. unwrap_or o (record { name = name; bytes = None; room = None })) change.was))), change.others)

pub put_new : (f : PlaceView → PlaceView) → ((p : PlaceView) → (f p).name ≡ p.name) → (old : List PlaceView) (name : List ℕ) (now : PlaceView) → position (is_named name) old ≡ None → now ≡ f (record { name = name; bytes = None; room = None }) → (place_of (old ++ now ∷ []) name ≡ Some (f (place_or_new old name))) × KeepsOtherPlaces old (old ++ now ∷ []) name
put_new f keeps old name now none after =
    let addition = added old name now none (ap (λ (p : PlaceView). p.name) after ∙ keeps _) in
    (addition.here ∙ ap Some (after ∙ ap f (sym (ap (λ o. unwrap_or o (record { name = name; bytes = None; room = None })) addition.was))), addition.others)

-- what stays under one name and in the places of all others stays everywhere
pub stays : {X : Type 0} (g : PlaceView → Option X) (old new : List PlaceView) (name : List ℕ) → option_and_then g (place_of new name) ≡ option_and_then g (place_of old name) → KeepsOtherPlaces old new name → (q : List ℕ) → option_and_then g (place_of new q) ≡ option_and_then g (place_of old q)
stays {X} g old new name here others q = elim (bytes_eq q name) as (λ t. bytes_eq q name ≡ t → option_and_then g (place_of new q) ≡ option_and_then g (place_of old q)) [
  | true ↦ λ e. let P : List ℕ → Type 0 = λ n. option_and_then g (place_of new n) ≡ option_and_then g (place_of old n) in subst P (sym (same_text q name (sym e))) here
  | false ↦ λ e. ap (option_and_then g) (others q (λ same. differ (bytes_eq q name) (ap (λ n. bytes_eq n name) same ∙ nat_list_eq_equiv.refl name) e))
] refl where
  differ : (b : Bool) → b ≡ true → b ≡ false → ⊥
  differ b is isnt = cc

pub mapped_same : {X : Type 0} (g : PlaceView → Option X) (f : PlaceView → PlaceView) → ((p : PlaceView) → g (f p) ≡ g p) → (o : Option PlaceView) → option_and_then g (option_map f o) ≡ option_and_then g o
mapped_same g f same None = refl
mapped_same g f same (Some p) = same p

-- a new place has neither a file nor room
pub or_new_room : (o : Option PlaceView) (name : List ℕ) → (unwrap_or o (record { name = name; bytes = None; room = None })).room ≡ option_and_then (λ (p : PlaceView). p.room) o
or_new_room None name = refl
or_new_room (Some p) name = refl

pub or_new_bytes : (o : Option PlaceView) (name : List ℕ) → (unwrap_or o (record { name = name; bytes = None; room = None })).bytes ≡ option_and_then (λ (p : PlaceView). p.bytes) o
or_new_bytes None name = refl
or_new_bytes (Some p) name = refl

-- by a test
pub some_if : {A : Type 0} (b : Bool) (x y : A) → Some (if b then x else y) ≡ (if b then Some x else Some y)
some_if true x y = refl
some_if false x y = refl

-- the same of lists that are equal to these
pub stays_along : {X : Type 0} (g : PlaceView → Option X) (start old new end : List PlaceView) (name : List ℕ) → start ≡ old → end ≡ new → option_and_then g (place_of new name) ≡ option_and_then g (place_of old name) → KeepsOtherPlaces old new name → (q : List ℕ) → option_and_then g (place_of end q) ≡ option_and_then g (place_of start q)
stays_along g start old new end name from to here others q =
    ap (λ places. option_and_then g (place_of places q)) to ∙ stays g old new name here others q ∙ sym (ap (λ places. option_and_then g (place_of places q)) from)

-- what an append keeps is a first part of the piece
file_part : (old new : Option (List ℕ)) (room : ℕ) (kept : Option ℕ) (piece : List ℕ) → new ≡ option_map (λ bytes. bytes ++ take (most_kept kept (room - length bytes)) piece) old
    → ((bytes : List ℕ) → old ≡ Some bytes → (n : ℕ) × (n ≤ length piece) × (new ≡ Some (bytes ++ take n piece))) × (old ≡ None → new ≡ None)
file_part None new room kept piece e = (λ bytes is. absurd (none_some bytes is), λ is. e) where
  none_some : (bytes : List ℕ) → None ≡ Some bytes → ⊥
  none_some bytes is = cc
file_part (Some bs) new room kept piece e = (λ bytes is. there bytes is, λ is. absurd (some_none is)) where
  part : (n : ℕ) × (n ≤ length piece) × (take (most_kept kept (room - length bs)) piece ≡ take n piece)
  part = first_part (most_kept kept (room - length bs)) piece

  there : (bytes : List ℕ) → Some bs ≡ Some bytes → (n : ℕ) × (n ≤ length piece) × (new ≡ Some (bytes ++ take n piece))
  there bytes is = let same : bs ≡ bytes = cc in (part.0, part.1, e ∙ ap (λ xs. Some (bs ++ xs)) part.2 ∙ ap (λ xs. Some (xs ++ take part.0 piece)) same)

  some_none : Some bs ≡ None → ⊥
  some_none is = cc

place_part : (old new : Option PlaceView) (kept : Option ℕ) (piece : List ℕ) → new ≡ option_map (λ place. grown place kept piece) old
    → ((bytes : List ℕ) → option_and_then (λ (p : PlaceView). p.bytes) old ≡ Some bytes → (n : ℕ) × (n ≤ length piece) × (option_and_then (λ (p : PlaceView). p.bytes) new ≡ Some (bytes ++ take n piece)))
    × (option_and_then (λ (p : PlaceView). p.bytes) old ≡ None → option_and_then (λ (p : PlaceView). p.bytes) new ≡ None)
place_part None new kept piece e = file_part None _ 0 kept piece (ap (option_and_then (λ (p : PlaceView). p.bytes)) e)
place_part (Some p) new kept piece e = file_part p.bytes _ (unwrap_or p.room 0) kept piece (ap (option_and_then (λ (p : PlaceView). p.bytes)) e)

pub appended_part : (start old new end : List PlaceView) (name : List ℕ) (kept : Option ℕ) (piece : List ℕ) → start ≡ old → end ≡ new → place_of new name ≡ option_map (λ place. grown place kept piece) (place_of old name) → AppendsPartTo (file_in start) (file_in end) name piece
appended_part start old new end name kept piece from to here =
    let step : place_of end name ≡ option_map (λ place. grown place kept piece) (place_of start name) =
    ap (λ places. place_of places name) to ∙ here ∙ sym (ap (λ places. option_map (λ place. grown place kept piece) (place_of places name)) from) in
    let facts = place_part (place_of start name) (place_of end name) kept piece step in
    record { there = facts.0; absent = facts.1 }
