-- What is known of lists that are written as they should be.
use Rattle.std.proofs.Common.{◌≡◌, ℕ, suc, ◌+◌, ◌-◌, ◌^◌, ◌<◌, Bool, true, false, not, IsTrue, ◌||◌, ◌==◌, nat_lt, List, All, length, Option, None, Some, slice_index, refl, subst, ◌∙◌, arith, if◌then◌else◌, inl, inr}
use Rattle.std.proofs.lemmas.Bool.{and_parts, or_cases, eqb-true, ltb-true, not-false}
use Rattle.std.proofs.lemmas.List.{get_or_default}
use Rattle.pb_task.specs.declared.parts.StripsParts.{StripsParts}
use Rattle.pb_task.specs.Strips.{is_atom_set}
use Rattle.pb_tables.specs.Below.{first_below, some_if}
use Rattle.pb_tables.specs.Images.{both}
use Rattle.pb_tables.specs.Tables.{TablesValue, table_at, trap_at}
use Rattle.pb_tables.specs.Order.{IsWritten, AreWritten, AreTrapsWritten}
use Rattle.pb_tables.specs.Suits.{line_of, is_ordered, order_fault, first_order_fault, suit}
use Rattle.pb_tables.proofs.AtomSets.{both_small}
use Rattle.pb_tables.proofs.Searches.{else_none, first_none, if_none}
use Rattle.pb_tables.proofs.Admissible.{line_none, faultless}

tested : (test : Bool) (found : Option ℕ) → (if test then found else Some 0) ≡ None → (test ≡ true) × (found ≡ None)
tested true found e = (refl, e)
tested false found e = absurd (let f : ◌≡◌ {A = Option ℕ} (Some 0) None = e in cc)

above : (listed : List ℕ) (place : ℕ) → (suc place == 0 || nat_lt (slice_index listed (suc place - 1)) (slice_index listed (suc place))) ≡ true
    → slice_index listed place < slice_index listed (suc place)
above listed place e = elim (or_cases (suc place == 0) (nat_lt (slice_index listed (suc place - 1)) (slice_index listed (suc place))) e) [
  | inl none ↦ let zero_is : suc place ≡ 0 = eqb-true (suc place) 0 none in absurd (omega (arith, zero_is))
  | inr rises ↦
      let before : suc place - 1 ≡ place = omega arith in
      subst (λ k. slice_index listed k < slice_index listed (suc place)) before (ltb-true (slice_index listed (suc place - 1)) (slice_index listed (suc place)) rises)
]

pub written : (count tracked : ℕ) (listed : List ℕ) → order_fault count tracked listed ≡ None → IsWritten count tracked listed
written count tracked listed e =
    let find = λ (place : ℕ). some_if (not (is_ordered count tracked listed place)) (suc place) in
    let parts : (is_atom_set count tracked ≡ true) × (first_below (length listed) find ≡ None) = tested (is_atom_set count tracked) (first_below (length listed) find) e in
    let ordered : (place : ℕ) → place < length listed → is_ordered count tracked listed place ≡ true =
    λ place less. not-false (is_ordered count tracked listed place) (if_none (not (is_ordered count tracked listed place)) (suc place) (first_none (length listed) find parts.1 place less)) in
    record {
      small = ltb-true tracked (2 ^ count) parts.0;
      tracked_alone = λ place less. eqb-true (both count (slice_index listed place) tracked) (slice_index listed place)
          (and_parts (both count (slice_index listed place) tracked == slice_index listed place) _ (ordered place less)).0;
      rising = λ place less. above listed place
          (and_parts (both count (slice_index listed (suc place)) tracked == slice_index listed (suc place)) _ (ordered (suc place) less)).1;
    }

pub tables_written : (strips : StripsParts) (tables : TablesValue) → first_order_fault strips tables ≡ None
    → AreWritten strips.atoms tables.tables × AreTrapsWritten strips.atoms tables.traps
unfolding first_order_fault
tables_written strips tables e =
    let parts = else_none
    (first_below (length tables.tables) (λ list. line_of list (order_fault strips.atoms (table_at tables.tables list).tracked (table_at tables.tables list).listed)))
    (first_below (length tables.traps) (λ list. line_of (length tables.tables + list) (order_fault strips.atoms (trap_at tables.traps list).tracked (trap_at tables.traps list).listed))) e in (
      record {
        each = λ number less.
            let table = table_at tables.tables number in
            written strips.atoms table.tracked table.listed (line_none number (order_fault strips.atoms table.tracked table.listed)
            (first_none (length tables.tables) (λ list. line_of list (order_fault strips.atoms (table_at tables.tables list).tracked (table_at tables.tables list).listed)) parts.0 number less));
      },
      record {
        each = λ number less.
            let trap = trap_at tables.traps number in
            written strips.atoms trap.tracked trap.listed (line_none (length tables.tables + number) (order_fault strips.atoms trap.tracked trap.listed)
            (first_none (length tables.traps) (λ list. line_of (length tables.tables + list) (order_fault strips.atoms (trap_at tables.traps list).tracked (trap_at tables.traps list).listed)) parts.1 number less));
      },
    )

-- the images are sets of atoms of the task
pub images_small : (count tracked : ℕ) (listed : List ℕ) → IsWritten count tracked listed → All (λ image. image < 2 ^ count) listed
images_small count tracked listed is = λ place d less.
    subst (λ k. k < 2 ^ count) (is.tracked_alone place less ∙ get_or_default listed place 0 d less) (both_small count (slice_index listed place) tracked)

-- the lists of tables and traps that suit a task are written as they should be
pub suiting_written : (strips : StripsParts) (tables : TablesValue) → IsTrue (suit strips tables)
    → AreWritten strips.atoms tables.tables × AreTrapsWritten strips.atoms tables.traps
suiting_written strips tables suits = tables_written strips tables (faultless strips tables suits).order
