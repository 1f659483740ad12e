-- How a certificate of a task is spelled by a choice that suits it: there is such a spelling.
use Rattle.std.proofs.Common.{◌≡◌, ℕ, ◌-◌, ◌^◌, ◌<◌, ◌≤◌, true, nat_lt, IfSome, refl, arith}
use Rattle.std.proofs.lemmas.Bool.Decides.{nat_tests}
use Rattle.std.proofs.Math.Nat.{one-le-pow}
use Rattle.pb_packed.specs.Sizes.{most_digits}
use Rattle.pb_task.specs.declared.kind.Kind.TheVariants as kinds
use Rattle.pb_task.specs.declared.grounding.Grounding.{Grounding}
use Rattle.pb_task.specs.declared.grounding.Grounding.TheVariants.{All, Reachable}
use Rattle.pb_task.specs.declared.parts.StripsParts.{StripsParts}
use Rattle.pb_task.specs.declared.parts.TaskParts.{TaskParts}
use Rattle.pb_task.specs.declared.parts.TaskParts.TheVariants.{Grid, Tiles, Strips}
use Rattle.pb_task.specs.Kinds.{kind_of}
use Rattle.pb_task.specs.Groundings.{grounding_of}
use Rattle.pb_task.specs.Parts.{IsTask}
use Rattle.pb_task.specs.Widths.{digits_for, width_of}
use Rattle.pb_task.proofs.Callers.{states_fit_their_width}
use Rattle.pb_tables.specs.Tables.{AreTables}
use Rattle.pb_table_lines.proofs.Callers.{suiting_tables_can_be_stated}
use Rattle.pb_estimate.specs.Choices.{Choice, Plain, Pattern, Tables, tables_of}
use Rattle.pb_estimate.specs.Estimates.{suits}
use Rattle.pb_estimate.specs.Spelling.{CanBeStated, StatesChoice, StatesGrounding, IsVersionFor, IsWidthOf, IsSpelling, version_of, spelling_of}
use Rattle.pb_estimate.proofs.Estimates.{is_within}

-- a state has a bit for each atom, so the digits do
bits_fit : (strips : StripsParts) → IsTask (Strips strips) → 2 ^ strips.atoms ≤ 16 ^ digits_for strips.atoms
bits_fit strips is =
    let some : 1 ≤ 2 ^ strips.atoms = one-le-pow strips.atoms 2 (omega arith) in
    let below : 2 ^ strips.atoms - 1 < 2 ^ strips.atoms = omega (arith, some) in
    let small : nat_lt (2 ^ strips.atoms - 1) (2 ^ strips.atoms) ≡ true = grind (arith, nat_tests, below) in
    let fits : 2 ^ strips.atoms - 1 < 16 ^ digits_for strips.atoms = (states_fit_their_width (Strips strips) is).2 (2 ^ strips.atoms - 1) small in
    omega (arith, some, fits)

can_be_stated : (parts : TaskParts) (choice : Choice) → IsTask parts → IfSome (tables_of choice) AreTables → suits parts choice ≡ true → CanBeStated (width_of parts) choice
can_be_stated parts Plain is lawful fits = tt
can_be_stated parts (Pattern number) is lawful fits = let most : number ≤ 12 = is_within parts number fits in omega (arith, most)
can_be_stated (Grid grid) (Tables tables) is lawful fits = cc
can_be_stated (Tiles tiles) (Tables tables) is lawful fits = cc
can_be_stated (Strips strips) (Tables tables) is lawful fits =
    suiting_tables_can_be_stated strips tables (digits_for strips.atoms) lawful fits (bits_fit strips is)

width_is : (grounding : Grounding) (choice : Choice) (width : ℕ) → 1 ≤ width → width ≤ most_digits → IsWidthOf (version_of grounding choice) width
width_is Reachable choice width some most = (some, most)
width_is All Plain width some most = (some, most)
width_is All (Pattern number) width some most = (some, most)
width_is All (Tables tables) width some most = (some, most)

states_choice : (grounding : Grounding) (choice : Choice) (width : ℕ) → CanBeStated width choice → StatesChoice (version_of grounding choice) width choice
states_choice Reachable choice width can = can
states_choice All Plain width can = tt
states_choice All (Pattern number) width can = can
states_choice All (Tables tables) width can = can

states_grounding : (grounding : Grounding) (choice : Choice) → StatesGrounding (version_of grounding choice) grounding
states_grounding Reachable choice = tt
states_grounding All Plain = refl
states_grounding All (Pattern number) = refl
states_grounding All (Tables tables) = tt

for_strips : (grounding : Grounding) (choice : Choice) → IsVersionFor (version_of grounding choice) kinds.Strips
for_strips Reachable choice = refl
for_strips All Plain = tt
for_strips All (Pattern number) = tt
for_strips All (Tables tables) = refl

for_kind : (parts : TaskParts) (choice : Choice) → suits parts choice ≡ true → IsVersionFor (version_of (grounding_of parts) choice) (kind_of parts)
for_kind (Strips strips) choice fits = for_strips strips.grounding choice
for_kind (Grid grid) Plain fits = tt
for_kind (Grid grid) (Pattern number) fits = tt
for_kind (Grid grid) (Tables tables) fits = cc
for_kind (Tiles tiles) Plain fits = tt
for_kind (Tiles tiles) (Pattern number) fits = tt
for_kind (Tiles tiles) (Tables tables) fits = cc

pub is_spelling : (parts : TaskParts) (choice : Choice) → IsTask parts → IfSome (tables_of choice) AreTables → suits parts choice ≡ true → IsSpelling (spelling_of parts choice)
is_spelling parts choice is lawful fits =
    let widths = states_fit_their_width parts is in
    record {
      width = width_is (grounding_of parts) choice (width_of parts) widths.0 widths.1;
      choice = states_choice (grounding_of parts) choice (width_of parts) (can_be_stated parts choice is lawful fits);
      grounding = states_grounding (grounding_of parts) choice;
      kind = for_kind parts choice fits;
    }
