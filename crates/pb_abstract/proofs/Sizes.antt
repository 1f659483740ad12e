-- The graph of a task has 1 to 4,096 blocks.
use Rattle.std.proofs.Common.{◌≡◌, ℕ, ◌-◌, ◌*◌, ◌/◌, ◌<◌, ◌≤◌, Bool, true, false, length, nat_le, if◌then◌else◌, refl, sym, subst, arith}
use Rattle.std.specs.Int.{div_ceil}
use Rattle.std.proofs.Math.Pow.{pow_pos}
use Rattle.std.proofs.lemmas.Bool.{leb-true}
use Rattle.pb_task.specs.declared.parts.TaskParts.{TaskParts}
use Rattle.pb_task.specs.declared.parts.TaskParts.TheVariants.{Grid, Tiles, Strips}
use Rattle.pb_task.specs.declared.parts.GridParts.{GridParts}
use Rattle.pb_task.specs.Parts.{IsTask}
use Rattle.pb_task.specs.Grid.{IsGrid}
use Rattle.pb_task.specs.Tiles.{cell_count}
use Rattle.pb_task.proofs.Callers.{few_cells}
use Rattle.pb_abstract.specs.declared.projection.Projection.{Projection}
use Rattle.pb_abstract.specs.declared.projection.Projection.TheVariants.{Squares, Blank, BlankAndOne, BlankAndTwo, Atoms}
use Rattle.pb_abstract.specs.Squares.{square_count}
use Rattle.pb_abstract.specs.Placings.{placing_count, finest_of}
use Rattle.pb_abstract.specs.Projection.{block_count, IsFinest}
use Rattle.pb_abstract.specs.Graph.{AbstractGraph, IsGraph, IsGraphOf}
use Rattle.pb_abstract.proofs.Squaring.{fits_parts}
use Rattle.pb_abstract.proofs.Ranks.{four_cells}
use Rattle.pb_abstract.proofs.Walking.{scopes_known, own_scope}

some_product : (a b : ℕ) → 0 < a → 0 < b → 1 ≤ a * b
some_product a b p q = grind arith

some_parts : (whole side : ℕ) → 1 ≤ whole → 1 ≤ side → 0 < div_ceil whole side
some_parts whole side p q = let less : 0 / side < div_ceil whole side = fits_parts whole side 0 (omega arith) (omega arith) in omega (arith, less)

some_squares : (grid : GridParts) (side : ℕ) → IsGrid grid → 1 ≤ side → 1 ≤ square_count grid side
some_squares grid side is some =
    some_product (div_ceil grid.width side) (div_ceil grid.height side) (some_parts grid.width side is.width.0 some) (some_parts grid.height side is.height.0 some)

-- ---- boards

record IsWithin (count wish : ℕ) (projection : Projection) : Type 0 where
  some : 1 ≤ placing_count count projection
  few : placing_count count projection ≤ wish

within : (count wish : ℕ) → 4 ≤ count → count ≤ wish → IsWithin count wish (finest_of count wish)
within count wish many enough = go (nat_le (count * (count - 1) * (count - 2)) wish) (nat_le (count * (count - 1)) wish) refl refl where
  two : 1 ≤ count * (count - 1)
  two = some_product count (count - 1) (omega arith) (omega arith)

  go : (one other : Bool) → nat_le (count * (count - 1) * (count - 2)) wish ≡ one → nat_le (count * (count - 1)) wish ≡ other
      → IsWithin count wish (if one then BlankAndTwo else (if other then BlankAndOne else Blank))
  go true other e f = record { some = some_product (count * (count - 1)) (count - 2) two (omega arith); few = leb-true (count * (count - 1) * (count - 2)) wish e }
  go false true e f = record { some = two; few = leb-true (count * (count - 1)) wish f }
  go false false e f = record { some = omega arith; few = enough }

-- ---- every kind

pub record IsSized (count wish : ℕ) : Type 0 where
  pub some : 1 ≤ count
  pub few : count ≤ wish

pub sized : (parts : TaskParts) → IsTask parts → (wish : ℕ) → 16 ≤ wish → (projection : Projection) → IsFinest parts wish projection → IsSized (block_count parts projection) wish
sized (Grid grid) is wish least (Squares side columns) finest = record { some = some_squares grid side is finest.0.positive; few = finest.0.enough }
sized (Grid grid) is wish least Blank finest = absurd finest
sized (Grid grid) is wish least BlankAndOne finest = absurd finest
sized (Grid grid) is wish least BlankAndTwo finest = absurd finest
sized (Grid grid) is wish least (Atoms atoms) finest = absurd finest
sized (Tiles tiles) is wish least projection finest =
    let w : IsWithin (cell_count tiles) wish projection =
    subst (IsWithin (cell_count tiles) wish) (sym finest) (within (cell_count tiles) wish (four_cells tiles is) (let few : cell_count tiles ≤ 16 = few_cells tiles is in omega (arith, few, least))) in
    record { some = w.some; few = w.few }
sized (Strips strips) is wish least (Squares side columns) finest = absurd finest
sized (Strips strips) is wish least Blank finest = absurd finest
sized (Strips strips) is wish least BlankAndOne finest = absurd finest
sized (Strips strips) is wish least BlankAndTwo finest = absurd finest
sized (Strips strips) is wish least (Atoms atoms) finest = record { some = pow_pos (length atoms); few = finest.few }

pub graph_is : (parts : TaskParts) → IsTask parts → (wish : ℕ) → 16 ≤ wish → wish ≤ 4096 → (graph : AbstractGraph) → IsGraphOf parts graph → IsFinest parts wish graph.projection → IsGraph graph
graph_is parts is wish least greatest graph of finest =
    let s : IsSized (block_count parts graph.projection) wish = sized parts is wish least graph.projection finest in
    record {
      some = omega (arith, s.some, of.count);
      few = omega (arith, s.few, of.count);
      own = own_scope parts graph of;
      known = scopes_known parts is graph of;
    }
