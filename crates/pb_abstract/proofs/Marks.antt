-- The blocks of a grid are the same whatever its marks of swamp: squares and edges ask for sizes and classes alone.
use Rattle.std.proofs.Common.{◌≡◌, ℕ, Bool, ◌⊎◌, inl, inr, List}
use Rattle.pb_task.specs.declared.parts.GridParts.{GridParts}
use Rattle.pb_task.specs.declared.parts.TaskParts.TheVariants.{Grid}
use Rattle.pb_abstract.specs.declared.projection.Projection.{Projection}
use Rattle.pb_abstract.specs.declared.projection.Projection.TheVariants.{Squares, Blank, BlankAndOne, BlankAndTwo, Atoms}
use Rattle.pb_abstract.specs.Squares.{IsSquareEdge, IsLeastSide}
use Rattle.pb_abstract.specs.Projection.{IsFinest}
use Rattle.pb_abstract.specs.Graph.{IsGraphOf}
use Rattle.pb_abstract.specs.Laws.{BlocksAskForNoCosts}

-- a grid with other marks
abbrev marked : GridParts → List Bool → GridParts
marked grid marks = record grid { swamp = marks }

module _ (grid : GridParts) (marks : List Bool) where
  edge_there : (side block other : ℕ) → IsSquareEdge grid side block other → IsSquareEdge (marked grid marks) side block other
  edge_there side block other e = record { x = e.x; y = e.y; action = e.action; cell = e.cell; beside = e.beside; connected = e.connected; from = e.from; to = e.to }

  edge_back : (side block other : ℕ) → IsSquareEdge (marked grid marks) side block other → IsSquareEdge grid side block other
  edge_back side block other e = record { x = e.x; y = e.y; action = e.action; cell = e.cell; beside = e.beside; connected = e.connected; from = e.from; to = e.to }

  least_there : (wish side : ℕ) → IsLeastSide grid wish side → IsLeastSide (marked grid marks) wish side
  least_there wish side is = record { positive = is.positive; enough = is.enough; least = is.least }

  there : (side block other : ℕ) → (block ≡ other) ⊎ IsSquareEdge grid side block other → (block ≡ other) ⊎ IsSquareEdge (marked grid marks) side block other
  there side block other (inl same) = inl same
  there side block other (inr edge) = inr (edge_there side block other edge)

  back : (side block other : ℕ) → (block ≡ other) ⊎ IsSquareEdge (marked grid marks) side block other → (block ≡ other) ⊎ IsSquareEdge grid side block other
  back side block other (inl same) = inl same
  back side block other (inr edge) = inr (edge_back side block other edge)

  by_projection : (wish : ℕ) (scopes : List (List ℕ)) (projection : Projection) → IsGraphOf (Grid grid) (record { projection = projection; scopes = scopes })
      → IsFinest (Grid grid) wish projection
      → IsGraphOf (Grid (marked grid marks)) (record { projection = projection; scopes = scopes }) × IsFinest (Grid (marked grid marks)) wish projection
  by_projection wish scopes (Squares side columns) is finest = (
    record {
      fits = is.fits;
      count = is.count;
      scope = λ block other less.
          (λ h. there side block other ((is.scope block other less).0 h), λ h. (is.scope block other less).1 (back side block other h));
    },
    (least_there wish side finest.0, finest.1),
  )
  by_projection wish scopes Blank is finest = absurd is.fits
  by_projection wish scopes BlankAndOne is finest = absurd is.fits
  by_projection wish scopes BlankAndTwo is finest = absurd is.fits
  by_projection wish scopes (Atoms atoms) is finest = absurd is.fits

pub blocks_ask_for_no_costs : BlocksAskForNoCosts
blocks_ask_for_no_costs grid marks wish graph is finest = by_projection grid marks wish graph.scopes graph.projection is finest
