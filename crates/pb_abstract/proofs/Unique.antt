-- A task has one graph at most for a wish.
use Rattle.std.proofs.Common.{◌≡◌, ℕ, ◌<◌, ◌≤◌, List, [], length, sym, ap, subst, ◌∙◌, arith, ◌⊎◌, inl, inr}
use Rattle.std.proofs.lemmas.Bool.{cases_lt, cases_order}
use Rattle.std.proofs.lemmas.List.{get_or_past}
use Rattle.pb_task.specs.declared.parts.TaskParts.{TaskParts}
use Rattle.pb_task.specs.declared.parts.TaskParts.TheVariants.{Grid, Tiles, Strips}
use Rattle.pb_task.specs.declared.parts.GridParts.{GridParts}
use Rattle.pb_abstract.specs.declared.projection.Projection.{Projection}
use Rattle.pb_abstract.specs.declared.projection.Projection.TheVariants.{Squares, Blank, BlankAndOne, BlankAndTwo, Atoms}
use Rattle.pb_abstract.specs.Squares.{column_count, square_count, IsLeastSide}
use Rattle.pb_abstract.specs.Projection.{block_count, IsEdge, IsFinest}
use Rattle.pb_abstract.specs.Graph.{has, blocks_of}
use Rattle.pb_abstract.specs.Laws.{GraphsAreUnique}
use Rattle.pb_abstract.proofs.Members.{same_tests}
use Rattle.pb_abstract.proofs.Ordering.{tracked_are_unique}

one_least : (grid : GridParts) (wish side other : ℕ) → IsLeastSide grid wish side → IsLeastSide grid wish other → side ≡ other
one_least grid wish side other a b = go (cases_order side other) where
  go : (side ≡ other) ⊎ ((side < other) ⊎ (other < side)) → side ≡ other
  go (inl same) = same
  go (inr (inl less)) = let more : wish < square_count grid side = b.least side a.positive less in absurd (omega (arith, more, a.enough))
  go (inr (inr more)) = let less : wish < square_count grid other = a.least other b.positive more in absurd (omega (arith, less, b.enough))

projections_are_unique : (parts : TaskParts) (wish : ℕ) (one other : Projection) → IsFinest parts wish one → IsFinest parts wish other → one ≡ other
projections_are_unique (Grid grid) wish (Squares side columns) (Squares other others) a b =
    let same : side ≡ other = one_least grid wish side other a.0 b.0 in
    ap (λ n. Squares n columns) same ∙ ap (λ n. Squares other n) (a.1 ∙ ap (column_count grid) same ∙ sym b.1)
projections_are_unique (Grid grid) wish (Squares side columns) Blank a b = absurd b
projections_are_unique (Grid grid) wish (Squares side columns) BlankAndOne a b = absurd b
projections_are_unique (Grid grid) wish (Squares side columns) BlankAndTwo a b = absurd b
projections_are_unique (Grid grid) wish (Squares side columns) (Atoms atoms) a b = absurd b
projections_are_unique (Grid grid) wish Blank other a b = absurd a
projections_are_unique (Grid grid) wish BlankAndOne other a b = absurd a
projections_are_unique (Grid grid) wish BlankAndTwo other a b = absurd a
projections_are_unique (Grid grid) wish (Atoms atoms) other a b = absurd a
projections_are_unique (Tiles tiles) wish one other a b = a ∙ sym b
projections_are_unique (Strips strips) wish (Squares side columns) other a b = absurd a
projections_are_unique (Strips strips) wish Blank other a b = absurd a
projections_are_unique (Strips strips) wish BlankAndOne other a b = absurd a
projections_are_unique (Strips strips) wish BlankAndTwo other a b = absurd a
projections_are_unique (Strips strips) wish (Atoms atoms) (Squares side columns) a b = absurd b
projections_are_unique (Strips strips) wish (Atoms atoms) Blank a b = absurd b
projections_are_unique (Strips strips) wish (Atoms atoms) BlankAndOne a b = absurd b
projections_are_unique (Strips strips) wish (Atoms atoms) BlankAndTwo a b = absurd b
projections_are_unique (Strips strips) wish (Atoms atoms) (Atoms others) a b = ap (λ xs. Atoms xs) (tracked_are_unique strips wish atoms others a b)

pub graphs_are_unique : GraphsAreUnique
graphs_are_unique parts wish one other of of' finest finest' = (same, counts, scopes) where
  same : one.projection ≡ other.projection
  same = projections_are_unique parts wish one.projection other.projection finest finest'

  counts : length one.scopes ≡ length other.scopes
  counts = of.count ∙ ap (block_count parts) same ∙ sym of'.count

  scopes : (block c : ℕ) → (blocks_of one).scope block c ≡ (blocks_of other).scope block c
  scopes block c = go (cases_lt block (length one.scopes)) where
    go : (block < length one.scopes) ⊎ (length one.scopes ≤ block) → (blocks_of one).scope block c ≡ (blocks_of other).scope block c
    go (inl less) =
        let a = of.scope block c (subst (λ n. block < n) of.count less) in
        let b = of'.scope block c (subst (λ n. block < n) (counts ∙ of'.count) less) in
        same_tests ((blocks_of one).scope block c) ((blocks_of other).scope block c)
        (λ e. b.1 (subst (λ p. (block ≡ c) ⊎ IsEdge parts p block c) same (a.0 e))) (λ e. a.1 (subst (λ p. (block ≡ c) ⊎ IsEdge parts p block c) (sym same) (b.0 e)))
    go (inr past) =
        ap (λ (list : List ℕ). has list c) (get_or_past one.scopes block [] past)
        ∙ sym (ap (λ (list : List ℕ). has list c) (get_or_past other.scopes block [] (subst (λ n. n ≤ block) counts past)))
