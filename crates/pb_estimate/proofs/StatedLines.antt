-- The lines of stated tables within a certificate.
use Rattle.std.proofs.Common.{◌≡◌, ℕ, zero, suc, ◌+◌, ◌-◌, ◌≤◌, List, ◌∷◌, Some, slice_get, codes, sym, ap, ◌∙◌, arith}
use Rattle.std.specs.Fmt.{decimal}
use Rattle.pb_model.specs.Texts.{spaced}
use Rattle.pb_task.specs.declared.kind.Kind.{Kind}
use Rattle.pb_task.specs.declared.grounding.Grounding.{Grounding}
use Rattle.pb_task.specs.declared.grounding.Grounding.TheVariants.{All, Reachable}
use Rattle.pb_task.specs.Groundings.{grounding_of}
use Rattle.pb_task.specs.Kinds.{kind_of}
use Rattle.pb_task.specs.Widths.{width_of}
use Rattle.pb_tables.specs.Tables.{TablesValue}
use Rattle.pb_table_lines.specs.Lines.{listings, listing_at, line_number, tables_lines}
use Rattle.pb_table_lines.specs.Numbered.{line_of_listing}
use Rattle.pb_table_lines.proofs.Callers.{lines_have_their_numbers}
use Rattle.pb_estimate.specs.Choices.{Tables}
use Rattle.pb_estimate.specs.declared.spelling.Version.TheVariants.{Four}
use Rattle.pb_estimate.specs.Spelling.{head_of, version_of, version_line, kind_line, grounding_line}
use Rattle.pb_estimate.specs.Laws.{StatedLinesHaveTheirNumbers}

-- behind four lines
behind_four : (a b c d : List ℕ) (rest : List (List ℕ)) (number : ℕ) → 1 ≤ number
    → slice_get (a ∷ b ∷ c ∷ d ∷ rest) (4 + number - 1) ≡ slice_get rest (number - 1)
behind_four a b c d rest zero some = absurd (omega (arith, some))
behind_four a b c d rest (suc n) some =
    let far : 4 + suc n - 1 ≡ suc (suc (suc (suc n))) = omega arith in
    let near : suc n - 1 ≡ n = omega arith in
    ap (λ k. slice_get (a ∷ b ∷ c ∷ d ∷ rest) k) far ∙ ap (λ k. slice_get rest k) (sym near)

-- in the first lines of a certificate of version 4
in_head : (kind : Kind) (grounding : Grounding) (width : ℕ) (tables : TablesValue) (number : ℕ)
    → 1 ≤ number
    → slice_get (head_of (record {
      kind = kind;
      version = Four;
      width = width;
      stated = record { grounding = grounding; choice = Tables tables };
    })) (4 + number - 1)
    ≡ slice_get (tables_lines width tables) (number - 1)
in_head kind grounding width tables number some =
    behind_four (version_line Four) (kind_line kind) (spaced (codes "width") (decimal width))
    (grounding_line grounding) (tables_lines width tables) number some

pub stated_lines_have_their_numbers : StatedLinesHaveTheirNumbers
stated_lines_have_their_numbers parts tables list line known within =
    go (grounding_of parts)
  where
    go : (grounding : Grounding)
        → slice_get (head_of (record {
          kind = kind_of parts;
          version = version_of grounding (Tables tables);
          width = width_of parts;
          stated = record { grounding = grounding; choice = Tables tables };
        })) (4 + line_number tables list line - 1)
        ≡ Some (line_of_listing (width_of parts) (listing_at (listings tables) list) line)
    go All =
        in_head (kind_of parts) All (width_of parts) tables (line_number tables list line) (omega arith)
        ∙ lines_have_their_numbers (width_of parts) tables list line known within
    go Reachable =
        in_head (kind_of parts) Reachable (width_of parts) tables (line_number tables list line)
        (omega arith)
        ∙ lines_have_their_numbers (width_of parts) tables list line known within
