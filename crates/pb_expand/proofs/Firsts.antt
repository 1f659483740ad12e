-- A row of which the g and the estimate are known.
use Rattle.std.proofs.Common.{◌≡◌, ℕ, Option, None, Some, IfSome, ap, ◌∙◌, sym, subst}
use Rattle.pb_model.specs.declared.row.Estimate.{Estimate}
use Rattle.pb_model.specs.declared.row.Row.{Row}
use Rattle.pb_model.specs.Key.{IsFirstRow}
use Rattle.pb_model.specs.Space.{Space}
use Rattle.pb_lists.specs.declared.bundle.FirstRow.{FirstRow}
use Rattle.pb_lists.specs.Bundle.{Content, row_of}
use Rattle.pb_bundles.specs.Parts.{content_in, rows_in}
use Rattle.pb_lease.specs.LeaseValue.{LeaseValue, HasWeights}
use Rattle.pb_expand.specs.Turned.{own_rows, IsFirst, IsNext, IsDue}

-- the row, written with this g and this estimate
abbrev pub row_by : FirstRow → Row → Row
row_by first row = record row { g = first.g; estimate = first.estimate }

row_is : (first : FirstRow) (row : Row) → row.g ≡ first.g → row.estimate ≡ first.estimate → row ≡ row_by first row
row_is first row g estimate = ap (λ n. record row { g = n }) g ∙ ap (λ (e : Estimate). record row { g = first.g; estimate = e }) estimate

pub first_by : (lease : LeaseValue) (first : FirstRow) (is : IsFirst lease first) → IsFirstRow lease.weight (own_rows lease) first.state (row_by first is.0)
first_by lease first is = subst (λ row. IsFirstRow lease.weight (own_rows lease) first.state row) (row_is first is.0 is.2 is.3) is.1

pub due_by : (space : Space) (lease : LeaseValue) (first : FirstRow) (is : IsDue space lease first) → IsNext space lease first.state (row_by first is.0)
due_by space lease first is = subst (λ row. IsNext space lease first.state row) (row_is first is.0 is.2 is.3) is.1

-- what the bundle of the lease's block has first is what the lease has first
pub first_of_bundle : (lease : LeaseValue) (block : ℕ) (content : Content) → block ≡ lease.block → content_in lease.parts block ≡ Some content → HasWeights lease → (found : Option FirstRow)
    → IfSome found (λ first. (row : Row) × IsFirstRow content.weight (row_of content) first.state row × (row.g ≡ first.g) × (row.estimate ≡ first.estimate)) → IfSome found (λ first. IsFirst lease first)
first_of_bundle lease block content own there weights None is = tt
first_of_bundle lease block content own there weights (Some first) is =
    let here : content_in lease.parts lease.block ≡ Some content = subst (λ b. content_in lease.parts b ≡ Some content) own there in (
      is.0,
      subst (λ weight. IsFirstRow weight (own_rows lease) first.state is.0) (weights lease.block content here)
          (subst (λ c. IsFirstRow content.weight (rows_in c) first.state is.0) (sym here) is.1),
      is.2,
      is.3,
    )
