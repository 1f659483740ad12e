-- The rows at home where a search begins.
use Rattle.std.proofs.Common.{◌≡◌, ℕ, ◌<◌, ◌≤◌, cond, ◌&&◌, ◌==◌, nat_lt, [], Some, None, get_or, replicate, refl, sym, ap, subst, ◌∙◌}
use Rattle.std.proofs.lemmas.List.{get_or-replicate, length-replicate}
use Rattle.pb_model.specs.declared.row.Row.{Row}
use Rattle.pb_model.specs.Space.{Space}
use Rattle.pb_model.specs.Guide.{Guide}
use Rattle.pb_model.specs.Weight.{Weight}
use Rattle.pb_model.specs.Work.{opening_store, offered_row}
use Rattle.pb_model.proofs.Callers.{by_cases, below, not_below}
use Rattle.pb_lists.specs.Bundle.{Content}
use Rattle.pb_bundles.specs.Parts.{rows_in}
use Rattle.pb_bundles.specs.Homes.{content_at, home_rows, with_start}
use Rattle.pb_bundles.specs.Laws.{OpeningRowsAreHome}
use Rattle.std.proofs.lemmas.List.{get_or_past}
use Rattle.pb_bundles.proofs.Lists.{set_at}

abbrev empty : Weight → Content
empty weight = record { entries = []; weight = weight }

abbrev started : Space → Guide → Weight → Content
started space guide weight = with_start (empty weight) space.start (guide.estimate space.start)

abbrev start_row : Space → Guide → Row
start_row space guide = offered_row 0 (guide.estimate space.start) None 0 None

pub opening_rows_are_home : OpeningRowsAreHome
opening_rows_are_home space guide weight count table there is = (rows, contents)
  where
    found : (home : ℕ) → content_at table home ≡ cond (home == guide.home space.start) (Some (started space guide weight)) (get_or (replicate count (Some (empty weight))) home None)
    found home = ap (λ bundles. get_or bundles home None) is
        ∙ set_at (replicate count (Some (empty weight))) (guide.home space.start) home
        (Some (started space guide weight)) None (subst (λ n. guide.home space.start < n) (sym (length-replicate count (Some (empty weight)))) there)

    none_elsewhere : (home state : ℕ) → rows_in (get_or (replicate count (Some (empty weight))) home None) state ≡ None
    none_elsewhere home state = by_cases (nat_lt home count)
        (λ e. ap (λ content. rows_in content state) (get_or-replicate count home (Some (empty weight)) None (below home count e)))
        (λ e. ap (λ content. rows_in content state) (get_or_past (replicate count (Some (empty weight))) home None
        (subst (λ n. n ≤ home) (sym (length-replicate count (Some (empty weight)))) (not_below home count e))))

    rows : (home state : ℕ) → home_rows table home state ≡ (opening_store space guide weight).rows home state
    rows home state = by_cases (home == guide.home space.start)
        (λ e. ap (λ content. rows_in content state) (found home) ∙ ap (λ b. rows_in (cond b (Some (started space guide weight)) (get_or (replicate count (Some (empty weight))) home None)) state) e
        ∙ sym (ap (λ b. cond (b && (state == space.start)) (Some (start_row space guide)) None) e))
        (λ e. ap (λ content. rows_in content state) (found home) ∙ ap (λ b. rows_in (cond b (Some (started space guide weight)) (get_or (replicate count (Some (empty weight))) home None)) state) e
        ∙ none_elsewhere home state ∙ sym (ap (λ b. cond (b && (state == space.start)) (Some (start_row space guide)) None) e))

    contents : (block : ℕ) → block < count → (content : Content) × (content_at table block ≡ Some content) × (content.weight ≡ weight)
    contents block within = by_cases (block == guide.home space.start)
        (λ e. (started space guide weight, found block ∙ ap (λ b. cond b (Some (started space guide weight)) (get_or (replicate count (Some (empty weight))) block None)) e, refl))
        (λ e. (
          empty weight,
          found block ∙ ap (λ b. cond b (Some (started space guide weight)) (get_or (replicate count (Some (empty weight))) block None)) e
              ∙ get_or-replicate count block (Some (empty weight)) None within,
          refl,
        ))
