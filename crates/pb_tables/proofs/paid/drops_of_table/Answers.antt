use Rattle.std.proofs.Common.{◌≡◌, ◌∙◌, ◌+◌, ◌-◌, ◌*◌, ◌≤◌, ℕ, max, List, IfSome, length, slice_index, sym, ap, subst, arith}
use Rattle.pb_packed.specs.Words.{number_of}
use Rattle.pb_task.specs.declared.parts.GroundAction.{GroundAction}
use Rattle.pb_task.specs.Strips.{action_at}
use Rattle.pb_tables.specs.Below.{greatest_below}
use Rattle.pb_tables.specs.Images.{may_act, image_after, place_in}
use Rattle.pb_tables.specs.Tables.{TableValue, value_at, value_in, drop_at}
use Rattle.pb_tables.proofs.Estimating.{nothing_yet}
use Rattle.pb_tables.proofs.Paying.{values_at, drop_where, no_drop_where, greatest_more}
use Rattle.pb_tables.proofs.paid.drops_of_table.Goals as goal
use Rattle.pb_tables.proofs.paid.drops_of_table.Goals.{After-may_act, then-may_act, else-may_act}

pub loop-place-init : goal.loop-place-init
loop-place-init c = λ sum less. ap (λ (ds : List ℕ). slice_index ds sum) c.no_sums-drops.ensures ∙ nothing_yet sum c.args.sums less c.requires.sums

pub raise-requires-clause-to : goal.raise-requires-clause-to
raise-requires-clause-to c =
    let table : TableValue = c.args.table.now in
    let next = image_after c.args.strips.now.atoms c.tracked-tracked.result.now (action_at c.args.strips.now.actions c.args.action) (number_of c.words_at-image.result.now) in
    let to : c.place_after-to.result ≡ place_in table.listed next = c.place_after-to.ensures ∙ ap (λ (l : List ℕ). place_in l next) c.listed-listed.ensures in
    subst (λ (vs : List ℕ). IfSome c.place_after-to.result (λ to. to * c.args.sums + c.args.sums ≤ length vs)) (sym c.values.ensures)
    (values_at c.args.sums table c.requires.table next c.place_after-to.result to)

-- the image in hand
image_here : (c : After-may_act) → number_of c.words_at-image.result.now ≡ slice_index c.args.table.now.listed c.loop-place.place
image_here c = c.words_at-image.ensures.image ∙ ap (λ (l : List ℕ). slice_index l c.loop-place.place) c.listed-listed.ensures

-- whether the action may be taken from it
may_here : (c : After-may_act) → may_act c.args.strips.now.atoms c.args.table.now.tracked (action_at c.args.strips.now.actions c.args.action) (slice_index c.args.table.now.listed c.loop-place.place) ≡ c.may_act.result
may_here c =
    let count = c.args.strips.now.atoms in
    let act : GroundAction = action_at c.args.strips.now.actions c.args.action in
    sym (c.may_act.ensures ∙ ap (λ (tracked : ℕ). may_act count tracked act (number_of c.words_at-image.result.now)) c.tracked-tracked.ensures
    ∙ ap (λ (i : ℕ). may_act count c.args.table.now.tracked act i) (image_here c))

-- the image after it
next_here : (c : After-may_act) → image_after c.args.strips.now.atoms c.tracked-tracked.result.now (action_at c.args.strips.now.actions c.args.action) (number_of c.words_at-image.result.now)
    ≡ image_after c.args.strips.now.atoms c.args.table.now.tracked (action_at c.args.strips.now.actions c.args.action) (slice_index c.args.table.now.listed c.loop-place.place)
next_here c =
    let count = c.args.strips.now.atoms in
    let act : GroundAction = action_at c.args.strips.now.actions c.args.action in
    ap (λ (tracked : ℕ). image_after count tracked act (number_of c.words_at-image.result.now)) c.tracked-tracked.ensures
    ∙ ap (λ (i : ℕ). image_after count c.args.table.now.tracked act i) (image_here c)

pub loop-place-preserved : goal.loop-place-preserved
loop-place-preserved c = λ sum less.
    let here : After-may_act = (goal.at.loop-place-preserved c).After-may_act in
    let count = c.args.strips.now.atoms in
    let act : GroundAction = action_at c.args.strips.now.actions c.args.action in
    let table : TableValue = c.args.table.now in
    let place = c.loop-place.place in
    let drop = drop_at count c.args.sums act table sum in
    elim c.if-may_act.branch [
      | then-may_act w ↦
          let to = w.place_after-to.result in
          let there : to ≡ place_in table.listed (image_after count table.tracked act (slice_index table.listed place)) =
          w.place_after-to.ensures ∙ ap (λ (n : ℕ). place_in c.listed-listed.result.now n) (next_here here)
          ∙ ap (λ (l : List ℕ). place_in l (image_after count table.tracked act (slice_index table.listed place))) c.listed-listed.ensures in
          let own : drop place ≡ value_at c.args.sums table.values sum place - value_in c.args.sums table.values sum to =
          drop_where count c.args.sums act table sum place to (may_here here ∙ w.if-may_act.true) there in
          ap (λ (ds : List ℕ). slice_index ds sum) w.drops-is ∙ w.raise.ensures sum less
          ∙ ap (λ (n : ℕ). max n (value_at c.args.sums w.values.result.now sum place - value_in c.args.sums w.values.result.now sum to)) (c.loop-place.invariant sum less)
          ∙ ap (λ (vs : List ℕ). max (greatest_below place drop) (value_at c.args.sums vs sum place - value_in c.args.sums vs sum to)) w.values.ensures
          ∙ ap (λ (n : ℕ). max (greatest_below place drop) n) (sym own)
          ∙ sym (greatest_more place drop)
      | else-may_act w ↦
          let none : drop place ≡ 0 = no_drop_where count c.args.sums act table sum place (may_here here ∙ w.if-may_act.false) in
          let same : max (greatest_below place drop) (drop place) ≡ greatest_below place drop = omega (arith, none) in
          ap (λ (ds : List ℕ). slice_index ds sum) w.drops-is ∙ c.loop-place.invariant sum less ∙ sym same ∙ sym (greatest_more place drop)
    ]
