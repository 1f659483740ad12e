-- What the loops over actions and sums keep.
use Rattle.std.proofs.Common.{◌≡◌, ℕ, suc, ◌+◌, ◌-◌, ◌*◌, ◌^◌, ◌<◌, ◌≤◌, max, Bool, true, false, List, length, All, Option, None, Some, slice_index, IfSome, refl, sym, subst, ap, arith, ◌∙◌, inl, inr, if◌then◌else◌}
use Rattle.std.proofs.lemmas.Bool.{cases_lt}
use Rattle.pb_task.specs.declared.parts.GroundAction.{GroundAction}
use Rattle.pb_task.specs.declared.parts.StripsParts.{StripsParts}
use Rattle.pb_tables.specs.declared.fault.TablesFault.TheVariants.{Unpaid}
use Rattle.pb_tables.specs.Below.{first_below, some_if, greatest_below}
use Rattle.pb_tables.specs.Images.{both, may_act, image_after, place_in}
use Rattle.pb_tables.specs.Tables.{TableValue, IsTable, table_at, value_at, value_in, drop_at, drop_of, drops_of}
use Rattle.pb_tables.specs.Order.{IsWritten}
use Rattle.pb_tables.specs.Looking.{IsFirst}
use Rattle.pb_tables.specs.Suits.{is_unpaid, unpaid_in, unpaid_of, sums_unpaid}
use Rattle.pb_tables.proofs.Searches.{found_first, none_first, is_if, none_if, greatest_bound, sum_bound}
use Rattle.pb_tables.proofs.Imaging.{place_is}
use Rattle.pb_tables.proofs.Estimating.{table_is, value_small, values_inside}
use Rattle.pb_tables.proofs.Firsts.{stays_there}

-- ---- drops

pub greatest_more : (count : ℕ) (value : ℕ → ℕ) → greatest_below (count + 1) value ≡ max (greatest_below count value) (value count)
greatest_more count value =
    let next : suc count ≡ count + 1 = omega arith in
    subst (λ n. greatest_below n value ≡ max (greatest_below count value) (value count)) next refl

module _ (count sums : ℕ) (act : GroundAction) (table : TableValue) (sum place : ℕ) where
  pub drop_where : (to : Option ℕ) → may_act count table.tracked act (slice_index table.listed place) ≡ true
      → to ≡ place_in table.listed (image_after count table.tracked act (slice_index table.listed place))
      → drop_at count sums act table sum place ≡ value_at sums table.values sum place - value_in sums table.values sum to
  drop_where to may there =
      ap (λ (b : Bool). if b then value_at sums table.values sum place - value_in sums table.values sum (place_in table.listed (image_after count table.tracked act (slice_index table.listed place))) else 0) may
      ∙ ap (λ (o : Option ℕ). value_at sums table.values sum place - value_in sums table.values sum o) (sym there)

  pub no_drop_where : may_act count table.tracked act (slice_index table.listed place) ≡ false → drop_at count sums act table sum place ≡ 0
  no_drop_where may =
      ap (λ (b : Bool). if b then value_at sums table.values sum place - value_in sums table.values sum (place_in table.listed (image_after count table.tracked act (slice_index table.listed place))) else 0) may

  pub drop_small : IsTable sums table → drop_at count sums act table sum place ≤ 2 ^ 40
  drop_small is = go (may_act count table.tracked act (slice_index table.listed place)) where
    go : (may : Bool) → (if may then value_at sums table.values sum place - value_in sums table.values sum (place_in table.listed (image_after count table.tracked act (slice_index table.listed place))) else 0) ≤ 2 ^ 40
    go true = let small : value_at sums table.values sum place ≤ 2 ^ 40 = value_small sums table is sum place in omega (arith, small)
    go false = omega arith

pub table_drop_small : (count sums : ℕ) (act : GroundAction) (table : TableValue) (sum : ℕ) → IsTable sums table → drop_of count sums act table sum ≤ 2 ^ 40
table_drop_small count sums act table sum is = greatest_bound (length table.listed) (drop_at count sums act table sum) (2 ^ 40) (λ place less. drop_small count sums act table sum place is)

-- an action that touches no tracked atom lowers nothing
same_value : (may : Bool) (value : ℕ) → (if may then value - value else 0) ≤ 0
same_value true value = omega arith
same_value false value = omega arith

pub untouched_drop : (count sums : ℕ) (act : GroundAction) (table : TableValue) (sum : ℕ) → IsWritten count table.tracked table.listed → both count act.adds table.tracked ≡ 0
    → both count act.deletes table.tracked ≡ 0 → drop_of count sums act table sum ≡ 0
untouched_drop count sums act table sum is adds deletes =
    let bound : drop_of count sums act table sum ≤ 0 =
    greatest_bound (length table.listed) (drop_at count sums act table sum) 0 (λ place less.
    let stays : place_in table.listed (image_after count table.tracked act (slice_index table.listed place)) ≡ Some place = stays_there count table.tracked table.listed act is adds deletes place less in
    subst (λ (o : Option ℕ). (if may_act count table.tracked act (slice_index table.listed place) then value_at sums table.values sum place - value_in sums table.values sum o else 0) ≤ 0) (sym stays)
    (same_value (may_act count table.tracked act (slice_index table.listed place)) (value_at sums table.values sum place))) in
    omega (arith, bound)

pub drops_small : (count sums : ℕ) (act : GroundAction) (tables : List TableValue) → All (IsTable sums) tables → (first sum : ℕ) → first ≤ length tables → length tables ≤ 4096
    → drops_of count act sums tables first sum ≤ 2 ^ 52
drops_small count sums act tables are first sum within few =
    let bound : drops_of count act sums tables first sum ≤ first * 2 ^ 40 =
    sum_bound first (λ number. drop_of count sums act (table_at tables number) sum) (2 ^ 40)
    (λ number less. table_drop_small count sums act (table_at tables number) sum (table_is sums tables are number (omega (arith, less, within)))) in
    omega (arith, bound, within, few)

-- ---- the least sum that is not paid for, after some actions

pub record IsLeastUnpaid (strips : StripsParts) (sums : ℕ) (tables : List TableValue) (action least by : ℕ) : Type 0 where
  pub within : least ≤ sums
  pub paid : (sum other : ℕ) → sum < least → other < action → is_unpaid strips sums tables sum other ≡ false
  pub by_one : least < sums → by < action
  pub unpaid : least < sums → is_unpaid strips sums tables least by ≡ true
  pub before : (other : ℕ) → least < sums → other < by → is_unpaid strips sums tables least other ≡ false

module _ (strips : StripsParts) (sums : ℕ) (tables : List TableValue) where
  pub none_yet : IsLeastUnpaid strips sums tables 0 sums 0
  none_yet = record {
    within = omega arith;
    paid = λ sum other less below. absurd (omega (arith, below));
    by_one = λ less. absurd (omega (arith, less));
    unpaid = λ less. absurd (omega (arith, less));
    before = λ other less below. absurd (omega (arith, less));
  }

  module _ (action least by sum : ℕ) (is : IsLeastUnpaid strips sums tables action least by) (first : IsFirst least (λ s. is_unpaid strips sums tables s action) sum) where
    paid_more : (s other : ℕ) → s < sum → other < action + 1 → is_unpaid strips sums tables s other ≡ false
    paid_more s other less below = elim (cases_lt other action) [
      | inl earlier ↦ is.paid s other (omega (arith, less, first.within)) earlier
      | inr last ↦
          let here : action ≡ other = omega (arith, last, below) in
          subst (λ a. is_unpaid strips sums tables s a ≡ false) here (first.before s less)
    ]

    pub lower_found : sum < least → IsLeastUnpaid strips sums tables (action + 1) sum action
    lower_found less = record {
      within = omega (arith, less, is.within);
      paid = paid_more;
      by_one = λ below. omega arith;
      unpaid = λ below. first.here less;
      before = λ other below earlier. is.paid sum other less earlier;
    }

    pub none_lower : least ≤ sum → IsLeastUnpaid strips sums tables (action + 1) least by
    none_lower past = record {
      within = is.within;
      paid = λ s other less below. paid_more s other (omega (arith, less, past)) below;
      by_one = λ below. let before : by < action = is.by_one below in omega (arith, before);
      unpaid = is.unpaid;
      before = is.before;
    }

  module _ (least by : ℕ) (is : IsLeastUnpaid strips sums tables (length strips.actions) least by) where
    paid_below : (count : ℕ) → count ≤ least → first_below count (λ sum. unpaid_of sum (unpaid_in strips sums tables sum)) ≡ None
    paid_below count within = none_first count (λ sum. unpaid_of sum (unpaid_in strips sums tables sum)) (λ sum less.
        ap (λ (o : Option ℕ). unpaid_of sum o)
        (none_first (length strips.actions) (λ action. some_if (is_unpaid strips sums tables sum action) action)
        (λ action below. none_if (is_unpaid strips sums tables sum action) action (is.paid sum action (omega (arith, less, within)) below))))

    pub unpaid_found : least < sums → sums_unpaid strips sums tables ≡ Some (Unpaid least by)
    unpaid_found less =
        let find = λ (action : ℕ). some_if (is_unpaid strips sums tables least action) action in
        let own : unpaid_in strips sums tables least ≡ Some by =
        found_first (length strips.actions) find by by (is.by_one less)
        (none_first by find (λ action below. none_if (is_unpaid strips sums tables least action) action (is.before action less below)))
        (is_if (is_unpaid strips sums tables least by) by (is.unpaid less)) in
        found_first sums (λ sum. unpaid_of sum (unpaid_in strips sums tables sum)) least (Unpaid least by) less (paid_below least (omega arith)) (ap (λ (o : Option ℕ). unpaid_of least o) own)

    pub all_paid : sums ≤ least → sums_unpaid strips sums tables ≡ None
    all_paid past = paid_below sums past

-- ---- places of values

pub values_at : (sums : ℕ) (table : TableValue) → IsTable sums table → (image : ℕ) (place : Option ℕ) → place ≡ place_in table.listed image
    → IfSome place (λ to. to * sums + sums ≤ length table.values)
values_at sums table is image None e = tt
values_at sums table is image (Some to) e = values_inside sums table is to (place_is table.listed image to (sym e)).inside
