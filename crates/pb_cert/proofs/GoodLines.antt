-- Lines of a certificate have no line feed, and fit a piece with one.
use Rattle.std.proofs.Common.{lit<, ◌≡◌, ℕ, zero, suc, ◌+◌, ◌*◌, ◌/◌, ◌%◌, ◌^◌, ◌<◌, ◌≤◌, Bool, true, false, Option, None, Some, List, [], ◌∷◌, ◌++◌, length, take, drop, map, codes, slice_get, refl, ap, ◌∙◌, subst, arith}
use Rattle.std.specs.Prelude.{if◌then◌else◌, All}
use Rattle.std.specs.List.{AllByRecursion, flat_map}
use Rattle.std.specs.Fmt.{decimal}
use Rattle.std.proofs.lemmas.Nat.{mod_below}
use Rattle.std.proofs.lemmas.Bool.Decides.{nat_tests}
use Rattle.std.proofs.lemmas.List.{length-append, length-take}
use Rattle.std.proofs.lemmas.List.Elements.{All-nil, All-head, All-tail, All-take, All-drop, recursion_from_All}
use Rattle.pb_packed.specs.Digits.{hex_digit, hex_digits}
use Rattle.pb_packed.specs.Sizes.{most_digits}
use Rattle.pb_packed.proofs.Callers.{no_digits, one_more, digits_are_hex}
use Rattle.pb_model.specs.Plan.{Plan}
use Rattle.pb_model.specs.Weight.{Weight}
use Rattle.pb_model.specs.Certificate.{Line, Certificate}
use Rattle.pb_model.specs.Texts.{spaced, line_text}
use Rattle.pb_task.specs.declared.kind.Kind.{Kind}
use Rattle.pb_task.specs.declared.kind.Kind.TheVariants.{Grid, Tiles, Strips}
use Rattle.pb_task.specs.declared.grounding.Grounding.{Grounding}
use Rattle.pb_task.specs.declared.grounding.Grounding.TheVariants as groundings
use Rattle.pb_tables.specs.Tables.{TrapValue, TableValue, TablesValue, IsTable}
use Rattle.pb_table_lines.specs.Lines.{Listing, table_listing, trap_listing, listings, values_text, image_line, image_lines, list_line, listing_lines, counts_line, tables_lines}
use Rattle.pb_table_lines.specs.Spelling.{CanBeStated as TablesCanBeStated}
use Rattle.pb_table_lines.proofs.Callers.{values_none}
use Rattle.pb_estimate.specs.Choices.{Choice, Plain, Pattern, Tables}
use Rattle.pb_estimate.specs.declared.spelling.Stated.{Stated}
use Rattle.pb_estimate.specs.declared.spelling.Spelling.{Spelling}
use Rattle.pb_estimate.specs.declared.spelling.Version.{Version}
use Rattle.pb_estimate.specs.declared.spelling.Version.TheVariants.{One, Two, Three, Four}
use Rattle.pb_estimate.specs.Spelling.{CanBeStated, StatesChoice, version_line, kind_line, width_text, choice_text, grounding_line, estimate_text, stated_text, head_of}
use Rattle.pb_lines.specs.Words.{has_none}
use Rattle.pb_lines.proofs.Callers.{none_both, number_none}
use Rattle.pb_print.specs.Saved.{longest_line}
use Rattle.pb_check.specs.Spelling.{Fits, IsNumber, PlanFitsIfAny}
use Rattle.pb_cert.specs.Stated.{SpelledCertificate, lines_of, weight_line, plan_lines, rows_lines}
use Rattle.pb_cert.proofs.Respelled.{number_short, spaced_long, numbered_short, weight_short}

abbrev pub IsGood : List ℕ → Type 0
IsGood text = (has_none 10 text ≡ true) × (length text + 1 ≤ longest_line)

abbrev pub AreGood : List (List ℕ) → Type 0
AreGood texts = AllByRecursion IsGood texts

both_good : (texts others : List (List ℕ)) → AreGood texts → AreGood others → AreGood (texts ++ others)
both_good [] others are also = also
both_good (text ∷ texts) others are also = (are.0, both_good texts others are.1 also)

no_line : (text : List ℕ) → ◌≡◌ {A = Option (List ℕ)} None (Some text) → ⊥
no_line text e = cc

pub some_line : (a b : List ℕ) → ◌≡◌ {A = Option (List ℕ)} (Some a) (Some b) → a ≡ b
some_line a b e = cc

pub good_at : (texts : List (List ℕ)) (at : ℕ) (text : List ℕ) → AreGood texts → slice_get texts at ≡ Some text → IsGood text
good_at [] at text are found = absurd (no_line text found)
good_at (first ∷ texts) zero text are found = subst IsGood (some_line first text found) are.0
good_at (first ∷ texts) (suc at) text are found = good_at texts at text are.1 found

digit_none : (digit : ℕ) → digit < 16 → has_none 10 (hex_digit digit ∷ []) ≡ true
digit_none digit small = grind (arith, nat_tests)

digits_none : (count n : ℕ) → has_none 10 (hex_digits count n) ≡ true
digits_none zero n = ap (has_none 10) (no_digits n)
digits_none (suc count) n =
    ap (has_none 10) (one_more count n)
    ∙ none_both 10 (hex_digits count (n / 16)) (hex_digit (n % 16) ∷ []) (digits_none count (n / 16)) (digit_none (n % 16) (mod_below n 16 (lit< tt)))

numbered_good : (word : List ℕ) (n : ℕ) → has_none 10 word ≡ true → length word ≤ 16 → IsNumber n → IsGood (spaced word (decimal n))
numbered_good word n none few small = (
  none_both 10 word (32 ∷ decimal n) none (number_none 10 n (omega arith) small),
  (let long = numbered_short word n few small in omega (arith, long)),
)

number_good : (n : ℕ) → IsNumber n → IsGood (decimal n)
number_good n small = (number_none 10 n (omega arith) small, (let long = number_short n small in omega (arith, long)))

weight_good : (weight : Weight) → IsNumber weight.num → IsNumber weight.den → IsGood (weight_line weight)
weight_good weight num den = (
  none_both 10 (codes "weight") (32 ∷ spaced (decimal weight.num) (decimal weight.den)) refl
      (none_both 10 (decimal weight.num) (32 ∷ decimal weight.den) (number_none 10 weight.num (omega arith) num) (number_none 10 weight.den (omega arith) den)),
  (let long = weight_short weight num den in omega (arith, long)),
)

-- ---- the lines of tables

abbrev IsSmall : ℕ → Type 0
IsSmall value = value ≤ 2 ^ 40

values_short : (values : List ℕ) → All IsSmall values → length (values_text values) ≤ 20 * length values
values_short [] small = omega arith
values_short (value ∷ values) small =
    let first : value ≤ 2 ^ 40 = All-head IsSmall value values small in
    let number = number_short value (omega (arith, first)) in
    let both = length-append (decimal value) (values_text values) in
    let others = values_short values (All-tail IsSmall value values small) in
    omega (arith, number, both, others)

-- an image and at most 64 values
image_good : (digits image : ℕ) (values : List ℕ) → digits ≤ most_digits → length values ≤ 64 → All IsSmall values → IsGood (image_line digits image values)
image_good digits image values most few small = (
  none_both 10 (hex_digits digits image) (values_text values) (digits_none digits image) (values_none values small),
  (
      let long = (digits_are_hex digits image).0 in
      let both = length-append (hex_digits digits image) (values_text values) in
      let short = values_short values small in
      omega (arith, most, few, long, both, short)
      ),
)

images_good : (digits sums : ℕ) (listed values : List ℕ) → digits ≤ most_digits → sums ≤ 64 → All IsSmall values → AreGood (image_lines digits sums listed values)
images_good digits sums [] values most few small = tt
images_good digits sums (image ∷ listed) values most few small = (
  image_good digits image (take sums values) most (let long = length-take sums values in omega (arith, long, few)) (All-take IsSmall sums values small),
  images_good digits sums listed (drop sums values) most few (All-drop IsSmall sums values small),
)

list_good : (digits : ℕ) (word : List ℕ) (tracked count : ℕ) → has_none 10 word ≡ true → length word ≤ 16 → digits ≤ most_digits → IsNumber count → IsGood (list_line digits word tracked count)
list_good digits word tracked count none few most small = (
  none_both 10 word (32 ∷ spaced (hex_digits digits tracked) (decimal count)) none
      (none_both 10 (hex_digits digits tracked) (32 ∷ decimal count) (digits_none digits tracked) (number_none 10 count (omega arith) small)),
  (
      let long = (digits_are_hex digits tracked).0 in
      let all = spaced_long word (spaced (hex_digits digits tracked) (decimal count)) in
      let rest = spaced_long (hex_digits digits tracked) (decimal count) in
      let number = number_short count small in
      omega (arith, few, most, long, all, rest, number)
      ),
)

counts_good : (sums tables traps : ℕ) → sums ≤ 64 → tables ≤ 4096 → traps ≤ 4096 → IsGood (counts_line sums tables traps)
counts_good sums tables traps sums_few tables_few traps_few =
    let third : List ℕ = spaced (decimal tables) (decimal traps) in (
      none_both 10 (codes "estimate tables") (32 ∷ spaced (decimal sums) third) refl
          (none_both 10 (decimal sums) (32 ∷ third) (number_none 10 sums (omega arith) (omega (arith, sums_few)))
          (none_both 10 (decimal tables) (32 ∷ decimal traps) (number_none 10 tables (omega arith) (omega (arith, tables_few))) (number_none 10 traps (omega arith) (omega (arith, traps_few))))),
      (
          let all = spaced_long (codes "estimate tables") (spaced (decimal sums) third) in
          let second = spaced_long (decimal sums) third in
          let last = spaced_long (decimal tables) (decimal traps) in
          let first_number = number_short sums (omega (arith, sums_few)) in
          let second_number = number_short tables (omega (arith, tables_few)) in
          let third_number = number_short traps (omega (arith, traps_few)) in
          omega (arith, all, second, last, first_number, second_number, third_number)
          ),
    )

-- a table or a trap whose lines fit a piece
pub record IsShort (listing : Listing) : Type 0 where
  pub word_none : has_none 10 listing.word ≡ true
  pub word_few : length listing.word ≤ 16
  pub few : listing.sums ≤ 64
  pub count : IsNumber (length listing.listed)
  pub small : All IsSmall listing.values

listing_good : (digits : ℕ) (listing : Listing) → digits ≤ most_digits → IsShort listing → AreGood (listing_lines digits listing)
listing_good digits listing most short = (
  list_good digits listing.word listing.tracked (length listing.listed) short.word_none short.word_few most short.count,
  images_good digits listing.sums listing.listed listing.values most short.few short.small,
)

listings_good : (digits : ℕ) (all : List Listing) → digits ≤ most_digits → AllByRecursion IsShort all → AreGood (flat_map (listing_lines digits) all)
listings_good digits [] most short = tt
listings_good digits (first ∷ all) most short = both_good (listing_lines digits first) (flat_map (listing_lines digits) all) (listing_good digits first most short.0) (listings_good digits all most short.1)

traps_short : (traps : List TrapValue) → All (λ trap. length trap.listed < 2 ^ 63) traps → AllByRecursion IsShort (map trap_listing traps)
traps_short [] few = tt
traps_short (trap ∷ traps) few = (
  record {
    word_none = refl;
    word_few = omega arith;
    few = omega arith;
    count = All-head (λ (trap : TrapValue). length trap.listed < 2 ^ 63) trap traps few;
    small = All-nil IsSmall;
  },
  traps_short traps (All-tail (λ (trap : TrapValue). length trap.listed < 2 ^ 63) trap traps few),
)

tables_short : (sums : ℕ) (tables : List TableValue) (traps : List TrapValue) → sums ≤ 64 → All (IsTable sums) tables → AllByRecursion IsShort (map trap_listing traps)
    → AllByRecursion IsShort (map (table_listing sums) tables ++ map trap_listing traps)
tables_short sums [] traps few are short = short
tables_short sums (table ∷ tables) traps few are short =
    let first : IsTable sums table = All-head (IsTable sums) table tables are in (
      record {
        word_none = refl;
        word_few = omega arith;
        few = few;
        count = first.listed_few;
        small = first.small;
      },
      tables_short sums tables traps few (All-tail (IsTable sums) table tables are) short,
    )

tables_good : (digits : ℕ) (tables : TablesValue) → digits ≤ most_digits → TablesCanBeStated digits tables → AreGood (tables_lines digits tables)
tables_good digits tables most can =
    let are = can.lawful in (
      counts_good tables.sums (length tables.tables) (length tables.traps) are.few are.tables_few are.traps_few,
      listings_good digits (listings tables) most (tables_short tables.sums tables.tables tables.traps are.few are.each (traps_short tables.traps are.traps_listed_few)),
    )

-- ---- the head

version_good : (version : Version) → IsGood (version_line version)
version_good One = (refl, omega arith)
version_good Two = (refl, omega arith)
version_good Three = (refl, omega arith)
version_good Four = (refl, omega arith)

kind_good : (kind : Kind) → IsGood (kind_line kind)
kind_good Grid = (refl, omega arith)
kind_good Tiles = (refl, omega arith)
kind_good Strips = (refl, omega arith)

width_good : (version : Version) (width : ℕ) → width ≤ most_digits → AreGood (width_text version width)
width_good One width most = tt
width_good Two width most = (numbered_good (codes "width") width refl (omega arith) (omega (arith, most)), tt)
width_good Three width most = (numbered_good (codes "width") width refl (omega arith) (omega (arith, most)), tt)
width_good Four width most = (numbered_good (codes "width") width refl (omega arith) (omega (arith, most)), tt)

grounding_good : (grounding : Grounding) → IsGood (grounding_line grounding)
grounding_good groundings.All = (refl, omega arith)
grounding_good groundings.Reachable = (refl, omega arith)

estimate_good : (width : ℕ) (choice : Choice) → width ≤ most_digits → CanBeStated width choice → AreGood (estimate_text width choice)
estimate_good width Plain most can = ((refl, omega arith), tt)
estimate_good width (Pattern number) most can = (numbered_good (codes "estimate pattern") number refl (omega arith) can, tt)
estimate_good width (Tables tables) most can = tables_good width tables most can

choice_good : (width : ℕ) (choice : Choice) → StatesChoice Three width choice → AreGood (choice_text choice)
choice_good width Plain states = tt
choice_good width (Pattern number) states = (numbered_good (codes "pattern") number refl (omega arith) states, tt)
choice_good width (Tables tables) states = tt

stated_good : (version : Version) (width : ℕ) (stated : Stated) → width ≤ most_digits → StatesChoice version width stated.choice → AreGood (stated_text version width stated)
stated_good One width stated most states = tt
stated_good Two width stated most states = tt
stated_good Three width stated most states = choice_good width stated.choice states
stated_good Four width stated most states = (grounding_good stated.grounding, estimate_good width stated.choice most states)

-- ---- the plan and the rows

actions_good : (actions : List ℕ) → AllByRecursion IsNumber actions → AreGood (map decimal actions)
actions_good [] all = tt
actions_good (action ∷ actions) all = (number_good action all.0, actions_good actions all.1)

plan_good : (plan : Option Plan) → PlanFitsIfAny plan → AreGood (plan_lines plan)
plan_good None fits = ((refl, omega arith), tt)
plan_good (Some plan) fits = (
  numbered_good (codes "plan") (length plan.actions) refl (omega arith) fits.count,
  both_good (map decimal plan.actions) (spaced (codes "cost") (decimal plan.cost) ∷ [])
      (actions_good plan.actions (recursion_from_All IsNumber plan.actions fits.actions)) (numbered_good (codes "cost") plan.cost refl (omega arith) fits.cost, tt),
)

abbrev closed_word : Bool → List ℕ
closed_word is_closed = if is_closed then codes "closed" else codes "cut"

closed_none : (is_closed : Bool) → has_none 10 (closed_word is_closed) ≡ true
closed_none true = refl
closed_none false = refl

closed_long : (is_closed : Bool) → length (closed_word is_closed) ≤ 6
closed_long true = omega arith
closed_long false = omega arith

row_good : (width : ℕ) (row : Line) → width ≤ most_digits → IsNumber row.g → IsGood (line_text width row)
row_good width row most small = (
  none_both 10 (hex_digits width row.state) (32 ∷ spaced (decimal row.g) (closed_word row.is_closed)) (digits_none width row.state)
      (none_both 10 (decimal row.g) (32 ∷ closed_word row.is_closed) (number_none 10 row.g (omega arith) small) (closed_none row.is_closed)),
  (
      let digits = (digits_are_hex width row.state).0 in
      let all = spaced_long (hex_digits width row.state) (spaced (decimal row.g) (closed_word row.is_closed)) in
      let rest = spaced_long (decimal row.g) (closed_word row.is_closed) in
      let number = number_short row.g small in
      let last = closed_long row.is_closed in
      omega (arith, digits, all, rest, number, last, most)
      ),
)

all_good : (width : ℕ) (rows : List Line) → width ≤ most_digits → AllByRecursion (λ row. (row.state < 16 ^ width) × IsNumber row.g) rows → AreGood (map (line_text width) rows)
all_good width [] most all = tt
all_good width (row ∷ rows) most all = (row_good width row most all.0.1, all_good width rows most all.1)

pub lines_good : (spelled : SpelledCertificate) → spelled.spelling.width ≤ most_digits → StatesChoice spelled.spelling.version spelled.spelling.width spelled.spelling.stated.choice → Fits spelled.spelling.width spelled.certificate → AreGood (lines_of spelled)
unfolding lines_of
lines_good spelled most states fits =
    let c : Certificate = spelled.certificate in
    let s : Spelling = spelled.spelling in
    let head : AreGood (head_of s) = (version_good s.version, (kind_good s.kind, both_good (width_text s.version s.width) (stated_text s.version s.width s.stated) (width_good s.version s.width most) (stated_good s.version s.width s.stated most states))) in
    let first : AreGood (head_of s ++ weight_line c.weight ∷ []) = both_good (head_of s) (weight_line c.weight ∷ []) head (weight_good c.weight fits.weight.0 fits.weight.1, tt) in
    let rows : AreGood (rows_lines s.width c) = (
      numbered_good (codes "rows") (length c.lines) refl (omega arith) fits.count,
      both_good (map (line_text s.width) c.lines) (codes "end" ∷ [])
          (all_good s.width c.lines most (recursion_from_All (λ (row : Line). (row.state < 16 ^ s.width) × IsNumber row.g) c.lines fits.lines)) ((refl, omega arith), tt),
    ) in
    both_good ((head_of s ++ weight_line c.weight ∷ []) ++ plan_lines c.plan) (rows_lines s.width c) (both_good (head_of s ++ weight_line c.weight ∷ []) (plan_lines c.plan) first (plan_good c.plan fits.plan)) rows
