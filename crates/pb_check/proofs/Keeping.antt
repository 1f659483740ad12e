-- Rows of which those behind the first that does not rise are left out.
use Rattle.std.proofs.Common.{◌≡◌, ℕ, zero, suc, ◌+◌, ◌<◌, ◌≤◌, Bool, true, false, nat_lt, cond, Option, None, Some, List, [], ◌∷◌, ◌++◌, length, Result, Ok, Err, refl, sym, ap, ◌∙◌, subst, arith, append-nil, append_assoc, length-append}
use Rattle.std.proofs.lemmas.Bool.Decides.{nat_tests}
use Rattle.pb_model.specs.Weight.{Weight}
use Rattle.pb_model.specs.Plan.{Plan}
use Rattle.pb_model.specs.Certificate.{Line}
use Rattle.pb_task.specs.declared.parts.TaskParts.{TaskParts}
use Rattle.pb_task.specs.Parts.{space_of}
use Rattle.pb_task.specs.Kinds.{kind_of}
use Rattle.pb_estimate.specs.declared.spelling.Spelling.{Spelling}
use Rattle.pb_check.specs.declared.fault.CertificateFault.{CertificateFault}
use Rattle.pb_check.specs.declared.fault.CertificateFault.TheVariants as faults
use Rattle.pb_check.specs.declared.fault.CheckError.{CheckError}
use Rattle.pb_check.specs.declared.fault.CheckError.TheVariants as errors
use Rattle.pb_check.specs.declared.fault.Verdict.{Verdict}
use Rattle.pb_check.specs.Faults.{◌>>=◌, Fails, Gives}
use Rattle.pb_check.specs.Reading.{Text, suiting, stated_choice, text_of}
use Rattle.pb_check.specs.Judging.{passes, unless, same_kind, width_fault, grounding_fault, stated_fault, is_weight, plan_fault_if_any, order_fault, rows_order_fault, judged, checked, Rise}
use Rattle.pb_check.specs.Rows.{rises_at}
use Rattle.pb_check.specs.Kept.{Falls, AreKeptBy, IsKeptText, GivesKept}
use Rattle.pb_check.proofs.Finding.{order_rises}
use Rattle.pb_check.proofs.Spelled.{choice_is}

-- ---- rows that don't rise

falls_on : (rows more : List Line) (i : ℕ) → rises_at rows i ≡ false → rises_at (rows ++ more) i ≡ false
falls_on [] more i e = absurd cc
falls_on (row ∷ []) more i e = absurd cc
falls_on (row ∷ next ∷ rows) more zero e = e
falls_on (row ∷ next ∷ rows) more (suc i) e = falls_on (next ∷ rows) more i e

falls_behind : (rows more : List Line) (i : ℕ) → rises_at more i ≡ false → Falls (rows ++ more)
falls_behind [] more i e = (i, e)
falls_behind (row ∷ []) [] i e = absurd cc
falls_behind (row ∷ []) (m ∷ more) i e = (suc i, e)
falls_behind (row ∷ next ∷ rows) more i e = let h = falls_behind (next ∷ rows) more i e in (suc h.0, h.1)

no_fall : (rows : List Line) → Rise rows → (i : ℕ) → rises_at rows i ≡ false → ⊥
no_fall [] rises i e = absurd cc
no_fall (row ∷ []) rises i e = absurd cc
no_fall (row ∷ next ∷ rows) rises zero e = let less : row.state < next.state = rises.0 in absurd (grind (arith, nat_tests, less, e))
no_fall (row ∷ next ∷ rows) rises (suc i) e = no_fall (next ∷ rows) rises.1 i e

-- ---- what is kept

pub keeps_more : (kept all more : List Line) → AreKeptBy true kept all → AreKeptBy true kept (all ++ more)
keeps_more kept all more h = (h.0, (h.1.0 ++ more, ap (λ (rows : List Line). rows ++ more) h.1.1 ∙ append_assoc kept h.1.0 more))

pub keeps_both : (falls : Bool) (kept all others more : List Line) → AreKeptBy false kept all → AreKeptBy falls others more → AreKeptBy falls (kept ++ others) (all ++ more)
keeps_both false kept all others more e f = ap (λ (rows : List Line). rows ++ others) e ∙ ap (λ (rows : List Line). all ++ rows) f
keeps_both true kept all others more e f =
    let all_is : all ++ more ≡ kept ++ more = ap (λ (rows : List Line). rows ++ more) (sym e) in
    (falls_behind kept others f.0.0 f.0.1, (f.1.0, all_is ∙ ap (λ (rows : List Line). kept ++ rows) f.1.1 ∙ sym (append_assoc kept others f.1.0)))

pub keeps_one : (falls : Bool) (kept all : List Line) (row : Line) → AreKeptBy false kept all → (falls ≡ true → Falls (kept ++ row ∷ [])) → AreKeptBy falls (kept ++ row ∷ []) (all ++ row ∷ [])
keeps_one false kept all row e h = ap (λ (rows : List Line). rows ++ row ∷ []) e
keeps_one true kept all row e h = (h refl, ([], ap (λ (rows : List Line). rows ++ row ∷ []) (sym e) ∙ sym (append-nil (kept ++ row ∷ []))))

pub few_kept : (falls : Bool) (kept all : List Line) → AreKeptBy falls kept all → (n : ℕ) → length all ≡ n → length kept ≤ n
few_kept false kept all h n is = let e : length kept ≡ length all = ap length h in omega (arith, e, is)
few_kept true kept all h n is = let e : length all ≡ length kept + length h.1.0 = ap length h.1.1 ∙ length-append kept h.1.0 in omega (arith, e, is)

-- ---- the order of kept rows

order_same : (line before : ℕ) (rows more : List Line) → (order_fault line before rows ≡ None → ⊥) → order_fault line before (rows ++ more) ≡ order_fault line before rows
unfolding order_fault
order_same line before [] more h = absurd (h refl)
order_same line before (row ∷ rows) more h = go (nat_lt before row.state) (λ g. order_same (line + 1) row.state rows more g) h where
  go : (b : Bool) → ((order_fault (line + 1) row.state rows ≡ None → ⊥) → order_fault (line + 1) row.state (rows ++ more) ≡ order_fault (line + 1) row.state rows)
      → (cond b (order_fault (line + 1) row.state rows) (Some (faults.RowOrder line)) ≡ None → ⊥)
      → cond b (order_fault (line + 1) row.state (rows ++ more)) (Some (faults.RowOrder line)) ≡ cond b (order_fault (line + 1) row.state rows) (Some (faults.RowOrder line))
  go true on h = on h
  go false on h = refl

falls_in_order : (line : ℕ) (rows : List Line) → Falls rows → rows_order_fault line rows ≡ None → ⊥
falls_in_order line rows falls none = no_fall rows (order_rises line rows none) falls.0 falls.1

rows_order_same : (line : ℕ) (rows more : List Line) → Falls rows → rows_order_fault line (rows ++ more) ≡ rows_order_fault line rows
rows_order_same line [] more falls = absurd (let e = falls.1 in cc)
rows_order_same line (row ∷ rows) more falls = order_same (line + 1) row.state rows more (falls_in_order line (row ∷ rows) falls)

-- ---- the verdict on a text with kept rows

abbrev text_from : Spelling → Weight → Option Plan → (first : ℕ) → List Line → Text
text_from spelling weight plan first rows = record {
  spelling = spelling;
  certificate = record { weight = weight; plan = plan; lines = rows };
  first = first;
}

step_same : (step : Result Bool CertificateFault) (f g : Bool → Result Verdict CertificateFault) → ((x : Bool) → f x ≡ g x) → (step >>= f) ≡ (step >>= g)
step_same (Ok x) f g h = h x
step_same (Err fault) f g h = refl

ends_there : (one other : Option CertificateFault) (f g : Bool → Result Verdict CertificateFault) → one ≡ other → (other ≡ None → ⊥) → (passes one >>= f) ≡ (passes other >>= g)
ends_there one None f g e h = absurd (h refl)
ends_there None (Some fault) f g e h = absurd cc
ends_there (Some one) (Some fault) f g e h = ap (λ o. passes o >>= g) e

judged_without : (parts : TaskParts) (spelling : Spelling) (weight : Weight) (plan : Option Plan) (first : ℕ) (rows more : List Line) → Falls rows
    → judged parts (text_from spelling weight plan first (rows ++ more)) ≡ judged parts (text_from spelling weight plan first rows)
unfolding judged
judged_without parts spelling weight plan first rows more falls =
    step_same (passes (unless (same_kind (kind_of parts) spelling.kind) faults.Kind)) _ _ (λ kinds.
    step_same (passes (width_fault parts spelling.version spelling.width)) _ _ (λ widths.
    step_same (passes (grounding_fault parts spelling.stated)) _ _ (λ groundings.
    step_same (passes (stated_fault parts spelling.stated)) _ _ (λ stated.
    step_same (passes (unless (is_weight weight) faults.Weight)) _ _ (λ weights.
    step_same (plan_fault_if_any (space_of parts) plan) _ _ (λ plans.
    ends_there (rows_order_fault first (rows ++ more)) (rows_order_fault first rows) _ _ (rows_order_same first rows more falls) (falls_in_order first rows falls)))))))

text_is : (kept text : Text) (h : IsKeptText kept text) → kept ≡ text_from text.spelling text.certificate.weight text.certificate.plan text.first kept.certificate.lines
text_is kept text h =
    ap (λ s. text_from s kept.certificate.weight kept.certificate.plan kept.first kept.certificate.lines) h.spelling
    ∙ ap (λ w. text_from text.spelling w kept.certificate.plan kept.first kept.certificate.lines) h.weight
    ∙ ap (λ p. text_from text.spelling text.certificate.weight p kept.first kept.certificate.lines) h.plan
    ∙ ap (λ n. text_from text.spelling text.certificate.weight text.certificate.plan n kept.certificate.lines) h.first

pub judged_kept : (parts : TaskParts) (kept text : Text) → IsKeptText kept text → judged parts text ≡ judged parts kept
judged_kept parts kept text h = go h.falls h.lines ∙ ap (judged parts) (sym (text_is kept text h)) where
  go : (falls : Bool) → AreKeptBy falls kept.certificate.lines text.certificate.lines
      → judged parts text ≡ judged parts (text_from text.spelling text.certificate.weight text.certificate.plan text.first kept.certificate.lines)
  go false same = ap (λ (rows : List Line). judged parts (text_from text.spelling text.certificate.weight text.certificate.plan text.first rows)) (sym same)
  go true some =
      ap (λ (rows : List Line). judged parts (text_from text.spelling text.certificate.weight text.certificate.plan text.first rows)) some.1.1
      ∙ judged_without parts text.spelling text.certificate.weight text.certificate.plan text.first kept.certificate.lines some.1.0 some.0

-- ---- the verdict on bytes

pub checked_fails : (e : CheckError) (parts : TaskParts) (bytes : List ℕ) → Fails e (text_of bytes) → Fails e (checked parts bytes)
unfolding checked
checked_fails errors.Memory parts bytes h = tt
checked_fails (errors.Fault fault) parts bytes h = ap (λ r. r >>= judged parts) h

pub checked_kept : (parts : TaskParts) (bytes : List ℕ) (kept : Text) (r : Result Verdict CheckError) → GivesKept (Ok kept) (text_of bytes) → Gives (λ x. x) r (judged parts kept) → Gives (λ x. x) r (checked parts bytes)
unfolding checked
checked_kept parts bytes kept r h gives =
    let text = h.0 in
    let same : checked parts bytes ≡ judged parts kept = ap (λ t. t >>= judged parts) h.1 ∙ judged_kept parts kept text h.2 in
    subst (λ given. Gives (λ x. x) r given) (sym same) gives

pub kept_choice_is : (parts : TaskParts) (bytes : List ℕ) (kept : Text) → GivesKept (Ok kept) (text_of bytes) → stated_choice parts bytes ≡ suiting parts kept.spelling.stated.choice
kept_choice_is parts bytes kept h = choice_is parts bytes h.0 h.1 ∙ ap (λ (s : Spelling). suiting parts s.stated.choice) (sym h.2.spelling)
