-- What a text says, by what is read before its rows and by the rows that are found behind it.
use Rattle.std.proofs.Common.{◌≡◌, ℕ, zero, suc, ◌+◌, ◌-◌, ◌≤◌, Bool, Option, None, Some, List, [], ◌∷◌, ◌++◌, length, drop, Result, Ok, Err, refl, sym, ap, ◌∙◌, subst, arith, append-nil, append_assoc, length-append}
use Rattle.std.specs.Prelude.{codes}
use Rattle.std.proofs.Math.Seq.{drop-append_seam}
use Rattle.pb_model.specs.Weight.{Weight}
use Rattle.pb_model.specs.Plan.{Plan}
use Rattle.pb_model.specs.Certificate.{Line}
use Rattle.pb_lines.proofs.Callers.{part_is}
use Rattle.pb_estimate.specs.declared.spelling.Spelling.{Spelling}
use Rattle.pb_check.specs.declared.fault.CertificateFault.{CertificateFault}
use Rattle.pb_check.specs.declared.fault.CheckError.{CheckError}
use Rattle.pb_check.specs.declared.fault.CheckError.TheVariants as errors
use Rattle.pb_check.specs.Faults.{◌>>=◌, Fails}
use Rattle.pb_check.specs.Reading.{Text, number_at, head_at, weight_at, plan_at, rows_at, end_at, body_at, plan_lines, weight_line, first_line, text_of}
use Rattle.pb_check.specs.Fronts.{RowsThen, Front, prepend, rows_after, row_front, rows_while, ending, body_of, front_at, text_with, text_by}
use Rattle.pb_check.specs.Kept.{GivesKept}
use Rattle.pb_check.proofs.RowFronts.{begins, front_shorter}
use Rattle.pb_check.proofs.Bodies.{while_is, body_by_rows}

-- ---- rows read one after another

-- what was read before, and what is found from here on
abbrev pub all_then : List Line → RowsThen → RowsThen
all_then all found = (all ++ found.0, found.1)

pub rows_begin : (width : ℕ) (text : List ℕ) → all_then [] (rows_while width text) ≡ rows_while width text
rows_begin width text = refl

pub rows_go_on : (width : ℕ) (all : List Line) (text after : List ℕ) (row : Line) (total : RowsThen) → row_front width text ≡ Some (row, after)
    → all_then all (rows_while width text) ≡ total → all_then (all ++ row ∷ []) (rows_while width after) ≡ total
rows_go_on width all text after row total front so_far =
    let here : rows_while width text ≡ prepend row (rows_while width after) = while_is width text ∙ ap (rows_after (rows_while width) text) front in
    let one : (all ++ row ∷ []) ++ (rows_while width after).0 ≡ all ++ row ∷ (rows_while width after).0 = append_assoc all (row ∷ []) (rows_while width after).0 in
    ap (λ (rows : List Line). (rows, (rows_while width after).1)) one ∙ sym (ap (all_then all) here) ∙ so_far

pub rows_end : (width : ℕ) (all : List Line) (text : List ℕ) (total : RowsThen) → row_front width text ≡ None → all_then all (rows_while width text) ≡ total → total ≡ (all, text)
rows_end width all text total front so_far =
    let here : rows_while width text ≡ ([], text) = while_is width text ∙ ap (rows_after (rows_while width) text) front in
    sym so_far ∙ ap (all_then all) here ∙ ap (λ (rows : List Line). (rows, text)) (append-nil all)

-- ---- where the rows end

-- the text is cut behind its rows, and has at least a byte for each of them
pub record IsCutAt (text : List ℕ) (found : RowsThen) : Type 0 where
  pub front : List ℕ
  pub is : text ≡ front ++ found.1
  pub few : length found.0 ≤ length front

cut_none : (width : ℕ) (text : List ℕ) → row_front width text ≡ None → IsCutAt text (rows_while width text)
cut_none width text front = subst (IsCutAt text) (sym (while_is width text ∙ ap (rows_after (rows_while width) text) front)) (record { front = []; is = refl; few = omega arith })

cut_some : (width : ℕ) (text : List ℕ) (first : Line × List ℕ) → row_front width text ≡ Some first → IsCutAt first.1 (rows_while width first.1) → IsCutAt text (rows_while width text)
cut_some width text first front rest =
    let b = begins width text first front in
    let is : text ≡ b.line ++ 10 ∷ first.1 = part_is 10 text b.line first.1 b.cut in
    let found : rows_while width text ≡ prepend first.0 (rows_while width first.1) = while_is width text ∙ ap (rows_after (rows_while width) text) front in
    let whole : text ≡ (b.line ++ 10 ∷ rest.front) ++ (rows_while width first.1).1 = is ∙ ap (λ (t : List ℕ). b.line ++ 10 ∷ t) rest.is ∙ sym (append_assoc b.line (10 ∷ rest.front) (rows_while width first.1).1) in
    let more : length (b.line ++ 10 ∷ rest.front) ≡ length b.line + suc (length rest.front) = length-append b.line (10 ∷ rest.front) in
    let few = rest.few in
    subst (IsCutAt text) (sym found) (record { front = b.line ++ 10 ∷ rest.front; is = whole; few = omega (arith, more, few) })

cut_within : (width n : ℕ) (text : List ℕ) → length text ≤ n → IsCutAt text (rows_while width text)
cut_within width zero text le = go (row_front width text) refl where
  go : (o : Option (Line × List ℕ)) → row_front width text ≡ o → IsCutAt text (rows_while width text)
  go None front = cut_none width text front
  go (Some first) front = let s = front_shorter width text first front in absurd (omega (arith, s, le))
cut_within width (suc n) text le = go (λ rest le. cut_within width n rest le) (row_front width text) refl where
  go : ((rest : List ℕ) → length rest ≤ n → IsCutAt rest (rows_while width rest)) → (o : Option (Line × List ℕ)) → row_front width text ≡ o → IsCutAt text (rows_while width text)
  go cut None front = cut_none width text front
  go cut (Some first) front = let s = front_shorter width text first front in cut_some width text first front (cut first.1 (omega (arith, s, le)))

pub is_cut : (width : ℕ) (text : List ℕ) → IsCutAt text (rows_while width text)
is_cut width text = cut_within width (length text) text (omega arith)

pub rows_fit : (width : ℕ) (text : List ℕ) → length (rows_while width text).0 + length (rows_while width text).1 ≤ length text
rows_fit width text =
    let c = is_cut width text in
    let long : length text ≡ length c.front + length (rows_while width text).1 = ap length c.is ∙ length-append c.front (rows_while width text).1 in
    let few = c.few in omega (arith, long, few)

pub rest_is : (width left : ℕ) (text : List ℕ) → left ≡ length (rows_while width text).1 → drop (length text - left) text ≡ (rows_while width text).1
rest_is width left text left_is =
    let c = is_cut width text in
    let rest = (rows_while width text).1 in
    let long : length text ≡ length c.front + length rest = ap length c.is ∙ length-append c.front rest in
    let at : length text - left ≡ length c.front = omega (arith, long, left_is) in
    ap (λ k. drop k text) at ∙ ap (λ (t : List ℕ). drop (length c.front) t) c.is ∙ drop-append_seam c.front rest

-- ---- a text by its front and its rows

abbrev found_behind : Front × List ℕ → RowsThen
found_behind front = rows_while front.0.spelling.width front.1

abbrev front_from : Spelling → Weight → Option Plan → (count : ℕ) → Front
front_from spelling weight plan count = record { spelling = spelling; weight = weight; plan = plan; count = count; first = first_line spelling plan }

abbrev rest_of_text : Spelling → Weight → Option Plan → Result (List Line) CertificateFault → Result Text CertificateFault
rest_of_text spelling weight plan rows = rows >>= λ rows. Ok (record {
  spelling = spelling;
  certificate = record { weight = weight; plan = plan; lines = rows };
  first = first_line spelling plan;
})

body_behind : (spelling : Spelling) (weight : Weight) (plan : Option Plan) (text : List ℕ)
    → rest_of_text spelling weight plan (body_at spelling.width (weight_line spelling + 1 + plan_lines plan) text)
    ≡ ((number_at (weight_line spelling + 1 + plan_lines plan) (codes "rows ") text >>= λ count. Ok (front_from spelling weight plan count.0, count.1))
    >>= λ front. text_by front.0 (found_behind front))
unfolding body_at
body_behind spelling weight plan text = go (number_at (weight_line spelling + 1 + plan_lines plan) (codes "rows ") text) where
  line : ℕ
  line = weight_line spelling + 1 + plan_lines plan

  go : (r : Result (ℕ × List ℕ) CertificateFault)
      → rest_of_text spelling weight plan (r >>= λ count. rows_at spelling.width count.0 (line + 1) count.1 >>= λ rows. end_at (line + 1 + length rows.0) rows.1 >>= λ ended. Ok rows.0)
      ≡ ((r >>= λ count. Ok (front_from spelling weight plan count.0, count.1)) >>= λ front. text_by front.0 (found_behind front))
  go (Err fault) = refl
  go (Ok count) =
      let here : line + 1 ≡ first_line spelling plan = omega arith in
      ap (rest_of_text spelling weight plan) (body_by_rows spelling.width count.0 (line + 1) count.1 ∙ ap (λ n. body_of count.0 n (rows_while spelling.width count.1)) here)

pub text_by_front : (bytes : List ℕ) → text_of bytes ≡ (front_at bytes >>= λ front. text_by front.0 (found_behind front))
unfolding text_of front_at
text_by_front bytes = heads (head_at bytes) where
  plans_done : (head : Spelling) → (weight : Weight) → Result (Option Plan × List ℕ) CertificateFault → Result Text CertificateFault
  plans_done head weight plans = plans >>= λ plan. rest_of_text head weight plan.0 (body_at head.width (weight_line head + 1 + plan_lines plan.0) plan.1)

  plans_front : (head : Spelling) → (weight : Weight) → Result (Option Plan × List ℕ) CertificateFault → Result (Front × List ℕ) CertificateFault
  plans_front head weight plans = plans >>= λ plan. number_at (weight_line head + 1 + plan_lines plan.0) (codes "rows ") plan.1 >>= λ count. Ok (front_from head weight plan.0 count.0, count.1)

  plans : (head : Spelling) (weight : Weight) (r : Result (Option Plan × List ℕ) CertificateFault) → plans_done head weight r ≡ (plans_front head weight r >>= λ front. text_by front.0 (found_behind front))
  plans head weight (Err fault) = refl
  plans head weight (Ok plan) = body_behind head weight plan.0 plan.1

  weights : (head : Spelling) (r : Result (Weight × List ℕ) CertificateFault)
      → (r >>= λ weight. plans_done head weight.0 (plan_at (weight_line head + 1) weight.1)) ≡ ((r >>= λ weight. plans_front head weight.0 (plan_at (weight_line head + 1) weight.1)) >>= λ front. text_by front.0 (found_behind front))
  weights head (Err fault) = refl
  weights head (Ok weight) = plans head weight.0 (plan_at (weight_line head + 1) weight.1)

  heads : (r : Result (Spelling × List ℕ) CertificateFault)
      → (r >>= λ head. weight_at (weight_line head.0) head.1 >>= λ weight. plans_done head.0 weight.0 (plan_at (weight_line head.0 + 1) weight.1))
      ≡ ((r >>= λ head. weight_at (weight_line head.0) head.1 >>= λ weight. plans_front head.0 weight.0 (plan_at (weight_line head.0 + 1) weight.1)) >>= λ front. text_by front.0 (found_behind front))
  heads (Err fault) = refl
  heads (Ok head) = weights head.0 (weight_at (weight_line head.0) head.1)

-- what fails before the rows fails
pub front_fails : (e : CheckError) (bytes : List ℕ) → Fails e (front_at bytes) → Fails e (text_of bytes)
front_fails errors.Memory bytes h = tt
front_fails (errors.Fault fault) bytes h = text_by_front bytes ∙ ap (λ r. r >>= λ front. text_by front.0 (found_behind front)) h

-- what is given behind the front is given
pub behind_front : (bytes : List ℕ) (front : Front) (rest : List ℕ) (r : Result Text CheckError) → front_at bytes ≡ Ok (front, rest)
    → GivesKept r (text_by front (rows_while front.spelling.width rest)) → GivesKept r (text_of bytes)
behind_front bytes front rest r is h =
    subst (GivesKept r) (sym (text_by_front bytes ∙ ap (λ r. r >>= λ front. text_by front.0 (found_behind front)) is)) h

-- where the rows are as many as stated and the end follows, the text is the one with these rows
pub text_passes : (front : Front) (found : RowsThen) (count : ℕ) (rest : List ℕ) (x : Bool) → count ≡ length found.0 → rest ≡ found.1
    → ending front.count front.first count rest ≡ Ok x → text_by front found ≡ Ok (text_with front found.0)
text_passes front found count rest x count_is rest_is ends =
    let same : ending front.count front.first (length found.0) found.1 ≡ Ok x =
    ap (λ (n : ℕ). ending front.count front.first n found.1) (sym count_is) ∙ ap (λ (t : List ℕ). ending front.count front.first count t) (sym rest_is) ∙ ends in
    ap (λ (r : Result Bool CertificateFault). (r >>= λ ended. Ok found.0) >>= λ rows. Ok (text_with front rows)) same
