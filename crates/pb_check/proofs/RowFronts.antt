-- The row that a text begins with.
use Rattle.std.proofs.Common.{◌≡◌, ℕ, suc, ◌+◌, ◌≤◌, Bool, true, false, not, cond, eqb, Option, None, Some, List, [], ◌∷◌, ◌++◌, length, Result, Ok, Err, refl, sym, ap, ◌∙◌, arith, append_assoc, length-append}
use Rattle.std.specs.Prelude.{codes}
use Rattle.std.proofs.lemmas.Bool.{eqb-true}
use Rattle.pb_model.specs.Certificate.{Line}
use Rattle.pb_lines.specs.Words.{part, place_of, is_text, has_none}
use Rattle.pb_lines.proofs.Callers.{part_is, part_again, text_is, both}
use Rattle.pb_check.specs.Words.{state_of}
use Rattle.pb_lines.specs.Words.{number_of}
use Rattle.pb_check.specs.declared.fault.CertificateFault.{CertificateFault}
use Rattle.pb_check.specs.declared.fault.CertificateFault.TheVariants.{Syntax}
use Rattle.pb_check.specs.Faults.{◌>>=◌, wanted}
use Rattle.pb_check.specs.Reading.{line_at, closed_in, row_in, row_at, fixed_at, end_at}
use Rattle.pb_check.specs.Fronts.{given, row_front, is_whole}

-- ---- the line matters to the fault alone

abbrev IsUniform : {A : Type 0} → (read : (line : ℕ) → Result A CertificateFault) → Type 0
IsUniform read = (line : ℕ) → read line ≡ wanted line (given (read 0))

wanted_uniform : {A : Type 0} (o : Option A) → IsUniform (λ line. wanted line o)
wanted_uniform None line = refl
wanted_uniform (Some x) line = refl

then_uniform : {A B : Type 0} (r : ℕ → Result A CertificateFault) (f : ℕ → A → Result B CertificateFault) → IsUniform r → ((x : A) → IsUniform (λ line. f line x)) → IsUniform (λ line. r line >>= f line)
then_uniform {A} {B} r f one more line = go (r 0) (r line) (one line) where
  go : (z l : Result A CertificateFault) → l ≡ wanted line (given z) → (l >>= f line) ≡ wanted line (given (z >>= f 0))
  go (Ok x) l e = ap (λ s. s >>= f line) e ∙ more x line
  go (Err d) l e = ap (λ s. s >>= f line) e

ok_uniform : {A : Type 0} (x : A) → IsUniform (λ line. Ok x)
ok_uniform x line = refl

closed_uniform : (text : List ℕ) → IsUniform (λ line. closed_in line text)
unfolding closed_in
closed_uniform text line = go (is_text (codes "closed") text) (is_text (codes "cut") text) where
  go : (a b : Bool) → cond a (Ok true) (cond b (Ok false) (Err (Syntax line))) ≡ wanted line (given (cond a (Ok true) (cond b (Ok false) (Err (Syntax 0)))))
  go true b = refl
  go false true = refl
  go false false = refl

row_in_uniform : (width : ℕ) (text : List ℕ) → IsUniform (λ line. row_in width line text)
unfolding row_in
row_in_uniform width text =
    then_uniform (λ line. wanted line (part 32 text)) (λ line front. wanted line (part 32 front.1) >>= λ back. wanted line (state_of width front.0) >>= λ state. wanted line (number_of back.0) >>= λ g. closed_in line back.1 >>= λ c. Ok (record { state = state; g = g; is_closed = c }))
    (wanted_uniform (part 32 text)) (λ front. then_uniform (λ line. wanted line (part 32 front.1)) (λ line back. wanted line (state_of width front.0) >>= λ state. wanted line (number_of back.0) >>= λ g. closed_in line back.1 >>= λ c. Ok (record { state = state; g = g; is_closed = c }))
    (wanted_uniform (part 32 front.1)) (λ back. then_uniform (λ line. wanted line (state_of width front.0)) (λ line state. wanted line (number_of back.0) >>= λ g. closed_in line back.1 >>= λ c. Ok (record { state = state; g = g; is_closed = c }))
    (wanted_uniform (state_of width front.0)) (λ state. then_uniform (λ line. wanted line (number_of back.0)) (λ line g. closed_in line back.1 >>= λ c. Ok (record { state = state; g = g; is_closed = c }))
    (wanted_uniform (number_of back.0)) (λ g. then_uniform (λ line. closed_in line back.1) (λ line c. Ok (record { state = state; g = g; is_closed = c }))
    (closed_uniform back.1) (λ c. ok_uniform (record { state = state; g = g; is_closed = c }))))))

pub row_at_is : (width line : ℕ) (text : List ℕ) → row_at width line text ≡ wanted line (row_front width text)
unfolding row_at
row_at_is width line text = then_uniform (λ line. line_at line text) (λ line first. row_in width line first.0 >>= λ row. Ok (row, first.1)) (wanted_uniform (part 10 text))
    (λ first. then_uniform (λ line. row_in width line first.0) (λ line row. Ok (row, first.1)) (row_in_uniform width first.0) (λ row. ok_uniform (row, first.1))) line

-- ---- by the first line

abbrev pub followed : (rest : List ℕ) → Option Line → Option (Line × List ℕ)
followed rest None = None
followed rest (Some row) = Some (row, rest)

abbrev pub front_of : (width : ℕ) → Option (List ℕ × List ℕ) → Option (Line × List ℕ)
front_of width None = None
front_of width (Some x) = followed x.1 (given (row_in width 0 x.0))

pub front_is : (width : ℕ) (text : List ℕ) → row_front width text ≡ front_of width (part 10 text)
unfolding row_at
front_is width text = go (part 10 text) where
  one : (rest : List ℕ) (r : Result Line CertificateFault) → given (r >>= λ row. Ok (row, rest)) ≡ followed rest (given r)
  one rest (Ok row) = refl
  one rest (Err d) = refl

  go : (o : Option (List ℕ × List ℕ)) → given (wanted 0 o >>= λ first. row_in width 0 first.0 >>= λ row. Ok (row, first.1)) ≡ front_of width o
  go None = refl
  go (Some x) = one x.1 (row_in width 0 x.0)

pub front_nil : (width : ℕ) → row_front width [] ≡ None
unfolding place_of
front_nil width = front_is width []

pub record BeginsWithRow (width : ℕ) (text : List ℕ) (first : Line × List ℕ) : Type 0 where
  pub line : List ℕ
  pub cut : part 10 text ≡ Some (line, first.1)
  pub row : given (row_in width 0 line) ≡ Some first.0

pub begins : (width : ℕ) (text : List ℕ) (first : Line × List ℕ) → row_front width text ≡ Some first → BeginsWithRow width text first
begins width text first e = go (part 10 text) refl (sym (front_is width text) ∙ e) where
  go : (o : Option (List ℕ × List ℕ)) → part 10 text ≡ o → front_of width o ≡ Some first → BeginsWithRow width text first
  go None is e = absurd cc
  go (Some x) is e = row (given (row_in width 0 x.0)) refl e where
    row : (r : Option Line) → given (row_in width 0 x.0) ≡ r → followed x.1 r ≡ Some first → BeginsWithRow width text first
    row None r e = absurd cc
    row (Some l) r e =
        let same : (l, x.1) ≡ first = cc in
        record { line = x.0; cut = is ∙ ap (λ (f : Line × List ℕ). Some (x.0, f.1)) same; row = r ∙ ap (λ (f : Line × List ℕ). Some f.0) same }

pub front_shorter : (width : ℕ) (text : List ℕ) (first : Line × List ℕ) → row_front width text ≡ Some first → length first.1 + 1 ≤ length text
front_shorter width text first e =
    let b = begins width text first e in
    let n : length text ≡ length b.line + suc (length first.1) = ap length (part_is 10 text b.line first.1 b.cut) ∙ length-append b.line (10 ∷ first.1) in
    omega (arith, n)

-- ---- a row is no end

pub not_end : (width line : ℕ) (text : List ℕ) (first : Line × List ℕ) → row_front width text ≡ Some first → end_at line text ≡ Err (Syntax line)
unfolding end_at fixed_at row_in place_of
not_end width line text first e =
    let b = begins width text first e in go b (is_text (codes "end") b.line) refl where
      go : (b : BeginsWithRow width text first) (t : Bool) → is_text (codes "end") b.line ≡ t → end_at line text ≡ Err (Syntax line)
      go b true is =
          let same : b.line ≡ codes "end" = text_is (codes "end") b.line is in
          let none : given (row_in width 0 b.line) ≡ None = ap (λ (t : List ℕ). given (row_in width 0 t)) same in
          absurd (no (given (row_in width 0 b.line)) none b.row) where
            no : (r : Option Line) → r ≡ None → r ≡ Some first.0 → ⊥
            no None x y = cc
            no (Some z) x y = cc
      go b false is =
          ap (λ o. wanted line o >>= (λ x. cond (is_text (codes "end") x.0) (Ok x.1) (Err (Syntax line))) >>= λ rest. cond (eqb (length rest) 0) (Ok true) (Err (Syntax (line + 1)))) b.cut
          ∙ ap (λ t. cond t (Ok first.1) (Err (Syntax line)) >>= λ rest. cond (eqb (length rest) 0) (Ok true) (Err (Syntax (line + 1)))) is

-- ---- a whole text has a first line, and the text after it is whole

pub record HasLine (text : List ℕ) : Type 0 where
  pub line : List ℕ
  pub rest : List ℕ
  pub is : text ≡ line ++ 10 ∷ rest
  pub none : has_none 10 line ≡ true
  pub whole : is_whole rest ≡ true

pub has_line : (b : ℕ) (bs : List ℕ) → is_whole (b ∷ bs) ≡ true → HasLine (b ∷ bs)
has_line b [] w = record { line = []; rest = []; is = ap (λ (c : ℕ). c ∷ []) (eqb-true b 10 w); none = refl; whole = refl }
has_line b (c ∷ cs) w = go (eqb b 10) refl (has_line c cs w) where
  go : (t : Bool) → eqb b 10 ≡ t → HasLine (c ∷ cs) → HasLine (b ∷ c ∷ cs)
  go true e h = record { line = []; rest = c ∷ cs; is = ap (λ (d : ℕ). d ∷ c ∷ cs) (eqb-true b 10 e); none = refl; whole = w }
  go false e h = record { line = b ∷ h.line; rest = h.rest; is = ap (λ (t : List ℕ). b ∷ t) h.is; none = both (not (eqb b 10)) (has_none 10 h.line) (ap not e) h.none; whole = h.whole }

pub cut_here : (text : List ℕ) (h : HasLine text) → part 10 text ≡ Some (h.line, h.rest)
cut_here text h = ap (part 10) h.is ∙ part_again 10 h.line h.rest h.none

pub cut_there : (text : List ℕ) (h : HasLine text) (more : List ℕ) → part 10 (text ++ more) ≡ Some (h.line, h.rest ++ more)
cut_there text h more =
    let same : text ++ more ≡ h.line ++ 10 ∷ (h.rest ++ more) = ap (λ (t : List ℕ). t ++ more) h.is ∙ append_assoc h.line (10 ∷ h.rest) more in
    ap (part 10) same ∙ part_again 10 h.line (h.rest ++ more) h.none
