-- A certificate that was read, saved anew: one of version 1 in version 2, with as many digits a
-- state as its task needs, and others as they are.
use Rattle.std.specs.Prelude.{◌≡◌, ◌≢◌, ℕ, zero, suc, ◌-◌, ◌^◌, ◌<◌, ◌≤◌, List, [], ◌∷◌, ◌++◌, length, drop, All, Result, Ok, Err, if◌then◌else◌, nat_lt, nat_le}
use Rattle.pb_packed.specs.Sizes.{version_1_digits, most_digits}
use Rattle.pb_model.specs.Texts.{lines}
use Rattle.pb_task.specs.declared.parts.TaskParts.{TaskParts}
use Rattle.pb_task.specs.Widths.{width_of}
use Rattle.pb_estimate.specs.declared.spelling.Version.{Version}
use Rattle.pb_estimate.specs.declared.spelling.Version.TheVariants.{One, Two, Three, Four}
use Rattle.pb_check.specs.declared.fault.CertificateFault.{CertificateFault}
use Rattle.pb_check.specs.Reading.{Text}
use Rattle.pb_check.specs.Reading as reading
use Rattle.pb_check.specs.Spelling.{IsSpelled}
use Rattle.pb_cert.specs.Stated.{SpelledCertificate, text_of, lines_of}

-- ---- the certificate that is saved

-- the version in which a certificate of this version is saved anew
abbrev pub version_anew : Version → Version
version_anew One = Two
version_anew Two = Two
version_anew Three = Three
version_anew Four = Four

-- the certificate that a text spells, in that version and with states of so many digits
abbrev pub saved_anew : (width : ℕ) → Text → SpelledCertificate
saved_anew width text = record {
  spelling = record text.spelling { version = version_anew text.spelling.version; width = width };
  certificate = text.certificate;
}

-- its text; what is no certificate has none
abbrev pub text_anew : (width : ℕ) → Result Text CertificateFault → List ℕ
text_anew width (Ok text) = text_of (saved_anew width text)
text_anew width (Err fault) = []

-- what is saved of the bytes of a certificate of this task: the same weight, plan and rows
abbrev pub rewritten_text : TaskParts → (bytes : List ℕ) → List ℕ
rewritten_text parts bytes = text_anew (width_of parts) (reading.text_of bytes)

-- ---- line by line

-- so many digits 0
abbrev pub zeros : ℕ → List ℕ
zeros zero = []
zeros (suc n) = 48 ∷ zeros n

-- A row of version 1, which begins with its state: the digits 0 in front that are too many are left
-- out, or as many as are too few are put there.
abbrev pub with_digits : (width : ℕ) → List ℕ → List ℕ
with_digits width row = zeros (width - version_1_digits) ++ drop (version_1_digits - width) row

-- a line of version 1 as version 2 has it: only rows are longer than the digits of a state
abbrev pub respelled_line : (width : ℕ) → List ℕ → List ℕ
respelled_line width line =
    if nat_lt version_1_digits (length line) then with_digits width line else line

-- the lines that are saved, and those that were read
abbrev pub lines_anew : (width : ℕ) → Result Text CertificateFault → List (List ℕ)
lines_anew width (Ok text) = lines_of (saved_anew width text)
lines_anew width (Err fault) = []

abbrev pub lines_read : Result Text CertificateFault → List (List ℕ)
lines_read (Ok text) =
    lines_of (record { spelling = text.spelling; certificate = text.certificate })
lines_read (Err fault) = []

-- ---- what a contract sees of a certificate that is saved anew

-- the bytes that it was read from, their version, and how many digits its states get
pub record Rewritten : Type 0 where
  pub bytes : List ℕ
  pub from : Version
  pub width : ℕ

-- the bytes spell a certificate of this version whose states have no more digits than that
pub record CanBeRewritten (bytes : List ℕ) (from : Version) (width : ℕ) : Type 0 where
  pub text : Text
  pub read : reading.text_of bytes ≡ Ok text
  pub spelled : IsSpelled bytes text.spelling text.certificate
  pub version : text.spelling.version ≡ from
  pub some : 1 ≤ width
  pub most : width ≤ most_digits
  pub states : All (λ line. line.state < 16 ^ width) text.certificate.lines
  pub same : from ≢ One → text.spelling.width ≡ width

-- the text that is saved
abbrev pub text_saved : Rewritten → List ℕ
text_saved it = text_anew it.width (reading.text_of it.bytes)

abbrev pub lines_saved : Rewritten → List (List ℕ)
lines_saved it = lines_anew it.width (reading.text_of it.bytes)

-- how many of the lines that were read come before the line of this number. In version 1 the line
-- that says how many digits a state has is in none of them.
abbrev pub lines_before : Version → (at : ℕ) → ℕ
lines_before One at = if nat_le at 2 then at else at - 1
lines_before Two at = at
lines_before Three at = at
lines_before Four at = at

-- what was read from this byte on are the lines that the line of this number, and those after it,
-- are made of
abbrev pub Begins : Rewritten → (at begin : ℕ) → Type 0
Begins it at begin =
    (begin ≤ length it.bytes)
    × (drop begin it.bytes
    ≡ lines (drop (lines_before it.from at) (lines_read (reading.text_of it.bytes))))
