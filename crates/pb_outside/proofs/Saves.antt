-- Saving a text piece by piece: what each append does to the file and to the calls, and how many
-- calls there are.
use Rattle.std.proofs.Common.{◌≡◌, ℕ, suc, ◌+◌, ◌≤◌, Option, None, Some, IfSome, List, [], ◌∷◌, ◌++◌, length, take, refl, sym, subst, ap, inl, inr, arith, ◌∙◌, append_assoc, append-nil}
use Rattle.std.specs.Prelude.{IsSome, IsSomeAnd}
use Rattle.std.specs.List.{concat, AllByRecursion}
use Rattle.std.proofs.lemmas.List.{length-append, take-append-le}
use Rattle.pb_outside.specs.Outside.{Files, IfTold, IfHeld, AppendsTo, AppendsPartTo}
use Rattle.pb_outside.specs.Calls.{Call, Created, CreateFailed, Appended, AppendFailed, Notes, NotesAppendFailed, append_calls, save_calls, HasBytes, SaveText, FailToSave}
use Rattle.pb_outside.specs.Saves.{Saves, SavesPart, HoldsPart, IsWritten, IsToldWritten, HaveBegun}
use Rattle.pb_outside.specs.Memory.{ShelfView, file_of, room_of, HasFile, HasRoom}
use Rattle.pb_outside.specs.Laws.{SavesAreBounded, MemoryServes}

-- ---- the file

pub appended : (old new : Files) (name piece text : List ℕ) → AppendsTo old new name piece
    → IsWritten old name piece text → IsWritten new name [] text
appended old new name piece text appends written =
    let there : ◌≡◌ {A = Option (List ℕ)} (Some written.0) (Some appends.0) =
    sym written.1 ∙ appends.1 in
    let same : written.0 ≡ appends.0 = cc in (
      appends.0 ++ piece,
      appends.2,
      append-nil (appends.0 ++ piece)
          ∙ subst (λ bytes. bytes ++ piece ≡ text) same written.2,
    )

pub part_appended : (old new : Files) (name piece text : List ℕ) → AppendsPartTo old new name piece
    → IsWritten old name piece text → HoldsPart new name text
part_appended old new name piece text appends written =
    let part = appends.there written.0 written.1 in (
      length written.0 + part.0,
      small (length written.0) part.0 (length piece) (length text) part.1
          (sym (length-append written.0 piece) ∙ ap length written.2),
      part.2 ∙ ap Some (joined written.0 piece part.0 part.1
          ∙ ap (take (length written.0 + part.0)) written.2),
    )
  where
    small : (n k m all : ℕ) → k ≤ m → n + m ≡ all → n + k ≤ all
    small n k m all le e = omega (arith, le, e)

    joined : (xs ys : List ℕ) (k : ℕ) → k ≤ length ys
        → xs ++ take k ys ≡ take (length xs + k) (xs ++ ys)
    joined [] ys k le = let same : 0 + k ≡ k = omega arith in sym (ap (λ n. take n ys) same)
    joined (x ∷ xs) ys k le =
        let more : suc (length xs) + k ≡ suc (length xs + k) = omega arith in
        ap (λ t. x ∷ t) (joined xs ys k le) ∙ sym (ap (λ n. take n (x ∷ (xs ++ ys))) more)

-- what is added to the text is added to the piece
pub added_written : (files : Files) (name piece new text added : List ℕ) → new ≡ piece ++ added
    → IsWritten files name piece text → IsWritten files name new (text ++ added)
added_written files name piece new text added put written = (
  written.0,
  written.1,
  ap (λ t. written.0 ++ t) put ∙ sym (append_assoc written.0 piece added)
      ∙ ap (λ t. t ++ added) written.2,
)

pub part_of_more : (files : Files) (name text more : List ℕ) → HoldsPart files name text
    → HoldsPart files name (text ++ more)
part_of_more files name text more part = (
  part.0,
  subst (λ n. part.0 ≤ n) (sym (length-append text more)) (omega (arith, part.1)),
  part.2
      ∙ ap Some (sym (take-append-le part.0 text more part.1)),
)

pub all_written : (files : Files) (name : List ℕ) (text whole : List ℕ) → text ≡ whole
    → IsWritten files name [] text → files name ≡ Some whole
all_written files name text whole is written =
    written.1 ∙ ap Some (sym (append-nil written.0) ∙ written.2 ∙ is)

-- ---- one piece more

more_calls : (name : List ℕ) (pieces : List (List ℕ)) (piece : List ℕ)
    → append_calls name (pieces ++ piece ∷ [])
    ≡ append_calls name pieces ++ Appended name piece ∷ []
more_calls name [] piece = refl
more_calls name (first ∷ pieces) piece =
    ap (λ (calls : List Call). Appended name first ∷ calls) (more_calls name pieces piece)

more_bytes : (pieces : List (List ℕ)) (piece : List ℕ)
    → concat (pieces ++ piece ∷ []) ≡ concat pieces ++ piece
more_bytes [] piece = append-nil piece
more_bytes (first ∷ pieces) piece =
    ap (λ t. first ++ t) (more_bytes pieces piece) ∙ sym (append_assoc first (concat pieces) piece)

more_full : (pieces : List (List ℕ)) (piece : List ℕ) → AllByRecursion HasBytes pieces
    → HasBytes piece → AllByRecursion HasBytes (pieces ++ piece ∷ [])
more_full [] piece full has = (has, tt)
more_full (first ∷ pieces) piece full has = (full.0, more_full pieces piece full.1 has)

pub none_begun : (old new : List Call) (name : List ℕ) → new ≡ old ++ save_calls name []
    → HaveBegun old new name [] []
none_begun old new name is = record { pieces = []; full = tt; are = is; text_is = refl }

pub begun_calls : (start old new : List Call) (name piece text : List ℕ) → HasBytes piece
    → Notes old new (Appended name piece) → HaveBegun start old name piece text
    → HaveBegun start new name [] text
begun_calls start old new name piece text has noted begun = record {
  pieces = begun.pieces ++ piece ∷ [];
  full = more_full begun.pieces piece begun.full has;
  are = noted ∙ ap (λ (calls : List Call). calls ++ Appended name piece ∷ []) begun.are
      ∙ append_assoc start (save_calls name begun.pieces) (Appended name piece ∷ [])
      ∙ ap (λ (calls : List Call). start ++ Created name ∷ calls)
      (sym (more_calls name begun.pieces piece));
  text_is = append-nil (concat (begun.pieces ++ piece ∷ [])) ∙ more_bytes begun.pieces piece
      ∙ begun.text_is;
}

pub added_begun : (start now : List Call) (name piece new text added : List ℕ)
    → new ≡ piece ++ added → HaveBegun start now name piece text
    → HaveBegun start now name new (text ++ added)
added_begun start now name piece new text added put begun = record {
  pieces = begun.pieces;
  full = begun.full;
  are = begun.are;
  text_is = ap (λ t. concat begun.pieces ++ t) put
      ∙ sym (append_assoc (concat begun.pieces) piece added) ∙ ap (λ t. t ++ added) begun.text_is;
}

-- ---- the last call

pub create_failed : (start now : List Call) (name text : List ℕ)
    → now ≡ start ++ CreateFailed name ∷ [] → SavesPart start now name text
create_failed start now name text is = (CreateFailed name ∷ [], is, inl refl)

pub failed_calls : (start old new : List Call) (files files' : Option Files)
    (name piece text : List ℕ) → HasBytes piece → NotesAppendFailed old new files files' name piece
    → HaveBegun start old name piece text → SavesPart start new name text
failed_calls start old new files files' name piece text has failed begun = (
  save_calls name begun.pieces ++ AppendFailed name piece failed.kept ∷ [],
  failed.noted ∙ ap (λ (calls : List Call). calls ++ AppendFailed name piece failed.kept ∷ [])
      begun.are ∙ append_assoc start (save_calls name begun.pieces)
      (AppendFailed name piece failed.kept ∷ []),
  inr (record {
    pieces = begun.pieces;
    last = piece;
    kept = failed.kept;
    rest = [];
    full = begun.full;
    last_full = has;
    within = failed.within;
    are = refl;
    text_is = append-nil (concat begun.pieces ++ piece) ∙ begun.text_is;
  }),
)

pub failed_more : (start now : List Call) (name text more : List ℕ) → SavesPart start now name text
    → SavesPart start now name (text ++ more)
failed_more start now name text more (calls, is, inl first) = (calls, is, inl first)
failed_more start now name text more (calls, is, inr broken) = (
  calls,
  is,
  inr (record {
    pieces = broken.pieces;
    last = broken.last;
    kept = broken.kept;
    rest = broken.rest ++ more;
    full = broken.full;
    last_full = broken.last_full;
    within = broken.within;
    are = broken.are;
    text_is = sym (append_assoc (concat broken.pieces ++ broken.last) broken.rest more)
        ∙ ap (λ t. t ++ more) broken.text_is;
  }),
)

pub all_called : (start now : List Call) (name text whole : List ℕ) → text ≡ whole
    → HaveBegun start now name [] text → Saves start now name whole
all_called start now name text whole is begun = (
  save_calls name begun.pieces,
  begun.are,
  record {
    pieces = begun.pieces;
    full = begun.full;
    are = refl;
    text_is = sym (append-nil (concat begun.pieces)) ∙ begun.text_is ∙ is;
  },
)

-- ---- what the shelf can hold

pub held : (files : Option Files) (name piece text : List ℕ) (n : ℕ) (holds : ℕ → Type 0)
    (P : Type 0) → IsToldWritten files name piece text → length text ≤ n → holds n
    → IfHeld files name (length piece) holds P → P
held None name piece text n holds P written fits can sure = absurd written
held (Some told) name piece text n holds P (bytes, is, joined) fits can sure =
    let all = sym (length-append bytes piece) ∙ ap length joined in
    subst (λ (o : Option (List ℕ)). IfSome o
    (λ bytes. (m : ℕ) → holds m → length bytes + length piece ≤ m → P))
    is sure n can (omega (arith, all, fits))

pub told_now : (a b : Option Files) (name piece text : List ℕ) → IsSome a
    → IfTold a b (λ old new. IsWritten new name piece text) → IsToldWritten b name piece text
told_now (Some x) (Some y) name piece text some written = written
told_now (Some x) None name piece text some written = absurd written
told_now None b name piece text some written = cc

-- ---- how many calls there are

few_pieces : (pieces : List (List ℕ)) → AllByRecursion HasBytes pieces
    → length pieces ≤ length (concat pieces)
few_pieces [] full = omega arith
few_pieces (piece ∷ pieces) full =
    let all = length-append piece (concat pieces) in
    omega (arith, few_pieces pieces full.1, all, full.0)

one_each : (name : List ℕ) (pieces : List (List ℕ))
    → length (append_calls name pieces) ≡ length pieces
one_each name [] = refl
one_each name (piece ∷ pieces) = ap suc (one_each name pieces)

pub saves_are_bounded : SavesAreBounded
saves_are_bounded = record { saved = saved; failed = failed } where
  saved : (calls : List Call) (name text : List ℕ) → SaveText calls name text
      → length calls ≤ length text + 1
  saved calls name text is =
      let count = ap length is.are in
      let each = one_each name is.pieces in
      let all = ap length is.text_is in
      omega (arith, few_pieces is.pieces is.full, count, each, all)

  failed : (calls : List Call) (name text : List ℕ) → FailToSave calls name text
      → length calls ≤ length text + 1
  failed calls name text (inl is) = let count = ap length is in omega (arith, count)
  failed calls name text (inr is) =
      let count = ap length is.are
      ∙ length-append (save_calls name is.pieces) (AppendFailed name is.last is.kept ∷ []) in
      let each = one_each name is.pieces in
      let all = sym (length-append (concat is.pieces ++ is.last) is.rest) ∙ ap length is.text_is in
      let first = length-append (concat is.pieces) is.last in
      omega (arith, few_pieces is.pieces is.full, is.last_full, count, each, all, first)

-- ---- the fakes

pub memory_serves : MemoryServes
memory_serves = record {
  loads = loads;
  holds = holds;
  takes = λ sink n none fits. (none, fits);
} where
  loads : (shelf : ShelfView) (name bytes : List ℕ) → shelf.calls.listed ≡ []
      → file_of shelf name ≡ Some bytes → HasFile shelf name
  loads shelf name bytes none is = (none, cc is)

  holds : (shelf : ShelfView) (name : List ℕ) (room n : ℕ) → shelf.calls.listed ≡ []
      → room_of shelf name ≡ Some room → n ≤ room → HasRoom shelf name n
  holds shelf name room n none is fits =
      (none, subst (λ (o : Option ℕ). IsSomeAnd o (λ room. n ≤ room)) (sym is) fits)
