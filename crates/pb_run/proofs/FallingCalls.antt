-- Parts that are handed out, all of them or up to a call that fails: what the calls tell of the parts
-- before that one, and of that one.
use Rattle.std.proofs.Common.{◌≡◌, inl, inr, ℕ, List, [], ◌∷◌, ◌++◌, take, drop, refl, sym, ap, ◌∙◌, append_assoc, append-nil}
use Rattle.std.specs.List.{concat}
use Rattle.std.proofs.lemmas.List.{take-append-drop}
use Rattle.pb_outside.specs.Calls.{Call, Created, AppendFailed, append_calls}
use Rattle.pb_answer.specs.Outputs.{Output, output}
use Rattle.pb_answer.specs.Parts.{AnswerPart, outputs_of, report_of}
use Rattle.pb_run.specs.Calls.{loaded_texts, appended_bytes, outputs_in, put_bytes, SaveAll, FailToSaveAll}
use Rattle.pb_run.specs.Handing.{HandsOutAll, FailsInSaves, FailsInPuts}
use Rattle.pb_run.specs.FallingHeadline.{IsBegun}
use Rattle.pb_run.proofs.CallLists.{pieces_load_none, pieces_save_none, pieces_joined, saves_tell, failures_tell}

-- ---- files that are saved, with other calls after them

pub record TellThen (own rest : List Call) (outputs : List Output) : Type 0 where
  pub none_loaded : loaded_texts (own ++ rest) ≡ loaded_texts rest
  pub saved : outputs_in (own ++ rest) ≡ outputs ++ outputs_in rest
  pub joined : appended_bytes (own ++ rest) ≡ []

-- the calls after them append nothing to the last of these files
saves_then : (own rest : List Call) (outputs : List Output) → appended_bytes rest ≡ [] → SaveAll own outputs → TellThen own rest outputs
saves_then own rest [] joined is = record {
  none_loaded = ap (λ (calls : List Call). loaded_texts (calls ++ rest)) is;
  saved = ap (λ (calls : List Call). outputs_in (calls ++ rest)) is;
  joined = ap (λ (calls : List Call). appended_bytes (calls ++ rest)) is ∙ joined;
}
saves_then own rest (first ∷ outputs) joined (mine, others, is, text, more) =
    let pieces = text.pieces in
    let later = saves_then others rest outputs joined more in
    let all : own ++ rest ≡ Created first.name ∷ (append_calls first.name pieces ++ (others ++ rest)) =
    ap (λ (calls : List Call). calls ++ rest) (is ∙ ap (λ (calls : List Call). calls ++ others) text.are)
    ∙ ap (λ (calls : List Call). Created first.name ∷ calls) (append_assoc (append_calls first.name pieces) others rest) in
    let bytes : appended_bytes (append_calls first.name pieces ++ (others ++ rest)) ≡ first.text =
    pieces_joined first.name pieces (others ++ rest) ∙ ap (λ t. concat pieces ++ t) later.joined ∙ append-nil (concat pieces) ∙ text.text_is in
    record {
      none_loaded = ap loaded_texts all ∙ pieces_load_none first.name pieces (others ++ rest) ∙ later.none_loaded;
      saved = ap outputs_in all ∙ (λ i. output first.name (bytes i) ∷ (pieces_save_none first.name pieces (others ++ rest) ∙ later.saved) i);
      joined = ap appended_bytes all;
    }

-- ---- all parts

pub record TellAll (parts : List AnswerPart) (saves sink : List Call) : Type 0 where
  pub none_loaded : loaded_texts saves ≡ []
  pub joined : appended_bytes saves ≡ []
  pub saved : outputs_in saves ≡ outputs_of parts
  pub printed : put_bytes sink ≡ report_of parts

pub all_tell : (parts : List AnswerPart) (saves sink : List Call) → HandsOutAll parts saves sink → TellAll parts saves sink
all_tell [] saves sink (no_saves, no_sink) =
    record { none_loaded = ap loaded_texts no_saves; joined = ap appended_bytes no_saves; saved = ap outputs_in no_saves; printed = ap put_bytes no_sink }
all_tell (part ∷ parts) saves sink (saves', sink', one, more) =
    let later = all_tell parts saves' sink' more in
    let mine = saves_then one.own saves' part.outputs later.joined one.saved in
    record {
      none_loaded = ap loaded_texts one.saves_are ∙ mine.none_loaded ∙ later.none_loaded;
      joined = ap appended_bytes one.saves_are ∙ mine.joined;
      saved = ap outputs_in one.saves_are ∙ mine.saved ∙ ap (λ (os : List Output). part.outputs ++ os) later.saved;
      printed = ap put_bytes one.sink_is ∙ ap (λ (text : List ℕ). part.report ++ text) later.printed;
    }

-- ---- up to a file that isn't saved

fails_joined : (own : List Call) (outputs : List Output) → FailToSaveAll own outputs → appended_bytes own ≡ []
fails_joined own [] fails = absurd fails
fails_joined own (first ∷ outputs) (inl (inl is)) = ap appended_bytes is
fails_joined own (first ∷ outputs) (inl (inr broken)) = ap appended_bytes broken.are
fails_joined own (first ∷ outputs) (inr (mine, rest, is, text, others)) =
    ap appended_bytes (is ∙ ap (λ (calls : List Call). calls ++ rest) text.are)

-- the part with that file, and those before it, which are handed out whole
pub record SplitUnsaved (parts : List AnswerPart) (saves sink : List Call) : Type 0 where
  pub before : List AnswerPart
  pub part : AnswerPart
  pub after : List AnswerPart
  pub parts_are : parts ≡ before ++ part ∷ after
  pub own : List Call
  pub fails : FailToSaveAll own part.outputs
  pub none_loaded : loaded_texts saves ≡ []
  pub joined : appended_bytes saves ≡ []
  pub saved : outputs_in saves ≡ outputs_of before ++ outputs_in own
  pub printed : put_bytes sink ≡ report_of before

pub split_unsaved : (parts : List AnswerPart) (saves sink : List Call) → FailsInSaves parts saves sink → SplitUnsaved parts saves sink
split_unsaved [] saves sink none = absurd none
split_unsaved (part ∷ parts) saves sink (inl (fails, no_sink)) = record {
  before = [];
  part = part;
  after = parts;
  parts_are = refl;
  own = saves;
  fails = fails;
  none_loaded = (failures_tell saves part.outputs fails).none_loaded;
  joined = fails_joined saves part.outputs fails;
  saved = refl;
  printed = ap put_bytes no_sink;
}
split_unsaved (part ∷ parts) saves sink (inr (saves', sink', one, more)) =
    let later = split_unsaved parts saves' sink' more in
    let mine = saves_then one.own saves' part.outputs later.joined one.saved in
    record {
      before = part ∷ later.before;
      part = later.part;
      after = later.after;
      parts_are = ap (λ (ps : List AnswerPart). part ∷ ps) later.parts_are;
      own = later.own;
      fails = later.fails;
      none_loaded = ap loaded_texts one.saves_are ∙ mine.none_loaded ∙ later.none_loaded;
      joined = ap appended_bytes one.saves_are ∙ mine.joined;
      saved = ap outputs_in one.saves_are ∙ mine.saved ∙ ap (λ (os : List Output). part.outputs ++ os) later.saved
          ∙ sym (append_assoc part.outputs (outputs_of later.before) (outputs_in later.own));
      printed = ap put_bytes one.sink_is ∙ ap (λ (text : List ℕ). part.report ++ text) later.printed;
    }

-- of a part with one file, that file was begun at most
regroup : (c t d r : List ℕ) → (c ++ (t ++ d)) ++ r ≡ (c ++ t) ++ (d ++ r)
regroup c t d r = simp append_assoc

pub is_begun : (own : List Call) (file : Output) → FailToSaveAll own (file ∷ []) → IsBegun (outputs_in own) file
is_begun own file (inl (inl is)) = inl (ap outputs_in is)
is_begun own file (inl (inr broken)) = inr (concat broken.pieces ++ take broken.kept broken.last, drop broken.kept broken.last ++ broken.rest, text, begun)
  where
    text : file.text ≡ (concat broken.pieces ++ take broken.kept broken.last) ++ (drop broken.kept broken.last ++ broken.rest)
    text = sym broken.text_is
        ∙ ap (λ (t : List ℕ). (concat broken.pieces ++ t) ++ broken.rest) (sym (take-append-drop broken.kept broken.last))
        ∙ regroup (concat broken.pieces) (take broken.kept broken.last) (drop broken.kept broken.last) broken.rest

    bytes : appended_bytes (append_calls file.name broken.pieces ++ AppendFailed file.name broken.last broken.kept ∷ []) ≡ concat broken.pieces ++ take broken.kept broken.last
    bytes = pieces_joined file.name broken.pieces (AppendFailed file.name broken.last broken.kept ∷ []) ∙ ap (λ (t : List ℕ). concat broken.pieces ++ t) (append-nil (take broken.kept broken.last))

    begun : outputs_in own ≡ output file.name (concat broken.pieces ++ take broken.kept broken.last) ∷ []
    begun = ap outputs_in broken.are ∙ (λ i. output file.name (bytes i) ∷ pieces_save_none file.name broken.pieces (AppendFailed file.name broken.last broken.kept ∷ []) i)
is_begun own file (inr (mine, rest, is, text, others)) = absurd others

-- ---- up to a piece that isn't put

pub record SplitUnput (parts : List AnswerPart) (saves sink : List Call) : Type 0 where
  pub before : List AnswerPart
  pub part : AnswerPart
  pub after : List AnswerPart
  pub parts_are : parts ≡ before ++ part ∷ after
  pub kept : ℕ
  pub none_loaded : loaded_texts saves ≡ []
  pub joined : appended_bytes saves ≡ []
  pub saved : outputs_in saves ≡ outputs_of before ++ part.outputs
  pub printed : put_bytes sink ≡ report_of before ++ take kept part.report

pub split_unput : (parts : List AnswerPart) (saves sink : List Call) → FailsInPuts parts saves sink → SplitUnput parts saves sink
split_unput [] saves sink none = absurd none
split_unput (part ∷ parts) saves sink (inl (saved, fails)) =
    let tell = saves_tell saves part.outputs saved in
    record {
      before = [];
      part = part;
      after = parts;
      parts_are = refl;
      kept = fails.kept;
      none_loaded = tell.none_loaded;
      joined = tell.joined;
      saved = tell.saved;
      printed = ap put_bytes fails.sink_is ∙ append-nil (take fails.kept part.report);
    }
split_unput (part ∷ parts) saves sink (inr (saves', sink', one, more)) =
    let later = split_unput parts saves' sink' more in
    let mine = saves_then one.own saves' part.outputs later.joined one.saved in
    record {
      before = part ∷ later.before;
      part = later.part;
      after = later.after;
      parts_are = ap (λ (ps : List AnswerPart). part ∷ ps) later.parts_are;
      kept = later.kept;
      none_loaded = ap loaded_texts one.saves_are ∙ mine.none_loaded ∙ later.none_loaded;
      joined = ap appended_bytes one.saves_are ∙ mine.joined;
      saved = ap outputs_in one.saves_are ∙ mine.saved ∙ ap (λ (os : List Output). part.outputs ++ os) later.saved
          ∙ sym (append_assoc part.outputs (outputs_of later.before) later.part.outputs);
      printed = ap put_bytes one.sink_is ∙ ap (λ (text : List ℕ). part.report ++ text) later.printed
          ∙ sym (append_assoc part.report (report_of later.before) (take later.kept later.part.report));
    }
