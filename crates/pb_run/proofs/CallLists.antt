-- What lists of calls tell: those of loads, and those that save files.
use Rattle.std.proofs.Common.{◌≡◌, inl, inr, ℕ, ◌<◌, ◌≤◌, true, false, Option, None, Some, IfSome, List, [], ◌∷◌, ◌++◌, length, map, drop, get_or, refl, sym, ap, ◌∙◌, arith, append_assoc, append-nil}
use Rattle.std.specs.List.{concat}
use Rattle.pb_outside.specs.declared.shelf.Load.{Load}
use Rattle.pb_outside.specs.declared.shelf.Load.TheVariants.{Failed, TooLong, Memory}
use Rattle.pb_outside.specs.Calls.{Call, Loaded, LoadFailed, Created, AppendFailed, append_calls, IsNoFault}
use Rattle.pb_run.specs.Asked.{Wanted}
use Rattle.pb_answer.specs.Outputs.{Output, output}
use Rattle.pb_run.specs.Calls.{loaded_texts, appended_bytes, outputs_in, have_failed, load_calls, EndLoads, SaveAll, FailToSaveAll, calls_since}

-- ---- calls that were made since

pub since_is : (old own : List Call) → calls_since old (old ++ own) ≡ own
since_is [] own = refl
since_is (call ∷ old) own = since_is old own

-- ---- loads

pub loads_tell : (files : List Wanted) (texts : List (List ℕ)) (unloaded : Option Load) (saves : List Call) → length texts ≤ length files
    → loaded_texts (load_calls files texts unloaded ++ saves) ≡ texts ++ loaded_texts saves
loads_tell [] [] unloaded saves few = refl
loads_tell [] (text ∷ texts) unloaded saves few = absurd (omega (arith, few))
loads_tell (file ∷ files) [] None saves few = refl
loads_tell (file ∷ files) [] (Some why) saves few = refl
loads_tell (file ∷ files) (text ∷ texts) unloaded saves few = ap (λ (others : List (List ℕ)). text ∷ others) (loads_tell files texts unloaded saves (omega (arith, few)))

pub loads_save_none : (files : List Wanted) (texts : List (List ℕ)) (unloaded : Option Load) (saves : List Call) → outputs_in (load_calls files texts unloaded ++ saves) ≡ outputs_in saves
loads_save_none [] texts unloaded saves = refl
loads_save_none (file ∷ files) [] None saves = refl
loads_save_none (file ∷ files) [] (Some why) saves = refl
loads_save_none (file ∷ files) (text ∷ texts) unloaded saves = loads_save_none files texts unloaded saves

pub loads_fail_none : (files : List Wanted) (texts : List (List ℕ)) (unloaded : Option Load) (saves : List Call) → IfSome unloaded IsNoFault
    → have_failed (load_calls files texts unloaded ++ saves) ≡ have_failed saves
loads_fail_none [] texts unloaded saves none = refl
loads_fail_none (file ∷ files) [] None saves none = refl
loads_fail_none (file ∷ files) [] (Some Failed) saves none = absurd none
loads_fail_none (file ∷ files) [] (Some (TooLong seen)) saves none = refl
loads_fail_none (file ∷ files) [] (Some Memory) saves none = refl
loads_fail_none (file ∷ files) (text ∷ texts) unloaded saves none = loads_fail_none files texts unloaded saves none

pub loads_fail : (files : List Wanted) (texts : List (List ℕ)) → length texts < length files → have_failed (load_calls files texts (Some Failed)) ≡ true
loads_fail [] texts less = absurd (omega (arith, less))
loads_fail (file ∷ files) [] less = refl
loads_fail (file ∷ files) (text ∷ texts) less = loads_fail files texts (omega (arith, less))

pub ended_few : (files : List Wanted) (texts : List (List ℕ)) (unloaded : Option Load) → EndLoads files texts unloaded → length texts ≤ length files
ended_few files texts None ends = omega (arith, ends)
ended_few files texts (Some Failed) ends = absurd ends
ended_few files texts (Some (TooLong seen)) ends = omega (arith, ends)
ended_few files texts (Some Memory) ends = absurd ends

pub ended_no_fault : (files : List Wanted) (texts : List (List ℕ)) (unloaded : Option Load) → EndLoads files texts unloaded → IfSome unloaded IsNoFault
ended_no_fault files texts None ends = tt
ended_no_fault files texts (Some Failed) ends = absurd ends
ended_no_fault files texts (Some (TooLong seen)) ends = tt
ended_no_fault files texts (Some Memory) ends = absurd ends

pub no_loads : (files : List Wanted) → load_calls files [] None ≡ []
no_loads [] = refl
no_loads (file ∷ files) = refl

-- one file more
pub load_more : (files rest : List Wanted) (file : Wanted) (texts : List (List ℕ)) (text : List ℕ) → drop (length texts) files ≡ file ∷ rest
    → load_calls files (texts ++ text ∷ []) None ≡ load_calls files texts None ++ Loaded file.name file.most text ∷ []
load_more [] rest file [] text is = cc
load_more [] rest file (first ∷ texts) text is = cc
load_more (one ∷ files) rest file [] text is =
    let same : one ≡ file = ap (λ (l : List Wanted). get_or l 0 file) is in
    ap (λ (f : Wanted). Loaded f.name f.most text ∷ load_calls files [] None) same ∙ ap (λ (l : List Call). Loaded file.name file.most text ∷ l) (no_loads files)
load_more (one ∷ files) rest file (first ∷ texts) text is = ap (λ (l : List Call). Loaded one.name one.most first ∷ l) (load_more files rest file texts text is)

pub load_fails : (files rest : List Wanted) (file : Wanted) (texts : List (List ℕ)) (why : Load) → drop (length texts) files ≡ file ∷ rest
    → load_calls files texts (Some why) ≡ load_calls files texts None ++ LoadFailed file.name file.most why ∷ []
load_fails [] rest file [] why is = cc
load_fails [] rest file (first ∷ texts) why is = cc
load_fails (one ∷ files) rest file [] why is = ap (λ (f : Wanted). LoadFailed f.name f.most why ∷ []) (ap (λ (l : List Wanted). get_or l 0 file) is)
load_fails (one ∷ files) rest file (first ∷ texts) why is = ap (λ (l : List Call). Loaded one.name one.most first ∷ l) (load_fails files rest file texts why is)

-- ---- a file that is saved

pub pieces_load_none : (name : List ℕ) (pieces : List (List ℕ)) (more : List Call) → loaded_texts (append_calls name pieces ++ more) ≡ loaded_texts more
pieces_load_none name [] more = refl
pieces_load_none name (piece ∷ pieces) more = pieces_load_none name pieces more

pub pieces_save_none : (name : List ℕ) (pieces : List (List ℕ)) (more : List Call) → outputs_in (append_calls name pieces ++ more) ≡ outputs_in more
pieces_save_none name [] more = refl
pieces_save_none name (piece ∷ pieces) more = pieces_save_none name pieces more

pub pieces_joined : (name : List ℕ) (pieces : List (List ℕ)) (more : List Call) → appended_bytes (append_calls name pieces ++ more) ≡ concat pieces ++ appended_bytes more
pieces_joined name [] more = refl
pieces_joined name (piece ∷ pieces) more = ap (λ t. piece ++ t) (pieces_joined name pieces more) ∙ sym (append_assoc piece (concat pieces) (appended_bytes more))

pub pieces_fail_none : (name : List ℕ) (pieces : List (List ℕ)) (more : List Call) → have_failed (append_calls name pieces ++ more) ≡ have_failed more
pieces_fail_none name [] more = refl
pieces_fail_none name (piece ∷ pieces) more = pieces_fail_none name pieces more

-- ---- files that are saved

-- what the calls that save files tell
pub record TellOf (saves : List Call) (outputs : List Output) : Type 0 where
  pub none_loaded : loaded_texts saves ≡ []
  pub saved : outputs_in saves ≡ outputs
  pub joined : appended_bytes saves ≡ []
  pub none_failed : have_failed saves ≡ false

pub saves_tell : (saves : List Call) (outputs : List Output) → SaveAll saves outputs → TellOf saves outputs
saves_tell saves [] is = record { none_loaded = ap loaded_texts is; saved = ap outputs_in is; joined = ap appended_bytes is; none_failed = ap have_failed is }
saves_tell saves (first ∷ outputs) (own, rest, is, text, others) =
    let pieces = text.pieces in
    let later = saves_tell rest outputs others in
    let all : saves ≡ Created first.name ∷ (append_calls first.name pieces ++ rest) = is ∙ ap (λ (calls : List Call). calls ++ rest) text.are in
    let bytes : appended_bytes (append_calls first.name pieces ++ rest) ≡ first.text =
    pieces_joined first.name pieces rest ∙ ap (λ t. concat pieces ++ t) later.joined ∙ append-nil (concat pieces) ∙ text.text_is in
    record {
      none_loaded = ap loaded_texts all ∙ pieces_load_none first.name pieces rest ∙ later.none_loaded;
      saved = ap outputs_in all ∙ (λ i. output first.name (bytes i) ∷ (pieces_save_none first.name pieces rest ∙ later.saved) i);
      joined = ap appended_bytes all;
      none_failed = ap have_failed all ∙ pieces_fail_none first.name pieces rest ∙ later.none_failed;
    }

-- what they tell up to one that failed: of the files that are due some first ones, the last of them perhaps in part
pub record TellPartOf (saves : List Call) (outputs : List Output) : Type 0 where
  pub none_loaded : loaded_texts saves ≡ []
  pub rest : List (List ℕ)
  pub named : map (λ (o : Output). o.name) outputs ≡ map (λ (o : Output). o.name) (outputs_in saves) ++ rest
  pub failed : have_failed saves ≡ true

abbrev pub names_of : List Output → List (List ℕ)
names_of outputs = map (λ (o : Output). o.name) outputs

pub names_joined : (a b : List Output) → names_of (a ++ b) ≡ names_of a ++ names_of b
names_joined [] b = refl
names_joined (o ∷ a) b = ap (λ (ns : List (List ℕ)). o.name ∷ ns) (names_joined a b)

pub failures_tell : (saves : List Call) (outputs : List Output) → FailToSaveAll saves outputs → TellPartOf saves outputs
failures_tell saves [] is = absurd is
failures_tell saves (first ∷ outputs) (inl (inl is)) = record {
  none_loaded = ap loaded_texts is;
  rest = first.name ∷ names_of outputs;
  named = ap (λ (calls : List Call). names_of (outputs_in calls) ++ first.name ∷ names_of outputs) (sym is);
  failed = ap have_failed is;
}
failures_tell saves (first ∷ outputs) (inl (inr broken)) =
    let all : saves ≡ Created first.name ∷ (append_calls first.name broken.pieces ++ AppendFailed first.name broken.last broken.kept ∷ []) = broken.are in
    let one : outputs_in saves ≡ output first.name (appended_bytes (append_calls first.name broken.pieces ++ AppendFailed first.name broken.last broken.kept ∷ [])) ∷ [] =
    ap outputs_in all ∙ (λ i. output first.name (appended_bytes (append_calls first.name broken.pieces ++ AppendFailed first.name broken.last broken.kept ∷ []))
    ∷ pieces_save_none first.name broken.pieces (AppendFailed first.name broken.last broken.kept ∷ []) i) in
    record {
      none_loaded = ap loaded_texts all ∙ pieces_load_none first.name broken.pieces (AppendFailed first.name broken.last broken.kept ∷ []);
      rest = names_of outputs;
      named = ap (λ (os : List Output). names_of os ++ names_of outputs) (sym one);
      failed = ap have_failed all ∙ pieces_fail_none first.name broken.pieces (AppendFailed first.name broken.last broken.kept ∷ []);
    }
failures_tell saves (first ∷ outputs) (inr (own, rest, is, text, others)) =
    let pieces = text.pieces in
    let later = failures_tell rest outputs others in
    let all : saves ≡ Created first.name ∷ (append_calls first.name pieces ++ rest) = is ∙ ap (λ (calls : List Call). calls ++ rest) text.are in
    let more : outputs_in saves ≡ output first.name (appended_bytes (append_calls first.name pieces ++ rest)) ∷ outputs_in rest =
    ap outputs_in all ∙ (λ i. output first.name (appended_bytes (append_calls first.name pieces ++ rest)) ∷ pieces_save_none first.name pieces rest i) in
    record {
      none_loaded = ap loaded_texts all ∙ pieces_load_none first.name pieces rest ∙ later.none_loaded;
      rest = later.rest;
      named = ap (λ (ns : List (List ℕ)). first.name ∷ ns) later.named ∙ ap (λ (os : List Output). names_of os ++ later.rest) (sym more);
      failed = ap have_failed all ∙ pieces_fail_none first.name pieces rest ∙ later.failed;
    }
