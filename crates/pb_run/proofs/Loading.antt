-- Loading files one after another: what was called so far, and how it ends.
use Rattle.std.proofs.Common.{◌≡◌, ℕ, zero, suc, ◌+◌, ◌<◌, Option, None, Some, List, [], ◌∷◌, ◌++◌, length, map, drop, get_or, refl, sym, ap, subst, ◌∙◌, arith, append_assoc, append-nil}
use Rattle.std.proofs.lemmas.List.{length-map, length-append}
use Rattle.pb_outside.specs.declared.shelf.Load.{Load}
use Rattle.pb_outside.specs.declared.shelf.Load.TheVariants as load
use Rattle.pb_outside.specs.Outside.{Files, IfTold, KeepsAll}
use Rattle.pb_outside.specs.Calls.{Call, Loaded, LoadFailed, Notes}
use Rattle.pb_outside.proofs.Callers.{told_then, all_then}
use Rattle.pb_run.specs.Asked.{Wanted, CanLoad}
use Rattle.pb_run.specs.Calls.{load_calls}
use Rattle.pb_run.specs.Files.{wanted_of, LoadsText}
use Rattle.pb_run.specs.Fit.{IfShelf, reason_of, NotesLoad}
use Rattle.pb_run.specs.Contents.{LoadsAll, LoadsUpTo}
use Rattle.pb_command.specs.declared.files.LoadedFile.{LoadedFile as WantedFile}
use Rattle.pb_run.specs.declared.load.Fault.{Fault}
use Rattle.pb_run.specs.declared.load.Fault.TheVariants.{OutOfMemory, ShelfFailed}
use Rattle.pb_run.proofs.CallLists.{no_loads, load_more, load_fails}
use Rattle.pb_run.proofs.Loads.{AreLoadedSoFar, loaded_next}

pub kept_still : (a b c : Option Files) → IfTold a b KeepsAll → IfTold b c KeepsAll → IfTold a c KeepsAll
kept_still a b c p q = told_then a b c KeepsAll KeepsAll KeepsAll p q (λ x y z f g. all_then x y z f g)

pub kept_self : (a : Option Files) → IfTold a a KeepsAll
kept_self None = tt
kept_self (Some files) = λ name. refl

-- the file of this number, and those after it
at_number : (files : List WantedFile) (i : ℕ) (d : WantedFile) → i < length files → map wanted_of (drop i files) ≡ wanted_of (get_or files i d) ∷ map wanted_of (drop (suc i) files)
at_number [] i d less = absurd (omega (arith, less))
at_number (file ∷ files) zero d less = refl
at_number (file ∷ files) (suc i) d less = at_number files i d (omega (arith, less))

pub file_at : (files : List WantedFile) (i : ℕ) (d : WantedFile) → i < length files → map wanted_of (drop i files) ≡ wanted_of (get_or files i d) ∷ map wanted_of (drop (i + 1) files)
file_at files i d less = let e : suc i ≡ i + 1 = omega arith in at_number files i d less ∙ ap (λ k. wanted_of (get_or files i d) ∷ map wanted_of (drop k files)) e

drop_map : (files : List WantedFile) (i : ℕ) → drop i (map wanted_of files) ≡ map wanted_of (drop i files)
drop_map [] zero = refl
drop_map [] (suc i) = refl
drop_map (file ∷ files) zero = refl
drop_map (file ∷ files) (suc i) = drop_map files i

can_at : (can : List ℕ → Type 0) (files : List WantedFile) (i : ℕ) (d : WantedFile) → i < length files → CanLoad can (map wanted_of files) → can (wanted_of (get_or files i d)).name
can_at can [] i d less h = absurd (omega (arith, less))
can_at can (file ∷ files) zero d less h = h.0
can_at can (file ∷ files) (suc i) d less h = can_at can files i d (omega (arith, less)) h.1

module _ (start old new : List Call) (files : List WantedFile) (i : ℕ) (d : WantedFile) (texts : List (List ℕ))
    (so_far : old ≡ start ++ load_calls (map wanted_of files) texts None) (count : length texts ≡ i) (less : i < length files) where
  abbrev File : Wanted
  File = wanted_of (get_or files i d)

  here : drop (length texts) (map wanted_of files) ≡ File ∷ map wanted_of (drop (i + 1) files)
  here = ap (λ k. drop k (map wanted_of files)) count ∙ drop_map files i ∙ file_at files i d less

  -- the file was loaded
  pub one_loaded : (text : List ℕ) → Notes old new (Loaded File.name File.most text) → new ≡ start ++ load_calls (map wanted_of files) (texts ++ text ∷ []) None
  one_loaded text noted = noted ∙ ap (λ (calls : List Call). calls ++ Loaded File.name File.most text ∷ []) so_far
      ∙ append_assoc start (load_calls (map wanted_of files) texts None) (Loaded File.name File.most text ∷ [])
      ∙ ap (λ (calls : List Call). start ++ calls) (sym (load_more (map wanted_of files) (map wanted_of (drop (i + 1) files)) File texts text here))

  one_failed : (why : Load) → Notes old new (LoadFailed File.name File.most why) → new ≡ start ++ load_calls (map wanted_of files) texts (Some why)
  one_failed why noted = noted ∙ ap (λ (calls : List Call). calls ++ LoadFailed File.name File.most why ∷ []) so_far
      ∙ append_assoc start (load_calls (map wanted_of files) texts None) (LoadFailed File.name File.most why ∷ [])
      ∙ ap (λ (calls : List Call). start ++ calls) (sym (load_fails (map wanted_of files) (map wanted_of (drop (i + 1) files)) File texts why here))

  few : length texts < length (map wanted_of files)
  few = let all = length-map files wanted_of in omega (arith, all, count, less)

  -- it wasn't
  pub ends_failed : (fault : Fault) → Notes old new (LoadFailed File.name File.most (reason_of fault)) → LoadsUpTo start new (map wanted_of files) fault
  ends_failed OutOfMemory noted = (texts, Some load.Memory, omega (arith, few), tt, one_failed load.Memory noted)
  ends_failed ShelfFailed noted = (texts, few, one_failed load.Failed noted)

  -- it is too long
  pub ends_long : NotesLoad old new File None → LoadsAll start new (map wanted_of files) texts
  ends_long (seen, noted) = (Some (load.TooLong seen), few, one_failed (load.TooLong seen) noted)

  -- memory ran out after it was loaded
  pub ends_full : (text : List ℕ) → Notes old new (Loaded File.name File.most text) → LoadsUpTo start new (map wanted_of files) OutOfMemory
  ends_full text noted =
      let more = length-append texts (text ∷ []) in
      (texts ++ text ∷ [], None, omega (arith, few, more), tt, one_loaded text noted)

  pub sure_here : (before now : List ℕ → Type 0) (fault : Fault) → ((name : List ℕ) → before name → now name) → (now File.name → IfShelf fault ⊥) → CanLoad before (map wanted_of files) → IfShelf fault ⊥
  sure_here before now fault keeps sure can = sure (keeps File.name (can_at before files i d less can))

  pub loaded_here : (told now : Option Files) (text : List ℕ) → IfTold told now KeepsAll → AreLoadedSoFar told (map wanted_of files) (map wanted_of (drop i files)) texts → LoadsText now File (Some text)
      → AreLoadedSoFar told (map wanted_of files) (map wanted_of (drop (i + 1) files)) (texts ++ text ∷ [])
  loaded_here told now text keeps loaded is = loaded_next told now (map wanted_of files) (map wanted_of (drop (i + 1) files)) File texts text keeps
      (subst (λ (rest : List Wanted). AreLoadedSoFar told (map wanted_of files) rest texts) (file_at files i d less) loaded) is

pub ends_all : (start new : List Call) (files : List WantedFile) (i : ℕ) (texts : List (List ℕ)) → new ≡ start ++ load_calls (map wanted_of files) texts None → length texts ≡ i → i ≡ length files
    → LoadsAll start new (map wanted_of files) texts
ends_all start new files i texts is count all = let len = length-map files wanted_of in (None, omega (arith, len, count, all), is)

-- nothing was loaded yet
pub none_loaded : (calls : List Call) (files : List Wanted) → LoadsUpTo calls calls files OutOfMemory
none_loaded calls files = ([], None, omega arith, tt, sym (append-nil calls) ∙ ap (λ (l : List Call). calls ++ l) (sym (no_loads files)))
