-- Parts that are handed out one after another: none, one, and one after others.
use Rattle.std.proofs.Common.{◌≡◌, inl, inr, ℕ, Option, None, Some, List, [], ◌∷◌, ◌++◌, take, refl, sym, ap, subst, ◌∙◌, append_assoc, append-nil}
use Rattle.pb_outside.specs.Outside.{Files, IfTold, Appends, KeepsAll}
use Rattle.pb_outside.specs.Calls.{Call, Put, PutFailed}
use Rattle.pb_outside.proofs.Callers.{told_then, told_as}
use Rattle.pb_answer.specs.Outputs.{Output}
use Rattle.pb_answer.specs.Answer.{Said}
use Rattle.pb_answer.specs.Parts.{AnswerPart, outputs_of}
use Rattle.pb_run.specs.Calls.{outputs_in, put_bytes}
use Rattle.pb_answer.specs.FallingRuns.{part_of}
use Rattle.pb_run.specs.Handing.{HandsOutAll, FailsInSaves, FailsInPuts}
use Rattle.pb_run.specs.Contents.{SavesIn, SavesPartIn, SavesPartsIn, Hands, HandsTold}
use Rattle.pb_run.specs.PartByPart.{HandsUpTo, SavesUpTo, HandsParts}
use Rattle.pb_run.specs.declared.output.Ending.{Ending}
use Rattle.pb_run.specs.declared.output.Ending.TheVariants.{Done, NotSaved, NotPrinted}
use Rattle.pb_run.proofs.CallLists.{saves_tell}
use Rattle.pb_run.proofs.Handed.{parts_tell, unput_tell}
use Rattle.pb_run.proofs.Fitting.{outputs_joined}
use Rattle.pb_run.proofs.Saving.{save_joined, told_saved, in_split, after_kept, part_kept}

-- ---- no part

pub hands_none : (files : Option Files) (shelf sink : List Call) (written : Option (List ℕ)) → HandsParts Done [] files files shelf shelf sink sink written written
hands_none files shelf sink written = record {
  saves = [];
  puts = [];
  shelf_is = sym (append-nil shelf);
  sink_is = sym (append-nil sink);
  hands = (refl, refl);
  told = kept files;
  printed = same written;
}
  where
    kept : (f : Option Files) → IfTold f f (SavesUpTo Done [] [] [])
    kept None = tt
    kept (Some told) = λ name. refl

    same : (w : Option (List ℕ)) → IfTold w w (λ before after. Appends before after [])
    same None = tt
    same (Some text) = sym (append-nil text)

-- ---- one part

module _ (said : Said) (files files' : Option Files) (shelf shelf' sink sink' : List Call) (written written' : Option (List ℕ)) where
  abbrev One : Ending → Type 0
  One ending = HandsParts ending (part_of said ∷ []) files files' shelf shelf' sink sink' written written'

  pub one_done : Hands said Done shelf shelf' sink sink' written written' → HandsTold said Done files files' → One Done
  one_done ((saves, saved, save), noted, told_it) tells = record {
    saves = saves;
    puts = Put said.report ∷ [];
    shelf_is = saved;
    sink_is = noted;
    hands = ([], [], record { own = saves; saves_are = sym (append-nil saves); saved = save; sink_is = refl }, (refl, refl));
    told = told_as files files' (SavesIn said.outputs) (SavesUpTo Done (part_of said ∷ []) saves (Put said.report ∷ [])) tells
        (λ x y h. subst (λ (os : List Output). SavesIn os x y) (sym (append-nil said.outputs)) h);
    printed = told_as written written' (λ before after. Appends before after said.report) (λ before after. Appends before after (said.report ++ [])) told_it
        (λ x y h. h ∙ ap (λ (text : List ℕ). x ++ text) (sym (append-nil said.report)));
  }

  pub one_not_saved : Hands said NotSaved shelf shelf' sink sink' written written' → HandsTold said NotSaved files files' → One NotSaved
  one_not_saved ((saves, saved, save), same, told_it) tells = record {
    saves = saves;
    puts = [];
    shelf_is = saved;
    sink_is = same ∙ sym (append-nil sink);
    hands = inl (save, refl);
    told = told_as files files' (SavesPartIn said.outputs) (SavesUpTo NotSaved (part_of said ∷ []) saves []) tells (λ x y h. h);
    printed = told_as written written' (λ before after. after ≡ before) (λ before after. Appends before after []) told_it
        (λ x y h. h ∙ sym (append-nil x));
  }

  pub one_not_printed : Hands said NotPrinted shelf shelf' sink sink' written written' → HandsTold said NotPrinted files files' → One NotPrinted
  one_not_printed ((saves, saved, save), failed) tells = record {
    saves = saves;
    puts = PutFailed said.report failed.kept ∷ [];
    shelf_is = saved;
    sink_is = failed.noted;
    hands = inl (save, record { kept = failed.kept; within = failed.within; sink_is = refl });
    told = told_as files files' (SavesIn said.outputs) (SavesUpTo NotPrinted (part_of said ∷ []) saves (PutFailed said.report failed.kept ∷ [])) tells
        (λ x y h. subst (λ (os : List Output). SavesIn os x y) (sym (saves_tell saves said.outputs save).saved) h);
    printed = told_as written written' (λ before after. after ≡ before ++ take failed.kept said.report)
        (λ before after. Appends before after (take failed.kept said.report ++ [])) failed.told
        (λ x y h. h ∙ ap (λ (text : List ℕ). x ++ text) (sym (append-nil (take failed.kept said.report))));
  }

-- ---- parts of which the last is saved in part

pub parts_kept : (parts : List AnswerPart) (puts : List Call) (x y z : Files) → KeepsAll x y → SavesPartsIn parts puts y z → SavesPartsIn parts puts x z
parts_kept [] puts x y z kept saves = saves
parts_kept (part ∷ parts) [] x y z kept saves = part_kept part.outputs x y z kept saves
parts_kept (part ∷ parts) (put ∷ puts) x y z kept (between, own, later) = (between, after_kept part.outputs x y between kept own, later)

-- ---- parts after others: the calls

module _ (more : List AnswerPart) (saves' puts' : List Call) where
  all_then_all : (parts : List AnswerPart) (saves puts : List Call) → HandsOutAll parts saves puts → HandsOutAll more saves' puts' → HandsOutAll (parts ++ more) (saves ++ saves') (puts ++ puts')
  all_then_all [] saves puts (no_saves, no_puts) hands =
      subst (λ (calls : List Call). HandsOutAll more (calls ++ saves') (puts ++ puts')) (sym no_saves) (subst (λ (calls : List Call). HandsOutAll more saves' (calls ++ puts')) (sym no_puts) hands)
  all_then_all (part ∷ parts) saves puts (rest, left, one, others) hands = (
    rest ++ saves',
    left ++ puts',
    record {
      own = one.own;
      saves_are = ap (λ (calls : List Call). calls ++ saves') one.saves_are ∙ append_assoc one.own rest saves';
      saved = one.saved;
      sink_is = ap (λ (calls : List Call). calls ++ puts') one.sink_is;
    },
    all_then_all parts rest left others hands,
  )

  all_then_unsaved : (parts : List AnswerPart) (saves puts : List Call) → HandsOutAll parts saves puts → FailsInSaves more saves' puts' → FailsInSaves (parts ++ more) (saves ++ saves') (puts ++ puts')
  all_then_unsaved [] saves puts (no_saves, no_puts) hands =
      subst (λ (calls : List Call). FailsInSaves more (calls ++ saves') (puts ++ puts')) (sym no_saves) (subst (λ (calls : List Call). FailsInSaves more saves' (calls ++ puts')) (sym no_puts) hands)
  all_then_unsaved (part ∷ parts) saves puts (rest, left, one, others) hands = inr (
    rest ++ saves',
    left ++ puts',
    record {
      own = one.own;
      saves_are = ap (λ (calls : List Call). calls ++ saves') one.saves_are ∙ append_assoc one.own rest saves';
      saved = one.saved;
      sink_is = ap (λ (calls : List Call). calls ++ puts') one.sink_is;
    },
    all_then_unsaved parts rest left others hands,
  )

  all_then_unput : (parts : List AnswerPart) (saves puts : List Call) → HandsOutAll parts saves puts → FailsInPuts more saves' puts' → FailsInPuts (parts ++ more) (saves ++ saves') (puts ++ puts')
  all_then_unput [] saves puts (no_saves, no_puts) hands =
      subst (λ (calls : List Call). FailsInPuts more (calls ++ saves') (puts ++ puts')) (sym no_saves) (subst (λ (calls : List Call). FailsInPuts more saves' (calls ++ puts')) (sym no_puts) hands)
  all_then_unput (part ∷ parts) saves puts (rest, left, one, others) hands = inr (
    rest ++ saves',
    left ++ puts',
    record {
      own = one.own;
      saves_are = ap (λ (calls : List Call). calls ++ saves') one.saves_are ∙ append_assoc one.own rest saves';
      saved = one.saved;
      sink_is = ap (λ (calls : List Call). calls ++ puts') one.sink_is;
    },
    all_then_unput parts rest left others hands,
  )

  pub calls_then : (ending : Ending) (parts : List AnswerPart) (saves puts : List Call) → HandsOutAll parts saves puts → HandsUpTo ending more saves' puts'
      → HandsUpTo ending (parts ++ more) (saves ++ saves') (puts ++ puts')
  calls_then Done parts saves puts all hands = all_then_all parts saves puts all hands
  calls_then NotSaved parts saves puts all hands = all_then_unsaved parts saves puts all hands
  calls_then NotPrinted parts saves puts all hands = all_then_unput parts saves puts all hands

  -- ---- the same: what was put, and the files

  puts_then : (parts : List AnswerPart) (saves puts : List Call) → HandsOutAll parts saves puts → put_bytes (puts ++ puts') ≡ put_bytes puts ++ put_bytes puts'
  puts_then [] saves puts (no_saves, no_puts) =
      ap (λ (calls : List Call). put_bytes (calls ++ puts')) no_puts ∙ ap (λ (calls : List Call). put_bytes calls ++ put_bytes puts') (sym no_puts)
  puts_then (part ∷ parts) saves puts (rest, left, one, others) =
      ap (λ (calls : List Call). put_bytes (calls ++ puts')) one.sink_is
      ∙ ap (λ (text : List ℕ). part.report ++ text) (puts_then parts rest left others)
      ∙ sym (append_assoc part.report (put_bytes left) (put_bytes puts'))
      ∙ ap (λ (calls : List Call). put_bytes calls ++ put_bytes puts') (sym one.sink_is)

  -- what was saved before, and then of the part in hand
  outputs_then : (parts : List AnswerPart) (saves puts : List Call) → HandsOutAll parts saves puts → FailsInPuts more saves' puts'
      → outputs_in (saves ++ saves') ≡ outputs_of parts ++ outputs_in saves'
  outputs_then parts saves puts all hands =
      let tell = unput_tell more saves' puts' hands in
      let both = save_joined (outputs_of parts) tell.first saves saves' (parts_tell parts saves puts all).saved tell.saved in
      (saves_tell (saves ++ saves') (outputs_of parts ++ tell.first) both).saved
      ∙ ap (λ (os : List Output). outputs_of parts ++ os) (sym (saves_tell saves' tell.first tell.saved).saved)

  -- the files of the parts before, and then those of the others up to one
  parts_joined : (parts : List AnswerPart) (saves puts : List Call) → HandsOutAll parts saves puts → (x y z : Files) → SavesIn (outputs_of parts) x y → SavesPartsIn more puts' y z
      → SavesPartsIn (parts ++ more) (puts ++ puts') x z
  parts_joined [] saves puts (no_saves, no_puts) x y z kept later =
      subst (λ (calls : List Call). SavesPartsIn more (calls ++ puts') x z) (sym no_puts) (parts_kept more puts' x y z kept later)
  parts_joined (part ∷ parts) saves puts (rest, left, one, others) x y z saved later =
      let split = in_split part.outputs (outputs_of parts) x y saved in
      subst (λ (calls : List Call). SavesPartsIn (part ∷ (parts ++ more)) (calls ++ puts') x z) (sym one.sink_is)
      (split.0, split.1, parts_joined parts rest left others split.0 y z split.2 later)

  module _ (files between files' : Option Files) where
    pub files_then : (ending : Ending) (parts : List AnswerPart) (saves puts : List Call) → HandsOutAll parts saves puts → HandsUpTo ending more saves' puts'
        → IfTold files between (SavesUpTo Done parts saves puts) → IfTold between files' (SavesUpTo ending more saves' puts')
        → IfTold files files' (SavesUpTo ending (parts ++ more) (saves ++ saves') (puts ++ puts'))
    files_then Done parts saves puts all hands first second =
        told_as files files' (SavesIn (outputs_of parts ++ outputs_of more)) (SavesUpTo Done (parts ++ more) (saves ++ saves') (puts ++ puts'))
        (told_saved (outputs_of parts) (outputs_of more) files between files' first second)
        (λ x y h. subst (λ (os : List Output). SavesIn os x y) (sym (outputs_joined parts more)) h)
    files_then NotSaved parts saves puts all hands first second =
        told_then files between files' (SavesIn (outputs_of parts)) (SavesPartsIn more puts') (SavesPartsIn (parts ++ more) (puts ++ puts')) first second
        (parts_joined parts saves puts all)
    files_then NotPrinted parts saves puts all hands first second =
        told_as files files' (SavesIn (outputs_of parts ++ outputs_in saves')) (SavesUpTo NotPrinted (parts ++ more) (saves ++ saves') (puts ++ puts'))
        (told_saved (outputs_of parts) (outputs_in saves') files between files' first second)
        (λ x y h. subst (λ (os : List Output). SavesIn os x y) (sym (outputs_then parts saves puts all hands)) h)

-- ---- parts after others

-- parts were handed out whole, and then others, all or up to a call that failed
pub hands_then : (ending : Ending) (parts more : List AnswerPart) (files between files' : Option Files) (shelf mid shelf' sink put sink' : List Call) (written so_far written' : Option (List ℕ))
    → HandsParts Done parts files between shelf mid sink put written so_far → HandsParts ending more between files' mid shelf' put sink' so_far written'
    → HandsParts ending (parts ++ more) files files' shelf shelf' sink sink' written written'
hands_then ending parts more files between files' shelf mid shelf' sink put sink' written so_far written' first second =
    record {
      saves = first.saves ++ second.saves;
      puts = first.puts ++ second.puts;
      shelf_is = second.shelf_is ∙ ap (λ (calls : List Call). calls ++ second.saves) first.shelf_is ∙ append_assoc shelf first.saves second.saves;
      sink_is = second.sink_is ∙ ap (λ (calls : List Call). calls ++ second.puts) first.sink_is ∙ append_assoc sink first.puts second.puts;
      hands = calls_then more second.saves second.puts ending parts first.saves first.puts first.hands second.hands;
      told = files_then more second.saves second.puts files between files' ending parts first.saves first.puts first.hands second.hands first.told second.told;
      printed = told_then written so_far written' (λ before after. Appends before after (put_bytes first.puts)) (λ before after. Appends before after (put_bytes second.puts))
          (λ before after. Appends before after (put_bytes (first.puts ++ second.puts))) first.printed second.printed
          (λ x y z h k. k ∙ ap (λ (text : List ℕ). text ++ put_bytes second.puts) h ∙ append_assoc x (put_bytes first.puts) (put_bytes second.puts)
          ∙ ap (λ (text : List ℕ). x ++ text) (sym (puts_then more second.saves second.puts parts first.saves first.puts first.hands)));
    }
