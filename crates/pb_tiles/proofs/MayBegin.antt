-- Which words a text may begin with.
use Rattle.std.proofs.Common.{◌≡◌, ℕ, suc, ◌≤◌, Option, Some, None, Err, inl, inr, List, [], ◌∷◌, ◌++◌, length, codes, refl, sym, subst, ap, arith, ◌∙◌, append-nil}
use Rattle.std.specs.Option.{option_map_or, option_and_then}
use Rattle.pb_tiles.specs.declared.error.TilesError.{TilesError}
use Rattle.pb_tiles.specs.declared.error.TilesError.TheVariants.{Syntax}
use Rattle.pb_tiles.specs.Said.{Said}
use Rattle.pb_tiles.specs.Words.{Word}
use Rattle.pb_tiles.specs.Reading.{nothing_said, next, said_by}
use Rattle.pb_tiles.specs.Spelling.{AreNumbers}
use Rattle.pb_tiles.specs.Cases.{MayBegin}
use Rattle.pb_tiles.proofs.Spelled.{texts, said_texts, before_goal, behind_goal, IsGoal, Taken, were_taken, to_said, numbers_before, numbers_behind, goal_stands}
use Rattle.pb_tiles.proofs.Parting.{said_on}

pub as_many : (ws : List (List ℕ)) (ns : List ℕ) → AreNumbers ws ns → length ws ≡ length ns
as_many [] [] are = refl
as_many [] (n ∷ ns) are = absurd are
as_many (w ∷ ws) [] are = absurd are
as_many (w ∷ ws) (n ∷ ns) are = ap suc (as_many ws ns are.1)

-- ---- words that say something

goal_says : (numbers : List ℕ) → 2 ≤ length numbers → next (before_goal numbers) (codes "goal") ≡ Some (behind_goal numbers [])
goal_says [] two = absurd (omega arith)
goal_says (rows ∷ []) two = absurd (omega arith)
goal_says (rows ∷ cols ∷ start) two = goal_stands rows cols start

pub says_something : (ws : List (List ℕ)) → MayBegin ws → (after : Said) × (said_texts nothing_said ws ≡ Some after)
says_something ws (inl (numbers, are)) = (before_goal numbers, ap (said_texts nothing_said) (sym (append-nil ws)) ∙ numbers_before [] ws [] numbers are)
says_something ws (inr (before, behind, is, two, (first, are), (second, are_too))) = (
  behind_goal first second,
  ap (said_texts nothing_said) is ∙ numbers_before [] before (codes "goal" ∷ behind) first are
      ∙ ap (option_and_then (λ after. said_texts after behind)) (goal_says first (subst (λ n. 2 ≤ n) (as_many before first are) two)) ∙ numbers_behind first [] behind second are_too,
)

pub may_begin : (ws : List (List ℕ)) (after : Said) → said_texts nothing_said ws ≡ Some after → MayBegin ws
may_begin ws after e = go (were_taken [] ws after e) where
  go : Taken [] ws after → MayBegin ws
  go t = at t.goal_is where
    at : IsGoal t.gs after.before after.has_goal after.behind → MayBegin ws
    at (inl (none, off)) = inl (t.ns, subst (λ words. AreNumbers words t.ns) (sym (t.split ∙ ap (λ gs. t.ws ++ gs) none ∙ append-nil t.ws)) t.are)
    at (inr (numbers, some, on, spelt, two)) = inr (
      t.ws,
      numbers,
      t.split ∙ ap (λ gs. t.ws ++ gs) some,
      subst (λ n. 2 ≤ n) (ap (λ (ns : List ℕ). length ns) t.before_is ∙ sym (as_many t.ws t.ns t.are)) two,
      (t.ns, t.are),
      (after.behind, spelt),
    )

-- ---- a word that can't follow

texts_more : (said after : Said) (some more : List (List ℕ)) → said_texts said some ≡ Some after → said_texts said (some ++ more) ≡ said_texts after more
texts_more said after [] more e = let same : said ≡ after = cc in ap (λ s. said_texts s more) same
texts_more said after (text ∷ some) more e = go (next said text) (λ between. texts_more between after some more) e where
  go : (step : Option Said) → ((between : Said) → said_texts between some ≡ Some after → said_texts between (some ++ more) ≡ said_texts after more)
      → option_and_then (λ between. said_texts between some) step ≡ Some after → option_and_then (λ between. said_texts between (some ++ more)) step ≡ said_texts after more
  go None rest e = cc
  go (Some between) rest e = rest between e

pub cant_follow : (ws : List (List ℕ)) (word : List ℕ) (after : Said) → said_texts nothing_said ws ≡ Some after → next after word ≡ None → MayBegin (ws ++ word ∷ []) → ⊥
cant_follow ws word after e none may =
    let some = says_something (ws ++ word ∷ []) may in
    let clash : Some some.0 ≡ None = sym some.1 ∙ texts_more nothing_said after ws (word ∷ []) e ∙ ap (option_and_then (λ between. said_texts between [])) none in cc

pub says_nothing : (ws : List (List ℕ)) (word : List ℕ) (after : Said) → said_texts nothing_said ws ≡ Some after → (MayBegin (ws ++ word ∷ []) → ⊥) → next after word ≡ None
says_nothing ws word after e cant = go (next after word) refl where
  go : (step : Option Said) → next after word ≡ step → step ≡ None
  go None is = refl
  go (Some more) is = absurd (cant (may_begin (ws ++ word ∷ []) more (texts_more nothing_said after ws (word ∷ []) e ∙ ap (option_and_then (λ between. said_texts between [])) is)))

-- ---- the first word that can't follow

pub record Stops (said : Said) (ws : List Word) (fault : TilesError) : Type 0 where
  pub front : List Word
  pub word : Word
  pub back : List Word
  pub after : Said
  pub words_are : ws ≡ front ++ word ∷ back
  pub says : said_texts said (texts front) ≡ Some after
  pub none : next after word.text ≡ None
  pub fault_is : Syntax word.line ≡ fault

pub stops : (said : Said) (ws : List Word) (fault : TilesError) → said_by said ws ≡ Err fault → Stops said ws fault
stops said [] fault e = cc
stops said (word ∷ ws) fault e = go (next said word.text) refl (λ between. stops between ws fault) e where
  go : (step : Option Said) → next said word.text ≡ step → ((between : Said) → said_by between ws ≡ Err fault → Stops between ws fault)
      → option_map_or (λ between. said_by between ws) step (Err (Syntax word.line)) ≡ Err fault → Stops said (word ∷ ws) fault
  go None is rest e = record { front = []; word = word; back = ws; after = said; words_are = refl; says = refl; none = is; fault_is = (let same : Syntax word.line ≡ fault = cc in same) }
  go (Some between) is rest e =
      let more : Stops between ws fault = rest between e in
      record {
        front = word ∷ more.front;
        word = more.word;
        back = more.back;
        after = more.after;
        words_are = ap (λ others. word ∷ others) more.words_are;
        says = ap (option_and_then (λ between. said_texts between (texts more.front))) is ∙ more.says;
        none = more.none;
        fault_is = more.fault_is;
      }

pub is_stopped : (front : List Word) (word : Word) (back : List Word) (after : Said) → said_texts nothing_said (texts front) ≡ Some after → next after word.text ≡ None
    → said_by nothing_said (front ++ word ∷ back) ≡ Err (Syntax word.line)
is_stopped front word back after says none =
    said_on nothing_said after front (word ∷ back) (to_said nothing_said front after says) ∙ ap (λ step. option_map_or (λ between. said_by between back) step (Err (Syntax word.line))) none
