-- Steps of a chain that did not fail.
use Rattle.std.proofs.Common.{◌≡◌, ℕ, Bool, true, false, cond, Option, None, Some, List, ◌++◌, Result, Ok, Err, refl, ap}
use Rattle.pb_machine.specs.declared.event.Event.{Event}
use Rattle.pb_journal.specs.declared.error.Fault.{Fault}
use Rattle.pb_journal.specs.Faults.{◌>>=◌, wanted}
use Rattle.pb_lines.specs.Words.{behind}
use Rattle.pb_journal.specs.Reading.{by_word}
use Rattle.pb_lines.proofs.Callers.{behind_is}

pub bind_ok : {A B : Type 0} (r : Result A Fault) (f : A → Result B Fault) (y : B) → (r >>= f)
    ≡ Ok y → (x : A) × (r ≡ Ok x) × (f x ≡ Ok y)
bind_ok (Ok x) f y e = (x, refl, e)
bind_ok (Err d) f y e = absurd cc

pub ok_is : {A : Type 0} (x y : A) → ◌≡◌ {A = Result A Fault} (Ok x) (Ok y) → x ≡ y
ok_is x y e = cc

pub wanted_ok : {A : Type 0} (line : ℕ) (o : Option A) (x : A) → wanted line o ≡ Ok x → o ≡ Some x
wanted_ok line None x e = absurd cc
wanted_ok {A} line (Some y) x e = ap (λ (z : A). Some z) (ok_is y x e)

pub guard_ok : {A : Type 0} (b : Bool) (d : Fault) (x y : A) → cond b (Ok x) (Err d) ≡ Ok y
    → (b ≡ true) × (x ≡ y)
guard_ok true d x y e = (refl, ok_is x y e)
guard_ok false d x y e = absurd cc

-- a text that begins with a word is read by it, or is read otherwise
pub by_word_ok : {P : Type 0} (piece text : List ℕ) (f : List ℕ → Result Event Fault)
    (other : Result Event Fault) (e : Event) → by_word (behind piece text) f other ≡ Ok e
    → ((words : List ℕ) → text ≡ piece ++ words → f words ≡ Ok e → P) → (other ≡ Ok e → P) → P
by_word_ok {P} piece text f other e is here there = go (behind piece text) refl is
  where
    go : (o : Option (List ℕ)) → behind piece text ≡ o → by_word o f other ≡ Ok e → P
    go None at read = there read
    go (Some words) at read = here words (behind_is piece text words at) read
