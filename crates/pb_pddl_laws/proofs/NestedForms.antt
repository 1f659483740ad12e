-- Conditions and effects: ( ), or ( and with any number of them inside, or something else. Where their reading stops, and beside the table.
use Rattle.std.proofs.Common.{◌≡◌, ℕ, zero, suc, ◌≤◌, ◌<◌, Bool, true, false, cond, List, [], ◌∷◌, ◌++◌, Ok, Err, refl, sym, ap, ◌∙◌, arith, append-nil}
use Rattle.std.specs.Prelude.{codes}
use Rattle.pb_pddl.specs.declared.token.TokenKind.TheVariants as kinds
use Rattle.pb_pddl.specs.declared.token.Token.{Token}
use Rattle.pb_pddl.specs.declared.error.SyntaxError.{SyntaxError}
use Rattle.pb_pddl.specs.declared.error.Want.TheVariants as wants
use Rattle.pb_pddl.specs.Reading.{◌>>=◌, Read, kind_number, same_kind, front, begins, begins_open, fault_at, need, all_of}
use Rattle.pb_pddl.specs.Places
use Rattle.pb_pddl.specs.Places.{Place, fits, is_kind, is_word, sample, refused}
use Rattle.pb_pddl_laws.specs.Table
use Rattle.pb_pddl_laws.specs.Table.{Symbol, after}
use Rattle.pb_pddl_laws.proofs.Readers.{Reads, Can, reads_done, can_done, reads_same, can_same, reads_one}
use Rattle.pb_pddl_laws.proofs.Loops.{Takes}
use Rattle.pb_pddl_laws.proofs.Following.{Does, SamePlace, nothing, does_same, does_done, does_as, does_either, does_more, does_one}
use Rattle.pb_pddl_laws.proofs.Agreeing.{Agrees, TakesOne, agrees_one}
use Rattle.pb_pddl_laws.proofs.Refusals.{open_refused}
use Rattle.pb_pddl_laws.proofs.Closing.{form_pieces, can_closed, reads_closed, does_closed}

-- a choice of two readers
can_either : {X : Type 0} (b : Bool) (f g : List Token → Read X) → (b ≡ true → Can f) → (b ≡ false → Can g) → Can (λ us. cond b (f us) (g us))
can_either true f g yes_f no_g = yes_f refl
can_either false f g yes_f no_g = no_g refl

reads_either : {X : Type 0} (b : Bool) (n : ℕ) (f g : List Token → Read X) → (b ≡ true → Reads X n f) → (b ≡ false → Reads X n g) → Reads X n (λ us. cond b (f us) (g us))
reads_either true n f g yes_f no_g = yes_f refl
reads_either false n f g yes_f no_g = no_g refl

-- what follows the token behind the (
abbrev pub inside_behind : {S : Type 0} → (S → List Token → Read S) → (S → Token → List Token → Read S) → S → Token → List Token → Read S
inside_behind all other s t us = cond (is_kind kinds.Close t) (Ok (s, us)) (cond (is_word (codes "and") t) (all s us) (other s t us))

-- any reads one of them, inside what stands behind its (, all those behind ( and, and other what is none of these
module _ {S : Type 0} (any inside all : S → List Token → Read S) (other : S → Token → List Token → Read S) where
  abbrev word_behind : S → Token → List Token → Read S
  word_behind s t us = cond (is_word (codes "and") t) (all s us) (other s t us)

  abbrev behind : S → Token → List Token → Read S
  behind = inside_behind all other

  module _ (takes : Takes begins_open any) (any_open : (s : S) (t : Token) (us : List Token) → begins_open (t ∷ us) ≡ true → any s (t ∷ us) ≡ inside s us)
      (any_shut : (s : S) (ts : List Token) → begins_open ts ≡ false → any s ts ≡ Err (fault_at wants.Paren ts))
      (all_is : (s : S) (us : List Token) → all s us ≡ (all_of begins_open any s us >>= λ pieces. need kinds.Close wants.Paren pieces.1 >>= λ rest. Ok (pieces.0, rest)))
      (place : Place) (takes_inside : (s : S) → TakesOne (S × List Token) (inside s) (behind s) place) (close_fits : fits place (sample kinds.Close) ≡ true)
      (one many : Symbol) (other_due : Token → List Symbol) (one_place : SamePlace one place) (many_place : SamePlace many Places.MoreForms)
      (one_after : (t : Token) → after one t ≡ cond (is_kind kinds.Close t) [] (cond (is_word (codes "and") t) (many ∷ []) (other_due t)))
      (many_after : (t : Token) → after many t ≡ cond (is_kind kinds.Open t) (one ∷ many ∷ []) [])
      (others : (s : S) (t : Token) → fits place t ≡ true → is_kind kinds.Close t ≡ false → is_word (codes "and") t ≡ false → Agrees S (other s t) nothing (other_due t)) where
    can_inside : (s : S) → Can (inside s)
    unfolding same_kind kind_number
    can_inside s = (sample kinds.Close ∷ [], s, λ rest. (takes_inside s).take (sample kinds.Close) rest close_fits)

    step_is : (s : S) (t : Token) (us : List Token) → is_kind kinds.Open t ≡ true → any s (t ∷ us) ≡ inside s us
    unfolding begins front
    step_is s t us goes = any_open s t us goes

    can_step : (s : S) (t : Token) → is_kind kinds.Open t ≡ true → fits Places.MoreForms t ≡ true → Can (λ us. any s (t ∷ us))
    can_step s t goes fit = can_same (λ us. any s (t ∷ us)) (inside s) (λ us. step_is s t us goes) (can_inside s)

    abbrev said : S → S
    said s = s

    can_behind : (s : S) (t : Token) → fits place t ≡ true → Can (behind s t)
    can_behind s t fit =
        can_either (is_kind kinds.Close t) (λ us. Ok (s, us)) (word_behind s t) (λ close. can_done s) (λ close.
        can_either (is_word (codes "and") t) (all s) (other s t) (λ word. can_same (all s) _ (all_is s) (can_closed (form_pieces takes) said can_step s)) (λ word. (others s t fit close word).can))

    reads_behind : (m : ℕ) (s : S) (t : Token) → fits place t ≡ true → ((l : ℕ) → l < m → (x : S) → Reads S l (inside x)) → Reads S m (behind s t)
    reads_behind m s t fit r =
        reads_either (is_kind kinds.Close t) m (λ us. Ok (s, us)) (word_behind s t) (λ close. reads_done m s) (λ close.
        reads_either (is_word (codes "and") t) m (all s) (other s t)
        (λ word. reads_same (all s) _ (all_is s) m (reads_closed (form_pieces takes) said can_step m (λ l less x u goes fit_here. reads_same (λ us. any x (u ∷ us)) (inside x) (λ us. step_is x u us goes) l (r l less x)) s))
        (λ word. (others s t fit close word).reads m))

    reads_inside : (k n : ℕ) → n ≤ k → (s : S) → Reads S n (inside s)
    reads_inside zero n le s = let o = takes_inside s in reads_one (inside s) (behind s) place o.no_end o.refuse o.take (can_behind s) (can_inside s) n (λ m less t fit. absurd (omega arith))
    reads_inside (suc k) n le s =
        let o = takes_inside s in
        reads_one (inside s) (behind s) place o.no_end o.refuse o.take (can_behind s) (can_inside s) n (λ m less t fit. reads_behind m s t fit (λ l below x. reads_inside k l (omega arith) x))

    abbrev due : Bool → Bool → List Symbol → List Symbol
    due a b others_due = cond a [] (cond b (many ∷ []) others_due)

    one_due : (t : Token) (a b : Bool) → is_kind kinds.Close t ≡ a → is_word (codes "and") t ≡ b → after one t ++ [] ≡ due a b (other_due t)
    one_due t a b e h = append-nil (after one t) ∙ one_after t ∙ ap (λ x. due x (is_word (codes "and") t) (other_due t)) e ∙ ap (λ x. due a x (other_due t)) h

    does_all : (m : ℕ) (s : S) → ((l : ℕ) → l < m → (x : S) → Does l (inside x) nothing (one ∷ [])) → Does m (all s) nothing (many ∷ [])
    does_all m s d =
        does_same m (all s) _ nothing (many ∷ []) (all_is s)
        (does_closed (form_pieces takes) said can_step (λ x. many) (λ x. many_place) nothing m
        (λ l less x t goes fit. does_same l (λ us. any x (t ∷ us)) (inside x) (λ y. many ∷ []) (after many t) (λ us. step_is x t us goes)
        (does_as l (inside x) (λ y. many ∷ []) (one ∷ many ∷ []) (after many t) (many_after t ∙ ap (λ b. cond b (one ∷ many ∷ []) []) goes) (does_more l (inside x) (one ∷ []) (many ∷ []) (d l less x))))
        (λ x t stops. sym (many_after t ∙ ap (λ b. cond b (one ∷ many ∷ []) []) stops)) s)

    does_behind : (m : ℕ) (s : S) (t : Token) → fits place t ≡ true → ((l : ℕ) → l < m → (x : S) → Does l (inside x) nothing (one ∷ [])) → Does m (behind s t) nothing (after one t ++ [])
    does_behind m s t fit d =
        does_either (is_kind kinds.Close t) m (λ us. Ok (s, us)) (word_behind s t) nothing (after one t ++ [])
        (λ close. does_as m (λ us. Ok (s, us)) nothing [] (after one t ++ []) (one_due t true (is_word (codes "and") t) close refl) (does_done m nothing s)) (λ close.
        does_either (is_word (codes "and") t) m (all s) (other s t) nothing (after one t ++ [])
        (λ word. does_as m (all s) nothing (many ∷ []) (after one t ++ []) (one_due t false true close word) (does_all m s d))
        (λ word. does_as m (other s t) nothing (other_due t) (after one t ++ []) (one_due t false false close word) ((others s t fit close word).does m)))

    does_inside : (k n : ℕ) → n ≤ k → (s : S) → Does n (inside s) nothing (one ∷ [])
    does_inside zero n le s = let o = takes_inside s in does_one (inside s) (behind s) place o.no_end o.refuse o.take one one_place nothing [] n (λ m less t fit. absurd (omega arith))
    does_inside (suc k) n le s =
        let o = takes_inside s in does_one (inside s) (behind s) place o.no_end o.refuse o.take one one_place nothing [] n (λ m less t fit. does_behind m s t fit (λ l below x. does_inside k l (omega arith) x))

    agrees_inside : (s : S) → Agrees S (inside s) nothing (one ∷ [])
    agrees_inside s = record { can = can_inside s; reads = λ n. reads_inside n n (omega arith) s; does = λ n. does_inside n n (omega arith) s }

    takes_any : (s : S) → TakesOne (S × List Token) (any s) (λ t us. inside s us) Places.AnOpen
    unfolding fits begins front fault_at same_kind kind_number
    takes_any s = record {
      no_end = refl;
      refuse = λ ts e. any_shut s ts e ∙ ap (λ (x : SyntaxError). Err x) (sym (open_refused (front ts)));
      take = λ t us e. any_open s t us e;
      some = sample kinds.Open;
      some_fits = refl;
    }

    pub agrees_any : (s : S) → Agrees S (any s) nothing (Table.Opening ∷ one ∷ [])
    agrees_any s = agrees_one Table.Opening (λ t. (refl, refl)) (takes_any s) (λ t fit. agrees_inside s)
