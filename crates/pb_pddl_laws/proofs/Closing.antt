-- Loops over pieces that end with a ).
use Rattle.std.proofs.Common.{◌≡◌, ℕ, ◌<◌, Bool, true, false, ◌||◌, List, [], ◌∷◌, Result, Ok, Err, refl, sym, ap, ◌∙◌, arith, cond, ◌++◌, true≢false}
use Rattle.pb_pddl.specs.declared.token.TokenKind.TheVariants as kinds
use Rattle.pb_pddl.specs.declared.token.Token.{Token}
use Rattle.pb_pddl.specs.declared.error.SyntaxError.{SyntaxError}
use Rattle.pb_pddl.specs.declared.error.Want.{Want}
use Rattle.pb_pddl.specs.declared.error.Want.TheVariants as wants
use Rattle.pb_pddl.specs.Reading.{◌>>=◌, Read, kind_number, same_kind, front, begins, begins_open, no_token, refusal, need, all_of}
use Rattle.pb_pddl.specs.Places
use Rattle.pb_pddl.specs.Places.{Place, fits, sample, takes_section, takes_part, first_fit, left_out, wanted, refused_token, refused}
use Rattle.pb_pddl_laws.proofs.ManyRead.{IsSound, IsComplete}
use Rattle.pb_pddl_laws.proofs.Readers.{Reads, Can, reads_done, can_done, reads_same, can_same}
use Rattle.pb_pddl_laws.proofs.Loops.{Takes, all_stop, loop, reads_loop}
use Rattle.pb_pddl_laws.proofs.Refusals.{plain, need_misfit, need_fit}
use Rattle.pb_pddl_laws.specs.Table.{Symbol, after}
use Rattle.pb_pddl_laws.proofs.Following.{Does, SamePlace, nothing, does_same, does_done, does_as, does_loop}
use Rattle.pb_pddl_laws.proofs.Agreeing.{Agrees, agrees_done, agrees_same, agrees_as, agrees_more}
use Rattle.pb_pddl_laws.proofs.Singles.{same_self}

pub or_last : (a b : Bool) → a ≡ false → a || b ≡ true → b ≡ true
or_last a b no_a e = ap (λ c. c || b) (sym no_a) ∙ e

pub or_first : (a b : Bool) → b ≡ false → a || b ≡ true → a ≡ true
or_first true b no_b e = refl
or_first false b no_b e = sym no_b ∙ e

-- a piece that the grammar has takes a token
pub takes_piece : {S : Type 0} (more : List Token → Bool) (step : S → List Token → Read S) (X : S → List Token → S → List Token → Type 0) → IsSound more step X → IsComplete more step X → Takes more step
takes_piece more step X sound complete s ts now rest goes e = (complete s ts now rest (sound s ts now rest goes e)).2

-- pieces that begin with a token of this test, each of which can stand where another can, and the ) behind them
pub record Pieces (S : Type 0) (more : List Token → Bool) (step : S → List Token → Read S) (want : S → Want) (test : Token → Bool) (place : S → Place) : Type 0 where
  pub more_is : (ts : List Token) → more ts ≡ test (front ts)
  pub none : more [] ≡ false
  pub takes : Takes more step
  pub no_end : (s : S) → fits (place s) no_token ≡ false
  pub refuse_step : (s : S) (t : Token) (us : List Token) → test t ≡ true → fits (place s) t ≡ false → step s (t ∷ us) ≡ Err (refused (place s) t)
  pub close_last : (s : S) (t : Token) → test t ≡ false → fits (place s) t ≡ same_kind t.kind kinds.Close
  pub end_refused : (s : S) (t : Token) → test t ≡ false → refused (place s) t ≡ refusal (want s) t
  pub no_close : test (sample kinds.Close) ≡ false

module _ {S Y : Type 0} {more : List Token → Bool} {step : S → List Token → Read S} {want : S → Want} {test : Token → Bool} {place : S → Place} (p : Pieces S more step want test place) (value : S → Y)
    (can_step : (s : S) (t : Token) → test t ≡ true → fits (place s) t ≡ true → Can (λ us. step s (t ∷ us))) where
  -- the ) behind them
  abbrev pub closing : S → List Token → Read Y
  closing s ts = need kinds.Close (want s) ts >>= λ rest. Ok (value s, rest)

  refuse_close : (s : S) (ts : List Token) → test (front ts) ≡ false → fits (place s) (front ts) ≡ false → closing s ts ≡ Err (refused (place s) (front ts))
  refuse_close s ts last misfit =
      ap (λ (r : Result (List Token) SyntaxError). r >>= λ rest. Ok (value s, rest))
      (need_misfit kinds.Close (want s) ts (sym (p.close_last s (front ts) last) ∙ misfit) ∙ ap (λ (e : SyntaxError). Err e) (sym (p.end_refused s (front ts) last)))

  closing_is : (s : S) (t : Token) (us : List Token) → same_kind t.kind kinds.Close ≡ true → closing s (t ∷ us) ≡ Ok (value s, us)
  closing_is s t us e = ap (λ (r : Result (List Token) SyntaxError). r >>= λ rest. Ok (value s, rest)) (need_fit kinds.Close (want s) t us e)

  closing_at : (s : S) (t : Token) → test t ≡ false → fits (place s) t ≡ true → (us : List Token) → closing s (t ∷ us) ≡ Ok (value s, us)
  closing_at s t last fit us = closing_is s t us (sym (p.close_last s t last) ∙ fit)

  stop_close : (rest : List Token) → more (sample kinds.Close ∷ rest) ≡ false
  unfolding front
  stop_close rest = p.more_is (sample kinds.Close ∷ rest) ∙ p.no_close

  pub can_closed : (s : S) → Can (loop more step closing s)
  can_closed s = (
    sample kinds.Close ∷ [],
    value s,
    λ rest. ap (λ (r : Read S). r >>= λ all. closing all.0 all.1) (all_stop more step p.none p.takes s (sample kinds.Close ∷ rest) (stop_close rest)) ∙ closing_is s (sample kinds.Close) rest (same_self kinds.Close),
  )

  pub reads_closed : (n : ℕ) → ((m : ℕ) → m < n → (s : S) (t : Token) → test t ≡ true → fits (place s) t ≡ true → Reads S m (λ us. step s (t ∷ us))) → (s : S) → Reads Y n (loop more step closing s)
  reads_closed n steps =
      reads_loop more step closing test place p.more_is p.none p.takes p.no_end p.refuse_step refuse_close can_step
      (λ s t last fit. can_same (λ us. closing s (t ∷ us)) (λ us. Ok (value s, us)) (closing_at s t last fit) (can_done (value s))) can_closed n n (omega arith) steps
      (λ m less s t last fit. reads_same (λ us. closing s (t ∷ us)) (λ us. Ok (value s, us)) (closing_at s t last fit) m (reads_done m (value s)))

  pub does_closed : (symbol : S → Symbol) → ((s : S) → SamePlace (symbol s) (place s)) → (rest : Y → List Symbol) → (n : ℕ)
      → ((m : ℕ) → m < n → (s : S) (t : Token) → test t ≡ true → fits (place s) t ≡ true → Does m (λ us. step s (t ∷ us)) (λ x. symbol x ∷ []) (after (symbol s) t))
      → ((s : S) (t : Token) → test t ≡ false → rest (value s) ≡ after (symbol s) t) → (s : S) → Does n (loop more step closing s) rest (symbol s ∷ [])
  does_closed symbol is rest n steps lasts =
      does_loop more step closing test place p.more_is p.none p.takes p.no_end p.refuse_step refuse_close symbol is rest n n (omega arith) steps
      (λ m less s t last fit. does_as m (λ us. closing s (t ∷ us)) rest (rest (value s)) (after (symbol s) t) (sym (lasts s t last))
      (does_same m (λ us. closing s (t ∷ us)) (λ us. Ok (value s, us)) rest (rest (value s)) (closing_at s t last fit) (does_done m rest (value s))))

pub agrees_closed : {S Y : Type 0} {more : List Token → Bool} {step : S → List Token → Read S} {want : S → Want} {test : Token → Bool} {place : S → Place} → Pieces S more step want test place → (value : S → Y)
    (symbol : S → Symbol) → ((s : S) → SamePlace (symbol s) (place s)) → {rest : Y → List Symbol}
    → ((s : S) (t : Token) → test t ≡ true → fits (place s) t ≡ true → Agrees S (λ us. step s (t ∷ us)) (λ x. symbol x ∷ []) (after (symbol s) t))
    → ((s : S) (t : Token) → test t ≡ false → rest (value s) ≡ after (symbol s) t) → (s : S)
    → Agrees Y (λ ts. all_of more step s ts >>= λ all. need kinds.Close (want all.0) all.1 >>= λ us. Ok (value all.0, us)) rest (symbol s ∷ [])
agrees_closed p value symbol is {rest} a lasts s =
    let can_step : (s : _) (t : Token) → _ = λ s t goes fit. (a s t goes fit).can in
    record {
      can = can_closed p value can_step s;
      reads = λ n. reads_closed p value can_step n (λ m less s t goes fit. (a s t goes fit).reads m) s;
      does = λ n. does_closed p value can_step symbol is rest n (λ m less s t goes fit. (a s t goes fit).does m) lasts s;
    }

-- pieces of one token
module _ {S Y : Type 0} (more : List Token → Bool) (step : S → List Token → Read S) (want : Want) (test : Token → Bool) (place : Place) (symbol : Symbol) (added : S → Token → S)
    (more_is : (ts : List Token) → more ts ≡ test (front ts)) (none : test no_token ≡ false) (takes : Takes more step)
    (fits_is : (t : Token) → fits place t ≡ test t || same_kind t.kind kinds.Close) (refused_is : (t : Token) → refused place t ≡ refusal want t) (no_close : test (sample kinds.Close) ≡ false)
    (step_is : (s : S) (t : Token) (us : List Token) → step s (t ∷ us) ≡ Ok (added s t, us))
    (is : SamePlace symbol place) (after_is : (t : Token) → after symbol t ≡ cond (test t) (symbol ∷ []) []) (value : S → Y) where
  token_pieces : Pieces S more step (λ s. want) test (λ s. place)
  unfolding front same_kind kind_number
  token_pieces = record {
    more_is = more_is;
    none = more_is [] ∙ none;
    takes = takes;
    no_end = λ s. fits_is no_token ∙ ap (λ b. b || false) none;
    refuse_step = λ s t us goes misfit. absurd (true≢false (sym (fits_is t ∙ ap (λ b. b || same_kind t.kind kinds.Close) goes) ∙ misfit));
    close_last = λ s t e. fits_is t ∙ ap (λ b. b || same_kind t.kind kinds.Close) e;
    end_refused = λ s t e. refused_is t;
    no_close = no_close;
  }

  pub agrees_tokens : (s : S) → Agrees Y (λ ts. all_of more step s ts >>= λ all. need kinds.Close want all.1 >>= λ us. Ok (value all.0, us)) nothing (symbol ∷ [])
  agrees_tokens =
      agrees_closed token_pieces value (λ s. symbol) (λ s. is)
      (λ s t goes fit. agrees_same (step_is s t) (agrees_as (after_is t ∙ ap (λ b. cond b (symbol ∷ []) []) goes) (agrees_done (added s t))))
      (λ s t stops. sym (after_is t ∙ ap (λ b. cond b (symbol ∷ []) []) stops))

-- ---- forms, each with its own parentheses

abbrev opens : Token → Bool
opens t = same_kind t.kind kinds.Open

form_fits : (t : Token) (v : Bool) → opens t ≡ v → fits Places.MoreForms t ≡ v || same_kind t.kind kinds.Close
unfolding fits
form_fits t v e = ap (λ b. b || same_kind t.kind kinds.Close) e

pub form_pieces : {S : Type 0} {step : S → List Token → Read S} → Takes begins_open step → Pieces S begins_open step (λ s. wants.Paren) opens (λ s. Places.MoreForms)
unfolding begins front fits refused_token left_out wanted first_fit takes_section takes_part same_kind kind_number
form_pieces takes = record {
  more_is = λ ts. refl;
  none = refl;
  takes = takes;
  no_end = λ s. refl;
  refuse_step = λ s t us goes misfit. absurd (true≢false (sym (form_fits t true goes) ∙ misfit));
  close_last = λ s t e. form_fits t false e;
  end_refused = λ s t e. plain Places.MoreForms t wants.Paren refl refl refl;
  no_close = refl;
}

-- of one kind
pub agrees_each : {S Y : Type 0} {step : S → List Token → Read S} (body : S → List Token → Read S) (value : S → Y) → Takes begins_open step → ((s : S) (t : Token) (us : List Token) → opens t ≡ true → step s (t ∷ us) ≡ body s us)
    → (c : Symbol) (inner : List Symbol) → SamePlace c Places.MoreForms → ((t : Token) → after c t ≡ cond (opens t) (inner ++ c ∷ []) []) → ((s : S) → Agrees S (body s) nothing inner) → (s : S)
    → Agrees Y (λ ts. all_of begins_open step s ts >>= λ all. need kinds.Close wants.Paren all.1 >>= λ us. Ok (value all.0, us)) nothing (c ∷ [])
agrees_each body value takes step_is c inner is after_is a =
    agrees_closed (form_pieces takes) value (λ s. c) (λ s. is)
    (λ s t goes fit. agrees_same (λ us. step_is s t us goes) (agrees_as (after_is t ∙ ap (λ b. cond b (inner ++ c ∷ []) []) goes) (agrees_more (c ∷ []) (a s))))
    (λ s t stops. sym (after_is t ∙ ap (λ b. cond b (inner ++ c ∷ []) []) stops))
