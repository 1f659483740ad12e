-- Parts and sections, each by its keyword: where their reading stops, and beside the table. Once for actions, domains and problems.
use Rattle.std.proofs.Common.{◌≡◌, ℕ, Bool, true, false, cond, not, ◌&&◌, ◌||◌, List, [], ◌∷◌, Err, refl, sym, ap, ◌∙◌, ◌⊎◌, inl, inr, append-nil, true≢false}
use Rattle.std.specs.Prelude.{Option}
use Rattle.std.specs.Str.{bytes_eq}
use Rattle.std.proofs.lemmas.Bool.{or_right, or_cases, and_parts, or_parts, cases_Bool}
use Rattle.std.proofs.lemmas.Slice.Eq.{bytes_eq-Decides}
use Rattle.pb_pddl.specs.declared.token.TokenKind.TheVariants as kinds
use Rattle.pb_pddl.specs.declared.token.Token.{Token}
use Rattle.pb_pddl.specs.declared.error.SyntaxError.{SyntaxError}
use Rattle.pb_pddl.specs.declared.error.SyntaxError.TheVariants as errors
use Rattle.pb_pddl.specs.declared.error.LeftOut.{LeftOut}
use Rattle.pb_pddl.specs.declared.error.Want.TheVariants as wants
use Rattle.pb_pddl.specs.declared.error.LeftOut.TheVariants as left
use Rattle.pb_pddl.specs.Reading.{Read, kind_number, same_kind, front, begins, spells, left_at, fault_at, refusal, no_section, no_token}
use Rattle.pb_pddl.specs.Places.{Place, fits, is_kind, is_key, reserved_head, other_key, left_out, wanted, refused_token, refused}
use Rattle.pb_pddl_laws.specs.Table.{Symbol, after}
use Rattle.pb_pddl_laws.proofs.CondsRead.{if_true, if_false}
use Rattle.pb_pddl_laws.proofs.Following.{SamePlace}
use Rattle.pb_pddl_laws.proofs.Agreeing.{Agrees, agrees_one, agrees_same, agrees_as}
use Rattle.pb_pddl_laws.proofs.Refusals.{told}
use Rattle.pb_pddl_laws.proofs.Keys.{key_token, as_key, no_text, not_free, free, keyed}

-- what f reads at this place, where this symbol is due, and behind it this
module _ {S : Type 0} (f : S → List Token → Read S) (place : S → Place) (symbol : S → Symbol) (due : S → List Symbol) where
  -- one of the sections: its keyword, what f does there, whether it stood, and what is read behind the keyword
  pub record Section : Type 0 where
    pub key : List ℕ
    pub at : S → List Token → Read S
    pub stood : S → Bool
    pub body : S → List Token → Read S
    pub goes : (s : S) (t : Token) (us : List Token) → stood s ≡ false → f s (key_token key t ∷ us) ≡ body s us
    pub again : (s : S) (t : Token) (us : List Token) → stood s ≡ true → f s (key_token key t ∷ us) ≡ Err (refused (place s) (key_token key t))
    pub agrees : (s : S) (t : Token) → Agrees S (body s) due (after (symbol s) (key_token key t))

  -- the keyword of one that did not stand
  abbrev fits_one : Section → S → Token → Bool
  fits_one c s t = is_key c.key t && not (c.stood s)

  abbrev pub fits_any : Bool → List Section → S → Token → Bool
  fits_any b [] s t = b
  fits_any b (c ∷ cs) s t = fits_any (b || fits_one c s t) cs s t

  -- the keyword of any
  abbrev pub known : Bool → List Section → List ℕ → Bool
  known b [] text = b
  known b (c ∷ cs) text = known (b || bytes_eq text c.key) cs text

  -- the first whose keyword stands here, and this error where there is none
  abbrev pub choose : (List Token → SyntaxError) → List Section → S → List Token → Read S
  choose none [] s ts = Err (none ts)
  choose none (c ∷ cs) s ts = cond (spells kinds.Key c.key ts) (c.at s ts) (choose none cs s ts)

  which : (cs : List Section) (b : Bool) (s : S) (t : Token) → fits_any b cs s t ≡ true → (b ≡ true) ⊎ ((c : Section) × (is_key c.key t ≡ true) × (c.stood s ≡ false))
  which [] b s t e = inl e
  which (c ∷ cs) b s t e = elim (which cs (b || fits_one c s t) s t e) [
    | inl here ↦ elim (or_cases b (fits_one c s t) here) [ inl before ↦ inl before | inr fit ↦ let x = free (is_key c.key t) (c.stood s) fit in inr ((c, x.0, x.1)) ]
    | inr later ↦ inr later
  ]

  abbrev Unknown : List Section → Token → Type 0
  Unknown [] t = true ≡ true
  Unknown (c ∷ cs) t = (is_key c.key t ≡ false) × Unknown cs t

  -- what does not fit stood, or is none of them
  stood_or_none : (cs : List Section) (b : Bool) (s : S) (t : Token) → fits_any b cs s t ≡ false → (b ≡ false) × (((c : Section) × (is_key c.key t ≡ true) × (c.stood s ≡ true)) ⊎ Unknown cs t)
  stood_or_none [] b s t e = (e, inr refl)
  stood_or_none (c ∷ cs) b s t e =
      let r = stood_or_none cs (b || fits_one c s t) s t e in
      let o = or_parts b (fits_one c s t) r.0 in (
        o.0,
        elim r.1 [
          | inl later ↦ inl later
          | inr none ↦ elim (cases_Bool (is_key c.key t)) [ inl here ↦ inl ((c, here, not_free (is_key c.key t) (c.stood s) here o.1)) | inr other ↦ inr ((other, none)) ]
        ],
      )

  none_chosen : (none : List Token → SyntaxError) (cs : List Section) (s : S) (ts : List Token) → Unknown cs (front ts) → choose none cs s ts ≡ Err (none ts)
  unfolding spells begins
  none_chosen none [] s ts u = refl
  none_chosen none (c ∷ cs) s ts u = if_false (is_key c.key (front ts)) _ _ u.0 ∙ none_chosen none cs s ts u.1

  none_known : (cs : List Section) (b : Bool) (t : Token) → is_kind kinds.Key t ≡ true → b ≡ false → Unknown cs t → known b cs t.text ≡ false
  none_known [] b t key before u = before
  none_known (c ∷ cs) b t key before u = none_known cs (b || bytes_eq t.text c.key) t key (ap (λ x. x || bytes_eq t.text c.key) before ∙ no_text c.key t key u.0) u.1

  other_unknown : (cs : List Section) (t : Token) → is_kind kinds.Key t ≡ false → Unknown cs t
  other_unknown [] t other = refl
  other_unknown (c ∷ cs) t other = (ap (λ b. b && bytes_eq t.text c.key) other, other_unknown cs t other)

  module _ (cs : List Section) (none : List Token → SyntaxError) (what : LeftOut)
      (fits_is : (s : S) (t : Token) → is_kind kinds.Key t ≡ true → fits (place s) t ≡ fits_any false cs s t)
      (chooses : (s : S) (ts : List Token) → f s ts ≡ choose none cs s ts)
      (none_is : (t : Token) (us : List Token) → is_kind kinds.Key t ≡ true → none (t ∷ us) ≡ errors.LeftOut t.at what)
      (token_is : (s : S) (t : Token) → refused_token (place s) t ≡ told (left_out (place s) t) t.at (wanted (place s) t))
      (left_is : (s : S) (t : Token) → left_out (place s) t ≡ cond (is_kind kinds.Key t) (other_key (known false cs t.text) what) (reserved_head t)) where
    left_refused : (s : S) (t : Token) → is_kind kinds.Key t ≡ true → Unknown cs t → refused (place s) t ≡ errors.LeftOut t.at what
    unfolding refused
    left_refused s t key u =
        keyed t (refused_token (place s) t) key
        ∙ token_is s t ∙ ap (λ (x : Option LeftOut). told x t.at (wanted (place s) t)) (
        left_is s t ∙ ap (λ b. cond b (other_key (known false cs t.text) what) (reserved_head t)) key ∙ ap (λ b. other_key b what) (none_known cs false t key refl u))

    pub key_refused : (s : S) (t : Token) (us : List Token) → is_kind kinds.Key t ≡ true → fits (place s) t ≡ false → f s (t ∷ us) ≡ Err (refused (place s) t)
    unfolding front
    key_refused s t us key misfit = elim (stood_or_none cs false s t (sym (fits_is s t key) ∙ misfit)).1 [
      | inl (c, here, there) ↦ ap (λ (x : Token). f s (x ∷ us)) (as_key c.key t here) ∙ c.again s t us there ∙ ap (λ (x : Token). Err (refused (place s) x)) (sym (as_key c.key t here))
      | inr u ↦ chooses s (t ∷ us) ∙ none_chosen none cs s (t ∷ us) u ∙ ap (λ (x : SyntaxError). Err x) (none_is t us key ∙ sym (left_refused s t key u))
    ]

    pub agrees_key : (s : S) (t : Token) → is_kind kinds.Key t ≡ true → fits (place s) t ≡ true → Agrees S (λ us. f s (t ∷ us)) due (after (symbol s) t)
    agrees_key s t key fit = elim (which cs false s t (sym (fits_is s t key) ∙ fit)) [
      | inl never ↦ absurd (true≢false (sym never))
      | inr (c, here, free_still) ↦ agrees_same (λ us. ap (λ (x : Token). f s (x ∷ us)) (as_key c.key t here) ∙ c.goes s t us free_still) (agrees_as (ap (λ (x : Token). after (symbol s) x) (as_key c.key t here)) (c.agrees s t))
    ]

  -- where not each stood, one may follow
  stays : (cs : List Section) (s : S) (t : Token) → fits_any true cs s t ≡ true
  stays [] s t = refl
  stays (c ∷ cs) s t = stays cs s t

  abbrev pub all_stood : List Section → S → Bool
  all_stood [] s = true
  all_stood (c ∷ cs) s = c.stood s && all_stood cs s

  free_fits : (c : Section) (s : S) → c.stood s ≡ false → fits_one c s (key_token c.key no_token) ≡ true
  unfolding same_kind kind_number
  free_fits c s e = ap (λ b. bytes_eq c.key c.key && not b) e ∙ ap (λ b. b && true) ((bytes_eq-Decides c.key c.key).1 refl)

  pub some_free : (cs : List Section) (s : S) → all_stood cs s ≡ false → (t : Token) × ((b : Bool) → fits_any b cs s t ≡ true)
  some_free [] s e = absurd (true≢false e)
  some_free (c ∷ cs) s e =
      elim (cases_Bool (c.stood s)) [
        | inl there ↦ let r = some_free cs s (sym (ap (λ b. b && all_stood cs s) there) ∙ e) in (r.0, λ b. r.1 (b || fits_one c s r.0))
        | inr open_still ↦ let t = key_token c.key no_token in (t, λ b. ap (λ x. fits_any x cs s t) (or_right b (fits_one c s t) (free_fits c s open_still)) ∙ stays cs s t)
      ]

  -- ---- sections, whose keyword must stand

  key_left : (t : Token) (us : List Token) → is_kind kinds.Key t ≡ true → no_section (t ∷ us) ≡ errors.LeftOut t.at left.Section
  unfolding no_section begins front left_at
  key_left t us key = if_true (is_kind kinds.Key t) _ _ key

  other_wanted : (ts : List Token) → is_kind kinds.Key (front ts) ≡ false → no_section ts ≡ refusal wants.Section (front ts)
  unfolding no_section begins fault_at
  other_wanted ts other = if_false (is_kind kinds.Key (front ts)) _ _ other

  module _ (cs : List Section) (fits_is : (s : S) (t : Token) → fits (place s) t ≡ fits_any false cs s t) (chooses : (s : S) (ts : List Token) → f s ts ≡ choose no_section cs s ts)
      (token_is : (s : S) (t : Token) → refused_token (place s) t ≡ told (left_out (place s) t) t.at (wanted (place s) t))
      (left_is : (s : S) (t : Token) → left_out (place s) t ≡ cond (is_kind kinds.Key t) (other_key (known false cs t.text) left.Section) (reserved_head t))
      (plain_is : (s : S) (t : Token) → is_kind kinds.Key t ≡ false → refused (place s) t ≡ refusal wants.Section t)
      (same : (s : S) → SamePlace (symbol s) (place s)) where
    is_a_key : (s : S) (t : Token) → fits (place s) t ≡ true → is_kind kinds.Key t ≡ true
    is_a_key s t fit = elim (which cs false s t (sym (fits_is s t) ∙ fit)) [
      | inl never ↦ absurd (true≢false (sym never))
      | inr (c, here, free_still) ↦ (and_parts (is_kind kinds.Key t) (bytes_eq t.text c.key) here).0
    ]

    misfits : (s : S) (ts : List Token) → fits (place s) (front ts) ≡ false → f s ts ≡ Err (refused (place s) (front ts))
    unfolding front same_kind kind_number
    misfits s [] misfit = chooses s [] ∙ none_chosen no_section cs s [] (other_unknown cs no_token refl) ∙ ap (λ (x : SyntaxError). Err x) (other_wanted [] refl ∙ sym (plain_is s no_token refl))
    misfits s (t ∷ us) misfit =
        elim (cases_Bool (is_kind kinds.Key t)) [
          | inl key ↦ key_refused cs no_section left.Section (λ x u _. fits_is x u) chooses key_left token_is left_is s t us key misfit
          | inr other ↦ chooses s (t ∷ us) ∙ none_chosen no_section cs s (t ∷ us) (other_unknown cs t other) ∙ ap (λ (x : SyntaxError). Err x) (other_wanted (t ∷ us) other ∙ sym (plain_is s t other))
        ]

    -- where one may still stand
    pub agrees_section : (s : S) (some : Token) → fits (place s) some ≡ true → Agrees S (f s) due (symbol s ∷ [])
    unfolding same_kind kind_number
    agrees_section s some some_fits =
        agrees_one {h = λ t us. f s (t ∷ us)} (symbol s) (same s) (record { no_end = no_end; refuse = misfits s; take = λ t us fit. refl; some = some; some_fits = some_fits })
        (λ t fit. agrees_as (append-nil (after (symbol s) t)) (agrees_key cs no_section left.Section (λ x u _. fits_is x u) chooses key_left token_is left_is s t (is_a_key s t fit) fit)) where
          never : (b : Bool) → fits (place s) no_token ≡ b → b ≡ false
          never true e = absurd (true≢false (sym (is_a_key s no_token e)))
          never false e = refl

          no_end : fits (place s) no_token ≡ false
          no_end = never (fits (place s) no_token) refl
