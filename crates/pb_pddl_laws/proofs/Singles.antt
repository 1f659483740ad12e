-- Single tokens: what is taken is what the grammar has, and the other way round.
use Rattle.std.proofs.Common.{◌≡◌, ℕ, zero, suc, ◌<◌, Bool, true, false, cond, ◌&&◌, List, [], ◌∷◌, length, drop, Result, Ok, Err, refl, sym, ap, subst, ◌∙◌, arith, true≢false}
use Rattle.std.specs.Str.{bytes_eq}
use Rattle.std.proofs.lemmas.Slice.Eq.{bytes_eq-Decides}
use Rattle.pb_pddl.specs.declared.token.TokenKind.{TokenKind}
use Rattle.pb_pddl.specs.declared.token.TokenKind.TheVariants as kinds
use Rattle.pb_pddl.specs.declared.token.Token.{Token}
use Rattle.pb_pddl.specs.declared.tree.Name.{Name}
use Rattle.pb_pddl.specs.declared.error.SyntaxError.{SyntaxError}
use Rattle.pb_pddl.specs.declared.error.Want.{Want}
use Rattle.pb_pddl.specs.Reading.{◌>>=◌, kind_number, same_kind, front, begins, spells, fault_at, need, name_at, name_of}
use Rattle.pb_pddl.specs.Grammar.{Takes, Says, Names}

-- the value of a step that did not fail
pub bind_ok : {A B : Type 0} (r : Result A SyntaxError) (f : A → Result B SyntaxError) (y : B) → (r >>= f) ≡ Ok y → (x : A) × (r ≡ Ok x) × (f x ≡ Ok y)
bind_ok (Ok x) f y e = (x, refl, e)
bind_ok (Err d) f y e = absurd cc

pub bind_failed : {A B : Type 0} (r : Result A SyntaxError) (f : A → Result B SyntaxError) (e : SyntaxError) → r ≡ Err e → (r >>= f) ≡ Err e
bind_failed r f e is = ap (λ q. q >>= f) is

-- three steps, one after another
pub bind_bind : {A B C : Type 0} (r : Result A SyntaxError) (f : A → Result B SyntaxError) (g : B → Result C SyntaxError) → ((r >>= f) >>= g) ≡ (r >>= λ x. f x >>= g)
bind_bind (Ok x) f g = refl
bind_bind (Err e) f g = refl

-- a step that did not fail goes on
pub bind_again : {A B : Type 0} (r : Result A SyntaxError) (f : A → Result B SyntaxError) (x : A) (y : Result B SyntaxError) → r ≡ Ok x → f x ≡ y → (r >>= f) ≡ y
bind_again r f x y e h = ap (λ q. q >>= f) e ∙ h

abbrev pub done : {A : Type 0} → A → Result A SyntaxError
done x = Ok x

pub ok_is : {A : Type 0} (x y : A) → done x ≡ done y → x ≡ y
ok_is x y e = cc

pub ok_pair : {S : Type 0} (a b : S) (ts us : List Token) → done {A = S × List Token} (a, ts) ≡ done {A = S × List Token} (b, us) → (a ≡ b) × (ts ≡ us)
ok_pair {S} a b ts us e =
    let p : ◌≡◌ {A = S × List Token} (a, ts) (b, us) = ok_is {A = S × List Token} (a, ts) (b, us) e in
    (ap (λ (x : S × List Token). x.0) p, ap (λ (x : S × List Token). x.1) p)

-- a test that did not fail
pub guard_ok : {A : Type 0} (b : Bool) (x y : A) (d : SyntaxError) → cond b (Ok x) (Err d) ≡ Ok y → (b ≡ true) × (x ≡ y)
guard_ok true x y d e = (refl, cc)
guard_ok false x y d e = absurd cc

kind_of_number : ℕ → TokenKind
kind_of_number zero = kinds.Open
kind_of_number (suc zero) = kinds.Close
kind_of_number (suc (suc zero)) = kinds.Equals
kind_of_number (suc (suc (suc zero))) = kinds.Dash
kind_of_number (suc (suc (suc (suc zero)))) = kinds.Word
kind_of_number (suc (suc (suc (suc (suc zero))))) = kinds.Variable
kind_of_number (suc (suc (suc (suc (suc (suc zero)))))) = kinds.Key
kind_of_number (suc (suc (suc (suc (suc (suc (suc zero))))))) = kinds.Deep
kind_of_number (suc (suc (suc (suc (suc (suc (suc (suc zero)))))))) = kinds.Byte
kind_of_number (suc (suc (suc (suc (suc (suc (suc (suc (suc n))))))))) = kinds.End

kind_back : (k : TokenKind) → kind_of_number (kind_number k) ≡ k
unfolding kind_number kind_of_number
kind_back kinds.Open = refl
kind_back kinds.Close = refl
kind_back kinds.Equals = refl
kind_back kinds.Dash = refl
kind_back kinds.Word = refl
kind_back kinds.Variable = refl
kind_back kinds.Key = refl
kind_back kinds.Deep = refl
kind_back kinds.Byte = refl
kind_back kinds.End = refl

same_numbers : (a b : TokenKind) → same_kind a b ≡ true → kind_number a ≡ kind_number b
unfolding same_kind
same_numbers a b e = grind (arith, e)

pub kinds_same : (a b : TokenKind) → same_kind a b ≡ true → a ≡ b
kinds_same a b e = sym (kind_back a) ∙ ap kind_of_number (same_numbers a b e) ∙ kind_back b

pub same_self : (k : TokenKind) → same_kind k k ≡ true
unfolding same_kind kind_number
same_self kinds.Open = refl
same_self kinds.Close = refl
same_self kinds.Equals = refl
same_self kinds.Dash = refl
same_self kinds.Word = refl
same_self kinds.Variable = refl
same_self kinds.Key = refl
same_self kinds.Deep = refl
same_self kinds.Byte = refl
same_self kinds.End = refl

-- the end is no token that is taken
abbrev pub IsToken : TokenKind → Type 0
IsToken kind = same_kind kinds.End kind ≡ false

pub open_token : IsToken kinds.Open
unfolding same_kind kind_number
open_token = refl

pub close_token : IsToken kinds.Close
unfolding same_kind kind_number
close_token = refl

pub dash_token : IsToken kinds.Dash
unfolding same_kind kind_number
dash_token = refl

pub word_token : IsToken kinds.Word
unfolding same_kind kind_number
word_token = refl

pub equals_token : IsToken kinds.Equals
unfolding same_kind kind_number
equals_token = refl

pub variable_token : IsToken kinds.Variable
unfolding same_kind kind_number
variable_token = refl

pub key_token : IsToken kinds.Key
unfolding same_kind kind_number
key_token = refl

pub begins_takes : (kind : TokenKind) (ts : List Token) → IsToken kind → begins kind ts ≡ true → Takes kind ts (front ts) (drop 1 ts)
unfolding begins front
begins_takes kind [] some e = absurd (true≢false (sym e ∙ some))
begins_takes kind (t ∷ ts) some e = (refl, kinds_same t.kind kind e)

pub takes_begins : (kind : TokenKind) (ts : List Token) (t : Token) (rest : List Token) → Takes kind ts t rest → (begins kind ts ≡ true) × (front ts ≡ t) × (drop 1 ts ≡ rest)
unfolding begins front
takes_begins kind [] t rest h = absurd cc
takes_begins kind (u ∷ ts) t rest h =
    let same : u ≡ t = ap front h.0 in
    let k : u.kind ≡ kind = ap (λ (x : Token). x.kind) same ∙ h.1 in
    (ap (λ x. same_kind x kind) k ∙ same_self kind, same, ap (drop 1) h.0)

pub takes_less : (kind : TokenKind) (ts : List Token) (t : Token) (rest : List Token) → Takes kind ts t rest → length rest < length ts
takes_less kind ts t rest h = let e : length ts ≡ length (t ∷ rest) = ap length h.0 in omega (arith, e)

pub need_takes : (kind : TokenKind) (want : Want) (ts rest : List Token) → IsToken kind → need kind want ts ≡ Ok rest → (t : Token) × Takes kind ts t rest
unfolding need
need_takes kind want ts rest some e =
    let g = guard_ok (begins kind ts) (drop 1 ts) rest (fault_at want ts) e in
    (front ts, subst (Takes kind ts (front ts)) g.1 (begins_takes kind ts some g.0))

pub takes_need : (kind : TokenKind) (want : Want) (ts : List Token) (t : Token) (rest : List Token) → Takes kind ts t rest → need kind want ts ≡ Ok rest
unfolding need
takes_need kind want ts t rest h =
    let b = takes_begins kind ts t rest h in
    ap (λ q. cond q (Ok (drop 1 ts)) (Err (fault_at want ts))) b.0 ∙ ap (λ (r : List Token). Ok r) b.2

pub name_takes : (kind : TokenKind) (want : Want) (ts rest : List Token) (name : Name) → IsToken kind → name_at kind want ts ≡ Ok (name, rest) → Names kind ts rest name
unfolding name_at
name_takes kind want ts rest name some e =
    let g = guard_ok (begins kind ts) (name_of (front ts), drop 1 ts) (name, rest) (fault_at want ts) e in
    (front ts, subst (Takes kind ts (front ts)) (ap (λ (x : Name × List Token). x.1) g.1) (begins_takes kind ts some g.0), sym (ap (λ (x : Name × List Token). x.0) g.1))

pub takes_name : (kind : TokenKind) (want : Want) (ts rest : List Token) (name : Name) → Names kind ts rest name → name_at kind want ts ≡ Ok (name, rest)
unfolding name_at
takes_name kind want ts rest name (t, h, is) =
    let b = takes_begins kind ts t rest h in
    ap (λ q. cond q (Ok (name_of (front ts), drop 1 ts)) (Err (fault_at want ts))) b.0
    ∙ ap (λ (n : Name). Ok (n, drop 1 ts)) (ap name_of b.1 ∙ sym is) ∙ ap (λ (r : List Token). Ok (name, r)) b.2

-- a word or keyword of this text
pub spells_says : (kind : TokenKind) (text : List ℕ) (ts : List Token) → IsToken kind → spells kind text ts ≡ true → Says kind text ts (drop 1 ts)
unfolding spells
spells_says kind text ts some e =
    let both : (a b : Bool) → a && b ≡ true → (a ≡ true) × (b ≡ true) = λ a b. elim a as (λ a. a && b ≡ true → (a ≡ true) × (b ≡ true)) [ true ↦ λ h. (refl, h) | false ↦ λ h. absurd (true≢false (sym h)) ] in
    let p = both (begins kind ts) (bytes_eq (front ts).text text) e in
    let h = begins_takes kind ts some p.0 in
    (front ts, h, (bytes_eq-Decides (front ts).text text).0 p.1)

pub says_spells : (kind : TokenKind) (text : List ℕ) (ts rest : List Token) → Says kind text ts rest → (spells kind text ts ≡ true) × (drop 1 ts ≡ rest) × (length rest < length ts)
unfolding spells
says_spells kind text ts rest (t, h, is) =
    let b = takes_begins kind ts t rest h in
    let same : bytes_eq (front ts).text text ≡ true = (bytes_eq-Decides (front ts).text text).1 (ap (λ (x : Token). x.text) b.1 ∙ is) in
    (ap (λ a. a && bytes_eq (front ts).text text) b.0 ∙ same, b.2, takes_less kind ts t rest h)

-- a token of one kind is none of another
pub takes_other : (kind other : TokenKind) (ts : List Token) (t : Token) (rest : List Token) → same_kind kind other ≡ false → Takes kind ts t rest → begins other ts ≡ false
unfolding begins front
takes_other kind other [] t rest differ h = absurd cc
takes_other kind other (u ∷ ts) t rest differ h =
    let k : u.kind ≡ kind = ap (λ (x : Token). x.kind) (ap front h.0) ∙ h.1 in
    ap (λ x. same_kind x other) k ∙ differ

pub spells_not : (kind : TokenKind) (text : List ℕ) (ts : List Token) → begins kind ts ≡ false → spells kind text ts ≡ false
unfolding spells
spells_not kind text ts differ = ap (λ a. a && bytes_eq (front ts).text text) differ

pub close_no_open : same_kind kinds.Close kinds.Open ≡ false
unfolding same_kind kind_number
close_no_open = refl

pub close_no_dash : same_kind kinds.Close kinds.Dash ≡ false
unfolding same_kind kind_number
close_no_dash = refl

pub open_no_close : same_kind kinds.Open kinds.Close ≡ false
unfolding same_kind kind_number
open_no_close = refl

pub word_no_equals : same_kind kinds.Word kinds.Equals ≡ false
unfolding same_kind kind_number
word_no_equals = refl

pub word_no_close : same_kind kinds.Word kinds.Close ≡ false
unfolding same_kind kind_number
word_no_close = refl

pub close_other : (t : Token) → same_kind t.kind kinds.Close ≡ true → same_kind t.kind kinds.Open ≡ false
close_other t e = ap (λ k. same_kind k kinds.Open) (kinds_same t.kind kinds.Close e) ∙ close_no_open
