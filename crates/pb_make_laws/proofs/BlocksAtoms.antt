-- The texts of names and atoms of blocks have the tokens of names and atoms.
use Rattle.std.proofs.Common.{◌≡◌, ℕ, zero, suc, ◌+◌, ◌<◌, ◌≤◌, ◌^◌, true, false, None, Some, List, [], ◌∷◌, ◌++◌, map, refl, ap, sym, subst, arith, ◌∙◌, append_assoc, append-nil, inl}
use Rattle.std.proofs.lemmas.Bool.{and_parts}
use Rattle.std.proofs.lemmas.Bool.Decides.{nat_tests}
use Rattle.std.specs.Char.{is_ascii_digit}
use Rattle.std.specs.Fmt.{decimal}
use Rattle.std.specs.List.{list_all}
use Rattle.pb_pddl.specs.declared.token.TokenKind.TheVariants as kinds
use Rattle.pb_pddl.specs.declared.token.Token.{Token}
use Rattle.pb_pddl.specs.declared.tree.Name.{Name}
use Rattle.pb_pddl.specs.declared.tree.Typed.{Typed}
use Rattle.pb_pddl.specs.declared.tree.Term.{Term}
use Rattle.pb_pddl.specs.declared.tree.Term.TheVariants as terms
use Rattle.pb_pddl.specs.declared.tree.Atom.{Atom}
use Rattle.pb_pddl.specs.declared.tree.Predicate.{Predicate}
use Rattle.pb_pddl.specs.Tokens.{is_white, begins_word, goes_on_word, lower, gap_next, kind_of}
use Rattle.pb_pddl.specs.Reading.{is_reserved, name_of}
use Rattle.pb_pddl.specs.Grammar.{Opens, Many, AddsName, IsAtom}
use Rattle.pb_lifted.specs.Objects.{predicate_of}
use Rattle.pb_make.specs.Problems.{block_name, objects_from}
use Rattle.pb_make_laws.proofs.Words.{all_by, decimal_number}
use Rattle.pb_make_laws.proofs.SpacedTokens.{IsSpelling, Reads, closes, opens, same_bytes, spelled, weakened, word_kind}
use Rattle.pb_make_laws.proofs.BlocksTree.{blocks_tree}

-- ---- words

goes_on : (byte : ℕ) → is_ascii_digit byte ≡ true → goes_on_word byte ≡ true
unfolding goes_on_word begins_word
goes_on byte e = grind (arith, nat_tests, e)

low_digit : (byte : ℕ) → is_ascii_digit byte ≡ true → lower byte ≡ byte
unfolding lower
low_digit byte e = grind (arith, nat_tests, e)

low_digits : (bytes : List ℕ) → list_all is_ascii_digit bytes ≡ true → map lower bytes ≡ bytes
low_digits [] e = refl
low_digits (b ∷ bs) e =
    let parts = and_parts (is_ascii_digit b) (list_all is_ascii_digit bs) e in
    ap (λ (x : ℕ). x ∷ map lower bs) (low_digit b parts.0) ∙ ap (λ (xs : List ℕ). b ∷ xs) (low_digits bs parts.1)

pub block_spelling : (k : ℕ) → k < 10 ^ 9 → IsSpelling kinds.Word 98 (decimal k)
unfolding gap_next is_white kind_of begins_word lower
block_spelling k small =
    let is = decimal_number k small in
    record {
      no_gap = refl;
      kind_is = λ rest. refl;
      goes = all_by is_ascii_digit goes_on_word goes_on (decimal k) is.digits;
      low = ap (λ (bs : List ℕ). 98 ∷ bs) (low_digits (decimal k) is.digits);
    }

-- ---- lists of names

abbrev pub text_of : Name → List ℕ
text_of name = name.text

-- the names of so many blocks
abbrev pub blocks_from : (block count : ℕ) → List (List ℕ)
blocks_from block zero = []
blocks_from block (suc count) = block_name block ∷ blocks_from (block + 1) count

map_snoc : (names : List Name) (name : Name) → map text_of (names ++ name ∷ []) ≡ map text_of names ++ text_of name ∷ []
map_snoc [] name = refl
map_snoc (first ∷ names) name = ap (λ (xs : List (List ℕ)). first.text ∷ xs) (map_snoc names name)

parted : (a o rest : List ℕ) → a ++ 32 ∷ (o ++ rest) ≡ ((a ++ 32 ∷ []) ++ o) ++ rest
parted a o rest = simp append_assoc

-- the tokens of the names, and those of what is behind them
abbrev pub NamesBlocks : (block count : ℕ) → (Q : List Token → Type 0) → List Token → Type 0
NamesBlocks block count Q ts =
    (said : List Name) → (names : List Name) × (us : List Token) × Many (AddsName kinds.Word) said ts names us × (map text_of names ≡ map text_of said ++ blocks_from block count) × Q us

pub names_read : {rest : List ℕ} {depth : ℕ} {Q : List Token → Type 0} (count block : ℕ) → block + count < 10 ^ 9 → Reads rest depth Q → Reads (objects_from block count ++ rest) depth (NamesBlocks block count Q)
names_read zero block small r = weakened r (λ ts q said. (said, ts, (0, (refl, refl)), sym (append-nil (map text_of said)), q))
names_read {rest} {depth} {Q} (suc count) block small r =
    let less : block < 10 ^ 9 = omega arith in
    let others : block + 1 + count < 10 ^ 9 = omega arith in
    same_bytes (parted (block_name block) (objects_from (block + 1) count) rest)
    (weakened (spelled kinds.Word 98 (decimal block) word_kind (block_spelling block less) (names_read count (block + 1) others r))
    (λ ts found said.
    let name = name_of found.1.0 in
    let next = found.2 (said ++ name ∷ []) in
    let texts : map text_of (said ++ name ∷ []) ≡ map text_of said ++ block_name block ∷ [] = map_snoc said name ∙ ap (λ (text : List ℕ). map text_of said ++ text ∷ []) found.1.2 in (
      next.0,
      next.1,
      (suc next.2.0, (said ++ name ∷ [], found.0, (name, (found.1.0, found.1.1, refl), refl), next.2.1)),
      next.3 ∙ ap (λ (xs : List (List ℕ)). xs ++ blocks_from (block + 1) count) texts ∙ append_assoc (map text_of said) (block_name block ∷ []) (blocks_from (block + 1) count),
      next.4,
    )))

-- ---- atoms

-- one of the first so many blocks
abbrev pub IsBlock : (blocks : ℕ) → Name → Type 0
IsBlock blocks name = (block : ℕ) × (block < blocks) × (name.text ≡ block_name block)

-- to each parameter a block
abbrev pub AreBlocks : (blocks : ℕ) → List Term → List Typed → Type 0
AreBlocks blocks [] [] = Unit {0}
AreBlocks blocks [] (param ∷ params) = ⊥
AreBlocks blocks (term ∷ list) [] = ⊥
AreBlocks blocks (terms.Object name ∷ list) (param ∷ params) = IsBlock blocks name × (param.kind ≡ None) × AreBlocks blocks list params
AreBlocks blocks (terms.Variable name ∷ list) (param ∷ params) = ⊥

-- an atom of a predicate of the blocks world, and of blocks
pub record IsBlockAtom (blocks : ℕ) (atom : Atom) : Type 0 where
  pub predicate : Predicate
  pub declared : predicate_of blocks_tree.predicates atom.predicate.text ≡ Some predicate
  pub arguments : AreBlocks blocks atom.terms predicate.params

-- a predicate of the blocks world that has this name
pub record IsPredicate (first : ℕ) (others : List ℕ) (predicate : Predicate) : Type 0 where
  pub spelling : IsSpelling kinds.Word first others
  pub free : is_reserved (first ∷ others) ≡ false
  pub declared : predicate_of blocks_tree.predicates (first ∷ others) ≡ Some predicate

-- the tokens of an atom in its parentheses, and those of what is behind it
abbrev pub ReadsAtom : (blocks : ℕ) → (Q : List Token → Type 0) → List Token → Type 0
ReadsAtom blocks Q ts = (inside us : List Token) × (atom : Atom) × Opens ts inside × IsAtom false inside us atom × IsBlockAtom blocks atom × Q us

pub atom_of_none : {rest : List ℕ} {depth : ℕ} {Q : List Token → Type 0} (blocks first : ℕ) (others : List ℕ) (predicate : Predicate) → IsPredicate first others predicate → predicate.params ≡ [] → depth < 31 → Reads rest depth Q
    → Reads (40 ∷ 32 ∷ (first ∷ others ++ 32 ∷ (41 ∷ 32 ∷ rest))) depth (ReadsAtom blocks Q)
atom_of_none {rest} {depth} {Q} blocks first others predicate is params low r =
    let inner : depth < 32 = omega arith in
    weakened (opens inner (spelled kinds.Word first others word_kind is.spelling (closes r)))
    (λ ts found.
    let head = found.2.1 in
    let last = found.2.2 in (
      found.0,
      last.0,
      record { predicate = name_of head.0; terms = [] },
      found.1,
      record {
        inside = found.2.0;
        last = found.2.0;
        head = ((head.0, head.1, refl), ap is_reserved head.2 ∙ is.free);
        terms = (0, (refl, refl));
        close = last.1;
      },
      record {
        predicate = predicate;
        declared = ap (predicate_of blocks_tree.predicates) head.2 ∙ is.declared;
        arguments = subst (AreBlocks blocks []) (sym params) tt;
      },
      last.2,
    ))

pub atom_of_one : {rest : List ℕ} {depth : ℕ} {Q : List Token → Type 0} (blocks block first : ℕ) (others : List ℕ) (predicate : Predicate) (param : Typed) → IsPredicate first others predicate → predicate.params ≡ param ∷ []
    → param.kind ≡ None → depth < 31 → block < blocks → blocks ≤ 14 → Reads rest depth Q
    → Reads (40 ∷ 32 ∷ (first ∷ others ++ 32 ∷ (block_name block ++ 32 ∷ (41 ∷ 32 ∷ rest)))) depth (ReadsAtom blocks Q)
atom_of_one {rest} {depth} {Q} blocks block first others predicate param is params untyped low less few r =
    let inner : depth < 32 = omega arith in
    let small : block < 10 ^ 9 = omega arith in
    weakened (opens inner (spelled kinds.Word first others word_kind is.spelling (spelled kinds.Word 98 (decimal block) word_kind (block_spelling block small) (closes r))))
    (λ ts found.
    let head = found.2.1 in
    let one = found.2.2 in
    let last = one.2 in (
      found.0,
      last.0,
      record { predicate = name_of head.0; terms = terms.Object (name_of one.1.0) ∷ [] },
      found.1,
      record {
        inside = found.2.0;
        last = one.0;
        head = ((head.0, head.1, refl), ap is_reserved head.2 ∙ is.free);
        terms = (1, (terms.Object (name_of one.1.0) ∷ [], one.0, (name_of one.1.0, inl ((one.1.0, one.1.1, refl), refl)), (refl, refl)));
        close = last.1;
      },
      record {
        predicate = predicate;
        declared = ap (predicate_of blocks_tree.predicates) head.2 ∙ is.declared;
        arguments = subst (AreBlocks blocks (terms.Object (name_of one.1.0) ∷ [])) (sym params) ((block, less, one.1.2), untyped, tt);
      },
      last.2,
    ))

pub atom_of_two : {rest : List ℕ} {depth : ℕ} {Q : List Token → Type 0} (blocks upper lower_one first : ℕ) (others : List ℕ) (predicate : Predicate) (one two : Typed) → IsPredicate first others predicate
    → predicate.params ≡ one ∷ two ∷ [] → one.kind ≡ None → two.kind ≡ None → depth < 31 → upper < blocks → lower_one < blocks → blocks ≤ 14 → Reads rest depth Q
    → Reads (40 ∷ 32 ∷ (first ∷ others ++ 32 ∷ (block_name upper ++ 32 ∷ (block_name lower_one ++ 32 ∷ (41 ∷ 32 ∷ rest))))) depth (ReadsAtom blocks Q)
atom_of_two {rest} {depth} {Q} blocks upper lower_one first others predicate one two is params untyped_one untyped_two low less_one less_two few r =
    let inner : depth < 32 = omega arith in
    let small_one : upper < 10 ^ 9 = omega arith in
    let small_two : lower_one < 10 ^ 9 = omega arith in
    weakened
    (opens inner
    (spelled kinds.Word first others word_kind is.spelling
    (spelled kinds.Word 98 (decimal upper) word_kind (block_spelling upper small_one) (spelled kinds.Word 98 (decimal lower_one) word_kind (block_spelling lower_one small_two) (closes r)))))
    (λ ts found.
    let head = found.2.1 in
    let a = found.2.2 in
    let b = a.2 in
    let last = b.2 in
    let first_term = terms.Object (name_of a.1.0) in
    let second_term = terms.Object (name_of b.1.0) in (
      found.0,
      last.0,
      record { predicate = name_of head.0; terms = first_term ∷ second_term ∷ [] },
      found.1,
      record {
        inside = found.2.0;
        last = b.0;
        head = ((head.0, head.1, refl), ap is_reserved head.2 ∙ is.free);
        terms = (
          2,
          (
            first_term ∷ [],
            a.0,
            (name_of a.1.0, inl ((a.1.0, a.1.1, refl), refl)),
            (first_term ∷ second_term ∷ [], b.0, (name_of b.1.0, inl ((b.1.0, b.1.1, refl), refl)), (refl, refl)),
          ),
        );
        close = last.1;
      },
      record {
        predicate = predicate;
        declared = ap (predicate_of blocks_tree.predicates) head.2 ∙ is.declared;
        arguments = subst (AreBlocks blocks (first_term ∷ second_term ∷ [])) (sym params) ((upper, less_one, a.1.2), untyped_one, ((lower_one, less_two, b.1.2), untyped_two, tt));
      },
      last.2,
    ))
