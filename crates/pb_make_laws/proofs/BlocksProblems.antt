-- The text of a problem of blocks has the tokens of a problem, which names blocks and states facts and a goal of them.
use Rattle.std.proofs.Common.{◌≡◌, ℕ, zero, suc, ◌+◌, ◌<◌, ◌≤◌, Bool, true, false, ◌==◌, ◌%◌, if◌then◌else◌, List, [], ◌∷◌, ◌++◌, length, codes, refl, arith, append_assoc, inr}
use Rattle.std.specs.List.{AllByRecursion}
use Rattle.pb_pddl.specs.declared.token.TokenKind.TheVariants as kinds
use Rattle.pb_pddl.specs.declared.token.Token.{Token}
use Rattle.pb_pddl.specs.declared.tree.Atom.{Atom}
use Rattle.pb_pddl.specs.declared.parts.InitParts.{InitParts}
use Rattle.pb_pddl.specs.Tokens.{is_white, begins_word, goes_on_word, lower, gap_next, kind_of, word_first}
use Rattle.pb_pddl.specs.Reading.{is_reserved}
use Rattle.pb_pddl.specs.Grammar.{Many, IsFact, IsCond}
use Rattle.pb_make.specs.Problems.{block_name, facts_from, goal_from}
use Rattle.pb_make_laws.proofs.SpacedTokens.{IsSpelling, Reads, same_bytes, weakened}
use Rattle.pb_make_laws.proofs.BlocksTree.{on_predicate, ontable_predicate, clear_predicate, handempty_predicate, untyped, name}
use Rattle.pb_make_laws.proofs.BlocksAtoms.{IsBlockAtom, IsPredicate, ReadsAtom, atom_of_one, atom_of_two}

-- ---- the words of the blocks world

pub on_is : IsPredicate 111 (codes "n") on_predicate
unfolding gap_next is_white kind_of begins_word goes_on_word lower is_reserved
on_is = record { spelling = record { no_gap = refl; kind_is = λ rest. refl; goes = refl; low = refl }; free = refl; declared = refl }

pub ontable_is : IsPredicate 111 (codes "ntable") ontable_predicate
unfolding gap_next is_white kind_of begins_word goes_on_word lower is_reserved
ontable_is = record { spelling = record { no_gap = refl; kind_is = λ rest. refl; goes = refl; low = refl }; free = refl; declared = refl }

pub clear_is : IsPredicate 99 (codes "lear") clear_predicate
unfolding gap_next is_white kind_of begins_word goes_on_word lower is_reserved
clear_is = record { spelling = record { no_gap = refl; kind_is = λ rest. refl; goes = refl; low = refl }; free = refl; declared = refl }

pub handempty_is : IsPredicate 104 (codes "andempty") handempty_predicate
unfolding gap_next is_white kind_of begins_word goes_on_word lower is_reserved
handempty_is = record { spelling = record { no_gap = refl; kind_is = λ rest. refl; goes = refl; low = refl }; free = refl; declared = refl }

pub define_is : IsSpelling kinds.Word 100 (codes "efine")
unfolding gap_next is_white kind_of begins_word goes_on_word lower
define_is = record { no_gap = refl; kind_is = λ rest. refl; goes = refl; low = refl }

pub problem_is : IsSpelling kinds.Word 112 (codes "roblem")
unfolding gap_next is_white kind_of begins_word goes_on_word lower
problem_is = record { no_gap = refl; kind_is = λ rest. refl; goes = refl; low = refl }

pub made_is : IsSpelling kinds.Word 109 (codes "ade")
unfolding gap_next is_white kind_of begins_word goes_on_word lower
made_is = record { no_gap = refl; kind_is = λ rest. refl; goes = refl; low = refl }

pub blocks_is : IsSpelling kinds.Word 98 (codes "locks")
unfolding gap_next is_white kind_of begins_word goes_on_word lower
blocks_is = record { no_gap = refl; kind_is = λ rest. refl; goes = refl; low = refl }

pub and_is : IsSpelling kinds.Word 97 (codes "nd")
unfolding gap_next is_white kind_of begins_word goes_on_word lower
and_is = record { no_gap = refl; kind_is = λ rest. refl; goes = refl; low = refl }

pub domain_is : IsSpelling kinds.Key 58 (codes "domain")
unfolding gap_next is_white kind_of word_first begins_word goes_on_word lower
domain_is = record { no_gap = refl; kind_is = λ rest. refl; goes = refl; low = refl }

pub objects_is : IsSpelling kinds.Key 58 (codes "objects")
unfolding gap_next is_white kind_of word_first begins_word goes_on_word lower
objects_is = record { no_gap = refl; kind_is = λ rest. refl; goes = refl; low = refl }

pub init_is : IsSpelling kinds.Key 58 (codes "init")
unfolding gap_next is_white kind_of word_first begins_word goes_on_word lower
init_is = record { no_gap = refl; kind_is = λ rest. refl; goes = refl; low = refl }

pub goal_is : IsSpelling kinds.Key 58 (codes "goal")
unfolding gap_next is_white kind_of word_first begins_word goes_on_word lower
goal_is = record { no_gap = refl; kind_is = λ rest. refl; goes = refl; low = refl }

-- ---- facts

abbrev pub AreBlockAtoms : (blocks : ℕ) → List Atom → Type 0
AreBlockAtoms blocks atoms = AllByRecursion (IsBlockAtom blocks) atoms

all_snoc : (blocks : ℕ) (atoms : List Atom) (atom : Atom) → AreBlockAtoms blocks atoms → IsBlockAtom blocks atom → AreBlockAtoms blocks (atoms ++ atom ∷ [])
all_snoc blocks [] atom all is = (is, tt)
all_snoc blocks (first ∷ atoms) atom all is = (all.0, all_snoc blocks atoms atom all.1 is)

-- these facts and no cost
abbrev pub only_atoms : List Atom → InitParts
only_atoms atoms = record { atoms = atoms; costs = [] }

-- the tokens of facts, and those of what is behind them
abbrev pub FactsOf : (blocks : ℕ) → (Q : List Token → Type 0) → List Token → Type 0
FactsOf blocks Q ts = (said : List Atom) → AreBlockAtoms blocks said → (atoms : List Atom) × (us : List Token) × Many IsFact (only_atoms said) ts (only_atoms atoms) us × AreBlockAtoms blocks atoms × Q us

-- a fact before other facts
pub fact_first : (blocks : ℕ) (Q : List Token → Type 0) (ts : List Token) → ReadsAtom blocks (FactsOf blocks Q) ts → FactsOf blocks Q ts
fact_first blocks Q ts found said all =
    let next = found.6 (said ++ found.2 ∷ []) (all_snoc blocks said found.2 all found.5) in
    (next.0, next.1, (suc next.2.0, (only_atoms (said ++ found.2 ∷ []), found.1, (found.0, found.3, inr (found.2, found.4, refl)), next.2.1)), next.3, next.4)

parted : (a b c d more rest : List ℕ) → a ++ (b ++ (c ++ (b ++ (d ++ (more ++ rest))))) ≡ ((a ++ (b ++ (c ++ (b ++ d)))) ++ more) ++ rest
parted a b c d more rest = simp append_assoc

pub facts_read : {rest : List ℕ} {Q : List Token → Type 0} (blocks count block : ℕ) → block + count ≤ blocks → blocks ≤ 14 → Reads rest 2 (FactsOf blocks Q) → Reads (facts_from block count ++ rest) 2 (FactsOf blocks Q)
facts_read blocks zero block less few r = r
facts_read {rest} {Q} blocks (suc count) block less few r =
    let below : block < blocks = omega arith in
    let others : block + 1 + count ≤ blocks = omega arith in
    let more = facts_from (block + 1) count in
    let low : 2 < 31 = omega arith in
    same_bytes (parted (codes "( clear ") (block_name block) (codes " ) ( ontable ") (codes " ) ") more rest)
    (weakened
    (atom_of_one blocks block 99 (codes "lear") clear_predicate (untyped (name (codes "?x") 92)) clear_is refl refl low below few
    (weakened (atom_of_one blocks block 111 (codes "ntable") ontable_predicate (untyped (name (codes "?x") 81)) ontable_is refl refl low below few (facts_read {Q = Q} blocks count (block + 1) others few r)) (fact_first blocks Q)))
    (fact_first blocks Q))

-- ---- the goal

-- the tokens of conditions, and those of what is behind them
abbrev pub GoalsOf : (blocks : ℕ) → (Q : List Token → Type 0) → List Token → Type 0
GoalsOf blocks Q ts =
    (room : ℕ) (said : List Atom) → AreBlockAtoms blocks said → (atoms : List Atom) × (us : List Token) × Many (IsCond false (suc room)) said ts atoms us × AreBlockAtoms blocks atoms × Q us

goal_first : (blocks : ℕ) (Q : List Token → Type 0) (ts : List Token) → ReadsAtom blocks (GoalsOf blocks Q) ts → GoalsOf blocks Q ts
goal_first blocks Q ts found room said all =
    let next = found.6 room (said ++ found.2 ∷ []) (all_snoc blocks said found.2 all found.5) in
    (next.0, next.1, (suc next.2.0, (said ++ found.2 ∷ [], found.1, (found.0, found.3, inr (inr (found.2, found.4, refl))), next.2.1)), next.3, next.4)

goal_parted : (a b c d e more rest : List ℕ) → a ++ (b ++ (c ++ (d ++ (e ++ (more ++ rest))))) ≡ ((a ++ (b ++ (c ++ (d ++ e)))) ++ more) ++ rest
goal_parted a b c d e more rest = simp append_assoc

-- the text of an atom that may be there, before the texts of others
goal_or_none : {Q : List Token → Type 0} (blocks block : ℕ) (others rest : List ℕ) (even : Bool) → block + 1 < blocks → blocks ≤ 14 → Reads (others ++ rest) 3 (GoalsOf blocks Q)
    → Reads (((if even then codes "( on " ++ (block_name (block + 1) ++ (codes " " ++ (block_name block ++ codes " ) "))) else []) ++ others) ++ rest) 3 (GoalsOf blocks Q)
goal_or_none {Q} blocks block others rest true less few r =
    let below : block < blocks = omega arith in
    let low : 3 < 31 = omega arith in
    same_bytes (goal_parted (codes "( on ") (block_name (block + 1)) (codes " ") (block_name block) (codes " ) ") others rest)
    (weakened (atom_of_two blocks (block + 1) block 111 (codes "n") on_predicate (untyped (name (codes "?x") 65)) (untyped (name (codes "?y") 68)) on_is refl refl refl low less below few r) (goal_first blocks Q))
goal_or_none blocks block others rest false less few r = r

pub goals_read : {rest : List ℕ} {Q : List Token → Type 0} (blocks block : ℕ) (ds : List ℕ) → block + length ds < blocks → blocks ≤ 14 → Reads rest 3 (GoalsOf blocks Q) → Reads (goal_from block ds ++ rest) 3 (GoalsOf blocks Q)
goals_read blocks block [] less few r = r
goals_read {rest} {Q} blocks block (draw ∷ ds) less few r =
    let upper : block + 1 < blocks = omega arith in
    let fewer : block + 1 + length ds < blocks = omega arith in
    goal_or_none {Q = Q} blocks block (goal_from (block + 1) ds) rest (draw % 2 == 0) upper few (goals_read {rest = rest} {Q = Q} blocks (block + 1) ds fewer few r)
