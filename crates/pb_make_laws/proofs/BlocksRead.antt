-- The text of a made problem is that of a problem: section by section, from the last to the first.
use Rattle.std.proofs.Common.{◌≡◌, ℕ, suc, ◌+◌, ◌-◌, ◌<◌, ◌≤◌, ◌^◌, false, None, Some, List, [], ◌∷◌, ◌++◌, length, map, codes, refl, ap, sym, subst, arith, inl, inr}
use Rattle.pb_pddl.specs.declared.token.TokenKind.TheVariants as kinds
use Rattle.pb_pddl.specs.declared.token.Token.{Token}
use Rattle.pb_pddl.specs.declared.tree.Name.{Name}
use Rattle.pb_pddl.specs.declared.tree.Atom.{Atom}
use Rattle.pb_pddl.specs.declared.tree.Problem.{Problem}
use Rattle.pb_pddl.specs.declared.parts.ProblemParts.{ProblemParts}
use Rattle.pb_pddl.specs.Tokens.{start}
use Rattle.pb_pddl.specs.Reading.{name_of, typed, no_problem}
use Rattle.pb_pddl.specs.Grammar.{Says, Opens, Closes, Ends, Many, IsCond, IsProblemSection, IsProblem, Titles}
use Rattle.pb_pddl.specs.Trees.{SpellsProblem}
use Rattle.pb_make.specs.Draws.{draws}
use Rattle.pb_make.specs.Problems.{facts_from, goal_from, objects_from, problem_text}
use Rattle.pb_make_laws.proofs.MapCells.{length-draws}
use Rattle.pb_make_laws.proofs.SpacedTokens.{Reads, closes, closes_last, key_kind, opens, spelled, weakened, word_kind}
use Rattle.pb_make_laws.proofs.BlocksTree.{handempty_predicate}
use Rattle.pb_make_laws.proofs.BlocksAtoms.{atom_of_none, blocks_from, names_read, text_of}
use Rattle.pb_make_laws.proofs.BlocksProblems.{AreBlockAtoms, FactsOf, GoalsOf, and_is, blocks_is, define_is, domain_is, fact_first, facts_read, goal_is, goals_read, handempty_is, init_is, made_is, objects_is, only_atoms, problem_is}

-- the last parenthesis, and the end
abbrev Tail : List Token → Type 0
Tail ts = (us : List Token) × Closes ts us × Ends us

-- ---- the goal

abbrev GoalThen : (blocks : ℕ) → List Token → Type 0
GoalThen blocks ts =
    (goal : List Atom) × (us : List Token) × AreBlockAtoms blocks goal × ((said : ProblemParts) → said.goal ≡ None → IsProblemSection said ts (record said { goal = Some goal }) us) × Tail us

cond_and : (first inside us last rest : List Token) (goal : List Atom) → Opens first inside → Says kinds.Word (codes "and") inside us → Many (IsCond false (suc (length us))) [] us goal last → Closes last rest
    → IsCond false (length first) [] first goal rest
cond_and first inside us last rest goal opened says many closed =
    let outer : length first ≡ suc (length inside) = ap length opened.1.0 in
    let inner : length inside ≡ suc (length us) = ap length says.1.0 in
    subst (λ (n : ℕ). IsCond false n [] first goal rest) (sym outer)
    (inside, opened, inr (inl (us, last, says, subst (λ (n : ℕ). Many (IsCond false n) [] us goal last) (sym inner) many, closed)))

abbrev BehindGoal : List Token → Type 0
BehindGoal ts = (a : List Token) × Closes ts a × ((b : List Token) × Closes a b × Tail b)

goal_read : (blocks : ℕ) (ds : List ℕ) → length ds < blocks → blocks ≤ 14 → Reads (codes "( :goal ( and " ++ (goal_from 0 ds ++ (codes ") ) )" ++ 10 ∷ []))) 1 (GoalThen blocks)
goal_read blocks ds less few =
    let low_one : 1 < 32 = omega arith in
    let low_two : 2 < 32 = omega arith in
    let behind : Reads (codes ") ) )" ++ 10 ∷ []) 3 BehindGoal = closes (closes closes_last) in
    let begun : Reads (codes ") ) )" ++ 10 ∷ []) 3 (GoalsOf blocks BehindGoal) = weakened behind (λ ts q room said all. (said, ts, (0, (refl, refl)), all, q)) in
    let start_less : 0 + length ds < blocks = omega arith in
    weakened (opens low_one (spelled kinds.Key 58 (codes "goal") key_kind goal_is (opens low_two (spelled kinds.Word 97 (codes "nd") word_kind and_is (goals_read blocks 0 ds start_less few begun)))))
    (λ ts found.
    let key = found.2 in
    let inside = key.2 in
    let word = inside.2 in
    let atoms = word.2 (length word.0) [] tt in
    let behind_it = atoms.4 in (
      atoms.0,
      behind_it.2.0,
      atoms.3,
      (λ said none. (
        key.0,
        inr (inr (inr (inr (inl (
          atoms.0,
          behind_it.0,
          (found.0, found.1, key.1),
          none,
          cond_and key.0 inside.0 word.0 atoms.1 behind_it.0 atoms.0 inside.1 word.1 atoms.2 behind_it.1,
          behind_it.2.1,
          refl,
        ))))),
      )),
      behind_it.2.2,
    ))

-- ---- the facts

abbrev InitThen : (blocks : ℕ) → List Token → Type 0
InitThen blocks ts =
    (init : List Atom) × (us : List Token) × AreBlockAtoms blocks init × ((said : ProblemParts) → said.init ≡ None → IsProblemSection said ts (record said { init = Some init; costs = [] }) us) × GoalThen blocks us

abbrev BehindInit : (blocks : ℕ) → List Token → Type 0
BehindInit blocks ts = (a : List Token) × Closes ts a × GoalThen blocks a

init_read : (blocks : ℕ) (goal : List ℕ) → blocks ≤ 14 → Reads goal 1 (GoalThen blocks) → Reads (codes "( :init " ++ (facts_from 0 blocks ++ (codes "( handempty ) ) " ++ goal))) 1 (InitThen blocks)
init_read blocks goal few r =
    let low_one : 1 < 32 = omega arith in
    let low_two : 2 < 31 = omega arith in
    let whole : 0 + blocks ≤ blocks = omega arith in
    let begun : Reads (codes ") " ++ goal) 2 (FactsOf blocks (BehindInit blocks)) = weakened (closes r) (λ ts q said all. (said, ts, (0, (refl, refl)), all, q)) in
    let hand : Reads (codes "( handempty ) ) " ++ goal) 2 (FactsOf blocks (BehindInit blocks)) =
    weakened (atom_of_none blocks 104 (codes "andempty") handempty_predicate handempty_is refl low_two begun) (fact_first blocks (BehindInit blocks)) in
    weakened (opens low_one (spelled kinds.Key 58 (codes "init") key_kind init_is (facts_read {Q = BehindInit blocks} blocks blocks 0 whole few hand)))
    (λ ts found.
    let key = found.2 in
    let atoms = key.2 [] tt in (
      atoms.0,
      atoms.4.0,
      atoms.3,
      (λ said none. (key.0, inr (inr (inr (inl (only_atoms atoms.0, (found.0, found.1, key.1), none, (atoms.1, atoms.2, atoms.4.1), refl)))))),
      atoms.4.2,
    ))

-- ---- the objects

abbrev ObjectsThen : (blocks : ℕ) → List Token → Type 0
ObjectsThen blocks ts =
    (names : List Name) × (us : List Token) × (map text_of names ≡ blocks_from 0 blocks)
    × ((said : ProblemParts) → said.objects ≡ None → IsProblemSection said ts (record said { objects = Some (typed None names) }) us) × InitThen blocks us

objects_read : (blocks : ℕ) (init : List ℕ) → blocks ≤ 14 → Reads init 1 (InitThen blocks) → Reads (codes "( :objects " ++ (objects_from 0 blocks ++ (codes ") " ++ init))) 1 (ObjectsThen blocks)
objects_read blocks init few r =
    let low_one : 1 < 32 = omega arith in
    let small : 0 + blocks < 10 ^ 9 = omega arith in
    weakened (opens low_one (spelled kinds.Key 58 (codes "objects") key_kind objects_is (names_read blocks 0 small (closes r))))
    (λ ts found.
    let key = found.2 in
    let names = key.2 [] in (
      names.0,
      names.4.0,
      names.3,
      (λ said none. (
        key.0,
        inr (inr (inl (
          typed None names.0,
          (found.0, found.1, key.1),
          none,
          record { done = []; names = names.0; last_names = key.0; last = names.1; groups = (0, (refl, refl)); others = names.2; close = names.4.1; is = refl },
          refl,
        ))),
      )),
      names.4.2,
    ))

-- ---- the name of the domain

abbrev DomainThen : (blocks : ℕ) → List Token → Type 0
DomainThen blocks ts =
    (name : Name) × (us : List Token) × (name.text ≡ codes "blocks") × ((said : ProblemParts) → said.domain ≡ None → IsProblemSection said ts (record said { domain = Some name }) us) × ObjectsThen blocks us

domain_read : (blocks : ℕ) (objects : List ℕ) → Reads objects 1 (ObjectsThen blocks) → Reads (codes "( :domain blocks ) " ++ objects) 1 (DomainThen blocks)
domain_read blocks objects r =
    let low_one : 1 < 32 = omega arith in
    weakened (opens low_one (spelled kinds.Key 58 (codes "domain") key_kind domain_is (spelled kinds.Word 98 (codes "locks") word_kind blocks_is (closes r))))
    (λ ts found.
    let key = found.2 in
    let word = key.2 in
    let last = word.2 in (
      name_of word.1.0,
      last.0,
      word.1.2,
      (λ said none. (key.0, inl (name_of word.1.0, word.0, (found.0, found.1, key.1), none, (word.1.0, word.1.1, refl), last.1, refl))),
      last.2,
    ))

-- ---- the whole form

abbrev TitleThen : (blocks : ℕ) → List Token → Type 0
TitleThen blocks ts = (name : Name) × (us : List Token) × Titles (codes "problem") ts us name × DomainThen blocks us

title_read : (blocks : ℕ) (domain : List ℕ) → Reads domain 1 (DomainThen blocks) → Reads (codes "( define ( problem made ) " ++ domain) 0 (TitleThen blocks)
title_read blocks domain r =
    let low : 0 < 32 = omega arith in
    let low_one : 1 < 32 = omega arith in
    weakened
    (opens low
    (spelled kinds.Word 100 (codes "efine") word_kind define_is (opens low_one (spelled kinds.Word 112 (codes "roblem") word_kind problem_is (spelled kinds.Word 109 (codes "ade") word_kind made_is (closes r))))))
    (λ ts found.
    let define = found.2 in
    let inside = define.2 in
    let word = inside.2 in
    let made = word.2 in
    let last = made.2 in (
      name_of made.1.0,
      last.0,
      record {
        one = found.0;
        two = define.0;
        three = inside.0;
        four = word.0;
        five = made.0;
        open_form = found.1;
        define = define.1;
        open_title = inside.1;
        word_is = word.1;
        name_is = (made.1.0, made.1.1, refl);
        close = last.1;
      },
      last.2,
    ))

-- a problem of so many blocks, whose facts and whose goal are of them
pub record IsBlocksProblem (blocks : ℕ) (problem : Problem) : Type 0 where
  pub domain : problem.domain.text ≡ codes "blocks"
  pub names : List Name
  pub texts : map text_of names ≡ blocks_from 0 blocks
  pub objects : problem.objects ≡ typed None names
  pub costs : problem.costs ≡ []
  pub metric : problem.metric ≡ None
  pub init : AreBlockAtoms blocks problem.init
  pub goal : AreBlockAtoms blocks problem.goal

assembled : (blocks : ℕ) (ts : List Token) → TitleThen blocks ts → (problem : Problem) × IsProblem ts problem × IsBlocksProblem blocks problem
assembled blocks ts title =
    let domain = title.3 in
    let objects = domain.4 in
    let init = objects.4 in
    let goal = init.4 in
    let tail = goal.4 in
    let one : ProblemParts = record no_problem { domain = Some domain.0 } in
    let two : ProblemParts = record one { objects = Some (typed None objects.0) } in
    let three : ProblemParts = record two { init = Some init.0; costs = [] } in
    let four : ProblemParts = record three { goal = Some goal.0 } in
    let problem : Problem = record { name = title.0; domain = domain.0; objects = typed None objects.0; init = init.0; goal = goal.0; costs = []; metric = None } in (
      problem,
      record {
        first = title.1;
        last = tail.0;
        parts = four;
        title = title.2;
        sections = (
          goal.1,
          (4, (one, domain.1, domain.3 no_problem refl, (two, objects.1, objects.3 one refl, (three, init.1, init.3 two refl, (four, goal.1, goal.3 three refl, (refl, refl)))))),
          tail.1,
        );
        ends = tail.2;
        domain = refl;
        objects = refl;
        init = refl;
        goal = refl;
        costs = refl;
        metric = refl;
      },
      record { domain = domain.2; names = objects.0; texts = objects.2; objects = refl; costs = refl; metric = refl; init = init.2; goal = goal.2 },
    )

pub made_problem_is_read : (seed blocks : ℕ) → 1 ≤ blocks → blocks ≤ 14 → (problem : Problem) × SpellsProblem (problem_text seed blocks) problem × IsBlocksProblem blocks problem
made_problem_is_read seed blocks some few =
    let ds = draws (blocks - 1) seed in
    let count : length ds ≡ blocks - 1 = length-draws (blocks - 1) seed in
    let fewer : length ds < blocks = omega (arith, count) in
    let goal = goal_read blocks ds fewer few in
    let objects = codes "( :init " ++ (facts_from 0 blocks ++ (codes "( handempty ) ) " ++ (codes "( :goal ( and " ++ (goal_from 0 ds ++ (codes ") ) )" ++ 10 ∷ []))))) in
    let whole : Reads (problem_text seed blocks) 0 (TitleThen blocks) =
    title_read blocks _ (domain_read blocks _ (objects_read blocks objects few (init_read blocks (codes "( :goal ( and " ++ (goal_from 0 ds ++ (codes ") ) )" ++ 10 ∷ []))) few goal))) in
    let found = whole.has start refl in
    let read = assembled blocks found.0 found.2 in
    (read.0, (found.0, found.1, read.1), read.2)
