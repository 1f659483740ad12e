-- A problem of blocks and the domain of the blocks world are well typed.
use Rattle.std.proofs.Common.{All, ◌≡◌, ℕ, zero, suc, ◌+◌, ◌<◌, ◌≤◌, ◌^◌, Bool, true, false, cond, if◌then◌else◌, Option, None, Some, List, [], ◌∷◌, length, drop, map, codes, refl, ap, sym, subst, arith, ◌∙◌}
use Rattle.std.proofs.lemmas.Bool.{false_from_ne_true}
use Rattle.std.proofs.lemmas.List.{length-map}
use Rattle.std.proofs.lemmas.List.Elements.{All-from_recursion}
use Rattle.std.proofs.lemmas.Slice.Eq.{bytes_eq-Decides}
use Rattle.std.proofs.lemmas.Fmt.{decimal_injective}
use Rattle.std.specs.List.{AllByRecursion}
use Rattle.std.specs.Option.{option_map}
use Rattle.std.specs.Str.{bytes_eq}
use Rattle.pb_pddl.specs.declared.tree.Name.{Name}
use Rattle.pb_pddl.specs.declared.tree.Typed.{Typed}
use Rattle.pb_pddl.specs.declared.tree.Term.{Term}
use Rattle.pb_pddl.specs.declared.tree.Term.TheVariants as terms
use Rattle.pb_pddl.specs.declared.tree.Atom.{Atom}
use Rattle.pb_pddl.specs.declared.tree.Literal.{Literal}
use Rattle.pb_pddl.specs.declared.tree.Cost.{Cost}
use Rattle.pb_pddl.specs.declared.tree.Action.{Action}
use Rattle.pb_pddl.specs.declared.tree.Problem.{Problem}
use Rattle.pb_pddl.specs.Reading.{typed}
use Rattle.pb_lifted.specs.Names.{number_of}
use Rattle.pb_lifted.specs.Types.{is_below, kind_or, kind_text, name_text, object}
use Rattle.pb_lifted.specs.Objects.{entry_of, objects_of}
use Rattle.pb_lifted.specs.Facts.{name_at}
use Rattle.pb_lifted.specs.Space.{FitsParameter}
use Rattle.pb_lifted.specs.Costs.{cost_of, cost_with}
use Rattle.pb_lifted.specs.Typing.{ActionFits, AreDistinct, ArgumentsFit, AtomFits, CostsFit, HasNoCosts, IsRooted, IsWellTyped, KindIsKnown, PredicateFits, action_names, declared_names, object_names, predicate_names}
use Rattle.pb_make.specs.Problems.{block_name}
use Rattle.pb_make_laws.proofs.BlocksTree.{blocks_tree, on_predicate, ontable_predicate, clear_predicate, handempty_predicate, holding_predicate, pick_up, put_down, stack, unstack}
use Rattle.pb_make_laws.proofs.BlocksAtoms.{AreBlocks, IsBlock, IsBlockAtom, blocks_from, text_of}
use Rattle.pb_make_laws.proofs.BlocksProblems.{AreBlockAtoms}
use Rattle.pb_make_laws.proofs.BlocksRead.{IsBlocksProblem}

-- ---- names of blocks

block_is : (a b : ℕ) → a < 2 ^ 64 → b < 2 ^ 64 → block_name a ≡ block_name b → a ≡ b
block_is a b small_a small_b e = decimal_injective a b small_a small_b (ap (λ (xs : List ℕ). drop 1 xs) e)

number_is : (i block count : ℕ) → i < count → block + count < 2 ^ 64 → number_of (block_name (block + i)) (blocks_from block count) ≡ Some i
number_is i block zero less small = absurd (omega arith)
number_is zero block (suc count) less small =
    let same : block + 0 ≡ block = omega arith in
    ap (λ (test : Bool). if test then Some 0 else option_map suc (number_of (block_name (block + 0)) (blocks_from (block + 1) count)))
    ((bytes_eq-Decides (block_name (block + 0)) (block_name block)).1 (ap block_name same))
number_is (suc i) block (suc count) less small =
    let below : i < count = omega arith in
    let next : block + 1 + count < 2 ^ 64 = omega arith in
    let same : block + suc i ≡ block + 1 + i = omega arith in
    let large : block + suc i < 2 ^ 64 = omega arith in
    let low : block < 2 ^ 64 = omega arith in
    let other : bytes_eq (block_name (block + suc i)) (block_name block) ≡ false =
    false_from_ne_true (bytes_eq (block_name (block + suc i)) (block_name block)) (λ e.
    let is : block + suc i ≡ block = block_is (block + suc i) block large low ((bytes_eq-Decides (block_name (block + suc i)) (block_name block)).0 e) in
    omega (arith, is)) in
    ap (λ (test : Bool). if test then Some 0 else option_map suc (number_of (block_name (block + suc i)) (blocks_from (block + 1) count))) other
    ∙ ap (λ (k : ℕ). option_map suc (number_of (block_name k) (blocks_from (block + 1) count))) same ∙ ap (λ (o : Option ℕ). option_map suc o) (number_is i (block + 1) count below next)

name_is : (i block count : ℕ) → i < count → name_at (blocks_from block count) i ≡ block_name (block + i)
name_is i block zero less = absurd (omega arith)
name_is zero block (suc count) less = let same : block ≡ block + 0 = omega arith in ap block_name same
name_is (suc i) block (suc count) less =
    let below : i < count = omega arith in
    let same : block + 1 + i ≡ block + suc i = omega arith in
    name_is i (block + 1) count below ∙ ap block_name same

length-blocks : (block count : ℕ) → length (blocks_from block count) ≡ count
length-blocks block zero = refl
length-blocks block (suc count) = ap suc (length-blocks (block + 1) count)

blocks_differ : (blocks : ℕ) → blocks ≤ 14 → AreDistinct (blocks_from 0 blocks)
blocks_differ blocks few i less =
    let below : i < blocks = let count = length-blocks 0 blocks in omega (arith, less, count) in
    let small : 0 + blocks < 2 ^ 64 = omega arith in
    ap (λ (text : List ℕ). number_of text (blocks_from 0 blocks)) (name_is i 0 blocks below) ∙ number_is i 0 blocks below small

-- ---- the objects that blocks name

texts_of_typed : (names : List Name) → map name_text (typed None names) ≡ map text_of names
texts_of_typed [] = refl
texts_of_typed (first ∷ names) = ap (λ (xs : List (List ℕ)). first.text ∷ xs) (texts_of_typed names)

untyped_known : (names : List Name) → AllByRecursion (KindIsKnown []) (typed None names)
untyped_known [] = tt
untyped_known (first ∷ names) = (refl, untyped_known names)

-- the object that a name has
record HasEntry (names : List Name) (text : List ℕ) : Type 0 where
  pub entry : Typed
  pub found : entry_of (typed None names) text ≡ Some entry
  pub untyped : entry.kind ≡ None

some_before : (o : Option ℕ) (i : ℕ) → option_map suc o ≡ Some i → (k : ℕ) × (o ≡ Some k)
some_before None i e = absurd cc
some_before (Some k) i e = (k, refl)

-- the first name, or one of the others
first_or_later : (first : Name) (names : List Name) (text : List ℕ) (i : ℕ) (test : Bool) → bytes_eq text first.text ≡ test
    → (if test then Some 0 else option_map suc (number_of text (map text_of names))) ≡ Some i → ((k : ℕ) → number_of text (map text_of names) ≡ Some k → HasEntry names text) → HasEntry (first ∷ names) text
first_or_later first names text i true same e later = record {
  entry = record { name = first; kind = None };
  found = ap (λ (test : Bool). cond test (Some (record { name = first; kind = None })) (entry_of (typed None names) text)) same;
  untyped = refl;
}
first_or_later first names text i false other e later =
    let at = some_before (number_of text (map text_of names)) i e in
    let rest = later at.0 at.1 in
    record {
      entry = rest.entry;
      found = ap (λ (test : Bool). cond test (Some (record { name = first; kind = None })) (entry_of (typed None names) text)) other ∙ rest.found;
      untyped = rest.untyped;
    }

entry_at : (names : List Name) (text : List ℕ) (i : ℕ) → number_of text (map text_of names) ≡ Some i → HasEntry names text
entry_at [] text i e = absurd cc
entry_at (first ∷ names) text i e = first_or_later first names text i (bytes_eq text first.text) refl e (λ k f. entry_at names text k f)

-- ---- arguments that are blocks

module _ (blocks : ℕ) (few : blocks ≤ 14) (problem : Problem) (is : IsBlocksProblem blocks problem) where
  small : 0 + blocks < 2 ^ 64
  small = omega (arith, few)

  block_entry : (name : Name) → IsBlock blocks name → HasEntry is.names name.text
  block_entry name (block, less, text) =
      let same : block ≡ 0 + block = omega arith in
      entry_at is.names name.text block
      (ap (λ (texts : List (List ℕ)). number_of name.text texts) is.texts
      ∙ ap (λ (text : List ℕ). number_of text (blocks_from 0 blocks)) (text ∙ ap block_name same)
      ∙ number_is block 0 blocks less small)

  fits : (name : Name) (param : Typed) → IsBlock blocks name → param.kind ≡ None → FitsParameter [] (entry_of (objects_of blocks_tree problem) name.text) param
  fits name param block untyped =
      let has = block_entry name block in
      let found : entry_of (objects_of blocks_tree problem) name.text ≡ Some has.entry = ap (λ (list : List Typed). entry_of list name.text) is.objects ∙ has.found in
      subst (λ (o : Option Typed). FitsParameter [] o param) (sym found) (below has.entry has.untyped)
    where
      below : (entry : Typed) → entry.kind ≡ None → is_below [] (kind_text entry) (kind_text param) ≡ true
      below entry none = ap (λ (kind : Option Name). is_below [] (kind_or kind) (kind_text param)) none ∙ ap (λ (kind : Option Name). is_below [] object (kind_or kind)) untyped

  arguments_fit : (list : List Term) (params : List Typed) → AreBlocks blocks list params → ArgumentsFit blocks_tree problem [] list params
  arguments_fit [] [] are = tt
  arguments_fit [] (param ∷ params) are = are
  arguments_fit (term ∷ list) [] are = are
  arguments_fit (terms.Object name ∷ list) (param ∷ params) are = (fits name param are.0 are.1, arguments_fit list params are.2)
  arguments_fit (terms.Variable name ∷ list) (param ∷ params) are = absurd are

  atom_fits : (atom : Atom) → IsBlockAtom blocks atom → AtomFits blocks_tree problem [] atom
  atom_fits atom of = record { predicate = of.predicate; declared = of.declared; arguments = arguments_fit atom.terms of.predicate.params of.arguments }

  atoms_fit : (atoms : List Atom) → AreBlockAtoms blocks atoms → AllByRecursion (AtomFits blocks_tree problem []) atoms
  atoms_fit [] all = tt
  atoms_fit (atom ∷ atoms) all = (atom_fits atom all.0, atoms_fit atoms all.1)

  -- ---- the domain

  only_x : AreDistinct (codes "?x" ∷ [])
  only_x zero less = refl
  only_x (suc i) less = absurd (omega arith)

  only_x_and_y : AreDistinct (codes "?x" ∷ codes "?y" ∷ [])
  only_x_and_y zero less = refl
  only_x_and_y (suc zero) less = refl
  only_x_and_y (suc (suc i)) less = absurd (omega arith)

  different_predicates : AreDistinct (predicate_names blocks_tree)
  different_predicates zero less = refl
  different_predicates (suc zero) less = refl
  different_predicates (suc (suc zero)) less = refl
  different_predicates (suc (suc (suc zero))) less = refl
  different_predicates (suc (suc (suc (suc zero)))) less = refl
  different_predicates (suc (suc (suc (suc (suc i))))) less = absurd (omega arith)

  different_actions : AreDistinct (action_names blocks_tree)
  different_actions zero less = refl
  different_actions (suc zero) less = refl
  different_actions (suc (suc zero)) less = refl
  different_actions (suc (suc (suc zero))) less = refl
  different_actions (suc (suc (suc (suc i)))) less = absurd (omega arith)

  no_types : AreDistinct (declared_names blocks_tree)
  no_types i less = absurd (omega arith)

  pick_up_fits : ActionFits blocks_tree problem pick_up
  pick_up_fits = record {
    narrow = omega arith;
    distinct = only_x;
    params = All-from_recursion (KindIsKnown []) pick_up.params (refl, tt);
    pre = All-from_recursion (AtomFits blocks_tree problem pick_up.params) pick_up.pre (record { predicate = clear_predicate; declared = refl; arguments = (refl, tt) }, (record { predicate = ontable_predicate; declared = refl; arguments = (refl, tt) }, (record { predicate = handempty_predicate; declared = refl; arguments = tt }, tt)));
    effect = All-from_recursion (λ (l : Literal). AtomFits blocks_tree problem pick_up.params l.atom) pick_up.effect (record { predicate = ontable_predicate; declared = refl; arguments = (refl, tt) }, (record { predicate = clear_predicate; declared = refl; arguments = (refl, tt) }, (record { predicate = handempty_predicate; declared = refl; arguments = tt }, (record { predicate = holding_predicate; declared = refl; arguments = (refl, tt) }, tt))));
  }

  put_down_fits : ActionFits blocks_tree problem put_down
  put_down_fits = record {
    narrow = omega arith;
    distinct = only_x;
    params = All-from_recursion (KindIsKnown []) put_down.params (refl, tt);
    pre = All-from_recursion (AtomFits blocks_tree problem put_down.params) put_down.pre (record { predicate = holding_predicate; declared = refl; arguments = (refl, tt) }, tt);
    effect = All-from_recursion (λ (l : Literal). AtomFits blocks_tree problem put_down.params l.atom) put_down.effect (record { predicate = holding_predicate; declared = refl; arguments = (refl, tt) }, (record { predicate = clear_predicate; declared = refl; arguments = (refl, tt) }, (record { predicate = handempty_predicate; declared = refl; arguments = tt }, (record { predicate = ontable_predicate; declared = refl; arguments = (refl, tt) }, tt))));
  }

  stack_fits : ActionFits blocks_tree problem stack
  stack_fits = record {
    narrow = omega arith;
    distinct = only_x_and_y;
    params = All-from_recursion (KindIsKnown []) stack.params (refl, (refl, tt));
    pre = All-from_recursion (AtomFits blocks_tree problem stack.params) stack.pre (record { predicate = holding_predicate; declared = refl; arguments = (refl, tt) }, (record { predicate = clear_predicate; declared = refl; arguments = (refl, tt) }, tt));
    effect = All-from_recursion (λ (l : Literal). AtomFits blocks_tree problem stack.params l.atom) stack.effect (record { predicate = holding_predicate; declared = refl; arguments = (refl, tt) }, (record { predicate = clear_predicate; declared = refl; arguments = (refl, tt) }, (record { predicate = clear_predicate; declared = refl; arguments = (refl, tt) }, (record { predicate = handempty_predicate; declared = refl; arguments = tt }, (record { predicate = on_predicate; declared = refl; arguments = (refl, (refl, tt)) }, tt)))));
  }

  unstack_fits : ActionFits blocks_tree problem unstack
  unstack_fits = record {
    narrow = omega arith;
    distinct = only_x_and_y;
    params = All-from_recursion (KindIsKnown []) unstack.params (refl, (refl, tt));
    pre = All-from_recursion (AtomFits blocks_tree problem unstack.params) unstack.pre (record { predicate = on_predicate; declared = refl; arguments = (refl, (refl, tt)) }, (record { predicate = clear_predicate; declared = refl; arguments = (refl, tt) }, (record { predicate = handempty_predicate; declared = refl; arguments = tt }, tt)));
    effect = All-from_recursion (λ (l : Literal). AtomFits blocks_tree problem unstack.params l.atom) unstack.effect (record { predicate = holding_predicate; declared = refl; arguments = (refl, tt) }, (record { predicate = clear_predicate; declared = refl; arguments = (refl, tt) }, (record { predicate = clear_predicate; declared = refl; arguments = (refl, tt) }, (record { predicate = handempty_predicate; declared = refl; arguments = tt }, (record { predicate = on_predicate; declared = refl; arguments = (refl, (refl, tt)) }, tt)))));
  }

  predicates_fit : AllByRecursion (PredicateFits blocks_tree) blocks_tree.predicates
  predicates_fit = (record { narrow = omega arith; params = All-from_recursion (KindIsKnown []) on_predicate.params (refl, (refl, tt)) }, (record { narrow = omega arith; params = All-from_recursion (KindIsKnown []) ontable_predicate.params (refl, tt) }, (record { narrow = omega arith; params = All-from_recursion (KindIsKnown []) clear_predicate.params (refl, tt) }, (record { narrow = omega arith; params = All-from_recursion (KindIsKnown []) handempty_predicate.params tt }, (record { narrow = omega arith; params = All-from_recursion (KindIsKnown []) holding_predicate.params (refl, tt) }, tt)))))

  -- ---- no costs

  no_costs : HasNoCosts blocks_tree problem
  no_costs = record {
    increases = All-from_recursion (λ (a : Action). a.costs ≡ []) blocks_tree.actions (refl, (refl, (refl, (refl, tt))));
    initial = is.costs;
    metric = is.metric;
  }

  costs_something : (action : Action) → 1 ≤ cost_of problem action
  costs_something action = subst (λ (metric : Option ℕ). 1 ≤ cost_with metric action) (sym is.metric) (omega arith)

  no_number : (P : Cost → Type 0) → All P []
  no_number P = All-from_recursion P [] tt

  costs_fit : CostsFit blocks_tree problem
  costs_fit = record {
    declared = λ e. no_costs;
    once = All-from_recursion (λ (a : Action). length a.costs ≤ 1) blocks_tree.actions (omega arith, (omega arith, (omega arith, (omega arith, tt))));
    few = let none = no_number (λ c. c.number ≤ 2 ^ 20) in All-from_recursion (λ (a : Action). All (λ (c : Cost). c.number ≤ 2 ^ 20) a.costs) blocks_tree.actions (none, (none, (none, (none, tt))));
    some = All-from_recursion (λ (a : Action). 1 ≤ cost_of problem a) blocks_tree.actions (costs_something pick_up, (costs_something put_down, (costs_something stack, (costs_something unstack, tt))));
    once_at_first = subst (λ (costs : List Cost). length costs ≤ 1) (sym is.costs) (omega arith);
    none_at_first = subst (λ (costs : List Cost). All (λ (c : Cost). c.number ≡ 0) costs) (sym is.costs) (no_number (λ c. c.number ≡ 0));
  }

  pub object_count : length (objects_of blocks_tree problem) ≡ blocks
  object_count =
      ap length is.objects ∙ sym (length-map (typed None is.names) name_text) ∙ ap length (texts_of_typed is.names) ∙ ap length is.texts ∙ length-blocks 0 blocks

  objects_differ : AreDistinct (object_names blocks_tree problem)
  objects_differ = subst AreDistinct (sym (ap (map name_text) is.objects ∙ texts_of_typed is.names ∙ is.texts)) (blocks_differ blocks few)

  pub well_typed : IsWellTyped blocks_tree problem
  well_typed = record {
    same_domain = is.domain;
    few = let count = object_count in omega (arith, count, few);
    distinct_types = no_types;
    distinct_predicates = different_predicates;
    distinct_actions = different_actions;
    distinct = objects_differ;
    rooted = All-from_recursion (IsRooted []) [] tt;
    objects = subst (λ (list : List Typed). All (KindIsKnown []) list) (sym is.objects) (All-from_recursion (KindIsKnown []) (typed None is.names) (untyped_known is.names));
    predicates = All-from_recursion (PredicateFits blocks_tree) blocks_tree.predicates predicates_fit;
    actions = All-from_recursion (ActionFits blocks_tree problem) blocks_tree.actions (pick_up_fits, (put_down_fits, (stack_fits, (unstack_fits, tt))));
    init = All-from_recursion (AtomFits blocks_tree problem []) problem.init (atoms_fit problem.init is.init);
    goal = All-from_recursion (AtomFits blocks_tree problem []) problem.goal (atoms_fit problem.goal is.goal);
    costs = costs_fit;
  }
