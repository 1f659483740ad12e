-- The parts that are put together are those of the task.
use Rattle.std.proofs.Common.{◌≡◌, ◌≤◌, ℕ, Bool, List, [], length, map, All, sym, ap, ◌∙◌, subst}
use Rattle.pb_packed.specs.Sizes.{most_atoms}
use Rattle.pb_pddl.specs.declared.tree.Domain.{Domain}
use Rattle.pb_pddl.specs.declared.tree.Problem.{Problem}
use Rattle.pb_lifted.specs.declared.lifted.Lifted.{Lifted}
use Rattle.pb_lifted.specs.declared.lifted.LiftedAtom.{LiftedAtom}
use Rattle.pb_lifted.specs.Lifted.{lifted_of}
use Rattle.pb_ground.specs.declared.actions.ActionInstance as instance
use Rattle.pb_ground.specs.declared.atoms.GroundAtom.{GroundAtom}
use Rattle.pb_ground.specs.Atoms.{ground_atoms}
use Rattle.pb_ground.specs.Actions.{numbers_of, kept_actions, kept_never}
use Rattle.pb_ground.specs.Statics.{keep_all}
use Rattle.pb_ground.specs.Steps.{Facts}
use Rattle.pb_task.specs.declared.grounding.Grounding.{Grounding}
use Rattle.pb_task.specs.declared.grounding.Grounding.TheVariants as groundings
use Rattle.pb_task.specs.declared.parts.GroundAction.{GroundAction}
use Rattle.pb_task.specs.declared.parts.StripsParts.{StripsParts}
use Rattle.pb_strips.specs.Grounding.{numbered_set, packed_action, strips_by, strips_of}
use Rattle.pb_strips.specs.Packing.{AreAtoms, HasAtoms}
use Rattle.pb_strips.proofs.Below.{numbers_below, actions_have}

abbrev parts : Grounding → ℕ → List GroundAction → ℕ → ℕ → Bool → StripsParts
parts grounding atoms actions start goal never = record { atoms = atoms; actions = actions; start = start; goal = goal; never = never; grounding = grounding }

same_parts : (grounding : Grounding) (n m : ℕ) (actions others : List GroundAction) (start first goal last : ℕ) (never ever : Bool) → n ≡ m → actions ≡ others → start ≡ first → goal ≡ last → never ≡ ever
    → parts grounding n actions start goal never ≡ parts grounding m others first last ever
same_parts grounding n m actions others start first goal last never ever a b c d e =
    let made : ℕ → List GroundAction → ℕ → ℕ → Bool → StripsParts = parts grounding in
    ap (λ k. made k actions start goal never) a ∙ (ap (λ k. made m k start goal never) b
    ∙ (ap (λ k. made m others k goal never) c ∙ (ap (λ k. made m others first k never) d ∙ ap (λ k. made m others first last k) e)))

-- what a set of numbers is, whatever the number of atoms
abbrev pub Packs : List ℕ → ℕ → Type 0
Packs numbers set = (count : ℕ) → count ≤ most_atoms → AreAtoms count numbers → set ≡ numbered_set count numbers

set_is : (atoms : List GroundAtom) (list other : List LiftedAtom) (numbers : List ℕ) (set : ℕ) → length atoms ≤ most_atoms → numbers ≡ numbers_of atoms [] list → list ≡ other → Packs numbers set
    → set ≡ numbered_set (length atoms) (numbers_of atoms [] other)
set_is atoms list other numbers set few is alike packs =
    packs (length atoms) few (subst (AreAtoms (length atoms)) (sym is) (numbers_below atoms [] list))
    ∙ (ap (numbered_set (length atoms)) is ∙ ap (λ xs. numbered_set (length atoms) (numbers_of atoms [] xs)) alike)

pub parts_are : (domain : Domain) (problem : Problem) (grounding : Grounding) (lifted : Lifted) (kept : Facts) (atoms seen : List GroundAtom) (actions : List instance.ActionInstance) (packed : List GroundAction)
    (first wanted : List ℕ) (start goal : ℕ) (never : Bool)
    → lifted ≡ lifted_of domain problem → length atoms ≤ most_atoms → actions ≡ kept_actions lifted kept atoms → seen ≡ atoms
    → ((count : ℕ) → count ≤ most_atoms → All (HasAtoms count) actions → packed ≡ map (packed_action domain problem count) actions)
    → first ≡ numbers_of atoms [] lifted.init → Packs first start → wanted ≡ numbers_of atoms [] lifted.goal → Packs wanted goal → never ≡ kept_never lifted kept
    → parts grounding (length seen) packed start goal never ≡ strips_by domain problem grounding kept atoms
parts_are domain problem grounding lifted kept atoms seen actions packed first wanted start goal never lifted_is few actions_are seen_is packs first_is start_is wanted_is goal_is never_is =
    let task : Lifted = lifted_of domain problem in
    let instances : List instance.ActionInstance = kept_actions task kept atoms in
    let same_actions : actions ≡ instances = actions_are ∙ ap (λ l. kept_actions l kept atoms) lifted_is in
    let have : All (HasAtoms (length atoms)) actions =
    subst (λ (xs : List instance.ActionInstance). All (HasAtoms (length atoms)) xs) (sym actions_are) (actions_have lifted kept atoms 0 lifted.actions) in
    same_parts grounding (length seen) (length atoms) packed (map (packed_action domain problem (length atoms)) instances) start _ goal _ never (kept_never task kept)
    (ap (λ xs. length xs) seen_is)
    (packs (length atoms) few have ∙ ap (λ xs. map (packed_action domain problem (length atoms)) xs) same_actions)
    (set_is atoms lifted.init task.init first start few first_is (ap (λ l. l.init) lifted_is) start_is)
    (set_is atoms lifted.goal task.goal wanted goal few wanted_is (ap (λ l. l.goal) lifted_is) goal_is)
    (never_is ∙ ap (λ l. kept_never l kept) lifted_is)

-- parts over all ground atoms are the task's
pub all_parts : (domain : Domain) (problem : Problem) (lifted : Lifted) (atoms : List GroundAtom) (parts : StripsParts) → lifted ≡ lifted_of domain problem → atoms ≡ ground_atoms lifted
    → parts ≡ strips_by domain problem groundings.All (keep_all lifted) atoms → parts ≡ strips_of domain problem
all_parts domain problem lifted atoms parts same atoms_are is =
    let task : Lifted = lifted_of domain problem in
    is ∙ (ap (λ (l : Lifted). strips_by domain problem groundings.All (keep_all l) atoms) same ∙ ap (strips_by domain problem groundings.All (keep_all task)) (atoms_are ∙ ap ground_atoms same))
