-- The domain of the blocks world as a tree: each name with the place of its first byte.
use Rattle.std.specs.Prelude.{ℕ, true, false, List, [], ◌∷◌, codes, None}
use Rattle.pb_pddl.specs.declared.tree.Name.{Name}
use Rattle.pb_pddl.specs.declared.tree.Typed.{Typed}
use Rattle.pb_pddl.specs.declared.tree.Term.{Term}
use Rattle.pb_pddl.specs.declared.tree.Term.TheVariants.{Variable}
use Rattle.pb_pddl.specs.declared.tree.Atom.{Atom}
use Rattle.pb_pddl.specs.declared.tree.Literal.{Literal}
use Rattle.pb_pddl.specs.declared.tree.Predicate.{Predicate}
use Rattle.pb_pddl.specs.declared.tree.Action.{Action}
use Rattle.pb_pddl.specs.declared.tree.Domain.{Domain}

abbrev pub name : (text : List ℕ) → (at : ℕ) → Name
name text at = record { text = text; at = at }

-- a name or a variable that has no type
abbrev pub untyped : Name → Typed
untyped name = record { name = name; kind = None }

abbrev pub variable : Name → Term
variable name = Variable name

abbrev pub atom : Name → List Term → Atom
atom name terms = record { predicate = name; terms = terms }

-- an atom that an effect adds, or deletes
abbrev pub come : Atom → Literal
come atom = record { atom = atom; negated = false }

abbrev pub gone : Atom → Literal
gone atom = record { atom = atom; negated = true }

abbrev pub on_predicate : Predicate
on_predicate = record { name = name (codes "on") 62; params = untyped (name (codes "?x") 65) ∷ untyped (name (codes "?y") 68) ∷ [] }

abbrev pub ontable_predicate : Predicate
ontable_predicate = record { name = name (codes "ontable") 73; params = untyped (name (codes "?x") 81) ∷ [] }

abbrev pub clear_predicate : Predicate
clear_predicate = record { name = name (codes "clear") 86; params = untyped (name (codes "?x") 92) ∷ [] }

abbrev pub handempty_predicate : Predicate
handempty_predicate = record { name = name (codes "handempty") 97; params = [] }

abbrev pub holding_predicate : Predicate
holding_predicate = record { name = name (codes "holding") 109; params = untyped (name (codes "?x") 117) ∷ [] }

abbrev pub pick_up : Action
pick_up = record {
  name = name (codes "pick-up") 131;
  params = untyped (name (codes "?x") 152) ∷ [];
  pre = atom (name (codes "clear") 177) (variable (name (codes "?x") 183) ∷ []) ∷ atom (name (codes "ontable") 188) (variable (name (codes "?x") 196) ∷ []) ∷ atom (name (codes "handempty") 201) ([]) ∷ [];
  effect = gone (atom (name (codes "ontable") 233) (variable (name (codes "?x") 241) ∷ [])) ∷ gone (atom (name (codes "clear") 252) (variable (name (codes "?x") 258) ∷ [])) ∷ gone (atom (name (codes "handempty") 269) ([])) ∷ come (atom (name (codes "holding") 282) (variable (name (codes "?x") 290) ∷ [])) ∷ [];
  costs = [];
}

abbrev pub put_down : Action
put_down = record {
  name = name (codes "put-down") 305;
  params = untyped (name (codes "?x") 327) ∷ [];
  pre = atom (name (codes "holding") 346) (variable (name (codes "?x") 354) ∷ []) ∷ [];
  effect = gone (atom (name (codes "holding") 378) (variable (name (codes "?x") 386) ∷ [])) ∷ come (atom (name (codes "clear") 392) (variable (name (codes "?x") 398) ∷ [])) ∷ come (atom (name (codes "handempty") 403) ([])) ∷ come (atom (name (codes "ontable") 415) (variable (name (codes "?x") 423) ∷ [])) ∷ [];
  costs = [];
}

abbrev pub stack : Action
stack = record {
  name = name (codes "stack") 438;
  params = untyped (name (codes "?x") 457) ∷ untyped (name (codes "?y") 460) ∷ [];
  pre = atom (name (codes "holding") 484) (variable (name (codes "?x") 492) ∷ []) ∷ atom (name (codes "clear") 497) (variable (name (codes "?y") 503) ∷ []) ∷ [];
  effect = gone (atom (name (codes "holding") 528) (variable (name (codes "?x") 536) ∷ [])) ∷ gone (atom (name (codes "clear") 547) (variable (name (codes "?y") 553) ∷ [])) ∷ come (atom (name (codes "clear") 559) (variable (name (codes "?x") 565) ∷ [])) ∷ come (atom (name (codes "handempty") 570) ([])) ∷ come (atom (name (codes "on") 582) (variable (name (codes "?x") 585) ∷ variable (name (codes "?y") 588) ∷ [])) ∷ [];
  costs = [];
}

abbrev pub unstack : Action
unstack = record {
  name = name (codes "unstack") 603;
  params = untyped (name (codes "?x") 624) ∷ untyped (name (codes "?y") 627) ∷ [];
  pre = atom (name (codes "on") 652) (variable (name (codes "?x") 655) ∷ variable (name (codes "?y") 658) ∷ []) ∷ atom (name (codes "clear") 663) (variable (name (codes "?x") 669) ∷ []) ∷ atom (name (codes "handempty") 674) ([]) ∷ [];
  effect = come (atom (name (codes "holding") 701) (variable (name (codes "?x") 709) ∷ [])) ∷ come (atom (name (codes "clear") 714) (variable (name (codes "?y") 720) ∷ [])) ∷ gone (atom (name (codes "clear") 730) (variable (name (codes "?x") 736) ∷ [])) ∷ gone (atom (name (codes "handempty") 747) ([])) ∷ gone (atom (name (codes "on") 765) (variable (name (codes "?x") 768) ∷ variable (name (codes "?y") 771) ∷ [])) ∷ [];
  costs = [];
}

abbrev pub blocks_tree : Domain
blocks_tree = record {
  name = name (codes "blocks") 16;
  types = [];
  constants = [];
  predicates = on_predicate ∷ ontable_predicate ∷ clear_predicate ∷ handempty_predicate ∷ holding_predicate ∷ [];
  actions = pick_up ∷ put_down ∷ stack ∷ unstack ∷ [];
  has_cost = false;
}
