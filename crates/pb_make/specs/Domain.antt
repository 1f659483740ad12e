-- The domain of the blocks world in PDDL, with four operators (Slaney and Thiébaux, "Blocks World
-- revisited", 2001).
use Rattle.std.specs.Prelude.{ℕ, List, [], ◌∷◌, codes}
use Rattle.pb_make.specs.Lines.{lines}

abbrev pub domain_text : List ℕ
domain_text = lines (
    codes "(define (domain blocks) (:requirements :strips)"
    ∷ codes "(:predicates (on ?x ?y) (ontable ?x) (clear ?x) (handempty) (holding ?x))"
    ∷ codes "(:action pick-up :parameters (?x)"
    ∷ codes " :precondition (and (clear ?x) (ontable ?x) (handempty))"
    ∷ codes " :effect (and (not (ontable ?x)) (not (clear ?x)) (not (handempty)) (holding ?x)))"
    ∷ codes "(:action put-down :parameters (?x) :precondition (holding ?x)"
    ∷ codes " :effect (and (not (holding ?x)) (clear ?x) (handempty) (ontable ?x)))"
    ∷ codes "(:action stack :parameters (?x ?y) :precondition (and (holding ?x) (clear ?y))"
    ∷ codes " :effect (and (not (holding ?x)) (not (clear ?y)) (clear ?x) (handempty) (on ?x ?y)))"
    ∷ codes "(:action unstack :parameters (?x ?y)"
    ∷ codes " :precondition (and (on ?x ?y) (clear ?x) (handempty))"
    ∷ codes
    " :effect (and (holding ?x) (clear ?y) (not (clear ?x)) (not (handempty)) (not (on ?x ?y)))))"
    ∷ [])
