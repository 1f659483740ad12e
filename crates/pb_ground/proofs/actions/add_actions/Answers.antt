use Rattle.std.proofs.Common.{◌≡◌, ℕ, length, List, sym, ap, ◌∙◌, arith}
use Rattle.std.proofs.lemmas.List.{length-append, length-map}
use Rattle.std.proofs.lemmas.Result.{err_from_is_err_and}
use Rattle.pb_ground.specs.declared.actions.ActionInstance.{ActionInstance}
use Rattle.pb_ground.specs.Actions.{action_of, actions_of, rows_of}
use Rattle.pb_ground.specs.Known.{wanted}
use Rattle.pb_ground.proofs.Finding.{tells_behind}
use Rattle.pb_ground.proofs.actions.add_actions.Goals as goal

pub returns-in_err-rows-clause-full : goal.returns-in_err-rows-clause-full
returns-in_err-rows-clause-full c =
    let p = err_from_is_err_and c.from_residual-in_err-rows.result c.from_residual-in_err-rows.ensures.1 in
    let lifted = c.args.task.now.lifted.now in
    let schema = c.args.schema.now in
    let rows : List (List ℕ) = wanted lifted c.as_slice-2.result.now c.as_slice-4.result.now in
    let made : List ActionInstance = actions_of lifted c.args.task.now.atoms.now c.args.i schema in
    let same : rows ≡ rows_of lifted schema =
    ap (λ pre. wanted lifted pre c.as_slice-4.result.now) c.as_slice-2.ensures ∙ ap (λ kinds. wanted lifted schema.pre kinds) c.as_slice-4.ensures in
    let before : length c.as_slice-5.result.now ≡ length c.args.actions.now = ap (λ (list : List ActionInstance). length list) c.as_slice-5.ensures in
    let both = length-append c.args.actions.now made in
    let each : length made ≡ length rows =
    length-map (rows_of lifted schema) (λ given. action_of c.args.task.now.atoms.now c.args.i schema given) ∙ ap (λ (list : List (List ℕ)). length list) (sym same) in
    rw (p.1, p.2) (tells_behind 65536 c.as_slice-5.result.now rows _ c.in_err-rows.field-0.0 (omega (arith, before, both, each)) c.in_err-rows.ensures.full)
