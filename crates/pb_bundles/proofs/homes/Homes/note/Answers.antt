use Rattle.std.proofs.Common.{ℕ, IsSome, arith, sym, subst}
use Rattle.pb_bundles.specs.Parts.{PartList, content_in}
use Rattle.pb_bundles.specs.Homes.{HomeTable}
use Rattle.pb_bundles.specs.Moves.{IsVacant}
use Rattle.pb_bundles.proofs.Kept.{homes_noted}
use Rattle.pb_bundles.proofs.homes.Homes.note.Goals as goal

pub invariant_of-self : goal.invariant_of-self
invariant_of-self c =
    let bundles = c.self.inside.bundles.items in
    let parts = c.parts.inside.bundles.entries in
    let vacant : (block : ℕ) → IsSome (content_in parts block) → IsVacant bundles block =
    subst (λ (t : HomeTable). (block : ℕ) → IsSome (content_in parts block) → IsVacant t.bundles block) (sym c.self.view_is)
    (subst (λ (ps : PartList). (block : ℕ) → IsSome (content_in ps.parts block) → IsVacant c.args.self.now.bundles block) (sym c.parts.view_is) c.requires) in
    homes_noted parts bundles c.self.inside.keys c.note_keys.new.keys vacant c.note_keys.ensures c.self.invariant

pub note_keys-requires : goal.note_keys-requires
note_keys-requires c block there =
    let vacant = subst (λ (t : HomeTable). IsVacant t.bundles block) (sym c.self.view_is) (c.requires block (subst (λ (ps : PartList). IsSome (content_in ps.parts block)) c.parts.view_is there)) in
    omega (arith, vacant.0, c.self.invariant.same_count)
