use Rattle.std.proofs.Common.{◌≡◌, ◌+◌, Some, IsSome, sym, ap, ◌∙◌, subst, arith}
use Rattle.pb_bundles.specs.Parts.{content_in}
use Rattle.pb_task.specs.Parts.{space_of}
use Rattle.pb_estimate.specs.Estimates.{estimate_by}
use Rattle.pb_lease.specs.LeaseValue.{LeaseValue}
use Rattle.pb_lease.specs.Leased.{guide_of}
use Rattle.pb_lease.specs.Rows.{OffersAt}
use Rattle.pb_lease.proofs.Callers.{still_there}
use Rattle.pb_yard.proofs.ByHand.{only_leads, worked_by_hand, changes_by_hand}
use Rattle.pb_yard.proofs.by_hand.expand_first.Goals as goal

pub offer-requires : goal.offer-requires
offer-requires g c =
    let t = c.args.task.now in
    let a = c.args.abstraction.now in
    let s = c.first_row-state.result.0 in
    subst (λ block. IsSome (content_in c.args.lease.now.parts block)) (sym c.block-block.ensures.block)
    (only_leads (space_of t) (guide_of t a c.args.lease.now.choice) s c.args.lease.now.parts c.only_successor-succ.result c.only_successor-succ.ensures.only (c.requires.there s c.see_that_it_is_expanded.ensures.home))

pub close-requires : goal.close-requires
close-requires g c =
    subst (λ block. IsSome (content_in c.offer.new.lease.parts block)) (sym (ap (λ (l : LeaseValue). l.block) c.offer.ensures.changes.others))
    (still_there c.args.lease.now.parts c.offer.new.lease.parts c.args.lease.now.block c.offer.ensures.changes.places c.requires.own)

pub spend-requires : goal.spend-requires
spend-requires g c =
    let used : c.close.new.lease.used ≡ c.args.lease.now.used = ap (λ (l : LeaseValue). l.used) c.close.ensures.changes.others ∙ ap (λ (l : LeaseValue). l.used) c.offer.ensures.changes.others in
    let quota : c.close.new.lease.quota ≡ c.args.lease.now.quota = ap (λ (l : LeaseValue). l.quota) c.close.ensures.changes.others ∙ ap (λ (l : LeaseValue). l.quota) c.offer.ensures.changes.others in
    omega (arith, used, quota, c.requires.left)

pub returns-clause-worked : goal.returns-clause-worked
returns-clause-worked g c =
    let t = c.args.task.now in
    let a = c.args.abstraction.now in
    let s = c.first_row-state.result.0 in
    let succ = c.only_successor-succ.result in
    let see = c.see_that_it_is_expanded.ensures in
    worked_by_hand (space_of t) (guide_of t a c.args.lease.now.choice) c.args.lease.now c.offer.new.lease c.close.new.lease c.spend.new.self s c.first_row-state.result.1 succ c.first_row-state.ensures
    see.home see.no_goal see.kept c.only_successor-succ.ensures.only
    (subst (λ block. OffersAt c.args.lease.now c.offer.new.lease block succ.state (c.first_row-state.result.1.g + succ.cost) (estimate_by t c.args.lease.now.choice succ.state) (Some s) succ.action) c.block-block.ensures.block
    (subst (λ h. OffersAt c.args.lease.now c.offer.new.lease c.block-block.result succ.state (c.first_row-state.result.1.g + succ.cost) h (Some s) succ.action) c.estimate-expected.ensures c.offer.ensures.rows))
    c.offer.ensures.changes c.close.ensures.rows c.close.ensures.changes c.spend.ensures

pub returns-clause-changes : goal.returns-clause-changes
returns-clause-changes g c = changes_by_hand c.args.lease.now c.offer.new.lease c.close.new.lease c.spend.new.self c.offer.ensures.changes c.close.ensures.changes c.spend.ensures

pub returns-clause-none : goal.returns-clause-none
returns-clause-none g c =
    ap (λ (l : LeaseValue). l.incumbent) c.spend.ensures ∙ ap (λ (l : LeaseValue). l.incumbent) c.close.ensures.changes.others ∙ ap (λ (l : LeaseValue). l.incumbent) c.offer.ensures.changes.others
    ∙ c.see_that_it_is_expanded.ensures.none
