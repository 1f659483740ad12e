-- A lease that goes on, turn after turn, and then comes back.
use Rattle.std.proofs.Common.{◌≡◌, ◌<◌, refl, arith, subst, inl, inr}
use Rattle.pb_lease.specs.LeaseValue.{LeaseValue}
use Rattle.pb_lease.specs.GraphValue.{GraphValue}
use Rattle.pb_workers.specs.Runs.{IsSameSearch}
use Rattle.pb_workers.specs.Holding.{IsHeld, RunsOut, RunsHome, left_with, IsNearer, IsOn, GoesOnTo}
use Rattle.pb_workers.proofs.Going.{same_self, run_none, run_then}

pub out_none : (g : GraphValue) (lease : LeaseValue) → RunsOut g lease g lease
out_none g lease recorded machine m out = (recorded, machine, run_none g recorded machine m, out)

pub out_then : (first mid new : GraphValue) (lease held kept : LeaseValue) → IsSameSearch first mid → RunsOut first lease mid held → RunsOut mid held new kept → RunsOut first lease new kept
out_then first mid new lease held kept same one two recorded machine m out =
    let a = one recorded machine m out in
    let b = two a.0 a.1 a.2.moment a.3 in
    (b.0, b.1, run_then first mid new machine a.1 b.1 a.0 b.0 same a.2 b.2, b.3)

pub home_then : (first mid new : GraphValue) (lease held : LeaseValue) → IsSameSearch first mid → RunsOut first lease mid held → RunsHome mid held new → RunsHome first lease new
home_then first mid new lease held same one two recorded machine m out =
    let a = one recorded machine m out in
    let b = two a.0 a.1 a.2.moment a.3 in
    (b.0, b.1, run_then first mid new machine a.1 b.1 a.0 b.0 same a.2 b.2)

pub on_less : (first now new : GraphValue) (lease held kept : LeaseValue) → IsOn first lease now held → left_with new kept < left_with now held → IsOn first lease new kept
on_less first now new lease held kept (inl less) more = inl (omega (arith, less, more))
on_less first now new lease held kept (inr same) more =
    let still : left_with now held ≡ left_with first lease = (λ i. left_with (same.0 i) (same.1 i)) in
    inl (omega (arith, more, still))

pub nearer_then : (first now new : GraphValue) (lease held : LeaseValue) → IsOn first lease now held → IsNearer now held new → IsNearer first lease new
nearer_then first now new lease held (inl less) (inl ended) = inl ended
nearer_then first now new lease held (inl less) (inr (inl more)) = inr (inl (omega (arith, less, more)))
nearer_then first now new lease held (inl less) (inr (inr equal)) = let left = equal.0 in inr (inl (omega (arith, less, left)))
nearer_then first now new lease held (inr same) near =
    subst (λ (l : LeaseValue). IsNearer first l new) same.1 (subst (λ (g : GraphValue). IsNearer g held new) same.0 near)

-- a lease that was given now
pub goes_from : (g : GraphValue) (lease : LeaseValue) → IsHeld g lease → GoesOnTo g lease g lease
goes_from g lease held = record { held = held; worker = refl; same = same_self g; signed_off = refl; runs = out_none g lease; on = inr (refl, refl); turn = λ before. before }
