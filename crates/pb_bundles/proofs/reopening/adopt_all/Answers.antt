use Rattle.std.proofs.Common.{◌≡◌, ◌++◌, ◌∷◌, [], ◌<◌, None, List, length, get_or, set, sym, ap, subst, ◌∙◌, arith}
use Rattle.std.specs.Option.{option_to_list}
use Rattle.std.proofs.lemmas.List.{get_or_read}
use Rattle.pb_lists.specs.Reopened.{weight_in, bound_in}
use Rattle.pb_lists.specs.declared.reopening.OpenedSet.{OpenedSet}
use Rattle.pb_bundles.specs.Reopened.{IsReady, AreReady, adopted, reopened_if}
use Rattle.pb_bundles.proofs.AllOpened.{last_within, last_ready, front_ready, adopted_last}
use Rattle.pb_bundles.proofs.reopening.adopt_all.Goals as goal

pub index_mut-requires : goal.index_mut-requires
index_mut-requires c =
    let front = c.pop.new.self.items in
    let taken : c.sets.rest.items ≡ front ++ c.in-Some.set ∷ [] = c.pop.ensures.items ∙ ap (λ r. front ++ option_to_list r) c.in-Some.is in
    let ready = c.sets.invariant.ready in
    let less = last_within ready.0 ready.1 c.sets.bundles.items front c.in-Some.set (subst (λ (sets : List OpenedSet). AreReady ready.0 ready.1 c.sets.bundles.items sets) taken ready.2) in
    omega (arith, less, c.len-block.ensures)

pub adopt_one-requires : goal.adopt_one-requires
adopt_one-requires c =
    let front = c.pop.new.self.items in
    let bundles = c.sets.bundles.items in
    let last = c.in-Some.set in
    let taken : c.sets.rest.items ≡ front ++ last ∷ [] = c.pop.ensures.items ∙ ap (λ r. front ++ option_to_list r) c.in-Some.is in
    let ready = c.sets.invariant.ready in
    let all = subst (λ (sets : List OpenedSet). AreReady ready.0 ready.1 bundles sets) taken ready.2 in
    let less = last_within ready.0 ready.1 bundles front last all in
    let count : c.len-block.result ≡ length front = omega (arith, c.len-block.ensures) in
    let within : c.len-block.result < length bundles = omega (arith, less, count) in
    let place = get_or_read bundles c.len-block.result c.index_mut.result.now within c.index_mut.ensures.value None in
    (ready.0, ready.1, subst (λ found. IsReady ready.0 ready.1 found last) (sym (place ∙ ap (λ n. get_or bundles n None) count)) (last_ready ready.0 ready.1 bundles front last all))

pub sets-preserved : goal.sets-preserved
sets-preserved c =
    let front = c.pop.new.self.items in
    let bundles = c.sets.bundles.items in
    let last = c.in-Some.set in
    let new = c.adopt_one.new.place in
    let taken : c.sets.rest.items ≡ front ++ last ∷ [] = c.pop.ensures.items ∙ ap (λ r. front ++ option_to_list r) c.in-Some.is in
    let ready = c.sets.invariant.ready in
    let all = subst (λ (sets : List OpenedSet). AreReady ready.0 ready.1 bundles sets) taken ready.2 in
    let less = last_within ready.0 ready.1 bundles front last all in
    let count : c.len-block.result ≡ length front = omega (arith, c.len-block.ensures) in
    let within : c.len-block.result < length bundles = omega (arith, less, count) in
    let place = get_or_read bundles c.len-block.result c.index_mut.result.now within c.index_mut.ensures.value None ∙ ap (λ n. get_or bundles n None) count in
    let new_is : new ≡ reopened_if (weight_in last) (bound_in last) (get_or bundles (length front) None) = c.adopt_one.ensures ∙ ap (reopened_if (weight_in last) (bound_in last)) place in
    record {
      ready = (ready.0, ready.1, subst (λ n. AreReady ready.0 ready.1 (set bundles n new) front) (sym count) (front_ready ready.0 ready.1 bundles front last new all));
      same = ap (λ n. adopted (set bundles n new) front) count ∙ ap (λ found. adopted (set bundles (length front) found) front) new_is
          ∙ adopted_last bundles front last ∙ ap (adopted bundles) (sym taken) ∙ c.sets.invariant.same;
    }
