use Rattle.std.proofs.Common.{◌≡◌, ◌<◌, ◌+◌, ℕ, List, [], All, get_or, length, subst, sym, ◌∙◌, ap, arith}
use Rattle.std.proofs.lemmas.List.{length_push}
use Rattle.std.specs.List.{list_any}
use Rattle.pb_machine.specs.Blocks.{interferes}
use Rattle.pb_abstract.specs.Graph.{has, blocks_in}
use Rattle.pb_abstract.proofs.Has.{scope_below}
use Rattle.pb_abstract.proofs.Members.{near_interferes, one_more_list}
use Rattle.pb_abstract.proofs.interference.interference.Goals as goal

pub near-requires : goal.near-requires
near-requires c =
    let all : All (λ n. n < length c.args.scopes.now) c.numbers.result.now =
    scope_below c.args.scopes.now c.requires.known c.loop-block.block c.numbers.result.now (omega arith)
    (subst (λ list. list ≡ get_or c.args.scopes.now c.loop-block.block list) (sym c.numbers.ensures.numbers) c.index-scopes-block.is) in
    let many : length c.args.scopes.now ≡ length c.as_slice.result.now = sym (ap length c.as_slice.ensures.value ∙ c.in_ok-sources.ensures.len) in
    subst (λ count. All (λ n. n < count) c.numbers.result.now) many all

pub loop-block-preserved : goal.loop-block-preserved
loop-block-preserved c =
    let block = c.loop-block.block in
    let here : (n : ℕ) → has c.of.result n ≡ interferes (blocks_in c.args.scopes.now) block n =
    near_interferes c.args.scopes.now c.in_ok-sources.sources.items block c.numbers.result.now c.in_ok-found.found.items c.of.result c.requires.known c.in_ok-sources.ensures.each (omega arith)
    (subst (λ list. list ≡ get_or c.args.scopes.now block list) (sym c.numbers.ensures.numbers) c.index-scopes-block.is)
    (λ n. c.in_ok-found.ensures n ∙ ap (λ (lists : List (List ℕ)). list_any (λ shared. has (get_or lists shared []) n) c.numbers.result.now) c.as_slice.ensures.value)
    (λ n. c.of.ensures n ∙ ap (λ xs. has xs n) c.without.ensures) in
    record {
      len = ap length c.in_ok-push.ensures.items ∙ length_push c.loop-block.lists.items c.of.result ∙ ap (λ n. n + 1) c.loop-block.invariant.len;
      each = λ b n less.
          ap (λ (lists : List (List ℕ)). has (get_or lists b []) n) c.in_ok-push.ensures.items
          ∙ one_more_list c.args.scopes.now c.loop-block.lists.items block c.of.result c.loop-block.invariant.len c.loop-block.invariant.each here b n less;
    }
