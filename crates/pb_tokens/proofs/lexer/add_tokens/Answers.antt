use Rattle.std.proofs.Common.{◌∷◌, ◌+◌, [], length, arith, sym, ap, ◌∙◌, append_assoc, refl}
use Rattle.pb_pddl.specs.Tokens.{AreTokens, start}
use Rattle.pb_pddl.specs.declared.token.Cursor.{Cursor}
use Rattle.pb_tokens.proofs.SpansLaw.{spans}
use Rattle.pb_tokens.proofs.Lex.{step_last, step_next}
use Rattle.pb_tokens.proofs.Place.{place_next}
use Rattle.pb_tokens.proofs.lexer.add_tokens.Goals as goal

pub returns-then-is_last-clause-tokens : goal.returns-then-is_last-clause-tokens
returns-then-is_last-clause-tokens c =
    let one : AreTokens c.loop-token.here c.loop-token.rest.now (c.in_ok-token.token ∷ []) =
    step_last c.loop-token.here c.loop-token.rest.now (length c.split_at.result.0.now) c.gap_len.result c.split_at.result.1.now c.in_ok-token.token c.gap_len.ensures.gap c.split_at.ensures.front_len
    c.split_at.ensures.back c.in_ok-token.ensures.token (sym c.is_last.ensures ∙ c.if-is_last.true) in
    rw c.in_ok-push.ensures.added (c.loop-token.invariant.tokens (c.in_ok-token.token ∷ []) one)

pub returns-then-is_last-clause-slices : goal.returns-then-is_last-clause-slices
returns-then-is_last-clause-slices c =
    let one : AreTokens c.loop-token.here c.loop-token.rest.now (c.in_ok-token.token ∷ []) =
    step_last c.loop-token.here c.loop-token.rest.now (length c.split_at.result.0.now) c.gap_len.result c.split_at.result.1.now c.in_ok-token.token c.gap_len.ensures.gap c.split_at.ensures.front_len
    c.split_at.ensures.back c.in_ok-token.ensures.token (sym c.is_last.ensures ∙ c.if-is_last.true) in
    rw c.in_ok-push.ensures.added (spans start c.args.text.now c.args.text.now _ refl (c.loop-token.invariant.tokens (c.in_ok-token.token ∷ []) one))

pub token_at-requires-clause-place : goal.token_at-requires-clause-place
token_at-requires-clause-place c =
    place_next c.loop-token.here.at (c.loop-token.here.at + length c.split_at.result.0.now) c.gap_len.result c.args.source.now c.loop-token.rest.now c.split_at.result.1.now
    (ap (λ n. c.loop-token.here.at + n) c.split_at.ensures.front_len) c.split_at.ensures.back c.loop-token.invariant.place

pub loop-token-preserved : goal.loop-token-preserved
loop-token-preserved c = record {
  at = omega (arith, ap (λ (x : Cursor). x.at) c.in_ok-pass.ensures, c.loop-token.invariant.at, c.split_at.ensures.back_len, c.split_at.ensures.front_len, c.split_at-in-loop-token.ensures.back_len, ap length c.as_slice.ensures, c.in_ok-token.ensures.within, c.gap_len.ensures.within);
  place =
      let bytes_place = place_next c.loop-token.here.at (c.loop-token.here.at + length c.split_at.result.0.now) c.gap_len.result c.args.source.now c.loop-token.rest.now c.split_at.result.1.now
      (ap (λ n. c.loop-token.here.at + n) c.split_at.ensures.front_len) c.split_at.ensures.back c.loop-token.invariant.place in
      place_next (c.loop-token.here.at + length c.split_at.result.0.now) c.pass.new.here.at (length c.in_ok-token.token.text) c.args.source.now c.split_at.result.1.now c.split_at-in-loop-token.result.1.now
      (ap (λ (x : Cursor). x.at) c.in_ok-pass.ensures) (c.split_at-in-loop-token.ensures.back ∙ rw c.as_slice.ensures refl) bytes_place;
  tokens = λ more are.
      let one : AreTokens c.loop-token.here c.loop-token.rest.now (c.in_ok-token.token ∷ more) =
      step_next c.loop-token.here c.loop-token.rest.now (length c.split_at.result.0.now) c.gap_len.result c.split_at.result.1.now c.in_ok-token.token c.gap_len.ensures.gap c.split_at.ensures.front_len
      c.split_at.ensures.back c.in_ok-token.ensures.token c.pass.new.here c.split_at-in-loop-token.result.1.now more (sym c.is_last.ensures ∙ c.if-is_last.false) c.in_ok-pass.ensures
      (c.split_at-in-loop-token.ensures.back ∙ rw c.as_slice.ensures refl) are in
      rw (c.in_ok-push-2.ensures.added, append_assoc) (c.loop-token.invariant.tokens (c.in_ok-token.token ∷ more) one);
}
