use Rattle.std.proofs.Common.{◌≡◌, ◌<◌, ◌*◌, ◌^◌, ◌++◌, ◌∷◌, [], ℕ, OnOk, length, take, ap, sym, subst, ◌∙◌, arith}
use Rattle.pb_packed.specs.Words.{number_of, AreWords}
use Rattle.pb_task.proofs.Callers.{held_by, taken}
use Rattle.pb_tables.proofs.numbers.FlatNumbers.push.Goals as goal

pub push_words-requires-clause-words : goal.push_words-requires-clause-words
push_words-requires-clause-words c =
    let long : 16 ≡ length c.to_words-words.result = omega arith in
    taken _ _ (subst (λ count. AreWords count c.to_words-words.result) long c.to_words-words.ensures.words)

pub returns-clause-ok : goal.returns-clause-ok
returns-clause-ok c =
    let words = c.to_words-words.result in
    let width = c.args.self.now.width in
    let small : number_of words < 2 ^ (64 * width) = subst (λ (n : ℕ). n < 2 ^ (64 * width)) (sym c.to_words-words.ensures.number) c.requires.fits in
    let number : number_of (take c.width-width.result words) ≡ c.args.number.now =
    ap (λ k. number_of (take k words)) c.width-width.ensures.width ∙ held_by 16 width words c.to_words-words.ensures.words small ∙ c.to_words-words.ensures.number in
    subst (λ (n : ℕ). OnOk c.push_words.result (c.push_words.new.self.numbers ≡ c.args.self.now.numbers ++ n ∷ [])) number c.push_words.ensures.ok
