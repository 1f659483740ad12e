use Rattle.std.proofs.Common.{◌≡◌, ◌++◌, ◌∷◌, [], Bool, true, not, ℕ, List, length, refl, ap, sym, subst, ◌∙◌}
use Rattle.std.proofs.lemmas.Bool.{not-true}
use Rattle.pb_packed.specs.Words.{number_of}
use Rattle.pb_model.specs.Certificate.{Line}
use Rattle.pb_check.specs.Rows.{rows_of}
use Rattle.pb_check.specs.Kept.{Falls, AreKeptBy}
use Rattle.pb_check.proofs.Keeping.{keeps_one}
use Rattle.pb_check.proofs.Arrays.{rows_of-push}
use Rattle.pb_check.proofs.KeptArrays.{both_long, last_falls}
use Rattle.pb_check.proofs.kept.KeptRows.push.Goals as goal

pub returns-in_ok-push-3 : goal.returns-in_ok-push-3
returns-in_ok-push-3 c = record {
  kept = λ width all k.
      let row : Line = record { state = number_of c.args.state.now; g = c.args.end.now.g; is_closed = c.args.end.now.is_closed } in
      let ss = c.args.self.now.states.numbers in
      let gs = c.args.self.now.costs.items in
      let cs = c.args.self.now.closed.items in
      let states : c.push.new.self.numbers ≡ ss ++ row.state ∷ [] = c.in_ok-push.ensures.ok in
      let costs : c.push-then-not-self.new.self.items ≡ gs ++ row.g ∷ [] = c.in_ok-push-2.ensures.items in
      let closed : c.push-then-not-self-2.new.self.items ≡ cs ++ row.is_closed ∷ [] = c.in_ok-push-3.ensures.items in
      let rows : rows_of c.push.new.self.numbers c.push-then-not-self.new.self.items c.push-then-not-self-2.new.self.items ≡ rows_of ss gs cs ++ row ∷ [] =
      ap (λ (ns : List ℕ). rows_of ns c.push-then-not-self.new.self.items c.push-then-not-self-2.new.self.items) states
      ∙ ap (λ (ns : List ℕ). rows_of (ss ++ row.state ∷ []) ns c.push-then-not-self-2.new.self.items) costs
      ∙ ap (λ (bs : List Bool). rows_of (ss ++ row.state ∷ []) (gs ++ row.g ∷ []) bs) closed
      ∙ rows_of-push ss gs cs row k.costs k.closed in
      let costs_long : length c.push-then-not-self.new.self.items ≡ length c.push.new.self.numbers =
      ap length costs ∙ both_long gs (row.g ∷ []) ss (row.state ∷ []) k.costs refl ∙ sym (ap length states) in
      let closed_long : length c.push-then-not-self-2.new.self.items ≡ length c.push.new.self.numbers =
      ap length closed ∙ both_long cs (row.is_closed ∷ []) ss (row.state ∷ []) k.closed refl ∙ sym (ap length states) in
      let falls : not c.rises_last.result ≡ true → Falls (rows_of ss gs cs ++ row ∷ []) = λ on.
      let h = c.rises_last.ensures (not-true c.rises_last.result on) in
      subst (λ (rows : List Line). Falls rows) rows (last_falls c.push.new.self.numbers c.push-then-not-self.new.self.items c.push-then-not-self-2.new.self.items costs_long closed_long h.0 h.1) in
      record {
        width_is = c.push.ensures.width ∙ k.width_is;
        costs = costs_long;
        closed = closed_long;
        rows_are = subst (λ (rows : List Line). AreKeptBy (not c.rises_last.result) rows (all ++ row ∷ [])) (sym rows)
            (keeps_one (not c.rises_last.result) (rows_of ss gs cs) all row (subst (λ (b : Bool). AreKeptBy b (rows_of ss gs cs) all) c.if-not-self.true k.rows_are) falls);
      };
}
