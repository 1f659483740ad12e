use Rattle.std.proofs.Common.{◌≡◌, ◌-◌, ◌≤◌, ◌++◌, ◌∷◌, [], Bool, true, ℕ, List, length, get_or, refl, ap, sym, subst, ◌∙◌}
use Rattle.pb_packed.specs.Words.{number_of}
use Rattle.pb_model.specs.Certificate.{Line}
use Rattle.pb_check.specs.Rows.{rows_of}
use Rattle.pb_check.specs.Kept.{AreKeptBy}
use Rattle.pb_check.proofs.Arrays.{rows_of-push}
use Rattle.pb_check.proofs.KeptArrays.{both_long, pushed_falls, keeps_first}
use Rattle.pb_check.proofs.kept.KeptRows.then_first.Goals as goal

pub returns : goal.returns
returns c = record {
  kept = λ width all more on k o.
      let row : Line = record { state = number_of c.at.result.now; g = c.index.result.now; is_closed = c.index-2.result.now } in
      let ss = c.args.self.states.numbers in
      let gs = c.args.self.costs.items in
      let cs = c.args.self.closed.items in
      let ts = c.args.others.states.numbers in
      let states : c.push.new.self.numbers ≡ ss ++ row.state ∷ [] = c.in_ok-push.ensures.ok in
      let costs : c.push-2.new.self.items ≡ gs ++ row.g ∷ [] = c.in_ok-push-2.ensures.items in
      let closed : c.push-3.new.self.items ≡ cs ++ row.is_closed ∷ [] = c.in_ok-push-3.ensures.items in
      let rows : rows_of c.push.new.self.numbers c.push-2.new.self.items c.push-3.new.self.items ≡ rows_of ss gs cs ++ row ∷ [] =
      ap (λ (ns : List ℕ). rows_of ns c.push-2.new.self.items c.push-3.new.self.items) states
      ∙ ap (λ (ns : List ℕ). rows_of (ss ++ row.state ∷ []) ns c.push-3.new.self.items) costs
      ∙ ap (λ (bs : List Bool). rows_of (ss ++ row.state ∷ []) (gs ++ row.g ∷ []) bs) closed
      ∙ rows_of-push ss gs cs row k.costs k.closed in
      let first : row.state ≡ get_or ts 0 0 = c.at.ensures.number in
      let below : row.state ≤ get_or ss (length ss - 1) 0 = subst (λ (n : ℕ). n ≤ get_or ss (length ss - 1) 0) (sym first) c.requires.falls.2 in
      let same : rows_of ss gs cs ≡ all = subst (λ (b : Bool). AreKeptBy b (rows_of ss gs cs) all) on k.rows_are in
      record {
        width_is = c.push.ensures.width ∙ k.width_is;
        costs = ap length costs ∙ both_long gs (row.g ∷ []) ss (row.state ∷ []) k.costs refl ∙ sym (ap length states);
        closed = ap length closed ∙ both_long cs (row.is_closed ∷ []) ss (row.state ∷ []) k.closed refl ∙ sym (ap length states);
        rows_are = subst (λ (rows : List Line). AreKeptBy true rows (all ++ more)) (sym rows)
            (keeps_first c.args.others.falls ts c.args.others.costs.items c.args.others.closed.items (rows_of ss gs cs) all more row o.costs o.closed c.requires.falls.1
            first c.index.ensures c.index-2.ensures same (pushed_falls ss gs cs row k.costs k.closed c.requires.falls.0 below) o.rows_are);
      };
}
