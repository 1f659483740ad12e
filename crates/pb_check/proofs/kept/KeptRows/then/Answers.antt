use Rattle.std.proofs.Common.{◌≡◌, ◌++◌, Bool, ℕ, List, length, ap, sym, subst, ◌∙◌}
use Rattle.pb_model.specs.Certificate.{Line}
use Rattle.pb_check.specs.Rows.{rows_of}
use Rattle.pb_check.specs.Kept.{AreKeptBy}
use Rattle.pb_check.proofs.Keeping.{keeps_both}
use Rattle.pb_check.proofs.KeptArrays.{both_long, rows_of-both}
use Rattle.pb_check.proofs.kept.KeptRows.then.Goals as goal

pub returns : goal.returns
returns c = record {
  kept = λ width all more k o.
      let ss = c.args.self.states.numbers in
      let gs = c.args.self.costs.items in
      let cs = c.args.self.closed.items in
      let ts = c.args.others.states.numbers in
      let hs = c.args.others.costs.items in
      let ds = c.args.others.closed.items in
      let states : c.append.new.self.numbers ≡ ss ++ ts = c.in_ok-append.ensures.ok in
      let costs : c.append-2.new.items.items ≡ gs ++ hs = c.in_ok-append-2.ensures in
      let closed : c.append-3.new.items.items ≡ cs ++ ds = c.in_ok-append-3.ensures in
      let rows : rows_of c.append.new.self.numbers c.append-2.new.items.items c.append-3.new.items.items ≡ rows_of ss gs cs ++ rows_of ts hs ds =
      ap (λ (ns : List ℕ). rows_of ns c.append-2.new.items.items c.append-3.new.items.items) states
      ∙ ap (λ (ns : List ℕ). rows_of (ss ++ ts) ns c.append-3.new.items.items) costs
      ∙ ap (λ (bs : List Bool). rows_of (ss ++ ts) (gs ++ hs) bs) closed
      ∙ rows_of-both ss gs cs ts hs ds k.costs k.closed in
      record {
        width_is = c.append.ensures.width ∙ k.width_is;
        costs = ap length costs ∙ both_long gs hs ss ts k.costs o.costs ∙ sym (ap length states);
        closed = ap length closed ∙ both_long cs ds ss ts k.closed o.closed ∙ sym (ap length states);
        rows_are = subst (λ (rows : List Line). AreKeptBy c.args.others.falls rows (all ++ more)) (sym rows)
            (keeps_both c.args.others.falls (rows_of ss gs cs) all (rows_of ts hs ds) more (subst (λ (b : Bool). AreKeptBy b (rows_of ss gs cs) all) c.if-self.false k.rows_are) o.rows_are);
      };
}
