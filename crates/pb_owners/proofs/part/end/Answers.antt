use Rattle.std.proofs.Common.{◌≡◌, ◌∙◌, refl, sym, true, false, Result, Ok, Err}
use Rattle.std.specs.Prelude.{OnOk, OnErr, is_err}
use Rattle.pb_owners.proofs.part.end.Goals as goal

-- what holds at Ok
on_ok : {T E P : Type 0} (r : Result T E) → is_err r ≡ false → OnOk r P → P
on_ok (Ok x) none h = h
on_ok (Err e) none h = let bad : true ≡ false = none in cc

either_way : {T E P Q W : Type 0} (r : Result T E) → OnOk r P → OnErr r Q → (P → W) → (Q → W) → W
either_way (Ok x) p q f g = f p
either_way (Err e) p q f g = g q

pub returns : goal.returns
returns g c =
    let e = c.take_in.ensures in
    record {
      taken = record {
        before = c.in-Some.pass;
        before_is = c.in-Some.is;
        after = c.take_in.new.pass;
        after_is = refl;
        used_is = refl;
        taken = λ done. let t = on_ok c.take_in.result (sym c.is_err.ensures.value ∙ done) e.taken in record { takes = t.0; posted = t.1; taken_in = t.2 };
        tools = record { tables = e.tables; room = c.requires.ready.tools.room; of_weight = either_way c.take_in.result e.taken e.broken (λ t. t.2.weight_is) (λ t. t.3.weight_is) ∙ c.requires.ready.tools.of_weight };
      };
    }
