-- Each step keeps the rule of a queue.
use Rattle.std.proofs.Common.{◌≡◌, ◌≢◌, ℕ, zero, suc, ◌+◌, ◌<◌, ◌≤◌, eqb, List, [], ◌∷◌, ◌++◌, length, set, Bool, true, false, cond, true≢false, sym, refl, ap, ◌∙◌, subst, ⊎_elim, arith, eq-eqb, ne_eqb, length-set}
use Rattle.std.specs.Prelude.{All, IsTrue, ◌||◌}
use Rattle.std.proofs.lemmas.List.{append-nil, append_assoc}
use Rattle.std.proofs.lemmas.List.Elements.{All-append}
use Rattle.std.proofs.lemmas.Bool.{cases_lt}
use mathlib.Core.Option.{some, some-injective, some-ne-none}
use lib.ListN.{get_elem?}
use Rattle.atomic_table.proofs.Lists.{set_else}
use Rattle.crossbeam_queue.specs.Fifo.{Pushes, Pops, Forks, Merges, Learns}
use Rattle.pb_mail.specs.declared.letter.Letter.{Letter}
use Rattle.pb_mail.specs.declared.letter.Sent.{Sent}
use Rattle.pb_mail.specs.declared.view.View.{View}
use Rattle.pb_mail.specs.Views.{letters_of, first_view, spent_view, sent_view, took_view, with_one_more, next_view, without_role, next_reader, met_view}
use Rattle.pb_mail.specs.Rule.{IsTrueOf, Delivers, IsBeginning, IsTaken, IsToldEmpty, AreWhole, WasEmpty}
use Rattle.pb_mail.proofs.Letters.{letters_append, letters_own, unmoved, all_cons, all_tail, each_set, at_end}

module _ (fits : ℕ → Bool) where
  pub begins : Delivers fits [] (first_view ∷ [])
  begins = record {
    made = 1;
    reader = 0;
    seat_of = λ _. 0;
    taken = [];
    each = one;
    unmade = λ n _. refl;
    fit = λ k d less. absurd (omega arith);
  }
    where
      one : (j : ℕ) (u : View) → get_elem? (first_view ∷ []) j ≡ some u → IsTrue u.is_live → IsTrueOf [] [] 1 0 (λ _. 0) j u
      one zero u e _ = subst (IsTrueOf [] [] 1 0 (λ _. 0) 0) (some-injective first_view u e) record {
        sent = refl;
        below = omega arith;
        own = refl;
        met = λ k d less. absurd (omega arith);
        counts = λ _. refl;
        takes = λ _. (refl, refl);
      }
      one (suc j) u e _ = absurd (some-ne-none u (sym e))

  pub pushes : (n pass : ℕ) (v : View) (x : Sent) → IsTrue v.is_live → v.number ≡ x.from → IsTrue (fits x.letter.state) → Pushes (Delivers fits) n pass v x (λ w. w ≡ sent_view v x.letter)
  pushes n pass v x live from fit items views room h at =
      let log : List Sent = h.taken ++ items in
      let w : View = sent_view v x.letter in
      let f = h.each pass v at live in
      let Is : List Sent → ℕ → View → Type 0 = λ l j u. IsTrue u.is_live → IsTrueOf l h.taken h.made h.reader h.seat_of j u in
      let mine : Is (log ++ x ∷ []) pass w = λ _. record {
        sent = letters_append v.number log (x ∷ []) ∙ (λ i. f.sent i ++ letters_own x v.number (sym from) i);
        below = f.below;
        own = f.own;
        met = λ k d b. let p = f.met k d b in (unmoved _ log x (λ e. p.3 (sym e ∙ sym from)) ∙ p.0, p.1, p.2, p.3);
        counts = f.counts;
        takes = f.takes;
      } in
      let others : (j : ℕ) (u : View) → j ≢ pass → get_elem? views j ≡ some u → Is (log ++ x ∷ []) j u = λ j u apart e up. let g = h.each j u e up in
      let other : (m : ℕ) → h.seat_of m ≡ j → x.from ≢ m = λ m is same. apart (sym is ∙ (ap h.seat_of (sym same ∙ sym from) ∙ f.own)) in record {
        sent = unmoved u.number log x (other u.number g.own) ∙ g.sent;
        below = g.below;
        own = g.own;
        met = λ k d b. let p = g.met k d b in (unmoved _ log x (other _ p.2) ∙ p.0, p.1, p.2, p.3);
        counts = g.counts;
        takes = g.takes;
      } in (
        w,
        record {
          made = h.made;
          reader = h.reader;
          seat_of = h.seat_of;
          taken = h.taken;
          each = subst (λ (l : List Sent). (j : ℕ) (u : View) → get_elem? (set views pass w) j ≡ some u → Is l j u) (append_assoc h.taken items (x ∷ [])) (each_set (Is (log ++ x ∷ [])) views pass w mine others);
          unmade = λ m b. ap (letters_of m) (sym (append_assoc h.taken items (x ∷ []))) ∙ (unmoved m log x (λ e. let q = f.below in omega arith) ∙ h.unmade m b);
          fit = All-append (λ (y : Sent). IsTrue (fits y.letter.state)) items (x ∷ []) h.fit (all_cons (λ (y : Sent). IsTrue (fits y.letter.state)) x [] fit (λ k d less. absurd (omega arith)));
        },
        refl,
      )

  -- what was taken of one sender, and then the rest
  beginning : (n : ℕ) (taken items : List Sent) (sent : List Letter) → letters_of n (taken ++ items) ≡ sent → IsBeginning n sent taken
  beginning n taken items sent e = (letters_of n items, sym e ∙ letters_append n taken items)

  -- a sender's number is below the number of passes
  sender_made : (made : ℕ) (taken items : List Sent) (x : Sent) → ((n : ℕ) → made ≤ n → letters_of n (taken ++ x ∷ items) ≡ []) → x.from < made
  sender_made made taken items x none = ⊎_elim (λ (less : x.from < made). less) (λ (le : made ≤ x.from). absurd (no_end (letters_of x.from taken) x.letter (letters_of x.from items) (sym has ∙ none x.from le))) (cases_lt x.from made)
    where
      has : letters_of x.from (taken ++ x ∷ items) ≡ letters_of x.from taken ++ x.letter ∷ letters_of x.from items
      has = letters_append x.from taken (x ∷ items) ∙ ap (λ t. letters_of x.from taken ++ cond t (x.letter ∷ letters_of x.from items) (letters_of x.from items)) (eq-eqb x.from x.from refl)

      no_end : (xs : List Letter) (y : Letter) (ys : List Letter) → xs ++ y ∷ ys ≢ []
      no_end [] y ys e = cc
      no_end (z ∷ zs) y ys e = cc

  pub pops : (pass : ℕ) (v : View) → IsTrue v.is_live → IsTrue v.takes → Pops (Delivers fits) pass v (λ x w. IsTaken fits v x w)
  pops pass v live takes x items views h at =
      let log : List Sent = h.taken ++ x ∷ items in
      let taken : List Sent = h.taken ++ x ∷ [] in
      let w : View = took_view v x in
      let f = h.each pass v at live in
      let t = f.takes takes in
      let Is : List Sent → ℕ → View → Type 0 = λ l j u. IsTrue u.is_live → IsTrueOf l taken h.made h.reader h.seat_of j u in
      let same : log ≡ taken ++ items = sym (append_assoc h.taken (x ∷ []) items) in
      let now : w.taken ≡ taken = ap (λ l. l ++ x ∷ []) t.1 in
      let all : w.taken ++ items ≡ log = ap (λ l. l ++ items) now ∙ sym same in
      let mine : Is log pass w = λ _. record {
        sent = f.sent;
        below = f.below;
        own = f.own;
        met = f.met;
        counts = f.counts;
        takes = λ _. (t.0, now);
      } in
      let others : (j : ℕ) (u : View) → j ≢ pass → get_elem? views j ≡ some u → Is log j u = λ j u apart e up. let g = h.each j u e up in record {
        sent = g.sent;
        below = g.below;
        own = g.own;
        met = g.met;
        counts = g.counts;
        takes = λ y. absurd (apart ((g.takes y).0 ∙ sym t.0));
      } in (
        w,
        record {
          made = h.made;
          reader = h.reader;
          seat_of = h.seat_of;
          taken = taken;
          each = subst (λ (l : List Sent). (j : ℕ) (u : View) → get_elem? (set views pass w) j ≡ some u → Is l j u) same (each_set (Is log) views pass w mine others);
          unmade = λ m b. ap (letters_of m) (sym same) ∙ h.unmade m b;
          fit = all_tail (λ (y : Sent). IsTrue (fits y.letter.state)) x items h.fit;
        },
        record {
          now = refl;
          fit = h.fit 0 x (omega arith);
          beginnings = record {
            own = beginning v.number w.taken items v.sent (ap (letters_of v.number) all ∙ f.sent);
            met = λ k d less. beginning _ w.taken items _ (ap (letters_of _) all ∙ (f.met k d less).0);
          };
          sender = λ first. subst (λ (n : ℕ). x.from < n) (sym (f.counts first)) (sender_made h.made h.taken items x h.unmade);
        },
      )

  pub learns : (pass : ℕ) (v : View) → Learns (Delivers fits) pass v (IsToldEmpty fits v)
  learns pass v items views h at live takes empty =
      let f = h.each pass v at live in
      let all : h.taken ++ items ≡ v.taken = ap (λ l. h.taken ++ l) empty ∙ (append-nil h.taken ∙ sym (f.takes takes).1) in let whole : AreWhole v = record {
        own = ap (letters_of v.number) (sym all) ∙ f.sent;
        met = λ k d b. ap (letters_of _) (sym all) ∙ (f.met k d b).0;
        none = λ first owner past. ap (letters_of owner) (sym all) ∙ h.unmade owner (subst (λ n. n ≤ owner) (f.counts first) past);
      } in (whole, record { views = views; seat = pass; among = at; rule = subst (λ (l : List Sent). Delivers fits l views) empty h })

  -- a seat more, whether it may take letters or not: `keeps` is the view that stays, and `gives` the new one's
  abbrev IsSplitOf : (v keeps gives : View) → Type 0
  IsSplitOf v keeps gives =
      (keeps.is_live ≡ true) × (keeps.number ≡ v.number) × (keeps.made ≡ v.made + 1) × (keeps.sent ≡ v.sent) × (keeps.met ≡ v.met)
      × (gives.is_live ≡ true) × (gives.number ≡ v.made) × (gives.sent ≡ []) × (gives.met ≡ [])

  forked : (pass : ℕ) (v keeps gives : View) → IsTrue v.is_live → v.number ≡ 0 → IsSplitOf v keeps gives
      → (items : List Sent) (views : List View) → (h : Delivers fits items views) → get_elem? views pass ≡ some v
      → (reader : ℕ) → ((j : ℕ) (u : View) → j ≢ pass → get_elem? views j ≡ some u → IsTrue u.is_live → IsTrue u.takes → (j ≡ reader) × (u.taken ≡ h.taken))
      → (IsTrue keeps.takes → (pass ≡ reader) × (keeps.taken ≡ h.taken)) → (IsTrue gives.takes → (length views ≡ reader) × (gives.taken ≡ h.taken))
      → Delivers fits items (set views pass keeps ++ gives ∷ [])
  forked pass v keeps gives live first split items views h at reader theirs own new =
      let log : List Sent = h.taken ++ items in
      let l : List View = set views pass keeps in
      let f = h.each pass v at live in
      let is : v.made ≡ h.made = f.counts first in
      let seat_of : ℕ → ℕ = λ n. cond (eqb n h.made) (length views) (h.seat_of n) in
      let old : (n : ℕ) → n < h.made → seat_of n ≡ h.seat_of n = λ n less. ap (λ t. cond t (length views) (h.seat_of n)) (ne_eqb n h.made (λ e. omega arith)) in
      let Is : ℕ → View → Type 0 = λ j u. IsTrue u.is_live → IsTrueOf log h.taken (h.made + 1) reader seat_of j u in
      let Known : ℕ → ℕ → ℕ × List Letter → Type 0 = λ j n p. (letters_of p.0 log ≡ p.1) × (p.0 < h.made + 1) × (seat_of p.0 ≡ j) × (p.0 ≢ n) in
      let others : (j : ℕ) (u : View) → j ≢ pass → get_elem? views j ≡ some u → Is j u = λ j u apart e up. let g = h.each j u e up in record {
        sent = g.sent;
        below = let q = g.below in omega arith;
        own = old u.number g.below ∙ g.own;
        met = λ k d less. let p = g.met k d less in (p.0, (let q = p.1 in omega arith), old _ p.1 ∙ p.2, p.3);
        counts = λ z. absurd (apart (sym g.own ∙ (ap h.seat_of (z ∙ sym first) ∙ f.own)));
        takes = theirs j u apart e up;
      } in
      let mine : Is pass keeps = λ _. record {
        sent = ap (λ n. letters_of n log) split.1 ∙ f.sent ∙ sym split.3;
        below = let q = f.below in let e = split.1 in omega arith;
        own = ap seat_of split.1 ∙ old v.number f.below ∙ f.own;
        met = subst (All (Known pass keeps.number)) (sym split.4) (λ k d less. let p = f.met k d less in (p.0, (let q = p.1 in omega arith), old _ p.1 ∙ p.2, (λ e. p.3 (e ∙ split.1))));
        counts = λ _. split.2 ∙ ap (λ n. n + 1) is;
        takes = own;
      } in
      let given : Is (length views) gives = λ _. record {
        sent = ap (λ n. letters_of n log) (split.6 ∙ is) ∙ h.unmade h.made (omega arith) ∙ sym split.7;
        below = let e = split.6 in omega arith;
        own = ap (λ t. cond t (length views) (h.seat_of gives.number)) (eq-eqb gives.number h.made (split.6 ∙ is));
        met = subst (All (Known (length views) gives.number)) (sym split.8) (λ k d less. absurd (omega arith));
        counts = λ z. let q = f.below in let e = split.6 in absurd (omega arith);
        takes = new;
      } in
      record {
        made = h.made + 1;
        reader = reader;
        seat_of = seat_of;
        taken = h.taken;
        each = λ j u e. ⊎_elim (λ t. each_set Is views pass keeps mine others j u t)
            (λ (t : (j ≡ length l) × (gives ≡ u)). subst (λ (z : ℕ × View). Is z.0 z.1) (λ i. (sym (t.0 ∙ length-set views pass keeps) i, t.1 i)) given) (at_end l gives u j e);
        unmade = λ n less. h.unmade n (omega arith);
        fit = h.fit;
      }

  pub forks : (pass : ℕ) (v : View) → IsTrue v.is_live → v.number ≡ 0 → Forks (Delivers fits) pass v (with_one_more v) (next_view v)
  forks pass v live first items views h at =
      forked pass v (with_one_more v) (next_view v) live first (live, refl, refl, refl, refl, refl, refl, refl, refl) items views h at h.reader
      (λ j u apart e up. (h.each j u e up).takes) (h.each pass v at live).takes (λ e. absurd (true≢false (sym e)))

  pub hands : (pass : ℕ) (v : View) → IsTrue v.is_live → v.number ≡ 0 → IsTrue v.takes → Forks (Delivers fits) pass v (without_role v) (next_reader v)
  hands pass v live first takes items views h at =
      let t = (h.each pass v at live).takes takes in
      forked pass v (without_role v) (next_reader v) live first (live, refl, refl, refl, refl, refl, refl, refl, refl) items views h at (length views)
      (λ j u apart e up y. absurd (apart (((h.each j u e up).takes y).0 ∙ sym t.0))) (λ e. absurd (true≢false (sym e))) (λ _. (refl, t.1))

  pub merges : (pass : ℕ) (v : View) (other : ℕ) (w : View) → IsTrue v.is_live → IsTrue w.is_live → Merges (Delivers fits) pass v other w (met_view v w) spent_view
  merges pass v other w live up items views h at apart there =
      let log : List Sent = h.taken ++ items in
      let a : View = met_view v w in
      let z : View = spent_view in
      let l : List View = set views pass a in
      let there' : get_elem? views other ≡ some w = sym (set_else views pass other a apart) ∙ there in
      let f = h.each pass v at live in
      let g = h.each other w there' up in
      let move : ℕ → ℕ = λ seat. cond (eqb seat other) pass seat in
      let seat_of : ℕ → ℕ = λ n. move (h.seat_of n) in
      let stays : (n j : ℕ) → n ≡ j → j ≢ other → move n ≡ j = λ n j is off. ap (λ t. cond t pass n) (ne_eqb n other (λ e. off (sym is ∙ e))) ∙ is in
      let moves : (n : ℕ) → n ≡ other → move n ≡ pass = λ n is. ap (λ t. cond t pass n) (eq-eqb n other is) in
      let differs : (n : ℕ) → h.seat_of n ≡ other → n ≢ v.number = λ n is e. apart (sym is ∙ (ap h.seat_of e ∙ f.own)) in
      let Is : ℕ → View → Type 0 = λ j u. IsTrue u.is_live → IsTrueOf log h.taken h.made (move h.reader) seat_of j u in
      let Mine : ℕ × List Letter → Type 0 = λ p. (letters_of p.0 log ≡ p.1) × (p.0 < h.made) × (seat_of p.0 ≡ pass) × (p.0 ≢ v.number) in
      let others : (j : ℕ) (u : View) → j ≢ pass → j ≢ other → get_elem? views j ≡ some u → Is j u = λ j u _ off e on. let k = h.each j u e on in record {
        sent = k.sent;
        below = k.below;
        own = stays (h.seat_of u.number) j k.own off;
        met = λ i d less. let p = k.met i d less in (p.0, p.1, stays (h.seat_of _) j p.2 off, p.3);
        counts = k.counts;
        takes = λ y. let t = k.takes y in (sym (stays h.reader j (sym t.0) off), t.1);
      } in
      let mine : Is pass a = λ _. record {
        sent = f.sent;
        below = f.below;
        own = stays (h.seat_of v.number) pass f.own (λ e. apart (sym e));
        met = All-append Mine v.met ((w.number, w.sent) ∷ w.met)
            (λ i d less. let p = f.met i d less in (p.0, p.1, stays (h.seat_of _) pass p.2 (λ e. apart (sym e)), p.3))
            (all_cons Mine (w.number, w.sent) w.met (g.sent, g.below, moves (h.seat_of w.number) g.own, differs w.number g.own) (λ i d less. let p = g.met i d less in (p.0, p.1, moves (h.seat_of _) p.2, differs _ p.2)));
        counts = f.counts;
        takes = both v.takes w.takes f.takes g.takes;
      } in
      record {
        made = h.made;
        reader = move h.reader;
        seat_of = seat_of;
        taken = h.taken;
        each = λ j u e. each_set Is l other z (λ e. absurd (true≢false (sym e))) (λ j u off e. each_set (λ k y. k ≢ other → Is k y) views pass a (λ _. mine) (λ k y no m out. others k y no out m) j u e off) j u e;
        unmade = h.unmade;
        fit = h.fit;
      }
    where
      both : (t s : Bool) → (IsTrue t → (pass ≡ h.reader) × (v.taken ≡ h.taken)) → (IsTrue s → (other ≡ h.reader) × (w.taken ≡ h.taken))
          → IsTrue (t || s) → (pass ≡ cond (eqb h.reader other) pass h.reader) × (cond s w.taken v.taken ≡ h.taken)
      both t true p q e = (sym (ap (λ b. cond b pass h.reader) (eq-eqb h.reader other (sym (q refl).0))), (q refl).1)
      both true false p q e = (sym (ap (λ b. cond b pass h.reader) (ne_eqb h.reader other (λ same. apart (sym same ∙ sym (p refl).0))) ∙ sym (p refl).0), (p refl).1)
      both false false p q e = absurd (true≢false (sym e))
