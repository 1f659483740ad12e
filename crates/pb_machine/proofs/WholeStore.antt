-- Leases that are given, renewed and released keep the whole store in its parts.
use Rattle.std.proofs.Common.{◌≡◌, ℕ, ◌<◌, Bool, true, false, cond, not, ◌&&◌, ◌==◌, is_some, Option, Some, None, refl, sym, ap, ◌∙◌, subst, true≢false}
use Rattle.std.specs.List.{AllByRecursion}
use Rattle.pb_model.specs.Store.{Rows, Store}
use Rattle.pb_model.specs.Local.{AgreesOn, merged_store}
use Rattle.pb_model.proofs.Callers.{not_both, not_true, not_false, or_false, equal, equal_self, equal_swap, below, by_cases}
use Rattle.pb_machine.specs.declared.event.Event.TheVariants.{Lease, Renew, Release}
use Rattle.pb_machine.specs.declared.event.EventRefusal.TheVariants.{Trouble}
use Rattle.pb_machine.specs.declared.event.Grant.{Grant}
use Rattle.pb_machine.specs.Tables.{with_entry}
use Rattle.pb_machine.specs.Blocks.{meets}
use Rattle.pb_machine.specs.Counts.{Counts, is_lease_of, is_taken, with_quota, counts_after, AreLawful}
use Rattle.pb_machine.specs.Legality.{tests, refusal, is_memory_end}
use Rattle.pb_machine.specs.Machine.{Setup, IsSetup}
use Rattle.pb_machine.specs.Whole.{is_away, AreGone, IsWhole}
use Rattle.pb_machine.specs.Laws.{RecordedRowsAreLent, LeasingKeepsWhole, RenewingKeepsWhole, ReleasingKeepsWhole, OthersKeepWhole, AllIsHome}
use Rattle.pb_machine.proofs.TableLaws.{entry_here, entry_else, any_same, any_none, any_some, any_at}
use Rattle.pb_machine.proofs.CountsLaws.{some_is, none_true, rest_passes, none_leased, released_was, renewed_same, renewed_was}

-- a lease whose block passes is there
pub leased_block : (test : ℕ → Bool) (o : Option Grant) → is_lease_of test o ≡ true → (grant : Grant) × (o ≡ Some grant) × (test grant.block ≡ true)
leased_block test None h = absurd (true≢false (sym h))
leased_block test (Some grant) h = (grant, refl, h)

module _ (p : Setup) (greatest_cost : ℕ) (is_setup : IsSetup p greatest_cost) (c : Counts) where
  abbrev Scope : ℕ → ℕ → Bool
  Scope block x = p.blocks.scope block x

  -- a block in a leased scope is away
  away_at : (leases : ℕ → Option Grant) (k : ℕ) (grant : Grant) (x : ℕ) → k < p.settings.workers → leases k ≡ Some grant → Scope grant.block x ≡ true → is_away p (record c { leases = leases }) x ≡ true
  away_at leases k grant x lt is inside = any_at p.settings.workers k (λ w. is_lease_of (λ b. Scope b x) (leases w)) lt (ap (is_lease_of (λ b. Scope b x)) is ∙ inside)

  away_by : (leases : ℕ → Option Grant) (x : ℕ) → is_away p (record c { leases = leases }) x ≡ true → (k : ℕ) × (k < p.settings.workers) × (grant : Grant) × (leases k ≡ Some grant) × (Scope grant.block x ≡ true)
  away_by leases x h =
      let w = any_some p.settings.workers (λ k. is_lease_of (λ b. Scope b x) (leases k)) h in
      let g = leased_block (λ b. Scope b x) (leases w.0) w.2 in
      (w.0, w.1, g.0, g.1, g.2)

  merged_in : (worked store : Store) (block x state : ℕ) → Scope block x ≡ true → (merged_store (p.blocks.scope block) worked store).rows x state ≡ worked.rows x state
  merged_in worked store block x state e = ap (λ r. cond r (worked.rows x state) (store.rows x state)) e

  merged_out : (worked store : Store) (block x state : ℕ) → Scope block x ≡ false → (merged_store (p.blocks.scope block) worked store).rows x state ≡ store.rows x state
  merged_out worked store block x state e = ap (λ r. cond r (worked.rows x state) (store.rows x state)) e

  -- ---- a lease is given

  module _ (i b q : ℕ) (may : refusal p.blocks p.settings c (Lease i b q) ≡ None) where
    passed : AllByRecursion (λ t. t.0 ≡ false) (tests p.blocks p.settings c (Lease i b q))
    passed = none_true (tests p.blocks p.settings c (Lease i b q)) (rest_passes (c.trouble && not (is_memory_end (Lease i b q)), Trouble) (tests p.blocks p.settings c (Lease i b q)) may)

    none_before : c.leases i ≡ None
    none_before = none_leased (c.leases i) passed.1.1.0

    -- another worker's lease is still there
    other_still : (k : ℕ) (grant : Grant) → c.leases k ≡ Some grant → (k == i) ≡ false
    other_still k grant is = by_cases (k == i)
        (λ e. let bad : ◌≡◌ {A = Option Grant} None (Some grant) = sym none_before ∙ ap c.leases (sym (equal k i e)) ∙ is in cc)
        (λ e. e)

    here : i < p.settings.workers
    here = below i p.settings.workers (not_false _ (or_false _ _ passed.1.0).0)

    -- no block of the scope was away
    was_home : (x : ℕ) → Scope b x ≡ true → is_away p c x ≡ false
    was_home x inside = by_cases (is_away p c x)
        (λ e. let w = away_by c.leases x e in
        let met : meets p.blocks b w.2.block ≡ true = any_at p.blocks.count x (λ s. Scope b s && Scope w.2.block s) (is_setup.blocks.known b x inside) (ap (λ r. r && Scope w.2.block x) inside ∙ w.4) in
        not_both (is_taken p.blocks p.settings.workers c.leases b) (any_at p.settings.workers w.0 (λ k. is_lease_of (meets p.blocks b) (c.leases k)) w.1 (ap (is_lease_of (meets p.blocks b)) w.3 ∙ met)) passed.1.1.1.1.0)
        (λ e. e)

    pub leasing : (home left taken : Rows) (recorded : ℕ → Rows) (store : Store) → IsWhole p c home recorded store → AgreesOn (Scope b) taken home → AreGone (λ x. not (Scope b x)) taken
        → AgreesOn (λ x. not (Scope b x)) left home → AreGone (Scope b) left
        → IsWhole p (counts_after p.blocks p.settings c (Lease i b q)) left (with_entry recorded i taken) store
    leasing home left taken recorded store whole agrees alone stays gone = record {
      home_rows = λ x state out. home_row x state (not_true _ out);
      none_kept = λ x state away. none_left x state away;
      recorded_rows = λ k grant is x state inside. by_cases (k == i) (new k grant is x state inside) (old k grant is x state inside);
      none_else = λ k grant is x state out. by_cases (k == i)
          (λ e. let same : b ≡ grant.block = ap (λ (g : Grant). g.block) (some_is _ grant (sym (entry_here c.leases i k _ e) ∙ is)) in
          (λ j. entry_here recorded i k taken e j x state) ∙ alone x state (ap (λ n. not (Scope n x)) same ∙ out))
          (λ e. (λ j. entry_else recorded i k taken e j x state) ∙ whole.none_else k grant (sym (entry_else c.leases i k _ e) ∙ is) x state out);
    }
      where
        home_row : (x state : ℕ) → is_away p (record c { leases = with_entry c.leases i (Some (record { block = b; quota = q })) }) x ≡ false → store.rows x state ≡ left x state
        home_row x state out =
            let apart : Scope b x ≡ false = by_cases (Scope b x)
            (λ e. not_both (is_away p (record c { leases = with_entry c.leases i (Some (record { block = b; quota = q })) }) x)
            (away_at (with_entry c.leases i (Some (record { block = b; quota = q }))) i (record { block = b; quota = q }) x here (entry_here c.leases i i _ (equal_self i)) e) out)
            (λ e. e) in
            let before : is_away p c x ≡ false = by_cases (is_away p c x)
            (λ e. let w = away_by c.leases x e in
            not_both (is_away p (record c { leases = with_entry c.leases i (Some (record { block = b; quota = q })) }) x)
            (away_at (with_entry c.leases i (Some (record { block = b; quota = q }))) w.0 w.2 x w.1 (entry_else c.leases i w.0 _ (other_still w.0 w.2 w.3) ∙ w.3) w.4) out)
            (λ e. e) in
            whole.home_rows x state (ap not before) ∙ sym (stays x state (ap not apart))

        none_left : (x state : ℕ) → is_away p (record c { leases = with_entry c.leases i (Some (record { block = b; quota = q })) }) x ≡ true → left x state ≡ None
        none_left x state away = by_cases (Scope b x) (λ e. gone x state e) (λ e. stays x state (ap not e) ∙ whole.none_kept x state (was_away e))
          where
            was_away : Scope b x ≡ false → is_away p c x ≡ true
            was_away e =
                let w = away_by (with_entry c.leases i (Some (record { block = b; quota = q }))) x away in
                by_cases (w.0 == i)
                (λ f. let same : b ≡ w.2.block = ap (λ (g : Grant). g.block) (some_is _ w.2 (sym (entry_here c.leases i w.0 _ f) ∙ w.3)) in not_both (Scope b x) (ap (λ n. Scope n x) same ∙ w.4) e)
                (λ f. away_at c.leases w.0 w.2 x w.1 (sym (entry_else c.leases i w.0 _ f) ∙ w.3) w.4)

        new : (k : ℕ) (grant : Grant) → with_entry c.leases i (Some (record { block = b; quota = q })) k ≡ Some grant → (x state : ℕ) → Scope grant.block x ≡ true → (k == i) ≡ true → store.rows x state ≡ with_entry recorded i taken k x state
        new k grant is x state inside e =
            let same : b ≡ grant.block = ap (λ (g : Grant). g.block) (some_is _ grant (sym (entry_here c.leases i k _ e) ∙ is)) in
            let inside' : Scope b x ≡ true = ap (λ n. Scope n x) same ∙ inside in
            whole.home_rows x state (ap not (was_home x inside')) ∙ sym (agrees x state inside') ∙ sym (λ j. entry_here recorded i k taken e j x state)

        old : (k : ℕ) (grant : Grant) → with_entry c.leases i (Some (record { block = b; quota = q })) k ≡ Some grant → (x state : ℕ) → Scope grant.block x ≡ true → (k == i) ≡ false → store.rows x state ≡ with_entry recorded i taken k x state
        old k grant is x state inside e = whole.recorded_rows k grant (sym (entry_else c.leases i k _ e) ∙ is) x state inside ∙ sym (λ j. entry_else recorded i k taken e j x state)

  -- ---- a lease comes back

  module _ (l : AreLawful p.blocks p.settings c) (i : ℕ) (grant : Grant) (leased : c.leases i ≡ Some grant) where
    -- a block of another lease's scope is not in this one
    other_scope : (k : ℕ) (g : Grant) (x : ℕ) → c.leases k ≡ Some g → (k == i) ≡ false → Scope g.block x ≡ true → Scope grant.block x ≡ false
    other_scope k g x is differ inside = by_cases (Scope grant.block x)
        (λ e. not_both (Scope g.block x) inside
        (sym (ap (λ r. r && Scope g.block x) e) ∙ any_none p.blocks.count x (λ s. Scope grant.block s && Scope g.block s) (l.apart i k grant g leased is (equal_swap i k ∙ differ)) (is_setup.blocks.known grant.block x e)))
        (λ e. e)

    away_here : (x : ℕ) → Scope grant.block x ≡ true → is_away p c x ≡ true
    away_here x inside = away_at c.leases i grant x (l.known i grant leased).0 leased inside

    pub renewing : (used q : ℕ) (home : Rows) (recorded : ℕ → Rows) (store worked : Store) → IsWhole p c home recorded store → AreGone (λ x. not (Scope grant.block x)) worked.rows
        → IsWhole p (counts_after p.blocks p.settings c (Renew i used q)) home (with_entry recorded i worked.rows) (merged_store (p.blocks.scope grant.block) worked store)
    renewing used q home recorded store worked whole alone = record {
      home_rows = λ x state out. home_row x state (not_true _ out);
      none_kept = λ x state away. whole.none_kept x state (any_same p.settings.workers _ _ (λ k. sym (renewed_same p.blocks p.settings (λ b. Scope b x) c.leases i q k)) ∙ away);
      recorded_rows = λ k g is x state inside. recorded_row k g x state (renewed_was p.blocks p.settings c.leases i q k g is) inside;
      none_else = λ k g is x state out. none_row k g x state (renewed_was p.blocks p.settings c.leases i q k g is) out;
    }
      where
        home_row : (x state : ℕ) → is_away p (record c { leases = with_entry c.leases i (with_quota q (c.leases i)) }) x ≡ false → (merged_store (p.blocks.scope grant.block) worked store).rows x state ≡ home x state
        home_row x state out =
            let before : is_away p c x ≡ false = sym (any_same p.settings.workers _ _ (λ k. renewed_same p.blocks p.settings (λ b. Scope b x) c.leases i q k)) ∙ out in
            let apart : Scope grant.block x ≡ false = by_cases (Scope grant.block x) (λ e. not_both (is_away p c x) (away_here x e) before) (λ e. e) in
            merged_out worked store grant.block x state apart ∙ whole.home_rows x state (ap not before)

        none_row : (k : ℕ) (g : Grant) (x state : ℕ) → ((y : Grant) × (c.leases k ≡ Some y) × (y.block ≡ g.block)) → not (Scope g.block x) ≡ true → with_entry recorded i worked.rows k x state ≡ None
        none_row k g x state was out =
            let out' : not (Scope was.0.block x) ≡ true = ap (λ n. not (Scope n x)) was.2 ∙ out in
            by_cases (k == i)
            (λ e. let same : was.0 ≡ grant = some_is was.0 grant (sym was.1 ∙ ap c.leases (equal k i e) ∙ leased) in
            (λ j. entry_here recorded i k worked.rows e j x state) ∙ alone x state (ap (λ (v : Grant). not (Scope v.block x)) (sym same) ∙ out'))
            (λ e. (λ j. entry_else recorded i k worked.rows e j x state) ∙ whole.none_else k was.0 was.1 x state out')

        recorded_row : (k : ℕ) (g : Grant) (x state : ℕ) → ((y : Grant) × (c.leases k ≡ Some y) × (y.block ≡ g.block)) → Scope g.block x ≡ true
            → (merged_store (p.blocks.scope grant.block) worked store).rows x state ≡ with_entry recorded i worked.rows k x state
        recorded_row k g x state was inside =
            let inside' : Scope was.0.block x ≡ true = ap (λ n. Scope n x) was.2 ∙ inside in
            by_cases (k == i)
            (λ e. let same : was.0 ≡ grant = some_is was.0 grant (sym was.1 ∙ ap c.leases (equal k i e) ∙ leased) in
            merged_in worked store grant.block x state (ap (λ (v : Grant). Scope v.block x) (sym same) ∙ inside') ∙ sym (λ j. entry_here recorded i k worked.rows e j x state))
            (λ e. merged_out worked store grant.block x state (other_scope k was.0 x was.1 e inside') ∙ whole.recorded_rows k was.0 was.1 x state inside' ∙ sym (λ j. entry_else recorded i k worked.rows e j x state))

    pub releasing : (used : ℕ) (memory : Bool) (home together : Rows) (recorded : ℕ → Rows) (store worked : Store) → IsWhole p c home recorded store
        → AgreesOn (Scope grant.block) together worked.rows → AgreesOn (λ x. not (Scope grant.block x)) together home
        → IsWhole p (counts_after p.blocks p.settings c (Release i used memory)) together recorded (merged_store (p.blocks.scope grant.block) worked store)
    releasing used memory home together recorded store worked whole brought stays = record {
      home_rows = λ x state out. by_cases (Scope grant.block x)
          (λ e. merged_in worked store grant.block x state e ∙ sym (brought x state e))
          (λ e. merged_out worked store grant.block x state e ∙ whole.home_rows x state (ap not (before x e (not_true _ out))) ∙ sym (stays x state (ap not e)));
      none_kept = λ x state away.
          let w = away_by (with_entry c.leases i None) x away in
          let was = released_was p.blocks p.settings c.leases i w.0 w.2 w.3 in
          stays x state (ap not (other_scope w.0 w.2 x was (other w.0 w.2 w.3) w.4)) ∙ whole.none_kept x state (away_at c.leases w.0 w.2 x w.1 was w.4);
      recorded_rows = λ k g is x state inside.
          let was = released_was p.blocks p.settings c.leases i k g is in
          merged_out worked store grant.block x state (other_scope k g x was (other k g is) inside) ∙ whole.recorded_rows k g was x state inside;
      none_else = λ k g is. whole.none_else k g (released_was p.blocks p.settings c.leases i k g is);
    }
      where
        other : (k : ℕ) (g : Grant) → with_entry c.leases i None k ≡ Some g → (k == i) ≡ false
        other k g is = by_cases (k == i) (λ e. let bad : ◌≡◌ {A = Option Grant} None (Some g) = sym (entry_here c.leases i k None e) ∙ is in cc) (λ e. e)

        before : (x : ℕ) → Scope grant.block x ≡ false → is_away p (record c { leases = with_entry c.leases i None }) x ≡ false → is_away p c x ≡ false
        before x apart out = by_cases (is_away p c x)
            (λ e. let w = away_by c.leases x e in
            by_cases (w.0 == i)
            (λ f. let same : w.2 ≡ grant = some_is w.2 grant (sym w.3 ∙ ap c.leases (equal w.0 i f) ∙ leased) in not_both (Scope grant.block x) (ap (λ (v : Grant). Scope v.block x) (sym same) ∙ w.4) apart)
            (λ f. not_both (is_away p (record c { leases = with_entry c.leases i None }) x) (away_at (with_entry c.leases i None) w.0 w.2 x w.1 (entry_else c.leases i w.0 None f ∙ w.3) w.4) out))
            (λ e. e)

pub leasing_keeps_whole : LeasingKeepsWhole
leasing_keeps_whole setup greatest_cost counts store home left taken recorded worker block quota is whole may agrees alone stays gone =
    leasing setup greatest_cost is counts worker block quota may home left taken recorded store whole agrees alone stays gone

pub renewing_keeps_whole : RenewingKeepsWhole
renewing_keeps_whole setup greatest_cost counts store worked home recorded worker used quota grant is l whole leased alone =
    renewing setup greatest_cost is counts l worker grant leased used quota home recorded store worked whole alone

pub releasing_keeps_whole : ReleasingKeepsWhole
releasing_keeps_whole setup greatest_cost counts store worked home together recorded worker used memory grant is l whole leased brought stays =
    releasing setup greatest_cost is counts l worker grant leased used memory home together recorded store worked whole brought stays

pub recorded_rows_are_lent : RecordedRowsAreLent
recorded_rows_are_lent setup counts store home recorded worker grant incumbent whole leased block state = by_cases (setup.blocks.scope grant.block block)
    (λ e. ap (λ r. cond r (store.rows block state) None) e ∙ whole.recorded_rows worker grant leased block state e)
    (λ e. ap (λ r. cond r (store.rows block state) None) e ∙ sym (whole.none_else worker grant leased block state (ap not e)))

pub others_keep_whole : OthersKeepWhole
others_keep_whole setup counts after store later home recorded same rows whole = record {
  home_rows = λ block state out. (λ j. rows j block state) ∙ whole.home_rows block state (subst (λ leases. not (is_away setup (record counts { leases = leases }) block) ≡ true) same out);
  none_kept = λ block state away. whole.none_kept block state (subst (λ leases. is_away setup (record counts { leases = leases }) block ≡ true) same away);
  recorded_rows = λ worker grant is block state inside. (λ j. rows j block state) ∙ whole.recorded_rows worker grant (sym (λ j. same j worker) ∙ is) block state inside;
  none_else = λ worker grant is. whole.none_else worker grant (sym (λ j. same j worker) ∙ is);
}

pub all_is_home : AllIsHome
all_is_home setup counts store home recorded lawful out = (
  λ whole block state. whole.home_rows block state (ap not (none_away block)),
  λ same. record {
    home_rows = λ block state _. same block state;
    none_kept = λ block state away. not_both (is_away setup counts block) away (none_away block);
    recorded_rows = λ worker grant is. nobody worker grant is;
    none_else = λ worker grant is. nobody worker grant is;
  },
)
  where
    none_here : (worker : ℕ) → worker < setup.settings.workers → counts.leases worker ≡ None
    none_here worker there = none_leased (counts.leases worker) (any_none setup.settings.workers worker (λ k. is_some (counts.leases k)) out there)

    nobody : (worker : ℕ) (grant : Grant) → counts.leases worker ≡ Some grant → {A : Type 0} → A
    nobody worker grant is = let bad : ◌≡◌ {A = Option Grant} None (Some grant) = sym (none_here worker (lawful.known worker grant is).0) ∙ is in cc

    none_away : (block : ℕ) → is_away setup counts block ≡ false
    none_away block = by_cases (is_away setup counts block)
        (λ e. let w = any_some setup.settings.workers (λ k. is_lease_of (λ b. setup.blocks.scope b block) (counts.leases k)) e in
        absurd (true≢false (sym w.2 ∙ ap (is_lease_of (λ b. setup.blocks.scope b block)) (none_here w.0 w.1))))
        (λ e. e)
