-- What a journal tells of its end, and what a legal history doesn't depend on.
use Rattle.std.proofs.Common.{◌≡◌, ℕ, cond, is_some, is_none, List, [], ◌∷◌, Option, Some, None, refl, sym, ap, ◌∙◌, true≢false}
use Rattle.std.specs.Option.{option_or}
use Rattle.pb_model.specs.Weight.{Weight}
use Rattle.pb_model.proofs.Callers.{by_cases, none_found}
use Rattle.pb_machine.specs.declared.event.End.{End}
use Rattle.pb_machine.specs.declared.event.End.TheVariants.{Quiet, Budget, Memory}
use Rattle.pb_machine.specs.declared.event.Event.{Event}
use Rattle.pb_machine.specs.declared.event.Event.TheVariants.{Lease, Renew, Hot, Cold, Release, Off, Ended}
use Rattle.pb_machine.specs.declared.settings.Settings.{Settings}
use Rattle.pb_machine.specs.Settings.{settings_with}
use Rattle.pb_machine.specs.Blocks.{Blocks}
use Rattle.pb_machine.specs.Counts.{Counts, opening_counts, counts_after, is_any_out}
use Rattle.pb_machine.specs.Legality.{refusal}
use Rattle.pb_machine.specs.History.{replay, end_in}
use Rattle.pb_machine.specs.JournalLaws.{EndsAreTold, EndsStand, AllOffNoneOut, HistoriesHaveAnyWeight}
use Rattle.pb_machine.proofs.TableLaws.{any_some}
use Rattle.pb_machine.proofs.CountsLaws.{passes}
use Rattle.pb_machine.proofs.Histories.{some_counts, replay_first, first_may}

or_nothing : (o : Option End) → o ≡ option_or o None
or_nothing None = refl
or_nothing (Some end) = refl

module _ (blocks : Blocks) (settings : Settings) where
  pub no_end_before : (c : Counts) (end : End) → refusal blocks settings c (Ended end) ≡ None → c.end ≡ None
  no_end_before c Quiet may = none_found c.end (passes blocks settings c (Ended Quiet) may).0
  no_end_before c Budget may = none_found c.end (passes blocks settings c (Ended Budget) may).0
  no_end_before c Memory may = none_found c.end (passes blocks settings c (Ended Memory) may).0

  one_end : (c : Counts) (e : Event) (es : List Event) → refusal blocks settings c e ≡ None → option_or (counts_after blocks settings c e).end (end_in es) ≡ option_or c.end (end_in (e ∷ es))
  one_end c (Lease by block quota) es may = refl
  one_end c (Renew by used quota) es may = refl
  one_end c (Hot by block) es may = refl
  one_end c (Cold by block) es may = refl
  one_end c (Release by used memory) es may = refl
  one_end c (Off by memory) es may = refl
  one_end c (Ended end) es may = ap (λ (o : Option End). option_or o (Some end)) (sym (no_end_before c end may))

  end_told : (es : List Event) (c d : Counts) → replay blocks settings c es ≡ Some d → d.end ≡ option_or c.end (end_in es)
  end_told [] c d is = ap (λ (q : Counts). q.end) (sym (some_counts c d is)) ∙ or_nothing c.end
  end_told (e ∷ es) c d is =
      let may = first_may blocks settings c d e es is in
      end_told es (counts_after blocks settings c e) d (sym (replay_first blocks settings c e es may) ∙ is) ∙ one_end c e es may

pub ends_are_told : EndsAreTold
ends_are_told blocks settings before journal counts is = end_told blocks settings journal (opening_counts settings before) counts is.replays

pub ends_stand : EndsStand
ends_stand [] more end is = let bad : ◌≡◌ {A = Option End} None (Some end) = is in cc
ends_stand (Ended first ∷ es) more end is = is
ends_stand (Lease by block quota ∷ es) more end is = ends_stand es more end is
ends_stand (Renew by used quota ∷ es) more end is = ends_stand es more end is
ends_stand (Hot by block ∷ es) more end is = ends_stand es more end is
ends_stand (Cold by block ∷ es) more end is = ends_stand es more end is
ends_stand (Release by used memory ∷ es) more end is = ends_stand es more end is
ends_stand (Off by memory ∷ es) more end is = ends_stand es more end is

pub all_off_none_out : AllOffNoneOut
all_off_none_out blocks settings counts lawful off = by_cases (is_any_out settings.workers counts.leases)
    (λ e. let w = any_some settings.workers (λ k. is_some (counts.leases k)) e in
    absurd (true≢false (sym w.2 ∙ ap is_some (lawful.off w.0 (off w.0 w.1)).1)))
    (λ e. e)

-- ---- the weight and the pattern database

module _ (blocks : Blocks) (settings : Settings) (weight : Weight) (pattern : ℕ) where
  abbrev Other : Settings
  Other = settings_with settings weight pattern

  same_refusal : (c : Counts) (e : Event) → refusal blocks Other c e ≡ refusal blocks settings c e
  same_refusal c (Lease by block quota) = refl
  same_refusal c (Renew by used quota) = refl
  same_refusal c (Hot by block) = refl
  same_refusal c (Cold by block) = refl
  same_refusal c (Release by used memory) = refl
  same_refusal c (Off by memory) = refl
  same_refusal c (Ended Quiet) = refl
  same_refusal c (Ended Budget) = refl
  same_refusal c (Ended Memory) = refl

  same_after : (c : Counts) (e : Event) → counts_after blocks Other c e ≡ counts_after blocks settings c e
  same_after c (Lease by block quota) = refl
  same_after c (Renew by used quota) = refl
  same_after c (Hot by block) = refl
  same_after c (Cold by block) = refl
  same_after c (Release by used memory) = refl
  same_after c (Off by memory) = refl
  same_after c (Ended end) = refl

  same_replay : (es : List Event) (c : Counts) → replay blocks Other c es ≡ replay blocks settings c es
  same_replay [] c = refl
  same_replay (e ∷ es) c = ap (λ r. cond (is_none r) (replay blocks Other (counts_after blocks Other c e) es) None) (same_refusal c e)
      ∙ ap (λ (q : Counts). cond (is_none (refusal blocks settings c e)) (replay blocks Other q es) None) (same_after c e)
      ∙ ap (λ (o : Option Counts). cond (is_none (refusal blocks settings c e)) o None) (same_replay es (counts_after blocks settings c e))

pub histories_have_any_weight : HistoriesHaveAnyWeight
histories_have_any_weight blocks settings weight pattern before journal counts is_weight is_pattern is = record {
  range = record { workers = is.range.workers; weight = is_weight; budget = is.range.budget; lot = is.range.lot; wish = is.range.wish; pattern = is_pattern };
  enough = is.enough;
  replays = same_replay blocks settings weight pattern journal (opening_counts settings before) ∙ is.replays;
}
