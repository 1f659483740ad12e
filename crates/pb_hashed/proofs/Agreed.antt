-- With no letter and one incumbent, the rows of all owners are a sound store.
use Rattle.std.proofs.Common.{◌≡◌, ℕ, ◌+◌, ◌<◌, ◌≤◌, refl, sym, ap, ◌∙◌, subst, arith, ◌⊎◌, inl, inr, Option, Some}
use Rattle.pb_model.specs.declared.row.Row.{Row}
use Rattle.pb_model.specs.Space.{Space, Steps}
use Rattle.pb_model.specs.Guide.{Guide}
use Rattle.pb_model.specs.Store.{HasRowWithin, MayBeCut}
use Rattle.pb_model.specs.Sound.{HasParent}
use Rattle.pb_hashed.specs.Mailed.{Mailed, store_of, HasLetterWithin}
use Rattle.pb_hashed.proofs.Sending.{contains_none}
use Rattle.pb_hashed.specs.Laws.{AgreedIsSound}

pub agreed_is_sound : AgreedIsSound
agreed_is_sound space guide m owners incumbent l none some homes agreed = (
  record {
    place = l.place;
    start = l.start;
    parent = λ state row is. parent row (l.parent state row is);
    closed = λ state row is st action to cost step. covers to (row.g + cost) (l.closed state row is st action to cost step);
    no_goal = l.no_goal;
    cut = λ state row is st. subst (λ u. MayBeCut m.weight u row.g row.estimate) (agreed (guide.home state) (homes state)) (l.cut (guide.home state) state row is st);
    weight = l.weight;
  },
  λ cost is. l.shown 0 cost (agreed 0 some ∙ is),
)
  where
    parent : {state : ℕ} (row : Row) → (state ≡ space.start) ⊎ HasParent space guide (store_of m Rattle.std.proofs.Common.None) state row → (state ≡ space.start) ⊎ HasParent space guide (store_of m incumbent) state row
    parent row (inl e) = inl e
    parent row (inr h) = inr (record { parent = h.parent; parent_row = h.parent_row; cost = h.cost; named = h.named; found = h.found; step = h.step; cheaper = h.cheaper })

    covers : (to most : ℕ) → HasRowWithin guide (store_of m Rattle.std.proofs.Common.None) to most ⊎ HasLetterWithin guide m to most → HasRowWithin guide (store_of m incumbent) to most
    covers to most (inl h) = h
    covers to most (inr h) = contains_none h.1 (subst (λ xs. Rattle.std.proofs.Common.Contains xs h.1) (none h.0 (guide.home to)) h.2)
