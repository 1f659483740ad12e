-- The store of a lease after a piece of work on its rows.
use Rattle.std.proofs.Common.{◌≡◌, ℕ, ◌+◌, ◌<◌, cond, List, [], ◌∷◌, ◌++◌, length, take, get_or, Some, sym, ap, ◌∙◌, subst}
use Rattle.std.proofs.lemmas.List.{take_more}
use Rattle.pb_model.specs.declared.row.Status.{Status}
use Rattle.pb_model.specs.declared.row.Succ.{Succ}
use Rattle.pb_model.specs.Space.{Space}
use Rattle.pb_model.specs.Guide.{Guide}
use Rattle.pb_model.specs.Store.{is_place_of}
use Rattle.pb_model.specs.Work.{Work, offered_row, row_after_offer, row_after_status, row_after, incumbent_after, weight_after, g_before, store_after}
use Rattle.pb_model.proofs.Callers.{place_of, offers_push, by_cases}
use Rattle.pb_bundles.specs.Parts.{away_rows}
use Rattle.pb_lease.specs.LeaseValue.{LeaseValue, leased_store}
use Rattle.pb_lease.specs.Rows.{SetsStatusAt, OffersAt, HasOffers}

module _ (space : Space) (guide : Guide) (work : Work) (g : ℕ) (old new : LeaseValue) where
  pub store_is : g_before guide (leased_store old) work ≡ g
      → ((home state : ℕ) → away_rows new.parts home state ≡ row_after space guide work g old.incumbent home state (away_rows old.parts home state))
      → new.incumbent ≡ incumbent_after work g old.incumbent → new.weight ≡ weight_after work old.weight → leased_store new ≡ store_after space guide work (leased_store old)
  store_is at rows incumbent weight =
      let same : g ≡ g_before guide (leased_store old) work = sym at in
      λ i. record {
        rows = λ home state. (rows home state ∙ ap (λ k. row_after space guide work k old.incumbent home state (away_rows old.parts home state)) same) i;
        incumbent = (incumbent ∙ ap (λ k. incumbent_after work k old.incumbent) same) i;
        weight = weight i;
      }

-- the row of a state at home in the block got this status
pub status_rows : (guide : Guide) (block state : ℕ) → guide.home state ≡ block → (from to : LeaseValue) (status : Status) → SetsStatusAt from to block state status
    → (home other : ℕ) → away_rows to.parts home other ≡ row_after_status guide state status home other (away_rows from.parts home other)
status_rows guide block state home from to status set = subst (λ k. SetsStatusAt from to k state status) (sym home) set

-- ---- offers one after another

module _ (guide : Guide) (own g : ℕ) where
  pub offers_more : (succs : List Succ) (succ : Succ) (old mid new : LeaseValue) → HasOffers guide own g succs old mid
      → OffersAt mid new (guide.home succ.state) succ.state (g + succ.cost) (guide.estimate succ.state) (Some own) succ.action → HasOffers guide own g (succs ++ succ ∷ []) old new
  offers_more succs succ old mid new has one home state =
      one_more home state ∙ ap (row_after_offer guide own g succ home state) (has home state) ∙ sym (offers_push guide own g succs succ home state (away_rows old.parts home state))
    where
      one_more : (home state : ℕ) → away_rows new.parts home state ≡ row_after_offer guide own g succ home state (away_rows mid.parts home state)
      one_more home state = one home state ∙ by_cases (is_place_of guide succ.state home state)
          (λ e. ap (λ h. cond (is_place_of guide succ.state home state) (Some (offered_row (g + succ.cost) h (Some own) succ.action (away_rows mid.parts home state))) (away_rows mid.parts home state))
          (ap guide.estimate (sym (place_of guide succ.state home state e).1)))
          (λ e. ap (λ b. cond b (Some (offered_row (g + succ.cost) (guide.estimate succ.state) (Some own) succ.action (away_rows mid.parts home state))) (away_rows mid.parts home state)) e
          ∙ sym (ap (λ b. cond b (Some (offered_row (g + succ.cost) (guide.estimate state) (Some own) succ.action (away_rows mid.parts home state))) (away_rows mid.parts home state)) e))

  -- the next of a list of successors
  pub offers_next : (succs : List Succ) (i : ℕ) (succ : Succ) (old mid new : LeaseValue) → i < length succs → succ ≡ get_or succs i succ → HasOffers guide own g (take i succs) old mid
      → OffersAt mid new (guide.home succ.state) succ.state (g + succ.cost) (guide.estimate succ.state) (Some own) succ.action → HasOffers guide own g (take (i + 1) succs) old new
  offers_next succs i succ old mid new less is has one =
      subst (λ ss. HasOffers guide own g ss old new) (sym (take_more succs i succ less))
      (subst (λ s. HasOffers guide own g (take i succs ++ s ∷ []) old new) is (offers_more (take i succs) succ old mid new has one))
