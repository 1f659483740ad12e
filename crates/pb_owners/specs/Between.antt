-- The owners' shares between two rounds.
use Rattle.std.specs.Prelude.{◌≡◌, ℕ, ◌<◌, List, [], None}
use Rattle.pb_model.specs.Space.{Space}
use Rattle.pb_model.specs.Weight.{Weight}
use Rattle.pb_model.specs.Guide.{Guide}
use Rattle.pb_model.specs.Store.{Store, HasOpened}
use Rattle.pb_model.specs.Work.{opening_store}
use Rattle.pb_hashed.specs.Mailed.{Owner, Mailed, HasNoLetter}
use Rattle.pb_hashed.specs.MailWork.{MailWork, ComesByMail, mail_expansions, mail_broken}
use Rattle.pb_owners.specs.RoundRule.{total, RunsInRounds}

-- the shares at the start of a search: the row of the start alone, Opened, with its owner, and no
-- incumbent
abbrev pub opening_mailed : Space → Guide → Weight → Mailed
opening_mailed space guide weight =
    record {
      owner = λ owner. record {
        part = (opening_store space guide weight).rows owner;
        incumbent = None;
        letters = λ to. [];
      };
      weight = weight;
    }

-- The shares of so many owners are these, and there are no other rows. No letter is left, and all
-- copies of the incumbent are the same.
pub record IsBetween (owners : ℕ) (weight : Weight) (at : ℕ → Owner) (m : Mailed) : Type 0 where
  pub parts : (owner : ℕ) → (m.owner owner).part ≡ (at owner).part
  pub incumbents : (owner : ℕ) → owner < owners
      → (m.owner owner).incumbent ≡ (at owner).incumbent
  pub agreed : (owner : ℕ) → owner < owners
      → (m.owner owner).incumbent ≡ (m.owner 0).incumbent
  pub no_letter : HasNoLetter m
  pub weight_is : m.weight ≡ weight

-- some row of some owner is Opened
abbrev pub AnyOpened : (ℕ → Owner) → Type 0
AnyOpened at = (owner : ℕ) × HasOpened (at owner).part

-- the rows of all owners, with the incumbent that they agree on
abbrev pub store_at : (ℕ → Owner) → Weight → Store
store_at at weight =
    record { rows = λ owner. (at owner).part; incumbent = (at 0).incumbent; weight = weight }

-- From whatever shares these are, work by mail leads to those afterwards: by exactly so many
-- expansions, none of them broken off. No letter is left, and it is such a round.
abbrev pub RunsByMail : Space → Guide → Weight → (owners used : ℕ)
    → (Round : Mailed → Mailed → Type 0) → (old new : ℕ → Owner) → Type 0
RunsByMail space guide weight owners used Round old new =
    (m : Mailed) → IsBetween owners weight old m
    → (next : Mailed) × (works : List MailWork) × ComesByMail space guide works m next
    × IsBetween owners weight new next × (mail_expansions works ≡ used)
    × (mail_broken works ≡ 0) × Round m next

-- Work by mail leads from the shares at the start of a search to these, by exactly so many
-- expansions, none of them broken off. No letter is left, and all copies of the incumbent are the
-- same. The work was done in rounds: the list has how many rows each of them expanded.
pub record IsSearched (space : Space) (guide : Guide) (weight : Weight)
    (owners lot budget spent : ℕ) (at : ℕ → Owner) : Type 0 where
  pub store : Mailed
  pub works : List MailWork
  pub comes : ComesByMail space guide works (opening_mailed space guide weight) store
  pub between : IsBetween owners weight at store
  pub expansions : mail_expansions works ≡ spent
  pub none_broken : mail_broken works ≡ 0
  pub rounds : List ℕ
  pub in_rounds : RunsInRounds space guide owners lot budget rounds
      (opening_mailed space guide weight) store
  pub spent_is : total rounds ≡ spent
