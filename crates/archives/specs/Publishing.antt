-- What is at hand before a save: all that is needed after it, whether it succeeds or fails.
use Rattle.std.specs.Prelude.{◌≡◌, ℕ}
use Rattle.repo_api.specs.States.{RepoState}
use Rattle.published.specs.declared.event.AskedChange.{AskedChange}
use Rattle.archives.specs.declared.publisher.Ready.{Ready}

-- two copies each of the next repository and of the present one, what was asked, and the turn to add an
-- event behind so many
pub record AreAtHand {R J T : Type 0} (content : R → RepoState) (next present : RepoState)
    (asked : AskedChange T) (events : ℕ) (ready : Ready R J T) : Type 0 where
  pub next_first : content ready.next.0 ≡ next
  pub next_second : content ready.next.1 ≡ next
  pub present_first : content ready.present.0 ≡ present
  pub present_second : content ready.present.1 ≡ present
  pub asked_is : ready.asked ≡ asked
  pub turn : ready.turn ≡ events

-- both copies contain this
abbrev pub BothContain : {R : Type 0} → (R → RepoState) → RepoState → R × R → Type 0
BothContain content c copies = (content copies.0 ≡ c) × (content copies.1 ≡ c)
