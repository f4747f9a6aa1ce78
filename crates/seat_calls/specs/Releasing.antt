-- A commit, and the release after it.
use Rattle.std.specs.Prelude.{◌≡◌, ◌⊎◌, ℕ, true, false, List, [], ◌∷◌, length, Option, Some, None, Result, Ok, Err}
use Rattle.repo_api.specs.{Accepted.Accepted, Accepted.Accepted.{Commits, Releases}, Commits.commit_refusal, Locking.releases, States.TxnState}
use Rattle.repo_api.specs.{declared.ask.CommitAsk.CommitAsk, declared.fault.ChangeFault.ChangeFault}
use Rattle.repo_api.specs.declared.fault.ChangeFault.TheVariants as faults
use Rattle.access.specs.{Changing.{ChangesAt, IsFailure, IsHalt}, Points.{content_of, Point}, declared.access.Released.Released}
use Rattle.access.specs.{declared.access.Released.TheVariants.{Settled, NoMemory, StoreFailed}, declared.handed.Handed.Handed}
use Rattle.published.specs.Moments.{added}

-- a commit without its release, which answers the number of its revision
abbrev pub Revises : CommitAsk → TxnState → Point → Result ℕ ChangeFault → Point → Type 0
Revises ask t p =
    ChangesAt (commit_refusal (content_of p) ask t) (Commits ask t)
    (λ n q. (n ≡ length (content_of p).revisions) × (q ≡ added p (Commits ask t))) p

-- what a release leads to: it is made where there is one; or memory is refused for it; or the store
-- fails at it, and goes on or not
abbrev pub ReleasesTo : Handed → Point → Released → Point → Type 0
ReleasesTo handed p Settled q =
    ((releases handed.user handed.tokens (content_of p).locks ≡ true)
    × (q ≡ added p (Releases handed.user handed.tokens)))
    ⊎ ((releases handed.user handed.tokens (content_of p).locks ≡ false) × (q ≡ p))
ReleasesTo handed p NoMemory q =
    (releases handed.user handed.tokens (content_of p).locks ≡ true) × (q ≡ p)
ReleasesTo handed p StoreFailed q =
    (releases handed.user handed.tokens (content_of p).locks ≡ true)
    × (IsFailure p q ⊎ IsHalt (Releases handed.user handed.tokens) p q)

-- how the save of a release is told
abbrev pub released_as : Result (Unit {0}) ChangeFault → Released
released_as (Ok x) = Settled
released_as (Err (faults.Refused r)) = StoreFailed
released_as (Err faults.StoreFailed) = StoreFailed
released_as (Err faults.Halted) = StoreFailed
released_as (Err faults.NoMemory) = NoMemory

-- where nothing was kept, there is no release
abbrev pub ReleasesHanded : Option Handed → Point → Released → Point → Type 0
ReleasesHanded None p released q = (released ≡ Settled) × (q ≡ p)
ReleasesHanded (Some handed) p released q = ReleasesTo handed p released q

-- the release of what was handed in, if something was
abbrev pub releases_of : Option Handed → List Accepted
releases_of None = []
releases_of (Some handed) = Releases handed.user handed.tokens ∷ []
