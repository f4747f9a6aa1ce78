-- What keeps the files of a repository, and what a save leaves.
use Rattle.std.specs.Prelude.{◌≡◌, ◌⊎◌, Bool, true, false, List, [], ◌∷◌, Option, Some, Result, Ok, Err, IfOk}
use Rattle.repo_api.specs.{Accepted.{Accepted, changed, IsAccepted, IsJudged, refusal_of}, States.RepoState, declared.fault.ChangeFault.ChangeFault}
use Rattle.access.specs.{Points.HasRisen, Beginnings.through}
use Rattle.published.specs.{Changes.IsRight, Events.{Event, state_of, told_in}, Files.Kept}
use Rattle.archives.specs.{declared.archive.SaveFault.SaveFault, declared.archive.SaveFault.TheVariants.{Device, NoMemory, Halted}}

-- the rules accept the change, and this is what it makes
pub record IsMade (c : RepoState) (e : Accepted) (d : RepoState) : Type 0 where
  pub accepted : IsAccepted c e
  pub made : d ≡ changed c e

-- a right change, and what it makes
pub record IsNext (c : RepoState) (e : Accepted) (d : RepoState) : Type 0 where
  pub right : IsRight c e
  pub made : d ≡ changed c e

-- what the save of a change leaves. The device may fail before anything was changed; or so that
-- nobody knows whether the files are the old ones or the new
abbrev pub SaveLeaves : Accepted → Kept → Result (Unit {0}) SaveFault → Kept → Type 0
SaveLeaves e old (Ok _) new =
    (new.content ≡ changed old.content e) × (new.halted ≡ old.halted)
    × (new.failures ≡ old.failures)
SaveLeaves e old (Err Device) new =
    (new.content ≡ old.content) × (new.halted ≡ old.halted)
    × HasRisen old.failures new.failures
SaveLeaves e old (Err NoMemory) new = new ≡ old
SaveLeaves e old (Err Halted) new =
    ((new.content ≡ old.content) ⊎ (new.content ≡ changed old.content e)) × (new.halted ≡ true)
    × HasRisen old.failures new.failures

module _ {S U : Type 0} (kept : S → Kept) (writes : S → U → Accepted → Type 0) where
  -- an archive prepares a change that is asked of it: the rules judge it, and where they accept it,
  -- the next repository is what it makes, and what is to be written is what it makes of the files
  abbrev pub Prepares : {R : Type 0} → (R → RepoState) → Accepted → S → Result (R × U) ChangeFault
      → Type 0
  Prepares content e archive result =
      IsJudged result (refusal_of (kept archive).content e)
      × IfOk result (λ made. IsMade (kept archive).content e (content made.0)
      × writes archive made.1 e)

  -- changes are saved, and what is to be written is what some change makes of the files
  abbrev pub MaySave : S → U → Type 0
  MaySave archive unsaved =
      ((kept archive).halted ≡ false) × ((e : Accepted) × writes archive unsaved e)

module _ {S : Type 0} (stands : S → List RepoState → Type 0) where
  -- The files stand for the repository after the events. After a halt the change is known that was being
  -- saved: they stand for the repository before it, or behind it.
  abbrev pub FilesFor : S → Bool → Option Accepted → List Event → Type 0
  FilesFor archive false pending log = stands archive (state_of log ∷ [])
  FilesFor archive true pending log =
      (e : Accepted) × (pending ≡ Some e) × IsAccepted (state_of log) e
      × stands archive (through (state_of log) (e ∷ []))

  abbrev pub FilesStand : S → List Event → Type 0
  FilesStand archive log = FilesFor archive (told_in log).halted (told_in log).pending log
