-- Where a session stands.
use Rattle.std.specs.Prelude.{ℕ, Bool, true, false, List, Option, None}
use Rattle.repo_api.specs.{Soundness.AreSound, States.RepoState}
use Rattle.edit_rules.specs.{Editor.RestsOn, Edits.EditState, Soundness.IsSoundEdit}
use Rattle.reporter.specs.declared.graft.Graft.{Graft}
use Rattle.machine.specs.declared.phase.Phase.{Phase}
use Rattle.machine.specs.declared.phase.Phase.TheVariants.{Greeted, LoggingIn, Challenged, Serving, Editing, Skipping, Reporting, Driven, Ended}

-- a phase, with its edit or its report as the machine has it
abbrev pub Stage : Type 0
Stage = Phase EditState (List Graft)

-- whether the session hears what comes
abbrev pub is_open : {E G : Type 0} → Phase E G → Bool
is_open Greeted = true
is_open (LoggingIn login) = true
is_open (Challenged pending) = true
is_open (Serving client) = true
is_open (Editing edit) = true
is_open (Skipping client) = true
is_open (Reporting reporting) = true
is_open (Driven client) = true
is_open Ended = false

-- the user that the client has logged in as, if it has
abbrev pub user_in : {E G : Type 0} → Phase E G → Option (List ℕ)
user_in Greeted = None
user_in (LoggingIn login) = login.client.user
user_in (Challenged pending) = pending.login.client.user
user_in (Serving client) = client.user
user_in (Editing edit) = edit.client.user
user_in (Skipping client) = client.user
user_in (Reporting reporting) = reporting.client.user
user_in (Driven client) = client.user
user_in Ended = None

-- the edit of the session, if it has one, has seen revisions that begin the repository's
abbrev pub EditRests : Stage → RepoState → Type 0
EditRests Greeted c = Unit {0}
EditRests (LoggingIn login) c = Unit {0}
EditRests (Challenged pending) c = Unit {0}
EditRests (Serving client) c = Unit {0}
EditRests (Editing edit) c = RestsOn edit.editor c
EditRests (Skipping client) c = Unit {0}
EditRests (Reporting reporting) c = Unit {0}
EditRests (Driven client) c = Unit {0}
EditRests Ended c = Unit {0}

-- the edit of the session, if it has one, is sound
abbrev pub EditIsSound : Stage → Type 0
EditIsSound Greeted = Unit {0}
EditIsSound (LoggingIn login) = Unit {0}
EditIsSound (Challenged pending) = Unit {0}
EditIsSound (Serving client) = Unit {0}
EditIsSound (Editing edit) = IsSoundEdit edit.editor
EditIsSound (Skipping client) = Unit {0}
EditIsSound (Reporting reporting) = Unit {0}
EditIsSound (Driven client) = Unit {0}
EditIsSound Ended = Unit {0}

-- what a session stands on: the repository's trees are sound, and so is the session's edit, if it
-- has one, which has
-- seen revisions that begin the repository's
pub record StandsOn (phase : Stage) (c : RepoState) : Type 0 where
  pub trees : AreSound c.revisions
  pub rests : EditRests phase c
  pub sound : EditIsSound phase

-- a session: what has come of its next item, and where it stands
pub record SessionState : Type 0 where
  pub rest : List ℕ
  pub phase : Stage
