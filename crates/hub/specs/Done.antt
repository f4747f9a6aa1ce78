-- What events do to the repository, and what their sessions have asked for.
use Rattle.std.specs.Prelude.{◌≡◌, Bool, true, false, List, [], ◌∷◌, ◌++◌, Some}
use Rattle.access.specs.{Changing.wants_release, Points.HasRisen}
use Rattle.repo_api.specs.{Accepted.{Accepted, AreAccepted, changed_all, IsAccepted}, Accepted.Accepted.Commits, Commits.committed}
use Rattle.repo_api.specs.{States.{RepoState, TxnState}, declared.ask.CommitAsk.CommitAsk}
use Rattle.wire_replies.specs.declared.reply.Reply.{Reply}
use Rattle.machine.specs.declared.env.Env.{Env}
use Rattle.hub.specs.{State.{HubState, HasTrees}, Runs.{Event, HubRun}, Runs.Event.{Connects, HandsIn, Hears, Leaves, Drops}, Asked.{IsAskedAt, AreAll}}
use Rattle.hub.specs.Laws.{IsTold, UsesWord, AllKeepSides}

-- the repository has gone on by these changes, each accepted in the state that those before it make
pub record GoesOnBy (old : RepoState) (changes : List Accepted) (new : RepoState) : Type 0 where
  pub accepted : AreAccepted old changes
  pub is : new ≡ changed_all old changes

-- the words that are left behind these changes: new ones where they were handed in
abbrev pub LeavesWords : Env → Event → List Accepted → Env → Type 0
LeavesWords env (Connects n) changes after = after ≡ env
LeavesWords env (HandsIn words) changes after = after ≡ words
LeavesWords env (Hears n input) changes after = UsesWord env changes after
LeavesWords env (Leaves n input) changes after = after ≡ env
LeavesWords env (Drops n) changes after = after ≡ env

-- what is told of the changes of an event; nothing is told of a commit whose session is gone before
-- the release that is wanted
abbrev pub Tells : RepoState → Bool → Event → List Accepted → List Reply → Type 0
Tells c failed (Connects n) changes told = IsTold c failed changes told
Tells c failed (HandsIn words) changes told = IsTold c failed changes told
Tells c failed (Hears n input) changes told = IsTold c failed changes told
Tells c failed (Leaves n input) changes told = (told ≡ []) × ((ask : CommitAsk) × (t : TxnState)
    × (changes ≡ Commits ask t ∷ []) × (wants_release ask (committed c ask t) ≡ true))
Tells c failed (Drops n) changes told = IsTold c failed changes told

-- where an event brings changes to a halt, the change that was being saved is known: its session
-- asked for it, and the rules accept it
abbrev pub NamesHalt : HubState → Env → Event → HubState → Type 0
NamesHalt old env event new =
    old.halted ≡ false → new.halted ≡ true
    → (e : Accepted) × (new.pending ≡ Some e) × IsAskedAt old env event e
    × IsAccepted new.content e

-- whether the store failed at an event: where it did, that is counted; where it did not, changes are at a
-- halt only if they were
abbrev pub HasFailed : HubState → Bool → HubState → Type 0
HasFailed old true new = HasRisen old.failures new.failures
HasFailed old false new = (new.failures ≡ old.failures) × (new.halted ≡ old.halted)

-- An event has done this: its session asked for each of the changes, by which the repository has
-- gone on, and which are told; and where every tree is a tree, a commit among them overwrites
-- nothing; and a halt names the change that was being saved.
pub record HasDone (old : HubState) (env : Env) (event : Event) (changes : List Accepted)
    (told : List Reply) (new : HubState) (after : Env) : Type 0 where
  pub own : AreAll (IsAskedAt old env event) changes
  pub on : GoesOnBy old.content changes new.content
  pub failed : Bool
  pub counted : HasFailed old failed new
  pub tells : Tells old.content failed event changes told
  pub words : LeavesWords env event changes after
  pub sides : HasTrees old → AllKeepSides old.content changes
  pub halt : NamesHalt old env event new

-- the events of a run have done so one after another, with these changes in a row
abbrev pub HaveDone : (old : HubState) (env : Env) (events : List Event) (told : List Reply)
    (new : HubState) (after : Env) → HubRun old env events told new after → List Accepted → Type 0
HaveDone old env [] told new after run changes = changes ≡ []
HaveDone old env (e ∷ es) told new after (first, mid, between, more, step, run, is_told) changes =
    (front : List Accepted) × HasDone old env e front first mid between
    × (back : List Accepted) × HaveDone mid between es more new after run back
    × (changes ≡ front ++ back)
