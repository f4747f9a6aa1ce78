-- Which changes of a repository that others change too are a session's own: those that its inputs ask for.
use Rattle.std.specs.Prelude.{◌≡◌, ◌⊎◌, Bool, List, [], ◌∷◌, ◌++◌, Option, Some, None}
use Rattle.repo_api.specs.{Accepted.Accepted, States.RepoState}
use Rattle.machine.specs.{Answers.Answer, Hearing.Input, Machine.{InputStep, UnreleasedStep}, Settings.Settings, Stages.Stage, declared.env.Env.Env}
use Rattle.machine.specs.declared.phase.Phase.TheVariants.{Greeted}
use Rattle.hub.specs.Asked.{AreAll, IsAsked}
use Rattle.conversations.specs.Pieces.{Piece}
use Rattle.session_pool.specs.Terms.{AreTerms}

-- From one list of changes to another by a session's inputs: each input is answered as the machine answers it, and asks for
-- those that come with it.
abbrev pub OwnChanges : Settings → Env → Stage → List Input → List Accepted → List Accepted → Env
    → Stage → Type 0
OwnChanges s env phase [] before after env' phase' =
    (after ≡ before) × (env' ≡ env) × (phase' ≡ phase)
OwnChanges s env phase (input ∷ inputs) before after env' phase' =
    (halted : Bool) × (c : RepoState) × (a : Answer) × InputStep s env phase input halted c a
    × AreAll (IsAsked s env phase input) a.effect.changes
    × OwnChanges s a.env a.phase inputs (before ++ a.effect.changes) after env' phase'

-- so it is of the last input of a session that is gone before the release behind its commit, if there is one
abbrev pub OwnLast : Settings → Env → Stage → Option Input → List Accepted → List Accepted → Type 0
OwnLast s env phase None before after = after ≡ before
OwnLast s env phase (Some input) before after =
    (halted : Bool) × (c : RepoState) × (a : Answer) × UnreleasedStep env phase input halted c a
    × AreAll (IsAsked s env phase input) a.effect.changes × (after ≡ before ++ a.effect.changes)

-- so it is of the inputs of pieces of a stream
abbrev pub OwnPieces : Settings → Stage → List Piece → List Accepted → List Accepted → Stage
    → Type 0
OwnPieces s phase [] before after phase' = (after ≡ before) × (phase' ≡ phase)
OwnPieces s phase (piece ∷ pieces) before after phase' =
    (mid : List Accepted) × (env : Env) × (stage : Stage)
    × OwnChanges s piece.env phase piece.inputs before mid env stage
    × OwnPieces s stage pieces mid after phase'

-- so it is of these inputs of one piece more, at which a session broke off, and of this one, which it left
pub record OwnOfBroken (s : Settings) (env : Env) (inputs : List Input) (left : Option Input)
    (phase : Stage) (before after : List Accepted) : Type 0 where
  pub mid : List Accepted
  pub env_after : Env
  pub phase_after : Stage
  pub heard : OwnChanges s env phase inputs before mid env_after phase_after
  pub last : OwnLast s env_after phase_after left mid after

-- from the greeting of one session to its end
pub record OwnOfSession (s : Settings) (before after : List Accepted) : Type 0 where
  pub pieces : List Piece
  pub mid : List Accepted
  pub phase : Stage
  pub heard : OwnPieces s Greeted pieces before mid phase
  pub rest : (after ≡ mid)
      ⊎ ((env : Env) × (inputs : List Input) × (left : Option Input)
      × OwnOfBroken s env inputs left phase mid after)

-- through sessions, one after another, each by terms of the start: so it was after each
abbrev pub OwnInTurn : Settings → List Accepted → List (List Accepted) → List Accepted → Type 0
OwnInTurn s before [] after = after ≡ before
OwnInTurn s before (mid ∷ later) after =
    ((here : Settings) × AreTerms s here × OwnOfSession here before mid) × OwnInTurn s mid later after
