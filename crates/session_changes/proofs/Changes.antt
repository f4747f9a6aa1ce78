-- The steps of a lock and of an unlock.
use Rattle.std.proofs.Common.{◌≡◌, Bool, refl, sym, subst, inl, inr}
use Rattle.std.specs.Prelude.{◌⊎◌, None, Result, Ok, Err}
use Rattle.dates.specs.Dates.{IsDateText}
use Rattle.svnpath.specs.{Paths.PathValue, declared.fault.PathFault.PathFault, declared.fault.PathFault.TheVariants.NoMemory}
use Rattle.refusals.specs.Refusing.{path_refusal}
use Rattle.commands.specs.{declared.command.LockCommand.LockCommand, declared.command.UnlockCommand.UnlockCommand}
use Rattle.repo_api.specs.{States.RepoState, declared.lock_ask.LockAsk.LockAsk, declared.lock_ask.UnlockAsk.UnlockAsk}
use Rattle.wire_replies.specs.declared.reply.Reply.TheVariants as replies
use Rattle.access.specs.Points.{content_of, Point}
use Rattle.machine.specs.{Answers.{Answer, serves}, Commands.{lock_ask, LockingStep, unlock_ask, UnlockStep}, declared.env.Env.Env}
use Rattle.machine.specs.declared.phase.Client.{Client}
use Rattle.session_changes.specs.Asked.{LockAsked, UnlockAsked}

-- ---- a lock and an unlock

module _ (env : Env) (client : Client) where
  pub lock_is : (command : LockCommand) (ask : LockAsk) (found : Result PathValue PathFault) (path : PathValue) → found ≡ Ok path
      → IsDateText env.moment ask.date → ask ≡ lock_ask env client command path ask.date → (at : Point) (a : Answer)
      → LockAsked env client ask at.halted (content_of at) a → LockingStep env client command found at.halted (content_of at) a
  lock_is command ask found path is_path dated same at a asked =
      let now = subst (λ (x : LockAsk). LockAsked env client x at.halted (content_of at) a) same asked in
      subst (λ (f : Result PathValue PathFault). LockingStep env client command f at.halted (content_of at) a) (sym is_path) (ask.date, dated, now)

  pub unlock_is : (command : UnlockCommand) (ask : UnlockAsk) (found : Result PathValue PathFault) (path : PathValue) → found ≡ Ok path
      → ask ≡ unlock_ask client command path → (at : Point) (a : Answer)
      → UnlockAsked env client ask at.halted (content_of at) a → UnlockStep env client command found at.halted (content_of at) a
  unlock_is command ask found path is_path same at a asked =
      let now = subst (λ (x : UnlockAsk). UnlockAsked env client x at.halted (content_of at) a) same asked in
      subst (λ (f : Result PathValue PathFault). UnlockStep env client command f at.halted (content_of at) a) (sym is_path) now

  -- a path that is none
  pub lock_refused : (command : LockCommand) (found : Result PathValue PathFault) (fault : PathFault) → found ≡ Err fault → (halts : Bool) (c : RepoState)
      → LockingStep env client command found halts c (serves env client (replies.Failure (path_refusal fault) None))
  lock_refused command found fault is halts c =
      let said = serves env client (replies.Failure (path_refusal fault) None) in
      subst (λ (f : Result PathValue PathFault). LockingStep env client command f halts c said) (sym is) refl

  pub unlock_refused : (command : UnlockCommand) (found : Result PathValue PathFault) (fault : PathFault) → found ≡ Err fault → (halts : Bool) (c : RepoState)
      → UnlockStep env client command found halts c (serves env client (replies.Failure (path_refusal fault) None))
  unlock_refused command found fault is halts c =
      let said = serves env client (replies.Failure (path_refusal fault) None) in
      subst (λ (f : Result PathValue PathFault). UnlockStep env client command f halts c said) (sym is) refl

-- what is known of a fault that is not want of memory
pub fault_is : {T : Type 0} (found : Result T PathFault) (fault : PathFault) → (found ≡ Err fault) ⊎ (fault ≡ NoMemory)
    → (fault ≡ NoMemory → ⊥) → found ≡ Err fault
fault_is found fault (inl is) other = is
fault_is found fault (inr is) other = absurd (other is)
