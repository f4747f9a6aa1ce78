-- A lock and an unlock that are asked for, of a path of the repository.
use Rattle.std.specs.Prelude.{◌≡◌, ◌⊎◌, [], ◌∷◌, Result, Ok, Err, MatchResult}
use Rattle.svnpath.specs.{Paths.PathValue, declared.fault.PathFault.PathFault, declared.fault.PathFault.TheVariants.NoMemory}
use Rattle.repo_api.specs.{Accepted.Accepted.{Locks, Unlocks}, Locking.{lock_refusal, unlock_refusal}, declared.lock_ask.LockAsk.LockAsk}
use Rattle.repo_api.specs.declared.lock_ask.UnlockAsk.{UnlockAsk}
use Rattle.wire_replies.specs.declared.reply.Reply.TheVariants as replies
use Rattle.machine.specs.{Answers.{change_answer, ChangeStep, Step}, Commands.lock_answer, declared.env.Env.Env, declared.phase.Client.Client}

-- what is asked of the path that is found, or the fault of that path, unless memory ran out
abbrev pub AsksAt : {T : Type 0} → Result T PathFault → Result PathValue PathFault
    → (PathValue → T → Type 0) → Type 0
AsksAt r found Asks =
    MatchResult r (λ ask. (path : PathValue) × (found ≡ Ok path) × Asks path ask)
    (λ fault. (found ≡ Err fault) ⊎ (fault ≡ NoMemory))

abbrev pub LockAsked : Env → Client → LockAsk → Step
LockAsked env client ask halted c a =
    ChangeStep halted env client (lock_refusal c ask) (Locks ask) (lock_answer env client ask) a

abbrev pub UnlockAsked : Env → Client → UnlockAsk → Step
UnlockAsked env client ask halted c a =
    ChangeStep halted env client (unlock_refusal c ask) (Unlocks ask)
    (change_answer env client (Unlocks ask) (replies.Success ∷ [])) a
