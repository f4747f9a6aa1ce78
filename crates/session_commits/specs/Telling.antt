-- What a client is told of its commit.
use Rattle.std.specs.Prelude.{ℕ, Bool, true, false, List, [], ◌∷◌, Option, Some, None, if◌then◌else◌}
use Rattle.wire_replies.specs.declared.reply.Reply.TheVariants as replies
use Rattle.access.specs.{declared.access.Released.Released, declared.access.Released.TheVariants.{Settled, NoMemory, StoreFailed}}
use Rattle.machine.specs.{Answers.{Answer, says}, declared.env.Env.Env, declared.phase.Client.Client, declared.phase.Phase.TheVariants.{Serving, Ended}}

-- the commit is told, and whether the store failed at its release: then the session ends, and if not
-- the next command is awaited
abbrev pub tells_made : Env → Client → ℕ → List ℕ → Option (List ℕ) → Bool → Answer
tells_made env client revision date author fails =
    says env (if fails then Ended else Serving client)
    (replies.Success ∷ replies.NoLogin ∷ replies.CommitInfo revision date author fails ∷ [])

-- what is answered, by what became of the locks: where memory was refused for their release there is
-- no answer
abbrev pub commit_answer : Env → Client → List ℕ → Option (List ℕ) → ℕ → Released → Option Answer
commit_answer env client date author revision Settled =
    Some (tells_made env client revision date author false)
commit_answer env client date author revision StoreFailed =
    Some (tells_made env client revision date author true)
commit_answer env client date author revision NoMemory = None
