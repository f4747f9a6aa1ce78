-- What a client is told before the answer to its command, and where a change was not made.
use Rattle.std.specs.Prelude.{List, [], ◌∷◌, Option, Some, None}
use Rattle.svnpath.specs.Paths.{PathValue}
use Rattle.refusals.specs.declared.Refusal.TheVariants as refusals
use Rattle.repo_api.specs.declared.fault.ChangeFault.{ChangeFault}
use Rattle.repo_api.specs.declared.fault.ChangeFault.TheVariants as change_faults
use Rattle.wire_replies.specs.declared.reply.Reply.{Reply}
use Rattle.wire_replies.specs.declared.reply.Reply.TheVariants as replies
use Rattle.machine.specs.{Answers.{Answer, refuses, says, serves}, declared.env.Env.Env, declared.phase.Client.Client, declared.phase.Phase.TheVariants.Ended}
use Rattle.session_replies.specs.declared.preface.Preface.{Preface}
use Rattle.session_replies.specs.declared.preface.Preface.TheVariants as prefaces

-- what is told before
abbrev pub told_before : Preface → List Reply
told_before prefaces.Nothing = []
told_before prefaces.NoLogin = replies.NoLogin ∷ []
told_before prefaces.Success = replies.Success ∷ []

-- what is answered where a change of this path, if it is of one, was not made: it was refused, or the
-- store failed, and the next command is awaited; changes have come to a halt, and the session ends;
-- where memory was refused there is no answer
abbrev pub fault_answer : Env → Client → Option PathValue → ChangeFault → Option Answer
fault_answer env client path (change_faults.Refused r) = Some (refuses env client r path)
fault_answer env client path change_faults.StoreFailed =
    Some (serves env client (replies.Failure refusals.StoreFailed None))
fault_answer env client path change_faults.Halted =
    Some (says env Ended (replies.Failure refusals.StoreFailed None ∷ []))
fault_answer env client path change_faults.NoMemory = None
