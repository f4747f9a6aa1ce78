use Rattle.std.proofs.Common.{[], inl, refl}
use Rattle.session_replies.proofs.Steps.{behind_answered, stepped, told_all}
use Rattle.session_edits.proofs.Edits.{goes_on, ends}
use Rattle.session_edits.proofs.applying.apply_command.Goals as goal

pub returns-in-Ok : goal.returns-in-Ok
returns-in-Ok g c =
    let applied = c.in-Ok.ensures.applied.1 in
    told_all (goes_on _ _ c.args.edit c.args.command.now _ _ c.apply_now.ensures.applied.0 (g.S.Texts.is_honest _) _ applied.0 applied.1) _ _ _
    (record { phase_after = refl; env_after = refl; written = g.met.S.ReplySink.silent _ _ c.apply_now.ensures.reads })

pub returns-in-Err-Refused : goal.returns-in-Err-Refused
returns-in-Err-Refused g c =
    let refused = rw c.in-Err-Refused.field-0-is at c.in-Err-Refused.ensures.applied.1 in
    let told = behind_answered g.S.ReplySink.writes g.met.S.ReplySink.more c.give_up.result [] _ _ _ _ _
    (g.met.S.ReplySink.silent _ _ c.apply_now.ensures.reads) c.give_up.ensures in
    stepped (ends _ _ c.args.edit c.args.command.now _ _ c.apply_now.ensures.applied.0 (g.S.Texts.is_honest _) _ _ refused.0 refused.1) _ c.give_up.result _ told

pub returns-in-Err-NoMemory : goal.returns-in-Err-NoMemory
returns-in-Err-NoMemory g c = inl (c.apply_now.ensures.applied.0, g.met.S.ReplySink.silent _ _ c.apply_now.ensures.reads)
