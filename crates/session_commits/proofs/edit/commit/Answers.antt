use Rattle.session_commits.proofs.Edits.{committed, not_committed}
use Rattle.session_commits.proofs.edit.commit.Goals as goal

pub returns-in-Ok-commit : goal.returns-in-Ok-commit
returns-in-Ok-commit g c =
    committed (record { dated = c.in-Ok.ensures.0; same = c.in-Ok.ensures.2 }) _ _ _ _ g.met.A.RepoAccess.counts
    _ _ c.in-Ok.ensures.1 _ c.in-Ok-commit.ensures.change c.tell_commit.result _ _ c.tell_commit.ensures

pub returns-in-Err-commit : goal.returns-in-Err-commit
returns-in-Err-commit g c =
    let refused = c.in-Err-commit.refused in
    let parts = c.into_parts-fault.ensures in
    let said = rw (parts.fault, parts.path) at c.tell_fault.ensures in
    not_committed (record { dated = c.in-Ok.ensures.0; same = c.in-Ok.ensures.2 }) _ _ _ _
    refused.fault refused.path c.in-Err-commit.ensures.change c.in-Err-commit.ensures.path c.tell_fault.result _ _ said
