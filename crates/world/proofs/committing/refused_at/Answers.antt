use Rattle.std.proofs.Common.{Option, subst}
use Rattle.svnpath.specs.Paths.{PathValue}
use Rattle.repo_api.specs.RefusalLaws.{refused_by_lock, refused_in_conflict}
use Rattle.shared_revisions.specs.Contents.{state_of}
use Rattle.world.specs.{Committing.IsConflictFor, Whole.txn_state_of}
use Rattle.world.proofs.committing.refused_at.Goals as goal

pub returns-in-Some : goal.returns-in-Some
returns-in-Some c =
    let held = c.args.held.now in
    let txn = c.args.txn.now in
    let at = subst (λ (o : Option PathValue). IsConflictFor held txn o) c.in-Some.is c.in_ok-conflict.ensures in
    refused_in_conflict (state_of held c.args.locks.now) c.args.ask.now (txn_state_of txn) c.in-Some.path at

pub returns-in-None : goal.returns-in-None
returns-in-None c =
    let held = c.args.held.now in
    let txn = c.args.txn.now in
    let none = subst (λ (o : Option PathValue). IsConflictFor held txn o) c.in-None.is c.in_ok-conflict.ensures in
    refused_by_lock (state_of held c.args.locks.now) c.args.ask.now (txn_state_of txn) c.refusing_path.result none c.refusing_path.ensures
