use Rattle.std.proofs.Common.{Option, subst}
use Rattle.svnpath.specs.Paths.{PathValue}
use Rattle.repo_api.specs.{Commits.IsConflictOf, RefusalLaws.{refused_by_lock, refused_in_conflict}}
use Rattle.flat_commits.specs.{Contents.flat_state, Whole.{state_of, txn_state_of}}
use Rattle.flatrepo.proofs.repository.refused_at.Goals as goal

pub returns-in-Some : goal.returns-in-Some
returns-in-Some c =
    let content = c.args.content.now in
    let t = txn_state_of c.args.txn.now in
    let at = subst (λ (o : Option PathValue). IsConflictOf (flat_state content) t o) c.in-Some.is c.in_ok-conflict.ensures in
    refused_in_conflict (state_of content c.args.locks.now) c.args.ask.now t c.in-Some.path at

pub returns-in-None : goal.returns-in-None
returns-in-None c =
    let content = c.args.content.now in
    let t = txn_state_of c.args.txn.now in
    let none = subst (λ (o : Option PathValue). IsConflictOf (flat_state content) t o) c.in-None.is c.in_ok-conflict.ensures in
    refused_by_lock (state_of content c.args.locks.now) c.args.ask.now t c.refusing_path.result none c.refusing_path.ensures
