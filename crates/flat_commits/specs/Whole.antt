-- What is held and a transaction, as states of a repository.
use Rattle.repo_api.specs.States.{LockMap, RepoState, TxnState}
use Rattle.flat_commits.specs.{Contents.flat_state, declared.flat_content.FlatContent.FlatContent, Open.txn_of, declared.flat_txn.FlatTxn.FlatTxn}

abbrev pub with_locks : RepoState → LockMap → RepoState
with_locks c locks = record c { locks = locks }

-- what is held, with these locks
abbrev pub state_of : FlatContent → LockMap → RepoState
state_of c locks = with_locks (flat_state c) locks

abbrev pub txn_state_of : FlatTxn → TxnState
txn_state_of t = txn_of t.shown.value t.base t.tree t.changes
