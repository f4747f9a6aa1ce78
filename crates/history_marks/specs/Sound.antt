-- What a representation keeps of a repository and of its open transactions.
use Rattle.std.specs.Prelude.{◌<◌, length}
use Rattle.repo_api.specs.{Accepted.Accepted, Accepted.Accepted.{ChangesProperty, Commits, Locks, Releases, Unlocks}, Histories.history_of, Soundness.AreSound}
use Rattle.repo_api.specs.{States.{IsBeginning, RepoState, tree_of, trees_in, TxnState}, Transactions.IsMarkedTxn, Trees.IsTree}
use Rattle.history_marks.specs.{Quiet.IsMarkedBy, Transactions.IsToldTxn}

-- the marks of a repository's trees tell of its lists of changes
abbrev pub IsMarkedRepo : RepoState → Type 0
IsMarkedRepo c = IsMarkedBy (trees_in c.revisions) (history_of c)

-- there is a revision, the trees are sound, and their marks tell of the lists of changes
pub record IsSoundRepo (c : RepoState) : Type 0 where
  pub begun : 0 < length c.revisions
  pub revisions : AreSound c.revisions
  pub marked : IsMarkedRepo c

-- the transaction's tree is a tree, and its marks name what they mark and tell of its changes
pub record IsSoundTxn (t : TxnState) : Type 0 where
  pub tree : IsTree (tree_of t.tree)
  pub marked : IsMarkedTxn t
  pub told : IsToldTxn t

-- a commit is of a sound transaction, which was last shown revisions that begin the repository's
abbrev pub IsSoundChange : RepoState → Accepted → Type 0
IsSoundChange c (Commits ask t) = IsBeginning t.shown c.revisions × IsSoundTxn t
IsSoundChange c (Locks ask) = Unit {0}
IsSoundChange c (Unlocks ask) = Unit {0}
IsSoundChange c (Releases user tokens) = Unit {0}
IsSoundChange c (ChangesProperty ask) = Unit {0}
