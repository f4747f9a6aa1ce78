-- What is known of an open transaction.
use Rattle.repo_api.specs.{Trees.IsTree, Marks.IsTransactionOf, States.{IsBeginning, RepoState, TxnState, tree_of, trees_in}}

-- among the revisions that it was last shown: its base is one of them, and its marks name what they
-- mark
pub record IsMarkedTxn (t : TxnState) : Type 0 where
  pub base_tree : IsTree (trees_in t.shown t.base)
  pub is_of : IsTransactionOf (trees_in t.shown) (trees_in t.shown t.base) (tree_of t.tree)

-- a transaction may be committed here: it was last shown revisions that begin the repository's, its
-- tree is a tree, and its marks name what they mark
abbrev pub MayCommit : RepoState → TxnState → Type 0
MayCommit c t = IsBeginning t.shown c.revisions × IsTree (tree_of t.tree) × IsMarkedTxn t
