-- An edit whose transaction is a tree.
use Rattle.std.specs.{Prelude.{◌≡◌, ℕ, List, [], Option, Some, None}, List.All}
use Rattle.svndiff0.specs.Applying.{HasRead}
use Rattle.svnpath.specs.{Components.IsRightPath, Paths.PathValue}
use Rattle.repo_api.specs.{RightEdits.IsRightEdit, States.{RepoState, tree_of, trees_in, TxnState}, Transactions.IsMarkedTxn}
use Rattle.repo_api.specs.{Trees.{HasDirectory, HasFile, IsTree, Tree}, declared.edit.EditOp.EditOp}
use Rattle.edit_rules.specs.{Tokens.Tokens, Editor.RestsOn, Edits.EditState, declared.opened.DeltaState.DeltaState}
use Rattle.edit_rules.specs.{declared.opened.DeltaState.TheVariants.{NotBegun, Reading, Ended}, declared.opened.Opened.Opened}
use Rattle.edit_rules.specs.declared.opened.Opened.TheVariants.{Directory, File}

-- what is being read of a text delta is what has come of a document
abbrev pub IsOfDocument : DeltaState → Type 0
IsOfDocument NotBegun = Unit {0}
IsOfDocument (Reading applier) = (document : List ℕ) × HasRead applier document
IsOfDocument Ended = Unit {0}

-- what is open stands there
abbrev pub StandsIn : Tree → Opened → Type 0
StandsIn t (Directory d) = HasDirectory t d.path
StandsIn t (File p delta) = HasFile t p × IsOfDocument delta

-- the transaction's tree is a tree, what is open stands in it, its marks name what they mark, and
-- the edit's path is a right one; without a transaction nothing is open
abbrev pub IsSoundIn : PathValue → Option TxnState → Tokens → Type 0
IsSoundIn path None tokens = tokens ≡ []
IsSoundIn path (Some t) tokens =
    IsTree (tree_of t.tree) × All (λ e. StandsIn (tree_of t.tree) e.1) tokens × IsMarkedTxn t
    × IsRightPath path

abbrev pub IsSoundEdit : EditState → Type 0
IsSoundEdit e = IsSoundIn e.path e.txn e.tokens

-- so it is of an edit that rests on this repository
abbrev pub IsSoundOn : EditState → RepoState → Type 0
IsSoundOn e c = RestsOn e c × IsSoundEdit e

-- there is a transaction, in which the edit may be made
abbrev pub IsRightIn : RepoState → Option TxnState → EditOp → Type 0
IsRightIn c None op = ⊥
IsRightIn c (Some t) op = IsRightEdit (trees_in c.revisions) (tree_of t.tree) op
