-- A transaction by its parts.
use Rattle.std.specs.Prelude.{ℕ}
use Rattle.repo_api.specs.States.{ChangeMap, TreeMap, TxnState}
use Rattle.flat_commits.specs.{Contents.revisions_of, declared.flat_content.FlatContent.FlatContent}

-- with this base, tree and changes, and what it was last shown
abbrev pub txn_of : FlatContent → ℕ → TreeMap → ChangeMap → TxnState
txn_of shown base tree changes =
    record { shown = revisions_of shown; base = base; tree = tree; changes = changes }
