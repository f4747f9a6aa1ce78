-- An edit, and what stands in its transaction.
use Rattle.std.specs.Prelude.{ℕ, Bool, false, List, [], Option, Some, None}
use Rattle.svnpath.specs.Paths.{PathValue}
use Rattle.repo_api.specs.{Kinds.{created_in, kind_in, text_in}, States.TxnState, declared.entry.NodeKind.NodeKind}
use Rattle.repo_api.specs.declared.entry.NodeKind.TheVariants as kinds
use Rattle.edit_rules.specs.{Tokens.{Tokens, opened_under}, declared.opened.Opened.Opened}

-- an edit: the path of its root, the repository's name, whether its client is one of today, its
-- transaction once the root is open, what is open, and whether a command was refused
pub record EditState : Type 0 where
  pub path : PathValue
  pub name : List ℕ
  pub is_of_today : Bool
  pub txn : Option TxnState
  pub tokens : Tokens
  pub refused : Bool

-- an edit that has heard nothing
abbrev pub new_edit : PathValue → List ℕ → Bool → EditState
new_edit path name is_of_today = record {
  path = path;
  name = name;
  is_of_today = is_of_today;
  txn = None;
  tokens = [];
  refused = false;
}

-- what stands at a path of the transaction, nothing where there is none
abbrev pub standing : Option TxnState → PathValue → NodeKind
standing None p = kinds.Absent
standing (Some t) p = kind_in t p

-- the revision that last changed what stands at a path, at or under it, unless the transaction has
abbrev pub created : Option TxnState → PathValue → Option ℕ
created None p = None
created (Some t) p = created_in t p

-- the revision that the transaction began from
abbrev pub base_in : Option TxnState → Option ℕ
base_in None = None
base_in (Some t) = Some t.base

abbrev pub or_nothing : Option (List ℕ) → List ℕ
or_nothing None = []
or_nothing (Some text) = text

abbrev pub txn_text_at : Option TxnState → PathValue → List ℕ
txn_text_at None p = []
txn_text_at (Some t) p = or_nothing (text_in t p)

-- the text of the file at a path
abbrev pub file_text : EditState → PathValue → List ℕ
file_text e p = txn_text_at e.txn p

-- what is open under a token, nothing before the root is
abbrev pub open_in : Option TxnState → Tokens → List ℕ → Option Opened
open_in None tokens token = None
open_in (Some t) tokens token = opened_under tokens token
