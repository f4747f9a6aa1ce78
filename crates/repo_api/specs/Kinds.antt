-- What stands at a path, seen from outside.
use Rattle.std.specs.{Prelude.{ℕ, Bool, true, false, ◌+◌, ◌&&◌, nat_lt, length, List, [], Option, Some, None, slice_get}, FinMap.{get, keys}, List.list_any}
use Rattle.svnpath.specs.Paths.{is_at_or_under, PathValue}
use Rattle.repo_api.specs.{Properties.PropertyList, States.{TreeMap, RepoState, TxnState, tree_at}, Trees.revision_of, declared.entry.Content.Content}
use Rattle.repo_api.specs.{declared.entry.Content.TheVariants.{Directory, File}, declared.entry.Entry.Entry, declared.entry.NodeKind.NodeKind}
pub use Rattle.repo_api.specs.Trees.{content_text, text_of}
use Rattle.repo_api.specs.declared.entry.NodeKind.TheVariants as kinds

abbrev pub content_kind : Content → NodeKind
content_kind Directory = kinds.Directory
content_kind (File text) = kinds.File

abbrev pub kind_of : Option Entry → NodeKind
kind_of None = kinds.Absent
kind_of (Some e) = content_kind e.content

abbrev pub is_present : NodeKind → Bool
is_present kinds.Absent = false
is_present kinds.File = true
is_present kinds.Directory = true

abbrev pub is_file_kind : NodeKind → Bool
is_file_kind kinds.Absent = false
is_file_kind kinds.File = true
is_file_kind kinds.Directory = false

abbrev pub is_directory_kind : NodeKind → Bool
is_directory_kind kinds.Absent = false
is_directory_kind kinds.File = false
is_directory_kind kinds.Directory = true

-- what stands at a path of a revision
abbrev pub kind_at : RepoState → ℕ → PathValue → NodeKind
kind_at c n p = kind_of (get (tree_at c n) p)

-- something stands more than so many names beneath the path
abbrev pub has_deeper : TreeMap → PathValue → ℕ → Bool
has_deeper m p names =
    list_any (λ q. is_at_or_under q p && nat_lt (length p + names) (length q)) (keys m)

abbrev pub has_deeper_at : RepoState → ℕ → PathValue → ℕ → Bool
has_deeper_at c n p names = has_deeper (tree_at c n) p names

-- what stands at a path of a transaction
abbrev pub kind_in : TxnState → PathValue → NodeKind
kind_in t p = kind_of (get t.tree p)

abbrev pub created_of : Option Entry → Option ℕ
created_of None = None
created_of (Some e) = revision_of e.last

-- the revision that last changed what stands at a path of a revision, at or under it
abbrev pub created_at : RepoState → ℕ → PathValue → Option ℕ
created_at c n p = created_of (get (tree_at c n) p)

-- the revision that last changed what stands at a path of a transaction, none where the transaction
-- has
abbrev pub created_in : TxnState → PathValue → Option ℕ
created_in t p = created_of (get t.tree p)

-- the text of the file at a path of a revision
abbrev pub text_at : RepoState → ℕ → PathValue → Option (List ℕ)
text_at c n p = text_of (get (tree_at c n) p)

-- the text of the file at a path of a transaction
abbrev pub text_in : TxnState → PathValue → Option (List ℕ)
text_in t p = text_of (get t.tree p)

abbrev pub node_properties : Option Entry → Option PropertyList
node_properties None = None
node_properties (Some e) = Some e.properties

-- the properties of what stands at a path of a revision
abbrev pub node_properties_at : RepoState → ℕ → PathValue → Option PropertyList
node_properties_at c n p = node_properties (get (tree_at c n) p)

abbrev pub or_empty : Option PropertyList → PropertyList
or_empty None = []
or_empty (Some ps) = ps

-- the properties of a revision
abbrev pub properties_at : RepoState → ℕ → PropertyList
properties_at c n = or_empty (slice_get c.properties n)
