-- The edits of a tree. Each opens `own` and `last` at its path, and `last` above it.
use Rattle.std.specs.Prelude.{ℕ, List, [], ◌∷◌, ◌++◌, Some, None, option_map, if◌then◌else◌, length, drop}
use Rattle.svnpath.specs.Paths.{is_at_or_under, PathValue, same_path}
use Rattle.repo_api.specs.{Properties.{with_property, without_property}, Trees.Tree, declared.entry.Entry.Entry, declared.entry.Mark.TheVariants.Open}
use Rattle.repo_api.specs.{declared.entry.Content.Content, declared.entry.Content.TheVariants.{Directory, File}, declared.edit.EditOp.EditOp}
use Rattle.repo_api.specs.declared.edit.EditOp.TheVariants.{AddDirectory, AddFile, Copy, Replace, Delete, SetProperty, RemoveProperty, SetText}

-- the entry after a change beneath it, and after one of its own
abbrev pub touched : Entry → Entry
touched e = record e { last = Open }

abbrev pub with_open_mark : Entry → Entry
with_open_mark e = record e { own = Open; last = Open }

abbrev pub new_entry : Content → Entry
new_entry content = record { content = content; properties = []; own = Open; last = Open }

-- `last` open at p and above it
abbrev pub touched_above : PathValue → Tree → Tree
touched_above p t q = if is_at_or_under p q then option_map touched (t q) else t q

-- a new entry at p
abbrev pub added : Tree → PathValue → Content → Tree
added t p content q = if same_path p q then Some (new_entry content) else touched_above p t q

-- the entry at p changed by f
abbrev pub revised : Tree → PathValue → (Entry → Entry) → Tree
revised t p f q =
    if same_path p q then option_map (λ e. with_open_mark (f e)) (t q) else touched_above p t q

abbrev pub with_value : List ℕ → List ℕ → Entry → Entry
with_value name value e = record e { properties = with_property e.properties name value }

abbrev pub without_value : List ℕ → Entry → Entry
without_value name e = record e { properties = without_property e.properties name }

abbrev pub with_text : List ℕ → Entry → Entry
with_text text e = record e { content = File text }

-- at p and under it the tree `part`, whose paths begin at p
abbrev pub grafted : Tree → PathValue → Tree → Tree
grafted t p part q = if is_at_or_under q p then part (drop (length p) q) else touched_above p t q

-- nothing at p and under it
abbrev pub deleted : Tree → PathValue → Tree
deleted t p = grafted t p (λ _. None)

-- what stands at `from` and under it, its top with_open_mark by the copy and all else as it was
abbrev pub copy_of : Tree → PathValue → Tree
copy_of source from [] = option_map with_open_mark (source from)
copy_of source from (c ∷ rest) = source (from ++ c ∷ rest)

abbrev pub copied : Tree → PathValue → Tree → PathValue → Tree
copied source from t p = grafted t p (copy_of source from)

-- the tree after an edit, over the trees of the revisions
abbrev pub edited : (ℕ → Tree) → Tree → EditOp → Tree
edited trees t (AddDirectory p) = added t p Directory
edited trees t (AddFile p) = added t p (File [])
edited trees t (Copy source p) = copied (trees source.revision) source.path t p
edited trees t (Replace source p) = copied (trees source.revision) source.path (deleted t p) p
edited trees t (Delete p) = deleted t p
edited trees t (SetProperty p name value) = revised t p (with_value name value)
edited trees t (RemoveProperty p name) = revised t p (without_value name)
edited trees t (SetText p text) = revised t p (with_text text)

-- a new transaction: the youngest tree, the root's `last` open
abbrev pub begun : Tree → Tree
begun t = touched_above [] t
