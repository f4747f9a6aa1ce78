-- The steps of an edit in the entries of a tree.
use Rattle.std.specs.Prelude.{ℕ, List, length, drop, option_map, Option, None, if◌then◌else◌}
use Rattle.svnpath.specs.Paths.{is_at_or_under, PathValue, same_path}
use Rattle.repo_api.specs.{Edits.{copy_of, with_open_mark}, Properties.PropertyList, RevisionProperties.property_changed, Trees.Tree}
use Rattle.repo_api.specs.declared.entry.Entry.{Entry}

-- the entry at q once the one at p has a part changed
abbrev pub part_at : PathValue → (Entry → Entry) → PathValue → Option Entry → Option Entry
part_at p f q o = if same_path p q then option_map (λ e. with_open_mark (f e)) o else o

abbrev pub with_properties : PropertyList → Entry → Entry
with_properties properties e = record e { properties = properties }

abbrev pub with_change : List ℕ → Option (List ℕ) → Entry → Entry
with_change name value e = record e { properties = property_changed name value e.properties }

-- what a copy from `from` of the source to `to` puts at q
abbrev pub landed : Tree → PathValue → PathValue → Tree
landed source from to q =
    if is_at_or_under q to then copy_of source from (drop (length to) q) else None
