-- The repository that is new.
use Rattle.std.specs.{Prelude.{ℕ, List, [], ◌∷◌, codes}, FinMap.{from_entries, empty}}
use Rattle.repo_api.specs.{States.{TreeMap, RepoState}, declared.entry.Entry.Entry, declared.entry.Mark.TheVariants.Made}
use Rattle.repo_api.specs.declared.entry.Content.TheVariants.{Directory}

-- the root of revision 0
abbrev pub opening_root : Entry
opening_root = record { content = Directory; properties = []; own = Made 0 []; last = Made 0 [] }

abbrev pub opening_tree : TreeMap
opening_tree = from_entries (([], opening_root) ∷ [])

-- an empty repository: revision 0 with its date, and no locks
abbrev pub new_repository : ℕ → List ℕ → RepoState
new_repository uuid date = record {
  uuid = uuid;
  revisions = record { tree = opening_tree; changes = empty } ∷ [];
  properties = ((codes "svn:date", date) ∷ []) ∷ [];
  locks = empty;
}
