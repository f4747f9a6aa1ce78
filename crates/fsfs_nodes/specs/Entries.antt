-- The entries of a directory.
use Rattle.std.specs.Prelude.{ℕ, List, [], ◌∷◌, ◌++◌, map, Option, Some, None, Result, Ok, Err}
use Rattle.fsfs_text.specs.{declared.fault.FileFault.FileFault, declared.fault.FileFault.TheVariants.BadLine, Reading.◌>>=◌, Splits.split_once}
use Rattle.fsfs_text.specs.{declared.pair.DumpPair.DumpPair, DumpReading.dump_of, Ids.{id_text, id_of}, declared.id.FileId.FileId}
use Rattle.fsfs_nodes.specs.{Nodes.{kind_text, kind_of}, declared.entries.EntryKind.EntryKind, declared.entries.DirectoryEntry.DirectoryEntry}

-- `<kind> <id>`
abbrev pub entry_text : DirectoryEntry → List ℕ
entry_text entry = kind_text entry.kind ++ 32 ∷ id_text entry.id

-- its name, and what it is
abbrev pub entry_pair : DirectoryEntry → DumpPair
entry_pair entry = record { key = entry.name; value = entry_text entry }

abbrev pub entry_pairs : List DirectoryEntry → List DumpPair
entry_pairs entries = map entry_pair entries

abbrev pub both : {A B : Type 0} → Option A → Option B → Option (A × B)
both None second = None
both (Some x) None = None
both (Some x) (Some y) = Some (x, y)

abbrev pub kind_and_id_from : Option (List ℕ × List ℕ) → Option (EntryKind × FileId)
kind_and_id_from None = None
kind_and_id_from (Some p) = both (kind_of p.0) (id_of p.1)

-- the kind and the id that a text spells
unfoldable pub kind_and_id : List ℕ → Option (EntryKind × FileId)
kind_and_id text = kind_and_id_from (split_once 32 text)

-- an entry in front of others
abbrev pub before : DirectoryEntry → Result (List DirectoryEntry) FileFault
    → Result (List DirectoryEntry) FileFault
before entry (Ok entries) = Ok (entry ∷ entries)
before entry (Err f) = Err f

abbrev pub with_others : List ℕ → Option (EntryKind × FileId)
    → Result (List DirectoryEntry) FileFault → Result (List DirectoryEntry) FileFault
with_others name None others = Err BadLine
with_others name (Some p) others = before (record { name = name; kind = p.0; id = p.1 }) others

abbrev pub entries_in : List DumpPair → Result (List DirectoryEntry) FileFault
entries_in [] = Ok []
entries_in (pair ∷ pairs) = with_others pair.key (kind_and_id pair.value) (entries_in pairs)

-- the entries that the contents of a directory say
unfoldable pub entries_of : List ℕ → Result (List DirectoryEntry) FileFault
entries_of bytes = dump_of bytes >>= λ pairs. entries_in pairs
