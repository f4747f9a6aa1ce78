-- The entries of a directory, known with the text that says them.
use Rattle.std.specs.{Prelude.{◌≡◌, ℕ, zero, ◌+◌, List, [], ◌∷◌, ◌++◌, Ok, length, map, codes}, List.flat_map}
use Rattle.fsfs_text.specs.Dumps.{pair_bytes}
use Rattle.fsfs_nodes.specs.{Entries.{entries_in, entry_pair, entry_pairs}, declared.entries.DirectoryEntry.DirectoryEntry}

-- the bytes of an entry in the text of a directory
abbrev pub entry_bytes : DirectoryEntry → List ℕ
entry_bytes entry = pair_bytes (entry_pair entry)

-- the bytes of entries, one after another
abbrev pub all_bytes : List DirectoryEntry → List ℕ
all_bytes entries = flat_map pair_bytes (entry_pairs entries)

-- how many bytes each entry has
abbrev pub lengths_of : List DirectoryEntry → List ℕ
lengths_of = map (λ entry. length (entry_bytes entry))

abbrev pub total : List ℕ → ℕ
total [] = zero
total (n ∷ ns) = n + total ns

-- a text is that of entries, and says them again; so many bytes are those of each
pub record IsKnown (text lengths : List ℕ) (entries : List DirectoryEntry) : Type 0 where
  pub text_is : text ≡ all_bytes entries ++ codes "END\n"
  pub lengths_are : lengths ≡ lengths_of entries
  pub said : entries_in (entry_pairs entries) ≡ Ok entries
