-- Files in memory.
use Rattle.std.specs.{Prelude.{ℕ, ◌∷◌, [], List, Vec, Result, Ok, Err}, BTreeMap.{BTreeMap, get}, Ordering.{nat_cmp, ordering_then}}
use Rattle.std.specs.{declared.alloc.Global.Global, declared.cmp.Ordering.Ordering}
use Rattle.store_files.specs.{Folders.{Folder, bytes_of}, Names.{Numbers, kind_of, shard_of, number_of, numbers_of}, Note.{Event, event_of}}
use Rattle.store_files.specs.declared.name.FileName.{FileName}

-- by their kinds, then by their shards, then by their revisions
abbrev pub by_numbers : Numbers → Numbers → Ordering
by_numbers x y =
    ordering_then (ordering_then (nat_cmp x.0 y.0) (nat_cmp x.1 y.1)) (nat_cmp x.2 y.2)

-- what each name has
abbrev pub files_of : BTreeMap Numbers (Vec ℕ Global) → Folder
files_of files name = bytes_of (get by_numbers files (numbers_of name))

-- the calls once a file is put, unless it was not
abbrev pub put_events : {T E : Type 0} → Result T E → ℕ → FileName → List ℕ → List Event → List Event
put_events (Ok x) call name bytes events = event_of (call ∷ kind_of name ∷ shard_of name ∷ number_of name ∷ 0 ∷ []) bytes ∷ events
put_events (Err f) call name bytes events = events
