-- The file of locks.
use Rattle.std.specs.Prelude.{ℕ, zero, suc, List, [], ◌∷◌, ◌++◌, map, codes, Option, Some, None, Result, Ok, Err}
use Rattle.svnpath.specs.{Paths.PathValue, Texts.{parsed, path_text}, declared.fault.PathFault.PathFault}
use Rattle.repo_api.specs.{declared.limits.TheConstants.LOCK_LIMIT, declared.lock.Lock.Lock, Properties.PropertyList}
use Rattle.fsfs_text.specs.{declared.fault.FileFault.FileFault, declared.fault.FileFault.TheVariants.BadLine, Reading.{or_bad, ◌>>=◌}}
use Rattle.fsfs_text.specs.{declared.pair.DumpPair.DumpPair, Dumps.dump}
use Rattle.fsfs_nodes.specs.Rows.{value_at, rows_of}

abbrev pub field_pair : List ℕ → List ℕ → DumpPair
field_pair name value = record { key = name; value = value }

abbrev pub comment_pairs : Option (List ℕ) → List DumpPair
comment_pairs None = []
comment_pairs (Some comment) = field_pair (codes "comment") comment ∷ []

-- a dump of the comment, if there is one, the date, the owner and the token
abbrev pub lock_bytes : Lock → List ℕ
lock_bytes lock = dump (comment_pairs lock.comment
    ++ field_pair (codes "created") lock.created
    ∷ field_pair (codes "owner") lock.owner
    ∷ field_pair (codes "token") lock.token ∷ [])

-- a lock, and the path that is locked
abbrev pub lock_pair : PathValue × Lock → DumpPair
lock_pair p = record { key = path_text p.0; value = lock_bytes p.1 }

-- a dump of paths and their locks
abbrev pub locks_bytes : List (PathValue × Lock) → List ℕ
locks_bytes locks = dump (map lock_pair locks)

-- the lock that its fields make
unfoldable pub lock_with : PropertyList → Result Lock FileFault
lock_with fields = do
  created ← or_bad (value_at (codes "created") fields)
  owner ← or_bad (value_at (codes "owner") fields)
  token ← or_bad (value_at (codes "token") fields)
  Ok (record {
    token = token;
    owner = owner;
    comment = value_at (codes "comment") fields;
    created = created;
  })

-- the lock that a text says
unfoldable pub lock_of : List ℕ → Result Lock FileFault
lock_of text = rows_of text >>= λ fields. lock_with fields

-- a key is a path's text
abbrev pub path_of : Result PathValue PathFault → Result PathValue FileFault
path_of (Ok path) = Ok path
path_of (Err fault) = Err BadLine

-- a path and its lock
unfoldable pub locked_of : List ℕ × List ℕ → Result (PathValue × Lock) FileFault
locked_of row = path_of (parsed row.0) >>= λ path. lock_of row.1 >>= λ lock. Ok (path, lock)

-- one in front of others
abbrev pub before : PathValue × Lock → Result (List (PathValue × Lock)) FileFault
    → Result (List (PathValue × Lock)) FileFault
before locked (Ok others) = Ok (locked ∷ others)
before locked (Err fault) = Err fault

-- at most so many
abbrev pub locks_within : ℕ → PropertyList → Result (List (PathValue × Lock)) FileFault
locks_within n [] = Ok []
locks_within zero (row ∷ rows) = Err BadLine
locks_within (suc n) (row ∷ rows) = locked_of row >>= λ locked. before locked (locks_within n rows)

-- what the file says, by the bytes of the paths
unfoldable pub locks_of : List ℕ → Result (List (PathValue × Lock)) FileFault
locks_of bytes = rows_of bytes >>= λ rows. locks_within LOCK_LIMIT rows
