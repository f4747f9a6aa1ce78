-- A call of a folder, with its answer.
use Rattle.std.specs.Prelude.{ℕ, List, [], ◌∷◌, slice_index}
use Rattle.store_files.specs.{Folders.{Folder, nothing, with_file}, Names.{Numbers, named}}

-- which call, the file's name in numbers, the answer, and bytes
abbrev pub Event : Type 0
Event = ℕ × Numbers × ℕ × List ℕ

abbrev pub event_of : List ℕ → List ℕ → Event
event_of numbers bytes = (
  slice_index numbers 0,
  (slice_index numbers 1, slice_index numbers 2, slice_index numbers 3),
  slice_index numbers 4,
  bytes,
)

-- a file that is known: its name in numbers, and its bytes
abbrev pub Known : Type 0
Known = Numbers × List ℕ

-- the folder with these files
abbrev pub folder_of : List Known → Folder
folder_of [] = nothing
folder_of (file ∷ files) = with_file (folder_of files) (named file.0) file.1
