-- The files of a store by their names, and what a call may leave where it is stopped.
use Rattle.std.specs.{Prelude.{◌≡◌, ◌≢◌, ◌⊎◌, ℕ, if◌then◌else◌, List, [], Option, Some, None, Vec}, declared.alloc.Global.Global}
use Rattle.store_files.specs.{Names.same_name, declared.name.FileName.FileName}

-- what each name has
abbrev pub Folder : Type 0
Folder = FileName → Option (List ℕ)

-- no file
abbrev pub nothing : Folder
nothing name = None

-- with these bytes in the file
abbrev pub with_file : Folder → FileName → List ℕ → Folder
with_file f name bytes n = if same_name name n then Some bytes else f n

-- the bytes of a file; one that is missing has none
abbrev pub text_of : Option (List ℕ) → List ℕ
text_of None = []
text_of (Some bytes) = bytes

-- what a read of a file answers
abbrev pub bytes_of : Option (Vec ℕ Global) → Option (List ℕ)
bytes_of None = None
bytes_of (Some v) = Some v.items

-- every file is the same
abbrev pub IsSame : Folder → Folder → Type 0
IsSame old new = (n : FileName) → new n ≡ old n

-- every other file is the same
abbrev pub SameBut : FileName → Folder → Folder → Type 0
SameBut name old new = (n : FileName) → n ≢ name → new n ≡ old n

-- what a stop leaves while a file is written anew: any bytes in it
pub record Scribbled (leaves : Folder → Type 0) (name : FileName) (new : Folder) : Type 0 where
  pub old : Folder
  pub left : leaves old
  pub others : SameBut name old new

-- what a stop leaves while a file is replaced: the old bytes in it or the new
pub record Swapped (leaves : Folder → Type 0) (name : FileName) (bytes : List ℕ)
    (new : Folder) : Type 0 where
  pub old : Folder
  pub left : leaves old
  pub others : SameBut name old new
  pub either : (new name ≡ old name) ⊎ (new name ≡ Some bytes)
