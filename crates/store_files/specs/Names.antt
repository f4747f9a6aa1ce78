-- The names of the files of a repository.
use Rattle.std.specs.{Prelude.{ℕ, zero, suc, Bool, ◌==◌, ◌&&◌, List, ◌++◌, codes, Some, None}, Fmt.decimal}
use Rattle.store_files.specs.declared.name.FileName.{FileName}
use Rattle.store_files.specs.declared.name.FileName.TheVariants.{Format, Kind, Uuid, Current, Locks, Revision, Properties, RepositoryFormat}

-- its path in the folder: the files of revisions are in a folder of their own, or in one for each shard
abbrev pub name_text : FileName → List ℕ
name_text Format = codes "format"
name_text Kind = codes "fs-type"
name_text Uuid = codes "uuid"
name_text Current = codes "current"
name_text Locks = codes "locks.dump"
name_text (Revision None n) = codes "revs/" ++ decimal n
name_text (Revision (Some shard) n) = codes "revs/" ++ (decimal shard ++ (codes "/" ++ decimal n))
name_text (Properties None n) = codes "revprops/" ++ decimal n
name_text (Properties (Some shard) n) =
    codes "revprops/" ++ (decimal shard ++ (codes "/" ++ decimal n))
name_text RepositoryFormat = codes "../format"

-- which kind of file a name is of, in which shard it is, and of which revision
abbrev pub kind_of : FileName → ℕ
kind_of Format = 0
kind_of Kind = 1
kind_of Uuid = 2
kind_of Current = 3
kind_of Locks = 4
kind_of (Revision None n) = 5
kind_of (Properties None n) = 6
kind_of RepositoryFormat = 7
kind_of (Revision (Some shard) n) = 8
kind_of (Properties (Some shard) n) = 9

abbrev pub shard_of : FileName → ℕ
shard_of Format = 0
shard_of Kind = 0
shard_of Uuid = 0
shard_of Current = 0
shard_of Locks = 0
shard_of (Revision None n) = 0
shard_of (Revision (Some shard) n) = shard
shard_of (Properties None n) = 0
shard_of (Properties (Some shard) n) = shard
shard_of RepositoryFormat = 0

abbrev pub number_of : FileName → ℕ
number_of Format = 0
number_of Kind = 0
number_of Uuid = 0
number_of Current = 0
number_of Locks = 0
number_of (Revision shard n) = n
number_of (Properties shard n) = n
number_of RepositoryFormat = 0

-- a name in numbers: its kind, its shard, and of which revision it is
abbrev pub Numbers : Type 0
Numbers = ℕ × ℕ × ℕ

abbrev pub numbers_of : FileName → Numbers
numbers_of name = (kind_of name, shard_of name, number_of name)

-- the name of these numbers
abbrev pub named_by : ℕ → ℕ → ℕ → FileName
named_by zero s n = Format
named_by (suc zero) s n = Kind
named_by (suc (suc zero)) s n = Uuid
named_by (suc (suc (suc zero))) s n = Current
named_by (suc (suc (suc (suc zero)))) s n = Locks
named_by (suc (suc (suc (suc (suc zero))))) s n = Revision None n
named_by (suc (suc (suc (suc (suc (suc zero)))))) s n = Properties None n
named_by (suc (suc (suc (suc (suc (suc (suc zero))))))) s n = RepositoryFormat
named_by (suc (suc (suc (suc (suc (suc (suc (suc zero)))))))) s n = Revision (Some s) n
named_by (suc (suc (suc (suc (suc (suc (suc (suc (suc k))))))))) s n = Properties (Some s) n

abbrev pub named : Numbers → FileName
named numbers = named_by numbers.0 numbers.1 numbers.2

abbrev pub same_name : FileName → FileName → Bool
same_name a b =
    (kind_of a == kind_of b) && (shard_of a == shard_of b) && (number_of a == number_of b)
