-- The files of a repository that are read, one revision after another.
use Rattle.std.specs.Prelude.{◌≡◌, ℕ, suc, List, [], ◌∷◌, ◌++◌, Option, None, Some, IsSome, Result, Ok, Err, length, option_and_then, slice_get}
use Rattle.std.specs.{Result.result_ok, FinMap.entries}
use Rattle.repo_api.specs.{Opening.new_repository, Properties.PropertyList, States.{ChangeMap, LockMap}}
use Rattle.noderevs.specs.{Heights.AreHigh, Held.{blocks_of, count, node_at}, Nodes.with_block, OpeningBlocks.AreOpening, declared.node_rev.Block.Block}
use Rattle.shared_revisions.specs.{Growing.HasOneMore, declared.held.Held.Held}
use Rattle.world.specs.{Adding.{HasAdded, MayComeNext}, Whole.world_content, declared.world.World.World}
use Rattle.repostore.specs.{Current.count_in, Files.{Files, RevisionFiles}, Reading.{IfFileFaulty, with_one_more, with_read_locks}}
use Rattle.fsfs_text.specs.{declared.fault.FileFault.FileFault, Formats.format_of}
use Rattle.fsfs_nodes.specs.{Current.current_of, Identity.uuid_of, Properties.properties_of, declared.current.Current.Current}
use Rattle.fsfs_nodes.specs.declared.change.FileChange.{FileChange}
use Rattle.filed_trees.specs.{Pieces.RevisionBytes, Readable.{IsReadableFile, Judges}, StandsFor.{locks_in, revision_bytes, revision_properties}}
use Rattle.filed_trees.specs.{Tables.AreTabled, declared.blocks.ReadRevision.ReadRevision, declared.table.Table.Table}
use Rattle.filed_repository.specs.{Files.AreLocks, Histories.{HasHistory, History, IsHistory, held_history}, declared.filed_world.FiledWorld.FiledWorld}
use Rattle.fsfs.specs.{Judging.judged_revision, Pieces.revision_of, declared.piece.FilePiece.FilePiece}

-- the first files say a format, the name of the repository, and the youngest of its revisions
pub record SayHead (uuid : ℕ) (current : Current) (files : Files) : Type 0 where
  pub format : option_and_then format_of files.format ≡ Some current.format
  pub uuid_is : result_ok (uuid_of files.uuid) ≡ Some uuid
  pub current_is : result_ok (current_of current.format files.current) ≡ Some current
  pub count : count_in files.current ≡ Some (suc current.youngest)

-- only the first files have been read
pub record AreFirst (uuid : ℕ) (current : Current) (files : Files) : Type 0 where
  pub head : SayHead uuid current files
  pub none : files.revisions ≡ []
  pub unlocked : files.locks ≡ None

-- what is held of the revisions that have tables: nothing before the first one is read
abbrev pub so_far : {X : Type 0} → List Table → List X → List X
so_far [] xs = []
so_far (table ∷ tables) xs = xs

-- what is held of the revisions that have been read, with the tables and the files of these
abbrev pub read_history : Held → List Table → RevisionBytes → History
read_history h tables files = record {
  files = files;
  blocks = so_far tables (blocks_of h.nodes);
  tables = tables;
  changes = so_far tables h.changes;
}

-- what is held is a new repository, but for the properties of revision 0
pub record IsNew (h : Held) : Type 0 where
  pub one : length h.changes ≡ 1
  pub opening : AreOpening (blocks_of h.nodes)
  pub unchanged : (change : ChangeMap) → slice_get h.changes 0 ≡ Some change → entries change ≡ []

-- the files that have been read say what is held of them; before the first revision is read, that is a
-- new repository
pub record AreRead (h : Held) (locks : LockMap) (tables : List Table) (current : Current)
    (files : Files) : Type 0 where
  pub head : SayHead h.uuid current files
  pub begins : tables ≡ [] → IsNew h
  pub tabled : AreTabled (revision_bytes files) (so_far tables (blocks_of h.nodes)) tables
      (so_far tables h.changes)
  pub history : IsHistory (read_history h tables (revision_bytes files))
  pub properties : (n : ℕ) → slice_get (so_far tables h.properties) n ≡ revision_properties files n
  pub locked : AreLocks files.locks locks

-- it is that of these files, as far as they have been read
abbrev pub HasRead : FiledWorld → Files → Type 0
HasRead f files = AreRead f.world.held.value f.world.locks.value f.tables f.current files

-- no revision has been read yet; where the world is a new repository, the files that are read first
-- have been
abbrev pub HasReadFirst : World → Current → FiledWorld → Type 0
HasReadFirst world current f = (f.tables ≡ [])
    × ((uuid : ℕ) (date : List ℕ) (files : Files) → world_content world ≡ new_repository uuid date
    → AreFirst uuid current files → HasRead f files)

-- the files that were read before have been read, and those of one more revision
abbrev pub HasReadMore : FiledWorld → RevisionFiles → FiledWorld → Type 0
HasReadMore before new f =
    (files : Files) → HasRead before files → HasRead f (with_one_more files new)

-- and the file of locks
abbrev pub HasReadLocks : FiledWorld → Option (List ℕ) → FiledWorld → Type 0
HasReadLocks before locks f =
    (files : Files) → HasRead before files → HasRead f (with_read_locks files locks)

-- by the result: the file of locks has been read, or is faulty, as it says none
abbrev pub ReadsLocks : FiledWorld → Option (List ℕ) → Result FiledWorld FileFault → Type 0
ReadsLocks before locks (Ok f) = HasReadLocks before locks f
ReadsLocks before locks (Err fault) = IfFileFaulty fault (locks_in locks ≡ None)

-- these are the files of the revisions that have been read, and those of a history
abbrev pub HasReadHistory : FiledWorld → RevisionBytes → Type 0
HasReadHistory f files = IsHistory (read_history f.world.held.value f.tables files)

-- behind these, the files of one more revision are those of a history, and say its properties
abbrev pub ContinueHistory : RevisionBytes → RevisionFiles → Type 0
ContinueHistory files new =
    HasHistory (files ++ new.0 ∷ []) × IsSome (result_ok (properties_of new.1))

-- the files of one more revision are judged by whether they continue the history
abbrev pub JudgesNext : FiledWorld → RevisionFiles → Result FiledWorld FileFault → Type 0
JudgesNext before new result = (files : RevisionBytes) → HasReadHistory before files
    → Judges result (ContinueHistory files new)

-- those of revision 0, by whether they say that of a new repository with these properties
abbrev pub JudgesFirst : {T : Type 0} → World → RevisionFiles → Result T FileFault → Type 0
JudgesFirst world new result =
    (list : PropertyList) → IsNew world.held.value
    → slice_get world.held.value.properties 0 ≡ Some list
    → Judges result (HasHistory (new.0 ∷ []) × (result_ok (properties_of new.1) ≡ Some list))

-- what is said of files that say what is held
abbrev pub WhereTabled : FiledWorld → (RevisionBytes → Type 0) → Type 0
WhereTabled f P = (files : RevisionBytes)
    → AreTabled files (blocks_of f.world.held.value.nodes) f.tables f.world.held.value.changes
    → P files

-- this was read of the file of the next revision, which is judged to be right
pub record IsSaidNext (f : FiledWorld) (file : List ℕ) (read : ReadRevision) : Type 0 where
  pub pieces : List FilePiece
  pub said : List FileChange
  pub says : revision_of (length f.tables) file ≡ Ok (pieces, said)
  pub judged : judged_revision (length f.tables) pieces said ≡ Ok tt
  pub readable : WhereTabled f (λ files. IsReadableFile (files ++ file ∷ []) f.tables pieces said)
  pub tabled : WhereTabled f (λ files. AreTabled (files ++ file ∷ [])
      (blocks_of f.world.held.value.nodes ++ read.block ∷ []) (f.tables ++ read.table ∷ [])
      (f.world.held.value.changes ++ read.changes ∷ []))
  pub high : WhereTabled f (λ files. AreHigh (with_block (node_at f.world.held.value.nodes)
      (count f.world.held.value.nodes) read.block.nodes.items))

-- the youngest block and changes of a world that has one more revision may come next
abbrev pub IsRightNext : FiledWorld → World → Type 0
IsRightNext before world = (more : HasOneMore before.world.held.value world.held.value)
    → MayComeNext before.world.held.value more.block (entries more.change)

-- behind the files of a history, with this one they are those of the history of a world, whose youngest
-- revision is in the file as the table has it
abbrev pub GoesOn : FiledWorld → World → List ℕ → Table → Type 0
GoesOn before world file table = (files : RevisionBytes)
    → IsHistory (held_history before.world.held.value before.tables files)
    → IsHistory (held_history world.held.value (before.tables ++ table ∷ []) (files ++ file ∷ []))

-- behind the revisions that have tables comes one more
pub record IsNext (before : Held) (tables : List Table) (after : Held) : Type 0 where
  pub uuid : after.uuid ≡ before.uuid
  pub block : Block
  pub blocks : blocks_of after.nodes ≡ so_far tables (blocks_of before.nodes) ++ block ∷ []
  pub change : ChangeMap
  pub changes : after.changes ≡ so_far tables before.changes ++ change ∷ []
  pub list : PropertyList
  pub lists : after.properties ≡ so_far tables before.properties ++ list ∷ []

-- and the locks stay
abbrev pub IsNextOf : FiledWorld → World → Type 0
IsNextOf f world = IsNext f.world.held.value f.tables world.held.value
    × (world.locks.value ≡ f.world.locks.value)

-- a revision was taken as it was read
pub record HasTaken (before made : FiledWorld) (read : ReadRevision) (list : PropertyList) : Type 0 where
  pub world : HasAdded before.world made.world read.block read.changes list
  pub tables : made.tables ≡ before.tables ++ read.table ∷ []
  pub current : made.current ≡ before.current
