-- The parts of a revision file, by what they are made of.
use Rattle.std.specs.Prelude.{◌≡◌, ◌==◌, ℕ, zero, suc, ◌+◌, ◌-◌, ◌^◌, min, nat_lt, ◌&&◌, ◌||◌, Bool, true, false, List, [], ◌∷◌, ◌++◌, map, Option, Some, None}
use Rattle.std.specs.{Prelude.{option_map, option_and_then, if◌then◌else◌}, Arc.arc_value, Cmp.Lexicographic.pointwise}
use Rattle.svnpath.specs.{Paths.{Component, PathValue}, Texts.path_text}
use Rattle.repo_api.specs.{Properties.PropertyList, declared.change.Action.Action, declared.change.Action.TheVariants.{Add, Delete, Replace, Modify}}
use Rattle.repo_api.specs.{declared.change.Change.Change, declared.change.Source.Source, declared.entry.Content.Content}
use Rattle.repo_api.specs.declared.entry.Content.TheVariants as contents
use Rattle.noderevs.specs.{declared.node_rev.NodeId.NodeId, declared.node_rev.NodeRev.NodeRev}
use Rattle.fsfs_nodes.specs.{Properties.properties_bytes, declared.current.NextIds.NextIds, Entries.entry_pairs, declared.entries.DirectoryEntry.DirectoryEntry}
use Rattle.fsfs_nodes.specs.{declared.entries.EntryKind.EntryKind, declared.entries.EntryKind.TheVariants.{File, Directory}, declared.node.FileNode.FileNode}
use Rattle.fsfs_nodes.specs.{declared.change.FileAction.FileAction, declared.change.FileChange.FileChange}
use Rattle.fsfs_text.specs.{Dumps.dump, Ids.id_text, declared.id.FileId.FileId, declared.id.IdPart.IdPart, declared.place.Place.Place}
use Rattle.fsfs_text.specs.declared.representation.Representation.{Representation}
use Rattle.fsfs_nodes.specs.declared.change.FileAction.TheVariants as actions
use Rattle.fsfs.specs.Files.{Piece, piece_bytes, placed_node}
use Rattle.filed_trees.specs.{Tables.placed_of, declared.placed.Placed.Placed}
use Rattle.filed_writing.specs.declared.counter.Counter.{Counter}

-- an action puts something at its path
abbrev pub puts : Action → Bool
puts Add = true
puts Delete = false
puts Replace = true
puts Modify = false

-- the place of a source
abbrev pub source_place : Source → Place
source_place source = record { revision = source.revision; path = path_text source.path }

-- bytes, if there are any
abbrev pub some_bytes : List ℕ → Option (List ℕ)
some_bytes [] = None
some_bytes (b ∷ bytes) = Some (b ∷ bytes)

-- what comes with a node revision, and else the line that it keeps
pub record Brings : Type 0 where
  pub new : Option (List ℕ)
  pub kept : Option Representation

-- what the predecessor has, and the line that says where it stands
abbrev pub Before : Type 0
Before = List ℕ × Option Representation

-- what is the same as before keeps its line; else it comes, and has no line where it is empty
abbrev pub brings : List ℕ → Option Before → Brings
brings bytes None = record { new = some_bytes bytes; kept = None }
brings bytes (Some before) =
    if pointwise ◌==◌ before.0 bytes then record { new = None; kept = before.1 }
    else record { new = some_bytes bytes; kept = None }

-- the dump of properties, no bytes where there are none
abbrev pub properties_dump : PropertyList → List ℕ
properties_dump [] = []
properties_dump (p ∷ ps) = properties_bytes (p ∷ ps)

abbrev pub kind_of : Content → EntryKind
kind_of contents.Directory = Directory
kind_of (contents.File text) = File

-- an entry as a file has it
abbrev pub entry_with : Component → Option NodeRev → Option FileId → Option DirectoryEntry
entry_with name None id = None
entry_with name (Some node) None = None
entry_with name (Some node) (Some id) =
    Some (record { name = name; kind = kind_of (arc_value node.content); id = id })

-- in their order, if each is there
abbrev pub all_some : {X Y : Type 0} → (X → Option Y) → List X → Option (List Y)
all_some f [] = Some []
all_some f (x ∷ xs) = option_and_then (λ y. option_map (λ ys. y ∷ ys) (all_some f xs)) (f x)

-- the dump of entries: none has no bytes, but in revision 0
abbrev pub dump_in : ℕ → List DirectoryEntry → List ℕ
dump_in zero es = dump (entry_pairs es)
dump_in (suc n) [] = []
dump_in (suc n) (e ∷ es) = dump (entry_pairs (e ∷ es))

abbrev pub file_action : Action → FileAction
file_action Add = actions.Add
file_action Delete = actions.Delete
file_action Replace = actions.Replace
file_action Modify = actions.Modify

-- its id as a word, with its path and its flags, and the place of what was copied
abbrev pub file_change : FileId → PathValue × Change → FileChange
file_change id p = record {
  id = id_text id;
  action = file_action p.1.action;
  text = p.1.text;
  properties = p.1.properties;
  path = path_text p.0;
  source = option_map source_place p.1.source;
}

abbrev pub with_both : Option NodeRev → Option Placed → Option (NodeRev × Placed)
with_both None placed = None
with_both (Some node) None = None
with_both (Some node) (Some placed) = Some (node, placed)

abbrev pub copied_by : Action → Option Source → Option Source
copied_by Add source = source
copied_by Replace source = source
copied_by Delete source = None
copied_by Modify source = None

-- what was copied to its path itself
abbrev pub copied : Option Change → Option Source
copied None = None
copied (Some change) = copied_by change.action change.source

-- the id of a number, which is counted in a revision, or over all of them
abbrev pub counted : Option ℕ → ℕ → IdPart
counted revision n = record { number = n; revision = revision }

-- the first new ids of revision n: in format 2 those that come next, in format 3 counted in the revision from 0
abbrev pub counter_in : Option NextIds → ℕ → Counter
counter_in (Some ids) n = record { revision = None; node = ids.node; copy = ids.copy }
counter_in None n = record { revision = Some n; node = 0; copy = 0 }

-- in format 2 the ids that come next after it, in format 3 none
abbrev pub ids_after : Option NextIds → Counter → Option NextIds
ids_after (Some ids) next = Some (record { node = next.node; copy = next.copy })
ids_after None next = None

abbrev pub next_number : ℕ → ℕ
next_number n = min (n + 1) (2 ^ 128 - 1)

-- Which node it is of, what it was made from, and the copy that begins with it. A node that was made from none
-- takes the next node id, one that was copied itself the next copy id.
pub record Comes : Type 0 where
  pub node : IdPart
  pub predecessor : Option (NodeRev × Placed)
  pub copy : Option (IdPart × Source)

abbrev pub node_of : Option (NodeRev × Placed) → Counter → IdPart
node_of None next = counted next.revision next.node
node_of (Some before) next = before.1.id.node

abbrev pub after_node : Option (NodeRev × Placed) → ℕ → ℕ
after_node None next = next_number next
after_node (Some before) next = next

abbrev pub after_copy : Option Source → ℕ → ℕ
after_copy None next = next
after_copy (Some source) next = next_number next

-- its id, and where it begins
pub record Copy : Type 0 where
  pub id : IdPart
  pub place : Place

abbrev pub begins : ℕ → IdPart → NodeRev → Copy
begins revision id node =
    record { id = id; place = record { revision = revision; path = path_text node.path } }

abbrev pub copy_before : Placed → Copy
copy_before placed = record { id = placed.id.copy; place = placed.copyroot }

-- that of its predecessor, or its directory's where that begins in a later revision
abbrev pub later_copy : Copy → Copy → Copy
later_copy before above = if nat_lt before.place.revision above.place.revision then above else before

abbrev pub count_of : Option (NodeRev × Placed) → ℕ
count_of None = 0
count_of (Some before) = min (before.1.count + 1) (2 ^ 64 - 1)

abbrev pub same_place : Place → Place → Bool
same_place a b = (a.revision == b.revision) && pointwise ◌==◌ a.path b.path

-- where a copy begins, which is left out where it is here
abbrev pub copyroot_line : Place → Place → Option Place
copyroot_line here place = if same_place place here then None else Some place

abbrev pub text_before : Content → Option Representation → Option Before
text_before contents.Directory line = None
text_before (contents.File text) line = Some (text, line)

-- an entry is a node of this revision
abbrev pub any_new : ℕ → List (Component × NodeId) → Bool
any_new n [] = false
any_new n (kid ∷ kids) = (kid.1.rev == n) || any_new n kids

abbrev pub is_file : Content → Bool
is_file contents.Directory = false
is_file (contents.File text) = true

abbrev pub with_bodies : FileNode → Brings → Brings → FileNode
with_bodies lines text properties = record {
  id = lines.id;
  kind = lines.kind;
  predecessor = lines.predecessor;
  count = lines.count;
  text = text.kept;
  properties = properties.kept;
  path = lines.path;
  copyfrom = lines.copyfrom;
  copyroot = lines.copyroot;
}

-- a node revision, with what comes with it, behind so many bytes
abbrev pub piece_by : ℕ → FileNode → Brings → Brings → Piece
piece_by offset lines text properties = record {
  text = text.new;
  properties = properties.new;
  node = placed_node offset text.new properties.new (with_bodies lines text properties);
}

abbrev pub ids_of : List Piece → List FileId
ids_of pieces = map (λ piece. piece.node.id) pieces

-- what a table keeps of them
abbrev pub rows_of : List Piece → List Placed
rows_of pieces = map (λ piece. placed_of piece.node) pieces

-- the text of a file's predecessor, with its line, where that is a file
abbrev pub text_of_before : Option (NodeRev × Placed) → Option Before
text_of_before predecessor =
    option_and_then (λ before. text_before (arc_value before.0.content) before.1.text) predecessor

-- the dump of the predecessor's properties
abbrev pub dump_before : NodeRev × Placed → List ℕ
dump_before before = properties_dump (arc_value before.0.properties)

abbrev pub text_kept : NodeRev × Placed → Option Representation
text_kept before = before.1.text

abbrev pub properties_kept : NodeRev × Placed → Option Representation
properties_kept before = before.1.properties

-- what comes for the properties of a node
abbrev pub properties_of : NodeRev → Option (NodeRev × Placed) → Brings
properties_of node predecessor =
    brings (properties_dump (arc_value node.properties))
    (option_map (λ before. (dump_before before, properties_kept before)) predecessor)

-- a node revision is written behind these bytes, with these lines
abbrev pub Writes : List ℕ → Piece → FileNode → List ℕ → Type 0
Writes out piece lines new = (lines ≡ piece.node) × (new ≡ out ++ piece_bytes piece)
