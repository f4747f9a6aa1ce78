-- What the commands of an edit make of the tree of a mirror, which has the trees of revisions to copy
-- from.
use Rattle.std.specs.Prelude.{◌≡◌, ℕ, ◌-◌, Bool, true, false, not, ◌&&◌, is_some, List, [], ◌∷◌, ◌++◌, drop, length, take, Option, Some, None, option_map}
use Rattle.std.specs.Prelude.{option_and_then, IsTrue, Result, Ok, Err, if◌then◌else◌}
use Rattle.hex.specs.Hex.{encode_lower}
use Rattle.md5.specs.Md5.{md5}
use Rattle.svnpath.specs.{Paths.{is_at_or_under, PathValue, same_component, same_path}, Texts.components_of}
use Rattle.svndiff0.specs.{Document.document_text, declared.fault.DiffFault.DiffFault}
use Rattle.wire_forms.specs.Forms.{is_name}
use Rattle.repo_api.specs.{Properties.property_value, States.{RepoState, trees_in}, Trees.{is_directory_content, Tree}, declared.entry.Content.Content}
use Rattle.repo_api.specs.{declared.entry.Content.TheVariants.{Directory, File}, declared.entry.Entry.Entry}
use Rattle.wire_edits.specs.{declared.editing.AddedEntry.AddedEntry, declared.editing.EditorCommand.EditorCommand, declared.editing.OpenedEntry.OpenedEntry}
use Rattle.wire_edits.specs.declared.editing.EditorCommand.TheVariants.{TargetRevision, OpenRoot, DeleteEntry, AddDirectory, AddFile, OpenDirectory, OpenFile}
use Rattle.wire_edits.specs.declared.editing.EditorCommand.TheVariants.{ChangeDirectoryProperty, ChangeFileProperty, ApplyTextDelta, TextDeltaChunk}
use Rattle.wire_edits.specs.declared.editing.EditorCommand.TheVariants.{TextDeltaEnd, CloseDirectory, CloseFile}
use Rattle.wire_edits.specs.declared.editing.PropertyChange.{PropertyChange}
use Rattle.replays.specs.{Places.is_in_part, declared.ask.ReplayAsk.ReplayAsk}

-- ---- trees

-- a directory, or a file with its text, and the value that each property has
abbrev pub Node : Type 0
Node = Content × (List ℕ → Option (List ℕ))

abbrev pub Nodes : Type 0
Nodes = PathValue → Option Node

-- what a revision has
abbrev pub nodes_of : Tree → Nodes
nodes_of t q = option_map (λ (e : Entry). (e.content, property_value e.properties)) (t q)

-- what is at a path becomes this
abbrev pub with_node : PathValue → Option Node → Nodes → Nodes
with_node p node t q = if same_path p q then node else t q

-- at a path and under it there is what another tree has at this path and under it
abbrev pub with_copy : PathValue → Nodes → PathValue → Nodes → Nodes
with_copy p source from t q = if is_at_or_under q p then source (from ++ drop (length p) q) else t q

-- a new entry has no text and no properties
abbrev pub new_node : Content → Node
new_node content = (content, λ name. None)

-- one property has a value, or none
abbrev pub with_value : List ℕ → Option (List ℕ) → Node → Node
with_value name value node =
    (node.0, λ other. if same_component name other then value else node.1 other)

abbrev pub is_directory_at : Nodes → PathValue → Bool
is_directory_at t p = is_of_directory (t p)
  where
    is_of_directory : Option Node → Bool
    is_of_directory None = false
    is_of_directory (Some node) = is_directory_content node.0

abbrev pub text_at : Nodes → PathValue → Option (List ℕ)
text_at t p = option_and_then (λ (node : Node). text_in node.0) (t p)
  where
    text_in : Content → Option (List ℕ)
    text_in Directory = None
    text_in (File text) = Some text

-- ---- a mirror on its way

-- what is open under a token, and what was sent of a delta of it, if one has begun
pub record Opened : Type 0 where
  pub token : List ℕ
  pub path : PathValue
  pub delta : Option (List ℕ)

-- a mirror: its tree, and what is open, the innermost first
pub record Mirror : Type 0 where
  pub tree : Nodes
  pub opened : List Opened

-- what is open last has this token
abbrev pub on_last : Mirror → List ℕ → (Opened → List Opened → Option Mirror) → Option Mirror
on_last m token f = by m.opened
  where
    by : List Opened → Option Mirror
    by [] = None
    by (o ∷ os) = if is_name o.token token then f o os else None

-- an entry is straight in the directory that was opened last, which has this token
abbrev pub in_last : Mirror → PathValue → List ℕ → Bool
in_last m q parent = by m.opened
  where
    by : List Opened → Bool
    by [] = false
    by (o ∷ os) =
        is_name o.token parent && (is_directory_at m.tree o.path
        && (not (same_path q []) && same_path o.path (take (length q - 1) q)))

-- the mirror with this tree, and with an entry open too
abbrev pub entering : Mirror → Nodes → PathValue → List ℕ → Mirror
entering m tree q token =
    record { tree = tree; opened = record { token = token; path = q; delta = None } ∷ m.opened }

-- both are directories, or neither is
abbrev pub same_kind : Bool → Bool → Bool
same_kind true directory = directory
same_kind false directory = not directory

-- an entry of this kind is opened, if it is there
abbrev pub opens : Mirror → OpenedEntry → Bool → Option Mirror
opens m e directory =
    let q = components_of e.path in
    if in_last m q e.parent && (is_some (m.tree q) && same_kind directory (is_directory_at m.tree q))
    then Some (entering m m.tree q e.token)
    else None

-- an entry is added where none is: a new one, or what a path of a revision has at and under it, which
-- is of this kind
abbrev pub adds_from : (ℕ → Tree) → Mirror → PathValue → Content → Option (List ℕ × ℕ) → Option Nodes
adds_from trees m q content None = Some (with_node q (Some (new_node content)) m.tree)
adds_from trees m q content (Some copied) =
    let source = nodes_of (trees copied.1) in
    let from = components_of (drop 1 copied.0) in
    if is_some (source from) && same_kind (is_directory_content content) (is_directory_at source from)
    then Some (with_copy q source from m.tree)
    else None

abbrev pub adds : (ℕ → Tree) → Mirror → AddedEntry → Content → Option Mirror
adds trees m e content =
    let q = components_of e.path in
    if in_last m q e.parent && not (is_some (m.tree q))
    then option_map (λ tree. entering m tree q e.token) (adds_from trees m q content e.source)
    else None

abbrev pub sets_property : Mirror → PropertyChange → Option Mirror
sets_property m p =
    on_last m p.token (λ o os. Some (record m {
      tree = with_node o.path (option_map (with_value p.name p.value) (m.tree o.path)) m.tree;
    }))

-- a delta, read over the text that the mirror has, gives its new text
abbrev pub sets_text : Mirror → Opened → List Opened → Result (List ℕ) DiffFault → Option Mirror
sets_text m o os (Err fault) = None
sets_text m o os (Ok text) = Some (record {
  tree = with_node o.path (option_map (λ (node : Node). (File text, node.1)) (m.tree o.path)) m.tree;
  opened = record o { delta = None } ∷ os;
})

abbrev pub ends_delta : Mirror → Opened → List Opened → Option (List ℕ) → Option (List ℕ)
    → Option Mirror
ends_delta m o os (Some before) (Some document) = sets_text m o os (document_text before document)
ends_delta m o os before document = None

-- a file is closed with the digits of its text
abbrev pub closes_file : Mirror → List Opened → Option (List ℕ) → Option (List ℕ) → Option Mirror
closes_file m os (Some text) (Some digits) =
    if is_name digits (encode_lower (md5 text)) then Some (record m { opened = os }) else None
closes_file m os text digits = None

-- what a command makes of a mirror, if it finds what it needs
abbrev pub mirrored : (ℕ → Tree) → Mirror → EditorCommand → Option Mirror
mirrored trees m (TargetRevision n) = Some m
mirrored trees m (OpenRoot revision token) = Some (entering m m.tree [] token)
mirrored trees m (DeleteEntry e) =
    let q = components_of e.path in
    if in_last m q e.parent && is_some (m.tree q)
    then Some (record m { tree = with_copy q (λ _. None) [] m.tree })
    else None
mirrored trees m (AddDirectory e) = adds trees m e Directory
mirrored trees m (AddFile e) = adds trees m e (File [])
mirrored trees m (OpenDirectory e) = opens m e true
mirrored trees m (OpenFile e) = opens m e false
mirrored trees m (ChangeDirectoryProperty p) = sets_property m p
mirrored trees m (ChangeFileProperty p) = sets_property m p
mirrored trees m (ApplyTextDelta token checksum) =
    on_last m token (λ o os. Some (record m { opened = record o { delta = Some [] } ∷ os }))
mirrored trees m (TextDeltaChunk token bytes) =
    on_last m token (λ o os. Some (record m {
      opened = record o { delta = option_map (λ before. before ++ bytes) o.delta } ∷ os;
    }))
mirrored trees m (TextDeltaEnd token) =
    on_last m token (λ o os. ends_delta m o os (text_at m.tree o.path) o.delta)
mirrored trees m (CloseDirectory token) = on_last m token (λ o os. Some (record m { opened = os }))
mirrored trees m (CloseFile token digits) =
    on_last m token (λ o os. closes_file m os (text_at m.tree o.path) digits)
mirrored trees m _ = None

-- so do commands, one after another
abbrev pub all_mirrored : (ℕ → Tree) → Mirror → List EditorCommand → Option Mirror
all_mirrored trees m [] = Some m
all_mirrored trees m (command ∷ commands) =
    option_and_then (λ next. all_mirrored trees next commands) (mirrored trees m command)

-- ---- the promise

-- both have nothing, or the same: kind, text, and the value of each property
abbrev pub AreSameNodes : Option Node → Option Node → Type 0
AreSameNodes None None = Unit {0}
AreSameNodes None (Some node) = ⊥
AreSameNodes (Some node) None = ⊥
AreSameNodes (Some one) (Some other) =
    (one.0 ≡ other.0) × ((name : List ℕ) → one.1 name ≡ other.1 name)

-- two trees have the same at each path of the client's part
abbrev pub AreSameInPart : ReplayAsk → Nodes → Nodes → Type 0
AreSameInPart ask one other =
    (q : PathValue) → IsTrue (is_in_part ask q) → AreSameNodes (one q) (other q)

-- Whoever has of the part what the revision before has, and has the trees of revisions, has of the part
-- what the revision has after these commands: each finds what it needs, and nothing stays open.
abbrev pub LeadsToRevision : RepoState → ReplayAsk → ℕ → List EditorCommand → Type 0
LeadsToRevision c ask r commands =
    let trees = trees_in c.revisions in
    (before : Nodes) → AreSameInPart ask before (nodes_of (trees (r - 1)))
    → (after : Mirror) × (all_mirrored trees (record { tree = before; opened = [] }) commands ≡ Some after)
    × (after.opened ≡ []) × AreSameInPart ask after.tree (nodes_of (trees r))
