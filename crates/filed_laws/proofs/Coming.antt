-- What comes with a node revision, and what it keeps of its predecessor.
use Rattle.std.proofs.Common.{◌||◌, ℕ, Bool, true, false, List, Option, Some, None}
use Rattle.std.specs.{Prelude.{IfSome, if◌then◌else◌, option_map, ◌==◌}, Cmp.Lexicographic.pointwise, Arc.arc_value}
use Rattle.repo_api.specs.declared.entry.Content.{Content}
use Rattle.repo_api.specs.declared.entry.Content.TheVariants as contents
use Rattle.noderevs.specs.{Held.node_at, declared.node_rev.NodeId.NodeId, declared.node_rev.NodeRev.NodeRev}
use Rattle.fsfs_text.specs.{declared.id.FileId.FileId, declared.representation.Representation.Representation}
use Rattle.filed_trees.specs.{Tables.placed_in, declared.placed.Placed.Placed}
use Rattle.filed_writing.specs.{Origins.predecessor_of, declared.revision.Revision.Revision}
use Rattle.filed_writing.specs.{Layout.{content_by, entries_before, entries_dump, has_new, made_from}, Pieces.{Before, Brings, brings, dump_before, is_file}}
use Rattle.filed_writing.specs.Pieces.{properties_dump, properties_kept, properties_of, some_bytes, text_before, text_of_before, with_both}
use Rattle.filed_laws.proofs.Options.{each_some, if_some, map_some, then_some}

-- ---- a predecessor is one of an earlier revision

both_some : (P : Placed → Type 0) (node : Option NodeRev) (placed : Option Placed) → IfSome placed P → IfSome (with_both node placed) (λ before. P before.1)
both_some P None placed h = tt
both_some P (Some node) None h = tt
both_some P (Some node) (Some placed) h = h

pub from_tables : (P : Placed → Type 0) (r : Revision) (node : NodeRev) → ((id : NodeId) → IfSome (placed_in r.tables.now id) P)
    → IfSome (made_from r node) (λ before. P before.1)
from_tables P r node tabled =
    then_some (λ (before : NodeRev × Placed). P before.1) (λ id. with_both (node_at r.nodes.now id) (placed_in r.tables.now id))
    (predecessor_of r.nodes.now r.changes.now r.number node.path)
    (λ id is. both_some P (node_at r.nodes.now id) (placed_in r.tables.now id) (tabled id))

-- ---- a line that is kept

abbrev chosen : Bool → List ℕ → Before → Brings
chosen same bytes before = if same then record { new = None; kept = before.1 } else record { new = some_bytes bytes; kept = None }

chosen_kept : (P : Representation → Type 0) (same : Bool) (bytes : List ℕ) (before : Before) → IfSome before.1 P → IfSome (chosen same bytes before).kept P
chosen_kept P true bytes before h = h
chosen_kept P false bytes before h = tt

pub brings_kept : (P : Representation → Type 0) (bytes : List ℕ) (before : Option Before) → IfSome before (λ b. IfSome b.1 P)
    → IfSome (brings bytes before).kept P
brings_kept P bytes None h = tt
brings_kept P bytes (Some before) h = chosen_kept P (pointwise ◌==◌ before.0 bytes) bytes before h

entries_kept : (P : Representation → Type 0) (r : Revision) (written : List FileId) (node : NodeRev) (predecessor : Option (NodeRev × Placed))
    → IfSome predecessor (λ before. IfSome before.1.text P)
    → IfSome (entries_before r written node predecessor) (λ b. IfSome b (λ before. IfSome before.1 P))
entries_kept P r written node None h = tt
entries_kept P r written node (Some before) h =
    if_some (λ (b : Option Before). IfSome b (λ before. IfSome before.1 P)) (has_new r node || is_file (arc_value before.0.content)) (Some None)
    (option_map (λ bytes. Some (bytes, before.1.text)) (entries_dump r written before.0)) tt
    (map_some (λ (b : Option Before). IfSome b (λ before. IfSome before.1 P)) (λ bytes. Some (bytes, before.1.text)) (entries_dump r written before.0)
    (each_some (λ bytes. IfSome before.1.text P) (entries_dump r written before.0) (λ bytes is. h)))

text_kept : (P : Representation → Type 0) (content : Content) (line : Option Representation) → IfSome line P
    → IfSome (text_before content line) (λ b. IfSome b.1 P)
text_kept P contents.Directory line h = tt
text_kept P (contents.File text) line h = h

text_before_kept : (P : Representation → Type 0) (predecessor : Option (NodeRev × Placed)) → IfSome predecessor (λ before. IfSome before.1.text P)
    → IfSome (text_of_before predecessor) (λ b. IfSome b.1 P)
text_before_kept P None h = tt
text_before_kept P (Some before) h = text_kept P (arc_value before.0.content) before.1.text h

pub content_kept : (P : Representation → Type 0) (r : Revision) (written : List FileId) (node : NodeRev) (predecessor : Option (NodeRev × Placed)) (content : Content)
    → IfSome predecessor (λ before. IfSome before.1.text P)
    → IfSome (content_by r written node predecessor content) (λ b. IfSome b.kept P)
content_kept P r written node predecessor contents.Directory h =
    then_some (λ (b : Brings). IfSome b.kept P) (λ bytes. option_map (brings bytes) (entries_before r written node predecessor)) (entries_dump r written node)
    (λ bytes is. map_some (λ (b : Brings). IfSome b.kept P) (brings bytes) (entries_before r written node predecessor)
    (more (entries_before r written node predecessor) bytes (entries_kept P r written node predecessor h)))
  where
    more : (o : Option (Option Before)) (bytes : List ℕ) → IfSome o (λ b. IfSome b (λ before. IfSome before.1 P))
        → IfSome o (λ b. IfSome (brings bytes b).kept P)
    more None bytes h = tt
    more (Some b) bytes h = brings_kept P bytes b h
content_kept P r written node predecessor (contents.File text) h = brings_kept P text (text_of_before predecessor) (text_before_kept P predecessor h)

pub properties_are_kept : (P : Representation → Type 0) (node : NodeRev) (predecessor : Option (NodeRev × Placed))
    → IfSome predecessor (λ before. IfSome before.1.properties P)
    → IfSome (properties_of node predecessor).kept P
properties_are_kept P node predecessor h =
    brings_kept P (properties_dump (arc_value node.properties)) (option_map (λ before. (dump_before before, properties_kept before)) predecessor)
    (map_some (λ (b : Before). IfSome b.1 P) (λ before. (dump_before before, properties_kept before)) predecessor h)
