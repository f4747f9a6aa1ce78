-- The trees of the files are those of the nodes that are placed there.
use Rattle.std.proofs.Common.{◌≡◌, ℕ, List, [], ◌∷◌, Option, Some, None, option_map, option_and_then, refl, sym, ap, subst, ◌∙◌}
use Rattle.std.proofs.lemmas.Option.{none-some, same_Some}
use Rattle.std.specs.{FinMap.{get, entries}, Prelude.slice_get, Arc.arc_value}
use Rattle.svnpath.specs.Paths.{Component, PathValue}
use Rattle.repo_api.specs.{States.{ChangeMap, Revision}, declared.entry.Mark.TheVariants.Made}
use Rattle.noderevs.specs.Nodes as nodes
use Rattle.noderevs.specs.{Nodes.{kid_at, mark_of, node_in}, Views.{entry_at, find_id, shared_entry, shared_tree}, declared.node_rev.Block.Block}
use Rattle.noderevs.specs.{declared.node_rev.NodeId.NodeId, declared.node_rev.NodeRev.NodeRev}
use Rattle.fsfs_text.specs.declared.id.FileId.{FileId}
use Rattle.filed_trees.specs.{Pieces.RevisionBytes, Changes.{revision_in, changes_in}, StandsFor.IsRevision}
use Rattle.filed_trees.specs.{Trees.{entry_in, kid_of, find_in, tree_in, root_in}, Tables.{placed_in, IsAt, IsFiled, IsPlaced, AreTabled}}
use Rattle.filed_trees.specs.{declared.placed.Placed.Placed, declared.table.Table.Table}

module _ (files : RevisionBytes) (tables : List Table) where
  same_entry : (id : NodeId) (node : NodeRev) (placed : Placed) → IsFiled files tables id node placed
      → entry_in files placed.id ≡ Some (shared_entry id node)
  unfolding entry_in
  same_entry id node placed f = rw (f.there, f.content, f.properties, f.own, f.path) (λ i. Some (record {
    content = arc_value node.content;
    properties = arc_value node.properties;
    own = mark_of node.own;
    last = Made (f.revision i) node.path;
  }))

  same_kid : (id : NodeId) (node : NodeRev) (placed : Placed) → IsFiled files tables id node placed
      → (name : Component) → IsAt tables (nodes.kid_of name node) (kid_of files name placed.id)
  unfolding kid_of
  same_kid id node placed f name = rw (f.there, f.read) (f.kids name)

  -- a node that is a node revision of the files is there and filed
  found : {P : Type 0} (id : NodeId) (file : FileId) (node : Option NodeRev) (placed : Option Placed)
      → IsPlaced files tables id node placed → option_map (λ p. p.id) placed ≡ Some file
      → ((n : NodeRev) (p : Placed) → node ≡ Some n → p.id ≡ file → IsFiled files tables id n p → P) → P
  found id file None None is at k = absurd (none-some file at)
  found id file None (Some p) is at k = absurd is
  found id file (Some n) None is at k = absurd is
  found id file (Some n) (Some p) is at k = k n p refl (same_Some p.id file at) is

  module _ (blocks : List Block) (changes : List ChangeMap) (all : AreTabled files blocks tables changes) where
    entries_agree : (o : Option NodeId) (f : Option FileId) → IsAt tables o f
        → option_and_then (entry_in files) f ≡ option_and_then (entry_at (node_in blocks)) o
    entries_agree None None at = refl
    entries_agree None (Some file) at = absurd at
    entries_agree (Some id) None at = absurd at
    entries_agree (Some id) (Some file) at = found id file (node_in blocks id) (placed_in tables id) (all.nodes id) at
        (λ n p is same f. ap (entry_in files) (sym same) ∙ same_entry id n p f ∙ sym (ap (option_map (shared_entry id)) is))

    kids_agree : (o : Option NodeId) (f : Option FileId) (name : Component) → IsAt tables o f
        → IsAt tables (kid_at (node_in blocks) o name) (option_and_then (kid_of files name) f)
    kids_agree None None name at = tt
    kids_agree None (Some file) name at = absurd at
    kids_agree (Some id) None name at = absurd at
    kids_agree (Some id) (Some file) name at = found id file (node_in blocks id) (placed_in tables id) (all.nodes id) at
        (λ n p is same f. subst (λ o. IsAt tables (option_and_then (nodes.kid_of name) o) (kid_of files name file)) (sym is)
        (subst (λ w. IsAt tables (nodes.kid_of name n) (kid_of files name w)) same (same_kid id n p f name)))

    places_agree : (path : PathValue) (o : Option NodeId) (f : Option FileId) → IsAt tables o f
        → IsAt tables (find_id (node_in blocks) path o) (find_in files path f)
    places_agree [] o f at = at
    places_agree (name ∷ path) o f at = places_agree path (kid_at (node_in blocks) o name) (option_and_then (kid_of files name) f) (kids_agree o f name at)

    pub trees_agree : (n : ℕ) (path : PathValue) → tree_in files n path ≡ shared_tree (node_in blocks) (nodes.root_in blocks n) path
    trees_agree n path =
        entries_agree (find_id (node_in blocks) path (nodes.root_in blocks n)) (find_in files path (root_in files n))
        (places_agree path (nodes.root_in blocks n) (root_in files n) (all.roots n))

    pub revisions_agree : (n : ℕ) (revision : Revision)
        → ((path : PathValue) → get revision.tree path ≡ shared_tree (node_in blocks) (nodes.root_in blocks n) path)
        → slice_get changes n ≡ Some revision.changes → IsRevision files n revision
    revisions_agree n revision tree said = record {
      tree = λ path. tree path ∙ sym (trees_agree n path);
      changes = all.changed n ∙ ap (option_map entries) said;
    }

no_revision : (n : ℕ) → revision_in [] n ≡ None
unfolding revision_in
no_revision n = refl

no_root : (n : ℕ) → root_in [] n ≡ None
unfolding root_in
no_root n = rw (no_revision n) refl

no_changes : (n : ℕ) → changes_in [] n ≡ None
unfolding changes_in
no_changes n = rw (no_revision n) refl

pub none_tabled : AreTabled [] [] [] []
none_tabled = record {
  all = refl;
  tabled = refl;
  listed = refl;
  nodes = λ id. tt;
  roots = λ n. subst (IsAt [] None) (sym (no_root n)) tt;
  changed = no_changes;
  rows = λ n table at. absurd (none-some table at);
}
