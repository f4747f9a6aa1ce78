-- What a node was made from stands in the files of the revisions before.
use Rattle.std.proofs.Common.{◌≡◌, ◌<◌, inl, inr, ℕ, List, length, Option, Some, None, refl, sym, ap, subst, ◌∙◌}
use Rattle.std.specs.{Arc.arc_value, Prelude.{option_and_then, option_map}}
use Rattle.repo_api.specs.declared.entry.Content.{Content}
use Rattle.repo_api.specs.declared.entry.Content.TheVariants as contents
use Rattle.noderevs.specs.{Held.node_at, declared.node_rev.NodeId.NodeId, declared.node_rev.NodeRev.NodeRev}
use Rattle.fsfs_text.specs.declared.representation.Representation.{Representation}
use Rattle.fsfs_nodes.specs.{declared.entries.DirectoryEntry.DirectoryEntry, declared.entries.EntryKind.EntryKind}
use Rattle.fsfs_nodes.specs.declared.entries.EntryKind.TheVariants.{File, Directory}
use Rattle.filed_trees.specs.{Pieces.{RevisionBytes, content_by, entries_at, entries_by, properties_in, text_in}, Tables.{IsFiled, IsPlaced, placed_in}}
use Rattle.filed_trees.specs.{declared.placed.Placed.Placed, declared.table.Table.Table}
use Rattle.filed_writing.specs.{Layout.made_from, Origins.predecessor_of, Pieces.{Before, text_before, text_of_before, with_both}}
use Rattle.filed_writing.specs.declared.revision.Revision.{Revision}
use Rattle.filed_laws.proofs.{Older.earlier_place, Given.Given}

-- it is a node of a revision before, with its place
pub record IsBefore (r : Revision) (before : NodeRev × Placed) : Type 0 where
  pub id : NodeId
  pub earlier : id.rev < length r.tables.now
  pub node : node_at r.nodes.now id ≡ Some before.0
  pub placed : placed_in r.tables.now id ≡ Some before.1

pub made_before : (r : Revision) (node : NodeRev) (before : NodeRev × Placed) → made_from r node ≡ Some before → IsBefore r before
made_before r node before is = by (predecessor_of r.nodes.now r.changes.now r.number node.path) is
  where
    both : (id : NodeId) (o : Option NodeRev) → node_at r.nodes.now id ≡ o → (q : Option Placed) → placed_in r.tables.now id ≡ q
        → with_both o q ≡ Some before → IsBefore r before
    both id None at q placed e = absurd (cc e)
    both id (Some n) at None placed e = absurd (cc e)
    both id (Some n) at (Some p) placed e =
        let same : (n, p) ≡ before = cc e in
        subst (λ b. IsBefore r b) same (record { id = id; earlier = earlier_place r.tables.now id p placed; node = at; placed = placed })

    by : (o : Option NodeId) → option_and_then (λ id. with_both (node_at r.nodes.now id) (placed_in r.tables.now id)) o ≡ Some before → IsBefore r before
    by None e = absurd (cc e)
    by (Some id) e = both id (node_at r.nodes.now id) refl (placed_in r.tables.now id) refl e

pub filed_before : (r : Revision) (fs : RevisionBytes) (tables : List Table) (before : NodeRev × Placed)
    → ((id : NodeId) → id.rev < length r.tables.now → IsPlaced fs tables id (node_at r.nodes.now id) (placed_in r.tables.now id))
    → (is : IsBefore r before) → IsFiled fs tables is.id before.0 before.1
filed_before r fs tables before earlier is =
    subst (λ o. IsPlaced fs tables is.id o (Some before.1)) is.node
    (subst (λ o. IsPlaced fs tables is.id (node_at r.nodes.now is.id) o) is.placed (earlier is.id is.earlier))

-- ---- what the line of one that is filed gives

file_text : (fs : RevisionBytes) (line : Option Representation) (kind : EntryKind) (text : List ℕ)
    → content_by fs line kind ≡ Some (contents.File text) → text_in fs line ≡ Some text
file_text fs line File text e = by (text_in fs line) e
  where
    by : (o : Option (List ℕ)) → option_map contents.File o ≡ Some (contents.File text) → o ≡ Some text
    by None e = absurd (cc e)
    by (Some t) e = let same : t ≡ text = cc e in ap (λ (x : List ℕ). Some x) same
file_text fs line Directory text e = absurd (by (entries_at fs line) e)
  where
    by : (o : Option (List DirectoryEntry)) → option_map (λ es. contents.Directory) o ≡ Some (contents.File text) → ⊥
    by None e = cc e
    by (Some es) e = cc e

pub directory_entries : (fs : RevisionBytes) (line : Option Representation) (kind : EntryKind) (es : List DirectoryEntry)
    → content_by fs line kind ≡ Some contents.Directory → entries_by fs line kind ≡ Some es → entries_at fs line ≡ Some es
directory_entries fs line Directory es e read = read
directory_entries fs line File es e read = absurd (by (text_in fs line) e)
  where
    by : (o : Option (List ℕ)) → option_map contents.File o ≡ Some contents.Directory → ⊥
    by None e = cc e
    by (Some t) e = cc e

pub text_filed : (fs : RevisionBytes) (tables : List Table) (id : NodeId) (node : NodeRev) (placed : Placed) (text : List ℕ)
    → IsFiled fs tables id node placed → arc_value node.content ≡ contents.File text → text_in fs placed.text ≡ Some text
text_filed fs tables id node placed text f is =
    ap (λ (p : Placed). text_in fs p.text) f.is
    ∙ file_text fs f.piece.node.text f.piece.node.kind text (f.content ∙ ap (λ (c : Content). Some c) is)

pub properties_filed : (fs : RevisionBytes) (tables : List Table) (id : NodeId) (node : NodeRev) (placed : Placed)
    → IsFiled fs tables id node placed → properties_in fs placed.properties ≡ Some (arc_value node.properties)
properties_filed fs tables id node placed f = ap (λ (p : Placed). properties_in fs p.properties) f.is ∙ f.properties

-- ---- texts

-- the predecessor's text, if that is a file
pub record WasFile (predecessor : Option (NodeRev × Placed)) (p : Before) : Type 0 where
  pub before : NodeRev × Placed
  pub is : predecessor ≡ Some before
  pub text : List ℕ
  pub file : arc_value before.0.content ≡ contents.File text
  pub same : p ≡ (text, before.1.text)

pub was_file : (predecessor : Option (NodeRev × Placed)) (p : Before) → text_of_before predecessor ≡ Some p → WasFile predecessor p
was_file None p e = absurd (cc e)
was_file (Some before) p e = by (arc_value before.0.content) refl e
  where
    by : (c : Content) → arc_value before.0.content ≡ c → text_before c before.1.text ≡ Some p → WasFile (Some before) p
    by contents.Directory is e = absurd (cc e)
    by (contents.File text) is e = record { before = before; is = refl; text = text; file = is; same = sym (cc e) }

-- a line that gives a text
pub text_given : (fs : RevisionBytes) (text : List ℕ) (predecessor : Option (NodeRev × Placed)) (line : Option Representation)
    → ((before : NodeRev × Placed) (old : List ℕ) → predecessor ≡ Some before → arc_value before.0.content ≡ contents.File old
    → text_in fs before.1.text ≡ Some old)
    → Given fs text (text_of_before predecessor) line → text_in fs line ≡ Some text
text_given fs text predecessor line kept (inl none) = ap (text_in fs) none.1 ∙ ap (λ (t : List ℕ). Some t) (sym none.0)
text_given fs text predecessor line kept (inr (inl new)) = ap (text_in fs) new.1 ∙ new.2
text_given fs text predecessor line kept (inr (inr old)) =
    let was = was_file predecessor old.0 old.1 in
    ap (text_in fs) (old.3 ∙ ap (λ (p : Before). p.1) was.same) ∙ kept was.before was.text was.is was.file
    ∙ ap (λ (t : List ℕ). Some t) (sym (ap (λ (p : Before). p.0) was.same) ∙ old.2)
