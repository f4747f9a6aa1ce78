-- A node revision that was laid out says its node.
use Rattle.std.proofs.Common.{◌≡◌, ◌<◌, ◌^◌, ◌+◌, ℕ, suc, List, [], ◌∷◌, ◌++◌, length, Option, Some, None, is_some, refl, sym, ap, subst, ◌∙◌, if◌then◌else◌}
use Rattle.std.specs.{Arc.arc_value, Prelude.{IfSome, option_map}}
use Rattle.svnpath.specs.{Components.IsRightPath, Paths.Component}
use Rattle.repo_api.specs.{declared.entry.Content.Content, declared.entry.Mark.Mark, declared.entry.Mark.TheVariants.Made, Properties.PropertyList}
use Rattle.revision_data.specs.Found.{found}
use Rattle.repo_api.specs.declared.entry.Content.TheVariants as contents
use Rattle.noderevs.specs.{Held.node_at, Nodes.{kid_of, mark_of}, declared.node_rev.NodeId.NodeId, declared.node_rev.NodeRev.NodeRev}
use Rattle.fsfs_text.specs.{declared.id.FileId.FileId, declared.representation.Representation.Representation}
use Rattle.fsfs.specs.{Files.{Piece, brought, named_line}, Whole.file_piece}
use Rattle.filed_trees.specs.{Changes.{ChangeRows, changes_in}, Comparing.{CameWith, HasContent, HasEntries, IsOfLast}}
use Rattle.filed_trees.specs.{Pieces.{RevisionBytes, content_by, entries_at, entries_by, properties_in, text_in}, Trees.own_in}
use Rattle.filed_trees.specs.{Tables.{IsAt, IsFiled, IsPlaced, placed_in, placed_of}, declared.placed.Placed.Placed, declared.table.Table.Table}
use Rattle.filed_writing.specs.Layout as layout
use Rattle.filed_writing.specs.{Layout.{comes, content_of, made_from, piece_of}, Pieces.{Before, Brings, Copy, brings, dump_before, dump_in, kind_of}}
use Rattle.filed_writing.specs.{Pieces.{properties_dump, properties_kept, properties_of, text_of_before}, declared.counter.Counter.Counter}
use Rattle.filed_writing.specs.{declared.revision.Revision.Revision, Blocks.{IsRightHere, own_from}}
use Rattle.filed_laws.proofs.{Entering.directory, Options.of_some}
use Rattle.filed_laws.proofs.{Before.{IsBefore, directory_entries, filed_before, made_before, properties_filed, text_filed, text_given}, Changed.read_path}
use Rattle.filed_laws.proofs.{Given.{Given, given}, Listed.{AreKnownIds, entries_given}, Own.{own_earlier, own_given}, Properties.properties_given}

given_as : (fs : RevisionBytes) (n offset : ℕ) (bytes : List ℕ) (before : Option Before) (content : Brings) → brings bytes before ≡ content
    → length (brought content.new) < 2 ^ 64 → CameWith fs n (named_line n offset content.new content.kept) content.new
    → Given fs bytes before (named_line n offset content.new content.kept)
given_as fs n offset bytes before content same small with =
    subst (λ (b : Brings). Given fs bytes before (named_line n offset b.new b.kept)) same
    (given fs n offset bytes before (subst (λ (b : Brings). length (brought b.new) < 2 ^ 64) (sym same) small)
    (subst (λ (b : Brings). CameWith fs n (named_line n offset b.new b.kept) b.new) (sym same) with))

-- the line of the properties that were before
kept_properties : (fs : RevisionBytes) (o : Option (NodeRev × Placed))
    → ((b : NodeRev × Placed) → o ≡ Some b → properties_in fs b.1.properties ≡ Some (arc_value b.0.properties))
    → (p : Before) → option_map (λ b. (dump_before b, properties_kept b)) o ≡ Some p
    → (old : PropertyList) × (p.0 ≡ properties_dump old) × (properties_in fs p.1 ≡ Some old)
kept_properties fs None each p e = absurd (cc e)
kept_properties fs (Some b) each p e =
    let same : (dump_before b, properties_kept b) ≡ p = cc e in
    (arc_value b.0.properties, ap (λ (q : Before). q.0) (sym same), ap (λ (q : Before). properties_in fs q.1) (sym same) ∙ each b refl)

module _ (r : Revision) (fs : RevisionBytes) (table : Table) (rows : ChangeRows) (long : length fs ≡ suc r.number)
    (said : changes_in fs r.number ≡ Some rows) (rows_are : rows ≡ r.changes.now)
    (earlier : (id : NodeId) → id.rev < length r.tables.now
    → IsPlaced fs (r.tables.now ++ table ∷ []) id (node_at r.nodes.now id) (placed_in r.tables.now id))
    (older : (id : NodeId) → IfSome (placed_in r.tables.now id) (λ placed. placed.id.revision < r.number)) where
  abbrev tables : List Table
  tables = r.tables.now ++ table ∷ []

  -- what a node was made from is filed
  pub record WasFiled (b : NodeRev × Placed) : Type 0 where
    pub before : IsBefore r b
    pub filed : IsFiled fs tables before.id b.0 b.1
    pub less : b.1.id.revision < r.number

  pub was_filed : (node : NodeRev) (b : NodeRev × Placed) → made_from r node ≡ Some b → WasFiled b
  was_filed node b is =
      let before = made_before r node b is in record {
        before = before;
        filed = filed_before r fs tables b earlier before;
        less = of_some (λ (p : Placed). p.id.revision < r.number) (placed_in r.tables.now before.id) b.1 before.placed (older before.id);
      }

  module _ (node : NodeRev) (path : IsRightPath node.path) (right : IsRightHere r node)
      (no_kids : (text : List ℕ) → arc_value node.content ≡ contents.File text → (name : Component) → kid_of name node ≡ None)
      (written : List FileId) (known : AreKnownIds r tables written) (offset : ℕ) (next : Counter) (copy : Copy) (content : Brings)
      (content_is : content_of r written node (comes r node next) ≡ Some content) (small : length (brought content.new) < 2 ^ 64)
      (small_properties : length (brought (properties_of node (made_from r node)).new) < 2 ^ 64)
      (last : IsOfLast fs r.number (file_piece (piece_of r offset node (comes r node next) copy content))) where
    abbrev piece : Piece
    piece = piece_of r offset node (comes r node next) copy content

    abbrev before : Option (NodeRev × Placed)
    before = made_from r node

    abbrev line : Option Representation
    line = named_line r.number offset content.new content.kept

    old_entries : (b : NodeRev × Placed) → before ≡ Some b → arc_value b.0.content ≡ contents.Directory → HasEntries fs tables b.1.text b.0.kids
    old_entries b is directory_is =
        let f = (was_filed node b is).filed in record {
          entries = f.entries;
          read = ap (λ (p : Placed). entries_at fs p.text) f.is
              ∙ directory_entries fs f.piece.node.text f.piece.node.kind f.entries (f.content ∙ ap (λ (c : Content). Some c) directory_is) f.read;
          kids = f.kids;
        }

    has_content : HasContent fs tables piece.node (arc_value node.content) node.kids
    has_content = by (arc_value node.content) refl content_is
      where
        by : (c : Content) → arc_value node.content ≡ c → layout.content_by r written node before c ≡ Some content
            → HasContent fs tables piece.node (arc_value node.content) node.kids
        by (contents.File text) is e =
            let brought_is : brings text (text_of_before before) ≡ content = cc e in
            let g = given_as fs r.number offset text (text_of_before before) content brought_is small last.text in
            let text_is : text_in fs line ≡ Some text =
            text_given fs text before line (λ b old made file. let w = was_filed node b made in text_filed fs tables w.before.id b.0 b.1 old w.filed file) g in
            record {
              content = ap (λ (c : Content). content_by fs line (kind_of c)) is ∙ ap (option_map contents.File) text_is ∙ ap (λ (c : Content). Some c) (sym is);
              entries = [];
              read = ap (λ (c : Content). entries_by fs line (kind_of c)) is;
              kids = λ name. subst (λ o. IsAt tables o None) (sym (no_kids text is name)) tt;
            }
        by contents.Directory is e =
            let has = directory r written node before content e in
            let g = given_as fs r.number offset (dump_in r.number has.entries) has.before content has.brings_is small last.text in
            let h = entries_given r fs tables written node before content line known old_entries has g in
            record {
              content = ap (λ (c : Content). content_by fs line (kind_of c)) is ∙ ap (option_map (λ es. contents.Directory)) h.read ∙ ap (λ (c : Content). Some c) (sym is);
              entries = h.entries;
              read = ap (λ (c : Content). entries_by fs line (kind_of c)) is ∙ h.read;
              kids = h.kids;
            }

    properties_are : properties_in fs piece.node.properties ≡ Some (arc_value node.properties)
    properties_are =
        let list : PropertyList = arc_value node.properties in
        let was : Option Before = option_map (λ b. (dump_before b, properties_kept b)) before in
        properties_given fs list was piece.node.properties right.properties
        (kept_properties fs before (λ b is. let w = was_filed node b is in properties_filed fs tables w.before.id b.0 b.1 w.filed))
        (given fs r.number (offset + length (brought content.new)) (properties_dump list) was small_properties last.properties)

    own_is : own_in fs piece.node.id ≡ Some (mark_of node.own)
    own_is =
        own_given fs r.number piece.node.id (file_piece piece) node.path rows before long refl last.there (read_path node.path path) said refl
        (λ b is. let w = was_filed node b is in sym (own_earlier fs r.number b.1.id long w.less) ∙ w.filed.own)
        ∙ ap (λ (l : ChangeRows). Some (if is_some (found l node.path) then Made r.number node.path else own_from (Made r.number node.path) before)) rows_are
        ∙ ap (λ (m : Mark). Some m) (sym right.own)

    -- a node revision that was laid out says its node
    pub filed : (id : NodeId) → id.rev ≡ r.number → IsFiled fs tables id node (placed_of piece.node)
    filed id rev = record {
      piece = file_piece piece;
      there = last.there;
      is = refl;
      revision = sym rev;
      path = read_path node.path path;
      content = has_content.content;
      properties = properties_are;
      own = own_is;
      entries = has_content.entries;
      read = has_content.read;
      kids = has_content.kids;
    }
