-- A node revision that was laid out can be read behind the files of the revisions before.
use Rattle.std.proofs.Common.{◌≡◌, ◌<◌, ◌^◌, ◌⊎◌, inl, inr, ◌==◌, ◌&&◌, ℕ, zero, suc, Bool, true, false, List, [], ◌∷◌, length, Option, Some, None, Result}
use Rattle.std.proofs.{Common.{is_some, refl, sym, ap, subst, ◌∙◌, arith, if◌then◌else◌}, lemmas.Bool.false≢true}
use Rattle.std.specs.{Arc.arc_value, Cmp.Lexicographic.{pointwise, texts_ties}, FinMap.{entries, entries_sorted}, FinMap.Entries.{below_all, is_sorted}}
use Rattle.std.specs.{Ordering.{is_eq, is_lt}, declared.cmp.Ordering.Ordering, declared.cmp.Ordering.TheVariants.{Less, Equal, Greater}}
use Rattle.std.specs.{Prelude.{IfSome, IsSome, IsSomeAnd, T, option_and_then, option_map, slice_get}, Result.result_ok}
use Rattle.shared_map.specs.Entries.{by_bytes}
use Rattle.svnpath.specs.{Components.IsRightPath, PathLaws.same_component_refl, Paths.{Component, same_component}}
use Rattle.repo_api.specs.{Properties.PropertyList, declared.entry.Content.Content}
use Rattle.repo_api.specs.declared.entry.Content.TheVariants as contents
use Rattle.noderevs.specs.{Held.node_at, declared.node_rev.NodeId.NodeId, declared.node_rev.NodeRev.NodeRev}
use Rattle.fsfs_text.specs.{declared.id.FileId.FileId, declared.representation.Representation.Representation, declared.fault.FileFault.FileFault}
use Rattle.fsfs_nodes.specs.{declared.entries.DirectoryEntry.DirectoryEntry, declared.entries.EntryKind.EntryKind}
use Rattle.fsfs_nodes.specs.{declared.entries.EntryKind.TheVariants.{Directory, File}, declared.node.FileNode.FileNode}
use Rattle.fsfs.specs.{Whole.file_piece, declared.piece.FilePiece.FilePiece, Files.{Piece, brought, named_line}}
use Rattle.fsfs.specs.Pieces as reading
use Rattle.fsfs_nodes.specs.Properties as folder
use Rattle.filed_trees.specs.Pieces.{RevisionBytes, content_by, entries_at, entry_named, piece_in, text_in}
use Rattle.filed_trees.specs.Readable.{AreEntries, HasPlaced, IsKept, IsReadable, IsTabled, kind_before, properties_before, text_before}
use Rattle.filed_trees.specs.{Tables.{IsFiled, IsPlaced, placed_in}, declared.placed.Placed.Placed, declared.table.Table.Table}
use Rattle.filed_writing.specs.Layout as layout
use Rattle.filed_writing.specs.{Layout.{comes, content_of, entry_of, file_id, made_from, piece_of}, Pieces.{Before, Brings, Copy, all_some, brings}}
use Rattle.filed_writing.specs.Pieces.{dump_before, dump_in, kind_of, properties_dump, properties_kept, properties_of, some_bytes, text_of_before}
use Rattle.filed_writing.specs.{declared.counter.Counter.Counter, declared.revision.Revision.Revision, Blocks.{IsRightHere, PropertiesFit}}
use Rattle.filed_laws.proofs.{Changing.{Split, split}, Entering.directory, Fitting.body_long, Options.if_some}
use Rattle.filed_laws.proofs.{Before.{IsBefore, filed_before, made_before, was_file}, Changed.read_path}
use Rattle.filed_laws.proofs.{Listed.{AreKnownIds, HasEntry, entries_fit, entry_parts, no_file, was_directory}, Properties.some_dump}
use Rattle.filed_laws.proofs.Entering as entering
use Rattle.filed_laws.proofs.Listed as listed

-- ---- lines that are kept

-- nothing came: the line is that of something before
record IsKeptLine (before : Option Before) (content : Brings) : Type 0 where
  p : Before
  is : before ≡ Some p
  line : content.kept ≡ p.1

abbrev chosen : Bool → List ℕ → Before → Brings
chosen same bytes before = if same then record { new = None; kept = before.1 } else record { new = some_bytes bytes; kept = None }

kept_line : (bytes : List ℕ) (before : Option Before) (content : Brings) → brings bytes before ≡ content → IsSome content.kept → IsKeptLine before content
kept_line bytes before content same some =
    subst (λ (b : Brings). IsKeptLine before b) same (by before (subst (λ (b : Brings). IsSome b.kept) (sym same) some))
  where
    one : (p : Before) (c : Bool) → IsSome (chosen c bytes p).kept → IsKeptLine (Some p) (chosen c bytes p)
    one p true some = record { p = p; is = refl; line = refl }
    one p false some = absurd (false≢true some)

    by : (o : Option Before) → IsSome (brings bytes o).kept → IsKeptLine o (brings bytes o)
    by None some = absurd (false≢true some)
    by (Some p) some = one p (pointwise ◌==◌ p.0 bytes) some

both_files : (a b : Content) (s t : List ℕ) → a ≡ contents.File s → b ≡ contents.File t → kind_of a ≡ kind_of b
both_files a b s t first second = ap kind_of first ∙ sym (ap kind_of second)

both_directories : (a b : Content) → a ≡ contents.Directory → b ≡ contents.Directory → kind_of a ≡ kind_of b
both_directories a b first second = ap kind_of first ∙ sym (ap kind_of second)

line_before : (p : Before) (bytes : List ℕ) (line kept : Option Representation) → p ≡ (bytes, line) → kept ≡ p.1 → line ≡ kept
line_before p bytes line kept same is = sym (ap (λ (q : Before). q.1) same) ∙ sym is

is_kept : (n offset : ℕ) (new : Option (List ℕ)) (kept before : Option Representation) → (IsSome kept → before ≡ kept)
    → IsKept (named_line n offset new kept) new before
is_kept n offset (Some body) kept before h = tt
is_kept n offset None None before h = tt
is_kept n offset None (Some l) before h = h refl

kind_read : (fs : RevisionBytes) (line : Option Representation) (kind : EntryKind) (content : Content) → content_by fs line kind ≡ Some content
    → kind ≡ kind_of content
kind_read fs line File content e = by (text_in fs line) e
  where
    by : (o : Option (List ℕ)) → option_map contents.File o ≡ Some content → File ≡ kind_of content
    by None e = absurd (cc e)
    by (Some t) e = let same : contents.File t ≡ content = cc e in ap kind_of same
kind_read fs line Directory content e = by (entries_at fs line) e
  where
    by : (o : Option (List DirectoryEntry)) → option_map (λ es. contents.Directory) o ≡ Some content → Directory ≡ kind_of content
    by None e = absurd (cc e)
    by (Some es) e = let same : contents.Directory ≡ content = cc e in ap kind_of same

-- ---- entries that came

abbrev Rows : Type 0
Rows = List (Component × NodeId)

is_true : (b : Bool) → T b → b ≡ true
is_true true h = refl
is_true false h = absurd h

both_true : (a b : Bool) → (a && b) ≡ true → (a ≡ true) × (b ≡ true)
both_true true b h = (refl, h)
both_true false b h = absurd (false≢true h)

not_less : (o : Ordering) → is_eq o ≡ true → is_lt o ≡ true → ⊥
not_less Less same less = false≢true same
not_less Equal same less = false≢true less
not_less Greater same less = false≢true less

below_at : (name : Component) (rows : Rows) (k : ℕ) (y : Component × NodeId) → below_all by_bytes name rows ≡ true → slice_get rows k ≡ Some y
    → is_lt (by_bytes name y.0) ≡ true
below_at name [] k y below is = absurd (cc is)
below_at name (e ∷ rows) zero y below is =
    let same : e ≡ y = cc is in
    subst (λ (x : Component × NodeId). is_lt (by_bytes name x.0) ≡ true) same (both_true (is_lt (by_bytes name e.0)) (below_all by_bytes name rows) below).0
below_at name (e ∷ rows) (suc k) y below is = below_at name rows k y (both_true (is_lt (by_bytes name e.0)) (below_all by_bytes name rows) below).1 is

-- the first has no name that another has
first_apart : (e : Component × NodeId) (rows : Rows) (k : ℕ) (y : Component × NodeId) → below_all by_bytes e.0 rows ≡ true → slice_get rows k ≡ Some y → e.0 ≡ y.0 → ⊥
first_apart e rows k y below is same =
    let less : is_lt (by_bytes y.0 y.0) ≡ true = subst (λ (n : Component). is_lt (by_bytes n y.0) ≡ true) same (below_at e.0 rows k y below is) in
    not_less (by_bytes y.0 y.0) (sym (texts_ties y.0 y.0) ∙ same_component_refl y.0) less

rows_apart : (rows : Rows) → is_sorted by_bytes rows ≡ true → (j k : ℕ) (x y : Component × NodeId) → slice_get rows j ≡ Some x → slice_get rows k ≡ Some y
    → x.0 ≡ y.0 → j ≡ k
rows_apart [] rise j k x y at_j at_k same = absurd (cc at_j)
rows_apart (e ∷ rows) rise zero zero x y at_j at_k same = refl
rows_apart (e ∷ rows) rise zero (suc k) x y at_j at_k same =
    let first : e ≡ x = cc at_j in
    absurd (first_apart e rows k y (both_true (below_all by_bytes e.0 rows) (is_sorted by_bytes rows) rise).0 at_k (ap (λ (z : Component × NodeId). z.0) first ∙ same))
rows_apart (e ∷ rows) rise (suc j) zero x y at_j at_k same =
    let first : e ≡ y = cc at_k in
    absurd (first_apart e rows j x (both_true (below_all by_bytes e.0 rows) (is_sorted by_bytes rows) rise).0 at_j (ap (λ (z : Component × NodeId). z.0) first ∙ sym same))
rows_apart (e ∷ rows) rise (suc j) (suc k) x y at_j at_k same =
    ap suc (rows_apart rows (both_true (below_all by_bytes e.0 rows) (is_sorted by_bytes rows) rise).1 j k x y at_j at_k same)

-- the node of an entry
record OfEntry (r : Revision) (written : List FileId) (rows : Rows) (j : ℕ) (a : DirectoryEntry) : Type 0 where
  kid : Component × NodeId
  there : slice_get rows j ≡ Some kid
  parts : HasEntry kid.0 (file_id r written kid.1) a

of_entry : (r : Revision) (written : List FileId) (rows : Rows) (es : List DirectoryEntry) → all_some (entry_of r written) rows ≡ Some es
    → (j : ℕ) (a : DirectoryEntry) → slice_get es j ≡ Some a → OfEntry r written rows j a
of_entry r written [] es e j a at =
    let same : [] ≡ es = cc e in
    let none : slice_get [] j ≡ Some a = ap (λ (l : List DirectoryEntry). slice_get l j) same ∙ at in absurd (cc none)
of_entry r written (kid ∷ rows) es e j a at = by j (ap (λ (l : List DirectoryEntry). slice_get l j) (sym parts.whole) ∙ at) (λ i is. of_entry r written rows parts.rest parts.rest_is i a is)
  where
    parts : Split (entry_of r written) kid rows es
    parts = split (entry_of r written) kid rows es e

    by : (i : ℕ) → slice_get (parts.first ∷ parts.rest) i ≡ Some a → ((m : ℕ) → slice_get parts.rest m ≡ Some a → OfEntry r written rows m a)
        → OfEntry r written (kid ∷ rows) i a
    by zero is later =
        let same : parts.first ≡ a = cc is in record {
          kid = kid;
          there = refl;
          parts = subst (λ (x : DirectoryEntry). HasEntry kid.0 (file_id r written kid.1) x) same
              (entry_parts kid.0 (node_at r.nodes.now kid.1) (file_id r written kid.1) parts.first parts.first_is);
        }
    by (suc i) is later = let o = later i is in record { kid = o.kid; there = o.there; parts = o.parts }

named_known : (K : FileId → Type 0) (es : List DirectoryEntry) → ((j : ℕ) (a : DirectoryEntry) → slice_get es j ≡ Some a → K a.id) → (name : Component)
    → IfSome (entry_named name es) K
named_known K [] each name = tt
named_known K (a ∷ es) each name =
    if_some K (same_component a.name name) (Some a.id) (entry_named name es) (each 0 a refl) (named_known K es (λ j b at. each (suc j) b at) name)

are_entries : (r : Revision) (written : List FileId) (node : NodeRev) (K : FileId → Type 0) → ((id : NodeId) (file : FileId) → file_id r written id ≡ Some file → K file)
    → (es : List DirectoryEntry) → layout.entries_of r written node ≡ Some es → AreEntries K es
are_entries r written node K known es listed = record {
  once = λ j k a b at_j at_k same.
      let x = of_entry r written (entries node.kids) es listed j a at_j in
      let y = of_entry r written (entries node.kids) es listed k b at_k in
      rows_apart (entries node.kids) (is_true (is_sorted by_bytes (entries node.kids)) (entries_sorted node.kids)) j k x.kid y.kid x.there y.there
      (sym x.parts.name_is ∙ same ∙ y.parts.name_is);
  known = named_known K es (λ j a at. let x = of_entry r written (entries node.kids) es listed j a at in known x.kid.1 a.id x.parts.id_is);
}

none_are : (K : FileId → Type 0) → AreEntries K []
none_are K = record { once = λ j k a b at_j at_k same. absurd (cc at_j); known = λ name. tt }

-- ---- what came

some_or_none : (bytes : List ℕ) → (some_bytes bytes ≡ None) ⊎ ((some_bytes bytes ≡ Some bytes) × (bytes ≡ [] → ⊥))
some_or_none [] = inl refl
some_or_none (b ∷ bytes) = inr (refl, (λ e. absurd (cc e)))

new_or_none : (bytes : List ℕ) (before : Option Before) → ((brings bytes before).new ≡ None) ⊎ (((brings bytes before).new ≡ Some bytes) × (bytes ≡ [] → ⊥))
new_or_none bytes None = some_or_none bytes
new_or_none bytes (Some p) = by (pointwise ◌==◌ p.0 bytes)
  where
    by : (c : Bool) → ((chosen c bytes p).new ≡ None) ⊎ (((chosen c bytes p).new ≡ Some bytes) × (bytes ≡ [] → ⊥))
    by true = inl refl
    by false = some_or_none bytes

-- what came of properties can be read
list_read : (list : PropertyList) (new : Option (List ℕ)) → PropertiesFit list → length (brought new) < 2 ^ 64
    → (new ≡ None) ⊎ ((new ≡ Some (properties_dump list)) × (properties_dump list ≡ [] → ⊥))
    → IfSome new (λ body. IsSome (result_ok (folder.properties_of body)))
list_read list new fit small (inl none) = subst (λ (o : Option (List ℕ)). IfSome o (λ body. IsSome (result_ok (folder.properties_of body)))) (sym none) tt
list_read list new fit small (inr some) =
    let long : length (brought (Some (properties_dump list))) < 2 ^ 64 = subst (λ (o : Option (List ℕ)). length (brought o) < 2 ^ 64) some.0 small in
    let short : length (properties_dump list) < 2 ^ 64 = omega (arith, long, body_long (properties_dump list)) in
    subst (λ (o : Option (List ℕ)). IfSome o (λ body. IsSome (result_ok (folder.properties_of body)))) (sym some.0)
    (ap (λ (x : Result PropertyList FileFault). is_some (result_ok x)) (some_dump list fit some.1 short))

-- the predecessor of a line of properties that is kept
with_properties : (before : Option (NodeRev × Placed)) (p : Before) → option_map (λ b. (dump_before b, properties_kept b)) before ≡ Some p
    → (b : NodeRev × Placed) × (before ≡ Some b) × (b.1.properties ≡ p.1)
with_properties None p e = absurd (cc e)
with_properties (Some b) p e = let same : (dump_before b, properties_kept b) ≡ p = cc e in (b, refl, ap (λ (q : Before). q.1) same)

module _ (r : Revision) (fs : RevisionBytes) (tables : List Table)
    (earlier : (id : NodeId) → id.rev < length r.tables.now → IsPlaced fs tables id (node_at r.nodes.now id) (placed_in r.tables.now id)) where
  -- what is placed in the table of its revision is tabled
  pub tabled_at : (id : NodeId) (p : Placed) → placed_in r.tables.now id ≡ Some p → p.id.revision ≡ id.rev → IsTabled r.tables.now p.id
  tabled_at id p is rev = subst (λ n. IsSomeAnd (slice_get r.tables.now n) (λ (t : Table). HasPlaced t.placed.items p.id)) (sym rev) (by (slice_get r.tables.now id.rev) is)
    where
      by : (o : Option Table) → option_and_then (λ (t : Table). slice_get t.placed.items id.place) o ≡ Some p → IsSomeAnd o (λ (t : Table). HasPlaced t.placed.items p.id)
      by None e = absurd (cc e)
      by (Some t) e = (id.place, subst (λ (q : Option Placed). IsSomeAnd q (λ x. x.id ≡ p.id)) (sym e) refl)

  module _ (node : NodeRev) (path : IsRightPath node.path) (right : IsRightHere r node) (K : FileId → Type 0) (written : List FileId)
      (known : (id : NodeId) (file : FileId) → file_id r written id ≡ Some file → K file) (ids : AreKnownIds r tables written)
      (offset : ℕ) (next : Counter) (copy : Copy) (content : Brings)
      (content_is : content_of r written node (comes r node next) ≡ Some content) (small : length (brought content.new) < 2 ^ 64)
      (small_properties : length (brought (properties_of node (made_from r node)).new) < 2 ^ 64) where
    abbrev piece : Piece
    piece = piece_of r offset node (comes r node next) copy content

    abbrev before : Option (NodeRev × Placed)
    before = made_from r node

    -- the node revision before
    record Origin (b : NodeRev × Placed) : Type 0 where
      from : IsBefore r b
      filed : IsFiled fs tables from.id b.0 b.1

    origin : (b : NodeRev × Placed) → before ≡ Some b → Origin b
    origin b is = let from = made_before r node b is in record { from = from; filed = filed_before r fs tables b earlier from }

    piece_before : (b : NodeRev × Placed) → before ≡ Some b → (o : Origin b) → option_and_then (piece_in fs) piece.node.predecessor ≡ Some o.filed.piece
    piece_before b is o = ap (λ (q : Option (NodeRev × Placed)). option_and_then (piece_in fs) (option_map (λ c. c.1.id) q)) is ∙ o.filed.there

    text_is : (b : NodeRev × Placed) → before ≡ Some b → text_before fs piece.node ≡ b.1.text
    text_is b is =
        let o = origin b is in
        ap (λ (q : Option FilePiece). option_and_then (λ (n : FileNode). n.text) (option_map (λ p. p.node) q)) (piece_before b is o)
        ∙ sym (ap (λ (p : Placed). p.text) o.filed.is)

    properties_are : (b : NodeRev × Placed) → before ≡ Some b → properties_before fs piece.node ≡ b.1.properties
    properties_are b is =
        let o = origin b is in
        ap (λ (q : Option FilePiece). option_and_then (λ (n : FileNode). n.properties) (option_map (λ p. p.node) q)) (piece_before b is o)
        ∙ sym (ap (λ (p : Placed). p.properties) o.filed.is)

    kind_is : (b : NodeRev × Placed) → before ≡ Some b → kind_before fs piece.node ≡ Some (kind_of (arc_value b.0.content))
    kind_is b is =
        let o = origin b is in
        ap (λ (q : Option FilePiece). option_map (λ (n : FileNode). n.kind) (option_map (λ p. p.node) q)) (piece_before b is o)
        ∙ ap (λ (k : EntryKind). Some k) (kind_read fs o.filed.piece.node.text o.filed.piece.node.kind (arc_value b.0.content) o.filed.content)

    record Keeps : Type 0 where
      b : NodeRev × Placed
      is : before ≡ Some b
      line : b.1.text ≡ content.kept
      kind : kind_of (arc_value b.0.content) ≡ kind_of (arc_value node.content)

    keeps : IsSome content.kept → Keeps
    keeps some = by (arc_value node.content) refl content_is
      where
        by : (c : Content) → arc_value node.content ≡ c → layout.content_by r written node before c ≡ Some content → Keeps
        by (contents.File text) is e =
            let same : brings text (text_of_before before) ≡ content = cc e in
            let k = kept_line text (text_of_before before) content same some in
            let w = was_file before k.p k.is in record {
              b = w.before;
              is = w.is;
              line = line_before k.p w.text w.before.1.text content.kept w.same k.line;
              kind = both_files (arc_value w.before.0.content) (arc_value node.content) w.text text w.file is;
            }
        by contents.Directory is e =
            let has = directory r written node before content e in
            let k = kept_line (dump_in r.number has.entries) has.before content has.brings_is some in
            let w = was_directory r written node before k.p (has.before_is ∙ ap (λ (q : Option Before). Some q) k.is) in record {
              b = w.before;
              is = w.is;
              line = line_before k.p (dump_in r.number w.listed) w.before.1.text content.kept w.same k.line;
              kind = both_directories (arc_value w.before.0.content) (arc_value node.content) (no_file (arc_value w.before.0.content) w.directory) is;
            }

    entries_are : IsSomeAnd (result_ok (reading.entries_in (file_piece piece))) (AreEntries K)
    entries_are = by (arc_value node.content) refl content_is
      where
        by : (c : Content) → arc_value node.content ≡ c → layout.content_by r written node before c ≡ Some content
            → IsSomeAnd (result_ok (reading.entries_of_kind (kind_of (arc_value node.content)) content.new)) (AreEntries K)
        by (contents.File text) is e =
            subst (λ (c : Content). IsSomeAnd (result_ok (reading.entries_of_kind (kind_of c) content.new)) (AreEntries K)) (sym is) (none_are K)
        by contents.Directory is e =
            subst (λ (c : Content). IsSomeAnd (result_ok (reading.entries_of_kind (kind_of c) content.new)) (AreEntries K)) (sym is) (came (new_or_none (dump_in r.number has.entries) has.before))
          where
            has : entering.HasEntries r written node before content
            has = directory r written node before content e

            same_new : (brings (dump_in r.number has.entries) has.before).new ≡ content.new
            same_new = ap (λ (b : Brings). b.new) has.brings_is

            came : ((brings (dump_in r.number has.entries) has.before).new ≡ None)
                ⊎ (((brings (dump_in r.number has.entries) has.before).new ≡ Some (dump_in r.number has.entries)) × (dump_in r.number has.entries ≡ [] → ⊥))
                → IsSomeAnd (result_ok (reading.entries_of_kind Directory content.new)) (AreEntries K)
            came (inl none) =
                subst (λ (o : Option (List ℕ)). IsSomeAnd (result_ok (reading.entries_of_kind Directory o)) (AreEntries K)) (sym none ∙ same_new) (none_are K)
            came (inr some) =
                let es : List DirectoryEntry = has.entries in
                let fit = entries_fit r tables written ids (entries node.kids) es has.listed in
                let long : length (brought (Some (dump_in r.number es))) < 2 ^ 64 =
                subst (λ (o : Option (List ℕ)). length (brought o) < 2 ^ 64) (sym same_new ∙ some.0) small in
                let short : length (dump_in r.number es) < 2 ^ 64 = omega (arith, long, body_long (dump_in r.number es)) in
                subst (λ (o : Option (List ℕ)). IsSomeAnd (result_ok (reading.entries_of_kind Directory o)) (AreEntries K)) (sym some.0 ∙ same_new)
                (subst (λ (x : Result (List DirectoryEntry) FileFault). IsSomeAnd (result_ok x) (AreEntries K)) (sym (listed.some_dump r.number es fit some.1 short))
                (are_entries r written node K known es has.listed))

    predecessor_is : (o : Option (NodeRev × Placed)) → before ≡ o → IfSome (option_map (λ b. b.1.id) o) (IsTabled r.tables.now)
    predecessor_is None is = tt
    predecessor_is (Some b) is = let o = origin b is in tabled_at o.from.id b.1 o.from.placed o.filed.revision

    pub readable : IsReadable fs r.tables.now K (file_piece piece)
    readable = record {
      path = ap is_some (read_path node.path path);
      before = predecessor_is before refl;
      text = is_kept r.number offset content.new content.kept (text_before fs piece.node) (λ some. let k = keeps some in text_is k.b k.is ∙ k.line);
      kind = λ some none.
          let k = keeps (subst (λ (o : Option (List ℕ)). IsSome (named_line r.number offset o content.kept)) none some) in
          kind_is k.b k.is ∙ ap (λ (x : EntryKind). Some x) k.kind;
      entries = entries_are;
      properties = is_kept r.number _ (properties_of node before).new (properties_of node before).kept (properties_before fs piece.node) (λ some.
          let k = kept_line (properties_dump (arc_value node.properties)) (option_map (λ b. (dump_before b, properties_kept b)) before) (properties_of node before) refl some in
          let b = with_properties before k.p k.is in
          properties_are b.0 b.1 ∙ b.2 ∙ sym k.line);
      list = list_read (arc_value node.properties) (properties_of node before).new right.properties small_properties
          (new_or_none (properties_dump (arc_value node.properties)) (option_map (λ b. (dump_before b, properties_kept b)) before));
    }
