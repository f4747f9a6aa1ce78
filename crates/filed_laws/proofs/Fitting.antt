-- What the lines of node revisions say can be written.
use Rattle.std.proofs.Common.{◌≡◌, ◌+◌, ◌<◌, ◌≤◌, ◌^◌, ℕ, zero, suc, List, [], ◌∷◌, ◌++◌, length, Option, Some, None, sym, ap, subst, arith}
use Rattle.std.proofs.lemmas.List.{length-append, flat_map_more}
use Rattle.std.proofs.lemmas.List.Elements.{All-append, All-cons, All-contains_itself, All-head, All-nil, All-tail}
use Rattle.std.specs.{Prelude.{All, IfSome, codes, slice_index}, Int.{w32, to_le_bytes, bytes_low_first, byte_at}, Arc.arc_value}
use Rattle.hex.specs.Hex.{IsBytes}
use Rattle.md5.specs.Md5.{digest_bytes, md5}
use Rattle.md5.proofs.StandardFacts.{length-md5}
use Rattle.svnpath.specs.Texts.{path_text}
use Rattle.noderevs.specs.declared.node_rev.NodeRev.{NodeRev}
use Rattle.fsfs_nodes.specs.{declared.current.NextIds.NextIds, Fits.{NodeFits, PlaceFits}, Nodes.node_bytes, Bodies.body_bytes}
use Rattle.fsfs_text.specs.{Fits.{IdFits, RepresentationFits}, declared.representation.Representation.Representation}
use Rattle.fsfs.specs.Files.{Piece, PiecesFit, brought, named_line, piece_bytes, pieces_bytes}
use Rattle.filed_trees.specs.declared.placed.Placed.{Placed}
use Rattle.filed_writing.specs.{declared.counter.Counter.Counter, declared.revision.Revision.Revision}
use Rattle.filed_writing.specs.Layout.{comes, copies_here, made_from, next_after, nodes_of, piece_of, pieces_here}
use Rattle.filed_writing.specs.Pieces.{Brings, Copy, count_of, counter_in, ids_of, properties_of, same_place}
use Rattle.filed_laws.specs.Fitting.{AreNamedNodes, IsNamed, PlacedFits, RevisionFits}
use Rattle.filed_laws.proofs.{Coming.{content_kept, from_tables, properties_are_kept}, Made.{AreMade, IsMade, here_made}, Named.text_free}
use Rattle.filed_laws.proofs.Options.{if_some, map_some, more_some, of_some}
use Rattle.filed_laws.proofs.Copies.{AllNamed, CopiesFit, CopyFits, CounterFits, copies_fit, copyfrom_fits, first_fits, later_fits, node_fits}

-- ---- digests

byte_at-is_byte : (i n : ℕ) → byte_at i n < 256
byte_at-is_byte zero n = omega arith
byte_at-is_byte (suc i) n = omega arith

bytes_low_first-are_bytes : (i k n : ℕ) → All (λ b. b < 256) (bytes_low_first i k n)
bytes_low_first-are_bytes i zero n = All-nil _
bytes_low_first-are_bytes i (suc k) n =
    All-cons (λ b. b < 256) (byte_at i n) (bytes_low_first (suc i) k n) (byte_at-is_byte i n) (bytes_low_first-are_bytes (suc i) k n)

digest_bytes-are_bytes : (h : List ℕ) (n : ℕ) → All (λ b. b < 256) (digest_bytes h n)
unfolding digest_bytes
digest_bytes-are_bytes h zero = All-nil _
digest_bytes-are_bytes h (suc n) =
    All-append (λ b. b < 256) (digest_bytes h n) (to_le_bytes w32 (slice_index h n)) (digest_bytes-are_bytes h n) (bytes_low_first-are_bytes 0 4 (slice_index h n))

md5-are_bytes : (m : List ℕ) → All (λ b. b < 256) (md5 m)
unfolding md5
md5-are_bytes m = digest_bytes-are_bytes _ 4

each_byte : (bytes : List ℕ) → All (λ b. b < 256) bytes → IsBytes bytes
each_byte [] h i = omega arith
each_byte (b ∷ bytes) h zero = All-head (λ b. b < 256) b bytes h
each_byte (b ∷ bytes) h (suc i) = each_byte bytes (All-tail (λ b. b < 256) b bytes h) i

-- ---- the lines of representations

pub body_long : (body : List ℕ) → length body ≤ length (body_bytes body)
body_long body = omega (arith, length-append (codes "PLAIN\n" ++ body) (codes "ENDREP\n"), length-append (codes "PLAIN\n") body)

line_fits : (n offset : ℕ) (new : Option (List ℕ)) (kept : Option Representation) → n < 2 ^ 32 → offset + length (brought new) < 2 ^ 64
    → IfSome kept RepresentationFits → IfSome (named_line n offset new kept) RepresentationFits
line_fits n offset None kept small bound fits = fits
line_fits n offset (Some body) kept small bound fits = record {
  revision = small;
  offset = omega (arith, bound);
  size = omega (arith, bound, body_long body);
  whole = length-md5 body;
  bytes = each_byte (md5 body) (md5-are_bytes body);
  length = omega (arith, bound, body_long body);
}

count_fits : (before : Option (NodeRev × Placed)) → count_of before < 2 ^ 64
count_fits None = omega arith
count_fits (Some before) = omega arith

-- ---- node revisions

one_fits : (r : Revision) (ids : Option NextIds) → RevisionFits r ids → (front : List Piece) (node : NodeRev) (next : Counter) (copy : Copy) (piece : Piece)
    → IsNamed node.path → CounterFits next → CopyFits copy → IsMade r front node (comes r node next) copy piece
    → length (pieces_bytes front) + length (piece_bytes piece) < 2 ^ 64 → NodeFits piece.node
one_fits r ids facts front node next copy piece named fits copy_fits made bound =
    let offset = length (pieces_bytes front) in
    let before = made_from r node in
    let old = from_tables PlacedFits r node facts.tables in
    let content = made.content in
    let properties = properties_of node before in
    let whole : Piece = piece_of r offset node (comes r node next) copy content in
    let under : offset + length (piece_bytes whole) < 2 ^ 64 =
    subst (λ (p : Piece). offset + length (piece_bytes p) < 2 ^ 64) (sym made.is) bound in
    let long = length-append (brought content.new) (brought properties.new ++ node_bytes whole.node) in
    let long_more = length-append (brought properties.new) (node_bytes whole.node) in
    let text : IfSome content.kept RepresentationFits =
    of_some (λ (b : Brings). IfSome b.kept RepresentationFits) _ content made.content_is
    (content_kept RepresentationFits r (ids_of front) node before (arc_value node.content) (more_some before (λ b is. is.text) old)) in
    let kept : IfSome properties.kept RepresentationFits =
    properties_are_kept RepresentationFits node before (more_some before (λ b is. is.properties) old) in
    subst (λ (p : Piece). NodeFits p.node) made.is (record {
      id = record {
        node = node_fits before next fits old;
        copy = copy_fits.id;
        revision = facts.number;
        offset = omega (arith, under, long, long_more);
      };
      predecessor = map_some IdFits (λ b. b.1.id) before (more_some before (λ b is. is.id) old);
      count = count_fits before;
      text = line_fits r.number offset content.new content.kept facts.number (omega (arith, under, long, long_more)) text;
      properties = line_fits r.number (offset + length (brought content.new)) properties.new properties.kept facts.number (omega (arith, under, long, long_more)) kept;
      path = text_free node.path named;
      copyfrom = copyfrom_fits r facts.changes node next;
      copyroot = if_some PlaceFits (same_place copy.place (record { revision = r.number; path = path_text node.path })) None (Some copy.place) tt copy_fits.place;
    })

all_fit : (r : Revision) (ids : Option NextIds) → RevisionFits r ids
    → (front : List Piece) (nodes : List NodeRev) (next : Counter) (copies : List Copy) (pieces : List Piece)
    → AllNamed nodes → CounterFits next → CopiesFit copies → AreMade r front nodes next copies pieces
    → length (pieces_bytes front) + length (pieces_bytes pieces) < 2 ^ 64 → PiecesFit pieces
all_fit r ids facts front [] next [] [] named fits copies_fit made bound = tt
all_fit r ids facts front [] next [] (piece ∷ pieces) named fits copies_fit made bound = absurd made
all_fit r ids facts front [] next (copy ∷ copies) pieces named fits copies_fit made bound = absurd made
all_fit r ids facts front (node ∷ nodes) next [] pieces named fits copies_fit made bound = absurd made
all_fit r ids facts front (node ∷ nodes) next (copy ∷ copies) [] named fits copies_fit made bound = absurd made
all_fit r ids facts front (node ∷ nodes) next (copy ∷ copies) (piece ∷ pieces) named fits copies_fit made bound =
    let long = length-append (piece_bytes piece) (pieces_bytes pieces) in
    let more = ap (λ (b : List ℕ). length b) (flat_map_more piece_bytes [] front piece) in
    let more_long = length-append (pieces_bytes front) (piece_bytes piece) in (
      one_fits r ids facts front node next copy piece named.0 fits copies_fit.0 made.0 (omega (arith, bound, long)),
      all_fit r ids facts (front ++ piece ∷ []) nodes (next_after r node next) copies pieces named.1 (later_fits r node next fits) copies_fit.1 made.1
          (omega (arith, bound, long, more, more_long)),
    )

all_named : (nodes : List NodeRev) → All (λ node. IsNamed node.path) nodes → AllNamed nodes
all_named [] named = tt
all_named (node ∷ nodes) named = (
  All-head (λ node. IsNamed node.path) node nodes named,
  all_named nodes (All-tail (λ node. IsNamed node.path) node nodes named),
)

pub here_fit : (r : Revision) (ids : Option NextIds) (pieces : List Piece) → RevisionFits r ids → AreNamedNodes (nodes_of r) → pieces_here r ids ≡ Some pieces
    → length (pieces_bytes pieces) < 2 ^ 64 → PiecesFit pieces
here_fit r ids pieces facts each e bound =
    let next = counter_in ids r.number in
    let first = first_fits ids r.number facts.number facts.next in
    let named = all_named (nodes_of r) (λ k d lt. each _ (All-contains_itself (nodes_of r) k d lt)) in
    all_fit r ids facts [] (nodes_of r) next (copies_here r ids) pieces named first (copies_fit r 0 (nodes_of r) next facts.number facts.tables named first)
    (here_made r ids pieces e) (omega (arith, bound))
