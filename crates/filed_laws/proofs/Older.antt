-- Where nothing new comes, lines name other revisions.
use Rattle.std.proofs.{Common.{◌≡◌, ◌<◌, ℕ, List, [], ◌∷◌, ◌++◌, length, Option, Some, None, refl, subst, arith}, lemmas.Bool.ne_eqb}
use Rattle.std.proofs.lemmas.Option.{slice_get_within}
use Rattle.std.specs.{Prelude.{IfSome, option_and_then, slice_get}, Arc.arc_value}
use Rattle.noderevs.specs.{declared.node_rev.NodeId.NodeId, declared.node_rev.NodeRev.NodeRev}
use Rattle.fsfs_nodes.specs.declared.current.NextIds.{NextIds}
use Rattle.fsfs_text.specs.declared.representation.Representation.{Representation}
use Rattle.fsfs.specs.{Files.{Piece, named_line}, Whole.{IsLineOf, KeepsOthers}, Reached.KeepOthers}
use Rattle.filed_trees.specs.{Tables.placed_in, declared.placed.Placed.Placed, declared.table.Table.Table}
use Rattle.filed_writing.specs.{declared.counter.Counter.Counter, declared.revision.Revision.Revision}
use Rattle.filed_writing.specs.Layout.{comes, copies_here, made_from, next_after, nodes_of, pieces_here}
use Rattle.filed_writing.specs.Pieces.{Brings, Copy, counter_in, ids_of, properties_of}
use Rattle.filed_laws.specs.Earlier.{AreEarlierLines, NamesUpTo}
use Rattle.filed_laws.proofs.{Coming.{content_kept, from_tables, properties_are_kept}, Made.{AreMade, IsMade, here_made}}
use Rattle.filed_laws.proofs.Options.{each_some, more_some, of_some}

-- a table of an earlier revision has what is placed
pub earlier_place : (tables : List Table) (id : NodeId) (placed : Placed) → placed_in tables id ≡ Some placed → id.rev < length tables
earlier_place tables id placed is = by (slice_get tables id.rev) refl is
  where
    by : (o : Option Table) → slice_get tables id.rev ≡ o → option_and_then (λ table. slice_get table.placed.items id.place) o ≡ Some placed
        → id.rev < length tables
    by None at is = absurd (cc is)
    by (Some table) at is = slice_get_within tables id.rev table at

-- what is kept of a node revision names revisions before this one
pub record IsOlder (n : ℕ) (placed : Placed) : Type 0 where
  pub id : placed.id.revision < n
  pub text : IfSome placed.text (λ line. line.revision < n)
  pub properties : IfSome placed.properties (λ line. line.revision < n)

pub all_older : (r : Revision) → r.number ≡ length r.tables.now → AreEarlierLines r.tables.now → (id : NodeId)
    → IfSome (placed_in r.tables.now id) (IsOlder r.number)
all_older r number earlier id =
    each_some (IsOlder r.number) (placed_in r.tables.now id) (λ placed is.
    let under : id.rev < length r.tables.now = earlier_place r.tables.now id placed is in
    let up : NamesUpTo id.rev placed = of_some (NamesUpTo id.rev) (placed_in r.tables.now id) placed is (earlier id) in
    record {
      id = omega (arith, under, number, up.id);
      text = more_some placed.text (λ line le. omega (arith, under, number, le)) up.text;
      properties = more_some placed.properties (λ line le. omega (arith, under, number, le)) up.properties;
    })

line_of : (n offset : ℕ) (new : Option (List ℕ)) (kept : Option Representation) → IfSome kept (λ line. line.revision < n)
    → IsLineOf n new (named_line n offset new kept)
line_of n offset None kept older = more_some kept (λ line lt. ne_eqb line.revision n (λ e. omega (arith, lt, e))) older
line_of n offset (Some body) kept older = refl

one_keeps : (r : Revision) → ((id : NodeId) → IfSome (placed_in r.tables.now id) (IsOlder r.number))
    → (front : List Piece) (node : NodeRev) (next : Counter) (copy : Copy) (piece : Piece) → IsMade r front node (comes r node next) copy piece
    → KeepsOthers r.number piece
one_keeps r older front node next copy piece made =
    let Older : Representation → Type 0 = λ line. line.revision < r.number in
    let before = from_tables (IsOlder r.number) r node older in
    let text : IfSome made.content.kept Older =
    of_some (λ (b : Brings). IfSome b.kept Older) _ made.content made.content_is
    (content_kept Older r (ids_of front) node (made_from r node) (arc_value node.content) (more_some (made_from r node) (λ b is. is.text) before)) in
    let properties : IfSome (properties_of node (made_from r node)).kept Older =
    properties_are_kept Older node (made_from r node) (more_some (made_from r node) (λ b is. is.properties) before) in
    subst (KeepsOthers r.number) made.is (record {
      text = line_of r.number _ made.content.new made.content.kept text;
      properties = line_of r.number _ _ _ properties;
    })

all_keep : (r : Revision) → ((id : NodeId) → IfSome (placed_in r.tables.now id) (IsOlder r.number))
    → (front : List Piece) (nodes : List NodeRev) (next : Counter) (copies : List Copy) (pieces : List Piece) → AreMade r front nodes next copies pieces
    → KeepOthers r.number pieces
all_keep r older front [] next [] [] made = tt
all_keep r older front [] next [] (piece ∷ pieces) made = absurd made
all_keep r older front [] next (copy ∷ copies) pieces made = absurd made
all_keep r older front (node ∷ nodes) next [] pieces made = absurd made
all_keep r older front (node ∷ nodes) next (copy ∷ copies) [] made = absurd made
all_keep r older front (node ∷ nodes) next (copy ∷ copies) (piece ∷ pieces) made = (
  one_keeps r older front node next copy piece made.0,
  all_keep r older (front ++ piece ∷ []) nodes (next_after r node next) copies pieces made.1,
)

pub here_keep : (r : Revision) (ids : Option NextIds) (pieces : List Piece) → r.number ≡ length r.tables.now → AreEarlierLines r.tables.now
    → pieces_here r ids ≡ Some pieces
    → KeepOthers r.number pieces
here_keep r ids pieces number earlier e =
    all_keep r (all_older r number earlier) [] (nodes_of r) (counter_in ids r.number) (copies_here r ids) pieces (here_made r ids pieces e)
