-- What is read of a further revision names revisions up to it.
use Rattle.std.proofs.Common.{◌≡◌, ◌<◌, ◌≤◌, ◌==◌, ◌&&◌, ℕ, zero, suc, Bool, true, false, List, [], ◌∷◌, ◌++◌, drop, length, map, replicate, reverse, Option}
use Rattle.std.proofs.{Common.{Some, None, Result, Ok, Err, refl, sym, ap, subst, ◌∙◌, arith, if◌then◌else◌}, lemmas.Bool.eqb-true, lemmas.List.reverse-append}
use Rattle.std.proofs.{lemmas.List.Elements.{All-head, All-tail}, lemmas.Option.slice_get_within}
use Rattle.std.specs.Prelude.{All, IfOk, IfSome, IsSomeAnd, codes, nat_lt, option_and_then, option_map, slice_get, slice_index_or, slice_set}
use Rattle.fsfs_text.specs.{declared.fault.FileFault.FileFault, declared.fault.FileFault.TheVariants.Dangling, Reading.◌>>=◌, Ids.id_of, Places.place_of}
use Rattle.fsfs_text.specs.{Representations.representation_of, declared.id.FileId.FileId, declared.representation.Representation.Representation}
use Rattle.fsfs_nodes.specs.{Headers.{Line, block_of, field, optional, value_of}, declared.node.FileNode.FileNode}
use Rattle.fsfs_nodes.specs.{Nodes.{count_of, id_line, kind_of, node_at, node_from, node_of, own_id, path_of, standing}, Bodies.body_at, Changes.changes_of}
use Rattle.fsfs_nodes.specs.{Trailers.trailer_of, declared.change.FileChange.FileChange}
use Rattle.fsfs.specs.Pieces.{before, entries_in, marked, new_body, part_behind, piece_at, pieces_below, pieces_of, revision_of, some_of, step_of}
use Rattle.fsfs.specs.declared.piece.FilePiece.{FilePiece}
use Rattle.noderevs.specs.{Nodes.node_in, declared.node_rev.Block.Block, declared.node_rev.NodeId.NodeId, declared.node_rev.NodeRev.NodeRev}
use Rattle.repo_api.specs.States.{ChangeMap}
use Rattle.filed_trees.specs.Pieces.{RevisionBytes, piece_in}
use Rattle.filed_trees.specs.{Readable.{IsKept, IsReadable, IsReadableFile, IsTabled, before_in, properties_before, text_before}, declared.placed.Placed.Placed}
use Rattle.filed_trees.specs.{Tables.{AreTabled, HasRows, IsPlaced, placed_in, placed_of}, declared.table.Table.Table}
use Rattle.filed_laws.specs.Earlier.{AreEarlierLines, NamesUpTo}
use Rattle.filed_laws.proofs.{Next.placed_more, Options.of_some, Said.{if_ok, of_ok, then_ok}}

-- ---- what comes with a node revision is in its revision

abbrev IsNewLine : ℕ → Option (List ℕ) → Option Representation → Type 0
IsNewLine n None line = Unit {0}
IsNewLine n (Some body) line = IfSome line (λ named. named.revision ≡ n)

record IsNewIn (n : ℕ) (piece : FilePiece) : Type 0 where
  own : piece.node.id.revision ≡ n
  text : IsNewLine n piece.text piece.node.text
  properties : IsNewLine n piece.properties piece.node.properties

body_new : (n : ℕ) (bytes : List ℕ) (line : Option Representation) → IfOk (new_body n bytes line) (λ new. IsNewLine n new line)
body_new n bytes None = tt
body_new n bytes (Some named) = by (named.revision == n) refl
  where
    read : named.revision ≡ n → (r : Result (List ℕ) FileFault) → IfOk (some_of r) (λ new. IsNewLine n new (Some named))
    read same (Ok body) = same
    read same (Err fault) = tt

    by : (c : Bool) → (named.revision == n) ≡ c → IfOk (if c then some_of (body_at bytes named) else Ok None) (λ new. IsNewLine n new (Some named))
    by true is = read (eqb-true named.revision n is) (body_at bytes named)
    by false is = tt

abbrev IsIn : ℕ → FileId → Type 0
IsIn n id = id.revision ≡ n

id_in : (n offset : ℕ) (bytes : List ℕ) → IfOk (own_id n offset bytes) (IsIn n)
unfolding own_id
id_in n offset bytes = by (id_line bytes)
  where
    both : (id : FileId) (a b : Bool) → (id.revision == n) ≡ a → IfOk (if a && b then Ok id else Err Dangling) (IsIn n)
    both id true true is = eqb-true id.revision n is
    both id true false is = tt
    both id false b is = tt

    by : (o : Option FileId) → IfOk (standing n offset o) (IsIn n)
    by None = tt
    by (Some id) = both id (id.revision == n) (id.offset == offset) refl

node_keeps : (id : FileId) (lines : List Line) → IfOk (node_of id lines) (λ node. node.id ≡ id)
unfolding node_of
node_keeps id lines =
    let Is : FileNode → Type 0 = λ node. node.id ≡ id in
    then_ok Is _ (field kind_of (value_of (codes "type") lines)) (λ kind kind_is.
    then_ok Is _ (optional id_of (value_of (codes "pred") lines)) (λ predecessor predecessor_is.
    then_ok Is _ (field count_of (value_of (codes "count") lines)) (λ count count_is.
    then_ok Is _ (optional representation_of (value_of (codes "text") lines)) (λ text text_is.
    then_ok Is _ (optional representation_of (value_of (codes "props") lines)) (λ properties properties_is.
    then_ok Is _ (field path_of (value_of (codes "cpath") lines)) (λ path path_is.
    then_ok Is _ (optional place_of (value_of (codes "copyfrom") lines)) (λ copyfrom copyfrom_is.
    then_ok Is _ (optional place_of (value_of (codes "copyroot") lines)) (λ copyroot copyroot_is. refl))))))))

node_own : (n : ℕ) (bytes : List ℕ) (offset : ℕ) → IfOk (node_at n bytes offset) (λ node. node.id.revision ≡ n)
unfolding node_at
node_own n bytes offset =
    let Own : FileNode → Type 0 = λ node. node.id.revision ≡ n in
    let rest = drop offset bytes in
    if_ok Own (nat_lt (length bytes) offset) (Err Dangling) (node_from n offset rest) tt
    (then_ok Own _ (own_id n offset rest) (λ id is. then_ok Own (node_of id) (block_of rest) (λ lines read.
    more (node_of id lines) id (of_ok (IsIn n) (own_id n offset rest) id is (id_in n offset rest)) (node_keeps id lines))))
  where
    more : (r : Result FileNode FileFault) (id : FileId) → id.revision ≡ n → IfOk r (λ node. node.id ≡ id) → IfOk r (λ node. node.id.revision ≡ n)
    more (Ok node) id own is = ap (λ (i : FileId). i.revision) is ∙ own
    more (Err fault) id own is = tt

piece_new : (n : ℕ) (bytes : List ℕ) (offset : ℕ) → IfOk (piece_at n bytes offset) (IsNewIn n)
unfolding piece_at
piece_new n bytes offset =
    then_ok (IsNewIn n) _ (node_at n bytes offset) (λ node is. then_ok (IsNewIn n) _ (new_body n bytes node.text) (λ text text_is.
    then_ok (IsNewIn n) _ (new_body n bytes node.properties) (λ properties properties_is. record {
      own = of_ok (λ (x : FileNode). x.id.revision ≡ n) (node_at n bytes offset) node is (node_own n bytes offset);
      text = of_ok (λ (new : Option (List ℕ)). IsNewLine n new node.text) (new_body n bytes node.text) text text_is (body_new n bytes node.text);
      properties = of_ok (λ (new : Option (List ℕ)). IsNewLine n new node.properties) (new_body n bytes node.properties) properties properties_is (body_new n bytes node.properties);
    })))

-- ---- all that are read

abbrev AllNew : ℕ → List FilePiece → Type 0
AllNew n [] = Unit {0}
AllNew n (piece ∷ pieces) = IsNewIn n piece × AllNew n pieces

step_new : (n : ℕ) (bytes : List ℕ) (offset : ℕ) (wanted : List Bool) → IfOk (step_of n bytes offset wanted) (λ step. IsNewIn n step.0)
unfolding step_of
step_new n bytes offset wanted =
    let New : FilePiece × List Bool → Type 0 = λ step. IsNewIn n step.0 in
    then_ok New _ (piece_at n bytes offset) (λ piece is. then_ok New _ (entries_in piece) (λ entries at. then_ok New _ (marked n offset entries wanted) (λ more also.
    of_ok (IsNewIn n) (piece_at n bytes offset) piece is (piece_new n bytes offset))))

before_new : (n : ℕ) (piece : FilePiece) (rest : Result (List FilePiece) FileFault) → IsNewIn n piece → IfOk rest (AllNew n)
    → IfOk (before piece rest) (AllNew n)
before_new n piece (Ok pieces) new all = (new, all)
before_new n piece (Err fault) new all = tt

below_new : (n : ℕ) (bytes : List ℕ) (end : ℕ) (wanted : List Bool) → IfOk (pieces_below n bytes end wanted) (AllNew n)
below_new n bytes zero wanted = tt
below_new n bytes (suc end) wanted =
    if_ok (AllNew n) (slice_index_or wanted end false) (step_of n bytes end wanted >>= λ step. before step.0 (pieces_below n bytes end step.1)) (pieces_below n bytes end wanted)
    (then_ok (AllNew n) (λ step. before step.0 (pieces_below n bytes end step.1)) (step_of n bytes end wanted) (λ step is.
    before_new n step.0 (pieces_below n bytes end step.1) (of_ok (λ (s : FilePiece × List Bool). IsNewIn n s.0) (step_of n bytes end wanted) step is (step_new n bytes end wanted))
    (below_new n bytes end step.1)))
    (below_new n bytes end wanted)

pieces_new : (n : ℕ) (bytes : List ℕ) (root : ℕ) → IfOk (pieces_of n bytes root) (AllNew n)
unfolding pieces_of
pieces_new n bytes root =
    let wanted = slice_set (replicate (suc root) false) root true in
    if_ok (AllNew n) (nat_lt root (length bytes)) (pieces_below n bytes (suc root) wanted) (Err Dangling) (below_new n bytes (suc root) wanted) tt

all_new : (n : ℕ) (bytes : List ℕ) → IfOk (revision_of n bytes) (λ said. AllNew n said.0)
unfolding revision_of
all_new n bytes =
    let New : List FilePiece × List FileChange → Type 0 = λ said. AllNew n said.0 in
    then_ok New _ (trailer_of bytes) (λ p first. then_ok New _ (pieces_of n bytes p.1.root) (λ pieces is. then_ok New _ (part_behind p.1.changes p.0) (λ part at. then_ok New _ (changes_of part) (λ changes also.
    of_ok (AllNew n) (pieces_of n bytes p.1.root) pieces is (pieces_new n bytes p.1.root)))))

-- ---- what an earlier file says stays

front_stays : {X : Type 0} (xs : List X) (x y : X) (k : ℕ) → slice_get xs k ≡ Some y → slice_get (xs ++ x ∷ []) k ≡ Some y
front_stays [] x y k is = absurd (cc is)
front_stays (z ∷ xs) x y zero is = is
front_stays (z ∷ xs) x y (suc k) is = front_stays xs x y k is

then_stays : {X Y : Type 0} (f : X → Option Y) (o p : Option X) (y : Y) → ((x : X) → o ≡ Some x → p ≡ Some x) → option_and_then f o ≡ Some y
    → option_and_then f p ≡ Some y
then_stays f None p y stays is = absurd (cc is)
then_stays f (Some x) p y stays is = ap (option_and_then f) (stays x refl) ∙ is

piece_stays : (files : RevisionBytes) (file : List ℕ) (id : FileId) (piece : FilePiece) → piece_in files id ≡ Some piece
    → piece_in (files ++ file ∷ []) id ≡ Some piece
unfolding piece_in
piece_stays files file id piece is =
    then_stays _ (slice_get files id.revision) (slice_get (files ++ file ∷ []) id.revision) piece (λ bytes at. front_stays files file bytes id.revision at) is

-- ---- lines that are kept

line_up : (n : ℕ) (line : Option Representation) (new : Option (List ℕ)) (was : Option Representation) → IsKept line new was → IsNewLine n new line
    → IfSome was (λ named. named.revision ≤ n) → IfSome line (λ named. named.revision ≤ n)
line_up n None new was kept here up = tt
line_up n (Some named) (Some body) was kept here up = omega (arith, here)
line_up n (Some named) None was kept here up = of_some (λ (l : Representation). l.revision ≤ n) was named kept up

module _ (files : RevisionBytes) (blocks : List Block) (tables : List Table) (changes : List ChangeMap) (file : List ℕ)
    (all : AreTabled files blocks tables changes) (earlier : AreEarlierLines tables) where
  abbrev n : ℕ
  n = length files

  abbrev more : RevisionBytes
  more = files ++ file ∷ []

  -- what is there before a node revision names revisions up to this one
  record IsUp (was : FileNode) : Type 0 where
    text : IfSome was.text (λ line. line.revision ≤ n)
    properties : IfSome was.properties (λ line. line.revision ≤ n)

  from_filed : (id : FileId) (at : NodeId) (placed : Placed) → at.rev < n → placed.id ≡ id → placed_in tables at ≡ Some placed → (node : Option NodeRev)
      → IsPlaced files tables at node (Some placed)
      → IfSome (option_map (λ piece. piece.node) (piece_in more id)) IsUp
  from_filed id at placed lt same is None filed = absurd filed
  from_filed id at placed lt same is (Some node) filed =
      let up : NamesUpTo at.rev placed = of_some (NamesUpTo at.rev) (placed_in tables at) placed is (earlier at) in
      let there : piece_in more id ≡ Some filed.piece = ap (λ (i : FileId). piece_in more i) (sym same) ∙ piece_stays files file placed.id filed.piece filed.there in
      let was : NamesUpTo at.rev (placed_of filed.piece.node) = subst (NamesUpTo at.rev) filed.is up in
      subst (λ (o : Option FilePiece). IfSome (option_map (λ piece. piece.node) o) IsUp) (sym there) (record {
        text = lift filed.piece.node.text was.text;
        properties = lift filed.piece.node.properties was.properties;
      })
    where
      lift : (line : Option Representation) → IfSome line (λ l. l.revision ≤ at.rev) → IfSome line (λ l. l.revision ≤ n)
      lift None h = tt
      lift (Some l) h = omega (arith, h, lt)

  many : length tables ≡ n
  many = omega (arith, all.all, all.tabled)

  placed_is : (at : NodeId) (table : Table) → slice_get tables at.rev ≡ Some table → placed_in tables at ≡ slice_get table.placed.items at.place
  placed_is at table is = ap (λ (o : Option Table). option_and_then (λ t. slice_get t.placed.items at.place) o) is

  from_table : (id : FileId) → IsTabled tables id → IfSome (option_map (λ piece. piece.node) (piece_in more id)) IsUp
  from_table id tabled = by (slice_get tables id.revision) refl tabled
    where
      row : (table : Table) → slice_get tables id.revision ≡ Some table → (k : ℕ) → (o : Option Placed) → slice_get table.placed.items k ≡ o
          → IsSomeAnd o (λ p. p.id ≡ id)
          → IfSome (option_map (λ piece. piece.node) (piece_in more id)) IsUp
      row table is k None at same = absurd same
      row table is k (Some placed) at same =
          let place : NodeId = record { rev = id.revision; place = k } in
          let found : placed_in tables place ≡ Some placed = placed_is place table is ∙ at in
          from_filed id place placed (omega (arith, many, slice_get_within tables id.revision table is)) same found (node_in blocks place)
          (subst (λ (p : Option Placed). IsPlaced files tables place (node_in blocks place) p) found (all.nodes place))

      by : (o : Option Table) → slice_get tables id.revision ≡ o → IsSomeAnd o (λ table. (k : ℕ) × IsSomeAnd (slice_get table.placed.items k) (λ p. p.id ≡ id))
          → IfSome (option_map (λ piece. piece.node) (piece_in more id)) IsUp
      by None is h = absurd h
      by (Some table) is h = row table is h.0 (slice_get table.placed.items h.0) refl h.1

  before_up : (predecessor : Option FileId) → IfSome predecessor (IsTabled tables)
      → IfSome (option_map (λ piece. piece.node) (option_and_then (piece_in more) predecessor)) IsUp
  before_up None tabled = tt
  before_up (Some id) tabled = from_table id tabled

  text_up : (o : Option FileNode) → IfSome o IsUp → IfSome (option_and_then (λ was. was.text) o) (λ line. line.revision ≤ n)
  text_up None up = tt
  text_up (Some was) up = up.text

  properties_up : (o : Option FileNode) → IfSome o IsUp → IfSome (option_and_then (λ was. was.properties) o) (λ line. line.revision ≤ n)
  properties_up None up = tt
  properties_up (Some was) up = up.properties

  one_up : (is_known : FileId → Type 0) (piece : FilePiece) → IsNewIn n piece → IsReadable more tables is_known piece → NamesUpTo n (placed_of piece.node)
  one_up is_known piece new readable =
      let up : IfSome (before_in more piece.node) IsUp = before_up piece.node.predecessor readable.before in
      record {
        id = omega (arith, new.own);
        text = line_up n piece.node.text piece.text (text_before more piece.node) readable.text new.text (text_up (before_in more piece.node) up);
        properties = line_up n piece.node.properties piece.properties (properties_before more piece.node) readable.properties new.properties (properties_up (before_in more piece.node) up);
      }

  abbrev AllUp : List FilePiece → Type 0
  AllUp [] = Unit {0}
  AllUp (piece ∷ pieces) = NamesUpTo n (placed_of piece.node) × AllUp pieces

  all_up : (is_known : FileId → Type 0) (pieces : List FilePiece) → AllNew n pieces → All (IsReadable more tables is_known) pieces → AllUp pieces
  all_up is_known [] new readable = tt
  all_up is_known (piece ∷ pieces) new readable = (
    one_up is_known piece new.0 (All-head (IsReadable more tables is_known) piece pieces readable),
    all_up is_known pieces new.1 (All-tail (IsReadable more tables is_known) piece pieces readable),
  )

  up_behind : (pieces : List FilePiece) (piece : FilePiece) → AllUp pieces → NamesUpTo n (placed_of piece.node) → AllUp (pieces ++ piece ∷ [])
  up_behind [] piece up here = (here, tt)
  up_behind (first ∷ pieces) piece up here = (up.0, up_behind pieces piece up.1 here)

  up_back : (pieces : List FilePiece) → AllUp pieces → AllUp (reverse pieces)
  up_back [] up = tt
  up_back (piece ∷ pieces) up = subst AllUp (sym (reverse-append (piece ∷ []) pieces)) (up_behind (reverse pieces) piece (up_back pieces up.1) up.0)

  row_up : (pieces : List FilePiece) → AllUp pieces → (place : ℕ)
      → IfSome (slice_get (map (λ (piece : FilePiece). placed_of piece.node) pieces) place) (NamesUpTo n)
  row_up [] up place = tt
  row_up (piece ∷ pieces) up zero = up.0
  row_up (piece ∷ pieces) up (suc place) = row_up pieces up.1 place

  pub read_earlier : (pieces : List FilePiece) (said : List FileChange) (table : Table) → revision_of n file ≡ Ok (pieces, said)
      → IsReadableFile more tables pieces said → HasRows pieces table
      → AreEarlierLines (tables ++ table ∷ [])
  read_earlier pieces said table e readable rows =
      let new : AllNew n pieces = of_ok (λ (s : List FilePiece × List FileChange). AllNew n s.0) (revision_of n file) (pieces, said) e (all_new n file) in
      let up = all_up _ pieces new readable.nodes.nodes in
      placed_more NamesUpTo tables table earlier
      (subst (λ (m : ℕ). (place : ℕ) → IfSome (slice_get table.placed.items place) (NamesUpTo m)) (sym many) (λ place.
      subst (λ (l : List Placed). IfSome (slice_get l place) (NamesUpTo n)) (sym rows) (row_up (reverse pieces) (up_back pieces up) place)))
