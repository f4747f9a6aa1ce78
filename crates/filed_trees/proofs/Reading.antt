-- The nodes of a revision, read one after another.
use Rattle.std.proofs.Common.{◌≡◌, ℕ, zero, suc, ◌+◌, ◌<◌, ◌≤◌, List, [], ◌∷◌, ◌++◌, length, Option, Some, None, refl, sym, ap, subst, ◌∙◌, arith}
use Rattle.std.proofs.{Common.{length-append, ⊎_elim}, lemmas.Bool.{cases_eq, cases_lt}, lemmas.List.get_or_append_left}
use Rattle.std.proofs.lemmas.Option.{none-some, same_Some, slice_get-get_or, slice_get_past}
use Rattle.std.specs.{FinMap.entries, Prelude.{IsSomeAnd, Ok, option_and_then, option_map, slice_get}}
use Rattle.repo_api.specs.States.{ChangeMap}
use Rattle.noderevs.specs.{Held.{blocks_of, node_at, root_at}, Nodes.{node_in, root_in}, declared.node_rev.Block.Block, declared.node_rev.NodeId.NodeId}
use Rattle.noderevs.specs.{declared.node_rev.NodeRev.NodeRev, declared.nodes.Nodes.Nodes}
use Rattle.fsfs_nodes.specs.declared.change.FileChange.{FileChange}
use Rattle.fsfs.specs.{Pieces.revision_of, declared.piece.FilePiece.FilePiece}
use Rattle.filed_trees.specs.{Pieces.{RevisionBytes, entry_named}, Changes.{ChangeRows, changes_by}, Comparing.{AreForAll, AreNew, AreSame, IsSameNode}}
use Rattle.filed_trees.specs.{Tables.{AreTabled, HasRows, IsAt, IsFiled, IsPlaced, placed_in}, declared.placed.Placed.Placed, declared.table.Table.Table}
use Rattle.filed_trees.specs.Trees as trees
use Rattle.filed_trees.proofs.{Growing.{last_changes, last_file, last_revision, last_root, length_more, old_placed, tabled_more}, Read.pieces_of_last}
use Rattle.noderevs.proofs.Pushing.{last_place, other_place}

module _ (files : RevisionBytes) (tables : List Table) (revision : ℕ) (rows : List Placed) where
  -- the nodes before a place are placed
  abbrev pub AreRead : List NodeRev → ℕ → Type 0
  AreRead nodes k =
      (id : NodeId) → id.rev ≡ revision → id.place < k
      → IsPlaced files tables id (slice_get nodes id.place) (slice_get rows id.place)

  pub one_read : (nodes : List NodeRev) (node : NodeRev) (placed : Placed) (k : ℕ) → length nodes ≡ k → slice_get rows k ≡ Some placed
      → ((id : NodeId) → id.rev ≡ revision → IsFiled files tables id node placed) → AreRead nodes k → AreRead (nodes ++ node ∷ []) (k + 1)
  one_read nodes node placed k long at filed so_far id rev lt = ⊎_elim
      (λ less. subst (λ o. IsPlaced files tables id o (slice_get rows id.place))
      (sym (other_place nodes node id.place (λ e. omega (arith, e, long, less)))) (so_far id rev less))
      (λ ge.
      let here : id.place ≡ k = omega (arith, ge, lt) in
      subst (λ o. IsPlaced files tables id o (slice_get rows id.place))
      (sym (ap (slice_get (nodes ++ node ∷ [])) (here ∙ sym long) ∙ last_place nodes node))
      (subst (λ p. IsPlaced files tables id (Some node) p) (sym (ap (slice_get rows) here ∙ at)) (filed id rev)))
      (cases_lt id.place k)

  pub all_read : (nodes : List NodeRev) (k : ℕ) → length nodes ≡ k → length rows ≤ k → AreRead nodes k → (id : NodeId)
      → id.rev ≡ revision → IsPlaced files tables id (slice_get nodes id.place) (slice_get rows id.place)
  all_read nodes k long past so_far id rev = ⊎_elim
      (λ less. so_far id rev less)
      (λ ge. subst (λ o. IsPlaced files tables id o (slice_get rows id.place)) (sym (slice_get_past nodes id.place (omega (arith, ge, long))))
      (subst (λ p. IsPlaced files tables id None p) (sym (slice_get_past rows id.place (omega (arith, ge, past)))) tt))
      (cases_lt id.place k)

first_part : {X : Type 0} (xs ys : List X) (k : ℕ) → k < length xs → slice_get (xs ++ ys) k ≡ slice_get xs k
first_part [] ys k lt = absurd (omega (arith, lt))
first_part (x ∷ xs) ys k lt =
    slice_get-get_or ((x ∷ xs) ++ ys) k x (omega (arith, lt, length-append (x ∷ xs) ys))
    ∙ ap Some (get_or_append_left (x ∷ xs) ys x k lt) ∙ sym (slice_get-get_or (x ∷ xs) k x lt)

module _ (files : RevisionBytes) (blocks : List Block) (tables : List Table) (lists : List ChangeMap) (all : AreTabled files blocks tables lists)
    (file : List ℕ) (nodes : Nodes) (others : List Block) (is : blocks_of nodes ≡ blocks ++ others)
    (pieces : List FilePiece) (said : List FileChange) (rows : ChangeRows) where
  abbrev more : RevisionBytes
  more = files ++ file ∷ []

  long : length files ≡ length tables
  long = all.all ∙ sym all.tabled

  old_node : (id : NodeId) → id.rev < length tables → node_at nodes id ≡ node_in blocks id
  old_node id lt = ap (λ bs. node_in bs id) is
      ∙ ap (option_and_then (λ b. slice_get b.nodes.items id.place)) (first_part blocks others id.rev (omega (arith, lt, all.tabled)))

  -- the files are those for which it was read
  pub for_all : revision_of (length tables) file ≡ Ok (pieces, said) → changes_by said ≡ Some rows → AreForAll more nodes tables rows pieces
  for_all read are = record {
    long = length_more files file ∙ ap suc long;
    changes = last_changes files file (length tables) long pieces said read rows are;
    earlier = λ t id lt. subst (λ o. IsPlaced more (tables ++ t ∷ []) id o (placed_in tables id)) (sym (old_node id lt))
        (old_placed files blocks tables lists all file t id);
    last = pieces_of_last more (length tables) file pieces said (last_file files file (length tables) long pieces said read) read;
  }

  module _ (block : Block) (table : Table) (list : ChangeMap) where
    -- the nodes of the last block
    last_block : slice_get (blocks ++ block ∷ []) (length tables) ≡ Some block
    last_block = ap (slice_get (blocks ++ block ∷ [])) all.tabled ∙ last_place blocks block

    -- what a file says of the next revision comes behind what the files say of the revisions before
    pub tabled_read : revision_of (length tables) file ≡ Ok (pieces, said) → changes_by said ≡ Some rows → rows ≡ entries list
        → HasRows pieces table → ((fs : RevisionBytes) → AreForAll fs nodes tables rows pieces → AreNew fs tables block table pieces)
        → AreTabled (files ++ file ∷ []) (blocks ++ block ∷ []) (tables ++ table ∷ []) (lists ++ list ∷ [])
    tabled_read read are same has new = tabled_more files blocks tables lists all file block table list
        (λ id rev. subst (λ o. IsPlaced more (tables ++ table ∷ []) id o (slice_get table.placed.items id.place))
        (sym (ap (option_and_then (λ b. slice_get b.nodes.items id.place)) (ap (slice_get (blocks ++ block ∷ [])) rev ∙ last_block)))
        (placed.nodes id rev))
        (subst (λ o. IsAt (tables ++ table ∷ []) o (trees.root_in more (length tables))) (sym (ap (option_map (λ b. b.root)) last_block))
        (subst (IsAt (tables ++ table ∷ []) (Some block.root)) (sym (last_root files file (length tables) long pieces said read)) placed.root))
        ((for_all read are).changes ∙ ap Some same)
        (subst (λ o. IsSomeAnd o (λ s. HasRows s.0 table)) (sym (last_revision files file (length tables) long pieces said read)) has)
      where
        placed : AreNew more tables block table pieces
        placed = new more (for_all read are)

-- ---- the same nodes

filed_same : (files : RevisionBytes) (tables : List Table) (id : NodeId) (node other : NodeRev) (placed : Placed)
    → IsSameNode node other → IsFiled files tables id node placed → IsFiled files tables id other placed
filed_same files tables id node other placed same f = record {
  piece = f.piece;
  there = f.there;
  is = f.is;
  revision = f.revision;
  path = f.path ∙ ap Some same.path;
  content = f.content ∙ ap Some same.content;
  properties = f.properties ∙ ap Some same.properties;
  own = f.own ∙ ap Some same.own;
  entries = f.entries;
  read = f.read;
  kids = λ name. subst (λ o. IsAt tables o (entry_named name f.entries)) (same.kids name) (f.kids name);
}

placed_same : (files : RevisionBytes) (tables : List Table) (id : NodeId) (o p : Option NodeRev) (q : Option Placed)
    → AreSame o p → IsPlaced files tables id o q → IsPlaced files tables id p q
placed_same files tables id None None q same placed = placed
placed_same files tables id None (Some other) q same placed = absurd same
placed_same files tables id (Some node) None q same placed = absurd same
placed_same files tables id (Some node) (Some other) None same placed = placed
placed_same files tables id (Some node) (Some other) (Some q) same placed = filed_same files tables id node other q same placed

-- what was read is in the files, so what is the same is
pub tabled_same : (files : RevisionBytes) (blocks : List Block) (tables : List Table) (lists : List ChangeMap) (block other : Block)
    (list : ChangeMap) (nodes : Nodes) → blocks_of nodes ≡ blocks ++ other ∷ [] → (n : ℕ) → length blocks ≡ n
    → ((id : NodeId) → id.rev ≡ n → AreSame (slice_get block.nodes.items id.place) (node_at nodes id))
    → root_at nodes n ≡ Some block.root → AreTabled files (blocks ++ block ∷ []) tables (lists ++ list ∷ [])
    → AreTabled files (blocks ++ other ∷ []) tables (lists ++ list ∷ [])
tabled_same files blocks tables lists block other list nodes is n many same root all = record {
  all = all.all ∙ length_more blocks block ∙ sym (length_more blocks other);
  tabled = all.tabled ∙ length_more blocks block ∙ sym (length_more blocks other);
  listed = all.listed ∙ length_more blocks block ∙ sym (length_more blocks other);
  nodes = λ id. ⊎_elim
      (λ e. placed_same files tables id (node_in (blocks ++ block ∷ []) id) (node_in (blocks ++ other ∷ []) id) (placed_in tables id)
      (subst (λ o. AreSame o (node_in (blocks ++ other ∷ []) id)) (sym (here id e))
      (subst (λ bs. AreSame (slice_get block.nodes.items id.place) (node_in bs id)) is (same id e)))
      (all.nodes id))
      (λ ne. subst (λ o. IsPlaced files tables id o (placed_in tables id))
      (ap (option_and_then (λ b. slice_get b.nodes.items id.place)) (elsewhere id.rev ne)) (all.nodes id))
      (cases_eq id.rev n);
  roots = λ k. ⊎_elim
      (λ e. subst (λ o. IsAt tables o (trees.root_in files k)) (read_root k e ∙ sym (other_root k e)) (all.roots k))
      (λ ne. subst (λ o. IsAt tables o (trees.root_in files k)) (ap (option_map (λ b. b.root)) (elsewhere k ne)) (all.roots k))
      (cases_eq k n);
  changed = all.changed;
  rows = all.rows;
}
  where
    last : (b : Block) (k : ℕ) → k ≡ n → slice_get (blocks ++ b ∷ []) k ≡ Some b
    last b k e = ap (slice_get (blocks ++ b ∷ [])) (e ∙ sym many) ∙ last_place blocks b

    here : (id : NodeId) → id.rev ≡ n → node_in (blocks ++ block ∷ []) id ≡ slice_get block.nodes.items id.place
    here id e = ap (option_and_then (λ b. slice_get b.nodes.items id.place)) (last block id.rev e)

    elsewhere : (k : ℕ) → (k ≡ n → ⊥) → slice_get (blocks ++ block ∷ []) k ≡ slice_get (blocks ++ other ∷ []) k
    elsewhere k ne = other_place blocks block k (λ e. ne (e ∙ many)) ∙ sym (other_place blocks other k (λ e. ne (e ∙ many)))

    read_root : (k : ℕ) → k ≡ n → root_in (blocks ++ block ∷ []) k ≡ Some block.root
    read_root k e = ap (option_map (λ b. b.root)) (last block k e)

    other_root : (k : ℕ) → k ≡ n → root_in (blocks ++ other ∷ []) k ≡ Some block.root
    other_root k e = ap (λ bs. root_in bs k) (sym is) ∙ ap (root_at nodes) e ∙ root

-- nothing is behind the end
pub past_end : {X : Type 0} (xs : List X) (n m : ℕ) → slice_get xs n ≡ None → n ≤ m → slice_get xs m ≡ None
past_end xs n m none le = ⊎_elim
    (λ lt. absurd (none-some _ (sym none ∙ slice_get-get_or xs n (get_or_of xs n lt) lt)))
    (λ ge. slice_get_past xs m (omega (arith, ge, le)))
    (cases_lt n (length xs))
  where
    get_or_of : {Y : Type 0} (ys : List Y) (k : ℕ) → k < length ys → Y
    get_or_of [] k lt = absurd (omega (arith, lt))
    get_or_of (y ∷ ys) k lt = y

-- no node is behind the end of its revision
pub node_past : (nodes : Nodes) (i j : NodeId) → i.rev ≡ j.rev → i.place ≤ j.place → node_at nodes i ≡ None → node_at nodes j ≡ None
node_past nodes i j rev le none =
    by (slice_get nodes.blocks i.rev) (slice_get nodes.blocks j.rev) (ap (slice_get nodes.blocks) rev) none
  where
    by : (o p : Option Block) → o ≡ p → option_and_then (λ b. slice_get b.nodes.items i.place) o ≡ None
        → option_and_then (λ b. slice_get b.nodes.items j.place) p ≡ None
    by o None same none = refl
    by None (Some b) same none = absurd (none-some b same)
    by (Some a) (Some b) same none = past_end b.nodes.items i.place j.place (sym (ap (λ c. slice_get c.nodes.items i.place) (same_Some a b same)) ∙ none) le

module _ (block : List NodeRev) (nodes : Nodes) (revision : ℕ) where
  -- the nodes before a place are the same
  abbrev pub SameBefore : ℕ → Type 0
  SameBefore k = (id : NodeId) → id.rev ≡ revision → id.place < k → AreSame (slice_get block id.place) (node_at nodes id)

  pub one_same : (k : ℕ) (node other : NodeRev) → slice_get block k ≡ Some node → node_at nodes (record { rev = revision; place = k }) ≡ Some other
      → IsSameNode node other → SameBefore k → SameBefore (k + 1)
  one_same k node other at there same so_far id rev lt = ⊎_elim
      (λ less. so_far id rev less)
      (λ ge.
      let place : id.place ≡ k = omega (arith, ge, lt) in
      let here : ◌≡◌ {A = NodeId} id (record { rev = revision; place = k }) = λ i. record { rev = rev i; place = place i } in
      subst (λ o. AreSame o (node_at nodes id)) (sym (ap (slice_get block) place ∙ at))
      (subst (λ o. AreSame (Some node) o) (sym (ap (node_at nodes) here ∙ there)) same))
      (cases_lt id.place k)

  pub all_same : (k : ℕ) → length block ≤ k → node_at nodes (record { rev = revision; place = length block }) ≡ None → SameBefore k
      → (id : NodeId) → id.rev ≡ revision → AreSame (slice_get block id.place) (node_at nodes id)
  all_same k past none so_far id rev = ⊎_elim
      (λ less. so_far id rev (omega (arith, less, past)))
      (λ ge. subst (λ o. AreSame o (node_at nodes id)) (sym (slice_get_past block id.place ge))
      (subst (λ o. AreSame None o)
      (sym (node_past nodes (record { rev = revision; place = length block }) id (sym rev) ge none)) tt))
      (cases_lt id.place (length block))

-- what is at a place within is there
within_there : {X : Type 0} (xs : List X) (k : ℕ) → k < length xs → slice_get xs k ≡ None → ⊥
within_there [] k lt none = omega (arith, lt)
within_there (x ∷ xs) zero lt none = none-some x (sym none)
within_there (x ∷ xs) (suc k) lt none = within_there xs k (omega (arith, lt)) none

-- a node of the block has one at its place
pub none_there : (block : List NodeRev) (k : ℕ) (o : Option NodeRev) → k < length block → o ≡ None → AreSame (slice_get block k) o → ⊥
none_there block k o lt none same = by (slice_get block k) refl (subst (AreSame (slice_get block k)) none same)
  where
    by : (p : Option NodeRev) → slice_get block k ≡ p → AreSame p None → ⊥
    by None at s = within_there block k lt at
    by (Some node) at s = s

-- nothing is behind the end of the block
pub end_there : (block : List NodeRev) (o : Option NodeRev) → AreSame (slice_get block (length block)) o → o ≡ None
end_there block o same = by o (subst (λ p. AreSame p o) (slice_get_past block (length block) (omega arith)) same)
  where
    by : (p : Option NodeRev) → AreSame None p → p ≡ None
    by None s = refl
    by (Some node) s = absurd s
