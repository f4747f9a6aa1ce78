-- Files say one repository at most: nodes that are tabled in them have the same.
use Rattle.std.proofs.Common.{◌≡◌, ◌-◌, ◌<◌, ℕ, List, reverse, length, get_or, Option, Some, None, option_map, option_and_then, refl, sym, ap, subst, ◌∙◌}
use Rattle.std.proofs.{Common.{arith, ⊎_elim, inl, inr, ◌++◌, length-append, ◌∷◌, []}, lemmas.Bool.cases_lt, lemmas.List.length-reverse}
use Rattle.std.proofs.lemmas.Option.{none-some, same_Some, slice_get-get_or, slice_get-map, slice_get_within}
use Rattle.std.specs.{Arc.arc_value, Prelude.{Result, Ok, Err, IsSomeAnd, slice_get, ◌⊎◌, IfSome}, Result.result_ok, FinMap.entries}
use Rattle.repo_api.specs.States.{ChangeMap}
use Rattle.fsfs_text.specs.{declared.fault.FileFault.FileFault, declared.id.FileId.FileId}
use Rattle.noderevs.specs.{Held.{blocks_of, node_at, root_at}, Nodes.{kid_of, mark_of, node_in, root_in}, declared.node_rev.Block.Block}
use Rattle.noderevs.specs.{declared.node_rev.NodeId.NodeId, declared.node_rev.NodeRev.NodeRev, declared.nodes.Nodes.Nodes}
use Rattle.fsfs_nodes.specs.{declared.change.FileChange.FileChange, declared.entries.DirectoryEntry.DirectoryEntry}
use Rattle.fsfs.specs.{Pieces.revision_of, declared.piece.FilePiece.FilePiece}
use Rattle.filed_trees.specs.{Pieces.{RevisionBytes, content_in, entries_in, entry_named, path_in, properties_in}, Changes.revision_in}
use Rattle.filed_trees.specs.{Comparing.{AreSame, IsSameNode}, Tables.{AreTabled, HasRows, IsAt, IsFiled, IsPlaced, placed_in, placed_of}}
use Rattle.filed_trees.specs.{Values.AreSameRevisions, declared.placed.Placed.Placed, declared.table.Table.Table}
use Rattle.filed_trees.specs.Readable.{AreEntries, IsOneOf, IsReadable, IsReadableFile, IsTabled}
use Rattle.filed_trees.specs.Trees as trees
use Rattle.filed_trees.proofs.{Read.offsets_fall, Rows.forwards}
use Rattle.noderevs.proofs.Pushing.{last_place}

-- a file that is there says what it says
said_by : (files : RevisionBytes) (n : ℕ) (said : List FilePiece × List FileChange) → revision_in files n ≡ Some said
    → (file : List ℕ) × (revision_of n file ≡ Ok said)
unfolding revision_in
said_by files n said is = by (slice_get files n) is
  where
    of_result : (file : List ℕ) (r : Result (List FilePiece × List FileChange) FileFault) → revision_of n file ≡ r → result_ok r ≡ Some said
        → (f : List ℕ) × (revision_of n f ≡ Ok said)
    of_result file (Ok x) read e = (file, read ∙ ap Ok (same_Some x said e))
    of_result file (Err fault) read e = absurd (none-some said e)

    by : (o : Option (List ℕ)) → option_and_then (λ file. result_ok (revision_of n file)) o ≡ Some said
        → (f : List ℕ) × (revision_of n f ≡ Ok said)
    by None e = absurd (none-some said e)
    by (Some file) e = of_result file (revision_of n file) refl e

-- the node revision at a place of a table
pub piece_at_place : (pieces : List FilePiece) (table : Table) → HasRows pieces table → (i : ℕ) (x : Placed) → slice_get table.placed.items i ≡ Some x
    → (piece : FilePiece) × ((slice_get (reverse pieces) i ≡ Some piece) × (placed_of piece.node ≡ x))
piece_at_place pieces table has i x at = by (slice_get (reverse pieces) i) refl
    (sym (slice_get-map (λ (piece : FilePiece). placed_of piece.node) (reverse pieces) i) ∙ ap (λ l. slice_get l i) (sym has) ∙ at)
  where
    by : (o : Option FilePiece) → slice_get (reverse pieces) i ≡ o → option_map (λ (piece : FilePiece). placed_of piece.node) o ≡ Some x
        → (piece : FilePiece) × ((slice_get (reverse pieces) i ≡ Some piece) × (placed_of piece.node ≡ x))
    by None there e = absurd (none-some x e)
    by (Some piece) there e = (piece, (there, same_Some (placed_of piece.node) x e))

-- offsets rise with the places of a table
pub rising : (files : RevisionBytes) (said : List FilePiece × List FileChange) (table : Table) (n j k : ℕ) (p q : Placed) → revision_in files n ≡ Some said
    → HasRows said.0 table → slice_get table.placed.items j ≡ Some p → slice_get table.placed.items k ≡ Some q → j < k → p.id.offset < q.id.offset
rising files said table n j k p q is has at_j at_k lt =
    let pieces = said.0 in
    let file = said_by files n said is in
    let a = piece_at_place pieces table has j p at_j in
    let b = piece_at_place pieces table has k q at_k in
    let within : k < length (reverse pieces) = slice_get_within (reverse pieces) k b.0 b.1.0 in
    let fall = offsets_fall n file.0 pieces said.1 file.1 (length pieces - 1 - k) (length pieces - 1 - j) b.0 a.0
    (omega (arith, lt, within, length-reverse pieces)) (forwards pieces k b.0 b.1.0) (forwards pieces j a.0 a.1.0) in
    let left : a.0.node.id.offset ≡ p.id.offset = ap (λ (x : Placed). x.id.offset) a.1.1 in
    let right : b.0.node.id.offset ≡ q.id.offset = ap (λ (x : Placed). x.id.offset) b.1.1 in
    omega (arith, fall, left, right)

module _ (files : RevisionBytes) (blocks : List Block) (tables : List Table) (lists : List ChangeMap) (all : AreTabled files blocks tables lists) where
  -- what is placed is of the revision of its place
  pub of_revision : (id : NodeId) (placed : Placed) → placed_in tables id ≡ Some placed → placed.id.revision ≡ id.rev
  of_revision id placed at = by (node_in blocks id) (subst (IsPlaced files tables id (node_in blocks id)) at (all.nodes id))
    where
      by : (o : Option NodeRev) → IsPlaced files tables id o (Some placed) → placed.id.revision ≡ id.rev
      by None is = absurd is
      by (Some node) is = is.revision

  -- an id is at one place
  pub apart : (i j : NodeId) (p q : Placed) → placed_in tables i ≡ Some p → placed_in tables j ≡ Some q → p.id ≡ q.id → i ≡ j
  apart i j p q at_i at_j same =
      let rev : i.rev ≡ j.rev = sym (of_revision i p at_i) ∙ ap (λ (x : FileId). x.revision) same ∙ of_revision j q at_j in
      λ t. record { rev = rev t; place = place rev (slice_get tables i.rev) refl t }
    where
      of_table : (table : Table) → i.rev ≡ j.rev → slice_get tables i.rev ≡ Some table → slice_get table.placed.items i.place ≡ Some p
          → slice_get table.placed.items j.place ≡ Some q → i.place ≡ j.place
      of_table table rev at at_p at_q = by (revision_in files i.rev) refl (all.rows i.rev table at)
        where
          no_offset : {X : Type 0} (x y : Placed) → x.id ≡ y.id → x.id.offset < y.id.offset → X
          no_offset x y same lt = let equal : x.id.offset ≡ y.id.offset = ap (λ (f : FileId). f.offset) same in absurd (omega (arith, lt, equal))

          by : (o : Option (List FilePiece × List FileChange)) → revision_in files i.rev ≡ o → IsSomeAnd o (λ said. HasRows said.0 table)
              → i.place ≡ j.place
          by None is has = absurd has
          by (Some said) is has = ⊎_elim
              (λ lt. no_offset p q same (rising files said table i.rev i.place j.place p q is has at_p at_q lt))
              (λ ge. ⊎_elim
              (λ lt. no_offset q p (sym same) (rising files said table i.rev j.place i.place q p is has at_q at_p lt))
              (λ le. omega (arith, ge, le))
              (cases_lt j.place i.place))
              (cases_lt i.place j.place)

      place : i.rev ≡ j.rev → (o : Option Table) → slice_get tables i.rev ≡ o → i.place ≡ j.place
      place rev None at = absurd (none-some p (sym (ap (option_and_then (λ (t : Table). slice_get t.placed.items i.place)) at) ∙ at_i))
      place rev (Some table) at = of_table table rev at
          (sym (ap (option_and_then (λ (t : Table). slice_get t.placed.items i.place)) at) ∙ at_i)
          (sym (ap (option_and_then (λ (t : Table). slice_get t.placed.items j.place)) (ap (slice_get tables) (sym rev) ∙ at)) ∙ at_j)

module _ (files : RevisionBytes) (blocks others : List Block) (tables more : List Table) (lists ms : List ChangeMap)
    (all : AreTabled files blocks tables lists) (also : AreTabled files others more ms) where
  -- the tables are the same
  pub same_placed : (id : NodeId) → placed_in tables id ≡ placed_in more id
  same_placed id = by (slice_get tables id.rev) (slice_get more id.rev) refl refl
    where
      long : length tables ≡ length more
      long = all.tabled ∙ sym all.all ∙ also.all ∙ sym also.tabled

      both : (t u : Table) → (o : Option (List FilePiece × List FileChange)) → IsSomeAnd o (λ said. HasRows said.0 t)
          → IsSomeAnd o (λ said. HasRows said.0 u) → t.placed.items ≡ u.placed.items
      both t u None a b = absurd a
      both t u (Some said) a b = a ∙ sym b

      by : (o p : Option Table) → slice_get tables id.rev ≡ o → slice_get more id.rev ≡ p
          → option_and_then (λ (t : Table). slice_get t.placed.items id.place) (slice_get tables id.rev)
          ≡ option_and_then (λ (t : Table). slice_get t.placed.items id.place) (slice_get more id.rev)
      by None None at at' = ap (option_and_then (λ (t : Table). slice_get t.placed.items id.place)) (at ∙ sym at')
      by None (Some u) at at' = let lt = slice_get_within more id.rev u at' in
          absurd (none-some (get_or tables id.rev u) (sym at ∙ slice_get-get_or tables id.rev u (omega (arith, lt, long))))
      by (Some t) None at at' = let lt = slice_get_within tables id.rev t at in
          absurd (none-some (get_or more id.rev t) (sym at' ∙ slice_get-get_or more id.rev t (omega (arith, lt, long))))
      by (Some t) (Some u) at at' =
          ap (option_and_then (λ (x : Table). slice_get x.placed.items id.place)) at
          ∙ ap (λ l. slice_get l id.place) (both t u (revision_in files id.rev) (all.rows id.rev t at) (also.rows id.rev u at'))
          ∙ sym (ap (option_and_then (λ (x : Table). slice_get x.placed.items id.place)) at')

  -- an id of the files is that of one node
  same_id : (o p : Option NodeId) (f : Option FileId) → IsAt tables o f → IsAt more p f → o ≡ p
  same_id None None f a b = refl
  same_id None (Some j) None a b = absurd b
  same_id None (Some j) (Some f) a b = absurd a
  same_id (Some i) None None a b = absurd a
  same_id (Some i) None (Some f) a b = absurd b
  same_id (Some i) (Some j) None a b = absurd a
  same_id (Some i) (Some j) (Some f) a b = by (placed_in tables i) (placed_in tables j) refl refl a
      (ap (option_map (λ (x : Placed). x.id)) (same_placed j) ∙ b)
    where
      by : (x y : Option Placed) → placed_in tables i ≡ x → placed_in tables j ≡ y → option_map (λ (z : Placed). z.id) x ≡ Some f
          → option_map (λ (z : Placed). z.id) y ≡ Some f → Some i ≡ Some j
      by None y at at' e e' = absurd (none-some f e)
      by (Some p) None at at' e e' = absurd (none-some f e')
      by (Some p) (Some q) at at' e e' =
          ap Some (apart files blocks tables lists all i j p q at at' (same_Some p.id f e ∙ sym (same_Some q.id f e')))

  same_filed : (id : NodeId) (node other : NodeRev) (placed : Placed) → IsFiled files tables id node placed → IsFiled files more id other placed
      → IsSameNode node other
  same_filed id node other placed f g =
      let piece : f.piece ≡ g.piece = same_Some f.piece g.piece (sym f.there ∙ g.there) in
      let entries : f.entries ≡ g.entries =
      same_Some f.entries g.entries (sym f.read ∙ ap (λ (x : FilePiece). entries_in files x.node) piece ∙ g.read) in
      record {
        path = same_Some node.path other.path (sym f.path ∙ ap (λ (x : FilePiece). path_in x.node) piece ∙ g.path);
        own = same_Some (mark_of node.own) (mark_of other.own) (sym f.own ∙ g.own);
        content = same_Some (arc_value node.content) (arc_value other.content) (sym f.content ∙ ap (λ (x : FilePiece). content_in files x.node) piece ∙ g.content);
        properties = same_Some (arc_value node.properties) (arc_value other.properties)
            (sym f.properties ∙ ap (λ (x : FilePiece). properties_in files x.node.properties) piece ∙ g.properties);
        kids = λ name. same_id (kid_of name node) (kid_of name other) (entry_named name f.entries) (f.kids name)
            (subst (λ es. IsAt more (kid_of name other) (entry_named name es)) (sym entries) (g.kids name));
      }

  pub same_revisions : AreSameRevisions blocks others lists ms
  same_revisions = record {
    nodes = λ id. by id (node_in blocks id) (node_in others id) (placed_in tables id) (all.nodes id)
        (subst (IsPlaced files more id (node_in others id)) (sym (same_placed id)) (also.nodes id));
    roots = λ n. same_id (root_in blocks n) (root_in others n) (trees.root_in files n) (all.roots n) (also.roots n);
    changes = λ n. sym (all.changed n) ∙ also.changed n;
  }
    where
      by : (id : NodeId) (o p : Option NodeRev) (q : Option Placed) → IsPlaced files tables id o q → IsPlaced files more id p q → AreSame o p
      by id None None q a b = tt
      by id None (Some other) None a b = absurd b
      by id None (Some other) (Some placed) a b = absurd a
      by id (Some node) None None a b = absurd a
      by id (Some node) None (Some placed) a b = absurd b
      by id (Some node) (Some other) None a b = absurd a
      by id (Some node) (Some other) (Some placed) a b = same_filed id node other placed a b

  -- what is tabled in one is tabled in the other
  tabled_same : (f : FileId) → IsTabled tables f → IsTabled more f
  tabled_same f is = by (slice_get tables f.revision) refl is
    where
      at : ℕ → NodeId
      at k = record { rev = f.revision; place = k }

      in_more : (k : ℕ) (p : Placed) → p.id ≡ f → (o : Option Table) → slice_get more f.revision ≡ o
          → option_and_then (λ (t : Table). slice_get t.placed.items k) o ≡ Some p
          → IsSomeAnd o (λ t. (j : ℕ) × IsSomeAnd (slice_get t.placed.items j) (λ q. q.id ≡ f))
      in_more k p same None there e = absurd (none-some p e)
      in_more k p same (Some u) there e = (k, subst (λ o. IsSomeAnd o (λ q. q.id ≡ f)) (sym e) same)

      placed : (t : Table) (k : ℕ) → slice_get tables f.revision ≡ Some t → (o : Option Placed) → slice_get t.placed.items k ≡ o
          → IsSomeAnd o (λ p. p.id ≡ f) → IsTabled more f
      placed t k there None e same = absurd same
      placed t k there (Some p) e same = in_more k p same (slice_get more f.revision) refl
          (sym (same_placed (at k)) ∙ ap (option_and_then (λ (x : Table). slice_get x.placed.items k)) there ∙ e)

      by : (o : Option Table) → slice_get tables f.revision ≡ o
          → IsSomeAnd o (λ t. (j : ℕ) × IsSomeAnd (slice_get t.placed.items j) (λ q. q.id ≡ f)) → IsTabled more f
      by None there has = absurd has
      by (Some t) there has = placed t has.0 there (slice_get t.placed.items has.0) refl has.1

  -- what can be read with one can be read with the other
  pub readable_same : (fs : RevisionBytes) (pieces : List FilePiece) (said : List FileChange) → IsReadableFile fs tables pieces said
      → IsReadableFile fs more pieces said
  readable_same fs pieces said r = record {
    nodes = record {
      root = r.nodes.root;
      nodes = λ k d lt. one (get_or pieces k d) (r.nodes.nodes k d lt);
    };
    changes_are = r.changes_are;
  }
    where
      known : (f : FileId) → IsTabled tables f ⊎ IsOneOf pieces f → IsTabled more f ⊎ IsOneOf pieces f
      known f = ⊎_elim (λ is. inl (tabled_same f is)) (λ is. inr is)

      if_tabled : (o : Option FileId) → IfSome o (IsTabled tables) → IfSome o (IsTabled more)
      if_tabled None is = tt
      if_tabled (Some f) is = tabled_same f is

      if_known : (o : Option FileId) → IfSome o (λ f. IsTabled tables f ⊎ IsOneOf pieces f) → IfSome o (λ f. IsTabled more f ⊎ IsOneOf pieces f)
      if_known None is = tt
      if_known (Some f) is = known f is

      entries : (o : Option (List DirectoryEntry)) → IsSomeAnd o (AreEntries (λ f. IsTabled tables f ⊎ IsOneOf pieces f))
          → IsSomeAnd o (AreEntries (λ f. IsTabled more f ⊎ IsOneOf pieces f))
      entries None is = absurd is
      entries (Some es) is = record { once = is.once; known = λ name. if_known _ (is.known name) }

      one : (piece : FilePiece) → IsReadable fs tables (λ f. IsTabled tables f ⊎ IsOneOf pieces f) piece
          → IsReadable fs more (λ f. IsTabled more f ⊎ IsOneOf pieces f) piece
      one piece x = record {
        path = x.path;
        before = if_tabled _ x.before;
        text = x.text;
        kind = x.kind;
        entries = entries _ x.entries;
        properties = x.properties;
        list = x.list;
      }

-- what is read of the last file is what stands there
module _ (files : RevisionBytes) (blocks : List Block) (b c : Block) (ts us : List Table) (lists : List ChangeMap) (l m : ChangeMap)
    (all : AreTabled files (blocks ++ b ∷ []) ts (lists ++ l ∷ [])) (also : AreTabled files (blocks ++ c ∷ []) us (lists ++ m ∷ []))
    (nodes : Nodes) (is : blocks_of nodes ≡ blocks ++ c ∷ []) where
  same : AreSameRevisions (blocks ++ b ∷ []) (blocks ++ c ∷ []) (lists ++ l ∷ []) (lists ++ m ∷ [])
  same = same_revisions files (blocks ++ b ∷ []) (blocks ++ c ∷ []) ts us (lists ++ l ∷ []) (lists ++ m ∷ []) all also

  pub last_nodes : (id : NodeId) → id.rev ≡ length blocks → AreSame (slice_get b.nodes.items id.place) (node_at nodes id)
  last_nodes id e = subst (λ bs. AreSame (slice_get b.nodes.items id.place) (node_in bs id)) (sym is)
      (subst (λ o. AreSame o (node_in (blocks ++ c ∷ []) id))
      (ap (option_and_then (λ (x : Block). slice_get x.nodes.items id.place)) (ap (slice_get (blocks ++ b ∷ [])) e ∙ last_place blocks b))
      (same.nodes id))

  pub last_root_is : root_at nodes (length blocks) ≡ Some b.root
  last_root_is = ap (λ bs. root_in bs (length blocks)) is ∙ sym (same.roots (length blocks))
      ∙ ap (option_map (λ (x : Block). x.root)) (last_place blocks b)

  many : length lists ≡ length blocks
  many = omega (arith, all.listed, length-append lists (l ∷ []), length-append blocks (b ∷ []))

  pub last_changes_are : entries l ≡ entries m
  last_changes_are = same_Some (entries l) (entries m)
      (sym (ap (option_map entries) (last_place lists l)) ∙ same.changes (length lists) ∙ ap (option_map entries) (last_place lists m))
