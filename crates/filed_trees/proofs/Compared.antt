-- A node that was compared with a node revision is filed as it.
use Rattle.std.proofs.Common.{◌≡◌, ◌==◌, ℕ, ◌<◌, Bool, true, false, List, [], ◌∷◌, Option, Some, None, option_map, is_some, refl, sym, ap, subst, ◌∙◌, arith}
use Rattle.std.proofs.{Common.rules, lemmas.Option.{none-some, same_Some, slice_get_within}}
use Rattle.std.specs.{Arc.arc_value, Prelude.{IsSomeAnd, option_and_then, slice_get, if◌then◌else◌}}
use Rattle.svnpath.specs.Paths.{PathValue}
use Rattle.repo_api.specs.{declared.entry.Mark.Mark, declared.entry.Mark.TheVariants.Made}
use Rattle.revision_data.specs.Found.{found}
use Rattle.noderevs.specs.{Held.node_at, Nodes.mark_of, declared.node_rev.NodeId.NodeId, declared.node_rev.NodeRev.NodeRev}
use Rattle.fsfs_text.specs.declared.id.FileId.{FileId}
use Rattle.fsfs.specs.declared.piece.FilePiece.{FilePiece}
use Rattle.filed_trees.specs.{Pieces.{RevisionBytes, piece_in, path_in, properties_in}, Changes.ChangeRows}
use Rattle.filed_trees.specs.{Trees.{own_from, own_at, own_below, own_in, first_id}, Tables.{placed_in, placed_of, IsFiled, IsPlaced}}
use Rattle.filed_trees.specs.Comparing.{AreFor, HasContent, IsEarlier, IsOfLast, WasFiled, earlier_own, revision_in, tables_of}
use Rattle.filed_trees.specs.{declared.places.Earlier.Earlier, declared.places.Places.Places, declared.placed.Placed.Placed, declared.table.Table.Table}
use Rattle.filed_trees.proofs.Growing.{own_earlier}

same_number : (n : ℕ) → (n == n) ≡ true
same_number n = search (rules, arith)

module _ (files : RevisionBytes) (places : Places) (rows : ChangeRows) (for : AreFor files places rows) where
  -- a place of an earlier table has a node
  pub is_there : (table : Table) (k : ℕ) (id : FileId) → slice_get places.tables.now id.revision ≡ Some table
      → IsSomeAnd (slice_get table.placed.items k) (λ p. p.id ≡ id)
      → node_at places.nodes.now (record { rev = id.revision; place = k }) ≡ None → ⊥
  is_there table k id at is none = by (slice_get table.placed.items k) refl is
    where
      node : NodeId
      node = record { rev = id.revision; place = k }

      by : (o : Option Placed) → slice_get table.placed.items k ≡ o → IsSomeAnd o (λ p. p.id ≡ id) → ⊥
      by None at_k is = is
      by (Some p) at_k is =
          let placed : placed_in places.tables.now node ≡ Some p = ap (option_and_then (λ t. slice_get t.placed.items k)) at ∙ at_k in
          subst (λ o. IsPlaced files (tables_of places) node o (Some p)) none
          (subst (IsPlaced files (tables_of places) node (node_at places.nodes.now node)) placed
          (for.earlier node (slice_get_within places.tables.now id.revision table at)))

  pub filed_earlier : (o : Option FileId) (e : Earlier) → (p : FileId) → o ≡ Some p → IsEarlier places o (Some e)
      → (n : NodeId) × ((n.rev < revision_in places) × ((e.placed.now.id ≡ p) × IsFiled files (tables_of places) n e.node.now e.placed.now))
  filed_earlier None e p is at = absurd (none-some p is)
  filed_earlier (Some id) e p is at =
      let n = at.0 in
      let two = at.1.1.1 in (
        n,
        (
          at.1.0,
          (
            two.1 ∙ same_Some id p is,
            subst (λ o. IsPlaced files (tables_of places) n o (Some e.placed.now)) at.1.1.0
                (subst (IsPlaced files (tables_of places) n (node_at places.nodes.now n)) two.0 (for.earlier n at.1.0)),
          ),
        ),
      )

  pub was_filed : (o : Option FileId) (e : Option Earlier) → IsEarlier places o e → WasFiled files places e
  was_filed None None at = tt
  was_filed None (Some e) at = absurd at
  was_filed (Some id) None at = absurd at
  was_filed (Some id) (Some e) at = let f = filed_earlier (Some id) e id refl at in (f.0, f.1.1.1)

  -- the predecessor's own mark is the one that the node has
  own_before : (o : Option FileId) (e : Option Earlier) → IsEarlier places o e → (p : FileId) → o ≡ Some p → (m : Mark)
      → earlier_own e ≡ Some m → own_below files (revision_in places) p ≡ Some m
  own_before o None at p is m own = absurd (none-some m own)
  own_before o (Some e) at p is m own =
      let f = filed_earlier o e p is at in
      let filed = f.1.1.1 in
      let same : e.placed.now.id ≡ p = f.1.1.0 in
      let older : p.revision ≡ f.0.rev = ap (λ (i : FileId). i.revision) (sym same) ∙ filed.revision in
      let before : f.0.rev < revision_in places = f.1.0 in
      sym (own_earlier files (revision_in places) p (λ e. omega (arith, older, before, e)))
      ∙ ap (λ (n : ℕ). own_below files n p) (sym for.long)
      ∙ ap (own_in files) (sym same) ∙ filed.own ∙ own

  own_here : (o : Option FileId) (e : Option Earlier) → IsEarlier places o e → (here m : Mark) (b : Bool)
      → own_from (λ _. earlier_own e) here (if b then None else o) ≡ Some m
      → own_from (own_below files (revision_in places)) here (if b then None else o) ≡ Some m
  own_here o e at here m true own = own
  own_here None e at here m false own = own
  own_here (Some p) e at here m false own = own_before (Some p) e at p refl m own

  own_of_last : (piece : FilePiece) (path : PathValue) (m : Mark) → piece_in files piece.node.id ≡ Some piece → path_in piece.node ≡ Some path
      → own_from (own_below files (revision_in places)) (Made (revision_in places) path) (if is_some (found rows path) then None else piece.node.predecessor) ≡ Some m
      → own_at files (own_below files (revision_in places)) (revision_in places) piece.node.id ≡ Some m
  unfolding own_at
  own_of_last piece path m there at own = rw (there, at, for.changes) own

  pub compared_filed : (piece : FilePiece) (node : NodeRev) (e : Option Earlier) → IsOfLast files (revision_in places) piece
      → path_in piece.node ≡ Some node.path → IsEarlier places piece.node.predecessor e
      → own_from (λ _. earlier_own e) (Made (revision_in places) node.path) (if is_some (found rows node.path) then None else piece.node.predecessor)
      ≡ Some (mark_of node.own)
      → HasContent files (tables_of places) piece.node (arc_value node.content) node.kids
      → properties_in files piece.node.properties ≡ Some (arc_value node.properties)
      → (id : NodeId) → id.rev ≡ revision_in places → IsFiled files (tables_of places) id node (placed_of piece.node)
  compared_filed piece node e last path at own content properties id rev = record {
    piece = piece;
    there = last.there;
    is = refl;
    revision = last.revision_is ∙ sym rev;
    path = path;
    content = content.content;
    properties = properties;
    own = ap (λ (n : ℕ). own_below files n piece.node.id) for.long
        ∙ ap (λ b. if b then own_at files (own_below files (revision_in places)) (revision_in places) piece.node.id
        else own_below files (revision_in places) piece.node.id)
        (ap (λ (n : ℕ). n == revision_in places) last.revision_is ∙ same_number (revision_in places))
        ∙ own_of_last piece node.path (mark_of node.own) last.there path
        (own_here piece.node.predecessor e at (Made (revision_in places) node.path) (mark_of node.own) (is_some (found rows node.path)) own);
    entries = content.entries;
    read = content.read;
    kids = content.kids;
  }

pub first_of : (pieces : List FilePiece) → option_map (λ p. p.node.id) (slice_get pieces 0) ≡ first_id pieces
first_of [] = refl
first_of (piece ∷ pieces) = refl
