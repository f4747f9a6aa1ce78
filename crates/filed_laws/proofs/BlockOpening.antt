-- The block of revision 0 is right.
use Rattle.std.proofs.Common.{◌≡◌, ℕ, zero, suc, List, [], ◌∷◌, length, Some, None, is_some, refl, sym, ap, subst, ◌∙◌, arith, if◌then◌else◌}
use Rattle.std.proofs.lemmas.Option.{slice_get_read}
use Rattle.std.specs.{List.Sorted.IsStrictlySortedBy, Prelude.{option_and_then, slice_get}}
use Rattle.svnpath.specs.Paths.{PathValue}
use Rattle.repo_api.specs.{Histories.Changed, declared.entry.Entry.Entry, declared.entry.Mark.Mark, declared.entry.Mark.TheVariants.{Made, Open}}
use Rattle.revision_data.specs.Found.{found}
use Rattle.noderevs.specs.{Held.{blocks_of, node_at}, Nodes.mark_of, OpeningBlocks.{AreOpening, IsOpeningBlock}, declared.node_rev.NodeRev.NodeRev}
use Rattle.noderevs.specs.declared.nodes.Nodes.{Nodes}
use Rattle.filed_trees.specs.Tables.{placed_in}
use Rattle.filed_writing.specs.{Layout.{made_from, nodes_in, nodes_of}, Origins.predecessor_of, Pieces.with_both, declared.revision.Revision.Revision}
use Rattle.filed_writing.specs.Blocks.{AreRightChanges, IsRightBlock, IsRightHere, PropertiesFit, own_from, right_own}

no_properties : PropertiesFit []
unfolding IsStrictlySortedBy
no_properties = record { each = refl; rise = tt }

mark_path : Mark → PathValue
mark_path Open = []
mark_path (Made n p) = p

-- nothing was there before
no_origin : (nodes : Nodes) (changes : List Changed) (n : ℕ) (path : PathValue) → changes ≡ [] → n ≡ 0 → path ≡ [] → predecessor_of nodes changes n path ≡ None
no_origin nodes changes n path none first root = λ i. predecessor_of nodes (none i) (first i) (root i)

module _ (r : Revision) (opening : AreOpening (blocks_of r.nodes.now)) (number : r.number ≡ 0) (changes : r.changes.now ≡ []) where
  abbrev is : IsOpeningBlock opening.block
  is = opening.is

  abbrev node : NodeRev
  node = is.node

  path_is : node.path ≡ []
  unfolding mark_path
  path_is = ap (λ (e : Entry). mark_path e.last) is.is.entry

  from_none : made_from r node ≡ None
  from_none =
      ap (option_and_then (λ id. with_both (node_at r.nodes.now id) (placed_in r.tables.now id)))
      (no_origin r.nodes.now r.changes.now r.number node.path changes number path_is)

  own_is : mark_of node.own ≡ right_own r node
  own_is =
      let right : right_own r node ≡ Made 0 [] = λ i.
      if is_some (found (changes i) (path_is i)) then Made (number i) (path_is i) else own_from (Made (number i) (path_is i)) (from_none i) in
      ap (λ (e : Entry). e.own) is.is.entry ∙ sym right

  right_node : IsRightHere r node
  right_node = record {
    properties = subst PropertiesFit (sym (ap (λ (e : Entry). e.properties) is.is.entry)) no_properties;
    own = own_is;
  }

  nodes_are : nodes_of r ≡ node ∷ []
  nodes_are = (λ i. nodes_in (slice_get (opening.alone i) (number i))) ∙ is.nodes

  one_node : (k : ℕ) (n : NodeRev) → slice_get (node ∷ []) k ≡ Some n → IsRightHere r n
  one_node zero n at = let same : node ≡ n = cc at in subst (λ (m : NodeRev). IsRightHere r m) same right_node
  one_node (suc k) n at = absurd (cc at)

  pub opening_right : IsRightBlock r
  opening_right = record {
    nodes = λ n among.
        let there : slice_get (nodes_of r) among.0 ≡ Some n = slice_get_read (nodes_of r) (length (nodes_of r)) among.0 n refl among.1 (sym among.2) in
        one_node among.0 n (ap (λ (l : List NodeRev). slice_get l among.0) (sym nodes_are) ∙ there);
    changes = subst AreRightChanges (sym changes) (λ change among. absurd (omega (arith, among.1)));
  }
