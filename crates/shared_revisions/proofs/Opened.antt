-- A new repository.
use Rattle.std.proofs.{Common.{◌≡◌, ℕ, zero, suc, List, [], ◌∷◌, Option, Some, None, is_some, refl, sym, ap, subst, ◌∙◌}, lemmas.Bool.false≢true}
use Rattle.std.specs.{FinMap.empty, Prelude.slice_get}
use Rattle.svnpath.specs.Paths.{PathValue}
use Rattle.repo_api.specs.{Opening.opening_tree, States.{ChangeMap, Revision, tree_of}, Trees.Tree, declared.entry.Mark.Mark}
use Rattle.repo_api.specs.declared.entry.Mark.TheVariants.{Open, Made}
use Rattle.noderevs.specs.{Nodes.{node_in, root_in, with_block}, OpeningBlocks.{AreOpening, IsOpeningBlock}, Soundness.{AreKidsThere, AreRootsThere}}
use Rattle.noderevs.specs.{Views.find_id, declared.node_rev.Block.Block, declared.node_rev.NodeRev.NodeRev}
use Rattle.shared_revisions.specs.{Placed.{ArePlaced, IsPlacedBlock}, Shown.{AreShownAs, Shown, same_shown, the_shown}}
use Rattle.shared_revisions.proofs.Placing.{placed_pushed}

-- ---- its node stands at its path

abbrev mark_path : Mark → PathValue
mark_path Open = []
mark_path (Made r p) = p

abbrev path_or : PathValue → Option NodeRev → PathValue
path_or p None = p
path_or p (Some node) = node.path

placed_alone : (block : Block) → IsOpeningBlock block → IsPlacedBlock (node_in []) 0 block
placed_alone block is k node at = by k (ap (λ ns. slice_get ns k) (sym is.nodes) ∙ at)
  where
    by : (k : ℕ) → slice_get (is.node ∷ []) k ≡ Some node
        → find_id (with_block (node_in []) 0 block.nodes.items) node.path (Some block.root)
        ≡ Some (record { rev = 0; place = k })
    by zero same =
        let path : node.path ≡ [] =
        sym (ap (path_or []) same) ∙ ap (λ e. mark_path e.last) is.is.entry in
        ap (λ p. find_id (with_block (node_in []) 0 block.nodes.items) p (Some block.root)) path
        ∙ ap Some is.root
    by (suc k) same = absurd (false≢true (ap is_some same))

no_kids : AreKidsThere (node_in [])
no_kids id kid name is = absurd (false≢true (ap is_some is))

no_roots : AreRootsThere (node_in []) (root_in [])
no_roots n id is = absurd (false≢true (ap is_some is))

none_placed : ArePlaced (node_in []) (root_in [])
none_placed id node is = absurd (false≢true (ap is_some is))

pub opening_placed : (blocks : List Block) → AreOpening blocks
    → ArePlaced (node_in blocks) (root_in blocks)
opening_placed blocks are =
    subst (λ bs. ArePlaced (node_in bs) (root_in bs)) (sym are.alone)
    (placed_pushed [] are.block no_kids no_roots none_placed (placed_alone are.block are.is))

-- ---- its one revision

abbrev opening_revision : Revision
opening_revision = record { tree = opening_tree; changes = empty }

module _ (trees : ℕ → Tree) (cs : List ChangeMap) (none : cs ≡ empty ∷ [])
    (seen : (q : PathValue) → trees 0 q ≡ tree_of opening_tree q) where
  shows_one : AreShownAs trees cs (opening_revision ∷ [])
  shows_one =
      subst (λ l. AreShownAs trees l (opening_revision ∷ [])) (sym none)
      ((refl, λ p. sym (seen p)), tt)

  pub opening_shown : ∥ Shown trees cs ∥₁
  opening_shown = ∣ (opening_revision ∷ [], shows_one) ∣₁

  pub opening_is : (shown : ∥ Shown trees cs ∥₁)
      → (the_shown trees cs shown).0 ≡ opening_revision ∷ []
  opening_is shown =
      let s = the_shown trees cs shown in
      same_shown trees cs s.0 (opening_revision ∷ []) s.1 shows_one
