-- The nodes of revision 0.
use Rattle.std.proofs.Common.{◌≡◌, ◌==◌, ℕ, zero, suc, Bool, true, false, [], ◌∷◌, Option, Some, None, option_and_then, refl, sym, ap, ◌∙◌, arith}
use Rattle.std.proofs.lemmas.Option.{slice_get_within}
use Rattle.std.specs.Prelude.{Result, Ok, Err, IfOk, if◌then◌else◌, slice_get}
use Rattle.svnpath.specs.Paths.{Component, PathValue}
use Rattle.repo_api.specs.{Opening.{opening_root, opening_tree}, StateLaws.get_path, States.tree_of}
use Rattle.noderevs.specs.{Nodes.{node_in, kid_of, kid_at, with_block}, OpeningBlocks.{opening_id, IsOpeningBlock}, Views.shared_tree}
use Rattle.noderevs.specs.{declared.node_rev.Block.Block, declared.node_rev.NodeId.NodeId, declared.node_rev.NodeRev.NodeRev}
use Rattle.noderevs.proofs.Finding.{nothing_under}

no_kid : (node : NodeRev) → ((name : Component) → kid_of name node ≡ None) → (id : NodeId) (name : Component) → kid_at (with_block (node_in []) 0 (node ∷ [])) (Some id) name ≡ None
no_kid node none id name = by (id.rev == 0)
  where
    first : (k : ℕ) → option_and_then (kid_of name) (slice_get (node ∷ []) k) ≡ None
    first zero = none name
    first (suc k) = refl

    by : (b : Bool) → option_and_then (kid_of name) (if b then slice_get (node ∷ []) id.place else node_in [] id) ≡ None
    by true = first id.place
    by false = refl

one_place : (node m : NodeRev) (k : ℕ) → slice_get (node ∷ []) k ≡ Some m → k ≡ 0
one_place node m k is = let within = slice_get_within (node ∷ []) k m is in omega (arith, within)

some_is : (m n : NodeRev) → Some m ≡ Some n → m ≡ n
some_is m n e = ap (λ o. or_node m o) e
  where
    or_node : NodeRev → Option NodeRev → NodeRev
    or_node d None = d
    or_node d (Some x) = x

opening_at : (q : PathValue) (name : Component) → tree_of opening_tree (name ∷ q) ≡ None
opening_at q name = get_path (([], opening_root) ∷ []) (name ∷ q)

opening_top : tree_of opening_tree [] ≡ Some opening_root
opening_top = get_path (([], opening_root) ∷ []) []

pub opening_trees : (block : Block) → IsOpeningBlock block → (q : PathValue)
    → shared_tree (with_block (node_in []) 0 block.nodes.items) (Some block.root) q ≡ tree_of opening_tree q
opening_trees block is q = ap (λ ns. shared_tree (with_block (node_in []) 0 ns) (Some block.root) q) is.nodes
    ∙ ap (λ id. shared_tree (with_block (node_in []) 0 (is.node ∷ [])) (Some id) q) is.root ∙ by q
  where
    by : (q : PathValue) → shared_tree (with_block (node_in []) 0 (is.node ∷ [])) (Some opening_id) q ≡ tree_of opening_tree q
    by [] = ap Some is.is.entry ∙ sym opening_top
    by (name ∷ q) = ap (λ o. shared_tree (with_block (node_in []) 0 (is.node ∷ [])) o q) (no_kid is.node is.is.kids opening_id name)
        ∙ nothing_under (with_block (node_in []) 0 (is.node ∷ [])) q ∙ sym (opening_at q name)

pub ok_weaker : {X Y : Type 0} (r : Result X Y) (P Q : X → Type 0) → ((x : X) → P x → Q x) → IfOk r P → IfOk r Q
ok_weaker (Ok x) P Q f h = f x h
ok_weaker (Err e) P Q f h = h
