-- Nodes stand at their paths, with a further revision too.
use Rattle.std.proofs.Common.{◌≡◌, ◌≢◌, ◌==◌, ℕ, Bool, true, false, List, [], ◌∷◌, ◌++◌, length, Option, Some, None, option_and_then, refl, sym, ap, subst}
use Rattle.std.proofs.{Common.{arith, rules, ◌∙◌}, lemmas.Bool.false≢true}
use Rattle.std.specs.Prelude.{if◌then◌else◌, slice_get}
use Rattle.svnpath.specs.Paths.{PathValue}
use Rattle.noderevs.specs.{Nodes.{Grows, IsBefore, IsThere, kid_at, kid_of, Look, node_in, root_in, with_block}, Soundness.{AreKidsThere, AreRootsThere}}
use Rattle.noderevs.specs.{Views.find_id, declared.node_rev.Block.Block, declared.node_rev.NodeId.NodeId}
use Rattle.noderevs.proofs.Pushing.{same_number, behind, next_is_free, pushed_look, last_root, other_root}
use Rattle.shared_revisions.specs.Placed.{ArePlaced, IsPlacedBlock}

alike : (j k : ℕ) → (j == k) ≡ true → j ≡ k
alike j k same = search (rules, arith, same)

differ : (j k : ℕ) → (j == k) ≡ false → j ≢ k
differ j k apart e = false≢true (sym apart ∙ ap (λ n. j == n) (sym e) ∙ same_number j)

same_kid : (a b : Look) → Grows a b → (o : Option NodeId)
    → ((id : NodeId) → o ≡ Some id → IsThere a id) → (n : List ℕ) → kid_at b o n ≡ kid_at a o n
same_kid a b grows None there n = refl
same_kid a b grows (Some id) there n = ap (option_and_then (kid_of n)) (grows id (there id refl))

kids_there : (a : Look) → AreKidsThere a → (o : Option NodeId) (n : List ℕ) (kid : NodeId)
    → kid_at a o n ≡ Some kid → IsThere a kid
kids_there a kids None n kid is = cc
kids_there a kids (Some id) n kid is = kids id kid n is

-- what a path leads to stays
find_still : (a b : Look) → Grows a b → AreKidsThere a → (o : Option NodeId)
    → ((id : NodeId) → o ≡ Some id → IsThere a id) → (p : PathValue) → find_id b p o ≡ find_id a p o
find_still a b grows kids o there [] = refl
find_still a b grows kids o there (n ∷ p) =
    ap (find_id b p) (same_kid a b grows o there n)
    ∙ find_still a b grows kids (kid_at a o n) (λ kid is. kids_there a kids o n kid is) p

placed_with : (look : Look) (root more : ℕ → Option NodeId) (rev : ℕ) (block : Block)
    → IsBefore look rev → AreKidsThere look → AreRootsThere look root
    → ((k : ℕ) → k ≢ rev → more k ≡ root k) → more rev ≡ Some block.root → ArePlaced look root
    → IsPlacedBlock look rev block
    → ArePlaced (with_block look rev block.nodes.items) more
placed_with look root more rev block before kids roots others last old new id node is =
    by (id.rev == rev) refl is
  where
    w : Look
    w = with_block look rev block.nodes.items

    by : (b : Bool) → (id.rev == rev) ≡ b
        → (if b then slice_get block.nodes.items id.place else look id) ≡ Some node
        → find_id w node.path (more id.rev) ≡ Some id
    by true e at =
        let here : id.rev ≡ rev = alike id.rev rev e in
        ap (find_id w node.path) (ap more here ∙ last) ∙ new id.place node at
        ∙ (λ i. Some (record { rev = sym here i; place = id.place }))
    by false e at =
        ap (find_id w node.path) (others id.rev (differ id.rev rev e))
        ∙ find_still look w (behind look rev block.nodes.items before) kids (root id.rev)
        (λ top there. roots id.rev top there) node.path
        ∙ old id node at

pub placed_pushed : (blocks : List Block) (b : Block) → AreKidsThere (node_in blocks)
    → AreRootsThere (node_in blocks) (root_in blocks) → ArePlaced (node_in blocks) (root_in blocks)
    → IsPlacedBlock (node_in blocks) (length blocks) b
    → ArePlaced (node_in (blocks ++ b ∷ [])) (root_in (blocks ++ b ∷ []))
placed_pushed blocks b kids roots old new =
    subst (λ look. ArePlaced look (root_in (blocks ++ b ∷ [])))
    (λ i id. sym (pushed_look blocks b id) i)
    (placed_with (node_in blocks) (root_in blocks) (root_in (blocks ++ b ∷ [])) (length blocks) b
    (next_is_free blocks) kids roots (other_root blocks b) (last_root blocks b) old new)
