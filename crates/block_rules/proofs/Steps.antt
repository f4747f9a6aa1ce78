-- The way to a node: what is known of it, depth by depth.
use Rattle.std.proofs.Common.{◌≡◌, ◌&&◌, ℕ, zero, suc, ◌<◌, ◌≤◌, ◌+◌, Bool, List, [], ◌∷◌, ◌++◌, length, get_or, take, min, Option, Some, None, slice_get, refl}
use Rattle.std.proofs.{Common.{sym, ap, arith, ◌∙◌}, Math.Seq.take-suc, lemmas.List.{get_or-take, length-take, take-take}}
use Rattle.std.proofs.lemmas.Option.{get_or_from_slice_get, none-some, slice_get-get_or, slice_get_within}
use Rattle.std.specs.List.{list_all, range_with_len}
use Rattle.svnpath.specs.Paths.{Component, PathValue}
use Rattle.noderevs.specs.{Nodes.kid_at, declared.node_rev.NodeId.NodeId}
use Rattle.noderevs.proofs.Finding.{find_append}
use Rattle.block_rules.specs.{Rules.{Before, beside, is_new, is_new_down_to, past_of}, Ways.{IsWay, id_at}, declared.next_block.NextBlock.NextBlock}
use Rattle.block_rules.specs.declared.way.Way.{Way}

-- at the next depth of a path
pub found_next : (tree : NextBlock) (path : PathValue) (above depth : ℕ) (name : Component) → depth ≡ suc above → above < length path
    → name ≡ get_or path above name
    → id_at tree (take depth path) ≡ kid_at (beside (past_of tree.nodes.now) tree.block.now) (id_at tree (take above path)) name
found_next tree path above depth name more lt is =
    ap (id_at tree) (ap (λ k. take k path) more ∙ take-suc path above name lt ∙ ap (λ (n : Component). take above path ++ n ∷ []) (sym is))
    ∙ find_append (beside (past_of tree.nodes.now) tree.block.now) (take above path) (name ∷ []) (Some tree.block.now.root)

-- what is kept of the front of a list
pub kept_front : {X : Type 0} (xs : List X) (n d : ℕ) (x : X) → slice_get (take n xs) d ≡ Some x → (d < n) × (slice_get xs d ≡ Some x)
kept_front xs n d x at =
    let within : d < length (take n xs) = slice_get_within (take n xs) d x at in
    let long : length (take n xs) ≡ min n (length xs) = length-take n xs in
    let front : d < n = omega (arith, within, long) in
    let inside : d < length xs = omega (arith, within, long) in
    (front, slice_get-get_or xs d x inside ∙ ap Some (sym (get_or-take n xs d x front) ∙ get_or_from_slice_get (take n xs) d x x at))

-- paths that begin alike as far as this begin alike less far
pub shared_front : (p q : PathValue) (n d : ℕ) → d ≤ n → take n p ≡ take n q → take d p ≡ take d q
shared_front p q n d le same = sym (take-take d n p le) ∙ ap (take d) same ∙ take-take d n q le

abbrev pub some_or : {X : Type 0} → X → Option X → X
some_or x None = x
some_or x (Some y) = y

-- one more behind those that are known
pub one_more : {X : Type 0} (f : ℕ → X) (xs : List X) (x : X) → ((d : ℕ) (y : X) → slice_get xs d ≡ Some y → y ≡ f d)
    → x ≡ f (length xs) → (d : ℕ) (y : X) → slice_get (xs ++ x ∷ []) d ≡ Some y → y ≡ f d
one_more f [] x each is zero y at = ap (some_or y) (sym at) ∙ is
one_more f [] x each is (suc d) y at = absurd (none-some y at)
one_more f (z ∷ xs) x each is zero y at = each zero y at
one_more f (z ∷ xs) x each is (suc d) y at = one_more (λ k. f (suc k)) xs x (λ k v. each (suc k) v) is d y at

one_on : (k : ℕ) → k + 1 ≡ suc k
one_on k = omega arith

from_one : (f : ℕ → Bool) (a n : ℕ) → list_all f (range_with_len (a + 1) n) ≡ list_all (λ k. f (suc k)) (range_with_len a n)
from_one f a zero = refl
from_one f a (suc n) =
    ap (λ k. f k && list_all f (range_with_len (a + 1 + 1) n)) (one_on a)
    ∙ ap (λ b. f (suc a) && b) (from_one f (a + 1) n)

-- all that are known are of the block: so is what is at each of these depths
all_known : (past : Before) (f : ℕ → Option NodeId) (ids : List (Option NodeId))
    → ((d : ℕ) (id : Option NodeId) → slice_get ids d ≡ Some id → id ≡ f d)
    → list_all (is_new past) ids ≡ list_all (λ d. is_new past (f d)) (range_with_len 0 (length ids))
all_known past f [] each = refl
all_known past f (id ∷ ids) each =
    ap (λ x. is_new past x && list_all (is_new past) ids) (each zero id refl)
    ∙ ap (λ b. is_new past (f zero) && b)
    (all_known past (λ d. f (suc d)) ids (λ d x at. each (suc d) x at)
    ∙ sym (from_one (λ d. is_new past (f d)) 0 (length ids)))

-- where the whole way to a path is known
pub new_to : (tree : NextBlock) (path : PathValue) (way : Way) → IsWay tree way → way.path.now ≡ path
    → length way.ids.items ≡ length path + 1
    → list_all (is_new (past_of tree.nodes.now)) way.ids.items ≡ is_new_down_to (past_of tree.nodes.now) tree.block.now path
new_to tree path way is same long =
    let past = past_of tree.nodes.now in
    all_known past (λ d. id_at tree (take d path)) way.ids.items
    (λ d id at. is d id at ∙ ap (λ (p : PathValue). id_at tree (take d p)) same)
    ∙ ap (λ n. list_all (λ d. is_new past (id_at tree (take d path))) (range_with_len 0 n)) long
