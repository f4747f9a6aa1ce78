-- The nodes of a revision, and the paths that were changed in it.
use Rattle.std.proofs.Common.{◌≡◌, ◌==◌, ℕ, ◌≤◌, false, List, [], Option, Some, None, option_map, length, refl, sym, ap, subst, ◌∙◌, arith, ◌⊎◌, inl, inr}
use Rattle.std.proofs.{lemmas.Bool.false≢true, lemmas.Option.slice_get_within}
use Rattle.std.specs.Prelude.{Result, Ok, Err, IfOk, IfSome, IsSome, if◌then◌else◌, slice_get}
use Rattle.svnpath.specs.Paths.{PathValue}
use Rattle.repo_api.specs.{Merge.{closed, sealed}, Trees.Tree, declared.entry.Entry.Entry, declared.entry.Mark.Mark}
use Rattle.repo_api.specs.declared.entry.Mark.TheVariants.{Open, Made}
use Rattle.noderevs.specs.{Heights.AreHigh, Nodes.{IsBefore, IsClosed, IsThere, kid_at, Look, with_block}, Soundness.{AreKidsThere, IsNext}, Views.shared_entry}
use Rattle.noderevs.specs.{declared.node_rev.Block.Block, declared.node_rev.NodeId.NodeId, declared.node_rev.NodeRev.NodeRev}
use Rattle.txntree.specs.{Spots.{Spot, find, entry, flat}, Spots.Spot.{Nothing, Shared, Opened}}
use Rattle.txntree.specs.Sealing.{sealed_at, placed, IsUnder, AreUnder, IsBlockOf, IsSealOf}
use Rattle.txntree.proofs.Seals.{same_number}

abbrev last_or : Option Entry → Mark
last_or None = Open
last_or (Some e) = e.last

abbrev mark_path : Mark → PathValue
mark_path Open = []
mark_path (Made r p) = p

abbrev mark_rev : Mark → ℕ
mark_rev Open = 0
mark_rev (Made r p) = r

abbrev spot_place : Spot → ℕ
spot_place Nothing = 0
spot_place (Shared id) = id.place
spot_place (Opened n) = 0

-- open, or of another revision
abbrev IsEarlier : ℕ → Mark → Type 0
IsEarlier rev m = (m ≡ Open) ⊎ ((r : ℕ) × ((p : PathValue) × ((m ≡ Made r p) × ((r == rev) ≡ false))))

earlier : (look : Look) (rev : ℕ) → IsBefore look rev → (s : Spot) (e : Entry) → entry look s ≡ Some e → IsEarlier rev e.last
earlier look rev before Nothing e is = cc
earlier look rev before (Opened n) e is = inl (sym (ap last_or is))
earlier look rev before (Shared id) e is = by (look id) refl is
  where
    by : (o : Option NodeRev) → look id ≡ o → option_map (shared_entry id) o ≡ Some e → IsEarlier rev e.last
    by None there same = cc
    by (Some node) there same = inr (id.rev, (node.path, (sym (ap last_or same), before id (subst (λ o. IsSome o) (sym there) refl))))

-- a node of the revision stands under its own path
own_path : (look : Look) (rev : ℕ) (block : List NodeRev) (root : NodeId) (top : Spot) → IsBefore look rev
    → ((q : PathValue) → flat (with_block look rev block) (Shared root) q ≡ sealed_at rev [] (flat look top) q)
    → (k : ℕ) (node : NodeRev) (q : PathValue) → with_block look rev block (placed rev k) ≡ Some node → find (with_block look rev block) q (Shared root) ≡ Shared (placed rev k) → node.path ≡ q
own_path look rev block root top before tree k node q there reach = by (flat look top q) refl
    (sym (ap (entry (with_block look rev block)) reach ∙ ap (option_map (shared_entry (placed rev k))) there) ∙ tree q)
  where
    marked : (e : Entry) → IsEarlier rev e.last → Made rev node.path ≡ closed rev q e.last → node.path ≡ q
    marked e (inl unmade) same = ap mark_path (same ∙ ap (closed rev q) unmade)
    marked e (inr (r, (p, (made, apart)))) same =
        absurd (false≢true (sym apart ∙ ap (λ x. x == rev) (sym (ap mark_rev (same ∙ ap (closed rev q) made))) ∙ same_number rev))

    by : (o : Option Entry) → flat look top q ≡ o → Some (shared_entry (placed rev k) node) ≡ option_map (sealed rev q) o → node.path ≡ q
    by None is same = cc
    by (Some e) is same = marked e (earlier look rev before (find look q top) e is) (ap last_or same)

pub block_of : (look : Look) (rev : ℕ) (block : List NodeRev) (root : NodeId) (top : Spot) → IsBefore look rev
    → ((q : PathValue) → flat (with_block look rev block) (Shared root) q ≡ sealed_at rev [] (flat look top) q)
    → AreUnder (with_block look rev block) rev 0 (length block) (Some root) → IsBlockOf look rev block root
block_of look rev block root top before tree under = record {
  each = λ q e is last. seen q e last (find (with_block look rev block) q (Shared root)) is;
  other = λ k node is.
      (shared_entry (placed rev k) node, (ap (flat w (Shared root)) (path k node is) ∙ ap (entry w) (reached k node is).1 ∙ ap (option_map (shared_entry (placed rev k))) (there k node is), refl));
  once = λ j k m n at_j at_k same. ap spot_place
      (sym (reached j m at_j).1 ∙ ap (λ r. find w r (Shared root)) (sym (path j m at_j) ∙ same ∙ path k n at_k) ∙ (reached k n at_k).1);
}
  where
    w : Look
    w = with_block look rev block

    there : (k : ℕ) (node : NodeRev) → slice_get block k ≡ Some node → w (placed rev k) ≡ Some node
    there k node is = ap (λ b. if b then slice_get block k else look (placed rev k)) (same_number rev) ∙ is

    zero_first : (k : ℕ) → 0 ≤ k
    zero_first k = omega arith

    reached : (k : ℕ) (node : NodeRev) → slice_get block k ≡ Some node → IsUnder w (Some root) (placed rev k)
    reached k node is = under k (zero_first k) (slice_get_within block k node is)

    path : (k : ℕ) (node : NodeRev) (is : slice_get block k ≡ Some node) → node.path ≡ (reached k node is).0
    path k node is = own_path look rev block root top before tree k node (reached k node is).0 (there k node is) (reached k node is).1

    in_block : (id : NodeId) (node : NodeRev) → id.rev ≡ rev → w id ≡ Some node → slice_get block id.place ≡ Some node
    in_block id node here is = sym (ap (λ b. if b then slice_get block id.place else look id) (ap (λ r. r == rev) here ∙ same_number rev)) ∙ is

    seen : (q : PathValue) (e : Entry) → e.last ≡ Made rev q → (s : Spot) → entry w s ≡ Some e → (k : ℕ) × ((node : NodeRev) × ((slice_get block k ≡ Some node) × (node.path ≡ q)))
    seen q e last Nothing is = cc
    seen q e last (Opened n) is = absurd (no_mark (ap last_or is ∙ last))
      where
        no_mark : Open ≡ Made rev q → ⊥
        no_mark same = cc
    seen q e last (Shared id) is = node_of (w id) refl is
      where
        node_of : (o : Option NodeRev) → w id ≡ o → option_map (shared_entry id) o ≡ Some e → (k : ℕ) × ((node : NodeRev) × ((slice_get block k ≡ Some node) × (node.path ≡ q)))
        node_of None there same = cc
        node_of (Some node) there same = (id.place, (node, (in_block id node (ap mark_rev (ap last_or same ∙ last)) there, ap mark_path (ap last_or same ∙ last))))

-- each entry is there
pub closed_is : (look : Look) → AreKidsThere look → IsClosed look
closed_is look kids id name = by (kid_at look (Some id) name) refl
  where
    by : (o : Option NodeId) → kid_at look (Some id) name ≡ o → IfSome o (IsThere look)
    by None is = tt {0}
    by (Some kid) is = kids id kid name is

pub kids_of_closed : (look : Look) → IsClosed look → AreKidsThere look
kids_of_closed look closed id kid name is = subst (λ o. IfSome o (IsThere look)) is (closed id name)

-- a block that was sealed may come next
pub next_if : {Y : Type 0} (r : Result Block Y) (look : Look) (rev : ℕ) (t : Tree) → AreHigh look → IfOk r (IsSealOf look rev t)
    → IfOk r (λ b. IsThere (with_block look rev b.nodes.items) b.root) → IfOk r (IsNext look rev)
next_if (Ok b) look rev t high sealed there =
    record { kids = kids_of_closed (with_block look rev b.nodes.items) sealed.closed; root = there; high = sealed.high high; apart = sealed.whole.once; front = sealed.front }
next_if (Err e) look rev t high sealed there = there

pub ok_weaker : {X Y : Type 0} (r : Result X Y) (P Q : X → Type 0) → ((x : X) → P x → Q x) → IfOk r P → IfOk r Q
ok_weaker (Ok x) P Q f h = f x h
ok_weaker (Err e) P Q f h = h
