-- The path of each node of a block is right: its names are, and it is no deeper than it may be.
use Rattle.std.proofs.Common.{◌≡◌, ◌≤◌, ◌<◌, ◌==◌, ◌+◌, ℕ, zero, suc, true, List, [], ◌∷◌, length, Option, Some, None, refl, sym, ap, subst, ◌∙◌, arith, rules}
use Rattle.std.proofs.{Common.if◌then◌else◌, lemmas.List.length-append, lemmas.List.Elements.All-contains_itself}
use Rattle.std.proofs.lemmas.Option.{get_or_from_slice_get, slice_get_within}
use Rattle.std.specs.Prelude.{Contains, IsSomeAnd, min, slice_get}
use Rattle.svnpath.specs.{Components.IsRightPath, Paths.{Component, PathValue}, declared.component.TheConstants.DEPTH_LIMIT}
use Rattle.repo_api.specs.Histories.{Changed}
use Rattle.noderevs.specs.{Held.{count, node_at}, Nodes.Look, Views.find_id, declared.node_rev.Block.Block, declared.node_rev.NodeId.NodeId}
use Rattle.noderevs.specs.{declared.node_rev.NodeRev.NodeRev, declared.nodes.Nodes.Nodes}
use Rattle.block_rules.specs.Rules.{IsNextRevision, IsRightRoot, beside, past_of}
use Rattle.filed_laws.proofs.Parents.{Last, holder, named_nodes}

last_name : (name : Component) (path : PathValue) → Last (name ∷ path)
last_name name [] = record { above = []; name = name; is = refl }
last_name name (c ∷ path) =
    let last = last_name c path in
    record { above = name ∷ last.above; name = last.name; is = ap (λ (p : PathValue). name ∷ p) last.is }

same_number : (n : ℕ) → (n == n) ≡ true
same_number n = search (rules, arith)

module _ (past : Nodes) (b : Block) (changes : List Changed) (keeps : IsNextRevision (past_of past) b changes) where
  abbrev look : Look
  look = beside (past_of past) b

  look_here : (id : NodeId) → id.rev ≡ count past → look id ≡ slice_get b.nodes.items id.place
  look_here id here =
      ap (λ t. if t then slice_get b.nodes.items id.place else node_at past id) (ap (λ (n : ℕ). n == count past) here ∙ same_number (count past))

  -- as many names are beneath the root, at least, as a path has and as are beneath its node
  low : (top : NodeRev) → slice_get b.nodes.items b.root.place ≡ Some top → (n : ℕ) (path : PathValue) (id : NodeId) (node : NodeRev) → length path ≤ n
      → id.rev ≡ count past → find_id look path (Some b.root) ≡ Some id → slice_get b.nodes.items id.place ≡ Some node
      → min (length path + node.height) 4294967295 ≤ top.height
  low top top_is n [] id node le here led there =
      let root : b.root ≡ id = cc led in
      let twice : Some top ≡ Some node = sym top_is ∙ ap (λ (i : NodeId). slice_get b.nodes.items i.place) root ∙ there in
      let same : top ≡ node = cc twice in
      let high : top.height ≡ node.height = ap (λ (m : NodeRev). m.height) same in
      omega (arith, high)
  low top top_is zero (name ∷ path) id node le here led there = absurd (omega (arith, le))
  low top top_is (suc n) (name ∷ path) id node le here led there =
      let last = last_name name path in
      let held = holder past b changes keeps last.above last.name id here (ap (λ (p : PathValue). find_id look p (Some b.root)) (sym last.is) ∙ led) in
      let long = ap (λ (p : PathValue). length p) last.is in
      let longer = length-append last.above (last.name ∷ []) in
      let above = low top top_is n last.above held.id held.node (omega (arith, le, long, longer)) held.here held.leads held.there in
      let over = (keeps.nodes held.id.place held.node held.there).height.enough last.name id node held.is (look_here id here ∙ there) in
      omega (arith, long, longer, above, over)

  deep : (k : ℕ) (node : NodeRev) → slice_get b.nodes.items k ≡ Some node → (o : Option NodeRev) → slice_get b.nodes.items b.root.place ≡ o
      → IsSomeAnd o IsRightRoot → length node.path ≤ DEPTH_LIMIT
  deep k node there None at is = absurd is
  deep k node there (Some top) at is =
      let under = low top at (length node.path) node.path (record { rev = count past; place = k }) node (omega arith) refl (keeps.nodes k node there).placed there in
      let limit : DEPTH_LIMIT < 4294967295 = omega arith in
      omega (arith, under, is.depth, limit)

  pub right_path : (k : ℕ) (node : NodeRev) → slice_get b.nodes.items k ≡ Some node → IsRightPath node.path
  right_path k node there = record {
    components = named_nodes past b changes keeps node
        (subst (λ (n : NodeRev). Contains b.nodes.items n) (get_or_from_slice_get b.nodes.items k node node there)
        (All-contains_itself b.nodes.items k node (slice_get_within b.nodes.items k node there)));
    depth = deep k node there (slice_get b.nodes.items b.root.place) refl keeps.root;
  }
