-- The tree of a block that keeps the rules is a tree.
use Rattle.std.proofs.Common.{◌≡◌, ◌⊎◌, ◌≤◌, ℕ, List, [], ◌∷◌, ◌++◌, drop, length, Option, Some, None, is_some, option_map, option_and_then, inl, inr}
use Rattle.std.proofs.{Common.{append_assoc, append-nil, ⊎_elim, refl, sym, ap, subst, arith, ◌∙◌}, lemmas.Bool.{false≢true, cases_lt}}
use Rattle.std.proofs.{Math.Seq.drop-append_seam, lemmas.List.Elements.{All-cons, All-drop, All-nil, All-same}}
use Rattle.std.specs.{Arc.arc_value, List.All, Prelude.{IsSome, IsSomeAnd, IsTrue, slice_get}}
use Rattle.svnpath.specs.{Components.{IsComponent, IsRightPath}, Paths.{Component, PathValue}, declared.component.TheConstants.DEPTH_LIMIT}
use Rattle.repo_api.specs.{Histories.Changed, Marks.AreMarked, Trees.{content_text, HasDirectory, is_directory, is_directory_content, IsTree, text_of, Tree}}
use Rattle.repo_api.specs.{declared.entry.Content.Content, declared.entry.Content.TheVariants.{Directory, File}, declared.entry.Entry.Entry}
use Rattle.repo_api.specs.declared.limits.TheConstants.{TEXT_LIMIT}
use Rattle.noderevs.specs.{Heights.AreHigh, Nodes.{IsBefore, IsThere, kid_at, kid_of, Look}, Soundness.AreKidsThere}
use Rattle.noderevs.specs.{Views.{entry_at, find_id, shared_entry, shared_tree}, declared.node_rev.Block.Block, declared.node_rev.NodeId.NodeId}
use Rattle.noderevs.specs.declared.node_rev.NodeRev.{NodeRev}
use Rattle.noderevs.proofs.{Finding.{find_append, nowhere, tree_under}, Heights.none_deeper}
use Rattle.shared_revisions.specs.Placed.{ArePlaced}
use Rattle.block_rules.specs.Rules.{Before, IsNewKid, IsNextRevision, IsOldKid, IsRightKid, IsRightRoot, id_in, tree_before}
use Rattle.block_rules.proofs.{Finite.{among_paths, paths}, Next.{high_now, kids_there}}
use Rattle.block_rules.proofs.Walking.{IsNew, IsOld, found_in, in_block, old_leads, old_on, old_shows, whole}

-- what is kept of earlier revisions: their nodes are at their paths, and their trees are trees
pub record IsSoundBefore (past : Before) : Type 0 where
  pub free : IsBefore past.look past.count
  pub closed : AreKidsThere past.look
  pub high : AreHigh past.look
  pub placed : ArePlaced past.look past.root
  pub trees : (n : ℕ) (p : PathValue) → IsSome (tree_before past n p) → IsTree (tree_before past n)
  pub no_root : past.root past.count ≡ None
  pub marked : AreMarked (tree_before past)

abbrev text_or : List ℕ → Option (List ℕ) → List ℕ
text_or other None = other
text_or other (Some text) = text

-- what stands where something leads
stands_by : (look : Look) (o : Option NodeId) → IsSome (option_and_then (entry_at look) o)
    → (i : NodeId) × (node : NodeRev) × (o ≡ Some i) × (look i ≡ Some node)
stands_by look None some = absurd (false≢true some)
stands_by look (Some i) some = by (look i) refl some
  where
    by : (found : Option NodeRev) → look i ≡ found → IsSome (option_map (shared_entry i) found)
        → (j : NodeId) × (node : NodeRev) × (◌≡◌ {A = Option NodeId} (Some i) (Some j)) × (look j ≡ Some node)
    by None is some = absurd (false≢true some)
    by (Some node) is some = (i, node, refl, is)

module _ (past : Before) (b : Block) (changes : List Changed) (next : IsNextRevision past b changes)
    (sound : IsSoundBefore past) where
  abbrev look : Look
  look = whole past b changes next sound.free sound.closed

  abbrev pub tree : Tree
  tree = shared_tree look (Some b.root)

  abbrev pub New : PathValue → NodeId → Type 0
  New = IsNew past b changes next sound.free sound.closed

  abbrev pub Old : PathValue → NodeId → Type 0
  Old = IsOld past b changes next sound.free sound.closed

  pub stands : (p : PathValue) → IsSome (tree p) → (i : NodeId) × (node : NodeRev) × (id_in past b p ≡ Some i) × (look i ≡ Some node)
  stands p some = stands_by look (id_in past b p) some

  pub shows : (p : PathValue) (i : NodeId) (node : NodeRev) → id_in past b p ≡ Some i → look i ≡ Some node
      → tree p ≡ Some (shared_entry i node)
  shows p i node at is = ap (option_and_then (entry_at look)) at ∙ ap (option_map (shared_entry i)) is

  -- what an old node shows is what stands at its path of its revision
  pub old_tree : (id : NodeId) (node : NodeRev) → past.look id ≡ Some node → (r : PathValue)
      → shared_tree past.look (Some id) r ≡ tree_before past id.rev (node.path ++ r)
  old_tree id node is r =
      ap (λ o. shared_tree past.look o r) (sym (sound.placed id node is))
      ∙ sym (tree_under past.look (past.root id.rev) node.path r)

  -- where an old entry of the block begins
  pub old_at : (p : PathValue) (i : NodeId) (o : Old p i) → id_in past b (o.top ++ o.name ∷ []) ≡ Some o.kid
  old_at p i o =
      find_append look o.top (o.name ∷ []) (Some b.root)
      ∙ ap (λ x. kid_at look x o.name)
      (ap (id_in past b) (sym o.above) ∙ (next.nodes o.place o.directory o.at).placed)
      ∙ ap (option_and_then (kid_of o.name))
      (in_block past b changes next sound.free sound.closed (record { rev = past.count; place = o.place }) refl ∙ o.at)
      ∙ o.named

  pub node_of : (id : NodeId) → IsThere past.look id → (node : NodeRev) × (past.look id ≡ Some node)
  node_of id there = by (past.look id) refl there
    where
      by : (o : Option NodeRev) → past.look id ≡ o → IsSome o → (node : NodeRev) × (past.look id ≡ Some node)
      by None is some = absurd (false≢true some)
      by (Some node) is some = (node, is)

  -- beneath it the tree is that of an earlier revision
  pub old_is : (p : PathValue) (i : NodeId) (o : Old p i) (node : NodeRev) → past.look o.kid ≡ Some node
      → (r : PathValue) → tree (p ++ r) ≡ tree_before past o.kid.rev (node.path ++ (o.rest ++ r))
  old_is p i o node is r =
      ap (λ q. tree (q ++ r)) o.is
      ∙ ap tree (append_assoc (o.top ++ o.name ∷ []) o.rest r)
      ∙ tree_under look (Some b.root) (o.top ++ o.name ∷ []) (o.rest ++ r)
      ∙ ap (λ x. shared_tree look x (o.rest ++ r)) (old_at p i o)
      ∙ old_shows past b changes next sound.free sound.closed o.kid o.entry.there (o.rest ++ r)
      ∙ old_tree o.kid node is (o.rest ++ r)

  -- ---- directories

  directory_by : (content : Content) → ((text : List ℕ) → content ≡ File text → ⊥) → IsTrue (is_directory_content content)
  directory_by Directory not_file = refl
  directory_by (File text) not_file = absurd (not_file text refl)

  parent_new : (p : PathValue) (c : Component) (d i : NodeId) (node : NodeRev) → id_in past b p ≡ Some d → d.rev ≡ past.count
      → slice_get b.nodes.items d.place ≡ Some node → kid_of c node ≡ Some i → HasDirectory tree p
  parent_new p c d i node at here is kid =
      subst (λ o. IsSomeAnd o (λ e. IsTrue (is_directory e)))
      (sym (shows p d node at (in_block past b changes next sound.free sound.closed d here ∙ is)))
      (directory_by (arc_value node.content)
      (λ text file. false≢true (ap is_some (sym (((next.nodes d.place node is).file text file).no_entries c) ∙ kid))))

  -- the directory that has an entry of a name
  abbrev HasHolder : PathValue → Component → NodeId → Type 0
  HasHolder p c i = (d : NodeId) × (node : NodeRev) × (id_in past b p ≡ Some d) × (look d ≡ Some node) × (kid_of c node ≡ Some i)

  holder_at : (p : PathValue) (c : Component) (i d : NodeId) → id_in past b p ≡ Some d → (o : Option NodeRev) → look d ≡ o
      → option_and_then (kid_of c) o ≡ Some i → HasHolder p c i
  holder_at p c i d is None found kid = absurd (false≢true (ap is_some kid))
  holder_at p c i d is (Some node) found kid = (d, node, is, found, kid)

  holder : (p : PathValue) (c : Component) (i : NodeId) → id_in past b (p ++ c ∷ []) ≡ Some i → HasHolder p c i
  holder p c i at = by (id_in past b p) refl (sym (find_append look p (c ∷ []) (Some b.root)) ∙ at)
    where
      by : (o : Option NodeId) → id_in past b p ≡ o → kid_at look o c ≡ Some i → HasHolder p c i
      by None is kid = absurd (false≢true (ap is_some kid))
      by (Some d) is kid = holder_at p c i d is (look d) refl kid

  parent_old : (p : PathValue) (c : Component) (d : NodeId) (o : Old p d) → IsSome (tree (p ++ c ∷ [])) → HasDirectory tree p
  parent_old p c d o some =
      let n = node_of o.kid o.entry.there in
      let here : tree p ≡ tree_before past o.kid.rev (n.0.path ++ o.rest) =
      ap tree (sym (append-nil p)) ∙ old_is p d o n.0 n.1 []
      ∙ ap (λ q. tree_before past o.kid.rev (n.0.path ++ q)) (append-nil o.rest) in
      let beneath : tree (p ++ c ∷ []) ≡ tree_before past o.kid.rev ((n.0.path ++ o.rest) ++ c ∷ []) =
      old_is p d o n.0 n.1 (c ∷ []) ∙ ap (tree_before past o.kid.rev) (sym (append_assoc n.0.path o.rest (c ∷ []))) in
      let there = subst (λ e. IsSome e) beneath some in
      subst (λ e. IsSomeAnd e (λ x. IsTrue (is_directory x))) (sym here)
      ((sound.trees o.kid.rev ((n.0.path ++ o.rest) ++ c ∷ []) there).parents (n.0.path ++ o.rest) c there)

  pub parents : (p : PathValue) (c : Component) → IsSome (tree (p ++ c ∷ [])) → HasDirectory tree p
  parents p c some =
      let s = stands (p ++ c ∷ []) some in
      let h = holder p c s.0 s.2 in
      by h.0 h.1 h.2 h.3 s.0 h.4 (found_in past b changes next sound.free sound.closed p h.0 h.2)
    where
      by : (d : NodeId) (node : NodeRev) → id_in past b p ≡ Some d → look d ≡ Some node → (i : NodeId)
          → kid_of c node ≡ Some i → New p d ⊎ Old p d → HasDirectory tree p
      by d node at is i kid (inl new) =
          parent_new p c d i node at new.here
          (sym (in_block past b changes next sound.free sound.closed d new.here) ∙ is) kid
      by d node at is i kid (inr old) = parent_old p c d old some

  -- ---- the names of a path

  some_entry : (i : NodeId) (o : Option NodeRev) → IsSome o → IsSome (option_map (shared_entry i) o)
  some_entry i None some = absurd (false≢true some)
  some_entry i (Some node) some = refl

  old_named : (p : PathValue) (kid i : NodeId) → IsThere past.look kid → find_id look p (Some kid) ≡ Some i → All IsComponent p
  old_named p kid i there led =
      let n = node_of kid there in
      let led_before : find_id past.look p (Some kid) ≡ Some i =
      sym (old_leads past b changes next sound.free sound.closed p kid there) ∙ led in
      let stood : IsSome (shared_tree past.look (Some kid) p) =
      subst (λ o. IsSome (option_and_then (entry_at past.look) o)) (sym led_before)
      (some_entry i (past.look i) (old_on past b changes next sound.free sound.closed p kid i there led)) in
      let some : IsSome (tree_before past kid.rev (n.0.path ++ p)) = subst (λ o. IsSome o) (old_tree kid n.0 n.1 p) stood in
      All-same IsComponent p (drop (length n.0.path) (n.0.path ++ p)) (sym (drop-append_seam n.0.path p))
      (All-drop IsComponent (length n.0.path) (n.0.path ++ p)
      ((sound.trees kid.rev (n.0.path ++ p) some).right (n.0.path ++ p) some).components)

  named_on : (name : Component) (p : PathValue) (kid i : NodeId) (place : ℕ) (directory : PathValue)
      → IsRightKid past b changes place directory name kid → find_id look p (Some kid) ≡ Some i
      → ((n : NodeRev) → kid.rev ≡ past.count → slice_get b.nodes.items kid.place ≡ Some n → All IsComponent p)
      → All IsComponent (name ∷ p)
  named_on name p kid i place directory right led on = All-cons IsComponent name p right.component (by right.node)
    where
      by : IsNewKid past b place (directory ++ name ∷ []) kid ⊎ IsOldKid past changes (directory ++ name ∷ []) kid → All IsComponent p
      by (inl new) = by_node (slice_get b.nodes.items kid.place) refl new.at
        where
          by_node : (o : Option NodeRev) → slice_get b.nodes.items kid.place ≡ o
              → IsSomeAnd o (λ n. n.path ≡ directory ++ name ∷ []) → All IsComponent p
          by_node None is at = absurd at
          by_node (Some n) is at = on n new.here is
      by (inr old) = old_named p kid i old.there led

  named_by : (place : ℕ) (node : NodeRev) → slice_get b.nodes.items place ≡ Some node → (name : Component) (p : PathValue)
      (i : NodeId) (o : Option NodeId) → kid_of name node ≡ o → find_id look p o ≡ Some i
      → ((kid : NodeId) (n : NodeRev) → find_id look p (Some kid) ≡ Some i → kid.rev ≡ past.count
      → slice_get b.nodes.items kid.place ≡ Some n → All IsComponent p)
      → All IsComponent (name ∷ p)
  named_by place node at name p i None is led on = absurd (false≢true (sym (ap is_some (nowhere look p)) ∙ ap is_some led))
  named_by place node at name p i (Some kid) is led on =
      named_on name p kid i place node.path ((next.nodes place node at).kids name kid is) led (λ n here there. on kid n led here there)

  named : (p : PathValue) (id : NodeId) (node : NodeRev) (i : NodeId) → id.rev ≡ past.count
      → slice_get b.nodes.items id.place ≡ Some node → find_id look p (Some id) ≡ Some i → All IsComponent p
  named [] id node i here at led = All-nil IsComponent
  named (name ∷ p) id node i here at led =
      named_by id.place node at name p i (kid_of name node) refl
      (ap (λ o. find_id look p (option_and_then (kid_of name) o))
      (sym (in_block past b changes next sound.free sound.closed id here ∙ at)) ∙ led)
      (λ kid n on is there. named p kid n i is there on)

  -- ---- the root

  the_root : (node : NodeRev) × (slice_get b.nodes.items b.root.place ≡ Some node) × IsRightRoot node
  the_root = by (slice_get b.nodes.items b.root.place) refl next.root
    where
      by : (o : Option NodeRev) → slice_get b.nodes.items b.root.place ≡ o → IsSomeAnd o IsRightRoot
          → (node : NodeRev) × (slice_get b.nodes.items b.root.place ≡ Some node) × IsRightRoot node
      by None is root = absurd root
      by (Some node) is root = (node, is, root)

  root_is : look b.root ≡ Some the_root.0
  root_is = in_block past b changes next sound.free sound.closed b.root next.here ∙ the_root.1

  pub depth : (p : PathValue) → IsSome (tree p) → length p ≤ DEPTH_LIMIT
  depth p some = ⊎_elim
      (λ lt. absurd (false≢true (ap is_some (sym
      (none_deeper look (kids_there past b changes next sound.free sound.closed sound.high)
      (high_now past b changes next sound.free sound.closed sound.high) p DEPTH_LIMIT b.root the_root.0 root_is
      the_root.2.depth (omega arith) lt)) ∙ some)))
      (λ le. le)
      (cases_lt DEPTH_LIMIT (length p))

  pub right : (p : PathValue) → IsSome (tree p) → IsRightPath p
  right p some = record {
    components = named p b.root the_root.0 (stands p some).0 next.here the_root.1 (stands p some).2;
    depth = depth p some;
  }

  -- ---- texts

  file_by : (content : Content) (text : List ℕ) → content_text content ≡ Some text → content ≡ File text
  file_by Directory text is = absurd (false≢true (ap is_some is))
  file_by (File t) text is = ap File (ap (text_or t) is)

  pub short : (p : PathValue) (text : List ℕ) → text_of (tree p) ≡ Some text → length text ≤ TEXT_LIMIT
  short p text is = by_entry (tree p) refl is
    where
      by_found : (i : NodeId) (node : NodeRev) → id_in past b p ≡ Some i → look i ≡ Some node → New p i ⊎ Old p i → length text ≤ TEXT_LIMIT
      by_found i node at found (inl new) =
          let there = sym (in_block past b changes next sound.free sound.closed i new.here) ∙ found in
          ((next.nodes i.place node there).file text
          (file_by (arc_value node.content) text (ap text_of (sym (shows p i node at found)) ∙ is))).short
      by_found i node at found (inr o) =
          let n = node_of o.kid o.entry.there in
          let here : tree p ≡ tree_before past o.kid.rev (n.0.path ++ o.rest) =
          ap tree (sym (append-nil p)) ∙ old_is p i o n.0 n.1 []
          ∙ ap (λ q. tree_before past o.kid.rev (n.0.path ++ q)) (append-nil o.rest) in
          let stood : IsSome (tree_before past o.kid.rev (n.0.path ++ o.rest)) =
          subst (λ e. IsSome e) (sym (shows p i node at found) ∙ here) refl in
          (sound.trees o.kid.rev (n.0.path ++ o.rest) stood).short (n.0.path ++ o.rest) text (ap text_of (sym here) ∙ is)

      by_entry : (o : Option Entry) → tree p ≡ o → text_of o ≡ Some text → length text ≤ TEXT_LIMIT
      by_entry None at is = absurd (false≢true (ap is_some is))
      by_entry (Some e) at is =
          let s = stands p (ap is_some at) in
          by_found s.0 s.1 s.2 s.3 (found_in past b changes next sound.free sound.closed p s.0 s.2)

  pub is_tree : IsTree tree
  is_tree = record {
    root = subst (λ o. IsSomeAnd o (λ e. IsTrue (is_directory e))) (sym (shows [] b.root the_root.0 refl root_is)) the_root.2.directory;
    parents = parents;
    finite = (
      paths look DEPTH_LIMIT b.root,
      λ p some. among_paths look DEPTH_LIMIT p b.root (stands p some).0 (depth p some) (stands p some).2,
    );
    right = right;
    short = short;
  }
