-- What may come next depends on what nodes have, and on nothing else.
use Rattle.std.proofs.Common.{rules, ◌≡◌, ◌==◌, ◌≤◌, ◌<◌, ◌+◌, ◌-◌, ◌⊎◌, ℕ, zero, suc, Bool, true, false, List, [], ◌∷◌, ◌++◌, Option, Some, None}
use Rattle.std.proofs.Common.{option_and_then, take, length, inl, inr, refl, sym, ap, subst, ◌∙◌, arith, ⊎_elim, if◌then◌else◌}
use Rattle.std.proofs.{Math.Nat.{min-le_left, min-le_right, min-eq_left, min-eq_right}, lemmas.Bool.{cases_lt, false≢true}}
use Rattle.std.specs.{List.{list_all, range_with_len}, Prelude.{IsSome, IsSomeAnd, slice_get}}
use Rattle.svnpath.specs.Paths.{Component, PathValue}
use Rattle.repo_api.specs.{Histories.Changed, Marks.shown, Trees.is_directory_content, declared.entry.Mark.Mark, declared.entry.Mark.TheVariants.{Open, Made}}
use Rattle.history_marks.specs.Quiet.{own_revision}
use Rattle.noderevs.specs.{Heights.{AreHigh, higher}, Held.{count, node_at, root_at}, Nodes.{kid_at, kid_of, Look}}
use Rattle.noderevs.specs.{Views.{entry_at, find_id, shared_entry, shared_tree}, declared.node_rev.Block.Block, declared.node_rev.NodeId.NodeId}
use Rattle.noderevs.specs.{declared.node_rev.NodeRev.NodeRev, declared.nodes.Nodes.Nodes}
use Rattle.noderevs.proofs.Pushing.{next_is_free}
use Rattle.block_rules.specs.Rules.{Before, IsMarked, IsNewKid, IsNextRevision, IsOldKid, IsRightFile, IsRightKid, IsRightNode, IsRightRoot, KeepsOwn, NamesOwn}
use Rattle.block_rules.specs.Rules.{beside, id_before, id_in, is_made, is_new, past_of, tree_before}
use Rattle.block_rules.proofs.Next.{high_now}
use Rattle.filed_trees.specs.{Comparing.{AreSame, IsSameNode}, Values.AreSameNext}

-- ---- what is found, and what trees show

same_there : (o p : Option NodeRev) → AreSame o p → IsSome o → IsSome p
same_there None p same some = absurd (false≢true some)
same_there (Some node) None same some = absurd same
same_there (Some node) (Some other) same some = refl

module _ (l m : Look) (same : (id : NodeId) → AreSame (l id) (m id)) where
  -- what is found in one is found in the other
  has_same : (id : NodeId) (other : NodeRev) → m id ≡ Some other → (node : NodeRev) × ((l id ≡ Some node) × IsSameNode node other)
  has_same id other at = by (l id) refl (subst (AreSame (l id)) at (same id))
    where
      by : (o : Option NodeRev) → l id ≡ o → AreSame o (Some other) → (node : NodeRev) × ((l id ≡ Some node) × IsSameNode node other)
      by None is no_one = absurd no_one
      by (Some node) is s = (node, (is, s))

  same_at : (id : NodeId) (node other : NodeRev) → l id ≡ Some node → m id ≡ Some other → IsSameNode node other
  same_at id node other at at' = subst (λ o. AreSame o (Some other)) at (subst (AreSame (l id)) at' (same id))

  kid_same : (o : Option NodeId) (name : Component) → kid_at l o name ≡ kid_at m o name
  kid_same None name = refl
  kid_same (Some id) name = by (l id) (m id) (same id)
    where
      by : (o p : Option NodeRev) → AreSame o p → option_and_then (kid_of name) o ≡ option_and_then (kid_of name) p
      by None None s = refl
      by None (Some other) s = absurd s
      by (Some node) None s = absurd s
      by (Some node) (Some other) s = s.kids name

  find_same : (p : PathValue) (o : Option NodeId) → find_id l p o ≡ find_id m p o
  find_same [] o = refl
  find_same (name ∷ p) o = ap (find_id l p) (kid_same o name) ∙ find_same p (kid_at m o name)

  entry_same : (id : NodeId) → entry_at l id ≡ entry_at m id
  entry_same id = by (l id) (m id) (same id)
    where
      by : (o p : Option NodeRev) → AreSame o p → option_and_then (λ n. Some (shared_entry id n)) o ≡ option_and_then (λ n. Some (shared_entry id n)) p
      by None None s = refl
      by None (Some other) s = absurd s
      by (Some node) None s = absurd s
      by (Some node) (Some other) s = λ i. Some (record {
        content = s.content i;
        properties = s.properties i;
        own = s.own i;
        last = Made id.rev (s.path i);
      })

  tree_same : (o : Option NodeId) (p : PathValue) → shared_tree l o p ≡ shared_tree m o p
  tree_same o p = ap (option_and_then (entry_at l)) (find_same p o) ∙ by (find_id m p o)
    where
      by : (found : Option NodeId) → option_and_then (entry_at l) found ≡ option_and_then (entry_at m) found
      by None = refl
      by (Some id) = entry_same id

-- ---- heights

higher_cases : (h : ℕ) → (higher h ≡ h + 1) ⊎ (higher h ≡ 4294967295)
higher_cases h = ⊎_elim (λ lt. inl (min-eq_left (omega (arith, lt)))) (λ ge. inr (min-eq_right ge))
    (cases_lt (h + 1) 4294967295)

-- what is not higher has nothing higher over it
still_enough : (x y height : ℕ) → x ≤ y → higher y ≤ height → higher x ≤ height
still_enough x y height le enough = ⊎_elim
    (λ e. let under = min-le_left (x + 1) 4294967295 in omega (arith, e, enough, le, under))
    (λ e. let under = min-le_right (x + 1) 4294967295 in omega (arith, e, enough, under))
    (higher_cases y)

one_less : (y height n : ℕ) → higher y ≤ height → height ≤ suc n → suc n < 4294967295 → y ≤ n
one_less y height n over le few = ⊎_elim (λ e. omega (arith, e, over, le)) (λ e. absurd (omega (arith, e, over, le, few))) (higher_cases y)

none_over : (y height : ℕ) → higher y ≤ height → height ≤ 0 → ⊥
none_over y height over le = ⊎_elim (λ e. omega (arith, e, over, le)) (λ e. omega (arith, e, over, le)) (higher_cases y)

module _ (l m : Look) (same : (id : NodeId) → AreSame (l id) (m id)) (high_l : AreHigh l) (high_m : AreHigh m) where
  no_higher : (n : ℕ) → n < 4294967295 → (id : NodeId) (node other : NodeRev) → l id ≡ Some node → m id ≡ Some other
      → node.height ≤ n → other.height ≤ node.height
  no_higher zero few id node other at at' low = (high_m id other at').least node.height (λ name kid x is at_x.
      let s = same_at l m same id node other at at' in
      let k = has_same l m same kid x at_x in
      absurd (none_over k.0.height node.height ((high_l id node at).enough name kid k.0 (s.kids name ∙ is) k.1.0) low))
  no_higher (suc n) few id node other at at' low = (high_m id other at').least node.height (λ name kid x is at_x.
      let s = same_at l m same id node other at at' in
      let k = has_same l m same kid x at_x in
      let enough = (high_l id node at).enough name kid k.0 (s.kids name ∙ is) k.1.0 in
      still_enough x.height k.0.height node.height
      (no_higher n (omega (arith, few)) kid k.0 x k.1.0 at_x (one_less k.0.height node.height n enough low few)) enough)

-- ---- the rules

abbrev revision_of : Mark → ℕ
revision_of Open = 0
revision_of (Made rev path) = rev

abbrev path_of : Mark → PathValue
path_of Open = []
path_of (Made rev path) = path

module _ (past other : Nodes) (b c : Block) (h : AreSameNext past other b c) where
  abbrev P : Before
  P = past_of past

  abbrev Q : Before
  Q = past_of other

  beside_same : (id : NodeId) → AreSame (beside P b id) (beside Q c id)
  beside_same id = subst (λ n. AreSame (beside P b id) (if id.rev == n then slice_get c.nodes.items id.place else node_at other id))
      h.many (by (id.rev == count past))
    where
      by : (t : Bool) → AreSame (if t then slice_get b.nodes.items id.place else node_at past id)
          (if t then slice_get c.nodes.items id.place else node_at other id)
      by true = h.block id.place
      by false = h.nodes id

  id_in_same : (p : PathValue) → id_in P b p ≡ id_in Q c p
  id_in_same p = ap (λ r. find_id (beside P b) p (Some r)) h.root ∙ find_same (beside P b) (beside Q c) beside_same p (Some c.root)

  id_before_same : (p : PathValue) → id_before P p ≡ id_before Q p
  id_before_same p = ap (find_id (node_at past) p) (h.roots (count past - 1) ∙ ap (λ n. root_at other (n - 1)) h.many)
      ∙ find_same (node_at past) (node_at other) h.nodes p (root_at other (count other - 1))

  tree_before_same : (n : ℕ) (p : PathValue) → tree_before P n p ≡ tree_before Q n p
  tree_before_same n p = ap (λ o. shared_tree (node_at past) o p) (h.roots n) ∙ tree_same (node_at past) (node_at other) h.nodes (root_at other n) p

  right_kid : (changes : List Changed) (place : ℕ) (directory : PathValue) (name : Component) (kid : NodeId)
      → IsRightKid P b changes place directory name kid → IsRightKid Q c changes place directory name kid
  right_kid changes place directory name kid right = record {
    component = right.component;
    node = ⊎_elim
        (λ (new : IsNewKid P b place (directory ++ name ∷ []) kid). inl (record {
          here = new.here ∙ h.many;
          front = new.front;
          at = by (slice_get b.nodes.items kid.place) (slice_get c.nodes.items kid.place) (h.block kid.place) new.at;
        }))
        (λ (old : IsOldKid P changes (directory ++ name ∷ []) kid). inr (record {
          there = same_there (node_at past kid) (node_at other kid) (h.nodes kid) old.there;
          stays = λ free. sym (id_before_same (directory ++ name ∷ [])) ∙ old.stays free;
        }))
        right.node;
  }
    where
      by : (o p : Option NodeRev) → AreSame o p → IsSomeAnd o (λ n. n.path ≡ directory ++ name ∷ [])
          → IsSomeAnd p (λ n. n.path ≡ directory ++ name ∷ [])
      by None p s at = absurd at
      by (Some node) None s at = absurd s
      by (Some node) (Some x) s at = sym s.path ∙ at

  own_rev : (node x : NodeRev) → IsSameNode node x → x.own.rev ≡ node.own.rev
  own_rev node x s = ap revision_of (sym s.own)

  own_path : (node x : NodeRev) → IsSameNode node x → x.own.path ≡ node.own.path
  own_path node x s = ap path_of (sym s.own)

  names_own : (node x : NodeRev) → IsSameNode node x → NamesOwn P node → NamesOwn Q x
  names_own node x s = ⊎_elim
      (λ here. inl (own_rev node x s ∙ here.0 ∙ h.many, own_path node x s ∙ here.1 ∙ s.path))
      (λ there. inr (ap (λ k. shown (tree_before Q (revision_of k) (path_of k))) (sym s.own)
      ∙ ap shown (sym (tree_before_same node.own.rev node.own.path)) ∙ there ∙ λ i. Some (s.content i, s.properties i)))

  keeps_own : (changes : List Changed) (node x : NodeRev) → IsSameNode node x → KeepsOwn P changes node → KeepsOwn Q changes x
  keeps_own changes node x s keeps free = ⊎_elim
      (λ here. inl (own_rev node x s ∙ here ∙ h.many))
      (λ there. inr (ap (λ p. own_revision (tree_before Q (count other - 1) p)) (sym s.path)
      ∙ ap (λ n. own_revision (tree_before Q (n - 1) node.path)) (sym h.many)
      ∙ ap own_revision (sym (tree_before_same (count past - 1) node.path)) ∙ there ∙ ap Some (sym (own_rev node x s))))
      (keeps (ap (is_made changes) s.path ∙ free))

  new_same : (o : Option NodeId) → is_new P o ≡ is_new Q o
  new_same None = refl
  new_same (Some id) = ap (λ n. id.rev == n) h.many

  module _ (changes : List Changed) (next : IsNextRevision P b changes) (high : AreHigh (beside Q c)) where
    high_past : AreHigh (beside P b)
    high_past = high_now P b changes next (next_is_free past.blocks) past.kids past.high

    -- a node of the block is the same as one of the other
    in_block : (k : ℕ) (x : NodeRev) → slice_get c.nodes.items k ≡ Some x
        → (node : NodeRev) × ((slice_get b.nodes.items k ≡ Some node) × IsSameNode node x)
    in_block k x at = by (slice_get b.nodes.items k) refl (subst (AreSame (slice_get b.nodes.items k)) at (h.block k))
      where
        by : (o : Option NodeRev) → slice_get b.nodes.items k ≡ o → AreSame o (Some x)
            → (node : NodeRev) × ((slice_get b.nodes.items k ≡ Some node) × IsSameNode node x)
        by None is no_one = absurd no_one
        by (Some node) is s = (node, (is, s))

    same_number : (n : ℕ) → (n == n) ≡ true
    same_number n = search (rules, arith)

    here_look : (n : ℕ) (id : NodeId) (nodes : List NodeRev) (look : Look) → id.rev ≡ n
        → (if id.rev == n then slice_get nodes id.place else look id) ≡ slice_get nodes id.place
    here_look n id nodes look is = ap (λ t. if t then slice_get nodes id.place else look id) (ap (λ r. r == n) is ∙ same_number n)

    right_node : (k : ℕ) (x : NodeRev) → slice_get c.nodes.items k ≡ Some x → IsRightNode Q c changes k x
    right_node k x at =
        let f = in_block k x at in
        let node = f.0 in
        let s : IsSameNode node x = f.1.1 in
        let right : IsRightNode P b changes k node = next.nodes k node f.1.0 in
        record {
          placed = sym (id_in_same x.path) ∙ ap (id_in P b) (sym s.path) ∙ right.placed ∙ λ i. Some (record { rev = h.many i; place = k });
          kids = λ name kid is. subst (λ p. IsRightKid Q c changes k p name kid) s.path
              (right_kid changes k node.path name kid (right.kids name kid (s.kids name ∙ is)));
          height = high (record { rev = count other; place = k }) x
              (here_look (count other) (record { rev = count other; place = k }) c.nodes.items (node_at other) refl ∙ at);
          file = λ text is.
              let file : IsRightFile node text = right.file text (s.content ∙ is) in
              record { no_entries = λ name. sym (s.kids name) ∙ file.no_entries name; short = file.short };
          own = names_own node x s right.own;
          keeps = keeps_own changes node x s right.keeps;
        }

    right_root : IsSomeAnd (slice_get c.nodes.items c.root.place) IsRightRoot
    right_root = by (slice_get b.nodes.items c.root.place) (slice_get c.nodes.items c.root.place) refl refl (h.block c.root.place)
        (subst (λ r. IsSomeAnd (slice_get b.nodes.items r.place) IsRightRoot) h.root next.root)
      where
        here_b : c.root.rev ≡ count past
        here_b = ap (λ r. r.rev) (sym h.root) ∙ next.here

        by : (o p : Option NodeRev) → slice_get b.nodes.items c.root.place ≡ o → slice_get c.nodes.items c.root.place ≡ p
            → AreSame o p → IsSomeAnd o IsRightRoot → IsSomeAnd p IsRightRoot
        by None p at at' s right = absurd right
        by (Some node) None at at' s right = absurd s
        by (Some node) (Some x) at at' s right =
            let low = right.depth in
            let lower = no_higher (beside P b) (beside Q c) beside_same high_past high node.height (omega (arith, low)) c.root node x
            (here_look (count past) c.root b.nodes.items (node_at past) here_b ∙ at)
            (here_look (count other) c.root c.nodes.items (node_at other) (here_b ∙ h.many) ∙ at') (omega arith) in
            record {
              path = sym s.path ∙ right.path;
              directory = ap is_directory_content (sym s.content) ∙ right.directory;
              depth = omega (arith, low, lower);
            }

    marked : (p : PathValue) → IsMarked P b p → IsMarked Q c p
    marked p m = record {
      last = (λ i. list_all (λ depth. (sym (new_same (id_in Q c (take depth p))) ∙ ap (is_new P) (sym (id_in_same (take depth p)))) i)
          (range_with_len 0 (length p + 1))) ∙ m.last;
      own = λ id x is at.
          let f = has_same (beside P b) (beside Q c) beside_same id x at in
          own_rev f.0 x f.1.1 ∙ m.own id f.0 (id_in_same p ∙ is) f.1.0 ∙ h.many;
    }

    pub same_next : IsNextRevision Q c changes
    same_next = record {
      nodes = right_node;
      here = ap (λ r. r.rev) (sym h.root) ∙ next.here ∙ h.many;
      root = right_root;
      marked = λ e there. marked e.0 (next.marked e there);
    }
