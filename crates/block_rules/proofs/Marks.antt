-- The marks of a block that keeps the rules name what they mark, and tell of its changes.
use Rattle.std.proofs.Common.{◌≡◌, ◌⊎◌, ◌==◌, ◌-◌, ◌+◌, ◌<◌, ℕ, arith, take, drop, length, Bool, true, false, ◌||◌, List, [], ◌∷◌, ◌++◌, Option, Some, None}
use Rattle.std.proofs.{Common.{is_some, inl, inr, append-nil, ⊎_elim, refl, sym, ap, subst, ◌∙◌, if◌then◌else◌}, lemmas.Bool.{false≢true, eqb-true}}
use Rattle.std.proofs.{lemmas.List.{length-append, take-append-drop}, lemmas.List.Folds.list_all_at}
use Rattle.std.proofs.{lemmas.List.FromFn.{get_or-range_with_len, length-range_with_len}, Math.Seq.take-append_seam}
use Rattle.std.specs.{Arc.arc_value, BTreeMap.is_at, List.{list_all, list_any, range_with_len}, Prelude.{Contains, IsSome, slice_get}}
use Rattle.svnpath.specs.{PathLaws.{at_is, under_append, under_is, under_itself}, Paths.{is_at_or_under, path_cmp, PathValue}}
use Rattle.repo_api.specs.{Histories.Changed, Kinds.created_of, Marks.{has_open_own, IsClosed, last_of, MarksName, own_of, shown, with_tree}}
use Rattle.repo_api.specs.{Merge.has_open_last, Properties.PropertyList, Trees.Tree, declared.entry.Content.Content, declared.change.Change.Change}
use Rattle.repo_api.specs.{declared.entry.Entry.Entry, declared.entry.Mark.Mark, declared.entry.Mark.TheVariants.{Made, Open}}
use Rattle.repo_laws.proofs.Under.{under_through}
use Rattle.traces.specs.Traces.{makes}
use Rattle.history_marks.specs.{Transactions.has_made, Quiet.{IsNotMade, own_revision}}
use Rattle.noderevs.specs.{Nodes.{IsThere, Look}, Views.{shared_entry, shared_tree}, declared.node_rev.Block.Block, declared.node_rev.NodeId.NodeId}
use Rattle.noderevs.specs.declared.node_rev.NodeRev.{NodeRev}
use Rattle.noderevs.proofs.{Finding.{nothing_under, tree_under}, Pushing.same_number}
use Rattle.revision_data.specs.Found.{found}
use Rattle.block_rules.specs.Rules.{Before, IsNextRevision, id_in, is_made, is_new, is_new_down_to, makes_at, tree_before}
use Rattle.block_rules.proofs.{Finite.{is_first, is_later}, Trees.{IsSoundBefore, New, Old, node_of, old_at, old_is, old_tree, shows, stands, tree}}
use Rattle.block_rules.proofs.Walking.{found_in, grows, in_block, old_leads, old_on, old_shows, whole}

abbrev mark_or : Option Mark → Mark
mark_or None = Open
mark_or (Some m) = m

abbrev rev_of : Mark → ℕ
rev_of Open = 0
rev_of (Made n q) = n

abbrev path_of : Mark → PathValue
path_of Open = []
path_of (Made n q) = q

abbrev change_or : Change → Option Change → Change
change_or other None = other
change_or other (Some c) = c

abbrev node_path : PathValue → Option NodeRev → PathValue
node_path other None = other
node_path other (Some node) = node.path

-- what was found is listed
found_listed : (es : List Changed) (p : PathValue) (c : Change) → found es p ≡ Some c → Contains es (p, c)
found_listed [] p c is = absurd (false≢true (ap is_some is))
found_listed (e ∷ es) p c is = by (is_at (path_cmp p) e.0) refl is (found_listed es p c)
  where
    by : (d : Bool) → is_at (path_cmp p) e.0 ≡ d → (if d then Some e.1 else found es p) ≡ Some c
        → (found es p ≡ Some c → Contains es (p, c)) → Contains (e ∷ es) (p, c)
    by true at is on =
        let same : ◌≡◌ {A = Changed} e (p, c) = λ i. (sym (at_is p e.0 at) i, change_or c (is i)) in
        subst (λ (x : Changed). Contains (x ∷ es) (p, c)) (sym same) (is_first (p, c) es)
    by false at is on = is_later (p, c) e es (on is)

none_any : {X : Type 0} (f : X → Bool) (xs : List X) → ((x : X) → f x ≡ false) → list_any f xs ≡ false
none_any f [] none = refl
none_any f (x ∷ xs) none = ap (λ d. d || list_any f xs) (none x) ∙ none_any f xs none

under_take : (k : ℕ) (p : PathValue) → is_at_or_under p (take k p) ≡ true
under_take k p =
    ap (λ q. is_at_or_under q (take k p)) (sym (take-append-drop k p)) ∙ under_append (take k p) (drop k p)

-- what is not made is made by none of the changes at or above it
not_made_by : (changes : List Changed) (p above : PathValue) → is_at_or_under p above ≡ true → IsNotMade changes p
    → is_made changes above ≡ false
not_made_by changes p above under none =
    none_any (λ depth. makes_at changes (take depth above)) (range_with_len 0 (length above + 1))
    (λ depth. by (take depth above) (under_through p above (take depth above) under (under_take depth above)) (found changes (take depth above)) refl)
  where
    by : (q : PathValue) → is_at_or_under p q ≡ true → (o : Option Change) → found changes q ≡ o → has_made o ≡ false
    by q over None is = refl
    by q over (Some c) is = by_action (makes c.action) refl
      where
        by_action : (d : Bool) → makes c.action ≡ d → d ≡ false
        by_action true made = absurd (none (q, c) (found_listed changes q c is) over made)
        by_action false made = refl

zero_more : (k : ℕ) → 0 + k ≡ k
zero_more k = omega arith

-- what holds at all depths holds at each
at_each : (f : ℕ → Bool) (n : ℕ) → list_all f (range_with_len 0 n) ≡ true → (k : ℕ) → k < n → f k ≡ true
at_each f n all k lt = by (f k) refl
  where
    by : (d : Bool) → f k ≡ d → d ≡ true
    by true is = refl
    by false is =
        absurd (false≢true (sym (list_all_at f (range_with_len 0 n) k 0 (subst (λ m. k < m) (sym (length-range_with_len 0 n)) lt)
        (ap f (get_or-range_with_len 0 n k 0 lt ∙ zero_more k) ∙ is)) ∙ all))

module _ (past : Before) (b : Block) (changes : List Changed) (next : IsNextRevision past b changes)
    (sound : IsSoundBefore past) where
  abbrev look : Look
  look = whole past b changes next sound.free sound.closed

  abbrev t : Tree
  t = tree past b changes next sound

  abbrev trees : ℕ → Tree
  trees = with_tree (tree_before past) past.count t

  here : (q : PathValue) → trees past.count q ≡ t q
  here q = ap (λ c. (if c then t else tree_before past past.count) q) (same_number past.count)

  before : (n : ℕ) → (n == past.count) ≡ false → (q : PathValue) → trees n q ≡ tree_before past n q
  before n other q = ap (λ c. (if c then t else tree_before past n) q) other

  nothing_yet : (q : PathValue) → tree_before past past.count q ≡ None
  nothing_yet q = ap (λ o. shared_tree past.look o q) sound.no_root ∙ nothing_under past.look q

  -- where there was something, there still is
  stays : (n : ℕ) (q : PathValue) → IsSome (tree_before past n q) → trees n q ≡ tree_before past n q
  stays n q some = by (n == past.count) refl
    where
      by : (c : Bool) → (n == past.count) ≡ c → trees n q ≡ tree_before past n q
      by true is = absurd (false≢true (sym (ap is_some (ap (λ k. tree_before past k q) (eqb-true n past.count is) ∙ nothing_yet q)) ∙ some))
      by false is = before n is q

  -- an old node that is led to
  there_at : (p : PathValue) (i : NodeId) (o : Old past b changes next sound p i) → IsThere past.look i
  there_at p i o =
      old_on past b changes next sound.free sound.closed o.rest o.kid i o.entry.there
      (old_leads past b changes next sound.free sound.closed o.rest o.kid o.entry.there ∙ o.leads)

  old_beneath : (p : PathValue) (i : NodeId) (node : NodeRev) → id_in past b p ≡ Some i → look i ≡ Some node
      → IsThere past.look i → (rest : PathValue) → t (p ++ rest) ≡ tree_before past i.rev (node.path ++ rest)
  old_beneath p i node at is there rest =
      tree_under look (Some b.root) p rest
      ∙ ap (λ o. shared_tree look o rest) at
      ∙ old_shows past b changes next sound.free sound.closed i there rest
      ∙ old_tree past b changes next sound i node (sym (grows past b changes next sound.free sound.closed i there) ∙ is) rest

  -- the node of the block that was made at a path
  new_path : (p : PathValue) (i : NodeId) (node : NodeRev) → look i ≡ Some node → (new : New past b changes next sound p i)
      → (node.path ≡ p) × (slice_get b.nodes.items i.place ≡ Some node)
  new_path p i node is new =
      let at = sym (in_block past b changes next sound.free sound.closed i new.here) ∙ is in
      (ap (node_path p) (sym at ∙ new.at) ∙ new.is, at)

  by_last : (p : PathValue) (n : ℕ) (q : PathValue) → last_of (t p) ≡ Some (Made n q) → (rest : PathValue)
      → t (p ++ rest) ≡ trees n (q ++ rest)
  by_last p n q last rest = by_entry (t p) refl last
    where
      by_found : (i : NodeId) (node : NodeRev) → id_in past b p ≡ Some i → look i ≡ Some node
          → i.rev ≡ n → node.path ≡ q
          → New past b changes next sound p i ⊎ Old past b changes next sound p i → t (p ++ rest) ≡ trees n (q ++ rest)
      by_found i node at is rev path (inl new) =
          ap (λ x. t (x ++ rest)) (sym (new_path p i node is new).0 ∙ path)
          ∙ sym (here (q ++ rest)) ∙ ap (λ k. trees k (q ++ rest)) (sym new.here ∙ rev)
      by_found i node at is rev path (inr o) =
          let there = there_at p i o in
          old_beneath p i node at is there rest ∙ sym (before i.rev (sound.free i there) (node.path ++ rest))
          ∙ (λ k. trees (rev k) (path k ++ rest))

      by_entry : (o : Option Entry) → t p ≡ o → last_of o ≡ Some (Made n q) → t (p ++ rest) ≡ trees n (q ++ rest)
      by_entry None is last = absurd (false≢true (ap is_some last))
      by_entry (Some e) is last =
          let s = stands past b changes next sound p (ap is_some is) in
          let mark : ◌≡◌ {A = Option Mark} (Some (Made s.0.rev s.1.path)) (Some (Made n q)) =
          ap last_of (sym (shows past b changes next sound p s.0 s.1 s.2 s.3) ∙ is) ∙ last in
          by_found s.0 s.1 s.2 s.3 (ap (λ m. rev_of (mark_or m)) mark) (ap (λ m. path_of (mark_or m)) mark)
          (found_in past b changes next sound.free sound.closed p s.0 s.2)

  some_shown : (o : Option Entry) (x : Content × PropertyList) → shown o ≡ Some x → IsSome o
  some_shown None x is = absurd (false≢true (ap is_some is))
  some_shown (Some e) x is = refl

  own_of_old : (p : PathValue) (m : ℕ) (x : PathValue) (n : ℕ) (q : PathValue) → t p ≡ tree_before past m x → IsSome (t p)
      → own_of (t p) ≡ Some (Made n q) → shown (t p) ≡ shown (trees n q)
  own_of_old p m x n q is some own =
      let old : shown (tree_before past m x) ≡ shown (tree_before past n q) =
      (sound.marked.named m).by_own x n q (ap own_of (sym is) ∙ own) in
      let there : IsSome (tree_before past n q) = by (t p) refl some (ap shown (sym is)) old in
      ap shown is ∙ old ∙ ap shown (sym (stays n q there))
    where
      by : (o : Option Entry) → t p ≡ o → IsSome o → shown (tree_before past m x) ≡ shown (t p)
          → shown (tree_before past m x) ≡ shown (tree_before past n q) → IsSome (tree_before past n q)
      by None at some same old = absurd (false≢true some)
      by (Some e) at some same old =
          some_shown (tree_before past n q) (e.content, e.properties) (sym old ∙ same ∙ ap shown at)

  old_stands : (p : PathValue) (i : NodeId) (o : Old past b changes next sound p i)
      → (m : ℕ) × (x : PathValue) × (t p ≡ tree_before past m x)
  old_stands p i o =
      let n = node_of past b changes next sound o.kid o.entry.there in (
        o.kid.rev,
        n.0.path ++ o.rest,
        ap t (sym (append-nil p)) ∙ old_is past b changes next sound p i o n.0 n.1 []
            ∙ ap (λ q. tree_before past o.kid.rev (n.0.path ++ q)) (append-nil o.rest),
      )

  by_own : (p : PathValue) (n : ℕ) (q : PathValue) → own_of (t p) ≡ Some (Made n q) → shown (t p) ≡ shown (trees n q)
  by_own p n q own = by_entry (t p) refl own
    where
      by_node : (i : NodeId) (node : NodeRev) → t p ≡ Some (shared_entry i node) → node.path ≡ p → node.own.rev ≡ n → node.own.path ≡ q
          → ((node.own.rev ≡ past.count) × (node.own.path ≡ node.path))
          ⊎ (shown (tree_before past node.own.rev node.own.path) ≡ Some (arc_value node.content, arc_value node.properties))
          → shown (t p) ≡ shown (trees n q)
      by_node i node is path rev at (inl own) =
          let one : q ≡ p = sym at ∙ own.1 ∙ path in
          let last : n ≡ past.count = sym rev ∙ own.0 in
          ap shown (ap t (sym one) ∙ sym (here q) ∙ ap (λ k. trees k q) (sym last))
      by_node i node is path rev at (inr old) =
          let there : shown (tree_before past n q) ≡ Some (arc_value node.content, arc_value node.properties) =
          sym (λ k. shown (tree_before past (rev k) (at k))) ∙ old in
          ap shown is ∙ sym there
          ∙ ap shown (sym (stays n q (some_shown (tree_before past n q) (arc_value node.content, arc_value node.properties) there)))

      by_found : (i : NodeId) (node : NodeRev) → look i ≡ Some node → t p ≡ Some (shared_entry i node)
          → own_of (t p) ≡ Some (Made n q) → node.own.rev ≡ n → node.own.path ≡ q
          → New past b changes next sound p i ⊎ Old past b changes next sound p i → shown (t p) ≡ shown (trees n q)
      by_found i node found is own rev at (inl new) =
          let path = new_path p i node found new in
          by_node i node is path.0 rev at (next.nodes i.place node path.1).own
      by_found i node found is own rev at (inr o) =
          let old = old_stands p i o in
          own_of_old p old.0 old.1 n q old.2 (ap is_some is) own

      by_entry : (o : Option Entry) → t p ≡ o → own_of o ≡ Some (Made n q) → shown (t p) ≡ shown (trees n q)
      by_entry None is own = absurd (false≢true (ap is_some own))
      by_entry (Some e) is own =
          let s = stands past b changes next sound p (ap is_some is) in
          let at = shows past b changes next sound p s.0 s.1 s.2 s.3 in
          let mark : ◌≡◌ {A = Option Mark} (Some (Made s.1.own.rev s.1.own.path)) (Some (Made n q)) =
          ap own_of (sym at ∙ is) ∙ own in
          by_found s.0 s.1 s.3 at (ap own_of is ∙ own) (ap (λ m. rev_of (mark_or m)) mark) (ap (λ m. path_of (mark_or m)) mark)
          (found_in past b changes next sound.free sound.closed p s.0 s.2)

  pub marks_name : MarksName trees t
  marks_name = record { by_last = by_last; by_own = by_own }

  pub is_closed : IsClosed t
  is_closed p = by (t p) refl
    where
      by : (o : Option Entry) → t p ≡ o → (has_open_own (t p) ≡ false) × (has_open_last (t p) ≡ false)
      by None is = (ap has_open_own is, ap has_open_last is)
      by (Some e) is =
          let s = stands past b changes next sound p (ap is_some is) in
          let at = shows past b changes next sound p s.0 s.1 s.2 s.3 in
          (ap has_open_own at, ap has_open_last at)

  -- ---- what they tell of changes

  new_above : (path : PathValue) → is_new_down_to past b path ≡ true → (above : PathValue) → is_at_or_under path above ≡ true
      → (i : NodeId) → id_in past b above ≡ Some i → i.rev ≡ past.count
  new_above path all above under i at =
      let prefix : take (length above) path ≡ above =
      ap (take (length above)) (under_is path above under) ∙ take-append_seam above (drop (length above) path) in
      let long : length path ≡ length above + length (drop (length above) path) =
      ap length (under_is path above under) ∙ length-append above (drop (length above) path) in
      let one : is_new past (id_in past b (take (length above) path)) ≡ true =
      at_each (λ depth. is_new past (id_in past b (take depth path))) (length path + 1) all (length above) (omega (arith, long)) in
      eqb-true i.rev past.count (ap (is_new past) (sym at ∙ ap (id_in past b) (sym prefix)) ∙ one)

  pub tells_by_last : (p : PathValue) (e : Changed) → Contains changes e → is_at_or_under e.0 p ≡ true → IsSome (t p)
      → created_of (t p) ≡ Some past.count
  tells_by_last p e listed under some =
      let s = stands past b changes next sound p some in
      ap created_of (shows past b changes next sound p s.0 s.1 s.2 s.3)
      ∙ ap Some (new_above e.0 (next.marked e listed).last p under s.0 s.2)

  pub tells_by_own : (e : Changed) → Contains changes e → IsSome (t e.0) → own_revision (t e.0) ≡ Some past.count
  tells_by_own e listed some =
      let s = stands past b changes next sound e.0 some in
      ap own_revision (shows past b changes next sound e.0 s.0 s.1 s.2 s.3)
      ∙ ap Some ((next.marked e listed).own s.0 s.1 s.2 s.3)

  abbrev previous : Tree
  previous = tree_before past (past.count - 1)

  -- what nothing made is from before, where it is an old node
  stood_before : (p : PathValue) (i : NodeId) (o : Old past b changes next sound p i) → IsNotMade changes p → t p ≡ previous p
  stood_before p i o not_made =
      let under : is_at_or_under p (o.top ++ o.name ∷ []) ≡ true =
      ap (λ q. is_at_or_under q (o.top ++ o.name ∷ [])) o.is ∙ under_append (o.top ++ o.name ∷ []) o.rest in
      let was = o.entry.stays (not_made_by changes p (o.top ++ o.name ∷ []) under not_made) in
      ap t o.is
      ∙ tree_under look (Some b.root) (o.top ++ o.name ∷ []) o.rest
      ∙ ap (λ x. shared_tree look x o.rest) (old_at past b changes next sound p i o)
      ∙ old_shows past b changes next sound.free sound.closed o.kid o.entry.there o.rest
      ∙ ap (λ x. shared_tree past.look x o.rest) (sym was)
      ∙ sym (tree_under past.look (past.root (past.count - 1)) (o.top ++ o.name ∷ []) o.rest)
      ∙ ap previous (sym o.is)

  pub keeps_last : (p : PathValue) → IsNotMade changes p → IsSome (t p)
      → (created_of (t p) ≡ Some past.count) ⊎ (created_of (t p) ≡ created_of (previous p))
  keeps_last p not_made some =
      let s = stands past b changes next sound p some in
      by s.0 s.1 (shows past b changes next sound p s.0 s.1 s.2 s.3) (found_in past b changes next sound.free sound.closed p s.0 s.2)
    where
      by : (i : NodeId) (node : NodeRev) → t p ≡ Some (shared_entry i node)
          → New past b changes next sound p i ⊎ Old past b changes next sound p i
          → (created_of (t p) ≡ Some past.count) ⊎ (created_of (t p) ≡ created_of (previous p))
      by i node is (inl new) = inl (ap created_of is ∙ ap Some new.here)
      by i node is (inr o) = inr (ap created_of (stood_before p i o not_made))

  pub keeps_own : (p : PathValue) → IsNotMade changes p → IsSome (t p)
      → (own_revision (t p) ≡ Some past.count) ⊎ (own_revision (t p) ≡ own_revision (previous p))
  keeps_own p not_made some =
      let s = stands past b changes next sound p some in
      by s.0 s.1 s.3 (shows past b changes next sound p s.0 s.1 s.2 s.3) (found_in past b changes next sound.free sound.closed p s.0 s.2)
    where
      by : (i : NodeId) (node : NodeRev) → look i ≡ Some node → t p ≡ Some (shared_entry i node)
          → New past b changes next sound p i ⊎ Old past b changes next sound p i
          → (own_revision (t p) ≡ Some past.count) ⊎ (own_revision (t p) ≡ own_revision (previous p))
      by i node found is (inl new) =
          let path = new_path p i node found new in
          ⊎_elim
          (λ own. inl (ap own_revision is ∙ ap Some own))
          (λ own. inr (ap own_revision is ∙ sym own ∙ ap (λ q. own_revision (previous q)) path.0))
          ((next.nodes i.place node path.1).keeps
          (ap (is_made changes) path.0 ∙ not_made_by changes p p (under_itself p) not_made))
      by i node found is (inr o) = inr (ap own_revision (stood_before p i o not_made))
