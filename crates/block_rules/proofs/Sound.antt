-- A repository with a revision that keeps the rules is sound.
use Rattle.std.proofs.{Common.{◌≡◌, ◌-◌, ◌<◌, ℕ, List, [], ◌∷◌, ◌++◌, length, option_map, sym, ap, subst, arith, ◌∙◌}, lemmas.List.length-append}
use Rattle.std.proofs.lemmas.Option.{slice_get_past}
use Rattle.std.specs.{FinMap.entries, Prelude.IsSome}
use Rattle.repo_api.specs.{Marks.{AreMarked, IsClosed, MarksName, with_tree}, Soundness.{AreSound, AreTrees}}
use Rattle.repo_api.specs.{States.{ChangeMap, RepoState, Revision, tree_of, TreeMap, trees_in}, Trees.{IsTree, Tree}}
use Rattle.repo_laws.proofs.{Marking.marked_more, Revisions.{free_past, trees_more}, Standing.tree_where}
use Rattle.history_marks.specs.Sound.{IsSoundRepo}
use Rattle.history_marks.proofs.Marked.{IsMarkedList, IsMarkedNext, more_marked}
use Rattle.noderevs.specs.{Held.{blocks_of, count, node_at, trees_of}, Soundness.IsNext, declared.node_rev.Block.Block}
use Rattle.noderevs.proofs.Pushing.{next_is_free}
use Rattle.shared_revisions.specs.{Contents.{block_tree, held_state, revisions_of}, Maps.{IsMapOf, Mapped, mapped}, Placed.IsPlacedBlock}
use Rattle.shared_revisions.specs.declared.held.Held.{Held}
use Rattle.shared_revisions.proofs.Seen.{held_many, trees_seen}
use Rattle.block_rules.specs.Rules.{IsNextRevision, past_of}
use Rattle.block_rules.proofs.{Marks.{is_closed, keeps_last, keeps_own, marks_name, tells_by_last, tells_by_own}, Next.{is_placed, may_come}}
use Rattle.block_rules.proofs.Trees.{IsSoundBefore, is_tree}

many : (h : Held) → length (revisions_of h) ≡ count h.nodes
many h = held_many h ∙ sym h.even

pub sound_before : (h : Held) → IsSoundRepo (held_state h) → IsSoundBefore (past_of h.nodes)
sound_before h s = record {
  free = next_is_free (blocks_of h.nodes);
  closed = h.nodes.kids;
  high = h.nodes.high;
  placed = h.placed;
  trees = λ n p some.
      subst (λ (ts : ℕ → Tree). IsTree (ts n)) (trees_seen h)
      (tree_where (revisions_of h) n p s.revisions.0
      (subst (λ (ts : ℕ → Tree). IsSome (ts n p)) (sym (trees_seen h)) some));
  no_root = ap (option_map (λ b. b.root)) (slice_get_past (blocks_of h.nodes) (count h.nodes) (omega arith));
  marked = subst AreMarked (trees_seen h) s.revisions.1;
}

more_trees : (rs : List Revision) (r : Revision) → AreTrees rs → IsTree (tree_of r.tree) → AreTrees (rs ++ r ∷ [])
more_trees [] r are is = (is, are)
more_trees (x ∷ rs) r are is = (are.0, more_trees rs r are.1 is)

module _ (h : Held) (b : Block) (changes : ChangeMap) (next : IsNextRevision (past_of h.nodes) b (entries changes)) where
  pub block_next : IsNext (node_at h.nodes) (count h.nodes) b
  block_next = may_come (past_of h.nodes) b (entries changes) next (next_is_free (blocks_of h.nodes)) h.nodes.kids h.nodes.high

  pub block_placed : IsPlacedBlock (node_at h.nodes) (count h.nodes) b
  block_placed = is_placed (past_of h.nodes) b (entries changes) next (next_is_free (blocks_of h.nodes)) h.nodes.kids h.nodes.high

module _ (h : Held) (b : Block) (changes : ChangeMap) (next : IsNextRevision (past_of h.nodes) b (entries changes))
    (sound : IsSoundRepo (held_state h)) where
  before : IsSoundBefore (past_of h.nodes)
  before = sound_before h sound

  tree : IsTree (block_tree h.nodes b)
  tree = is_tree (past_of h.nodes) b (entries changes) next before

  pub block_mapped : Mapped (block_tree h.nodes b)
  block_mapped = mapped (block_tree h.nodes b) ∣ tree ∣₁

  module _ (m : TreeMap) (is : IsMapOf (block_tree h.nodes b) m) where
    abbrev revision : Revision
    revision = record { tree = m; changes = changes }

    same : ◌≡◌ {A = Tree} (block_tree h.nodes b) (tree_of m)
    same = λ i p. sym (is p) i

    abbrev rs : List Revision
    rs = revisions_of h

    named : AreMarked (trees_in (rs ++ revision ∷ []))
    named =
        subst AreMarked (λ i k q. trees_more rs revision k q i)
        (marked_more (trees_in rs) (length rs) (tree_of m) (free_past rs (length rs) (omega arith)) sound.revisions.1
        (subst (λ (t : Tree). MarksName (with_tree (trees_in rs) (length rs) t) t) same
        (subst (λ (ts : ℕ → Tree). MarksName (with_tree ts (length rs) (block_tree h.nodes b)) (block_tree h.nodes b)) (sym (trees_seen h))
        (subst (λ (n : ℕ). MarksName (with_tree (trees_of h.nodes) n (block_tree h.nodes b)) (block_tree h.nodes b)) (sym (many h))
        (marks_name (past_of h.nodes) b (entries changes) next before))))
        (subst IsClosed same (is_closed (past_of h.nodes) b (entries changes) next before)))

    told : IsMarkedNext (length rs) (trees_in rs (length rs - 1)) (tree_of m) (entries changes)
    told =
        subst (λ (t : Tree). IsMarkedNext (length rs) (trees_in rs (length rs - 1)) t (entries changes)) same
        (subst (λ (ts : ℕ → Tree). IsMarkedNext (length rs) (ts (length rs - 1)) (block_tree h.nodes b) (entries changes)) (sym (trees_seen h))
        (subst (λ (n : ℕ). IsMarkedNext n (trees_of h.nodes (n - 1)) (block_tree h.nodes b) (entries changes)) (sym (many h))
        (record {
          by_last = tells_by_last (past_of h.nodes) b (entries changes) next before;
          by_own = tells_by_own (past_of h.nodes) b (entries changes) next before;
          keeps_last = keeps_last (past_of h.nodes) b (entries changes) next before;
          keeps_own = keeps_own (past_of h.nodes) b (entries changes) next before;
        })))

    pub sound_after : (c : RepoState) → c.revisions ≡ rs ++ revision ∷ [] → IsSoundRepo c
    sound_after c are = record {
      begun = subst (λ (xs : List Revision). 0 < length xs) (sym are) (subst (λ n. 0 < n) (sym (length-append rs (revision ∷ []))) (omega arith));
      revisions = subst AreSound (sym are) (more_trees rs revision sound.revisions.0 (subst IsTree same tree), named);
      marked = subst (λ (xs : List Revision). IsMarkedList xs) (sym are) (more_marked rs revision sound.marked told);
    }
