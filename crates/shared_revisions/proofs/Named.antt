-- The names of a directory's entries.
use Rattle.std.proofs.Common.{◌≡◌, true, false, ℕ, [], ◌∷◌, ◌++◌, Option, Some, None, is_some, option_map, option_and_then, refl, sym, ap, ◌∙◌}
use Rattle.std.specs.{Cmp.Lexicographic.slice_cmp, FinMap.{get, keys, contains_key-keys}, List.list_any, List.Sorted.IsStrictlySortedBy}
use Rattle.std.specs.{Ordering.{nat_cmp, is_eq}, Prelude.slice_get}
use Rattle.svnpath.specs.Paths.{Component, PathValue}
use Rattle.repo_api.specs.{Readings.names_in, States.tree_in}
use Rattle.noderevs.specs.{Held.{node_at, root_at}, Nodes.{IsThere, kid_at, kid_named, kid_of, Kids, Look}, Soundness.AreKidsThere}
use Rattle.noderevs.specs.{Views.{entry_at, find_id, shared_entry, shared_tree}, declared.node_rev.NodeId.NodeId, declared.node_rev.NodeRev.NodeRev}
use Rattle.shared_revisions.specs.{Contents.revisions_of, declared.held.Held.Held}
use Rattle.shared_revisions.proofs.{Listing.names_are, Seen.{held_seen, shared_on}}

none_sorted : IsStrictlySortedBy (slice_cmp nat_cmp) []
unfolding IsStrictlySortedBy
none_sorted = tt

-- a name is among the keys where an entry has it
among : (kids : Kids) (n : Component)
    → list_any (λ x. is_eq (slice_cmp nat_cmp n x)) (keys kids) ≡ is_some (kid_named kids n)
among kids n = sym (contains_key-keys kids n)

-- an entry that has an id is there
there : (look : Look) (k : Option NodeId) → ((id : NodeId) → k ≡ Some id → IsThere look id)
    → is_some k ≡ is_some (option_and_then (entry_at look) k)
there look None all = refl
there look (Some id) all = by (look id) (all id refl)
  where
    by : (o : Option NodeRev) → is_some o ≡ true → true ≡ is_some (option_map (shared_entry id) o)
    by None h = sym h
    by (Some node) h = refl

kids_seen : (look : Look) → AreKidsThere look → (o : Option NodeId) (node : NodeRev)
    → option_and_then look o ≡ Some node → (n : Component)
    → is_some (kid_of n node) ≡ is_some (shared_tree look o (n ∷ []))
kids_seen look kids None node is n = absurd (none_is_not_some is)
  where
    none_is_not_some : None ≡ Some node → ⊥
    none_is_not_some e = cc
kids_seen look kids (Some id) node is n = ap (λ f. is_some (option_and_then (kid_of n) f)) (sym is)
    ∙ there look (kid_at look (Some id) n) (λ kid at. kids id kid n at)

no_kids : (look : Look) (o : Option NodeId) → option_and_then look o ≡ None → (n : Component)
    → false ≡ is_some (shared_tree look o (n ∷ []))
no_kids look None is n = refl
no_kids look (Some id) is n =
    ap (λ f. is_some (option_and_then (entry_at look) (option_and_then (kid_of n) f))) (sym is)

seen_beneath : (h : Held) (n : ℕ) (p : PathValue) (name : Component)
    → is_some
    (shared_tree (node_at h.nodes) (find_id (node_at h.nodes) p (root_at h.nodes n)) (name ∷ []))
    ≡ is_some (get (tree_in (slice_get (revisions_of h) n)) (p ++ name ∷ []))
seen_beneath h n p name =
    ap is_some
    (sym (held_seen h n (p ++ name ∷ [])
    ∙ shared_on (node_at h.nodes) p (name ∷ []) (root_at h.nodes n)))

pub names_held : (h : Held) (n : ℕ) (p : PathValue) (node : NodeRev)
    → option_and_then (node_at h.nodes) (find_id (node_at h.nodes) p (root_at h.nodes n))
    ≡ Some node
    → IsStrictlySortedBy (slice_cmp nat_cmp) (keys node.kids)
    → keys node.kids ≡ names_in (tree_in (slice_get (revisions_of h) n)) p
names_held h n p node is sorted =
    names_are (tree_in (slice_get (revisions_of h) n)) p (keys node.kids) sorted
    (λ name. among node.kids name
    ∙ kids_seen (node_at h.nodes) h.nodes.kids
    (find_id (node_at h.nodes) p (root_at h.nodes n)) node is name ∙ seen_beneath h n p name)

pub names_missing : (h : Held) (n : ℕ) (p : PathValue)
    → option_and_then (node_at h.nodes) (find_id (node_at h.nodes) p (root_at h.nodes n)) ≡ None
    → [] ≡ names_in (tree_in (slice_get (revisions_of h) n)) p
names_missing h n p is =
    names_are (tree_in (slice_get (revisions_of h) n)) p [] none_sorted
    (λ name. no_kids (node_at h.nodes) (find_id (node_at h.nodes) p (root_at h.nodes n)) is name
    ∙ seen_beneath h n p name)
