-- The entries of a directory: each is of a node, and no two have one name.
use Rattle.std.proofs.Common.{◌≡◌, ◌<◌, ◌≤◌, ◌⊎◌, inl, inr, ◌&&◌, ℕ, zero, suc, Bool, true, false, List, [], ◌∷◌, get_or, Option, Some, None, refl, sym, ap}
use Rattle.std.proofs.{Common.{subst, ◌∙◌, arith}, lemmas.Bool.{cases_eq, cases_lt, false≢true}, lemmas.Map.Keys.Less-from_sorted}
use Rattle.std.proofs.lemmas.Option.{get_or_from_slice_get, slice_get_within}
use Rattle.std.specs.{Arc.arc_value, FinMap.{FinMap, entries, entries_sorted}, FinMap.Entries.{is_sorted, below_all}, List.AllByRecursion}
use Rattle.std.specs.{List.Sorted.IsStrictlySortedBy, Map.keys_of, Cmp.Lexicographic.nat_list_cmp_total, Ordering.{is_lt, ordering_reverse}}
use Rattle.std.specs.{Prelude.{T, slice_get}, declared.cmp.Ordering.Ordering, declared.cmp.Ordering.TheVariants.{Less, Equal, Greater}}
use Rattle.shared_map.specs.Entries.{by_bytes}
use Rattle.svnpath.specs.Paths.{Component}
use Rattle.noderevs.specs.{Held.node_at, declared.node_rev.NodeId.NodeId, declared.node_rev.NodeRev.NodeRev}
use Rattle.fsfs_text.specs.declared.id.FileId.{FileId}
use Rattle.fsfs_nodes.specs.declared.entries.DirectoryEntry.{DirectoryEntry}
use Rattle.filed_trees.specs.Readable.{AreOnce}
use Rattle.filed_writing.specs.{Layout.{entry_of, file_id}, Pieces.{all_some, entry_with, kind_of}, declared.revision.Revision.Revision}
use Rattle.filed_laws.proofs.Changing.{Split, split}

-- an entry has the kind and the id of a node
pub record IsListed (r : Revision) (written : List FileId) (entry : DirectoryEntry) : Type 0 where
  pub kid : NodeId
  pub node : NodeRev
  pub there : node_at r.nodes.now kid ≡ Some node
  pub kind : entry.kind ≡ kind_of (arc_value node.content)
  pub id : file_id r written kid ≡ Some entry.id

abbrev pub AreListed : Revision → List FileId → List DirectoryEntry → Type 0
AreListed r written [] = Unit {0}
AreListed r written (entry ∷ es) = IsListed r written entry × AreListed r written es

-- and the name
record HasParts (r : Revision) (written : List FileId) (name : Component) (entry : DirectoryEntry) : Type 0 where
  named : entry.name ≡ name
  listed : IsListed r written entry

one_listed : (r : Revision) (written : List FileId) (kid : Component × NodeId) (entry : DirectoryEntry) → entry_of r written kid ≡ Some entry
    → HasParts r written kid.0 entry
one_listed r written kid entry e = by (node_at r.nodes.now kid.1) refl (file_id r written kid.1) refl e
  where
    by : (o : Option NodeRev) → node_at r.nodes.now kid.1 ≡ o → (id : Option FileId) → file_id r written kid.1 ≡ id
        → entry_with kid.0 o id ≡ Some entry → HasParts r written kid.0 entry
    by None there id file e = absurd (cc e)
    by (Some node) there None file e = absurd (cc e)
    by (Some node) there (Some id) file e =
        let same : record { name = kid.0; kind = kind_of (arc_value node.content); id = id } ≡ entry = cc e in record {
          named = λ i. (sym same i).name;
          listed = record {
            kid = kid.1;
            node = node;
            there = there;
            kind = λ i. (sym same i).kind;
            id = file ∙ (λ i. Some (same i).id);
          };
        }

pub all_listed : (r : Revision) (written : List FileId) (kids : List (Component × NodeId)) (es : List DirectoryEntry)
    → all_some (entry_of r written) kids ≡ Some es → AreListed r written es
all_listed r written [] es e = let same : [] ≡ es = cc e in subst (AreListed r written) same tt
all_listed r written (kid ∷ kids) es e =
    let parts = split (entry_of r written) kid kids es e in
    subst (AreListed r written) (sym parts.whole)
    ((one_listed r written kid parts.first parts.first_is).listed, all_listed r written kids parts.rest parts.rest_is)

-- ---- names

key_at : (r : Revision) (written : List FileId) (kids : List (Component × NodeId)) (es : List DirectoryEntry)
    → all_some (entry_of r written) kids ≡ Some es
    → (k : ℕ) (entry : DirectoryEntry) → slice_get es k ≡ Some entry → slice_get (keys_of kids) k ≡ Some entry.name
key_at r written [] es e k entry at =
    let same : [] ≡ es = cc e in
    let at_none : slice_get [] k ≡ Some entry = ap (λ (l : List DirectoryEntry). slice_get l k) same ∙ at in absurd (cc at_none)
key_at r written (kid ∷ kids) es e k entry at = by k (ap (λ (l : List DirectoryEntry). slice_get l k) (sym parts.whole) ∙ at)
    (λ j there. key_at r written kids parts.rest parts.rest_is j entry there)
  where
    parts : Split (entry_of r written) kid kids es
    parts = split (entry_of r written) kid kids es e

    by : (j : ℕ) → slice_get (parts.first ∷ parts.rest) j ≡ Some entry
        → ((i : ℕ) → slice_get parts.rest i ≡ Some entry → slice_get (keys_of kids) i ≡ Some entry.name)
        → slice_get (keys_of (kid ∷ kids)) j ≡ Some entry.name
    by zero at later =
        let same : parts.first ≡ entry = cc at in
        ap (λ (name : Component). Some name) (sym (one_listed r written kid parts.first parts.first_is).named ∙ ap (λ (d : DirectoryEntry). d.name) same)
    by (suc j) at later = later j at

is_true : (b : Bool) → T b → b ≡ true
is_true true h = refl
is_true false h = absurd h

both_true : (a b : Bool) → (a && b) ≡ true → (a ≡ true) × (b ≡ true)
both_true true b h = (refl, h)
both_true false b h = absurd (false≢true h)

is_less : (o : Ordering) → is_lt o ≡ true → o ≡ Less
is_less Less h = refl
is_less Equal h = absurd (false≢true h)
is_less Greater h = absurd (false≢true h)

below_keys : {X : Type 0} (p : Component) (es : List (Component × X)) → below_all by_bytes p es ≡ true
    → AllByRecursion (λ k. by_bytes p k ≡ Less) (keys_of es)
below_keys p [] h = tt
below_keys p (e ∷ es) h =
    let both = both_true (is_lt (by_bytes p e.0)) (below_all by_bytes p es) h in
    (is_less (by_bytes p e.0) both.0, below_keys p es both.1)

sorted_keys : {X : Type 0} (es : List (Component × X)) → is_sorted by_bytes es ≡ true
    → IsStrictlySortedBy by_bytes (keys_of es)
unfolding IsStrictlySortedBy
sorted_keys [] h = tt
sorted_keys (e ∷ es) h =
    let both = both_true (below_all by_bytes e.0 es) (is_sorted by_bytes es) h in
    (below_keys e.0 es both.0, sorted_keys es both.1)

in_order : {X : Type 0} (m : FinMap by_bytes X) → IsStrictlySortedBy by_bytes (keys_of (entries m))
in_order m = sorted_keys (entries m) (is_true (is_sorted by_bytes (entries m)) (entries_sorted m))

no_less : (a : Component) → by_bytes a a ≡ Less → ⊥
no_less a less = less_and (sym less ∙ (nat_list_cmp_total.antisymm a a ∙ ap ordering_reverse less))
  where
    less_and : Less ≡ Greater → ⊥
    less_and e = absurd (cc e)

-- no two places have one key
key_once : (keys : List Component) → IsStrictlySortedBy by_bytes keys → (j k : ℕ) (name : Component) → slice_get keys j ≡ Some name
    → slice_get keys k ≡ Some name → j < k → ⊥
key_once keys rise j k name at_j at_k lt =
    let less = Less-from_sorted by_bytes keys j k name rise lt (slice_get_within keys k name at_k) in
    no_less name (ap (λ (a : Component). by_bytes a name) (sym (get_or_from_slice_get keys j name name at_j))
    ∙ ap (λ (b : Component). by_bytes (get_or keys j name) b) (sym (get_or_from_slice_get keys k name name at_k)) ∙ less)

pub once : (r : Revision) (written : List FileId) (kids : FinMap by_bytes NodeId) (es : List DirectoryEntry)
    → all_some (entry_of r written) (entries kids) ≡ Some es → AreOnce es
once r written kids es e j k a b at_a at_b same = by (cases_eq j k)
  where
    keys : List Component
    keys = keys_of (entries kids)

    rise : IsStrictlySortedBy by_bytes keys
    rise = in_order kids

    key_a : slice_get keys j ≡ Some b.name
    key_a = key_at r written (entries kids) es e j a at_a ∙ ap (λ (n : Component). Some n) same

    key_b : slice_get keys k ≡ Some b.name
    key_b = key_at r written (entries kids) es e k b at_b

    less : (j < k) ⊎ (k < j) → ⊥
    less (inl lt) = key_once keys rise j k b.name key_a key_b lt
    less (inr gt) = key_once keys rise k j b.name key_b key_a gt

    either : (j ≡ k → ⊥) → (j < k) ⊎ (k ≤ j) → (j < k) ⊎ (k < j)
    either differ (inl lt) = inl lt
    either differ (inr ge) = inr (omega (arith, differ, ge))

    by : (j ≡ k) ⊎ (j ≡ k → ⊥) → j ≡ k
    by (inl is) = is
    by (inr differ) = absurd (less (either differ (cases_lt j k)))
