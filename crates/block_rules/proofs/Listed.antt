-- What holds of all entries that are listed holds of each entry of a map.
use Rattle.std.proofs.Common.{◌≡◌, ℕ, true, false, ◌==◌, ◌||◌, List, [], ◌∷◌, is_some, cond, map, length, Option, Some, None, option_map, refl, sym, ap, subst}
use Rattle.std.proofs.{Common.{arith, ◌∙◌}, lemmas.Bool.{false≢true, eqb-true}, lemmas.Cmp.{nat_list_cmp_total, tied_itself}}
use Rattle.std.proofs.{lemmas.Map.Entries.{lookup_from_place, place_from_lookup}, lemmas.Map.Keys.IsDistinct-from_sorted}
use Rattle.std.proofs.lemmas.Option.{none-some, same_Some, slice_get-map, slice_get_within, get_or_from_slice_get}
use Rattle.std.specs.{Borrow.Bor, BTreeMap.is_at, Cmp.Lexicographic.texts_ties, FinMap.{contains_key-keys, find, get, entries, get-entries, keys}}
use Rattle.std.specs.{List.{All, list_any}, Ordering.{eq_by_cmp, is_eq}, Cmp.eq_by_cmp_equiv, List.Sorted.IsStrictlySortedBy, Map.{keys_of, lookup}}
use Rattle.std.specs.{Map.Iter.deref, Prelude.slice_get}
use Rattle.shared_map.specs.Entries.{by_bytes}
use Rattle.svnpath.specs.{PathLaws.same_component_is, Paths.Component}
use Rattle.noderevs.specs.{Nodes.Kids, declared.node_rev.NodeId.NodeId}

found_by : (es : List (Component × NodeId)) (name : Component) → find by_bytes name es ≡ lookup (is_at (by_bytes name)) es
found_by [] name = refl
found_by (e ∷ es) name = ap (cond (is_at (by_bytes name) e.0) (Some e.1)) (found_by es name)

module _ (P : Component → NodeId → Type 0) (kids : Kids) (es : List (Bor (Component × NodeId)))
    (listed : map deref es ≡ entries kids) (all : All (λ e. P e.now.0 e.now.1) es) where
  at_place : (name : Component) (kid : NodeId) (k : ℕ) (o : Option (Bor (Component × NodeId))) → slice_get es k ≡ o
      → option_map deref o ≡ Some (name, kid) → P name kid
  at_place name kid k None is same = absurd (none-some (name, kid) same)
  at_place name kid k (Some e) is same =
      let here : P e.now.0 e.now.1 =
      subst (λ (x : Bor (Component × NodeId)). P x.now.0 x.now.1) (get_or_from_slice_get es k e e is)
      (all k e (slice_get_within es k e is)) in
      subst (λ (x : Component × NodeId). P x.0 x.1) (same_Some e.now (name, kid) same) here

  pub of_each : (name : Component) (kid : NodeId) → get kids name ≡ Some kid → P name kid
  of_each name kid is =
      let p = place_from_lookup (is_at (by_bytes name)) (entries kids) kid
      (sym (found_by (entries kids) name) ∙ sym (get-entries kids name) ∙ is) in
      let key : name ≡ p.1 = same_component_is name p.1 (texts_ties name p.1 ∙ p.3) in
      at_place name kid p.0 (slice_get es p.0) refl
      (sym (slice_get-map deref es p.0) ∙ ap (λ l. slice_get l p.0) listed ∙ p.2 ∙ ap (λ k. Some (k, kid)) (sym key))

-- a map without keys has nothing
pub none_without : (kids : Kids) → keys kids ≡ [] → (name : Component) → get kids name ≡ None
none_without kids none name =
    by (get kids name) refl (contains_key-keys kids name ∙ ap (list_any (eq_by_cmp by_bytes name)) none)
  where
    by : (o : Option NodeId) → get kids name ≡ o → is_some o ≡ false → o ≡ None
    by None is empty = refl
    by (Some id) is empty = absurd (false≢true (sym empty))

-- a list that is empty has nothing
pub none_listed : {X : Type 0} (xs : List X) → (length xs == 0) ≡ true → xs ≡ []
none_listed [] is = refl
none_listed (x ∷ xs) is = absurd (omega (arith, eqb-true (length (x ∷ xs)) 0 is))

-- and a map that has nothing has no keys
pub no_keys : (kids : Kids) → ((name : Component) → get kids name ≡ None) → keys kids ≡ []
no_keys kids none = by (keys kids) refl
  where
    by : (ks : List Component) → keys kids ≡ ks → ks ≡ []
    by [] is = refl
    by (k ∷ ks) is =
        absurd (false≢true (ap is_some (sym (none k)) ∙ contains_key-keys kids k ∙ ap (list_any (eq_by_cmp by_bytes k)) is
        ∙ ap (λ o. is_eq o || list_any (eq_by_cmp by_bytes k) ks) (tied_itself nat_list_cmp_total k)))

pub listed_none : {X Y : Type 0} (f : X → Y) (xs : List X) → map f xs ≡ [] → (length xs == 0) ≡ true
listed_none f [] none = refl
listed_none f (x ∷ xs) none = absurd (omega (arith, ap length none))

-- what is listed is found
pub listed_found : (kids : Kids) (es : List (Bor (Component × NodeId))) → map deref es ≡ entries kids
    → IsStrictlySortedBy by_bytes (keys_of (entries kids)) → (k : ℕ) (e : Bor (Component × NodeId)) → slice_get es k ≡ Some e
    → get kids e.now.0 ≡ Some e.now.1
listed_found kids es listed sorted k e at =
    get-entries kids e.now.0 ∙ found_by (entries kids) e.now.0
    ∙ lookup_from_place (eq_by_cmp_equiv nat_list_cmp_total) (entries kids) k e.now.0 e.now.1
    (IsDistinct-from_sorted by_bytes (keys_of (entries kids)) sorted)
    (ap (λ l. slice_get l k) (sym listed) ∙ slice_get-map deref es k ∙ ap (option_map deref) at)
