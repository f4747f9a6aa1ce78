-- Names by which two lists of entries differ.
use Rattle.std.proofs.Common.{◌≡◌, ◌⊎◌, inl, inr, ⊎_elim, ◌<◌, ℕ, zero, suc, List, [], ◌∷◌, ◌++◌, length, arith, Option, Some, None, refl, sym, ap, ◌∙◌}
use Rattle.std.proofs.lemmas.List.Elements.{Contains-append_left, Contains-append_right}
use Rattle.std.specs.{List.{Contains, slice_index_or}, Map.keys_of}
use Rattle.svnpath.specs.Paths.{Component}
use Rattle.noderevs.specs.{Nodes.{Kids, kid_named}, declared.node_rev.NodeId.NodeId}

key_at : (es : List (Component × NodeId)) (name : Component) (kid : NodeId) (k : ℕ) → k < length es → slice_index_or es k (name, kid) ≡ (name, kid)
    → (k < length (keys_of es)) × (slice_index_or (keys_of es) k name ≡ name)
key_at [] name kid k within is = absurd (omega (within, arith))
key_at (e ∷ es) name kid zero within is = (omega arith, ap (λ x. x.0) is)
key_at (e ∷ es) name kid (suc k) within is =
    let rest = key_at es name kid k (omega (within, arith)) is in
    (omega (rest.0, arith), rest.1)

-- the name of an entry that is listed is among the names
pub name_listed : (es : List (Component × NodeId)) (name : Component) (kid : NodeId) → Contains es (name, kid) → Contains (keys_of es) name
name_listed es name kid there =
    let key = key_at es name kid there.0 there.1 there.2 in
    (there.0, key.0, key.1)

-- entries that others have not, and those that they have and these have not: by no other name do both differ
pub all_apart : (kids others : Kids) (gone come : List (Component × NodeId))
    → ((name : Component) (kid : NodeId) → kid_named kids name ≡ Some kid → (kid_named others name ≡ Some kid) ⊎ Contains gone (name, kid))
    → ((name : Component) (kid : NodeId) → kid_named others name ≡ Some kid → (kid_named kids name ≡ Some kid) ⊎ Contains come (name, kid))
    → (name : Component) → Contains (keys_of gone ++ keys_of come) name ⊎ (kid_named kids name ≡ kid_named others name)
all_apart kids others gone come left right name = by (kid_named kids name) (kid_named others name) refl refl
  where
    by : (o p : Option NodeId) → kid_named kids name ≡ o → kid_named others name ≡ p
        → Contains (keys_of gone ++ keys_of come) name ⊎ (kid_named kids name ≡ kid_named others name)
    by (Some kid) p here there =
        ⊎_elim (λ same. inr (here ∙ sym same)) (λ listed. inl (Contains-append_left (keys_of gone) (keys_of come) name (name_listed gone name kid listed)))
        (left name kid here)
    by None (Some kid) here there =
        ⊎_elim (λ same. inr (same ∙ sym there)) (λ listed. inl (Contains-append_right (keys_of gone) (keys_of come) name (name_listed come name kid listed)))
        (right name kid there)
    by None None here there = inr (here ∙ sym there)
