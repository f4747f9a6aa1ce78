-- The copies of node revisions, the last first.
use Rattle.std.proofs.Common.{◌≡◌, ◌+◌, ◌-◌, ◌<◌, ◌≤◌, ℕ, Bool, List, [], ◌∷◌, ◌++◌, Option, Some, None, map, reverse, drop, get_or, length, refl, ap, sym}
use Rattle.std.proofs.{Common.{subst, arith, ⊎_elim, ◌∙◌}, lemmas.Bool.{cases_lt, le-ltb, lt-ltb}}
use Rattle.std.proofs.lemmas.List.{at_drop_all, at_drop_more, get_or-reverse, length-reverse, map-append, reverse-append}
use Rattle.std.proofs.lemmas.Option.{slice_get-get_or, slice_get_past}
use Rattle.std.specs.{Borrow.Bor, Prelude.{if◌then◌else◌, option_and_then, option_copied, slice_get}, Slice.IsItemAt}
use Rattle.noderevs.specs.declared.node_rev.NodeRev.{NodeRev}
use Rattle.filed_writing.specs.{declared.copies.CopyRoot.CopyRoot, declared.copies.Origin.Origin, declared.revision.Revision.Revision}
use Rattle.filed_writing.specs.{Drafts.{comes_of, copy_from}, Layout.{copies_of, copy_of, known_from, node_here, nodes_of, place_above}, Pieces.{Comes, Copy}}
use Rattle.filed_writing.proofs.Places.{from_here}

turned : (copies : List Copy) (k : ℕ) (d : Copy) → k < length copies → slice_get (reverse copies) k ≡ slice_get copies (length copies - 1 - k)
turned copies k d lt =
    slice_get-get_or (reverse copies) k d (omega (arith, length-reverse copies)) ∙ ap Some (get_or-reverse copies k d lt)
    ∙ sym (slice_get-get_or copies (length copies - 1 - k) d (omega arith))

some_copy : (copies : List Copy) → 0 < length copies → Copy
some_copy [] lt = absurd (omega (arith, lt))
some_copy (copy ∷ copies) lt = copy

known_if : ℕ → List Copy → ℕ → Bool → Option Copy
known_if first copies place before = if before then None else slice_get copies (place - first)

-- what is known of a place, in a list whose last is the first that is known
pub backwards : (n place : ℕ) (copies : List Copy) → length copies ≤ n → place < n
    → slice_get copies (n - place - 1) ≡ known_from (n - length copies) (reverse copies) place
unfolding known_if
backwards n place copies room lt =
    let first = n - length copies in
    ⊎_elim
    (λ before. slice_get_past copies (n - place - 1) (omega (arith, before))
    ∙ ap (known_if first (reverse copies) place) (sym (lt-ltb place first before)))
    (λ behind.
    let within : place - first < length copies = omega (arith, behind) in
    let same : n - place - 1 ≡ length copies - 1 - (place - first) = omega (arith, behind) in
    ap (slice_get copies) same
    ∙ sym (turned copies (place - first) (some_copy copies (omega (arith, within))) within)
    ∙ ap (known_if first (reverse copies) place) (sym (le-ltb place first behind)))
    (cases_lt place first)

-- a place that none is behind
pub too_far : (n place : ℕ) (copies : List Copy) → length copies ≤ n → n ≤ place → known_from (n - length copies) (reverse copies) place ≡ None
unfolding known_if
too_far n place copies room past =
    let first = n - length copies in
    ap (known_if first (reverse copies) place) (le-ltb place first (omega arith))
    ∙ slice_get_past (reverse copies) (place - first) (omega (arith, length-reverse copies))

-- one more in front of those that are known
module _ (r : Revision) (m : ℕ) (node : NodeRev) (origins : List Origin) (o : Origin) (there : node_here r m ≡ Some node)
    (lt : m < length origins) (is : o ≡ get_or origins m o) where
  pub one_copy : (place : ℕ) → place ≡ m + 1 → (roots now : List CopyRoot) (root : CopyRoot) (above : Option Copy)
      → now ≡ roots ++ root ∷ []
      → above ≡ option_and_then (known_from place (reverse (map copy_from roots))) (place_above r node.path)
      → copy_from root ≡ copy_of r node (comes_of o) above
      → reverse (map copy_from roots) ≡ copies_of r place (drop place (nodes_of r)) (map comes_of (drop place origins))
      → reverse (map copy_from now) ≡ copies_of r m (drop m (nodes_of r)) (map comes_of (drop m origins))
  one_copy place more roots now root above last by made before =
      let back : List Copy = reverse (map copy_from roots) in
      let ns : List NodeRev = drop (m + 1) (nodes_of r) in
      let cs : List Comes = map comes_of (drop (m + 1) origins) in
      let known : above ≡ option_and_then (known_from (m + 1) back) (place_above r node.path) =
      subst (λ (p : ℕ). above ≡ option_and_then (known_from p back) (place_above r node.path)) more by in
      let behind : back ≡ copies_of r (m + 1) ns cs =
      subst (λ (p : ℕ). back ≡ copies_of r p (drop p (nodes_of r)) (map comes_of (drop p origins))) more before in
      let front : reverse (map copy_from now) ≡ copy_from root ∷ back =
      ap (λ (l : List CopyRoot). reverse (map copy_from l)) last
      ∙ (ap (λ (l : List Copy). reverse l) (map-append copy_from roots (root ∷ [])) ∙ reverse-append (map copy_from roots) (copy_from root ∷ [])) in
      let all : map comes_of (drop m origins) ≡ comes_of o ∷ cs =
      at_drop_more (map comes_of) origins m o lt ∙ ap (λ (x : Origin). comes_of x ∷ cs) (sym is) in
      front
      ∙ ap (λ (c : Copy). c ∷ back) (made ∙ ap (copy_of r node (comes_of o)) known)
      ∙ ap (λ (b : List Copy). copy_of r node (comes_of o) (option_and_then (known_from (m + 1) b) (place_above r node.path)) ∷ b) behind
      ∙ sym ((λ i. copies_of r m (from_here r m node there i) (all i)))

no_more : (r : Revision) (place : ℕ) (nodes : List NodeRev) → copies_of r place nodes [] ≡ []
no_more r place [] = refl
no_more r place (node ∷ nodes) = refl

-- none is behind the last
pub none_yet : (r : Revision) (origins : List Origin)
    → copies_of r (length origins) (drop (length origins) (nodes_of r)) (map comes_of (drop (length origins) origins)) ≡ []
none_yet r origins =
    ap (copies_of r (length origins) (drop (length origins) (nodes_of r))) (at_drop_all (map comes_of) origins (length origins) (omega arith))
    ∙ no_more r (length origins) (drop (length origins) (nodes_of r))

-- what a look-up in a list gives
pub looked : {X : Type 0} (xs : List X) (k : ℕ) (r : Option (Bor X)) → IsItemAt xs k r → option_copied r ≡ slice_get xs k
looked xs k None item = sym (slice_get_past xs k item.3)
looked xs k (Some x) item = sym (slice_get-get_or xs k x.now item.3.0 ∙ ap Some (sym item.1))
