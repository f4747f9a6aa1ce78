-- How many items there are in all, and which is at a place.
use Rattle.std.proofs.Common.{◌≡◌, ◌≤◌, ◌<◌, ◌+◌, ◌*◌, ℕ, List, [], ◌∷◌, ◌++◌, length, sym, ap, subst, arith, append-nil, ◌∙◌}
use Rattle.std.proofs.{lemmas.List.{length-append, length-map}, lemmas.List.Concat.flat_map-append}
use Rattle.std.specs.{List.flat_map, Prelude.{slice_get, slice_set}, declared.sync.Arc.Arc, declared.vec.Vec.Vec}
use Rattle.pvec.specs.Parts.{values, leaf_items, branch_items, AreEven, Each, AreOfEvenLeaves, items_of, IsEven}
use Rattle.pvec.proofs.Even.{length_even, even_push, each_push, get_left, get_right, set_left, set_right}

module _ {X Y Z V W A : Type 0} (branches : List (Arc (Vec (Arc (Vec (Arc X Y) Z) V) W) A)) (leaves : List (Arc (Vec (Arc X Y) Z) V)) (tail : List (Arc X Y)) (even : IsEven branches leaves tail) where
  pub in_branches : length (flat_map branch_items (values branches)) ≡ length branches * 4096
  in_branches =
      let all = length_even 4096 branch_items (values branches) even.branches_full in
      let same : length (values branches) ≡ length branches = length-map branches (λ a. a.value) in
      omega (arith, all, same)

  pub in_leaves : length (flat_map leaf_items (values leaves)) ≡ length leaves * 64
  in_leaves =
      let all = length_even 64 leaf_items (values leaves) even.leaves_full in
      let same : length (values leaves) ≡ length leaves = length-map leaves (λ a. a.value) in
      omega (arith, all, same)

  pub counted : length branches * 4096 + length leaves * 64 + length tail ≡ length (items_of branches leaves tail)
  counted =
      let one = length-append (flat_map branch_items (values branches)) (flat_map leaf_items (values leaves) ++ values tail) in
      let two = length-append (flat_map leaf_items (values leaves)) (values tail) in
      let three : length (values tail) ≡ length tail = length-map tail (λ a. a.value) in
      let first = in_branches in
      let second = in_leaves in
      omega (arith, one, two, three, first, second)

  pub within : length branches * 4096 + length leaves * 64 + length tail ≤ 262144
  within = let all = counted in let limit = even.limit in omega (arith, all, limit)

  -- ---- another item at a place

  pub set_first : (i : ℕ) (v : X) (new : List (Vec (Arc (Vec (Arc X Y) Z) V) W)) → i < length branches * 4096
      → flat_map branch_items new ≡ slice_set (flat_map branch_items (values branches)) i v
      → flat_map branch_items new ++ (flat_map leaf_items (values leaves) ++ values tail) ≡ slice_set (items_of branches leaves tail) i v
  set_first i v new inside is =
      let first = in_branches in
      ap (λ l. l ++ (flat_map leaf_items (values leaves) ++ values tail)) is
      ∙ sym (set_left (flat_map branch_items (values branches)) (flat_map leaf_items (values leaves) ++ values tail) i v (omega (arith, inside, first)))

  set_behind : (i j : ℕ) (v : X) → i ≡ length branches * 4096 + j
      → slice_set (items_of branches leaves tail) i v ≡ flat_map branch_items (values branches) ++ slice_set (flat_map leaf_items (values leaves) ++ values tail) j v
  set_behind i j v is =
      let first = in_branches in
      set_right (flat_map branch_items (values branches)) (flat_map leaf_items (values leaves) ++ values tail) i j v (omega (arith, is, first))

  pub set_second : (i j : ℕ) (v : X) (new : List (Vec (Arc X Y) Z)) → i ≡ length branches * 4096 + j → j < length leaves * 64
      → flat_map leaf_items new ≡ slice_set (flat_map leaf_items (values leaves)) j v
      → flat_map branch_items (values branches) ++ (flat_map leaf_items new ++ values tail) ≡ slice_set (items_of branches leaves tail) i v
  set_second i j v new is inside made =
      let second = in_leaves in
      ap (λ l. flat_map branch_items (values branches) ++ (l ++ values tail)) made
      ∙ ap (λ l. flat_map branch_items (values branches) ++ l) (sym (set_left (flat_map leaf_items (values leaves)) (values tail) j v (omega (arith, inside, second))))
      ∙ sym (set_behind i j v is)

  pub set_third : (i j k : ℕ) (v : X) (new : List X) → i ≡ length branches * 4096 + j → j ≡ length leaves * 64 + k
      → new ≡ slice_set (values tail) k v
      → flat_map branch_items (values branches) ++ (flat_map leaf_items (values leaves) ++ new) ≡ slice_set (items_of branches leaves tail) i v
  set_third i j k v new is more made =
      let second = in_leaves in
      ap (λ l. flat_map branch_items (values branches) ++ (flat_map leaf_items (values leaves) ++ l)) made
      ∙ ap (λ l. flat_map branch_items (values branches) ++ l) (sym (set_right (flat_map leaf_items (values leaves)) (values tail) j k v (omega (arith, more, second))))
      ∙ sym (set_behind i j v is)

  -- ---- the item at a place

  pub got_first : (i : ℕ) → i < length branches * 4096 → slice_get (flat_map branch_items (values branches)) i ≡ slice_get (items_of branches leaves tail) i
  got_first i inside =
      let first = in_branches in
      sym (get_left (flat_map branch_items (values branches)) (flat_map leaf_items (values leaves) ++ values tail) i (omega (arith, inside, first)))

  behind : (i j : ℕ) → i ≡ length branches * 4096 + j → slice_get (items_of branches leaves tail) i ≡ slice_get (flat_map leaf_items (values leaves) ++ values tail) j
  behind i j is =
      let first = in_branches in
      get_right (flat_map branch_items (values branches)) (flat_map leaf_items (values leaves) ++ values tail) i j (omega (arith, is, first))

  pub got_second : (i j : ℕ) → i ≡ length branches * 4096 + j → j < length leaves * 64
      → slice_get (flat_map leaf_items (values leaves)) j ≡ slice_get (items_of branches leaves tail) i
  got_second i j is inside =
      let second = in_leaves in
      sym (behind i j is ∙ get_left (flat_map leaf_items (values leaves)) (values tail) j (omega (arith, inside, second)))

  pub got_third : (i j k : ℕ) → i ≡ length branches * 4096 + j → j ≡ length leaves * 64 + k
      → slice_get (values tail) k ≡ slice_get (items_of branches leaves tail) i
  got_third i j k is more =
      let second = in_leaves in
      sym (behind i j is ∙ get_right (flat_map leaf_items (values leaves)) (values tail) j k (omega (arith, more, second)))

-- ---- one more leaf, and one more branch

leaf_size : {X Y Z : Type 0} (leaf : Vec (Arc X Y) Z) → length leaf.items ≡ 64 → length (leaf_items leaf) ≡ 64
leaf_size leaf full = length-map leaf.items (λ a. a.value) ∙ full

more_items : {X Y Z V : Type 0} (leaves : List (Arc (Vec (Arc X Y) Z) V)) (tail : List (Arc X Y)) (leaf : Vec (Arc X Y) Z) (x : X) (new : List (Vec (Arc X Y) Z))
    → values leaf.items ≡ values tail ++ x ∷ [] → new ≡ values leaves ++ leaf ∷ [] → flat_map leaf_items new ≡ flat_map leaf_items (values leaves) ++ (values tail ++ x ∷ [])
more_items leaves tail leaf x new is more =
    ap (flat_map leaf_items) more ∙ flat_map-append leaf_items (values leaves) (leaf ∷ [])
    ∙ ap (λ l. flat_map leaf_items (values leaves) ++ l) (append-nil (leaf_items leaf) ∙ is)

still_within : {X : Type 0} (F L T N : List X) (x : X) → N ≡ F ++ (L ++ (T ++ x ∷ [])) → length (F ++ (L ++ T)) < 262144 → length N ≤ 262144
still_within F L T N x is room =
    let size = ap length is in
    let a = length-append F (L ++ (T ++ x ∷ [])) in
    let b = length-append L (T ++ x ∷ []) in
    let d = length-append T (x ∷ []) in
    let e = length-append F (L ++ T) in
    let f = length-append L T in
    omega (arith, size, a, b, d, e, f, room)

module _ {X Y Z V W A : Type 0} (branches : List (Arc (Vec (Arc (Vec (Arc X Y) Z) V) W) A)) (leaves : List (Arc (Vec (Arc X Y) Z) V)) (tail : List (Arc X Y)) (even : IsEven branches leaves tail)
    (room : length (items_of branches leaves tail) < 262144) (leaf : Vec (Arc X Y) Z) (x : X) (is : values leaf.items ≡ values tail ++ x ∷ []) where
  pub more_leaves : (new : List (Arc (Vec (Arc X Y) Z) V)) (none : List (Arc X Y))
      → length leaf.items ≡ 64 → values new ≡ values leaves ++ leaf ∷ [] → none ≡ [] → IsEven branches new none
  more_leaves new none full more no_tail = record {
    branches_full = even.branches_full;
    within = even.within;
    leaves_full = subst (AreEven 64 leaf_items) (sym more) (even_push 64 leaf_items (values leaves) leaf even.leaves_full (leaf_size leaf full));
    limit =
        still_within (flat_map branch_items (values branches)) (flat_map leaf_items (values leaves)) (values tail) (items_of branches new none) x
        (ap (λ l. flat_map branch_items (values branches) ++ (flat_map leaf_items (values new) ++ values l)) no_tail
        ∙ ap (λ l. flat_map branch_items (values branches) ++ l) (append-nil (flat_map leaf_items (values new)) ∙ more_items leaves tail leaf x (values new) is more)) room;
  }

  pub more_branches : (branch : Vec (Arc (Vec (Arc X Y) Z) V) W) (new : List (Arc (Vec (Arc (Vec (Arc X Y) Z) V) W) A)) (no_leaves : List (Arc (Vec (Arc X Y) Z) V)) (none : List (Arc X Y))
      → length leaf.items ≡ 64 → values branch.items ≡ values leaves ++ leaf ∷ [] → length branch.items ≡ 64 → values new ≡ values branches ++ branch ∷ [] → no_leaves ≡ [] → none ≡ []
      → IsEven new no_leaves none
  more_branches branch new no_leaves none full more wide longer no_more no_tail = record {
    branches_full = subst (AreEven 4096 branch_items) (sym longer) (even_push 4096 branch_items (values branches) branch even.branches_full size);
    within = subst (Each AreOfEvenLeaves) (sym longer) (each_push AreOfEvenLeaves (values branches) branch even.within leaves_even);
    leaves_full = subst (λ l. AreEven 64 leaf_items (values l)) (sym no_more) tt;
    limit =
        still_within (flat_map branch_items (values branches)) (flat_map leaf_items (values leaves)) (values tail) (items_of new no_leaves none) x
        (ap (λ l. flat_map branch_items (values new) ++ (flat_map leaf_items (values l) ++ values none)) no_more
        ∙ ap (λ l. flat_map branch_items (values new) ++ values l) no_tail
        ∙ append-nil (flat_map branch_items (values new)) ∙ ap (flat_map branch_items) longer
        ∙ flat_map-append branch_items (values branches) (branch ∷ [])
        ∙ ap (λ l. flat_map branch_items (values branches) ++ l) (append-nil (branch_items branch) ∙ more_items leaves tail leaf x (values branch.items) is more)) room;
  }
    where
      leaves_even : AreOfEvenLeaves branch
      leaves_even = subst (AreEven 64 leaf_items) (sym more) (even_push 64 leaf_items (values leaves) leaf even.leaves_full (leaf_size leaf full))

      size : length (branch_items branch) ≡ 4096
      size =
          let all = length_even 64 leaf_items (values branch.items) leaves_even in
          let same : length (values branch.items) ≡ length branch.items = length-map branch.items (λ a. a.value) in
          omega (arith, all, same, wide)

-- ---- another item at a place
