-- The place of a name among parts, and in one of them.
use Rattle.std.proofs.Common.{◌≡◌, ◌<◌, ◌≤◌, ◌+◌, ℕ, zero, suc, true, false, List, [], ◌∷◌, ◌++◌, take, drop, length, Option, Some, None, refl, sym, ap, subst}
use Rattle.std.proofs.{Common.{arith, ◌∙◌}, lemmas.Bool.false≢true, lemmas.List.{take-append-drop, nil_from_length}, lemmas.List.Edits.length-remove}
use Rattle.std.proofs.lemmas.Option.{none-some}
use Rattle.std.specs.{Prelude.{T, slice_get, slice_set, IsSomeAnd}, List.{AllByRecursion, insert, remove}, FinMap.Entries.{is_sorted, put, find}}
use Rattle.std.specs.{Ordering.is_lt, declared.cmp.Ordering.Ordering, declared.cmp.Ordering.TheVariants.{Less, Equal, Greater}, declared.sync.Arc.Arc}
use Rattle.std.specs.declared.vec.Vec.{Vec}
use Rattle.shared_map.specs.Entries.{by_bytes, values, part_entries, all_entries, AreParts, IsFilled, IsBetween, is_before, without}
use Rattle.shared_map.proofs.Ordered.{all_append, Above, Below, above, below, behind, sorted_left, sorted_right, find_past, find_front, find_at, find_none}
use Rattle.shared_map.proofs.{Ordered.{put_past, put_front, put_at, put_gap, keep_past, keep_front, gone, kept}, InParts.{suc_is, split_at, set_at, remove_is}}
use Rattle.shared_map.proofs.InParts.{two_at, entries_append, entries_around, entries_two, filled_set, filled_both, filled_less}
use Rattle.shared_map.proofs.{Copies.{values_set, values_insert}, Maps.{total, same_name, sorted_put, sorted_without, put_size}}

less : (r : Ordering) → is_lt r ≡ true → r ≡ Less
less Less h = refl
less Equal h = absurd (false≢true h)
less Greater h = absurd (false≢true h)

some_and : {X : Type 0} (o : Option X) (x : X) (P : X → Type 0) → o ≡ Some x → P x → IsSomeAnd o P
some_and o x P is h = subst (λ o. IsSomeAnd o P) (sym is) h

-- ---- among parts

at_or_behind : {X : Type 0} (name : List ℕ) (A P B : List (List ℕ × X)) → T (is_sorted by_bytes (A ++ (P ++ B))) → is_before name P ≡ false → Above by_bytes total name A
at_or_behind name A [] B h at = absurd (false≢true (sym at))
at_or_behind name A (e ∷ P) B h at = above by_bytes total name A e (P ++ B) h at

before_all : {X : Type 0} (name : List ℕ) (A P B : List (List ℕ × X)) → T (is_sorted by_bytes (A ++ (P ++ B))) → 0 < length P → is_before name P ≡ true → Below by_bytes total name (P ++ B)
before_all name A [] B h some at = absurd (omega (arith, some))
before_all name A (e ∷ P) B h some at = below by_bytes total name e (P ++ B) (sorted_right by_bytes total A (e ∷ (P ++ B)) h) (less (by_bytes name e.0) at)

pub filled_at : {X Y Z V : Type 0} (parts : List (Arc (Vec (Arc X Y) Z) V)) (i : ℕ) (a : Arc (Vec (Arc X Y) Z) V) → slice_get parts i ≡ Some a
    → AllByRecursion IsFilled (values parts) → IsFilled a.value
filled_at [] i a is h = absurd (none-some a is)
filled_at {X = X} {Y = Y} {Z = Z} {V = V} (p ∷ parts) zero a is h = subst of is h.0
  where
    of : Option (Arc (Vec (Arc X Y) Z) V) → Type 0
    of None = Unit {0}
    of (Some q) = IsFilled q.value
filled_at (p ∷ parts) (suc i) a is h = filled_at parts i a is h.1

next : (i : ℕ) → suc (i + 1) ≡ suc i + 1
next i = omega arith

drop_at : {X : Type 0} (xs : List X) (i : ℕ) (x : X) → slice_get xs i ≡ Some x → drop i xs ≡ x ∷ drop (i + 1) xs
drop_at [] i x is = absurd (none-some x is)
drop_at (y ∷ xs) zero x is = ap (λ o. head y o ∷ xs) is
  where
    head : {X : Type 0} → X → Option X → X
    head d None = d
    head d (Some z) = z
drop_at (y ∷ xs) (suc i) x is = drop_at xs i x is ∙ ap (λ l. x ∷ l) (ap (λ n. drop n (y ∷ xs)) (next i))

take_at : {X : Type 0} (xs : List X) (i : ℕ) (x : X) → slice_get xs i ≡ Some x → take (i + 1) xs ≡ take i xs ++ x ∷ []
take_at {X} xs i x is = ap (λ n. take n xs) (sym (suc_is i)) ∙ by xs i is
  where
    head : {X : Type 0} → X → Option X → X
    head d None = d
    head d (Some z) = z

    by : (ys : List X) (k : ℕ) → slice_get ys k ≡ Some x → take (suc k) ys ≡ take k ys ++ x ∷ []
    by [] k e = absurd (none-some x e)
    by (y ∷ ys) zero e = ap (λ o. head y o ∷ []) e
    by (y ∷ ys) (suc k) e = ap (λ l. y ∷ l) (by ys k e)

module _ {X Y Z V : Type 0} (parts : List (Arc (Vec (Arc (List ℕ × X) Y) Z) V)) (are : AreParts parts) (name : List ℕ) (i : ℕ) (a : Arc (Vec (Arc (List ℕ × X) Y) Z) V) (is : slice_get parts i ≡ Some a) where
  around : all_entries parts ≡ all_entries (take i parts) ++ (part_entries a.value ++ all_entries (drop (i + 1) parts))
  around = entries_around parts (take i parts) (drop (i + 1) parts) a (split_at parts i a is)

  in_order : T (is_sorted by_bytes (all_entries (take i parts) ++ (part_entries a.value ++ all_entries (drop (i + 1) parts))))
  in_order = subst (λ es. T (is_sorted by_bytes es)) around are.sorted

  pub home_low : is_before name (part_entries a.value) ≡ false → Above by_bytes total name (all_entries (take i parts))
  home_low at = at_or_behind name (all_entries (take i parts)) (part_entries a.value) (all_entries (drop (i + 1) parts)) in_order at

  pub home_high : is_before name (part_entries a.value) ≡ true → Below by_bytes total name (all_entries (drop i parts))
  home_high at =
      subst (Below by_bytes total name) (sym (ap all_entries (drop_at parts i a is)))
      (before_all name (all_entries (take i parts)) (part_entries a.value) (all_entries (drop (i + 1) parts)) in_order (filled_at parts i a is are.filled).0 at)

  pub part_sorted : T (is_sorted by_bytes (part_entries a.value))
  part_sorted = sorted_left by_bytes total (part_entries a.value) (all_entries (drop (i + 1) parts)) (sorted_right by_bytes total (all_entries (take i parts)) _ in_order)

  pub found_in : IsBetween name (all_entries (take i parts)) (all_entries (drop (i + 1) parts)) → find by_bytes name (part_entries a.value) ≡ find by_bytes name (all_entries parts)
  found_in between =
      sym (ap (find by_bytes name) around ∙ find_past by_bytes total name (all_entries (take i parts)) _ between.above
      ∙ find_front by_bytes total name (part_entries a.value) (all_entries (drop (i + 1) parts)) between.below)

  pub put_in_parts : (v : X) (b : Arc (Vec (Arc (List ℕ × X) Y) Z) V) → IsBetween name (all_entries (take i parts)) (all_entries (drop (i + 1) parts))
      → part_entries b.value ≡ put by_bytes name v (part_entries a.value) → all_entries (slice_set parts i b) ≡ put by_bytes name v (all_entries parts)
  put_in_parts v b between new =
      entries_around (slice_set parts i b) (take i parts) (drop (i + 1) parts) b (set_at parts i a b is)
      ∙ ap (λ es. all_entries (take i parts) ++ (es ++ all_entries (drop (i + 1) parts))) new
      ∙ sym (ap (put by_bytes name v) around ∙ put_past by_bytes total name v (all_entries (take i parts)) _ between.above
      ∙ ap (λ l. all_entries (take i parts) ++ l) (put_front by_bytes total name v (part_entries a.value) (all_entries (drop (i + 1) parts)) between.below))

  pub same_in_parts : (b : Arc (Vec (Arc (List ℕ × X) Y) Z) V) → part_entries b.value ≡ part_entries a.value → all_entries (slice_set parts i b) ≡ all_entries parts
  same_in_parts b new =
      entries_around (slice_set parts i b) (take i parts) (drop (i + 1) parts) b (set_at parts i a b is)
      ∙ ap (λ es. all_entries (take i parts) ++ (es ++ all_entries (drop (i + 1) parts))) new ∙ sym around

  pub without_in_parts : (b : Arc (Vec (Arc (List ℕ × X) Y) Z) V) → IsBetween name (all_entries (take i parts)) (all_entries (drop (i + 1) parts))
      → part_entries b.value ≡ without name (part_entries a.value) → all_entries (slice_set parts i b) ≡ without name (all_entries parts)
  without_in_parts b between new =
      entries_around (slice_set parts i b) (take i parts) (drop (i + 1) parts) b (set_at parts i a b is)
      ∙ ap (λ es. all_entries (take i parts) ++ (es ++ all_entries (drop (i + 1) parts))) new ∙ sym whole
    where
      whole : without name (all_entries parts) ≡ all_entries (take i parts) ++ (without name (part_entries a.value) ++ all_entries (drop (i + 1) parts))
      whole = ap (without name) around ∙ keep_past by_bytes total name (all_entries (take i parts)) _ between.above
          ∙ ap (λ l. all_entries (take i parts) ++ l) (keep_front by_bytes total name (part_entries a.value) (all_entries (drop (i + 1) parts)) between.below)

  pub part_gone : IsBetween name (all_entries (take i parts)) (all_entries (drop (i + 1) parts)) → without name (part_entries a.value) ≡ []
      → all_entries (remove parts i) ≡ without name (all_entries parts)
  part_gone between none =
      ap all_entries (remove_is parts i) ∙ entries_append (take i parts) (drop (i + 1) parts)
      ∙ ap (λ es. all_entries (take i parts) ++ (es ++ all_entries (drop (i + 1) parts))) (sym none)
      ∙ sym (ap (without name) around ∙ keep_past by_bytes total name (all_entries (take i parts)) _ between.above
      ∙ ap (λ l. all_entries (take i parts) ++ l) (keep_front by_bytes total name (part_entries a.value) (all_entries (drop (i + 1) parts)) between.below))

  pub not_there : IsBetween name (all_entries (take i parts)) (all_entries (drop (i + 1) parts)) → without name (part_entries a.value) ≡ part_entries a.value
      → all_entries parts ≡ without name (all_entries parts)
  not_there between same =
      around ∙ ap (λ es. all_entries (take i parts) ++ (es ++ all_entries (drop (i + 1) parts))) (sym same)
      ∙ sym (ap (without name) around ∙ keep_past by_bytes total name (all_entries (take i parts)) _ between.above
      ∙ ap (λ l. all_entries (take i parts) ++ l) (keep_front by_bytes total name (part_entries a.value) (all_entries (drop (i + 1) parts)) between.below))

-- ---- in a part

module _ {X : Type 0} (es : List (List ℕ × X)) (sorted : T (is_sorted by_bytes es)) (name : List ℕ) (i : ℕ) (e : List ℕ × X) (is : slice_get es i ≡ Some e) where
  halved : T (is_sorted by_bytes (take i es ++ e ∷ drop (i + 1) es))
  halved = subst (λ l. T (is_sorted by_bytes l)) (split_at es i e is) sorted

  pub above_at : is_lt (by_bytes name e.0) ≡ false → Above by_bytes total name (take i es)
  above_at at = above by_bytes total name (take i es) e (drop (i + 1) es) halved at

  pub past : by_bytes name e.0 ≡ Greater → Above by_bytes total name (take (i + 1) es)
  past at = subst (Above by_bytes total name) (sym (take_at es i e is))
      (all_append (λ d. by_bytes name d.0 ≡ Greater) (take i es) (e ∷ []) (above_at (ap is_lt at)) (at, tt))

  pub not_yet : by_bytes name e.0 ≡ Less → Below by_bytes total name (drop i es)
  not_yet at = subst (Below by_bytes total name) (sym (drop_at es i e is))
      (below by_bytes total name e (drop (i + 1) es) (sorted_right by_bytes total (take i es) _ halved) at)

  pub here : by_bytes name e.0 ≡ Equal → IsBetween name (take i es) (drop (i + 1) es)
  here at = record {
    above = above_at (ap is_lt at);
    below = behind by_bytes total name e (drop (i + 1) es) (sorted_right by_bytes total (take i es) _ halved) at;
  }

module _ {X : Type 0} where
  put_over : (es : List (List ℕ × X)) (name : List ℕ) (v : X) (i : ℕ) → IsSomeAnd (slice_get es i) (λ e. by_bytes name e.0 ≡ Equal) → IsBetween name (take i es) (drop (i + 1) es)
      → slice_set es i (name, v) ≡ put by_bytes name v es
  put_over es name v i at between = by (slice_get es i) refl at
    where
      by : (o : Option (List ℕ × X)) → slice_get es i ≡ o → IsSomeAnd o (λ e. by_bytes name e.0 ≡ Equal) → slice_set es i (name, v) ≡ put by_bytes name v es
      by None is h = absurd h
      by (Some e) is h =
          set_at es i e (name, v) is
          ∙ sym (ap (put by_bytes name v) (split_at es i e is) ∙ put_at by_bytes total name v (take i es) e (drop (i + 1) es) between.above h (sym (same_name name e.0 h)))

  put_between : (es : List (List ℕ × X)) (name : List ℕ) (v : X) (i : ℕ) → IsBetween name (take i es) (drop i es) → take i es ++ (name, v) ∷ drop i es ≡ put by_bytes name v es
  put_between es name v i between =
      sym (ap (put by_bytes name v) (sym (take-append-drop i es)) ∙ put_gap by_bytes total name v (take i es) (drop i es) between.above between.below)

  pub put_found : {Y : Type 0} (items xs : List (Arc (List ℕ × X) Y)) (i : ℕ) (x : Arc (List ℕ × X) Y) (k : List ℕ × X) → xs ≡ items → k ≡ x.value
      → IsSomeAnd (slice_get (values xs) i) (λ e. by_bytes k.0 e.0 ≡ Equal) → IsBetween k.0 (take i (values xs)) (drop (i + 1) (values xs))
      → values (slice_set items i x) ≡ put by_bytes x.value.0 x.value.1 (values items)
  put_found items xs i x k same key at between =
      values_set i items x
      ∙ put_over (values items) x.value.0 x.value.1 i
      (subst (λ n. IsSomeAnd (slice_get (values items) i) (λ e. by_bytes n.0 e.0 ≡ Equal)) key (subst (λ l. IsSomeAnd (slice_get (values l) i) (λ e. by_bytes k.0 e.0 ≡ Equal)) same at))
      (subst (λ n. IsBetween n.0 (take i (values items)) (drop (i + 1) (values items))) key (subst (λ l. IsBetween k.0 (take i (values l)) (drop (i + 1) (values l))) same between))

  pub put_new : {Y : Type 0} (items xs : List (Arc (List ℕ × X) Y)) (i : ℕ) (x : Arc (List ℕ × X) Y) (k : List ℕ × X) → xs ≡ items → k ≡ x.value
      → IsBetween k.0 (take i (values xs)) (drop i (values xs)) → values (insert items i x) ≡ put by_bytes x.value.0 x.value.1 (values items)
  put_new items xs i x k same key between =
      values_insert i items x
      ∙ put_between (values items) x.value.0 x.value.1 i
      (subst (λ n. IsBetween n.0 (take i (values items)) (drop i (values items))) key (subst (λ l. IsBetween k.0 (take i (values l)) (drop i (values l))) same between))

-- ---- parts that hold another entry

module _ {X Y Z V : Type 0} (parts : List (Arc (Vec (Arc (List ℕ × X) Y) Z) V)) (are : AreParts parts) (name : List ℕ) (v : X) (i : ℕ) (a : Arc (Vec (Arc (List ℕ × X) Y) Z) V) (is : slice_get parts i ≡ Some a)
    (between : IsBetween name (all_entries (take i parts)) (all_entries (drop (i + 1) parts))) where
  pub put_in_both : (b d : Arc (Vec (Arc (List ℕ × X) Y) Z) V) → part_entries b.value ++ part_entries d.value ≡ put by_bytes name v (part_entries a.value)
      → all_entries (slice_set (insert parts (i + 1) d) i b) ≡ put by_bytes name v (all_entries parts)
  put_in_both b d both =
      entries_two (slice_set (insert parts (i + 1) d) i b) (take i parts) (drop (i + 1) parts) b d (put by_bytes name v (part_entries a.value)) (two_at parts i a b d is) both
      ∙ sym (ap (put by_bytes name v) (entries_around parts (take i parts) (drop (i + 1) parts) a (split_at parts i a is))
      ∙ put_past by_bytes total name v (all_entries (take i parts)) _ between.above
      ∙ ap (λ l. all_entries (take i parts) ++ l) (put_front by_bytes total name v (part_entries a.value) (all_entries (drop (i + 1) parts)) between.below))

  pub are_put : (b : Arc (Vec (Arc (List ℕ × X) Y) Z) V) → length (part_entries a.value) < 128 → part_entries b.value ≡ put by_bytes name v (part_entries a.value) → AreParts (slice_set parts i b)
  are_put b room new = record {
    sorted = subst (λ es. T (is_sorted by_bytes es)) (sym (put_in_parts parts are name i a is v b between new)) (sorted_put name v (all_entries parts) are.sorted);
    filled = filled_set parts i b are.filled fits;
  }
    where
      fits : IsFilled b.value
      fits =
          let size = put_size name v (part_entries a.value) (part_sorted parts are name i a is) in
          let old = filled_at parts i a is are.filled in
          let same = ap length new in
          (omega (arith, size.0, size.1, old.0, same), omega (arith, size.0, size.1, room, same))

  pub are_both : (b d : Arc (Vec (Arc (List ℕ × X) Y) Z) V) → IsFilled b.value × IsFilled d.value → part_entries b.value ++ part_entries d.value ≡ put by_bytes name v (part_entries a.value)
      → AreParts (slice_set (insert parts (i + 1) d) i b)
  are_both b d fits both = record {
    sorted = subst (λ es. T (is_sorted by_bytes es)) (sym (put_in_both b d both)) (sorted_put name v (all_entries parts) are.sorted);
    filled = filled_both parts i a b d is are.filled fits.0 fits.1;
  }

  pub are_same : (b : Arc (Vec (Arc (List ℕ × X) Y) Z) V) → part_entries b.value ≡ part_entries a.value → AreParts (slice_set parts i b)
  are_same b same = record {
    sorted = subst (λ es. T (is_sorted by_bytes es)) (sym (same_in_parts parts are name i a is b same)) are.sorted;
    filled = filled_set parts i b are.filled
        (subst (λ n. (0 < n) × (n ≤ 128)) (sym (ap length same)) (filled_at parts i a is are.filled));
  }

-- ---- parts that hold one entry less

-- a name that is not there
pub none_there : {X : Type 0} (es : List (List ℕ × X)) (name : List ℕ) (i : ℕ) → IsBetween name (take i es) (drop i es) → without name es ≡ es
none_there es name i between =
    ap (without name) (sym (take-append-drop i es)) ∙ kept by_bytes total name (take i es) (drop i es) between.above between.below ∙ take-append-drop i es

pub none_found : {X : Type 0} (es : List (List ℕ × X)) (name : List ℕ) (i : ℕ) → IsBetween name (take i es) (drop i es) → find by_bytes name es ≡ None
none_found es name i between =
    ap (find by_bytes name) (sym (take-append-drop i es)) ∙ find_past by_bytes total name (take i es) (drop i es) between.above ∙ find_none by_bytes total name (drop i es) between.below

pub one_found : {X : Type 0} (es : List (List ℕ × X)) (name : List ℕ) (i : ℕ) (e : List ℕ × X) → slice_get es i ≡ Some e → by_bytes name e.0 ≡ Equal
    → IsBetween name (take i es) (drop (i + 1) es) → find by_bytes name es ≡ Some e.1
one_found es name i e is at between = ap (find by_bytes name) (split_at es i e is) ∙ find_at by_bytes total name (take i es) e (drop (i + 1) es) between.above at

-- a name that is there
pub one_gone : {X : Type 0} (es : List (List ℕ × X)) (name : List ℕ) (i : ℕ) → IsSomeAnd (slice_get es i) (λ e. by_bytes name e.0 ≡ Equal)
    → IsBetween name (take i es) (drop (i + 1) es) → without name es ≡ remove es i
one_gone {X} es name i at between = by (slice_get es i) refl at
  where
    by : (o : Option (List ℕ × X)) → slice_get es i ≡ o → IsSomeAnd o (λ e. by_bytes name e.0 ≡ Equal) → without name es ≡ remove es i
    by None is h = absurd h
    by (Some e) is h =
        ap (without name) (split_at es i e is) ∙ gone by_bytes total name (take i es) e (drop (i + 1) es) between.above h between.below ∙ sym (remove_is es i)

pub last_gone : {X : Type 0} (es : List X) (i : ℕ) → i < length es → length es ≡ 1 → remove es i ≡ []
last_gone es i inside one = let size = length-remove es i inside in nil_from_length (remove es i) (omega (arith, size, one))

module _ {X Y Z V : Type 0} (parts : List (Arc (Vec (Arc (List ℕ × X) Y) Z) V)) (are : AreParts parts) (name : List ℕ) (i : ℕ) (a : Arc (Vec (Arc (List ℕ × X) Y) Z) V) (is : slice_get parts i ≡ Some a) where
  pub are_kept : (b : Arc (Vec (Arc (List ℕ × X) Y) Z) V) → part_entries b.value ≡ part_entries a.value → AreParts (slice_set parts i b)
  are_kept b same = record {
    sorted = subst (λ es. T (is_sorted by_bytes es)) (sym (same_in_parts parts are name i a is b same)) are.sorted;
    filled = filled_set parts i b are.filled
        (subst (λ n. (0 < n) × (n ≤ 128)) (sym (ap length same)) (filled_at parts i a is are.filled));
  }

  pub are_fewer : IsBetween name (all_entries (take i parts)) (all_entries (drop (i + 1) parts)) → without name (part_entries a.value) ≡ [] → AreParts (remove parts i)
  are_fewer between none = record {
    sorted = subst (λ es. T (is_sorted by_bytes es)) (sym (part_gone parts are name i a is between none)) (sorted_without name (all_entries parts) are.sorted);
    filled = filled_less parts i are.filled;
  }

  pub are_without : (b : Arc (Vec (Arc (List ℕ × X) Y) Z) V) (at : ℕ) → IsBetween name (all_entries (take i parts)) (all_entries (drop (i + 1) parts))
      → part_entries b.value ≡ without name (part_entries a.value) → without name (part_entries a.value) ≡ remove (part_entries a.value) at
      → at < length (part_entries a.value) → 1 < length (part_entries a.value) → AreParts (slice_set parts i b)
  are_without b at between new less inside more = record {
    sorted = subst (λ es. T (is_sorted by_bytes es)) (sym (without_in_parts parts are name i a is b between new)) (sorted_without name (all_entries parts) are.sorted);
    filled = filled_set parts i b are.filled fits;
  }
    where
      fits : IsFilled b.value
      fits =
          let size = length-remove (part_entries a.value) at inside in
          let old = filled_at parts i a is are.filled in
          let same = ap length (new ∙ less) in
          (omega (arith, size, more, same), omega (arith, size, old.1, same))
