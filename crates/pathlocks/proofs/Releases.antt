-- A release, pair by pair.
use Rattle.std.proofs.Common.{arith, zero, suc, ◌+◌, ◌-◌, length, ◌≡◌, ℕ, Bool, true, false, cond, not, ◌&&◌, ◌||◌, List, [], ◌∷◌, ◌++◌, Option, Some, None}
use Rattle.std.proofs.{Common.{subst, refl, sym, ap, ◌∙◌}, lemmas.Bool.false≢true, lemmas.List.length_push, lemmas.List.Folds.list_any-append}
use Rattle.std.specs.{Cmp.eq_by_cmp_equiv, FinMap.{len, len-remove, empty_of_len, empty, get, insert, remove, retain_keys, from_entries, get-empty, get-insert}}
use Rattle.std.specs.{FinMap.{get-remove, get-retain_keys, get-from_entries, same_map, from_entries_push}, List.list_any, Ordering.eq_by_cmp, Option.unwrap_or}
use Rattle.std.specs.Prelude.{is_some, option_map}
use Rattle.svnpath.specs.{PathLaws.{at_is_same, same_path_is, same_path_refl}, Paths.{path_cmp, path_cmp-IsAntisymmetric, path_cmp_total, PathValue, same_path}}
use Rattle.repo_api.specs.{Locking.{after_release, HandedTokens, is_held, is_released, LockList, released, releases}, States.LockMap, declared.lock.Lock.Lock}

or_false : (b : Bool) → (b || false) ≡ b
or_false true = refl
or_false false = refl

pub at_same : (q p : PathValue) → eq_by_cmp path_cmp q p ≡ same_path p q
at_same q p = (eq_by_cmp_equiv path_cmp_total).symm q p ∙ at_is_same p q

get_kept : (locks : LockMap) (f : PathValue → Bool) (q : PathValue) → get (retain_keys locks f) q ≡ cond (f q) (get locks q) None
get_kept locks f q = get-retain_keys locks f q (λ x tie. ap f (sym (path_cmp-IsAntisymmetric q x tie)))

module _ (user : Option (List ℕ)) (old : LockMap) where
  one_more : (ts : HandedTokens) (t : PathValue × List ℕ) (q : PathValue)
      → is_released user (ts ++ t ∷ []) old q ≡ (is_released user ts old q || (same_path t.0 q && is_held user t.1 (get old q)))
  one_more ts t q =
      list_any-append (λ t. same_path t.0 q && is_held user t.1 (get old q)) ts (t ∷ [])
      ∙ ap (λ b. is_released user ts old q || b) (or_false (same_path t.0 q && is_held user t.1 (get old q)))

  -- what no pair names is not released
  pub not_named : (o : Option Lock) (q : PathValue) (ts : HandedTokens) → list_any (λ t. same_path t.0 q) ts ≡ false → list_any (λ t. same_path t.0 q && is_held user t.1 o) ts ≡ false
  not_named o q [] h = refl
  not_named o q (t ∷ ts) h = by (same_path t.0 q) h (not_named o q ts)
    where
      by : (b : Bool) → (b || list_any (λ t. same_path t.0 q) ts) ≡ false → (list_any (λ t. same_path t.0 q) ts ≡ false → list_any (λ t. same_path t.0 q && is_held user t.1 o) ts ≡ false)
          → ((b && is_held user t.1 o) || list_any (λ t. same_path t.0 q && is_held user t.1 o) ts) ≡ false
      by true h rest = absurd (false≢true (sym h))
      by false h rest = rest h

  -- what is left after the pairs so far
  pub left_at : (ts : HandedTokens) (q : PathValue) → get (after_release user ts old) q ≡ cond (not (is_released user ts old q)) (get old q) None
  left_at ts q = get_kept old (λ p. not (is_released user ts old p)) q

  none_gone : (r : Bool) (o : Option Lock) → cond r o None ≡ None → cond (not r) o None ≡ o
  none_gone true o h = sym h
  none_gone false o h = refl

  -- where nothing is taken all is left
  pub all_left : (ts : HandedTokens) → released user ts old ≡ empty → after_release user ts old ≡ old
  all_left ts none =
      same_map path_cmp_total path_cmp-IsAntisymmetric (after_release user ts old) old
      (λ q. left_at ts q
      ∙ none_gone (is_released user ts old q) (get old q)
      (sym (get_kept old (is_released user ts old) q) ∙ ap (λ (k : LockMap). get k q) none ∙ get-empty path_cmp q))

  -- where no pair's lock is held none is released
  not_held : (q : PathValue) (ts : HandedTokens) → releases user ts old ≡ false → is_released user ts old q ≡ false
  not_held q [] h = refl
  not_held q (t ∷ ts) h = by (same_path t.0 q) refl (is_held user t.1 (get old t.0)) refl h (not_held q ts)
    where
      by : (b : Bool) → same_path t.0 q ≡ b → (x : Bool) → is_held user t.1 (get old t.0) ≡ x → (x || releases user ts old) ≡ false
          → (releases user ts old ≡ false → is_released user ts old q ≡ false)
          → ((b && is_held user t.1 (get old q)) || is_released user ts old q) ≡ false
      by b same true held h rest = absurd (false≢true (sym h))
      by true same false held h rest =
          ap (λ x. x || is_released user ts old q) ((λ i. is_held user t.1 (get old (sym (same_path_is t.0 q same) i))) ∙ held) ∙ rest h
      by false same false held h rest = rest h

  pub none_left_out : (ts : HandedTokens) → releases user ts old ≡ false → after_release user ts old ≡ old
  none_left_out ts none =
      same_map path_cmp_total path_cmp-IsAntisymmetric (after_release user ts old) old
      (λ q. left_at ts q ∙ ap (λ b. cond (not b) (get old q) None) (not_held q ts none))

  -- ---- a pair whose lock stands and is held

  gone : (token : List ℕ) (r : Bool) (o : Option Lock) → is_held user token (cond (not r) o None) ≡ true → None ≡ cond (not (r || is_held user token o)) o None
  gone token true o h = refl
  gone token false o h = ap (λ b. cond (not b) o None) (sym h)

  came : (token : List ℕ) (r : Bool) (o : Option Lock) (l : Lock) → cond (not r) o None ≡ Some l → is_held user token (cond (not r) o None) ≡ true → Some l ≡ cond (r || is_held user token o) o None
  came token true o l is h = absurd (false≢true h)
  came token false o l is h = sym is ∙ ap (λ b. cond b o None) (sym h)

  not_yet : (token : List ℕ) (r : Bool) (o : Option Lock) → is_held user token (cond (not r) o None) ≡ true → cond r o None ≡ None
  not_yet token true o h = absurd (false≢true h)
  not_yet token false o h = refl

  held_at : (ts : HandedTokens) (t : PathValue × List ℕ) (m : LockMap) → m ≡ after_release user ts old → is_held user t.1 (get m t.0) ≡ true
      → (q : PathValue) → same_path t.0 q ≡ true → is_held user t.1 (cond (not (is_released user ts old q)) (get old q) None) ≡ true
  held_at ts t m is held q same =
      ap (is_held user t.1) (sym (left_at ts q) ∙ (λ i. get (sym is i) (sym (same_path_is t.0 q same) i))) ∙ held

  left_hit : (ts : HandedTokens) (t : PathValue × List ℕ) (m : LockMap) → m ≡ after_release user ts old → is_held user t.1 (get m t.0) ≡ true
      → remove m t.0 ≡ after_release user (ts ++ t ∷ []) old
  left_hit ts t m is held =
      same_map path_cmp_total path_cmp-IsAntisymmetric (remove m t.0) (after_release user (ts ++ t ∷ []) old)
      (λ q. get-remove path_cmp_total m t.0 q
      ∙ (λ i. cond (at_same q t.0 i) None (get (is i) q))
      ∙ ap (λ o. cond (same_path t.0 q) None o) (left_at ts q)
      ∙ by q (same_path t.0 q) refl
      ∙ ap (λ b. cond (not b) (get old q) None) (sym (one_more ts t q))
      ∙ sym (left_at (ts ++ t ∷ []) q))
    where
      by : (q : PathValue) (b : Bool) → same_path t.0 q ≡ b
          → cond b None (cond (not (is_released user ts old q)) (get old q) None)
          ≡ cond (not (is_released user ts old q || (b && is_held user t.1 (get old q)))) (get old q) None
      by q true same = gone t.1 (is_released user ts old q) (get old q) (held_at ts t m is held q same)
      by q false same = ap (λ b. cond (not b) (get old q) None) (sym (or_false (is_released user ts old q)))

  taken_hit : (ts : HandedTokens) (t : PathValue × List ℕ) (m : LockMap) (l : Lock) (xs : LockList) → m ≡ after_release user ts old → is_held user t.1 (get m t.0) ≡ true
      → get m t.0 ≡ Some l → from_entries xs ≡ released user ts old → from_entries (xs ++ (t.0, l) ∷ []) ≡ released user (ts ++ t ∷ []) old
  taken_hit ts t m l xs is held at so =
      from_entries_push path_cmp_total path_cmp-IsAntisymmetric xs t.0 l
      (sym (get-from_entries path_cmp_total xs t.0) ∙ ap (λ (k : LockMap). get k t.0) so ∙ get_kept old (is_released user ts old) t.0
      ∙ not_yet t.1 (is_released user ts old t.0) (get old t.0) (held_at ts t m is held t.0 (same_path_refl t.0)))
      ∙ ap (λ (k : LockMap). insert k t.0 l) so
      ∙ same_map path_cmp_total path_cmp-IsAntisymmetric (insert (released user ts old) t.0 l) (released user (ts ++ t ∷ []) old)
      (λ q. get-insert path_cmp_total (released user ts old) t.0 l q
      ∙ (λ i. cond (at_same q t.0 i) (Some l) (get_kept old (is_released user ts old) q i))
      ∙ by q (same_path t.0 q) refl
      ∙ ap (λ b. cond b (get old q) None) (sym (one_more ts t q))
      ∙ sym (get_kept old (is_released user (ts ++ t ∷ []) old) q))
    where
      by : (q : PathValue) (b : Bool) → same_path t.0 q ≡ b
          → cond b (Some l) (cond (is_released user ts old q) (get old q) None)
          ≡ cond (is_released user ts old q || (b && is_held user t.1 (get old q))) (get old q) None
      by q true same =
          came t.1 (is_released user ts old q) (get old q) l
          (sym (left_at ts q) ∙ (λ i. get (sym is i) (sym (same_path_is t.0 q same) i)) ∙ at) (held_at ts t m is held q same)
      by q false same = ap (λ b. cond b (get old q) None) (sym (or_false (is_released user ts old q)))

  -- ---- a pair that is of no such lock

  or_not : (token : List ℕ) (r : Bool) (o : Option Lock) → is_held user token (cond (not r) o None) ≡ false → (r || is_held user token o) ≡ r
  or_not token true o h = refl
  or_not token false o h = h

  same_released : (ts : HandedTokens) (t : PathValue × List ℕ) (m : LockMap) → m ≡ after_release user ts old → is_held user t.1 (get m t.0) ≡ false
      → (q : PathValue) → is_released user ts old q ≡ is_released user (ts ++ t ∷ []) old q
  same_released ts t m is held q = sym (one_more ts t q ∙ by (same_path t.0 q) refl)
    where
      by : (b : Bool) → same_path t.0 q ≡ b → (is_released user ts old q || (b && is_held user t.1 (get old q))) ≡ is_released user ts old q
      by true same =
          or_not t.1 (is_released user ts old q) (get old q)
          (ap (is_held user t.1) (sym (left_at ts q) ∙ (λ i. get (sym is i) (sym (same_path_is t.0 q same) i))) ∙ held)
      by false same = or_false (is_released user ts old q)

  left_miss : (ts : HandedTokens) (t : PathValue × List ℕ) (m : LockMap) → m ≡ after_release user ts old → is_held user t.1 (get m t.0) ≡ false
      → m ≡ after_release user (ts ++ t ∷ []) old
  left_miss ts t m is held = is ∙ ap (retain_keys old) (λ i p. not (same_released ts t m is held p i))

  taken_miss : (ts : HandedTokens) (t : PathValue × List ℕ) (m : LockMap) (k : LockMap) → m ≡ after_release user ts old → is_held user t.1 (get m t.0) ≡ false
      → k ≡ released user ts old → k ≡ released user (ts ++ t ∷ []) old
  taken_miss ts t m k is held so = so ∙ ap (retain_keys old) (λ i p. same_released ts t m is held p i)

  -- ---- all that a release keeps as it goes

  -- these locks are left, and these were taken, after the pairs so far
  abbrev pub Releases : HandedTokens → LockMap → LockList → Type 0
  Releases ts m xs = (m ≡ after_release user ts old) × (from_entries xs ≡ released user ts old) × (length xs + len m ≡ len old)

  pub same_releases : {ts ts' : HandedTokens} {m m' : LockMap} {xs xs' : LockList} → ts ≡ ts' → m ≡ m' → xs ≡ xs' → Releases ts m xs → Releases ts' m' xs'
  same_releases p q r so = subst (λ X. X) (λ i. Releases (p i) (q i) (r i)) so

  pub begins : Releases [] old []
  begins = (
    same_map path_cmp_total path_cmp-IsAntisymmetric old (after_release user [] old) (λ q. sym (left_at [] q)),
    same_map path_cmp_total path_cmp-IsAntisymmetric (from_entries []) (released user [] old)
        (λ q. get-empty path_cmp q ∙ sym (get_kept old (is_released user [] old) q)),
    omega arith,
  )

  entry_is : (o : Option Lock) (p : PathValue) (e : PathValue × Lock) → option_map (λ l. (p, l)) o ≡ Some e → (l : Lock) × (o ≡ Some l) × (e ≡ (p, l))
  entry_is None p e h = absurd (false≢true (ap is_some h))
  entry_is (Some l) p e h = (l, refl, ap (λ o. unwrap_or o e) (sym h))

  none_there : (o : Option Lock) (p : PathValue) → option_map {U = PathValue × Lock} (λ l. (p, l)) o ≡ None → o ≡ None
  none_there None p h = refl
  none_there (Some l) p h = absurd (false≢true (ap is_some (sym h)))

  -- a lock that stands is one of them
  one_less : (m : LockMap) (p : PathValue) (l : Lock) → get m p ≡ Some l → len (remove m p) + 1 ≡ len m
  one_less m p l at = ap (λ n. n + 1) (len-remove path_cmp_total m p ∙ ap (λ o. cond (is_some o) (len m - 1) (len m)) at) ∙ by (len m) refl
    where
      by : (n : ℕ) → len m ≡ n → n - 1 + 1 ≡ n
      by zero none =
          absurd (false≢true (ap is_some (sym (get-empty path_cmp p) ∙ ap (λ (k : LockMap). get k p) (sym (empty_of_len m none)) ∙ at)))
      by (suc n) some = omega arith

  counted : (xs : LockList) (e : PathValue × Lock) (m n k : ℕ) → length xs + m ≡ k → n + 1 ≡ m → length (xs ++ e ∷ []) + n ≡ k
  counted xs e m n k so less = let more = length_push xs e in omega arith

  pub hit : (ts : HandedTokens) (t : PathValue × List ℕ) (m : LockMap) (xs : LockList) (e : PathValue × Lock) → Releases ts m xs → is_held user t.1 (get m t.0) ≡ true
      → option_map (λ l. (t.0, l)) (get m t.0) ≡ Some e → Releases (ts ++ t ∷ []) (remove m t.0) (xs ++ e ∷ [])
  hit ts t m xs e so held at =
      let found = entry_is (get m t.0) t.0 e at in (
        left_hit ts t m so.0 held,
        ap (λ x. from_entries (xs ++ x ∷ [])) found.2 ∙ taken_hit ts t m found.0 xs so.0 held found.1 so.1,
        counted xs e (len m) (len (remove m t.0)) (len old) so.2 (one_less m t.0 found.0 found.1),
      )

  pub miss : (ts : HandedTokens) (t : PathValue × List ℕ) (m : LockMap) (xs : LockList) → Releases ts m xs → is_held user t.1 (get m t.0) ≡ false
      → Releases (ts ++ t ∷ []) m xs
  miss ts t m xs so held = (left_miss ts t m so.0 held, taken_miss ts t m (from_entries xs) so.0 held so.1, so.2)

  -- what is held is there
  pub is_there : (t : PathValue × List ℕ) (m : LockMap) → is_held user t.1 (get m t.0) ≡ true → option_map {U = PathValue × Lock} (λ l. (t.0, l)) (get m t.0) ≡ None → ⊥
  is_there t m held none = false≢true (ap (is_held user t.1) (sym (none_there (get m t.0) t.0 none)) ∙ held)
