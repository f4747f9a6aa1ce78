-- The ranges of each path are gathered, and put in order.
use Rattle.std.proofs.Common.{◌≡◌, ℕ, ◌+◌, ◌<◌, ◌≤◌, ◌==◌, Bool, true, false, ◌&&◌, ◌||◌, cond, List, [], ◌∷◌, ◌++◌, length, map, take, get_or, Option, Some}
use Rattle.std.proofs.{Common.{None, refl, sym, ap, ◌∙◌, subst, append_assoc, arith}, lemmas.Bool.{false≢true, eqb-true}, lemmas.Map.Iter.rest_more}
use Rattle.std.proofs.{lemmas.Map.Keys.{sorted_head, sorted_tail}, lemmas.List.{append-nil, map_more, take_all, nil_from_length}}
use Rattle.std.proofs.{lemmas.List.Folds.list_any-append, lemmas.List.Elements.{All-nil, All-push}}
use Rattle.std.specs.{Prelude.if◌then◌else◌, declared.vec.Vec.Vec, BTreeMap.is_at, Map.{lookup, keys_of}, Map.Iter.TakesFirst}
use Rattle.std.specs.{List.{list_any, filter, All, AllByRecursion}, List.Sorted.IsStrictlySortedBy, Ordering.is_eq, declared.cmp.Ordering.TheVariants.Less}
use Rattle.svnpath.specs.{Paths.{PathValue, path_cmp, same_path, path_ties}, PathLaws.{at_is_same, same_path_is, same_path_refl}}
use Rattle.mergeinfo.specs.{Maybe.each, Ranges.{covers, has, has_inheritable, AreInOrder}}
use Rattle.mergeinfo.specs.Sources.{SourceValue, inherited, inherited_source, merges, merges_inheritably, IsNormalFormOf}
use Rattle.mergeinfo.specs.{Gathered.{items_of, ranges_at, IsAdded, IsGathered}, Sweeps.IsInOrderOf, Texts.{source_of, lines_of, sources_of}}
use Rattle.mergeinfo.specs.declared.range.Range.{Range}
use Rattle.mergeinfo.proofs.Reading.{behind, behind_nothing, behind_push, each_kept, each_refused}

or_false : (a : Bool) → (a || false) ≡ a
or_false true = refl
or_false false = refl

-- what was taken out goes in again, with more
pub put_again : {Y : Type 0} (path : PathValue) (ranges : List Range) (v : Vec Range Y) (old mid new : List (PathValue × Vec Range Y)) → v.items ≡ ranges_at old path ++ ranges
    → ((q : PathValue) → lookup (is_at (path_cmp q)) mid ≡ cond (is_at (path_cmp path) q) None (lookup (is_at (path_cmp q)) old))
    → ((q : PathValue) → lookup (is_at (path_cmp q)) new ≡ cond (is_at (path_cmp path) q) (Some v) (lookup (is_at (path_cmp q)) mid)) → IsAdded path ranges old new
put_again {Y} path ranges v old mid new is out put q = by (same_path path q) refl
  where
    by : (b : Bool) → same_path path q ≡ b → ranges_at new q ≡ (if b then ranges_at old q ++ ranges else ranges_at old q)
    by true e =
        ap items_of (put q ∙ ap (λ t. cond t (Some v) (lookup (is_at (path_cmp q)) mid)) (at_is_same path q ∙ e)) ∙ is
        ∙ ap (λ p. ranges_at old p ++ ranges) (same_path_is path q e)
    by false e =
        ap items_of (put q ∙ ap (λ t. cond t (Some v) (lookup (is_at (path_cmp q)) mid)) (at_is_same path q ∙ e)
        ∙ out q ∙ ap (λ t. cond t None (lookup (is_at (path_cmp q)) old)) (at_is_same path q ∙ e))

pub nothing_gathered : {Y : Type 0} (entries : List (PathValue × Vec Range Y)) → entries ≡ [] → IsGathered [] entries
nothing_gathered entries is =
    record {
      same = λ p r. ap (λ es. has r (ranges_at es p)) is;
      same_inheritable = λ p r. ap (λ es. has_inheritable r (ranges_at es p)) is;
    }

any_more : (p : Range → Bool) (m b : Bool) (all old ranges : List Range) → all ≡ (if b then old ++ ranges else old) → list_any p old ≡ m → list_any p all ≡ (m || ((b && list_any p ranges) || false))
any_more p m true all old ranges is same =
    ap (list_any p) is ∙ list_any-append p old ranges ∙ ap (λ t. t || list_any p ranges) same ∙ ap (λ t. m || t) (sym (or_false (list_any p ranges)))
any_more p m false all old ranges is same = ap (list_any p) is ∙ same ∙ sym (or_false m)

pub gathered_more : {Y : Type 0} (sources : List SourceValue) (s : SourceValue) (old new : List (PathValue × Vec Range Y)) → IsGathered sources old → IsAdded s.path s.ranges old new → IsGathered (sources ++ s ∷ []) new
gathered_more sources s old new g added =
    record {
      same = λ p r.
          any_more (covers r) (merges sources p r) (same_path s.path p) (ranges_at new p) (ranges_at old p) s.ranges (added p) (g.same p r)
          ∙ sym (list_any-append (λ source. same_path source.path p && has r source.ranges) sources (s ∷ []));
      same_inheritable = λ p r.
          any_more (λ x. x.is_inheritable && covers r x) (merges_inheritably sources p r) (same_path s.path p) (ranges_at new p) (ranges_at old p) s.ranges (added p) (g.same_inheritable p r)
          ∙ sym (list_any-append (λ source. same_path source.path p && has_inheritable r source.ranges) sources (s ∷ []));
    }

-- ---- line by line

-- the value up to the rest names these sources, which are gathered
pub record IsReadTo {Y : Type 0} (value rest : List ℕ) (entries : List (PathValue × Vec Range Y)) : Type 0 where
  pub sources : List SourceValue
  pub read : behind sources (each source_of (lines_of rest)) ≡ sources_of value
  pub gathered : IsGathered sources entries

pub nothing_read : {Y : Type 0} (value : List ℕ) (entries : List (PathValue × Vec Range Y)) → entries ≡ [] → IsReadTo value value entries
nothing_read value entries is = record { sources = []; read = behind_nothing (each source_of (lines_of value)); gathered = nothing_gathered entries is }

pub line_read : {Y : Type 0} (value rest line after : List ℕ) (s : SourceValue) (p : PathValue) (rs : List Range) (old new : List (PathValue × Vec Range Y))
    → lines_of rest ≡ line ∷ lines_of after → source_of line ≡ Some s → p ≡ s.path → rs ≡ s.ranges → IsAdded p rs old new → IsReadTo value rest old → IsReadTo value after new
line_read value rest line after s p rs old new cut is path_is ranges_are added h =
    record {
      sources = h.sources ++ s ∷ [];
      read =
          sym (behind_push h.sources s (each source_of (lines_of after)))
          ∙ ap (behind h.sources) (sym (each_kept source_of line (lines_of after) s is) ∙ ap (each source_of) (sym cut))
          ∙ h.read;
      gathered = gathered_more h.sources s old new h.gathered (subst (λ q. IsAdded q s.ranges old new) path_is (subst (λ ws. IsAdded p ws old new) ranges_are added));
    }

pub line_refused : {Y : Type 0} (value rest line after : List ℕ) (entries : List (PathValue × Vec Range Y)) → lines_of rest ≡ line ∷ lines_of after → source_of line ≡ None → IsReadTo value rest entries → sources_of value ≡ None
line_refused value rest line after entries cut is h =
    sym h.read ∙ ap (behind h.sources) (ap (each source_of) cut ∙ each_refused source_of line (lines_of after) is)

pub all_read : {Y : Type 0} (value rest : List ℕ) (entries : List (PathValue × Vec Range Y)) → length rest ≡ 0 → IsReadTo value rest entries
    → (sources : List SourceValue) × (sources_of value ≡ Some sources) × IsGathered sources entries
all_read value [] entries over h = (h.sources, sym h.read ∙ ap (λ xs. Some xs) (append-nil h.sources), h.gathered)
all_read value (b ∷ rest) entries over h = absurd (omega (arith, over))

-- ---- what is inherited

pub nothing_inherited : {Y : Type 0} (rest : PathValue) (items : List SourceValue) (entries : List (PathValue × Vec Range Y)) → entries ≡ [] → IsGathered (inherited rest (take 0 items)) entries
nothing_inherited rest items entries is = nothing_gathered entries is

pub inherited_more : {Y : Type 0} (rest : PathValue) (items : List SourceValue) (i : ℕ) (e s : SourceValue) (p : PathValue) (rs : List Range) (old new : List (PathValue × Vec Range Y))
    → i < length items → s ≡ get_or items i e → p ≡ s.path ++ rest → rs ≡ filter (λ range. range.is_inheritable) s.ranges → IsAdded p rs old new
    → IsGathered (inherited rest (take i items)) old → IsGathered (inherited rest (take (i + 1) items)) new
inherited_more rest items i e s p rs old new within is path_is ranges_are added h =
    let heir : SourceValue = inherited_source rest s in
    let whole : inherited rest (take i items) ++ heir ∷ [] ≡ inherited rest (take (i + 1) items) =
    ap (λ y. inherited rest (take i items) ++ inherited_source rest y ∷ []) is ∙ sym (map_more (inherited_source rest) items i e within) in
    subst (λ xs. IsGathered xs new) whole
    (gathered_more (inherited rest (take i items)) heir old new h (subst (λ q. IsAdded q heir.ranges old new) path_is (subst (λ ws. IsAdded p ws old new) ranges_are added)))

pub all_inherited : {Y : Type 0} (rest : PathValue) (items sources : List SourceValue) (i : ℕ) (entries : List (PathValue × Vec Range Y)) → items ≡ sources → length items ≤ i
    → IsGathered (inherited rest (take i items)) entries → IsGathered (inherited rest sources) entries
all_inherited rest items sources i entries is over h = subst (λ xs. IsGathered (inherited rest xs) entries) (take_all i items over ∙ is) h

-- ---- what was gathered, as sources

abbrev pub as_sources : {Y : Type 0} → List (PathValue × Vec Range Y) → List SourceValue
as_sources entries = map (λ e. record { path = e.0; ranges = e.1.items }) entries

pub same_path_sym : (p q : PathValue) → same_path p q ≡ same_path q p
same_path_sym p q = by (same_path p q) refl (same_path q p) refl
  where
    by : (s : Bool) → same_path p q ≡ s → (t : Bool) → same_path q p ≡ t → s ≡ t
    by true e true f = refl
    by true e false f = absurd (false≢true (sym f ∙ ap (λ x. same_path x p) (sym (same_path_is p q e)) ∙ same_path_refl p))
    by false e true f = absurd (false≢true (sym e ∙ ap (λ x. same_path x q) (sym (same_path_is q p f)) ∙ same_path_refl q))
    by false e false f = refl

-- whether one of the sources has a range at the path that passes
abbrev pub any_at : (Range → Bool) → PathValue → List SourceValue → Bool
any_at q p sources = list_any (λ s. same_path s.path p && list_any q s.ranges) sources

none_later : {Y : Type 0} (q : Range → Bool) (k : PathValue) (es : List (PathValue × Vec Range Y)) → AllByRecursion (λ y. path_cmp k y ≡ Less) (keys_of es) → any_at q k (as_sources es) ≡ false
none_later q k [] h = refl
none_later q k (e ∷ es) h =
    ap (λ t. (t && list_any q e.1.items) || any_at q k (as_sources es)) (same_path_sym e.0 k ∙ path_ties k e.0 ∙ ap is_eq h.0)
    ∙ none_later q k es h.1

found_first : {Y : Type 0} (q : Range → Bool) (p : PathValue) (e : PathValue × Vec Range Y) (es : List (PathValue × Vec Range Y)) → AllByRecursion (λ y. path_cmp e.0 y ≡ Less) (keys_of es)
    → any_at q p (as_sources es) ≡ list_any q (ranges_at es p)
    → (b : Bool) → same_path e.0 p ≡ b → ((b && list_any q e.1.items) || any_at q p (as_sources es)) ≡ list_any q (ranges_at (e ∷ es) p)
found_first q p e es above deeper true is =
    ap (λ t. list_any q e.1.items || t) (ap (λ k. any_at q k (as_sources es)) (sym (same_path_is e.0 p is)) ∙ none_later q e.0 es above)
    ∙ or_false (list_any q e.1.items)
    ∙ sym (ap (λ t. list_any q (items_of (cond t (Some e.1) (lookup (is_at (path_cmp p)) es)))) (at_is_same p e.0 ∙ same_path_sym p e.0 ∙ is))
found_first q p e es above deeper false is =
    deeper ∙ sym (ap (λ t. list_any q (items_of (cond t (Some e.1) (lookup (is_at (path_cmp p)) es)))) (at_is_same p e.0 ∙ same_path_sym p e.0 ∙ is))

found_at : {Y : Type 0} (q : Range → Bool) (p : PathValue) (es : List (PathValue × Vec Range Y)) → IsStrictlySortedBy path_cmp (keys_of es) → any_at q p (as_sources es) ≡ list_any q (ranges_at es p)
found_at q p [] h = refl
found_at q p (e ∷ es) h =
    found_first q p e es (sorted_head path_cmp e.0 (keys_of es) h) (found_at q p es (sorted_tail path_cmp e.0 (keys_of es) h)) (same_path e.0 p) refl

-- ---- one path after another

-- the sources so far are normal, and have with those that are left what all have
pub record IsNormalTo (all done left : List SourceValue) : Type 0 where
  pub sorted : IsStrictlySortedBy path_cmp (map (λ s. s.path) (done ++ left))
  pub ordered : All (λ s. AreInOrder s.ranges) done
  pub some : All (λ s. 0 < length s.ranges) done
  pub same : (p : PathValue) (r : ℕ) → merges (done ++ left) p r ≡ merges all p r
  pub same_inheritable : (p : PathValue) (r : ℕ) → merges_inheritably (done ++ left) p r ≡ merges_inheritably all p r

pub none_normal : (all : List SourceValue) → IsStrictlySortedBy path_cmp (map (λ s. s.path) all) → IsNormalTo all [] all
none_normal all sorted =
    record {
      sorted = sorted;
      ordered = All-nil (λ s. AreInOrder s.ranges);
      some = All-nil (λ s. 0 < length s.ranges);
      same = λ p r. refl;
      same_inheritable = λ p r. refl;
    }

-- a source among others has other ranges, of which the same pass
any_middle : (q : Range → Bool) (p : PathValue) (done left : List SourceValue) (s t : SourceValue) → t.path ≡ s.path → list_any q t.ranges ≡ list_any q s.ranges
    → any_at q p ((done ++ t ∷ []) ++ left) ≡ any_at q p (done ++ s ∷ left)
any_middle q p done left s t path_is same =
    ap (any_at q p) (append_assoc done (t ∷ []) left) ∙ by done
  where
    by : (done : List SourceValue) → any_at q p (done ++ t ∷ left) ≡ any_at q p (done ++ s ∷ left)
    by [] = ap (λ k. (same_path k p && list_any q t.ranges) || any_at q p left) path_is ∙ ap (λ b. (same_path s.path p && b) || any_at q p left) same
    by (d ∷ done) = ap (λ b. (same_path d.path p && list_any q d.ranges) || b) (by done)

-- one without ranges that pass goes
any_without : (q : Range → Bool) (p : PathValue) (done left : List SourceValue) (s : SourceValue) → list_any q s.ranges ≡ false → any_at q p (done ++ left) ≡ any_at q p (done ++ s ∷ left)
any_without q p [] left s none = sym (ap (λ b. (same_path s.path p && b) || any_at q p left) none ∙ ap (λ b. b || any_at q p left) (and_none (same_path s.path p)))
  where
    and_none : (a : Bool) → (a && false) ≡ false
    and_none true = refl
    and_none false = refl
any_without q p (d ∷ done) left s none = ap (λ b. (same_path d.path p && list_any q d.ranges) || b) (any_without q p done left s none)

all_before : (P : PathValue → Type 0) (done left : List SourceValue) (s : SourceValue) → AllByRecursion P (map (λ s. s.path) (done ++ s ∷ left)) → AllByRecursion P (map (λ s. s.path) (done ++ left))
all_before P [] left s h = h.1
all_before P (d ∷ done) left s h = (h.0, all_before P done left s h.1)

sorted_without : (done left : List SourceValue) (s : SourceValue) → IsStrictlySortedBy path_cmp (map (λ s. s.path) (done ++ s ∷ left)) → IsStrictlySortedBy path_cmp (map (λ s. s.path) (done ++ left))
unfolding IsStrictlySortedBy
sorted_without [] left s h = h.1
sorted_without (d ∷ done) left s h = (all_before (λ y. path_cmp d.path y ≡ Less) done left s h.0, sorted_without done left s h.1)

paths_same : (done left : List SourceValue) (s t : SourceValue) → t.path ≡ s.path → map (λ s. s.path) ((done ++ t ∷ []) ++ left) ≡ map (λ s. s.path) (done ++ s ∷ left)
paths_same [] left s t is = ap (λ p. p ∷ map (λ s. s.path) left) is
paths_same (d ∷ done) left s t is = ap (λ ps. d.path ∷ ps) (paths_same done left s t is)

pub normal_more : (all done longer left before : List SourceValue) (s t : SourceValue) → before ≡ s ∷ left → longer ≡ done ++ t ∷ [] → t.path ≡ s.path → IsInOrderOf s.ranges t.ranges → 0 < length t.ranges
    → IsNormalTo all done before → IsNormalTo all longer left
normal_more all done longer left before s t turn pushed path_is order some h =
    subst (λ xs. IsNormalTo all xs left) (sym pushed) (record {
      sorted = subst (IsStrictlySortedBy path_cmp) (sym (paths_same done left s t path_is)) (subst (λ xs. IsStrictlySortedBy path_cmp (map (λ s. s.path) (done ++ xs))) turn h.sorted);
      ordered = All-push (λ s. AreInOrder s.ranges) done t h.ordered order.order;
      some = All-push (λ s. 0 < length s.ranges) done t h.some some;
      same = λ p r. any_middle (covers r) p done left s t path_is (order.same r) ∙ ap (λ xs. merges (done ++ xs) p r) (sym turn) ∙ h.same p r;
      same_inheritable = λ p r.
          any_middle (λ x. x.is_inheritable && covers r x) p done left s t path_is (order.same_inheritable r)
          ∙ ap (λ xs. merges_inheritably (done ++ xs) p r) (sym turn) ∙ h.same_inheritable p r;
    })

pub normal_without : (all done left before : List SourceValue) (s : SourceValue) (ordered : List Range) → before ≡ s ∷ left → IsInOrderOf s.ranges ordered → ordered ≡ []
    → IsNormalTo all done before → IsNormalTo all done left
normal_without all done left before s ordered turn order none h =
    record {
      sorted = sorted_without done left s (subst (λ xs. IsStrictlySortedBy path_cmp (map (λ s. s.path) (done ++ xs))) turn h.sorted);
      ordered = h.ordered;
      some = h.some;
      same = λ p r.
          any_without (covers r) p done left s (sym (order.same r) ∙ ap (has r) none)
          ∙ ap (λ xs. merges (done ++ xs) p r) (sym turn) ∙ h.same p r;
      same_inheritable = λ p r.
          any_without (λ x. x.is_inheritable && covers r x) p done left s (sym (order.same_inheritable r) ∙ ap (has_inheritable r) none)
          ∙ ap (λ xs. merges_inheritably (done ++ xs) p r) (sym turn) ∙ h.same_inheritable p r;
    }

keys_same : {Y : Type 0} (es : List (PathValue × Vec Range Y)) → keys_of es ≡ map (λ s. s.path) (as_sources es)
keys_same [] = refl
keys_same (e ∷ es) = ap (λ ks. e.0 ∷ ks) (keys_same es)

pub start_normal : {Y : Type 0} (es left : List (PathValue × Vec Range Y)) → left ≡ es → IsStrictlySortedBy path_cmp (keys_of es) → IsNormalTo (as_sources es) [] (as_sources left)
start_normal es left is sorted =
    subst (λ xs. IsNormalTo (as_sources es) [] (as_sources xs)) (sym is) (none_normal (as_sources es) (subst (IsStrictlySortedBy path_cmp) (keys_same es) sorted))

pub all_normal : {Y : Type 0} (sources done : List SourceValue) (es left : List (PathValue × Vec Range Y)) → left ≡ [] → IsStrictlySortedBy path_cmp (keys_of es) → IsGathered sources es
    → IsNormalTo (as_sources es) done (as_sources left) → IsNormalFormOf sources done
all_normal sources done es left over sorted gathered h =
    let whole : done ++ as_sources left ≡ done = ap (λ xs. done ++ as_sources xs) over ∙ append-nil done in
    record {
      is_normal = record {
        paths = subst (λ xs. IsStrictlySortedBy path_cmp (map (λ s. s.path) xs)) whole h.sorted;
        ranges = h.ordered;
        some = h.some;
      };
      same = λ p r. ap (λ xs. merges xs p r) (sym whole) ∙ h.same p r ∙ found_at (covers r) p es sorted ∙ gathered.same p r;
      same_inheritable = λ p r.
          ap (λ xs. merges_inheritably xs p r) (sym whole) ∙ h.same_inheritable p r
          ∙ found_at (λ x. x.is_inheritable && covers r x) p es sorted ∙ gathered.same_inheritable p r;
    }

-- ---- the iterator of the map

pub left_as_sources : {Y : Type 0} (s t : List (PathValue × Vec Range Y)) (r : Option (PathValue × Vec Range Y)) (e : PathValue × Vec Range Y) → r ≡ Some e → TakesFirst (λ x. x) s r t
    → as_sources s ≡ record { path = e.0; ranges = e.1.items } ∷ as_sources t
left_as_sources s t r e is steps = ap as_sources (rest_more (λ x. x) s t r e is steps)

pub none_left : {Y : Type 0} (s t : List (PathValue × Vec Range Y)) (r : Option (PathValue × Vec Range Y)) → r ≡ None → TakesFirst (λ x. x) s r t → s ≡ []
none_left s t r is steps = (subst (λ o. TakesFirst (λ x. x) s o t) is steps).0

pub some_ranges : (b : Bool) (held ranges : List Range) → held ≡ ranges → b ≡ (length held == 0) → b ≡ false → 0 < length ranges
some_ranges b [] ranges is tested empty = absurd (false≢true (sym empty ∙ tested))
some_ranges b (x ∷ held) ranges is tested empty = omega (arith, ap length is)

pub no_ranges : (b : Bool) (held ranges : List Range) → held ≡ ranges → b ≡ (length held == 0) → b ≡ true → ranges ≡ []
no_ranges b held ranges is tested empty = sym is ∙ nil_from_length held (eqb-true (length held) 0 (sym tested ∙ empty))
