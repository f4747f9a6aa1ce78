-- A reported tree holds together.
use Rattle.std.proofs.Common.{◌≡◌, ℕ, zero, suc, ◌+◌, ◌-◌, ◌≤◌, ◌<◌, arith, Bool, true, false, cond, ◌&&◌, not, List, [], ◌∷◌, ◌++◌, length, drop, take, Option}
use Rattle.std.proofs.{Common.{Some, None, refl, sym, ap, ◌∙◌, subst, ◌⊎◌, inl, inr, ⊎_elim, option_map}, lemmas.Bool.false≢true}
use Rattle.std.proofs.lemmas.List.{length-append, append_assoc, append-nil}
use Rattle.std.specs.Prelude.{IsTrue, IsSome, IsSomeAnd, is_some, fold, option_and_then}
use Rattle.svnpath.specs.{PathLaws.{rest_append, same_path_is, same_path_refl, under_append, under_is}, Paths.{Component, is_at_or_under, PathValue, same_path}}
use Rattle.repo_api.specs.{Trees.{is_directory, Tree}, declared.entry.Entry.Entry}
use Rattle.drive_rules.specs.{Scopes.{below, depth_below, HoldsTogether}, declared.depth.Depth.Depth}
use Rattle.drive_rules.specs.declared.depth.Depth.TheVariants.{Empty, Files, Immediates, Infinity}
use Rattle.drive_rules.proofs.{Joined.or_cases, Entries.{under_more, below_under, below_apart, under_both, no_length}}
use Rattle.reporter.specs.Reported.{ReportedEntry, ReportedTree, reported_entries, left_by, top_entry, reported_as, in_subtree, in_graft, has_directory}
use Rattle.reporter.specs.{Reported.{has_place, path_above, with_graft, reported}, declared.graft.Graft.Graft, declared.graft.Subtree.Subtree}

take_take : {X : Type 0} (n m : ℕ) (xs : List X) → n ≤ m → take n (take m xs) ≡ take n xs
take_take zero m xs le = refl
take_take (suc n) zero xs le = absurd (omega (le, arith))
take_take (suc n) (suc m) [] le = refl
take_take (suc n) (suc m) (x ∷ xs) le = ap (λ ys. x ∷ ys) (take_take n m xs (omega (le, arith)))

le_or : (m n : ℕ) → (m ≤ n) ⊎ (n < m)
le_or zero n = inl (omega arith)
le_or (suc m) zero = inr (omega arith)
le_or (suc m) (suc n) = ⊎_elim (λ h. inl (omega (h, arith))) (λ h. inr (omega (h, arith))) (le_or m n)

-- what begins a path begins what begins it and is longer
front_under : (p k q : PathValue) → length k ≤ length p → is_at_or_under q p ≡ true → is_at_or_under q k ≡ true → is_at_or_under p k ≡ true
front_under p k q le up uk =
    ap (λ x. same_path k (take (length k) x)) (same_path_is p (take (length p) q) up) ∙ ap (same_path k) (take_take (length k) (length p) q le) ∙ uk

pub longer_below : (p k : PathValue) → length p < length k → is_at_or_under k p ≡ true → below p k ≡ true
longer_below p k lt u = by (same_path p k) refl
  where
    by : (b : Bool) → same_path p k ≡ b → (is_at_or_under k p && not (same_path p k)) ≡ true
    by true e = let same : length p ≡ length k = ap length (same_path_is p k e) in absurd (omega (same, lt, arith))
    by false e = ap (λ a. a && not (same_path p k)) u ∙ ap (λ a. true && not a) e

-- of two paths above one path one is above the other
pub comparable : (p k q : PathValue) → is_at_or_under q p ≡ true → is_at_or_under q k ≡ true → (is_at_or_under p k ≡ true) ⊎ (below p k ≡ true)
comparable p k q up uk =
    ⊎_elim (λ le. inl (front_under p k q le up uk)) (λ lt. inr (longer_below p k lt (front_under k p q (omega (lt, arith)) uk up))) (le_or (length k) (length p))

pub below_longer : (p k : PathValue) → below p k ≡ true → length p < length k
below_longer p k low = ⊎_elim (λ le. absurd (false≢true (sym (below_apart p k low) ∙ ap (same_path p) (sym (is_p le)) ∙ same_path_refl p))) (λ lt. lt) (le_or (length k) (length p))
  where
    long : length k ≡ length p + length (drop (length p) k)
    long = ap length (under_is k p (below_under p k low)) ∙ length-append p (drop (length p) k)

    is_p : length k ≤ length p → p ≡ k
    is_p le =
        sym (under_is k p (below_under p k low) ∙ ap (λ rest. p ++ rest) (no_length (drop (length p) k) (omega (le, long, arith))) ∙ append-nil p)

-- a directory above what has its place
pub above_under : (p k : PathValue) → below p k ≡ true → is_at_or_under (path_above k) p ≡ true
above_under p k low = ap (same_path p) (take_take (length p) (length k - 1) k (omega (below_longer p k low, arith))) ∙ below_under p k low

some_length : (c : Component) (rest : List Component) → 0 < length (c ∷ rest)
some_length c rest = omega arith

-- ---- one graft

left_some : (depth : Depth) (rest : List Component) (e : Option Entry) → IsSome (left_by depth rest e) → IsSome e
left_some depth rest None some = absurd (false≢true (sym (ap is_some (by depth rest)) ∙ some))
  where
    by : (d : Depth) (cs : List Component) → left_by d cs None ≡ None
    by Empty cs = refl
    by Files [] = refl
    by Files (c ∷ cs) = refl
    by Immediates [] = refl
    by Immediates (c ∷ cs) = refl
    by Infinity cs = refl
left_some depth rest (Some x) some = refl

abbrev IsDirectory : Option Entry → Type 0
IsDirectory e = IsSomeAnd e (λ x. IsTrue (is_directory x))

mapped : {X Y : Type 0} (f : X → Y) (o : Option X) → IsSome (option_map f o) → IsSome o
mapped f None h = h
mapped f (Some x) h = refl

entry_of : (s : Subtree) (from : PathValue) (depth : Depth) (token : Option (List ℕ)) (o : Option Entry) → IsDirectory o
    → IsDirectory (option_map (λ (h : ReportedEntry). h.entry) (option_map (reported_as s from depth token) o))
entry_of s from depth token None h = h
entry_of s from depth token (Some x) h = h

-- the top of a subtree is a directory, with its properties or without
top_is : (s : Subtree) (from : PathValue) (o : Option Entry) → IsDirectory o
    → IsDirectory (option_map (λ (h : ReportedEntry). h.entry) (option_map (λ e. reported_as s from s.depth s.token (top_entry s.starts_empty e)) o))
top_is s from None h = h
top_is s from (Some x) h = h

graft_in : (trees : ℕ → Tree) (from : PathValue) (s : Subtree) (front : List Component) (c : Component) (rest : List Component) → ((n : ℕ) → HoldsTogether [] (trees n))
    → IsSome (option_map (λ (h : ReportedEntry). h.entry) (in_subtree trees from s (front ++ c ∷ rest))) → IsDirectory (option_map (λ (h : ReportedEntry). h.entry) (in_subtree trees from s front))
graft_in trees from s [] c rest hold some = by s.starts_empty some
  where
    deeper : (p r : PathValue) (d : Component) → below p (p ++ d ∷ r) ≡ true
    deeper p r d = let long : length (p ++ d ∷ r) ≡ length p + length (d ∷ r) = length-append p (d ∷ r) in longer_below p (p ++ d ∷ r) (omega (long, some_length d r, arith)) (under_append p (d ∷ r))

    by : (b : Bool) → IsSome (option_map (λ (h : ReportedEntry). h.entry) (cond b None (option_map (reported_as s (from ++ c ∷ rest) (depth_below s.depth) None) (left_by s.depth rest (trees s.revision (from ++ c ∷ rest))))))
        → IsDirectory (option_map (λ (h : ReportedEntry). h.entry) (in_subtree trees from s []))
    by true h = absurd (false≢true h)
    by false h =
        top_is s from (trees s.revision from)
        (hold s.revision from (from ++ c ∷ rest) refl (deeper from rest c) (left_some s.depth rest (trees s.revision (from ++ c ∷ rest)) (mapped _ _ (mapped (λ (h : ReportedEntry). h.entry) _ h))))
graft_in trees from s (d ∷ ds) c rest hold some = by s.starts_empty refl some
  where
    deeper : (p : PathValue) → below (p ++ d ∷ ds) (p ++ d ∷ (ds ++ c ∷ rest)) ≡ true
    deeper p =
        let long : length ((p ++ d ∷ ds) ++ c ∷ rest) ≡ length (p ++ d ∷ ds) + length (c ∷ rest) = length-append (p ++ d ∷ ds) (c ∷ rest) in
        subst (λ q. below (p ++ d ∷ ds) q ≡ true) (append_assoc p (d ∷ ds) (c ∷ rest)) (longer_below (p ++ d ∷ ds) ((p ++ d ∷ ds) ++ c ∷ rest) (omega (long, some_length c rest, arith)) (under_append (p ++ d ∷ ds) (c ∷ rest)))

    whole : (depth : Depth) (es : List Component) (e f : Option Entry) → IsSome (left_by depth (es ++ c ∷ rest) e) → (IsSome e → IsDirectory f) → IsDirectory (left_by depth es f)
    whole Empty es e f h k = absurd (false≢true h)
    whole Files [] e f h k = absurd (false≢true h)
    whole Files (x ∷ es) e f h k = absurd (false≢true h)
    whole Immediates [] e f h k = absurd (false≢true h)
    whole Immediates (x ∷ es) e f h k = absurd (false≢true h)
    whole Infinity es e f h k = k h

    by : (b : Bool) → s.starts_empty ≡ b → IsSome (option_map (λ (h : ReportedEntry). h.entry) (cond b None (option_map (reported_as s (from ++ d ∷ (ds ++ c ∷ rest)) (depth_below s.depth) None) (left_by s.depth (ds ++ c ∷ rest) (trees s.revision (from ++ d ∷ (ds ++ c ∷ rest)))))))
        → IsDirectory (option_map (λ (h : ReportedEntry). h.entry) (in_subtree trees from s (d ∷ ds)))
    by true is h = absurd (false≢true h)
    by false is h =
        subst (λ b. IsDirectory (option_map (λ (x : ReportedEntry). x.entry) (cond b None (option_map (reported_as s (from ++ d ∷ ds) (depth_below s.depth) None) (left_by s.depth ds (trees s.revision (from ++ d ∷ ds))))))) (sym is)
        (entry_of s (from ++ d ∷ ds) (depth_below s.depth) None (left_by s.depth ds (trees s.revision (from ++ d ∷ ds)))
        (whole s.depth ds (trees s.revision (from ++ d ∷ (ds ++ c ∷ rest))) (trees s.revision (from ++ d ∷ ds)) (mapped _ _ (mapped (λ (x : ReportedEntry). x.entry) _ h))
        (λ e. hold s.revision (from ++ d ∷ ds) (from ++ d ∷ (ds ++ c ∷ rest)) refl (deeper from) e)))

graft_by : (trees : ℕ → Tree) (from : PathValue) (o : Option Subtree) (front : List Component) (c : Component) (rest : List Component) → ((n : ℕ) → HoldsTogether [] (trees n))
    → IsSome (option_map (λ (h : ReportedEntry). h.entry) (option_and_then (λ s. in_subtree trees from s (front ++ c ∷ rest)) o)) → IsDirectory (option_map (λ (h : ReportedEntry). h.entry) (option_and_then (λ s. in_subtree trees from s front) o))
graft_by trees from None front c rest hold some = absurd (false≢true some)
graft_by trees from (Some s) front c rest hold some = graft_in trees from s front c rest hold some

-- ---- the tree after one graft more

abbrev After : (ℕ → Tree) → ReportedTree → Graft → Bool → Tree
After trees had g b q = option_map (λ (h : ReportedEntry). h.entry) (cond (b && is_at_or_under q g.path) (in_graft trees g (drop (length g.path) q)) (had q))

dir_is : (o : Option ReportedEntry) → has_directory o ≡ true → IsDirectory (option_map (λ (h : ReportedEntry). h.entry) o)
dir_is None h = absurd (false≢true h)
dir_is (Some x) h = h

some_dir : (o : Option Entry) → IsDirectory o → IsSome o
some_dir None h = absurd h
some_dir (Some x) h = refl

not_under : (b : Bool) → (b ≡ true → ⊥) → b ≡ false
not_under true f = absurd (f refl)
not_under false f = refl

step_holds : (trees : ℕ → Tree) (top : PathValue) (had : ReportedTree) (g : Graft) → ((n : ℕ) → HoldsTogether [] (trees n)) → HoldsTogether top (reported_entries had) → HoldsTogether top (reported_entries (with_graft trees top had g))
step_holds trees top had g hold old p q at low some = by (has_place top had g.path) refl some
  where
    k : PathValue
    k = g.path

    up : is_at_or_under q p ≡ true
    up = below_under p q low

    elsewhere : is_at_or_under p k ≡ false → IsDirectory (option_map (λ (h : ReportedEntry). h.entry) (had p)) → IsDirectory (After trees had g true p)
    elsewhere out d = subst (λ u. IsDirectory (option_map (λ (h : ReportedEntry). h.entry) (cond (true && u) (in_graft trees g (drop (length k) p)) (had p)))) (sym out) d

    -- the path lies in the graft
    inside : is_at_or_under p k ≡ true → IsSome (option_map (λ (h : ReportedEntry). h.entry) (in_graft trees g (drop (length k) q))) → IsDirectory (After trees had g true p)
    inside u h =
        subst (λ x. IsDirectory (option_map (λ (y : ReportedEntry). y.entry) (cond (true && x) (in_graft trees g (drop (length k) p)) (had p)))) (sym u)
        (split (drop (length p) q) refl)
      where
        rest_is : drop (length k) q ≡ drop (length k) p ++ drop (length p) q
        rest_is =
            ap (drop (length k)) (under_is q p up ∙ ap (λ y. y ++ drop (length p) q) (under_is p k u) ∙ append_assoc k (drop (length k) p) (drop (length p) q))
            ∙ rest_append k (drop (length k) p ++ drop (length p) q)

        split : (r : List Component) → drop (length p) q ≡ r → IsDirectory (option_map (λ (y : ReportedEntry). y.entry) (in_graft trees g (drop (length k) p)))
        split [] e =
            let long : length q ≡ length p + length (drop (length p) q) = ap length (under_is q p up) ∙ length-append p (drop (length p) q) in
            let none : length (drop (length p) q) ≡ 0 = ap length e in
            absurd (omega (below_longer p q low, long, none, arith))
        split (c ∷ r) e =
            graft_by trees g.from g.subtree (drop (length k) p) c r hold (subst (λ cs. IsSome (option_map (λ (y : ReportedEntry). y.entry) (in_graft trees g cs))) (rest_is ∙ ap (λ cs. drop (length k) p ++ cs) e) h)

    -- the graft lies below the path
    over : below p k ≡ true → has_place top had k ≡ true → IsDirectory (After trees had g true p)
    over under place =
        elsewhere (not_under (is_at_or_under p k) apart) (⊎_elim (λ same. absurd (apart (subst (λ x. is_at_or_under p x ≡ true) (sym (same_path_is k top same)) at))) (λ d. directory d (same_path p (path_above k)) refl) (or_cases (same_path k top) (has_directory (had (path_above k))) place))
      where
        apart : is_at_or_under p k ≡ true → ⊥
        apart u = false≢true (sym (below_apart p k under) ∙ ap (same_path p) (sym (under_both p k u (below_under p k under))) ∙ same_path_refl p)

        directory : has_directory (had (path_above k)) ≡ true → (b : Bool) → same_path p (path_above k) ≡ b → IsDirectory (option_map (λ (h : ReportedEntry). h.entry) (had p))
        directory d true e = subst (λ x. IsDirectory (option_map (λ (h : ReportedEntry). h.entry) (had x))) (sym (same_path_is p (path_above k) e)) (dir_is (had (path_above k)) d)
        directory d false e =
            old p (path_above k) at (ap (λ a. a && not (same_path p (path_above k))) (above_under p k under) ∙ ap (λ a. true && not a) e) (some_dir (option_map (λ (h : ReportedEntry). h.entry) (had (path_above k))) (dir_is (had (path_above k)) d))

    placed : has_place top had k ≡ true → (u : Bool) → is_at_or_under q k ≡ u → IsSome (option_map (λ (h : ReportedEntry). h.entry) (cond (true && u) (in_graft trees g (drop (length k) q)) (had q))) → IsDirectory (After trees had g true p)
    placed place true uk h = ⊎_elim (λ u. inside u h) (λ b. over b place) (comparable p k q up uk)
    placed place false uk h = elsewhere (not_under (is_at_or_under p k) (λ u. false≢true (sym uk ∙ under_more q p k up u))) (old p q at low h)

    by : (b : Bool) → has_place top had k ≡ b → IsSome (After trees had g (has_place top had k) q) → IsDirectory (After trees had g (has_place top had k) p)
    by true is h =
        subst (λ b. IsDirectory (After trees had g b p)) (sym is) (placed is (is_at_or_under q k) refl (subst (λ b. IsSome (After trees had g b q)) is h))
    by false is h = subst (λ b. IsDirectory (After trees had g b p)) (sym is) (old p q at low (subst (λ b. IsSome (After trees had g b q)) is h))

fold_holds : (trees : ℕ → Tree) (top : PathValue) (gs : List Graft) (had : ReportedTree) → ((n : ℕ) → HoldsTogether [] (trees n)) → HoldsTogether top (reported_entries had) → HoldsTogether top (reported_entries (fold (with_graft trees top) had gs))
fold_holds trees top [] had hold old = old
fold_holds trees top (g ∷ gs) had hold old = fold_holds trees top gs (with_graft trees top had g) hold (step_holds trees top had g hold old)

pub all_hold : (trees : ℕ → Tree) (top : PathValue) (grafts : List Graft) → ((n : ℕ) → HoldsTogether [] (trees n)) → HoldsTogether top (reported_entries (reported trees top grafts))
all_hold trees top grafts hold = fold_holds trees top grafts (λ _. None) hold (λ p q at low some. absurd (false≢true some))
