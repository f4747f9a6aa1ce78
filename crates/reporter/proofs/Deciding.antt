-- Which graft says what a client has at a path.
use Rattle.std.proofs.Common.{◌≡◌, ℕ, ◌+◌, ◌-◌, ◌<◌, ◌≤◌, arith, Bool, true, false, cond, ◌&&◌, ◌||◌, not, List, [], ◌∷◌, ◌++◌, length, drop, take, get_or}
use Rattle.std.proofs.{Common.{Option, Some, None, refl, sym, ap, ◌∙◌, subst, option_map, ⊎_elim, zero, suc}, lemmas.Bool.false≢true}
use Rattle.std.proofs.{lemmas.List.{take_more, length-append, length-take-le}, lemmas.List.Sums.fold-append}
use Rattle.std.specs.Prelude.{IsTrue, IsSomeAnd, is_some, option_and_then}
use Rattle.svnpath.specs.{PathLaws.{same_path_is, same_path_refl, under_is, under_itself}, Paths.{is_at_or_under, PathValue, same_path}}
use Rattle.repo_api.specs.{Soundness.AreTrees, States.{RepoState, Revision, trees_in}, Trees.{is_directory, Tree}}
use Rattle.drive_rules.specs.Scopes.{below, HoldsTogether}
use Rattle.drive_rules.proofs.{Joined.or_false, Entries.under_more}
use Rattle.reporter.specs.{Places.{AllHoldTogether, IsShownBy, is_grafted_over}, Reported.{ReportedEntry, ReportedTree, reported_entries, in_subtree, in_graft}}
use Rattle.reporter.specs.{Reported.{shown_by, has_directory, has_place, path_above, with_graft, is_surely_placed, reported}, declared.graft.Graft.Graft}
use Rattle.reporter.specs.declared.graft.Subtree.{Subtree}
use Rattle.reporter.proofs.{Drives.each_holds, Holding.{all_hold, comparable, longer_below, above_under, below_longer}}

-- one graft more
pub reported_more : (trees : ℕ → Tree) (top : PathValue) (gs : List Graft) (i : ℕ) (g : Graft) (q : PathValue) → i < length gs → g ≡ get_or gs i g
    → reported trees top (take (i + 1) gs) q ≡ with_graft trees top (reported trees top (take i gs)) g q
reported_more trees top gs i g q lt is =
    ap (λ xs. reported trees top xs q) (take_more gs i g lt ∙ ap (λ x. take i gs ++ x ∷ []) (sym is))
    ∙ ap (λ had. had q) (fold-append (with_graft trees top) (λ _. None) (take i gs) (g ∷ []))

and_no : (b : Bool) → (b && false) ≡ false
and_no true = refl
and_no false = refl

-- a path that is not under the graft's is as it was
pub stays_elsewhere : (trees : ℕ → Tree) (top : PathValue) (had : ReportedTree) (g : Graft) (q : PathValue) → is_at_or_under q g.path ≡ false
    → with_graft trees top had g q ≡ had q
stays_elsewhere trees top had g q out =
    ap (λ b. cond (has_place top had g.path && b) (in_graft trees g (drop (length g.path) q)) (had q)) out
    ∙ ap (λ b. cond b (in_graft trees g (drop (length g.path) q)) (had q)) (and_no (has_place top had g.path))

-- nor does a graft without a place change anything
pub stays_unplaced : (trees : ℕ → Tree) (top : PathValue) (had : ReportedTree) (g : Graft) (q : PathValue) → has_place top had g.path ≡ false
    → with_graft trees top had g q ≡ had q
stays_unplaced trees top had g q none =
    ap (λ b. cond (b && is_at_or_under q g.path) (in_graft trees g (drop (length g.path) q)) (had q)) none

-- a graft that has its place shows what is there
pub shows_placed : (trees : ℕ → Tree) (top : PathValue) (had : ReportedTree) (g : Graft) (q : PathValue) → is_at_or_under q g.path ≡ true → has_place top had g.path ≡ true
    → with_graft trees top had g q ≡ shown_by trees q (Some g)
shows_placed trees top had g q up place =
    ap (λ b. cond (b && is_at_or_under q g.path) (in_graft trees g (drop (length g.path) q)) (had q)) place
    ∙ ap (λ b. cond b (in_graft trees g (drop (length g.path) q)) (had q)) up
    ∙ sym (ap (λ b. cond b (in_graft trees g (drop (length g.path) q)) None) up)

length_above : (p : PathValue) → length (path_above p) ≡ length p - 1
length_above p = length-take-le (length p - 1) p (omega arith)

over_above : (p : PathValue) → is_at_or_under p (path_above p) ≡ true
over_above p = ap (λ n. same_path (path_above p) (take n p)) (length_above p) ∙ same_path_refl (path_above p)

pub under_length : (p q : PathValue) → is_at_or_under q p ≡ true → length p ≤ length q
under_length p q up =
    let long : length q ≡ length p + length (drop (length p) q) = ap length (under_is q p up) ∙ length-append p (drop (length p) q) in
    omega (long, arith)

-- where a graft of nothing has no place, nothing stands
none_without_place : (top : PathValue) (had : ReportedTree) (p q : PathValue) → HoldsTogether top (reported_entries had) → is_at_or_under p top ≡ true → is_at_or_under q p ≡ true → has_place top had p ≡ false
    → had q ≡ None
none_without_place top had p q holds at up none = by (had q) refl
  where
    not_top : same_path p top ≡ false
    not_top = first (same_path p top) none
      where
        first : (b : Bool) → (b || has_directory (had (path_above p))) ≡ false → b ≡ false
        first true e = absurd (false≢true (sym e))
        first false e = refl

    not_held : has_directory (had (path_above p)) ≡ false
    not_held = ap (λ b. b || has_directory (had (path_above p))) (sym not_top) ∙ none

    lower : below top p ≡ true
    lower = ap (λ b. is_at_or_under p top && not b) (other (same_path top p) refl) ∙ ap (λ b. b && true) at
      where
        other : (b : Bool) → same_path top p ≡ b → b ≡ false
        other true e = absurd (false≢true (sym not_top ∙ swap e))
          where
            swap : same_path top p ≡ true → same_path p top ≡ true
            swap e = subst (λ x. same_path x top ≡ true) (same_path_is top p e) (same_path_refl top)
        other false e = refl

    short : length (path_above p) < length p
    short = let long : length top < length p = below_longer top p lower in omega (length_above p, long, arith)

    held : below (path_above p) q ≡ true
    held = longer_below (path_above p) q (omega (short, under_length p q up, arith)) (under_more q p (path_above p) up (over_above p))

    directory : (o : Option ReportedEntry) → IsSomeAnd (option_map (λ (h : ReportedEntry). h.entry) o) (λ e. IsTrue (is_directory e)) → has_directory o ≡ true
    directory None h = absurd h
    directory (Some x) h = h

    by : (o : Option ReportedEntry) → had q ≡ o → o ≡ None
    by None e = refl
    by (Some x) e =
        absurd (false≢true (sym not_held ∙ directory (had (path_above p)) (holds (path_above p) q (above_under top p lower) held (ap (λ o. is_some (option_map (λ (h : ReportedEntry). h.entry) o)) e))))

-- a graft that is surely placed shows what is there
pub shows_surely : (trees : ℕ → Tree) (top : PathValue) (gs : List Graft) (g : Graft) (q : PathValue) → ((n : ℕ) → HoldsTogether [] (trees n)) → is_at_or_under q g.path ≡ true → is_surely_placed top g ≡ true
    → with_graft trees top (reported trees top gs) g q ≡ shown_by trees q (Some g)
shows_surely trees top gs g q hold up sure = by (has_place top (reported trees top gs) g.path) refl
  where
    had : ReportedTree
    had = reported trees top gs

    nothing : (o : Option Subtree) → not (is_some o) ≡ true → option_and_then (λ s. in_subtree trees g.from s (drop (length g.path) q)) o ≡ None
    nothing None e = refl
    nothing (Some s) e = absurd (false≢true e)

    parts : (a b c : Bool) → (a || (b && c)) ≡ true → a ≡ false → (b ≡ true) × (c ≡ true)
    parts true b c e f = absurd (false≢true (sym f))
    parts false true c e f = (refl, e)
    parts false false c e f = absurd (false≢true e)

    by : (b : Bool) → has_place top (reported trees top gs) g.path ≡ b → with_graft trees top (reported trees top gs) g q ≡ shown_by trees q (Some g)
    by true place = shows_placed trees top had g q up place
    by false none =
        stays_unplaced trees top had g q none
        ∙ none_without_place top had g.path q (all_hold trees top gs hold) both.1 up none
        ∙ sym (ap (λ b. cond b (in_graft trees g (drop (length g.path) q)) None) up ∙ nothing g.subtree both.0)
      where
        both : (not (is_some g.subtree) ≡ true) × (is_at_or_under g.path top ≡ true)
        both = parts (same_path g.path top) (not (is_some g.subtree)) (is_at_or_under g.path top) sure (or_false (same_path g.path top) (has_directory (had (path_above g.path))) none).0

-- the tree after so many grafts, by the last of them
pub by_last : (trees : ℕ → Tree) (top : PathValue) (gs : List Graft) (n : ℕ) (g : Graft) (q : PathValue) → 0 < n → n ≤ length gs → g ≡ get_or gs (n - 1) g
    → reported trees top (take n gs) q ≡ with_graft trees top (reported trees top (take (n - 1) gs)) g q
by_last trees top gs n g q some le is =
    let one : n ≡ n - 1 + 1 = omega (some, arith) in
    ap (λ m. reported trees top (take m gs) q) one ∙ reported_more trees top gs (n - 1) g q (omega (some, le, arith)) is

-- each tree of a repository holds together
pub all_trees_hold : (rs : List Revision) → AreTrees rs → AllHoldTogether rs
all_trees_hold rs trees n = each_holds rs n trees

-- ---- beneath a path

no_graft : (grafts : List Graft) (i : ℕ) (g : Graft) (p q : PathValue) → i < length grafts → g ≡ get_or grafts i g → is_grafted_over grafts p q ≡ false → (below p g.path && is_at_or_under q g.path) ≡ false
no_graft [] i g p q lt is none = absurd (omega (lt, arith))
no_graft (x ∷ gs) zero g p q lt is none =
    subst (λ (y : Graft). (below p y.path && is_at_or_under q y.path) ≡ false) (sym is) (or_false (below p x.path && is_at_or_under q x.path) (is_grafted_over gs p q) none).0
no_graft (x ∷ gs) (suc i) g p q lt is none = no_graft gs i g p q (omega (lt, arith)) is (or_false (below p x.path && is_at_or_under q x.path) (is_grafted_over gs p q) none).1

-- a graft that is not at or above a path, and not between it and another, is not at or above the other
pub not_over : (grafts : List Graft) (i : ℕ) (g : Graft) (p q : PathValue) → i < length grafts → g ≡ get_or grafts i g → is_grafted_over grafts p q ≡ false → is_at_or_under q p ≡ true → is_at_or_under p g.path ≡ false
    → is_at_or_under q g.path ≡ false
not_over grafts i g p q lt is none up out = by (is_at_or_under q g.path) refl
  where
    none_between : (below p g.path && is_at_or_under q g.path) ≡ false
    none_between = no_graft grafts i g p q lt is none

    by : (b : Bool) → is_at_or_under q g.path ≡ b → b ≡ false
    by false e = refl
    by true e =
        ⊎_elim (λ u. absurd (false≢true (sym out ∙ u)))
        (λ low. absurd (false≢true (sym none_between ∙ ap (λ b. b && is_at_or_under q g.path) low ∙ e)))
        (comparable p g.path q up e)

-- after so many grafts one of them says what the client has at a path, and beneath it where no other stands between
abbrev pub Shows : (ℕ → Tree) → PathValue → List Graft → ℕ → PathValue → Option Graft → Type 0
Shows trees top gs count p found =
    (q : PathValue) → is_at_or_under q p ≡ true → is_grafted_over gs p q ≡ false → reported trees top (take count gs) q ≡ shown_by trees q found

-- of so many grafts those behind the first n change nothing there
abbrev pub AreLater : (ℕ → Tree) → PathValue → List Graft → ℕ → PathValue → ℕ → Type 0
AreLater trees top gs count p n =
    (q : PathValue) → is_at_or_under q p ≡ true → is_grafted_over gs p q ≡ false → reported trees top (take count gs) q ≡ reported trees top (take n gs) q

none_itself : (gs : List Graft) (p : PathValue) → is_grafted_over gs p p ≡ false
none_itself [] p = refl
none_itself (g ∷ gs) p = ap (λ b. b || is_grafted_over gs p p) (by (below p g.path) refl (is_at_or_under p g.path) refl) ∙ none_itself gs p
  where
    by : (a : Bool) → below p g.path ≡ a → (b : Bool) → is_at_or_under p g.path ≡ b → (a && b) ≡ false
    by false e b f = refl
    by true e false f = refl
    by true e true f = absurd (omega (below_longer p g.path e, under_length g.path p f, arith))

pub shows_here : (trees : ℕ → Tree) (top : PathValue) (gs : List Graft) (count : ℕ) (p : PathValue) (found : Option Graft) → Shows trees top gs count p found
    → reported trees top (take count gs) p ≡ shown_by trees p found
shows_here trees top gs count p found shows = shows p (under_itself p) (none_itself gs p)

pub shows_both : (c : RepoState) (top : PathValue) (gs : List Graft) (count : ℕ) (p : PathValue) (found : Option Graft) → Shows (trees_in c.revisions) top gs count p found
    → IsShownBy c top (take count gs) gs p found
shows_both c top gs count p found shows = record { here = shows_here (trees_in c.revisions) top gs count p found shows; beneath = shows }

-- a graft with no place, or not at or above the path
pub later_by : (trees : ℕ → Tree) (top : PathValue) (gs : List Graft) (count : ℕ) (p : PathValue) (n : ℕ) (g : Graft) → AreLater trees top gs count p n → 0 < n → n ≤ length gs → g ≡ get_or gs (n - 1) g
    → ((q : PathValue) → is_at_or_under q p ≡ true → is_grafted_over gs p q ≡ false → with_graft trees top (reported trees top (take (n - 1) gs)) g q ≡ reported trees top (take (n - 1) gs) q)
    → AreLater trees top gs count p (n - 1)
later_by trees top gs count p n g later some le is stays q up none = later q up none ∙ by_last trees top gs n g q some le is ∙ stays q up none

pub later_elsewhere : (trees : ℕ → Tree) (top : PathValue) (gs : List Graft) (count : ℕ) (p : PathValue) (n : ℕ) (g : Graft) → AreLater trees top gs count p n → 0 < n → n ≤ length gs → g ≡ get_or gs (n - 1) g
    → is_at_or_under p g.path ≡ false → AreLater trees top gs count p (n - 1)
later_elsewhere trees top gs count p n g later some le is out =
    later_by trees top gs count p n g later some le is
    (λ q up none. stays_elsewhere trees top (reported trees top (take (n - 1) gs)) g q (not_over gs (n - 1) g p q (omega (some, le, arith)) is none up out))

pub later_unplaced : (trees : ℕ → Tree) (top : PathValue) (gs : List Graft) (count : ℕ) (p : PathValue) (n : ℕ) (g : Graft) → AreLater trees top gs count p n → 0 < n → n ≤ length gs → g ≡ get_or gs (n - 1) g
    → has_place top (reported trees top (take (n - 1) gs)) g.path ≡ false → AreLater trees top gs count p (n - 1)
later_unplaced trees top gs count p n g later some le is none_there =
    later_by trees top gs count p n g later some le is (λ q up none. stays_unplaced trees top (reported trees top (take (n - 1) gs)) g q none_there)

pub last_surely : (trees : ℕ → Tree) (top : PathValue) (gs : List Graft) (count : ℕ) (p : PathValue) (n : ℕ) (g : Graft) → ((m : ℕ) → HoldsTogether [] (trees m)) → AreLater trees top gs count p n → 0 < n → n ≤ length gs
    → g ≡ get_or gs (n - 1) g → is_at_or_under p g.path ≡ true → is_surely_placed top g ≡ true → Shows trees top gs count p (Some g)
last_surely trees top gs count p n g hold later some le is over sure q up none =
    later q up none ∙ by_last trees top gs n g q some le is ∙ shows_surely trees top (take (n - 1) gs) g q hold (under_more q p g.path up over) sure

pub last_placed : (trees : ℕ → Tree) (top : PathValue) (gs : List Graft) (count : ℕ) (p : PathValue) (n : ℕ) (g : Graft) → AreLater trees top gs count p n → 0 < n → n ≤ length gs
    → g ≡ get_or gs (n - 1) g → is_at_or_under p g.path ≡ true → has_place top (reported trees top (take (n - 1) gs)) g.path ≡ true → Shows trees top gs count p (Some g)
last_placed trees top gs count p n g later some le is over place q up none =
    later q up none ∙ by_last trees top gs n g q some le is ∙ shows_placed trees top (reported trees top (take (n - 1) gs)) g q (under_more q p g.path up over) place

pub none_shown : (trees : ℕ → Tree) (top : PathValue) (gs : List Graft) (count : ℕ) (p : PathValue) (n : ℕ) → AreLater trees top gs count p n → n ≡ 0 → Shows trees top gs count p None
none_shown trees top gs count p n later none q up free = later q up free ∙ ap (λ m. reported trees top (take m gs) q) none

-- a graft has its place in a directory, whether or not it is surely placed
pub placed_in : (top : PathValue) (had : ReportedTree) (g : Graft) → has_directory (had (path_above g.path)) ≡ true → has_place top had g.path ≡ true
placed_in top had g dir = by (same_path g.path top)
  where
    by : (b : Bool) → (b || has_directory (had (path_above g.path))) ≡ true
    by true = refl
    by false = dir

pub unplaced_in : (top : PathValue) (had : ReportedTree) (g : Graft) → is_surely_placed top g ≡ false → has_directory (had (path_above g.path)) ≡ false → has_place top had g.path ≡ false
unplaced_in top had g unsure none =
    ap (λ b. b || has_directory (had (path_above g.path))) (or_false (same_path g.path top) (not (is_some g.subtree) && is_at_or_under g.path top) unsure).0 ∙ none

-- whether it is in a directory, by the graft that says what the client has there
pub held_by : (trees : ℕ → Tree) (top : PathValue) (gs : List Graft) (g : Graft) (p : PathValue) (found : Option Graft) (b : Bool) → p ≡ path_above g.path → reported trees top gs p ≡ shown_by trees p found
    → b ≡ has_directory (shown_by trees p found) → has_directory (reported trees top gs (path_above g.path)) ≡ b
held_by trees top gs g p found b is here answers = ap (λ x. has_directory (reported trees top gs x)) (sym is) ∙ ap has_directory here ∙ sym answers
