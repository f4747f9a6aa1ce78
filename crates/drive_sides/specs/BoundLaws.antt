-- No path of a target tree is as long as its bound.
use Rattle.std.proofs.Common.{◌≡◌, arith, ◌+◌, ◌<◌, ◌≤◌, Bool, true, false, cond, ◌||◌, List, [], ◌∷◌, length, map, None, refl, sym, ap, ◌∙◌, ⊎_elim}
use Rattle.std.proofs.{lemmas.Bool.false≢true, lemmas.List.length-append}
use Rattle.std.specs.{FinMap.{keys, get, contains_key-keys}, List.list_any, Prelude.{IsSome, is_some}}
use Rattle.svnpath.specs.{PathLaws.same_path_is, Paths.{is_at_or_under, path_ties, PathValue, same_path}}
use Rattle.repo_api.specs.States.{RepoState, tree_at, TreeMap}
use Rattle.drive_visits.specs.Walks.{IsShorter}
use Rattle.reporter.specs.{Aims.aim_at, Targets.{WholeReport, drive_scope, new_tree}, declared.graft.Graft.Graft}
use Rattle.reporter.proofs.Aiming.{at_led, entry_stands, IsFront, IsLed}
use Rattle.drive_sides.specs.Bounds.{front_bound, names_altogether, path_bound}

-- a map has something at its keys alone
pub key_found : (m : TreeMap) (p : PathValue) → IsSome (get m p)
    → list_any (same_path p) (keys m) ≡ true
key_found m p some =
    (λ i. list_any (λ k. path_ties p k i) (keys m)) ∙ sym (contains_key-keys m p) ∙ some

same_length : (p q : PathValue) → same_path p q ≡ true → length p ≡ length q
same_length p q e = ap (λ x. length x) (same_path_is p q e)

short_path : (p : PathValue) (paths : List PathValue) → list_any (same_path p) paths ≡ true
    → length p ≤ names_altogether paths
short_path p [] h = absurd (false≢true h)
short_path p (q ∷ qs) h = by (same_path p q) refl h (short_path p qs)
  where
    by : (b : Bool) → same_path p q ≡ b → (b || list_any (same_path p) qs) ≡ true
        → (list_any (same_path p) qs ≡ true → length p ≤ names_altogether qs)
        → length p ≤ length q + names_altogether qs
    by true e f short = omega (same_length p q e, arith)
    by false e f short = omega (short f, arith)

-- a path that another is led from is short
short_front : (report : WholeReport) (front : PathValue) → IsFront report front
    → length front ≤ front_bound report
short_front report front is =
    ⊎_elim (λ target. omega (ap (λ x. length x) target, arith)) (λ among. omega (short_path front paths among, arith)) is
  where
    paths : List PathValue
    paths = map (λ (g : Graft). g.path) report.grafts

-- and so is what is led from it to what stands in the repository
short_led : (report : WholeReport) (m : TreeMap) (p from : PathValue) → IsLed report p from
    → IsSome (get m from) → length p ≤ front_bound report + names_altogether (keys m)
short_led report m p from so some =
    let whole = ap (λ x. length x) so.path ∙ length-append so.front so.rest in
    let there = ap (λ x. length x) so.led ∙ length-append so.base so.rest in
    let short = short_path from (keys m) (key_found m from some) in
    let front = short_front report so.front so.is in
    omega (whole, there, short, front, arith)

-- no path of what a client is to have is as long
pub new_is_shorter : (c : RepoState) (report : WholeReport)
    → IsShorter (new_tree c report) (path_bound c report)
new_is_shorter c report q some =
    by (drive_scope c report q) (is_at_or_under q report.ask.target) refl some
  where
    m : TreeMap
    m = tree_at c report.ask.revision

    by : (scope under : Bool) → is_at_or_under q report.ask.target ≡ under
        → is_some (cond scope (cond under (aim_at c report q).entry None) None) ≡ true
        → length q < path_bound c report
    by true true u h =
        let short = short_led report m q (aim_at c report q).from (at_led c report q u) (sym (ap is_some (entry_stands c report q u h)) ∙ h) in
        omega (short, arith)
    by true false u h = absurd (false≢true h)
    by false under u h = absurd (false≢true h)
