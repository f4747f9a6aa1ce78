-- The two trees of a drive hold together.
use Rattle.std.proofs.Common.{◌≡◌, arith, ℕ, zero, suc, ◌+◌, Bool, true, false, cond, ◌&&◌, ◌||◌, not, List, [], ◌∷◌, ◌++◌, length, drop, Option, None, refl}
use Rattle.std.proofs.{Common.{sym, ap, ◌∙◌, subst, if◌then◌else◌}, lemmas.Bool.false≢true, lemmas.List.{length-append, append_assoc}}
use Rattle.std.specs.{Prelude.{IsTrue, IsSome, IsSomeAnd, is_some, option_and_then, slice_get}, FinMap.get-empty}
use Rattle.svnpath.specs.{PathLaws.{rest_append, under_append, under_is}, Paths.{is_at_or_under, path_cmp, PathValue}}
use Rattle.repo_api.specs.{Soundness.AreTrees, States.{RepoState, Revision, tree_in, tree_of, trees_in}, Trees.{HasDirectory, is_directory}}
use Rattle.repo_api.specs.declared.entry.Entry.{Entry}
use Rattle.drive_rules.specs.Scopes.{below, HoldsTogether}
use Rattle.drive_rules.proofs.{Entries.below_under, Joined.and_front, Trees.{tree_holds, scope_holds}}
use Rattle.small_rules.specs.GivingWay.{gives_way}
use Rattle.reporter.specs.{Aims.{aim_at, are_of_one_kind}, Reported.{ReportedEntry, reported_entries}}
use Rattle.reporter.specs.{Wholes.{WholeReport, client_tree, goal_path, target_tree}, Targets.{client_entries, counted_entries, depth_inherited, drive_limit}}
use Rattle.reporter.specs.Targets.{drive_scope, is_apart, is_hidden, is_stale, is_stale_token, new_tree, old_tree, target_entries}
use Rattle.reporter.specs.declared.ask.DriveAsk.{DriveAsk}
use Rattle.reporter.proofs.{Aiming.{gives_or_stays, other_entry, other_from, other_stays, today_holds}, Holding.{all_hold, longer_below, below_longer}}

none_holds : (top : PathValue) → HoldsTogether top (tree_of (tree_in None))
none_holds top p q at low some = absurd (false≢true (sym (ap is_some (get-empty path_cmp q)) ∙ some))

pub each_holds : (rs : List Revision) (n : ℕ) → AreTrees rs → HoldsTogether [] (tree_of (tree_in (slice_get rs n)))
each_holds [] n trees = none_holds []
each_holds (r ∷ rs) zero trees = tree_holds (tree_of r.tree) trees.0
each_holds (r ∷ rs) (suc n) trees = each_holds rs n trees.1

pub revisions_hold : (c : RepoState) → AreTrees c.revisions → (n : ℕ) → HoldsTogether [] (trees_in c.revisions n)
revisions_hold c trees n = each_holds c.revisions n trees

-- the goal's subtree, at the target
target_holds : (c : RepoState) (ask : DriveAsk) → AreTrees c.revisions → HoldsTogether ask.target (target_tree c ask)
target_holds c ask trees p q at low some = by (is_at_or_under q ask.target) some
  where
    up : is_at_or_under q p ≡ true
    up = below_under p q low

    rest_is : goal_path ask q ≡ goal_path ask p ++ drop (length p) q
    rest_is =
        ap (λ cs. ask.goal ++ cs) (ap (drop (length ask.target)) (under_is q p up ∙ ap (λ y. y ++ drop (length p) q) (under_is p ask.target at) ∙ append_assoc ask.target (drop (length ask.target) p) (drop (length p) q))
        ∙ rest_append ask.target (drop (length ask.target) p ++ drop (length p) q))
        ∙ sym (append_assoc ask.goal (drop (length ask.target) p) (drop (length p) q))

    lower : below (goal_path ask p) (goal_path ask q) ≡ true
    lower =
        let long : length q ≡ length p + length (drop (length p) q) = ap length (under_is q p up) ∙ length-append p (drop (length p) q) in
        let goal : length (goal_path ask q) ≡ length (goal_path ask p) + length (drop (length p) q) = ap length rest_is ∙ length-append (goal_path ask p) (drop (length p) q) in
        longer_below (goal_path ask p) (goal_path ask q) (omega (long, goal, below_longer p q low, arith)) (subst (λ y. is_at_or_under y (goal_path ask p) ≡ true) (sym rest_is) (under_append (goal_path ask p) (drop (length p) q)))

    by : (b : Bool) → IsSome (if b then trees_in c.revisions ask.revision (goal_path ask q) else None) → HasDirectory (target_tree c ask) p
    by true h =
        subst (λ b. IsSomeAnd (cond b (trees_in c.revisions ask.revision (goal_path ask p)) None) (λ e. IsTrue (is_directory e))) (sym at)
        (revisions_hold c trees ask.revision (goal_path ask p) (goal_path ask q) refl lower h)
    by false h = absurd (false≢true h)

-- where a client of the other kind is led, the goal's subtree is to stand
pub other_target : (c : RepoState) (report : WholeReport) (q : PathValue) → report.ask.is_of_today ≡ false → target_entries c report q ≡ target_tree c report.ask q
other_target c report q other = ap (λ o. cond (is_at_or_under q report.ask.target) o None) (other_entry c report q other)

-- what is to stand, of either kind of client
pub entries_hold : (c : RepoState) (report : WholeReport) → AreTrees c.revisions → HoldsTogether report.ask.target (target_entries c report)
entries_hold c report trees = by report.ask.is_of_today refl
  where
    by : (b : Bool) → report.ask.is_of_today ≡ b → HoldsTogether report.ask.target (target_entries c report)
    by true today = today_holds c report today
    by false other = subst (HoldsTogether report.ask.target) (λ i q. sym (other_target c report q other) i) (target_holds c report.ask trees)

pub both_hold : (c : RepoState) (report : WholeReport) → AreTrees c.revisions
    → HoldsTogether report.ask.target (old_tree c report) × HoldsTogether report.ask.target (new_tree c report)
both_hold c report trees = (
  scope_holds (is_hidden c report) (depth_inherited report.ask) (drive_limit c report) (counted_entries c report) (target_entries c report) (reported_entries (client_tree c report)) report.ask.target
      (all_hold (trees_in c.revisions) report.ask.target report.grafts (revisions_hold c trees)),
  scope_holds (is_hidden c report) (depth_inherited report.ask) (drive_limit c report) (counted_entries c report) (target_entries c report) (target_entries c report) report.ask.target (entries_hold c report trees),
)

-- ---- every other client

-- what does not stay gives way
pub other_apart : (c : RepoState) (report : WholeReport) (q : PathValue) → report.ask.is_of_today ≡ false → is_apart c report q ≡ gives_way (old_tree c report q) (new_tree c report q)
other_apart c report q other = by (drive_scope c report q) refl
  where
    had : Option Entry
    had = client_entries c report q

    stays : (aim_at c report q).stays ≡ are_of_one_kind had (aim_at c report q).entry
    stays = other_stays c report q other

    to_be : drive_scope c report q ≡ true → target_entries c report q ≡ (aim_at c report q).entry
    to_be scope = ap (λ b. cond b (aim_at c report q).entry None) (and_front (is_at_or_under q report.ask.target) _ scope)

    by : (b : Bool) → drive_scope c report q ≡ b → (is_some (cond b had None) && not (aim_at c report q).stays) ≡ gives_way (cond b had None) (cond b (target_entries c report q) None)
    by true scope =
        ap (λ s. is_some had && not s) stays ∙ gives_or_stays had (aim_at c report q).entry ∙ ap (gives_way had) (sym (to_be scope))
    by false scope = refl

-- and a token is judged beneath the goal
pub other_stale : (c : RepoState) (report : WholeReport) (q : PathValue) → report.ask.is_of_today ≡ false
    → is_stale c report q ≡ is_stale_token c.locks (goal_path report.ask q) (target_tree c report.ask q) (option_and_then (λ (h : ReportedEntry). h.token) (client_tree c report q))
other_stale c report q other =
    ap (λ b. (not b || (aim_at c report q).stays) && is_stale_token c.locks (aim_at c report q).from (target_entries c report q) (option_and_then (λ (h : ReportedEntry). h.token) (client_tree c report q))) other
    ∙ ap (λ p. is_stale_token c.locks p (target_entries c report q) (option_and_then (λ (h : ReportedEntry). h.token) (client_tree c report q))) (other_from c report q other)
    ∙ ap (λ e. is_stale_token c.locks (goal_path report.ask q) e (option_and_then (λ (h : ReportedEntry). h.token) (client_tree c report q))) (other_target c report q other)
