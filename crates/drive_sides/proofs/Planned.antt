-- The plan of a drive.
use Rattle.std.proofs.Common.{◌≡◌, ◌==◌, ◌+◌, not, option_map, Bool, true, false, cond, ◌&&◌, ◌||◌, List, [], ◌∷◌, length, Option, Some, None, Ok, refl, sym}
use Rattle.std.proofs.{Common.{ap, ◌∙◌, subst}, lemmas.Bool.false≢true}
use Rattle.drive_rules.proofs.Joined.{or_right}
use Rattle.std.specs.Prelude.{ok_or, is_some, IsSomeAnd, IsTrue}
use Rattle.svnpath.specs.{PathLaws.{same_path_is, same_path_refl}, Paths.{is_at_or_under, PathValue, same_path}}
use Rattle.refusals.specs.declared.Refusal.TheVariants as refusals
use Rattle.repo_api.specs.{Soundness.AreTrees, States.{RepoState, trees_in}, Trees.{HasDirectory, is_directory, is_directory_there}, declared.entry.Entry.Entry}
use Rattle.drive_rules.specs.{Places.is_in_directory, Drives.{IsInBoth, IsOfOneKind}, Scopes.{below, scope_of, under}}
use Rattle.reporter.specs.{Sent.counts_of, Refusing.{OpenState, ◌>>=◌, ok_if, has_goal, has_anchor, finish_root}, Reported.{ReportedEntry, reported_entries}}
use Rattle.reporter.specs.{Aims.aim_at, Targets.{WholeReport, client_entries, client_tree, counted_entries, depth_inherited, drive_limit, drive_scope, due_in}}
use Rattle.reporter.specs.{Targets.{reported_tree, is_apart, is_hidden, old_tree, new_tree, target_entries}, declared.report.ReportRoot.ReportRoot}
use Rattle.drive_news.specs.News.{own_steps_of}
use Rattle.drive_visits.specs.{Left.{IsRootPlan, IsTopPlan}, Nesting.AreNested, Visits.{IsRightPlan, Visit}, Walks.BothHold, Visits.Visit.Open}
use Rattle.reporter.proofs.{Aiming.{apart_under, both_directories, one_kind, other_stays, root_entry, root_stays, stays_kind}, Drives.both_hold}
use Rattle.reporter.specs.Reported as reported
use Rattle.drive_sides.specs.Plans.{IsPlan, drive_trees, whole}

-- ---- what is known of a report that has come to its end

and_first : (a b : Bool) → (a && b) ≡ true → a ≡ true
and_first true b h = refl
and_first false b h = absurd (false≢true h)

and_second : (a b : Bool) → (a && b) ≡ true → b ≡ true
and_second true b h = h
and_second false b h = absurd (false≢true h)

pub anchored : (c : RepoState) (report : OpenState) (root : ReportRoot) → finish_root c report ≡ Ok root → has_anchor c report.ask report.grafts ≡ true
anchored c report root h = by report.root (has_goal c report.ask report.ask.purpose) (has_anchor c report.ask report.grafts) h
  where
    by : (o : Option ReportRoot) (a b : Bool) → (ok_or o refusals.MalformedData >>= (λ r. ok_if (a && b) refusals.NotFound >>= (λ _. Ok r))) ≡ Ok root → b ≡ true
    by None a b h = cc
    by (Some r) true true h = refl
    by (Some r) true false h = cc
    by (Some r) false b h = cc

both_anchors : (c : RepoState) (report : OpenState) (root : ReportRoot) → finish_root c report ≡ Ok root → same_path report.ask.target [] ≡ true
    → (is_directory_there (trees_in c.revisions report.ask.revision report.ask.goal) && reported.has_directory (reported_tree c report.ask report.grafts [])) ≡ true
both_anchors c report root h top =
    sym (ap (λ b. cond b (is_directory_there (trees_in c.revisions report.ask.revision report.ask.goal) && reported.has_directory (reported_tree c report.ask report.grafts []))
    (report.ask.is_of_today || is_directory_there (trees_in c.revisions report.ask.revision report.ask.anchor))) top)
    ∙ anchored c report root h

-- the root stands on both sides where there is no target
scope_root : (c : RepoState) (report : OpenState) (root : ReportRoot) → report.ask.target ≡ [] → drive_scope c (whole report root) [] ≡ true
scope_root c report root is =
    ap (λ (t : PathValue). scope_of (is_hidden c (whole report root)) (depth_inherited report.ask) (drive_limit c (whole report root)) (counted_entries c (whole report root)) (target_entries c (whole report root)) t []) is

same_root : (target : PathValue) → target ≡ [] → same_path target [] ≡ true
same_root target is = ap (λ t. same_path t []) is

of_entries : (o : Option ReportedEntry) → reported.has_directory o ≡ true → is_directory_there (option_map (λ (h : ReportedEntry). h.entry) o) ≡ true
of_entries None h = h
of_entries (Some x) h = h

pub root_old : (c : RepoState) (report : OpenState) (root : ReportRoot) → finish_root c report ≡ Ok root → report.ask.target ≡ [] → is_directory_there (old_tree c (whole report root) []) ≡ true
root_old c report root done is =
    ap (λ b. is_directory_there (cond b (reported_entries (client_tree c (whole report root)) []) None)) (scope_root c report root is)
    ∙ of_entries (client_tree c (whole report root) []) (and_second (is_directory_there (trees_in c.revisions report.ask.revision report.ask.goal)) (reported.has_directory (reported_tree c report.ask report.grafts [])) (both_anchors c report root done (same_root report.ask.target is)))

root_led : (c : RepoState) (report : OpenState) (root : ReportRoot) → finish_root c report ≡ Ok root → report.ask.target ≡ [] → is_directory_there (aim_at c (whole report root) []).entry ≡ true
root_led c report root done is =
    ap is_directory_there (root_entry c (whole report root) is)
    ∙ and_first (is_directory_there (trees_in c.revisions report.ask.revision report.ask.goal)) (reported.has_directory (reported_tree c report.ask report.grafts [])) (both_anchors c report root done (same_root report.ask.target is))

pub root_new : (c : RepoState) (report : OpenState) (root : ReportRoot) → finish_root c report ≡ Ok root → report.ask.target ≡ [] → is_directory_there (new_tree c (whole report root) []) ≡ true
root_new c report root done is =
    ap (λ b. is_directory_there (cond b (target_entries c (whole report root) []) None)) (scope_root c report root is)
    ∙ ap (λ b. is_directory_there (cond b (aim_at c (whole report root) []).entry None)) (ap (is_at_or_under []) is)
    ∙ root_led c report root done is

pub directory_of : (o : Option Entry) → is_directory_there o ≡ true → IsSomeAnd o (λ e. IsTrue (is_directory e))
directory_of None h = absurd (false≢true h)
directory_of (Some e) h = h

and_nothing : (b : Bool) → (b && false) ≡ false
and_nothing true = refl
and_nothing false = refl

-- the root stays where there is no target
pub root_kept : (c : RepoState) (report : OpenState) (root : ReportRoot) → finish_root c report ≡ Ok root → report.ask.target ≡ [] → is_apart c (whole report root) [] ≡ false
root_kept c report root done is =
    ap (λ s. is_some (old_tree c (whole report root) []) && not s) (root_stays c (whole report root) is (directory_of (client_entries c (whole report root) []) had) (directory_of (aim_at c (whole report root) []).entry (root_led c report root done is)))
    ∙ and_nothing (is_some (old_tree c (whole report root) []))
  where
    had : is_directory_there (client_entries c (whole report root) []) ≡ true
    had =
        of_entries (client_tree c (whole report root) [])
        (and_second (is_directory_there (trees_in c.revisions report.ask.revision report.ask.goal)) (reported.has_directory (reported_tree c report.ask report.grafts [])) (both_anchors c report root done (same_root report.ask.target is)))

-- ---- plans

abbrev pub IsRightFor : RepoState → WholeReport → PathValue → List Visit → Type 0
IsRightFor c report top visits = IsRightPlan (counts_of report.ask.purpose) (under top) (due_in c report) (is_apart c report) (old_tree c report) (new_tree c report) (own_steps_of c report) visits

-- what is in scope is there
scoped : (b : Bool) (o : Option Entry) → is_some (cond b o None) ≡ true → b ≡ true
scoped true o h = refl
scoped false o h = absurd (false≢true h)

still : (a b : Bool) → a ≡ true → (a && not b) ≡ false → b ≡ true
still a true h k = refl
still true false h k = absurd (false≢true (sym k))
still false false h k = absurd (false≢true h)

gone : (a b : Bool) → (a && not b) ≡ true → (a ≡ true) × (b ≡ false)
gone true true h = absurd (false≢true h)
gone true false h = (refl, refl)
gone false b h = absurd (false≢true h)

-- what is had in scope, and what is to be
old_is : (c : RepoState) (report : WholeReport) (q : PathValue) → drive_scope c report q ≡ true → old_tree c report q ≡ client_entries c report q
old_is c report q scope = ap (λ b. cond b (client_entries c report q) None) scope

new_is : (c : RepoState) (report : WholeReport) (q : PathValue) → drive_scope c report q ≡ true → is_at_or_under q report.ask.target ≡ true → new_tree c report q ≡ (aim_at c report q).entry
new_is c report q scope at =
    ap (λ b. cond b (target_entries c report q) None) scope ∙ ap (λ b. cond b (aim_at c report q).entry None) at

-- what is on both sides and is not apart keeps its kind
kept_kind : (c : RepoState) (report : WholeReport) (q : PathValue) → is_at_or_under q report.ask.target ≡ true → IsInBoth (old_tree c report) (new_tree c report) q → is_apart c report q ≡ false
    → IsOfOneKind (old_tree c report) (new_tree c report) q
kept_kind c report q at both stays =
    subst (λ o. IsSomeAnd o (λ e. IsSomeAnd (new_tree c report q) (λ f. is_directory e ≡ is_directory f))) (sym (old_is c report q scope))
    (subst (λ n. IsSomeAnd (client_entries c report q) (λ e. IsSomeAnd n (λ f. is_directory e ≡ is_directory f))) (sym (new_is c report q scope at))
    (one_kind (client_entries c report q) (aim_at c report q).entry
    (stays_kind c report q at (still (is_some (old_tree c report q)) (aim_at c report q).stays both.0 stays))))
  where
    scope : drive_scope c report q ≡ true
    scope = scoped (drive_scope c report q) (client_entries c report q) both.0

-- what is on both sides beneath what is apart is apart
apart_too : (c : RepoState) (report : WholeReport) (q x : PathValue) → AreTrees c.revisions → is_at_or_under q report.ask.target ≡ true → is_apart c report q ≡ true → is_at_or_under x q ≡ true
    → IsInBoth (old_tree c report) (new_tree c report) x → (aim_at c report x).stays ≡ false
apart_too c report q x trees at apart up both = by report.ask.is_of_today refl (same_path q x) refl
  where
    goes : (is_some (old_tree c report q) ≡ true) × ((aim_at c report q).stays ≡ false)
    goes = gone (is_some (old_tree c report q)) (aim_at c report q).stays apart

    scope : drive_scope c report q ≡ true
    scope = scoped (drive_scope c report q) (client_entries c report q) goes.0

    -- a directory on both sides stays
    stays : report.ask.is_of_today ≡ false → HasDirectory (old_tree c report) q → HasDirectory (new_tree c report) q → (aim_at c report q).stays ≡ true
    stays other old new =
        other_stays c report q other
        ∙ both_directories (client_entries c report q) (aim_at c report q).entry (subst (λ o. IsSomeAnd o (λ e. IsTrue (is_directory e))) (old_is c report q scope) old)
        (subst (λ o. IsSomeAnd o (λ e. IsTrue (is_directory e))) (new_is c report q scope at) new)

    by : (today : Bool) → report.ask.is_of_today ≡ today → (b : Bool) → same_path q x ≡ b → (aim_at c report x).stays ≡ false
    by true today b same = apart_under c report q x today at up goes.1
    by false other true same = subst (λ y. (aim_at c report y).stays ≡ false) (same_path_is q x same) goes.1
    by false other false same =
        absurd (false≢true (sym goes.1 ∙ stays other ((both_hold c report trees).0 q x at low both.0) ((both_hold c report trees).1 q x at low both.1)))
      where
        low : below q x ≡ true
        low = ap (λ b. b && not (same_path q x)) up ∙ ap (λ b. true && not b) same

pub both_sides : (c : RepoState) (report : WholeReport) → AreTrees c.revisions → BothHold (is_apart c report) (old_tree c report) (new_tree c report) report.ask.target
both_sides c report trees = record {
  old_holds = (both_hold c report trees).0;
  new_holds = (both_hold c report trees).1;
  of_one_kind = λ q at both stays. kept_kind c report q at both stays;
  all_apart = λ q x at a up both.
      ap (λ b. b && not (aim_at c report x).stays) both.0 ∙ ap (λ b. true && not b) (apart_too c report q x trees at a up both);
}

-- of the whole tree
pub root_plan : (c : RepoState) (report : WholeReport) (visits : List Visit) → AreTrees c.revisions → report.ask.target ≡ [] → IsRootPlan (drive_trees c report) visits → IsPlan c report visits
root_plan c report visits trees is plan = record {
  right = subst (λ (t : PathValue). IsRightFor c report t (cond (same_path t []) (Open [] true ∷ visits) visits)) (sym is) (plan.right (subst (BothHold (is_apart c report) (old_tree c report) (new_tree c report)) is (both_sides c report trees)));
  nests = subst (λ (t : PathValue). AreNested (new_tree c report) t [] visits) (sym is) plan.nests;
}

-- of a target
pub target_plan : (c : RepoState) (report : WholeReport) (visits : List Visit) → AreTrees c.revisions → same_path report.ask.target [] ≡ false
    → IsTopPlan (drive_trees c report) report.ask.target visits → IsPlan c report visits
target_plan c report visits trees apart plan = record {
  right = subst (λ b. IsRightFor c report report.ask.target (cond b (Open [] true ∷ visits) visits)) (sym apart) (plan.right (both_sides c report trees));
  nests = plan.nests [] inside;
}
  where
    inside : is_in_directory report.ask.target [] report.ask.target ≡ true
    inside = or_right (is_at_or_under report.ask.target [] && (length report.ask.target == 0 + 1)) (same_path report.ask.target report.ask.target && not (same_path report.ask.target []))
        (ap (λ b. b && not (same_path report.ask.target [])) (same_path_refl report.ask.target) ∙ ap not apart)

pub not_root : (target : PathValue) (b : Bool) → (target ≡ [] → b ≡ true) → b ≡ false → same_path target [] ≡ false
not_root [] b h e = absurd (false≢true (sym e ∙ h refl))
not_root (c ∷ target) b h e = refl
