-- Where two directories differ by no other names, the others are left out.
use Rattle.std.proofs.Common.{◌≡◌, ◌⊎◌, inl, inr, ⊎_elim, Bool, true, false, not, ◌||◌, List, [], ◌∷◌, ◌++◌, is_some, Result, Ok, Err, refl, sym, ap, ◌∙◌}
use Rattle.std.proofs.{Common.subst, lemmas.Bool.{false≢true, or_left, or_right}, lemmas.List.append_assoc, lemmas.List.Folds.list_any-append}
use Rattle.std.specs.Prelude.{if◌then◌else◌, IsSome, OnOk}
use Rattle.svnpath.specs.{PathLaws.same_component_is, Paths.{Component, is_at_or_under, PathValue, same_component}}
use Rattle.repo_api.specs.{Histories.history_of, Readings.{is_name_among, IsSameAt, names_at}, States.{RepoState, tree_at}}
use Rattle.history.specs.{Lines.line_start, Logs.place_at}
use Rattle.drive_visits.specs.Walks.{AreAlike, LeavesUnlike, WalkedTrees}
use Rattle.drive_visits.proofs.Children.{children_all, children_are}
use Rattle.reporter.specs.{Places.AllHoldTogether, Targets.{WholeReport, new_tree, old_tree}, declared.ask.DriveAsk.DriveAsk}
use Rattle.drive_sides.specs.{Lines.{KeepsLines, KeepsLinesBeside}, Names.{AreDistinct, children_of}, Pairs.{HasNoGraft, IsPairBeside}, Plans.drive_trees}
use Rattle.drive_sides.specs.{Unlike.{AreUnlikeBy, HoldUnlike}, declared.pairs.EntryPair.EntryPair}
use Rattle.drive_sides.proofs.{Naming.among_there, SameBeneath.alike_in_pair}

-- ---- lines

-- what is beneath two places by another name keeps its lines
pub lines_by : (names : List Component) (s : RepoState) (ask : DriveAsk) (n m : _) (p q : PathValue) (x : Component) → is_name_among names x ≡ false
    → KeepsLinesBeside names s ask (place_at n p) (place_at m q) → KeepsLines s ask (place_at n (p ++ x ∷ [])) (place_at m (q ++ x ∷ []))
lines_by names s ask n m p q x other keeps counts rest =
    ap (λ y. line_start (history_of s) (place_at n y)) (append_assoc p (x ∷ []) rest)
    ∙ keeps counts (x ∷ rest) (ap not other)
    ∙ sym (ap (λ y. line_start (history_of s) (place_at m y)) (append_assoc q (x ∷ []) rest))

-- so directories that differ by no other names, and keep their lines but for these, are unlike by them
pub unlike_by : (names found : List Component) (s : RepoState) (ask : DriveAsk) (pair : EntryPair) → ((x : Component) → is_name_among found x ≡ true → is_name_among names x ≡ true)
    → ((x : Component) → (is_name_among found x ≡ true) ⊎ IsSameAt s pair.revision (pair.old.now ++ x ∷ []) ask.revision (pair.new.now ++ x ∷ []))
    → KeepsLinesBeside names s ask (place_at pair.revision pair.old.now) (place_at ask.revision pair.new.now) → AreUnlikeBy names s ask pair
unlike_by names found s ask pair put same keeps x = by (is_name_among names x) refl
  where
    by : (b : Bool) → is_name_among names x ≡ b → (is_name_among names x ≡ true)
        ⊎ (IsSameAt s pair.revision (pair.old.now ++ x ∷ []) ask.revision (pair.new.now ++ x ∷ [])
        × KeepsLines s ask (place_at pair.revision (pair.old.now ++ x ∷ [])) (place_at ask.revision (pair.new.now ++ x ∷ [])))
    by true is = inl is
    by false is =
        ⊎_elim (λ among. inl (put x among)) (λ equal. inr (equal, lines_by names s ask pair.revision ask.revision pair.old.now pair.new.now x is keeps)) (same x)

-- what is so whatever a call gives is so where it gives something
pub whatever : {T E P : Type 0} (r : Result T E) → P → OnOk r P
whatever (Ok x) p = p
whatever (Err e) p = tt

-- a name that is not there now was not there before
pub not_before : (old new : Bool) → (old ≡ true → new ≡ true) → new ≡ false → old ≡ false
not_before true new keeps out = absurd (false≢true (sym out ∙ keeps refl))
not_before false new keeps out = refl

-- ---- names

-- names, and those of others that are not among them
abbrev with_missing : List Component → List Component → List Component
with_missing names [] = names
with_missing names (n ∷ ns) = if is_name_among (with_missing names ns) n then with_missing names ns else n ∷ with_missing names ns

all_distinct : (names ns : List Component) → AreDistinct names → AreDistinct (with_missing names ns)
all_distinct names [] distinct = distinct
all_distinct names (n ∷ ns) distinct = by (is_name_among (with_missing names ns) n) refl (all_distinct names ns distinct)
  where
    by : (b : Bool) → is_name_among (with_missing names ns) n ≡ b → AreDistinct (with_missing names ns)
        → AreDistinct (if b then with_missing names ns else n ∷ with_missing names ns)
    by true is rest = rest
    by false is rest = (is, rest)

still_among : (names ns : List Component) (x : Component) → is_name_among names x ≡ true → is_name_among (with_missing names ns) x ≡ true
still_among names [] x among = among
still_among names (n ∷ ns) x among = by (is_name_among (with_missing names ns) n) (still_among names ns x among)
  where
    by : (b : Bool) → is_name_among (with_missing names ns) x ≡ true → is_name_among (if b then with_missing names ns else n ∷ with_missing names ns) x ≡ true
    by true rest = rest
    by false rest = or_right (same_component x n) (is_name_among (with_missing names ns) x) rest

now_among : (names ns : List Component) (x : Component) → is_name_among ns x ≡ true → is_name_among (with_missing names ns) x ≡ true
now_among names [] x among = absurd (false≢true among)
now_among names (n ∷ ns) x among =
    by (λ other. now_among names ns x (sym (ap (λ b. b || is_name_among ns x) other) ∙ among)) (is_name_among (with_missing names ns) n) refl (same_component x n) refl
  where
    by : (same_component x n ≡ false → is_name_among (with_missing names ns) x ≡ true) → (b : Bool) → is_name_among (with_missing names ns) n ≡ b → (e : Bool)
        → same_component x n ≡ e → is_name_among (if b then with_missing names ns else n ∷ with_missing names ns) x ≡ true
    by rest true is true same = subst (λ y. is_name_among (with_missing names ns) y ≡ true) (sym (same_component_is x n same)) is
    by rest true is false other = rest other
    by rest false is true same = or_left (same_component x n) (is_name_among (with_missing names ns) x) same
    by rest false is false other = or_right (same_component x n) (is_name_among (with_missing names ns) x) (rest other)

-- what is left of some paths is left of those with the missing ones, where all is alike at these
all_left : (t : WalkedTrees) (p : PathValue) (names ns : List Component) (left : List PathValue)
    → ((x : Component) → is_name_among names x ≡ false → AreAlike t (p ++ x ∷ []))
    → LeavesUnlike t (children_of p names) left → LeavesUnlike t (children_of p (with_missing names ns)) left
all_left t p names [] left alike leaves = leaves
all_left t p names (n ∷ ns) left alike leaves = by (is_name_among (with_missing names ns) n) refl (all_left t p names ns left alike leaves)
  where
    missing : is_name_among (with_missing names ns) n ≡ false → (b : Bool) → is_name_among names n ≡ b → is_name_among names n ≡ false
    missing out true is = absurd (false≢true (sym out ∙ still_among names ns n is))
    missing out false is = is

    by : (b : Bool) → is_name_among (with_missing names ns) n ≡ b → LeavesUnlike t (children_of p (with_missing names ns)) left
        → LeavesUnlike t (children_of p (if b then with_missing names ns else n ∷ with_missing names ns)) left
    by true is rest = rest
    by false is rest = inl (alike n (missing is (is_name_among names n) refl), rest)

-- ---- directories

-- the names by which the directories of a pair are unlike, with those of entries that have grafts, hold what is unlike there
pub held_by_names : (s : RepoState) (report : WholeReport) (p : PathValue) (pair : EntryPair) (names : List Component) → AllHoldTogether s.revisions
    → is_at_or_under p report.ask.target ≡ true → IsPairBeside s report p pair → AreUnlikeBy names s report.ask pair
    → ((x : Component) → is_name_among names x ≡ false → HasNoGraft report.grafts p x) → AreDistinct names
    → HoldUnlike (drive_trees s report) p (children_of p names)
held_by_names s report p pair names together up is by free distinct = record {
  children = (children_are p names distinct).each;
  unlike = λ left leaves. record {
    all = children_of p whole;
    listed = record {
      children = children_are p whole (all_distinct names others distinct);
      all_old = λ holds. children_all (old_tree s report) p whole holds old_named;
      all_new = λ holds. children_all (new_tree s report) p whole holds new_named;
    };
    unlike = all_left (drive_trees s report) p names others left alike leaves;
  };
}
  where
    others : List Component
    others = names_at s pair.revision pair.old.now ++ names_at s report.ask.revision pair.new.now

    whole : List Component
    whole = with_missing names others

    -- a name is among these, or it is one of an entry without a graft
    either : (c : Component) → (is_name_among names c ≡ false → is_name_among whole c ≡ true) → (b : Bool) → is_name_among names c ≡ b → is_name_among whole c ≡ true
    either c other true is = still_among names others c is
    either c other false is = other is

    alike : (x : Component) → is_name_among names x ≡ false → AreAlike (drive_trees s report) (p ++ x ∷ [])
    alike x out =
        ⊎_elim (λ among. absurd (false≢true (sym out ∙ among))) (λ both. alike_in_pair s report p pair x together up is (free x out) both.0 both.1) (by x)

    old_named : (c : Component) → IsSome (old_tree s report (p ++ c ∷ [])) → is_name_among whole c ≡ true
    old_named c some = either c (λ out.
        now_among names others c
        (list_any-append (same_component c) (names_at s pair.revision pair.old.now) (names_at s report.ask.revision pair.new.now)
        ∙ or_left (is_name_among (names_at s pair.revision pair.old.now) c) (is_name_among (names_at s report.ask.revision pair.new.now) c)
        (among_there (tree_at s pair.revision) pair.old.now c (sym (ap is_some (is.old c [] (free c out))) ∙ some)))) (is_name_among names c) refl

    new_named : (c : Component) → IsSome (new_tree s report (p ++ c ∷ [])) → is_name_among whole c ≡ true
    new_named c some = either c (λ out.
        now_among names others c
        (list_any-append (same_component c) (names_at s pair.revision pair.old.now) (names_at s report.ask.revision pair.new.now)
        ∙ or_right (is_name_among (names_at s pair.revision pair.old.now) c) (is_name_among (names_at s report.ask.revision pair.new.now) c)
        (among_there (tree_at s report.ask.revision) pair.new.now c (sym (ap is_some (is.new c [] (free c out))) ∙ some)))) (is_name_among names c) refl
