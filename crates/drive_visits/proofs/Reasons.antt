-- Why an entry is named, and that nothing is said where there is no reason.
use Rattle.std.proofs.Common.{arith, ◌≡◌, ◌<◌, ◌+◌, ℕ, Bool, true, false, ◌||◌, not, List, [], ◌∷◌, ◌++◌, length, get_or, take, Option, Some, None, refl, drop}
use Rattle.std.proofs.{Common.{sym, ap, ◌∙◌, subst, inl, inr, ⊎_elim, if◌then◌else◌, MatchBool}, lemmas.Bool.false≢true, lemmas.List.{length-append, map_more}}
use Rattle.std.specs.Prelude.{IsSome, is_some}
use Rattle.svnpath.specs.{PathLaws.{under_append, under_is, under_itself}, Paths.{is_at_or_under, PathValue}}
use Rattle.repo_api.specs.{Trees.Tree, declared.entry.Entry.Entry}
use Rattle.drive_rules.proofs.{Entries.{no_length, under_more}, Joined.or_cases}
use Rattle.drive_visits.specs.{declared.known_path.KnownPath.KnownPath, Knowing.paths_of, Left.{IsSilent, ArePlansOf}}
use Rattle.drive_visits.specs.Walks.{WalkedTrees, HasReasonAt, IsChild, IsDue, AreAlike, goes, goes_at, going}
use Rattle.drive_visits.proofs.{Planning.{goes_why, one_side, same_length}, Plans.{plans_append, absent, alike as all_alike}}

-- what is due has a reason
pub due_reason : (t : WalkedTrees) (p : PathValue) → IsDue t p → HasReasonAt t p
due_reason t p due = inr (p, under_itself p, ⊎_elim inl (λ d. inr (inl d)) due)

-- so has what goes
pub going_reason : (t : WalkedTrees) (p : PathValue) → goes_at t p ≡ true → HasReasonAt t p
going_reason t p g = inr (p, under_itself p, ⊎_elim inl (λ a. inr (inr a)) (goes_why t.counts.changes t.apart t.old t.new p g))

-- so has what comes
pub coming_reason : (t : WalkedTrees) (p : PathValue) → is_some (t.new p) ≡ true → (not (is_some (t.old p)) || goes_at t p) ≡ true → HasReasonAt t p
coming_reason t p some h = ⊎_elim (λ none. inr (p, under_itself p, inl (λ same. one_side (t.new p) (t.old p) some (was_false (is_some (t.old p)) none) (sym same.0)))) (λ g. going_reason t p g) (or_cases (not (is_some (t.old p))) (goes_at t p) h)
  where
    was_false : (b : Bool) → not b ≡ true → b ≡ false
    was_false true e = absurd (false≢true e)
    was_false false e = refl

-- and what is above something with a reason
pub reason_above : (t : WalkedTrees) (p x : PathValue) → IsChild p x → HasReasonAt t x → HasReasonAt t p
reason_above t p x child (inl root) = absurd (none (ap (λ y. length y) root))
  where
    none : length x ≡ length {A = List ℕ} [] → ⊥
    none e = let one : length x ≡ length p + 1 = same_length p x child in omega (one, e, arith)
reason_above t p x child (inr w) = inr (w.0, under_more w.0 x p w.1 (subst (λ y. is_at_or_under y p ≡ true) (sym child.1) (under_append p (child.0 ∷ []))), w.2)

-- and what is at or above it
pub reason_over : (t : WalkedTrees) (p q : PathValue) → is_at_or_under q p ≡ true → HasReasonAt t q → HasReasonAt t p
reason_over t p q under (inl root) = inl (no_length p (omega (long, ap (λ x. length x) root, arith)))
  where
    long : length q ≡ length p + length (drop (length p) q)
    long = ap (λ x. length x) (under_is q p under) ∙ length-append p (drop (length p) q)
reason_over t p q under (inr w) = inr (w.0, under_more w.0 q p w.1 under, w.2)

-- ---- where nothing is said

-- nothing goes among these entries, and nothing is said of them
abbrev pub SaysNothing : WalkedTrees → List PathValue → Type 0
SaysNothing t xs = ArePlansOf t false xs [] × (going t.apart t.old t.new xs ≡ [])

none_going_more : (apart : PathValue → Bool) (r t : Tree) (xs : List PathValue) (y : PathValue) → going apart r t xs ≡ [] → goes (apart y) (r y) (t y) ≡ false → going apart r t (xs ++ y ∷ []) ≡ []
none_going_more apart r t [] y none stays = ap (λ b. if b then y ∷ [] else []) stays
none_going_more apart r t (x ∷ xs) y none stays = by (goes (apart x) (r x) (t x)) none (λ n. none_going_more apart r t xs y n stays)
  where
    by : (b : Bool) → (if b then x ∷ going apart r t xs else going apart r t xs) ≡ [] → (going apart r t xs ≡ [] → going apart r t (xs ++ y ∷ []) ≡ []) → (if b then x ∷ going apart r t (xs ++ y ∷ []) else going apart r t (xs ++ y ∷ [])) ≡ []
    by true n more = cc
    by false n more = more n

pub one_more : {K : Type 0} (t : WalkedTrees) (xs : List (KnownPath K)) (i : ℕ) (x : KnownPath K) → i < length xs → x ≡ get_or xs i x → IsSilent t x.path → SaysNothing t (paths_of (take i xs)) → SaysNothing t (paths_of (take (i + 1) xs))
one_more t xs i x lt is silent says =
    subst (SaysNothing t) (sym (map_more (λ y. y.path) xs i x lt ∙ ap (λ y. paths_of (take i xs) ++ y.path ∷ []) (sym is)))
    (plans_append t false (paths_of (take i xs)) (x.path ∷ []) [] [] says.0 ([], [], refl, silent.1, refl), none_going_more t.apart t.old t.new (paths_of (take i xs)) x.path says.1 silent.0)

-- ---- one or the other

-- what is to stand nowhere goes, or was not there
pub going_or_absent : (t : WalkedTrees) (p : PathValue) (b : Bool) → is_some (t.new p) ≡ false → b ≡ goes_at t p → MatchBool b (HasReasonAt t p) (IsSilent t p)
going_or_absent t p true none is = going_reason t p (sym is)
going_or_absent t p false none is = (sym is, absent t false p none)

-- what is alike stays
pub alike_stays : (t : WalkedTrees) (p : PathValue) → AreAlike t p → goes_at t p ≡ false
alike_stays t p alike = by (t.old p) (t.new p) (alike p (under_itself p)).0 (alike p (under_itself p)).2
  where
    by : (o n : Option Entry) → o ≡ n → (IsSome o × IsSome n → t.apart p ≡ false) → goes (t.apart p) o n ≡ false
    by None n same stays = refl
    by (Some x) None same stays = absurd (false≢true (sym (ap is_some same)))
    by (Some x) (Some y) same stays = stays (refl, refl)

pub alike_silent : (t : WalkedTrees) (p : PathValue) → AreAlike t p → IsSilent t p
alike_silent t p alike = (alike_stays t p alike, all_alike t p (alike_stays t p alike) alike)
