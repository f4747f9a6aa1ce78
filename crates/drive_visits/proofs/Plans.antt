-- The plans of an entry, of what is below it, and of the entries of a directory.
use Rattle.std.proofs.Common.{arith, ◌≡◌, ◌<◌, ℕ, zero, suc, Bool, true, false, ◌||◌, not, List, [], ◌∷◌, ◌++◌, length, get_or, refl, sym, ap, ◌∙◌, subst}
use Rattle.std.proofs.{lemmas.Bool.false≢true, lemmas.List.append_assoc, lemmas.List.Elements.{All-head, All-tail}}
use Rattle.std.specs.Prelude.{is_some, All}
use Rattle.svnpath.specs.{PathLaws.under_itself, Paths.{is_at_or_under, PathValue}}
use Rattle.repo_api.specs.Trees.{is_directory_there, Tree}
use Rattle.drive_rules.specs.{Drives.IsRight, Scopes.under, Steps.Step}
use Rattle.drive_rules.proofs.{Joined.{or_false, reach_named, joined, nothing}, Entries.{rescoped, under_more}}
use Rattle.drive_visits.specs.{Visits.{Visit, IsRightPlan, plan_steps}, Visits.Visit.{Open, Add}, Left.{IsPlanOf, IsPlanBelow, IsEntry, ArePlansOf}}
use Rattle.drive_visits.specs.{Nesting.{AreNested, entry_visit, entry_visits}, Walks.{WalkedTrees, any_under, BothHold, HasReasonAt, IsListed, IsSame}}
use Rattle.drive_visits.specs.Walks.{AreDisjoint, IsChild, AreAlike, LeadsOver, goes_at, old_side, left_of, deletes_of}
use Rattle.drive_visits.proofs.{Nested.{nested_nothing, nested_append, nested_deletes, nested_entry, child_inside}, Planning.{any_more, reseated, left_under}}
use Rattle.drive_visits.proofs.Planning.{all_children, left_all, with_cuts, nothing_new, nothing_alike, nothing_below, child_sound, plan_steps_append}
use Rattle.drive_visits.proofs.Planning.{stays_gone, stays_together, with_close, added_entry, not_false}
use Rattle.drive_visits.proofs.Visiting.{false_or, entry_anew, entry_opened, entry_same}

-- an entry that is to stand there comes: anew with its directory, or where nothing of its kind stood
abbrev pub comes : WalkedTrees → Bool → PathValue → Bool
comes t anew p = anew || (not (is_some (t.old p)) || goes_at t p)

abbrev pub Leads : WalkedTrees → Type 0
Leads t = LeadsOver t.counts.seen t.old t.new t.own

-- what does not come stood there, and stays
pub staying : (t : WalkedTrees) (anew : Bool) (p : PathValue) → comes t anew p ≡ false → (anew ≡ false) × (is_some (t.old p) ≡ true) × (goes_at t p ≡ false)
staying t anew p kept =
    let one : (anew ≡ false) × ((not (is_some (t.old p)) || goes_at t p) ≡ false) = or_false anew (not (is_some (t.old p)) || goes_at t p) kept in
    let two : (not (is_some (t.old p)) ≡ false) × (goes_at t p ≡ false) = or_false (not (is_some (t.old p))) (goes_at t p) one.1 in
    (one.0, not_false (is_some (t.old p)) two.0, two.1)

left_side : (t : WalkedTrees) (anew : Bool) (p : PathValue) → comes t anew p ≡ false → false ≡ (anew || goes_at t p)
left_side t anew p kept = let s = staying t anew p kept in sym (ap (λ b. b || goes_at t p) s.0 ∙ s.2)

-- ---- one entry

-- nothing is to stand there
pub absent : (t : WalkedTrees) (anew : Bool) (p : PathValue) → is_some (t.new p) ≡ false → IsPlanOf t anew p []
absent t anew p none = record {
  right = λ sound.
      nothing_new t.counts t.due t.apart (anew || goes_at t p) t.old t.new p none (λ kept. stays_gone (t.apart p) (t.old p) (t.new p) (or_false anew (goes_at t p) kept).1 none) sound;
  nests = λ top d inside. nested_nothing t.new top d;
}

-- all stays as it is
pub alike : (t : WalkedTrees) (p : PathValue) → goes_at t p ≡ false → AreAlike t p → IsPlanOf t false p []
alike t p stays same = record {
  right = λ sound.
      subst (λ b. IsRightPlan t.counts (under p) t.due t.apart (old_side b t.old) t.new t.own []) (sym stays) (nothing_alike t.counts t.due t.apart false t.old t.new p refl same);
  nests = λ top d inside. nested_nothing t.new top d;
}

-- the entry stays as it is, and nothing is said below it
pub same : (t : WalkedTrees) (p : PathValue) → goes_at t p ≡ false → IsSame t p → IsPlanBelow t false p [] → IsPlanOf t false p []
same t p stays is plan = record {
  right = λ sound.
      subst (λ b. IsRightPlan t.counts (under p) t.due t.apart (old_side b t.old) t.new t.own []) (sym stays)
      (entry_same t.counts t.due t.apart t.old t.new t.own p false [] refl refl is.node is.created is.quiet (λ both. stays_together (t.apart p) (t.old p) (t.new p) stays both.0 both.1) (plan.right sound));
  nests = λ top d inside. nested_nothing t.new top d;
}

pub added : (t : WalkedTrees) (anew dir : Bool) (p : PathValue) (rest : List Visit) → Leads t → comes t anew p ≡ true → is_some (t.new p) ≡ true → dir ≡ is_directory_there (t.new p) → (dir ≡ false → rest ≡ [])
    → IsPlanBelow t true p rest → IsPlanOf t anew p (entry_visits dir (Add p dir) rest)
added t anew dir p rest leads new stands kind file plan = record {
  right = λ sound.
      added_entry t.counts t.due t.apart anew t.old t.new p (plan_steps t.own (entry_visits dir (Add p dir) rest)) sound
      (subst (λ b. IsRightPlan t.counts (under p) t.due t.apart (old_side b t.old) t.new t.own (entry_visits dir (Add p dir) rest)) (sym new)
      (with_close t.counts (under p) t.due t.apart (old_side true t.old) t.new t.own dir (Add p dir) rest
      (subst (λ b. IsRight t.counts (under p) t.due t.apart (old_side true t.old) t.new (plan_steps t.own (Add p b ∷ rest))) (sym kind)
      (entry_anew t.counts t.due t.apart t.old t.new t.own p true rest refl stands leads (plan.right sound)))));
  nests = λ top d inside. nested_entry t.new top d p (Add p dir) dir rest (λ ds. refl) kind file inside stands (plan.nests top);
}

pub opened : (t : WalkedTrees) (anew dir : Bool) (p : PathValue) (rest : List Visit) → Leads t → comes t anew p ≡ false → is_some (t.new p) ≡ true → dir ≡ is_directory_there (t.new p) → (dir ≡ false → rest ≡ [])
    → (BothHold t.apart t.old t.new p → HasReasonAt t p) → IsPlanBelow t false p rest → IsPlanOf t anew p (entry_visits dir (Open p dir) rest)
opened t anew dir p rest leads kept stands kind file reason plan = record {
  right = λ sound.
      subst (λ b. IsRightPlan t.counts (under p) t.due t.apart (old_side b t.old) t.new t.own (entry_visits dir (Open p dir) rest)) (left_side t anew p kept)
      (with_close t.counts (under p) t.due t.apart t.old t.new t.own dir (Open p dir) rest
      (subst (λ b. IsRight t.counts (under p) t.due t.apart t.old t.new (plan_steps t.own (Open p b ∷ rest))) (sym kind)
      (entry_opened t.counts t.due t.apart t.old t.new t.own p rest together (sound.of_one_kind p (under_itself p) (stay.1, stands) together) leads (reason sound) (plan.right sound))));
  nests = λ top d inside. nested_entry t.new top d p (Open p dir) dir rest (λ ds. refl) kind file inside stands (plan.nests top);
}
  where
    stay : (anew ≡ false) × (is_some (t.old p) ≡ true) × (goes_at t p ≡ false)
    stay = staying t anew p kept

    together : t.apart p ≡ false
    together = stays_together (t.apart p) (t.old p) (t.new p) stay.2 stay.1 stands

-- an entry that comes, or that stays and has a reason, and what is below it
pub entry_plan : (t : WalkedTrees) (anew dir : Bool) (p : PathValue) (vs : List Visit) → Leads t → is_some (t.new p) ≡ true → dir ≡ is_directory_there (t.new p)
    → (comes t anew p ≡ false → HasReasonAt t p) → IsEntry t (comes t anew p) dir p vs → IsPlanOf t anew p vs
entry_plan t anew dir p vs leads stands kind reason e = subst (IsPlanOf t anew p) (sym e.is) (by (comes t anew p) refl e.plan)
  where
    by : (b : Bool) → comes t anew p ≡ b → IsPlanBelow t b p e.rest → IsPlanOf t anew p (entry_visits dir (entry_visit b dir p) e.rest)
    by true new plan = added t anew dir p e.rest leads new stands kind e.file plan
    by false kept plan = opened t anew dir p e.rest leads kept stands kind e.file (λ sound. reason kept) plan

-- nothing is below a file
pub below_file : (t : WalkedTrees) (anew : Bool) (p : PathValue) → is_some (t.new p) ≡ true → is_directory_there (t.new p) ≡ false → (anew ≡ false → goes_at t p ≡ false) → IsPlanBelow t anew p []
below_file t anew p stands file stays = record {
  right = λ sound. nothing_below t.counts t.due t.apart anew t.old t.new p stands file stays sound;
  nests = λ top. nested_nothing t.new top p;
}

-- ---- the entries of a directory

-- plans of some entries, and of others
pub plans_append : (t : WalkedTrees) (anew : Bool) (xs ys : List PathValue) (vs ws : List Visit) → ArePlansOf t anew xs vs → ArePlansOf t anew ys ws → ArePlansOf t anew (xs ++ ys) (vs ++ ws)
plans_append t anew [] ys vs ws a b = subst (λ us. ArePlansOf t anew ys (us ++ ws)) (sym a) b
plans_append t anew (x ∷ xs) ys vs ws (now, later, is, plan, rest) b =
    (now, later ++ ws, ap (λ us. us ++ ws) is ∙ append_assoc now later ws, plan, plans_append t anew xs ys later ws rest b)

pub plans_nested : (t : WalkedTrees) (anew : Bool) (top p : PathValue) (xs : List PathValue) (vs : List Visit) → All (IsChild p) xs → ArePlansOf t anew xs vs → AreNested t.new top p vs
plans_nested t anew top p [] vs each plans = subst (AreNested t.new top p) (sym plans) (nested_nothing t.new top p)
plans_nested t anew top p (x ∷ xs) vs each (now, later, is, plan, rest) =
    subst (AreNested t.new top p) (sym is)
    (nested_append t.new top p now later (plan.nests top p (child_inside top p x (All-head (IsChild p) x xs each)))
    (plans_nested t anew top p xs later (All-tail (IsChild p) x xs each) rest))

-- what is left under an entry is what it is led from
abbrev IsLedFrom : WalkedTrees → Bool → Tree → PathValue → Type 0
IsLedFrom t anew s y = (q : PathValue) → is_at_or_under q y ≡ true → old_side (anew || goes_at t y) t.old q ≡ s q

-- a drive of one entry, and then one of others
entry_joined : (t : WalkedTrees) (s : Tree) (x : PathValue) (xs : List PathValue) (now later : List Step) → ((q : PathValue) → is_at_or_under q x ≡ true → any_under xs q ≡ false)
    → IsRight t.counts (under x) t.due t.apart s t.new now → IsRight t.counts (any_under xs) t.due t.apart s t.new later → IsRight t.counts (any_under (x ∷ xs)) t.due t.apart s t.new (now ++ later)
entry_joined t s x xs now later disjoint one others =
    rescoped (λ q. refl)
    (joined t.counts (under x) (any_under xs) t.due t.apart s t.new now later disjoint
    (λ q h. reach_named now q (λ y named. false_or (is_at_or_under q y) (λ u. false≢true (sym (disjoint q (under_more q y x u (one.within y named))) ∙ h))))
    (λ q h. reach_named later q (λ y named. false_or (is_at_or_under q y) (λ u. false≢true (sym (disjoint q h) ∙ any_more xs q y (others.within y named) u))))
    one others)

plans_right : (t : WalkedTrees) (anew : Bool) (p : PathValue) (s : Tree) (xs : List PathValue) (vs : List Visit) → BothHold t.apart t.old t.new p → All (IsChild p) xs → AreDisjoint xs → All (IsLedFrom t anew s) xs → ArePlansOf t anew xs vs
    → IsRight t.counts (any_under xs) t.due t.apart s t.new (plan_steps t.own vs)
plans_right t anew p s [] vs sound each disjoint led plans =
    subst (λ (ws : List Visit). IsRight t.counts (any_under []) t.due t.apart s t.new (plan_steps t.own ws)) (sym plans)
    (nothing t.counts (any_under []) t.due t.apart s t.new (λ q h. absurd (false≢true h)))
plans_right t anew p s (x ∷ xs) vs sound each disjoint led (now, later, is, plan, rest) =
    subst (λ (cs : List Step). IsRight t.counts (any_under (x ∷ xs)) t.due t.apart s t.new cs) (sym (ap (plan_steps t.own) is ∙ plan_steps_append t.own now later))
    (entry_joined t s x xs (plan_steps t.own now) (plan_steps t.own later) disjoint.0
    (reseated t.counts (under x) t.due t.apart (old_side (anew || goes_at t x) t.old) s t.new (plan_steps t.own now) (λ q w h u. under_more w q x u h) (All-head (IsLedFrom t anew s) x xs led)
    (plan.right (child_sound t.apart t.old t.new p x (All-head (IsChild p) x xs each) sound)))
    (plans_right t anew p s xs later sound (All-tail (IsChild p) x xs each) disjoint.1 (All-tail (IsLedFrom t anew s) x xs led) rest))

one_place : (xs : List PathValue) (i : ℕ) (d e : PathValue) → i < length xs → get_or xs i d ≡ get_or xs i e
one_place [] i d e lt = absurd (omega (lt, arith))
one_place (x ∷ xs) zero d e lt = refl
one_place (x ∷ xs) (suc i) d e lt = one_place xs i d e (omega (lt, arith))

-- what goes, and then plans of all entries
pub below_directory : (t : WalkedTrees) (anew : Bool) (p : PathValue) (xs : List PathValue) (vs : List Visit) → IsListed t p xs → ArePlansOf t anew xs vs
    → IsPlanBelow t anew p (deletes_of anew t.apart t.old t.new xs ++ vs)
below_directory t anew p xs vs listed plans = record {
  right = λ sound.
      with_cuts anew t.counts t.due t.apart t.old t.new t.own p xs vs sound listed.children
      (all_children t.counts t.due t.apart (left_of anew t.apart t.old t.new xs) t.new p xs (plan_steps t.own vs) listed.children (left_all anew t.apart t.old t.new p xs (listed.all_old sound.old_holds)) (listed.all_new sound.new_holds)
      (plans_right t anew p (left_of anew t.apart t.old t.new xs) xs vs sound listed.children.each listed.children.disjoint
      (λ i d lt. left_under anew t.apart t.old t.new p (get_or xs i d) xs i listed.children lt (one_place xs i d (get_or xs i d) lt) (listed.children.each i d lt)) plans));
  nests = λ top. nested_append t.new top p (deletes_of anew t.apart t.old t.new xs) vs (nested_deletes anew t.apart t.old t.new top p xs listed.children.each) (plans_nested t anew top p xs vs listed.children.each plans);
}
