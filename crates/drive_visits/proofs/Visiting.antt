-- The visits of one entry, before those of what is below it.
use Rattle.std.proofs.Common.{◌≡◌, ◌+◌, arith, Bool, true, false, ◌&&◌, not, List, [], ◌∷◌, ◌++◌, length, drop, Option, Some, None, refl, sym, ap, ◌∙◌, subst}
use Rattle.std.proofs.{Common.{inl, inr, ⊎_elim, option_map}, lemmas.Bool.false≢true, lemmas.List.length-append}
use Rattle.std.specs.Prelude.{IsSomeAnd, is_some}
use Rattle.svnpath.specs.{PathLaws.{same_path_is, same_path_refl, under_is, under_itself}, Paths.{is_at_or_under, PathValue, same_path}}
use Rattle.repo_api.specs.{Trees.{is_directory, is_directory_content, is_directory_there, Tree}, declared.entry.Entry.Entry}
use Rattle.drive_rules.specs.{Drives.{Counts, created_revision, HasReason, IsInBoth, IsOfOneKind, IsRight}, Scopes.{below, under}}
use Rattle.drive_rules.specs.Steps.{is_named, is_of_kind, Node, node_at, node_of, Step}
use Rattle.drive_rules.proofs.{Joined.{or_left, nothing}, Entries.{around, opened, fresh, below_under, no_length, under_more}}
use Rattle.drive_visits.specs.{Visits.{Visit, kind_if, entry_kind, plan_steps}, Visits.Visit.{Open, Add, Delete, Close}, Nesting.AreNested}
use Rattle.drive_visits.specs.Walks.{old_side, IsNeeded, LeadsOver}
use Rattle.drive_visits.proofs.Nested.{nested_opens}

pub false_or : (b : Bool) → (b ≡ true → ⊥) → b ≡ false
false_or true f = absurd (f refl)
false_or false f = refl

-- what keeps its kind is opened as what it is
pub is_its_kind : (r t : Tree) (p : PathValue) → IsOfOneKind r t p → is_of_kind (entry_kind (t p)) (node_at r p) ≡ true
is_its_kind r t p one = by (r p) (t p) one
  where
    kinds : (x : Node) (a b : Bool) → is_directory_content x.0 ≡ a → a ≡ b → is_of_kind (kind_if b) (Some x) ≡ true
    kinds x true true is same = is
    kinds x false false is same = ap not is
    kinds x true false is same = absurd (false≢true (sym same))
    kinds x false true is same = absurd (false≢true same)

    by : (o n : Option Entry) → IsSomeAnd o (λ e. IsSomeAnd n (λ f. is_directory e ≡ is_directory f)) → is_of_kind (entry_kind n) (option_map node_of o) ≡ true
    by None n k = absurd k
    by (Some x) None k = absurd k
    by (Some x) (Some y) k = kinds (node_of x) (is_directory x) (is_directory y) refl k

-- the first visit names a path, unless it leaves a directory
first_named : (own : PathValue → Bool → List Step) (v : Visit) (vs : List Visit) → (v ≡ Close → ⊥) → (q : PathValue) × (is_named q (plan_steps own (v ∷ vs)) ≡ true)
first_named own (Open p directory) vs names = (p, or_left _ (is_named p (own p false ++ plan_steps own vs)) (ap (λ b. b && true) (same_path_refl p)))
first_named own (Add p directory) vs names = (p, or_left _ (is_named p (own p true ++ plan_steps own vs)) (ap (λ b. b && true) (same_path_refl p)))
first_named own (Delete p) vs names = (p, or_left _ (is_named p (plan_steps own vs)) (ap (λ b. b && true) (same_path_refl p)))
first_named own Close vs names = absurd (names refl)

-- what is needed has a reason
pub reason_of : (counts : Counts) (due apart : PathValue → Bool) (r t : Tree) (own : PathValue → Bool → List Step) (p : PathValue) (rest : List Visit)
    → IsNeeded counts.changes rest r t due p → AreNested t p p rest → IsRight counts (below p) due apart r t (plan_steps own rest) → HasReason counts.changes due apart r t p
reason_of counts due apart r t own p rest (inl root) nested right = inl root
reason_of counts due apart r t own p rest (inr (inr (inl d))) nested right = inr (p, under_itself p, inl d)
reason_of counts due apart r t own p rest (inr (inr (inr s))) nested right = inr (p, under_itself p, inr (inl s))
reason_of counts due apart r t own p [] (inr (inl full)) nested right = absurd (full refl)
reason_of counts due apart r t own p (v ∷ vs) (inr (inl full)) nested right = by first (right.reasons first.0 first.1) (right.within first.0 first.1)
  where
    first : (q : PathValue) × (is_named q (plan_steps own (v ∷ vs)) ≡ true)
    first = first_named own v vs (λ e. nested_opens t p p vs (subst (λ x. AreNested t p p (x ∷ vs)) e nested))

    root_above : (q : PathValue) → q ≡ [] → is_at_or_under q p ≡ true → p ≡ []
    root_above q e u =
        let long : length q ≡ length p + length (drop (length p) q) = ap length (under_is q p u) ∙ length-append p (drop (length p) q) in
        let none : length q ≡ 0 = ap length e in
        no_length p (omega (long, none, arith))

    by : (f : (q : PathValue) × (is_named q (plan_steps own (v ∷ vs)) ≡ true)) → HasReason counts.changes due apart r t f.0 → below p f.0 ≡ true → HasReason counts.changes due apart r t p
    by f (inl e) low = inl (root_above f.0 e (below_under p f.0 low))
    by f (inr w) low = inr (w.0, under_more w.0 f.0 p w.1 (below_under p f.0 low), w.2)

-- an entry that stays is opened for a reason
pub entry_opened : (counts : Counts) (due apart : PathValue → Bool) (r t : Tree) (own : PathValue → Bool → List Step) (p : PathValue) (rest : List Visit)
    → apart p ≡ false → IsOfOneKind r t p → LeadsOver counts.seen r t own → HasReason counts.changes due apart r t p
    → IsRight counts (below p) due apart r t (plan_steps own rest) → IsRight counts (under p) due apart r t (plan_steps own (Open p (is_directory_there (t p)) ∷ rest))
entry_opened counts due apart r t own p rest stays kind leads reason right =
    opened counts due apart r t p (entry_kind (t p)) (own p false) (plan_steps own rest) stays (is_its_kind r t p kind) (leads.here p false) (leads.open_meets p kind) (leads.open_leads p kind)
    (λ other. leads.open_text p other.0 (⊎_elim (λ a. absurd (false≢true (sym stays ∙ a))) (λ d. d) other.1))
    reason right

-- an entry that comes where nothing stands is added
pub entry_added : (counts : Counts) (due apart : PathValue → Bool) (old r t : Tree) (own : PathValue → Bool → List Step) (p : PathValue) (rest : List Visit)
    → r p ≡ None → is_some (t p) ≡ true → LeadsOver counts.seen old t own
    → IsRight counts (below p) due apart r t (plan_steps own rest) → IsRight counts (under p) due apart r t (plan_steps own (Add p (is_directory_there (t p)) ∷ rest))
entry_added counts due apart old r t own p rest none new leads right =
    fresh counts due apart r t p (entry_kind (t p)) (own p true) (plan_steps own rest) none new (leads.here p true) (leads.add_meets p new) (leads.add_leads p new) (leads.add_text p) right

-- nothing is plan_steps of an entry that is the same and below which nothing is plan_steps
pub entry_same : (counts : Counts) (due apart : PathValue → Bool) (r t : Tree) (own : PathValue → Bool → List Step) (p : PathValue) (anew : Bool) (rest : List Visit)
    → anew ≡ false → rest ≡ [] → node_at r p ≡ node_at t p → (counts.changes ≡ true → created_revision r p ≡ created_revision t p) → due p ≡ false → (IsInBoth r t p → apart p ≡ false)
    → IsRight counts (below p) due apart (old_side anew r) t (plan_steps own rest) → IsRight counts (under p) due apart (old_side anew r) t (plan_steps own rest)
entry_same counts due apart r t own p true rest kept empty node created quiet stays right = absurd (false≢true (sym kept))
entry_same counts due apart r t own p false rest kept empty node created quiet stays right =
    around counts due apart r t p [] (plan_steps own rest) (λ q h. refl)
    (nothing counts (same_path p) due apart r t (λ q h. subst (λ x. (node_at r x ≡ node_at t x) × (IsInBoth r t x → (counts.changes ≡ true → created_revision r x ≡ created_revision t x) × ((due x ≡ false) × (apart x ≡ false)))) (same_path_is p q h) (node, λ both. (created, (quiet, stays both)))))
    right

pub entry_anew : (counts : Counts) (due apart : PathValue → Bool) (r t : Tree) (own : PathValue → Bool → List Step) (p : PathValue) (anew : Bool) (rest : List Visit)
    → anew ≡ true → is_some (t p) ≡ true → LeadsOver counts.seen r t own
    → IsRight counts (below p) due apart (old_side anew r) t (plan_steps own rest) → IsRight counts (under p) due apart (old_side anew r) t (plan_steps own (Add p (is_directory_there (t p)) ∷ rest))
entry_anew counts due apart r t own p false rest comes new leads right = absurd (false≢true comes)
entry_anew counts due apart r t own p true rest comes new leads right = entry_added counts due apart r (λ _. None) t own p rest refl new leads right
