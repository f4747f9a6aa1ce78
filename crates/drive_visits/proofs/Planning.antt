-- The visits of a directory's entries, one after the other, and of what goes.
use Rattle.std.proofs.Common.{◌≡◌, ◌<◌, ℕ, zero, suc, ◌+◌, arith, Bool, true, false, cond, ◌&&◌, ◌||◌, not, List, [], ◌∷◌, ◌++◌, length, drop, take, get_or}
use Rattle.std.proofs.{Common.{map, Option, Some, None, refl, sym, ap, ◌∙◌, subst, ◌⊎◌, inl, inr, ⊎_elim, option_map, if◌then◌else◌}, lemmas.Bool.false≢true}
use Rattle.std.proofs.{lemmas.List.{length-append, append-nil, append_assoc}, lemmas.List.Elements.{All-head, All-tail}}
use Rattle.std.specs.{Prelude.{IsTrue, IsSome, IsSomeAnd, is_some, All, IfOk, Result, Ok, Err}, List.list_any}
use Rattle.svnpath.specs.{PathLaws.{same_path_is, same_path_refl, under_append, under_is, under_itself}, Paths.{is_at_or_under, PathValue, same_path}}
use Rattle.repo_api.specs.{Trees.{HasDirectory, is_directory, is_directory_there, Tree}, declared.entry.Entry.Entry}
use Rattle.drive_rules.specs.{Drives.{Counts, created_revision, Differs, IsInBoth, IsOfOneKind, IsRight}, Scopes.{below, HoldsTogether, tree_without, under}}
use Rattle.drive_rules.specs.Steps.{may_change, Node, node_at, node_of, Step}
use Rattle.drive_rules.proofs.Joined.{or_cases, or_left, or_right, or_false, and_front, reach_named, joined, nothing, none_some}
use Rattle.drive_rules.proofs.Entries.{rescoped, under_more, below_under, IsCut, cut, kept, left_out}
use Rattle.drive_visits.specs.{Visits.{Visit, plan_steps, visit_steps}, Visits.Visit.{Open, Delete, Close}, Nesting.entry_visits, Walks.{any_under, BothHold}}
use Rattle.drive_visits.specs.Walks.{LeadsOver, AreDisjoint, IsChild, AreChildren, AreAll, goes, going, without_all, old_side, left_of, deletes_of}
use Rattle.drive_visits.proofs.Visiting.{false_or, entry_opened}

abbrev pub Own : Type 0
Own = PathValue → Bool → List Step

-- a drive from a tree is one from a tree that is the same at and under the paths in scope
pub reseated : (counts : Counts) (scope due apart : PathValue → Bool) (r s t : Tree) (cs : List Step)
    → ((q w : PathValue) → scope q ≡ true → is_at_or_under w q ≡ true → scope w ≡ true) → ((q : PathValue) → scope q ≡ true → r q ≡ s q)
    → IsRight counts scope due apart r t cs → IsRight counts scope due apart s t cs
reseated counts scope due apart r s t cs down same x = record {
  ends = λ q h. subst (λ e. option_map counts.seen (fold_from q (option_map node_of e)) ≡ option_map counts.seen (node_at t q)) (same q h) (x.ends q h);
  names = λ q h both old. x.names q h (subst IsSome (sym (same q h)) both.0, both.1) (⊎_elim (λ o. inl (o.0, λ e. o.1 (sym (ap (option_map _) (same q h)) ∙ e))) inr old);
  texts = λ q h other. x.texts q h (other.0, ⊎_elim inl (λ d. inr (λ e. d (sym (ap (λ o. option_map (λ (n : Node). n.0) (option_map node_of o)) (same q h)) ∙ e))) other.1);
  within = x.within;
  reasons = λ q named. ⊎_elim inl (λ w. inr (w.0, w.1, ⊎_elim (λ d. inl (λ both. d (ap (option_map node_of) (same w.0 (down q w.0 (x.within q named) w.1)) ∙ both.0, λ counted. ap (option_map (λ (e : Entry). e.last)) (same w.0 (down q w.0 (x.within q named) w.1)) ∙ both.1 counted))) (λ more. inr (⊎_elim inl (λ a. inr ((subst IsSome (same w.0 (down q w.0 (x.within q named) w.1)) a.0.0, a.0.1), a.1)) more)) w.2)) (x.reasons q named);
  opens = λ q k stays named. x.opens q (subst (λ e. IsSomeAnd e (λ a. IsSomeAnd (t q) (λ b. is_directory a ≡ is_directory b))) (sym (same q (x.within q named))) k) stays named;
  replaces = λ q h both a. x.replaces q h (subst IsSome (sym (same q h)) both.0, both.1) a;
  meets = λ q h. subst (λ e. all_from q (option_map node_of e) ≡ true) (same q h) (x.meets q h);
}
  where
    fold_from : PathValue → Option Node → Option Node
    fold_from q n = Rattle.drive_rules.specs.Steps.after_steps q n cs

    all_from : PathValue → Option Node → Bool
    all_from q n = Rattle.drive_rules.specs.Steps.all_meet q n cs

-- ---- paths of one length

pub same_length : (p q : PathValue) → IsChild p q → length q ≡ length p + 1
same_length p q child = ap length child.1 ∙ length-append p (child.0 ∷ [])

-- two children above one path are one
pub one_child : (p x y q : PathValue) → IsChild p x → IsChild p y → is_at_or_under q x ≡ true → is_at_or_under q y ≡ true → x ≡ y
one_child p x y q cx cy ux uy =
    same_path_is x (take (length x) q) ux ∙ ap (λ n. take n q) (same_length p x cx ∙ sym (same_length p y cy)) ∙ sym (same_path_is y (take (length y) q) uy)

pub child_below : (p q x : PathValue) → IsChild p x → is_at_or_under q x ≡ true → below p q ≡ true
child_below p q x child u = by (is_at_or_under q p) (same_path p q) (under_more q x p u (subst (λ y. is_at_or_under y p ≡ true) (sym child.1) (under_append p (child.0 ∷ [])))) refl
  where
    other : same_path p q ≡ true → ⊥
    other same =
        let long : length p ≡ length x + length (drop (length x) p) =
        ap length (under_is p x (ap (λ y. is_at_or_under y x) (same_path_is p q same) ∙ u)) ∙ length-append x (drop (length x) p) in
        let one : length x ≡ length p + 1 = same_length p x child in
        omega (long, one, arith)

    by : (a b : Bool) → a ≡ true → same_path p q ≡ b → (a && not b) ≡ true
    by a true e same = absurd (other same)
    by a false e same = ap (λ x. x && true) e

-- ---- lists of paths

abbrev pub has : List PathValue → PathValue → Bool
has ds e = list_any (λ d. same_path d e) ds

has_under : (ds : List PathValue) (e : PathValue) → has ds e ≡ true → any_under ds e ≡ true
has_under [] e h = absurd (false≢true h)
has_under (d ∷ ds) e h =
    ⊎_elim (λ a. or_left (is_at_or_under e d) (any_under ds e) (ap (λ x. is_at_or_under x d) (sym (same_path_is d e a)) ∙ under_itself d))
    (λ b. or_right (is_at_or_under e d) (any_under ds e) (has_under ds e b)) (or_cases (same_path d e) (has ds e) h)

pub any_more : (xs : List PathValue) (q y : PathValue) → any_under xs y ≡ true → is_at_or_under q y ≡ true → any_under xs q ≡ true
any_more [] q y h u = h
any_more (x ∷ xs) q y h u = ⊎_elim (λ a. or_left _ (any_under xs q) (under_more q y x u a)) (λ b. or_right (is_at_or_under q x) _ (any_more xs q y b u)) (or_cases (is_at_or_under y x) (any_under xs y) h)

-- nothing is plan_steps of what none of the paths is above
none_at : (xs : List PathValue) (i : ℕ) (d q : PathValue) → i < length xs → any_under xs q ≡ false → is_at_or_under q (get_or xs i d) ≡ false
none_at [] i d q lt h = absurd (omega (lt, arith))
none_at (x ∷ xs) zero d q lt h = (or_false (is_at_or_under q x) (any_under xs q) h).0
none_at (x ∷ xs) (suc i) d q lt h = none_at xs i d q (omega (lt, arith)) (or_false (is_at_or_under q x) (any_under xs q) h).1

pub disjoint_at : (xs : List PathValue) (i : ℕ) (d q : PathValue) → AreDisjoint xs → i < length xs → any_under (take i xs) q ≡ true → is_at_or_under q (get_or xs i d) ≡ false
disjoint_at [] i d q disjoint lt h = absurd (omega (lt, arith))
disjoint_at (x ∷ xs) zero d q disjoint lt h = absurd (false≢true h)
disjoint_at (x ∷ xs) (suc i) d q disjoint lt h =
    ⊎_elim (λ a. none_at xs i d q (omega (lt, arith)) (disjoint.0 q a)) (λ b. disjoint_at xs i d q disjoint.1 (omega (lt, arith)) b) (or_cases (is_at_or_under q x) (any_under (take i xs) q) h)

-- ---- what goes

abbrev pub Goes : (PathValue → Bool) → Tree → Tree → PathValue → Bool
Goes apart r t p = goes (apart p) (r p) (t p)

going_under : (apart : PathValue → Bool) (r t : Tree) (xs : List PathValue) (q : PathValue) → any_under xs q ≡ false → any_under (going apart r t xs) q ≡ false
going_under apart r t [] q h = refl
going_under apart r t (x ∷ xs) q h = by (Goes apart r t x) (going_under apart r t xs q (or_false (is_at_or_under q x) (any_under xs q) h).1)
  where
    by : (b : Bool) → any_under (going apart r t xs) q ≡ false → any_under (if b then x ∷ going apart r t xs else going apart r t xs) q ≡ false
    by true tail = ap (λ a. a || any_under (going apart r t xs) q) (or_false (is_at_or_under q x) (any_under xs q) h).0 ∙ tail
    by false tail = tail

going_disjoint : (apart : PathValue → Bool) (r t : Tree) (xs : List PathValue) → AreDisjoint xs → AreDisjoint (going apart r t xs)
going_disjoint apart r t [] disjoint = tt
going_disjoint apart r t (x ∷ xs) disjoint = by (Goes apart r t x) (going_disjoint apart r t xs disjoint.1)
  where
    by : (b : Bool) → AreDisjoint (going apart r t xs) → AreDisjoint (if b then x ∷ going apart r t xs else going apart r t xs)
    by true tail = (λ q u. going_under apart r t xs q (disjoint.0 q u), tail)
    by false tail = tail

-- each path that goes is one of the paths, and goes
going_each : (apart : PathValue → Bool) (r t : Tree) (p : PathValue) (xs : List PathValue) → All (IsChild p) xs → (e : PathValue) → has (going apart r t xs) e ≡ true → IsChild p e × (Goes apart r t e ≡ true)
going_each apart r t p [] each e h = absurd (false≢true h)
going_each apart r t p (x ∷ xs) each e h = by (λ g. going_each apart r t p xs (All-tail (IsChild p) x xs each) e g) (Goes apart r t x) refl h
  where
    by : (has (going apart r t xs) e ≡ true → IsChild p e × (Goes apart r t e ≡ true)) → (b : Bool) → Goes apart r t x ≡ b → has (if b then x ∷ going apart r t xs else going apart r t xs) e ≡ true → IsChild p e × (Goes apart r t e ≡ true)
    by rest true is g =
        ⊎_elim (λ a. (subst (IsChild p) (same_path_is x e a) (All-head (IsChild p) x xs each), subst (λ y. Goes apart r t y ≡ true) (same_path_is x e a) is)) rest (or_cases (same_path x e) (has (going apart r t xs) e) g)
    by rest false is g = rest g

-- under a child that goes something that goes is above, and under one that stays nothing is
pub going_above : (apart : PathValue → Bool) (r t : Tree) (p : PathValue) (xs : List PathValue) (i : ℕ) (d q : PathValue) → i < length xs → is_at_or_under q (get_or xs i d) ≡ true → Goes apart r t (get_or xs i d) ≡ true
    → any_under (going apart r t xs) q ≡ true
going_above apart r t p [] i d q lt u g = absurd (omega (lt, arith))
going_above apart r t p (x ∷ xs) zero d q lt u g = ap (λ b. any_under (if b then x ∷ going apart r t xs else going apart r t xs) q) g ∙ or_left (is_at_or_under q x) (any_under (going apart r t xs) q) u
going_above apart r t p (x ∷ xs) (suc i) d q lt u g = by (Goes apart r t x) (going_above apart r t p xs i d q (omega (lt, arith)) u g)
  where
    by : (b : Bool) → any_under (going apart r t xs) q ≡ true → any_under (if b then x ∷ going apart r t xs else going apart r t xs) q ≡ true
    by true tail = or_right (is_at_or_under q x) (any_under (going apart r t xs) q) tail
    by false tail = tail

under_has : (ds : List PathValue) (q : PathValue) → any_under ds q ≡ true → (e : PathValue) × (has ds e ≡ true) × (is_at_or_under q e ≡ true)
under_has [] q h = absurd (false≢true h)
under_has (d ∷ ds) q h =
    ⊎_elim (λ a. (d, or_left (same_path d d) (has ds d) (same_path_refl d), a)) (λ b. let w = under_has ds q b in (w.0, or_right (same_path d w.0) (has ds w.0) w.1, w.2)) (or_cases (is_at_or_under q d) (any_under ds q) h)

pub none_going : (apart : PathValue → Bool) (r t : Tree) (p x : PathValue) (xs : List PathValue) (q : PathValue) → All (IsChild p) xs → IsChild p x → is_at_or_under q x ≡ true → Goes apart r t x ≡ false
    → any_under (going apart r t xs) q ≡ false
none_going apart r t p x xs q each child u stays = false_or (any_under (going apart r t xs) q) (λ h. by (under_has (going apart r t xs) q h))
  where
    by : (e : PathValue) × (has (going apart r t xs) e ≡ true) × (is_at_or_under q e ≡ true) → ⊥
    by w =
        let g = going_each apart r t p xs each w.0 w.1 in
        false≢true (sym stays ∙ ap (Goes apart r t) (one_child p x w.0 q child g.0 u w.2) ∙ g.1)

-- ---- what is left

pub without_all_at : (ds : List PathValue) (r : Tree) (q : PathValue) → without_all ds r q ≡ cond (any_under ds q) None (r q)
without_all_at [] r q = refl
without_all_at (d ∷ ds) r q = without_all_at ds (tree_without d r) q ∙ by (is_at_or_under q d) (any_under ds q)
  where
    by : (a b : Bool) → cond b None (cond a None (r q)) ≡ cond (a || b) None (r q)
    by true true = refl
    by true false = refl
    by false true = refl
    by false false = refl

-- under a child what is left is what the child is led from
pub left_under : (anew : Bool) (apart : PathValue → Bool) (r t : Tree) (p x : PathValue) (xs : List PathValue) (i : ℕ) → AreChildren p xs → i < length xs → x ≡ get_or xs i x → IsChild p x
    → (q : PathValue) → is_at_or_under q x ≡ true → old_side (anew || Goes apart r t x) r q ≡ left_of anew apart r t xs q
left_under true apart r t p x xs i children lt is child q u = refl
left_under false apart r t p x xs i children lt is child q u = by (Goes apart r t x) refl ∙ sym (without_all_at (going apart r t xs) r q)
  where
    by : (b : Bool) → Goes apart r t x ≡ b → old_side b r q ≡ cond (any_under (going apart r t xs) q) None (r q)
    by true g = sym (ap (λ a. cond a None (r q)) (going_above apart r t p xs i x q lt (subst (λ y. is_at_or_under q y ≡ true) is u) (subst (λ y. Goes apart r t y ≡ true) is g)))
    by false g = sym (ap (λ a. cond a None (r q)) (none_going apart r t p x xs q children.each child u g))

-- ---- joining children

all_below : (p q : PathValue) (xs : List PathValue) → All (IsChild p) xs → any_under xs q ≡ true → below p q ≡ true
all_below p q [] each h = absurd (false≢true h)
all_below p q (x ∷ xs) each h =
    ⊎_elim (λ a. child_below p q x (All-head (IsChild p) x xs each) a) (λ b. all_below p q xs (All-tail (IsChild p) x xs each) b) (or_cases (is_at_or_under q x) (any_under xs q) h)

pub all_children : (counts : Counts) (due apart : PathValue → Bool) (s t : Tree) (p : PathValue) (xs : List PathValue) (cs : List Step) → AreChildren p xs → AreAll s p xs → AreAll t p xs
    → IsRight counts (any_under xs) due apart s t cs → IsRight counts (below p) due apart s t cs
all_children counts due apart s t p xs cs children all_s all_t right =
    rescoped scopes (joined counts rest (any_under xs) due apart s t [] cs disjoint (λ q h. refl) reasons (nothing counts rest due apart s t same) right)
  where
    rest : PathValue → Bool
    rest q = below p q && not (any_under xs q)

    disjoint : (q : PathValue) → (below p q && not (any_under xs q)) ≡ true → any_under xs q ≡ false
    disjoint q = by (below p q) (any_under xs q)
      where
        by : (a b : Bool) → (a && not b) ≡ true → b ≡ false
        by a false h = refl
        by true true h = sym h
        by false true h = sym h

    reasons : (q : PathValue) → (below p q && not (any_under xs q)) ≡ true → list_any (may_change q) cs ≡ false
    reasons q h = reach_named cs q (λ y named. false_or (is_at_or_under q y) (λ u. false≢true (sym (disjoint q h) ∙ any_more xs q y (right.within y named) u)))

    none : (q : PathValue) → (below p q && not (any_under xs q)) ≡ true → (s q ≡ None) × (t q ≡ None)
    none q h = (all_s q (and_front (below p q) (not (any_under xs q)) h) (disjoint q h), all_t q (and_front (below p q) (not (any_under xs q)) h) (disjoint q h))

    same : (q : PathValue) → (below p q && not (any_under xs q)) ≡ true → (node_at s q ≡ node_at t q) × (IsInBoth s t q → (counts.changes ≡ true → created_revision s q ≡ created_revision t q) × ((due q ≡ false) × (apart q ≡ false)))
    same q h = (ap (option_map node_of) ((none q h).0 ∙ sym (none q h).1), λ both. absurd (none_some (none q h).0 both.0))

    scopes : (q : PathValue) → ((below p q && not (any_under xs q)) || any_under xs q) ≡ below p q
    scopes q = by (below p q) (any_under xs q) (all_below p q xs children.each)
      where
        by : (a b : Bool) → (b ≡ true → a ≡ true) → ((a && not b) || b) ≡ a
        by true true f = refl
        by true false f = refl
        by false true f = sym (f refl)
        by false false f = refl

-- ---- the deletes

and_rest : (a b : Bool) → (a && b) ≡ true → b ≡ true
and_rest true b h = h
and_rest false b h = absurd (false≢true h)

node_some : (o : Option Entry) → is_some (option_map node_of o) ≡ is_some o
node_some None = refl
node_some (Some x) = refl

-- where an entry stands on one side alone, the nodes differ
pub one_side : (o n : Option Entry) → is_some o ≡ true → is_some n ≡ false → option_map node_of o ≡ option_map node_of n → ⊥
one_side o n old new e = false≢true (sym new ∙ sym (node_some n) ∙ sym (ap is_some e) ∙ node_some o ∙ old)

-- what goes differs, or stands in both trees and is apart
pub goes_why : (changes : Bool) (apart : PathValue → Bool) (r t : Tree) (p : PathValue) → Goes apart r t p ≡ true → Differs changes r t p ⊎ (IsInBoth r t p × (apart p ≡ true))
goes_why changes apart r t p g = by (is_some (t p)) refl (and_rest (is_some (r p)) (not (is_some (t p)) || apart p) g)
  where
    stood : is_some (r p) ≡ true
    stood = and_front (is_some (r p)) (not (is_some (t p)) || apart p) g

    by : (b : Bool) → is_some (t p) ≡ b → (not (is_some (t p)) || apart p) ≡ true → Differs changes r t p ⊎ (IsInBoth r t p × (apart p ≡ true))
    by true e h = inr ((stood, e), sym (ap (λ b. not b || apart p) e) ∙ h)
    by false e h = inl (λ same. one_side (r p) (t p) stood e same.0)

-- where nothing stands, nothing stands below
none_under : (t : Tree) (p q : PathValue) → HoldsTogether p t → is_some (t p) ≡ false → is_at_or_under q p ≡ true → t q ≡ None
none_under t p q holds none u = by (same_path p q) refl (t q) refl
  where
    lacks : (o : Option Entry) → is_some o ≡ false → IsSomeAnd o (λ y. IsTrue (is_directory y)) → ⊥
    lacks None e k = k
    lacks (Some x) e k = false≢true (sym e)

    by : (b : Bool) → same_path p q ≡ b → (o : Option Entry) → t q ≡ o → o ≡ None
    by b same None e = refl
    by true same (Some x) e = absurd (false≢true (sym none ∙ ap (λ y. is_some (t y)) (same_path_is p q same) ∙ ap is_some e))
    by false same (Some x) e = absurd (lacks (t p) none (holds p q (under_itself p) (ap (λ a. a && not (same_path p q)) u ∙ ap (λ a. true && not a) same) (ap is_some e)))

holds_under : (u : Tree) (top p : PathValue) → is_at_or_under p top ≡ true → HoldsTogether top u → HoldsTogether p u
holds_under u top p at holds y q up low some = holds y q (under_more y p top up at) low some

-- what goes from trees that hold together is a cut
pub goes_cut : (changes : Bool) (apart : PathValue → Bool) (r t : Tree) (top p : PathValue) → is_at_or_under p top ≡ true → BothHold apart r t top → Goes apart r t p ≡ true → IsCut changes apart r t p
goes_cut changes apart r t top p at sound g = record {
  stood = and_front (is_some (r p)) (not (is_some (t p)) || apart p) g;
  reason = goes_why changes apart r t p g;
  lone = λ q u both. lone q u both (is_some (t p)) refl;
}
  where
    lone : (q : PathValue) → is_at_or_under q p ≡ true → IsInBoth r t q → (b : Bool) → is_some (t p) ≡ b → apart q ≡ true
    lone q u both true e =
        sound.all_apart p q at (sym (ap (λ b. not b || apart p) e) ∙ and_rest (is_some (r p)) (not (is_some (t p)) || apart p) g) u both
    lone q u both false e = absurd (none_some (none_under t p q (holds_under t top p at sound.new_holds) e u) both.1)

-- what is a cut stays one when another was taken out
cut_without : (changes : Bool) (apart : PathValue → Bool) (r t : Tree) (d e : PathValue) → is_at_or_under e d ≡ false → IsCut changes apart r t e → IsCut changes apart (tree_without d r) t e
cut_without changes apart r t d e out c = record {
  stood = subst IsSome (sym (kept r d e out)) c.stood;
  reason = ⊎_elim (λ differs. inl (λ same. differs (sym (ap (option_map node_of) (kept r d e out)) ∙ same.0, λ counted. sym (ap (option_map (λ (x : Entry). x.last)) (kept r d e out)) ∙ same.1 counted)))
      (λ a. inr ((subst IsSome (sym (kept r d e out)) a.0.0, a.0.1), a.1)) c.reason;
  lone = λ q u both. c.lone q u (there q (is_at_or_under q d) both.0, both.1);
}
  where
    there : (q : PathValue) (b : Bool) → IsSome (cond b None (r q)) → IsSome (r q)
    there q true some = absurd (false≢true some)
    there q false some = some

pub cuts : (counts : Counts) (scope due apart : PathValue → Bool) (t : Tree) (own : Own) (rest : List Visit) (ds : List PathValue) (r : Tree)
    → ((e q : PathValue) → has ds e ≡ true → under e q ≡ true → scope q ≡ true) → AreDisjoint ds → ((e : PathValue) → has ds e ≡ true → IsCut counts.changes apart r t e)
    → IsRight counts scope due apart (without_all ds r) t (plan_steps own rest) → IsRight counts scope due apart r t (plan_steps own (map Delete ds ++ rest))
cuts counts scope due apart t own rest [] r covers disjoint each right = right
cuts counts scope due apart t own rest (d ∷ ds) r covers disjoint each right =
    cut counts scope due apart r t d (plan_steps own (map Delete ds ++ rest)) (λ q u. covers d q (or_left (same_path d d) (has ds d) (same_path_refl d)) u) (each d (or_left (same_path d d) (has ds d) (same_path_refl d)))
    (cuts counts scope due apart t own rest ds (tree_without d r) (λ e q h u. covers e q (or_right (same_path d e) (has ds e) h) u) disjoint.1
    (λ e h. cut_without counts.changes apart r t d e (false_or (is_at_or_under e d) (λ u. false≢true (sym (disjoint.0 e u) ∙ has_under ds e h))) (each e (or_right (same_path d e) (has ds e) h))) right)

-- the deletes of what goes, before the visits of what is to be there
pub with_cuts : (anew : Bool) (counts : Counts) (due apart : PathValue → Bool) (r t : Tree) (own : Own) (p : PathValue) (xs : List PathValue) (rest : List Visit)
    → BothHold apart r t p → AreChildren p xs
    → IsRight counts (below p) due apart (left_of anew apart r t xs) t (plan_steps own rest) → IsRight counts (below p) due apart (old_side anew r) t (plan_steps own (deletes_of anew apart r t xs ++ rest))
with_cuts true counts due apart r t own p xs rest sound children right = right
with_cuts false counts due apart r t own p xs rest sound children right =
    cuts counts (below p) due apart t own rest (going apart r t xs) r (λ e q h u. child_below p q e (going_each apart r t p xs children.each e h).0 u) (going_disjoint apart r t xs children.disjoint)
    (λ e h. goes_cut counts.changes apart r t p e (below_under p e (child_below p e e (going_each apart r t p xs children.each e h).0 (under_itself e))) sound (going_each apart r t p xs children.each e h).1) right

pub left_all : (anew : Bool) (apart : PathValue → Bool) (r t : Tree) (p : PathValue) (xs : List PathValue) → AreAll r p xs → AreAll (left_of anew apart r t xs) p xs
left_all true apart r t p xs all q low out = refl
left_all false apart r t p xs all q low out = without_all_at (going apart r t xs) r q ∙ by (any_under (going apart r t xs) q)
  where
    by : (b : Bool) → cond b None (r q) ≡ None
    by true = refl
    by false = all q low out

-- ---- the ends of the walk

pub nothing_both : (counts : Counts) (due apart : PathValue → Bool) (s t : Tree) (p : PathValue) → ((q : PathValue) → is_at_or_under q p ≡ true → s q ≡ None) → ((q : PathValue) → is_at_or_under q p ≡ true → t q ≡ None)
    → IsRight counts (under p) due apart s t []
nothing_both counts due apart s t p old new =
    nothing counts (under p) due apart s t (λ q h. (ap (option_map node_of) (old q h ∙ sym (new q h)), λ both. absurd (none_some (old q h) both.0)))

pub nothing_new : (counts : Counts) (due apart : PathValue → Bool) (anew : Bool) (r t : Tree) (p : PathValue) → is_some (t p) ≡ false → (anew ≡ false → is_some (r p) ≡ false) → BothHold apart r t p
    → IsRight counts (under p) due apart (old_side anew r) t []
nothing_new counts due apart true r t p none old sound = nothing_both counts due apart (λ _. None) t p (λ q u. refl) (λ q u. none_under t p q sound.new_holds none u)
nothing_new counts due apart false r t p none old sound = nothing_both counts due apart r t p (λ q u. none_under r p q sound.old_holds (old refl) u) (λ q u. none_under t p q sound.new_holds none u)

-- nothing is plan_steps where both trees are alike
pub nothing_alike : (counts : Counts) (due apart : PathValue → Bool) (anew : Bool) (r t : Tree) (p : PathValue) → anew ≡ false → ((q : PathValue) → is_at_or_under q p ≡ true → (r q ≡ t q) × (due q ≡ false) × (IsInBoth r t q → apart q ≡ false)) → IsRight counts (under p) due apart (old_side anew r) t []
nothing_alike counts due apart true r t p kept alike = absurd (false≢true (sym kept))
nothing_alike counts due apart false r t p kept alike =
    nothing counts (under p) due apart r t (λ q h. (ap (option_map node_of) (alike q h).0, λ both. (λ counted. ap (option_map _) (alike q h).0, ((alike q h).1, (alike q h).2 both))))

pub child_sound : (apart : PathValue → Bool) (r t : Tree) (p x : PathValue) → IsChild p x → BothHold apart r t p → BothHold apart r t x
child_sound apart r t p x child sound = record {
  old_holds = holds_under r p x at sound.old_holds;
  new_holds = holds_under t p x at sound.new_holds;
  of_one_kind = λ q u. sound.of_one_kind q (under_more q x p u at);
  all_apart = λ q y u. sound.all_apart q y (under_more q x p u at);
}
  where
    at : is_at_or_under x p ≡ true
    at = subst (λ z. is_at_or_under z p ≡ true) (sym child.1) (under_append p (child.0 ∷ []))

pub plan_steps_append : (own : Own) (xs ys : List Visit) → plan_steps own (xs ++ ys) ≡ plan_steps own xs ++ plan_steps own ys
plan_steps_append own [] ys = refl
plan_steps_append own (x ∷ xs) ys = ap (λ s. visit_steps own x ++ s) (plan_steps_append own xs ys) ∙ sym (append_assoc (visit_steps own x) (plan_steps own xs) (plan_steps own ys))

-- a child that stays and is not there anew stood nowhere before
pub stays_gone : (a : Bool) (o n : Option Entry) → goes a o n ≡ false → is_some n ≡ false → is_some o ≡ false
stays_gone a None n h e = refl
stays_gone a (Some x) None h e = absurd (false≢true (sym h))
stays_gone a (Some x) (Some y) h e = absurd (false≢true (sym e))

-- what stays in both trees is not apart
pub stays_together : (a : Bool) (o n : Option Entry) → goes a o n ≡ false → is_some o ≡ true → is_some n ≡ true → a ≡ false
stays_together a None n h old new = absurd (false≢true old)
stays_together a (Some x) None h old new = absurd (false≢true new)
stays_together a (Some x) (Some y) h old new = h

-- a top that goes is deleted first
pub top_cut : (counts : Counts) (due apart : PathValue → Bool) (r t : Tree) (own : Own) (p : PathValue) (rest : List Visit) → Goes apart r t p ≡ true → BothHold apart r t p
    → IsRight counts (under p) due apart (old_side true r) t (plan_steps own rest) → IsRight counts (under p) due apart r t (plan_steps own (Delete p ∷ rest))
top_cut counts due apart r t own p rest g sound right =
    cut counts (under p) due apart r t p (plan_steps own rest) (λ q u. u) (goes_cut counts.changes apart r t p p (under_itself p) sound g)
    (reseated counts (under p) due apart (λ _. None) (tree_without p r) t (plan_steps own rest) (λ q w h u. under_more w q p u h) (λ q h. sym (left_out r p q h)) right)

-- a close says no step
pub entry_steps : (own : Own) (dir : Bool) (v : Visit) (rest : List Visit) → plan_steps own (v ∷ rest) ≡ plan_steps own (entry_visits dir v rest)
entry_steps own true v rest =
    ap (λ cs. visit_steps own v ++ cs) (sym (plan_steps_append own rest (Close ∷ []) ∙ append-nil (plan_steps own rest)))
entry_steps own false v rest = refl

-- ---- files

lacks_directory : (o : Option Entry) → is_directory_there o ≡ false → IsSomeAnd o (λ y. IsTrue (is_directory y)) → ⊥
lacks_directory None e k = k
lacks_directory (Some x) e k = false≢true (sym e ∙ k)

-- where no directory stands, nothing stands below
none_below : (u : Tree) (p q : PathValue) → HoldsTogether p u → is_directory_there (u p) ≡ false → below p q ≡ true → u q ≡ None
none_below u p q holds none low = by (u q) refl
  where
    by : (o : Option Entry) → u q ≡ o → o ≡ None
    by None e = refl
    by (Some x) e = absurd (lacks_directory (u p) none (holds p q (under_itself p) low (ap is_some e)))

-- what stays where a file is to stand is no directory
no_directory : (apart : PathValue → Bool) (r t : Tree) (p : PathValue) → BothHold apart r t p → Goes apart r t p ≡ false → is_some (t p) ≡ true → is_directory_there (t p) ≡ false → is_directory_there (r p) ≡ false
no_directory apart r t p sound stays some file = by (is_some (r p)) refl
  where
    none : (o : Option Entry) → is_some o ≡ false → is_directory_there o ≡ false
    none None e = refl
    none (Some x) e = absurd (false≢true (sym e))

    same : (o n : Option Entry) → IsSomeAnd o (λ x. IsSomeAnd n (λ y. is_directory x ≡ is_directory y)) → is_directory_there n ≡ false → is_directory_there o ≡ false
    same None n k e = absurd k
    same (Some x) None k e = absurd k
    same (Some x) (Some y) k e = k ∙ e

    by : (b : Bool) → is_some (r p) ≡ b → is_directory_there (r p) ≡ false
    by true old = same (r p) (t p) (sound.of_one_kind p (under_itself p) (old, some) (stays_together (apart p) (r p) (t p) stays old some)) file
    by false old = none (r p) old

-- nothing is below a file
pub nothing_below : (counts : Counts) (due apart : PathValue → Bool) (anew : Bool) (r t : Tree) (p : PathValue) → is_some (t p) ≡ true → is_directory_there (t p) ≡ false → (anew ≡ false → Goes apart r t p ≡ false) → BothHold apart r t p
    → IsRight counts (below p) due apart (old_side anew r) t []
nothing_below counts due apart anew r t p some file stays sound =
    nothing counts (below p) due apart (old_side anew r) t (λ q low. (ap (option_map node_of) (old q low anew refl ∙ sym (new q low)), λ both. absurd (none_some (new q low) both.1)))
  where
    new : (q : PathValue) → below p q ≡ true → t q ≡ None
    new q low = none_below t p q sound.new_holds file low

    old : (q : PathValue) → below p q ≡ true → (b : Bool) → anew ≡ b → old_side b r q ≡ None
    old q low true e = refl
    old q low false e = none_below r p q sound.old_holds (no_directory apart r t p sound (stays e) some file) low

-- ---- what comes

-- where nothing stood, what is left of the old side is nothing in any case
old_left : (anew : Bool) (apart : PathValue → Bool) (r t : Tree) (p q : PathValue) → BothHold apart r t p → is_at_or_under q p ≡ true → old_side (anew || (not (is_some (r p)) || Goes apart r t p)) r q ≡ old_side (anew || Goes apart r t p) r q
old_left true apart r t p q sound u = refl
old_left false apart r t p q sound u = by (is_some (r p)) (Goes apart r t p) refl
  where
    by : (s g : Bool) → is_some (r p) ≡ s → old_side (not s || g) r q ≡ old_side g r q
    by true g e = refl
    by false true e = refl
    by false false e = sym (none_under r p q sound.old_holds e u)

pub added_entry : (counts : Counts) (due apart : PathValue → Bool) (anew : Bool) (r t : Tree) (p : PathValue) (cs : List Step) → BothHold apart r t p
    → IsRight counts (under p) due apart (old_side (anew || (not (is_some (r p)) || Goes apart r t p)) r) t cs → IsRight counts (under p) due apart (old_side (anew || Goes apart r t p) r) t cs
added_entry counts due apart anew r t p cs sound right =
    reseated counts (under p) due apart (old_side (anew || (not (is_some (r p)) || Goes apart r t p)) r) (old_side (anew || Goes apart r t p) r) t cs (λ q w h u. under_more w q p u h) (λ q h. old_left anew apart r t p q sound h) right

pub not_false : (b : Bool) → not b ≡ false → b ≡ true
not_false true h = refl
not_false false h = absurd (false≢true (sym h))

-- nor does it change what is right
pub with_close : (counts : Counts) (scope due apart : PathValue → Bool) (r t : Tree) (own : Own) (dir : Bool) (v : Visit) (rest : List Visit)
    → IsRight counts scope due apart r t (plan_steps own (v ∷ rest)) → IsRight counts scope due apart r t (plan_steps own (entry_visits dir v rest))
with_close counts scope due apart r t own dir v rest right = subst (λ (cs : List Step). IsRight counts scope due apart r t cs) (entry_steps own dir v rest) right

-- ---- the root

pub some_there : (t : Tree) (p : PathValue) → HasDirectory t p → is_some (t p) ≡ true
some_there t p h = by (t p) h
  where
    by : (o : Option Entry) → IsSomeAnd o (λ e. IsTrue (is_directory e)) → is_some o ≡ true
    by None k = absurd k
    by (Some x) k = refl

directory_there : (t : Tree) (p : PathValue) → HasDirectory t p → is_directory_there (t p) ≡ true
directory_there t p h = by (t p) h
  where
    by : (o : Option Entry) → IsSomeAnd o (λ e. IsTrue (is_directory e)) → is_directory_there o ≡ true
    by None k = absurd k
    by (Some x) k = k

-- a directory in both trees is of one kind
pub directory_in_both : (r t : Tree) (p : PathValue) → HasDirectory r p → HasDirectory t p → IsOfOneKind r t p
directory_in_both r t p old new = by (r p) (t p) old new
  where
    by : (o n : Option Entry) → IsSomeAnd o (λ e. IsTrue (is_directory e)) → IsSomeAnd n (λ e. IsTrue (is_directory e)) → IsSomeAnd o (λ e. IsSomeAnd n (λ f. is_directory e ≡ is_directory f))
    by None n h k = absurd h
    by (Some x) None h k = absurd k
    by (Some x) (Some y) h k = h ∙ sym k

-- the root is opened, whatever is below it
pub root_opened : (counts : Counts) (due apart : PathValue → Bool) (r t : Tree) (own : Own) (rest : List Visit) → HasDirectory r [] → HasDirectory t [] → apart [] ≡ false → LeadsOver counts.seen r t own
    → IsRight counts (below []) due apart r t (plan_steps own rest) → IsRight counts (under []) due apart r t (plan_steps own (Open [] true ∷ rest))
root_opened counts due apart r t own rest old new stays leads right =
    subst (λ b. IsRight counts (under []) due apart r t (plan_steps own (Open [] b ∷ rest))) (directory_there t [] new)
    (entry_opened counts due apart r t own [] rest stays (directory_in_both r t [] old new) leads (inl refl) right)

-- what follows from two facts of an answer holds of it
pub ok_both : {T E : Type 0} (r : Result T E) (P Q R : T → Type 0) → ((v : T) → P v → Q v → R v) → IfOk r P → IfOk r Q → IfOk r R
ok_both (Ok v) P Q R make p q = make v p q
ok_both (Err e) P Q R make p q = tt
