-- Which directories are open, along the visits of a plan.
use Rattle.std.proofs.Common.{◌≡◌, ◌+◌, ◌==◌, eq-eqb, Bool, true, false, not, ◌&&◌, List, [], ◌∷◌, ◌++◌, length, map, Option, Some, None, refl, sym, ap, ◌∙◌}
use Rattle.std.proofs.{Common.{subst, if◌then◌else◌}, lemmas.Bool.false≢true, lemmas.List.length-append, lemmas.List.Elements.{All-head, All-tail}}
use Rattle.std.specs.Prelude.{is_some, All, option_and_then}
use Rattle.svnpath.specs.{PathLaws.under_append, Paths.{is_at_or_under, PathValue}}
use Rattle.repo_api.specs.{Trees.{is_directory_there, Tree}, declared.entry.Entry.Entry}
use Rattle.drive_rules.specs.Places.{is_in_directory}
use Rattle.drive_rules.proofs.Joined.{or_left, and_both}
use Rattle.drive_visits.specs.{Visits.Visit, Visits.Visit.{Delete, Close}, Nesting.{after_entry_visit, after_visit, walk, AreNested, entry_visits, stands_as}}
use Rattle.drive_visits.specs.Walks.{IsChild, goes, going, deletes_of}

no_some : {X : Type 0} (x : X) → ◌≡◌ {A = Option X} None (Some x) → ⊥
no_some x e = false≢true (ap is_some e)

-- one walk after another
pub walk_append : (t : Tree) (top : PathValue) (xs ys : List Visit) (ds mid : List PathValue) → walk t top ds xs ≡ Some mid → walk t top ds (xs ++ ys) ≡ walk t top mid ys
walk_append t top [] ys ds mid h = ap (λ o. option_and_then (λ m. walk t top m ys) o) h
walk_append t top (v ∷ xs) ys ds mid h = by (λ m g. walk_append t top xs ys m mid g) (after_visit t top ds v) h
  where
    by : ((m : List PathValue) → walk t top m xs ≡ Some mid → walk t top m (xs ++ ys) ≡ walk t top mid ys) → (o : Option (List PathValue)) → option_and_then (λ m. walk t top m xs) o ≡ Some mid
        → option_and_then (λ m. walk t top m (xs ++ ys)) o ≡ walk t top mid ys
    by rest None g = absurd (no_some mid g)
    by rest (Some m) g = rest m g

pub nested_nothing : (t : Tree) (top d : PathValue) → AreNested t top d []
nested_nothing t top d ds = refl

pub nested_append : (t : Tree) (top d : PathValue) (xs ys : List Visit) → AreNested t top d xs → AreNested t top d ys → AreNested t top d (xs ++ ys)
nested_append t top d xs ys x y ds = walk_append t top xs ys (d ∷ ds) (d ∷ ds) (x ds) ∙ y ds

-- what begins by leaving the directory isn't of what is in it
pub nested_opens : (t : Tree) (top d : PathValue) (vs : List Visit) → AreNested t top d (Close ∷ vs) → ⊥
nested_opens t top d vs nested = no_some (d ∷ []) (nested [])

pub nested_delete : (t : Tree) (top d p : PathValue) (vs : List Visit) → is_in_directory top d p ≡ true → AreNested t top d vs → AreNested t top d (Delete p ∷ vs)
nested_delete t top d p vs inside nested ds =
    ap (λ b. option_and_then (λ m. walk t top m vs) (if b then Some (d ∷ ds) else None)) inside ∙ nested ds

-- an entry stands there as what it is
stands_here : (dir : Bool) (e : Option Entry) → is_some e ≡ true → dir ≡ is_directory_there e → stands_as dir e ≡ true
stands_here dir None some kind = absurd (false≢true some)
stands_here true (Some e) some kind = sym kind
stands_here false (Some e) some kind = ap not (sym kind)

-- an entry in its directory, with what is below it
pub nested_entry : (t : Tree) (top d p : PathValue) (v : Visit) (dir : Bool) (rest : List Visit) → ((ds : List PathValue) → after_visit t top ds v ≡ after_entry_visit t top ds p dir) → dir ≡ is_directory_there (t p) → (dir ≡ false → rest ≡ [])
    → is_in_directory top d p ≡ true → is_some (t p) ≡ true → AreNested t top p rest → AreNested t top d (entry_visits dir v rest)
nested_entry t top d p v true rest enters kind none inside stands nested ds =
    ap (λ o. option_and_then (λ m. walk t top m (rest ++ Close ∷ [])) o)
    (enters (d ∷ ds) ∙ ap (λ b. if b then Some (p ∷ d ∷ ds) else None) (and_both (is_in_directory top d p) (stands_as true (t p)) inside (stands_here true (t p) stands kind)))
    ∙ walk_append t top rest (Close ∷ []) (p ∷ d ∷ ds) (p ∷ d ∷ ds) (nested (d ∷ ds))
nested_entry t top d p v false rest enters kind none inside stands nested ds =
    ap (λ o. option_and_then (λ m. walk t top m rest) o)
    (enters (d ∷ ds) ∙ ap (λ b. if b then Some (d ∷ ds) else None) (and_both (is_in_directory top d p) (stands_as false (t p)) inside (stands_here false (t p) stands kind)))
    ∙ ap (λ vs. walk t top (d ∷ ds) vs) (none refl)

-- a child has its place in its directory
pub child_inside : (top p x : PathValue) → IsChild p x → is_in_directory top p x ≡ true
child_inside top p x child =
    or_left (is_at_or_under x p && (length x == length p + 1)) _
    (and_both (is_at_or_under x p) (length x == length p + 1) (subst (λ y. is_at_or_under y p ≡ true) (sym child.1) (under_append p (child.0 ∷ [])))
    (eq-eqb (length x) (length p + 1) (ap length child.1 ∙ length-append p (child.0 ∷ []))))

pub nested_deletes : (anew : Bool) (apart : PathValue → Bool) (r t : Tree) (top p : PathValue) (xs : List PathValue) → All (IsChild p) xs → AreNested t top p (deletes_of anew apart r t xs)
nested_deletes true apart r t top p xs each = nested_nothing t top p
nested_deletes false apart r t top p [] each = nested_nothing t top p
nested_deletes false apart r t top p (x ∷ xs) each = by (goes (apart x) (r x) (t x)) (nested_deletes false apart r t top p xs (All-tail (IsChild p) x xs each))
  where
    by : (b : Bool) → AreNested t top p (map Delete (going apart r t xs)) → AreNested t top p (map Delete (if b then x ∷ going apart r t xs else going apart r t xs))
    by true rest = nested_delete t top p x (map Delete (going apart r t xs)) (child_inside top p x (All-head (IsChild p) x xs each)) rest
    by false rest = rest
