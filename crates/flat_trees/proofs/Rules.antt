-- The rules at one path, in the forms that the code gives and those of the definitions.
use Rattle.std.proofs.Common.{◌≡◌, Bool, true, false, Option, Some, None, option_map, refl, ap, subst}
use Rattle.std.specs.Prelude.{if◌then◌else◌}
use Rattle.svnpath.specs.{PathLaws.same_path_is, Paths.{is_at_or_under, PathValue, same_path}}
use Rattle.repo_api.specs.{Edits.{revised, touched, touched_above, with_open_mark}, Trees.Tree, declared.entry.Entry.Entry}
use Rattle.flat_trees.specs.EntryChanges.{part_at}

-- an entry that has a part changed, and then `last` with_open_mark at its path and above it
pub part_touched : (t : Tree) (p q : PathValue) (f : Entry → Entry) → touched_above p (λ r. part_at p f r (t r)) q ≡ revised t p f q
part_touched t p q f = by (same_path p q) refl
  where
    opened_twice : (o : Option Entry) → option_map touched (option_map (λ e. with_open_mark (f e)) o) ≡ option_map (λ e. with_open_mark (f e)) o
    opened_twice None = refl
    opened_twice (Some e) = refl

    at : (under : Bool) (o : Option Entry) → is_at_or_under p q ≡ under → same_path p q ≡ true → (if under then option_map touched (option_map (λ e. with_open_mark (f e)) o) else option_map (λ e. with_open_mark (f e)) o) ≡ option_map (λ e. with_open_mark (f e)) o
    at true o is same = opened_twice o
    at false o is same = refl

    by : (b : Bool) → same_path p q ≡ b
        → (if is_at_or_under p q then option_map touched (if b then option_map (λ e. with_open_mark (f e)) (t q) else t q) else (if b then option_map (λ e. with_open_mark (f e)) (t q) else t q))
        ≡ (if b then option_map (λ e. with_open_mark (f e)) (t q) else touched_above p t q)
    by true same = at (is_at_or_under p q) (t q) refl same
    by false same = refl

-- a change of what stands there is that of any that does the same
pub revised_as : (t : Tree) (p q : PathValue) (f g : Entry → Entry) → ((e : Entry) → t p ≡ Some e → f e ≡ g e) → revised t p f q ≡ revised t p g q
revised_as t p q f g same = by (same_path p q) refl
  where
    here : (o : Option Entry) → ((e : Entry) → o ≡ Some e → f e ≡ g e) → option_map (λ e. with_open_mark (f e)) o ≡ option_map (λ e. with_open_mark (g e)) o
    here None h = refl
    here (Some e) h = ap (λ x. Some (with_open_mark x)) (h e refl)

    by : (b : Bool) → same_path p q ≡ b → (if b then option_map (λ e. with_open_mark (f e)) (t q) else touched_above p t q) ≡ (if b then option_map (λ e. with_open_mark (g e)) (t q) else touched_above p t q)
    by true is = subst (λ k. option_map (λ e. with_open_mark (f e)) (t k) ≡ option_map (λ e. with_open_mark (g e)) (t k)) (same_path_is p q is) (here (t p) same)
    by false is = refl
