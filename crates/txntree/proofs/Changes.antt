-- The changes of an open node from the first on, in the order of names.
use Rattle.std.proofs.{Common.{◌≡◌, Bool, true, false, cond, List, [], ◌∷◌, Option, Some, None, refl, sym, ap, subst, ◌∙◌}, lemmas.Bool.false≢true}
use Rattle.std.specs.{Prelude.IsSome, BTreeMap.BTreeMap, Cmp.Lexicographic.slice_cmp, List.AllByRecursion, List.Sorted.IsStrictlySortedBy, Map.keys_of}
use Rattle.std.specs.{Ordering.{nat_cmp, is_eq}, declared.cmp.Ordering.TheVariants.Less}
use Rattle.svnpath.specs.{PathLaws.{same_component_is, same_component_refl}, Paths.{Component, same_component}}
use Rattle.txntree.specs.{Changes.{first_of, IsWalking}, Spots.changed_at, declared.open.Change.Change, declared.open.OpenNode.OpenNode}
use Rattle.txntree.proofs.Names.{at_is_name}

in_order : (name : Component) (changes : List (Component × Change)) → AllByRecursion (λ n. slice_cmp nat_cmp name n ≡ Less) (keys_of changes) → first_of changes name ≡ None
in_order name [] below = refl
in_order name (e ∷ changes) below = ap (λ o. cond (is_eq o) (Some e.1) (first_of changes name)) below.0 ∙ in_order name changes below.1

same_back : (n m : Component) → same_component m n ≡ same_component n m
same_back n m = by (same_component n m) (same_component m n) refl refl
  where
    by : (b c : Bool) → same_component n m ≡ b → same_component m n ≡ c → c ≡ b
    by true true x y = refl
    by false false x y = refl
    by true false x y = absurd (false≢true (sym y ∙ ap (λ k. same_component k n) (sym (same_component_is n m x)) ∙ same_component_refl n))
    by false true x y = absurd (false≢true (sym x ∙ ap (λ k. same_component n k) (same_component_is m n y) ∙ same_component_refl n))

pub first_here : (name : Component) (change : Change) (changes : List (Component × Change)) → Some change ≡ first_of ((name, change) ∷ changes) name
first_here name change changes = sym (ap (λ b. cond b (Some change) (first_of changes name)) (at_is_name name name ∙ same_component_refl name))

pub first_gone : (name : Component) (change : Change) (changes : List (Component × Change)) → IsStrictlySortedBy (slice_cmp nat_cmp) (keys_of ((name, change) ∷ changes))
    → (n : Component) → first_of changes n ≡ cond (same_component name n) None (first_of ((name, change) ∷ changes) n)
unfolding IsStrictlySortedBy
first_gone name change changes sorted n = by (same_component name n) refl
  where
    by : (b : Bool) → same_component name n ≡ b → first_of changes n ≡ cond b None (first_of ((name, change) ∷ changes) n)
    by true here = ap (λ k. first_of changes k) (sym (same_component_is name n here)) ∙ in_order name changes sorted.0
    by false apart = sym (ap (λ b. cond b (Some change) (first_of changes n)) (at_is_name n name ∙ same_back name n ∙ apart))

pub sorted_rest : (e : Component × Change) (changes : List (Component × Change)) → IsStrictlySortedBy (slice_cmp nat_cmp) (keys_of (e ∷ changes)) → IsStrictlySortedBy (slice_cmp nat_cmp) (keys_of changes)
unfolding IsStrictlySortedBy
sorted_rest e changes sorted = sorted.1

-- the walk over the changes
pub walk_begins : (self : OpenNode) (left : List (Component × Change)) (kept : BTreeMap Component Change) (P : Component → Option Change → Type 0)
    → IsStrictlySortedBy (slice_cmp nat_cmp) (keys_of left) → ((n : Component) → first_of left n ≡ changed_at self.changed n) → ((n : Component) → changed_at kept n ≡ None)
    → ((n : Component) → changed_at self.changed n ≡ None → P n None) → IsWalking self left kept P
walk_begins self left kept P sorted all none others = record {
  sorted = sorted;
  among = λ n c is. sym (all n) ∙ is;
  todo = λ n some. none n;
  done = λ n is. subst (P n) (sym (none n)) (others n (sym (all n) ∙ is));
}

pub walk_goes_on : (self : OpenNode) (name : Component) (change : Change) (left : List (Component × Change)) (kept next : BTreeMap Component Change) (o : Option Change) (P : Component → Option Change → Type 0)
    → IsWalking self ((name, change) ∷ left) kept P
    → ((n : Component) → changed_at next n ≡ cond (same_component name n) o (changed_at kept n))
    → P name o → IsWalking self left next P
walk_goes_on self name change left kept next o P so put here = record {
  sorted = sorted_rest (name, change) left so.sorted;
  among = λ n c is. so.among n c (rest n c is (same_component name n) refl);
  todo = λ n some. put n ∙ waits n some (same_component name n) refl;
  done = λ n is. subst (P n) (sym (put n)) (finished n is (same_component name n) refl);
}
  where
    gone : (n : Component) → first_of left n ≡ cond (same_component name n) None (first_of ((name, change) ∷ left) n)
    gone = first_gone name change left so.sorted

    rest : (n : Component) (c : Change) → first_of left n ≡ Some c → (b : Bool) → same_component name n ≡ b → first_of ((name, change) ∷ left) n ≡ Some c
    rest n c is true same = cc (is, gone n, ap (λ b. cond b None (first_of ((name, change) ∷ left) n)) same)
    rest n c is false apart = sym (gone n ∙ ap (λ b. cond b None (first_of ((name, change) ∷ left) n)) apart) ∙ is

    waits : (n : Component) → IsSome (first_of left n) → (b : Bool) → same_component name n ≡ b → cond (same_component name n) o (changed_at kept n) ≡ None
    waits n some true same = absurd (false≢true (subst (λ x. IsSome x) (gone n ∙ ap (λ b. cond b None (first_of ((name, change) ∷ left) n)) same) some))
    waits n some false apart = ap (λ b. cond b o (changed_at kept n)) apart ∙ so.todo n (subst (λ x. IsSome x) (gone n ∙ ap (λ b. cond b None (first_of ((name, change) ∷ left) n)) apart) some)

    finished : (n : Component) → first_of left n ≡ None → (b : Bool) → same_component name n ≡ b → P n (cond (same_component name n) o (changed_at kept n))
    finished n is true same = subst (λ b. P n (cond b o (changed_at kept n))) (sym same) (subst (λ k. P k o) (same_component_is name n same) here)
    finished n is false apart = subst (λ b. P n (cond b o (changed_at kept n))) (sym apart)
        (so.done n (sym (gone n ∙ ap (λ b. cond b None (first_of ((name, change) ∷ left) n)) apart) ∙ is))

-- a change of which nothing is kept
pub walk_passes : (self : OpenNode) (name : Component) (change : Change) (left : List (Component × Change)) (kept : BTreeMap Component Change) (P : Component → Option Change → Type 0)
    → IsWalking self ((name, change) ∷ left) kept P → P name None → IsWalking self left kept P
walk_passes self name change left kept P so here = walk_goes_on self name change left kept kept None P so (λ n. by n (same_component name n) refl) here
  where
    by : (n : Component) (b : Bool) → same_component name n ≡ b → changed_at kept n ≡ cond b None (changed_at kept n)
    by n true same = ap (changed_at kept) (sym (same_component_is name n same)) ∙ so.todo name (subst (λ o. IsSome o) (first_here name change left) refl)
    by n false apart = refl
