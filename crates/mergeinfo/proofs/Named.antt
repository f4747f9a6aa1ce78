-- A path is read component by component.
use Rattle.std.proofs.Common.{◌≡◌, ℕ, ◌+◌, ◌<◌, ◌≤◌, true, false, cond, List, [], ◌∷◌, ◌++◌, length, drop, get_or, Option, Some, None, Result, refl, sym, ap}
use Rattle.std.proofs.{Common.{◌∙◌, arith}, lemmas.List.{at_drop_more, at_drop_all}, lemmas.Bool.Decides.nat_tests}
use Rattle.std.specs.{Prelude.is_none, List.filter, Option.option_or, Result.result_ok}
use Rattle.svnpath.specs.{Paths.{PathValue, Component}, Components.{beneath, component_fault, depth_fault}, declared.fault.PathFault.PathFault}
use Rattle.svnpath.specs.declared.fault.PathFault.TheVariants.{TooDeep}
use Rattle.svnpath.proofs.BeneathLemmas.{fault_of_first, beneath_push, beneath_refused, beneath_nothing}
use Rattle.mergeinfo.specs.Texts.{is_named}

-- what the components from the n-th on make beneath the path
abbrev pub rest_beneath : PathValue → List Component → ℕ → Result PathValue PathFault
rest_beneath path parts n = beneath path (filter is_named (drop n parts))

named_turn : (path : PathValue) (parts : List Component) (n : ℕ) (x : Component) → (n < length parts) × (x ≡ get_or parts n x)
    → rest_beneath path parts n ≡ beneath path (filter is_named (x ∷ drop (n + 1) parts))
named_turn path parts n x turn =
    at_drop_more (λ xs. beneath path (filter is_named xs)) parts n x turn.0
    ∙ ap (λ y. beneath path (filter is_named (y ∷ drop (n + 1) parts))) (sym turn.1)

pub path_passed : (path : PathValue) (parts : List Component) (n m : ℕ) (x : Component) (all : Result PathValue PathFault) → (n < length parts) × (x ≡ get_or parts n x)
    → m ≡ n + 1 → is_named x ≡ false → rest_beneath path parts n ≡ all → rest_beneath path parts m ≡ all
path_passed path parts n m x all turn next other before =
    ap (rest_beneath path parts) next
    ∙ sym (ap (λ t. beneath path (cond t (x ∷ filter is_named (drop (n + 1) parts)) (filter is_named (drop (n + 1) parts)))) other)
    ∙ sym (named_turn path parts n x turn) ∙ before

named_first : (path : PathValue) (parts : List Component) (n : ℕ) (x : Component) → (n < length parts) × (x ≡ get_or parts n x) → is_named x ≡ true
    → rest_beneath path parts n ≡ beneath path (x ∷ filter is_named (drop (n + 1) parts))
named_first path parts n x turn named =
    named_turn path parts n x turn
    ∙ ap (λ t. beneath path (cond t (x ∷ filter is_named (drop (n + 1) parts)) (filter is_named (drop (n + 1) parts)))) named

none_is : (o : Option PathFault) → is_none o ≡ true → o ≡ None
none_is None e = refl
none_is (Some fault) e = absurd cc

shallow : (depth : ℕ) → depth < 64 → depth_fault depth ≡ None
shallow depth lt = grind (arith, nat_tests)

deep : (depth : ℕ) → 64 ≤ depth → depth_fault depth ≡ Some TooDeep
deep depth le = grind (arith, nat_tests)

pub path_kept : (path longer : PathValue) (parts : List Component) (n m : ℕ) (x c : Component) (all : Result PathValue PathFault) → (n < length parts) × (x ≡ get_or parts n x)
    → m ≡ n + 1 → is_named x ≡ true → is_none (component_fault x) ≡ true → length path < 64 → longer ≡ path ++ c ∷ [] → c ≡ x
    → rest_beneath path parts n ≡ all → rest_beneath longer parts m ≡ all
path_kept path longer parts n m x c all turn next named right below pushed copied before =
    let free : fault_of_first path x ≡ None = ap (λ o. option_or o (depth_fault (length path))) (none_is (component_fault x) right) ∙ shallow (length path) below in
    ap (rest_beneath longer parts) next
    ∙ ap (λ p. beneath p (filter is_named (drop (n + 1) parts))) (pushed ∙ ap (λ y. path ++ y ∷ []) copied)
    ∙ sym (beneath_push path x (filter is_named (drop (n + 1) parts)) free)
    ∙ sym (named_first path parts n x turn named) ∙ before

refused_by : (path : PathValue) (parts : List Component) (n : ℕ) (x : Component) (fault : PathFault) (all : Result PathValue PathFault) → (n < length parts) × (x ≡ get_or parts n x)
    → is_named x ≡ true → fault_of_first path x ≡ Some fault → rest_beneath path parts n ≡ all → None ≡ result_ok all
refused_by path parts n x fault all turn named wrong before =
    ap result_ok (sym (beneath_refused path x (filter is_named (drop (n + 1) parts)) fault wrong) ∙ sym (named_first path parts n x turn named) ∙ before)

pub path_refused : (path : PathValue) (parts : List Component) (n : ℕ) (x : Component) (all : Result PathValue PathFault) → (n < length parts) × (x ≡ get_or parts n x)
    → is_named x ≡ true → is_none (component_fault x) ≡ false → rest_beneath path parts n ≡ all → None ≡ result_ok all
path_refused path parts n x all turn named wrong before = by (component_fault x) refl wrong
  where
    by : (o : Option PathFault) → component_fault x ≡ o → is_none o ≡ false → None ≡ result_ok all
    by None is w = absurd cc
    by (Some fault) is w = refused_by path parts n x fault all turn named (ap (λ o. option_or o (depth_fault (length path))) is) before

pub path_too_deep : (path : PathValue) (parts : List Component) (n : ℕ) (x : Component) (all : Result PathValue PathFault) → (n < length parts) × (x ≡ get_or parts n x)
    → is_named x ≡ true → is_none (component_fault x) ≡ true → 64 ≤ length path → rest_beneath path parts n ≡ all → None ≡ result_ok all
path_too_deep path parts n x all turn named right le before =
    refused_by path parts n x TooDeep all turn named (ap (λ o. option_or o (depth_fault (length path))) (none_is (component_fault x) right) ∙ deep (length path) le) before

pub path_done : (path : PathValue) (parts : List Component) (n : ℕ) (all : Result PathValue PathFault) → n ≡ length parts → rest_beneath path parts n ≡ all → Some path ≡ result_ok all
path_done path parts n all over before =
    ap result_ok (sym (beneath_nothing path) ∙ sym (at_drop_all (λ xs. beneath path (filter is_named xs)) parts n (omega (arith, over))) ∙ before)
