-- What a list of components beneath a path is, component by component.
use Rattle.std.proofs.Common.{◌≡◌, ℕ, ◌+◌, ◌≤◌, ◌<◌, List, [], ◌∷◌, ◌++◌, length, map, drop, get_or, Option, Some, None, Result, Ok, Err, is_some, IsNone, lit≤}
use Rattle.std.proofs.{Common.{refl, sym, ap, ◌∙◌, subst, append_assoc, arith}, lemmas.Bool.Decides.nat_tests}
use Rattle.std.proofs.{lemmas.List.{append-nil, length_push, at_drop_more, at_drop_all}, lemmas.List.Elements.{All-nil, All-head, All-tail, All-push}}
use Rattle.std.specs.{List.All, Option.option_or}
use Rattle.svnpath.specs.{Paths.{PathValue, Component}, Components.{component_fault, depth_fault, first_fault, unless_fault, beneath, IsComponent, IsRightPath}}
use Rattle.svnpath.specs.declared.fault.PathFault.{PathFault}

option_or_assoc : {T : Type 0} (a b r : Option T) → option_or a (option_or b r) ≡ option_or (option_or a b) r
option_or_assoc None b r = refl
option_or_assoc (Some x) b r = refl

-- what refuses the first of these components
abbrev pub fault_of_first : PathValue → Component → Option PathFault
fault_of_first path c = option_or (component_fault c) (depth_fault (length path))

first_fault-cons : (path : PathValue) (c : Component) (cs : List Component) → first_fault (length path) (c ∷ cs) ≡ option_or (fault_of_first path c) (first_fault (length path + 1) cs)
first_fault-cons path c cs = option_or_assoc (component_fault c) (depth_fault (length path)) (first_fault (length path + 1) cs)

-- a component that nothing refuses may go to the path
pub beneath_push : (path : PathValue) (c : Component) (cs : List Component) → fault_of_first path c ≡ None → beneath path (c ∷ cs) ≡ beneath (path ++ c ∷ []) cs
beneath_push path c cs right =
    ap (λ f. unless_fault f (path ++ c ∷ cs)) (first_fault-cons path c cs ∙ ap (λ f. option_or f (first_fault (length path + 1) cs)) right)
    ∙ ap (λ n. unless_fault (first_fault n cs) (path ++ c ∷ cs)) (sym (length_push path c))
    ∙ ap (λ p. unless_fault (first_fault (length (path ++ c ∷ [])) cs) p) (sym (append_assoc path (c ∷ []) cs))

pub beneath_refused : (path : PathValue) (c : Component) (cs : List Component) (fault : PathFault) → fault_of_first path c ≡ Some fault → beneath path (c ∷ cs) ≡ Err fault
beneath_refused path c cs fault wrong =
    ap (λ f. unless_fault f (path ++ c ∷ cs)) (first_fault-cons path c cs ∙ ap (λ f. option_or f (first_fault (length path + 1) cs)) wrong)

pub beneath_nothing : (path : PathValue) → beneath path [] ≡ Ok path
beneath_nothing path = ap (λ p. Ok p) (append-nil path)

option_or_none : {T : Type 0} (a b : Option T) → option_or a b ≡ None → (a ≡ None) × (b ≡ None)
option_or_none None b e = (refl, e)
option_or_none (Some x) b e = cc

depth_below : (n : ℕ) → depth_fault n ≡ None → n < 64
depth_below n e = grind (arith, nat_tests)

right_push : (path : PathValue) (c : Component) → IsRightPath path → fault_of_first path c ≡ None → IsRightPath (path ++ c ∷ [])
right_push path c right e =
    let both = option_or_none (component_fault c) (depth_fault (length path)) e in
    let below : length path < 64 = depth_below (length path) both.1 in
    record {
      components = All-push IsComponent path c right.components (ap is_some both.0);
      depth = omega (arith, length_push path c);
    }

pub root_right : IsRightPath []
root_right = record { components = All-nil IsComponent; depth = lit≤ tt }

-- beneath a right path a path that nothing refuses is right
pub beneath_right : (cs : List Component) (path p : PathValue) → IsRightPath path → beneath path cs ≡ Ok p → IsRightPath p
beneath_right [] path p right e = subst IsRightPath (cc (beneath_nothing path)) right
beneath_right (c ∷ cs) path p right e =
    cases (beneath_right cs (path ++ c ∷ []) p) (fault_of_first path c) refl
  where
    cases : (IsRightPath (path ++ c ∷ []) → beneath (path ++ c ∷ []) cs ≡ Ok p → IsRightPath p) → (f : Option PathFault) → fault_of_first path c ≡ f → IsRightPath p
    cases deeper None is = deeper (right_push path c right is) (sym (beneath_push path c cs is) ∙ e)
    cases deeper (Some fault) is = cc (sym (beneath_refused path c cs fault is) ∙ e)

none_from : {T : Type 0} (o : Option T) → IsNone o → o ≡ None
none_from None e = refl
none_from (Some x) e = cc

below_depth : (n : ℕ) → n < 64 → depth_fault n ≡ None
below_depth n e = grind (arith, nat_tests)

first_fault_none : (cs : List Component) (n : ℕ) → All IsComponent cs → n + length cs ≤ 64 → first_fault n cs ≡ None
first_fault_none [] n right short = refl
first_fault_none (c ∷ cs) n right short =
    ap (λ f. option_or f (option_or (depth_fault n) (first_fault (n + 1) cs))) (none_from (component_fault c) (All-head IsComponent c cs right))
    ∙ ap (λ f. option_or f (first_fault (n + 1) cs)) (below_depth n (omega arith))
    ∙ first_fault_none cs (n + 1) (All-tail IsComponent c cs right) (omega arith)

-- nothing refuses a right path
pub beneath_root : (path : PathValue) → IsRightPath path → beneath [] path ≡ Ok path
beneath_root path right = ap (λ f. unless_fault f path) (first_fault_none path 0 right.components (omega (arith, right.depth)))

-- a path that nothing refuses stands beneath the other as it is
pub beneath_is : (path : PathValue) (cs : List Component) (p : PathValue) → beneath path cs ≡ Ok p → p ≡ path ++ cs
beneath_is path cs p e =
    cases (first_fault (length path) cs) e
  where
    cases : (f : Option PathFault) → unless_fault f (path ++ cs) ≡ Ok p → p ≡ path ++ cs
    cases None e = cc
    cases (Some fault) e = cc

-- the items of a list from the n-th on, of which the n-th is x
beneath_turn : (f : List ℕ → Component) (path : PathValue) (parts : List (List ℕ)) (n : ℕ) (x : List ℕ) → (n < length parts) × (x ≡ get_or parts n x)
    → beneath path (map f (drop n parts)) ≡ beneath path (f x ∷ map f (drop (n + 1) parts))
beneath_turn f path parts n x turn =
    at_drop_more (λ xs. beneath path (map f xs)) parts n x turn.0
    ∙ ap (λ y. beneath path (f y ∷ map f (drop (n + 1) parts))) (sym turn.1)

-- a loop over the parts goes on
pub parts_kept : (f : List ℕ → Component) (path longer : PathValue) (parts : List (List ℕ)) (n m : ℕ) (x : List ℕ) (c : Component) (all : Result PathValue PathFault)
    → (n < length parts) × (x ≡ get_or parts n x) → m ≡ n + 1 → c ≡ f x → longer ≡ path ++ c ∷ [] → fault_of_first path c ≡ None
    → beneath path (map f (drop n parts)) ≡ all → beneath longer (map f (drop m parts)) ≡ all
parts_kept f path longer parts n m x c all turn next spelled pushed right before =
    ap (λ k. beneath longer (map f (drop k parts))) next
    ∙ ap (λ p. beneath p (map f (drop (n + 1) parts))) pushed
    ∙ sym (beneath_push path c (map f (drop (n + 1) parts)) right)
    ∙ ap (λ d. beneath path (d ∷ map f (drop (n + 1) parts))) spelled
    ∙ sym (beneath_turn f path parts n x turn)
    ∙ before

-- a loop over the parts meets one that is refused
pub parts_refused : (f : List ℕ → Component) (path : PathValue) (parts : List (List ℕ)) (n : ℕ) (x : List ℕ) (c : Component) (fault : PathFault) (all : Result PathValue PathFault)
    → (n < length parts) × (x ≡ get_or parts n x) → c ≡ f x → fault_of_first path c ≡ Some fault
    → beneath path (map f (drop n parts)) ≡ all → all ≡ Err fault
parts_refused f path parts n x c fault all turn spelled wrong before =
    sym before
    ∙ beneath_turn f path parts n x turn
    ∙ ap (λ d. beneath path (d ∷ map f (drop (n + 1) parts))) (sym spelled)
    ∙ beneath_refused path c (map f (drop (n + 1) parts)) fault wrong

-- a loop over the parts is at its end
pub parts_done : (f : List ℕ → Component) (path : PathValue) (parts : List (List ℕ)) (n : ℕ) (all : Result PathValue PathFault)
    → n ≡ length parts → beneath path (map f (drop n parts)) ≡ all → all ≡ Ok path
parts_done f path parts n all over before =
    sym before ∙ at_drop_all (λ xs. beneath path (map f xs)) parts n (omega (arith, over)) ∙ beneath_nothing path
