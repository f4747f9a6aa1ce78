-- A path and those above it.
use Rattle.std.proofs.Common.{◌≡◌, arith, ℕ, suc, ◌<◌, ◌≤◌, Bool, true, false, cond, List, [], ◌∷◌, ◌++◌, length, map, drop, Some, refl, sym, ap, ◌∙◌}
use Rattle.std.proofs.lemmas.Option.{none-some, same_Some}
use Rattle.std.specs.List.{find, AllByRecursion}
use Rattle.svnpath.specs.{Paths.{Component, PathValue}, Texts.parent}
use Rattle.repo_api.specs.States.{TreeMap}
use Rattle.merge_queries.specs.{Queries.{asked, has_value, nearest, upwards}, Walks.from_there, declared.inheritance.Inheritance.Inheritance}
use Rattle.merge_queries.specs.declared.inheritance.Inheritance.TheVariants.{Explicit, Inherited, NearestAncestor}

-- the path itself comes first, and then what is above it
pub upwards_first : (p : PathValue) → upwards p ≡ p ∷ from_there (parent p)
upwards_first [] = refl
upwards_first (c ∷ []) = refl
upwards_first (c ∷ d ∷ p) =
    ap (λ paths. map (λ above. c ∷ above) paths ++ [] ∷ []) (upwards_first (d ∷ p))

pub above_first : (p : PathValue) → from_there (parent p) ≡ drop 1 (upwards p)
above_first p = ap (λ paths. drop 1 paths) (sym (upwards_first p))

pub found_first : (test : PathValue → Bool) (p : PathValue) → test p ≡ true → find test (upwards p) ≡ Some p
found_first test p e =
    ap (find test) (upwards_first p) ∙ ap (λ b. cond b (Some p) (find test (from_there (parent p)))) e

pub passed_first : (test : PathValue → Bool) (p : PathValue) → test p ≡ false → find test (upwards p) ≡ find test (from_there (parent p))
passed_first test p e =
    ap (find test) (upwards_first p) ∙ ap (λ b. cond b (Some p) (find test (from_there (parent p)))) e

pub fewer_above : (p : PathValue) → length (from_there (parent p)) < length (upwards p)
fewer_above p = omega (ap (λ paths. length paths) (upwards_first p), arith)

-- ---- none is longer

abbrev AreShort : ℕ → List PathValue → Type 0
AreShort n paths = AllByRecursion (λ q. length q ≤ n) paths

longer : (c : Component) (n : ℕ) (paths : List PathValue) → AreShort n paths → AreShort (suc n) (map (λ above. c ∷ above) paths ++ [] ∷ [])
longer c n [] short = (omega arith, tt)
longer c n (q ∷ paths) short = (omega (short.0, arith), longer c n paths short.1)

upwards_short : (p : PathValue) → AreShort (length p) (upwards p)
upwards_short [] = (omega arith, tt)
upwards_short (c ∷ p) = longer c (length p) (upwards p) (upwards_short p)

rest_short : (n : ℕ) (paths : List PathValue) → AreShort n paths → AreShort n (drop 1 paths)
rest_short n [] short = tt
rest_short n (q ∷ paths) short = short.1

asked_short : (inheritance : Inheritance) (p : PathValue) → AreShort (length p) (asked inheritance p)
asked_short Explicit p = (omega arith, tt)
asked_short Inherited p = upwards_short p
asked_short NearestAncestor p = rest_short (length p) (upwards p) (upwards_short p)

found_short : (test : PathValue → Bool) (n : ℕ) (paths : List PathValue) (above : PathValue) → AreShort n paths → Some above ≡ find test paths → length above ≤ n
found_short test n [] above short is = absurd (none-some above (sym is))
found_short test n (q ∷ paths) above short is = by (test q) is (found_short test n paths above short.1)
  where
    by : (b : Bool) → Some above ≡ cond b (Some q) (find test paths) → (Some above ≡ find test paths → length above ≤ n) → length above ≤ n
    by true e more = omega (ap (λ x. length x) (same_Some above q e), short.0, arith)
    by false e more = more e

pub nearest_is_short : (m : TreeMap) (inheritance : Inheritance) (p above : PathValue) → Some above ≡ nearest m inheritance p → length above ≤ length p
nearest_is_short m inheritance p above is =
    found_short (has_value m) (length p) (asked inheritance p) above (asked_short inheritance p) is
