-- Revisions that are shown, one by one and with one more.
use Rattle.std.proofs.Common.{◌≡◌, ◌≤◌, ◌<◌, ℕ, zero, suc, List, [], ◌∷◌, ◌++◌, length, Option, Some, None, refl, sym, ap, arith, ◌∙◌}
use Rattle.std.proofs.lemmas.Option.{none-some}
use Rattle.std.specs.{FinMap.{get, entries, get-empty}, Prelude.slice_get}
use Rattle.svnpath.specs.Paths.{path_cmp, PathValue}
use Rattle.repo_api.specs.{Histories.{Changed, changes_in}, States.{ChangeMap, Revision, tree_in}, Trees.Tree}
use Rattle.shared_revisions.specs.Shown.{IsShownAs, AreShownAs}

pub as_many : (trees : ℕ → Tree) (cs : List ChangeMap) (rs : List Revision) → AreShownAs trees cs rs
    → length rs ≡ length cs
as_many trees [] [] are = refl
as_many trees [] (r ∷ rs) are = absurd are
as_many trees (c ∷ cs) [] are = absurd are
as_many trees (c ∷ cs) (r ∷ rs) are = ap suc (as_many (λ n. trees (suc n)) cs rs are.1)

-- what stands in the tree of a revision, where nothing stands in those that are none
pub seen_at : (trees : ℕ → Tree) (cs : List ChangeMap) (rs : List Revision) → AreShownAs trees cs rs
    → ((n : ℕ) → length cs ≤ n → (p : PathValue) → trees n p ≡ None)
    → (n : ℕ) (p : PathValue) → get (tree_in (slice_get rs n)) p ≡ trees n p
seen_at trees [] [] are none n p = get-empty path_cmp p ∙ sym (none n (omega arith) p)
seen_at trees [] (r ∷ rs) are none n p = absurd are
seen_at trees (c ∷ cs) [] are none n p = absurd are
seen_at trees (c ∷ cs) (r ∷ rs) are none zero p = are.0.1 p
seen_at trees (c ∷ cs) (r ∷ rs) are none (suc n) p =
    seen_at (λ m. trees (suc m)) cs rs are.1 (λ m past. none (suc m) (omega (arith, past))) n p

-- the changes of a revision, by their paths
abbrev pub listed : List ChangeMap → ℕ → List Changed
listed [] n = []
listed (c ∷ cs) zero = entries c
listed (c ∷ cs) (suc n) = listed cs n

pub listed_at : (trees : ℕ → Tree) (cs : List ChangeMap) (rs : List Revision)
    → AreShownAs trees cs rs → (n : ℕ) → changes_in (slice_get rs n) ≡ listed cs n
listed_at trees [] [] are n = refl
listed_at trees [] (r ∷ rs) are n = absurd are
listed_at trees (c ∷ cs) [] are n = absurd are
listed_at trees (c ∷ cs) (r ∷ rs) are zero = ap entries are.0.0
listed_at trees (c ∷ cs) (r ∷ rs) are (suc n) = listed_at (λ m. trees (suc m)) cs rs are.1 n

pub listed_is : (cs : List ChangeMap) (n : ℕ) (c : ChangeMap) → slice_get cs n ≡ Some c
    → listed cs n ≡ entries c
listed_is [] n c is = absurd (none-some c is)
listed_is (d ∷ cs) zero c is = ap entries_or is
  where
    entries_or : Option ChangeMap → List Changed
    entries_or None = []
    entries_or (Some e) = entries e
listed_is (d ∷ cs) (suc n) c is = listed_is cs n c is

pub listed_none : (cs : List ChangeMap) (n : ℕ) → slice_get cs n ≡ None → listed cs n ≡ []
listed_none [] n is = refl
listed_none (d ∷ cs) zero is = absurd (none-some d (sym is))
listed_none (d ∷ cs) (suc n) is = listed_none cs n is

-- with one revision more
pub shown_and : (trees : ℕ → Tree) (cs : List ChangeMap) (rs : List Revision) (c : ChangeMap)
    (r : Revision)
    → AreShownAs trees cs rs → IsShownAs (trees (length cs)) c r
    → AreShownAs trees (cs ++ c ∷ []) (rs ++ r ∷ [])
shown_and trees [] [] c r are is = (is, tt)
shown_and trees [] (s ∷ rs) c r are is = absurd are
shown_and trees (d ∷ cs) [] c r are is = absurd are
shown_and trees (d ∷ cs) (s ∷ rs) c r are is =
    (are.0, shown_and (λ n. trees (suc n)) cs rs c r are.1 is)

-- among trees of which those that were there are the same
pub shown_still : (trees more : ℕ → Tree) (cs : List ChangeMap) (rs : List Revision)
    → ((n : ℕ) → n < length cs → (p : PathValue) → more n p ≡ trees n p) → AreShownAs trees cs rs
    → AreShownAs more cs rs
shown_still trees more [] [] same are = tt
shown_still trees more [] (r ∷ rs) same are = absurd are
shown_still trees more (c ∷ cs) [] same are = absurd are
shown_still trees more (c ∷ cs) (r ∷ rs) same are = (
  (are.0.0, λ p. are.0.1 p ∙ sym (same 0 (omega arith) p)),
  shown_still (λ n. trees (suc n)) (λ n. more (suc n)) cs rs
      (λ n within. same (suc n) (omega (arith, within))) are.1,
)
