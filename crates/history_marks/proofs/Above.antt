-- Which paths lie beneath which, and what stands above what is there.
use Rattle.std.proofs.Common.{◌≡◌, ◌≢◌, ◌+◌, ◌⊎◌, inl, inr, ⊎_elim, Bool, true, false, [], ◌∷◌, ◌++◌, length, drop, Option, Some, None, is_some, refl, sym, ap}
use Rattle.std.proofs.{Common.{arith, append-nil, length-append, ◌∙◌}, Math.ListN.drop_of_length-le, lemmas.Bool.false≢true}
use Rattle.std.specs.Prelude.{IsSome, IsSomeAnd, IsTrue}
use Rattle.svnpath.specs.{PathLaws.{same_path_is, same_path_refl, under_append, under_is}, Paths.{Component, is_at_or_under, PathValue, same_path}}
use Rattle.repo_api.specs.{RightEdits.HasParent, Trees.{is_directory, IsTree, Tree}, declared.entry.Entry.Entry}
use Rattle.repo_laws.proofs.{Naming.nothing_beneath, Under.{not_true, under_by, head_or, tail_of}}
use Rattle.history_marks.specs.Transactions.{IsBeneath}

-- two paths that lie under one another are one
under_both : (p q : PathValue) → is_at_or_under p q ≡ true → is_at_or_under q p ≡ true → p ≡ q
under_both p q pq qp =
    let long : length p ≡ length q + length (drop (length q) p) = ap length (under_is p q pq) ∙ length-append q (drop (length q) p) in
    let short : length q ≡ length p + length (drop (length p) q) = ap length (under_is q p qp) ∙ length-append p (drop (length p) q) in
    let none : drop (length q) p ≡ [] = drop_of_length-le p (omega (arith, long, short)) in
    under_is p q pq ∙ ap (λ (r : PathValue). q ++ r) none ∙ append-nil q

-- what lies beneath a path doesn't have it under it
pub not_over : (p above : PathValue) → IsBeneath p above → is_at_or_under above p ≡ false
not_over p above beneath = not_true (is_at_or_under above p) (λ u. beneath.1 (under_both p above beneath.0 u))

pub apart_false : (p q : PathValue) → p ≢ q → same_path p q ≡ false
apart_false p q differ = not_true (same_path p q) (λ same. differ (same_path_is p q same))

pub false_apart : (p q : PathValue) → same_path p q ≡ false → q ≢ p
false_apart p q other is = false≢true (sym other ∙ ap (λ (x : PathValue). same_path p x) is ∙ same_path_refl p)

-- what begins the path of an entry begins its directory's path, or is the entry's path
beneath_or_at : (p q rest : PathValue) (c : Component) → q ++ c ∷ [] ≡ p ++ rest → (is_at_or_under q p ≡ true) ⊎ (q ++ c ∷ [] ≡ p)
beneath_or_at [] q rest c is = inl (under_append [] q)
beneath_or_at (d ∷ []) [] rest c is = inr (λ i. head_or d (is i) ∷ [])
beneath_or_at (d ∷ e ∷ p) [] rest c is = absurd (false≢true (ap is_cons (ap tail_of is)))
  where
    is_cons : PathValue → Bool
    is_cons [] = false
    is_cons (x ∷ xs) = true
beneath_or_at (d ∷ p) (e ∷ q) rest c is = by (beneath_or_at p q rest c (ap tail_of is))
  where
    heads : e ≡ d
    heads = ap (head_or d) is

    by : (is_at_or_under q p ≡ true) ⊎ (q ++ c ∷ [] ≡ p) → (is_at_or_under (e ∷ q) (d ∷ p) ≡ true) ⊎ (e ∷ (q ++ c ∷ []) ≡ d ∷ p)
    by (inl u) = inl (under_by (e ∷ q) (d ∷ p) (drop (length p) q) (λ i. heads i ∷ under_is q p u i))
    by (inr same) = inr (λ i. heads i ∷ same i)

-- in a tree something stands at each path above one at which something stands
pub stands_above : (t : Tree) (p above : PathValue) → IsTree t → IsSome (t p) → is_at_or_under p above ≡ true → IsSome (t above)
stands_above t p above tree some under = by (t above) refl
  where
    by : (o : Option Entry) → t above ≡ o → IsSome o
    by (Some e) is = refl
    by None is =
        let none : t p ≡ None = ap t (under_is p above under) ∙ nothing_beneath t above (drop (length above) p) tree is in
        absurd (false≢true (sym (ap is_some none) ∙ some))

-- and above one in a directory
pub parents_stand : (t : Tree) (p : PathValue) → IsTree t → HasParent t p → (above : PathValue) → IsBeneath p above → IsSome (t above)
parents_stand t p tree parent above beneath =
    ⊎_elim (stands_above t parent.directory above tree (some_directory (t parent.directory) parent.is_directory))
    (λ same. absurd (beneath.1 (parent.is ∙ same)))
    (beneath_or_at above parent.directory (drop (length above) p) parent.name (sym parent.is ∙ under_is p above beneath.0))
  where
    some_directory : (o : Option Entry) → IsSomeAnd o (λ e. IsTrue (is_directory e)) → IsSome o
    some_directory None dir = absurd dir
    some_directory (Some e) dir = refl
