-- Laws of paths, for the crates above.
use Rattle.std.proofs.Common.{add-one, ◌≡◌, true, ◌&&◌, [], ◌∷◌, ◌++◌, Some, length, take, drop, refl, sym, ap, ◌∙◌}
use Rattle.std.proofs.{lemmas.Bool.{false≢true, and_from, and_parts}, lemmas.List.{append-nil, length_push, take_at, take-append-drop}}
use Rattle.std.proofs.Math.Seq.{take-append_seam, drop-append_seam}
use Rattle.std.specs.{BTreeMap.is_at, Cmp.Lexicographic.{slice_cmp, texts_ties, nat_list_cmp_total, pointwise_decides, bytes_decides}}
use Rattle.std.specs.{Ordering.{nat_cmp, is_eq, is_le, ordering_reverse, ordering_then}, declared.cmp.Ordering.Ordering}
use Rattle.std.specs.declared.cmp.Ordering.TheVariants.{Less, Equal, Greater}
use Rattle.svnpath.specs.{Texts.parent, Paths.{PathValue, Component, same_component, same_path, is_at_or_under, path_cmp, path_ties}}

-- two equal paths are one
pub same_path_is : (p q : PathValue) → same_path p q ≡ true → p ≡ q
same_path_is p q = (pointwise_decides bytes_decides p q).0

pub same_path_refl : (p : PathValue) → same_path p p ≡ true
same_path_refl p = (pointwise_decides bytes_decides p p).1 refl

-- a query of an ordered map finds its own path alone
pub at_is_same : (q k : PathValue) → is_at (path_cmp q) k ≡ same_path q k
at_is_same q k = sym (path_ties q k)

pub at_is : (q k : PathValue) → is_at (path_cmp q) k ≡ true → q ≡ k
at_is q k e = same_path_is q k (path_ties q k ∙ e)

pub same_component_is : (c d : Component) → same_component c d ≡ true → c ≡ d
same_component_is c d = (bytes_decides c d).0

pub same_component_refl : (c : Component) → same_component c c ≡ true
same_component_refl c = (bytes_decides c c).1 refl

-- paths under one path are equal where what is left of them is
pub same_path-append : (p r s : PathValue) → same_path (p ++ r) (p ++ s) ≡ same_path r s
same_path-append [] r s = refl
same_path-append (c ∷ p) r s =
    ap (λ b. b && same_path (p ++ r) (p ++ s)) (same_component_refl c) ∙ same_path-append p r s

-- what is at or under p is p with a rest
pub under_is : (q p : PathValue) → is_at_or_under q p ≡ true → q ≡ p ++ drop (length p) q
under_is q p u =
    sym (take-append-drop (length p) q)
    ∙ ap (λ front. front ++ drop (length p) q) (sym (same_path_is p (take (length p) q) u))

pub under_append : (p r : PathValue) → is_at_or_under (p ++ r) p ≡ true
under_append p r = ap (same_path p) (take-append_seam p r) ∙ same_path_refl p

pub rest_append : (p r : PathValue) → drop (length p) (p ++ r) ≡ r
rest_append p r = drop-append_seam p r

pub under_itself : (p : PathValue) → is_at_or_under p p ≡ true
under_itself p = ap (λ q. is_at_or_under q p) (sym (append-nil p)) ∙ under_append p []

-- what is at or under a path is not before it
from_step : (a b : Component) (p k : PathValue) → (is_at_or_under k p ≡ true → is_le (path_cmp p k) ≡ true)
    → (o : Ordering) → (is_eq o && is_at_or_under k p) ≡ true → is_le (ordering_then o (path_cmp p k)) ≡ true
from_step a b p k deeper Less under = refl
from_step a b p k deeper Equal under = deeper under
from_step a b p k deeper Greater under = under

pub from_under : (p k : PathValue) → is_at_or_under k p ≡ true → is_le (path_cmp p k) ≡ true
from_under [] [] under = refl
from_under [] (b ∷ k) under = refl
from_under (a ∷ p) [] under = under
from_under (a ∷ p) (b ∷ k) under =
    from_step a b p k (from_under p k) (slice_cmp nat_cmp a b) (ap (λ e. e && is_at_or_under k p) (sym (texts_ties a b)) ∙ under)

-- and stands together: all from the path on up to what is under it is so
between_step : (a b : Component) (p k m : PathValue)
    → (is_le (path_cmp p k) ≡ true → is_le (path_cmp k m) ≡ true → is_at_or_under k p ≡ true)
    → (o : Ordering) → slice_cmp nat_cmp a b ≡ o → is_le (ordering_then o (path_cmp p k)) ≡ true
    → is_le (ordering_then (ordering_reverse o) (path_cmp k m)) ≡ true
    → (same_component a b && is_at_or_under k p) ≡ true
between_step a b p k m deeper Less is from to = absurd (false≢true to)
between_step a b p k m deeper Equal is from to =
    and_from (same_component a b) (is_at_or_under k p) (texts_ties a b ∙ ap is_eq is) (deeper from to)
between_step a b p k m deeper Greater is from to = absurd (false≢true from)

pub between_under : (p k m : PathValue) → is_le (path_cmp p k) ≡ true → is_le (path_cmp k m) ≡ true
    → is_at_or_under m p ≡ true → is_at_or_under k p ≡ true
between_under [] k m from to under = refl
between_under (a ∷ p) [] m from to under = absurd (false≢true from)
between_under (a ∷ p) (b ∷ k) [] from to under = absurd (false≢true under)
between_under (a ∷ p) (b ∷ k) (c ∷ m) from to under =
    between_step a b p k m (λ first then. between_under p k m first then parts.1) (slice_cmp nat_cmp a b) refl from
    (ap (λ o. is_le (ordering_then o (path_cmp k m)))
    (sym (nat_list_cmp_total.antisymm b a) ∙ ap (slice_cmp nat_cmp b) (same_component_is a c parts.0)) ∙ to)
  where
    parts : (same_component a c ≡ true) × (is_at_or_under m p ≡ true)
    parts = and_parts (same_component a c) (is_at_or_under m p) under

-- the path of an entry lies under its directory, which is its parent
pub parent_child : (p : PathValue) (c : Component) → parent (p ++ c ∷ []) ≡ Some p
parent_child [] c = refl
parent_child (d ∷ p) c =
    ap (λ above. Some above) (take_at (d ∷ p) (c ∷ []) (length (p ++ c ∷ []))
    (sym (length_push p c ∙ add-one (length p))))
