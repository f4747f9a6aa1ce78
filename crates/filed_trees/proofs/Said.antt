-- The changes that lines say, read first and then put in order.
use Rattle.std.proofs.{Common.{◌≡◌, [], ◌∷◌, ◌++◌, List, Option, Some, None, refl, sym, ap, ◌∙◌}, lemmas.Bool.false≢true}
use Rattle.std.specs.Prelude.{is_some, IsSome}
use Rattle.svnpath.specs.Paths.{PathValue}
use Rattle.repo_api.specs.declared.change.Change.{Change}
use Rattle.fsfs_text.specs.Maybe.{◌>>=◌}
use Rattle.fsfs_nodes.specs.declared.change.FileChange.{FileChange}
use Rattle.filed_trees.specs.Changes.{ChangeRows, change_in, changes_by, with_change, with_changes, with_lines, with_rows}

itself : {X : Type 0} (o : Option X) → (o >>= λ x. Some x) ≡ o
itself None = refl
itself (Some x) = refl

never : {X Y : Type 0} (o : Option X) → ◌≡◌ {A = Option Y} (o >>= λ x. None) None
never None = refl
never (Some x) = refl

in_turn : {X Y Z : Type 0} (o : Option X) (f : X → Option Y) (g : Y → Option Z) → ((o >>= f) >>= g) ≡ (o >>= λ x. f x >>= g)
in_turn None f g = refl
in_turn (Some x) f g = refl

one_more : (made done : ChangeRows) (p : PathValue × Change)
    → with_rows made (done ++ p ∷ []) ≡ (with_rows made done >>= λ rows. with_change rows p)
one_more made [] p = itself (with_change made p)
one_more made (e ∷ done) p = by (with_change made e) (λ rows. one_more rows done p)
  where
    by : (o : Option ChangeRows)
        → ((rows : ChangeRows) → with_rows rows (done ++ p ∷ []) ≡ (with_rows rows done >>= λ more. with_change more p))
        → (o >>= λ rows. with_rows rows (done ++ p ∷ []))
        ≡ ((o >>= λ rows. with_rows rows done) >>= λ rows. with_change rows p)
    by None rest = refl
    by (Some rows) rest = rest rows

lines_put : (done : ChangeRows) (lines : List FileChange)
    → (with_lines done lines >>= with_rows []) ≡ (with_rows [] done >>= λ rows. with_changes rows lines)
lines_put done [] = sym (itself (with_rows [] done))
lines_put done (c ∷ lines) = by (change_in c) (λ p. lines_put (done ++ p ∷ []) lines)
  where
    by : (o : Option (PathValue × Change))
        → ((p : PathValue × Change) → (with_lines (done ++ p ∷ []) lines >>= with_rows [])
        ≡ (with_rows [] (done ++ p ∷ []) >>= λ rows. with_changes rows lines))
        → ((o >>= λ p. with_lines (done ++ p ∷ []) lines) >>= with_rows [])
        ≡ (with_rows [] done >>= λ rows. o >>= λ p. with_change rows p >>= λ more. with_changes more lines)
    by None rest = sym (never (with_rows [] done))
    by (Some p) rest =
        rest p
        ∙ ap (λ o. o >>= λ rows. with_changes rows lines) (one_more [] done p)
        ∙ in_turn (with_rows [] done) (λ rows. with_change rows p) (λ rows. with_changes rows lines)

pub put_as_said : (lines : List FileChange) (rows : ChangeRows) → with_lines [] lines ≡ Some rows → changes_by lines ≡ with_rows [] rows
put_as_said lines rows is = sym (lines_put [] lines) ∙ ap (λ o. o >>= with_rows []) is

-- what cannot be read is not said
pub can_be_read : (lines : List FileChange) → IsSome (changes_by lines) → IsSome (with_lines [] lines)
can_be_read lines said = by (with_lines [] lines) (ap is_some (lines_put [] lines) ∙ said)
  where
    by : (o : Option ChangeRows) → IsSome (o >>= with_rows []) → IsSome o
    by None is = absurd (false≢true is)
    by (Some rows) is = refl
