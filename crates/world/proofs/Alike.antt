-- Edits that are alike over two lists of revisions.
use Rattle.std.proofs.Common.{◌≡◌, ℕ, false, true≢false, refl, ap, subst, sym}
use Rattle.svnpath.specs.Paths.{PathValue}
use Rattle.repo_api.specs.{Edits.edited, RightEdits.IsRightEdit, States.trees_in, Trees.Tree, declared.edit.EditOp.EditOp}
use Rattle.repo_api.specs.declared.edit.EditOp.TheVariants.{AddDirectory, AddFile, Copy, Replace, Delete, SetProperty, RemoveProperty, SetText}
use Rattle.shared_revisions.specs.{Contents.revisions_of, declared.held.Held.Held}
use Rattle.world.specs.Editing.{AreAlikeFor, is_copy}

right_in_any : (op : EditOp) → is_copy op ≡ false → (trees others : ℕ → Tree) (t : Tree)
    → IsRightEdit trees t op → IsRightEdit others t op
right_in_any (AddDirectory p) none trees others t right = right
right_in_any (AddFile p) none trees others t right = right
right_in_any (Copy source p) none trees others t right = absurd (true≢false none)
right_in_any (Replace source p) none trees others t right = absurd (true≢false none)
right_in_any (Delete p) none trees others t right = right
right_in_any (SetProperty p name value) none trees others t right = right
right_in_any (RemoveProperty p name) none trees others t right = right
right_in_any (SetText p text) none trees others t right = right

same_in_any : (op : EditOp) → is_copy op ≡ false → (trees others : ℕ → Tree) (t : Tree)
    (q : PathValue) → edited trees t op q ≡ edited others t op q
same_in_any (AddDirectory p) none trees others t q = refl
same_in_any (AddFile p) none trees others t q = refl
same_in_any (Copy source p) none trees others t q = absurd (true≢false none)
same_in_any (Replace source p) none trees others t q = absurd (true≢false none)
same_in_any (Delete p) none trees others t q = refl
same_in_any (SetProperty p name value) none trees others t q = refl
same_in_any (RemoveProperty p name) none trees others t q = refl
same_in_any (SetText p text) none trees others t q = refl

-- what takes nothing of a revision is alike over any
pub not_copied : (op : EditOp) (over h : Held) → is_copy op ≡ false → AreAlikeFor op over h
not_copied op over h none = record {
  right = right_in_any op none (trees_in (revisions_of h)) (trees_in (revisions_of over));
  same = same_in_any op none (trees_in (revisions_of over)) (trees_in (revisions_of h));
}

-- over the same revisions each edit is
pub over_the_same : (op : EditOp) (over h : Held) → revisions_of over ≡ revisions_of h
    → AreAlikeFor op over h
over_the_same op over h same = record {
  right = λ t. subst (λ rs. IsRightEdit (trees_in rs) t op) (sym same);
  same = λ t q. ap (λ rs. edited (trees_in rs) t op q) same;
}
