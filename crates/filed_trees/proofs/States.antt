-- Files stand for one state at most.
use Rattle.std.proofs.{Common.{◌≡◌, ℕ, suc, List, [], ◌∷◌, length, Some, refl, sym, ap, ◌∙◌, arith}, lemmas.Option.{none-some, same_Some}}
use Rattle.std.specs.{FinMap.{entries, same_map, same_entries_map}, Prelude.slice_get}
use Rattle.svnpath.specs.Paths.{path_cmp-IsAntisymmetric, path_cmp_total}
use Rattle.repo_api.specs.{StateLaws.same_tree, States.{RepoState, Revision}}
use Rattle.repostore.specs.Files.{Files}
use Rattle.filed_trees.specs.StandsFor.{StandsFor, IsRevision, revision_bytes, lock_of}

-- lists that have the same at each place
same_lists : {X : Type 0} (xs ys : List X) → ((n : ℕ) → slice_get xs n ≡ slice_get ys n) → xs ≡ ys
same_lists [] [] same = refl
same_lists [] (y ∷ ys) same = absurd (none-some y (same 0))
same_lists (x ∷ xs) [] same = absurd (none-some x (sym (same 0)))
same_lists (x ∷ xs) (y ∷ ys) same = λ i. same_Some x y (same 0) i ∷ same_lists xs ys (λ n. same (suc n)) i

same_items : {X : Type 0} (xs ys : List X) → length xs ≡ length ys
    → ((n : ℕ) (x y : X) → slice_get xs n ≡ Some x → slice_get ys n ≡ Some y → x ≡ y) → xs ≡ ys
same_items [] [] long same = refl
same_items [] (y ∷ ys) long same = absurd (omega (arith, long))
same_items (x ∷ xs) [] long same = absurd (omega (arith, long))
same_items (x ∷ xs) (y ∷ ys) long same =
    λ i. same 0 x y refl refl i ∷ same_items xs ys (omega (arith, long)) (λ n. same (suc n)) i

module _ (files : Files) where
  same_revision : (n : ℕ) (a b : Revision) → IsRevision (revision_bytes files) n a → IsRevision (revision_bytes files) n b → a ≡ b
  same_revision n a b first second =
      let trees : a.tree ≡ b.tree = same_tree a.tree b.tree (λ p. first.tree p ∙ sym (second.tree p)) in
      let changes : a.changes ≡ b.changes = same_entries_map a.changes b.changes (same_Some (entries a.changes) (entries b.changes) (sym first.changes ∙ second.changes)) in
      λ i. record { tree = trees i; changes = changes i }

  pub one_state : (a b : RepoState) → StandsFor files a → StandsFor files b → a ≡ b
  one_state a b first second =
      let uuid : a.uuid ≡ b.uuid = same_Some a.uuid b.uuid (sym first.uuid ∙ second.uuid) in
      let revisions : a.revisions ≡ b.revisions = same_items a.revisions b.revisions (first.count ∙ sym second.count)
      (λ n r s at_a at_b. same_revision n r s (first.revisions n r at_a) (second.revisions n s at_b)) in
      let properties : a.properties ≡ b.properties = same_lists a.properties b.properties (λ n. first.properties n ∙ sym (second.properties n)) in
      let listed : first.locks ≡ second.locks = same_Some first.locks second.locks (sym first.locked ∙ second.locked) in
      let locks : a.locks ≡ b.locks = same_map path_cmp_total path_cmp-IsAntisymmetric a.locks b.locks
      (λ p. first.each_lock p ∙ ap (λ ls. lock_of ls p) listed ∙ sym (second.each_lock p)) in
      λ i. record { uuid = uuid i; revisions = revisions i; properties = properties i; locks = locks i }
