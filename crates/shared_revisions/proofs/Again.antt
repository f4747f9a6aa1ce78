-- The same blocks and lists of changes show the same revisions.
use Rattle.std.proofs.{Common.{◌≡◌, ℕ, zero, suc, List, [], ◌∷◌, None, refl, sym, ap, subst}, lemmas.Option.none-some}
use Rattle.std.specs.{FinMap.empty, Prelude.{slice_get, slice_set}}
use Rattle.repo_api.specs.{Properties.PropertyList, States.{ChangeMap, RepoState, Revision}, Trees.Tree}
use Rattle.noderevs.specs.{Nodes.{node_in, root_in}, Views.shared_tree, declared.node_rev.Block.Block}
use Rattle.shared_revisions.specs.Shown.{AreShownAs, Shown, same_shown, the_shown}

abbrev trees_by : List Block → ℕ → Tree
trees_by blocks n = shared_tree (node_in blocks) (root_in blocks n)

module _ (old new : List Block) (cs ds : List ChangeMap) (blocks : new ≡ old)
    (changes : ds ≡ cs) where
  again : (P : (ℕ → Tree) → List ChangeMap → Type 0) → P (trees_by old) cs → P (trees_by new) ds
  again P is =
      subst (λ bs. P (trees_by bs) ds) (sym blocks) (subst (P (trees_by old)) (sym changes) is)

  pub shown_again : ∥ Shown (trees_by old) cs ∥₁ → ∥ Shown (trees_by new) ds ∥₁
  shown_again = again (λ trees list. ∥ Shown trees list ∥₁)

  pub revisions_again : (before : ∥ Shown (trees_by old) cs ∥₁)
      (after : ∥ Shown (trees_by new) ds ∥₁)
      → (the_shown (trees_by new) ds after).0 ≡ (the_shown (trees_by old) cs before).0
  revisions_again before after =
      let a = the_shown (trees_by new) ds after in
      let b = the_shown (trees_by old) cs before in
      same_shown (trees_by new) ds a.0 b.0 a.1 (again (λ trees list. AreShownAs trees list b.0) b.1)

-- states with no locks
abbrev state_with : ℕ → List Revision → List PropertyList → RepoState
state_with uuid rs ps = record { uuid = uuid; revisions = rs; properties = ps; locks = empty }

pub same_state : (uuid : ℕ) (rs ss : List Revision) (ps qs : List PropertyList)
    → rs ≡ ss → ps ≡ qs → state_with uuid rs ps ≡ state_with uuid ss qs
same_state uuid rs ss ps qs revisions properties = λ i. state_with uuid (revisions i) (properties i)

-- nothing is set where there is nothing
pub set_missing : {X : Type 0} (xs : List X) (n : ℕ) (x : X) → slice_get xs n ≡ None
    → slice_set xs n x ≡ xs
set_missing [] n x none = refl
set_missing (y ∷ ys) zero x none = absurd (none-some y (sym none))
set_missing (y ∷ ys) (suc n) x none = ap (λ zs. y ∷ zs) (set_missing ys n x none)
