-- One revision more.
use Rattle.std.proofs.{Common.{◌≡◌, ◌<◌, ℕ, List, [], ◌∷◌, ◌++◌, length, refl, sym, subst, ◌∙◌}, Math.Logic.∥∥₁_map₂}
use Rattle.svnpath.specs.Paths.{PathValue}
use Rattle.repo_api.specs.{States.{ChangeMap, Revision, TreeMap}, Trees.Tree}
use Rattle.shared_revisions.specs.{Maps.{IsMapOf, Mapped}, Shown.{AreShownAs, Shown, same_shown, the_shown}}
use Rattle.shared_revisions.proofs.Showing.{shown_and, shown_still}

module _ (old new : ℕ → Tree) (cs more : List ChangeMap) (c : ChangeMap) (t : Tree)
    (longer : more ≡ cs ++ c ∷ [])
    (still : (k : ℕ) → k < length cs → (q : PathValue) → new k q ≡ old k q)
    (last : (q : PathValue) → new (length cs) q ≡ t q) where
  added : (rs : List Revision) (m : TreeMap) → AreShownAs old cs rs → IsMapOf t m
      → AreShownAs new more (rs ++ record { tree = m; changes = c } ∷ [])
  added rs m are is =
      subst (λ l. AreShownAs new l (rs ++ record { tree = m; changes = c } ∷ [])) (sym longer)
      (shown_and new cs rs c (record { tree = m; changes = c })
      (shown_still old new cs rs still are) (refl, λ p. is p ∙ sym (last p)))

  pub grown : ∥ Mapped t ∥₁ → ∥ Shown old cs ∥₁ → ∥ Shown new more ∥₁
  grown mapped shown =
      ∥∥₁_map₂ mapped shown
      (λ m s. (s.0 ++ record { tree = m.0; changes = c } ∷ [], added s.0 m.0 s.1 m.1))

  pub grown_is : (before : ∥ Shown old cs ∥₁) (after : ∥ Shown new more ∥₁) (m : TreeMap)
      → IsMapOf t m
      → (the_shown new more after).0
      ≡ (the_shown old cs before).0 ++ record { tree = m; changes = c } ∷ []
  grown_is before after m is =
      let a = the_shown new more after in
      let b = the_shown old cs before in
      same_shown new more a.0 (b.0 ++ record { tree = m; changes = c } ∷ []) a.1
      (added b.0 m b.1 is)
