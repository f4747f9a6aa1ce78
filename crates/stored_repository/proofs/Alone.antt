-- A folder stands for what the repository contains whose files it has, and for nothing else.
use Rattle.std.proofs.Common.{◌≡◌, Some, sym, subst, ◌∙◌}
use Rattle.repo_api.specs.States.{RepoState}
use Rattle.store_files.specs.Folders.{Folder}
use Rattle.repostore.specs.Files.{Files}
use Rattle.stored_repository.specs.Keeping.{HasRepository, StandsFor}

module _ {F : Type 0} (content : F → RepoState) (is_of : F → Files → Type 0)
    (stands_for : Files → RepoState → Type 0)
    (is_state : (r : F) (files : Files) → is_of r files → stands_for files (content r))
    (one_state : (files : Files) (a b : RepoState) → stands_for files a → stands_for files b → a ≡ b) where
  pub stands : (c : RepoState) (f : Folder) → HasRepository content is_of c f → StandsFor stands_for c f
  stands c f h = (h.files, h.has, subst (stands_for h.files) h.contains (is_state h.repository h.files h.of_these))

  one : (a b : RepoState) (f : Folder) → StandsFor stands_for a f → StandsFor stands_for b f → b ≡ a
  one a b f x y =
      let e : Some y.0 ≡ Some x.0 = sym y.1 ∙ x.1 in
      let same : y.0 ≡ x.0 = cc in
      one_state x.0 b a (subst (λ (files : Files). stands_for files b) same y.2) x.2

  pub alone : (c found : RepoState) (f : Folder) → HasRepository content is_of c f
      → StandsFor stands_for found f → found ≡ c
  alone c found f h is = one c found f (stands c f h) is
