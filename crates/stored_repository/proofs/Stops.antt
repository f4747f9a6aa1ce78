-- Whose files a folder has while a change is saved.
use Rattle.std.proofs.{Common.{◌≡◌, inl, inr, ⊎_elim, true, false, true≢false, sym, ◌∙◌, Option, Some, refl}, Math.Logic.∥∥₁_map}
use Rattle.repo_api.specs.{Accepted.{Accepted, changed}, States.RepoState}
use Rattle.stored_repository.specs.Keeping.{HaltKeeps, Keeps, HasRepository, HasEitherRepository}
use Rattle.store_files.specs.{Folders.Folder, declared.store.Store.Ghosts}
use Rattle.repostore.specs.{Files.{Files, HasEither, HasFiles}, Saving.{IsSaved, Stands}, declared.saves.Saves.Saves}
use Rattle.repostore.proofs.Steps.{stands_too}

module _ {S F : Type 0} (s : Ghosts S) (content : F → RepoState) (is_of : F → Files → Type 0) where
  abbrev pub Kept : Saves S → F → Type 0
  Kept saves r = Keeps s is_of saves r

  abbrev pub Saved : Saves S → Files → Type 0
  Saved = IsSaved s

  stands : (r : F) (files : Files) (f : Folder) → is_of r files → HasFiles files f → HasRepository content is_of (content r) f
  stands r files f of has = record { repository = r; files = files; has = has; of_these = of; contains = refl }

  -- what is read has the files of the repository, and so has what a stop leaves
  pub stored_stands : (saves : Saves S) (r : F) → ∥ Kept saves r ∥₁ → s.is_honest saves.store → saves.is_halted ≡ false
      → Stands s saves.store (λ f. ∥ HasRepository content is_of (content r) f ∥₁)
  stored_stands saves r kept honest goes_on = record {
    honest = honest;
    read = ∥∥₁_map kept (λ k.
        let i = k honest goes_on in
        stands r i.files (s.holds saves.store) i.of_these i.saved.stands.read);
    left = λ f left. ∥∥₁_map kept (λ k.
        let i = k honest goes_on in
        stands r i.files f i.of_these (i.saved.stands.left f left));
  }

  -- the repository is made, and its files are kept
  pub kept_next : (old new : Saves S) (r next : F) (made : Files → Files)
      → ∥ Kept old r ∥₁ → old.is_halted ≡ false → (s.is_honest new.store → s.is_honest old.store)
      → ((files : Files) → is_of r files → is_of next (made files))
      → ((files : Files) → is_of r files → Saved old files → Saved new (made files)) → ∥ Kept new next ∥₁
  kept_next old new r next made kept goes_on back of save = ∥∥₁_map kept (λ k honest still.
      let i = k (back honest) goes_on in
      record { files = made i.files; saved = save i.files i.of_these i.saved; of_these = of i.files i.of_these })

  -- a save failed and does not halt
  pub kept_still : (old new : Saves S) (r : F) → ∥ Kept old r ∥₁ → old.is_halted ≡ false
      → (s.is_honest new.store → s.is_honest old.store)
      → ((files : Files) → Saved old files → new.is_halted ≡ false → Saved new files) → ∥ Kept new r ∥₁
  kept_still old new r kept goes_on back save = ∥∥₁_map kept (λ k honest still.
      let i = k (back honest) goes_on in
      record { files = i.files; saved = save i.files i.saved still; of_these = i.of_these })

  -- changes are saved, so there is no halt
  pub no_halt : (saves : Saves S) (r : F) (pending : Option Accepted) → saves.is_halted ≡ false
      → ∥ HaltKeeps content is_of s saves r pending ∥₁
  no_halt saves r pending goes_on = ∣ (λ honest halted. absurd (true≢false (sym halted ∙ goes_on))) ∣₁

  -- a save makes these files of those; where it halts, there stand the one or the other
  pub halt_next : (old new : Saves S) (r next : F) (made : Files → Files) (e : Accepted) (pending : Option Accepted)
      → ∥ Kept old r ∥₁ → old.is_halted ≡ false → (s.is_honest new.store → s.is_honest old.store)
      → ((files : Files) → is_of r files → is_of next (made files))
      → ((files : Files) → is_of r files → Saved old files → Stands s new.store (HasEither files (made files)))
      → content next ≡ changed (content r) e → (new.is_halted ≡ true → pending ≡ Some e)
      → ∥ HaltKeeps content is_of s new r pending ∥₁
  halt_next old new r next made e pending kept goes_on back of stand is kept_change = ∥∥₁_map kept (λ k honest halted.
      let i = k (back honest) goes_on in
      record {
        change = e;
        is_pending = kept_change halted;
        stands = stands_too s new.store (HasEither i.files (made i.files))
            (λ f. ∥ HasEitherRepository content is_of (content r) (changed (content r) e) f ∥₁)
            (λ f. ⊎_elim (λ was. ∣ inl (stands r i.files f i.of_these was) ∣₁)
            (λ now. ∣ inr (record { repository = next; files = made i.files; has = now; of_these = of i.files i.of_these; contains = is }) ∣₁))
            (stand i.files i.of_these i.saved);
      })
