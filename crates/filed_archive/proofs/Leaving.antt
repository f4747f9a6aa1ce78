-- What a save leaves of an archive.
use Rattle.std.proofs.{Common.{◌≡◌, inl, inr, ⊎_elim, ℕ, Bool, true, false, [], ◌∷◌, Ok, Err, refl, sym, ◌∙◌, subst}, lemmas.Bool.false≢true}
use Rattle.std.specs.Prelude.{IsErrOf, Result}
use Rattle.repo_api.specs.{Accepted.{Accepted, changed}, States.RepoState}
use Rattle.repo_api.specs.declared.repository.Repository as Repository
use Rattle.store_files.specs.{declared.store.Store.Ghosts, declared.fault.StoreFault.StoreFault}
use Rattle.store_files.specs.declared.fault.StoreFault.TheVariants as store
use Rattle.repostore.specs.{Saving.SaveEnds, declared.saves.Saves.Saves}
use Rattle.access.specs.Beginnings.{through}
use Rattle.published.specs.Files.{Kept}
use Rattle.archives.specs.{Archives.SaveLeaves, declared.archive.SaveFault.SaveFault}
use Rattle.stored_repository.specs.Leaving.{FilesLeave}
use Rattle.stored_repository.specs.declared.filed.Filed as Filed
use Rattle.stored_repository.proofs.Leaving.{save_leaves}
use Rattle.filed_archive.specs.{Writing.{told_as, written, SavesFiles, Writes}, declared.unsaved.Unsaved.Unsaved}
use Rattle.filed_archive.specs.declared.filed_archive.FiledArchive.{FiledArchive}

abbrev pub at : RepoState → Bool → ℕ → Kept
at content halted failures = record { content = content; halted = halted; failures = failures }

module _ {S : Type 0} (s : Ghosts S) (e : Accepted) (content : RepoState) (old new : Saves S) (running : old.is_halted ≡ false) where
  -- a save that was done
  pub save_done : (next : RepoState) → next ≡ changed content e → SaveEnds s {T = Unit {0}} old new (Ok tt)
      → SaveLeaves e (at content old.is_halted (s.failed old.store)) (Ok tt) (at next new.is_halted (s.failed new.store))
  save_done next is ends = (is, goes new.is_halted refl ∙ sym running, ends.steady (λ no. absurd (cc no)))
    where
      goes : (b : Bool) → new.is_halted ≡ b → new.is_halted ≡ false
      goes true now = ⊎_elim (λ was. absurd (false≢true (sym running ∙ was))) (λ no. absurd (cc no)) (ends.by_device now)
      goes false now = now

  -- a save that failed
  pub save_failed : (fault : StoreFault) (told : SaveFault) → SaveEnds s {T = Unit {0}} old new (Err fault) → told ≡ told_as new.is_halted fault
      → SaveLeaves e (at content old.is_halted (s.failed old.store)) (Err told) (at content new.is_halted (s.failed new.store))
  save_failed fault told ends is_told = elim (ends.only refl) [
    | inl by ↦ of_device new.is_halted refl by
    | inr (inl lacks) ↦ of_memory new.is_halted refl lacks
    | inr (inr stopped) ↦ absurd (false≢true (sym running ∙ ends.halted.0 stopped))
  ]
    where
      Goal : SaveFault → Type 0
      Goal a = SaveLeaves e (at content old.is_halted (s.failed old.store)) (Err a) (at content new.is_halted (s.failed new.store))

      of_device : (b : Bool) → new.is_halted ≡ b → IsErrOf {T = Unit {0}} (Err fault) store.Device → Goal told
      of_device true is by =
          let device : fault ≡ store.Device = cc by in
          subst Goal (sym (is_told ∙ (λ i. told_as (is i) (device i)))) (inl refl, is, ends.device by)
      of_device false is by =
          let device : fault ≡ store.Device = cc by in
          subst Goal (sym (is_told ∙ (λ i. told_as (is i) (device i)))) (refl, is ∙ sym running, ends.device by)

      of_memory : (b : Bool) → new.is_halted ≡ b → IsErrOf {T = Unit {0}} (Err fault) store.NoMemory → Goal told
      of_memory true is lacks =
          ⊎_elim (λ was. absurd (false≢true (sym running ∙ was))) (λ by. absurd (cc (lacks, by))) (ends.by_device is)
      of_memory false is lacks =
          let memory : fault ≡ store.NoMemory = cc lacks in
          let same : s.failed new.store ≡ s.failed old.store = ends.steady (λ by. cc by) in
          let halts : new.is_halted ≡ old.is_halted = is ∙ sym running in
          subst Goal (sym (is_told ∙ (λ i. told_as new.is_halted (memory i)))) (λ i. at content (halts i) (same i))

-- what a save of a change leaves of an honest store
module _ {F S T : Type 0} {f : Filed.Ghosts F T} {r : Repository.Ghosts F T} {s : Ghosts S}
    (old : FiledArchive F S T f r s) (unsaved : Unsaved F) (e : Accepted) (result : Result (Unit {0}) StoreFault) (new : Saves S)
    (running : old.saves.is_halted ≡ false) (writes : Writes old unsaved e) (saves : SavesFiles s unsaved.files old.saves result new) where
  pub leaves : FilesLeave r.content f.is_of s old.saves new (through (r.content old.repository) (e ∷ []))
  leaves =
      save_leaves r.content f.is_of s old.saves new result old.repository unsaved.next (λ files. written unsaved.files files) e
      old.kept running saves.1.honest (λ files of. (writes.leads files of).0) writes.next
      (λ files of saved. saves.0 files saved (writes.leads files of).1)
