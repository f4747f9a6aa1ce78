-- A folder has the files of a new repository.
use Rattle.std.proofs.Common.{◌≡◌, inl, inr, ℕ, List, Option, None, subst}
use Rattle.dates.specs.Dates.{IsDateText}
use Rattle.store_files.specs.Folders.{Folder}
use Rattle.repo_api.specs.Opening.{new_repository}
use Rattle.repostore.specs.Files.{HasFiles}
use Rattle.repository_creation.specs.{Creating.{IsFreeOrHas, opening_files}, declared.creating.Opening.Opening}
use Rattle.filed_repository.specs.{Creating.new_files, Files.{IsOf, filed_content}, declared.creating.NewFiles.NewFiles}
use Rattle.filed_repository.specs.{declared.filed_world.FiledWorld.FiledWorld, CreatingFolder.{HasNew, IsFreeOrNew}}

-- what was made, dated at the moment
abbrev pub IsNewAt : ℕ → ℕ → FiledWorld → Type 0
IsNewAt uuid moment filed =
    (date : List ℕ) × IsDateText moment date × (filed_content filed ≡ new_repository uuid date)

module _ (uuid moment : ℕ) (filed : FiledWorld) (files : NewFiles) (opening : Opening)
    (new : IsNewAt uuid moment filed) (are : IsOf filed (new_files files))
    (same : opening_files opening None ≡ new_files files) where
  pub has_new : (f : Folder) → HasFiles (opening_files opening None) f → HasNew uuid moment f
  has_new f has = record {
    date = new.0;
    dated = new.1;
    has = record {
      repository = filed;
      files = new_files files;
      has = subst (λ fs. HasFiles fs f) same has;
      of_these = are;
      contains = new.2;
    };
  }

  pub has_new_at : (locks : Option (List ℕ)) (f : Folder) → locks ≡ None
      → HasFiles (opening_files opening locks) f → HasNew uuid moment f
  has_new_at locks f free has =
      has_new f (subst (λ l. HasFiles (opening_files opening l) f) free has)

  pub free_or_new : (f : Folder) → IsFreeOrHas (opening_files opening None) f
      → IsFreeOrNew uuid moment f
  free_or_new f (inl free) = inl free
  free_or_new f (inr has) = inr (has_new f has)
