use Rattle.std.proofs.Common.{◌≡◌, ◌⊎◌, inl, inr, Option, Some, sym, ◌∙◌}
use Rattle.store_files.specs.Folders.{Folder}
use Rattle.repostore.specs.Files.{Files, files_in, HasFiles, HasEither}
use Rattle.repostore.proofs.laws.a_stop_is_opened_as_old_or_new.Goals as goal

one : (a b : Files) (o : Option Files) → o ≡ Some a → o ≡ Some b → b ≡ a
one a b o x y = let e : Some b ≡ Some a = sym y ∙ x in cc

either : (old new found : Files) (f : Folder) → HasEither old new f → HasFiles found f → (found ≡ old) ⊎ (found ≡ new)
either old new found f (inl was) has = inl (one old found (files_in f) was has)
either old new found f (inr is) has = inr (one new found (files_in f) is has)

pub returns : goal.returns
returns c = either
