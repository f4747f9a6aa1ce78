-- A repository that is copied.
use Rattle.std.proofs.Common.{◌≡◌, ◌-◌, ◌+◌, ◌<◌, ℕ, Bool, true, false, cond, List, [], Option, Some, None, Result, Err, inl, inr, length, option_and_then}
use Rattle.std.proofs.{Common.{option_map, refl, sym, ap, subst, arith, le_refl, ◌∙◌}, lemmas.Option.{none-some, same_Some}}
use Rattle.std.specs.{Prelude.nat_le, Result.result_ok}
use Rattle.repo_api.specs.States.{RepoState}
use Rattle.store_files.specs.{Folders.{Folder, text_of}, Stops.LeavesOnly, declared.name.FileName.TheVariants.{Current, Format}, declared.store.Store.Ghosts}
use Rattle.store_files.specs.{declared.fault.StoreFault.StoreFault, declared.fault.StoreFault.TheVariants.{Device, Exists, File, Halted, NoMemory}}
use Rattle.repostore.specs.{Current.{count_in, counted, number_in}, Files.{Files, HasFiles, RevisionFiles, reached}, Opening.OnlyReads, Reading.IfFaulty}
use Rattle.repostore.specs.Saving.{Stands}
use Rattle.repository_creation.specs.{Creating.{IsFreeOrHas, IsFreeWith}, Migrating.{IsFree, Makes, moved_files, moved_locks}, declared.migrating.Moved.Moved}
use Rattle.repostore.proofs.{Reaching.{are_one, format_is, is_length, reached_has}, Steps.{ok_gives, stands_too, weaker}}
use Rattle.repository_creation.proofs.Copying.{both}
use Rattle.fsfs_text.specs.Formats.{format_of, layout_in}
use Rattle.fsfs_nodes.specs.{Current.current_of, Locks.locks_of}
use Rattle.filed_trees.specs.StandsFor.{locks_in}
use Rattle.stored_repository.specs.Keeping.{HasRepository}
use Rattle.filed_repository.specs.{Files.{IsOf, filed_content}, declared.filed_world.FiledWorld.FiledWorld, CreatingFolder.new_format}
use Rattle.filed_repository.specs.Migrating.{IsFreeOrContains, IsHindrance, Migrates, MigratesTo, current_in_copy}
use Rattle.filed_repository.proofs.Changed.{said_is}

-- where nothing is faulty, the device or memory has failed
pub hinders : (fault : StoreFault) (P : Type 0) → (P → ⊥) → IfFaulty fault P → IsHindrance fault
hinders Device P never is = inl refl
hinders NoMemory P never is = inr refl
hinders (File fault) P never is = absurd (never is)
hinders Halted P never is = absurd is
hinders Exists P never is = absurd is

-- there is a revision where `current` says how many there are
some_counted : (o : Option ℕ) (n : ℕ) → counted o ≡ Some n → 0 < n
some_counted None n is = absurd (none-some n is)
some_counted (Some k) n is = by (nat_le k 262143) is
  where
    by : (t : Bool) → cond t (Some (k + 1)) None ≡ Some n → 0 < n
    by true e = let same = same_Some (k + 1) n e in omega (arith, same)
    by false e = absurd (none-some n e)

pub some : (bytes : List ℕ) (n : ℕ) → count_in bytes ≡ Some n → 0 < n
some bytes n is = some_counted (number_in bytes) n is

pub one_less : (n : ℕ) → 0 < n → n - 1 + 1 ≡ n
one_less n more = omega (arith, more)

-- where nothing is asked of a store, it is as it was
pub nothing_read : {S : Type 0} (s : Ghosts S) (store : S)
    → ((f : Folder) → s.is_honest store → s.left_since store (s.moment store) f → s.may_leave store f) → OnlyReads s store store
nothing_read s store only_now = record {
  honest = λ h. h;
  same = λ h n. refl;
  left = λ h f l. l;
  run = λ h. record { later = le_refl (s.moment store); each = λ f l. only_now f h l; before = λ t f le l. inl l };
  doubt = refl;
  counts = le_refl (s.failed store);
}

-- the copy has the same locks
same_locks : (no_locks : List ℕ) → result_ok (locks_of no_locks) ≡ Some [] → (old there : Option (List ℕ))
    → locks_in (moved_locks no_locks old there) ≡ locks_in old
same_locks no_locks none (Some bytes) there = refl
same_locks no_locks none None None = refl
same_locks no_locks none None (Some others) = none

-- what the files of a copy say that are not copied
pub record SayCopy (moved : Moved) : Type 0 where
  pub format : format_of moved.format.now ≡ Some (new_format 3)
  pub current : result_ok (current_of (new_format 3) moved.current.now) ≡ Some (current_in_copy moved.count)
  pub no_locks : result_ok (locks_of moved.no_locks.now) ≡ Some []
  pub some : 0 < moved.count

module _ (moved : Moved) (there : Option (List ℕ)) (say : SayCopy moved) where
  abbrev copy_of : Files → Files
  copy_of = moved_files moved there

  -- a repository has the files of its copy, but for what `current` says
  is_copy : (f : FiledWorld) (files : Files) → length files.revisions ≡ moved.count → IsOf f files
      → IsOf (record f { current = current_in_copy moved.count }) (copy_of files)
  is_copy f files many is = record {
    format = say.format;
    uuid = is.uuid;
    current_is = say.current;
    youngest = omega (arith, many, say.some);
    tabled = is.tabled;
    history = is.history;
    properties = λ n. is.properties n ∙ said_is files n ∙ sym (said_is (copy_of files) n);
    locked = record {
      said = is.locked.said;
      read = same_locks moved.no_locks.now say.no_locks files.locks there ∙ is.locked.read;
      each = is.locked.each;
    };
  }

  module _ (c : RepoState) (from : Folder) (has : HasRepository filed_content IsOf c from)
      (many : length has.files.revisions ≡ moved.count) where
    contains : (f : Folder) → HasFiles (copy_of has.files) f → HasRepository filed_content IsOf c f
    contains f is = record {
      repository = record has.repository { current = current_in_copy moved.count };
      files = copy_of has.files;
      has = is;
      of_these = is_copy has.repository has.files many has.of_these;
      contains = has.contains;
    }

    free_or_contains : (f : Folder) → IsFreeOrHas (copy_of has.files) f → IsFreeOrContains c f
    free_or_contains f (inl free) = inl free
    free_or_contains f (inr is) = inr (contains f is)

module _ {T : Type 0} (t : Ghosts T) (there : Option (List ℕ)) (old mid : T) (reads : OnlyReads t old mid)
    (here : Stands t old (IsFreeWith there)) where
  -- what was there is there after reading
  pub still : t.is_honest mid → Stands t mid (IsFreeWith there)
  still honest = record {
    honest = honest;
    read = subst (IsFreeWith there) (sym (are_one (t.holds old) (t.holds mid) (reads.same honest))) here.read;
    left = λ f l. here.left f (reads.left honest f l);
  }

  -- while it is read, a stop leaves no repository
  read_run : (c : RepoState) → t.is_honest mid → LeavesOnly t old mid (λ f. ∥ IsFreeOrContains c f ∥₁)
  read_run c honest =
      weaker t old mid (t.may_leave old) (λ f. ∥ IsFreeOrContains c f ∥₁) (λ f l. ∣ inl (here.left f l).free ∣₁) (reads.run honest)

  -- nothing is copied
  pub not_begun : {X : Type 0} (result : Result X StoreFault) (fault : StoreFault) → result ≡ Err fault → (from : Folder)
      → t.is_honest mid → Migrates t old mid result from
  not_begun {X = X} result fault is from honest = subst (λ (r : Result X StoreFault). Migrates t old mid r from) (sym is) (record {
    contains = λ c has. record { stop = read_run c honest; kept = tt };
    bytes = tt;
    format = tt;
    again = λ e same. stands_too t mid (IsFreeWith there) IsFree (λ f has. has.free) (still honest);
  })

  module _ {X : Type 0} (new : T) (result : Result X StoreFault) (moved : Moved) (say : SayCopy moved) (from : Folder)
      (count : count_in (text_of (from Current)) ≡ Some moved.count) (first : t.is_honest mid)
      (makes : (files : Files) → HasFiles files from → length files.revisions ≡ moved.count → Makes t (moved_files moved there files) mid new result) where
    many : (files : Files) → HasFiles files from → length files.revisions ≡ moved.count
    many files has = sym (is_length from files moved.count has count)

    abbrev all : Files
    all = reached (layout_in (from Format)) from moved.count

    there_are : HasFiles all from
    there_are = reached_has from moved.count count

    to : (c : RepoState) → HasRepository filed_content IsOf c from → MigratesTo t old new result c
    to c has =
        let made = makes has.files has.has (many has.files has.has) in
        let P : Folder → Type 0 = λ f. ∥ IsFreeOrContains c f ∥₁ in
        let Q : Folder → Type 0 = λ f. ∥ HasRepository filed_content IsOf c f ∥₁ in record {
          stop = both t old mid new P (read_run c first)
              (weaker t mid new (IsFreeOrHas (moved_files moved there has.files)) P
              (λ f is. ∣ free_or_contains moved there say c from has (many has.files has.has) f is ∣₁) made.stop);
          kept = ok_gives result
              (stands_too t new (HasFiles (moved_files moved there has.files)) Q
              (λ f is. ∣ contains moved there say c from has (many has.files has.has) f is ∣₁))
              made.kept;
        }

    -- what is made is the copy
    pub copied : Migrates t old new result from
    copied =
        let made = makes all there_are (many all there_are) in
        let copy = moved_files moved there all in
        let said : Files → List ℕ × List RevisionFiles = λ files. (files.uuid, files.revisions) in record {
          contains = to;
          bytes = ok_gives result (λ kept. ap (option_map said) kept.read ∙ sym (ap (option_map said) there_are)) made.kept;
          format = ok_gives result (λ kept. ap (λ o. option_and_then format_of o) (format_is (t.holds new) copy kept.read) ∙ say.format) made.kept;
          again = λ is same. made.again is (same ∙ sym reads.doubt);
        }
