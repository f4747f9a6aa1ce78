-- How reads go on.
use Rattle.std.proofs.Common.{◌≡◌, ◌⊎◌, inl, inr, ⊎_elim, ℕ, Some, ◌∙◌, arith, le_refl}
use Rattle.std.specs.Prelude.{◌≤◌}
use Rattle.store_files.specs.{Folders.{Folder, IsSame, text_of}, Moments.Elapses, Stops.LeavesOnly, declared.name.FileName.TheVariants.{Current, Format, Locks}}
use Rattle.store_files.specs.{declared.fault.StoreFault.StoreFault, declared.store.Store.Ghosts}
use Rattle.fsfs_text.specs.Formats.{layout_in}
use Rattle.repostore.specs.{Opening.OnlyReads, Current.count_in, Reading.{Faulty, HasFaultyRevision, IsFaulty, IfFaulty}}
use Rattle.store_files.specs.declared.fault.StoreFault.TheVariants as store
use Rattle.repostore.proofs.Steps.{goes_on}

-- what a fault of a file leads to
pub faulty_gives : (fault : StoreFault) (P Q : Type 0) → (P → Q) → IfFaulty fault P → IfFaulty fault Q
faulty_gives store.Device P Q gives is = tt
faulty_gives (store.File fault) P Q gives is = gives is
faulty_gives store.Halted P Q gives is = absurd is
faulty_gives store.NoMemory P Q gives is = tt
faulty_gives store.Exists P Q gives is = absurd is

-- a folder is faulty where the rest is that is read behind its first files
pub rest_faulty : (faulty : Faulty) (f : Folder) (n : ℕ) → count_in (text_of (f Current)) ≡ Some n
    → HasFaultyRevision faulty (layout_in (f Format)) f n ⊎ faulty.locks (f Locks) → IsFaulty faulty f
rest_faulty faulty f n count (inl revision) = inr (inl (n, count, revision))
rest_faulty faulty f n count (inr locks) = inr (inr locks)

module _ {S : Type 0} (s : Ghosts S) where
  abbrev pub Reading : S → S → Type 0
  Reading = OnlyReads s

  none_yet : (old : S) → ((f : Folder) → s.left_since old (s.moment old) f → s.may_leave old f) → LeavesOnly s old old (s.may_leave old)
  none_yet old only_now = record { later = le_refl (s.moment old); each = only_now; before = λ t f le left. inl left }

  -- one read
  pub read_one : (old new : S) → ((f : Folder) → s.is_honest old → s.left_since old (s.moment old) f → s.may_leave old f)
      → (s.is_honest new → s.is_honest old) → (s.is_honest old → IsSame (s.holds old) (s.holds new)) → (s.is_honest old → (f : Folder) → s.may_leave new f → s.may_leave old f)
      → (s.is_honest old → Elapses (s.moment old) (s.moment new) (s.left_since old) (s.left_since new) (s.may_leave old))
      → s.in_doubt new ≡ s.in_doubt old → s.failed old ≤ s.failed new → Reading old new
  read_one old new only_now honest same stop time doubt counts = record {
    honest = honest;
    same = λ h. same (honest h);
    left = λ h. stop (honest h);
    run = λ h. goes_on s old old new (s.may_leave old) (s.may_leave old) (none_yet old (λ f. only_now f (honest h))) (time (honest h)) (λ f x. x);
    doubt = doubt;
    counts = counts;
  }

  -- and more reads
  pub reads_then : (old mid new : S) → Reading old mid → Reading mid new → Reading old new
  reads_then old mid new a b = record {
    honest = λ h. a.honest (b.honest h);
    same = λ h n. b.same h n ∙ a.same (b.honest h) n;
    left = λ h f l. a.left (b.honest h) f (b.left h f l);
    run = λ h. joined (a.run (b.honest h)) (b.run h) (a.left (b.honest h));
    doubt = b.doubt ∙ a.doubt;
    counts = omega (arith, a.counts, b.counts);
  }
    where
      joined : LeavesOnly s old mid (s.may_leave old) → LeavesOnly s mid new (s.may_leave mid) → ((f : Folder) → s.may_leave mid f → s.may_leave old f)
          → LeavesOnly s old new (s.may_leave old)
      joined x y less = record {
        later = omega (arith, x.later, y.later);
        each = λ f l. ⊎_elim (x.each f) (less f) (y.before (s.moment old) f x.later l);
        before = λ t f le l. ⊎_elim (x.before t f le) (λ m. inr (less f m)) (y.before t f (omega (arith, le, x.later)) l);
      }
