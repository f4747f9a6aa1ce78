-- Files that are copied, revision by revision.
use Rattle.std.proofs.Common.{◌≡◌, ℕ, suc, ◌+◌, List, [], ◌∷◌, ◌++◌, Option, Some, Result, Ok, Err, inl, inr, ⊎_elim, refl, sym, ap, subst, ◌∙◌, arith, add-one}
use Rattle.std.proofs.Common.{le_refl}
use Rattle.std.specs.Prelude.{◌≤◌, ◌<◌, ◌⊎◌, ◌≢◌, IsErr, IsErrOf}
use Rattle.fsfs_text.specs.{Formats.layout_in, declared.format.Layout.Layout}
use Rattle.store_files.specs.{Folders.{Folder, IsSame, SameBut, text_of}, declared.name.FileName.FileName}
use Rattle.store_files.specs.{declared.name.FileName.TheVariants.{Format, Uuid, Current, Locks, Revision, Properties}, Moments.{Elapses, HasCause, HasRisen}}
use Rattle.store_files.specs.{Stops.LeavesOnly, declared.store.Store.Ghosts, declared.fault.StoreFault.StoreFault}
use Rattle.store_files.specs.{declared.fault.StoreFault.TheVariants.{Device, NoMemory}, Faults.IsRefused, declared.fault.ReplaceFault.ReplaceFault}
use Rattle.repostore.specs.{Files.{revision_name, properties_name, revision_files, revisions_below, reached, HasFiles}, Current.count_in, Opening.OnlyReads}
use Rattle.repostore.specs.Saving.{Going, Stands}
use Rattle.repository_creation.specs.{Creating.{IsFreeOrHas, IsFreeWith}, Migrating.{HasSome, IsFree, IsStep, moved_files, moved_locks}}
use Rattle.repository_creation.specs.declared.migrating.Moved.{Moved}
use Rattle.repostore.proofs.{Reaching.{are_one, below_same, closed}, Joining.join, Readings.reads_then, Steps.{begun, goes_on, stands_too, unchanged, weaker}}
use Rattle.store_files.specs.declared.fault.ReplaceFault.TheVariants as replace

module _ (there : Option (List ℕ)) (from : Layout) (copied : Folder) (to : Layout) (n : ℕ) where
  abbrev pub Some_of : Folder → Type 0
  Some_of = HasSome there from copied to n

  pub revision_stays : (e f : Folder) (s : Option ℕ) → SameBut (Revision s n) e f → Some_of e → Some_of f
  revision_stays e f s same has = record {
    free = same Format (λ x. cc) ∙ has.free;
    locks_are = same Locks (λ x. cc) ∙ has.locks_are;
    uuid_is = same Uuid (λ x. cc) ∙ has.uuid_is;
    revisions_are =
        below_same to e f n (λ k lt. λ i. (text_of (same (revision_name to k) (λ x. let is : k ≡ n = cc in omega (arith, lt, is)) i), text_of (same (properties_name to k) (λ x. cc) i)))
        ∙ has.revisions_are;
  }

  pub properties_stay : (e f : Folder) (s : Option ℕ) → SameBut (Properties s n) e f → Some_of e → Some_of f
  properties_stay e f s same has = record {
    free = same Format (λ x. cc) ∙ has.free;
    locks_are = same Locks (λ x. cc) ∙ has.locks_are;
    uuid_is = same Uuid (λ x. cc) ∙ has.uuid_is;
    revisions_are =
        below_same to e f n (λ k lt. λ i. (text_of (same (revision_name to k) (λ x. cc) i), text_of (same (properties_name to k) (λ x. let is : k ≡ n = cc in omega (arith, lt, is)) i)))
        ∙ has.revisions_are;
  }

  pub current_stays : (e f : Folder) → SameBut Current e f → Some_of e → Some_of f
  current_stays e f same has = record {
    free = same Format (λ x. cc) ∙ has.free;
    locks_are = same Locks (λ x. cc) ∙ has.locks_are;
    uuid_is = same Uuid (λ x. cc) ∙ has.uuid_is;
    revisions_are =
        below_same to e f n (λ k lt. λ i. (text_of (same (revision_name to k) (λ x. cc) i), text_of (same (properties_name to k) (λ x. cc) i)))
        ∙ has.revisions_are;
  }

  pub others_stay : (e f : Folder) → SameBut Locks e f → Some_of e → HasSome (f Locks) from copied to n f
  others_stay e f same has = record {
    free = same Format (λ x. cc) ∙ has.free;
    locks_are = refl;
    uuid_is = same Uuid (λ x. cc) ∙ has.uuid_is;
    revisions_are =
        below_same to e f n (λ k lt. λ i. (text_of (same (revision_name to k) (λ x. cc) i), text_of (same (properties_name to k) (λ x. cc) i)))
        ∙ has.revisions_are;
  }

  -- with these locks
  pub with_these : (f : Folder) → HasSome (f Locks) from copied to n f → f Locks ≡ there → Some_of f
  with_these f has is = record { free = has.free; locks_are = is; uuid_is = has.uuid_is; revisions_are = has.revisions_are }

  -- `format` is put in its place
  pub format_is : (moved : Moved) (others : Option (List ℕ)) → there ≡ moved_locks moved.no_locks.now (copied Locks) others → to ≡ layout_in (Some moved.format.now)
      → count_in moved.current.now ≡ Some n → (e f : Folder) → SameBut Format e f
      → Some_of e × (e Current ≡ Some moved.current.now) → f Format ≡ Some moved.format.now → HasFiles (moved_files moved others (reached from copied n)) f
  format_is moved others which layout count e f same has is =
      let locks : f Locks ≡ moved_locks moved.no_locks.now (copied Locks) others = same Locks (λ x. cc) ∙ has.0.locks_are ∙ which in
      let uuid : f Uuid ≡ Some (text_of (copied Uuid)) = same Uuid (λ x. cc) ∙ has.0.uuid_is in
      let current : f Current ≡ Some moved.current.now = same Current (λ x. cc) ∙ has.1 in
      let revisions : revisions_below (layout_in (Some moved.format.now)) f n ≡ revisions_below from copied n =
      ap (λ (l : Layout). revisions_below l f n) (sym layout)
      ∙ below_same to e f n (λ k lt. λ i. (text_of (same (revision_name to k) (λ x. cc) i), text_of (same (properties_name to k) (λ x. cc) i)))
      ∙ has.0.revisions_are in
      closed f (moved_files moved others (reached from copied n)) n (ap (λ (x : Option (List ℕ)). count_in (text_of x)) current ∙ count)
      (λ i. record { format = is i; uuid = text_of (uuid i); current = text_of (current i); revisions = revisions i; locks = locks i })

  pub format_may_be : (moved : Moved) (others : Option (List ℕ)) → there ≡ moved_locks moved.no_locks.now (copied Locks) others → to ≡ layout_in (Some moved.format.now)
      → count_in moved.current.now ≡ Some n → (e f : Folder) → SameBut Format e f
      → Some_of e × (e Current ≡ Some moved.current.now) → (f Format ≡ e Format) ⊎ (f Format ≡ Some moved.format.now) → IsFreeOrHas (moved_files moved others (reached from copied n)) f
  format_may_be moved others which layout count e f same has (inl stays) = inl (stays ∙ has.0.free)
  format_may_be moved others which layout count e f same has (inr is) = inr (format_is moved others which layout count e f same has is)

  -- the files of one revision more
  pub one_more : (f : Folder) (revision properties : List ℕ) → revision_files from copied n ≡ (revision, properties) → Some_of f
      → f (revision_name to n) ≡ Some revision → f (properties_name to n) ≡ Some properties → HasSome there from copied to (n + 1) f
  one_more f revision properties are has r p =
      let last : revision_files to f n ≡ revision_files from copied n = (λ i. (text_of (r i), text_of (p i))) ∙ sym are in
      let next : revisions_below to f (suc n) ≡ revisions_below from copied (suc n) = λ i. has.revisions_are i ++ last i ∷ [] in
      record {
        free = has.free;
        locks_are = has.locks_are;
        uuid_is = has.uuid_is;
        revisions_are = ap (revisions_below to f) (add-one n) ∙ next ∙ ap (revisions_below from copied) (sym (add-one n));
      }

-- one run after another, in both of which a stop leaves what has P
pub both : {S : Type 0} (s : Ghosts S) (start mid end : S) (P : Folder → Type 0)
    → LeavesOnly s start mid P → LeavesOnly s mid end P → LeavesOnly s start end P
both s start mid end P a b =
    weaker s start end (λ f. P f ⊎ P f) P (λ f. ⊎_elim (λ p. p) (λ p. p)) (join s start mid end P P a b)

module _ {S : Type 0} (s : Ghosts S) where
  -- a read changes nothing
  pub read_on : (start old new : S) (P Q : Folder → Type 0) → Going s start old P Q → s.is_honest new
      → (s.is_honest old → IsSame (s.holds old) (s.holds new)) → (s.is_honest old → (f : Folder) → s.may_leave new f → s.may_leave old f)
      → (s.is_honest old → Elapses (s.moment old) (s.moment new) (s.left_since old) (s.left_since new) (s.may_leave old))
      → ((f : Folder) → Q f → P f) → Going s start new P Q
  read_on start old new P Q so_far honest same stop time more =
      let was = so_far.stands in
      let one : s.holds new ≡ s.holds old = are_one (s.holds old) (s.holds new) (same was.honest) in
      record {
        stands = record {
          honest = honest;
          read = subst Q (sym one) was.read;
          left = λ f l. was.left f (stop was.honest f l);
        };
        run = goes_on s start old new P (s.may_leave old) so_far.run (time was.honest) (λ f l. more f (was.left f l));
      }

  nothing_new : (old new : S) (Q : Folder → Type 0) → ((f : Folder) → Q f → IsFree f) → Stands s old Q → s.is_honest new
      → IsSame (s.holds old) (s.holds new) → ((f : Folder) → s.may_leave new f → s.may_leave old f) → Stands s new IsFree
  nothing_new old new Q free here honest same left =
      unchanged s old new Q IsFree here honest (record { read = same; left = left }) (λ d f is has. is Format ∙ free d has)

  -- `format` was not replaced, and everybody knows
  pub not_published : (old new : S) (Q : Folder → Type 0) → ((f : Folder) → Q f → IsFree f) → (result : Result (Unit {0}) ReplaceFault) → Stands s old Q
      → IsErr result → s.is_honest new → (before after : ℕ) → before ≡ after → (IsErrOf result replace.InDoubt → before < after)
      → (IsRefused result → IsSame (s.holds old) (s.holds new)) → (IsRefused result → (f : Folder) → s.may_leave new f → s.may_leave old f) → Stands s new IsFree
  not_published old new Q free (Ok x) here failed honest before after steady doubt same left = absurd (cc)
  not_published old new Q free (Err replace.InDoubt) here failed honest before after steady doubt same left = absurd (omega (arith, steady, doubt refl))
  not_published old new Q free (Err replace.Unchanged) here failed honest before after steady doubt same left = nothing_new old new Q free here honest (same tt) (left tt)
  not_published old new Q free (Err replace.NoMemory) here failed honest before after steady doubt same left = nothing_new old new Q free here honest (same tt) (left tt)

  -- the repository is not there as long as so much of it is
  pub free_yet : (start now : S) (there : Option (List ℕ)) (from : Layout) (copied : Folder) (to : Layout) (n : ℕ)
      → Going s start now IsFree (HasSome there from copied to n) → Going s start now IsFree IsFree
  free_yet start now there from copied to n so_far =
      record { stands = stands_too s now (HasSome there from copied to n) IsFree (λ f has. has.free) so_far.stands; run = so_far.run }

  -- nothing was written yet
  pub untouched : (start : S) (there : Option (List ℕ)) → ((f : Folder) → s.is_honest start → s.left_since start (s.moment start) f → s.may_leave start f)
      → Stands s start (IsFreeWith there) → Going s start start IsFree IsFree
  untouched start there only_now here = begun s start IsFree only_now (stands_too s start (IsFreeWith there) IsFree (λ f has. has.free) here)

  -- so it begins
  pub begins : (start : S) (there : Option (List ℕ)) (from : Layout) (copied : Folder) (to : Layout) (n : ℕ)
      → ((f : Folder) → s.is_honest start → s.left_since start (s.moment start) f → s.may_leave start f)
      → Stands s start (HasSome there from copied to n) → Going s start start IsFree (HasSome there from copied to n)
  begins start there from copied to n only_now here =
      let free = stands_too s start (HasSome there from copied to n) IsFree (λ f has. has.free) here in
      record { stands = here; run = (begun s start IsFree only_now free).run }

-- what has risen since a moment has risen since an earlier one
pub risen_before : (a b c : ℕ) → a ≤ b → HasRisen b c → HasRisen a c
risen_before a b c le (inl lt) = inl (omega (arith, le, lt))
risen_before a b c le (inr last) = inr last

-- another file is written where there is no repository
pub free_stays : (there : Option (List ℕ)) (name : FileName) → Format ≢ name → Locks ≢ name → (e f : Folder) → SameBut name e f → IsFreeWith there e → IsFreeWith there f
free_stays there name format lock e f same free = record { free = same Format format ∙ free.free; locks_are = same Locks lock ∙ free.locks_are }

-- a step after another; the first one went well
pub step_then : {S T A B : Type 0} (s : Ghosts S) (t : Ghosts T) (a b c : S) (x y z : T) (first : Result A StoreFault) (second : Result B StoreFault)
    → IsStep s t a b x y first → IsStep s t b c y z second → IsStep s t a c x z second
step_then s t a b c x y z first second one two = record {
  reads = reads_then s a b c one.reads two.reads;
  honest = λ h. one.honest (two.honest h);
  counts = omega (arith, one.counts, two.counts);
  doubt = two.doubt ∙ one.doubt;
  device = λ failed. ⊎_elim (λ r. inl (risen_before _ _ _ one.reads.counts r)) (λ r. inr (risen_before _ _ _ one.counts r)) (two.device failed);
  only = two.only;
}

-- nothing but reads
pub step_of_reads : {S T A : Type 0} (s : Ghosts S) (t : Ghosts T) (a b : S) (x : T) (result : Result A StoreFault)
    → OnlyReads s a b → (IsErrOf result Device → HasRisen (s.failed a) (s.failed b)) → (IsErr result → IsErrOf result Device ⊎ IsErrOf result NoMemory) → IsStep s t a b x x result
step_of_reads s t a b x result reads device only = record {
  reads = reads;
  honest = λ h. h;
  counts = le_refl (t.failed x);
  doubt = refl;
  device = λ failed. inl (device failed);
  only = only;
}

-- a read has failed
pub reads_failed : {S T A B : Type 0} (s : Ghosts S) (t : Ghosts T) (a b : S) (x : T) (fault : StoreFault) (result : Result B StoreFault) → result ≡ Err fault
    → OnlyReads s a b → HasCause {T = A} (s.failed a) (s.failed b) (Err fault) → IsStep s t a b x x result
reads_failed {B = B} s t a b x fault result is reads cause =
    let step : IsStep {R = B} s t a b x x (Err fault) = record {
      reads = reads;
      honest = λ h. h;
      counts = le_refl (t.failed x);
      doubt = refl;
      device = λ failed. let which : fault ≡ Device = cc in inl (cause.device (ap (λ (f : StoreFault). Err f) which));
      only = λ failed. ⊎_elim
          (λ e. let which : fault ≡ Device = cc in inl (ap (λ (f : StoreFault). Err f) which))
          (λ e. let which : fault ≡ NoMemory = cc in inr (ap (λ (f : StoreFault). Err f) which)) (cause.only failed);
    } in
    subst (λ (r : Result B StoreFault). IsStep s t a b x x r) (sym is) step

-- writes after reads
pub step_of_writes : {S T A : Type 0} (s : Ghosts S) (t : Ghosts T) (a b : S) (x y : T) (result : Result A StoreFault)
    → OnlyReads s a b → (t.is_honest y → t.is_honest x) → t.in_doubt y ≡ t.in_doubt x → HasCause (t.failed x) (t.failed y) result → IsStep s t a b x y result
step_of_writes s t a b x y result reads honest doubt cause = record {
  reads = reads;
  honest = honest;
  counts = cause.later;
  doubt = doubt;
  device = λ failed. inr (cause.device failed);
  only = cause.only;
}

-- the same, as it is handed on
pub failed_as : {S T : Type 0} (s : Ghosts S) (t : Ghosts T) (a b : S) (x y : T) {one two : Result (Unit {0}) StoreFault} → one ≡ two → IsStep s t a b x y one → IsStep s t a b x y two
failed_as s t a b x y is step = subst (λ (r : Result (Unit {0}) StoreFault). IsStep s t a b x y r) is step
