-- How the files of a new repository are written.
use Rattle.std.proofs.Common.{◌≡◌, ◌≢◌, ◌⊎◌, inl, inr, refl, ⊎_elim, ap, sym, ◌∙◌, ℕ, List, [], ◌∷◌, Option, Some, arith}
use Rattle.std.specs.Prelude.{◌<◌, ◌↔◌, Result, Ok, Err, IsErr, IsErrOf}
use Rattle.store_files.specs.{Folders.{Folder, IsSame, SameBut, Scribbled, text_of}, Moments.Elapses, Stops.LeavesOnly, declared.name.FileName.FileName}
use Rattle.store_files.specs.declared.store.Store.{Ghosts}
use Rattle.store_files.specs.{declared.name.FileName.TheVariants.{Format, Kind, Uuid, Current, Locks, Revision, Properties, RepositoryFormat}, Faults.IsRefused}
use Rattle.store_files.specs.{declared.fault.ReplaceFault.ReplaceFault, declared.fault.ReplaceFault.TheVariants.{InDoubt, NoMemory, Unchanged}}
use Rattle.fsfs_text.specs.Formats.{layout_in, shard_in}
use Rattle.repostore.specs.{Current.count_in, Files.{Files, HasFiles, revision_name, properties_name}, Saving.{Stands, Going}}
use Rattle.repository_creation.specs.Creating.{IsFreeWith, IsFreeOrHas}
use Rattle.repostore.proofs.{Reaching.closed, Steps.{begun, goes_on, weaker, wrote, with_bytes, unchanged}, Joining.join}

-- files with their bytes
abbrev pub Written : Type 0
Written = List (FileName × List ℕ)

abbrev pub AreThere : Written → Folder → Type 0
AreThere [] f = Unit {0}
AreThere (w ∷ ws) f = (f w.0 ≡ Some w.1) × AreThere ws f

abbrev pub AreOthers : FileName → Written → Type 0
AreOthers name [] = Unit {0}
AreOthers name (w ∷ ws) = (w.0 ≢ name) × AreOthers name ws

still_there : (name : FileName) (ws : Written) (d f : Folder) → AreOthers name ws → SameBut name d f → AreThere ws d → AreThere ws f
still_there name [] d f others same there = tt
still_there name (w ∷ ws) d f others same there = (same w.0 others.0 ∙ there.0, still_there name ws d f others.1 same there.1)

-- the files that were written, and no `format`
abbrev pub Begins : Option (List ℕ) → Written → Folder → Type 0
Begins locks ws f = IsFreeWith locks f × AreThere ws f

still_begins : (name : FileName) (locks : Option (List ℕ)) (ws : Written) (d f : Folder) → Format ≢ name → Locks ≢ name → AreOthers name ws
    → SameBut name d f → Begins locks ws d → Begins locks ws f
still_begins name locks ws d f format lock others same there =
    (record { free = same Format format ∙ there.0.free; locks_are = same Locks lock ∙ there.0.locks_are }, still_there name ws d f others same there.1)

-- all of them, beside `format`
abbrev pub Opened : Option ℕ → List ℕ → List ℕ → List ℕ → List ℕ → List ℕ → List ℕ → Written
Opened shard around kind uuid revision properties current =
    (Current, current) ∷ (Properties shard 0, properties) ∷ (Revision shard 0, revision) ∷ (Uuid, uuid) ∷ (Kind, kind) ∷ (RepositoryFormat, around) ∷ []

module _ (locks : Option (List ℕ)) (shard : Option ℕ) (format around kind uuid revision properties current : List ℕ) (is_shard : shard ≡ shard_in (layout_in (Some format)) 0)
    (count : count_in current ≡ Some 1) where
  abbrev pub TheFiles : Files
  TheFiles = record { format = Some format; uuid = uuid; current = current; revisions = (revision, properties) ∷ []; locks = locks }

  abbrev pub AllBut : Folder → Type 0
  AllBut = Begins locks (Opened shard around kind uuid revision properties current)

  pub opening_is : (d f : Folder) → SameBut Format d f → AllBut d → f Format ≡ Some format → HasFiles TheFiles f
  opening_is d f same there is =
      let l : f Locks ≡ locks = same Locks (λ e. cc) ∙ there.0.locks_are in
      let c : f Current ≡ Some current = same Current (λ e. cc) ∙ there.1.0 in
      let at = layout_in (Some format) in
      let p : f (properties_name at 0) ≡ Some properties = ap (λ (x : Option ℕ). f (Properties x 0)) (sym is_shard) ∙ same (Properties shard 0) (λ e. cc) ∙ there.1.1.0 in
      let r : f (revision_name at 0) ≡ Some revision = ap (λ (x : Option ℕ). f (Revision x 0)) (sym is_shard) ∙ same (Revision shard 0) (λ e. cc) ∙ there.1.1.1.0 in
      let u : f Uuid ≡ Some uuid = same Uuid (λ e. cc) ∙ there.1.1.1.1.0 in
      closed f TheFiles 1 (ap (λ (x : Option (List ℕ)). count_in (text_of x)) c ∙ count)
      (λ i. record { format = is i; uuid = text_of (u i); current = text_of (c i); revisions = (text_of (r i), text_of (p i)) ∷ []; locks = l i })

  pub opening_may_be : (d f : Folder) → SameBut Format d f → AllBut d → (f Format ≡ d Format) ⊎ (f Format ≡ Some format) → IsFreeOrHas TheFiles f
  opening_may_be d f same there (inl e) = inl (e ∙ there.0.free)
  opening_may_be d f same there (inr is) = inr (opening_is d f same there is)

module _ {S : Type 0} (s : Ghosts S) (locks : Option (List ℕ)) where
  abbrev pub Writing : S → S → Written → Type 0
  Writing start now ws = Going s start now (IsFreeWith locks) (Begins locks ws)

  abbrev pub Free : S → Type 0
  Free store = Stands s store (IsFreeWith locks)

  abbrev pub Leaves : S → S → (Folder → Type 0) → Type 0
  Leaves = LeavesOnly s

  pub starts : (store : S) → ((f : Folder) → s.is_honest store → s.left_since store (s.moment store) f → s.may_leave store f) → Free store → Writing store store []
  starts store only_now free =
      let at = begun s store (IsFreeWith locks) only_now free in
      record {
        stands = record { honest = free.honest; read = (free.read, tt); left = λ f l. (free.left f l, tt) };
        run = at.run;
      }

  -- a file is written, whatever the call answers
  pub one_more : (start old new : S) (name : FileName) (ws : Written) → Format ≢ name → Locks ≢ name → AreOthers name ws → Writing start old ws
      → (s.is_honest old ↔ s.is_honest new) → (s.is_honest old → SameBut name (s.holds old) (s.holds new))
      → (s.is_honest old → (f : Folder) → s.may_leave new f → Scribbled (s.may_leave old) name f)
      → (s.is_honest old → Elapses (s.moment old) (s.moment new) (s.left_since old) (s.left_since new) (Scribbled (s.may_leave old) name))
      → Writing start new ws
  one_more start old new name ws format lock others so_far honest same stop time =
      wrote s start old new name (IsFreeWith locks) (Begins locks ws) (Begins locks ws) so_far honest same stop time
      (λ d f but there. still_begins name locks ws d f format lock others but there) (λ f there. there.0)

  -- and it has its bytes
  pub is_written : (start now : S) (name : FileName) (bytes : List ℕ) (ws : Written) → Writing start now ws
      → s.holds now name ≡ Some bytes → ((f : Folder) → s.may_leave now f → f name ≡ Some bytes) → Writing start now ((name, bytes) ∷ ws)
  is_written start now name bytes ws so_far read left =
      with_bytes s start now name bytes (IsFreeWith locks) (Begins locks ws) (Begins locks ((name, bytes) ∷ ws)) so_far read left
      (λ f there is. (there.0, (is, there.1)))

  pub is_free : (start now : S) (ws : Written) → Writing start now ws → Free now
  is_free start now ws so_far = record {
    honest = so_far.stands.honest;
    read = so_far.stands.read.0;
    left = λ f l. (so_far.stands.left f l).0;
  }

  pub leaves_free : (start now : S) (files : Files) → Leaves start now (IsFreeWith locks) → Leaves start now (IsFreeOrHas files)
  leaves_free start now files run = weaker s start now (IsFreeWith locks) (IsFreeOrHas files) (λ f free. inl free.free) run

  -- whether `format` is there is read
  pub looked : (old new : S) → ((f : Folder) → s.is_honest old → s.left_since old (s.moment old) f → s.may_leave old f) → Free old → s.is_honest new
      → (s.is_honest old → IsSame (s.holds old) (s.holds new)) → (s.is_honest old → (f : Folder) → s.may_leave new f → s.may_leave old f)
      → (s.is_honest old → Elapses (s.moment old) (s.moment new) (s.left_since old) (s.left_since new) (s.may_leave old))
      → Free new × Leaves old new (IsFreeWith locks)
  looked old new only_now free honest same stop time =
      let h = free.honest in (
        record {
          honest = honest;
          read = record { free = same h Format ∙ free.read.free; locks_are = same h Locks ∙ free.read.locks_are };
          left = λ f l. free.left f (stop h f l);
        },
        goes_on s old old new (IsFreeWith locks) (s.may_leave old)
            (begun s old (IsFreeWith locks) only_now free).run (time h) free.left,
      )

  -- and what is left behind that
  pub behind : (old mid new : S) (files : Files) → Leaves old mid (IsFreeWith locks) → Leaves mid new (IsFreeOrHas files) → Leaves old new (IsFreeOrHas files)
  behind old mid new files first then =
      weaker s old new (λ f. IsFreeWith locks f ⊎ IsFreeOrHas files f) (IsFreeOrHas files)
      (λ f. ⊎_elim (λ free. inl free.free) (λ has. has)) (join s old mid new (IsFreeWith locks) (IsFreeOrHas files) first then)

  nothing_new : (start old new : S) (ws : Written) → Writing start old ws → s.is_honest new
      → IsSame (s.holds old) (s.holds new) → ((f : Folder) → s.may_leave new f → s.may_leave old f) → Free new
  nothing_new start old new ws so_far honest same left =
      unchanged s old new (Begins locks ws) (IsFreeWith locks) so_far.stands honest
      (record { read = same; left = left })
      (λ d f is there. record { free = is Format ∙ there.0.free; locks_are = is Locks ∙ there.0.locks_are })

  -- the last call, where nothing was changed
  pub not_replaced : (start old new : S) (ws : Written) (before after : ℕ) (result : Result (Unit {0}) ReplaceFault) → Writing start old ws → IsErr result → s.is_honest new
      → before ≡ after → (IsErrOf result InDoubt → before < after)
      → (IsRefused result → IsSame (s.holds old) (s.holds new)) → (IsRefused result → (f : Folder) → s.may_leave new f → s.may_leave old f) → Free new
  not_replaced start old new ws before after (Ok x) so_far failed honest steady doubt same left = absurd (cc)
  not_replaced start old new ws before after (Err InDoubt) so_far failed honest steady doubt same left = absurd (omega (arith, steady, doubt refl))
  not_replaced start old new ws before after (Err Unchanged) so_far failed honest steady doubt same left = nothing_new start old new ws so_far honest (same tt) (left tt)
  not_replaced start old new ws before after (Err NoMemory) so_far failed honest steady doubt same left = nothing_new start old new ws so_far honest (same tt) (left tt)
