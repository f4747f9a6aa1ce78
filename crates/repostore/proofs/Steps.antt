-- How a run of calls goes on.
use Rattle.std.proofs.Common.{◌≡◌, refl, ◌⊎◌, inl, inr, ⊎_elim, ℕ, List, Some, arith, le_refl}
use Rattle.std.specs.Prelude.{◌↔◌, Result, Ok, Err, OnOk}
use Rattle.store_files.specs.{Folders.{Folder, SameBut, Scribbled, Swapped}, Moments.Elapses, Stops.LeavesOnly, declared.name.FileName.FileName}
use Rattle.store_files.specs.declared.store.Store.{Ghosts}
use Rattle.repostore.specs.Saving.{Stands, Going, Replaces, IsWritten, IsUnchanged}

module _ {S : Type 0} (s : Ghosts S) where
  abbrev pub Here : S → (Folder → Type 0) → Type 0
  Here = Stands s

  abbrev pub On : S → S → (Folder → Type 0) → (Folder → Type 0) → Type 0
  On = Going s

  -- before the first call
  pub begun : (store : S) (P : Folder → Type 0)
      → ((f : Folder) → s.is_honest store → s.left_since store (s.moment store) f → s.may_leave store f)
      → Here store P → On store store P P
  begun store P only_now here = record {
    stands = here;
    run = record {
      later = le_refl (s.moment store);
      each = λ f left. here.left f (only_now f here.honest left);
      before = λ t f le left. inl left;
    };
  }

  -- one call more, during which a stop leaves what has P
  pub goes_on : (start old new : S) (P during : Folder → Type 0)
      → LeavesOnly s start old P
      → Elapses (s.moment old) (s.moment new) (s.left_since old) (s.left_since new) during
      → ((f : Folder) → during f → P f) → LeavesOnly s start new P
  goes_on start old new P during so_far time here = record {
    later = omega (arith, so_far.later, time.later);
    each = λ f left. ⊎_elim (so_far.each f) (here f) (time.nothing_else (s.moment start) f so_far.later left);
    before = λ t f le left. ⊎_elim (so_far.before t f le) (λ now. inr (here f now)) (time.nothing_else t f (omega (arith, le, so_far.later)) left);
  }

  -- what has P has R too
  pub weaker : (start now : S) (P R : Folder → Type 0) → ((f : Folder) → P f → R f)
      → LeavesOnly s start now P → LeavesOnly s start now R
  weaker start now P R more run = record {
    later = run.later;
    each = λ f left. more f (run.each f left);
    before = λ t f le left. ⊎_elim (λ then. inl then) (λ p. inr (more f p)) (run.before t f le left);
  }

  -- a file is written, whatever the call answers
  pub wrote : (start old new : S) (name : FileName) (P Q R : Folder → Type 0) → On start old P Q
      → (s.is_honest old ↔ s.is_honest new) → (s.is_honest old → SameBut name (s.holds old) (s.holds new))
      → (s.is_honest old → (f : Folder) → s.may_leave new f → Scribbled (s.may_leave old) name f)
      → (s.is_honest old → Elapses (s.moment old) (s.moment new) (s.left_since old) (s.left_since new) (Scribbled (s.may_leave old) name))
      → ((d f : Folder) → SameBut name d f → Q d → R f) → ((f : Folder) → R f → P f) → On start new P R
  wrote start old new name P Q R so_far honest others stop time step more =
      let was = so_far.stands in
      let scribbled : (f : Folder) → Scribbled (s.may_leave old) name f → R f = λ f s. step s.old f s.others (was.left s.old s.left) in
      record {
        stands = record {
          honest = honest.0 was.honest;
          read = step (s.holds old) (s.holds new) (others was.honest) was.read;
          left = λ f left. scribbled f (stop was.honest f left);
        };
        run = goes_on start old new P (Scribbled (s.may_leave old) name) so_far.run (time was.honest) (λ f s. more f (scribbled f s));
      }

  -- and once it is written, it has its bytes
  pub with_bytes : (start now : S) (name : FileName) (bytes : List ℕ) (P Q R : Folder → Type 0) → On start now P Q
      → s.holds now name ≡ Some bytes → ((f : Folder) → s.may_leave now f → f name ≡ Some bytes)
      → ((f : Folder) → Q f → f name ≡ Some bytes → R f) → On start now P R
  with_bytes start now name bytes P Q R so_far read left step = record {
    stands = record {
      honest = so_far.stands.honest;
      read = step (s.holds now) so_far.stands.read read;
      left = λ f l. step f (so_far.stands.left f l) (left f l);
    };
    run = so_far.run;
  }

  -- a file is replaced, whatever the call answers
  pub swapped : (start old new : S) (name : FileName) (bytes : List ℕ) (P Q R : Folder → Type 0) → On start old P Q
      → Replaces s name bytes old new
      → ((d f : Folder) → SameBut name d f → Q d → (f name ≡ d name) ⊎ (f name ≡ Some bytes) → R f)
      → ((f : Folder) → P f → R f) → LeavesOnly s start new R
  swapped start old new name bytes P Q R so_far call step more =
      goes_on start old new R (Swapped (s.may_leave old) name bytes) (weaker start old P R more so_far.run) call.time
      (λ f s. step s.old f s.others (so_far.stands.left s.old s.left) s.either)

  -- so that then there stands what has R
  pub swapped_now : (old new : S) (name : FileName) (bytes : List ℕ) (Q R : Folder → Type 0) → Here old Q
      → Replaces s name bytes old new
      → ((d f : Folder) → SameBut name d f → Q d → (f name ≡ d name) ⊎ (f name ≡ Some bytes) → R f) → Here new R
  swapped_now old new name bytes Q R here call step = record {
    honest = call.honest;
    read = step (s.holds old) (s.holds new) call.others here.read call.either;
    left = λ f l. let s = call.stop f l in step s.old f s.others (here.left s.old s.left) s.either;
  }

  -- what stands is more than that
  pub stands_too : (store : S) (P R : Folder → Type 0) → ((f : Folder) → P f → R f) → Here store P → Here store R
  stands_too store P R more here =
      record { honest = here.honest; read = more (s.holds store) here.read; left = λ f l. more f (here.left f l) }

  -- and once it is replaced, it has its bytes
  pub replaced : (start old new : S) (name : FileName) (bytes : List ℕ) (P Q R : Folder → Type 0) → On start old P Q
      → Replaces s name bytes old new
      → IsWritten s name bytes new
      → ((d f : Folder) → SameBut name d f → Q d → f name ≡ Some bytes → R f) → Here new R
  replaced start old new name bytes P Q R so_far call done step = record {
    honest = call.honest;
    read = step (s.holds old) (s.holds new) call.others so_far.stands.read done.read;
    left = λ f l. let s = call.stop f l in step s.old f s.others (so_far.stands.left s.old s.left) (done.left f l);
  }

  -- where nothing was changed, what stood stands
  pub unchanged : (old new : S) (Q R : Folder → Type 0) → Here old Q → s.is_honest new
      → IsUnchanged s old new
      → ((d f : Folder) → ((n : FileName) → f n ≡ d n) → Q d → R f) → Here new R
  unchanged old new Q R here honest same step = record {
    honest = honest;
    read = step (s.holds old) (s.holds new) same.read here.read;
    left = λ f l. step f f (λ n. refl) (here.left f (same.left f l));
  }

-- what a call that answers Ok leads to
pub ok_gives : {T E : Type 0} {P Q : Type 0} (r : Result T E) → (P → Q) → OnOk r P → OnOk r Q
ok_gives (Ok x) f p = f p
ok_gives (Err e) f p = tt

pub ok_gives_both : {T E : Type 0} {P Q R : Type 0} (r : Result T E) → (P → Q → R) → OnOk r P → OnOk r Q → OnOk r R
ok_gives_both (Ok x) f p q = f p q
ok_gives_both (Err e) f p q = tt
