-- The files of a repository are not faulty.
use Rattle.std.proofs.Common.{◌≡◌, ◌≤◌, ◌<◌, ℕ, zero, suc, List, [], ◌∷◌, ◌++◌, map, take, length, Option, Some, None, option_map, option_and_then, refl, sym}
use Rattle.std.proofs.{Common.{ap, subst, ◌∙◌, arith, ⊎_elim, length-append, ◌⊎◌, inl, inr}, lemmas.Bool.cases_eq}
use Rattle.std.proofs.{lemmas.List.{length-map, map-append, take-append-le, take_all}, lemmas.Option.{none-some, same_Some}}
use Rattle.std.specs.{Prelude.{IfErr, IsSome, Result, Ok, Err, slice_get}, Result.result_ok}
use Rattle.repo_api.specs.{Properties.PropertyList, States.RepoState}
use Rattle.store_files.specs.{Folders.{Folder, text_of}, declared.name.FileName.TheVariants.{Current, Format}, declared.fault.StoreFault.StoreFault}
use Rattle.store_files.specs.declared.fault.StoreFault.TheVariants.{Device, File, Halted, NoMemory, Exists}
use Rattle.fsfs_text.specs.{Formats.{format_of, layout_in}, declared.format.Layout.Layout}
use Rattle.repostore.specs.{Current.count_in, Files.{Files, HasFiles, reached, revision_files, RevisionFiles, revisions_below}}
use Rattle.repostore.specs.Reading.{HasFaultyRevision, IfFaulty, IsFaulty}
use Rattle.fsfs_nodes.specs.{Current.current_of, Identity.uuid_of, Properties.properties_of}
use Rattle.filed_trees.specs.StandsFor.{locks_in, revision_bytes}
use Rattle.shared_revisions.specs.declared.held.Held.{Held}
use Rattle.filed_repository.specs.{Files.{IsOf, filed_content}, Histories.{ComesNext, HasHistory, History, IsHistory, AreSaid, first, held_history}}
use Rattle.filed_repository.specs.{declared.filed_world.FiledWorld.FiledWorld, Faults.folder_faults}
use Rattle.stored_repository.specs.Keeping.{HasRepository}
use Rattle.filed_repository.proofs.Changed.{said_is}
use Rattle.noderevs.proofs.Pushing.{last_place, other_place}

-- ---- the first of a history are one

front : {X : Type 0} (xs : List X) (n k : ℕ) → k ≤ n → take k (take n xs) ≡ take k xs
front xs n zero le = refl
front xs zero (suc k) le = absurd (omega (arith, le))
front [] (suc n) (suc k) le = refl
front (x ∷ xs) (suc n) (suc k) le = ap (λ l. x ∷ l) (front xs n k (omega (arith, le)))

of_front : {X : Type 0} (xs : List X) (n k : ℕ) (x : X) → slice_get (take n xs) k ≡ Some x → (slice_get xs k ≡ Some x) × (k < n)
of_front xs zero k x at = absurd (none-some x at)
of_front [] (suc n) k x at = absurd (none-some x at)
of_front (y ∷ xs) (suc n) zero x at = (at, omega arith)
of_front (y ∷ xs) (suc n) (suc k) x at = let p = of_front xs n k x at in let lt = p.1 in (p.0, omega (arith, lt))

long_front : {X : Type 0} (xs : List X) (n : ℕ) → (length (take n xs) ≤ n) × (length (take n xs) ≤ length xs)
long_front xs zero = (omega arith, omega arith)
long_front [] (suc n) = (omega arith, omega arith)
long_front (x ∷ xs) (suc n) = let p = long_front xs n in let a = p.0 in let b = p.1 in (omega (arith, a), omega (arith, b))

first_first : (h : History) (n k : ℕ) → k ≤ n → first k (first n h) ≡ first k h
first_first h n k le = λ i. record {
  files = front h.files n k le i;
  blocks = front h.blocks n k le i;
  tables = front h.tables n k le i;
  changes = front h.changes n k le i;
}

first_history : (h : History) → IsHistory h → (n : ℕ) → n ≤ length h.files → IsHistory (first n h)
first_history h is n le =
    let long = long_front h.files n in
    let short = long.0 in
    let room = is.room in
    let within = long.1 in
    record {
      all = is.said n le;
      said = λ k few. subst AreSaid (sym (first_first h n k (omega (arith, few, short)))) (is.said k (omega (arith, few, within)));
      begins = λ f b c at_f at_b at_c. is.begins f b c (of_front h.files n 0 f at_f).0 (of_front h.blocks n 0 b at_b).0 (of_front h.changes n 0 c at_c).0;
      next = λ k f b c pos at_f at_b at_c.
          let p = of_front h.files n k f at_f in
          let lt = p.1 in
          subst (λ x. ComesNext x f b c) (sym (first_first h n k (omega (arith, lt))))
          (is.next k f b c pos p.0 (of_front h.blocks n k b at_b).0 (of_front h.changes n k c at_c).0);
      room = omega (arith, room, within);
    }

-- ---- the files of a folder

module _ (folder : Folder) where
  abbrev layout : Layout
  layout = layout_in (folder Format)

  abbrev bytes : ℕ → List (List ℕ)
  bytes n = map (λ (r : RevisionFiles). r.0) (revisions_below layout folder n)

  bytes_more : (n : ℕ) → bytes (suc n) ≡ bytes n ++ (revision_files layout folder n).0 ∷ []
  bytes_more n = map-append (λ (r : RevisionFiles). r.0) (revisions_below layout folder n) (revision_files layout folder n ∷ [])

  many_below : (n : ℕ) → length (revisions_below layout folder n) ≡ n
  many_below zero = refl
  many_below (suc n) = let m = many_below n in omega (arith, m, length-append (revisions_below layout folder n) (revision_files layout folder n ∷ []))

  many_bytes : (n : ℕ) → length (bytes n) ≡ n
  many_bytes n = length-map (revisions_below layout folder n) (λ (r : RevisionFiles). r.0) ∙ many_below n

  -- the first of them are those below
  front_bytes : (m k : ℕ) → k ≤ m → take k (bytes m) ≡ bytes k
  front_bytes zero zero le = refl
  front_bytes zero (suc k) le = absurd (omega (arith, le))
  front_bytes (suc m) k le = ⊎_elim
      (λ e. take_all k (bytes (suc m)) (omega (arith, e, many_bytes (suc m))) ∙ ap bytes (sym e))
      (λ ne. ap (take k) (bytes_more m) ∙ take-append-le k (bytes m) ((revision_files layout folder m).0 ∷ []) (omega (arith, le, ne, many_bytes m))
      ∙ front_bytes m k (omega (arith, le, ne)))
      (cases_eq k (suc m))

  -- those of one revision
  at_below : (m n : ℕ) → n < m → slice_get (revisions_below layout folder m) n ≡ Some (revision_files layout folder n)
  at_below zero n lt = absurd (omega (arith, lt))
  at_below (suc m) n lt = ⊎_elim
      (λ e. ap (λ k. slice_get (revisions_below layout folder (suc m)) k) (e ∙ sym (many_below m)) ∙ last (revisions_below layout folder m) (revision_files layout folder m)
      ∙ ap (λ k. Some (revision_files layout folder k)) (sym e))
      (λ ne. before (revisions_below layout folder m) (revision_files layout folder m) n (omega (arith, lt, ne, many_below m)) ∙ at_below m n (omega (arith, lt, ne)))
      (cases_eq n m)
    where
      last : (xs : List RevisionFiles) (x : RevisionFiles) → slice_get (xs ++ x ∷ []) (length xs) ≡ Some x
      last xs x = last_place xs x

      before : (xs : List RevisionFiles) (x : RevisionFiles) (k : ℕ) → k < length xs → slice_get (xs ++ x ∷ []) k ≡ slice_get xs k
      before xs x k lt = other_place xs x k (λ e. omega (arith, e, lt))

  module _ (f : FiledWorld) (files : Files) (is : IsOf f files) (m : ℕ) (count : count_in (text_of (folder Current)) ≡ Some m)
      (are : reached layout folder m ≡ files) where
    abbrev held : Held
    held = f.world.held.value

    bytes_are : revision_bytes files ≡ bytes m
    bytes_are = ap revision_bytes (sym are)

    long : length files.revisions ≡ m
    long = ap (λ (x : Files). length x.revisions) (sym are) ∙ many_below m

    -- each revision comes after those before it
    has_history : (n : ℕ) → n < m → HasHistory (bytes n ++ (revision_files layout folder n).0 ∷ [])
    has_history n lt =
        let h = held_history held f.tables (revision_bytes files) in
        let many : length (revision_bytes files) ≡ m = ap length bytes_are ∙ many_bytes m in (
          first (suc n) h,
          (
            ap (take (suc n)) bytes_are ∙ front_bytes m (suc n) (omega (arith, lt)) ∙ bytes_more n,
            first_history h is.history (suc n) (omega (arith, lt, many)),
          ),
        )

    has_list : (n : ℕ) → n < m → IsSome (result_ok (properties_of (revision_files layout folder n).1))
    has_list n lt =
        subst (λ o. IsSome o) (is.properties n ∙ said_is files n
        ∙ ap (option_and_then (λ (r : RevisionFiles). result_ok (properties_of r.1)))
        (ap (λ (x : Files). slice_get x.revisions n) (sym are) ∙ at_below m n lt))
        (there held.properties n (omega (arith, lt, held.all, is.tabled.listed, is.tabled.all, ap length bytes_are, many_bytes m)))
      where
        there : (xs : List PropertyList) (k : ℕ) → k < length xs → IsSome (slice_get xs k)
        there [] k lt = absurd (omega (arith, lt))
        there (x ∷ xs) zero lt = refl
        there (x ∷ xs) (suc k) lt = there xs k (omega (arith, lt))

    no_fault : IsFaulty folder_faults folder → ⊥
    no_fault = ⊎_elim
        (λ head. head held.uuid f.current (record {
          format = ap (λ (x : Files). option_and_then format_of x.format) are ∙ is.format;
          uuid_is = ap (λ (x : Files). result_ok (uuid_of x.uuid)) are ∙ is.uuid;
          current_is = ap (λ (x : Files). result_ok (current_of f.current.format x.current)) are ∙ is.current_is;
          count = count ∙ ap Some (sym long ∙ sym is.youngest);
        }))
        (⊎_elim
        (λ revision.
        let same : revision.0 ≡ m = same_Some revision.0 m (sym revision.1 ∙ count) in
        faulty_one revision.0 same revision.2)
        (λ locks. none-some is.locked.said (sym locks ∙ ap (λ (x : Files). locks_in x.locks) are ∙ is.locked.read)))
      where
        faulty_one : (k : ℕ) → k ≡ m → HasFaultyRevision folder_faults layout folder k → ⊥
        faulty_one k e faulty = let lt = faulty.1 in
            faulty.2 (has_history faulty.0 (omega (arith, lt, e)), has_list faulty.0 (omega (arith, lt, e)))

pub not_faulty : (f : FiledWorld) (files : Files) (folder : Folder) → IsOf f files → HasFiles files folder → IsFaulty folder_faults folder → ⊥
not_faulty f files folder is has = by (count_in (text_of (folder Current))) refl has
  where
    by : (o : Option ℕ) → count_in (text_of (folder Current)) ≡ o → option_map (reached (layout_in (folder Format)) folder) o ≡ Some files → IsFaulty folder_faults folder → ⊥
    by None count e faulty = none-some files e
    by (Some m) count e faulty = no_fault folder f files is m count (same_Some (reached (layout_in (folder Format)) folder m) files e) faulty

-- so a folder that has them is opened, unless the device or memory fails
pub fails : (fault : StoreFault) (folder : Folder) → IfFaulty fault (IsFaulty folder_faults folder)
    → (c : RepoState) → HasRepository filed_content IsOf c folder → (fault ≡ Device) ⊎ (fault ≡ NoMemory)
fails Device folder is c has = inl refl
fails NoMemory folder is c has = inr refl
fails (File fault) folder is c has = absurd (not_faulty has.repository has.files folder has.of_these has.has is)
fails Halted folder is c has = absurd is
fails Exists folder is c has = absurd is

pub err_gives : {T E : Type 0} {P Q : E → Type 0} (r : Result T E) → ((e : E) → P e → Q e) → IfErr r P → IfErr r Q
err_gives (Ok x) gives is = tt
err_gives (Err e) gives is = gives e is
