-- The files behind a change are those of the repository behind it.
use Rattle.std.proofs.Common.{◌≡◌, ◌<◌, ℕ, zero, suc, List, [], ◌∷◌, ◌++◌, Option, Some, None, length, map, refl, sym, ap, subst, ◌∙◌, arith}
use Rattle.std.proofs.{lemmas.Bool.false≢true, lemmas.Option.same_Some, lemmas.List.{length_push, map-append, length-map, length-set}}
use Rattle.std.specs.{Prelude.{option_and_then, is_some, slice_get, slice_set}, Result.result_ok}
use Rattle.repo_api.specs.{Properties.PropertyList, States.LockMap}
use Rattle.noderevs.specs.Held.{blocks_of}
use Rattle.shared_revisions.specs.{Growing.HasSame, declared.held.Held.Held}
use Rattle.repostore.specs.Files.{Files, RevisionFiles, with_locks, with_properties, with_revision, with_second}
use Rattle.fsfs_nodes.specs.{Current.current_of, Properties.properties_of, declared.current.Current.Current}
use Rattle.filed_trees.specs.{StandsFor.{revision_bytes, revision_properties}, Tables.AreTabled, declared.table.Table.Table}
use Rattle.filed_repository.specs.{Histories.{IsHistory, held_history}, Files.{AreFilesOf, AreLocks, HasOneMoreList, HasOtherList}}

-- ---- properties, revision by revision

abbrev pub said : RevisionFiles → Option PropertyList
said r = result_ok (properties_of r.1)

abbrev pub AreSaid : List PropertyList → List RevisionFiles → Type 0
AreSaid lists revisions = (n : ℕ) → slice_get lists n ≡ option_and_then said (slice_get revisions n)

pub said_is : (files : Files) (n : ℕ)
    → revision_properties files n ≡ option_and_then said (slice_get files.revisions n)
unfolding revision_properties
said_is files n = refl

none_is_some : {X : Type 0} {x : X} → None ≡ Some x → ⊥
none_is_some is = absurd (false≢true (ap is_some is))

pub one_more_said : (lists : List PropertyList) (revisions : List RevisionFiles) (list : PropertyList)
    (new : RevisionFiles) → length lists ≡ length revisions → said new ≡ Some list
    → AreSaid lists revisions → AreSaid (lists ++ list ∷ []) (revisions ++ new ∷ [])
one_more_said [] [] list new many is are zero = sym is
one_more_said [] [] list new many is are (suc n) = refl
one_more_said [] (r ∷ rs) list new many is are n = absurd (omega (arith, many))
one_more_said (l ∷ ls) [] list new many is are n = absurd (omega (arith, many))
one_more_said (l ∷ ls) (r ∷ rs) list new many is are zero = are zero
one_more_said (l ∷ ls) (r ∷ rs) list new many is are (suc n) =
    one_more_said ls rs list new (omega (arith, many)) is (λ k. are (suc k)) n

other_said : (lists : List PropertyList) (revisions : List RevisionFiles) (k : ℕ)
    (list : PropertyList) (bytes : List ℕ) → result_ok (properties_of bytes) ≡ Some list
    → length lists ≡ length revisions → AreSaid lists revisions
    → AreSaid (slice_set lists k list) (with_second revisions k bytes)
other_said [] [] k list bytes is many are n = refl
other_said [] (r ∷ rs) k list bytes is many are n = absurd (omega (arith, many))
other_said (l ∷ ls) [] k list bytes is many are n = absurd (omega (arith, many))
other_said (l ∷ ls) (r ∷ rs) zero list bytes is many are zero = sym is
other_said (l ∷ ls) (r ∷ rs) zero list bytes is many are (suc n) = are (suc n)
other_said (l ∷ ls) (r ∷ rs) (suc k) list bytes is many are zero = are zero
other_said (l ∷ ls) (r ∷ rs) (suc k) list bytes is many are (suc n) =
    other_said ls rs k list bytes is (omega (arith, many)) (λ m. are (suc m)) n

same_first : (revisions : List RevisionFiles) (k : ℕ) (bytes : List ℕ)
    → map (λ r. r.0) (with_second revisions k bytes) ≡ map (λ r. r.0) revisions
same_first [] k bytes = refl
same_first (r ∷ rs) zero bytes = refl
same_first (r ∷ rs) (suc k) bytes = ap (λ l. r.0 ∷ l) (same_first rs k bytes)

same_length : (revisions : List RevisionFiles) (k : ℕ) (bytes : List ℕ)
    → length (with_second revisions k bytes) ≡ length revisions
same_length [] k bytes = refl
same_length (r ∷ rs) zero bytes = refl
same_length (r ∷ rs) (suc k) bytes = ap suc (same_length rs k bytes)

place_within : {X : Type 0} (xs : List X) (k : ℕ) (x : X) → slice_get xs k ≡ Some x → k < length xs
place_within [] k x is = absurd (none_is_some is)
place_within (y ∷ ys) zero x is = omega arith
place_within (y ∷ ys) (suc k) x is =
    let less : k < length ys = place_within ys k x is in omega (arith, less)

set_there : {X : Type 0} (xs : List X) (k : ℕ) (x y : X) → slice_get (slice_set xs k x) k ≡ Some y
    → x ≡ y
set_there [] k x y is = absurd (none_is_some is)
set_there (z ∷ zs) zero x y is = same_Some x y is
set_there (z ∷ zs) (suc k) x y is = set_there zs k x y is

last_is : {X : Type 0} (xs : List X) (x y : X) → slice_get (xs ++ x ∷ []) (length xs) ≡ Some y → x ≡ y
last_is [] x y is = same_Some x y is
last_is (z ∷ zs) x y is = last_is zs x y is

-- ---- as many of each

module _ (h : Held) (locks : LockMap) (tables : List Table) (current : Current) (files : Files)
    (are : AreFilesOf h locks tables current files) where
  many_blocks : length files.revisions ≡ length (blocks_of h.nodes)
  many_blocks = sym (length-map files.revisions (λ r. r.0)) ∙ are.tabled.all

  pub many_tables : length tables ≡ length files.revisions
  many_tables = are.tabled.tabled ∙ sym many_blocks

  many_lists : length h.properties ≡ length files.revisions
  many_lists = h.all ∙ sym h.even ∙ sym many_blocks

  are_said : AreSaid h.properties files.revisions
  are_said n = are.properties n ∙ said_is files n

  pub locks_changed : (new : LockMap) (bytes : List ℕ) → AreLocks (Some bytes) new
      → AreFilesOf h new tables current (with_locks files bytes)
  locks_changed new bytes locked = record {
    format = are.format;
    uuid = are.uuid;
    current_is = are.current_is;
    youngest = are.youngest;
    tabled = are.tabled;
    history = are.history;
    properties = λ n. are_said n ∙ sym (said_is (with_locks files bytes) n);
    locked = locked;
  }

  pub properties_changed : (new : Held) (k : ℕ) (list : PropertyList) (bytes : List ℕ)
      → HasSame h new → new.uuid ≡ h.uuid → HasOtherList h new k
      → slice_get new.properties k ≡ Some list → result_ok (properties_of bytes) ≡ Some list
      → AreFilesOf new locks tables current (with_properties files k bytes)
      × (k < length files.revisions)
  properties_changed new k list bytes same uuid other at is =
      let more = with_properties files k bytes in
      let first : revision_bytes more ≡ revision_bytes files = same_first files.revisions k bytes in
      let there : slice_get (slice_set h.properties k other.list) k ≡ Some list =
      ap (λ ls. slice_get ls k) (sym other.lists) ∙ at in
      let said_now : result_ok (properties_of bytes) ≡ Some other.list =
      is ∙ ap Some (sym (set_there h.properties k other.list list there)) in
      let within : k < length files.revisions =
      subst (λ n. k < n) (length-set h.properties k other.list ∙ many_lists)
      (place_within (slice_set h.properties k other.list) k list there) in (
        record {
          format = are.format;
          uuid = are.uuid ∙ ap Some (sym uuid);
          current_is = are.current_is;
          youngest = are.youngest ∙ sym (same_length files.revisions k bytes);
          tabled =
              subst (λ bs. AreTabled (revision_bytes more) bs tables new.changes) (sym same.blocks)
              (subst (λ cs. AreTabled (revision_bytes more) (blocks_of h.nodes) tables cs)
              (sym same.changes)
              (subst (λ fs. AreTabled fs (blocks_of h.nodes) tables h.changes) (sym first) are.tabled));
          history =
              subst IsHistory
              (λ i. record { files = sym first i; blocks = sym same.blocks i; tables = tables; changes = sym same.changes i })
              are.history;
          properties = λ n. ap (λ ls. slice_get ls n) other.lists
              ∙ other_said h.properties files.revisions k other.list bytes said_now many_lists are_said n
              ∙ sym (said_is more n);
          locked = are.locked;
        },
        within,
      )

  pub revision_added : (new : Held) (list : PropertyList) (table : Table)
      (next : Current) (file properties said_now : List ℕ)
      → new.uuid ≡ h.uuid → HasOneMoreList h new
      → slice_get new.properties (length h.changes) ≡ Some list
      → AreTabled (revision_bytes files ++ file ∷ []) (blocks_of new.nodes) (tables ++ table ∷ [])
      new.changes
      → IsHistory (held_history new (tables ++ table ∷ []) (revision_bytes files ++ file ∷ []))
      → result_ok (properties_of properties) ≡ Some list
      → next.format ≡ current.format
      → result_ok (current_of next.format said_now) ≡ Some next → next.youngest ≡ length tables
      → AreFilesOf new locks (tables ++ table ∷ []) next
      (with_revision files (file, properties) said_now)
  revision_added new list table next file properties said_now uuid more at tabled history is same says young =
      let added = with_revision files (file, properties) said_now in
      let bytes : revision_bytes added ≡ revision_bytes files ++ file ∷ [] =
      map-append (λ r. r.0) files.revisions ((file, properties) ∷ []) in
      let count = many_tables in
      let last : slice_get (h.properties ++ more.list ∷ []) (length h.properties) ≡ Some list =
      ap (λ n. slice_get (h.properties ++ more.list ∷ []) n) h.all
      ∙ ap (λ ls. slice_get ls (length h.changes)) (sym more.lists) ∙ at in
      let said_list : said (file, properties) ≡ Some more.list =
      is ∙ ap Some (sym (last_is h.properties more.list list last)) in
      let long = length_push files.revisions (file, properties) in
      record {
        format = are.format ∙ ap Some (sym same);
        uuid = are.uuid ∙ ap Some (sym uuid);
        current_is = says;
        youngest = omega (arith, young, count, long);
        tabled =
            subst (λ fs. AreTabled fs (blocks_of new.nodes) (tables ++ table ∷ []) new.changes)
            (sym bytes) tabled;
        history = subst (λ fs. IsHistory (held_history new (tables ++ table ∷ []) fs)) (sym bytes) history;
        properties = λ n. ap (λ ls. slice_get ls n) more.lists
            ∙ one_more_said h.properties files.revisions more.list (file, properties) many_lists
            said_list are_said n
            ∙ sym (said_is added n);
        locked = are.locked;
      }
