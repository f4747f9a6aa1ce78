-- Which files are reached where some of a folder's are changed.
use Rattle.std.proofs.Common.{◌≡◌, refl, sym, ap, ◌∙◌, subst, ◌⊎◌, inl, inr, ℕ, zero, suc, ◌+◌, List, [], ◌∷◌, ◌++◌, Option, Some, None, arith, length}
use Rattle.std.proofs.{Common.{length-append, add-one, cond}, lemmas.Bool.cases_eq, lemmas.Bool.Decides.leb_tells}
use Rattle.std.specs.Prelude.{◌<◌, ◌≤◌, option_map}
use Rattle.store_files.specs.{Folders.{Folder, IsSame, SameBut, text_of}, NameLaws.all_same}
use Rattle.store_files.specs.declared.name.FileName.TheVariants.{Format, Kind, Uuid, Current, Locks, Revision, Properties, RepositoryFormat}
use Rattle.fsfs_text.specs.{Formats.{layout_in, shard_in}, declared.format.Layout.Layout}
use Rattle.repostore.specs.{Current.{count_in, counted, number_in}, Files.{RevisionFiles, Files, revision_name, properties_name, revision_files}}
use Rattle.repostore.specs.Files.{revisions_below, reached, HasFiles, with_revision, with_locks, with_second, with_properties, HasEither}
use Rattle.repostore.specs.{Reading.{read_below, with_one_more}, Saving.HasNext}

pub length-below : (l : Layout) (f : Folder) (n : ℕ) → length (revisions_below l f n) ≡ n
length-below l f zero = refl
length-below l f (suc n) = omega (arith, length-append (revisions_below l f n) (revision_files l f n ∷ []), length-below l f n)

-- what the count and the files say of each other
pub record Opened (f : Folder) (files : Files) : Type 0 where
  pub n : ℕ
  pub count : count_in (text_of (f Current)) ≡ Some n
  pub is : reached (layout_in files.format) f n ≡ files

-- in the layout that the files say
in_layout : (f : Folder) (files : Files) (n : ℕ) → reached (layout_in (f Format)) f n ≡ files → reached (layout_in files.format) f n ≡ files
in_layout f files n is = ap (λ (o : Option (List ℕ)). reached (layout_in o) f n) (sym (ap (λ (x : Files). x.format) is)) ∙ is

opened_at : (f : Folder) (files : Files) (c : Option ℕ) → count_in (text_of (f Current)) ≡ c → option_map (reached (layout_in (f Format)) f) c ≡ Some files → Opened f files
opened_at f files None e h = absurd (cc)
opened_at f files (Some n) e h = let is : reached (layout_in (f Format)) f n ≡ files = cc in record { n = n; count = e; is = in_layout f files n is }

pub opened : (f : Folder) (files : Files) → HasFiles files f → Opened f files
opened f files h = opened_at f files (count_in (text_of (f Current))) refl h

pub closed : (f : Folder) (files : Files) (n : ℕ) → count_in (text_of (f Current)) ≡ Some n → reached (layout_in files.format) f n ≡ files → HasFiles files f
closed f files n count is =
    ap (option_map (reached (layout_in (f Format)) f)) count
    ∙ ap (λ (x : Files). Some x) (ap (λ (o : Option (List ℕ)). reached (layout_in o) f n) (ap (λ (x : Files). x.format) is) ∙ is)

-- the files say the format that the folder has
pub format_is : (f : Folder) (files : Files) → HasFiles files f → f Format ≡ files.format
format_is f files has =
    let o : Opened f files = opened f files has in
    ap (λ (x : Files). x.format) o.is

-- there are as many revisions as `current` says
pub as_many : (f : Folder) (files : Files) (o : Opened f files) → o.n ≡ length files.revisions
as_many f files o = sym (length-below (layout_in files.format) f o.n) ∙ ap (λ (x : Files). length x.revisions) o.is

pub below_same : (l : Layout) (d f : Folder) (n : ℕ) → ((k : ℕ) → k < n → revision_files l f k ≡ revision_files l d k) → revisions_below l f n ≡ revisions_below l d n
below_same l d f zero same = refl
below_same l d f (suc n) same =
    let first : revisions_below l f n ≡ revisions_below l d n = below_same l d f n (λ k lt. same k (omega (arith, lt))) in
    let last : revision_files l f n ≡ revision_files l d n = same n (omega arith) in
    λ i. first i ++ last i ∷ []

-- the same files are reached where those that are reached are the same
pub reached_same : (l : Layout) (d f : Folder) (n : ℕ) → f Format ≡ d Format → f Uuid ≡ d Uuid → f Current ≡ d Current → f Locks ≡ d Locks
    → ((k : ℕ) → k < n → revision_files l f k ≡ revision_files l d k) → reached l f n ≡ reached l d n
reached_same l d f n format uuid current locks same =
    let revisions : revisions_below l f n ≡ revisions_below l d n = below_same l d f n same in
    λ i. record { format = format i; uuid = text_of (uuid i); current = text_of (current i); revisions = revisions i; locks = locks i }

-- a file behind the revisions does not matter
pub behind_revision : (d f : Folder) (files : Files) (s : Option ℕ) (m : ℕ) → length files.revisions ≤ m → SameBut (Revision s m) d f → HasFiles files d → HasFiles files f
behind_revision d f files s m le same has =
    let l = layout_in files.format in
    let o : Opened d files = opened d files has in
    let many : o.n ≡ length files.revisions = as_many d files o in
    let current : f Current ≡ d Current = same Current (λ e. cc) in
    let below : (k : ℕ) → k < o.n → revision_files l f k ≡ revision_files l d k = λ k lt.
    (let text : f (revision_name l k) ≡ d (revision_name l k) = same (revision_name l k) (λ e. let is : k ≡ m = cc in omega (arith, many, le, lt, is)) in
    let properties : f (properties_name l k) ≡ d (properties_name l k) = same (properties_name l k) (λ e. cc) in
    λ i. (text_of (text i), text_of (properties i))) in
    closed f files o.n (ap (λ (x : Option (List ℕ)). count_in (text_of x)) current ∙ o.count)
    (reached_same l d f o.n (same Format (λ e. cc)) (same Uuid (λ e. cc)) current (same Locks (λ e. cc)) below ∙ o.is)

pub behind_properties : (d f : Folder) (files : Files) (s : Option ℕ) (m : ℕ) → length files.revisions ≤ m → SameBut (Properties s m) d f → HasFiles files d → HasFiles files f
behind_properties d f files s m le same has =
    let l = layout_in files.format in
    let o : Opened d files = opened d files has in
    let many : o.n ≡ length files.revisions = as_many d files o in
    let current : f Current ≡ d Current = same Current (λ e. cc) in
    let below : (k : ℕ) → k < o.n → revision_files l f k ≡ revision_files l d k = λ k lt.
    (let text : f (revision_name l k) ≡ d (revision_name l k) = same (revision_name l k) (λ e. cc) in
    let properties : f (properties_name l k) ≡ d (properties_name l k) = same (properties_name l k) (λ e. let is : k ≡ m = cc in omega (arith, many, le, lt, is)) in
    λ i. (text_of (text i), text_of (properties i))) in
    closed f files o.n (ap (λ (x : Option (List ℕ)). count_in (text_of x)) current ∙ o.count)
    (reached_same l d f o.n (same Format (λ e. cc)) (same Uuid (λ e. cc)) current (same Locks (λ e. cc)) below ∙ o.is)

-- folders that are the same have the same files
pub same_files : (files : Files) (d f : Folder) → IsSame d f → HasFiles files d → HasFiles files f
same_files files d f same has = subst (λ (x : Folder). HasFiles files x) (λ i n. sym (same n) i) has

-- `current` is replaced, and the next revision is reached
pub published : (files : Files) (n : ℕ) (revision properties current : List ℕ) → length files.revisions ≡ n → count_in current ≡ Some (n + 1)
    → (d f : Folder) → SameBut Current d f → HasNext files n revision properties d → f Current ≡ Some current → HasFiles (with_revision files (revision, properties) current) f
published files n revision properties current many count d f same next is =
    let l = layout_in files.format in
    let o : Opened d files = opened d files next.files_are in
    let at : o.n ≡ n = as_many d files o ∙ many in
    let text : f (revision_name l n) ≡ Some revision = same (revision_name l n) (λ e. cc) ∙ next.revision_is in
    let values : f (properties_name l n) ≡ Some properties = same (properties_name l n) (λ e. cc) ∙ next.properties_are in
    let below : revisions_below l f n ≡ files.revisions =
    below_same l d f n (λ k lt. λ i. (text_of (same (revision_name l k) (λ e. cc) i), text_of (same (properties_name l k) (λ e. cc) i)))
    ∙ ap (revisions_below l d) (sym at) ∙ ap (λ (x : Files). x.revisions) o.is in
    let format : f Format ≡ files.format = same Format (λ e. cc) ∙ ap (λ (x : Files). x.format) o.is in
    let uuid : text_of (f Uuid) ≡ files.uuid = ap text_of (same Uuid (λ e. cc)) ∙ ap (λ (x : Files). x.uuid) o.is in
    let locks : f Locks ≡ files.locks = same Locks (λ e. cc) ∙ ap (λ (x : Files). x.locks) o.is in
    closed f (with_revision files (revision, properties) current) (suc n)
    (ap (λ (x : Option (List ℕ)). count_in (text_of x)) is ∙ count ∙ ap (λ (m : ℕ). Some m) (add-one n))
    (λ i. record { format = format i; uuid = uuid i; current = text_of (is i); revisions = below i ++ (text_of (text i), text_of (values i)) ∷ []; locks = locks i })

-- `current` may be replaced, or not
pub publishing : (files : Files) (n : ℕ) (revision properties current : List ℕ) → length files.revisions ≡ n → count_in current ≡ Some (n + 1)
    → (d f : Folder) → SameBut Current d f → HasNext files n revision properties d → (f Current ≡ d Current) ⊎ (f Current ≡ Some current)
    → HasEither files (with_revision files (revision, properties) current) f
publishing files n revision properties current many count d f same next (inr new) =
    inr (published files n revision properties current many count d f same next new)
publishing files n revision properties current many count d f same next (inl old) =
    inl (same_files files d f (all_same d f Current same old) next.files_are)

-- the locks are replaced
pub locks_are : (files : Files) (locks : List ℕ) (d f : Folder) → SameBut Locks d f → HasFiles files d → f Locks ≡ Some locks → HasFiles (with_locks files locks) f
locks_are files locks d f same has is =
    let l = layout_in files.format in
    let o : Opened d files = opened d files has in
    let current : f Current ≡ d Current = same Current (λ e. cc) in
    let below : revisions_below l f o.n ≡ revisions_below l d o.n =
    below_same l d f o.n (λ k lt. λ i. (text_of (same (revision_name l k) (λ e. cc) i), text_of (same (properties_name l k) (λ e. cc) i))) in
    let format = same Format (λ e. cc) in
    let uuid = same Uuid (λ e. cc) in
    let all : reached l f o.n ≡ record (reached l d o.n) { locks = Some locks } =
    λ i. record { format = format i; uuid = text_of (uuid i); current = text_of (current i); revisions = below i; locks = is i } in
    closed f (with_locks files locks) o.n (ap (λ (x : Option (List ℕ)). count_in (text_of x)) current ∙ o.count)
    (all ∙ ap (λ (x : Files). with_locks x locks) o.is)

pub locks_may_be : (files : Files) (locks : List ℕ) (d f : Folder) → SameBut Locks d f → HasFiles files d → (f Locks ≡ d Locks) ⊎ (f Locks ≡ Some locks)
    → HasEither files (with_locks files locks) f
locks_may_be files locks d f same has (inl old) = inl (same_files files d f (all_same d f Locks same old) has)
locks_may_be files locks d f same has (inr new) = inr (locks_are files locks d f same has new)

second-append : (rs : List RevisionFiles) (r : RevisionFiles) (m : ℕ) (bytes : List ℕ) → m < length rs → with_second (rs ++ r ∷ []) m bytes ≡ with_second rs m bytes ++ r ∷ []
second-append [] r m bytes lt = absurd (omega (arith, lt))
second-append (x ∷ rs) r zero bytes lt = refl
second-append (x ∷ rs) r (suc m) bytes lt = ap (λ (l : List RevisionFiles). x ∷ l) (second-append rs r m bytes (omega (arith, lt)))

second-last : (rs : List RevisionFiles) (r : RevisionFiles) (m : ℕ) (bytes : List ℕ) → m ≡ length rs → with_second (rs ++ r ∷ []) m bytes ≡ rs ++ (r.0, bytes) ∷ []
second-last [] r zero bytes e = refl
second-last [] r (suc m) bytes e = absurd (omega (arith, e))
second-last (x ∷ rs) r zero bytes e = absurd (omega (arith, e))
second-last (x ∷ rs) r (suc m) bytes e = ap (λ (l : List RevisionFiles). x ∷ l) (second-last rs r m bytes (omega (arith, e)))

below_second : (l : Layout) (d f : Folder) (m : ℕ) (bytes : List ℕ) → SameBut (properties_name l m) d f → f (properties_name l m) ≡ Some bytes
    → (n : ℕ) → m < n → revisions_below l f n ≡ with_second (revisions_below l d n) m bytes
below_second l d f m bytes same is zero lt = absurd (omega (arith, lt))
below_second l d f m bytes same is (suc n) lt = elim (cases_eq m n) [
  | inl e ↦
      let front : revisions_below l f n ≡ revisions_below l d n = below_same l d f n (λ k less. λ i. (text_of (same (revision_name l k) (λ x. cc) i), text_of (same (properties_name l k) (λ x. let at : k ≡ m = cc in omega (arith, at, e, less)) i))) in
      let last : revision_files l f n ≡ (text_of (d (revision_name l n)), bytes) =
      λ i. (text_of (same (revision_name l n) (λ x. cc) i), text_of ((ap (λ k. f (properties_name l k)) (sym e) ∙ is) i)) in
      (λ i. front i ++ last i ∷ []) ∙ sym (second-last (revisions_below l d n) (revision_files l d n) m bytes (e ∙ sym (length-below l d n)))
  | inr other ↦
      let front : revisions_below l f n ≡ with_second (revisions_below l d n) m bytes = below_second l d f m bytes same is n (omega (arith, lt, other)) in
      let last : revision_files l f n ≡ revision_files l d n =
      λ i. (text_of (same (revision_name l n) (λ x. cc) i), text_of (same (properties_name l n) (λ x. let at : n ≡ m = cc in other (sym at)) i)) in
      (λ i. front i ++ last i ∷ []) ∙ sym (second-append (revisions_below l d n) (revision_files l d n) m bytes (omega (arith, lt, other, length-below l d n)))
]

-- the properties of a revision that is there are replaced
pub properties_are : (files : Files) (m : ℕ) (bytes : List ℕ) → m < length files.revisions → (d f : Folder) → SameBut (properties_name (layout_in files.format) m) d f → HasFiles files d → f (properties_name (layout_in files.format) m) ≡ Some bytes
    → HasFiles (with_properties files m bytes) f
properties_are files m bytes lt d f same has is =
    let l = layout_in files.format in
    let o : Opened d files = opened d files has in
    let many : o.n ≡ length files.revisions = as_many d files o in
    let current : f Current ≡ d Current = same Current (λ e. cc) in
    let below : revisions_below l f o.n ≡ with_second (revisions_below l d o.n) m bytes = below_second l d f m bytes same is o.n (omega (arith, lt, many)) in
    let format = same Format (λ e. cc) in
    let uuid = same Uuid (λ e. cc) in
    let locks = same Locks (λ e. cc) in
    let all : reached l f o.n ≡ with_properties (reached l d o.n) m bytes =
    λ i. record { format = format i; uuid = text_of (uuid i); current = text_of (current i); revisions = below i; locks = locks i } in
    closed f (with_properties files m bytes) o.n (ap (λ (x : Option (List ℕ)). count_in (text_of x)) current ∙ o.count)
    (all ∙ ap (λ (x : Files). with_properties x m bytes) o.is)

pub properties_may_be : (files : Files) (m : ℕ) (bytes : List ℕ) → m < length files.revisions → (d f : Folder) → SameBut (properties_name (layout_in files.format) m) d f → HasFiles files d
    → (f (properties_name (layout_in files.format) m) ≡ d (properties_name (layout_in files.format) m)) ⊎ (f (properties_name (layout_in files.format) m) ≡ Some bytes) → HasEither files (with_properties files m bytes) f
properties_may_be files m bytes lt d f same has (inl old) = inl (same_files files d f (all_same d f (properties_name (layout_in files.format) m) same old) has)
properties_may_be files m bytes lt d f same has (inr new) = inr (properties_are files m bytes lt d f same has new)

pub length-second : (rs : List RevisionFiles) (m : ℕ) (bytes : List ℕ) → length (with_second rs m bytes) ≡ length rs
length-second [] m bytes = refl
length-second (r ∷ rs) zero bytes = refl
length-second (r ∷ rs) (suc m) bytes = ap (λ n. suc n) (length-second rs m bytes)

-- the next revision's files are written, and are not reached
pub next_is : (files : Files) (n : ℕ) (revision properties : List ℕ) (f : Folder) → HasFiles files f × (f (revision_name (layout_in files.format) n) ≡ Some revision) → f (properties_name (layout_in files.format) n) ≡ Some properties → HasNext files n revision properties f
next_is files n revision properties f has values = record { files_are = has.0; revision_is = has.1; properties_are = values }

pub behind_properties_too : (d f : Folder) (files : Files) (r s : Option ℕ) (m : ℕ) (revision : List ℕ) → length files.revisions ≤ m → SameBut (Properties s m) d f → HasFiles files d × (d (Revision r m) ≡ Some revision)
    → HasFiles files f × (f (Revision r m) ≡ Some revision)
behind_properties_too d f files r s m revision le same has = (behind_properties d f files s m le same has.0, same (Revision r m) (λ e. cc) ∙ has.1)

pub same_revision_files : (l : Layout) (d f : Folder) (n : ℕ) → IsSame d f → revision_files l f n ≡ revision_files l d n
same_revision_files l d f n same = λ i. (text_of (same (revision_name l n) i), text_of (same (properties_name l n) i))

-- folders that are the same are one
pub are_one : (d f : Folder) → IsSame d f → f ≡ d
are_one d f same i name = same name i

-- one more revision behind those below a number
pub read_more : (l : Layout) (d f : Folder) (n : ℕ) → IsSame d f
    → with_one_more (read_below l d n) (revision_files l f n) ≡ read_below l d (n + 1)
read_more l d f n same =
    ap (with_one_more (read_below l d n)) (same_revision_files l d f n same)
    ∙ ap (read_below l d) (sym (add-one n))

-- the files that are reached are those of the folder
pub reached_has : (f : Folder) (n : ℕ) → count_in (text_of (f Current)) ≡ Some n → HasFiles (reached (layout_in (f Format)) f n) f
reached_has f n count = closed f (reached (layout_in (f Format)) f n) n count refl

-- `current` says how many revisions a folder's files have
pub counted_in : (f : Folder) (files : Files) → HasFiles files f → count_in (text_of (f Current)) ≡ Some (length files.revisions)
counted_in f files has =
    let o : Opened f files = opened f files has in
    o.count ∙ ap (λ (m : ℕ). Some m) (as_many f files o)

pub has_count : (f : Folder) (files : Files) → HasFiles files f → count_in files.current ≡ Some (length files.revisions)
has_count f files has =
    let o : Opened f files = opened f files has in
    ap (λ (x : Files). count_in x.current) (sym o.is) ∙ counted_in f files has

pub is_length : (f : Folder) (files : Files) (n : ℕ) → HasFiles files f → count_in (text_of (f Current)) ≡ Some n → n ≡ length files.revisions
is_length f files n has count = let is : Some n ≡ Some (length files.revisions) = sym count ∙ counted_in f files has in cc

few : (o : Option ℕ) (n : ℕ) → counted o ≡ Some (n + 1) → n ≤ 262143
few None n e = absurd (cc)
few (Some m) n e = elim (leb_tells m 262143) [
  | inl small ↦ let is : m + 1 ≡ n + 1 = some_is (m + 1) (n + 1) (sym (ap (λ b. cond b (Some (m + 1)) None) small.0) ∙ e) in omega (arith, is, small.1)
  | inr large ↦ absurd (none_is (n + 1) (sym (ap (λ b. cond b (Some (m + 1)) None) large.0) ∙ e))
]
  where
    some_is : (a b : ℕ) → Some a ≡ Some b → a ≡ b
    some_is a b h = cc

    none_is : (b : ℕ) → None ≡ Some b → ⊥
    none_is b h = cc

-- a count is within the limit of revisions
pub counts_few : (current : List ℕ) (n : ℕ) → count_in current ≡ Some (n + 1) → n ≤ 262143
counts_few current n e = few (number_in current) n e

-- what is there once the files of a new repository are written
pub created : (start f0 f1 f2 f3 f4 f5 f6 : Folder) (shard : Option ℕ) (format uuid revision properties current : List ℕ) → shard ≡ shard_in (layout_in (Some format)) 0 → count_in current ≡ Some 1
    → SameBut RepositoryFormat start f0 → SameBut Kind f0 f1 → SameBut Uuid f1 f2 → SameBut (Revision shard 0) f2 f3 → SameBut (Properties shard 0) f3 f4 → SameBut Current f4 f5 → SameBut Format f5 f6
    → f2 Uuid ≡ Some uuid → f3 (Revision shard 0) ≡ Some revision → f4 (Properties shard 0) ≡ Some properties → f5 Current ≡ Some current → f6 Format ≡ Some format
    → HasFiles (record { format = Some format; uuid = uuid; current = current; revisions = (revision, properties) ∷ []; locks = start Locks }) f6
created start f0 f1 f2 f3 f4 f5 f6 shard format uuid revision properties current is_shard count s0 s1 s2 s3 s4 s5 s6 u r p c f =
    let locks : f6 Locks ≡ start Locks = s6 Locks (λ e. cc) ∙ s5 Locks (λ e. cc) ∙ s4 Locks (λ e. cc) ∙ s3 Locks (λ e. cc) ∙ s2 Locks (λ e. cc) ∙ s1 Locks (λ e. cc) ∙ s0 Locks (λ e. cc) in
    let u6 : f6 Uuid ≡ Some uuid = s6 Uuid (λ e. cc) ∙ s5 Uuid (λ e. cc) ∙ s4 Uuid (λ e. cc) ∙ s3 Uuid (λ e. cc) ∙ u in
    let r6 : f6 (revision_name (layout_in (Some format)) 0) ≡ Some revision = ap (λ (x : Option ℕ). f6 (Revision x 0)) (sym is_shard) ∙ s6 (Revision shard 0) (λ e. cc) ∙ s5 (Revision shard 0) (λ e. cc) ∙ s4 (Revision shard 0) (λ e. cc) ∙ r in
    let p6 : f6 (properties_name (layout_in (Some format)) 0) ≡ Some properties = ap (λ (x : Option ℕ). f6 (Properties x 0)) (sym is_shard) ∙ s6 (Properties shard 0) (λ e. cc) ∙ s5 (Properties shard 0) (λ e. cc) ∙ p in
    let c6 : f6 Current ≡ Some current = s6 Current (λ e. cc) ∙ c in
    closed f6 _ 1 (ap (λ (x : Option (List ℕ)). count_in (text_of x)) c6 ∙ count)
    (λ i. record { format = f i; uuid = text_of (u6 i); current = text_of (c6 i); revisions = (text_of (r6 i), text_of (p6 i)) ∷ []; locks = locks i })
