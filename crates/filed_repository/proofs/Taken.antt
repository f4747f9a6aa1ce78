-- What is read of the files, revision by revision, is what is held.
use Rattle.std.proofs.Common.{◌≡◌, ℕ, suc, List, [], ◌∷◌, ◌++◌, Option, Some, None, length, map, refl, sym, ap, subst, ◌∙◌, arith, ◌<◌}
use Rattle.std.proofs.{lemmas.List.{length_push, map-append, length-map}, lemmas.Option.same_Some}
use Rattle.std.specs.{Prelude.{option_and_then, slice_get, Result, Ok, Err, IfOk}, FinMap.{get, empty, entries, from_entries, get-empty}, Result.result_ok}
use Rattle.svnpath.specs.Paths.{path_cmp, PathValue}
use Rattle.repo_api.specs.{Histories.{Changed, history_of}, Opening.new_repository, Properties.PropertyList, StateLaws.get_path}
use Rattle.repo_api.specs.{States.{ChangeMap, LockMap, RepoState}, declared.lock.Lock.Lock, declared.limits.TheConstants.REVISION_LIMIT}
use Rattle.noderevs.specs.{Held.blocks_of, declared.node_rev.Block.Block}
use Rattle.shared_revisions.specs.{Contents.state_of, declared.held.Held.Held}
use Rattle.shared_revisions.proofs.Seen.{held_many, held_changes}
use Rattle.repostore.specs.{Current.count_in, Files.Files, Reading.{with_one_more, with_read_locks}}
use Rattle.fsfs_nodes.specs.{Properties.properties_of, declared.current.Current.Current}
use Rattle.filed_trees.specs.{Pieces.RevisionBytes, StandsFor.{locks_in, revision_bytes, revision_properties}, Tables.AreTabled, declared.table.Table.Table}
use Rattle.filed_repository.specs.{Files.{AreFilesOf, AreLocks}, Reading.{SayHead, AreFirst, AreRead, IsNext, so_far, read_history}}
use Rattle.filed_repository.specs.Histories.{ComesNext, IsHistory, held_history, ComesFirst}
use Rattle.filed_repository.proofs.{Changed.{AreSaid, said, said_is, one_more_said}, Listed.looked_up, Histories.{history_more, no_history}}
use Rattle.filed_repository.proofs.Opened.{is_new, one_of}
use Rattle.noderevs.proofs.Pushing.{last_place}

-- ---- before the first revision

no_properties : (files : Files) → files.revisions ≡ [] → (n : ℕ) → None ≡ revision_properties files n
no_properties files none n =
    ap (λ rs. option_and_then said (slice_get rs n)) (sym none) ∙ sym (said_is files n)

pub first_read : (h : Held) (locks : LockMap) (current : Current) (uuid : ℕ) (date : List ℕ)
    (files : Files) → AreTabled [] [] [] [] → state_of h locks ≡ new_repository uuid date
    → AreFirst uuid current files → AreRead h locks [] current files
first_read h locks current uuid date files nothing same first =
    let named : h.uuid ≡ uuid = ap (λ (c : RepoState). c.uuid) same in
    let free : locks ≡ empty = ap (λ (c : RepoState). c.locks) same in
    record {
      head = subst (λ u. SayHead u current files) (sym named) first.head;
      begins = λ e. is_new h locks uuid date same;
      tabled = subst (λ rs. AreTabled (map (λ r. r.0) rs) [] [] []) (sym first.none) nothing;
      history = subst (λ rs. IsHistory (read_history h [] (map (λ r. r.0) rs))) (sym first.none) (no_history nothing);
      properties = no_properties files first.none;
      locked = record {
        said = [];
        read = ap locks_in first.unlocked;
        each = λ p. ap (λ ls. get ls p) free ∙ get-empty path_cmp p;
      };
    }

-- the first revision of a new repository comes next where nothing has been read
pub first_next : (old new : Held) (old_locks new_locks : LockMap) (tables : List Table) (uuid : ℕ)
    (date : List ℕ) → state_of old old_locks ≡ state_of new new_locks
    → state_of new new_locks ≡ new_repository uuid date → tables ≡ []
    → IsNext old tables new × (new_locks ≡ old_locks)
first_next old new old_locks new_locks tables uuid date same is none =
    let changes_many : length new.changes ≡ 1 =
    sym (held_many new) ∙ ap (λ (c : RepoState). length c.revisions) is in
    let change = one_of new.changes changes_many in
    let block = one_of (blocks_of new.nodes) (new.even ∙ changes_many) in (
      subst (λ ts. IsNext old ts new) (sym none) (record {
        uuid = sym (ap (λ (c : RepoState). c.uuid) same);
        block = block.0;
        blocks = block.1;
        change = change.0;
        changes = change.1;
        list = _;
        lists = ap (λ (c : RepoState). c.properties) is;
      }),
      sym (ap (λ (c : RepoState). c.locks) same),
    )

-- ---- one revision more

behind : {X : Type 0} (ts : List Table) (t : Table) (xs : List X) → so_far (ts ++ t ∷ []) xs ≡ xs
behind [] t xs = refl
behind (u ∷ ts) t xs = refl

as_many : {X Y : Type 0} (ts : List Table) (xs : List X) (ys : List Y) → length xs ≡ length ys
    → length (so_far ts xs) ≡ length (so_far ts ys)
as_many [] xs ys same = refl
as_many (t ∷ ts) xs ys same = same

not_empty : (ts : List Table) (t : Table) → ts ++ t ∷ [] ≡ [] → ⊥
not_empty ts t is = let none = ap length is in let some = length_push ts t in omega (arith, none, some)

module _ (h : Held) (locks : LockMap) (tables : List Table) (current : Current) (files : Files)
    (are : AreRead h locks tables current files) (new : Held) (next : IsNext h tables new) where
  many_changes : length (so_far tables h.changes) ≡ length tables
  many_changes = are.tabled.listed ∙ sym are.tabled.tabled

  listed : (new_locks : LockMap) → history_of (state_of new new_locks) (length tables)
      ≡ entries next.change
  listed new_locks =
      held_changes new (length tables) next.change
      (subst (λ n. slice_get new.changes n ≡ Some next.change) many_changes
      (ap (λ cs. slice_get cs (length (so_far tables h.changes))) next.changes
      ∙ last_place (so_far tables h.changes) next.change))

  pub next_tabled : (new_locks : LockMap) (changed : List Changed) (file : List ℕ) (table : Table)
      → changed ≡ history_of (state_of new new_locks) (length tables)
      → ((fs : RevisionBytes) (blocks : List Block) (block : Block) (lists : List ChangeMap)
      (list : ChangeMap) → AreTabled fs blocks tables lists
      → blocks_of new.nodes ≡ blocks ++ block ∷ [] → entries list ≡ changed
      → AreTabled (fs ++ file ∷ []) (blocks ++ block ∷ []) (tables ++ table ∷ []) (lists ++ list ∷ []))
      → AreTabled (revision_bytes files ++ file ∷ []) (blocks_of new.nodes) (tables ++ table ∷ [])
      new.changes
  next_tabled new_locks changed file table is tabled =
      let fs = revision_bytes files in
      let blocks = so_far tables (blocks_of h.nodes) in
      subst (λ bs. AreTabled (fs ++ file ∷ []) bs (tables ++ table ∷ []) new.changes)
      (sym next.blocks)
      (subst (λ cs. AreTabled (fs ++ file ∷ []) (blocks ++ next.block ∷ []) (tables ++ table ∷ []) cs)
      (sym next.changes)
      (tabled fs blocks next.block (so_far tables h.changes) next.change are.tabled next.blocks
      (sym (is ∙ listed new_locks))))

  -- so are the revisions, if it comes next
  pub next_history : (file : List ℕ) (table : Table)
      → AreTabled (revision_bytes files ++ file ∷ []) (blocks_of new.nodes) (tables ++ table ∷ []) new.changes
      → (0 < length (revision_bytes files) → ComesNext (read_history h tables (revision_bytes files)) file next.block next.change)
      → (length (revision_bytes files) ≡ 0 → ComesFirst file next.block next.change) → length (revision_bytes files) < REVISION_LIMIT
      → IsHistory (held_history new (tables ++ table ∷ []) (revision_bytes files ++ file ∷ []))
  next_history file table tabled comes begins room =
      subst IsHistory
      (λ i. record {
        files = revision_bytes files ++ file ∷ [];
        blocks = sym next.blocks i;
        tables = tables ++ table ∷ [];
        changes = sym next.changes i;
      })
      (history_more (read_history h tables (revision_bytes files)) are.history file next.block table next.change
      (subst (λ bs. AreTabled (revision_bytes files ++ file ∷ []) bs (tables ++ table ∷ []) (so_far tables h.changes ++ next.change ∷ []))
      next.blocks (subst (AreTabled (revision_bytes files ++ file ∷ []) (blocks_of new.nodes) (tables ++ table ∷ [])) next.changes tabled))
      comes begins room)

  pub next_read : (new_locks : LockMap) (file properties : List ℕ) (table : Table)
      → new_locks ≡ locks
      → AreTabled (revision_bytes files ++ file ∷ []) (blocks_of new.nodes) (tables ++ table ∷ [])
      new.changes
      → IsHistory (held_history new (tables ++ table ∷ []) (revision_bytes files ++ file ∷ []))
      → ((list : PropertyList) → slice_get new.properties (length tables) ≡ Some list
      → result_ok (properties_of properties) ≡ Some list)
      → AreRead new new_locks (tables ++ table ∷ []) current
      (with_one_more files (file, properties))
  next_read new_locks file properties table same tabled history says =
      let more = with_one_more files (file, properties) in
      let all = tables ++ table ∷ [] in
      let bytes : revision_bytes more ≡ revision_bytes files ++ file ∷ [] =
      map-append (λ r. r.0) files.revisions ((file, properties) ∷ []) in
      let lists = so_far tables h.properties in
      let long : length lists ≡ length (so_far tables h.changes) =
      as_many tables h.properties h.changes h.all in
      let many : length lists ≡ length files.revisions =
      long ∙ are.tabled.listed ∙ sym are.tabled.all ∙ length-map files.revisions (λ r. r.0) in
      let said_last : result_ok (properties_of properties) ≡ Some next.list =
      says next.list (subst (λ n. slice_get new.properties n ≡ Some next.list) (long ∙ many_changes)
      (ap (λ ls. slice_get ls (length lists)) next.lists ∙ last_place lists next.list)) in
      let are_said : AreSaid lists files.revisions = λ n. are.properties n ∙ said_is files n in
      record {
        head = record {
          format = are.head.format;
          uuid_is = are.head.uuid_is ∙ ap Some (sym next.uuid);
          current_is = are.head.current_is;
          count = are.head.count;
        };
        begins = λ is. absurd (not_empty tables table is);
        tabled =
            subst (λ fs. AreTabled fs (so_far all (blocks_of new.nodes)) all (so_far all new.changes))
            (sym bytes)
            (subst (λ bs. AreTabled (revision_bytes files ++ file ∷ []) bs all (so_far all new.changes))
            (sym (behind tables table (blocks_of new.nodes)))
            (subst (λ cs. AreTabled (revision_bytes files ++ file ∷ []) (blocks_of new.nodes) all cs)
            (sym (behind tables table new.changes)) tabled));
        history =
            subst IsHistory
            (λ i. record {
              files = sym bytes i;
              blocks = sym (behind tables table (blocks_of new.nodes)) i;
              tables = all;
              changes = sym (behind tables table new.changes) i;
            })
            history;
        properties = λ n. ap (λ ls. slice_get ls n)
            (behind tables table new.properties ∙ next.lists)
            ∙ one_more_said lists files.revisions next.list (file, properties) many said_last are_said n
            ∙ sym (said_is more n);
        locked = subst (λ ls. AreLocks files.locks ls) (sym same) are.locked;
      }

-- ---- the locks, and the end

pub locks_read : (h : Held) (locks : LockMap) (tables : List Table) (current : Current) (files : Files)
    → AreRead h locks tables current files → (said : List (PathValue × Lock))
    (file : Option (List ℕ)) (new : LockMap) → locks_in file ≡ Some said → new ≡ from_entries said
    → AreRead h new tables current (with_read_locks files file)
locks_read h locks tables current files are said file new is same = record {
  head = record {
    format = are.head.format;
    uuid_is = are.head.uuid_is;
    current_is = are.head.current_is;
    count = are.head.count;
  };
  begins = are.begins;
  tabled = are.tabled;
  history = are.history;
  properties = λ n. are.properties n ∙ said_is files n ∙ sym (said_is (with_read_locks files file) n);
  locked = record {
    said = said;
    read = is;
    each = λ p. ap (λ m. get m p) same ∙ get_path said p ∙ sym (looked_up said p);
  };
}

pub all_read : (h : Held) (locks : LockMap) (tables : List Table) (current : Current) (files : Files)
    → AreRead h locks tables current files
    → count_in files.current ≡ Some (length files.revisions)
    → AreFilesOf h locks tables current files
all_read h locks [] current files are count =
    let none : length files.revisions ≡ 0 =
    sym (length-map files.revisions (λ r. r.0)) ∙ are.tabled.all in
    let some : suc current.youngest ≡ length files.revisions =
    same_Some (suc current.youngest) (length files.revisions) (sym are.head.count ∙ count) in
    absurd (omega (arith, none, some))
all_read h locks (t ∷ ts) current files are count = record {
  format = are.head.format;
  uuid = are.head.uuid_is;
  current_is = are.head.current_is;
  youngest = same_Some (suc current.youngest) (length files.revisions) (sym are.head.count ∙ count);
  tabled = are.tabled;
  history = are.history;
  properties = are.properties;
  locked = are.locked;
}

-- ---- answers

pub ok_then : {T E : Type 0} {P Q : T → Type 0} (r : Result T E) → ((x : T) → P x → Q x)
    → IfOk r P → IfOk r Q
ok_then (Ok x) f p = f x p
ok_then (Err e) f p = p

pub ok_both : {T E : Type 0} {P Q R : T → Type 0} (r : Result T E)
    → ((x : T) → P x → Q x → R x) → IfOk r P → IfOk r Q → IfOk r R
ok_both (Ok x) f p q = f x p q
ok_both (Err e) f p q = p
