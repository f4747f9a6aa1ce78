-- Entries that are listed in the order of their names.
use Rattle.std.proofs.Common.{◌≡◌, ◌+◌, ◌<◌, ℕ, zero, suc, Bool, true, false, ◌&&◌, cond, List, [], ◌∷◌, ◌++◌, map, length, get_or, Option, Some, None}
use Rattle.std.proofs.{Common.{option_map, refl, sym, ap, subst, arith, ⊎_elim, ◌∙◌}, lemmas.Bool.{cases_lt, false≢true}, lemmas.Cmp.nat_list_cmp_total}
use Rattle.std.proofs.lemmas.List.{get_or-map, length-map, map-append}
use Rattle.std.proofs.lemmas.Map.Keys.{IsDistinct-from_sorted, Less-from_sorted, apart_from_distinct, sorted_from_all_adjacent}
use Rattle.std.proofs.lemmas.Option.{none-some, same_Some, slice_get-get_or, slice_get_within, get_or_from_slice_get}
use Rattle.std.specs.{Bool.Decides, Borrow.Bor, FinMap.{find, entries, get-entries}, FinMap.Entries.{is_sorted, below_all}}
use Rattle.std.specs.{List.{AllByRecursion, IsAllAdjacentAnswer}, List.Sorted.IsStrictlySortedBy, Map.keys_of, Ordering.{eq_by_cmp, is_lt}}
use Rattle.std.specs.{Prelude.{All, IfSome, IsSomeAnd, slice_get, T, Result, Ok, Err}, Result.result_ok, declared.cmp.Ordering.Ordering}
use Rattle.std.specs.{declared.cmp.Ordering.TheVariants.{Less, Equal, Greater}, Cmp.eq_by_cmp_equiv, Cmp.Lexicographic.texts_ties, Option.option_and_then}
use Rattle.svnpath.specs.{PathLaws.{same_component_is, same_component_refl}, Paths.{Component, same_component}}
use Rattle.shared_map.specs.{Entries.by_bytes, Rows.row_entries}
use Rattle.noderevs.specs.{Nodes.Kids, declared.node_rev.NodeId.NodeId}
use Rattle.fsfs_text.specs.{declared.fault.FileFault.FileFault, Maybe.◌>>=◌, declared.id.FileId.FileId, declared.representation.Representation.Representation}
use Rattle.fsfs_nodes.specs.{Entries.entries_of, declared.entries.DirectoryEntry.DirectoryEntry}
use Rattle.filed_trees.specs.{Pieces.{RevisionBytes, body_at_line, entry_named}, Comparing.{AreAt, AreNodesOf, HasEntries}, Tables.IsAt}
use Rattle.filed_trees.specs.{Readable.{AreEntries, AreOnce, HasPlaced, IsTabled, ReadsWhere}, declared.placed.Placed.Placed, declared.table.Table.Table}
use Rattle.filed_trees.proofs.Judged.{no_part}

abbrev names : List DirectoryEntry → List Component
names = map (λ e. e.name)

-- ---- where names rise

is_less : (o : Ordering) → is_lt o ≡ true → o ≡ Less
is_less Less below = refl
is_less Equal below = absurd (false≢true below)
is_less Greater below = absurd (false≢true below)

side_by_side : (es : List DirectoryEntry) (e : DirectoryEntry) (k : ℕ) → k + 1 < length es
    → is_lt (by_bytes (get_or (names es) k e.name) (get_or (names es) (k + 1) e.name))
    ≡ is_lt (by_bytes (get_or es k e).name (get_or es (k + 1) e).name)
side_by_side es e k here =
    let x_is : get_or (names es) k e.name ≡ (get_or es k e).name = get_or-map (λ (d : DirectoryEntry). d.name) es k e e.name (omega (arith, here)) in
    let y_is : get_or (names es) (k + 1) e.name ≡ (get_or es (k + 1) e).name = get_or-map (λ (d : DirectoryEntry). d.name) es (k + 1) e e.name here in
    λ i. is_lt (by_bytes (x_is i) (y_is i))

-- whether each is before the next is whether each is before those after it
pub rising : (es : List DirectoryEntry) (r : Bool) → IsAllAdjacentAnswer (λ x y b. b ≡ is_lt (by_bytes x.name y.name)) es r
    → Decides r (IsStrictlySortedBy by_bytes (names es))
unfolding IsStrictlySortedBy
rising [] true each = (λ is. tt, λ up. refl)
rising [] false one = absurd (omega (arith, one.1))
rising (e ∷ es) true each = (
  λ is. sorted_from_all_adjacent nat_list_cmp_total (names (e ∷ es)) e.name (λ k within.
      let here : k + 1 < length (e ∷ es) = omega (arith, within, length-map (e ∷ es) (λ (d : DirectoryEntry). d.name)) in
      is_less (by_bytes (get_or (names (e ∷ es)) k e.name) (get_or (names (e ∷ es)) (k + 1) e.name))
      (side_by_side (e ∷ es) e k here ∙ sym (each k e here))),
  λ up. refl,
)
rising (e ∷ es) false one = (
  λ is. absurd (false≢true is),
  λ up.
      let here : one.0 + 1 < length (e ∷ es) = one.1 in
      absurd (false≢true (one.2 e
      ∙ sym (side_by_side (e ∷ es) e one.0 here)
      ∙ ap is_lt (Less-from_sorted by_bytes (names (e ∷ es)) one.0 (one.0 + 1) e.name up (omega arith)
      (omega (arith, here, length-map (e ∷ es) (λ (d : DirectoryEntry). d.name)))))),
)

both : (a b : Bool) → T a → T b → T (a && b)
both true b h k = k
both false b h k = absurd h

below : (name : Component) (rows : List (Component × NodeId)) → AllByRecursion (λ y. by_bytes name y ≡ Less) (keys_of rows) → T (below_all by_bytes name rows)
below name [] h = tt
below name (row ∷ rows) h =
    both (is_lt (by_bytes name row.0)) (below_all by_bytes name rows) (subst (λ o. T (is_lt o)) (sym h.0) tt) (below name rows h.1)

in_order : (rows : List (Component × NodeId)) → IsStrictlySortedBy by_bytes (keys_of rows) → T (is_sorted by_bytes rows)
unfolding IsStrictlySortedBy
in_order [] h = tt
in_order (row ∷ rows) h = both (below_all by_bytes row.0 rows) (is_sorted by_bytes rows) (below row.0 rows h.0) (in_order rows h.1)

-- ---- names with nodes

module _ (tables : List Table) where
  one_more : (rows : List (Component × NodeId)) (es : List DirectoryEntry) (row : Component × NodeId) (e : DirectoryEntry)
      → AreNodesOf tables rows es → row.0 ≡ e.name → IsAt tables (Some row.1) (Some e.id) → AreNodesOf tables (rows ++ row ∷ []) (es ++ e ∷ [])
  one_more [] [] row e are is at = ((is, at), tt)
  one_more [] (d ∷ es) row e are is at = absurd are
  one_more (r ∷ rows) [] row e are is at = absurd are
  one_more (r ∷ rows) (d ∷ es) row e are is at = (are.0, one_more rows es row e are.1 is at)

  -- a name more, with its node
  pub node_more : (rows new : List (Bor Component × NodeId)) (es more : List DirectoryEntry) (row : Bor Component × NodeId) (e : DirectoryEntry)
      → new ≡ rows ++ row ∷ [] → more ≡ es ++ e ∷ [] → AreNodesOf tables (row_entries rows) es
      → row.0.now ≡ e.name → IsAt tables (Some row.1) (Some e.id) → AreNodesOf tables (row_entries new) more
  node_more rows new es more row e pushed taken are is at =
      let new_is : row_entries new ≡ row_entries rows ++ (row.0.now, row.1) ∷ [] =
      ap row_entries pushed ∙ map-append (λ (r : Bor Component × NodeId). (r.0.now, r.1)) rows (row ∷ []) in
      subst (λ l. AreNodesOf tables l more) (sym new_is)
      (subst (AreNodesOf tables (row_entries rows ++ (row.0.now, row.1) ∷ [])) (sym taken)
      (one_more (row_entries rows) es (row.0.now, row.1) e are is at))

  same_names : (rows : List (Component × NodeId)) (es : List DirectoryEntry) → AreNodesOf tables rows es → keys_of rows ≡ names es
  same_names [] [] are = refl
  same_names [] (d ∷ es) are = absurd are
  same_names (row ∷ rows) [] are = absurd are
  same_names (row ∷ rows) (d ∷ es) are = λ i. are.0.0 i ∷ same_names rows es are.1 i

  pub rows_rise : (rows : List (Component × NodeId)) (es : List DirectoryEntry) → AreNodesOf tables rows es
      → IsStrictlySortedBy by_bytes (names es) → T (is_sorted by_bytes rows)
  rows_rise rows es are rise = in_order rows (subst (IsStrictlySortedBy by_bytes) (sym (same_names rows es are)) rise)

  -- the node of a name is that of its id
  at_row : (name : Component) (rows : List (Component × NodeId)) (es : List DirectoryEntry) → AreNodesOf tables rows es
      → IsAt tables (find by_bytes name rows) (entry_named name es)
  at_row name [] [] are = tt
  at_row name [] (d ∷ es) are = absurd are
  at_row name (row ∷ rows) [] are = absurd are
  at_row name (row ∷ rows) (d ∷ es) are =
      subst (λ b. IsAt tables (cond b (Some row.1) (find by_bytes name rows)) (cond (same_component d.name name) (Some d.id) (entry_named name es)))
      (sym (sym (texts_ties name row.0) ∙ ap (same_component name) are.0.0 ∙ turned name d.name))
      (by (same_component d.name name) (at_row name rows es are.1))
    where
      by : (b : Bool) → IsAt tables (find by_bytes name rows) (entry_named name es)
          → IsAt tables (cond b (Some row.1) (find by_bytes name rows)) (cond b (Some d.id) (entry_named name es))
      by true rest = are.0.1
      by false rest = rest

      turned : (m n : Component) → same_component m n ≡ same_component n m
      turned m n = texts_ties m n ∙ (eq_by_cmp_equiv nat_list_cmp_total).symm m n ∙ sym (texts_ties n m)

  pub made_at : (made : Kids) (rows : List (Component × NodeId)) (es : List DirectoryEntry) → entries made ≡ rows → AreNodesOf tables rows es → AreAt tables made es
  made_at made rows es is are name =
      subst (λ o. IsAt tables o (entry_named name es)) (sym (get-entries made name ∙ ap (find by_bytes name) is)) (at_row name rows es are)

  -- a node of the revision of an id that is at this id
  pub tabled : (node : NodeId) (id : FileId) → node.rev ≡ id.revision → IsAt tables (Some node) (Some id) → IsTabled tables id
  tabled node id same at = by (slice_get tables node.rev) refl at
    where
      here : (t : Table) (o : Option Placed) → slice_get t.placed.items node.place ≡ o → option_map (λ (p : Placed). p.id) o ≡ Some id → HasPlaced t.placed.items id
      here t None is e = absurd (none-some id e)
      here t (Some p) is e = (node.place, subst (λ o. IsSomeAnd o (λ q. q.id ≡ id)) (sym is) (same_Some p.id id e))

      by : (o : Option Table) → slice_get tables node.rev ≡ o
          → option_map (λ (p : Placed). p.id) (option_and_then (λ (t : Table). slice_get t.placed.items node.place) o) ≡ Some id → IsTabled tables id
      by None is e = absurd (none-some id e)
      by (Some t) is e =
          subst (λ o. IsSomeAnd o (λ (table : Table). HasPlaced table.placed.items id)) (sym (ap (slice_get tables) (sym same) ∙ is))
          (here t (slice_get t.placed.items node.place) refl e)

-- ---- each name once

module _ (es : List DirectoryEntry) (rise : IsStrictlySortedBy by_bytes (names es)) where
  behind : (j k : ℕ) (a b : DirectoryEntry) → slice_get es j ≡ Some a → slice_get es k ≡ Some b → a.name ≡ b.name → j < k → ⊥
  behind j k a b at_a at_b same less =
      let in_j = slice_get_within es j a at_a in
      let in_k = slice_get_within es k b at_b in
      let name_j : get_or (names es) j a.name ≡ a.name =
      get_or-map (λ (d : DirectoryEntry). d.name) es j a a.name in_j ∙ ap (λ (d : DirectoryEntry). d.name) (get_or_from_slice_get es j a a at_a) in
      let name_k : get_or (names es) k a.name ≡ b.name =
      get_or-map (λ (d : DirectoryEntry). d.name) es k a a.name in_k ∙ ap (λ (d : DirectoryEntry). d.name) (get_or_from_slice_get es k b a at_b) in
      let apart : eq_by_cmp by_bytes (get_or (names es) j a.name) (get_or (names es) k a.name) ≡ false =
      apart_from_distinct (eq_by_cmp by_bytes) (names es) j k a.name (IsDistinct-from_sorted by_bytes (names es) rise) less
      (omega (arith, in_k, length-map es (λ (d : DirectoryEntry). d.name))) in
      let tie : eq_by_cmp by_bytes a.name b.name ≡ true =
      sym (texts_ties a.name b.name) ∙ ap (same_component a.name) (sym same) ∙ same_component_refl a.name in
      false≢true (sym apart ∙ (λ i. eq_by_cmp by_bytes (name_j i) (name_k i)) ∙ tie)

  pub once : AreOnce es
  once j k a b at_a at_b same = ⊎_elim
      (λ less. absurd (behind j k a b at_a at_b same less))
      (λ ge. ⊎_elim
      (λ less. absurd (behind k j b a at_b at_a (sym same) less))
      (λ le. omega (arith, ge, le))
      (cases_lt k j))
      (cases_lt j k)

module _ (is_known : FileId → Type 0) where
  known : (es : List DirectoryEntry) → All (λ e. is_known e.id) es → (name : Component) → IfSome (entry_named name es) is_known
  known [] all name = tt
  known (e ∷ es) all name = by (same_component e.name name) (known es (λ k d lt. all (suc k) d (omega (arith, lt))) name)
    where
      by : (b : Bool) → IfSome (entry_named name es) is_known → IfSome (cond b (Some e.id) (entry_named name es)) is_known
      by true rest = all 0 e (omega arith)
      by false rest = rest

  id_at_name : (es : List DirectoryEntry) (k : ℕ) (e : DirectoryEntry) → AreOnce es → slice_get es k ≡ Some e → entry_named e.name es ≡ Some e.id
  id_at_name [] k e once at = absurd (none-some e at)
  id_at_name (d ∷ es) zero e once at =
      let same : d ≡ e = same_Some d e at in
      ap (λ b. cond b (Some d.id) (entry_named e.name es)) (ap (λ (x : DirectoryEntry). same_component x.name e.name) same ∙ same_component_refl e.name)
      ∙ ap (λ (x : DirectoryEntry). Some x.id) same
  id_at_name (d ∷ es) (suc k) e once at =
      by (same_component d.name e.name) refl (id_at_name es k e (λ i j a b at_a at_b same. omega (arith, once (suc i) (suc j) a b at_a at_b same)) at)
    where
      by : (b : Bool) → same_component d.name e.name ≡ b → entry_named e.name es ≡ Some e.id → cond b (Some d.id) (entry_named e.name es) ≡ Some e.id
      by true same rest = absurd (omega (arith, once 0 (suc k) d e refl at (same_component_is d.name e.name same)))
      by false other rest = rest

  pub are_entries : (es : List DirectoryEntry) → IsStrictlySortedBy by_bytes (names es) → All (λ e. is_known e.id) es → AreEntries is_known es
  are_entries es rise all = record { once = once es rise; known = known es all }

  pub all_known : (es : List DirectoryEntry) → AreEntries is_known es → All (λ e. is_known e.id) es
  all_known es are k d lt =
      let e = get_or es k d in
      let at : slice_get es k ≡ Some e = slice_get-get_or es k d lt in
      subst (λ o. IfSome o is_known) (id_at_name es k e are.once at) (are.known e.name)

-- ---- what is read, in other words

read_so : {X : Type 0} (r : Result X FileFault) (P Q : Type 0) (F G : X → Type 0) → (P → Q) → (Q → P) → ((x : X) → F x → G x)
    → ReadsWhere r P F → ReadsWhere r Q G
read_so (Ok x) P Q F G into from f is = (into is.0, f x is.1)
read_so (Err fault) P Q F G into from f is = no_part fault from is

-- the entries that bytes say, where a line gives the bytes
given : (files : RevisionBytes) (tables : List Table) (bytes : List ℕ) (es : List DirectoryEntry) (made : Kids) → entries_of bytes ≡ Ok es
    → AreAt tables made es → (line : Option Representation) → IsSomeAnd line (λ l. body_at_line files l ≡ Some bytes) → HasEntries files tables line made
given files tables bytes es made is at None body = absurd body
given files tables bytes es made is at (Some line) body = record {
  entries = es;
  read = ap (λ o. o >>= λ said. result_ok (entries_of said)) body ∙ ap result_ok is;
  kids = at;
}

pub kids_given : (tables : List Table) (bytes : List ℕ) (es lent : List DirectoryEntry) (r : Result Kids FileFault) → entries_of bytes ≡ Ok es → lent ≡ es
    → ReadsWhere r (AreEntries (IsTabled tables) lent) (λ made. AreAt tables made lent)
    → ReadsWhere r (IsSomeAnd (result_ok (entries_of bytes)) (AreEntries (IsTabled tables))) (λ made. (files : RevisionBytes)
    → (line : Option Representation) → IsSomeAnd line (λ l. body_at_line files l ≡ Some bytes) → HasEntries files tables line made)
kids_given tables bytes es lent r is same read =
    read_so r (AreEntries (IsTabled tables) es) (IsSomeAnd (result_ok (entries_of bytes)) (AreEntries (IsTabled tables)))
    (λ made. AreAt tables made es)
    (λ made. (files : RevisionBytes) (line : Option Representation) → IsSomeAnd line (λ l. body_at_line files l ≡ Some bytes) → HasEntries files tables line made)
    (λ are. subst (λ q. IsSomeAnd (result_ok q) (AreEntries (IsTabled tables))) (sym is) are)
    (λ are. subst (λ q. IsSomeAnd (result_ok q) (AreEntries (IsTabled tables))) is are)
    (λ made at files line body. given files tables bytes es made is at line body)
    (subst (λ l. ReadsWhere r (AreEntries (IsTabled tables) l) (λ made. AreAt tables made l)) same read)
