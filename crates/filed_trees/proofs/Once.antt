-- Entries whose names come once.
use Rattle.std.proofs.Common.{◌≡◌, ◌+◌, ◌<◌, ◌≤◌, ℕ, zero, suc, Bool, true, false, cond, List, [], ◌∷◌, length, get_or, Option, Some, None, is_some, refl, sym}
use Rattle.std.proofs.{Common.{ap, subst, ◌∙◌, arith, ⊎_elim}, lemmas.Bool.{cases_lt, false≢true}, lemmas.Option.{same_Some, slice_get_within}}
use Rattle.std.specs.{BTreeMap.is_at, Cmp.Lexicographic.slice_cmp, Ordering.nat_cmp, Prelude.{All, IfSome, IsSome, IsSomeAnd, slice_get}}
use Rattle.svnpath.specs.{PathLaws.{same_component_is, same_component_refl}, Paths.{Component, same_component}}
use Rattle.fsfs_text.specs.declared.id.FileId.{FileId}
use Rattle.fsfs_nodes.specs.declared.entries.DirectoryEntry.{DirectoryEntry}
use Rattle.filed_trees.specs.{Pieces.entry_named, Readable.{AreEntries, AreOnce}}
use Rattle.filed_trees.proofs.{Entering.{at_entry, of_some}, Named.at_name}

-- the ids so far are at the names of the entries so far, each of which came once
pub record HaveNames (entries : List DirectoryEntry) (ids : Component → Option FileId) (k : ℕ) : Type 0 where
  pub from : (name : Component) → IsSome (ids name)
      → (i : ℕ) × ((i < k) × IsSomeAnd (slice_get entries i) (λ a. a.name ≡ name))
  pub into : (i : ℕ) (a : DirectoryEntry) → i < k → slice_get entries i ≡ Some a → IsSome (ids a.name)
  pub once : (i j : ℕ) (a b : DirectoryEntry) → i < k → j < k → slice_get entries i ≡ Some a
      → slice_get entries j ≡ Some b → a.name ≡ b.name → i ≡ j

no_some : {X : Type 0} (o : Option X) → o ≡ None → IsSome o → ⊥
no_some o none some = false≢true (sym (ap is_some none) ∙ some)

module _ (entries : List DirectoryEntry) where
  pub no_names : (ids : Component → Option FileId) → ((name : Component) → ids name ≡ None) → HaveNames entries ids 0
  no_names ids none = record {
    from = λ name some. absurd (no_some (ids name) (none name) some);
    into = λ i a lt at. absurd (omega (arith, lt));
    once = λ i j a b lt lt' at_a at_b same. absurd (omega (arith, lt));
  }

  module _ (ids new : Component → Option FileId) (k : ℕ) (e : DirectoryEntry) (key : Component) (id : FileId) (is : key ≡ e.name)
      (at : slice_get entries k ≡ Some e) (none : ids e.name ≡ None)
      (put : (n : Component) → new n ≡ cond (is_at (slice_cmp nat_cmp key) n) (Some id) (ids n))
      (have : HaveNames entries ids k) where
    put_at : (n : Component) (b : Bool) → same_component key n ≡ b → new n ≡ cond b (Some id) (ids n)
    put_at n b same = put n ∙ ap (λ t. cond t (Some id) (ids n)) (at_name key n ∙ same)

    from_more : (name : Component) → IsSome (new name)
        → (i : ℕ) × ((i < k + 1) × IsSomeAnd (slice_get entries i) (λ a. a.name ≡ name))
    from_more name some = by (same_component key name) refl
      where
        by : (b : Bool) → same_component key name ≡ b
            → (i : ℕ) × ((i < k + 1) × IsSomeAnd (slice_get entries i) (λ a. a.name ≡ name))
        by true same = (
          k,
          (
            omega arith,
            subst (λ o. IsSomeAnd o (λ a. a.name ≡ name)) (sym at) (sym is ∙ same_component_is key name same),
          ),
        )
        by false other =
            let p = have.from name (subst (λ o. IsSome o) (put_at name false other) some) in (p.0, (omega (arith, p.1.0), p.1.1))

    into_more : (i : ℕ) (a : DirectoryEntry) → i < k + 1 → slice_get entries i ≡ Some a → IsSome (new a.name)
    into_more i a lt at_a = ⊎_elim
        (λ less. by (same_component key a.name) refl (have.into i a less at_a))
        (λ ge.
        let here : i ≡ k = omega (arith, ge, lt) in
        let same : key ≡ a.name = is ∙ ap (λ (d : DirectoryEntry). d.name) (same_Some e a (sym at ∙ ap (slice_get entries) (sym here) ∙ at_a)) in
        ap is_some (put_at a.name true (subst (λ n. same_component key n ≡ true) same (same_component_refl key))))
        (cases_lt i k)
      where
        by : (b : Bool) → same_component key a.name ≡ b → IsSome (ids a.name) → IsSome (new a.name)
        by true same some = ap is_some (put_at a.name true same)
        by false other some = ap is_some (put_at a.name false other) ∙ some

    -- the name of this one is that of none so far
    other_name : (i : ℕ) (a : DirectoryEntry) → i < k → slice_get entries i ≡ Some a → a.name ≡ e.name → ⊥
    other_name i a less at_a same = no_some (ids a.name) (ap ids same ∙ none) (have.into i a less at_a)

    last_one : (i : ℕ) (a : DirectoryEntry) → i ≡ k → slice_get entries i ≡ Some a → a ≡ e
    last_one i a here at_a = same_Some a e (sym at_a ∙ ap (slice_get entries) here ∙ at)

    pub one_name : HaveNames entries new (k + 1)
    one_name = record {
      from = from_more;
      into = into_more;
      once = λ i j a b lt_i lt_j at_a at_b same. ⊎_elim
          (λ less_i. ⊎_elim
          (λ less_j. have.once i j a b less_i less_j at_a at_b same)
          (λ ge_j. absurd (other_name i a less_i at_a
          (same ∙ ap (λ (d : DirectoryEntry). d.name) (last_one j b (omega (arith, ge_j, lt_j)) at_b))))
          (cases_lt j k))
          (λ ge_i. ⊎_elim
          (λ less_j. absurd (other_name j b less_j at_b
          (sym same ∙ ap (λ (d : DirectoryEntry). d.name) (last_one i a (omega (arith, ge_i, lt_i)) at_a))))
          (λ ge_j. omega (arith, ge_i, ge_j, lt_i, lt_j))
          (cases_lt j k))
          (cases_lt i k);
    }

  -- a name that is there comes twice
  pub repeated : (ids : Component → Option FileId) (k : ℕ) (e : DirectoryEntry) → HaveNames entries ids k
      → slice_get entries k ≡ Some e → IsSome (ids e.name) → AreOnce entries → ⊥
  repeated ids k e have at some once =
      let p = have.from e.name some in by p.0 p.1.0 (slice_get entries p.0) refl p.1.1
    where
      by : (i : ℕ) → i < k → (o : Option DirectoryEntry) → slice_get entries i ≡ o → IsSomeAnd o (λ a. a.name ≡ e.name) → ⊥
      by i less None at_a same = same
      by i less (Some a) at_a same = omega (arith, less, once i k a e at_a at same)

  pub all_names : (ids : Component → Option FileId) (k : ℕ) → HaveNames entries ids k → length entries ≤ k → AreOnce entries
  all_names ids k have past i j a b at_a at_b same =
      have.once i j a b (omega (arith, past, slice_get_within entries i a at_a)) (omega (arith, past, slice_get_within entries j b at_b)) at_a at_b same

-- the name of an entry leads to an entry
has_entry : (entries : List DirectoryEntry) (k : ℕ) (d : DirectoryEntry) → k < length entries → IsSome (entry_named (get_or entries k d).name entries)
has_entry [] k d lt = absurd (omega (arith, lt))
has_entry (e ∷ entries) zero d lt = ap (λ b. is_some (cond b (Some e.id) (entry_named e.name entries))) (same_component_refl e.name)
has_entry (e ∷ entries) (suc k) d lt =
    by (same_component e.name (get_or entries k d).name) (has_entry entries k d (omega (arith, lt)))
  where
    by : (b : Bool) → IsSome (entry_named (get_or entries k d).name entries)
        → IsSome (cond b (Some e.id) (entry_named (get_or entries k d).name entries))
    by true some = refl
    by false some = some

module _ (is_known : FileId → Type 0) (ids : Component → Option FileId) (entries : List DirectoryEntry)
    (same : (n : Component) → ids n ≡ entry_named n entries) where
  pub right_entries : AreOnce entries → All (λ e. IsSomeAnd (ids e.name) is_known) entries → AreEntries is_known entries
  right_entries once all = record {
    once = once;
    known = λ name. by name (entry_named name entries) refl;
  }
    where
      by : (name : Component) (o : Option FileId) → entry_named name entries ≡ o → IfSome o is_known
      by name None at = tt
      by name (Some id) at = of_some is_known (ids name) id (same name ∙ at)
          (at_entry (λ n. IsSomeAnd (ids n) is_known) name entries all (ap is_some at))

  pub entries_right : AreEntries is_known entries → All (λ e. IsSomeAnd (ids e.name) is_known) entries
  entries_right are k d lt = subst (λ o. IsSomeAnd o is_known) (sym (same name))
      (by (entry_named name entries) (has_entry entries k d lt) (are.known name))
    where
      name : Component
      name = (get_or entries k d).name

      by : (o : Option FileId) → IsSome o → IfSome o is_known → IsSomeAnd o is_known
      by None some known = absurd (no_some {X = FileId} None refl some)
      by (Some id) some known = known
