-- The right drive of an entry, from that of what is below it.
use Rattle.std.proofs.Common.{◌≡◌, ◌+◌, arith, Bool, true, false, cond, ◌&&◌, ◌||◌, not, List, [], ◌∷◌, ◌++◌, length, drop, Option, Some, None, refl, sym, ap}
use Rattle.std.proofs.{Common.{◌∙◌, subst, ◌⊎◌, inl, inr, ⊎_elim, option_map}, lemmas.Bool.false≢true, lemmas.List.{length-append, append-nil, append_assoc}}
use Rattle.std.specs.{Prelude.{IsSome, IsSomeAnd, is_some}, List.list_any}
use Rattle.svnpath.specs.{PathLaws.{same_path_is, same_path_refl, under_append, under_is, under_itself}, Paths.{is_at_or_under, PathValue, same_path}}
use Rattle.repo_api.specs.{Trees.{HasFile, is_directory, Tree}, declared.entry.Entry.Entry}
use Rattle.drive_rules.specs.Steps.{EntryKind, Step, Node, node_of, node_at, after_step, after_steps, meets, all_meet, is_of_kind, is_named, has_step}
use Rattle.drive_rules.specs.Steps.{is_opening, is_adding, adds_or_deletes, is_text, empty_content, no_properties, may_change, IsOwn}
use Rattle.drive_rules.specs.Steps.Step.{OpenAt, AddAt, DeleteAt}
use Rattle.drive_rules.specs.Drives.{Counts, IsRight, HasReason, Differs, IsOfOneKind, HasOtherText, IsInBoth, created_revision}
use Rattle.drive_rules.specs.Scopes.{under, below, tree_without}
use Rattle.drive_rules.proofs.Joined.{or_cases, or_left, or_right, and_front, and_both, apart_same, reach_named, either, Spares, IsDisjoint, joined, same_under}
use Rattle.drive_rules.proofs.{Joined.{any_named, mapped_some, none_some}, Coming.coming_is_added}

pub no_length : {X : Type 0} (xs : List X) → length xs ≡ 0 → xs ≡ []
no_length [] e = refl
no_length (x ∷ xs) e = absurd (omega (e, arith))

-- two paths under each other are one
pub under_both : (p q : PathValue) → is_at_or_under p q ≡ true → is_at_or_under q p ≡ true → p ≡ q
under_both p q pq qp =
    let a : q ≡ p ++ drop (length p) q = under_is q p qp in
    let b : p ≡ q ++ drop (length q) p = under_is p q pq in
    let la : length q ≡ length p + length (drop (length p) q) = ap length a ∙ length-append p (drop (length p) q) in
    let lb : length p ≡ length q + length (drop (length q) p) = ap length b ∙ length-append q (drop (length q) p) in
    let none : length (drop (length p) q) ≡ 0 = omega (la, lb, arith) in
    sym (a ∙ ap (λ rest. p ++ rest) (no_length (drop (length p) q) none) ∙ append-nil p)

pub under_more : (x q p : PathValue) → is_at_or_under x q ≡ true → is_at_or_under q p ≡ true → is_at_or_under x p ≡ true
under_more x q p xq qp = subst (λ y. is_at_or_under y p ≡ true) (sym (under_is x q xq ∙ ap (λ y. y ++ drop (length q) x) (under_is q p qp) ∙ append_assoc p (drop (length p) q) (drop (length q) x))) (under_append p (drop (length p) q ++ drop (length q) x))

pub rescoped : {counts : Counts} {one other due apart : PathValue → Bool} {r t : Tree} {cs : List Step} → ((q : PathValue) → one q ≡ other q)
    → IsRight counts one due apart r t cs → IsRight counts other due apart r t cs
rescoped {counts = counts} {due = due} {apart = apart} {r = r} {t = t} {cs = cs} same right = subst (λ scope. IsRight counts scope due apart r t cs) (λ i q. same q i) right

pub at_and_below : (p q : PathValue) → either (same_path p) (below p) q ≡ under p q
at_and_below p q = by (same_path p q) refl
  where
    tail : (u : Bool) → (false || (u && not false)) ≡ u
    tail true = refl
    tail false = refl

    by : (b : Bool) → same_path p q ≡ b → (b || (is_at_or_under q p && not b)) ≡ is_at_or_under q p
    by true e = sym (same_under p q e)
    by false e = tail (is_at_or_under q p)

at_not_below : (p : PathValue) → IsDisjoint (same_path p) (below p)
at_not_below p q e = ap (λ b. is_at_or_under q p && not b) e ∙ by (is_at_or_under q p)
  where
    by : (b : Bool) → (b && not true) ≡ false
    by true = refl
    by false = refl

pub below_under : (p q : PathValue) → below p q ≡ true → is_at_or_under q p ≡ true
below_under p q h = and_front _ _ h

pub below_apart : (p q : PathValue) → below p q ≡ true → same_path p q ≡ false
below_apart p q h = by (is_at_or_under q p) (same_path p q) h
  where
    by : (u b : Bool) → (u && not b) ≡ true → b ≡ false
    by u false g = refl
    by true true g = sym g
    by false true g = sym g

-- what is named below p reaches no path that is p
below_spares : (p : PathValue) (cs : List Step) → ((q : PathValue) → is_named q cs ≡ true → below p q ≡ true) → Spares cs (same_path p)
below_spares p cs within q at = reach_named cs q (λ x named. by x (within x named) (is_at_or_under q x) refl)
  where
    is : p ≡ q
    is = same_path_is p q at

    by : (x : PathValue) → below p x ≡ true → (b : Bool) → is_at_or_under q x ≡ b → b ≡ false
    by x low true e =
        absurd (false≢true (sym (below_apart p x low) ∙ ap (same_path p) (sym (under_both p x (ap (λ y. is_at_or_under y x) is ∙ e) (below_under p x low))) ∙ same_path_refl p))
    by x low false e = refl

-- the first step and the entry's own, joined with what is below
pub around : (counts : Counts) (due apart : PathValue → Bool) (r t : Tree) (p : PathValue) (xs cs : List Step)
    → ((q : PathValue) → same_path p q ≡ false → list_any (may_change q) xs ≡ false)
    → IsRight counts (same_path p) due apart r t xs → IsRight counts (below p) due apart r t cs → IsRight counts (under p) due apart r t (xs ++ cs)
around counts due apart r t p xs cs far head rest =
    rescoped (at_and_below p)
    (joined counts (same_path p) (below p) due apart r t xs cs (at_not_below p) (λ q low. far q (below_apart p q low)) (below_spares p cs rest.within) head rest)

-- an entry that is not apart is opened
pub opened : (counts : Counts) (due apart : PathValue → Bool) (r t : Tree) (p : PathValue) (kind : EntryKind) (os cs : List Step)
    → apart p ≡ false
    → is_of_kind kind (node_at r p) ≡ true → IsOwn p os → all_meet p (node_at r p) os ≡ true → option_map counts.seen (after_steps p (node_at r p) os) ≡ option_map counts.seen (node_at t p)
    → (HasOtherText apart r t p → has_step is_text p os ≡ true) → HasReason counts.changes due apart r t p
    → IsRight counts (below p) due apart r t cs → IsRight counts (under p) due apart r t (OpenAt p kind ∷ os ++ cs)
opened counts due apart r t p kind os cs stays is own met leads text reason rest = around counts due apart r t p (OpenAt p kind ∷ os) cs own.far head rest
  where
    at : (q : PathValue) → is_named q (OpenAt p kind ∷ os) ≡ true → same_path p q ≡ true
    at q named = ⊎_elim (λ h. and_front (same_path p q) true h) (λ h. own.here q h) (or_cases (same_path p q && true) (is_named q os) named)

    no : (b : Bool) → (b && false) ≡ false
    no true = refl
    no false = refl

    head : IsRight counts (same_path p) due apart r t (OpenAt p kind ∷ os)
    head = record {
      ends = λ q h. subst (λ x. option_map counts.seen (after_steps x (node_at r x) os) ≡ option_map counts.seen (node_at t x)) (same_path_is p q h) leads;
      texts = λ q h other. or_right (same_path p q && false) (has_step is_text q os) (subst (λ x. has_step is_text x os ≡ true) (same_path_is p q h) (text (subst (HasOtherText apart r t) (sym (same_path_is p q h)) other)));
      names = λ q h both old. or_left _ _ (ap (λ b. b && true) h);
      within = at;
      reasons = λ q named. subst (HasReason counts.changes due apart r t) (same_path_is p q (at q named)) reason;
      opens = λ q k a named. (or_left _ _ (ap (λ b. b && true) (at q named)), ap (λ b. b || has_step adds_or_deletes q os) (no (same_path p q)) ∙ own.adds_nothing q);
      replaces = λ q h both a. absurd (false≢true (sym stays ∙ ap apart (same_path_is p q h) ∙ a));
      meets = λ q h. subst (λ x. all_meet x (node_at r x) (OpenAt p kind ∷ os) ≡ true) (same_path_is p q h) (and_both (meets p (node_at r p) (OpenAt p kind)) (all_meet p (node_at r p) os) (or_right (not (same_path p p)) (is_of_kind kind (node_at r p)) is) met);
    }

no_kind_none : (r t : Tree) (q : PathValue) → r q ≡ None → IsOfOneKind r t q → ⊥
no_kind_none r t q none kind = by (r q) none kind
  where
    by : (o : Option Entry) → o ≡ None → IsSomeAnd o (λ e. IsSomeAnd (t q) (λ f. is_directory e ≡ is_directory f)) → ⊥
    by None e k = k
    by (Some x) e k = false≢true (sym (ap is_some e))

some_node : (o : Option Entry) → IsSome o → None ≡ option_map node_of o → ⊥
some_node None s e = false≢true s
some_node (Some x) s e = false≢true (ap is_some e)

-- where nothing stands, an entry is added
pub fresh : (counts : Counts) (due apart : PathValue → Bool) (r t : Tree) (p : PathValue) (kind : EntryKind) (os cs : List Step)
    → r p ≡ None → IsSome (t p) → IsOwn p os → all_meet p (Some (empty_content kind, no_properties)) os ≡ true → option_map counts.seen (after_steps p (Some (empty_content kind, no_properties)) os) ≡ option_map counts.seen (node_at t p)
    → (HasFile t p → has_step is_text p os ≡ true)
    → IsRight counts (below p) due apart r t cs → IsRight counts (under p) due apart r t (AddAt p kind ∷ os ++ cs)
fresh counts due apart r t p kind os cs none some own met leads text rest = around counts due apart r t p (AddAt p kind ∷ os) cs far head rest
  where
    far : (q : PathValue) → same_path p q ≡ false → list_any (may_change q) (AddAt p kind ∷ os) ≡ false
    far q h = ap (λ b. b || list_any (may_change q) os) h ∙ own.far q h

    at : (q : PathValue) → is_named q (AddAt p kind ∷ os) ≡ true → same_path p q ≡ true
    at q named = ⊎_elim (λ h. and_front (same_path p q) true h) (λ h. own.here q h) (or_cases (same_path p q && true) (is_named q os) named)

    none_at : (q : PathValue) → same_path p q ≡ true → r q ≡ None
    none_at q h = ap r (sym (same_path_is p q h)) ∙ none

    reason : HasReason counts.changes due apart r t p
    reason = inr (p, under_itself p, inl (λ same. some_node (t p) some (sym (ap (option_map node_of) none) ∙ same.0)))

    head : IsRight counts (same_path p) due apart r t (AddAt p kind ∷ os)
    head = record {
      ends = λ q h. ap (λ b. option_map counts.seen (after_steps q (cond b (Some (empty_content kind, no_properties)) (node_at r q)) os)) h ∙ subst (λ x. option_map counts.seen (after_steps x (Some (empty_content kind, no_properties)) os) ≡ option_map counts.seen (node_at t x)) (same_path_is p q h) leads;
      texts = λ q h other. or_right (same_path p q && false) (has_step is_text q os) (subst (λ x. has_step is_text x os ≡ true) (same_path_is p q h) (text (subst (HasFile t) (sym (same_path_is p q h)) other.0)));
      names = λ q h both old. absurd (none_some (none_at q h) both.0);
      within = at;
      reasons = λ q named. subst (HasReason counts.changes due apart r t) (same_path_is p q (at q named)) reason;
      opens = λ q k a named. absurd (no_kind_none r t q (none_at q (at q named)) k);
      replaces = λ q h both a. absurd (none_some (none_at q h) both.0);
      meets = λ q h. subst (λ x. all_meet x (node_at r x) (AddAt p kind ∷ os) ≡ true) (same_path_is p q h)
          (and_both (meets p (node_at r p) (AddAt p kind)) (all_meet p (after_step p (node_at r p) (AddAt p kind)) os)
          (or_right (not (same_path p p)) (not (is_some (node_at r p))) (ap (λ o. not (is_some (option_map node_of o))) none))
          (ap (λ b. all_meet p (cond b (Some (empty_content kind, no_properties)) (node_at r p)) os) (same_path_refl p) ∙ met));
    }

-- what is taken out at a path, to be added anew or not at all: it stands there now, there is a reason for it, and what stands in both trees at
-- the path and under it is apart
pub record IsCut (changes : Bool) (apart : PathValue → Bool) (r t : Tree) (p : PathValue) : Type 0 where
  pub stood : IsSome (r p)
  pub reason : Differs changes r t p ⊎ (IsInBoth r t p × (apart p ≡ true))
  pub lone : (q : PathValue) → is_at_or_under q p ≡ true → IsInBoth r t q → apart q ≡ true

without_node : (r : Tree) (p q : PathValue) → node_at (tree_without p r) q ≡ cond (is_at_or_under q p) None (node_at r q)
without_node r p q = by (is_at_or_under q p)
  where
    by : (b : Bool) → option_map node_of (cond b None (r q)) ≡ cond b None (option_map node_of (r q))
    by true = refl
    by false = refl

pub kept : (r : Tree) (p q : PathValue) → is_at_or_under q p ≡ false → tree_without p r q ≡ r q
kept r p q h = ap (λ b. cond b None (r q)) h

pub left_out : (r : Tree) (p q : PathValue) → is_at_or_under q p ≡ true → tree_without p r q ≡ None
left_out r p q h = ap (λ b. cond b None (r q)) h

one_kind_both : (r t : Tree) (q : PathValue) → IsOfOneKind r t q → IsInBoth r t q
one_kind_both r t q kind = by (r q) (t q) kind
  where
    by : (o n : Option Entry) → IsSomeAnd o (λ e. IsSomeAnd n (λ f. is_directory e ≡ is_directory f)) → IsSome o × IsSome n
    by None n k = absurd k
    by (Some x) None k = absurd k
    by (Some x) (Some y) k = (refl, refl)

none_if : {X : Type 0} (o : Option X) → is_some o ≡ false → o ≡ None
none_if None h = refl
none_if (Some x) h = absurd (false≢true (sym h))

some_seen : (counts : Counts) (m n : Option Node) → option_map counts.seen m ≡ option_map counts.seen n → IsSome n → is_some m ≡ true
some_seen counts (Some x) n e s = refl
some_seen counts None None e s = s
some_seen counts None (Some y) e s = ap is_some e

-- a delete, and then a drive from what is left
pub cut : (counts : Counts) (scope due apart : PathValue → Bool) (r t : Tree) (p : PathValue) (cs : List Step)
    → ((q : PathValue) → under p q ≡ true → scope q ≡ true) → IsCut counts.changes apart r t p
    → IsRight counts scope due apart (tree_without p r) t cs → IsRight counts scope due apart r t (DeleteAt p ∷ cs)
cut counts scope due apart r t p cs covers c right = record {
  ends = λ q h. ap (λ n. option_map counts.seen (after_steps q n cs)) (sym (without_node r p q)) ∙ right.ends q h;
  texts = λ q h other. or_right (same_path p q && false) (has_step is_text q cs) (right.texts q h (other.0, text_left q other (is_at_or_under q p) refl));
  names = λ q h both old. or_right (same_path p q && true) (is_named q cs) (named_left q h both old (is_at_or_under q p) refl);
  within = λ q named. ⊎_elim (λ h. covers q (same_under p q (and_front (same_path p q) true h))) (λ h. right.within q h) (or_cases (same_path p q && true) (is_named q cs) named);
  reasons = λ q named. ⊎_elim (λ h. subst (HasReason counts.changes due apart r t) (same_path_is p q (and_front (same_path p q) true h)) (inr (p, under_itself p, wide p c.reason))) (λ h. reason q (right.reasons q h)) (or_cases (same_path p q && true) (is_named q cs) named);
  opens = λ q k a named. opened_left q k a named (is_at_or_under q p) refl;
  replaces = λ q h both a. or_right (same_path p q && false) (has_step is_adding q cs) (added_left q h both a (is_at_or_under q p) refl);
  meets = λ q h. and_both (meets q (node_at r q) (DeleteAt p)) (all_meet q (after_step q (node_at r q) (DeleteAt p)) cs) (stands q (same_path p q) refl) (ap (λ n. all_meet q n cs) (sym (without_node r p q)) ∙ right.meets q h);
}
  where
    both_left : (q : PathValue) → is_at_or_under q p ≡ false → IsInBoth r t q → IsInBoth (tree_without p r) t q
    both_left q out both = (subst IsSome (sym (kept r p q out)) both.0, both.1)

    -- what is to stand at the path or under it comes
    coming : (q : PathValue) → scope q ≡ true → is_at_or_under q p ≡ true → IsSome (t q) → has_step is_adding q cs ≡ true
    coming q h u some =
        coming_is_added cs q
        (some_seen counts (after_steps q None cs) (node_at t q) (ap (λ n. option_map counts.seen (after_steps q n cs)) (sym (without_node r p q ∙ ap (λ b. cond b None (node_at r q)) u)) ∙ right.ends q h) (mapped_some (t q) some))

    named_left : (q : PathValue) → scope q ≡ true → IsInBoth r t q → (counts.changes ≡ true) × (created_revision r q ≡ created_revision t q → ⊥) ⊎ (due q ≡ true) → (b : Bool) → is_at_or_under q p ≡ b → is_named q cs ≡ true
    named_left q h both old true u = any_named is_adding q cs (coming q h u both.1)
    named_left q h both old false u = right.names q h (both_left q u both) (⊎_elim (λ o. inl (o.0, λ e. o.1 (sym (ap (option_map _) (kept r p q u)) ∙ e))) (λ s. inr s) old)

    added_left : (q : PathValue) → scope q ≡ true → IsInBoth r t q → apart q ≡ true → (b : Bool) → is_at_or_under q p ≡ b → has_step is_adding q cs ≡ true
    added_left q h both a true u = coming q h u both.1
    added_left q h both a false u = right.replaces q h (both_left q u both) a

    file_there : (q : PathValue) → HasFile t q → None ≡ option_map (λ (n : Node). n.0) (node_at t q) → ⊥
    file_there q file e = by (t q) file e
      where
        by : (o : Option Entry) → IsSomeAnd o (λ y. is_directory y ≡ false) → None ≡ option_map (λ (n : Node). n.0) (option_map node_of o) → ⊥
        by None k g = k
        by (Some y) k g = false≢true (ap is_some g)

    text_left : (q : PathValue) → HasOtherText apart r t q → (b : Bool) → is_at_or_under q p ≡ b → (apart q ≡ true) ⊎ (option_map (λ (n : Node). n.0) (node_at (tree_without p r) q) ≡ option_map (λ (n : Node). n.0) (node_at t q) → ⊥)
    text_left q other true u = inr (λ e. file_there q other.0 (sym (ap (λ o. option_map (λ (n : Node). n.0) (option_map node_of o)) (left_out r p q u)) ∙ e))
    text_left q other false u = ⊎_elim (λ a. inl a) (λ d. inr (λ e. d (sym (ap (λ o. option_map (λ (n : Node). n.0) (option_map node_of o)) (kept r p q u)) ∙ e))) other.1

    wide : (w : PathValue) → Differs counts.changes r t w ⊎ (IsInBoth r t w × (apart w ≡ true)) → Differs counts.changes r t w ⊎ ((due w ≡ true) ⊎ (IsInBoth r t w × (apart w ≡ true)))
    wide w why = ⊎_elim (λ d. inl d) (λ a. inr (inr a)) why

    moved : (w : PathValue) → Differs counts.changes (tree_without p r) t w → (b : Bool) → is_at_or_under w p ≡ b → Differs counts.changes r t w ⊎ (IsInBoth r t w × (apart w ≡ true))
    moved w d false u = inl (λ same. d (ap (option_map node_of) (kept r p w u) ∙ same.0, λ counted. ap (option_map (λ (e : Entry). e.last)) (kept r p w u) ∙ same.1 counted))
    moved w d true u = lower (is_some (r w)) (is_some (t w)) refl refl
      where
        lower : (m n : Bool) → is_some (r w) ≡ m → is_some (t w) ≡ n → Differs counts.changes r t w ⊎ (IsInBoth r t w × (apart w ≡ true))
        lower true true a b = inr ((a, b), c.lone w u (a, b))
        lower false n a b = inl (λ same. d (ap (option_map node_of) (left_out r p w u ∙ sym (none_if (r w) a)) ∙ same.0, λ counted. ap (option_map (λ (e : Entry). e.last)) (left_out r p w u ∙ sym (none_if (r w) a)) ∙ same.1 counted))
        lower true false a b = inl (λ same. d (ap (option_map node_of) (left_out r p w u ∙ sym (none_if (t w) b)), λ counted. ap (option_map (λ (e : Entry). e.last)) (left_out r p w u ∙ sym (none_if (t w) b))))

    both_there : (w : PathValue) → IsInBoth (tree_without p r) t w → (b : Bool) → is_at_or_under w p ≡ b → IsInBoth r t w
    both_there w both true u = absurd (none_some (left_out r p w u) both.0)
    both_there w both false u = (subst IsSome (kept r p w u) both.0, both.1)

    reason : (q : PathValue) → HasReason counts.changes due apart (tree_without p r) t q → HasReason counts.changes due apart r t q
    reason q (inl e) = inl e
    reason q (inr w) =
        inr (w.0, w.1, ⊎_elim (λ d. wide w.0 (moved w.0 d (is_at_or_under w.0 p) refl)) (λ more. ⊎_elim (λ s. inr (inl s)) (λ a. inr (inr (both_there w.0 a.0 (is_at_or_under w.0 p) refl, a.1))) more) w.2)

    opened_left : (q : PathValue) → IsOfOneKind r t q → apart q ≡ false → is_named q (DeleteAt p ∷ cs) ≡ true → (b : Bool) → is_at_or_under q p ≡ b → (has_step is_opening q (DeleteAt p ∷ cs) ≡ true) × (has_step adds_or_deletes q (DeleteAt p ∷ cs) ≡ false)
    opened_left q k a named true u = absurd (false≢true (sym a ∙ c.lone q u (one_kind_both r t q k)))
    opened_left q k a named false u =
        let elsewhere : same_path p q ≡ false = apart_same p q u in
        let o = right.opens q (subst (λ e. IsSomeAnd e (λ x. IsSomeAnd (t q) (λ f. is_directory x ≡ is_directory f))) (sym (kept r p q u)) k) a (sym (ap (λ b. (b && true) || is_named q cs) elsewhere) ∙ named) in
        (or_right (same_path p q && false) (has_step is_opening q cs) o.0, ap (λ b. (b && true) || has_step adds_or_deletes q cs) elsewhere ∙ o.1)

    stands : (q : PathValue) (b : Bool) → same_path p q ≡ b → meets q (node_at r q) (DeleteAt p) ≡ true
    stands q true e = or_right (not (same_path p q)) (is_some (node_at r q)) (subst (λ x. is_some (node_at r x) ≡ true) (same_path_is p q e) (mapped_some (r p) c.stood))
    stands q false e = ap (λ b. not b || is_some (node_at r q)) e
