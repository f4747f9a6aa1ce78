-- What edits make of marks.
use Rattle.std.proofs.Common.{◌≡◌, ℕ, Bool, true, false, [], ◌∷◌, ◌++◌, length, drop, Option, Some, None, option_map, is_some, refl, sym, ap, subst}
use Rattle.std.proofs.{Common.{append_assoc, append-nil, ◌∙◌}, lemmas.Bool.false≢true}
use Rattle.std.specs.Prelude.{if◌then◌else◌, IsSome, not}
use Rattle.svnpath.specs.{PathLaws.{rest_append, under_append, under_is}, Paths.{is_at_or_under, PathValue, same_path}}
use Rattle.repo_api.specs.Edits.{added, begun, copied, copy_of, deleted, grafted, new_entry, revised, touched, touched_above, with_open_mark}
use Rattle.repo_api.specs.{Marks.{has_open_own, IsClosed, IsTransactionOf, last_of, MarksName, own_of, shown}, Merge.{has_open_last, is_changed}}
use Rattle.repo_api.specs.{Trees.{is_open_mark, Tree}, declared.entry.Entry.Entry, declared.entry.Mark.Mark, declared.entry.Mark.TheVariants.{Open, Made}}
use Rattle.repo_api.specs.declared.entry.Content.{Content}
use Rattle.repo_laws.proofs.{Naming.same_mark_refl, Under.{under_through, not_above_beneath, not_same, apart_beneath, not_true}}

-- ---- one entry

abbrev IsMade : Option Mark → Type 0
IsMade m = (n : ℕ) × (q : PathValue) × (m ≡ Some (Made n q))

open_not_made : (n : ℕ) (q : PathValue) → Some Open ≡ Some (Made n q) → ⊥
open_not_made n q h = false≢true (sym (ap is_open_or h))
  where
    is_open_or : Option Mark → Bool
    is_open_or None = false
    is_open_or (Some m) = is_open_mark m

none_not_made : (m : Mark) → ◌≡◌ {A = Option Mark} None (Some m) → ⊥
none_not_made m h = false≢true (ap is_some h)

-- what an edit makes at its own path
abbrev pub IsNew : Option Entry → Type 0
IsNew None = Unit {0}
IsNew (Some e) = (e.own ≡ Open) × (e.last ≡ Open)

new_last : (o : Option Entry) (n : ℕ) (q : PathValue) → IsNew o → last_of o ≡ Some (Made n q) → ⊥
new_last None n q new h = none_not_made (Made n q) h
new_last (Some e) n q new h = open_not_made n q (ap (λ m. Some m) (sym new.1) ∙ h)

new_own : (o : Option Entry) (n : ℕ) (q : PathValue) → IsNew o → own_of o ≡ Some (Made n q) → ⊥
new_own None n q new h = none_not_made (Made n q) h
new_own (Some e) n q new h = open_not_made n q (ap (λ m. Some m) (sym new.0) ∙ h)

new_opens : (o : Option Entry) → IsNew o → has_open_own o ≡ true → has_open_last o ≡ true
new_opens None new h = h
new_opens (Some e) new h = ap is_open_mark new.1

new_is_open : (o : Option Entry) → IsNew o → IsSome o → has_open_own o ≡ true
new_is_open None new some = some
new_is_open (Some e) new some = ap is_open_mark new.0

open_some : (o : Option Entry) → has_open_own o ≡ true → IsSome o
open_some None h = h
open_some (Some e) h = refl

last_some : (o : Option Entry) (m : Mark) → last_of o ≡ Some m → IsSome o
last_some None m h = ap is_some h
last_some (Some e) m h = refl

-- ---- what an edit does above its path

touched_made : (above : Bool) (o : Option Entry) (n : ℕ) (q : PathValue) → last_of (if above then option_map touched o else o) ≡ Some (Made n q) → above ≡ false
touched_made true None n q h = absurd (none_not_made (Made n q) h)
touched_made true (Some e) n q h = absurd (open_not_made n q h)
touched_made false o n q h = refl

touched_own : (above : Bool) (o : Option Entry) → own_of (if above then option_map touched o else o) ≡ own_of o
touched_own true None = refl
touched_own true (Some e) = refl
touched_own false o = refl

touched_shown : (above : Bool) (o : Option Entry) → shown (if above then option_map touched o else o) ≡ shown o
touched_shown true None = refl
touched_shown true (Some e) = refl
touched_shown false o = refl

touched_open : (above : Bool) (o : Option Entry) → has_open_own (if above then option_map touched o else o) ≡ has_open_own o
touched_open true None = refl
touched_open true (Some e) = refl
touched_open false o = refl

touched_opens : (above : Bool) (o : Option Entry) → (has_open_own o ≡ true → has_open_last o ≡ true) → has_open_own (if above then option_map touched o else o) ≡ true → has_open_last (if above then option_map touched o else o) ≡ true
touched_opens true None opens h = h
touched_opens true (Some e) opens h = refl
touched_opens false o opens h = opens h

touched_is : (p : PathValue) (t : Tree) (q : PathValue) → is_at_or_under p q ≡ false → touched_above p t q ≡ t q
touched_is p t q h = ap (λ (b : Bool). if b then option_map touched (t q) else t q) h

pub changed_refl : (o : Option Entry) → is_changed o o ≡ false
changed_refl None = refl
changed_refl (Some e) = ap not (same_mark_refl e.last)

-- ---- the beginning

begun_last : (t : Tree) (q : PathValue) (n : ℕ) (at : PathValue) → last_of (begun t q) ≡ Some (Made n at) → (rest : PathValue) → begun t (q ++ rest) ≡ t (q ++ rest)
begun_last t q n at l rest = touched_is [] t (q ++ rest) (not_above_beneath [] q rest (touched_made (is_at_or_under [] q) (t q) n at l))

pub begun_transaction : (trees : ℕ → Tree) (t : Tree) → MarksName trees t → IsClosed t → IsTransactionOf trees t (begun t)
begun_transaction trees t named closed = record {
  named = record {
    by_last = λ q n at l rest.
        let same = begun_last t q n at l in
        same rest ∙ named.by_last q n at (sym (ap last_of (here q same)) ∙ l) rest;
    by_own = λ q n at o. touched_shown (is_at_or_under [] q) (t q) ∙ named.by_own q n at (sym (touched_own (is_at_or_under [] q) (t q)) ∙ o);
  };
  own_opens_last = λ q h. absurd (false≢true (sym (closed q).0 ∙ sym (touched_open (is_at_or_under [] q) (t q)) ∙ h));
  copied_beneath = λ q n at l changed.
      absurd (false≢true (sym (changed_refl (t q)) ∙ subst (λ o. is_changed (t q) o ≡ true) (here q (begun_last t q n at l)) changed));
}
  where
    here : (q : PathValue) → ((rest : PathValue) → begun t (q ++ rest) ≡ t (q ++ rest)) → begun t q ≡ t q
    here q same = subst (λ (x : PathValue). begun t x ≡ t x) (append-nil q) (same [])

-- ---- an edit of one entry: g makes it anew

abbrev pub renewed : Tree → PathValue → (Option Entry → Option Entry) → Tree
renewed t p g q = if same_path p q then g (t q) else touched_above p t q

module _ (trees : ℕ → Tree) (base t : Tree) (p : PathValue) (g : Option Entry → Option Entry) (new : (o : Option Entry) → IsNew (g o)) (keeps : (o : Option Entry) → IsSome o → IsSome (g o)) (is : IsTransactionOf trees base t) where
  renewed_if : (q : PathValue) (b : Bool) → same_path p q ≡ b → renewed t p g q ≡ (if b then g (t q) else touched_above p t q)
  renewed_if q b h = ap (λ (x : Bool). if x then g (t q) else touched_above p t q) h

  renewed_last : (q : PathValue) (n : ℕ) (at : PathValue) → last_of (renewed t p g q) ≡ Some (Made n at) → (rest : PathValue) → renewed t p g (q ++ rest) ≡ t (q ++ rest)
  renewed_last q n at l rest = by (same_path p q) refl
    where
      by : (b : Bool) → same_path p q ≡ b → renewed t p g (q ++ rest) ≡ t (q ++ rest)
      by true h = absurd (new_last (g (t q)) n at (new (t q)) (sym (ap last_of (renewed_if q true h)) ∙ l))
      by false h =
          let out : is_at_or_under p q ≡ false = touched_made (is_at_or_under p q) (t q) n at (sym (ap last_of (renewed_if q false h)) ∙ l) in
          let beneath : is_at_or_under p (q ++ rest) ≡ false = not_above_beneath p q rest out in
          renewed_if (q ++ rest) false (not_same p (q ++ rest) beneath) ∙ touched_is p t (q ++ rest) beneath

  here : (q : PathValue) → ((rest : PathValue) → renewed t p g (q ++ rest) ≡ t (q ++ rest)) → renewed t p g q ≡ t q
  here q same = subst (λ (x : PathValue). renewed t p g x ≡ t x) (append-nil q) (same [])

  renewed_own : (q : PathValue) (n : ℕ) (at : PathValue) → own_of (renewed t p g q) ≡ Some (Made n at) → shown (renewed t p g q) ≡ shown (trees n at)
  renewed_own q n at o = by (same_path p q) refl
    where
      by : (b : Bool) → same_path p q ≡ b → shown (renewed t p g q) ≡ shown (trees n at)
      by true h = absurd (new_own (g (t q)) n at (new (t q)) (sym (ap own_of (renewed_if q true h)) ∙ o))
      by false h =
          ap shown (renewed_if q false h) ∙ touched_shown (is_at_or_under p q) (t q)
          ∙ is.named.by_own q n at (sym (touched_own (is_at_or_under p q) (t q)) ∙ sym (ap own_of (renewed_if q false h)) ∙ o)

  renewed_opens : (q : PathValue) → has_open_own (renewed t p g q) ≡ true → has_open_last (renewed t p g q) ≡ true
  renewed_opens q = by (same_path p q)
    where
      by : (b : Bool) → has_open_own (if b then g (t q) else touched_above p t q) ≡ true → has_open_last (if b then g (t q) else touched_above p t q) ≡ true
      by true = new_opens (g (t q)) (new (t q))
      by false = touched_opens (is_at_or_under p q) (t q) (is.own_opens_last q)

  stays_open : (q : PathValue) → has_open_own (t q) ≡ true → has_open_own (renewed t p g q) ≡ true
  stays_open q h = by (same_path p q)
    where
      by : (b : Bool) → has_open_own (if b then g (t q) else touched_above p t q) ≡ true
      by true = new_is_open (g (t q)) (new (t q)) (keeps (t q) (open_some (t q) h))
      by false = touched_open (is_at_or_under p q) (t q) ∙ h

  renewed_beneath : (q : PathValue) (n : ℕ) (at : PathValue) → last_of (renewed t p g q) ≡ Some (Made n at) → is_changed (base q) (renewed t p g q) ≡ true → (above : PathValue) × (is_at_or_under q above ≡ true) × (has_open_own (renewed t p g above) ≡ true)
  renewed_beneath q n at l changed =
      let same : renewed t p g q ≡ t q = here q (renewed_last q n at l) in
      let over = is.copied_beneath q n at (sym (ap last_of same) ∙ l) (subst (λ o. is_changed (base q) o ≡ true) same changed) in
      (over.0, over.1, stays_open over.0 over.2)

  pub renewed_transaction : IsTransactionOf trees base (renewed t p g)
  renewed_transaction = record {
    named = record {
      by_last = λ q n at l rest. renewed_last q n at l rest ∙ is.named.by_last q n at (sym (ap last_of (here q (renewed_last q n at l))) ∙ l) rest;
      by_own = renewed_own;
    };
    own_opens_last = renewed_opens;
    copied_beneath = renewed_beneath;
  }

pub added_transaction : (trees : ℕ → Tree) (base t : Tree) (p : PathValue) (content : Content) → IsTransactionOf trees base t → IsTransactionOf trees base (added t p content)
added_transaction trees base t p content is = renewed_transaction trees base t p (λ _. Some (new_entry content)) (λ _. (refl, refl)) (λ _ some. refl) is

pub revised_transaction : (trees : ℕ → Tree) (base t : Tree) (p : PathValue) (f : Entry → Entry) → IsTransactionOf trees base t → IsTransactionOf trees base (revised t p f)
revised_transaction trees base t p f is = renewed_transaction trees base t p (option_map (λ e. with_open_mark (f e))) new keeps is
  where
    new : (o : Option Entry) → IsNew (option_map (λ e. with_open_mark (f e)) o)
    new None = tt
    new (Some e) = (refl, refl)

    keeps : (o : Option Entry) → IsSome o → IsSome (option_map (λ e. with_open_mark (f e)) o)
    keeps None some = some
    keeps (Some e) some = refl

-- ---- an edit of all that is at and under a path

module _ (trees : ℕ → Tree) (base t : Tree) (p : PathValue) (part : Tree) (part_named : MarksName trees part)
    (part_opens : (d : PathValue) → has_open_own (part d) ≡ true → has_open_last (part d) ≡ true)
    (top : (d : PathValue) → IsSome (part d) → has_open_own (part []) ≡ true) (is : IsTransactionOf trees base t) where
  grafted_if : (q : PathValue) (b : Bool) → is_at_or_under q p ≡ b → grafted t p part q ≡ (if b then part (drop (length p) q) else touched_above p t q)
  grafted_if q b h = ap (λ (y : Bool). if y then part (drop (length p) q) else touched_above p t q) h

  -- under the path stands the part
  pub inside : (q rest : PathValue) → is_at_or_under q p ≡ true → grafted t p part (q ++ rest) ≡ part (drop (length p) q ++ rest)
  inside q rest h =
      let at : q ++ rest ≡ p ++ (drop (length p) q ++ rest) = ap (λ (y : PathValue). y ++ rest) (under_is q p h) ∙ append_assoc p (drop (length p) q) rest in
      ap (grafted t p part) at ∙ grafted_if (p ++ (drop (length p) q ++ rest)) true (under_append p (drop (length p) q ++ rest)) ∙ ap part (rest_append p (drop (length p) q ++ rest))

  inside_here : (q : PathValue) → is_at_or_under q p ≡ true → grafted t p part q ≡ part (drop (length p) q)
  inside_here q h = grafted_if q true h

  -- beside it all is as it was
  beside : (q : PathValue) (n : ℕ) (at : PathValue) → is_at_or_under q p ≡ false → last_of (grafted t p part q) ≡ Some (Made n at) → (rest : PathValue) → grafted t p part (q ++ rest) ≡ t (q ++ rest)
  beside q n at h l rest =
      let out : is_at_or_under p q ≡ false = touched_made (is_at_or_under p q) (t q) n at (sym (ap last_of (grafted_if q false h)) ∙ l) in
      grafted_if (q ++ rest) false (apart_beneath p q rest h out) ∙ touched_is p t (q ++ rest) (not_above_beneath p q rest out)

  beside_here : (q : PathValue) (n : ℕ) (at : PathValue) → is_at_or_under q p ≡ false → last_of (grafted t p part q) ≡ Some (Made n at) → grafted t p part q ≡ t q
  beside_here q n at h l = subst (λ (y : PathValue). grafted t p part y ≡ t y) (append-nil q) (beside q n at h l [])

  grafted_last : (q : PathValue) (n : ℕ) (at : PathValue) → last_of (grafted t p part q) ≡ Some (Made n at) → (rest : PathValue) → grafted t p part (q ++ rest) ≡ trees n (at ++ rest)
  grafted_last q n at l rest = by (is_at_or_under q p) refl
    where
      by : (b : Bool) → is_at_or_under q p ≡ b → grafted t p part (q ++ rest) ≡ trees n (at ++ rest)
      by true h = inside q rest h ∙ part_named.by_last (drop (length p) q) n at (sym (ap last_of (inside_here q h)) ∙ l) rest
      by false h = beside q n at h l rest ∙ is.named.by_last q n at (sym (ap last_of (beside_here q n at h l)) ∙ l) rest

  grafted_own : (q : PathValue) (n : ℕ) (at : PathValue) → own_of (grafted t p part q) ≡ Some (Made n at) → shown (grafted t p part q) ≡ shown (trees n at)
  grafted_own q n at o = by (is_at_or_under q p) refl
    where
      by : (b : Bool) → is_at_or_under q p ≡ b → shown (grafted t p part q) ≡ shown (trees n at)
      by true h = ap shown (inside_here q h) ∙ part_named.by_own (drop (length p) q) n at (sym (ap own_of (inside_here q h)) ∙ o)
      by false h =
          ap shown (grafted_if q false h) ∙ touched_shown (is_at_or_under p q) (t q)
          ∙ is.named.by_own q n at (sym (touched_own (is_at_or_under p q) (t q)) ∙ sym (ap own_of (grafted_if q false h)) ∙ o)

  grafted_opens : (q : PathValue) → has_open_own (grafted t p part q) ≡ true → has_open_last (grafted t p part q) ≡ true
  grafted_opens q = by (is_at_or_under q p)
    where
      by : (b : Bool) → has_open_own (if b then part (drop (length p) q) else touched_above p t q) ≡ true → has_open_last (if b then part (drop (length p) q) else touched_above p t q) ≡ true
      by true = part_opens (drop (length p) q)
      by false = touched_opens (is_at_or_under p q) (t q) (is.own_opens_last q)

  -- what was open beside the path still is
  open_beside : (q : PathValue) → is_at_or_under q p ≡ false → has_open_own (t q) ≡ true → has_open_own (grafted t p part q) ≡ true
  open_beside q out h = ap has_open_own (grafted_if q false out) ∙ touched_open (is_at_or_under p q) (t q) ∙ h

  top_open : (d : PathValue) → IsSome (part d) → has_open_own (grafted t p part p) ≡ true
  top_open d some =
      let here : grafted t p part p ≡ part [] = ap (grafted t p part) (sym (append-nil p)) ∙ grafted_if (p ++ []) true (under_append p []) ∙ ap part (rest_append p []) in
      ap has_open_own here ∙ top d some

  grafted_beneath : (q : PathValue) (n : ℕ) (at : PathValue) → last_of (grafted t p part q) ≡ Some (Made n at) → is_changed (base q) (grafted t p part q) ≡ true → (above : PathValue) × (is_at_or_under q above ≡ true) × (has_open_own (grafted t p part above) ≡ true)
  grafted_beneath q n at l changed = by (is_at_or_under q p) refl
    where
      by : (b : Bool) → is_at_or_under q p ≡ b → (above : PathValue) × (is_at_or_under q above ≡ true) × (has_open_own (grafted t p part above) ≡ true)
      by true h = (p, h, top_open (drop (length p) q) (last_some (part (drop (length p) q)) (Made n at) (sym (ap last_of (inside_here q h)) ∙ l)))
      by false h =
          let same : grafted t p part q ≡ t q = beside_here q n at h l in
          let over = is.copied_beneath q n at (sym (ap last_of same) ∙ l) (subst (λ o. is_changed (base q) o ≡ true) same changed) in
          let out : is_at_or_under over.0 p ≡ false = not_true (is_at_or_under over.0 p) (λ u. false≢true (sym h ∙ under_through q over.0 p over.1 u)) in
          (over.0, over.1, open_beside over.0 out over.2)

  pub grafted_transaction : IsTransactionOf trees base (grafted t p part)
  grafted_transaction = record {
    named = record { by_last = grafted_last; by_own = grafted_own };
    own_opens_last = grafted_opens;
    copied_beneath = grafted_beneath;
  }

pub deleted_transaction : (trees : ℕ → Tree) (base t : Tree) (p : PathValue) → IsTransactionOf trees base t → IsTransactionOf trees base (deleted t p)
deleted_transaction trees base t p is =
    grafted_transaction trees base t p (λ _. None)
    (record { by_last = λ q n at l rest. absurd (none_not_made (Made n at) l); by_own = λ q n at o. absurd (none_not_made (Made n at) o) })
    (λ d h. h) (λ d h. h) is

-- ---- a copy

opened_is_new : (o : Option Entry) → IsNew (option_map with_open_mark o)
opened_is_new None = tt
opened_is_new (Some e) = (refl, refl)

opened_some : (o : Option Entry) → IsSome o → IsSome (option_map with_open_mark o)
opened_some None some = some
opened_some (Some e) some = refl

module _ (trees : ℕ → Tree) (source : Tree) (from : PathValue) (named : MarksName trees source) (closed : IsClosed source) where
  copy_last : (d : PathValue) (n : ℕ) (at : PathValue) → last_of (copy_of source from d) ≡ Some (Made n at) → (rest : PathValue) → copy_of source from (d ++ rest) ≡ trees n (at ++ rest)
  copy_last [] n at l rest = absurd (new_last (option_map with_open_mark (source from)) n at (opened_is_new (source from)) l)
  copy_last (c ∷ d) n at l rest = ap source (sym (append_assoc from (c ∷ d) rest)) ∙ named.by_last (from ++ c ∷ d) n at l rest

  copy_own : (d : PathValue) (n : ℕ) (at : PathValue) → own_of (copy_of source from d) ≡ Some (Made n at) → shown (copy_of source from d) ≡ shown (trees n at)
  copy_own [] n at o = absurd (new_own (option_map with_open_mark (source from)) n at (opened_is_new (source from)) o)
  copy_own (c ∷ d) n at o = named.by_own (from ++ c ∷ d) n at o

  copy_opens : (d : PathValue) → has_open_own (copy_of source from d) ≡ true → has_open_last (copy_of source from d) ≡ true
  copy_opens [] = new_opens (option_map with_open_mark (source from)) (opened_is_new (source from))
  copy_opens (c ∷ d) = λ h. absurd (false≢true (sym (closed (from ++ c ∷ d)).0 ∙ h))

  pub copied_transaction : (base t : Tree) (p : PathValue) → IsSome (source from) → IsTransactionOf trees base t → IsTransactionOf trees base (copied source from t p)
  copied_transaction base t p there is =
      grafted_transaction trees base t p (copy_of source from) (record { by_last = copy_last; by_own = copy_own }) copy_opens
      (λ d some. new_is_open (option_map with_open_mark (source from)) (opened_is_new (source from)) (opened_some (source from) there)) is
