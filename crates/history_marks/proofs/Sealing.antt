-- A merge makes of marks that tell of changes the marks of a revision.
use Rattle.std.proofs.Common.{◌≡◌, ◌⊎◌, inl, inr, ℕ, Bool, true, false, not, ◌&&◌, ◌||◌, length, drop, Option, Some, None, option_map, is_some, refl, sym, ap}
use Rattle.std.proofs.{Common.{subst, ◌∙◌}, lemmas.Bool.false≢true}
use Rattle.std.specs.Prelude.{if◌then◌else◌, IsSome}
use Rattle.svnpath.specs.{PathLaws.{same_path_is, under_is}, Paths.{is_at_or_under, PathValue, same_path}}
use Rattle.repo_api.specs.{Changes.Changes, Kinds.created_of, Marks.{has_open_own, last_of, MeetWell, own_of}}
use Rattle.repo_api.specs.Merge.{changed_beneath, closed, has_open_last, is_changed, is_untouched, merged, sealed}
use Rattle.repo_api.specs.{Trees.{is_open_mark, revision_of, same_mark, Tree}, declared.entry.Entry.Entry, declared.entry.Mark.Mark}
use Rattle.repo_api.specs.{declared.entry.Mark.TheVariants.{Open, Made}, declared.change.Action.Action}
use Rattle.repo_api.specs.{declared.change.Action.TheVariants.{Add, Delete, Replace, Modify}, declared.change.Change.Change}
use Rattle.repo_laws.proofs.Naming.{same_mark_refl}
use Rattle.repo_laws.proofs.Merged.{apart, merged_if, to_txn, to_youngest, here, untouched_refl, joined_left, joined_own, sealed_last_open}
use Rattle.traces.specs.Traces.{makes}
use Rattle.history_marks.specs.{Quiet.own_revision, Transactions.{has_made, IsMade, IsMadeAbove, is_left_by, is_add, HasMarksOf, TellsChanges}}
use Rattle.history_marks.proofs.Above.{false_apart}

-- ---- one entry

abbrev revision_in : Option Mark → Option ℕ
revision_in None = None
revision_in (Some m) = revision_of m

created_by : (o : Option Entry) → created_of o ≡ revision_in (last_of o)
created_by None = refl
created_by (Some e) = refl

own_by : (o : Option Entry) → own_revision o ≡ revision_in (own_of o)
own_by None = refl
own_by (Some e) = refl

-- what a change leaves: nothing, if it was no add, or an entry with its `own` open
what_is_left : (a : Action) (o : Option Entry) → is_left_by a o ≡ true → ((o ≡ None) × (is_add a ≡ false)) ⊎ (has_open_own o ≡ true)
what_is_left Add o h = inr h
what_is_left Delete None h = inl (refl, refl)
what_is_left Delete (Some e) h = absurd (false≢true h)
what_is_left Replace o h = inr h
what_is_left Modify o h = inr h

made_leaves : (a : Action) (o : Option Entry) → makes a ≡ true → is_left_by a o ≡ true → has_open_own o ≡ true
made_leaves Add o made h = h
made_leaves Delete o made h = absurd (false≢true made)
made_leaves Replace o made h = h
made_leaves Modify o made h = absurd (false≢true made)

mapped_some : (f : Entry → Entry) (o : Option Entry) → IsSome (option_map f o) → IsSome o
mapped_some f None h = h
mapped_some f (Some e) h = refl

joined_created : (n : ℕ) (p : PathValue) (s o : Option Entry) → has_open_last s ≡ true → IsSome (option_map (changed_beneath n p s) o) → created_of (option_map (changed_beneath n p s) o) ≡ Some n
joined_created n p s None opened some = absurd (false≢true some)
joined_created n p s (Some e) opened some = ap (λ (b : Bool). created_of (Some (if b then record e { last = Made n p } else e))) opened

sealed_created : (n : ℕ) (p : PathValue) (o : Option Entry) → has_open_last o ≡ true → created_of (option_map (sealed n p) o) ≡ Some n
sealed_created n p o opened = created_by (option_map (sealed n p) o) ∙ ap revision_in (sealed_last_open n p o opened)

sealed_own : (n : ℕ) (p : PathValue) (o : Option Entry) → has_open_own o ≡ true → own_revision (option_map (sealed n p) o) ≡ Some n
sealed_own n p None opened = absurd (false≢true opened)
sealed_own n p (Some e) opened = by e.own refl
  where
    by : (m : Mark) → e.own ≡ m → own_revision (option_map (sealed n p) (Some e)) ≡ Some n
    by Open is = ap (λ (m : Mark). revision_of (closed n p m)) is
    by (Made r q) is = absurd (false≢true (sym (ap is_open_mark is) ∙ opened))

shut_differs : (x y : Mark) → is_open_mark x ≡ false → is_open_mark y ≡ true → same_mark x y ≡ false
shut_differs Open y shut opened = absurd (false≢true (sym shut))
shut_differs (Made r p) Open shut opened = refl
shut_differs (Made r p) (Made s q) shut opened = absurd (false≢true opened)

-- an entry whose own mark was opened was not left alone
open_is_touched : (a s : Option Entry) → has_open_own a ≡ false → has_open_own s ≡ true → is_untouched a s ≡ false
open_is_touched a None shut opened = absurd (false≢true opened)
open_is_touched None (Some s) shut opened = refl
open_is_touched (Some a) (Some s) shut opened = ap (λ (b : Bool). b && (same_mark a.last s.last || is_open_mark s.last)) (shut_differs a.own s.own shut opened)

abbrev mark_or : Mark → Option Mark → Mark
mark_or m None = m
mark_or m (Some x) = x

same_last : (a s : Option Entry) → IsSome a → IsSome s → last_of s ≡ last_of a → is_changed a s ≡ false
same_last None s some_a some_s same = absurd (false≢true some_a)
same_last (Some a) None some_a some_s same = absurd (false≢true some_s)
same_last (Some a) (Some s) some_a some_s same = ap (λ (m : Mark). not (same_mark a.last m)) (ap (mark_or s.last) same) ∙ ap not (same_mark_refl a.last)

opened_beneath : (a s : Option Entry) → IsSome a → own_of s ≡ own_of a → has_open_last s ≡ true → is_untouched a s ≡ true
opened_beneath a None some_a same opened = absurd (false≢true opened)
opened_beneath None (Some s) some_a same opened = absurd (false≢true some_a)
opened_beneath (Some a) (Some s) some_a same opened =
    ap (λ (m : Mark). same_mark a.own m && (same_mark a.last s.last || is_open_mark s.last)) (ap (mark_or s.own) same)
    ∙ ap (λ (b : Bool). b && (same_mark a.last s.last || is_open_mark s.last)) (same_mark_refl a.own)
    ∙ ap (λ (b : Bool). same_mark a.last s.last || b) opened
    ∙ or_true (same_mark a.last s.last)
  where
    or_true : (b : Bool) → (b || true) ≡ true
    or_true true = refl
    or_true false = refl

-- ---- all paths

module _ (trees : ℕ → Tree) (n b y : ℕ) (txn : Tree) (w : MeetWell trees b txn y) (cs : Changes) (tells : TellsChanges (trees b) txn cs) where
  abbrev base : Tree
  base = trees b

  abbrev youngest : Tree
  youngest = trees y

  abbrev result : Tree
  result = merged n base txn youngest

  left_alone : (p : PathValue) → is_untouched (base p) (txn p) ≡ true → result p ≡ option_map (changed_beneath n p (txn p)) (youngest p)
  left_alone p h = merged_if n base txn youngest p true h

  touched_by : (p : PathValue) → is_untouched (base p) (txn p) ≡ false → result p ≡ option_map (sealed n p) (txn p)
  touched_by p h = merged_if n base txn youngest p false h

  -- what was opened is of the new revision
  opened_is_new : (p : PathValue) → has_open_last (txn p) ≡ true → IsSome (result p) → created_of (result p) ≡ Some n
  opened_is_new p opened some = by (is_untouched (base p) (txn p)) refl
    where
      by : (u : Bool) → is_untouched (base p) (txn p) ≡ u → created_of (result p) ≡ Some n
      by true h = ap created_of (left_alone p h) ∙ joined_created n p (txn p) (youngest p) opened (subst IsSome (left_alone p h) some)
      by false h = ap created_of (touched_by p h) ∙ sealed_created n p (txn p) opened

  own_is_new : (p : PathValue) → has_open_own (txn p) ≡ true → own_revision (result p) ≡ Some n
  own_is_new p opened =
      ap own_revision (touched_by p (open_is_touched (base p) (txn p) (w.marked.closed b p).0 opened)) ∙ sealed_own n p (txn p) opened

  left_at : (p : PathValue) (c : Change) → cs p ≡ Some c → ((txn p ≡ None) × (is_add c.action ≡ false)) ⊎ (has_open_own (txn p) ≡ true)
  left_at p c is = what_is_left c.action (txn p) (tells.at p c is)

  made_open : (p : PathValue) → has_made (cs p) ≡ true → has_open_own (txn p) ≡ true
  made_open p made = by (cs p) refl made
    where
      by : (o : Option Change) → cs p ≡ o → has_made o ≡ true → has_open_own (txn p) ≡ true
      by None is h = absurd (false≢true h)
      by (Some c) is h = made_leaves c.action (txn p) h (tells.at p c is)

  -- beneath what the transaction made the others changed nothing
  above_unchanged : (above p : PathValue) → has_open_own (txn above) ≡ true → is_at_or_under p above ≡ true → base p ≡ youngest p
  above_unchanged above p own under =
      let same : is_changed (base above) (youngest above) ≡ false =
      apart (base above) (txn above) (youngest above) own (w.is_of.own_opens_last above own) (w.marked.closed b above).0 (w.marked.closed b above).1 (w.no_conflict above) in
      subst (λ (q : PathValue). base q ≡ youngest q) (sym (under_is p above under)) (to_youngest trees n b y txn w above same (drop (length above) p))

  -- what was deleted is gone
  deleted_is_gone : (p : PathValue) (c : Change) → cs p ≡ Some c → txn p ≡ None → is_add c.action ≡ false → result p ≡ None
  deleted_is_gone p c is none other = from (tells.stood p c is other)
    where
      seals : IsSome (base p) → result p ≡ None
      seals some = touched_by p (lost (base p) (txn p) some none) ∙ ap (option_map (sealed n p)) none
        where
          lost : (a s : Option Entry) → IsSome a → s ≡ None → is_untouched a s ≡ false
          lost None s some h = absurd (false≢true some)
          lost (Some a) s some h = ap (is_untouched (Some a)) h

      stays : base p ≡ youngest p → (o : Option Entry) → base p ≡ o → result p ≡ None
      stays same (Some e) h = seals (ap is_some h)
      stays same None h =
          left_alone p (ap (λ (o : Option Entry). is_untouched o (txn p)) h ∙ ap (is_untouched None) none)
          ∙ ap (option_map (changed_beneath n p (txn p))) (sym same ∙ h)

      from : IsSome (base p) ⊎ IsMadeAbove cs p → result p ≡ None
      from (inl some) = seals some
      from (inr made) = stays (above_unchanged made.0 p (made_open made.0 made.2) made.1.0) (base p) refl

  gone_at : (p : PathValue) (c : Change) → cs p ≡ Some c → (txn p ≡ None) × (is_add c.action ≡ false) → IsSome (result p) → ⊥
  gone_at p c is left some = false≢true (sym (ap is_some (deleted_is_gone p c is left.0 left.1)) ∙ some)

  -- a change is in the `last` of what lies at or above it
  pub merged_by_last : (p q : PathValue) (c : Change) → cs q ≡ Some c → is_at_or_under q p ≡ true → IsSome (result p) → created_of (result p) ≡ Some n
  merged_by_last p q c is under some = by (same_path p q) refl
    where
      at_it : p ≡ q → ((txn q ≡ None) × (is_add c.action ≡ false)) ⊎ (has_open_own (txn q) ≡ true) → created_of (result p) ≡ Some n
      at_it same (inl left) = absurd (gone_at q c is left (subst (λ (x : PathValue). IsSome (result x)) same some))
      at_it same (inr own) = opened_is_new p (subst (λ (x : PathValue). has_open_last (txn x) ≡ true) (sym same) (w.is_of.own_opens_last q own)) some

      by : (b : Bool) → same_path p q ≡ b → created_of (result p) ≡ Some n
      by true same = at_it (same_path_is p q same) (left_at q c is)
      by false other = opened_is_new p (tells.above p q (ap is_some is) (under, false_apart p q other)) some

  -- and in the `own` of what lies at it
  pub merged_by_own : (q : PathValue) (c : Change) → cs q ≡ Some c → IsSome (result q) → own_revision (result q) ≡ Some n
  merged_by_own q c is some = by (left_at q c is)
    where
      by : ((txn q ≡ None) × (is_add c.action ≡ false)) ⊎ (has_open_own (txn q) ≡ true) → own_revision (result q) ≡ Some n
      by (inl left) = absurd (gone_at q c is left some)
      by (inr own) = own_is_new q own

  -- what has the base's `last` was left alone
  same_is_alone : (p : PathValue) → IsSome (base p) → IsSome (txn p) → last_of (txn p) ≡ last_of (base p) → is_untouched (base p) (txn p) ≡ true
  same_is_alone p some_a some_s same =
      let one : base p ≡ txn p = here trees n b y txn w base txn p (to_txn trees n b y txn w p (same_last (base p) (txn p) some_a some_s same)) in
      subst (λ (o : Option Entry). is_untouched (base p) o ≡ true) one (untouched_refl (base p))

  -- what nothing made has the youngest revision's marks, or new ones
  pub merged_keeps_last : (p : PathValue) → (IsMade cs p → ⊥) → IsSome (result p) → (created_of (result p) ≡ Some n) ⊎ (created_of (result p) ≡ created_of (youngest p))
  merged_keeps_last p not_made some = by (is_untouched (base p) (txn p)) refl
    where
      beneath : is_untouched (base p) (txn p) ≡ true → (h : Bool) → has_open_last (txn p) ≡ h → (created_of (result p) ≡ Some n) ⊎ (created_of (result p) ≡ created_of (youngest p))
      beneath u true h = inl (opened_is_new p h some)
      beneath u false h = inr (ap created_of (left_alone p u ∙ joined_left n p (txn p) (youngest p) h))

      ours : is_untouched (base p) (txn p) ≡ false → IsSome (txn p) → IsMade cs p ⊎ HasMarksOf (base p) (txn p) → (created_of (result p) ≡ Some n) ⊎ (created_of (result p) ≡ created_of (youngest p))
      ours u there (inl made) = absurd (not_made made)
      ours u there (inr marks) = from marks.last
        where
          from : (has_open_last (txn p) ≡ true) ⊎ (last_of (txn p) ≡ last_of (base p)) → (created_of (result p) ≡ Some n) ⊎ (created_of (result p) ≡ created_of (youngest p))
          from (inl opened) = inl (opened_is_new p opened some)
          from (inr same) = absurd (false≢true (sym u ∙ same_is_alone p marks.there there same))

      by : (u : Bool) → is_untouched (base p) (txn p) ≡ u → (created_of (result p) ≡ Some n) ⊎ (created_of (result p) ≡ created_of (youngest p))
      by true u = beneath u (has_open_last (txn p)) refl
      by false u =
          let there : IsSome (txn p) = mapped_some (sealed n p) (txn p) (subst IsSome (touched_by p u) some) in
          ours u there (tells.kept p there)

  pub merged_keeps_own : (p : PathValue) → (IsMade cs p → ⊥) → IsSome (result p) → (own_revision (result p) ≡ Some n) ⊎ (own_revision (result p) ≡ own_revision (youngest p))
  merged_keeps_own p not_made some = by (is_untouched (base p) (txn p)) refl
    where
      ours : is_untouched (base p) (txn p) ≡ false → IsSome (txn p) → IsMade cs p ⊎ HasMarksOf (base p) (txn p) → (own_revision (result p) ≡ Some n) ⊎ (own_revision (result p) ≡ own_revision (youngest p))
      ours u there (inl made) = absurd (not_made made)
      ours u there (inr marks) = from marks.own marks.last
        where
          from : (has_open_own (txn p) ≡ true) ⊎ (own_of (txn p) ≡ own_of (base p)) → (has_open_last (txn p) ≡ true) ⊎ (last_of (txn p) ≡ last_of (base p))
              → (own_revision (result p) ≡ Some n) ⊎ (own_revision (result p) ≡ own_revision (youngest p))
          from (inl opened) last = inl (own_is_new p opened)
          from (inr same) (inl opened) = absurd (false≢true (sym u ∙ opened_beneath (base p) (txn p) marks.there same opened))
          from (inr same) (inr last) = absurd (false≢true (sym u ∙ same_is_alone p marks.there there last))

      by : (u : Bool) → is_untouched (base p) (txn p) ≡ u → (own_revision (result p) ≡ Some n) ⊎ (own_revision (result p) ≡ own_revision (youngest p))
      by true u =
          inr (ap own_revision (left_alone p u) ∙ own_by (option_map (changed_beneath n p (txn p)) (youngest p)) ∙ ap revision_in (joined_own n p (txn p) (youngest p))
          ∙ sym (own_by (youngest p)))
      by false u =
          let there : IsSome (txn p) = mapped_some (sealed n p) (txn p) (subst IsSome (touched_by p u) some) in
          ours u there (tells.kept p there)
