-- A commit while nobody else commits.
use Rattle.std.proofs.{Common.{◌≡◌, ℕ, Bool, true, false, ◌&&◌, not, Option, Some, None, option_map, is_some, refl, sym, ap, ◌∙◌}, lemmas.Bool.false≢true}
use Rattle.std.specs.Prelude.{if◌then◌else◌, IsSome}
use Rattle.svnpath.specs.Paths.{PathValue}
use Rattle.repo_api.specs.Marks.{has_open_own, last_of, MeetWell, own_of, shown}
use Rattle.repo_api.specs.Merge.{changed_beneath, has_open_last, HasNoConflict, is_changed, is_one_directory, is_untouched, merged, sealed}
use Rattle.repo_api.specs.{Properties.PropertyList, Trees.{is_open_mark, Tree}, declared.entry.Entry.Entry, declared.entry.Content.Content}
use Rattle.repo_api.specs.{declared.entry.Mark.Mark, declared.entry.Mark.TheVariants.Made}
use Rattle.repo_laws.proofs.{Edited.changed_refl, Merged.{merged_if, to_txn, here, left_unchanged, sealed_shut, sealed_shown, sealed_own_shut}}
use Rattle.repo_laws.proofs.{Merged.{sealed_last_open, joined_left, joined_shown, joined_own}, MergeLaws.{untouched_own, same_look}}

never_both : (b c d : Bool) → c ≡ false → ((b && c) && d) ≡ false
never_both true c d h = ap (λ x. x && d) h
never_both false c d h = refl

-- nothing conflicts where the base is the youngest
pub no_conflict_alone : (base txn : Tree) → HasNoConflict base txn base
no_conflict_alone base txn p = never_both (is_changed (base p) (txn p)) (is_changed (base p) (base p)) (not (is_one_directory (base p) (txn p) (base p))) (changed_refl (base p))

abbrev shown_or : Content × PropertyList → Option (Content × PropertyList) → Content × PropertyList
shown_or x None = x
shown_or x (Some y) = y

abbrev mark_or : Mark → Option Mark → Mark
mark_or x None = x
mark_or x (Some y) = y

same_entry : (x y : Option Entry) → shown x ≡ shown y → own_of x ≡ own_of y → last_of x ≡ last_of y → x ≡ y
same_entry None None s o l = refl
same_entry None (Some f) s o l = absurd (false≢true (ap is_some o))
same_entry (Some e) None s o l = absurd (false≢true (sym (ap is_some o)))
same_entry (Some e) (Some f) s o l =
    let look = ap (shown_or (e.content, e.properties)) s in
    let own = ap (mark_or e.own) o in
    let last = ap (mark_or e.last) l in
    λ i. Some (record { content = (look i).0; properties = (look i).1; own = own i; last = last i })

shut_own : (x s : Option Entry) → own_of x ≡ own_of s → has_open_own x ≡ false → has_open_own s ≡ false
shut_own x None same h = refl
shut_own None (Some s) same h = absurd (false≢true (ap is_some same))
shut_own (Some x) (Some s) same h = let e : x.own ≡ s.own = cc in sym (ap is_open_mark e) ∙ h

-- an open `last` on a present entry
joined_last : (n : ℕ) (p : PathValue) (s o : Option Entry) → has_open_last s ≡ true → IsSome o → last_of (option_map (changed_beneath n p s) o) ≡ Some (Made n p)
joined_last n p s None h some = absurd (false≢true some)
joined_last n p s (Some t) h some = ap (λ (b : Bool). Some (if b then record t { last = Made n p } else t).last) h

open_last_some : (o : Option Entry) → has_open_last o ≡ true → IsSome o
open_last_some None h = h
open_last_some (Some e) h = refl

some_by_own : (x s : Option Entry) → own_of x ≡ own_of s → IsSome s → IsSome x
some_by_own None None same some = some
some_by_own None (Some s) same some = ap is_some same
some_by_own (Some x) s same some = refl

-- the merge with the base itself seals the transaction
module _ (trees : ℕ → Tree) (n b : ℕ) (txn : Tree) (w : MeetWell trees b txn b) where
  pub merged_alone : (p : PathValue) → merged n (trees b) txn (trees b) p ≡ option_map (sealed n p) (txn p)
  merged_alone p = by (is_untouched (trees b p) (txn p)) refl
    where
      joins : is_untouched (trees b p) (txn p) ≡ true → (h : Bool) → has_open_last (txn p) ≡ h → option_map (changed_beneath n p (txn p)) (trees b p) ≡ option_map (sealed n p) (txn p)
      joins e false h =
          let same : trees b p ≡ txn p = here trees n b b txn w (trees b) txn p (to_txn trees n b b txn w p (left_unchanged (trees b p) (txn p) e h)) in
          joined_left n p (txn p) (trees b p) h ∙ same ∙ sym (sealed_shut n p (txn p) (sym (ap has_open_own same) ∙ (w.marked.closed b p).0) h)
      joins e true h =
          let own : own_of (trees b p) ≡ own_of (txn p) = untouched_own (trees b p) (txn p) e in
          let shut : has_open_own (trees b p) ≡ false = (w.marked.closed b p).0 in
          same_entry (option_map (changed_beneath n p (txn p)) (trees b p)) (option_map (sealed n p) (txn p))
          (joined_shown n p (txn p) (trees b p) ∙ same_look trees (trees b) txn p (w.marked.named b) w.is_of.named shut own ∙ sym (sealed_shown n p (txn p)))
          (joined_own n p (txn p) (trees b p) ∙ own ∙ sym (sealed_own_shut n p (txn p) (shut_own (trees b p) (txn p) own shut)))
          (joined_last n p (txn p) (trees b p) h (some_by_own (trees b p) (txn p) own (open_last_some (txn p) h)) ∙ sym (sealed_last_open n p (txn p) h))

      by : (u : Bool) → is_untouched (trees b p) (txn p) ≡ u → merged n (trees b) txn (trees b) p ≡ option_map (sealed n p) (txn p)
      by true e = merged_if n (trees b) txn (trees b) p true e ∙ joins e (has_open_last (txn p)) refl
      by false e = merged_if n (trees b) txn (trees b) p false e
