-- What a commit of a transaction's tree makes, as the map of the definitions.
use Rattle.std.proofs.{Common.{◌≡◌, ℕ, Bool, true, false, ◌&&◌, ◌||◌, Option, Some, None, option_map, refl, sym, ap, subst, ◌∙◌}, lemmas.Bool.false≢true}
use Rattle.std.specs.Prelude.{if◌then◌else◌, Err}
use Rattle.svnpath.specs.Paths.{PathValue}
use Rattle.repo_api.specs.{Edits.touched, Marks.{AreMarked, IsTransactionOf, own_of, shown}}
use Rattle.repo_api.specs.Merge.{has_open_last, HasNoConflict, is_in_conflict, is_untouched, merged, merged_entry}
use Rattle.repo_api.specs.{MergeLaws.{conflict_is, get_merged_map, no_conflict_is}, MergedMaps.{has_conflict, merged_map}, Properties.PropertyList}
use Rattle.repo_api.specs.{States.TreeMap, Trees.{is_open_mark, same_mark, Tree}, declared.entry.Content.Content, declared.entry.Entry.Entry}
use Rattle.repo_api.specs.{declared.entry.Mark.Mark, declared.entry.Mark.TheVariants.{Open, Made}}
use Rattle.repo_laws.proofs.{MergeLaws.{untouched_own, same_look}, Naming.same_mark_is}
use Rattle.treemerge.specs.{Merges.{IsTold, IfConflict}, declared.merging.MergeFault.MergeFault}
use Rattle.treemerge.specs.declared.merging.MergeFault.TheVariants as merges
use Rattle.txntree.specs.declared.tree.TxnTree.{TxnTree}
use Rattle.shared_revisions.specs.{Committing.{commit_fault, conflicts, IsMerge}, Maps.IsMapOf, declared.committing.CommitFault.CommitFault}
use Rattle.shared_revisions.specs.declared.held.Held.{Held}

-- maps of three trees
module _ (n : ℕ) (a s t : Tree) (ma ms mt : TreeMap) (isa : IsMapOf a ma) (iss : IsMapOf s ms)
    (ist : IsMapOf t mt) where
  pub merged_is : (new : Tree) → ((q : PathValue) → new q ≡ merged n a s t q)
      → IsMapOf new (merged_map n ma ms mt)
  merged_is new is p = get_merged_map n ma ms mt p
      ∙ (λ i. merged_entry n p (isa p i) (iss p i) (ist p i)) ∙ sym (is p)

  pub clean_is : HasNoConflict a s t → has_conflict ma ms mt ≡ false
  clean_is none =
      no_conflict_is ma ms mt (λ p. (λ i. is_in_conflict (isa p i) (iss p i) (ist p i)) ∙ none p)

  pub conflict_at : (p : PathValue) → is_in_conflict (a p) (s p) (t p) ≡ true
      → has_conflict ma ms mt ≡ true
  conflict_at p is =
      conflict_is ma ms mt p ((λ i. is_in_conflict (isa p i) (iss p i) (ist p i)) ∙ is)

-- ---- where a transaction left an entry it is the old one, but for `last`

abbrev pair_or : Content × PropertyList → Option (Content × PropertyList) → Content × PropertyList
pair_or d None = d
pair_or d (Some x) = x

both_of : (b c : Bool) → (b && c) ≡ true → (b ≡ true) × (c ≡ true)
both_of true c h = (refl, h)
both_of false c h = absurd (false≢true h)

open_is : (m : Mark) → is_open_mark m ≡ true → m ≡ Open
open_is Open h = refl
open_is (Made r p) h = absurd (false≢true h)

left_alone : (a s : Entry) → shown (Some a) ≡ shown (Some s)
    → (same_mark a.own s.own && (same_mark a.last s.last || is_open_mark s.last)) ≡ true
    → Some s ≡ (if is_open_mark s.last then Some (touched a) else Some a)
left_alone a s look h = by (is_open_mark s.last) refl
  where
    both : (same_mark a.own s.own ≡ true)
        × ((same_mark a.last s.last || is_open_mark s.last) ≡ true)
    both = both_of (same_mark a.own s.own) (same_mark a.last s.last || is_open_mark s.last) h

    own : s.own ≡ a.own
    own = sym (same_mark_is a.own s.own both.0)

    parts : ◌≡◌ {A = Content × PropertyList} (s.content, s.properties) (a.content, a.properties)
    parts = sym (ap (pair_or (a.content, a.properties)) look)

    or_false : (b : Bool) → (b || false) ≡ true → b ≡ true
    or_false true e = refl
    or_false false e = e

    by : (b : Bool) → is_open_mark s.last ≡ b → Some s ≡ (if b then Some (touched a) else Some a)
    by true e =
        let last : s.last ≡ Open = open_is s.last e in
        λ i. Some
        (record { content = (parts i).0; properties = (parts i).1; own = own i; last = last i })
    by false e =
        let last : s.last ≡ a.last =
        sym (same_mark_is a.last s.last
        (or_false (same_mark a.last s.last)
        (ap (λ b. same_mark a.last s.last || b) (sym e) ∙ both.1))) in
        λ i. Some
        (record { content = (parts i).0; properties = (parts i).1; own = own i; last = last i })

pub told : (trees : ℕ → Tree) (b : ℕ) (txn : Tree) → AreMarked trees
    → IsTransactionOf trees (trees b) txn → IsTold (trees b) txn
told trees b txn marked is_of q = by (trees b q) (txn q) refl refl
  where
    by : (a s : Option Entry) → trees b q ≡ a → txn q ≡ s → is_untouched a s ≡ true
        → s ≡ (if has_open_last s then option_map touched a else a)
    by None None ea es h = refl
    by None (Some s) ea es h = absurd (false≢true h)
    by (Some a) None ea es h = absurd (false≢true h)
    by (Some a) (Some s) ea es h =
        let own : own_of (trees b q) ≡ own_of (txn q) = ap own_of ea
        ∙ untouched_own (Some a) (Some s) h ∙ sym (ap own_of es) in
        let look : shown (Some a) ≡ shown (Some s) =
        sym (ap shown ea)
        ∙ same_look trees (trees b) txn q (marked.named b) is_of.named (marked.closed b q).0 own
        ∙ ap shown es in
        left_alone a s look h

-- ---- a merge that was refused

pub refused_merge : (h : Held) (base : ℕ) (m : TreeMap) (P : PathValue → Type 0)
    (fault : MergeFault) (answer : CommitFault) → answer ≡ commit_fault fault
    → ((p : PathValue) → P p → conflicts h base m ≡ true)
    → IfConflict {T = TxnTree} (Err fault) P → IsMerge (Err answer) h base m
refused_merge h base m P fault answer is means at =
    subst (λ f. IsMerge (Err f) h base m) (sym is) (by fault at)
  where
    by : (f : MergeFault) → IfConflict {T = TxnTree} (Err f) P → IsMerge (Err (commit_fault f)) h base m
    by (merges.Conflict p) at = means p at
    by merges.NoMemory at = tt
