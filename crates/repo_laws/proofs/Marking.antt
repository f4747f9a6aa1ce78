-- Marks name what they mark, whatever is done.
use Rattle.std.proofs.{Common.{◌≡◌, ℕ, Bool, true, false, [], Option, Some, None, is_some, refl, sym, ap, subst, ◌∙◌}, lemmas.Bool.{false≢true, eqb-true}}
use Rattle.std.proofs.lemmas.Cmp.{nat_eq_equiv}
use Rattle.std.specs.Prelude.{if◌then◌else◌, IsSome, ◌==◌}
use Rattle.svnpath.specs.Paths.{PathValue}
use Rattle.repo_api.specs.Edits.{deleted, edited, with_text, with_value, without_value}
use Rattle.repo_api.specs.{Marks.{AreMarked, HasSource, IsClosed, IsFree, IsTransactionOf, KeepsTrees, MarksName, MeetWell, with_tree}, Merge.merged}
use Rattle.repo_api.specs.{Trees.{HasDirectory, IsTree, Tree}, declared.entry.Entry.Entry, declared.edit.EditOp.EditOp}
use Rattle.repo_api.specs.declared.edit.EditOp.TheVariants.{AddDirectory, AddFile, Copy, Replace, Delete, SetProperty, RemoveProperty, SetText}
use Rattle.repo_api.specs.declared.entry.Content.TheVariants as contents
use Rattle.repo_laws.proofs.{Naming.named_later, Merged.{merged_named, merged_closed}}
use Rattle.repo_laws.proofs.Edited.{added_transaction, revised_transaction, deleted_transaction, copied_transaction}

none_or_some : (o : Option Entry) → o ≡ None → IsSome o → ⊥
none_or_some o none some = false≢true (sym (ap is_some none) ∙ some)

-- a new revision changes none that is there
pub new_keeps : (trees : ℕ → Tree) (n : ℕ) (t : Tree) → IsFree trees n → KeepsTrees trees (with_tree trees n t)
new_keeps trees n t free k p some q = by (k == n) refl
  where
    by : (b : Bool) → (k == n) ≡ b → (if b then t else trees k) q ≡ trees k q
    by true e = absurd (none_or_some (trees k p) (ap (λ (m : ℕ). trees m p) (eqb-true k n e) ∙ free p) some)
    by false e = refl

pub new_is : (trees : ℕ → Tree) (n : ℕ) (t : Tree) (q : PathValue) → with_tree trees n t n q ≡ t q
new_is trees n t q = ap (λ (b : Bool). (if b then t else trees n) q) (nat_eq_equiv.refl n)

-- a new revision whose closed marks name what they mark
pub marked_more : (trees : ℕ → Tree) (n : ℕ) (t : Tree) → IsFree trees n → AreMarked trees → MarksName (with_tree trees n t) t → IsClosed t → AreMarked (with_tree trees n t)
marked_more trees n t free marked named closed = record { closed = λ k. shut k (k == n); named = λ k. name k (k == n) }
  where
    shut : (k : ℕ) (b : Bool) → IsClosed (if b then t else trees k)
    shut k true = closed
    shut k false = marked.closed k

    name : (k : ℕ) (b : Bool) → MarksName (with_tree trees n t) (if b then t else trees k)
    name k true = named
    name k false = named_later trees (with_tree trees n t) (trees k) (new_keeps trees n t free) (marked.named k)

pub merge_marks : (trees : ℕ → Tree) (n base youngest : ℕ) (txn : Tree) → IsFree trees n → MeetWell trees base txn youngest → AreMarked (with_tree trees n (merged n (trees base) txn (trees youngest)))
merge_marks trees n base youngest txn free w =
    let result : Tree = merged n (trees base) txn (trees youngest) in
    marked_more trees n result free w.marked
    (merged_named trees n base youngest txn w (with_tree trees n result) (new_keeps trees n result free) (new_is trees n result))
    (merged_closed trees n base youngest txn w)

-- an open transaction goes on where revisions are added
pub transaction_later : (old new : ℕ → Tree) (base : ℕ) (txn : Tree) → KeepsTrees old new → IsTree (old base) → IsTransactionOf old (old base) txn → IsTransactionOf new (new base) txn
transaction_later old new base txn keeps tree is =
    let same : (p : PathValue) → old base p ≡ new base p = λ p. sym (keeps base [] (root_some (old base []) tree.root) p) in
    subst (λ (t : Tree). IsTransactionOf new t txn) (λ i p. same p i)
    (record { named = named_later old new txn keeps is.named; own_opens_last = is.own_opens_last; copied_beneath = is.copied_beneath })
  where
    root_some : (o : Option Entry) → HasDirectory (λ _. o) [] → IsSome o
    root_some None dir = absurd dir
    root_some (Some e) dir = refl

pub edit_marks : (trees : ℕ → Tree) (base t : Tree) (op : EditOp) → AreMarked trees → HasSource trees op → IsTransactionOf trees base t → IsTransactionOf trees base (edited trees t op)
edit_marks trees base t (AddDirectory p) marked source is = added_transaction trees base t p contents.Directory is
edit_marks trees base t (AddFile p) marked source is = added_transaction trees base t p (contents.File []) is
edit_marks trees base t (Replace source p) marked there is =
    copied_transaction trees (trees source.revision) source.path (marked.named source.revision) (marked.closed source.revision) base (deleted t p) p there (deleted_transaction trees base t p is)
edit_marks trees base t (Copy source p) marked there is = copied_transaction trees (trees source.revision) source.path (marked.named source.revision) (marked.closed source.revision) base t p there is
edit_marks trees base t (Delete p) marked source is = deleted_transaction trees base t p is
edit_marks trees base t (SetProperty p name value) marked source is = revised_transaction trees base t p (with_value name value) is
edit_marks trees base t (RemoveProperty p name) marked source is = revised_transaction trees base t p (without_value name) is
edit_marks trees base t (SetText p text) marked source is = revised_transaction trees base t p (with_text text) is
