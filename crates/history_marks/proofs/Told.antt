-- The marks of open transactions tell of their changes.
use Rattle.std.proofs.Common.{◌≡◌, ℕ, Bool, true, false, [], Option, Some, None, option_map, refl, sym, ap, subst, append-nil, ◌∙◌}
use Rattle.std.specs.Prelude.{List, if◌then◌else◌, IsSome, IsSomeAnd, IsTrue}
use Rattle.svnpath.specs.{PathLaws.under_itself, Paths.{is_at_or_under, PathValue}}
use Rattle.repo_api.specs.Changes.{after_property, after_text, Changes, changes_after, noted_delete}
use Rattle.repo_api.specs.{Edits.{begun, deleted, edited, touched, touched_above, with_text, with_value, without_value}, RightEdits.{IsRightEdit, IsVacant}}
use Rattle.repo_api.specs.States.{changes_of, IsBeginning, IsBegun, IsEdited, RepoState, Revision, tree_of, trees_in, TxnState, youngest}
use Rattle.repo_api.specs.{Trees.{is_directory, IsTree, Tree}, declared.entry.Entry.Entry, declared.edit.EditOp.EditOp}
use Rattle.repo_api.specs.declared.edit.EditOp.TheVariants.{AddDirectory, AddFile, Copy, Replace, Delete, SetProperty, RemoveProperty, SetText}
use Rattle.repo_api.specs.declared.entry.Content.TheVariants as contents
use Rattle.repo_laws.proofs.Revisions.{beginning_keeps}
use Rattle.history_marks.specs.Transactions.{IsBeneath, TellsChanges, IsToldTxn}
use Rattle.history_marks.proofs.{Above.{not_over, stands_above, parents_stand}, Telling.{begun_tells, added_tells, revised_tells, deleted_tells, copied_tells}}

-- ---- edits of trees

some_and : (P : Entry → Type 0) (o : Option Entry) → IsSomeAnd o P → IsSome o
some_and P None h = absurd h
some_and P (Some e) h = refl

-- what stands above a path stays when that is deleted
above_stays : (t : Tree) (p : PathValue) → ((above : PathValue) → IsBeneath p above → IsSome (t above)) → (above : PathValue) → IsBeneath p above → IsSome (deleted t p above)
above_stays t p stands above beneath =
    subst IsSome (sym (ap (λ (b : Bool). if b then None else touched_above p t above) (not_over p above beneath)))
    (some_touched (is_at_or_under p above) (t above) (stands above beneath))
  where
    some_touched : (b : Bool) (o : Option Entry) → IsSome o → IsSome (if b then option_map touched o else o)
    some_touched true None some = some
    some_touched true (Some e) some = refl
    some_touched false o some = some

deleted_there : (t : Tree) (p : PathValue) → deleted t p p ≡ None
deleted_there t p = ap (λ (b : Bool). if b then None else touched_above p t p) (under_itself p)

-- nothing stands at a vacant path
nothing_at : (t : Tree) (p : PathValue) → IsVacant t p → t p ≡ None
nothing_at t p vacant = ap t (sym (append-nil p)) ∙ vacant []

pub edit_tells : (trees : ℕ → Tree) (base t : Tree) (cs : Changes) (op : EditOp)
    → IsTree t → IsRightEdit trees t op → TellsChanges base t cs → TellsChanges base (edited trees t op) (changes_after cs op)
edit_tells trees base t cs (AddDirectory p) tree right tells =
    added_tells base t cs tells p (parents_stand t p tree right.0) (nothing_at t p right.1) contents.Directory
edit_tells trees base t cs (AddFile p) tree right tells =
    added_tells base t cs tells p (parents_stand t p tree right.0) (nothing_at t p right.1) (contents.File [])
edit_tells trees base t cs (Copy source p) tree right tells =
    copied_tells base t cs tells p (parents_stand t p tree right.0) (nothing_at t p right.1) source (trees source.revision) right.2
edit_tells trees base t cs (Replace source p) tree right tells =
    copied_tells base (deleted t p) (noted_delete cs p) (deleted_tells base t cs tells p (parents_stand t p tree right.0) right.1) p
    (above_stays t p (parents_stand t p tree right.0)) (deleted_there t p) source (trees source.revision) right.2
edit_tells trees base t cs (Delete p) tree right tells =
    deleted_tells base t cs tells p (parents_stand t p tree right.0) right.1
edit_tells trees base t cs (SetProperty p name value) tree right tells =
    revised_tells base t cs tells p (λ above beneath. stands_above t p above tree right beneath.0) right (with_value name value) after_property refl (λ c. refl)
edit_tells trees base t cs (RemoveProperty p name) tree right tells =
    revised_tells base t cs tells p (λ above beneath. stands_above t p above tree right beneath.0) right (without_value name) after_property refl (λ c. refl)
edit_tells trees base t cs (SetText p text) tree right tells =
    let there : IsSome (t p) = some_and (λ e. is_directory e ≡ false) (t p) right.0 in
    revised_tells base t cs tells p (λ above beneath. stands_above t p above tree there beneath.0) there (with_text text) after_text refl (λ c. refl)

-- ---- transactions

-- what tells by every path tells
pub tells_alike : (base after t u : Tree) (cs now : Changes) → ((p : PathValue) → base p ≡ after p) → ((p : PathValue) → t p ≡ u p) → ((p : PathValue) → cs p ≡ now p)
    → TellsChanges base t cs → TellsChanges after u now
tells_alike base after t u cs now base_is tree_is changes_are tells =
    let a : TellsChanges after t cs = subst (λ (x : Tree). TellsChanges x t cs) (λ i p. base_is p i) tells in
    let b : TellsChanges after u cs = subst (λ (x : Tree). TellsChanges after x cs) (λ i p. tree_is p i) a in
    subst (λ (x : Changes). TellsChanges after u x) (λ i p. changes_are p i) b

-- at the transaction's own base, among the revisions that it was shown
told_at : (t : TxnState) (shown : List Revision) (base : ℕ) → t.shown ≡ shown → t.base ≡ base
    → TellsChanges (trees_in shown base) (tree_of t.tree) (changes_of t.changes) → IsToldTxn t
told_at t shown base shown_is base_is tells =
    tells_alike (trees_in shown base) (trees_in t.shown t.base) (tree_of t.tree) (tree_of t.tree) (changes_of t.changes) (changes_of t.changes)
    (λ p. ap (λ (rs : List Revision). trees_in rs base p) (sym shown_is) ∙ ap (λ (n : ℕ). trees_in t.shown n p) (sym base_is))
    (λ p. refl) (λ p. refl) tells

pub begun_told : (c : RepoState) (t : TxnState) → IsBegun c t → IsToldTxn t
begun_told c t b =
    let base : Tree = trees_in c.revisions (youngest c) in
    told_at t c.revisions (youngest c) b.shown b.base
    (tells_alike base base (begun base) (tree_of t.tree) (changes_of t.changes) (changes_of t.changes) (λ p. refl) (λ p. sym (b.tree p)) (λ p. refl)
    (begun_tells base (changes_of t.changes) b.changes))

-- the base stays where revisions are added
pub same_base : (old new : List Revision) (n : ℕ) → IsBeginning old new → IsTree (trees_in old n) → (p : PathValue) → trees_in old n p ≡ trees_in new n p
same_base old new n b tree p = sym (beginning_keeps old new b n [] (some_and (λ e. IsTrue (is_directory e)) (trees_in old n []) tree.root) p)

pub edited_told : (shown : List Revision) (old : TxnState) (op : EditOp) (new : TxnState)
    → IsBeginning old.shown shown → IsTree (trees_in old.shown old.base) → IsTree (tree_of old.tree)
    → IsRightEdit (trees_in shown) (tree_of old.tree) op → IsEdited shown old op new → IsToldTxn old → IsToldTxn new
edited_told shown old op new b base_tree tree right e told =
    let base : Tree = trees_in shown old.base in
    let now : TellsChanges base (tree_of old.tree) (changes_of old.changes) =
    tells_alike (trees_in old.shown old.base) base (tree_of old.tree) (tree_of old.tree) (changes_of old.changes) (changes_of old.changes)
    (same_base old.shown shown old.base b base_tree) (λ p. refl) (λ p. refl) told in
    told_at new shown old.base e.shown_now e.base
    (tells_alike base base (edited (trees_in shown) (tree_of old.tree) op) (tree_of new.tree) (changes_after (changes_of old.changes) op) (changes_of new.changes)
    (λ p. refl) (λ p. sym (e.tree p)) (λ p. sym (e.changes p))
    (edit_tells (trees_in shown) base (tree_of old.tree) (changes_of old.changes) op tree right now))
