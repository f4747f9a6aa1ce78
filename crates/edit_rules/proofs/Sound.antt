-- What keeps an edit sound.
use Rattle.std.proofs.Common.{◌≡◌, inl, inr, ◌||◌, ℕ, ◌==◌, Bool, true, false, not, is_some, List, [], ◌++◌, Option, Some, None, refl, sym, ap, subst, ◌∙◌}
use Rattle.std.proofs.lemmas.List.Elements.{All-nil, All-weaker}
use Rattle.std.specs.{Prelude.{if◌then◌else◌, Ok}, List.All, BTreeMap.is_at, FinMap.get, Cmp.Lexicographic.{slice_cmp, pointwise, texts_ties}, Ordering.nat_cmp}
use Rattle.svnpath.specs.{Paths.{is_at_or_under, PathValue}, Texts.joined}
use Rattle.svndiff0.specs.Applying.{fed}
use Rattle.refusals.specs.declared.Refusal.{Refusal}
use Rattle.refusals.specs.declared.Refusal.TheVariants as refusals
use Rattle.repo_api.specs.{EditLaws.grafted_over, Edits.{begun, copied, copy_of, edited, grafted, with_text, with_value, without_value}, Kinds.kind_at}
use Rattle.repo_api.specs.{Marks.{AreMarked, HasSource}, RightEdits.IsRightEdit, Soundness.{AreSound, AreTrees}}
use Rattle.repo_api.specs.States.{IsBeginning, IsBegun, IsEdited, RepoState, Revision, tree_at, tree_of, trees_in, TxnState, youngest}
use Rattle.repo_api.specs.{Transactions.IsMarkedTxn, Trees.{HasDirectory, HasFile, IsTree, Tree}, declared.change.Source.Source}
use Rattle.repo_api.specs.{declared.entry.NodeKind.NodeKind, declared.edit.EditOp.EditOp}
use Rattle.repo_api.specs.declared.entry.NodeKind.TheVariants as kinds
use Rattle.repo_api.specs.declared.entry.Content.TheVariants as contents
use Rattle.repo_api.specs.declared.edit.EditOp.TheVariants as edits
use Rattle.wire_edits.specs.{declared.editing.EditorCommand.EditorCommand, declared.editing.EditorCommand.TheVariants.{TargetRevision, OpenRoot, DeleteEntry}}
use Rattle.wire_edits.specs.declared.editing.EditorCommand.TheVariants.{AddDirectory, AddFile, OpenDirectory, OpenFile, AbsentDirectory, AbsentFile}
use Rattle.wire_edits.specs.declared.editing.EditorCommand.TheVariants.{ChangeDirectoryProperty, ChangeFileProperty, ApplyTextDelta, TextDeltaChunk}
use Rattle.wire_edits.specs.declared.editing.EditorCommand.TheVariants.{TextDeltaEnd, CloseDirectory, CloseFile, CloseEdit, AbortEdit}
use Rattle.wire_edits.specs.{declared.editing.AddedEntry.AddedEntry, declared.editing.OpenedEntry.OpenedEntry, declared.editing.DeletedEntry.DeletedEntry}
use Rattle.wire_edits.specs.declared.editing.PropertyChange.{PropertyChange}
use Rattle.edit_rules.specs.Tokens.{Tokens, with_token, without_token, with_change, opened_under, path_of, copies_under, closed_beneath}
use Rattle.edit_rules.specs.{Edits.{EditState, standing, created, open_in}, Refusing.{unless, directory_refusal, add_refusal, age_refusal, file_refusal}}
use Rattle.edit_rules.specs.Refusing.{opening_refusal, place_refusal, source_of, room_refusal, source_refusal, adding_refusal, open_root_refusal, before_root}
use Rattle.edit_rules.specs.Refusing.{delete_entry_refusal, add_entry_refusal, open_directory_refusal, open_file_refusal, begin_delta_refusal, edit_refusal}
use Rattle.edit_rules.specs.{Refusing.command_refusal, Editor.{OpensRoot, Edits, Named, Opens, opened_directory, copy_edit, added_edit, added_opened}}
use Rattle.edit_rules.specs.Editor.{tokens_added, Adds, ChangesProperty, property_edit, unread, BeginsDelta, FeedsDelta, EndsDelta, Closes, Applies, RestsIn}
use Rattle.edit_rules.specs.{Editor.RestsOn, Soundness.{StandsIn, IsSoundIn, IsSoundEdit, IsRightIn}, declared.opened.OpenedDirectory.OpenedDirectory}
use Rattle.edit_rules.specs.{declared.opened.Opened.Opened, declared.opened.Opened.TheVariants.{Directory, File}}
use Rattle.edit_rules.specs.declared.opened.DeltaState.TheVariants.{NotBegun, Reading, Ended}
use Rattle.repo_laws.proofs.Standing.{source_there}
use Rattle.svndiff0.proofs.Documents.{fed_more}
use Rattle.edit_rules.proofs.Standing.{OfOpened, all_inserted, all_removed, all_changed, all_kept, IsNewOr, all_with_new, found_under, StandsAs, stays_same}
use Rattle.edit_rules.proofs.Standing.{stays_begun, stays_added, new_stands, stays_revised, stays_renewed, stays_written, stays_outside, copy_stands}
use Rattle.edit_rules.proofs.Standing.{directory_there, first_none, file_there, nothing_there, tree_there, stands_some, named_none, begins_at, new_token}
use Rattle.edit_rules.proofs.{Standing.right_source, Right.{right_delete, right_add, right_property, right_text}}

-- ---- what each command keeps, where the transaction stays as it is

no_tokens : (path : PathValue) (txn : Option TxnState) (tokens : Tokens) → IsSoundIn path txn tokens → unless (not (is_some txn)) refusals.MalformedData ≡ None → tokens ≡ []
no_tokens path None tokens sound e = sound
no_tokens path (Some t) tokens sound e = cc

opened_directory_in : (path : PathValue) (txn : Option TxnState) (tokens : Tokens) (token : List ℕ) (d : OpenedDirectory) → IsSoundIn path txn tokens → directory_refusal (standing txn d.path) ≡ None → IsSoundIn path txn (with_token tokens token (Directory d))
opened_directory_in path None tokens token d sound e = cc
opened_directory_in path (Some t) tokens token d sound e =
    (sound.0, all_inserted (StandsIn (tree_of t.tree)) (slice_cmp nat_cmp) tokens token (Directory d) (directory_there (get t.tree d.path) e) sound.1, sound.2, sound.3)

opened_file_in : (path : PathValue) (txn : Option TxnState) (tokens : Tokens) (token : List ℕ) (p : PathValue) (age : Option Refusal) → IsSoundIn path txn tokens → file_refusal (standing txn p) age ≡ None → IsSoundIn path txn (with_token tokens token (File p NotBegun))
opened_file_in path None tokens token p age sound e = cc
opened_file_in path (Some t) tokens token p age sound e =
    (sound.0, all_inserted (StandsIn (tree_of t.tree)) (slice_cmp nat_cmp) tokens token (File p NotBegun) (file_there (get t.tree p) age e, tt) sound.1, sound.2, sound.3)

closed_in : (path : PathValue) (txn : Option TxnState) (tokens : Tokens) (token : List ℕ) → IsSoundIn path txn tokens → IsSoundIn path txn (without_token tokens token)
closed_in path None tokens token sound = ap (λ (ts : Tokens). without_token ts token) sound
closed_in path (Some t) tokens token sound = (sound.0, all_removed (StandsIn (tree_of t.tree)) (is_at (slice_cmp nat_cmp token)) tokens sound.1, sound.2, sound.3)

-- something else is open under a token, and stands where what was open there did
changed_in : (path : PathValue) (txn : Option TxnState) (tokens : Tokens) (token : List ℕ) (o o' : Opened) → opened_under tokens token ≡ Some o → ((t : Tree) → StandsIn t o → StandsIn t o') → IsSoundIn path txn tokens → IsSoundIn path txn (with_change tokens token o')
changed_in path None tokens token o o' at stands sound = ap (λ (ts : Tokens). with_change ts token o') sound
changed_in path (Some t) tokens token o o' at stands sound =
    let u : Tree = tree_of t.tree in
    (sound.0, all_changed (StandsIn u) (is_at (slice_cmp nat_cmp token)) tokens o' (stands u (found_under (StandsIn u) tokens token o sound.1 at)) sound.1, sound.2, sound.3)

begun_delta_in : (path : PathValue) (txn : Option TxnState) (tokens : Tokens) (token : List ℕ) (e : EditState) (checksum : Option (List ℕ)) (o : Opened) (base : List ℕ) → begin_delta_refusal e checksum (open_in txn tokens token) ≡ None → opened_under tokens token ≡ Some o → IsSoundIn path txn tokens → IsSoundIn path txn (with_change tokens token (File (path_of o) (Reading (unread base))))
begun_delta_in path None tokens token e checksum o base none at sound = cc
begun_delta_in path (Some t) tokens token e checksum o base none at sound =
    let here : begin_delta_refusal e checksum (Some o) ≡ None = subst (λ (x : Option Opened). begin_delta_refusal e checksum x ≡ None) at none in
    changed_in path (Some t) tokens token o (File (path_of o) (Reading (unread base))) at (λ u h. (begins_at u e checksum o here h, ([], refl))) sound

not_refused : (refused : Bool) (o : Option Refusal) → (if refused then Some refusals.EditAborted else o) ≡ None → o ≡ None
not_refused true o e = cc
not_refused false o e = e

opens_directory : (old new : EditState) (entry : OpenedEntry) → IsSoundEdit old → open_directory_refusal old entry (joined old.path entry.path) ≡ None → Named old entry.path (λ p. Opens old entry.token (Directory (opened_directory p entry.revision (copies_under old.tokens entry.parent))) new) → IsSoundEdit new
opens_directory old new entry sound none (p, named, is) =
    let here : open_directory_refusal old entry (Ok p) ≡ None = named_none (open_directory_refusal old entry) (joined old.path entry.path) p named none in
    let kind = first_none (opening_refusal old entry.parent entry.token p) (directory_refusal (standing old.txn p)) here in
    subst IsSoundEdit (sym is) (opened_directory_in old.path old.txn old.tokens entry.token (opened_directory p entry.revision (copies_under old.tokens entry.parent)) sound kind.1)

opens_file : (old new : EditState) (entry : OpenedEntry) → IsSoundEdit old → open_file_refusal old entry (joined old.path entry.path) ≡ None → Named old entry.path (λ p. Opens old entry.token (File p NotBegun) new) → IsSoundEdit new
opens_file old new entry sound none (p, named, is) =
    let age : Option Refusal = age_refusal entry.revision (created old.txn p) in
    let here : open_file_refusal old entry (Ok p) ≡ None = named_none (open_file_refusal old entry) (joined old.path entry.path) p named none in
    let kind = first_none (place_refusal old entry.parent entry.token p) (file_refusal (standing old.txn p) age) here in
    subst IsSoundEdit (sym is) (opened_file_in old.path old.txn old.tokens entry.token p age sound kind.1)

begins_delta : (old new : EditState) (token : List ℕ) (checksum : Option (List ℕ)) → IsSoundEdit old → begin_delta_refusal old checksum (open_in old.txn old.tokens token) ≡ None → BeginsDelta ⊥ old token new → IsSoundEdit new
begins_delta old new token checksum sound none (o, at, (base, read, is)) =
    subst IsSoundEdit (sym is) (begun_delta_in old.path old.txn old.tokens token old checksum o base none at sound)

feeds_delta : (old new : EditState) (token bytes : List ℕ) → IsSoundEdit old → FeedsDelta old token bytes new → IsSoundEdit new
feeds_delta old new token bytes sound (p, a, at, is) =
    subst IsSoundEdit (sym is) (changed_in old.path old.txn old.tokens token (File p (Reading a)) (File p (Reading (fed a bytes))) at (λ t h. (h.0, (h.1.0 ++ bytes, fed_more a h.1.0 bytes h.1.1))) sound)

closes : (old new : EditState) (token : List ℕ) → IsSoundEdit old → Closes old token new → IsSoundEdit new
closes old new token sound is = subst IsSoundEdit (sym is) (closed_in old.path old.txn old.tokens token sound)

unchanged : (old new : EditState) → IsSoundEdit old → new ≡ old → IsSoundEdit new
unchanged old new sound is = subst IsSoundEdit (sym is) sound

-- ---- what each command keeps that edits the transaction

module _ (begins : (t : Tree) → IsTree t → IsTree (begun t))
    (keeps : (revisions : List Revision) (t : Tree) (op : EditOp) → AreTrees revisions → IsTree t → IsRightEdit (trees_in revisions) t op → IsTree (edited (trees_in revisions) t op))
    (same : (t u : Tree) → ((p : PathValue) → t p ≡ u p) → IsTree t → IsTree u)
    (begins_marked : (c : RepoState) (t : TxnState) → AreMarked (trees_in c.revisions) → IsTree (trees_in c.revisions (youngest c)) → IsBegun c t → IsMarkedTxn t)
    (stays_marked : (shown : List Revision) (old : TxnState) (op : EditOp) (new : TxnState) → AreMarked (trees_in shown) → IsBeginning old.shown shown → HasSource (trees_in shown) op → IsMarkedTxn old → IsEdited shown old op new → IsMarkedTxn new) where
  opens_root : (c : RepoState) (old new : EditState) (revision : Option ℕ) (token : List ℕ) → AreSound c.revisions → IsSoundEdit old → open_root_refusal c old ≡ None → OpensRoot c old revision token new → IsSoundEdit new
  opens_root c old new revision token trees sound none o =
      let f = first_none (before_root old) (directory_refusal (kind_at c (youngest c) old.path)) none in
      let t : Tree = tree_of (tree_at c (youngest c)) in
      let u : Tree = tree_of o.txn.tree in
      let alike : (p : PathValue) → begun t p ≡ u p = λ p. sym (o.begun.tree p) in
      let base : IsTree t = tree_there c.revisions (youngest c) old.path trees.0 f.1 in
      let stands : HasDirectory t old.path = directory_there (t old.path) f.1 in
      let here : HasDirectory u old.path = subst (StandsAs true) (alike old.path) (stays_begun t old.path stands) in
      let none_open : All (OfOpened (StandsIn u)) old.tokens = subst (λ (ts : Tokens). All (OfOpened (StandsIn u)) ts) (sym (no_tokens old.path old.txn old.tokens sound f.0)) (All-nil (OfOpened (StandsIn u))) in
      subst IsSoundEdit (sym o.is) (
        same (begun t) u alike (begins t base),
        all_inserted (StandsIn u) (slice_cmp nat_cmp) old.tokens token (Directory (opened_directory old.path revision false)) here none_open,
        begins_marked c o.txn trees.1 base o.begun,
        base.right old.path (stands_some true (t old.path) stands),
      )

  -- the transaction was sound before
  before : (c : RepoState) (old new : EditState) (op : EditOp) (tokens : Tokens) (a : Edits c old op tokens new) → IsSoundEdit old → IsSoundIn old.path (Some a.before) old.tokens
  before c old new op tokens a sound = subst (λ (o : Option TxnState). IsSoundIn old.path o old.tokens) a.had sound

  -- an edit is sound afterwards where what is made of its transaction may be made of it, and what is open then stands in it
  after : (c : RepoState) (old new : EditState) (op : EditOp) (tokens : Tokens) (a : Edits c old op tokens new) → AreSound c.revisions → RestsOn old c → IsSoundEdit old → IsRightIn c old.txn op → All (OfOpened (StandsIn (edited (trees_in c.revisions) (tree_of a.before.tree) op))) tokens → IsSoundEdit new
  after c old new op tokens a trees rests sound right all =
      let t : Tree = edited (trees_in c.revisions) (tree_of a.before.tree) op in
      let u : Tree = tree_of a.after.tree in
      let alike : (p : PathValue) → t p ≡ u p = λ p. sym (a.edited.tree p) in
      let s = before c old new op tokens a sound in
      let may : IsRightEdit (trees_in c.revisions) (tree_of a.before.tree) op = subst (λ (o : Option TxnState). IsRightIn c o op) a.had right in
      subst IsSoundEdit (sym a.is) (
        same t u alike (keeps c.revisions (tree_of a.before.tree) op trees.0 s.0 may),
        All-weaker (OfOpened (StandsIn t)) (OfOpened (StandsIn u)) (λ e h. stays_same t u alike e.1 h) tokens all,
        stays_marked c.revisions a.before op a.after trees.1 (subst (λ (o : Option TxnState). RestsIn o c) a.had rests) (source_there (trees_in c.revisions) (tree_of a.before.tree) op may) s.2 a.edited,
        s.3,
      )

  deletes_entry : (c : RepoState) (old new : EditState) (entry : DeletedEntry) → AreSound c.revisions → RestsOn old c → IsSoundEdit old → delete_entry_refusal old entry (joined old.path entry.path) ≡ None → Named old entry.path (λ p. Edits c old (edits.Delete p) (closed_beneath old.tokens p) new) → IsSoundEdit new
  deletes_entry c old new entry trees rests sound none (p, named, a) =
      let t : Tree = tree_of a.before.tree in
      let s = before c old new (edits.Delete p) (closed_beneath old.tokens p) a sound in
      let here : delete_entry_refusal old entry (Ok p) ≡ None = named_none (delete_entry_refusal old entry) (joined old.path entry.path) p named none in
      let all : All (OfOpened (StandsIn (edited (trees_in c.revisions) t (edits.Delete p)))) (closed_beneath old.tokens p) =
      all_kept (OfOpened (StandsIn t)) (OfOpened (StandsIn (edited (trees_in c.revisions) t (edits.Delete p)))) (λ e. not (is_at_or_under (path_of e.1) p)) (λ e kept h. stays_outside t (λ _. None) p e.1 kept h) old.tokens s.1 in
      after c old new (edits.Delete p) (closed_beneath old.tokens p) a trees rests sound (right_delete c old entry p sound here) all

  -- something new is added where nothing stands
  adds_directory : (c : RepoState) (old new : EditState) (token : List ℕ) (p : PathValue) (a : Edits c old (edits.AddDirectory p) (with_token old.tokens token (Directory (opened_directory p None false))) new)
      → AreSound c.revisions → RestsOn old c → IsSoundEdit old → IsRightIn c old.txn (edits.AddDirectory p) → tree_of a.before.tree p ≡ None → IsSoundEdit new
  adds_directory c old new token p a trees rests sound right free =
      let op : EditOp = edits.AddDirectory p in
      let opening : Opened = Directory (opened_directory p None false) in
      let tokens : Tokens = with_token old.tokens token opening in
      let t : Tree = tree_of a.before.tree in
      let s = before c old new op tokens a sound in
      let others : All (OfOpened (StandsIn (edited (trees_in c.revisions) t op))) old.tokens = All-weaker (OfOpened (StandsIn t)) (OfOpened (StandsIn (edited (trees_in c.revisions) t op))) (λ e h. stays_added t p contents.Directory free e.1 h) old.tokens s.1 in
      after c old new op tokens a trees rests sound right (all_inserted (StandsIn (edited (trees_in c.revisions) t op)) (slice_cmp nat_cmp) old.tokens token opening (new_stands t p contents.Directory) others)

  adds_file : (c : RepoState) (old new : EditState) (token : List ℕ) (p : PathValue) (a : Edits c old (edits.AddFile p) (with_token old.tokens token (File p NotBegun)) new)
      → AreSound c.revisions → RestsOn old c → IsSoundEdit old → IsRightIn c old.txn (edits.AddFile p) → tree_of a.before.tree p ≡ None → IsSoundEdit new
  adds_file c old new token p a trees rests sound right free =
      let op : EditOp = edits.AddFile p in
      let tokens : Tokens = with_token old.tokens token (File p NotBegun) in
      let t : Tree = tree_of a.before.tree in
      let s = before c old new op tokens a sound in
      let others : All (OfOpened (StandsIn (edited (trees_in c.revisions) t op))) old.tokens = All-weaker (OfOpened (StandsIn t)) (OfOpened (StandsIn (edited (trees_in c.revisions) t op))) (λ e h. stays_added t p (contents.File []) free e.1 h) old.tokens s.1 in
      after c old new op tokens a trees rests sound right (all_inserted (StandsIn (edited (trees_in c.revisions) t op)) (slice_cmp nat_cmp) old.tokens token (File p NotBegun) (new_stands t p (contents.File []), tt) others)

  adds_new : (is_file : Bool) (kind : NodeKind) (c : RepoState) (old new : EditState) (token : List ℕ) (p : PathValue)
      (a : Edits c old (added_edit is_file kind p None) (with_token old.tokens token (added_opened is_file p None)) new)
      → AreSound c.revisions → RestsOn old c → IsSoundEdit old → IsRightIn c old.txn (added_edit is_file kind p None) → tree_of a.before.tree p ≡ None → IsSoundEdit new
  adds_new true kind = adds_file
  adds_new false kind = adds_directory

  -- a copy, and what was open beneath it is closed
  copy_is : (trees : ℕ → Tree) (t : Tree) (kind : NodeKind) (source : Source) (p q : PathValue) → copied (trees source.revision) source.path t p q ≡ edited trees t (copy_edit kind p source) q
  copy_is trees t kinds.Absent source p q = refl
  copy_is trees t kinds.File source p q = sym (grafted_over t (copy_of (trees source.revision) source.path) p q)
  copy_is trees t kinds.Directory source p q = sym (grafted_over t (copy_of (trees source.revision) source.path) p q)

  opened_copy : (t : Tree) (is_file : Bool) (p : PathValue) (source : Source) → StandsAs (not is_file) (t p) → StandsIn t (added_opened is_file p (Some source))
  opened_copy t true p source h = (h, tt)
  opened_copy t false p source h = h

  path_of_added : (is_file : Bool) (p : PathValue) (source : Option Source) → path_of (added_opened is_file p source) ≡ p
  path_of_added true p source = refl
  path_of_added false p source = refl

  adds_copy : (is_file : Bool) (kind : NodeKind) (c : RepoState) (old new : EditState) (token : List ℕ) (p : PathValue) (source : Source)
      (a : Edits c old (copy_edit kind p source) (tokens_added old.tokens token (added_opened is_file p (Some source)) (Some source)) new)
      → AreSound c.revisions → RestsOn old c → IsSoundEdit old → IsRightIn c old.txn (copy_edit kind p source) → opened_under old.tokens token ≡ None
      → StandsAs (not is_file) (trees_in c.revisions source.revision source.path) → IsSoundEdit new
  adds_copy is_file kind c old new token p source a trees rests sound right is_new stands =
      let op : EditOp = copy_edit kind p source in
      let opening : Opened = added_opened is_file p (Some source) in
      let tokens : Tokens = tokens_added old.tokens token opening (Some source) in
      let t : Tree = tree_of a.before.tree in
      let part : Tree = copy_of (trees_in c.revisions source.revision) source.path in
      let u : Tree = edited (trees_in c.revisions) t op in
      let s = before c old new op tokens a sound in
      let is : (q : PathValue) → copied (trees_in c.revisions source.revision) source.path t p q ≡ u q = copy_is (trees_in c.revisions) t kind source p in
      let top : StandsAs (not is_file) (u p) = subst (StandsAs (not is_file)) (is p) (copy_stands (trees_in c.revisions source.revision) source.path t p (not is_file) stands) in
      let here : StandsIn u opening = opened_copy u is_file p source top in
      let each : All (IsNewOr (StandsIn t) (StandsIn u) (is_at (slice_cmp nat_cmp token))) (with_token old.tokens token opening) = all_with_new (StandsIn t) (StandsIn u) (slice_cmp nat_cmp) old.tokens token opening is_new here s.1 in
      let all : All (OfOpened (StandsIn u)) tokens =
      all_kept (IsNewOr (StandsIn t) (StandsIn u) (is_at (slice_cmp nat_cmp token))) (OfOpened (StandsIn u)) (λ e. pointwise ◌==◌ token e.0 || not (is_at_or_under (path_of e.1) (path_of opening)))
      (λ e kept h. stays_beside t u part p token e (path_of opening) (path_of_added is_file p (Some source)) is kept h) (with_token old.tokens token opening) each in
      after c old new op tokens a trees rests sound right all
    where
      stays_beside : (t u part : Tree) (p : PathValue) (token : List ℕ) (e : List ℕ × Opened) (at : PathValue) → at ≡ p → ((q : PathValue) → grafted t p part q ≡ u q)
          → pointwise ◌==◌ token e.0 || not (is_at_or_under (path_of e.1) at) ≡ true
          → IsNewOr (StandsIn t) (StandsIn u) (is_at (slice_cmp nat_cmp token)) e → StandsIn u e.1
      stays_beside t u part p token e at is_at_p is kept (inl h) = h
      stays_beside t u part p token e at is_at_p is kept (inr (other, h)) =
          stays_same (grafted t p part) u is e.1 (stays_outside t part p e.1 outside h)
        where
          outside : not (is_at_or_under (path_of e.1) p) ≡ true
          outside = ap (λ (r : PathValue). not (is_at_or_under (path_of e.1) r)) (sym is_at_p) ∙ ap (λ (b : Bool). b || not (is_at_or_under (path_of e.1) at)) (sym (texts_ties token e.0 ∙ other)) ∙ kept

  adds_by : (is_file : Bool) (c : RepoState) (old new : EditState) (entry : AddedEntry) (p : PathValue) (source : Option Source)
      (a : Edits c old (added_edit is_file (standing old.txn p) p source) (tokens_added old.tokens entry.token (added_opened is_file p source) source) new)
      → AreSound c.revisions → RestsOn old c → IsSoundEdit old → IsRightIn c old.txn (added_edit is_file (standing old.txn p) p source)
      → place_refusal old entry.parent entry.token p ≡ None → adding_refusal c old is_file entry p source ≡ None → IsSoundEdit new
  adds_by is_file c old new entry p None a trees rests sound right place none =
      adds_new is_file (standing old.txn p) c old new entry.token p a trees rests sound right
      (nothing_there (get a.before.tree p) (subst (λ (o : Option TxnState). add_refusal (standing o p) ≡ None) a.had none))
  adds_by is_file c old new entry p (Some source) a trees rests sound right place none =
      let source_none = first_none (room_refusal (copies_under old.tokens entry.parent) (standing old.txn p)) (source_refusal c is_file p source) none in
      adds_copy is_file (standing old.txn p) c old new entry.token p source a trees rests sound right
      (new_token old entry.parent entry.token p place) (right_source c is_file p source source_none.1).0

  adds_entry : (is_file : Bool) (c : RepoState) (old new : EditState) (entry : AddedEntry) → AreSound c.revisions → RestsOn old c → IsSoundEdit old
      → add_entry_refusal c old is_file entry (joined old.path entry.path) (source_of old.name entry.source) ≡ None → Adds c old is_file entry new → IsSoundEdit new
  adds_entry is_file c old new entry trees rests sound none a =
      let here : add_entry_refusal c old is_file entry (Ok a.path) (Ok a.source) ≡ None = sym (λ i. add_entry_refusal c old is_file entry (a.is_path i) (a.is_source i)) ∙ none in
      let place = first_none (place_refusal old entry.parent entry.token a.path) (adding_refusal c old is_file entry a.path a.source) here in
      adds_by is_file c old new entry a.path a.source a.edits trees rests sound (right_add c old is_file entry a.path a.source sound a.is_path here) place.0 place.1

  stays_with_property : (trees : ℕ → Tree) (t : Tree) (p : PathValue) (name : List ℕ) (value : Option (List ℕ)) (o : Opened) → StandsIn t o → StandsIn (edited trees t (property_edit p name value)) o
  stays_with_property trees t p name None o h = stays_revised t p (without_value name) (λ kind. stays_renewed (without_value name) (λ e. refl) kind (t p)) o h
  stays_with_property trees t p name (Some value) o h = stays_revised t p (with_value name value) (λ kind. stays_renewed (with_value name value) (λ e. refl) kind (t p)) o h

  -- what is open in a transaction is open
  in_transaction : (old : EditState) (t : TxnState) (token : List ℕ) (o : Opened) → old.txn ≡ Some t → opened_under old.tokens token ≡ Some o → open_in old.txn old.tokens token ≡ Some o
  in_transaction old t token o had at = subst (λ (x : Option TxnState). open_in x old.tokens token ≡ Some o) (sym had) at

  changes_property : (c : RepoState) (old new : EditState) (change : PropertyChange) → AreSound c.revisions → RestsOn old c → IsSoundEdit old → ChangesProperty c old change new → IsSoundEdit new
  changes_property c old new change trees rests sound (o, at, a) =
      let op : EditOp = property_edit (path_of o) change.name change.value in
      let t : Tree = tree_of a.before.tree in
      let s = before c old new op old.tokens a sound in
      after c old new op old.tokens a trees rests sound (right_property c old change.token o change.name change.value sound (in_transaction old a.before change.token o a.had at))
      (All-weaker (OfOpened (StandsIn t)) (OfOpened (StandsIn (edited (trees_in c.revisions) t op))) (λ e h. stays_with_property (trees_in c.revisions) t (path_of o) change.name change.value e.1 h) old.tokens s.1)

  -- the text goes to a path where a file is open, and so stands
  ends_delta : (c : RepoState) (old new : EditState) (token : List ℕ) → AreSound c.revisions → RestsOn old c → IsSoundEdit old → EndsDelta c old token new → IsSoundEdit new
  ends_delta c old new token trees rests sound (p, r, at, (text, is_text, a)) =
      let op : EditOp = edits.SetText p text in
      let tokens : Tokens = with_change old.tokens token (File p Ended) in
      let t : Tree = tree_of a.before.tree in
      let s = before c old new op tokens a sound in
      let file : HasFile t p = (found_under (StandsIn t) old.tokens token (File p (Reading r)) s.1 at).0 in
      let stays : (o : Opened) → StandsIn t o → StandsIn (edited (trees_in c.revisions) t op) o = stays_revised t p (with_text text) (λ kind. stays_written text kind (t p) file) in
      let others : All (OfOpened (StandsIn (edited (trees_in c.revisions) t op))) old.tokens = All-weaker (OfOpened (StandsIn t)) (OfOpened (StandsIn (edited (trees_in c.revisions) t op))) (λ e h. stays e.1 h) old.tokens s.1 in
      after c old new op tokens a trees rests sound (right_text c old token op sound (p, r, in_transaction old a.before token (File p (Reading r)) a.had at, (text, is_text, refl)))
      (all_changed (StandsIn (edited (trees_in c.revisions) t op)) (is_at (slice_cmp nat_cmp token)) old.tokens (File p Ended) (stays (File p Ended) (file, tt)) others)

  by_command : (c : RepoState) (old new : EditState) (command : EditorCommand) → AreSound c.revisions → RestsOn old c → IsSoundEdit old → command_refusal c old command ≡ None → Applies ⊥ c old command new → IsSoundEdit new
  by_command c old new (TargetRevision revision) trees rests sound none applies = unchanged old new sound applies
  by_command c old new (OpenRoot revision token) trees rests sound none applies = opens_root c old new revision token trees sound none applies
  by_command c old new (DeleteEntry entry) trees rests sound none applies = deletes_entry c old new entry trees rests sound none applies
  by_command c old new (AddDirectory entry) trees rests sound none applies = adds_entry false c old new entry trees rests sound none applies
  by_command c old new (AddFile entry) trees rests sound none applies = adds_entry true c old new entry trees rests sound none applies
  by_command c old new (OpenDirectory entry) trees rests sound none applies = opens_directory old new entry sound none applies
  by_command c old new (OpenFile entry) trees rests sound none applies = opens_file old new entry sound none applies
  by_command c old new (AbsentDirectory entry) trees rests sound none applies = unchanged old new sound applies
  by_command c old new (AbsentFile entry) trees rests sound none applies = unchanged old new sound applies
  by_command c old new (ChangeDirectoryProperty change) trees rests sound none applies = changes_property c old new change trees rests sound applies
  by_command c old new (ChangeFileProperty change) trees rests sound none applies = changes_property c old new change trees rests sound applies
  by_command c old new (ApplyTextDelta token checksum) trees rests sound none applies = begins_delta old new token checksum sound none applies
  by_command c old new (TextDeltaChunk token bytes) trees rests sound none applies = feeds_delta old new token bytes sound applies
  by_command c old new (TextDeltaEnd token) trees rests sound none applies = ends_delta c old new token trees rests sound applies
  by_command c old new (CloseDirectory token) trees rests sound none applies = closes old new token sound applies
  by_command c old new (CloseFile token checksum) trees rests sound none applies = closes old new token sound applies
  by_command c old new CloseEdit trees rests sound none applies = absurd applies
  by_command c old new AbortEdit trees rests sound none applies = absurd applies

  pub goes_on : (c : RepoState) (old new : EditState) (command : EditorCommand) → AreSound c.revisions → RestsOn old c → IsSoundEdit old → edit_refusal c old command ≡ None → Applies ⊥ c old command new → IsSoundEdit new
  goes_on c old new command trees rests sound none applies = by_command c old new command trees rests sound (not_refused old.refused (command_refusal c old command) none) applies
