-- What the commands of a sound edit make of its transaction may be made of it.
use Rattle.std.proofs.Common.{◌≡◌, ℕ, ◌+◌, ◌-◌, ◌≤◌, Bool, true, false, not, ◌&&◌, is_some, List, [], ◌∷◌, ◌++◌, length, append-nil, length-append, Option}
use Rattle.std.proofs.{Common.{Some, None, refl, sym, ap, subst, arith, ◌∙◌}, lemmas.Bool.false≢true, lemmas.Bool.Decides.nat_tests, lemmas.List.append_assoc}
use Rattle.std.proofs.lemmas.List.Folds.{list_any_at}
use Rattle.std.specs.{Prelude.{IsSome, IsSomeAnd, Contains, Ok, nat_lt}, FinMap.{get, keys}, List.list_any}
use Rattle.svnpath.specs.{Components.IsRightPath, PathLaws.under_append, Paths.{Component, is_at_or_under, PathValue}}
use Rattle.svnpath.specs.{Texts.{components_of, joined, without_first_slash, without_last_slash}, declared.component.TheConstants.DEPTH_LIMIT}
use Rattle.svnpath.proofs.BeneathLemmas.{beneath_right}
use Rattle.svndiff0.specs.{Applying.{Applying, HasRead}, Document.outcome}
use Rattle.svndiff0.proofs.Limits.{text_short}
use Rattle.refusals.specs.declared.Refusal.{Refusal}
use Rattle.refusals.specs.declared.Refusal.TheVariants as refusals
use Rattle.repo_api.specs.{Kinds.{content_kind, has_deeper, has_deeper_at, kind_of}, MergeLaws.key_there, RightEdits.{HasParent, HasRoom, IsRightEdit, IsThere}}
use Rattle.repo_api.specs.{States.{RepoState, tree_at, tree_of, TreeMap, trees_in, TxnState}, Trees.{is_directory, IsTree, Tree}, declared.change.Source.Source}
use Rattle.repo_api.specs.{declared.entry.Content.Content, declared.entry.Entry.Entry, declared.entry.NodeKind.NodeKind, declared.edit.EditOp.EditOp}
use Rattle.repo_api.specs.declared.limits.TheConstants.{TEXT_LIMIT}
use Rattle.repo_api.specs.declared.entry.Content.TheVariants as contents
use Rattle.repo_api.specs.declared.edit.EditOp.TheVariants as edits
use Rattle.wire_edits.specs.{declared.editing.AddedEntry.AddedEntry, declared.editing.DeletedEntry.DeletedEntry}
use Rattle.edit_rules.specs.{Tokens.{Tokens, directory_of, is_within, is_placed, path_of, copies_under}, Edits.{EditState, standing, created, open_in}}
use Rattle.edit_rules.specs.Refusing.{age_refusal, delete_refusal, add_refusal, place_refusal, parent_refusal, room_refusal, depth_refusal, source_refusal}
use Rattle.edit_rules.specs.{Refusing.{adding_refusal, add_entry_refusal, delete_entry_refusal, open_under}, Editor.{added_edit, copy_edit, property_edit}}
use Rattle.edit_rules.specs.{Texts.SetsText, Soundness.{StandsIn, IsSoundIn, IsSoundEdit, IsRightIn}, declared.opened.DeltaState.TheVariants.Reading}
use Rattle.edit_rules.specs.{declared.opened.Opened.Opened, declared.opened.Opened.TheVariants.{Directory, File}}
use Rattle.edit_rules.proofs.Standing.{first_none, found_under, beneath_there, placed_there, nothing_there, stands_some, right_source, holds, both_true}

-- ---- trees

-- an entry of what is no directory there is none of
nothing_in : (t : Tree) → IsTree t → (p : PathValue) (c : Component) → t p ≡ None → t (p ++ c ∷ []) ≡ None
nothing_in t is p c none = by (t (p ++ c ∷ [])) refl
  where
    by : (o : Option Entry) → t (p ++ c ∷ []) ≡ o → o ≡ None
    by None same = refl
    by (Some e) same = absurd (subst (λ (o : Option Entry). IsSomeAnd o (λ x. is_directory x ≡ true)) none (is.parents p c (ap is_some same)))

-- where nothing stands nothing stands beneath
vacant : (t : Tree) → IsTree t → (rest p : PathValue) → t p ≡ None → t (p ++ rest) ≡ None
vacant t is [] p none = ap t (append-nil p) ∙ none
vacant t is (c ∷ rest) p none = ap t (sym (append_assoc p (c ∷ []) rest)) ∙ vacant t is rest (p ++ c ∷ []) (nothing_in t is p c none)

-- ---- paths

-- what a text names beneath a right path is one
named_right : (path p : PathValue) (text : List ℕ) → IsRightPath path → joined path text ≡ Ok p → IsRightPath p
named_right path p text right named = beneath_right (components_of (without_last_slash (without_first_slash text))) path p right named

-- where none of the paths is so, one of them is not
none_of : (f : PathValue → Bool) (ps : List PathValue) (p : PathValue) → list_any f ps ≡ false → Contains ps p → f p ≡ false
none_of f ps p none there = by (f p) refl
  where
    by : (b : Bool) → f p ≡ b → b ≡ false
    by true is = absurd (false≢true (sym none ∙ list_any_at f ps there.0 p there.1 (ap f there.2 ∙ is)))
    by false is = refl

is_false : (b : Bool) → not b ≡ true → b ≡ false
is_false true h = cc
is_false false h = refl

front_true : (a b : Bool) → a ≡ true → (a && b) ≡ false → b ≡ false
front_true true b is h = h
front_true false b is h = absurd (false≢true is)

no_deeper : (n m : ℕ) → nat_lt n m ≡ false → m ≤ n
no_deeper n m h = grind (arith, nat_tests)

-- nothing stands more than so many names beneath the path
within_names : (m : TreeMap) (p rest : PathValue) (names : ℕ) → has_deeper m p names ≡ false → IsSome (get m (p ++ rest)) → length rest ≤ names
within_names m p rest names none some =
    let deeper : (PathValue → Bool) = λ q. is_at_or_under q p && nat_lt (length p + names) (length q) in
    let here : deeper (p ++ rest) ≡ false = none_of deeper (keys m) (p ++ rest) none (key_there m (p ++ rest) some) in
    let few : length (p ++ rest) ≤ length p + names = no_deeper (length p + names) (length (p ++ rest)) (front_true (is_at_or_under (p ++ rest) p) (nat_lt (length p + names) (length (p ++ rest))) (under_append p rest) here) in
    omega (arith, length-append p rest)

-- a copy whose depth is not refused has room
has_room : (c : RepoState) (source : Source) (p : PathValue) → IsRightPath p → depth_refusal c source p ≡ None → HasRoom (trees_in c.revisions) source p
has_room c source p right none rest some =
    let names : ℕ = DEPTH_LIMIT - length p in
    let no : has_deeper_at c source.revision source.path names ≡ false = is_false (has_deeper_at c source.revision source.path names) (holds (not (has_deeper_at c source.revision source.path names)) refusals.NotSupported none) in
    let few : length rest ≤ DEPTH_LIMIT - length p = within_names (tree_at c source.revision) source.path rest names no some in
    let fits : length p ≤ DEPTH_LIMIT = right.depth in
    omega (arith, length-append p rest)

-- ---- a transaction

in_txn : (c : RepoState) (e : EditState) (op : EditOp) → IsSoundEdit e → is_some e.txn ≡ true
    → ((t : TxnState) → e.txn ≡ Some t → IsSoundIn e.path (Some t) e.tokens → IsRightEdit (trees_in c.revisions) (tree_of t.tree) op) → IsRightIn c e.txn op
in_txn c e op sound some right = by e.txn refl some
  where
    by : (o : Option TxnState) → e.txn ≡ o → is_some o ≡ true → IsRightIn c o op
    by None same h = cc
    by (Some t) same h = right t same (subst (λ (o : Option TxnState). IsSoundIn e.path o e.tokens) same sound)

-- ---- deletes

deleted_there : (o : Option Entry) (age : Option Refusal) → delete_refusal (kind_of o) age ≡ None → IsSome o
deleted_there None age e = cc
deleted_there (Some x) age e = refl

pub right_delete : (c : RepoState) (e : EditState) (entry : DeletedEntry) (p : PathValue) → IsSoundEdit e → delete_entry_refusal e entry (Ok p) ≡ None → IsRightIn c e.txn (edits.Delete p)
right_delete c e entry p sound none =
    let age : Option Refusal = age_refusal entry.revision (created e.txn p) in
    let parts = first_none (parent_refusal e entry.parent p) (delete_refusal (standing e.txn p) age) none in
    let has = both_true (is_some e.txn) (is_within (directory_of e.tokens entry.parent) p) (holds (is_some e.txn && is_within (directory_of e.tokens entry.parent) p) refusals.MalformedData parts.0) in
    in_txn c e (edits.Delete p) sound has.0
    (λ t same s. (beneath_there (tree_of t.tree) e entry.parent p s.1 parts.0, deleted_there (get t.tree p) age (subst (λ (o : Option TxnState). delete_refusal (standing o p) age ≡ None) same parts.1)))

-- ---- adds

new_right : (trees : ℕ → Tree) (t : Tree) (is_file : Bool) (kind : NodeKind) (p : PathValue) → IsTree t → HasParent t p → t p ≡ None → IsRightPath p → IsRightEdit trees t (added_edit is_file kind p None)
new_right trees t true kind p is up none right = (up, (λ rest. vacant t is rest p none), right)
new_right trees t false kind p is up none right = (up, (λ rest. vacant t is rest p none), right)

-- a copy may be made of what is there, where its paths stay right
module _ (trees : ℕ → Tree) (t : Tree) (p : PathValue) (source : Source) (is : IsTree t) (up : HasParent t p) (there : IsThere trees source) (right : IsRightPath p) (room : HasRoom trees source p) where
  copy_right : (o : Option Entry) → t p ≡ o → IsRightEdit trees t (copy_edit (kind_of o) p source)
  copy_right None none = (up, (λ rest. vacant t is rest p none), there, right, room)
  copy_right (Some e) same = by e.content
    where
      some : IsSome (t p)
      some = ap is_some same

      by : (content : Content) → IsRightEdit trees t (copy_edit (content_kind content) p source)
      by contents.Directory = (up, some, there, right, room)
      by (contents.File text) = (up, some, there, right, room)

pub right_add : (c : RepoState) (e : EditState) (is_file : Bool) (entry : AddedEntry) (p : PathValue) (source : Option Source) → IsSoundEdit e → joined e.path entry.path ≡ Ok p
    → add_entry_refusal c e is_file entry (Ok p) (Ok source) ≡ None → IsRightIn c e.txn (added_edit is_file (standing e.txn p) p source)
right_add c e is_file entry p source sound named none =
    let parts = first_none (place_refusal e entry.parent entry.token p) (adding_refusal c e is_file entry p source) none in
    let has = both_true (is_some e.txn) (is_placed e.tokens entry.parent entry.token p) (holds (is_some e.txn && is_placed e.tokens entry.parent entry.token p) refusals.MalformedData parts.0) in
    in_txn c e (added_edit is_file (standing e.txn p) p source) sound has.0 (λ t same s. by t same s source parts.0 parts.1)
  where
    by : (t : TxnState) → e.txn ≡ Some t → IsSoundIn e.path (Some t) e.tokens → (source : Option Source) → place_refusal e entry.parent entry.token p ≡ None → adding_refusal c e is_file entry p source ≡ None
        → IsRightEdit (trees_in c.revisions) (tree_of t.tree) (added_edit is_file (standing e.txn p) p source)
    by t same s None place free =
        new_right (trees_in c.revisions) (tree_of t.tree) is_file (standing e.txn p) p s.0 (placed_there (tree_of t.tree) e entry.parent entry.token p s.1 place)
        (nothing_there (get t.tree p) (subst (λ (o : Option TxnState). add_refusal (standing o p) ≡ None) same free)) (named_right e.path p entry.path s.3 named)
    by t same s (Some source) place room =
        let rest = first_none (room_refusal (copies_under e.tokens entry.parent) (standing e.txn p)) (source_refusal c is_file p source) room in
        let from = right_source c is_file p source rest.1 in
        let there : IsThere (trees_in c.revisions) source = stands_some _ (trees_in c.revisions source.revision source.path) from.0 in
        let right : IsRightPath p = named_right e.path p entry.path s.3 named in
        subst (λ (o : Option TxnState). IsRightEdit (trees_in c.revisions) (tree_of t.tree) (copy_edit (standing o p) p source)) (sym same)
        (copy_right (trees_in c.revisions) (tree_of t.tree) p source s.0 (placed_there (tree_of t.tree) e entry.parent entry.token p s.1 place) there right (has_room c source p right from.1) (get t.tree p) refl)

-- ---- what is open

has_open : (txn : Option TxnState) (tokens : Tokens) (token : List ℕ) (o : Opened) → open_in txn tokens token ≡ Some o → is_some txn ≡ true
has_open None tokens token o at = cc
has_open (Some t) tokens token o at = refl

open_stands : (e : EditState) (token : List ℕ) (o : Opened) (t : TxnState) → e.txn ≡ Some t → IsSoundIn e.path (Some t) e.tokens → open_under e token ≡ Some o → StandsIn (tree_of t.tree) o
open_stands e token o t same s at =
    found_under (StandsIn (tree_of t.tree)) e.tokens token o s.1 (subst (λ (x : Option TxnState). open_in x e.tokens token ≡ Some o) same at)

stands_there : (t : Tree) (o : Opened) → StandsIn t o → IsSome (t (path_of o))
stands_there t (Directory d) h = stands_some true (t d.path) h
stands_there t (File p delta) h = stands_some false (t p) h.0

property_right : (trees : ℕ → Tree) (t : Tree) (p : PathValue) (name : List ℕ) (value : Option (List ℕ)) → IsSome (t p) → IsRightEdit trees t (property_edit p name value)
property_right trees t p name None there = there
property_right trees t p name (Some value) there = there

pub right_property : (c : RepoState) (e : EditState) (token : List ℕ) (o : Opened) (name : List ℕ) (value : Option (List ℕ)) → IsSoundEdit e → open_under e token ≡ Some o
    → IsRightIn c e.txn (property_edit (path_of o) name value)
right_property c e token o name value sound at =
    in_txn c e (property_edit (path_of o) name value) sound (has_open e.txn e.tokens token o at)
    (λ t same s. property_right (trees_in c.revisions) (tree_of t.tree) (path_of o) name value (stands_there (tree_of t.tree) o (open_stands e token o t same s at)))

-- what a document gives keeps the limit
outcome_short : (a : Applying) (document text : List ℕ) → HasRead a document → outcome a.reading ≡ Ok text → length text ≤ TEXT_LIMIT
outcome_short a document text read is = text_short a.base document text (sym (ap outcome read) ∙ is)

pub right_text : (c : RepoState) (e : EditState) (token : List ℕ) (op : EditOp) → IsSoundEdit e → SetsText (open_under e token) op → IsRightIn c e.txn op
right_text c e token op sound (p, a, at, (text, is_text, is)) =
    subst (λ (x : EditOp). IsRightIn c e.txn x) (sym is)
    (in_txn c e (edits.SetText p text) sound (has_open e.txn e.tokens token (File p (Reading a)) at)
    (λ t same s.
    let h = open_stands e token (File p (Reading a)) t same s at in
    (h.0, outcome_short a h.1.0 text h.1.1 is_text)))
