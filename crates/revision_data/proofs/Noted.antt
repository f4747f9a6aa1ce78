-- The steps of a note, and the changes after the edit.
use Rattle.std.proofs.{Common.{◌≡◌, Bool, true, false, List, Option, Some, None, refl, sym, ap, ◌∙◌}, lemmas.Bool.false≢true}
use Rattle.std.specs.{Prelude.{not, is_some, if◌then◌else◌}, FinMap.{get, from_entries}}
use Rattle.svnpath.specs.{PathLaws.{same_path_is, same_path_refl}, Paths.{is_at_or_under, path_cmp, PathValue, same_path}}
use Rattle.repo_api.specs.{Changes.{after_add, after_delete, Changes, changes_after, noted, noted_delete, or_modified}, StateLaws.{get_path, same_changes}}
use Rattle.repo_api.specs.{States.{ChangeMap, changes_of}, declared.change.Change.Change, declared.edit.EditOp.EditOp}
use Rattle.repo_api.specs.declared.edit.EditOp.TheVariants.{AddDirectory, AddFile, Copy, Replace, Delete, SetProperty, RemoveProperty, SetText}
use Rattle.revision_data.specs.{declared.txn_changes.Note.Note, Found.found, Prepared.{path_of, change_after, prunes, IsPrepared}}
use Rattle.revision_data.proofs.Seen.{seen_at}

-- where a change stands, it is no new one
pub modified_already : (cs : Changes) (p q : PathValue) → true ≡ is_some (cs p) → cs q ≡ noted cs p (or_modified (cs p)) q
modified_already cs p q some = by (same_path p q) refl
  where
    here : (o : Option Change) → true ≡ is_some o → o ≡ Some (or_modified o)
    here None e = absurd (false≢true (sym e))
    here (Some c) e = refl

    by : (b : Bool) → same_path p q ≡ b → cs q ≡ (if b then Some (or_modified (cs p)) else cs q)
    by true is = ap cs (sym (same_path_is p q is)) ∙ here (cs p) some
    by false is = refl

-- room in the entries is room in the map
pub prepared : (m : ChangeMap) (old new : List (PathValue × Change)) (op : EditOp)
    (note : Note) (p : PathValue) → p ≡ path_of op → from_entries old ≡ m
    → note.change ≡ change_after op (found old p) → note.made ≡ not (is_some (found old p))
    → ((q : PathValue) → found new q ≡ noted (found old) p (or_modified (found old p)) q) → IsPrepared op m note (from_entries new)
prepared m old new op note p at is change made room = record {
  change = change ∙ ap (change_after op) here;
  made = made ∙ ap (λ o. not (is_some o)) here;
  room = λ q.
      get_path new q ∙ room q
      ∙ ap (λ o. if same_path p q then Some (or_modified (found old p)) else o) (sym (seen_at old m q is))
      ∙ ap (λ o. if same_path p q then Some (or_modified o) else get m q) here
      ∙ ap (λ k. if same_path k q then Some (or_modified (get m (path_of op))) else get m q) at;
}
  where
    here : found old p ≡ get m (path_of op)
    here = sym (seen_at old m p is) ∙ ap (get m) at

-- what is left at the path where there is room for it
left_at : (cs : Changes) (p q : PathValue) (c : Change) (change old : Option Change) → old ≡ noted cs p c q
    → (if same_path p q then (if is_some old then change else None) else old) ≡ (if same_path p q then change else cs q)
left_at cs p q c change old is = ap (λ o. if same_path p q then (if is_some o then change else None) else o) is ∙ by (same_path p q)
  where
    by : (b : Bool)
        → (if b then (if is_some (if b then Some c else cs q) then change else None)
        else (if b then Some c else cs q))
        ≡ (if b then change else cs q)
    by true = refl
    by false = refl

-- the changes after an edit: at its path, beneath it and elsewhere
after_edit : (cs : Changes) (op : EditOp) (q : PathValue)
    → (if same_path (path_of op) q then change_after op (cs (path_of op))
    else (if prunes op then (if is_at_or_under q (path_of op) then None else cs q) else cs q))
    ≡ changes_after cs op q
after_edit cs (AddDirectory p) q = refl
after_edit cs (AddFile p) q = refl
after_edit cs (Copy source p) q = refl
after_edit cs (Replace source p) q = by (same_path p q)
  where
    at : noted_delete cs p p ≡ after_delete (cs p)
    at = ap (λ b. if b then after_delete (cs p) else (if is_at_or_under p p then None else cs p)) (same_path_refl p)

    by : (b : Bool)
        → (if b then Some (after_add (Some source) (after_delete (cs p))) else (if is_at_or_under q p then None else cs q))
        ≡ (if b then Some (after_add (Some source) (noted_delete cs p p))
        else (if b then after_delete (cs q) else (if is_at_or_under q p then None else cs q)))
    by true = ap (λ o. Some (after_add (Some source) o)) (sym at)
    by false = refl
after_edit cs (Delete p) q = by (same_path p q) refl
  where
    by : (b : Bool) → same_path p q ≡ b
        → (if b then after_delete (cs p) else (if is_at_or_under q p then None else cs q))
        ≡ (if b then after_delete (cs q) else (if is_at_or_under q p then None else cs q))
    by true is = ap (λ k. after_delete (cs k)) (same_path_is p q is)
    by false is = refl
after_edit cs (SetProperty p name value) q = refl
after_edit cs (RemoveProperty p name) q = refl
after_edit cs (SetText p text) q = refl

-- what an edit leaves at its path, in the entries of a map that is prepared for it
left_seen : (m before : ChangeMap) (old mid : List (PathValue × Change)) (op : EditOp)
    (note : Note) (p q : PathValue) → p ≡ path_of op → from_entries old ≡ m → IsPrepared op before note m
    → found mid q ≡ (if same_path p q then (if is_some (found old q) then note.change else None) else found old q)
    → found mid q ≡ (if same_path (path_of op) q then change_after op (get before (path_of op)) else get before q)
left_seen m before old mid op note p q at is ready leave =
    leave ∙ ap (λ k. if same_path k q then (if is_some (found old q) then note.change else None) else found old q) at
    ∙ left_at (changes_of before) (path_of op) q (or_modified (get before (path_of op)))
    note.change (found old q) (sym (seen_at old m q is) ∙ ready.room q)
    ∙ ap (λ o. if same_path (path_of op) q then o else get before q) ready.change

-- an edit that leaves no change beneath its path
pub settled_pruned : (m before : ChangeMap) (old mid new : List (PathValue × Change)) (op : EditOp)
    (note : Note) (p k q : PathValue) → p ≡ path_of op → k ≡ path_of op
    → from_entries old ≡ m → IsPrepared op before note m → prunes op ≡ true
    → found mid q ≡ (if same_path p q then (if is_some (found old q) then note.change else None) else found old q)
    → found new q ≡ (if same_path k q then found mid q else (if is_at_or_under q k then None else found mid q))
    → get (from_entries {R = path_cmp} new) q ≡ changes_after (changes_of before) op q
settled_pruned m before old mid new op note p k q at same is ready pruning leave pruned =
    get_path new q ∙ pruned
    ∙ ap (λ k. if same_path k q then found mid q else (if is_at_or_under q k then None else found mid q)) same
    ∙ ap (λ o. if same_path (path_of op) q then o else (if is_at_or_under q (path_of op) then None else o))
    (left_seen m before old mid op note p q at is ready leave)
    ∙ by (same_path (path_of op) q)
    ∙ ap (λ b. if same_path (path_of op) q then change_after op (get before (path_of op))
    else (if b then (if is_at_or_under q (path_of op) then None else get before q) else get before q)) (sym pruning)
    ∙ after_edit (changes_of before) op q
  where
    by : (b : Bool)
        → (if b then (if b then change_after op (get before (path_of op)) else get before q)
        else (if is_at_or_under q (path_of op) then None else (if b then change_after op (get before (path_of op)) else get before q)))
        ≡ (if b then change_after op (get before (path_of op)) else (if is_at_or_under q (path_of op) then None else get before q))
    by true = refl
    by false = refl

-- and one that leaves those that were there
pub settled_kept : (m before : ChangeMap) (old new : List (PathValue × Change)) (op : EditOp) (note : Note) (p q : PathValue) → p ≡ path_of op
    → from_entries old ≡ m → IsPrepared op before note m → prunes op ≡ false
    → found new q ≡ (if same_path p q then (if is_some (found old q) then note.change else None) else found old q)
    → get (from_entries {R = path_cmp} new) q ≡ changes_after (changes_of before) op q
settled_kept m before old new op note p q at is ready keeping leave =
    get_path new q ∙ left_seen m before old new op note p q at is ready leave
    ∙ ap (λ b. if same_path (path_of op) q then change_after op (get before (path_of op))
    else (if b then (if is_at_or_under q (path_of op) then None else get before q) else get before q)) (sym keeping)
    ∙ after_edit (changes_of before) op q

-- room that was made is taken back
pub taken_back : (before m new : ChangeMap) (op : EditOp) (note : Note) → IsPrepared op before note m → note.made ≡ true
    → ((q : PathValue) → get new q ≡ (if same_path (path_of op) q then None else get m q)) → new ≡ before
taken_back before m new op note ready made back =
    same_changes new before (λ q. back q
    ∙ ap (λ o. if same_path (path_of op) q then None else o) (ready.room q) ∙ by q (same_path (path_of op) q) refl)
  where
    gone : (o : Option Change) → true ≡ not (is_some o) → None ≡ o
    gone None h = refl
    gone (Some x) h = absurd (false≢true (sym h))

    by : (q : PathValue) (b : Bool) → same_path (path_of op) q ≡ b
        → (if b then None else (if b then Some (or_modified (get before (path_of op))) else get before q)) ≡ get before q
    by q true same = gone (get before (path_of op)) (sym made ∙ ready.made) ∙ ap (get before) (same_path_is (path_of op) q same)
    by q false same = refl

-- where none was made, nothing is to be taken back
pub left_alone : (before m : ChangeMap) (op : EditOp) (note : Note) → IsPrepared op before note m → note.made ≡ false → m ≡ before
left_alone before m op note ready made =
    same_changes m before (λ q. ready.room q ∙
    sym (modified_already (changes_of before) (path_of op) q (yes (is_some (get before (path_of op))) (sym made ∙ ready.made))))
  where
    yes : (b : Bool) → false ≡ not b → true ≡ b
    yes true e = refl
    yes false e = absurd (false≢true e)
