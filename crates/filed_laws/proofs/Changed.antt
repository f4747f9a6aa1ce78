-- The changes that lines say are those of the revision.
use Rattle.std.proofs.Common.{◌≡◌, List, [], ◌∷◌, Option, Some, None, refl, sym, ap, subst, ◌∙◌}
use Rattle.std.proofs.{lemmas.List.Elements.{All-contains_itself, All-head, All-tail}, lemmas.List.Sorted.{Contains-permutation, IsPermutation-sym}}
use Rattle.std.specs.{FinMap.entries, List.Sorted.IsStrictlySortedBy, Map.keys_of, Prelude.{All, IfSome, option_map}, Result.result_ok}
use Rattle.svnpath.specs.{Components.IsRightPath, Listings.{listing, listing_permutation}, Paths.{path_cmp, PathValue}, Texts.{parsed, path_text}}
use Rattle.svnpath.proofs.ParsedTexts.{parsed-path_text}
use Rattle.repo_api.specs.{Histories.Changed, States.ChangeMap, declared.change.Action.Action}
use Rattle.repo_api.specs.{declared.change.Action.TheVariants.{Add, Delete, Replace, Modify}, declared.change.Change.Change, declared.change.Source.Source}
use Rattle.block_rules.proofs.Ordered as ordered
use Rattle.fsfs_text.specs.{Maybe.◌>>=◌, declared.id.FileId.FileId}
use Rattle.fsfs_nodes.specs.declared.change.FileChange.{FileChange}
use Rattle.filed_trees.specs.Changes.{ChangeRows, action_in, change_in, changes_by, source_in, with_change, with_changes, with_rows}
use Rattle.filed_writing.specs.{Layout.{ListsChanges, change_of, changed_id}, Pieces.{all_some, file_action, file_change, source_place}}
use Rattle.filed_writing.specs.{declared.revision.Revision.Revision, Blocks.{AreRightChanges, ChangeIsRight}}
use Rattle.filed_laws.proofs.{Changing.split, Options.{each_some, map_some, of_some}, Sorted.in_order}

same_action : (action : Action) → action_in (file_action action) ≡ action
same_action Add = refl
same_action Delete = refl
same_action Replace = refl
same_action Modify = refl

pub read_path : (path : PathValue) → IsRightPath path → result_ok (parsed (path_text path)) ≡ Some path
read_path path right = ap result_ok (parsed-path_text path right)

same_source : (source : Option Source) → IfSome source (λ s. IsRightPath s.path) → source_in (option_map source_place source) ≡ Some source
same_source None right = refl
same_source (Some source) right =
    ap (option_map (λ path. Some (record { revision = source.revision; path = path }))) (read_path source.path right)

-- what a line says is the change
pub same_change : (id : FileId) (change : Changed) → ChangeIsRight change → change_in (file_change id change) ≡ Some change
unfolding change_in
same_change id change right =
    rw (read_path change.0 right.path, same_source change.1.source right.source, same_action change.1.action) refl

one_change : (r : Revision) (written : List FileId) (change : Changed) → ChangeIsRight change
    → IfSome (change_of r written change) (λ said. change_in said ≡ Some change)
one_change r written change right =
    map_some (λ said. change_in said ≡ Some change) (λ id. file_change id change) (changed_id r written change.0 change.1.action)
    (each_some (λ id. change_in (file_change id change) ≡ Some change) (changed_id r written change.0 change.1.action) (λ id is. same_change id change right))

-- and those that lines say are put as the changes are
put_alike : (r : Revision) (written : List FileId) (listed : List Changed) (changes : List FileChange) → All ChangeIsRight listed
    → all_some (change_of r written) listed ≡ Some changes → (rows : ChangeRows) → with_changes rows changes ≡ with_rows rows listed
put_alike r written [] changes right e rows =
    let same : [] ≡ changes = cc e in ap (with_changes rows) (sym same)
put_alike r written (change ∷ listed) changes right e rows =
    let parts = split (change_of r written) change listed changes e in
    let said : change_in parts.first ≡ Some change =
    of_some (λ c. change_in c ≡ Some change) (change_of r written change) parts.first parts.first_is
    (one_change r written change (All-head ChangeIsRight change listed right)) in
    ap (with_changes rows) parts.whole
    ∙ ap (λ (o : Option (PathValue × Change)). o >>= λ p. with_change rows p >>= λ more. with_changes more parts.rest) said
    ∙ by parts.rest (with_change rows change) (put_alike r written listed parts.rest (All-tail ChangeIsRight change listed right) parts.rest_is)
  where
    by : (rest : List FileChange) (o : Option ChangeRows) → ((more : ChangeRows) → with_changes more rest ≡ with_rows more listed)
        → (o >>= λ more. with_changes more rest) ≡ (o >>= λ more. with_rows more listed)
    by rest None again = refl
    by rest (Some more) again = again more

-- the changes that the lines of a file say are those of the revision
pub said_again : (r : Revision) (written : List FileId) (changes : List FileChange) (list : ChangeMap) → AreRightChanges r.changes.now
    → ListsChanges r written changes → entries list ≡ r.changes.now → changes_by changes ≡ Some (entries list)
said_again r written changes list right e is =
    let all = r.changes.now in
    let back = IsPermutation-sym all (listing all) (listing_permutation all) in
    let each : All ChangeIsRight (listing all) =
    λ k d lt. right _ (Contains-permutation (listing all) all _ back (All-contains_itself (listing all) k d lt)) in
    put_alike r written (listing all) changes each e []
    ∙ in_order (listing all) all back (subst (λ (l : List Changed). IsStrictlySortedBy path_cmp (keys_of l)) is (ordered.in_order list))
    ∙ ap Some (sym is)
