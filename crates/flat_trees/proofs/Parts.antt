-- An entry of a map that has a part changed in its place.
use Rattle.std.proofs.Common.{◌≡◌, ℕ, cond, List, Option, Some, None, ap, ◌∙◌}
use Rattle.std.specs.{BTreeMap.is_at, Option.unwrap_or}
use Rattle.svnpath.specs.Paths.{path_cmp, PathValue}
use Rattle.repo_api.specs.{Edits.with_open_mark, Properties.PropertyList, RevisionProperties.property_changed, declared.entry.Entry.Entry}
use Rattle.revision_data.specs.Found.{found}
use Rattle.revision_data.proofs.Written.{written, missing}
use Rattle.flat_trees.specs.EntryChanges.{part_at, with_properties, with_change}

-- an entry whose part is written
pub part_written : (old new : List (PathValue × Entry)) (p q : PathValue) (e w : Entry) (f : Entry → Entry) → Some e ≡ found old p
    → found new q ≡ cond (is_at (path_cmp p) q) (Some w) (found old q) → w ≡ with_open_mark (f e) → found new q ≡ part_at p f q (found old q)
part_written old new p q e w f = written old new p q e w (λ e. with_open_mark (f e))

pub part_missing : (old new : List (PathValue × Entry)) (p q : PathValue) (f : Entry → Entry) → found old p ≡ None → new ≡ old → found new q ≡ part_at p f q (found old q)
part_missing old new p q f = missing old new p q (λ e. with_open_mark (f e))

-- what is changed of an entry's properties is changed of the entry
pub changed_as : (ps : PropertyList) (name : List ℕ) (value : Option (List ℕ)) (o : Option Entry) (entry e : Entry)
    → ps ≡ property_changed name value entry.properties → Some entry ≡ o → o ≡ Some e → with_properties ps e ≡ with_change name value e
changed_as ps name value o entry e is there here =
    ap (λ x. with_properties x e) (is ∙ ap (λ x. property_changed name value (unwrap_or x entry).properties) (there ∙ here))

pub not_there : {Z : Type 0} (o : Option Entry) (e : Entry) → None ≡ o → o ≡ Some e → Z
not_there None e there here = cc
not_there (Some x) e there here = cc
