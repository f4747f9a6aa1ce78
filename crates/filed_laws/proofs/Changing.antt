-- What the changes of a revision say can be written.
use Rattle.std.proofs.{Common.{◌≡◌, List, [], ◌∷◌, Option, Some, None, refl, sym, subst}, lemmas.List.Elements.{All-contains_itself, All-head, All-tail}}
use Rattle.std.proofs.lemmas.List.Sorted.{Contains-permutation, IsPermutation-sym}
use Rattle.std.specs.Prelude.{All, IfSome, option_and_then, option_map}
use Rattle.svnpath.specs.Listings.{listing, listing_permutation}
use Rattle.repo_api.specs.Histories.{Changed}
use Rattle.fsfs_text.specs.declared.id.FileId.{FileId}
use Rattle.fsfs_text.proofs.IdsAgain.{IsApart, feed_apart, id_free}
use Rattle.fsfs_nodes.specs.declared.change.FileChange.{FileChange}
use Rattle.fsfs.specs.Files.{ChangeFits, ChangesFit}
use Rattle.filed_writing.specs.{Layout.{ListsChanges, change_of, changed_id}, Pieces.{all_some, file_change}, declared.revision.Revision.Revision}
use Rattle.filed_laws.specs.Fitting.{AreNamedChanges, ChangeIsNamed}
use Rattle.filed_laws.proofs.{Copies.sources_fit, Named.text_free, Options.{each_some, map_some, of_some}}

-- the first of a list that is all there, and the others
pub record Split {X Y : Type 0} (f : X → Option Y) (x : X) (xs : List X) (ys : List Y) : Type 0 where
  pub first : Y
  pub first_is : f x ≡ Some first
  pub rest : List Y
  pub rest_is : all_some f xs ≡ Some rest
  pub whole : ys ≡ first ∷ rest

pub split : {X Y : Type 0} (f : X → Option Y) (x : X) (xs : List X) (ys : List Y) → all_some f (x ∷ xs) ≡ Some ys → Split f x xs ys
split {X} {Y} f x xs ys e = by (f x) refl (all_some f xs) refl e
  where
    by : (o : Option Y) → f x ≡ o → (q : Option (List Y)) → all_some f xs ≡ q → option_and_then (λ y. option_map (λ ys. y ∷ ys) q) o ≡ Some ys → Split f x xs ys
    by None is q others e = absurd (cc e)
    by (Some y) is None others e = absurd (cc e)
    by (Some y) is (Some rest) others e = record { first = y; first_is = is; rest = rest; rest_is = others; whole = sym (cc e) }

space_apart : IsApart 32
space_apart = record { digit = refl; dash = refl; dot = refl; slash = refl; r = refl }

change_fits : (id : FileId) (change : Changed) → ChangeIsNamed change → ChangeFits (file_change id change)
change_fits id change named = record {
  word = id_free 32 id space_apart;
  line = id_free 10 id feed_apart;
  path = text_free change.0 named.path;
  source = sources_fit change.1.source named.source;
}

one_change : (r : Revision) (written : List FileId) (change : Changed) → ChangeIsNamed change → IfSome (change_of r written change) ChangeFits
one_change r written change named =
    map_some ChangeFits (λ id. file_change id change) (changed_id r written change.0 change.1.action)
    (each_some (λ id. ChangeFits (file_change id change)) (changed_id r written change.0 change.1.action) (λ id is. change_fits id change named))

all_changes : (r : Revision) (written : List FileId) (listed : List Changed) (changes : List FileChange) → All ChangeIsNamed listed
    → all_some (change_of r written) listed ≡ Some changes → ChangesFit changes
all_changes r written [] changes named e = let same : [] ≡ changes = cc e in subst ChangesFit same tt
all_changes r written (change ∷ listed) changes named e =
    let parts = split (change_of r written) change listed changes e in
    subst ChangesFit (sym parts.whole) (
      of_some ChangeFits (change_of r written change) parts.first parts.first_is (one_change r written change (All-head ChangeIsNamed change listed named)),
      all_changes r written listed parts.rest (All-tail ChangeIsNamed change listed named) parts.rest_is,
    )

pub changes_fit : (r : Revision) (written : List FileId) (changes : List FileChange) → AreNamedChanges r.changes.now → ListsChanges r written changes
    → ChangesFit changes
changes_fit r written changes named e =
    let all = r.changes.now in
    all_changes r written (listing all) changes
    (λ k d lt. named _ (Contains-permutation (listing all) all _ (IsPermutation-sym all (listing all) (listing_permutation all)) (All-contains_itself (listing all) k d lt))) e
