-- The ranges of each path, gathered from sources.
use Rattle.std.specs.{Prelude.{◌≡◌, ℕ, List, [], ◌++◌, Option, Some, None, if◌then◌else◌}, declared.vec.Vec.Vec, BTreeMap.{BTreeMap, is_at}, Map.lookup}
use Rattle.svnpath.specs.Paths.{PathValue, path_cmp, same_path}
use Rattle.mergeinfo.specs.{Ranges.{has, has_inheritable}, Sources.{SourceValue, merges, merges_inheritably}, Texts.sources_of, declared.range.Range.Range}

abbrev pub items_of : {Y : Type 0} → Option (Vec Range Y) → List Range
items_of None = []
items_of (Some ranges) = ranges.items

abbrev pub ranges_at : {Y : Type 0} → List (PathValue × Vec Range Y) → PathValue → List Range
ranges_at entries path = items_of (lookup (is_at (path_cmp path)) entries)

-- the path has these ranges too
abbrev pub IsAdded : {Y : Type 0} → PathValue → List Range
    → (old new : List (PathValue × Vec Range Y)) → Type 0
IsAdded path ranges old new =
    (q : PathValue) → ranges_at new q
    ≡ (if same_path path q then ranges_at old q ++ ranges else ranges_at old q)

-- each path has the revisions that the sources have
pub record IsGathered {Y : Type 0} (sources : List SourceValue)
    (entries : List (PathValue × Vec Range Y)) : Type 0 where
  pub same : (path : PathValue) (revision : ℕ)
      → has revision (ranges_at entries path) ≡ merges sources path revision
  pub same_inheritable : (path : PathValue) (revision : ℕ)
      → has_inheritable revision (ranges_at entries path)
      ≡ merges_inheritably sources path revision

abbrev pub IsGatheredFrom : {Y : Type 0} → List ℕ
    → Option (BTreeMap PathValue (Vec Range Y)) → Type 0
IsGatheredFrom value None = sources_of value ≡ None
IsGatheredFrom value (Some gathered) =
    (sources : List SourceValue) × (sources_of value ≡ Some sources)
    × IsGathered sources gathered.entries
