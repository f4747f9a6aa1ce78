-- Merge sources: paths with ranges of revisions, and their normal form.
use Rattle.std.specs.{Prelude.{◌≡◌, ℕ, ◌<◌, Bool, ◌&&◌, List, ◌++◌, length, map, All}, List.{list_any, filter}, List.Sorted.IsStrictlySortedBy}
use Rattle.svnpath.specs.{Paths.{PathValue, path_cmp, same_path}, Components.IsRightPath}
use Rattle.mergeinfo.specs.{Ranges.{has, has_inheritable, AreInOrder, IsRightRange}, declared.range.Range.Range}

-- a path, and the ranges of its revisions that were merged
pub record SourceValue : Type 0 where
  pub path : PathValue
  pub ranges : List Range

-- whether the sources have the revision of the path
abbrev pub merges : List SourceValue → PathValue → ℕ → Bool
merges sources path revision =
    list_any (λ source. same_path source.path path && has revision source.ranges) sources

-- whether they have it so that it is inheritable
abbrev pub merges_inheritably : List SourceValue → PathValue → ℕ → Bool
merges_inheritably sources path revision =
    list_any (λ source. same_path source.path path && has_inheritable revision source.ranges)
    sources

-- the paths ascend, component by component, and so do the ranges of each; none is without ranges
pub record IsNormal (sources : List SourceValue) : Type 0 where
  pub paths : IsStrictlySortedBy path_cmp (map (λ source. source.path) sources)
  pub ranges : All (λ source. AreInOrder source.ranges) sources
  pub some : All (λ source. 0 < length source.ranges) sources

-- the normal form of sources has the same revisions of the same paths, as inheritable as they do
pub record IsNormalFormOf (sources normal : List SourceValue) : Type 0 where
  pub is_normal : IsNormal normal
  pub same : (path : PathValue) (revision : ℕ)
      → merges normal path revision ≡ merges sources path revision
  pub same_inheritable : (path : PathValue) (revision : ℕ)
      → merges_inheritably normal path revision ≡ merges_inheritably sources path revision

-- paths and revisions that there may be
pub record IsRightSource (source : SourceValue) : Type 0 where
  pub path : IsRightPath source.path
  pub ranges : All IsRightRange source.ranges

-- what is inherited of a source, with the rest of a path after its path
abbrev pub inherited_source : PathValue → SourceValue → SourceValue
inherited_source rest source = record {
  path = source.path ++ rest;
  ranges = filter (λ range. range.is_inheritable) source.ranges;
}

-- what an entry inherits whose path is this rest beneath the path that has the sources
abbrev pub inherited : PathValue → List SourceValue → List SourceValue
inherited rest sources = map (inherited_source rest) sources
