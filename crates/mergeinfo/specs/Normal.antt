-- The normal form of sources, as a function of them.
use Rattle.std.specs.{Prelude.{ℕ, zero, suc, ◌+◌, ◌==◌, nat_lt, max, Bool, ◌&&◌, List, [], ◌∷◌, length, map, if◌then◌else◌}, BTreeSet.insert_key, List.filter}
use Rattle.svnpath.specs.Paths.{PathValue, path_cmp}
use Rattle.mergeinfo.specs.{Ranges.same_kind, Sources.{SourceValue, merges, merges_inheritably}, declared.range.Range.Range}

-- a revision in front of ranges: the first range begins with it, where that is of its kind and begins
-- at the next revision, and else it is a range of its own
abbrev pub in_front : ℕ → Bool → List Range → List Range
in_front revision kind [] =
    record { first = revision; last = revision; is_inheritable = kind } ∷ []
in_front revision kind (x ∷ ranges) =
    if same_kind kind x.is_inheritable && (revision + 1 == x.first)
    then record { first = revision; last = x.last; is_inheritable = kind } ∷ ranges
    else record { first = revision; last = revision; is_inheritable = kind } ∷ x ∷ ranges

-- the ranges of so many revisions from this one on: of those that are merged, inheritably or not
abbrev pub ranges_from : (is_merged is_inheritable : ℕ → Bool) → ℕ → ℕ → List Range
ranges_from is_merged is_inheritable zero revision = []
ranges_from is_merged is_inheritable (suc count) revision =
    if is_merged revision
    then in_front revision (is_inheritable revision)
    (ranges_from is_merged is_inheritable count (revision + 1))
    else ranges_from is_merged is_inheritable count (revision + 1)

-- the revision after all that ranges have
abbrev pub ranges_end : List Range → ℕ
ranges_end [] = 0
ranges_end (x ∷ ranges) = max (x.last + 1) (ranges_end ranges)

-- the revision after all that sources have
abbrev pub revisions_end : List SourceValue → ℕ
revisions_end [] = 0
revisions_end (source ∷ sources) = max (ranges_end source.ranges) (revisions_end sources)

-- a path, and the ranges of what sources have of it
abbrev pub normal_source : List SourceValue → PathValue → SourceValue
normal_source sources path = record {
  path = path;
  ranges = ranges_from (merges sources path) (merges_inheritably sources path)
      (revisions_end sources) 0;
}

-- the paths of sources, in order and each once
abbrev pub paths_in_order : List SourceValue → List PathValue
paths_in_order [] = []
paths_in_order (source ∷ sources) = insert_key path_cmp (paths_in_order sources) source.path

-- each path that sources have a revision of, in order, with its ranges
unfoldable pub normal_form : List SourceValue → List SourceValue
normal_form sources =
    filter (λ source. nat_lt 0 (length source.ranges))
    (map (normal_source sources) (paths_in_order sources))
