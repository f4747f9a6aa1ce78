-- The map that the entries make, and what the entries have at each path.
use Rattle.std.proofs.Common.{◌≡◌, List, sym, ap, ◌∙◌}
use Rattle.std.specs.{BTreeMap.is_at, Cmp.eq_by_cmp_equiv, FinMap.{FinMap, get, from_entries}}
use Rattle.svnpath.specs.{PathLaws.at_is_same, Paths.{path_cmp, path_cmp_total, PathValue, same_path}}
use Rattle.repo_api.specs.StateLaws.{get_path}
use Rattle.revision_data.specs.Found.{found}

pub at_is_same_back : (q k : PathValue) → is_at (path_cmp q) k ≡ same_path k q
at_is_same_back q k = (eq_by_cmp_equiv path_cmp_total).symm q k ∙ at_is_same k q

-- what a map has, by the entries that make it
pub seen_at : {X : Type 0} (es : List (PathValue × X)) (m : FinMap path_cmp X) (q : PathValue) → from_entries es ≡ m → get m q ≡ found es q
seen_at {X} es m q is = ap (λ (t : FinMap path_cmp X). get t q) (sym is) ∙ get_path es q
