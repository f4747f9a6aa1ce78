-- What is answered of a path, from what its nearest path has.
use Rattle.std.proofs.{Common.{List, Option, Some, None, refl, sym}, lemmas.Option.none-some}
use Rattle.std.specs.Prelude.{option_map}
use Rattle.svnpath.specs.Paths.{PathValue}
use Rattle.repo_api.specs.States.{TreeMap}
use Rattle.mergeinfo.specs.Sources.{SourceValue, IsNormalFormOf}
use Rattle.merge_queries.specs.Queries.{handed_down, sources_at, sources_from, IsToldOf}

some_told : (above p : PathValue) (info told : List SourceValue) (found : Option (List SourceValue)) → IsToldOf found (Some info)
    → ((sources : List SourceValue) → IsNormalFormOf sources info → IsNormalFormOf (handed_down above p sources) told)
    → IsToldOf (option_map (handed_down above p) found) (Some told)
some_told above p info told None is down = absurd (none-some info (sym is))
some_told above p info told (Some sources) is down = down sources is

none_told : (above p : PathValue) (found : Option (List SourceValue)) → IsToldOf found None → IsToldOf (option_map (handed_down above p) found) None
none_told above p None is = refl
none_told above p (Some sources) is = is

pub told_from : (m : TreeMap) (above p : PathValue) (info told : List SourceValue) → IsToldOf (sources_at m above) (Some info)
    → ((sources : List SourceValue) → IsNormalFormOf sources info → IsNormalFormOf (handed_down above p sources) told)
    → IsToldOf (sources_from m p (Some above)) (Some told)
told_from m above p info told is down = some_told above p info told (sources_at m above) is down

pub none_from : (m : TreeMap) (above p : PathValue) → IsToldOf (sources_at m above) None → IsToldOf (sources_from m p (Some above)) None
none_from m above p is = none_told above p (sources_at m above) is
