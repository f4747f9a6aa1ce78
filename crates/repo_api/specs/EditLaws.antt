-- Laws of edits, for the crates above.
use Rattle.std.proofs.Common.{◌≡◌, Bool, true, false, Option, Some, None, option_map, refl}
use Rattle.std.specs.Prelude.{if◌then◌else◌, drop, length}
use Rattle.svnpath.specs.Paths.{is_at_or_under, PathValue}
use Rattle.repo_api.specs.{Edits.{touched, touched_above, deleted, grafted}, Trees.Tree, declared.entry.Entry.Entry}

touched_twice : (above : Bool) (o : Option Entry)
    → (if above then option_map touched (if above then option_map touched o else o)
    else (if above then option_map touched o else o))
    ≡ (if above then option_map touched o else o)
touched_twice true None = refl
touched_twice true (Some e) = refl
touched_twice false o = refl

-- what is put at a path takes the place of what stood there, deleted before or not
pub grafted_over : (t part : Tree) (p q : PathValue)
    → grafted (deleted t p) p part q ≡ grafted t p part q
grafted_over t part p q = by (is_at_or_under q p)
  where
    beside : Option Entry
    beside = touched_above p t q

    by : (under : Bool)
        → (if under then part (drop (length p) q)
        else (if is_at_or_under p q then option_map touched (if under then None else beside) else (if under then None else beside)))
        ≡ (if under then part (drop (length p) q) else beside)
    by true = refl
    by false = touched_twice (is_at_or_under p q) (t q)
