use Rattle.std.proofs.Common.{◌≡◌, None}
use Rattle.std.specs.{Prelude.if◌then◌else◌, Option.option_or, List.list_any, Map.keys_of}
use Rattle.svnpath.specs.Paths.{PathValue}
use Rattle.revision_data.specs.Found.{found}
use Rattle.flat_trees.specs.EntryChanges.{landed}
use Rattle.flat_trees.proofs.Copied.{lands}
use Rattle.flat_trees.proofs.copies.put_copies.Given as goal

-- what the entries that are left put makes the whole
abbrev pub invariant-loop-path : goal.invariant-loop-path
invariant-loop-path l =
    let landing = landed (found l.source.entries) l.from l.to in
    (q : PathValue)
    → option_or (if list_any (lands l.from l.to q) (keys_of l.path-iterator) then landing q else None) (found l.entries.entries q)
    ≡ option_or (landing q) (found l.initial.entries.entries q)
