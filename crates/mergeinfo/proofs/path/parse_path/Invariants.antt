use Rattle.std.proofs.Common.{◌≡◌, [], length}
use Rattle.std.specs.List.{slice_split, filter}
use Rattle.svnpath.specs.{Components.beneath, Texts.is_slash}
use Rattle.mergeinfo.specs.Texts.{is_named}
use Rattle.mergeinfo.proofs.Named.{rest_beneath}
use Rattle.mergeinfo.proofs.path.parse_path.Given as goal

-- what is left beneath the components so far is all beneath the root
abbrev pub invariant-loop-part : goal.invariant-loop-part
invariant-loop-part l =
    rest_beneath l.path (slice_split is_slash l.text) (length l.yielded)
    ≡ beneath [] (filter is_named (slice_split is_slash l.text))
