use Rattle.std.proofs.Common.{◌≡◌, map, drop, length}
use Rattle.std.specs.List.{slice_split}
use Rattle.svnpath.specs.{Components.beneath, Spelled.read_part, Texts.is_slash}
use Rattle.svnpath.proofs.component.append_parts.Given as goal

-- what is left beneath the components so far is all beneath the first ones
abbrev pub invariant-loop-part : goal.invariant-loop-part
invariant-loop-part l =
    beneath l.components.items (map (read_part l.spelling) (drop (length l.yielded) (slice_split is_slash l.text)))
    ≡ beneath l.initial.components.items (map (read_part l.spelling) (slice_split is_slash l.text))
