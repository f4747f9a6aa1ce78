-- The depths that are reported and asked for.
use Rattle.std.specs.{Prelude.{Bool, true, false, if◌then◌else◌, not, Option, Some, None, Result, Ok, Err}, Option.option_map_or}
use Rattle.refusals.specs.declared.Refusal.{Refusal}
use Rattle.refusals.specs.declared.Refusal.TheVariants as refusals
use Rattle.drive_rules.specs.{declared.depth.Depth.Depth, declared.depth.Depth.TheVariants.{Empty, Files, Immediates, Infinity}}
use Rattle.wire_reports.specs.{declared.depth_word.DepthWord.DepthWord, declared.depth_word.DepthWord.TheVariants.{Known, Unknown, Exclude}}
use Rattle.reporter.specs.{declared.ask.DepthAsked.DepthAsked, declared.ask.Purpose.Purpose}
use Rattle.reporter.specs.{declared.ask.Purpose.TheVariants.{Update, Switch, Status, Diff, Summary}, declared.graft.Graft.Graft}
use Rattle.reporter.specs.declared.ask.DepthAsked.TheVariants as asks

-- the word excludes what stands there
abbrev pub is_exclude : Option DepthWord → Bool
is_exclude None = false
is_exclude (Some (Known depth)) = false
is_exclude (Some Unknown) = false
is_exclude (Some Exclude) = true

-- how much of what stands there a client reports: everything, where it says nothing of it, and its
-- top alone, where it excludes it and may
abbrev pub graft_depth : Bool → Option DepthWord → Result Depth Refusal
graft_depth may_exclude None = Ok Infinity
graft_depth may_exclude (Some (Known depth)) = Ok depth
graft_depth may_exclude (Some Unknown) = Err refusals.NotSupported
graft_depth may_exclude (Some Exclude) =
    if may_exclude then Ok Empty else Err refusals.NotSupported

-- the depth of what is asked for without what is beneath directories
abbrev pub shallow : Purpose → Depth
shallow Update = Files
shallow Switch = Files
shallow Status = Empty
shallow Diff = Files
shallow Summary = Files

-- how deep a drive is to go: by its word, or else by whether it is asked for what is beneath
-- directories too
abbrev pub depth_asked : Purpose → Bool → Option DepthWord → Result DepthAsked Refusal
depth_asked purpose recurse (Some (Known depth)) = Ok (asks.Given depth)
depth_asked purpose recurse (Some Unknown) = Ok asks.AsReported
depth_asked purpose recurse (Some Exclude) = Err refusals.NotSupported
depth_asked purpose true None = Ok (asks.Given Infinity)
depth_asked purpose false None = Ok (asks.Given (shallow purpose))

-- everything beneath a directory is reported, or asked for
abbrev pub is_to_the_end : Depth → Bool
is_to_the_end Empty = false
is_to_the_end Files = false
is_to_the_end Immediates = false
is_to_the_end Infinity = true

-- everything is asked for, however deep it was reported
abbrev pub asks_for_all : DepthAsked → Bool
asks_for_all (asks.Given depth) = is_to_the_end depth
asks_for_all asks.AsReported = false

-- less than everything is reported of what the graft puts
abbrev pub is_shallow : Graft → Bool
is_shallow g = option_map_or (λ s. not (is_to_the_end s.depth)) g.subtree false
