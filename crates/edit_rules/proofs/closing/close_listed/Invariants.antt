use Rattle.std.proofs.Common.{take}
use Rattle.std.specs.Prelude.{option_copied}
use Rattle.revision_data.specs.Found.{is_listed}
use Rattle.edit_rules.specs.{Closing.ClosesAt, Tokens.HavePlaces}
use Rattle.edit_rules.proofs.closing.close_listed.Given as goal

-- it is done at the places so far
abbrev pub invariant-loop-place : goal.invariant-loop-place
invariant-loop-place l =
    ClosesAt (option_copied l.kept) l.path (is_listed (take l.place-index l.listed)) l.initial.opened.entries l.opened.entries
    × HavePlaces l.places.entries l.opened.entries
