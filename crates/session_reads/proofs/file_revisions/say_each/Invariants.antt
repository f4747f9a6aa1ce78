-- The revisions so far are told.
use Rattle.std.proofs.Common.{drop}
use Rattle.std.specs.Prelude.{option_copied}
use Rattle.session_reads.proofs.InTurn.{InTurn}
use Rattle.session_reads.proofs.file_revisions.say_each.Given as goal

abbrev pub invariant-loop-place : goal.invariant-loop-place
invariant-loop-place g l =
    InTurn (g.R.Repository.content l.view) g.S.ReplySink.writes l.fn.out l.out (option_copied l.before) l.places (drop l.place-index l.places)
