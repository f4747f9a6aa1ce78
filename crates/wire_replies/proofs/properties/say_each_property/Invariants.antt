-- The properties so far are written.
use Rattle.wire_replies.proofs.{PropertyRows.property_tree, Row.Written}
use Rattle.wire_replies.proofs.properties.say_each_property.Given as goal

abbrev pub invariant-loop-name : goal.invariant-loop-name
invariant-loop-name g l =
    Written property_tree g.S.ReplySink.writes l.fn.out l.out l.properties l.name-iterator
