use Rattle.std.proofs.Common.{◌≡◌, ◌++◌, map, drop}
use Rattle.items.specs.View.{value_of}
use Rattle.wire_replies.specs.Replies.{link_item}
use Rattle.wire_replies.proofs.failures.links_item.Given as goal

abbrev pub invariant-loop-link : goal.invariant-loop-link
invariant-loop-link l = map value_of l.items.items ++ map link_item (drop l.link-index l.link-items) ≡ map link_item l.links
