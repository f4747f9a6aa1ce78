use Rattle.std.proofs.Common.{◌≡◌, drop}
use Rattle.items.specs.View.{values_of}
use Rattle.commands.specs.Logins.{are_words}
use Rattle.commands.proofs.login.are_words.Given as goal

abbrev pub invariant-loop-item : goal.invariant-loop-item
invariant-loop-item l = are_words (values_of l.items) ≡ are_words (values_of (drop l.item-index l.items))
