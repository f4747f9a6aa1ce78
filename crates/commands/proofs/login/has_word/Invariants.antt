use Rattle.std.proofs.Common.{◌≡◌, drop}
use Rattle.items.specs.View.{values_of}
use Rattle.commands.specs.Logins.{has_word}
use Rattle.commands.proofs.login.has_word.Given as goal

abbrev pub invariant-loop-item : goal.invariant-loop-item
invariant-loop-item l = has_word l.word (values_of l.items) ≡ has_word l.word (values_of (drop l.item-index l.items))
