use Rattle.std.proofs.Common.{◌≡◌, drop}
use Rattle.cram.specs.Login.{password_of}
use Rattle.cram.proofs.users.Users.password_of.Given as goal

-- none of the users so far has the name
abbrev pub invariant-loop-account : goal.invariant-loop-account
invariant-loop-account l = password_of l.name l.account-items ≡ password_of l.name (drop l.account-index l.account-items)
