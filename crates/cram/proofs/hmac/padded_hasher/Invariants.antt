use Rattle.std.proofs.Common.{◌++◌, ◌-◌, length, replicate, take}
use Rattle.md5.specs.Md5.{Holds}
use Rattle.cram.specs.Hmac.{padded_with}
use Rattle.cram.proofs.hmac.padded_hasher.Given as goal

-- the key's first bytes are taken in
abbrev pub invariant-loop-byte : goal.invariant-loop-byte
invariant-loop-byte l = Holds l.hasher (padded_with l.pad (take l.byte-index l.key))

-- the key is taken in, and the zeros so far
abbrev pub invariant-loop : goal.invariant-loop
invariant-loop l = Holds l.hasher (padded_with l.pad (l.key ++ replicate (l.counter - length l.key) 0))
