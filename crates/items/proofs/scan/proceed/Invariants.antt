use Rattle.std.proofs.Common.{◌-◌, length}
use Rattle.items.specs.{Run.IsScanned, Tally.IsCounted}
use Rattle.items.proofs.scan.proceed.Given as goal

abbrev pub invariant-scanning : goal.invariant-scanning
invariant-scanning l = IsScanned l.bytes l.count l.scan × IsCounted l.bytes l.count l.items

abbrev pub decreases-scanning : goal.decreases-scanning
decreases-scanning l = length l.bytes - l.count
