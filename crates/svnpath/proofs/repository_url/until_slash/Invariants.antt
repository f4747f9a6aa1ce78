use Rattle.std.proofs.Common.{◌≡◌, ◌++◌, take, drop}
use Rattle.svnpath.specs.Urls.{until_slash}
use Rattle.svnpath.proofs.repository_url.until_slash.Given as goal

abbrev pub invariant-loop-i : goal.invariant-loop-i
invariant-loop-i l = until_slash l.others l.text ≡ take l.i l.text ++ until_slash l.left (drop l.i l.text)
