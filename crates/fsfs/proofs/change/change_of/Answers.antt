use Rattle.std.proofs.Common.{rules, subst, codes, ◌≡◌, ◌+◌, ◌-◌, ◌++◌, take, drop, length}
use Rattle.std.specs.Prelude.{IfSome}
use Rattle.fsfs.specs.Known.{IsKnown, total}
use Rattle.fsfs.proofs.KnownTexts.{spliced}
use Rattle.fsfs.proofs.change.change_of.Goals as goal

pub returns-in-Some-2-clause-known : goal.returns-in-Some-2-clause-known
returns-in-Some-2-clause-known c =
    let cut = c.in-Some.cut in
    let old = c.args.old.now in
    let listed = c.args.listed.now in
    let new = c.in-Some-2.listed in
    let part = c.in-Some-between.part.now in
    let part_known = subst (λ found. IfSome found (λ l. IsKnown (part ++ codes "END\n") l.lengths.items l.entries.items)) c.in-Some-2.is
    c.in_ok-listed.ensures in
    let begins : cut.begin ≡ total (take cut.front listed.lengths.items) = search rules in
    let tails : cut.tail ≡ total (drop cut.end listed.lengths.items) + 4 = search rules in
    let joined : c.args.text.now ≡ take cut.begin old ++ part ++ drop (length old - cut.tail) old = search rules in
    spliced old c.args.text.now part listed.lengths.items new.lengths.items listed.entries.items new.entries.items cut.front cut.end cut.begin
    cut.tail c.requires part_known begins tails joined
