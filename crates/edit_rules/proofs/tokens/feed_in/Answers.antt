use Rattle.std.proofs.Common.{refl, sym, subst}
use Rattle.std.specs.{BTreeMap.is_at, Cmp.Lexicographic.slice_cmp, Ordering.nat_cmp, Prelude.IsSome}
use Rattle.edit_rules.proofs.{Kept.reads_under, Places.placed_again}
use Rattle.edit_rules.proofs.tokens.feed_in.Goals as goal

pub returns-in-Some-clause-reads : goal.returns-in-Some-clause-reads
returns-in-Some-clause-reads c =
    reads_under c.feed_opened-fed.result c.args.bytes.now (is_at (slice_cmp nat_cmp c.args.token.now)) c.args.tokens.now.entries _ c.in-Some.opened.now c.feed_opened-fed.new.opened
    c.in-Some.ensures.value (c.get_mut.follows.holds c.feed_opened-fed.new.opened).0 c.feed_opened-fed.ensures.reads

pub returns-in-Some-clause-placed : goal.returns-in-Some-clause-placed
returns-in-Some-clause-placed c = λ places have.
    placed_again places c.args.tokens.now.entries _ c.args.token.now c.in-Some.opened.now c.feed_opened-fed.new.opened have
    (sym c.in-Some.ensures.value) c.feed_opened-fed.ensures.path
    ((c.get_mut.follows.holds c.feed_opened-fed.new.opened).3 (subst IsSome c.in-Some.ensures.value refl)).0
