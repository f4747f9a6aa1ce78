use Rattle.std.specs.{BTreeMap.is_at, Cmp.Lexicographic.slice_cmp, Ordering.nat_cmp}
use Rattle.edit_rules.proofs.Kept.{written_over}
use Rattle.edit_rules.proofs.texts.text_edit_in.Goals as goal

pub returns-in-Some-clause-same : goal.returns-in-Some-clause-same
returns-in-Some-clause-same c =
    written_over (is_at (slice_cmp nat_cmp c.args.token.now)) c.args.tokens.now.entries _ c.in-Some.opened.now c.text_edit.new.opened c.in-Some.ensures.value
    (c.get_mut.follows.holds c.text_edit.new.opened).0 c.text_edit.ensures.same
