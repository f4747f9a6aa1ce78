use Rattle.edit_rules.proofs.Kept.{file_reads}
use Rattle.edit_rules.proofs.tokens.feed_opened.Goals as goal

pub returns-in-File-clause-reads : goal.returns-in-File-clause-reads
returns-in-File-clause-reads c =
    let p = c.in-File.field-0 in
    rw c.in-File.is (file_reads c.feed.result c.args.bytes.now p _ c.feed.new.delta (c.feed.ensures.judged p) c.feed.ensures.ok c.feed.ensures.err)
