use Rattle.std.proofs.Common.{ap, ◌∙◌}
use Rattle.svndiff0.specs.Document.{document_text}
use Rattle.svndiff0.proofs.Fulls.{full_again, written_more, written_all}
use Rattle.svndiff0.proofs.full.encode_full.Goals as goal

pub loop-preserved : goal.loop-preserved
loop-preserved c =
    written_more _ _ _ _ _ _ _ _ _ _ c.loop.invariant.1 c.loop-test.true c.loop.invariant.2 c.min.ensures c.split_at.ensures.front c.split_at.ensures.back c.in_ok-put_window.ensures

pub returns-clause-text : goal.returns-clause-text
returns-clause-text c = λ h base.
    ap (document_text base) (written_all _ _ _ _ _ _ c.loop.invariant.1 c.loop-test.false c.loop.invariant.2) ∙ full_again base c.args.text.now h
