use Rattle.std.proofs.Common.{◌∙◌, rules}
use Rattle.repository_creation.proofs.Copying.{reads_failed, step_of_writes}
use Rattle.repository_creation.proofs.migrating.copy_head.Goals as goal

pub returns-in_err-uuid-clause-step : goal.returns-in_err-uuid-clause-step
returns-in_err-uuid-clause-step g c =
    reads_failed g.S.Store g.T.Store c.args.from.now c.read_text.new.store c.args.to.now c.in_err-uuid.field-0.0 c.from_residual.result (search rules)
    c.read_text.ensures.reads c.in_err-uuid.ensures.cause

pub returns-clause-step : goal.returns-clause-step
returns-clause-step g c =
    step_of_writes g.S.Store g.T.Store c.args.from.now c.read_text.new.store c.args.to.now c.write_head.new.to _ c.read_text.ensures.reads
    c.write_head.ensures.honest.1 c.write_head.ensures.doubt c.write_head.ensures.cause

pub returns-clause-made : goal.returns-clause-made
returns-clause-made g c = λ honest there layout after here.
    c.write_head.ensures.made there layout after (g.S.Store.holds c.args.from.now) here (c.as_slice.ensures.value ∙ c.in_ok-uuid.ensures.found honest)
