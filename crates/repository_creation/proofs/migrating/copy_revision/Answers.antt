use Rattle.std.proofs.Common.{◌≡◌, sym, ap, ◌∙◌, rules}
use Rattle.fsfs_text.specs.Formats.{shard_in}
use Rattle.store_files.specs.{Folders.text_of, declared.name.FileName.TheVariants.{Revision, Properties}}
use Rattle.repostore.proofs.Readings.{reads_then}
use Rattle.repository_creation.proofs.Copying.{reads_failed, step_of_reads, step_of_writes, step_then}
use Rattle.repository_creation.proofs.migrating.copy_revision.Goals as goal

pub returns-in_err-revision-clause-step : goal.returns-in_err-revision-clause-step
returns-in_err-revision-clause-step g c =
    reads_failed g.S.Store g.T.Store c.args.from.now c.read_text.new.store c.args.to.now c.in_err-revision.field-0.0 c.from_residual.result (search rules)
    c.read_text.ensures.reads c.in_err-revision.ensures.cause

pub returns-in_err-properties-clause-step : goal.returns-in_err-properties-clause-step
returns-in_err-properties-clause-step g c =
    let s = g.S.Store in
    let t = g.T.Store in
    let first = step_of_reads s t c.args.from.now c.read_text.new.store c.args.to.now c.read_text.result c.read_text.ensures.reads c.read_text.ensures.cause.device c.read_text.ensures.cause.only in
    step_then s t c.args.from.now c.read_text.new.store c.read_text-2.new.store c.args.to.now c.args.to.now c.args.to.now _ c.from_residual-in_err-properties.result first
    (reads_failed s t c.read_text.new.store c.read_text-2.new.store c.args.to.now c.in_err-properties.field-0.0 c.from_residual-in_err-properties.result (search rules)
    c.read_text-2.ensures.reads c.in_err-properties.ensures.cause)

pub returns-clause-step : goal.returns-clause-step
returns-clause-step g c =
    step_of_writes g.S.Store g.T.Store c.args.from.now c.read_text-2.new.store c.args.to.now c.write_pair.new.to _
    (reads_then g.S.Store c.args.from.now c.read_text.new.store c.read_text-2.new.store c.read_text.ensures.reads c.read_text-2.ensures.reads)
    c.write_pair.ensures.honest.1 c.write_pair.ensures.doubt c.write_pair.ensures.cause

pub returns-clause-made : goal.returns-clause-made
returns-clause-made g c = λ honest there here.
    let n = c.args.number in
    let from = c.args.course.from in
    let old = g.S.Store.holds c.args.from.now in
    let shard = c.shard-shard.result in
    let early = c.read_text-2.ensures.reads.honest honest in
    let named : shard_in from n ≡ shard = sym c.shard-shard.ensures in
    let r = c.as_slice.ensures.value ∙ c.in_ok-revision.ensures.found early in
    let p = c.as_slice-2.ensures.value ∙ c.in_ok-properties.ensures.found honest ∙ ap text_of (c.read_text.ensures.reads.same early (Properties shard n)) in
    c.write_pair.ensures.made there from old here
    ((λ i. (text_of (old (Revision (named i) n)), text_of (old (Properties (named i) n)))) ∙ (λ i. (sym r i, sym p i)))
