use Rattle.std.proofs.Common.{refl, rules, subst, ◌∙◌}
use Rattle.std.specs.Io.KnownBytes.{Appends}
use Rattle.wire_replies.specs.Sinks.{Writes, WritesPart}
use Rattle.conversations.specs.Conversation.{sight}
use Rattle.conversations.proofs.{Conversing.{greeting_unwritten, was_ok, then_served}, Gathered.in_part}
use Rattle.conversations.proofs.worker.Worker.serve.Goals as goal

pub returns-clause-served : goal.returns-clause-served
returns-clause-served g c =
    let remaining = g.I.Read.remaining in
    let contents = g.O.Write.contents in
    let point = g.A.RepoAccess.point in
    let old = sight (point c.args.self.now.access) (remaining c.args.input.now) (contents c.args.output.now) c.args.self.now.envs in
    let new = sight (point c.converse.new.self.access) (remaining c.converse.new.input) (contents c.converse.new.output) c.converse.new.self.envs in
    let wrote = was_ok _ c.write_and_flush.result c.in_ok-map_err.field-0 c.in_ok-map_err.ensures.cases in
    let appends = Appends (contents c.args.output.now) (contents c.write_and_flush.new.output) in
    let ok = subst (λ r. Writes r appends c.as_slice.result.now) wrote c.write_and_flush.ensures in
    let written = subst appends (c.as_slice.ensures.value ∙ c.in_ok-out.ensures.ok) ok in
    then_served g.A.RepoAccess.rules c.args.self.now.options.now g.E.EnvSource.gives old new (contents c.write_and_flush.new.output) written c.converse.result c.converse.ensures.conversed

pub returns-in_err-map_err-clause-served : goal.returns-in_err-map_err-clause-served
returns-in_err-map_err-clause-served g c =
    let remaining = g.I.Read.remaining in
    let contents = g.O.Write.contents in
    let point = g.A.RepoAccess.point in
    let old = sight (point c.args.self.now.access) (remaining c.args.input.now) (contents c.args.output.now) c.args.self.now.envs in
    let new = sight (point c.args.self.now.access) (remaining c.args.input.now) (contents c.write_and_flush.new.output) c.args.self.now.envs in
    let appends = Appends (contents c.args.output.now) (contents c.write_and_flush.new.output) in
    let part = in_part c.write_and_flush.result appends c.as_slice.result.now c.write_and_flush.ensures in
    greeting_unwritten c.from_residual-in_err-map_err.result g.A.RepoAccess.rules c.args.self.now.options.now g.E.EnvSource.gives old new
    refl (subst (λ bytes. WritesPart appends bytes) (c.as_slice.ensures.value ∙ c.in_ok-out.ensures.ok) part) (search rules)
