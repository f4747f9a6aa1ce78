use Rattle.std.proofs.Common.{refl, rules, subst}
use Rattle.std.specs.{Prelude.IfOk, Io.KnownBytes.Appends}
use Rattle.wire_replies.specs.Sinks.{Writes, WritesPart}
use Rattle.hub.specs.Calls.{ConnectsAs}
use Rattle.streams.specs.Stream.{scene}
use Rattle.conversations.proofs.{Conversing.was_ok, Gathered.in_part}
use Rattle.streams.proofs.Runs.{answered, greeting_unwritten, then_served}
use Rattle.streams.proofs.stdio.run_stdio.Goals as goal

pub returns : goal.returns
returns g c =
    let remaining = g.R.Read.remaining in
    let contents = g.W.Write.contents in
    let n = c.in_ok-number.number in
    let old = scene c.args.hub.now (remaining c.args.input.now) (contents c.args.output.now) c.args.envs.now in
    let greeted = scene c.connect.new.self (remaining c.args.input.now) (contents c.write_and_flush.new.output) c.args.envs.now in
    let connected = was_ok _ c.connect.result (n, c.in_ok-number.greeting) c.in_ok-number.ensures.cases in
    let connects = subst (λ r. IfOk r (λ x. ConnectsAs c.args.hub.now x.0 x.1.items c.connect.new.self)) connected c.connect.ensures.ok in
    let wrote = was_ok _ c.write_and_flush.result c.in_ok-map_err.field-0 c.in_ok-map_err.ensures.cases in
    let appends = Appends (contents c.args.output.now) (contents c.write_and_flush.new.output) in
    let ok = subst (λ r. Writes r appends c.as_slice.result.now) wrote c.write_and_flush.ensures in
    let written = subst appends c.as_slice.ensures.value ok in
    let all = answered g.E.EnvSource.gives n old greeted c.in_ok-number.greeting.items connects refl written refl in
    let new = scene c.serve_pieces.new.hub (remaining c.serve_pieces.new.input) (contents c.serve_pieces.new.output) c.serve_pieces.new.envs in
    then_served g.E.EnvSource.gives n old greeted new all c.serve_pieces.result c.serve_pieces.ensures

pub returns-in_err-map_err : goal.returns-in_err-map_err
returns-in_err-map_err g c =
    let remaining = g.R.Read.remaining in
    let contents = g.W.Write.contents in
    let n = c.in_ok-number.number in
    let old = scene c.args.hub.now (remaining c.args.input.now) (contents c.args.output.now) c.args.envs.now in
    let greeted = scene c.connect.new.self (remaining c.args.input.now) (contents c.write_and_flush.new.output) c.args.envs.now in
    let connected = was_ok _ c.connect.result (n, c.in_ok-number.greeting) c.in_ok-number.ensures.cases in
    let connects = subst (λ r. IfOk r (λ x. ConnectsAs c.args.hub.now x.0 x.1.items c.connect.new.self)) connected c.connect.ensures.ok in
    let appends = Appends (contents c.args.output.now) (contents c.write_and_flush.new.output) in
    let part = subst (λ bytes. WritesPart appends bytes) c.as_slice.ensures.value (in_part c.write_and_flush.result appends c.as_slice.result.now c.write_and_flush.ensures) in
    greeting_unwritten c.from_residual-in_err-map_err.result g.E.EnvSource.gives n old greeted c.in_ok-number.greeting.items connects refl part (search rules)
