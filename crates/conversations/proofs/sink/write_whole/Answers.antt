use Rattle.std.proofs.{Common.{ap, ◌∙◌, ℕ, List, Bor}, lemmas.List.take_rest}
use Rattle.conversations.proofs.{Gathered.{no_more, so_many_more, unsent}, sink.write_whole.Goals.{in-Ok, in-Err}}
use Rattle.conversations.proofs.sink.write_whole.Goals as goal

pub loop-init : goal.loop-init
loop-init g c = unsent _ _

pub loop-preserved : goal.loop-preserved
loop-preserved g c =
    let contents = g.W.Write.contents in
    let (sent, same) = c.loop.invariant in
    let now : Bor (List ℕ) → List ℕ = λ r. r.now in
    let rest = c.loop.rest.now in
    let after = c.match-write.rest.now in
    elim c.match-write.branch [
      | in-Ok w ↦ so_many_more (contents c.args.output.now) (contents c.loop.output) (contents c.write.new.self) c.args.bytes.now sent
          w.in-Ok.count rest after same w.in-Ok.ensures.bytes (ap now w.rest-is ∙ take_rest rest w.in-Ok.count)
      | in-Err w ↦ no_more (contents c.args.output.now) (contents c.loop.output) (contents c.write.new.self) c.args.bytes.now sent
          rest after same w.in-Err.ensures.bytes (ap now w.rest-is)
    ]
