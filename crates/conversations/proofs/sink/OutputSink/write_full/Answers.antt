use Rattle.std.proofs.Common.{ℕ, List, Vec, Global, ap, rules, subst, ◌∙◌}
use Rattle.std.specs.Io.KnownBytes.{Appends}
use Rattle.conversations.specs.Gathering.{gathers_nothing}
use Rattle.conversations.proofs.Gathered.{all_gone}
use Rattle.conversations.proofs.sink.OutputSink.write_full.Goals as goal

pub returns-then-len-lt-PIECE-clause-gathered : goal.returns-then-len-lt-PIECE-clause-gathered
returns-then-len-lt-PIECE-clause-gathered g c =
    let s = c.args.self.now in
    gathers_nothing (g.W.Write.contents s.output.now) s.buffer.items s.fault

pub returns-in-Ok-clause-gathered : goal.returns-in-Ok-clause-gathered
returns-in-Ok-clause-gathered g c =
    let s = c.args.self.now in
    let held = g.W.Write.contents s.output.now in
    let held' = g.W.Write.contents c.write_gathered.new.output in
    let items : Vec ℕ Global → List ℕ = λ v. v.items in
    let written = subst (λ (xs : List ℕ). Appends held held' xs) (ap items c.replace-gathered.ensures.value) c.in-Ok.ensures in
    all_gone held held' s.buffer.items c.replace-gathered.new.dest.items s.fault (search rules) written (ap items c.replace-gathered.ensures.after ∙ c.new.ensures.items)
