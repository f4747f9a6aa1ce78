use Rattle.std.proofs.Common.{◌≡◌, [], ℕ, List, append-nil, refl, rules, subst}
use Rattle.conversations.specs.Gathering.{Gathers, gathers_more}
use Rattle.conversations.proofs.Gathered.{nothing_written, only_gathered, still_gathered, written_so}
use Rattle.conversations.proofs.sink.OutputSinkReplySink.write_part.Goals as goal

pub returns-in_err-extend_from_slice : goal.returns-in_err-extend_from_slice
returns-in_err-extend_from_slice g c =
    let s = c.args.self.now in
    let held = g.W.Write.contents s.output.now in
    let gathered = c.extend_from_slice.new.self.items in
    let writes : List ℕ → Type 0 = λ bytes. (s.output.ghost_name ≡ s.output.ghost_name) × Gathers held s.buffer.items s.fault held gathered s.fault bytes in
    nothing_written c.from_residual.result writes c.args.part.now (search rules) (refl, still_gathered held held s.buffer.items gathered s.fault (search rules))

pub returns : goal.returns
returns g c =
    let s = c.args.self.now in
    let t = c.write_full.new.self in
    let held = g.W.Write.contents s.output.now in
    let held' = g.W.Write.contents t.output.now in
    let part = c.args.part.now in
    let gathered = c.extend_from_slice.new.self.items in
    let grown = gathers_more held held held' s.buffer.items gathered t.buffer.items s.fault s.fault t.fault part []
    (only_gathered held held s.buffer.items gathered s.fault part c.in_ok-extend_from_slice.ensures.items) c.write_full.ensures.gathered in
    let writes : List ℕ → Type 0 = λ bytes. (t.output.ghost_name ≡ s.output.ghost_name) × Gathers held s.buffer.items s.fault held' t.buffer.items t.fault bytes in
    written_so c.write_full.result writes part (
      c.write_full.ensures.same_reference,
      subst (λ (bytes : List ℕ). Gathers held s.buffer.items s.fault held' t.buffer.items t.fault bytes) (append-nil part) grown,
    )
