use Rattle.std.proofs.Common.{◌≡◌, drop, map}
use Rattle.wire_forms.specs.Names.{named}
use Rattle.wire_forms.proofs.names.named.Given as goal

abbrev pub invariant-loop-row : goal.invariant-loop-row
invariant-loop-row g l = named (map (λ row. (row.0.now, row.1)) (drop l.row-index l.table)) l.name ≡ named (map (λ row. (row.0.now, row.1)) l.table) l.name
