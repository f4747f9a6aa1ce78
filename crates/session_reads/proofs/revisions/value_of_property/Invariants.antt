-- The first of those that are left is the first of all.
use Rattle.std.proofs.Common.{◌≡◌}
use Rattle.std.specs.List.{find}
use Rattle.wire_forms.specs.Forms.{is_name}
use Rattle.session_reads.proofs.revisions.value_of_property.Given as goal

abbrev pub invariant-loop-known : goal.invariant-loop-known
invariant-loop-known l =
    find (λ e. is_name e.0 l.name) l.known-iterator ≡ find (λ e. is_name e.0 l.name) l.properties
