-- What the code keeps of what is copied.
use Rattle.std.specs.Prelude.{◌+◌, ◌≤◌, ◌<◌, ◌^◌}
use Rattle.text_deltas.specs.declared.shared.Shared.{Shared}

-- both lengths are those of slices, and no byte is copied twice
pub record IsBounded (s : Shared) : Type 0 where
  pub before : s.before < 2 ^ 63
  pub text : s.text < 2 ^ 63
  pub within_before : s.front + s.back ≤ s.before
  pub within_text : s.front + s.back ≤ s.text
