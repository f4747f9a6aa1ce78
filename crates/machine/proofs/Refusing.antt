-- What an item is that was refused.
use Rattle.std.proofs.Common.{◌≡◌, ◌⊎◌, inl, inr}
use Rattle.std.specs.Prelude.{Result, Err}
use Rattle.wire_forms.specs.{declared.fault.CommandFault.CommandFault, declared.fault.CommandFault.TheVariants.{UnknownName, BadParameters, NoMemory}}

pub bad : {T : Type 0} (wanted : Result T CommandFault) → (wanted ≡ Err BadParameters) ⊎ (BadParameters ≡ NoMemory) → wanted ≡ Err BadParameters
bad wanted (inl e) = e
bad wanted (inr e) = cc

pub unknown : {T : Type 0} (wanted : Result T CommandFault) → (wanted ≡ Err UnknownName) ⊎ (UnknownName ≡ NoMemory) → wanted ≡ Err UnknownName
unknown wanted (inl e) = e
unknown wanted (inr e) = cc
