-- The rules at one path, in the forms that the code gives and those of the definitions.
use Rattle.std.proofs.Common.{◌≡◌, Bool, true, false, cond, Option, None, option_map, refl}
use Rattle.std.specs.Prelude.{not, if◌then◌else◌}
use Rattle.revision_data.proofs.Written.{map_if}

-- what is taken out, and what is changed above it
pub cut_if : {X : Type 0} (f : X → X) (gone above : Bool) (o : Option X)
    → cond (not gone) (option_map (λ e. if above then f e else e) o) None ≡ (if gone then None else (if above then option_map f o else o))
cut_if f true above o = refl
cut_if f false above o = map_if f above o
