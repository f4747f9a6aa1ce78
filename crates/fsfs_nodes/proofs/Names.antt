-- Lines that name no repository.
use Rattle.std.proofs.Common.{◌≡◌, Bool, true, false, cond, eqb, List, length, Option, Some, None, refl, ap, ◌∙◌}
use Rattle.std.specs.{Prelude.{ℕ, option_map}, Int.{from_be_bytes, w128}}
use Rattle.uuid.specs.Text.{parsed}
use Rattle.fsfs_nodes.specs.Identity.{uuid_line}

pub no_uuid : (line : List ℕ) → ((u : List ℕ) × (parsed line ≡ Some u) → ⊥) → uuid_line line ≡ None
unfolding uuid_line
no_uuid line none = by (parsed line) refl
  where
    either : (o : Option ℕ) (t : Bool) → cond t o o ≡ o
    either o true = refl
    either o false = refl

    by : (o : Option (List ℕ)) → parsed line ≡ o → uuid_line line ≡ None
    by (Some u) e = absurd (none (u, e))
    by None e = ap (λ (o : Option (List ℕ)). cond (eqb (length line) 36) (option_map (from_be_bytes w128) o) None) e ∙ either None (eqb (length line) 36)
