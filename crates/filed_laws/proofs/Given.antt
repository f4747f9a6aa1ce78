-- What a line gives: what came with it, or what the predecessor's line gives.
use Rattle.std.proofs.Common.{◌≡◌, ◌<◌, ◌^◌, ◌⊎◌, inl, inr, ◌==◌, ℕ, Bool, true, false, List, [], ◌∷◌, length, Option, Some, None, refl, arith}
use Rattle.std.specs.{Cmp.Lexicographic.pointwise, Prelude.if◌then◌else◌}
use Rattle.svnpath.specs.PathLaws.{same_component_is}
use Rattle.fsfs_text.specs.declared.representation.Representation.{Representation}
use Rattle.fsfs_nodes.specs.Bodies.{representation_at}
use Rattle.fsfs.specs.Files.{brought, named_line}
use Rattle.filed_trees.specs.{Pieces.{RevisionBytes, body_at_line}, Comparing.CameWith}
use Rattle.filed_writing.specs.Pieces.{Before, Brings, brings, some_bytes}
use Rattle.filed_laws.proofs.Fitting.{body_long}

-- nothing, where there are no bytes; the bytes; or what another line gives that has the same
abbrev pub Given : RevisionBytes → List ℕ → Option Before → Option Representation → Type 0
Given fs bytes before line =
    ((bytes ≡ []) × (line ≡ None))
    ⊎ (((l : Representation) × (line ≡ Some l) × (body_at_line fs l ≡ Some bytes) × (bytes ≡ [] → ⊥) × (length bytes < 2 ^ 64))
    ⊎ ((p : Before) × (before ≡ Some p) × (p.0 ≡ bytes) × (line ≡ p.1)))

came : (fs : RevisionBytes) (n offset : ℕ) (bytes : List ℕ) (before : Option Before) → length (brought (some_bytes bytes)) < 2 ^ 64
    → CameWith fs n (named_line n offset (some_bytes bytes) None) (some_bytes bytes)
    → Given fs bytes before (named_line n offset (some_bytes bytes) None)
came fs n offset [] before small with = inl (refl, refl)
came fs n offset (b ∷ bytes) before small with =
    let whole : List ℕ = b ∷ bytes in
    inr (inl (representation_at n offset whole, refl, with (representation_at n offset whole) whole refl refl refl, (λ e. absurd (cc e)), omega (arith, small, body_long whole)))

abbrev chosen : Bool → List ℕ → Before → Brings
chosen same bytes before = if same then record { new = None; kept = before.1 } else record { new = some_bytes bytes; kept = None }

pub given : (fs : RevisionBytes) (n offset : ℕ) (bytes : List ℕ) (before : Option Before) → length (brought (brings bytes before).new) < 2 ^ 64
    → CameWith fs n (named_line n offset (brings bytes before).new (brings bytes before).kept) (brings bytes before).new
    → Given fs bytes before (named_line n offset (brings bytes before).new (brings bytes before).kept)
given fs n offset bytes None small with = came fs n offset bytes None small with
given fs n offset bytes (Some p) small with = by (pointwise ◌==◌ p.0 bytes) refl small with
  where
    by : (c : Bool) → pointwise ◌==◌ p.0 bytes ≡ c → length (brought (chosen c bytes p).new) < 2 ^ 64
        → CameWith fs n (named_line n offset (chosen c bytes p).new (chosen c bytes p).kept) (chosen c bytes p).new
        → Given fs bytes (Some p) (named_line n offset (chosen c bytes p).new (chosen c bytes p).kept)
    by true same small with = inr (inr (p, refl, same_component_is p.0 bytes same, refl))
    by false other small with = came fs n offset bytes (Some p) small with
