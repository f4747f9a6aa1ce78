-- Laws of a hub's sessions and of their streams, for the crates above.
use Rattle.std.proofs.Common.{◌≡◌, ℕ, List, [], ◌∷◌, ◌++◌, Option, Some, None, Bool, true, false, refl, ap, subst, ◌∙◌, append_assoc}
use Rattle.std.specs.Prelude.{if◌then◌else◌, ◌==◌, not}
use Rattle.machine.specs.{Hearing.{Input, Yields}, Hearing.Input.{Broken, Whole}, Stages.{is_open, SessionState}}
use Rattle.hub.specs.{State.{session_of, updated, without, kept}, Laws.IsUnbroken}

abbrev IsNone : Option SessionState → Type 0
IsNone None = Unit {0}
IsNone (Some s) = ⊥

no_session : (s : SessionState) → None ≡ Some s → ⊥
no_session s h = subst (λ (o : Option SessionState). IsNone o) h tt

-- a session is found as it was last written
pub session_of-updated : (xs : List (ℕ × SessionState)) (n : ℕ) (s t : SessionState)
    → session_of xs n ≡ Some s → session_of (updated xs n t) n ≡ Some t
session_of-updated [] n s t h = absurd (no_session s h)
session_of-updated (x ∷ xs) n s t h =
    elim (x.0 == n) as (λ b. (x.0 == n) ≡ b → (if b then Some x.1 else session_of xs n) ≡ Some s
    → session_of (if b then (x.0, t) ∷ xs else x ∷ updated xs n t) n ≡ Some t) [
      | true ↦ λ e found. ap (λ (b : Bool). if b then Some t else session_of xs n) e
      | false ↦ λ e found. ap (λ (b : Bool). if b then Some x.1 else session_of (updated xs n t) n) e ∙ session_of-updated xs n s t found
    ] refl h

-- of two states that are written the later counts
pub updated_updated : (xs : List (ℕ × SessionState)) (n : ℕ) (s t : SessionState)
    → updated (updated xs n s) n t ≡ updated xs n t
updated_updated [] n s t = refl
updated_updated (x ∷ xs) n s t =
    elim (x.0 == n) as (λ b. (x.0 == n) ≡ b
    → updated (if b then (x.0, s) ∷ xs else x ∷ updated xs n s) n t ≡ (if b then (x.0, t) ∷ xs else x ∷ updated xs n t)) [
      | true ↦ λ e. ap (λ (b : Bool). if b then (x.0, t) ∷ xs else (x.0, s) ∷ updated xs n t) e
      | false ↦ λ e.
          ap (λ (b : Bool). if b then (x.0, t) ∷ updated xs n s else x ∷ updated (updated xs n s) n t) e
          ∙ ap (λ (ys : List (ℕ × SessionState)). x ∷ ys) (updated_updated xs n s t)
    ] refl

pub without-updated : (xs : List (ℕ × SessionState)) (n : ℕ) (s : SessionState)
    → without (updated xs n s) n ≡ without xs n
without-updated [] n s = refl
without-updated (x ∷ xs) n s =
    elim (x.0 == n) as (λ b. (x.0 == n) ≡ b
    → without (if b then (x.0, s) ∷ xs else x ∷ updated xs n s) n ≡ (if not b then x ∷ without xs n else without xs n)) [
      | true ↦ λ e. ap (λ (b : Bool). if not b then (x.0, s) ∷ without xs n else without xs n) e
      | false ↦ λ e.
          ap (λ (b : Bool). if not b then x ∷ without (updated xs n s) n else without (updated xs n s) n) e
          ∙ ap (λ (ys : List (ℕ × SessionState)). x ∷ ys) (without-updated xs n s)
    ] refl

-- a session that was dropped is found no more
pub session_of-without : (xs : List (ℕ × SessionState)) (n : ℕ) → session_of (without xs n) n ≡ None
session_of-without [] n = refl
session_of-without (x ∷ xs) n =
    elim (x.0 == n) as (λ b. (x.0 == n) ≡ b → session_of (if not b then x ∷ without xs n else without xs n) n ≡ None) [
      | true ↦ λ e. session_of-without xs n
      | false ↦ λ e. ap (λ (b : Bool). if b then Some x.1 else session_of (without xs n) n) e ∙ session_of-without xs n
    ] refl

pub kept-updated : (xs : List (ℕ × SessionState)) (n : ℕ) (s t : SessionState)
    → kept (updated xs n s) n t ≡ kept xs n t
kept-updated xs n s t =
    elim (is_open t.phase) as
    (λ b. (if b then updated (updated xs n s) n t else without (updated xs n s) n)
    ≡ (if b then updated xs n t else without xs n))
    [ true ↦ updated_updated xs n s t | false ↦ without-updated xs n s ]

-- what more bytes there are doesn't matter to what came before
pub yields_more : (first second : List ℕ) (inputs more : List Input) (rest end : List ℕ)
    → IsUnbroken inputs → Yields first inputs rest → Yields (rest ++ second) more end
    → Yields (first ++ second) (inputs ++ more) end
yields_more first second [] more rest end u is after =
    subst (λ (x : List ℕ). Yields (x ++ second) more end) is after
yields_more first second (Whole t ∷ inputs) more rest end u (after, (front, item, whole), yields) next =
    let is : first ++ second ≡ front ++ (after ++ second) = ap (λ (x : List ℕ). x ++ second) whole ∙ append_assoc front after second in (
      after ++ second,
      (front, item, is),
      yields_more after second inputs more rest end u yields next,
    )
yields_more first second (Broken ∷ inputs) more rest end u yields next = absurd u
