-- The text of a path has no line feed.
use Rattle.std.proofs.Common.{◌≡◌, ◌==◌, ◌||◌, ℕ, Bool, true, false, List, [], ◌∷◌, length, Option, Some, is_some, refl, ap, sym, ◌∙◌, if◌then◌else◌}
use Rattle.std.proofs.{lemmas.Bool.{false≢true, eqb-true}, lemmas.List.Elements.{All-head, All-tail}}
use Rattle.std.specs.{Prelude.All, List.{flat_map, list_any}}
use Rattle.svnpath.specs.{Components.{IsComponent, is_forbidden, is_forbidden_byte}, Paths.{Component, PathValue}, Texts.path_text}
use Rattle.svnpath.specs.{declared.fault.PathFault.PathFault, declared.fault.PathFault.TheVariants.{EmptyComponent, ForbiddenComponent}}
use Rattle.fsfs_text.specs.Splits.{is_free}
use Rattle.fsfs_text.proofs.{Splits.is_free-append, IdsAgain.free-cons}

other_byte : (b : ℕ) → is_forbidden_byte b ≡ false → (b == 10) ≡ false
other_byte b none = by (b == 10) refl
  where
    by : (t : Bool) → (b == 10) ≡ t → t ≡ false
    by true is = absurd (false≢true (sym none ∙ ap is_forbidden_byte (eqb-true b 10 is)))
    by false is = refl

neither : (a b : Bool) → (a || b) ≡ false → (a ≡ false) × (b ≡ false)
neither true b none = absurd (false≢true (sym none))
neither false b none = (refl, none)

bytes_free : (bytes : List ℕ) → list_any is_forbidden_byte bytes ≡ false → is_free 10 bytes ≡ true
bytes_free [] none = refl
bytes_free (b ∷ bytes) none =
    let parts = neither (is_forbidden_byte b) (list_any is_forbidden_byte bytes) none in
    free-cons 10 b bytes (other_byte b parts.0) (bytes_free bytes parts.1)

first_of : (a b c d : Bool) → (a || b || c || d) ≡ false → a ≡ false
first_of true b c d none = absurd (false≢true (sym none))
first_of false b c d none = refl

allowed : (empty forbidden : Bool) (rest : Option PathFault)
    → is_some (if empty then Some EmptyComponent else if forbidden then Some ForbiddenComponent else rest) ≡ false → forbidden ≡ false
allowed true forbidden rest none = absurd (false≢true (sym none))
allowed false true rest none = absurd (false≢true (sym none))
allowed false false rest none = refl

component_free : (c : Component) → IsComponent c → is_free 10 c ≡ true
component_free c right = bytes_free c (first_of (list_any is_forbidden_byte c) _ _ _ (allowed (length c == 0) (is_forbidden c) _ right))

names_free : (path : PathValue) → All IsComponent path → is_free 10 (flat_map (λ component. 47 ∷ component) path) ≡ true
names_free [] right = refl
names_free (c ∷ path) right =
    is_free-append 10 (47 ∷ c) (flat_map (λ component. 47 ∷ component) path)
    (free-cons 10 47 c refl (component_free c (All-head IsComponent c path right)))
    (names_free path (All-tail IsComponent c path right))

pub text_free : (path : PathValue) → All IsComponent path → is_free 10 (path_text path) ≡ true
text_free [] right = refl
text_free (c ∷ path) right = names_free (c ∷ path) right
