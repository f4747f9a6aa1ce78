-- The text of a path that a client can name names the path.
use Rattle.std.proofs.Common.{◌≡◌, [], ◌∷◌, ◌++◌, Bool, true, false, cond, ◌||◌, not, length, Option, Some, None, refl, sym, ap, ◌∙◌, append-nil, if◌then◌else◌}
use Rattle.std.proofs.{lemmas.Bool.false≢true, lemmas.List.Elements.{All-nil, All-cons, All-head, All-tail}}
use Rattle.std.proofs.lemmas.List.Splits.{slice_split_none, slice_split_at}
use Rattle.std.specs.{List.{All, slice_split, flat_map, list_any}, Prelude.{◌==◌, nat_lt, IsNone}, Str.is_utf8}
use Rattle.svnpath.specs.{Components.{is_forbidden, is_forbidden_byte, IsComponent}, Paths.{Component, PathValue, same_component}}
use Rattle.svnpath.specs.{Texts.{components_of, is_slash}, declared.component.TheConstants.COMPONENT_LIMIT, declared.fault.PathFault.PathFault}
use Rattle.svnpath.specs.declared.fault.PathFault.TheVariants.{EmptyComponent, ForbiddenComponent, TooLong}
use Rattle.drive_rules.proofs.Joined.{or_false}
use Rattle.reporter.specs.Named.{IsNamed}
use Rattle.drive_sending.specs.Tokens.{relative_text}

-- the text of the path names the path
abbrev pub IsSpelledPath : PathValue → Type 0
IsSpelledPath p = components_of (relative_text p) ≡ p

no_slash : (c : Component) → list_any is_forbidden_byte c ≡ false → All (λ b. is_slash b ≡ false) c
no_slash [] e = All-nil (λ b. is_slash b ≡ false)
no_slash (b ∷ c) e =
    let both = or_false (is_forbidden_byte b) (list_any is_forbidden_byte c) e in
    All-cons (λ x. is_slash x ≡ false) b c (or_false ((b == 0) || (b == 10)) (b == 47) both.0).1 (no_slash c both.1)

none_some : {A : Type 0} (x : A) → IsNone (Some x) → ⊥
none_some x e = false≢true (sym e)

component_bytes : (c : Component) → IsComponent c → list_any is_forbidden_byte c ≡ false
component_bytes c right =
    by (length c == 0) (is_forbidden c) refl (if nat_lt COMPONENT_LIMIT (length c) then Some TooLong else None) right
  where
    by : (e f : Bool) → is_forbidden c ≡ f → (rest : Option PathFault) → IsNone (cond e (Some EmptyComponent) (cond f (Some ForbiddenComponent) rest)) → list_any is_forbidden_byte c ≡ false
    by true f is rest h = absurd (none_some EmptyComponent h)
    by false true is rest h = absurd (none_some ForbiddenComponent h)
    by false false is rest h =
        let bytes : Bool = list_any is_forbidden_byte c in
        let dot : Bool = same_component c (46 ∷ []) in
        let dots : Bool = same_component c (46 ∷ 46 ∷ []) in
        (or_false bytes dot (or_false (bytes || dot) dots (or_false (bytes || dot || dots) (not (is_utf8 c)) is).0).0).0

-- right components are the parts of their texts
split_texts : (c : Component) (path : PathValue) → IsNamed (c ∷ path) → slice_split is_slash (c ++ flat_map (λ component. 47 ∷ component) path) ≡ c ∷ path
split_texts c [] right =
    ap (slice_split is_slash) (append-nil c) ∙ slice_split_none is_slash c (no_slash c (component_bytes c (All-head IsComponent c [] right)))
split_texts c (d ∷ path) right =
    slice_split_at is_slash c 47 (d ++ flat_map (λ component. 47 ∷ component) path) (no_slash c (component_bytes c (All-head IsComponent c (d ∷ path) right))) refl
    ∙ ap (λ parts. c ∷ parts) (split_texts d path (All-tail IsComponent c (d ∷ path) right))

pub spelled : (p : PathValue) → IsNamed p → IsSpelledPath p
spelled [] right = refl
spelled ([] ∷ path) right = absurd (none_some EmptyComponent (All-head IsComponent [] path right))
spelled ((b ∷ c) ∷ path) right = split_texts (b ∷ c) path right
