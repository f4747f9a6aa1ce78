-- A text is parsed exactly where it is the text of a right path.
use Rattle.std.proofs.Common.{◌≡◌, ℕ, List, [], ◌∷◌, ◌++◌, Bool, true, false, ◌&&◌, ◌||◌, not, cond, length, drop, Option, Some, None, Result, Ok, Err, IfOk}
use Rattle.std.proofs.{Common.{IfErr, IsNone, inl, inr, refl, sym, ap, ◌∙◌, arith}, lemmas.Bool.Decides.nat_tests, lemmas.List.append-nil}
use Rattle.std.proofs.{lemmas.List.Elements.{All-nil, All-cons, All-head, All-tail}, lemmas.List.Splits.{slice_split_none, slice_split_at}}
use Rattle.std.specs.{Prelude.{◌==◌, nat_lt, if◌then◌else◌}, Str.is_utf8, List.{All, slice_split, onto_first, flat_map, list_any}}
use Rattle.svnpath.proofs.BeneathLemmas.{beneath_is, beneath_right, beneath_root, root_right}
use Rattle.svnpath.specs.Components.{AnswersPath, IsComponent, IsRightPath, beneath, is_forbidden, is_forbidden_byte}
use Rattle.svnpath.specs.{Paths.{PathValue, Component, same_component}, Texts.{is_slash, starts_with_slash, components_of, parsed, path_text}}
use Rattle.svnpath.specs.{declared.fault.PathFault.PathFault, declared.fault.PathFault.TheVariants.{EmptyComponent, ForbiddenComponent, TooLong, NoMemory}}

-- the components' texts behind one another
abbrev pub texts : List Component → List ℕ
texts = flat_map (λ component. 47 ∷ component)

slash_is : (b : ℕ) → is_slash b ≡ true → b ≡ 47
slash_is b e = grind (arith, nat_tests)

-- the parts of a text, each behind a slash, are a slash and the text
texts-slice_split : (text : List ℕ) → texts (slice_split is_slash text) ≡ 47 ∷ text
texts-slice_split [] = refl
texts-slice_split (b ∷ text) =
    by (is_slash b) refl (slice_split is_slash text) (texts-slice_split text)
  where
    by : (s : Bool) → is_slash b ≡ s → (parts : List Component) → texts parts ≡ 47 ∷ text → texts (cond s ([] ∷ parts) (onto_first b parts)) ≡ 47 ∷ b ∷ text
    by true is parts e = ap (λ xs. 47 ∷ xs) e ∙ ap (λ c. 47 ∷ c ∷ text) (sym (slash_is b is))
    by false is [] e = cc
    by false is (part ∷ parts) e =
        let rest : part ++ texts parts ≡ text = cc in
        ap (λ xs. 47 ∷ b ∷ xs) rest

path_text_is : (path : PathValue) (text : List ℕ) → texts path ≡ 47 ∷ text → path_text path ≡ 47 ∷ text
path_text_is [] text e = cc
path_text_is (c ∷ path) text e = e

path_text-components_of : (text : List ℕ) → path_text (components_of text) ≡ 47 ∷ text
path_text-components_of [] = refl
path_text-components_of (b ∷ text) = path_text_is (slice_split is_slash (b ∷ text)) (b ∷ text) (texts-slice_split (b ∷ text))

first_true : (a b : Bool) → (a && b) ≡ true → a ≡ true
first_true true b e = refl
first_true false b e = cc

slash_same : (b : ℕ) → (47 == b) ≡ true → b ≡ 47
slash_same b e = grind (arith, nat_tests)

slash_first : (text : List ℕ) → starts_with_slash text ≡ true → text ≡ 47 ∷ drop 1 text
slash_first [] e = cc
slash_first (b ∷ text) e = ap (λ x. x ∷ text) (slash_same b (first_true (47 == b) true e))

-- a text that is parsed is the text of the path
pub parsed_text : (text : List ℕ) (path : PathValue) → parsed text ≡ Ok path → (text ≡ path_text path) × IsRightPath path
parsed_text text path e =
    by (starts_with_slash text) refl e
  where
    by : (s : Bool) → starts_with_slash text ≡ s → cond s (beneath [] (components_of (drop 1 text))) (Err ForbiddenComponent) ≡ Ok path → (text ≡ path_text path) × IsRightPath path
    by false is e = cc
    by true is e =
        let parts_are : path ≡ components_of (drop 1 text) = beneath_is [] (components_of (drop 1 text)) path e in (
          slash_first text is ∙ sym (path_text-components_of (drop 1 text)) ∙ ap path_text (sym parts_are),
          beneath_right (components_of (drop 1 text)) [] path root_right e,
        )

neither : (a b : Bool) → (a || b) ≡ false → (a ≡ false) × (b ≡ false)
neither false b e = (refl, e)
neither true b e = cc

no_slash_byte : (b : ℕ) → is_forbidden_byte b ≡ false → is_slash b ≡ false
no_slash_byte b e = (neither ((b == 0) || (b == 10)) (b == 47) e).1

no_slash : (c : Component) → list_any is_forbidden_byte c ≡ false → All (λ b. is_slash b ≡ false) c
no_slash [] e = All-nil (λ b. is_slash b ≡ false)
no_slash (b ∷ c) e =
    let both = neither (is_forbidden_byte b) (list_any is_forbidden_byte c) e in
    All-cons (λ x. is_slash x ≡ false) b c (no_slash_byte b both.0) (no_slash c both.1)

component_bytes : (c : Component) → IsComponent c → list_any is_forbidden_byte c ≡ false
component_bytes c right =
    by (length c == 0) (is_forbidden c) refl (if nat_lt 255 (length c) then Some TooLong else None) right
  where
    by : (e f : Bool) → is_forbidden c ≡ f → (rest : Option PathFault) → IsNone (cond e (Some EmptyComponent) (cond f (Some ForbiddenComponent) rest)) → list_any is_forbidden_byte c ≡ false
    by true f is rest h = cc
    by false true is rest h = cc
    by false false is rest h =
        let bytes : Bool = list_any is_forbidden_byte c in
        let dot : Bool = same_component c (46 ∷ []) in
        let dots : Bool = same_component c (46 ∷ 46 ∷ []) in
        (neither bytes dot (neither (bytes || dot) dots (neither (bytes || dot || dots) (not (is_utf8 c)) is).0).0).0

-- a right path's components are the parts of their texts
split_texts : (c : Component) (path : PathValue) → All IsComponent (c ∷ path) → slice_split is_slash (c ++ texts path) ≡ c ∷ path
split_texts c [] right =
    ap (slice_split is_slash) (append-nil c) ∙ slice_split_none is_slash c (no_slash c (component_bytes c (All-head IsComponent c [] right)))
split_texts c (d ∷ path) right =
    slice_split_at is_slash c 47 (d ++ texts path) (no_slash c (component_bytes c (All-head IsComponent c (d ∷ path) right))) refl
    ∙ ap (λ parts. c ∷ parts) (split_texts d path (All-tail IsComponent c (d ∷ path) right))

-- the text of a right path is parsed
pub parsed-path_text : (path : PathValue) → IsRightPath path → parsed (path_text path) ≡ Ok path
parsed-path_text [] right = refl
parsed-path_text ([] ∷ path) right = cc (All-head IsComponent [] path right.components)
parsed-path_text ((b ∷ c) ∷ path) right =
    ap (beneath []) (split_texts (b ∷ c) path right.components) ∙ beneath_root ((b ∷ c) ∷ path) right

-- right paths of one text are one path
pub same_path_text : (p q : PathValue) → IsRightPath p → IsRightPath q → path_text p ≡ path_text q → p ≡ q
same_path_text p q right other_right same = cc (sym (parsed-path_text p right) ∙ ap parsed same ∙ parsed-path_text q other_right)

pub answer_text : (text : List ℕ) (r : Result PathValue PathFault) → AnswersPath r (parsed text) → IfOk r (λ path. text ≡ path_text path)
answer_text text (Ok path) h = (parsed_text text path h).0
answer_text text (Err fault) h = tt

pub answer_refuses_text : (text : List ℕ) (r : Result PathValue PathFault) → AnswersPath r (parsed text) → (path : PathValue) → IsRightPath path → text ≡ path_text path → IfErr r (λ fault. fault ≡ NoMemory)
answer_refuses_text text (Ok found) h path right is = tt
answer_refuses_text text (Err fault) h path right is =
    elim h [
      | inl refused ↦ cc (sym (ap parsed is ∙ parsed-path_text path right) ∙ refused)
      | inr memory ↦ memory
    ]
