-- A right answer is refused for no reason of its own.
use Rattle.std.proofs.Common.{◌≡◌, ℕ, List, [], ◌∷◌, ◌++◌, length, Some, None, refl, sym, ap, ◌∙◌, arith, length-append}
use Rattle.cram.specs.{Login.{Login, password_of}, Answer.{IsAnswer, IsRightAnswer, IsUnknown, IsWrong, digits_under}}
use Rattle.cram.proofs.Digits.{length-digits_under, digits_under-lower}

pub answer_from_right : (challenge : List ℕ) (users : List Login) (answer name : List ℕ) (h : IsRightAnswer challenge users answer name) → IsAnswer answer name (digits_under h.password challenge)
answer_from_right challenge users answer name h = record {
  whole = h.whole;
  named = h.named;
  counted = length-digits_under h.password challenge;
  lower = digits_under-lower h.password challenge;
}

-- two lists that are cut at the same place have the same parts
same_parts : (xs ys us vs : List ℕ) → xs ++ us ≡ ys ++ vs → length us ≡ length vs → (xs ≡ ys) × (us ≡ vs)
same_parts [] [] us vs e h = (refl, e)
same_parts [] (y ∷ ys) us vs e h = absurd (omega (arith, h, ap length e, length-append (y ∷ ys) vs))
same_parts (x ∷ xs) [] us vs e h = absurd (omega (arith, h, ap length e, length-append (x ∷ xs) us))
same_parts (x ∷ xs) (y ∷ ys) us vs e h =
    let heads : x ≡ y = cc in
    let rest = same_parts xs ys us vs (cc) h in
    let tails = rest.0 in
    (cc, rest.1)

-- an answer has one name and one list of digits
pub one_answer : (answer name other digits others : List ℕ) → IsAnswer answer name digits → IsAnswer answer other others → (name ≡ other) × (digits ≡ others)
one_answer answer name other digits others h k =
    let parts = same_parts name other (32 ∷ digits) (32 ∷ others) (sym h.whole ∙ k.whole) (omega (arith, h.counted, k.counted)) in
    let tails = parts.1 in
    (parts.0, cc)

pub known_from_right : (challenge : List ℕ) (users : List Login) (answer name : List ℕ) → IsRightAnswer challenge users answer name → IsUnknown users answer → ⊥
known_from_right challenge users answer name h k =
    let same = one_answer answer name k.name _ k.digits (answer_from_right challenge users answer name h) k.form in
    let names = same.0 in
    let one : Some h.password ≡ None = sym h.known ∙ ap (λ n. password_of n users) names ∙ k.unknown in
    cc

pub proved_from_right : (challenge : List ℕ) (users : List Login) (answer name : List ℕ) → IsRightAnswer challenge users answer name → IsWrong challenge users answer → ⊥
proved_from_right challenge users answer name h k =
    let same = one_answer answer name k.name _ k.digits (answer_from_right challenge users answer name h) k.form in
    let names = same.0 in
    let passwords : Some h.password ≡ Some k.password = sym h.known ∙ ap (λ n. password_of n users) names ∙ k.known in
    let password : h.password ≡ k.password = cc in
    k.differs (sym same.1 ∙ ap (λ p. digits_under p challenge) password)
