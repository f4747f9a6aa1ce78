-- The cases of a step, each with what is known of the byte there.
use Rattle.std.proofs.Common.{◌≡◌, ℕ, suc, ◌+◌, ◌-◌, ◌*◌, ◌≤◌, ◌<◌, Bool, true, false, cond, ◌==◌, nat_le, nat_lt, IsTrue, refl, ap, arith}
use Rattle.std.proofs.lemmas.Bool.Decides.{nat_tests}
use Rattle.std.specs.Char.{is_ascii_digit, is_ascii_alphabetic}
use Rattle.items.specs.declared.scan.Lex.TheVariants as lexes
use Rattle.items.specs.declared.scan.Defect.TheVariants as defects
use Rattle.items.specs.{declared.scan.Step.Step, Word.{IsSpace, IsDigit, is_space}, Values.Limits, Scan.{on, gap_step, number_step, behind_body}}
use Rattle.items.specs.declared.scan.Step.TheVariants as steps

pub split : (P : Step → Type 0) {x y : Step} (v : Bool) → (v ≡ true → P x) → (v ≡ false → P y) → P (cond v x y)
split P true f g = f refl
split P false f g = g refl

pub data AfterCase (d b : ℕ) (st : Step) : Type 0 where
  ends : IsSpace b → d ≡ 0 → st ≡ steps.Whole → AfterCase d b st
  goes : (e : ℕ) → IsSpace b → d ≡ suc e → st ≡ on d lexes.Gap → AfterCase d b st
  wrong : st ≡ steps.Bad defects.Malformed → AfterCase d b st

pub data GapCase (l : Limits) (d b : ℕ) (st : Step) : Type 0 where
  space : IsSpace b → st ≡ on d lexes.Gap → GapCase l d b st
  opening : b ≡ 40 → d < l.depth → st ≡ on (suc d) lexes.Open → GapCase l d b st
  closing : (e : ℕ) → b ≡ 41 → d ≡ suc e → st ≡ on e (lexes.Tail 0) → GapCase l d b st
  digit : IsDigit b → st ≡ on d (lexes.Number (b - 48)) → GapCase l d b st
  letter : IsTrue (is_ascii_alphabetic b) → st ≡ on d lexes.Word → GapCase l d b st
  deep : st ≡ steps.Bad defects.TooDeep → GapCase l d b st
  wrong : st ≡ steps.Bad defects.Malformed → GapCase l d b st

pub data NumberCase (l : Limits) (d n b : ℕ) (st : Step) : Type 0 where
  digit : IsDigit b → 10 * n + (b - 48) ≤ l.number → st ≡ on d (lexes.Number (10 * n + (b - 48))) → NumberCase l d n b st
  colon : b ≡ 58 → n ≤ l.string → st ≡ on d (lexes.Tail n) → NumberCase l d n b st
  large : st ≡ steps.Bad defects.NumberTooLarge → NumberCase l d n b st
  long : st ≡ steps.Bad defects.StringTooLong → NumberCase l d n b st
  other : st ≡ behind_body d b → NumberCase l d n b st

some_less : (d : ℕ) → (d == 0) ≡ false → d ≡ suc (d - 1)
some_less d h = grind (arith, nat_tests)

pub after-case : (d b : ℕ) → AfterCase d b (behind_body d b)
unfolding behind_body
after-case d b =
    split (AfterCase d b) (is_space b)
    (λ h. split (AfterCase d b) (d == 0) (λ z. AfterCase.ends h (grind (arith, nat_tests)) refl) (λ z. AfterCase.goes (d - 1) h (some_less d z) refl))
    (λ h. AfterCase.wrong refl)

pub gap-case : (l : Limits) (d b : ℕ) → GapCase l d b (gap_step l d b)
unfolding gap_step
gap-case l d b =
    let P : Step → Type 0 = GapCase l d b in
    let one : d + 1 ≡ suc d = omega arith in
    split P (is_space b)
    (λ h. GapCase.space h refl)
    (λ _. split P (b == 40)
    (λ h. split P (nat_lt d l.depth)
    (λ k. GapCase.opening (grind (arith, nat_tests)) (grind (arith, nat_tests)) (ap (λ e. on e lexes.Open) one))
    (λ _. GapCase.deep refl))
    (λ _. split P (b == 41)
    (λ h. split P (d == 0) (λ _. GapCase.wrong refl) (λ z. GapCase.closing (d - 1) (grind (arith, nat_tests)) (some_less d z) refl))
    (λ _. split P (is_ascii_digit b)
    (λ h. GapCase.digit h refl)
    (λ _. split P (is_ascii_alphabetic b) (λ h. GapCase.letter h refl) (λ _. GapCase.wrong refl)))))

pub number-case : (l : Limits) (d n b : ℕ) → NumberCase l d n b (number_step l d n b)
unfolding number_step
number-case l d n b =
    let P : Step → Type 0 = NumberCase l d n b in
    split P (is_ascii_digit b)
    (λ h. split P (nat_le (10 * n + (b - 48)) l.number) (λ k. NumberCase.digit h (grind (arith, nat_tests)) refl) (λ _. NumberCase.large refl))
    (λ _. split P (b == 58)
    (λ h. split P (nat_le n l.string) (λ k. NumberCase.colon (grind (arith, nat_tests)) (grind (arith, nat_tests)) refl) (λ _. NumberCase.long refl))
    (λ _. NumberCase.other refl))
