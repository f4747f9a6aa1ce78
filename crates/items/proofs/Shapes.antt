-- What a step has to do with the limits: nothing, or one of them decides.
use Rattle.std.proofs.Common.{◌≡◌, ℕ, ◌+◌, ◌-◌, ◌*◌, Bool, true, false, cond, ◌==◌, nat_le, nat_lt, refl}
use Rattle.std.specs.Char.{is_ascii_digit, is_ascii_alphabetic}
use Rattle.items.specs.{declared.scan.Lex.Lex, declared.scan.Scan.Scan, declared.scan.Step.Step, Word.{is_space, is_word_byte}, Values.Limits}
use Rattle.items.specs.Scan.{at, step_in, gap_step, number_step, behind_body}
use Rattle.items.specs.declared.scan.Lex.TheVariants as lexes
use Rattle.items.specs.declared.scan.Defect.TheVariants as defects
use Rattle.items.specs.declared.scan.Step.TheVariants as steps

pub data Shape (f : Limits → Step) : Type 0 where
  goes : (t : Scan) → ((l : Limits) → f l ≡ steps.On t) → Shape f
  ends : ((l : Limits) → f l ≡ steps.Whole) → Shape f
  wrong : ((l : Limits) → f l ≡ steps.Bad defects.Malformed) → Shape f
  deepens : (t : Scan) (k : ℕ) → ((l : Limits) → f l ≡ cond (nat_lt k l.depth) (steps.On t) (steps.Bad defects.TooDeep)) → Shape f
  counts : (t : Scan) (k : ℕ) → ((l : Limits) → f l ≡ cond (nat_le k l.number) (steps.On t) (steps.Bad defects.NumberTooLarge)) → Shape f
  holds : (t : Scan) (k : ℕ) → ((l : Limits) → f l ≡ cond (nat_le k l.string) (steps.On t) (steps.Bad defects.StringTooLong)) → Shape f

either : (x y : Limits → Step) (v : Bool) → Shape x → Shape y → Shape (λ l. cond v (x l) (y l))
either x y true p q = p
either x y false p q = q

after-shape : (d b : ℕ) → Shape (λ l. behind_body d b)
unfolding behind_body
after-shape d b =
    either _ _ (is_space b)
    (either _ _ (d == 0) (Shape.ends (λ l. refl)) (Shape.goes (at d lexes.Gap) (λ l. refl)))
    (Shape.wrong (λ l. refl))

gap-shape : (d b : ℕ) → Shape (λ l. gap_step l d b)
unfolding gap_step
gap-shape d b =
    either _ _ (is_space b) (Shape.goes (at d lexes.Gap) (λ l. refl))
    (either _ _ (b == 40) (Shape.deepens (at (d + 1) lexes.Open) d (λ l. refl))
    (either _ _ (b == 41) (either _ _ (d == 0) (Shape.wrong (λ l. refl)) (Shape.goes (at (d - 1) (lexes.Tail 0)) (λ l. refl)))
    (either _ _ (is_ascii_digit b) (Shape.goes (at d (lexes.Number (b - 48))) (λ l. refl))
    (either _ _ (is_ascii_alphabetic b) (Shape.goes (at d lexes.Word) (λ l. refl)) (Shape.wrong (λ l. refl))))))

number-shape : (d n b : ℕ) → Shape (λ l. number_step l d n b)
unfolding number_step
number-shape d n b =
    either _ _ (is_ascii_digit b) (Shape.counts (at d (lexes.Number (10 * n + (b - 48)))) (10 * n + (b - 48)) (λ l. refl))
    (either _ _ (b == 58) (Shape.holds (at d (lexes.Tail n)) n (λ l. refl)) (after-shape d b))

pub shape : (d : ℕ) (lex : Lex) (b : ℕ) → Shape (λ l. step_in l d lex b)
unfolding step_in
shape d lexes.Gap b = gap-shape d b
shape d lexes.Open b = either _ _ (is_space b) (Shape.goes (at d lexes.Gap) (λ l. refl)) (Shape.wrong (λ l. refl))
shape d lexes.Word b = either _ _ (is_word_byte b) (Shape.goes (at d lexes.Word) (λ l. refl)) (after-shape d b)
shape d (lexes.Number n) b = number-shape d n b
shape d (lexes.Tail n) b = either _ _ (n == 0) (after-shape d b) (Shape.goes (at d (lexes.Tail (n - 1))) (λ l. refl))
