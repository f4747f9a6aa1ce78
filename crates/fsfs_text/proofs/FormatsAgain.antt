-- The file `format` that was written is read again.
use Rattle.std.proofs.Common.{◌≡◌, ℕ, ◌<◌, ◌≤◌, false, cond, eqb, List, [], ◌∷◌, ◌++◌, drop, get_or, length, map, Some, None, refl, sym, ap, ◌∙◌, arith, lit≤}
use Rattle.std.proofs.{lemmas.Bool.ne_eqb, lemmas.Bool.Decides.nat_tests, lemmas.Int.Digits.first_digits_of}
use Rattle.std.specs.{Prelude.codes, Int.Digits.digits_of}
use Rattle.fsfs_text.specs.Numerals.{glyph, numeral, number_of}
use Rattle.fsfs_text.specs.Formats.{layout_bytes, format_bytes, size_of, sharded_said, layout_said, format_of, LayoutFits, FormatFits}
use Rattle.fsfs_text.specs.{declared.format.Format.Format, declared.format.Format.TheVariants.{Two, Three}, declared.format.Layout.Layout}
use Rattle.fsfs_text.specs.declared.format.Layout.TheVariants.{Linear, Sharded}
use Rattle.fsfs_text.proofs.{Splits.{split_again, prefix_again}, Numbers.{number_again, numeral_free}}

-- the digits of a number begin with none that is 0
glyph_other : (d : ℕ) → 0 < d → eqb (glyph d) 48 ≡ false
glyph_other d some = ne_eqb (glyph d) 48 (λ e. differ e)
  where
    differ : glyph d ≡ 48 → ⊥
    differ e = grind (arith, nat_tests)

size_by : (n : ℕ) (ds : List ℕ) → 0 < get_or ds 0 0 → number_of 10 262144 (map glyph ds) ≡ Some n → size_of (map glyph ds) ≡ Some n
size_by n [] some is = absurd (omega (arith, some))
size_by n (d ∷ ds) some is =
    ap (λ t. cond t None (number_of 10 262144 (map glyph (d ∷ ds)))) (glyph_other d some) ∙ is

numeral_is : (n : ℕ) → 0 < n → numeral 10 n ≡ map glyph (digits_of 10 n)
unfolding numeral
numeral_is n some = ap (λ t. cond t (48 ∷ []) (map glyph (digits_of 10 n))) (ne_eqb n 0 (λ e. omega (arith, some, e)))

size_again : (n : ℕ) → 0 < n → n ≤ 262144 → size_of (numeral 10 n) ≡ Some n
size_again n some few =
    let is : numeral 10 n ≡ map glyph (digits_of 10 n) = numeral_is n some in
    let read : number_of 10 262144 (numeral 10 n) ≡ Some n = number_again 10 262144 n (lit≤ tt) (lit≤ tt) few in
    rw is (size_by n (digits_of 10 n) (first_digits_of 10 n (lit≤ tt) some) (ap (number_of 10 262144) (sym is) ∙ read))

is_long : (b : ℕ) (bytes : List ℕ) → eqb (length (b ∷ bytes)) 0 ≡ false
is_long b bytes = ne_eqb (length (b ∷ bytes)) 0 (λ e. omega (arith, e))

layout_again : (layout : Layout) → LayoutFits layout → layout_said (layout_bytes layout) ≡ Some layout
unfolding layout_said sharded_said
layout_again Linear fits = refl
layout_again (Sharded size) fits =
    rw (
      is_long 108 (drop 1 (layout_bytes (Sharded size))),
      prefix_again (codes "layout sharded ") (numeral 10 size ++ 10 ∷ []),
      split_again 10 (numeral 10 size) [] (numeral_free 10 10 size refl (lit≤ tt) (lit≤ tt)),
      size_again size fits.0 fits.1,
    ) refl

pub format_again : (format : Format) → FormatFits format → format_of (format_bytes format) ≡ Some format
unfolding format_of
format_again Two fits = refl
format_again (Three layout) fits =
    rw (prefix_again (codes "3\n") (layout_bytes layout), layout_again layout fits) refl
