-- The file `current` that was written is read again.
use Rattle.std.proofs.Common.{◌≡◌, ℕ, ◌+◌, ◌-◌, ◌*◌, ◌^◌, ◌<◌, ◌≤◌, Bool, true, false, cond, eqb, leb, List, [], ◌∷◌, ◌++◌, length, map, Option, Some, None}
use Rattle.std.proofs.{Common.{Result, Ok, refl, sym, ap, ◌∙◌, append_assoc, arith, lit≤}, lemmas.Bool.le-leb, lemmas.List.length-map}
use Rattle.std.proofs.lemmas.Int.Digits.{length-digits_of-le}
use Rattle.std.specs.Int.Digits.{digits_of}
use Rattle.fsfs_text.specs.{declared.fault.FileFault.FileFault, Reading.{or_bad, ◌>>=◌}, Splits.{is_free, line_of}, Numerals.{glyph, numeral, number_of}}
use Rattle.fsfs_text.specs.{declared.format.Format.Format, declared.format.Format.TheVariants.{Two, Three}, declared.format.Layout.Layout}
use Rattle.fsfs_text.proofs.{Splits.{split_again, split_none}, Numbers.{number_again, numeral_free}, IdsAgain.{free-join, decimal_free}}
use Rattle.fsfs_nodes.specs.{declared.current.Current.Current, declared.current.NextIds.NextIds, Current.{CurrentFits, IdsFit, NextFits, current_bytes}}
use Rattle.fsfs_nodes.specs.Current.{ids_bytes, next_of, line_of_two, line_of_three, current_line, only_line, line_alone, current_of}

numeral_length : (n : ℕ) → n < 36 ^ 24 → length (numeral 36 n) ≤ 24
unfolding numeral
numeral_length n small = by (eqb n 0)
  where
    by : (t : Bool) → length (cond t (48 ∷ []) (map glyph (digits_of 36 n))) ≤ 24
    by true = lit≤ tt
    by false = omega (arith, length-map (digits_of 36 n) glyph, length-digits_of-le 36 24 n (lit≤ tt) small)

next_again : (youngest n : ℕ) → youngest ≤ 262143 → n < (youngest + 1) * 2 ^ 64 → next_of youngest (numeral 36 n) ≡ Some n
unfolding next_of
next_again youngest n few small =
    let short : leb (length (numeral 36 n)) 24 ≡ true = le-leb _ _ (numeral_length n (omega (arith, few, small))) in
    ap (λ t. cond t (number_of 36 ((youngest + 1) * 2 ^ 64 - 1) (numeral 36 n)) None) short
    ∙ number_again 36 ((youngest + 1) * 2 ^ 64 - 1) n (lit≤ tt) (lit≤ tt) (omega (arith, small))

pub alone_again : (line : List ℕ) → is_free 10 line ≡ true → line_alone (line ++ 10 ∷ []) ≡ Ok line
alone_again line free = ap (λ (o : Option (List ℕ × List ℕ)). line_of o >>= only_line) (split_again 10 line [] free)

said : (format : Format) (bytes line : List ℕ) (current : Current) → line_alone bytes ≡ Ok line → current_line format line ≡ Some current
    → current_of format bytes ≡ Ok current
unfolding current_of
said format bytes line current alone is =
    ap (λ (r : Result (List ℕ) FileFault). r >>= λ l. or_bad (current_line format l)) alone ∙ ap or_bad is

two_again : (youngest : ℕ) (ids : NextIds) → youngest ≤ 262143 → NextFits youngest ids
    → current_of Two (numeral 10 youngest ++ ids_bytes (Some ids)) ≡ Ok (record { format = Two; youngest = youngest; ids = Some ids })
unfolding line_of_two
two_again youngest ids few fits =
    let y : List ℕ = numeral 10 youngest in
    let n : List ℕ = numeral 36 ids.node in
    let k : List ℕ = numeral 36 ids.copy in
    let line : List ℕ = y ++ 32 ∷ (n ++ 32 ∷ k) in
    let whole : y ++ ids_bytes (Some ids) ≡ line ++ 10 ∷ [] =
    ap (λ (x : List ℕ). y ++ 32 ∷ x) (sym (append_assoc n (32 ∷ k) (10 ∷ []))) ∙ sym (append_assoc y (32 ∷ (n ++ 32 ∷ k)) (10 ∷ [])) in
    let free : is_free 10 line ≡ true =
    free-join 10 32 y (n ++ 32 ∷ k) refl (decimal_free 10 youngest refl)
    (free-join 10 32 n k refl (numeral_free 10 36 ids.node refl (lit≤ tt) (lit≤ tt)) (numeral_free 10 36 ids.copy refl (lit≤ tt) (lit≤ tt))) in
    let is : line_of_two line ≡ Some (record { format = Two; youngest = youngest; ids = Some ids }) =
    rw (
      split_again 32 y (n ++ 32 ∷ k) (decimal_free 32 youngest refl),
      split_again 32 n k (numeral_free 32 36 ids.node refl (lit≤ tt) (lit≤ tt)),
      number_again 10 262143 youngest (lit≤ tt) (lit≤ tt) few,
      next_again youngest ids.node few fits.node,
      next_again youngest ids.copy few fits.copy,
    ) refl in
    said Two _ line _ (ap line_alone whole ∙ alone_again line free) is

three_again : (layout : Layout) (youngest : ℕ) → youngest ≤ 262143
    → current_of (Three layout) (numeral 10 youngest ++ 10 ∷ []) ≡ Ok (record { format = Three layout; youngest = youngest; ids = None })
unfolding line_of_three
three_again layout youngest few =
    let y : List ℕ = numeral 10 youngest in
    let is : line_of_three layout y ≡ Some (record { format = Three layout; youngest = youngest; ids = None }) =
    rw (split_none 32 y (decimal_free 32 youngest refl), number_again 10 262143 youngest (lit≤ tt) (lit≤ tt) few) refl in
    said (Three layout) _ y _ (alone_again y (decimal_free 10 youngest refl)) is

by_format : (format : Format) (youngest : ℕ) (ids : Option NextIds) → youngest ≤ 262143 → IdsFit format youngest ids
    → current_of format (numeral 10 youngest ++ ids_bytes ids) ≡ Ok (record { format = format; youngest = youngest; ids = ids })
by_format Two youngest None few fits = absurd fits
by_format Two youngest (Some ids) few fits = two_again youngest ids few fits
by_format (Three layout) youngest None few fits = three_again layout youngest few
by_format (Three layout) youngest (Some ids) few fits = absurd fits

pub current_again : (current : Current) → CurrentFits current → current_of current.format (current_bytes current) ≡ Ok current
current_again current fits = by_format current.format current.youngest current.ids fits.youngest fits.ids
