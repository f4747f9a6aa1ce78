-- Numbers as text.
use Rattle.std.proofs.Common.{◌≡◌, ℕ, zero, suc, ◌+◌, ◌-◌, ◌*◌, ◌/◌, ◌%◌, ◌<◌, ◌≤◌, Bool, true, false, not, ◌&&◌, cond, eqb, List, [], ◌∷◌, ◌++◌, length, map}
use Rattle.std.proofs.{Common.{Option, Some, None, refl, sym, ap, ◌∙◌, append_assoc, arith, inl, inr, ◌⊎◌, lit<}, lemmas.Bool.{cases_lt, ne_eqb}}
use Rattle.std.proofs.{Math.Nat.{mod-lt, div-lt_self, div-add-mod, mul_comm}, lemmas.Bool.Decides.nat_tests, lemmas.List.{map-append, length-map}}
use Rattle.std.proofs.{lemmas.Fmt.decimal_by_steps, lemmas.Int.Digits.{digits_of_step, length-digits_of_step, all_below_base_digits_of}}
use Rattle.std.specs.{Option.option_and_then, Int.Digits.{digits_of, AllBelowBase}, Prelude.{decimal, ◌^◌}}
use Rattle.fsfs_text.specs.{Splits.is_free, Numerals.{glyph, numeral, digit_of, with_digit, with_byte, digits_behind, number_of}}

pub digits_behind-push : (base limit n : ℕ) (bytes : List ℕ) (b : ℕ)
    → digits_behind base limit n (bytes ++ b ∷ []) ≡ option_and_then (λ m. with_byte base limit m b) (digits_behind base limit n bytes)
digits_behind-push base limit n [] b = last (with_byte base limit n b)
  where
    last : (o : Option ℕ) → option_and_then (λ m. Some m) o ≡ o
    last None = refl
    last (Some m) = refl
digits_behind-push base limit n (x ∷ bytes) b = by (λ m. digits_behind-push base limit m bytes b) (with_byte base limit n x)
  where
    by : ((m : ℕ) → digits_behind base limit m (bytes ++ b ∷ []) ≡ option_and_then (λ m. with_byte base limit m b) (digits_behind base limit m bytes))
        → (o : Option ℕ) → option_and_then (λ m. digits_behind base limit m (bytes ++ b ∷ [])) o ≡ option_and_then (λ m. with_byte base limit m b) (option_and_then (λ m. digits_behind base limit m bytes) o)
    by h None = refl
    by h (Some m) = h m

pub digit_of-glyph : (d : ℕ) → d < 36 → digit_of (glyph d) ≡ Some d
digit_of-glyph d lt = grind (arith, nat_tests)

-- a digit of the base, and a number that is within the limit
with_digit_is : (base limit n d : ℕ) → d < base → n * base + d ≤ limit → with_digit base limit n d ≡ Some (n * base + d)
with_digit_is base limit n d lt le = grind (arith, nat_tests)

pub digits_again : (base limit turns n : ℕ) → 2 ≤ base → base ≤ 36 → n ≤ turns → n ≤ limit → digits_behind base limit 0 (map glyph (digits_of base n)) ≡ Some n
digits_again base limit zero n low high le within =
    let none : n ≡ 0 = omega arith in
    rw none refl
digits_again base limit (suc turns) n low high le within = by (λ q le within. digits_again base limit turns q low high le within) (cases_lt 0 n)
  where
    by : ((q : ℕ) → q ≤ turns → q ≤ limit → digits_behind base limit 0 (map glyph (digits_of base q)) ≡ Some q)
        → (0 < n) ⊎ (n ≤ 0) → digits_behind base limit 0 (map glyph (digits_of base n)) ≡ Some n
    by again (inr none) =
        let zero_is : n ≡ 0 = omega arith in
        rw zero_is refl
    by again (inl some) =
        let q = n / base in
        let r = n % base in
        let less : r < base = mod-lt n (omega arith) in
        let smaller : q < n = div-lt_self some (omega arith) in
        let whole : q * base + r ≡ n = ap (λ x. x + r) (mul_comm q base) ∙ div-add-mod n base in
        let before : digits_behind base limit 0 (map glyph (digits_of base q)) ≡ Some q = again q (omega arith) (omega arith) in
        let step : map glyph (digits_of base n) ≡ map glyph (digits_of base q) ++ glyph r ∷ [] =
        ap (map glyph) (digits_of_step base n low some) ∙ map-append glyph (digits_of base q) (r ∷ []) in
        let digit : with_byte base limit q (glyph r) ≡ Some (q * base + r) =
        ap (option_and_then (with_digit base limit q)) (digit_of-glyph r (omega arith)) ∙ with_digit_is base limit q r less (omega arith) in
        rw (step, digits_behind-push base limit 0 (map glyph (digits_of base q)) (glyph r), before, digit, whole) refl

number_of_digits : (base limit : ℕ) (bytes : List ℕ) → 0 < length bytes → number_of base limit bytes ≡ digits_behind base limit 0 bytes
unfolding number_of
number_of_digits base limit [] some = absurd (omega arith)
number_of_digits base limit (b ∷ bytes) some = refl

-- what was written is read again
pub number_again : (base limit n : ℕ) → 2 ≤ base → base ≤ 36 → n ≤ limit → number_of base limit (numeral base n) ≡ Some n
unfolding numeral
number_again base limit n low high within = by (cases_lt 0 n)
  where
    by : (0 < n) ⊎ (n ≤ 0) → number_of base limit (numeral base n) ≡ Some n
    by (inr none) =
        let zero_is : n ≡ 0 = omega arith in
        let nothing : 0 * base + 0 ≡ 0 = omega arith in
        let digit : with_byte base limit 0 48 ≡ Some 0 = with_digit_is base limit 0 0 (omega arith) (omega arith) ∙ ap (λ (k : ℕ). Some k) nothing in
        rw zero_is (number_of_digits base limit (48 ∷ []) (lit< tt) ∙ ap (option_and_then (λ m. Some m)) digit)
    by (inl some) =
        let other : eqb n 0 ≡ false = ne_eqb n 0 (λ e. omega arith) in
        let long : 0 < length (map glyph (digits_of base n)) = omega (arith, length-map (digits_of base n) glyph, length-digits_of_step base n low some) in
        rw (other, number_of_digits base limit (map glyph (digits_of base n)) long) (digits_again base limit n n low high (omega arith) within)

-- a byte that is no digit doesn't stand in a number
glyph_other : (s d : ℕ) → digit_of s ≡ None → d < 36 → eqb (glyph d) s ≡ false
glyph_other s d none lt = ne_eqb (glyph d) s (λ e. differ (sym (digit_of-glyph d lt) ∙ ap digit_of e ∙ none))
  where
    differ : Some d ≡ None → ⊥
    differ h = cc

digits_free : (s base : ℕ) (ds : List ℕ) → digit_of s ≡ None → base ≤ 36 → AllBelowBase base ds → is_free s (map glyph ds) ≡ true
digits_free s base [] none high below = refl
digits_free s base (d ∷ ds) none high below =
    ap (λ t. not t && is_free s (map glyph ds)) (glyph_other s d none (lt_le d base below.0 high)) ∙ digits_free s base ds none high below.1
  where
    lt_le : (d base : ℕ) → d < base → base ≤ 36 → d < 36
    lt_le d base a b = omega arith

pub numeral_free : (s base n : ℕ) → digit_of s ≡ None → 2 ≤ base → base ≤ 36 → is_free s (numeral base n) ≡ true
unfolding numeral
numeral_free s base n none low high = by (eqb n 0)
  where
    by : (t : Bool) → is_free s (cond t (48 ∷ []) (map glyph (digits_of base n))) ≡ true
    by true = ap (λ t. not t && true) (glyph_other s 0 none (lit< tt))
    by false = digits_free s base (digits_of base n) none high (all_below_base_digits_of base n low)

-- the last digit behind the others
pub digits-step : (base n : ℕ) (old : List ℕ) → 2 ≤ base → 0 < n → (old ++ map glyph (digits_of base (n / base))) ++ glyph (n % base) ∷ [] ≡ old ++ map glyph (digits_of base n)
digits-step base n old low some =
    append_assoc old (map glyph (digits_of base (n / base))) (glyph (n % base) ∷ [])
    ∙ ap (λ (x : List ℕ). old ++ x) (sym (ap (map glyph) (digits_of_step base n low some) ∙ map-append glyph (digits_of base (n / base)) (n % base ∷ [])))

-- a number in decimal, as the library spells it
glyph_low : (d : ℕ) → d < 10 → glyph d ≡ 48 + d
glyph_low d low = grind (arith, nat_tests)

numeral_some : (n : ℕ) → 0 < n → numeral 10 n ≡ map glyph (digits_of 10 n)
unfolding numeral
numeral_some n some = rw (ne_eqb n 0 (λ e. omega arith)) refl

numeral_none : numeral 10 0 ≡ 48 ∷ []
unfolding numeral
numeral_none = refl

numeral_more : (n : ℕ) → 0 < n → numeral 10 n ≡ map glyph (digits_of 10 (n / 10)) ++ (48 + n % 10) ∷ []
numeral_more n some =
    numeral_some n some ∙ sym (digits-step 10 n [] (omega arith) some)
    ∙ ap (λ g. map glyph (digits_of 10 (n / 10)) ++ g ∷ []) (glyph_low (n % 10) (mod-lt n (omega arith)))

numeral_one : (n : ℕ) → n < 10 → (48 + n) ∷ [] ≡ numeral 10 n
numeral_one n low = by (cases_lt 0 n)
  where
    by : (0 < n) ⊎ (n ≤ 0) → (48 + n) ∷ [] ≡ numeral 10 n
    by (inl some) =
        let none : n / 10 ≡ 0 = omega arith in
        let whole : n % 10 ≡ n = omega arith in
        sym (numeral_more n some ∙ (rw (none, whole) refl))
    by (inr none) =
        let zero_is : n ≡ 0 = omega arith in
        rw zero_is (sym numeral_none)

pub decimal_numeral : (n : ℕ) → n < 2 ^ 64 → decimal n ≡ numeral 10 n
decimal_numeral n small = decimal_by_steps (λ m ds. ds ≡ numeral 10 m) numeral_one more n small
  where
    more : (m : ℕ) (ds : List ℕ) → 10 ≤ m → ds ≡ numeral 10 (m / 10) → ds ++ (48 + m % 10) ∷ [] ≡ numeral 10 m
    more m ds long before =
        ap (λ l. l ++ (48 + m % 10) ∷ []) (before ∙ numeral_some (m / 10) (omega arith)) ∙ sym (numeral_more m (omega arith))
