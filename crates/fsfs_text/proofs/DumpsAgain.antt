-- What was written is read again.
use Rattle.std.proofs.Common.{◌≡◌, ℕ, zero, suc, ◌+◌, ◌-◌, ◌^◌, ◌<◌, ◌≤◌, true, false, not, ◌&&◌, cond, eqb, leb, List, [], ◌∷◌, ◌++◌, length, drop, get_or}
use Rattle.std.proofs.{Common.{Some, None, Ok, refl, sym, ap, subst, ◌∙◌, append_assoc, arith, lit≤, lit<}, lemmas.Bool.lt-leb}
use Rattle.std.proofs.lemmas.List.{take_at, drop_at, get_or_at, length-append}
use Rattle.std.specs.{Prelude.codes, List.flat_map}
use Rattle.fsfs_text.specs.{Numerals.{decimal_of, numeral}, Reading.{or_bad, ◌>>=◌}, Splits.{is_free, line_at, line_of}, declared.pair.DumpPair.DumpPair}
use Rattle.fsfs_text.specs.{Dumps.{sized, pair_bytes, dump}, DumpReading.{length_behind, length_of, text_of, sized_behind, pair_behind, pairs_within, dump_of}}
use Rattle.fsfs_text.proofs.{Splits.{split_again, same_bytes}, Numbers.{number_again, numeral_free}}

-- the line that says a length
abbrev length_line : ℕ → ℕ → List ℕ
length_line letter n = letter ∷ 32 ∷ numeral 10 n

line_again : (letter n : ℕ) (rest : List ℕ) → eqb letter 10 ≡ false → line_at (letter ∷ 32 ∷ (numeral 10 n ++ 10 ∷ rest)) ≡ Ok (length_line letter n, rest)
line_again letter n rest other =
    let free : is_free 10 (length_line letter n) ≡ true = ap (λ t. not t && is_free 10 (numeral 10 n)) other ∙ numeral_free 10 10 n refl (lit≤ tt) (lit≤ tt) in
    ap line_of (split_again 10 (length_line letter n) rest free)

length_again : (letter n : ℕ) → eqb letter 32 ≡ false → n < 2 ^ 64 → length_of letter (length_line letter n) ≡ Some n
unfolding length_of
length_again letter n other small =
    let free : is_free 32 (letter ∷ []) ≡ true = ap (λ t. not t && true) other in
    ap (length_behind letter) (split_again 32 (letter ∷ []) (numeral 10 n) free)
    ∙ ap (λ t. cond t (decimal_of (2 ^ 64 - 1) (numeral 10 n)) None) (same_bytes (letter ∷ []))
    ∙ number_again 10 (2 ^ 64 - 1) n (lit≤ tt) (lit≤ tt) (omega arith)

text_again : (text rest : List ℕ) → text_of (length text) (text ++ 10 ∷ rest) ≡ Ok (text, rest)
unfolding text_of
text_again text rest =
    let whole = text ++ 10 ∷ rest in
    let long : leb (length whole) (length text) ≡ false = lt-leb _ _ (omega (arith, length-append text (10 ∷ rest))) in
    let last : get_or whole (length text) 0 ≡ 10 = get_or_at text 10 rest 0 (length text) refl in
    let behind : drop (length text + 1) whole ≡ rest =
    ap (drop (length text + 1)) (sym (append_assoc text (10 ∷ []) rest)) ∙ drop_at (text ++ 10 ∷ []) rest (length text + 1) (length-append text (10 ∷ [])) in
    rw (long, last, take_at text (10 ∷ rest) (length text) refl, behind) refl

sized_again : (letter : ℕ) (text rest : List ℕ) → eqb letter 32 ≡ false → length text < 2 ^ 64
    → sized_behind letter (length_line letter (length text)) (text ++ 10 ∷ rest) ≡ Ok (text, rest)
unfolding sized_behind
sized_again letter text rest other small =
    ap (λ n. or_bad n >>= λ len. text_of len (text ++ 10 ∷ rest)) (length_again letter (length text) other small) ∙ text_again text rest

-- a sized text in front of others
sized-append : (letter : ℕ) (text rest : List ℕ) → sized letter text ++ rest ≡ letter ∷ 32 ∷ (numeral 10 (length text) ++ 10 ∷ (text ++ 10 ∷ rest))
sized-append letter text rest = simp append_assoc

-- a pair in front of others
pair-append : (pair : DumpPair) (rest : List ℕ) → pair_bytes pair ++ rest
    ≡ 75 ∷ 32 ∷ (numeral 10 (length pair.key) ++ 10 ∷ (pair.key ++ 10 ∷ (86 ∷ 32 ∷ (numeral 10 (length pair.value) ++ 10 ∷ (pair.value ++ 10 ∷ rest)))))
pair-append pair rest = append_assoc (sized 75 pair.key) (sized 86 pair.value) rest ∙ sized-append 75 pair.key (sized 86 pair.value ++ rest)
    ∙ ap (λ (x : List ℕ). 75 ∷ 32 ∷ (numeral 10 (length pair.key) ++ 10 ∷ (pair.key ++ 10 ∷ x))) (sized-append 86 pair.value rest)

-- what a pair's length fits
pub record Fits (pair : DumpPair) : Type 0 where
  pub key : length pair.key < 2 ^ 64
  pub value : length pair.value < 2 ^ 64

pair_again : (pair : DumpPair) (rest : List ℕ) → Fits pair
    → pair_behind (length_line 75 (length pair.key)) (pair.key ++ 10 ∷ (86 ∷ 32 ∷ (numeral 10 (length pair.value) ++ 10 ∷ (pair.value ++ 10 ∷ rest)))) ≡ Ok (pair.key, pair.value, rest)
unfolding pair_behind
pair_again pair rest fits =
    rw (
      sized_again 75 pair.key (86 ∷ 32 ∷ (numeral 10 (length pair.value) ++ 10 ∷ (pair.value ++ 10 ∷ rest))) refl fits.key,
      line_again 86 (length pair.value) (pair.value ++ 10 ∷ rest) refl,
      sized_again 86 pair.value rest refl fits.value,
    ) refl

abbrev AllFit : List DumpPair → Type 0
AllFit [] = Unit {0}
AllFit (pair ∷ pairs) = Fits pair × AllFit pairs

dump-cons : (pair : DumpPair) (pairs : List DumpPair) → dump (pair ∷ pairs) ≡ pair_bytes pair ++ dump pairs
dump-cons pair pairs = append_assoc (pair_bytes pair) (flat_map pair_bytes pairs) (codes "END\n")

pairs_again : (n : ℕ) (pairs : List DumpPair) → length pairs < n → AllFit pairs → pairs_within n (dump pairs) ≡ Ok pairs
unfolding pairs_within
pairs_again zero pairs lt fits = absurd (omega arith)
pairs_again (suc n) [] lt fits = refl
pairs_again (suc n) (pair ∷ pairs) lt fits =
    let whole = dump-cons pair pairs ∙ pair-append pair (dump pairs) in
    let later : pairs_within n (dump pairs) ≡ Ok pairs = pairs_again n pairs (omega arith) fits.1 in
    ap (pairs_within (suc n)) whole
    ∙ rw (
      line_again 75 (length pair.key) (pair.key ++ 10 ∷ (86 ∷ 32 ∷ (numeral 10 (length pair.value) ++ 10 ∷ (pair.value ++ 10 ∷ dump pairs)))) refl,
      pair_again pair (dump pairs) fits.0,
      later,
    ) refl

-- the lengths of what stands in a dump are no greater than the dump's
pair_length : (pair : DumpPair) (rest : List ℕ) → length pair.key + length pair.value + length rest < length (pair_bytes pair ++ rest)
pair_length pair rest = subst (λ (x : List ℕ). length pair.key + length pair.value + length rest < length x) (sym (pair-append pair rest)) (simp length-append (omega arith))

all_fit : (pairs : List DumpPair) → length (dump pairs) < 2 ^ 64 → AllFit pairs × (length pairs < length (dump pairs))
all_fit [] small = (tt, lit< tt)
all_fit (pair ∷ pairs) small =
    let longer = pair_length pair (dump pairs) in
    let whole = ap length (dump-cons pair pairs) in
    let others = all_fit pairs (omega arith) in
    ((record { key = omega arith; value = omega arith }, others.0), omega (arith, others.1))

-- what was written is read again
pub dump_again : (pairs : List DumpPair) → length (dump pairs) < 2 ^ 64 → dump_of (dump pairs) ≡ Ok pairs
dump_again pairs small = let fit = all_fit pairs small in pairs_again (length (dump pairs)) pairs fit.1 fit.0
