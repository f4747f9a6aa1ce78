-- What is written is a spelling.
use Rattle.std.proofs.Common.{◌≡◌, ℕ, suc, ◌+◌, ◌-◌, ◌*◌, ◌/◌, ◌%◌, ◌≤◌, ◌<◌, List, [], ◌∷◌, ◌++◌, length, true, refl, sym, ap, ◌∙◌, append_assoc, lit<}
use Rattle.std.proofs.{Common.{lt_of_le_of_lt, mod-lt, arith, decimal}, lemmas.Fmt.decimal_by_steps, lemmas.Bool.Decides.nat_tests}
use Rattle.std.specs.Char.{is_ascii_digit}
use Rattle.items.specs.{declared.item.Item.Item, Word.{EachPasses, IsDigit}}
use Rattle.items.specs.Values.{ItemValue, word, number, string, list, ItemValues, none, more, limits, IsWithin, AreWithin}
use Rattle.items.specs.{Spelling.{value_behind, IsNumeral, Spaced, IsBody, AreSpelled}, Stream.IsItem, View.{value_of, values_of}, Print.{printed, row_printed}}
use Rattle.items.specs.Written.{HasWords, HaveWords}

digit_byte : (d : ℕ) → d < 10 → IsDigit (48 + d)
digit_byte d h = let e : is_ascii_digit (48 + d) ≡ true = grind (arith, nat_tests) in e

value-snoc : (n : ℕ) (ds : List ℕ) (d : ℕ) → value_behind n (ds ++ (d ∷ [])) ≡ 10 * value_behind n ds + (d - 48)
value-snoc n [] d = refl
value-snoc n (c ∷ cs) d = value-snoc (10 * n + (c - 48)) cs d

digits-snoc : (ds : List ℕ) (d : ℕ) → EachPasses IsDigit ds → IsDigit d → EachPasses IsDigit (ds ++ (d ∷ []))
digits-snoc [] d h e = (e, tt)
digits-snoc (c ∷ cs) d h e = (h.0, digits-snoc cs d h.1 e)

numeral-one : (n : ℕ) → n < 10 → IsNumeral ((48 + n) ∷ []) n
numeral-one n h = let e : 48 + n - 48 ≡ n = omega arith in (digit_byte n h, tt, e)

numeral-more : (n : ℕ) (ds : List ℕ) → 10 ≤ n → IsNumeral ds (n / 10) → IsNumeral (ds ++ ((48 + n % 10) ∷ [])) n
numeral-more n [] h i = absurd i
numeral-more n (d ∷ ds) h i =
    let small : n % 10 < 10 = mod-lt n (lit< tt) in
    let last : 48 + n % 10 - 48 ≡ n % 10 = omega arith in
    let value : 10 * value_behind (d - 48) ds + (48 + n % 10 - 48) ≡ n = omega (arith, i.2, last) in
    (i.0, digits-snoc ds (48 + n % 10) i.1 (digit_byte (n % 10) small), value-snoc (d - 48) ds (48 + n % 10) ∙ value)

numeral : (n : ℕ) → n ≤ 18446744073709551615 → IsNumeral (decimal n) n
numeral n h = decimal_by_steps (λ n ds. IsNumeral ds n) numeral-one numeral-more n (lt_of_le_of_lt h (lit< tt))

mutual
  spelled-printed : (o : ℕ) (t : ItemValue) → HasWords t → IsWithin limits o t → Spaced (λ body. IsBody t body) (printed t)
  spelled-printed o (word w) h i = record { gap = []; body = w; last = 32; spaces = tt; middle = (h, refl); ends = refl; whole = refl }
  spelled-printed o (number n) h i = record { gap = []; body = decimal n; last = 32; spaces = tt; middle = numeral n i; ends = refl; whole = refl }
  spelled-printed o (string s) h i =
      record { gap = []; body = decimal (length s) ++ (58 ∷ s); last = 32; spaces = tt; middle = record { count = decimal (length s); numeral = numeral (length s) i.1; whole = refl }; ends = refl; whole = sym (append_assoc (decimal (length s)) (58 ∷ s) (32 ∷ [])) }
  spelled-printed o (list ts) h i =
      record {
        gap = [];
        body = 40 ∷ 32 ∷ (row_printed ts ++ (41 ∷ []));
        last = 32;
        spaces = tt;
        middle = record { opening = 32; inner = row_printed ts; gap = []; opens = refl; middle = spelled-row (suc o) ts h i.1; spaces = tt; whole = refl };
        ends = refl;
        whole = ap (λ x. 40 ∷ 32 ∷ x) (sym (append_assoc (row_printed ts) (41 ∷ []) (32 ∷ [])));
      }

  spelled-row : (o : ℕ) (ts : ItemValues) → HaveWords ts → AreWithin limits o ts → AreSpelled ts (row_printed ts)
  spelled-row o none h i = refl
  spelled-row o (more t ts) h i = record { front = printed t; rest = row_printed ts; first = spelled-printed o t h.0 i.0; others = spelled-row o ts h.1 i.1; whole = refl }

pub written : (t : ItemValue) → HasWords t → IsWithin limits 0 t → IsItem limits t (printed t)
written t h i = record { spelled = spelled-printed 0 t h i; within = i }

-- the words of one item more
pub words-snoc : (items : List Item) (i : Item) → HaveWords (values_of items) → HasWords (value_of i) → HaveWords (values_of (items ++ (i ∷ [])))
words-snoc [] i h w = (w, tt)
words-snoc (x ∷ xs) i h w = (h.0, words-snoc xs i h.1 w)
