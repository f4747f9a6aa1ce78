-- A file of users is read line by line.
use Rattle.std.proofs.Common.{◌≡◌, ℕ, ◌+◌, ◌<◌, ◌≤◌, Bool, false, List, [], ◌∷◌, ◌++◌, length, map, ◌⊎◌, inl, inr, refl, sym, ap, ◌∙◌, arith, append_assoc}
use Rattle.std.proofs.Common.{length-append}
use Rattle.std.specs.Str.Lines.{lines}
use Rattle.cram.specs.{Login.Login, Line.{Line, line_of}, UsersFile.{file_lines, breaks, AreRight, IsSaidBy}}

-- the bytes up to the rest are these lines
pub record IsReadTo (bytes rest : List ℕ) (headed : Bool) (logins : List Login) (count : ℕ) : Type 0 where
  pub before : List Line
  pub whole : file_lines bytes ≡ before ++ file_lines rest
  pub said : IsSaidBy before headed logins
  pub right : AreRight before
  pub counted : count ≡ length before
  pub room : count + length rest ≤ length bytes

-- a list with one more item at its end is cut at that item or before it
last_or_before : (xs : List Line) (x : Line) (before rest : List Line) (y : Line) → xs ++ x ∷ [] ≡ before ++ y ∷ rest → ((xs ≡ before) × (x ≡ y)) ⊎ ((more : List Line) × (xs ≡ before ++ y ∷ more))
last_or_before [] x [] rest y e = inl (refl, cc)
last_or_before [] x (b ∷ []) rest y e = cc
last_or_before [] x (b ∷ c ∷ before) rest y e = cc
last_or_before (z ∷ zs) x [] rest y e = let same : z ≡ y = cc in inr (zs, cc)
last_or_before (z ∷ zs) x (b ∷ before) rest y e =
    let same : z ≡ b = cc in
    elim (last_or_before zs x before rest y cc) [ inl h ↦ inl (let k = h.0 in cc, h.1) | inr h ↦ inr (h.0, let k = h.1 in cc) ]

none_right : AreRight []
none_right [] rest line e = cc
none_right (b ∷ before) rest line e = cc

one_more_right : (file : List Line) (last : Line) → AreRight file → breaks file last ≡ false → AreRight (file ++ last ∷ [])
one_more_right file last h kept before rest line e =
    elim (last_or_before file last before rest line e) [ inl k ↦ let file_is = k.0 in let last_is = k.1 in cc | inr k ↦ h before k.0 line k.1 ]

pub read_none : (bytes : List ℕ) (headed : Bool) (logins : List Login) → IsSaidBy [] headed logins → IsReadTo bytes bytes headed logins 0
read_none bytes headed logins h = record { before = []; whole = refl; said = h; right = none_right; counted = refl; room = omega arith }

file_lines-next : (rest line behind : List ℕ) (next : Line) → lines rest ≡ line ∷ lines behind → next ≡ line_of line → file_lines rest ≡ next ∷ file_lines behind
file_lines-next rest line behind next cut says = ap (map line_of) cut ∙ ap (λ n. n ∷ file_lines behind) (sym says)

pub read_more : (bytes rest behind line : List ℕ) (next : Line) (headed next_headed : Bool) (logins next_logins : List Login) (count : ℕ) (h : IsReadTo bytes rest headed logins count) → lines rest ≡ line ∷ lines behind → next ≡ line_of line → length behind < length rest → breaks h.before next ≡ false → IsSaidBy (h.before ++ next ∷ []) next_headed next_logins → IsReadTo bytes behind next_headed next_logins (count + 1)
read_more bytes rest behind line next headed next_headed logins next_logins count h cut says shorter kept said =
    record {
      before = h.before ++ next ∷ [];
      whole = h.whole ∙ ap (λ file. h.before ++ file) (file_lines-next rest line behind next cut says) ∙ sym (append_assoc h.before (next ∷ []) (file_lines behind));
      said = said;
      right = one_more_right h.before next h.right kept;
      counted = omega (arith, h.counted, length-append h.before (next ∷ []));
      room = omega (arith, h.room);
    }
