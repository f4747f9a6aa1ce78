-- Parts of a text round a separator.
use Rattle.std.proofs.Common.{◌≡◌, ℕ, ◌+◌, ◌<◌, Bool, true, false, not, ◌&&◌, cond, eqb, ltb, List, [], ◌∷◌, ◌++◌, length, take, drop, get_or, Option, Some}
use Rattle.std.proofs.{Common.{None, refl, sym, ap, ◌∙◌, arith}, lemmas.Bool.{eq-eqb, eqb-true, le-ltb}}
use Rattle.std.proofs.lemmas.List.{append-nil, drop_more, take_at, drop_at, length-append, take-append-drop}
use Rattle.std.specs.Cmp.Lexicographic.{pointwise}
use Rattle.fsfs_text.specs.Splits.{split_once, split_last, in_front, later, without_prefix, is_free}

-- what was passed stands in front
abbrev pub passed : List ℕ → Option (List ℕ × List ℕ) → Option (List ℕ × List ℕ)
passed front None = None
passed front (Some p) = Some (front ++ p.0, p.1)

-- the next byte is the separator
pub stops : (s : ℕ) (bytes : List ℕ) (i : ℕ) → i < length bytes → eqb (get_or bytes i 0) s ≡ true
    → Some (take i bytes, drop (i + 1) bytes) ≡ passed (take i bytes) (split_once s (drop i bytes))
stops s bytes i lt same =
    let b = get_or bytes i 0 in
    let rest = split_once s (drop (i + 1) bytes) in
    let one : split_once s (b ∷ drop (i + 1) bytes) ≡ Some ([], drop (i + 1) bytes) = ap (λ t. cond t (Some ([], drop (i + 1) bytes)) (in_front b rest)) same in
    rw (drop_more bytes i 0 lt, one) (ap (λ (x : List ℕ). Some (x, drop (i + 1) bytes)) (sym (append-nil (take i bytes))))

-- ---- what was joined is split again

other_byte : (b : ℕ) (s : ℕ) (bytes : List ℕ) → is_free s (b ∷ bytes) ≡ true → (eqb b s ≡ false) × (is_free s bytes ≡ true)
other_byte b s bytes h = by (eqb b s) h
  where
    by : (t : Bool) → (not t && is_free s bytes) ≡ true → (t ≡ false) × (is_free s bytes ≡ true)
    by true e = absurd cc
    by false e = (refl, e)

pub split_again : (s : ℕ) (front rest : List ℕ) → is_free s front ≡ true → split_once s (front ++ s ∷ rest) ≡ Some (front, rest)
split_again s [] rest h = ap (λ t. cond t (Some ([], rest)) (in_front s (split_once s rest))) (eq-eqb s s refl)
split_again s (b ∷ front) rest h =
    let p = other_byte b s front h in
    ap (λ t. cond t (Some ([], front ++ s ∷ rest)) (in_front b (split_once s (front ++ s ∷ rest)))) p.0 ∙ ap (in_front b) (split_again s front rest p.1)

pub split_none : (s : ℕ) (bytes : List ℕ) → is_free s bytes ≡ true → split_once s bytes ≡ None
split_none s [] h = refl
split_none s (b ∷ bytes) h =
    let p = other_byte b s bytes h in
    ap (λ t. cond t (Some ([], bytes)) (in_front b (split_once s bytes))) p.0 ∙ ap (in_front b) (split_none s bytes p.1)

last_none : (s : ℕ) (bytes : List ℕ) → is_free s bytes ≡ true → split_last s bytes ≡ None
last_none s [] h = refl
last_none s (b ∷ bytes) h =
    let p = other_byte b s bytes h in
    ap (later s b bytes) (last_none s bytes p.1) ∙ ap (λ t. cond t (Some ([], bytes)) None) p.0

-- the last one is found from the end
pub found_last : (s : ℕ) (front back : List ℕ) → split_last s back ≡ None → split_last s (front ++ s ∷ back) ≡ Some (front, back)
found_last s [] back h = ap (later s s back) h ∙ ap (λ t. cond t (Some ([], back)) None) (eq-eqb s s refl)
found_last s (b ∷ front) back h = ap (later s b (front ++ s ∷ back)) (found_last s front back h)

pub last_stops : (s : ℕ) (bytes : List ℕ) (i : ℕ) → i < length bytes → eqb (get_or bytes i 0) s ≡ true
    → split_last s (drop (i + 1) bytes) ≡ None → Some (take i bytes, drop (i + 1) bytes) ≡ split_last s bytes
last_stops s bytes i lt same h =
    let whole : take i bytes ++ s ∷ drop (i + 1) bytes ≡ bytes =
    ap (λ (b : ℕ). take i bytes ++ b ∷ drop (i + 1) bytes) (sym (eqb-true (get_or bytes i 0) s same))
    ∙ ap (λ (x : List ℕ). take i bytes ++ x) (sym (drop_more bytes i 0 lt)) ∙ take-append-drop i bytes in
    sym (found_last s (take i bytes) (drop (i + 1) bytes) h) ∙ ap (split_last s) whole

pub split_last_again : (s : ℕ) (front back : List ℕ) → is_free s back ≡ true → split_last s (front ++ s ∷ back) ≡ Some (front, back)
split_last_again s front back h = found_last s front back (last_none s back h)

-- what is free of the separator, one behind the other
pub is_free-append : (s : ℕ) (xs ys : List ℕ) → is_free s xs ≡ true → is_free s ys ≡ true → is_free s (xs ++ ys) ≡ true
is_free-append s [] ys h k = k
is_free-append s (x ∷ xs) ys h k =
    let p = other_byte x s xs h in
    ap (λ t. not t && is_free s (xs ++ ys)) p.0 ∙ is_free-append s xs ys p.1 k

-- ---- prefixes

pub same_bytes : (xs : List ℕ) → pointwise eqb xs xs ≡ true
same_bytes [] = refl
same_bytes (x ∷ xs) = ap (λ t. t && pointwise eqb xs xs) (eq-eqb x x refl) ∙ same_bytes xs

pub prefix_again : (prefix rest : List ℕ) → without_prefix prefix (prefix ++ rest) ≡ Some rest
unfolding without_prefix
prefix_again prefix rest =
    let long : ltb (length (prefix ++ rest)) (length prefix) ≡ false = le-ltb _ _ (omega (arith, length-append prefix rest)) in
    rw (long, take_at prefix rest (length prefix) refl, same_bytes prefix, drop_at prefix rest (length prefix) refl) refl
