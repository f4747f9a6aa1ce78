-- Places in parts of even length.
use Rattle.std.proofs.Common.{◌≡◌, ◌<◌, ◌+◌, ◌*◌, ◌/◌, ◌%◌, ℕ, zero, suc, List, [], ◌∷◌, ◌++◌, length, Option, Some, None, refl, sym, ap, subst, arith}
use Rattle.std.proofs.{Common.{mul-zero, mul-suc, mul_comm, div-add-mod', mod-lt, option_and_then, ◌∙◌}, lemmas.List.length-append, lemmas.Nat.div_below}
use Rattle.std.proofs.lemmas.Option.{none-some}
use Rattle.std.specs.{List.flat_map, Prelude.{slice_get, slice_set}}
use Rattle.pvec.specs.Parts.{AreEven, Each}

-- ---- lists

pub get_left : {X : Type 0} (xs ys : List X) (i : ℕ) → i < length xs → slice_get (xs ++ ys) i ≡ slice_get xs i
get_left [] ys i within = absurd (omega (arith, within))
get_left (x ∷ xs) ys zero within = refl
get_left (x ∷ xs) ys (suc i) within = get_left xs ys i (omega (arith, within))

pub get_right : {X : Type 0} (xs ys : List X) (i j : ℕ) → i ≡ length xs + j → slice_get (xs ++ ys) i ≡ slice_get ys j
get_right [] ys i j is = ap (slice_get ys) (omega (arith, is))
get_right (x ∷ xs) ys zero j is = absurd (omega (arith, is))
get_right (x ∷ xs) ys (suc i) j is = get_right xs ys i j (omega (arith, is))

pub set_left : {X : Type 0} (xs ys : List X) (i : ℕ) (v : X) → i < length xs → slice_set (xs ++ ys) i v ≡ slice_set xs i v ++ ys
set_left [] ys i v within = absurd (omega (arith, within))
set_left (x ∷ xs) ys zero v within = refl
set_left (x ∷ xs) ys (suc i) v within = ap (λ l. x ∷ l) (set_left xs ys i v (omega (arith, within)))

pub set_right : {X : Type 0} (xs ys : List X) (i j : ℕ) (v : X) → i ≡ length xs + j → slice_set (xs ++ ys) i v ≡ xs ++ slice_set ys j v
set_right [] ys i j v is = ap (λ k. slice_set ys k v) (omega (arith, is))
set_right (x ∷ xs) ys zero j v is = absurd (omega (arith, is))
set_right (x ∷ xs) ys (suc i) j v is = ap (λ l. x ∷ l) (set_right xs ys i j v (omega (arith, is)))

-- ---- parts

pub length_even : {X Y : Type 0} (n : ℕ) (items : X → List Y) (xs : List X) → AreEven n items xs → length (flat_map items xs) ≡ n * length xs
length_even n items [] even = sym (mul-zero n)
length_even n items (x ∷ xs) even =
    let more : length (flat_map items xs) ≡ n * length xs = length_even n items xs even.1 in
    let here : length (items x) ≡ n = even.0 in
    let next : n * suc (length xs) ≡ n * length xs + n = mul-suc n (length xs) in
    let both : length (items x ++ flat_map items xs) ≡ length (items x) + length (flat_map items xs) = length-append (items x) (flat_map items xs) in
    omega (arith, more, here, next, both)

pub even_at : {X Y : Type 0} (n : ℕ) (items : X → List Y) (xs : List X) (q : ℕ) (x : X) → AreEven n items xs → slice_get xs q ≡ Some x → length (items x) ≡ n
even_at {X = X} n items [] q x even is = absurd (none-some x is)
even_at {X = X} n items (y ∷ xs) zero x even is = subst (λ o. of o) is even.0
  where
    of : Option X → Type 0
    of None = Unit {0}
    of (Some z) = length (items z) ≡ n
even_at {X = X} n items (y ∷ xs) (suc q) x even is = even_at n items xs q x even.1 is

pub each_at : {X : Type 0} (P : X → Type 0) (xs : List X) (q : ℕ) (x : X) → Each P xs → slice_get xs q ≡ Some x → P x
each_at {X = X} P [] q x each is = absurd (none-some x is)
each_at {X = X} P (y ∷ xs) zero x each is = subst (λ o. of o) is each.0
  where
    of : Option X → Type 0
    of None = Unit {0}
    of (Some z) = P z
each_at {X = X} P (y ∷ xs) (suc q) x each is = each_at P xs q x each.1 is

-- the item at a place, by the part and the place in it
pub get_even : {X Y : Type 0} (n : ℕ) (items : X → List Y) (xs : List X) → AreEven n items xs → (q r : ℕ) → r < n
    → slice_get (flat_map items xs) (n * q + r) ≡ option_and_then (λ x. slice_get (items x) r) (slice_get xs q)
get_even n items [] even q r within = refl
get_even n items (x ∷ xs) even zero r within =
    let none : n * 0 ≡ 0 = mul-zero n in
    let is : n * 0 + r ≡ r = omega (arith, none) in
    let inside : r < length (items x) = omega (arith, within, even.0) in
    ap (slice_get (items x ++ flat_map items xs)) is ∙ get_left (items x) (flat_map items xs) r inside
get_even n items (x ∷ xs) even (suc q) r within =
    let next : n * suc q ≡ n * q + n = mul-suc n q in
    let here : length (items x) ≡ n = even.0 in
    get_right (items x) (flat_map items xs) (n * suc q + r) (n * q + r) (omega (arith, next, here)) ∙ get_even n items xs even.1 q r within

-- and with another part, which has another item there
pub set_even : {X Y : Type 0} (n : ℕ) (items : X → List Y) (xs : List X) → AreEven n items xs → (q r : ℕ) → r < n
    → (x y : X) (v : Y) → slice_get xs q ≡ Some x → items y ≡ slice_set (items x) r v
    → flat_map items (slice_set xs q y) ≡ slice_set (flat_map items xs) (n * q + r) v
set_even {X = X} n items [] even q r within x y v is new = absurd (none-some x is)
set_even {X = X} n items (z ∷ xs) even zero r within x y v is new =
    let none : n * 0 ≡ 0 = mul-zero n in
    let place : r ≡ n * 0 + r = omega (arith, none) in
    let inside : r < length (items z) = omega (arith, within, even.0) in
    ap (λ l. l ++ flat_map items xs) (subst (λ o. of o) (sym is) new)
    ∙ sym (set_left (items z) (flat_map items xs) r v inside)
    ∙ ap (λ k. slice_set (items z ++ flat_map items xs) k v) place
  where
    of : Option X → Type 0
    of None = Unit {0}
    of (Some w) = items y ≡ slice_set (items w) r v
set_even {X = X} n items (z ∷ xs) even (suc q) r within x y v is new =
    let next : n * suc q ≡ n * q + n = mul-suc n q in
    let here : length (items z) ≡ n = even.0 in
    ap (λ l. items z ++ l) (set_even n items xs even.1 q r within x y v is new)
    ∙ sym (set_right (items z) (flat_map items xs) (n * suc q + r) (n * q + r) v (omega (arith, next, here)))

pub even_set : {X Y : Type 0} (n : ℕ) (items : X → List Y) (xs : List X) (q : ℕ) (y : X) → AreEven n items xs → length (items y) ≡ n → AreEven n items (slice_set xs q y)
even_set n items [] q y even new = even
even_set n items (x ∷ xs) zero y even new = (new, even.1)
even_set n items (x ∷ xs) (suc q) y even new = (even.0, even_set n items xs q y even.1 new)

pub each_set : {X : Type 0} (P : X → Type 0) (xs : List X) (q : ℕ) (y : X) → Each P xs → P y → Each P (slice_set xs q y)
each_set P [] q y each new = each
each_set P (x ∷ xs) zero y each new = (new, each.1)
each_set P (x ∷ xs) (suc q) y each new = (each.0, each_set P xs q y each.1 new)

pub even_push : {X Y : Type 0} (n : ℕ) (items : X → List Y) (xs : List X) (y : X) → AreEven n items xs → length (items y) ≡ n → AreEven n items (xs ++ y ∷ [])
even_push n items [] y even new = (new, tt)
even_push n items (x ∷ xs) y even new = (even.0, even_push n items xs y even.1 new)

pub each_push : {X : Type 0} (P : X → Type 0) (xs : List X) (y : X) → Each P xs → P y → Each P (xs ++ y ∷ [])
each_push P [] y each new = (new, tt)
each_push P (x ∷ xs) y each new = (each.0, each_push P xs y each.1 new)

-- ---- by quotient and rest

placed : (n i : ℕ) → n * (i / n) + i % n ≡ i
placed n i = ap (λ k. k + i % n) (mul_comm n (i / n)) ∙ div-add-mod' i n

pub got : {X Y : Type 0} (n : ℕ) (items : X → List Y) (xs : List X) (i : ℕ) → 0 < n → AreEven n items xs
    → slice_get (flat_map items xs) i ≡ option_and_then (λ x. slice_get (items x) (i % n)) (slice_get xs (i / n))
got n items xs i some even =
    ap (slice_get (flat_map items xs)) (sym (placed n i)) ∙ get_even n items xs even (i / n) (i % n) (mod-lt i some)

pub replaced_at : {X Y : Type 0} (n : ℕ) (items : X → List Y) (xs : List X) (i : ℕ) → 0 < n → AreEven n items xs
    → (x y : X) (v : Y) → slice_get xs (i / n) ≡ Some x → items y ≡ slice_set (items x) (i % n) v
    → flat_map items (slice_set xs (i / n) y) ≡ slice_set (flat_map items xs) i v
replaced_at n items xs i some even x y v is new =
    set_even n items xs even (i / n) (i % n) (mod-lt i some) x y v is new
    ∙ ap (λ k. slice_set (flat_map items xs) k v) (placed n i)

-- the part of a place is there
pub part_there : {X Y : Type 0} (n : ℕ) (items : X → List Y) (xs : List X) (i : ℕ) → 0 < n → AreEven n items xs → i < length (flat_map items xs) → i / n < length xs
part_there n items xs i some even within =
    let all : length (flat_map items xs) ≡ n * length xs = length_even n items xs even in
    let turned : n * length xs ≡ length xs * n = mul_comm n (length xs) in
    div_below i n (length xs) some (omega (arith, all, turned, within))

pub length_set : {X : Type 0} (xs : List X) (i : ℕ) (v : X) → length (slice_set xs i v) ≡ length xs
length_set [] i v = refl
length_set (x ∷ xs) zero v = refl
length_set (x ∷ xs) (suc i) v = ap suc (length_set xs i v)
