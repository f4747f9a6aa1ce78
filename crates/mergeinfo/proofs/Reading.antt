-- The parts of a text are read one after another.
use Rattle.std.proofs.Common.{◌≡◌, ℕ, ◌+◌, ◌<◌, List, [], ◌∷◌, ◌++◌, length, drop, get_or, Option, Some, None, refl, sym, ap, ◌∙◌, append_assoc, arith}
use Rattle.std.proofs.lemmas.List.{append-nil, at_drop_more, at_drop_all}
use Rattle.mergeinfo.specs.Maybe.{◌>>=◌, each}

-- what was read stands before what is read
abbrev pub behind : {B : Type 0} → List B → Option (List B) → Option (List B)
behind front None = None
behind front (Some others) = Some (front ++ others)

pub behind_nothing : {B : Type 0} (o : Option (List B)) → behind [] o ≡ o
behind_nothing None = refl
behind_nothing (Some others) = refl

pub behind_push : {B : Type 0} (front : List B) (y : B) (o : Option (List B)) → behind front (behind (y ∷ []) o) ≡ behind (front ++ y ∷ []) o
behind_push front y None = refl
behind_push front y (Some others) = ap (λ xs. Some xs) (sym (append_assoc front (y ∷ []) others))

onto : {B : Type 0} (y : B) (o : Option (List B)) → (o >>= λ others. Some (y ∷ others)) ≡ behind (y ∷ []) o
onto y None = refl
onto y (Some others) = refl

pub each_kept : {A B : Type 0} (read : A → Option B) (x : A) (xs : List A) (y : B) → read x ≡ Some y → each read (x ∷ xs) ≡ behind (y ∷ []) (each read xs)
each_kept read x xs y is = ap (λ o. o >>= λ first. each read xs >>= λ others. Some (first ∷ others)) is ∙ onto y (each read xs)

pub each_refused : {A B : Type 0} (read : A → Option B) (x : A) (xs : List A) → read x ≡ None → each read (x ∷ xs) ≡ None
each_refused read x xs is = ap (λ o. o >>= λ first. each read xs >>= λ others. Some (first ∷ others)) is

-- a loop over the parts goes on
pub parts_kept : {A B : Type 0} (read : A → Option B) (front longer : List B) (parts : List A) (n m : ℕ) (x : A) (y : B) (all : Option (List B))
    → (n < length parts) × (x ≡ get_or parts n x) → m ≡ n + 1 → read x ≡ Some y → longer ≡ front ++ y ∷ []
    → behind front (each read (drop n parts)) ≡ all → behind longer (each read (drop m parts)) ≡ all
parts_kept read front longer parts n m x y all turn next is pushed before =
    ap (λ k. behind longer (each read (drop k parts))) next
    ∙ ap (λ xs. behind xs (each read (drop (n + 1) parts))) pushed
    ∙ sym (behind_push front y (each read (drop (n + 1) parts)))
    ∙ ap (behind front) (sym (each_kept read x (drop (n + 1) parts) y is))
    ∙ ap (λ z. behind front (each read (z ∷ drop (n + 1) parts))) turn.1
    ∙ sym (at_drop_more (λ xs. behind front (each read xs)) parts n x turn.0)
    ∙ before

-- a loop over the parts meets one that is not read
pub parts_refused : {A B : Type 0} (read : A → Option B) (front : List B) (parts : List A) (n : ℕ) (x : A) (all : Option (List B))
    → (n < length parts) × (x ≡ get_or parts n x) → read x ≡ None
    → behind front (each read (drop n parts)) ≡ all → None ≡ all
parts_refused read front parts n x all turn is before =
    ap (behind front) (sym (each_refused read x (drop (n + 1) parts) is))
    ∙ ap (λ z. behind front (each read (z ∷ drop (n + 1) parts))) turn.1
    ∙ sym (at_drop_more (λ xs. behind front (each read xs)) parts n x turn.0)
    ∙ before

-- a loop over the parts is at its end
pub parts_done : {A B : Type 0} (read : A → Option B) (front : List B) (parts : List A) (n : ℕ) (all : Option (List B))
    → n ≡ length parts → behind front (each read (drop n parts)) ≡ all → Some front ≡ all
parts_done read front parts n all over before =
    ap (λ xs. Some xs) (sym (append-nil front)) ∙ sym (at_drop_all (λ xs. behind front (each read xs)) parts n (omega (arith, over))) ∙ before
