-- Bytes, and the items of a row, written one after another.
use Rattle.std.proofs.Common.{◌≡◌, ◌<◌, ◌+◌, arith, ℕ, suc, List, [], ◌∷◌, ◌++◌, length, drop, get_or, map, refl, sym, ap, subst, ◌∙◌, append-nil, append_assoc}
use Rattle.std.proofs.{Math.Seq.drop-cons, lemmas.List.map-append}
use Rattle.std.specs.Prelude.{Result, Ok, Err, IfOk, IsOkAnd}
use Rattle.items.specs.{Print.{printed, row_printed}, Values.ItemValue, View.{row_of, value_of}, declared.item.Item.Item}
use Rattle.wire_replies.specs.Sinks.{Writes, WritesPart}

-- what is printed for each of these, one after another
abbrev pub all_printed : {X : Type 0} → (X → ItemValue) → List X → List ℕ
all_printed f xs = row_printed (row_of (map f xs))

pub row_printed-append : (xs ys : List ItemValue) → row_printed (row_of (xs ++ ys)) ≡ row_printed (row_of xs) ++ row_printed (row_of ys)
row_printed-append [] ys = refl
row_printed-append (x ∷ xs) ys =
    ap (λ t. printed x ++ t) (row_printed-append xs ys) ∙ sym (append_assoc (printed x) (row_printed (row_of xs)) (row_printed (row_of ys)))

pub all_printed-append : {X : Type 0} (f : X → ItemValue) (xs ys : List X) → all_printed f (xs ++ ys) ≡ all_printed f xs ++ all_printed f ys
all_printed-append f xs ys = ap (λ ts. row_printed (row_of ts)) (map-append f xs ys) ∙ row_printed-append (map f xs) (map f ys)

-- the bytes of an item that was made
pub made_printed : {E : Type 0} (made : Result Item E) (bytes : List ℕ) (item : ItemValue) → IfOk made (λ part. value_of part ≡ item)
    → IsOkAnd made (λ part. bytes ≡ printed (value_of part)) → bytes ≡ printed item
made_printed (Ok part) bytes item is so = so ∙ ap printed is
made_printed (Err e) bytes item is so = elim so [ ]

-- so are the bytes that it was appended to
pub made_behind : {E : Type 0} (made : Result Item E) (old new : List ℕ) (item : ItemValue) → IfOk made (λ part. value_of part ≡ item)
    → IsOkAnd made (λ part. new ≡ old ++ printed (value_of part)) → new ≡ old ++ printed item
made_behind (Ok part) old new item is so = so ∙ ap (λ i. old ++ printed i) is
made_behind (Err e) old new item is so = elim so [ ]

-- six parts, one appended after another
pub six_parts : (z n a d m e : List ℕ) → ((((z ++ n) ++ a) ++ d) ++ m) ++ e ≡ z ++ (n ++ (a ++ (d ++ (m ++ e))))
six_parts z n a d m e =
    append_assoc (((z ++ n) ++ a) ++ d) m e ∙ append_assoc ((z ++ n) ++ a) d (m ++ e)
    ∙ append_assoc (z ++ n) a (d ++ (m ++ e)) ∙ append_assoc z n (a ++ (d ++ (m ++ e)))

-- nothing is a part of any bytes
pub none_part : (writes : List ℕ → Type 0) (bytes : List ℕ) → writes [] → WritesPart writes bytes
none_part writes bytes w = record { part = []; rest = bytes; whole = refl; wrote = w }

-- a part of what comes first is a part of all
pub first_part : (writes : List ℕ → Type 0) (first second : List ℕ) → WritesPart writes first → WritesPart writes (first ++ second)
first_part writes first second p = record {
  part = p.part;
  rest = p.rest ++ second;
  whole = ap (λ (x : List ℕ). x ++ second) p.whole ∙ append_assoc p.part p.rest second;
  wrote = p.wrote;
}

module _ {S : Type 0} (writes : S → S → List ℕ → Type 0) (more : (s t u : S) (first second : List ℕ) → writes s t first → writes t u second → writes s u (first ++ second)) where
  -- all of what comes first, and a part of what comes then
  pub second_part : (s t u : S) (first second : List ℕ) → writes s t first → WritesPart (writes t u) second → WritesPart (writes s u) (first ++ second)
  second_part s t u first second x p = record {
    part = first ++ p.part;
    rest = p.rest;
    whole = ap (λ (y : List ℕ). first ++ y) p.whole ∙ sym (append_assoc first p.part p.rest);
    wrote = more s t u first p.part x p.wrote;
  }

  -- bytes, and then others, as far as they are written
  pub written_behind : {T E : Type 0} (r : Result T E) (s t u : S) (first second : List ℕ) → writes s t first → Writes r (writes t u) second
      → Writes r (writes s u) (first ++ second)
  written_behind (Ok x) s t u first second before now = more s t u first second before now
  written_behind (Err e) s t u first second before part = second_part s t u first second before part

-- a whole of three parts: what comes before the body, the body, and what comes behind it
module _ {S : Type 0} (writes : S → S → List ℕ → Type 0) (more : (s t u : S) (first second : List ℕ) → writes s t first → writes t u second → writes s u (first ++ second))
    (whole head body tail : List ℕ) (is : whole ≡ head ++ (body ++ tail)) where
  pub head_unwritten : (s t : S) → WritesPart (writes s t) head → WritesPart (writes s t) whole
  head_unwritten s t part = subst (λ (bytes : List ℕ). WritesPart (writes s t) bytes) (sym is) (first_part (writes s t) head (body ++ tail) part)

  pub body_unwritten : (s t u : S) → writes s t head → WritesPart (writes t u) body → WritesPart (writes s u) whole
  body_unwritten s t u before part =
      subst (λ (bytes : List ℕ). WritesPart (writes s u) bytes) (sym is)
      (second_part writes more s t u head (body ++ tail) before (first_part (writes t u) body tail part))

  pub tail_written : {T E : Type 0} (r : Result T E) (s t u v : S) → writes s t head → writes t u body → Writes r (writes u v) tail → Writes r (writes s v) whole
  tail_written r s t u v before between now =
      subst (λ (bytes : List ℕ). Writes r (writes s v) bytes) (sym is)
      (written_behind writes more r s t v head (body ++ tail) before (written_behind writes more r t u v body tail between now))

-- the next element of those that are left
pub next_left : {X : Type 0} (xs : List X) (i : ℕ) (x : X) → i < length xs → x ≡ get_or xs i x → drop i xs ≡ x ∷ drop (i + 1) xs
next_left xs i x within is =
    let next : suc i ≡ i + 1 = omega arith in
    drop-cons xs i x within ∙ ap (λ k. get_or xs i x ∷ drop k xs) next ∙ ap (λ y. y ∷ drop (i + 1) xs) (sym is)

module _ {X S : Type 0} (f : X → ItemValue) (writes : S → S → List ℕ → Type 0) where
  -- the items of the first elements of a list are written, and these are left
  pub record Written (s t : S) (all left : List X) : Type 0 where
    pub front : List X
    pub wrote : writes s t (all_printed f front)
    pub whole : all ≡ front ++ left

  -- where none is left, all is written
  pub all_written : (s t : S) (all left : List X) → left ≡ [] → Written s t all left → writes s t (all_printed f all)
  all_written s t all left none so =
      subst (λ (xs : List X). writes s t (all_printed f xs)) (sym (so.whole ∙ ap (λ xs. so.front ++ xs) none ∙ append-nil so.front)) so.wrote

  -- what is written so far is a part
  pub part_written : (s t : S) (all left : List X) → Written s t all left → WritesPart (writes s t) (all_printed f all)
  part_written s t all left so =
      subst (λ (bytes : List ℕ). WritesPart (writes s t) bytes) (sym (ap (all_printed f) so.whole ∙ all_printed-append f so.front left))
      (first_part (writes s t) (all_printed f so.front) (all_printed f left)
      (record { part = all_printed f so.front; rest = []; whole = sym (append-nil (all_printed f so.front)); wrote = so.wrote }))

  module _ (more : (s t u : S) (first second : List ℕ) → writes s t first → writes t u second → writes s u (first ++ second)) where
    -- one more is written
    pub one_written : (s t u : S) (all left rest : List X) (x : X) → left ≡ x ∷ rest → Written s t all left → writes t u (printed (f x)) → Written s u all rest
    one_written s t u all left rest x is so now = record {
      front = so.front ++ x ∷ [];
      wrote = subst (λ (bytes : List ℕ). writes s u bytes)
          (sym (all_printed-append f so.front (x ∷ []) ∙ ap (λ t. all_printed f so.front ++ t) (append-nil (printed (f x)))))
          (more s t u (all_printed f so.front) (printed (f x)) so.wrote now);
      whole = so.whole ∙ ap (λ xs. so.front ++ xs) is ∙ sym (append_assoc so.front (x ∷ []) rest);
    }

    -- and where it fails, a part of all is
    pub one_unwritten : (s t u : S) (all left rest : List X) (x : X) → left ≡ x ∷ rest → Written s t all left → WritesPart (writes t u) (printed (f x))
        → WritesPart (writes s u) (all_printed f all)
    one_unwritten s t u all left rest x is so part =
        subst (λ (bytes : List ℕ). WritesPart (writes s u) bytes)
        (sym (ap (all_printed f) (so.whole ∙ ap (λ xs. so.front ++ xs) is) ∙ all_printed-append f so.front (x ∷ rest)))
        (second_part writes more s t u (all_printed f so.front) (all_printed f (x ∷ rest)) so.wrote
        (first_part (writes t u) (printed (f x)) (all_printed f rest) part))

-- what is known of a value that was made
pub if_told : {T E : Type 0} (made : Result T E) (x wanted : T) → made ≡ Ok x → IfOk made (λ told. told ≡ wanted) → x ≡ wanted
if_told made x wanted is told = subst (λ r. IfOk r (λ value. value ≡ wanted)) is told
