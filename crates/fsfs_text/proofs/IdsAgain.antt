-- What was written is read again.
use Rattle.std.proofs.Common.{◌≡◌, ℕ, ◌+◌, ◌-◌, ◌^◌, ◌<◌, ◌≤◌, true, false, not, ◌&&◌, eqb, List, [], ◌∷◌, ◌++◌, length, Option, Some, None, refl, sym, ap, ◌∙◌}
use Rattle.std.proofs.{Common.{arith, lit≤}, lemmas.Bool.ne_eqb, lemmas.List.Elements.recursion_from_All}
use Rattle.std.specs.{Prelude.IfSome, Result.result_ok, List.AllByRecursion}
use Rattle.hex.specs.Hex.{encode_lower, is_hex_digit, IsBytes}
use Rattle.hex.proofs.HexLemmas.{decode_sized-encode_lower, decode_of-encode_lower, decode_of-ok}
use Rattle.fsfs_text.specs.{Numerals.{digit_of, numeral}, Splits.is_free, Maybe.◌>>=◌, Ids.{in_revision, part_text, id_text, part_from, part_of, id_of}}
use Rattle.fsfs_text.specs.{Representations.{representation_text, representation_of, digest_of}, Places.{place_text, place_of}}
use Rattle.fsfs_text.specs.{Fits.{PartFits, IdFits, RepresentationFits}, declared.id.IdPart.IdPart, declared.id.FileId.FileId}
use Rattle.fsfs_text.specs.{declared.representation.Representation.Representation, declared.place.Place.Place}
use Rattle.fsfs_text.proofs.{Splits.{split_again, split_none, is_free-append, prefix_again}, Numbers.{number_again, numeral_free}}

-- ---- separators

pub free-cons : (s b : ℕ) (bytes : List ℕ) → eqb b s ≡ false → is_free s bytes ≡ true → is_free s (b ∷ bytes) ≡ true
free-cons s b bytes other h = ap (λ t. not t && is_free s bytes) other ∙ h

-- one part, another byte, and another part
pub free-join : (s b : ℕ) (xs ys : List ℕ) → eqb b s ≡ false → is_free s xs ≡ true → is_free s ys ≡ true → is_free s (xs ++ b ∷ ys) ≡ true
free-join s b xs ys other h k = is_free-append s xs (b ∷ ys) h (free-cons s b ys other k)

-- a separator that stands in no id
pub record IsApart (s : ℕ) : Type 0 where
  pub digit : digit_of s ≡ None
  pub dash : eqb 45 s ≡ false
  pub dot : eqb 46 s ≡ false
  pub slash : eqb 47 s ≡ false
  pub r : eqb 114 s ≡ false

pub feed_apart : IsApart 10
feed_apart = record { digit = refl; dash = refl; dot = refl; slash = refl; r = refl }

pub decimal_free : (s n : ℕ) → digit_of s ≡ None → is_free s (numeral 10 n) ≡ true
decimal_free s n none = numeral_free s 10 n none (lit≤ tt) (lit≤ tt)

-- ---- node ids and copy ids

part_free : (s : ℕ) (part : IdPart) → digit_of s ≡ None → eqb 45 s ≡ false → is_free s (part_text part) ≡ true
part_free s part none dash = by part.revision
  where
    front : is_free s (numeral 36 part.number) ≡ true
    front = numeral_free s 36 part.number none (lit≤ tt) (lit≤ tt)

    by : (revision : Option ℕ) → is_free s (in_revision (numeral 36 part.number) revision) ≡ true
    by None = front
    by (Some revision) = free-join s 45 (numeral 36 part.number) (numeral 10 revision) dash front (decimal_free s revision none)

part_from_parts : (n : ℕ) (revision : Option ℕ) → n < 2 ^ 128 → IfSome revision (λ r. r < 2 ^ 32)
    → part_of (in_revision (numeral 36 n) revision) ≡ Some (record { number = n; revision = revision })
unfolding part_of
part_from_parts n None small fits =
    let free : is_free 45 (numeral 36 n) ≡ true = numeral_free 45 36 n refl (lit≤ tt) (lit≤ tt) in
    ap (part_from (numeral 36 n)) (split_none 45 (numeral 36 n) free)
    ∙ ap (λ (o : Option ℕ). o >>= λ number. Some (record { number = number; revision = None })) (number_again 36 (2 ^ 128 - 1) n (lit≤ tt) (lit≤ tt) (omega arith))
part_from_parts n (Some r) small fits =
    let free : is_free 45 (numeral 36 n) ≡ true = numeral_free 45 36 n refl (lit≤ tt) (lit≤ tt) in
    ap (part_from (in_revision (numeral 36 n) (Some r))) (split_again 45 (numeral 36 n) (numeral 10 r) free)
    ∙ rw (number_again 36 (2 ^ 128 - 1) n (lit≤ tt) (lit≤ tt) (omega arith), number_again 10 (2 ^ 32 - 1) r (lit≤ tt) (lit≤ tt) (omega arith)) refl

part_again : (part : IdPart) → PartFits part → part_of (part_text part) ≡ Some part
part_again part fits = part_from_parts part.number part.revision fits.number fits.revision

-- ---- ids

pub id_free : (s : ℕ) (id : FileId) → IsApart s → is_free s (id_text id) ≡ true
id_free s id apart =
    free-join s 46 (part_text id.node) _ apart.dot (part_free s id.node apart.digit apart.dash)
    (free-join s 46 (part_text id.copy) _ apart.dot (part_free s id.copy apart.digit apart.dash)
    (free-cons s 114 _ apart.r (free-join s 47 (numeral 10 id.revision) (numeral 10 id.offset) apart.slash (decimal_free s id.revision apart.digit) (decimal_free s id.offset apart.digit))))

pub id_again : (id : FileId) → IdFits id → id_of (id_text id) ≡ Some id
unfolding id_of
id_again id fits =
    let last : List ℕ = numeral 10 id.revision ++ 47 ∷ numeral 10 id.offset in
    rw (
      split_again 46 (part_text id.node) (part_text id.copy ++ 46 ∷ (114 ∷ last)) (part_free 46 id.node refl refl),
      split_again 46 (part_text id.copy) (114 ∷ last) (part_free 46 id.copy refl refl),
      prefix_again (114 ∷ []) last,
      split_again 47 (numeral 10 id.revision) (numeral 10 id.offset) (decimal_free 47 id.revision refl),
      part_again id.node fits.node,
      part_again id.copy fits.copy,
      number_again 10 (2 ^ 32 - 1) id.revision (lit≤ tt) (lit≤ tt) (omega (arith, fits.revision)),
      number_again 10 (2 ^ 64 - 1) id.offset (lit≤ tt) (lit≤ tt) (omega (arith, fits.offset)),
    ) refl

-- ---- representations

hex_free : (digits : List ℕ) → AllByRecursion (λ c. is_hex_digit c ≡ true) digits → is_free 10 digits ≡ true
hex_free [] h = refl
hex_free (c ∷ digits) h = free-cons 10 c digits (ne_eqb c 10 (λ e. differ (sym h.0 ∙ ap is_hex_digit e))) (hex_free digits h.1)
  where
    differ : true ≡ false → ⊥
    differ e = cc

digest_free : (digest : List ℕ) → IsBytes digest → is_free 10 (encode_lower digest) ≡ true
digest_free digest bytes =
    hex_free (encode_lower digest) (recursion_from_All (λ c. is_hex_digit c ≡ true) (encode_lower digest) (decode_of-ok (encode_lower digest) digest (decode_of-encode_lower digest bytes)).1)

pub representation_free : (representation : Representation) → RepresentationFits representation → is_free 10 (representation_text representation) ≡ true
representation_free representation fits =
    free-join 10 32 (numeral 10 representation.revision) _ refl (decimal_free 10 representation.revision refl)
    (free-join 10 32 (numeral 10 representation.offset) _ refl (decimal_free 10 representation.offset refl)
    (free-join 10 32 (numeral 10 representation.length) _ refl (decimal_free 10 representation.length refl)
    (free-join 10 32 (numeral 10 representation.size) _ refl (decimal_free 10 representation.size refl) (digest_free representation.digest fits.bytes))))

pub representation_again : (representation : Representation) → RepresentationFits representation → representation_of (representation_text representation) ≡ Some representation
unfolding representation_of
representation_again representation fits =
    let d : List ℕ = encode_lower representation.digest in
    let n : List ℕ = numeral 10 representation.length in
    let m : List ℕ = numeral 10 representation.size in
    let digest : digest_of d ≡ Some representation.digest = ap result_ok (decode_sized-encode_lower representation.digest 16 fits.whole fits.bytes) in
    rw (
      split_again 32 (numeral 10 representation.revision) (numeral 10 representation.offset ++ 32 ∷ (n ++ 32 ∷ (m ++ 32 ∷ d))) (decimal_free 32 representation.revision refl),
      split_again 32 (numeral 10 representation.offset) (n ++ 32 ∷ (m ++ 32 ∷ d)) (decimal_free 32 representation.offset refl),
      split_again 32 n (m ++ 32 ∷ d) (decimal_free 32 representation.length refl),
      split_again 32 m d (decimal_free 32 representation.size refl),
      number_again 10 (2 ^ 32 - 1) representation.revision (lit≤ tt) (lit≤ tt) (omega (arith, fits.revision)),
      number_again 10 (2 ^ 64 - 1) representation.offset (lit≤ tt) (lit≤ tt) (omega (arith, fits.offset)),
      number_again 10 (2 ^ 64 - 1) representation.length (lit≤ tt) (lit≤ tt) (omega (arith, fits.length)),
      number_again 10 (2 ^ 64 - 1) representation.size (lit≤ tt) (lit≤ tt) (omega (arith, fits.size)),
      digest,
    ) refl

-- ---- places

pub place_free : (place : Place) → is_free 10 place.path ≡ true → is_free 10 (place_text place) ≡ true
place_free place free = free-join 10 32 (numeral 10 place.revision) place.path refl (decimal_free 10 place.revision refl) free

pub place_again : (place : Place) → place.revision < 2 ^ 32 → place_of (place_text place) ≡ Some place
unfolding place_of
place_again place fits =
    rw (
      split_again 32 (numeral 10 place.revision) place.path (decimal_free 32 place.revision refl),
      number_again 10 (2 ^ 32 - 1) place.revision (lit≤ tt) (lit≤ tt) (omega (arith, fits)),
    ) refl
