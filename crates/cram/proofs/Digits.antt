-- The digits of a digest have the form that an answer wants.
use Rattle.std.proofs.Common.{◌≡◌, ℕ, zero, suc, ◌/◌, ◌%◌, ◌<◌, ◌*◌, Bool, true, ◌&&◌, List, [], ◌∷◌, length, refl, ap, ◌∙◌, arith}
use Rattle.std.proofs.{lemmas.List.Elements.{All-append, All-cons, All-head, All-nil, All-tail}, lemmas.List.Sums.AllPass-from_list_all}
use Rattle.std.specs.{Prelude.{All, slice_index}, Int.{w32, to_le_bytes, bytes_low_first, byte_at}, List.list_all}
use Rattle.hex.specs.Hex.{encode_lower, encode_with, lower_digits}
use Rattle.hex.proofs.HexLemmas.{length-encode_with}
use Rattle.md5.specs.Md5.{digest_bytes, md5}
use Rattle.md5.proofs.StandardFacts.{length-md5}
use Rattle.cram.specs.{Answer.{digits_under, is_lower_digit}, Hmac.hmac_of}

byte_at-is_byte : (i n : ℕ) → byte_at i n < 256
byte_at-is_byte zero n = omega arith
byte_at-is_byte (suc i) n = omega arith

bytes_low_first-are_bytes : (i k n : ℕ) → All (λ b. b < 256) (bytes_low_first i k n)
bytes_low_first-are_bytes i zero n = All-nil _
bytes_low_first-are_bytes i (suc k) n = All-cons (λ b. b < 256) (byte_at i n) (bytes_low_first (suc i) k n) (byte_at-is_byte i n) (bytes_low_first-are_bytes (suc i) k n)

digest_bytes-are_bytes : (h : List ℕ) (n : ℕ) → All (λ b. b < 256) (digest_bytes h n)
unfolding digest_bytes
digest_bytes-are_bytes h zero = All-nil _
digest_bytes-are_bytes h (suc n) = All-append (λ b. b < 256) (digest_bytes h n) (to_le_bytes w32 (slice_index h n)) (digest_bytes-are_bytes h n) (bytes_low_first-are_bytes 0 4 (slice_index h n))

md5-are_bytes : (m : List ℕ) → All (λ b. b < 256) (md5 m)
unfolding md5
md5-are_bytes m = digest_bytes-are_bytes _ 4

lower_digit_at : (d : ℕ) → d < 16 → is_lower_digit (slice_index lower_digits d) ≡ true
lower_digit_at d h = AllPass-from_list_all is_lower_digit lower_digits refl d 0 h

and_both : (a b : Bool) → a ≡ true → b ≡ true → (a && b) ≡ true
and_both a b h k = cc

encode_lower-lower : (xs : List ℕ) → All (λ b. b < 256) xs → list_all is_lower_digit (encode_lower xs) ≡ true
unfolding encode_with
encode_lower-lower [] h = refl
encode_lower-lower (b ∷ rest) h =
    let fits : b < 256 = All-head (λ b. b < 256) b rest h in
    and_both _ _ (lower_digit_at (b / 16) (omega arith))
    (and_both _ _ (lower_digit_at (b % 16) (omega arith)) (encode_lower-lower rest (All-tail (λ b. b < 256) b rest h)))

pub length-digits_under : (password challenge : List ℕ) → length (digits_under password challenge) ≡ 32
unfolding hmac_of
length-digits_under password challenge = length-encode_with lower_digits (hmac_of password challenge) ∙ ap (λ n. 2 * n) (length-md5 _)

pub digits_under-lower : (password challenge : List ℕ) → list_all is_lower_digit (digits_under password challenge) ≡ true
unfolding hmac_of
digits_under-lower password challenge = encode_lower-lower (hmac_of password challenge) (md5-are_bytes _)
