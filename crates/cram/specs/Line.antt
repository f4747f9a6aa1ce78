-- What a line of the users file says.
use Rattle.std.specs.Prelude.{ℕ, ◌-◌, ◌==◌, nat_lt, Bool, not, ◌&&◌, ◌||◌, List, length, take, drop, slice_index, codes, if◌then◌else◌}
use Rattle.std.specs.{List.{list_all, list_any, before_first, after_first, prefix_len, suffix_len}, Str.bytes_eq}
use Rattle.cram.specs.Login.{Login}

-- a space or a tab
abbrev pub is_blank : ℕ → Bool
is_blank b = (b == 32) || (b == 9)

-- 1 to 255 bytes
abbrev pub has_right_length : List ℕ → Bool
has_right_length bytes = nat_lt 0 (length bytes) && nat_lt (length bytes) 256

-- a space or a NUL
abbrev pub is_outside_names : ℕ → Bool
is_outside_names b = (b == 32) || (b == 0)

-- 1 to 255 bytes, none of them a space or a NUL
abbrev pub is_user_name : List ℕ → Bool
is_user_name bytes = has_right_length bytes && not (list_any is_outside_names bytes)

abbrev pub without_first_blanks : List ℕ → List ℕ
without_first_blanks bytes = drop (prefix_len is_blank bytes) bytes

abbrev pub without_last_blanks : List ℕ → List ℕ
without_last_blanks bytes = take (length bytes - suffix_len is_blank bytes) bytes

-- what stands before and behind the first `=`, without the blanks next to it; where there is no
-- `=`,
-- nothing stands behind it
unfoldable pub pair_of : List ℕ → Login
pair_of line = record {
  name = without_last_blanks (before_first (λ b. b == 61) line);
  password = without_first_blanks (after_first (λ b. b == 61) line);
}

pub data Line : Type 0 where
  blank : Line
  comment : Line
  header : Line
  pair : Login → Line
  wrong : Line

-- a pair, if its name and its password may be such
abbrev pub pair_or_wrong : Login → Line
pair_or_wrong login =
    if is_user_name login.name && has_right_length login.password then pair login else wrong

-- blanks alone, `#` and anything, `[users]`, or `name = password`
unfoldable pub line_of : List ℕ → Line
line_of bytes =
    if list_all is_blank bytes then blank
    else if slice_index bytes 0 == 35 then comment
    else if bytes_eq bytes (codes "[users]") then header
    else pair_or_wrong (pair_of bytes)
