-- Parts of a text round a separator.
use Rattle.std.specs.Prelude.{ℕ, Bool, not, ◌==◌, nat_lt, List, [], ◌∷◌, length, take, drop, Option, Some, None, Result, Ok, Err, if◌then◌else◌}
use Rattle.std.specs.{List.list_all, Cmp.Lexicographic.pointwise}
use Rattle.fsfs_text.specs.{declared.fault.FileFault.FileFault, declared.fault.FileFault.TheVariants.Truncated}

-- a byte more in front of the first part
abbrev pub in_front : ℕ → Option (List ℕ × List ℕ) → Option (List ℕ × List ℕ)
in_front b None = None
in_front b (Some p) = Some (b ∷ p.0, p.1)

-- what stands before the first separator and behind it
abbrev pub split_once : ℕ → List ℕ → Option (List ℕ × List ℕ)
split_once separator [] = None
split_once separator (b ∷ bytes) =
    if b == separator then Some ([], bytes) else in_front b (split_once separator bytes)

-- the later of two, where the later is there
abbrev pub later : ℕ → ℕ → List ℕ → Option (List ℕ × List ℕ) → Option (List ℕ × List ℕ)
later separator b bytes (Some p) = Some (b ∷ p.0, p.1)
later separator b bytes None = if b == separator then Some ([], bytes) else None

-- what stands before the last separator and behind it
abbrev pub split_last : ℕ → List ℕ → Option (List ℕ × List ℕ)
split_last separator [] = None
split_last separator (b ∷ bytes) = later separator b bytes (split_last separator bytes)

-- a line ends with a line feed
abbrev pub line_of : Option (List ℕ × List ℕ) → Result (List ℕ × List ℕ) FileFault
line_of (Some p) = Ok p
line_of None = Err Truncated

-- the line in front, without its line feed, and what stands behind it
abbrev pub line_at : List ℕ → Result (List ℕ × List ℕ) FileFault
line_at bytes = line_of (split_once 10 bytes)

-- what stands behind these bytes in front
unfoldable pub without_prefix : List ℕ → List ℕ → Option (List ℕ)
without_prefix prefix bytes =
    if nat_lt (length bytes) (length prefix) then None
    else if pointwise ◌==◌ (take (length prefix) bytes) prefix then Some (drop (length prefix) bytes)
    else None

-- the separator does not stand there
abbrev pub is_free : ℕ → List ℕ → Bool
is_free separator bytes = list_all (λ b. not (b == separator)) bytes
