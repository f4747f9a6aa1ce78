-- The file `format`: the format, and in which folders the files of revisions are.
use Rattle.std.specs.Prelude.{◌≤◌, ◌<◌, ◌==◌, ◌/◌, ℕ, zero, suc, List, [], ◌∷◌, ◌++◌, codes, length, Option, Some, None, option_and_then, if◌then◌else◌}
use Rattle.std.specs.Cmp.Lexicographic.{pointwise}
use Rattle.fsfs_text.specs.{Numerals.{number_of, numeral}, Splits.{split_once, without_prefix}, Maybe.◌>>=◌, declared.format.Format.Format}
use Rattle.fsfs_text.specs.{declared.format.Format.TheVariants.{Two, Three}, declared.format.Layout.Layout}
use Rattle.fsfs_text.specs.declared.format.Layout.TheVariants.{Linear, Sharded}

-- in format 2 all files of revisions are in one folder
abbrev pub layout_of : Format → Layout
layout_of Two = Linear
layout_of (Three layout) = layout

-- the shard of a revision: its number by the size of a shard, rounded down
abbrev pub shard_in : Layout → ℕ → Option ℕ
shard_in Linear n = None
shard_in (Sharded zero) n = None
shard_in (Sharded (suc size)) n = Some (n / suc size)

-- ---- written

abbrev pub sharded_bytes : ℕ → List ℕ
sharded_bytes size = codes "layout sharded " ++ (numeral 10 size ++ 10 ∷ [])

abbrev pub layout_bytes : Layout → List ℕ
layout_bytes Linear = codes "layout linear\n"
layout_bytes (Sharded size) = sharded_bytes size

abbrev pub format_bytes : Format → List ℕ
format_bytes Two = codes "2\n"
format_bytes (Three layout) = codes "3\n" ++ layout_bytes layout

-- ---- read

-- a number from 1 to 262,144, without leading zeros
abbrev pub size_of : List ℕ → Option ℕ
size_of [] = None
size_of (b ∷ digits) = if b == 48 then None else number_of 10 262144 (b ∷ digits)

-- a line that ends the file
unfoldable pub sharded_said : List ℕ → Option Layout
sharded_said bytes = do
  rest ← without_prefix (codes "layout sharded ") bytes
  (digits, after) ← split_once 10 rest
  size ← if length after == 0 then size_of digits else None
  Some (Sharded size)

-- without a line the layout is linear
unfoldable pub layout_said : List ℕ → Option Layout
layout_said bytes =
    if length bytes == 0 then Some Linear
    else if pointwise ◌==◌ bytes (codes "layout linear\n") then Some Linear
    else sharded_said bytes

-- what the file says
unfoldable pub format_of : List ℕ → Option Format
format_of bytes = if pointwise ◌==◌ bytes (codes "2\n") then Some Two else do
  rest ← without_prefix (codes "3\n") bytes
  layout ← layout_said rest
  Some (Three layout)

-- the layout that the file says: linear where it says no format, or is missing
abbrev pub layout_by : Option Format → Layout
layout_by None = Linear
layout_by (Some format) = layout_of format

abbrev pub layout_in : Option (List ℕ) → Layout
layout_in file = layout_by (option_and_then format_of file)

-- what the file can say
abbrev pub LayoutFits : Layout → Type 0
LayoutFits Linear = Unit {0}
LayoutFits (Sharded size) = (0 < size) × (size ≤ 262144)

abbrev pub FormatFits : Format → Type 0
FormatFits Two = Unit {0}
FormatFits (Three layout) = LayoutFits layout
