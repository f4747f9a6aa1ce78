-- Documents of new data alone.
use Rattle.std.specs.{Prelude.{ℕ, zero, suc, ◌+◌, ◌/◌, ◌%◌, List, [], ◌∷◌, ◌++◌, length, take, drop, nat_lt, if◌then◌else◌}, Int.div_ceil}
use Rattle.svndiff0.specs.Document.{header}

-- the shortest spelling of an integer below 2 ^ 21
unfoldable pub integer_of : ℕ → List ℕ
integer_of n =
    if nat_lt n 128 then n ∷ []
    else if nat_lt n 16384 then (128 + n / 128) ∷ (n % 128) ∷ []
    else (128 + n / 16384) ∷ (128 + n / 128 % 128) ∷ (n % 128) ∷ []

-- the instruction that takes so many bytes of new data
unfoldable pub new_data_of : ℕ → List ℕ
new_data_of n = if nat_lt n 64 then (128 + n) ∷ [] else 128 ∷ integer_of n

-- a window with no source view, of one instruction that takes all its data
unfoldable pub full_window : List ℕ → List ℕ
full_window text =
    0 ∷ 0 ∷ (integer_of (length text) ++ (integer_of (length (new_data_of (length text)))
    ++ (integer_of (length text) ++ (new_data_of (length text) ++ text))))

-- so many windows of 65,536 bytes, the last shorter where the text ends
abbrev pub full_windows : ℕ → List ℕ → List ℕ
full_windows zero text = []
full_windows (suc n) text = full_window (take 65536 text) ++ full_windows n (drop 65536 text)

-- a whole text as a document
abbrev pub full_document : List ℕ → List ℕ
full_document text = header ++ full_windows (div_ceil (length text) 65536) text
