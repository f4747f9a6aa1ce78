-- The delta that leads from one text to another: windows that copy what both texts begin with and
-- what both end with, and bring the bytes between.
use Rattle.std.specs.{Prelude.{ℕ, ◌+◌, ◌-◌, ◌*◌, ◌/◌, ◌%◌, ◌==◌, List, [], ◌∷◌, ◌++◌, length, take, drop, map, min, nat_lt, if◌then◌else◌}, Int.div_ceil}
use Rattle.std.specs.{Int.Digits.digits_of, List.range_with_len}
use Rattle.svndiff0.specs.Document.{header}
use Rattle.text_deltas.specs.{Alike.shared_by, declared.shared.Shared.Shared, declared.windows.Parts.Parts}

-- ---- a window, which gives n bytes of the text, from this place on

-- It takes what it has of the bytes with which both texts begin, and of those with which both end;
-- the bytes between are new. Its view reaches 17,000 bytes to either side of the same places of the
-- text before, so that views go on as a stream does.
abbrev pub parts_of : Shared → ℕ → ℕ → Parts
parts_of s at n =
    let front = min n (s.front - at) in
    let back = min (n - front) (at + n - (s.text - s.back)) in
    let fresh = n - (front + back) in
    let start = min s.before (at - 17000) in
    record {
      start = start;
      view = min s.before (at + n + 17000) - start;
      front = front;
      front_from = at - start;
      fresh = fresh;
      back = back;
      back_from = at + front + fresh + s.before - (s.text + start);
    }

-- groups of seven bits, the high bit on all but the last
unfoldable pub integer : ℕ → List ℕ
integer n = map (λ d. 128 + d) (digits_of 128 (n / 128)) ++ n % 128 ∷ []

-- a length with a kind: in one byte where that can be
unfoldable pub sized : ℕ → ℕ → List ℕ
sized kind n = if nat_lt n 64 then (kind + n) ∷ [] else kind ∷ integer n

-- a copy of n bytes of the view, from this place on; no instruction is for no bytes
unfoldable pub copy : ℕ → ℕ → List ℕ
copy from n = if n == 0 then [] else sized 0 n ++ integer from

unfoldable pub new_data : ℕ → List ℕ
new_data n = if n == 0 then [] else sized 128 n

unfoldable pub instructions : Parts → List ℕ
instructions p = copy p.front_from p.front ++ (new_data p.fresh ++ copy p.back_from p.back)

-- five integers
unfoldable pub head : Parts → ℕ → ℕ → List ℕ
head p n section =
    integer p.start ++ (integer p.view ++ (integer n ++ (integer section ++ integer p.fresh)))

unfoldable pub window : Shared → ℕ → List ℕ → List ℕ
window s at part =
    let p = parts_of s at (length part) in
    let section = instructions p in
    head p (length part) (length section) ++ (section ++ take p.fresh (drop p.front part))

-- ---- the delta

-- a window of at most 65,536 bytes, by its place among them
abbrev pub nth_window : List ℕ → List ℕ → ℕ → List ℕ
nth_window before text k =
    window (shared_by before text) (k * 65536) (take 65536 (drop (k * 65536) text))

abbrev pub windows : List ℕ → List ℕ → List (List ℕ)
windows before text =
    map (nth_window before text) (range_with_len 0 (div_ceil (length text) 65536))

-- the strings in which a delta is sent: the header, and each window
abbrev pub delta_chunks : List ℕ → List ℕ → List (List ℕ)
delta_chunks before text = header ∷ windows before text
