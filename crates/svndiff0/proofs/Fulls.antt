-- Documents of new data are read back.
use Rattle.std.proofs.Common.{◌≡◌, ℕ, zero, suc, ◌+◌, ◌-◌, ◌*◌, ◌/◌, ◌%◌, ◌≤◌, ◌<◌, inl, inr, min, Bool, true, false, cond, nat_lt, ◌==◌, List, [], ◌∷◌, ◌++◌}
use Rattle.std.proofs.Common.{length, take, drop, Some, Ok, Err, refl, sym, ◌∙◌, ap, append_assoc, append-nil, length-append, length-take, length-drop, lit<}
use Rattle.std.proofs.{Common.{lit≤, arith}, lemmas.Bool.Decides.nat_tests, lemmas.List.{take-append-drop, take_min}}
use Rattle.std.proofs.{Math.Seq.{take-length, drop-length, take-append_seam, drop-append_seam, drop-append-add}, Math.ListN.drop_of_length-le}
use Rattle.std.proofs.lemmas.Grind.{div_ceil_times}
use Rattle.std.specs.Int.{div_ceil}
use borrow.Author.Tests.{ltb-true}
use Rattle.svndiff0.specs.{declared.fault.DiffFault.TheVariants.{TooLarge, BadInstruction}, declared.instruction.Instruction.TheVariants.NewData}
use Rattle.svndiff0.specs.{declared.window.Head.Head, Read.{Read, ◌>>=◌}, Integer.{integer_behind, integer_at, bounded_at}}
use Rattle.svndiff0.specs.Instruction.{length_at, new_data_at, instruction_at, instructions_of, with_others, before}
use Rattle.svndiff0.specs.Window.{limit, head_at, body_at, window_at}
use Rattle.svndiff0.specs.Document.{bytes_behind, header_at, going, with_windows, windows_of, outcome, document_text}
use Rattle.svndiff0.specs.Full.{integer_of, new_data_of, full_window, full_windows, full_document}
use Rattle.svndiff0.proofs.{Sections.{section_none, section_step}, Documents.{below, windows_none, windows_step}}

one_byte : (n : ℕ) (rest : List ℕ) → n < 128 → integer_behind 9 0 (n ∷ rest) ≡ Ok (Some (n, rest))
one_byte n rest h =
    let t : nat_lt n 128 ≡ true = grind (arith, nat_tests) in
    let e : 0 + n ≡ n = omega arith in
    rw (t, e) refl

two_bytes : (a b : ℕ) (rest : List ℕ) → b < 128 → integer_behind 9 0 ((128 + a) ∷ b ∷ rest) ≡ Ok (Some (128 * a + b, rest))
two_bytes a b rest h =
    let s : nat_lt (128 + a) 128 ≡ false = grind (arith, nat_tests) in
    let t : nat_lt b 128 ≡ true = grind (arith, nat_tests) in
    let e : 128 * 0 + (128 + a - 128) ≡ a = omega arith in
    rw (s, e, t) refl

three_bytes : (a b d : ℕ) (rest : List ℕ) → d < 128 → integer_behind 9 0 ((128 + a) ∷ (128 + b) ∷ d ∷ rest) ≡ Ok (Some (128 * (128 * a + b) + d, rest))
three_bytes a b d rest h =
    let s : nat_lt (128 + a) 128 ≡ false = grind (arith, nat_tests) in
    let u : nat_lt (128 + b) 128 ≡ false = grind (arith, nat_tests) in
    let t : nat_lt d 128 ≡ true = grind (arith, nat_tests) in
    let e : 128 * 0 + (128 + a - 128) ≡ a = omega arith in
    let f : 128 * a + (128 + b - 128) ≡ 128 * a + b = omega arith in
    rw (s, e, u, f, t) refl

three_groups : (n : ℕ) → 128 * (128 * (n / 16384) + n / 128 % 128) + n % 128 ≡ n
three_groups n = omega arith

found : (a b : ℕ) (rest : List ℕ) → a ≡ b → ◌≡◌ {A = Read ℕ} (Ok (Some (a, rest))) (Ok (Some (b, rest)))
found a b rest e = ap (λ n. Ok (Some (n, rest))) e

-- an integer is read back, whatever follows
long_again : (n : ℕ) (rest : List ℕ) (b : Bool) → integer_behind 9 0 (cond b ((128 + n / 128) ∷ (n % 128) ∷ []) ((128 + n / 16384) ∷ (128 + n / 128 % 128) ∷ (n % 128) ∷ []) ++ rest) ≡ Ok (Some (n, rest))
long_again n rest true = two_bytes (n / 128) (n % 128) rest (omega arith) ∙ found _ n rest (omega arith)
long_again n rest false = three_bytes (n / 16384) (n / 128 % 128) (n % 128) rest (omega arith) ∙ found _ n rest (three_groups n)

short_or_long : (n : ℕ) (rest : List ℕ) (b : Bool) → nat_lt n 128 ≡ b → integer_behind 9 0 (cond b (n ∷ []) (cond (nat_lt n 16384) ((128 + n / 128) ∷ (n % 128) ∷ []) ((128 + n / 16384) ∷ (128 + n / 128 % 128) ∷ (n % 128) ∷ [])) ++ rest) ≡ Ok (Some (n, rest))
short_or_long n rest true e = one_byte n rest (ltb-true n 128 e)
short_or_long n rest false e = long_again n rest (nat_lt n 16384)

pub integer_again : (n : ℕ) (rest : List ℕ) → integer_at (integer_of n ++ rest) ≡ Ok (Some (n, rest))
unfolding integer_at integer_of
integer_again n rest = short_or_long n rest (nat_lt n 128) refl

zero_again : (rest : List ℕ) → integer_at (0 ∷ rest) ≡ Ok (Some (0, rest))
unfolding integer_at
zero_again rest = one_byte 0 rest (lit< tt)

bounded_again : (most n : ℕ) (rest : List ℕ) → n ≤ most → bounded_at most (integer_of n ++ rest) ≡ Ok (Some (n, rest))
unfolding bounded_at
bounded_again most n rest h =
    let t : nat_lt most n ≡ false = grind (arith, nat_tests) in
    ap (λ v. v >>= λ x. cond (nat_lt most x.0) (Err TooLarge) (Ok (Some x))) (integer_again n rest)
    ∙ ap (λ b. cond b (Err TooLarge) (Ok (Some (n, rest)))) t

-- the head of a full window
full_head : ℕ → ℕ → Head
full_head n k = record { offset = 0; view = 0; target = n; section = k; new_data = n }

head_again : (before n k : ℕ) (rest : List ℕ) → n ≤ limit - before → k ≤ limit → n ≤ limit
    → head_at before (0 ∷ 0 ∷ (integer_of n ++ (integer_of k ++ (integer_of n ++ rest)))) ≡ Ok (Some (full_head n k, rest))
unfolding head_at full_head
head_again before n k rest h j l =
    rw (
      zero_again (0 ∷ (integer_of n ++ (integer_of k ++ (integer_of n ++ rest)))),
      zero_again (integer_of n ++ (integer_of k ++ (integer_of n ++ rest))),
      bounded_again (limit - before) n (integer_of k ++ (integer_of n ++ rest)) h,
      bounded_again limit k (integer_of n ++ rest) j,
      bounded_again limit n rest l,
    ) refl

length_again : (n : ℕ) (rest : List ℕ) → 0 < n → length_at n rest ≡ Ok (Some (n, rest))
unfolding length_at
length_again n rest h =
    let t : (n == 0) ≡ false = grind (arith, nat_tests) in rw t refl

long_length_again : (n : ℕ) (rest : List ℕ) → 0 < n → length_at 0 (integer_of n ++ rest) ≡ Ok (Some (n, rest))
unfolding length_at
long_length_again n rest h =
    let t : (n == 0) ≡ false = grind (arith, nat_tests) in
    ap (λ v. v >>= λ x. cond (x.0 == 0) (Err BadInstruction) (Ok (Some x))) (integer_again n rest)
    ∙ ap (λ b. cond b (Err BadInstruction) (Ok (Some (n, rest)))) t

new_data_by : (view low n : ℕ) (bytes rest : List ℕ) → low < 64 → length_at low bytes ≡ Ok (Some (n, rest)) → instruction_at view ((128 + low) ∷ bytes) ≡ Ok (Some (NewData n, rest))
unfolding instruction_at new_data_at
new_data_by view low n bytes rest h e =
    let a : nat_lt (128 + low) 64 ≡ false = grind (arith, nat_tests) in
    let b : nat_lt (128 + low) 128 ≡ false = grind (arith, nat_tests) in
    let d : nat_lt (128 + low) 192 ≡ true = grind (arith, nat_tests) in
    let f : 128 + low - 128 ≡ low = omega arith in
    rw (a, b, d, f, e) refl

instruction_by : (view n : ℕ) (rest : List ℕ) → 0 < n → (b : Bool) → nat_lt n 64 ≡ b → instruction_at view (cond b ((128 + n) ∷ []) (128 ∷ integer_of n) ++ rest) ≡ Ok (Some (NewData n, rest))
instruction_by view n rest h true e = new_data_by view n n rest rest (ltb-true n 64 e) (length_again n rest h)
instruction_by view n rest h false e = new_data_by view 0 n (integer_of n ++ rest) rest (lit< tt) (long_length_again n rest h)

pub instruction_again : (view n : ℕ) (rest : List ℕ) → 0 < n → instruction_at view (new_data_of n ++ rest) ≡ Ok (Some (NewData n, rest))
unfolding new_data_of
instruction_again view n rest h = instruction_by view n rest h (nat_lt n 64) refl

integer_long : (n : ℕ) → (0 < length (integer_of n)) × (length (integer_of n) ≤ 3)
unfolding integer_of
integer_long n =
    elim (nat_lt n 128) as (λ b. let t : List ℕ = cond b (n ∷ []) (cond (nat_lt n 16384) ((128 + n / 128) ∷ (n % 128) ∷ []) ((128 + n / 16384) ∷ (128 + n / 128 % 128) ∷ (n % 128) ∷ [])) in (0 < length t) × (length t ≤ 3)) [
      | true ↦ (lit< tt, lit≤ tt)
      | false ↦ elim (nat_lt n 16384) as (λ b. let t : List ℕ = cond b ((128 + n / 128) ∷ (n % 128) ∷ []) ((128 + n / 16384) ∷ (128 + n / 128 % 128) ∷ (n % 128) ∷ []) in (0 < length t) × (length t ≤ 3)) [
        | true ↦ (lit< tt, lit≤ tt)
        | false ↦ (lit< tt, lit≤ tt)
      ]
    ]

new_data_long : (n : ℕ) → (0 < length (new_data_of n)) × (length (new_data_of n) ≤ 4)
unfolding new_data_of
new_data_long n =
    elim (nat_lt n 64) as (λ b. let t : List ℕ = cond b ((128 + n) ∷ []) (128 ∷ integer_of n) in (0 < length t) × (length t ≤ 4)) [
      | true ↦ (lit< tt, lit≤ tt)
      | false ↦ let h = integer_long n in (omega arith, omega (arith, h.1))
    ]

section_again : (view n : ℕ) → 0 < n → instructions_of view (new_data_of n) ≡ Ok (NewData n ∷ [])
section_again view n h =
    section_step view (new_data_of n) (new_data_long n).0
    ∙ (ap (λ v. with_others v (λ r. instructions_of view r)) (ap (instruction_at view) (sym (append-nil (new_data_of n))) ∙ instruction_again view n [] h)
    ∙ ap (before (NewData n)) (section_none view))

-- the body of a full window gives its text
body_again : (base text more : List ℕ) → 0 < length text
    → body_at base (full_head (length text) (length (new_data_of (length text)))) (new_data_of (length text) ++ (text ++ more)) ≡ Ok (Some (text, more))
unfolding body_at full_head
body_again base text more h =
    let code = new_data_of (length text) in
    let beyond : nat_lt (length base) (0 + 0) ≡ false = grind (arith, nat_tests) in
    let there : nat_lt (length (code ++ (text ++ more))) (length code + length text) ≡ false =
    (let k : length code + length text ≤ length (code ++ (text ++ more)) = omega (arith, length-append code (text ++ more), length-append text more) in grind (arith, nat_tests)) in
    let section : take (length code) (code ++ (text ++ more)) ≡ code = take-append_seam code (text ++ more) in
    let bytes_behind : drop (length code) (code ++ (text ++ more)) ≡ text ++ more = drop-append_seam code (text ++ more) in
    let fresh : take (length text) (text ++ more) ≡ text = take-append_seam text more in
    let rest : drop (length code + length text) (code ++ (text ++ more)) ≡ more = drop-append-add code (text ++ more) (length text) ∙ drop-append_seam text more in
    let all : (length text + 0 == length text) ≡ true = grind (arith, nat_tests) in
    let whole : take (length text) text ++ [] ≡ text = append-nil (take (length text) text) ∙ take-length text in
    rw (beyond, there, section, bytes_behind, fresh, rest, section_again 0 (length text) h, all, whole) refl

pub window_again : (base : List ℕ) (before : ℕ) (text more : List ℕ) → 0 < length text → length text ≤ limit - before → window_at base before (full_window text ++ more) ≡ Ok (Some (text, more))
unfolding window_at full_window
window_again base before text more h k =
    let n = length text in
    let code = new_data_of n in
    let size = integer_of n in
    let count = integer_of (length code) in
    let short : length code ≤ limit = let l = new_data_long n in omega (arith, l.1) in
    let small : n ≤ limit = omega arith in
    let grouped : 0 ∷ 0 ∷ (size ++ (count ++ (size ++ (code ++ text)))) ++ more ≡ 0 ∷ 0 ∷ (size ++ (count ++ (size ++ (code ++ (text ++ more))))) =
    ap (λ t. 0 ∷ 0 ∷ t) (append_assoc size (count ++ (size ++ (code ++ text))) more ∙ ap (λ t. size ++ t) (append_assoc count (size ++ (code ++ text)) more
    ∙ ap (λ t. count ++ t) (append_assoc size (code ++ text) more ∙ ap (λ t. size ++ t) (append_assoc code text more)))) in
    ap (λ t. head_at before t >>= λ head. body_at base head.0 head.1) grouped
    ∙ (ap (λ v. v >>= λ head. body_at base head.0 head.1) (head_again before n (length code) (code ++ (text ++ more)) k short small) ∙ body_again base text more h)

-- full windows give their text
pub windows_again : (base : List ℕ) (n : ℕ) (done text : List ℕ) → length text ≤ n * 65536 → n * 65536 < length text + 65536 → length done + length text ≤ limit
    → windows_of base done (full_windows n text) ≡ going (done ++ text) []
windows_again base zero done [] h k l = windows_none base done ∙ ap (λ t. going t []) (sym (append-nil done))
windows_again base zero done (b ∷ bs) h k l = absurd (omega arith)
windows_again base (suc n) done text h k l =
    let m : suc n * 65536 ≡ n * 65536 + 65536 = omega arith in
    let piece = take 65536 text in
    let left = drop 65536 text in
    let split : piece ++ left ≡ text = take-append-drop 65536 text in
    let some : 0 < length piece = omega (arith, length-take 65536 text) in
    let both : length piece + length left ≡ length text = omega (arith, length-take 65536 text, length-drop 65536 text) in
    let fits : length piece ≤ limit - length done = omega arith in
    windows_step base done (full_window piece ++ full_windows n left)
    ∙ (ap (λ v. with_windows done (full_window piece ++ full_windows n left) v (λ t rest. windows_of base t rest)) (window_again base (length done) piece (full_windows n left) some fits)
    ∙ (windows_again base n (done ++ piece) left (omega (arith, length-drop 65536 text)) (omega (arith, length-drop 65536 text)) (omega (arith, length-append done piece))
    ∙ ap (λ t. going t []) (append_assoc done piece left ∙ ap (λ t. done ++ t) split)))

pub full_again : (base text : List ℕ) → length text ≤ limit → document_text base (full_document text) ≡ Ok text
unfolding header_at
full_again base text h =
    let b = div_ceil_times (length text) 65536 (lit< tt) in
    ap outcome (windows_again base (div_ceil (length text) 65536) [] text b.0 b.1 (omega arith))

cut_min : (n : ℕ) (xs : List ℕ) → (take (min (length xs) n) xs ≡ take n xs) × (drop (min (length xs) n) xs ≡ drop n xs)
cut_min n xs =
    elim (below n (length xs)) [
      | inl h ↦ let e : min (length xs) n ≡ n = omega arith in (ap (λ k. take k xs) e, ap (λ k. drop k xs) e)
      | inr h ↦
          let e : min (length xs) n ≡ length xs = omega arith in
          let f : min (length xs) n ≡ min n (length xs) = omega arith in
          (ap (λ k. take k xs) f ∙ take_min n xs, ap (λ k. drop k xs) e ∙ (drop-length xs ∙ sym (drop_of_length-le xs h)))
    ]

-- one window more is written
pub written_more : (document rest whole front bytes_behind next : List ℕ) (left count last n : ℕ) → left + count ≡ last → count < last → document ++ full_windows left rest ≡ whole
    → n ≡ min (length rest) 65536 → front ≡ take n rest → bytes_behind ≡ drop n rest → next ≡ document ++ full_window front
    → (x : ℕ) × (x + (count + 1) ≡ last) × (next ++ full_windows x bytes_behind ≡ whole)
written_more document rest whole front bytes_behind next zero count last n s l w m f b e = absurd (omega arith)
written_more document rest whole front bytes_behind next (suc left) count last n s l w m f b e =
    let cut = cut_min 65536 rest in
    let f' : front ≡ take 65536 rest = f ∙ (ap (λ k. take k rest) m ∙ cut.0) in
    let b' : bytes_behind ≡ drop 65536 rest = b ∙ (ap (λ k. drop k rest) m ∙ cut.1) in (
      left,
      omega arith,
      ap (λ t. t ++ full_windows left bytes_behind) e ∙ (append_assoc document (full_window front) (full_windows left bytes_behind)
          ∙ (ap (λ t. document ++ (full_window t ++ full_windows left bytes_behind)) f' ∙ (ap (λ t. document ++ (full_window (take 65536 rest) ++ full_windows left t)) b' ∙ w))),
    )

pub written_all : (document rest whole : List ℕ) (left count last : ℕ) → left + count ≡ last → last ≤ count → document ++ full_windows left rest ≡ whole → document ≡ whole
written_all document rest whole zero count last s l w = sym (append-nil document) ∙ w
written_all document rest whole (suc left) count last s l w = absurd (omega arith)
