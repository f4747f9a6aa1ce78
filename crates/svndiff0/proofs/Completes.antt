-- What is spelled so is read.
use Rattle.std.proofs.Common.{◌≡◌, inl, inr, ℕ, zero, suc, ◌+◌, ◌-◌, ◌*◌, ◌≤◌, ◌<◌, true, false, cond, nat_lt, ◌==◌, List, [], ◌∷◌, ◌++◌, length, take, drop}
use Rattle.std.proofs.{Common.{Some, Ok, Err, refl, sym, ◌∙◌, ap, subst, append_assoc, append-nil, length-append, eq-eqb, arith}, lemmas.Bool.Decides.nat_tests}
use Rattle.std.proofs.Math.Seq.{take-append_seam, drop-append_seam, drop-append-add}
use Rattle.std.specs.List.{flat_map}
use Rattle.svndiff0.specs.{declared.fault.DiffFault.TheVariants.{TooLarge, BadInstruction, BadHeader}, declared.instruction.Instruction.Instruction}
use Rattle.svndiff0.specs.{declared.instruction.Instruction.TheVariants.{SourceCopy, NewData}, declared.window.Head.Head, Read.◌>>=◌}
use Rattle.svndiff0.specs.Integer.{integer_behind, integer_at, bounded_at}
use Rattle.svndiff0.specs.Instruction.{length_at, copy_at, new_data_at, instruction_at, before, with_others, instructions_of, total, new_total}
use Rattle.svndiff0.specs.Window.{limit, head_at, body_at, window_at}
use Rattle.svndiff0.specs.{Document.{header, bytes_behind, header_at, going, with_windows, windows_of, after_header, outcome, document_text}, Format.AreGroups}
use Rattle.svndiff0.specs.Format.{IsInteger, IsLength, IsCopy, IsNewData, IsInstruction, AreInstructions, AreIntegers, IsWindow, AreWindows, IsDocument}
use Rattle.svndiff0.proofs.{Sections.{section_step, section_none}, Documents.{judged_at, body_is, windows_step, windows_none}}

groups_again : (room m : ℕ) (front rest : List ℕ) (n : ℕ) → AreGroups m front n → length front ≤ room → integer_behind room m (front ++ rest) ≡ Ok (Some (n, rest))
groups_again room m [] rest n a h = absurd a
groups_again zero m (b ∷ bs) rest n a h = absurd (omega arith)
groups_again (suc room) m (b ∷ []) rest n a h =
    let low : b < 128 = a.0 in
    let t : nat_lt b 128 ≡ true = grind (arith, nat_tests) in
    rw t (ap (λ k. Ok (Some (k, rest))) (sym a.1))
groups_again (suc room) m (b ∷ c ∷ bs) rest n a h =
    let high : 128 ≤ b = a.0 in
    let t : nat_lt b 128 ≡ false = grind (arith, nat_tests) in
    ap (λ v. cond v (Ok (Some (128 * m + b, c ∷ (bs ++ rest)))) (integer_behind room (128 * m + (b - 128)) (c ∷ (bs ++ rest)))) t
    ∙ groups_again room (128 * m + (b - 128)) (c ∷ bs) rest n a.1 (omega arith)

pub integer_is : (front rest : List ℕ) (n : ℕ) → IsInteger front n → integer_at (front ++ rest) ≡ Ok (Some (n, rest))
unfolding integer_at
integer_is front rest n i = groups_again 9 0 front rest n i.0 i.1

pub bounded_is : (most : ℕ) (front rest : List ℕ) (n : ℕ) → IsInteger front n → n ≤ most → bounded_at most (front ++ rest) ≡ Ok (Some (n, rest))
unfolding bounded_at
bounded_is most front rest n i h =
    let t : nat_lt most n ≡ false = grind (arith, nat_tests) in
    ap (λ v. v >>= λ x. cond (nat_lt most x.0) (Err TooLarge) (Ok (Some x))) (integer_is front rest n i)
    ∙ ap (λ b. cond b (Err TooLarge) (Ok (Some (n, rest)))) t

pub length_is : (low : ℕ) (front rest : List ℕ) (n : ℕ) → IsLength low front n → length_at low (front ++ rest) ≡ Ok (Some (n, rest))
unfolding length_at
length_is low front rest n (p, inl (same, none)) =
    let t : (low == 0) ≡ false = (let q : 0 < low = omega arith in grind (arith, nat_tests)) in
    rw (t, none) (ap (λ k. Ok (Some (k, rest))) (sym same))
length_is low front rest n (p, inr (z, i)) =
    let t : (low == 0) ≡ true = grind (arith, nat_tests) in
    let u : (n == 0) ≡ false = grind (arith, nat_tests) in
    ap (λ v. cond v (integer_at (front ++ rest) >>= λ x. cond (x.0 == 0) (Err BadInstruction) (Ok (Some x))) (Ok (Some (low, front ++ rest)))) t
    ∙ (ap (λ v. v >>= λ x. cond (x.0 == 0) (Err BadInstruction) (Ok (Some x))) (integer_is front rest n i)
    ∙ ap (λ b. cond b (Err BadInstruction) (Ok (Some (n, rest)))) u)

copy_is : (view offset n : ℕ) (front rest : List ℕ) → IsCopy view offset n front → instruction_at view (front ++ rest) ≡ Ok (Some (SourceCopy offset n, rest))
unfolding instruction_at copy_at
copy_is view offset n front rest c =
    let kind : c.low < 64 = c.kind in
    let within : offset + n ≤ view = c.within in
    let t : nat_lt c.low 64 ≡ true = grind (arith, nat_tests) in
    let u : nat_lt view (offset + n) ≡ false = grind (arith, nat_tests) in
    let w : front ++ rest ≡ c.low ∷ (c.size ++ (c.place ++ rest)) = ap (λ x. x ++ rest) c.whole ∙ ap (λ x. c.low ∷ x) (append_assoc c.size c.place rest) in
    ap (instruction_at view) w ∙ rw (t, length_is c.low c.size (c.place ++ rest) n c.is_size, integer_is c.place rest offset c.is_place, u) refl

new_data_is : (view n : ℕ) (front rest : List ℕ) → IsNewData n front → instruction_at view (front ++ rest) ≡ Ok (Some (NewData n, rest))
unfolding instruction_at new_data_at
new_data_is view n front rest c =
    let kind : c.low < 64 = c.kind in
    let a : nat_lt (128 + c.low) 64 ≡ false = grind (arith, nat_tests) in
    let b : nat_lt (128 + c.low) 128 ≡ false = grind (arith, nat_tests) in
    let d : nat_lt (128 + c.low) 192 ≡ true = grind (arith, nat_tests) in
    let f : 128 + c.low - 128 ≡ c.low = omega arith in
    ap (λ x. instruction_at view (x ++ rest)) c.whole ∙ rw (a, b, d, f, length_is c.low c.size rest n c.is_size) refl

pub instruction_is : (view : ℕ) (i : Instruction) (front rest : List ℕ) → IsInstruction view i front → instruction_at view (front ++ rest) ≡ Ok (Some (i, rest))
instruction_is view (SourceCopy offset n) front rest c = copy_is view offset n front rest c
instruction_is view (NewData n) front rest c = new_data_is view n front rest c

has_byte : (view : ℕ) (i : Instruction) (front : List ℕ) → IsInstruction view i front → 0 < length front
has_byte view (SourceCopy offset n) front c = let h = ap length c.whole in omega arith
has_byte view (NewData n) front c = let h = ap length c.whole in omega arith

pub sections_are : (view : ℕ) (is : List Instruction) (section : List ℕ) → AreInstructions view is section → instructions_of view section ≡ Ok is
sections_are view [] section a = ap (instructions_of view) a ∙ section_none view
sections_are view (i ∷ is) section a =
    let some : 0 < length section = let h = has_byte view i a.front a.first in omega (arith, length-append a.front a.rest, ap length a.whole) in
    section_step view section some
    ∙ (ap (λ v. with_others v (λ r. instructions_of view r)) (ap (instruction_at view) a.whole ∙ instruction_is view i a.front a.rest a.first)
    ∙ ap (before i) (sections_are view is a.rest a.others))

head_of : ℕ → ℕ → ℕ → ℕ → ℕ → Head
head_of offset view target section fresh = record { offset = offset; view = view; target = target; section = section; new_data = fresh }

integers_are : (before offset view target section fresh : ℕ) (front rest : List ℕ) → AreIntegers offset view target section fresh front → target ≤ limit - before → section ≤ limit → fresh ≤ limit
    → head_at before (front ++ rest) ≡ Ok (Some (head_of offset view target section fresh, rest))
unfolding head_at head_of
integers_are before offset view target section fresh front rest a h j k =
    let w : front ++ rest ≡ a.first ++ (a.second ++ (a.third ++ (a.fourth ++ (a.fifth ++ rest)))) =
    ap (λ x. x ++ rest) a.whole ∙ (append_assoc a.first (a.second ++ (a.third ++ (a.fourth ++ a.fifth))) rest
    ∙ ap (λ x. a.first ++ x) (append_assoc a.second (a.third ++ (a.fourth ++ a.fifth)) rest
    ∙ ap (λ x. a.second ++ x) (append_assoc a.third (a.fourth ++ a.fifth) rest
    ∙ ap (λ x. a.third ++ x) (append_assoc a.fourth a.fifth rest)))) in
    ap (head_at before) w
    ∙ rw (
      integer_is a.first (a.second ++ (a.third ++ (a.fourth ++ (a.fifth ++ rest)))) offset a.is_offset,
      integer_is a.second (a.third ++ (a.fourth ++ (a.fifth ++ rest))) view a.is_view,
      bounded_is (limit - before) a.third (a.fourth ++ (a.fifth ++ rest)) target a.is_target h,
      bounded_is limit a.fourth (a.fifth ++ rest) section a.is_section j,
      bounded_is limit a.fifth rest fresh a.is_fresh k,
    ) refl

pub window_is : (base : List ℕ) (before : ℕ) (t front rest : List ℕ) → IsWindow base before t front → window_at base before (front ++ rest) ≡ Ok (Some (t, rest))
unfolding window_at judged_at head_of
window_is base before t front rest w =
    let head = head_of w.offset w.view w.size (length w.section) (length w.fresh) in
    let bytes = w.section ++ (w.fresh ++ rest) in
    let g : front ++ rest ≡ w.head ++ bytes =
    ap (λ x. x ++ rest) w.whole ∙ (append_assoc w.head (w.section ++ w.fresh) rest ∙ ap (λ x. w.head ++ x) (append_assoc w.section w.fresh rest)) in
    let there : length w.section + length w.fresh ≤ length bytes = omega (arith, length-append w.section (w.fresh ++ rest), length-append w.fresh rest) in
    let section : take (length w.section) bytes ≡ w.section = take-append_seam w.section (w.fresh ++ rest) in
    let bytes_behind : drop (length w.section) bytes ≡ w.fresh ++ rest = drop-append_seam w.section (w.fresh ++ rest) in
    let fresh : take (length w.fresh) (w.fresh ++ rest) ≡ w.fresh = take-append_seam w.fresh rest in
    let left : drop (length w.section + length w.fresh) bytes ≡ rest = drop-append-add w.section (w.fresh ++ rest) (length w.fresh) ∙ drop-append_seam w.fresh rest in
    let given : total w.is ≡ w.size = w.all_given in
    let taken : new_total w.is ≡ length w.fresh = w.all_taken in
    let a : (total w.is == w.size) ≡ true = grind (arith, nat_tests) in
    let b : (new_total w.is == length w.fresh) ≡ true = grind (arith, nat_tests) in
    ap (λ x. head_at before x >>= λ h. body_at base h.0 h.1) g
    ∙ (ap (λ v. v >>= λ h. body_at base h.0 h.1) (integers_are before w.offset w.view w.size (length w.section) (length w.fresh) w.head bytes w.integers w.text_fits w.section_fits w.fresh_fits)
    ∙ (body_is base head bytes w.in_base there
    ∙ rw (section, bytes_behind, fresh, left, sections_are w.view w.is w.section w.instructions, a, b) (ap (λ x. Ok (Some (x, rest))) (sym w.gives))))

pub windows_are : (base text : List ℕ) (ts : List (List ℕ)) (bytes : List ℕ) → AreWindows base (length text) ts bytes → windows_of base text bytes ≡ going (text ++ flat_map (λ t. t) ts) []
windows_are base text [] bytes a = ap (windows_of base text) a ∙ (windows_none base text ∙ ap (λ t. going t []) (sym (append-nil text)))
windows_are base text (t ∷ ts) bytes a =
    let P : ℕ → Type 0 = λ n. AreWindows base n ts a.rest in
    windows_step base text bytes
    ∙ (ap (λ v. with_windows text bytes v (λ u r. windows_of base u r)) (ap (window_at base (length text)) a.whole ∙ window_is base (length text) t a.front a.rest a.first)
    ∙ (windows_are base (text ++ t) ts a.rest (subst P (sym (length-append text t)) a.others)
    ∙ ap (λ u. going u []) (append_assoc text t (flat_map (λ t. t) ts))))

behind_is : (ws rest : List ℕ) → bytes_behind ws (ws ++ rest) ≡ Ok (Some rest)
behind_is [] rest = refl
behind_is (w ∷ ws) rest = let t : (w == w) ≡ true = eq-eqb w w refl in ap (λ v. cond v (bytes_behind ws (ws ++ rest)) (Err BadHeader)) t ∙ behind_is ws rest

pub document_is : (base document text : List ℕ) → IsDocument base document text → document_text base document ≡ Ok text
unfolding header_at
document_is base document text d =
    ap (document_text base) d.whole
    ∙ (ap (λ v. outcome (after_header base (header ++ d.windows) v)) (behind_is header d.windows)
    ∙ (ap outcome (windows_are base [] d.targets d.windows d.are_windows) ∙ ap Ok (sym d.gives)))
