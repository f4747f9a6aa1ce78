-- A text keeps the limit.
use Rattle.std.proofs.Common.{◌≡◌, ℕ, ◌+◌, ◌-◌, ◌≤◌, List, [], ◌∷◌, length, take, drop, Ok, ap, length-append, length-take, arith}
use Rattle.std.specs.List.{flat_map}
use Rattle.svndiff0.specs.{declared.instruction.Instruction.Instruction, declared.instruction.Instruction.TheVariants.{SourceCopy, NewData}}
use Rattle.svndiff0.specs.{Instruction.{size, new_size, given, total, target_of}, Window.limit, Document.document_text}
use Rattle.svndiff0.specs.Format.{IsWindow, AreWindows, IsDocument}
use Rattle.svndiff0.proofs.Sounds.{document_found}

given_short : (view fresh : List ℕ) (i : Instruction) → length (given view fresh i) ≤ size i
given_short view fresh (SourceCopy offset n) = omega (arith, length-take n (drop offset view))
given_short view fresh (NewData n) = omega (arith, length-take n fresh)

target_short : (view fresh : List ℕ) (is : List Instruction) → length (target_of view fresh is) ≤ total is
target_short view fresh [] = omega arith
target_short view fresh (i ∷ is) =
    let here : length (given view fresh i) ≤ size i = given_short view fresh i in
    let others : length (target_of view (drop (new_size i) fresh) is) ≤ total is = target_short view (drop (new_size i) fresh) is in
    omega (arith, length-append (given view fresh i) (target_of view (drop (new_size i) fresh) is))

window_short : (base : List ℕ) (before : ℕ) (target bytes : List ℕ) → IsWindow base before target bytes → length target ≤ limit - before
window_short base before target bytes w =
    let all : length (target_of (take w.view (drop w.offset base)) w.fresh w.is) ≤ total w.is = target_short (take w.view (drop w.offset base)) w.fresh w.is in
    let long : length target ≡ length (target_of (take w.view (drop w.offset base)) w.fresh w.is) = ap length w.gives in
    let given_all : total w.is ≡ w.size = w.all_given in
    let fits : w.size ≤ limit - before = w.text_fits in
    omega arith

windows_short : (targets : List (List ℕ)) (base bytes : List ℕ) (before : ℕ) → before ≤ limit → AreWindows base before targets bytes → before + length (flat_map (λ t. t) targets) ≤ limit
windows_short [] base bytes before h w = omega arith
windows_short (t ∷ targets) base bytes before h w =
    let here : length t ≤ limit - before = window_short base before t w.front w.first in
    let others : (before + length t) + length (flat_map (λ x. x) targets) ≤ limit = windows_short targets base w.rest (before + length t) (omega arith) w.others in
    omega (arith, length-append t (flat_map (λ x. x) targets))

-- the text of a document keeps the limit
pub text_short : (base document text : List ℕ) → document_text base document ≡ Ok text → length text ≤ limit
text_short base document text is =
    let d : IsDocument base document text = document_found base document text is in
    let all : 0 + length (flat_map (λ t. t) d.targets) ≤ limit = windows_short d.targets base d.windows 0 (omega arith) d.are_windows in
    let long : length text ≡ length (flat_map (λ t. t) d.targets) = ap length d.gives in
    omega arith
