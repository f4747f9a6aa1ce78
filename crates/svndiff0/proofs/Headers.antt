-- The header, byte by byte.
use Rattle.std.proofs.Common.{◌≡◌, ◌≢◌, ℕ, suc, ◌+◌, ◌<◌, true, false, cond, List, [], ◌∷◌, length, drop, get_or, None, Ok, Err, sym, ◌∙◌, ap, add-one, eq-eqb}
use Rattle.std.proofs.{Common.{arith, ◌==◌}, Math.Seq.drop-cons, lemmas.Bool.Decides.nat_tests}
use Rattle.svndiff0.specs.{declared.fault.DiffFault.TheVariants.BadHeader, Document.{header, bytes_behind}}

-- the header's bytes behind the first ones, as far as they are the document's
abbrev pub Matched : List ℕ → ℕ → List ℕ → Type 0
Matched bytes k rest = bytes_behind header bytes ≡ bytes_behind (drop k header) rest

pub header_none : (bytes : List ℕ) (k : ℕ) (rest : List ℕ) → k < 4 → length rest ≡ 0 → Matched bytes k rest → bytes_behind header bytes ≡ Ok None
header_none bytes k [] h z m = m ∙ ap (λ ws. bytes_behind ws []) (drop-cons header k 0 h)
header_none bytes k (b ∷ bs) h z m = absurd (omega arith)

pub header_wrong : (bytes : List ℕ) (k b : ℕ) (bs rest : List ℕ) → k < 4 → b ≢ get_or header k 0 → rest ≡ b ∷ bs → Matched bytes k rest → bytes_behind header bytes ≡ Err BadHeader
header_wrong bytes k b bs rest h ne is m =
    let e : (b == get_or header k 0) ≡ false = grind (arith, nat_tests) in
    m ∙ (ap (bytes_behind (drop k header)) is
    ∙ (ap (λ ws. bytes_behind ws (b ∷ bs)) (drop-cons header k 0 h) ∙ ap (λ v. cond v (bytes_behind (drop (suc k) header) bs) (Err BadHeader)) e))

pub header_right : (bytes : List ℕ) (k b : ℕ) (bs rest : List ℕ) → k < 4 → b ≡ get_or header k 0 → rest ≡ b ∷ bs → Matched bytes k rest → Matched bytes (k + 1) bs
header_right bytes k b bs rest h same is m =
    let e : (b == get_or header k 0) ≡ true = eq-eqb b (get_or header k 0) same in
    m ∙ (ap (bytes_behind (drop k header)) is
    ∙ (ap (λ ws. bytes_behind ws (b ∷ bs)) (drop-cons header k 0 h)
    ∙ (ap (λ v. cond v (bytes_behind (drop (suc k) header) bs) (Err BadHeader)) e ∙ ap (λ j. bytes_behind (drop j header) bs) (sym (add-one k)))))
