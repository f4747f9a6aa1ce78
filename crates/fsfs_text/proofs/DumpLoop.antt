-- Reading pairs one after the other, as a loop does.
use Rattle.std.proofs.Common.{◌≡◌, ℕ, suc, ◌-◌, ◌+◌, ◌≤◌, ◌<◌, true, false, cond, eqb, List, [], ◌∷◌, ◌++◌, Result, Ok, Err, refl, sym, ap, ◌∙◌, append_assoc}
use Rattle.std.proofs.{Common.arith, lemmas.List.append-nil}
use Rattle.std.specs.{Prelude.codes, Cmp.Lexicographic.pointwise}
use Rattle.fsfs_text.specs.{declared.fault.FileFault.FileFault, declared.fault.FileFault.TheVariants.{Truncated, BadLine}, Reading.◌>>=◌, Splits.line_at}
use Rattle.fsfs_text.specs.{declared.pair.DumpPair.DumpPair, DumpReading.{before, ended, pair_behind, pairs_within}}

abbrev Pairs : Type 0
Pairs = Result (List DumpPair) FileFault

-- what was read before, and what is still read
abbrev pub behind : List DumpPair → Pairs → Pairs
behind front (Ok pairs) = Ok (front ++ pairs)
behind front (Err f) = Err f

behind-before : (front : List DumpPair) (pair : DumpPair) (read : Pairs) → behind front (before pair read) ≡ behind (front ++ pair ∷ []) read
behind-before front pair (Ok pairs) = ap (λ (x : List DumpPair). Ok x) (sym (append_assoc front (pair ∷ []) pairs))
behind-before front pair (Err f) = refl

-- what is read behind a line
abbrev from_line : ℕ → List ℕ × List ℕ → Pairs
from_line n line = cond (pointwise eqb line.0 (codes "END")) (ended line.1)
    (pair_behind line.0 line.1 >>= λ p. before (record { key = p.0; value = p.1 }) (pairs_within n p.2))

pairs_within-step : (n count i : ℕ) (bytes : List ℕ) → count - i ≡ suc n → pairs_within (count - i) bytes ≡ (line_at bytes >>= from_line n)
unfolding pairs_within
pairs_within-step n count i bytes e = rw e refl

module _ (front : List DumpPair) (count i : ℕ) (rest : List ℕ) (total : Pairs) (lt : i < count)
    (so_far : behind front (pairs_within (count - i) rest) ≡ total) where
  step : behind front (line_at rest >>= from_line (count - (i + 1))) ≡ total
  step = ap (behind front) (sym (pairs_within-step (count - (i + 1)) count i rest (omega arith))) ∙ so_far

  pub no_line : (f : FileFault) → line_at rest ≡ Err f → total ≡ Err f
  no_line f e = sym step ∙ ap (λ (r : Result (List ℕ × List ℕ) FileFault). behind front (r >>= from_line (count - (i + 1)))) e

  at_line : (line after : List ℕ) → line_at rest ≡ Ok (line, after) → behind front (from_line (count - (i + 1)) (line, after)) ≡ total
  at_line line after e = ap (λ (r : Result (List ℕ × List ℕ) FileFault). behind front (r >>= from_line (count - (i + 1)))) (sym e) ∙ step

  pub at_end : (line after : List ℕ) → line_at rest ≡ Ok (line, after) → pointwise eqb line (codes "END") ≡ true → total ≡ behind front (ended after)
  at_end line after e is_end = sym (at_line line after e) ∙ ap (λ t. behind front (cond t (ended after) (pair_behind line after >>= λ p. before (record { key = p.0; value = p.1 }) (pairs_within (count - (i + 1)) p.2)))) is_end

  at_pair : (line after : List ℕ) → line_at rest ≡ Ok (line, after) → pointwise eqb line (codes "END") ≡ false
      → total ≡ behind front (pair_behind line after >>= λ p. before (record { key = p.0; value = p.1 }) (pairs_within (count - (i + 1)) p.2))
  at_pair line after e other = sym (at_line line after e) ∙ ap (λ t. behind front (cond t (ended after) (pair_behind line after >>= λ p. before (record { key = p.0; value = p.1 }) (pairs_within (count - (i + 1)) p.2)))) other

  pub no_pair : (line after : List ℕ) (f : FileFault) → line_at rest ≡ Ok (line, after) → pointwise eqb line (codes "END") ≡ false → pair_behind line after ≡ Err f → total ≡ Err f
  no_pair line after f e other wrong = at_pair line after e other
      ∙ ap (λ (r : Result (List ℕ × List ℕ × List ℕ) FileFault). behind front (r >>= λ p. before (record { key = p.0; value = p.1 }) (pairs_within (count - (i + 1)) p.2))) wrong

  pub goes_on : (line after key value last : List ℕ) → line_at rest ≡ Ok (line, after) → pointwise eqb line (codes "END") ≡ false → pair_behind line after ≡ Ok (key, value, last)
      → behind (front ++ (record { key = key; value = value }) ∷ []) (pairs_within (count - (i + 1)) last) ≡ total
  goes_on line after key value last e other right =
      sym (at_pair line after e other
      ∙ ap (λ (r : Result (List ℕ × List ℕ × List ℕ) FileFault). behind front (r >>= λ p. before (record { key = p.0; value = p.1 }) (pairs_within (count - (i + 1)) p.2))) right
      ∙ behind-before front (record { key = key; value = value }) (pairs_within (count - (i + 1)) last))

pub runs_out : (front : List DumpPair) (count i : ℕ) (rest : List ℕ) (total : Pairs) → count ≤ i → behind front (pairs_within (count - i) rest) ≡ total → total ≡ Err Truncated
unfolding pairs_within
runs_out front count i rest total le so_far =
    let none : count - i ≡ 0 = omega arith in
    sym so_far ∙ rw none refl

-- nothing stands behind the end
pub nothing_left : (front : List DumpPair) (after : List ℕ) → after ≡ [] → behind front (ended after) ≡ Ok front
nothing_left front after e = ap (λ (x : List ℕ). behind front (ended x)) e ∙ ap (λ (x : List DumpPair). Ok x) (append-nil front)

pub something_left : (front : List DumpPair) (after : List ℕ) → (after ≡ [] → ⊥) → behind front (ended after) ≡ Err BadLine
something_left front [] ne = absurd (ne refl)
something_left front (b ∷ after) ne = refl
