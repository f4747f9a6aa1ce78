-- Reading changes one after the other, as a loop does.
use Rattle.std.proofs.Common.{◌≡◌, ℕ, zero, suc, ◌-◌, ◌+◌, ◌≤◌, ◌<◌, List, [], ◌∷◌, ◌++◌, Result, Ok, Err, refl, sym, ap, ◌∙◌, append_assoc, arith}
use Rattle.std.proofs.lemmas.List.{append-nil}
use Rattle.fsfs_text.specs.{declared.fault.FileFault.FileFault, declared.fault.FileFault.TheVariants.BadLine, Reading.◌>>=◌}
use Rattle.fsfs_nodes.specs.{declared.change.FileChange.FileChange, Changes.{change_of, before, changes_within}}

abbrev Found : Type 0
Found = Result (List FileChange) FileFault

-- what was read before, and what is still read
abbrev pub changes_behind : List FileChange → Found → Found
changes_behind front (Ok changes) = Ok (front ++ changes)
changes_behind front (Err f) = Err f

behind-before : (front : List FileChange) (change : FileChange) (read : Found) → changes_behind front (before change read) ≡ changes_behind (front ++ change ∷ []) read
behind-before front change (Ok changes) = ap (λ (x : List FileChange). Ok x) (sym (append_assoc front (change ∷ []) changes))
behind-before front change (Err f) = refl

within-none : (n : ℕ) → changes_within n [] ≡ Ok []
unfolding changes_within
within-none zero = refl
within-none (suc n) = refl

within-some : (n count i : ℕ) (bytes : List ℕ) → count - i ≡ suc n → (bytes ≡ [] → ⊥) → changes_within (count - i) bytes ≡ (change_of bytes >>= λ p. before p.0 (changes_within n p.1))
unfolding changes_within
within-some n count i [] e ne = absurd (ne refl)
within-some n count i (b ∷ bytes) e ne = rw e refl

-- nothing is left
pub none_left : (front : List FileChange) (count i : ℕ) (rest : List ℕ) (total : Found) → rest ≡ [] → changes_behind front (changes_within (count - i) rest) ≡ total → total ≡ Ok front
none_left front count i rest total none so_far =
    sym so_far ∙ ap (λ (x : List ℕ). changes_behind front (changes_within (count - i) x)) none ∙ ap (changes_behind front) (within-none (count - i)) ∙ ap (λ (x : List FileChange). Ok x) (append-nil front)

module _ (front : List FileChange) (count i : ℕ) (rest : List ℕ) (total : Found) (lt : i < count) (some : rest ≡ [] → ⊥)
    (so_far : changes_behind front (changes_within (count - i) rest) ≡ total) where
  step : total ≡ changes_behind front (change_of rest >>= λ p. before p.0 (changes_within (count - (i + 1)) p.1))
  step = sym so_far ∙ ap (changes_behind front) (within-some (count - (i + 1)) count i rest (omega arith) some)

  pub no_change : (f : FileFault) → change_of rest ≡ Err f → total ≡ Err f
  no_change f e = step ∙ ap (λ (r : Result (FileChange × List ℕ) FileFault). changes_behind front (r >>= λ p. before p.0 (changes_within (count - (i + 1)) p.1))) e

  pub goes_on : (change : FileChange) (after : List ℕ) → change_of rest ≡ Ok (change, after) → changes_behind (front ++ change ∷ []) (changes_within (count - (i + 1)) after) ≡ total
  goes_on change after e =
      sym (step ∙ ap (λ (r : Result (FileChange × List ℕ) FileFault). changes_behind front (r >>= λ p. before p.0 (changes_within (count - (i + 1)) p.1))) e
      ∙ behind-before front change (changes_within (count - (i + 1)) after))

-- the bytes run out of room
pub some_left : (front : List FileChange) (count i : ℕ) (rest : List ℕ) (total : Found) → count ≤ i → (rest ≡ [] → ⊥) → changes_behind front (changes_within (count - i) rest) ≡ total → total ≡ Err BadLine
unfolding changes_within
some_left front count i [] total le some so_far = absurd (some refl)
some_left front count i (b ∷ rest) total le some so_far =
    let none : count - i ≡ 0 = omega arith in
    sym so_far ∙ rw none refl
