-- Rows and locks one after another, as loops go over them.
use Rattle.std.proofs.Common.{◌≡◌, ℕ, zero, suc, ◌-◌, ◌<◌, ◌≤◌, List, [], ◌∷◌, ◌++◌, length, Result, Ok, Err, refl, sym, ap, ◌∙◌, append_assoc, append-nil}
use Rattle.std.proofs.{Common.arith, lemmas.List.length-append}
use Rattle.svnpath.specs.Paths.{PathValue}
use Rattle.repo_api.specs.{declared.lock.Lock.Lock, Properties.PropertyList}
use Rattle.fsfs_text.specs.{declared.fault.FileFault.FileFault, declared.fault.FileFault.TheVariants.BadLine, Reading.◌>>=◌}
use Rattle.fsfs_nodes.specs.Locks.{locked_of, before, locks_within}

abbrev Locked : Type 0
Locked = Result (List (PathValue × Lock)) FileFault

-- what was read before, and what is still read
abbrev pub locks_behind : List (PathValue × Lock) → Locked → Locked
locks_behind front (Ok others) = Ok (front ++ others)
locks_behind front (Err fault) = Err fault

behind-before : (front : List (PathValue × Lock)) (locked : PathValue × Lock) (read : Locked)
    → locks_behind front (before locked read) ≡ locks_behind (front ++ locked ∷ []) read
behind-before front locked (Ok others) = ap (λ (x : List (PathValue × Lock)). Ok x) (sym (append_assoc front (locked ∷ []) others))
behind-before front locked (Err fault) = refl

pub none_left : (n : ℕ) → locks_within n [] ≡ Ok []
none_left zero = refl
none_left (suc n) = refl

pub all_read : (front : List (PathValue × Lock)) (n : ℕ) (rows : PropertyList) (total : Locked) → rows ≡ []
    → locks_behind front (locks_within n rows) ≡ total → total ≡ Ok front
all_read front n rows total none so_far =
    sym so_far ∙ ap (λ (x : PropertyList). locks_behind front (locks_within n x)) none ∙ ap (locks_behind front) (none_left n)
    ∙ ap (λ (x : List (PathValue × Lock)). Ok x) (append-nil front)

module _ (front : List (PathValue × Lock)) (limit : ℕ) (row : List ℕ × List ℕ) (rows : PropertyList) (total : Locked)
    (so_far : locks_behind front (locks_within (limit - length front) (row ∷ rows)) ≡ total) where
  pub too_many : limit ≤ length front → total ≡ Err BadLine
  too_many full =
      let none : limit - length front ≡ 0 = omega (arith, full) in
      sym so_far ∙ ap (λ (n : ℕ). locks_behind front (locks_within n (row ∷ rows))) none

  step : length front < limit → total ≡ locks_behind front (locked_of row >>= λ locked. before locked (locks_within (limit - length front - 1) rows))
  step room =
      let one : limit - length front ≡ suc (limit - length front - 1) = omega (arith, room) in
      sym so_far ∙ ap (λ (n : ℕ). locks_behind front (locks_within n (row ∷ rows))) one

  pub no_lock : (fault : FileFault) → length front < limit → locked_of row ≡ Err fault → total ≡ Err fault
  no_lock fault room wrong =
      step room ∙ ap (λ (r : Result (PathValue × Lock) FileFault). locks_behind front (r >>= λ locked. before locked (locks_within (limit - length front - 1) rows))) wrong

  pub next_lock : (locked : PathValue × Lock) → length front < limit → locked_of row ≡ Ok locked
      → locks_behind (front ++ locked ∷ []) (locks_within (limit - length (front ++ locked ∷ [])) rows) ≡ total
  next_lock locked room right =
      let one : limit - length (front ++ locked ∷ []) ≡ limit - length front - 1 = omega (arith, length-append front (locked ∷ [])) in
      sym (step room ∙ ap (λ (r : Result (PathValue × Lock) FileFault). locks_behind front (r >>= λ locked. before locked (locks_within (limit - length front - 1) rows))) right
      ∙ behind-before front locked (locks_within (limit - length front - 1) rows)
      ∙ ap (λ (n : ℕ). locks_behind (front ++ locked ∷ []) (locks_within n rows)) (sym one))
