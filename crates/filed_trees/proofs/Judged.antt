-- Where a fault of a file is answered.
use Rattle.std.proofs.{Common.{◌≡◌, sym, ap, subst, ◌∙◌, ⊎_elim}, lemmas.Bool.false≢true}
use Rattle.std.specs.{Prelude.{◌⊎◌, Result, Ok, Err, IfOk, IsSome, is_some}, Result.result_ok}
use Rattle.fsfs_text.specs.declared.fault.FileFault.{FileFault}
use Rattle.fsfs_text.specs.declared.fault.FileFault.TheVariants.{Truncated, BadLine, Delta, Digest, Dangling, NoMemory, WrongFormat}
use Rattle.repostore.specs.Reading.{IfFileFaulty}
use Rattle.filed_trees.specs.Readable.{Judges, ReadsWhere}

pub faulty : (fault : FileFault) (P : Type 0) → P → IfFileFaulty fault P
faulty NoMemory P p = tt
faulty Truncated P p = p
faulty BadLine P p = p
faulty Delta P p = p
faulty Digest P p = p
faulty Dangling P p = p
faulty WrongFormat P p = p

pub still_faulty : (fault : FileFault) {P Q : Type 0} → (P → Q) → IfFileFaulty fault P → IfFileFaulty fault Q
still_faulty NoMemory f p = tt
still_faulty Truncated f p = f p
still_faulty BadLine f p = f p
still_faulty Delta f p = f p
still_faulty Digest f p = f p
still_faulty Dangling f p = f p
still_faulty WrongFormat f p = f p

-- a fault of a part is one of the whole
pub no_part : (fault : FileFault) {P Q : Type 0} → (Q → P) → IfFileFaulty fault (P → ⊥) → IfFileFaulty fault (Q → ⊥)
no_part fault f is = still_faulty fault (λ n q. n (f q)) is

-- what is answered exactly
pub exact_fault : {X : Type 0} (fault : FileFault) (read : Result X FileFault) → (read ≡ Err fault) ⊎ (fault ≡ NoMemory)
    → IfFileFaulty fault (IsSome (result_ok read) → ⊥)
exact_fault fault read said = ⊎_elim
    (λ e. faulty fault (IsSome (result_ok read) → ⊥) (λ is. false≢true (sym (ap (λ r. is_some (result_ok r)) e) ∙ is)))
    (λ e. subst (λ f. IfFileFaulty f (IsSome (result_ok read) → ⊥)) (sym e) tt)
    said

-- what is judged, and what fits where it is answered
pub read_where : {T : Type 0} (P : Type 0) (Fits : T → Type 0) (r : Result T FileFault) → Judges r P → IfOk r Fits → ReadsWhere r P Fits
read_where P Fits (Ok x) is fits = (is, fits)
read_where P Fits (Err fault) is fits = is

-- what is judged in other words
pub still_judged : {T P Q : Type 0} (r : Result T FileFault) → Judges r P → (P → Q) → (Q → P) → Judges r Q
still_judged (Ok x) is into from = into is
still_judged (Err fault) is into from = no_part fault from is
