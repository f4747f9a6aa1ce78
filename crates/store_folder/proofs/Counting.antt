-- Answers are counted where the device failed.
use Rattle.std.proofs.{Common.{◌≡◌, inl, inr, ℕ, List, ◌∷◌, Result, Ok, Err, refl, sym, subst, arith, le_refl}, lemmas.Bool.cases_lt}
use Rattle.std.specs.Prelude.{◌+◌, ◌≤◌, min}
use Rattle.store_files.specs.{Moments.{HasCause, HasRisen, last_count}, declared.fault.StoreFault.StoreFault, Faults.as_told}
use Rattle.store_files.specs.{declared.fault.ReplaceFault.ReplaceFault, Names.Numbers, Note.Event, Replay.{failed_in, count_after, failed_is}}
use Rattle.store_files.specs.declared.fault.StoreFault.TheVariants as faults
use Rattle.store_files.specs.declared.fault.ReplaceFault.TheVariants as replace
use Rattle.store_folder.specs.{Answers.{fault_of, trouble_number, done_number, done_result, replaced_number}, declared.fault.Trouble.Trouble}
use Rattle.store_folder.specs.declared.fault.Trouble.TheVariants.{Device, NoMemory}

rises : (x : ℕ) → x ≤ last_count → HasRisen x (min (x + 1) last_count)
rises x few = elim (cases_lt x last_count) [
  | inl lt ↦ inl (omega arith)
  | inr ge ↦ inr (omega arith)
]

abbrev told : {T : Type 0} → StoreFault → Result T StoreFault
told fault = Err fault

other : (T : Type 0) → told {T = T} faults.NoMemory ≡ told faults.Device → ⊥
other T e = cc

failed : (T : Type 0) (x : ℕ) (a : Trouble) → x ≤ last_count → HasCause {T = T} x (count_after (trouble_number a) x) (Err (fault_of a))
failed T x Device few = record {
  later = omega arith;
  device = λ _. rises x few;
  steady = λ no_device. absurd (no_device refl);
  only = λ _. inl refl;
}
failed T x NoMemory few = record {
  later = le_refl x;
  device = λ e. absurd (other T e);
  steady = λ _. refl;
  only = λ _. inr refl;
}

done : (x : ℕ) (answer : Result (Unit {0}) Trouble) → x ≤ last_count → HasCause x (count_after (done_number answer) x) (done_result answer)
done x (Ok u) few = record {
  later = le_refl x;
  device = λ e. absurd (cc);
  steady = λ _. refl;
  only = λ e. absurd (cc);
}
done x (Err a) few = failed (Unit {0}) x a few

by_device : (x : ℕ) → x ≤ last_count → HasCause {T = Unit {0}} x (min (x + 1) last_count) (Err faults.Device)
by_device x few = failed (Unit {0}) x Device few

replaced : (x : ℕ) (answer : Result (Unit {0}) ReplaceFault) → x ≤ last_count
    → HasCause x (count_after (replaced_number answer) x) (as_told answer)
replaced x (Ok u) few = done x (Ok u) few
replaced x (Err replace.InDoubt) few = by_device x few
replaced x (Err replace.NoMemory) few = failed (Unit {0}) x NoMemory few
replaced x (Err replace.Unchanged) few = by_device x few

-- so it is of the record
pub failed_call : (T : Type 0) (old new : List Event) (k : ℕ) (n : Numbers) (bytes : List ℕ) (a : Trouble) → new ≡ (k, n, trouble_number a, bytes) ∷ old
    → HasCause {T = T} (failed_in old) (failed_in new) (Err (fault_of a))
failed_call T old new k n bytes a is =
    subst (λ (es : List Event). HasCause {T = T} (failed_in old) (failed_in es) (Err (fault_of a))) (sym is) (failed T (failed_in old) a (failed_is old))

pub done_call : (old new : List Event) (k : ℕ) (n : Numbers) (bytes : List ℕ) (answer : Result (Unit {0}) Trouble) → new ≡ (k, n, done_number answer, bytes) ∷ old
    → HasCause (failed_in old) (failed_in new) (done_result answer)
done_call old new k n bytes answer is =
    subst (λ (es : List Event). HasCause (failed_in old) (failed_in es) (done_result answer)) (sym is) (done (failed_in old) answer (failed_is old))

pub replaced_call : (old new : List Event) (k : ℕ) (n : Numbers) (bytes : List ℕ) (answer : Result (Unit {0}) ReplaceFault)
    → new ≡ (k, n, replaced_number answer, bytes) ∷ old → HasCause (failed_in old) (failed_in new) (as_told answer)
replaced_call old new k n bytes answer is =
    subst (λ (es : List Event). HasCause (failed_in old) (failed_in es) (as_told answer)) (sym is) (replaced (failed_in old) answer (failed_is old))
