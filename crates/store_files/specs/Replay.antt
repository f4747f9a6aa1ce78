-- What a folder holds, and what a stop leaves of it, by the calls that were made.
use Rattle.std.specs.Prelude.{◌≡◌, ◌⊎◌, ◌≤◌, ℕ, zero, suc, ◌+◌, min, List, [], ◌∷◌, Option, Some, None, length}
use Rattle.std.proofs.Common.{inl, inr, arith}
use Rattle.store_files.specs.{Folders.{Folder, IsSame, Scribbled, Swapped, with_file}, Moments.last_count, declared.name.FileName.FileName, Names.named}
use Rattle.store_files.specs.Note.{Event}

-- calls: 0 reads, 1 writes anew, 2 replaces; answers: 0 it is done, 1 the device failed, 2 memory was
-- refused, 3 there is no such file, 4 the device failed before a replacement had changed anything

abbrev pub name_of : Event → FileName
name_of e = named e.1

-- a file has its bytes once a call that writes it is done
abbrev pub after_call : ℕ → ℕ → FileName → List ℕ → Folder → Folder
after_call zero answer name bytes f = f
after_call (suc k) zero name bytes f = with_file f name bytes
after_call (suc k) (suc a) name bytes f = f

abbrev pub held : Folder → List Event → Folder
held start [] = start
held start (e ∷ es) = after_call e.0 e.2 (name_of e) e.3 (held start es)

-- what a stop leaves while a call is made
abbrev pub During : ℕ → FileName → List ℕ → (Folder → Type 0) → Folder → Type 0
During zero name bytes leaves f = leaves f
During (suc zero) name bytes leaves f = Scribbled leaves name f
During (suc (suc k)) name bytes leaves f = Swapped leaves name bytes f

-- and behind it
abbrev pub Behind : ℕ → ℕ → FileName → List ℕ → (Folder → Type 0) → Folder → Type 0
Behind zero answer name bytes leaves f = leaves f
Behind (suc zero) zero name bytes leaves f = Scribbled leaves name f × (f name ≡ Some bytes)
Behind (suc zero) (suc a) name bytes leaves f = Scribbled leaves name f
Behind (suc (suc k)) zero name bytes leaves f = Swapped leaves name bytes f × (f name ≡ Some bytes)
Behind (suc (suc k)) (suc zero) name bytes leaves f = Swapped leaves name bytes f
Behind (suc (suc k)) (suc (suc a)) name bytes leaves f = leaves f

abbrev pub Leaves : Folder → List Event → Folder → Type 0
Leaves start [] f = IsSame start f
Leaves start (e ∷ es) f = Behind e.0 e.2 (name_of e) e.3 (Leaves start es) f

-- what a stop may have left since the first t calls
abbrev pub LeftSince : Folder → List Event → ℕ → Folder → Type 0
LeftSince start [] t f = IsSame start f
LeftSince start (e ∷ es) t f =
    ((t ≤ length es) × (LeftSince start es t f ⊎ During e.0 (name_of e) e.3 (Leaves start es) f))
    ⊎ Leaves start (e ∷ es) f

-- an answer is that of files which give back what was written
abbrev pub Agrees : ℕ → ℕ → List ℕ → Option (List ℕ) → Type 0
Agrees zero zero bytes held = held ≡ Some bytes
Agrees zero (suc zero) bytes held = Unit {0}
Agrees zero (suc (suc zero)) bytes held = Unit {0}
Agrees zero (suc (suc (suc a))) bytes held = held ≡ None
Agrees (suc k) answer bytes held = Unit {0}

abbrev pub IsHonest : Folder → List Event → Type 0
IsHonest start [] = Unit {0}
IsHonest start (e ∷ es) = IsHonest start es × Agrees e.0 e.2 e.3 (held start es (name_of e))

-- how often the device failed
abbrev pub count_after : ℕ → ℕ → ℕ
count_after zero n = n
count_after (suc zero) n = min (n + 1) last_count
count_after (suc (suc zero)) n = n
count_after (suc (suc (suc zero))) n = n
count_after (suc (suc (suc (suc zero)))) n = min (n + 1) last_count
count_after (suc (suc (suc (suc (suc a))))) n = n

abbrev pub failed_in : List Event → ℕ
failed_in [] = 0
failed_in (e ∷ es) = count_after e.2 (failed_in es)

-- and how often in a replacement
abbrev pub doubts_after : ℕ → ℕ → ℕ → ℕ
doubts_after zero answer n = n
doubts_after (suc zero) answer n = n
doubts_after (suc (suc k)) zero n = n
doubts_after (suc (suc k)) (suc zero) n = n + 1
doubts_after (suc (suc k)) (suc (suc a)) n = n

abbrev pub doubts_in : List Event → ℕ
doubts_in [] = 0
doubts_in (e ∷ es) = doubts_after e.0 e.2 (doubts_in es)

-- ---- laws

pub leaves_now : (start : Folder) (es : List Event) (t : ℕ) (f : Folder) → t ≤ length es → Leaves start es f → LeftSince start es t f
leaves_now start [] t f le now = now
leaves_now start (e ∷ es) t f le now = inr now

pub left_now : (start : Folder) (es : List Event) (f : Folder) → LeftSince start es (length es) f → Leaves start es f
left_now start [] f left = left
left_now start (e ∷ es) f (inl early) = let le = early.0 in absurd (omega (arith, le))
left_now start (e ∷ es) f (inr now) = now

count_is : (a n : ℕ) → n ≤ last_count → count_after a n ≤ last_count
count_is zero n le = le
count_is (suc zero) n le = omega arith
count_is (suc (suc zero)) n le = le
count_is (suc (suc (suc zero))) n le = le
count_is (suc (suc (suc (suc zero)))) n le = omega arith
count_is (suc (suc (suc (suc (suc a))))) n le = le

pub failed_is : (es : List Event) → failed_in es ≤ last_count
failed_is [] = omega arith
failed_is (e ∷ es) = count_is e.2 (failed_in es) (failed_is es)
