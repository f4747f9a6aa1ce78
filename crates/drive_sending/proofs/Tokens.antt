-- A new token is not open.
use Rattle.std.proofs.Common.{arith, add-one, ◌≡◌, ◌<◌, ◌≤◌, ◌+◌, ◌^◌, ℕ, Bool, true, false, ◌||◌, List, [], ◌∷◌, length, refl, sym, ap, ◌∙◌, subst}
use Rattle.std.proofs.{lemmas.Bool.{ltb-false, ltb-true}, lemmas.Fmt.{decimal_injective, length-decimal-le}, lemmas.List.length-replicate}
use Rattle.std.specs.{Fmt.decimal, Prelude.{if◌then◌else◌, nat_lt, replicate}}
use Rattle.svnpath.specs.{PathLaws.same_component_is, Paths.PathValue}
use Rattle.wire_forms.specs.Forms.{is_name}
use Rattle.drive_rules.specs.{Steps.EntryKind, Steps.EntryKind.{DirectoryKind, FileKind}}
use Rattle.reporter.specs.{Saying.{OpenEntry, is_open_token}, Saying.TextState.Unchanged}
use Rattle.drive_sending.specs.Tokens.{count_text, token_of}

-- what is open under the token of an entry that was entered while so many were open
abbrev pub entry_at : EntryKind → ℕ → PathValue → List ℕ → OpenEntry
entry_at kind count p base = record { token = token_of kind count; path = p; kind = kind; base = base; state = Unchanged }

-- directories that are open, the innermost first
abbrev pub open_directories : List PathValue → List OpenEntry
open_directories [] = []
open_directories (d ∷ ds) = entry_at DirectoryKind (length ds) d [] ∷ open_directories ds

abbrev tail_of : List ℕ → List ℕ
tail_of [] = []
tail_of (b ∷ bs) = bs

abbrev head_of : List ℕ → ℕ
head_of [] = 0
head_of (b ∷ bs) = b

not_same : (b : Bool) → (b ≡ true → ⊥) → b ≡ false
not_same true no_way = absurd (no_way refl)
not_same false no_way = refl

less_differs : (m n : ℕ) → m < n → m ≡ n → ⊥
less_differs m n less same = omega (arith, less, same)

letters_differ : ◌≡◌ {A = ℕ} 100 99 → ⊥
letters_differ e = omega (arith, e)

-- a count that no number of the machine reaches has a longer text than one that is counted
counted_differs : (m n : ℕ) → m < n → count_text m ≡ count_text n → ⊥
counted_differs m n less same = by (nat_lt m (2 ^ 64)) (nat_lt n (2 ^ 64)) refl refl same
  where
    by : (a b : Bool) → nat_lt m (2 ^ 64) ≡ a → nat_lt n (2 ^ 64) ≡ b → (if a then decimal m else replicate m 48) ≡ (if b then decimal n else replicate n 48) → ⊥
    by true true few many e = less_differs m n less (decimal_injective m n (ltb-true m (2 ^ 64) few) (ltb-true n (2 ^ 64) many) e)
    by true false few many e =
        let short : length (decimal m) ≤ 20 = length-decimal-le 20 m (omega arith) (omega (ltb-true m (2 ^ 64) few, arith)) (ltb-true m (2 ^ 64) few) in
        let long : length (decimal m) ≡ n = ap (λ xs. length xs) e ∙ length-replicate n 48 in
        omega (short, long, ltb-false n (2 ^ 64) many, arith)
    by false true few many e = omega (ltb-false m (2 ^ 64) few, ltb-true n (2 ^ 64) many, less, arith)
    by false false few many e = less_differs m n less (sym (length-replicate m 48) ∙ ap (λ xs. length xs) e ∙ length-replicate n 48)

one_differs : (kind : EntryKind) (m n : ℕ) → m < n → is_name (token_of DirectoryKind m) (token_of kind n) ≡ false
one_differs DirectoryKind m n less =
    not_same (is_name (token_of DirectoryKind m) (token_of DirectoryKind n))
    (λ e. counted_differs m n less (ap tail_of (same_component_is (token_of DirectoryKind m) (token_of DirectoryKind n) e)))
one_differs FileKind m n less =
    not_same (is_name (token_of DirectoryKind m) (token_of FileKind n))
    (λ e. letters_differ (ap head_of (same_component_is (token_of DirectoryKind m) (token_of FileKind n) e)))

either_false : (a b : Bool) → a ≡ false → b ≡ false → (a || b) ≡ false
either_false a b x y = ap (λ z. z || b) x ∙ y

pub grown : (d : PathValue) (ds : List PathValue) → length (d ∷ ds) ≡ length ds + 1
grown d ds = sym (add-one (length ds))

pub none_open : (kind : EntryKind) (n : ℕ) (ds : List PathValue) → length ds ≤ n → is_open_token (token_of kind n) (open_directories ds) ≡ false
none_open kind n [] within = refl
none_open kind n (d ∷ ds) within =
    let less : length ds < n = subst (λ k. k ≤ n) (grown d ds ∙ add-one (length ds)) within in
    either_false (is_name (token_of DirectoryKind (length ds)) (token_of kind n)) (is_open_token (token_of kind n) (open_directories ds))
    (one_differs kind (length ds) n less)
    (none_open kind n ds (omega (arith, less)))
