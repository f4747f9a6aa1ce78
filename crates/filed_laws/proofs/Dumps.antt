-- No two lists of pairs have one dump, and no two lists of entries.
use Rattle.std.proofs.Common.{◌≡◌, ◌+◌, ℕ, true, List, [], ◌∷◌, ◌++◌, length, get_or, Option, Some, None, Ok, refl, sym, ap, ◌∙◌, append_assoc, arith, lit≤}
use Rattle.std.specs.{Prelude.codes, List.flat_map}
use Rattle.fsfs_text.specs.{Numerals.{number_of, numeral}, Splits.{is_free, split_once}, Dumps.{dump, pair_bytes, sized}, declared.pair.DumpPair.DumpPair}
use Rattle.fsfs_text.specs.{Ids.{id_of, id_text}, declared.id.FileId.FileId}
use Rattle.fsfs_text.proofs.{Numbers.{number_again, numeral_free}, Splits.split_again, IdsAgain.id_again}
use Rattle.fsfs_nodes.specs.{Entries.{before, entries_in, entry_pairs, entry_text, kind_and_id, kind_and_id_from, with_others}, Nodes.{kind_of, kind_text}}
use Rattle.fsfs_nodes.specs.{declared.entries.DirectoryEntry.DirectoryEntry, declared.entries.EntryKind.EntryKind}
use Rattle.fsfs_nodes.specs.declared.entries.EntryKind.TheVariants.{File, Directory}
use Rattle.fsfs.specs.Whole.{EntriesFit}

-- ---- numbers and texts

same_numeral : (m n : ℕ) → numeral 10 m ≡ numeral 10 n → m ≡ n
same_numeral m n e =
    let same : Some m ≡ Some n =
    sym (number_again 10 (m + n) m (lit≤ tt) (lit≤ tt) (omega arith)) ∙ ap (number_of 10 (m + n)) e
    ∙ number_again 10 (m + n) n (lit≤ tt) (lit≤ tt) (omega arith) in cc same

same_parts : (xs ys a b : List ℕ) → length xs ≡ length ys → xs ++ a ≡ ys ++ b → (xs ≡ ys) × (a ≡ b)
same_parts [] [] a b long e = (refl, e)
same_parts [] (y ∷ ys) a b long e = absurd (omega (arith, long))
same_parts (x ∷ xs) [] a b long e = absurd (omega (arith, long))
same_parts (x ∷ xs) (y ∷ ys) a b long e =
    let first : x ≡ y = cc e in
    let later : xs ++ a ≡ ys ++ b = cc e in
    let rest = same_parts xs ys a b (omega (arith, long)) later in
    (λ i. first i ∷ rest.0 i, rest.1)

abbrev front_of : Option (List ℕ × List ℕ) → List ℕ
front_of None = []
front_of (Some p) = p.0

abbrev back_of : Option (List ℕ × List ℕ) → List ℕ
back_of None = []
back_of (Some p) = p.1

same_line : (m n : ℕ) (a b : List ℕ) → numeral 10 m ++ 10 ∷ a ≡ numeral 10 n ++ 10 ∷ b → (m ≡ n) × (a ≡ b)
same_line m n a b e =
    let free : (k : ℕ) → is_free 10 (numeral 10 k) ≡ true = λ k. numeral_free 10 10 k refl (lit≤ tt) (lit≤ tt) in
    let p : List ℕ × List ℕ = (numeral 10 m, a) in
    let q : List ℕ × List ℕ = (numeral 10 n, b) in
    let same : Some p ≡ Some q =
    sym (split_again 10 (numeral 10 m) a (free m)) ∙ ap (split_once 10) e ∙ split_again 10 (numeral 10 n) b (free n) in
    (same_numeral m n (ap front_of same), ap back_of same)

sized-append : (letter : ℕ) (text rest : List ℕ) → sized letter text ++ rest ≡ letter ∷ 32 ∷ (numeral 10 (length text) ++ 10 ∷ (text ++ 10 ∷ rest))
sized-append letter text rest = simp append_assoc

same_sized : (letter : ℕ) (s t a b : List ℕ) → sized letter s ++ a ≡ sized letter t ++ b → (s ≡ t) × (a ≡ b)
same_sized letter s t a b e =
    let whole : letter ∷ 32 ∷ (numeral 10 (length s) ++ 10 ∷ (s ++ 10 ∷ a)) ≡ letter ∷ 32 ∷ (numeral 10 (length t) ++ 10 ∷ (t ++ 10 ∷ b)) =
    sym (sized-append letter s a) ∙ e ∙ sized-append letter t b in
    let inner : numeral 10 (length s) ++ 10 ∷ (s ++ 10 ∷ a) ≡ numeral 10 (length t) ++ 10 ∷ (t ++ 10 ∷ b) = cc whole in
    let line = same_line (length s) (length t) (s ++ 10 ∷ a) (t ++ 10 ∷ b) inner in
    let parts = same_parts s t (10 ∷ a) (10 ∷ b) line.0 line.1 in
    let behind : 10 ∷ a ≡ 10 ∷ b = parts.1 in
    let rest : a ≡ b = cc behind in
    (parts.0, rest)

-- ---- dumps

dump-cons : (pair : DumpPair) (pairs : List DumpPair) → dump (pair ∷ pairs) ≡ sized 75 pair.key ++ (sized 86 pair.value ++ dump pairs)
dump-cons pair pairs =
    append_assoc (pair_bytes pair) (flat_map pair_bytes pairs) (codes "END\n") ∙ append_assoc (sized 75 pair.key) (sized 86 pair.value) (dump pairs)

end_or_pair : (pair : DumpPair) (pairs : List DumpPair) → dump [] ≡ dump (pair ∷ pairs) → ⊥
end_or_pair pair pairs e =
    let heads : 69 ≡ 75 = ap (λ (l : List ℕ). get_or l 0 0) e in omega (arith, heads)

pub same_dump : (pairs others : List DumpPair) → dump pairs ≡ dump others → pairs ≡ others
same_dump [] [] e = refl
same_dump [] (q ∷ others) e = absurd (end_or_pair q others e)
same_dump (p ∷ pairs) [] e = absurd (end_or_pair p pairs (sym e))
same_dump (p ∷ pairs) (q ∷ others) e =
    let key = same_sized 75 p.key q.key (sized 86 p.value ++ dump pairs) (sized 86 q.value ++ dump others) (sym (dump-cons p pairs) ∙ e ∙ dump-cons q others) in
    let value = same_sized 86 p.value q.value (dump pairs) (dump others) key.1 in
    let first : p ≡ q = λ i. record { key = key.0 i; value = value.0 i } in
    let rest : pairs ≡ others = same_dump pairs others value.1 in
    λ i. first i ∷ rest i

-- ---- entries

kind_again : (kind : EntryKind) → (kind_of (kind_text kind) ≡ Some kind) × (is_free 32 (kind_text kind) ≡ true)
unfolding kind_of
kind_again File = (refl, refl)
kind_again Directory = (refl, refl)

text_again : (entry : DirectoryEntry) (fits : id_of (id_text entry.id) ≡ Some entry.id) → kind_and_id (entry_text entry) ≡ Some (entry.kind, entry.id)
unfolding kind_and_id
text_again entry fits =
    let kind = kind_again entry.kind in
    ap kind_and_id_from (split_again 32 (kind_text entry.kind) (id_text entry.id) kind.1)
    ∙ rw (kind.0, fits) refl

in_again : (entries : List DirectoryEntry) → EntriesFit entries → entries_in (entry_pairs entries) ≡ Ok entries
in_again [] fits = refl
in_again (entry ∷ entries) fits =
    ap (λ (o : Option (EntryKind × FileId)). with_others entry.name o (entries_in (entry_pairs entries))) (text_again entry (id_again entry.id fits.0))
    ∙ ap (before entry) (in_again entries fits.1)

pub same_entries : (entries others : List DirectoryEntry) → EntriesFit entries → EntriesFit others
    → dump (entry_pairs entries) ≡ dump (entry_pairs others) → entries ≡ others
same_entries entries others fits fit e =
    let same : Ok entries ≡ Ok others =
    sym (in_again entries fits) ∙ ap entries_in (same_dump (entry_pairs entries) (entry_pairs others) e) ∙ in_again others fit in cc same
