-- Texts of directories whose entries are known.
use Rattle.std.proofs.Common.{◌≡◌, ℕ, zero, suc, ◌+◌, ◌-◌, ◌^◌, ◌<◌, ◌≤◌, Bool, true, false, List, [], ◌∷◌, ◌++◌, length, map, take, drop, get_or, Option, Some}
use Rattle.std.proofs.{Common.{None, Result, Ok, Err, refl, sym, ap, subst, ◌∙◌, append_assoc, arith}, lemmas.Bool.false≢true}
use Rattle.std.proofs.lemmas.List.{append_cancel_right, drop_at, length-append, map-append, take-map, take_at, take-append-drop, take-take}
use Rattle.std.proofs.lemmas.List.Concat.{flat_map-append}
use Rattle.std.specs.{Prelude.codes, List.flat_map}
use Rattle.fsfs_text.specs.{declared.fault.FileFault.FileFault, Reading.◌>>=◌, declared.pair.DumpPair.DumpPair, Dumps.{pair_bytes, dump}}
use Rattle.fsfs_text.specs.declared.id.FileId.{FileId}
use Rattle.fsfs_text.proofs.DumpsAgain.{dump_again}
use Rattle.fsfs_nodes.specs.{declared.entries.EntryKind.EntryKind, declared.entries.DirectoryEntry.DirectoryEntry}
use Rattle.fsfs_nodes.specs.Entries.{before, entries_in, entries_of, entry_pair, entry_pairs, entry_text, kind_and_id, with_others}
use Rattle.fsfs.specs.Known.{IsKnown, all_bytes, entry_bytes, lengths_of, total}

-- the text of an entry says its kind and its id
abbrev IsSaid : DirectoryEntry → Type 0
IsSaid entry = kind_and_id (entry_text entry) ≡ Some (entry.kind, entry.id)

abbrev AreSaid : List DirectoryEntry → Type 0
AreSaid [] = Unit {0}
AreSaid (entry ∷ entries) = IsSaid entry × AreSaid entries

-- ---- what is said is read

in_said : (entries : List DirectoryEntry) → AreSaid entries → entries_in (entry_pairs entries) ≡ Ok entries
in_said [] said = refl
in_said (entry ∷ entries) said =
    ap (λ (o : Option (EntryKind × FileId)). with_others entry.name o (entries_in (entry_pairs entries))) said.0 ∙ ap (before entry) (in_said entries said.1)

read_said : (entries : List DirectoryEntry) → entries_in (entry_pairs entries) ≡ Ok entries → length (dump (entry_pairs entries)) < 2 ^ 64 → entries_of (dump (entry_pairs entries)) ≡ Ok entries
unfolding entries_of
read_said entries said small =
    ap (λ (r : Result (List DumpPair) FileFault). r >>= λ pairs. entries_in pairs) (dump_again (entry_pairs entries) small) ∙ said

-- the entries of a text that is known
pub known_entries : (text lengths : List ℕ) (entries : List DirectoryEntry) → IsKnown text lengths entries → length text < 2 ^ 64 → entries_of text ≡ Ok entries
known_entries text lengths entries known small =
    let e = known.text_is in
    ap entries_of e ∙ read_said entries known.said (omega (arith, small, ap length e))

-- ---- what is read is said

first_of : DirectoryEntry → Result (List DirectoryEntry) FileFault → DirectoryEntry
first_of other (Ok []) = other
first_of other (Ok (entry ∷ entries)) = entry
first_of other (Err f) = other

others_of : Result (List DirectoryEntry) FileFault → List DirectoryEntry
others_of (Ok entries) = drop 1 entries
others_of (Err f) = []

is_read : Result (List DirectoryEntry) FileFault → Bool
is_read (Ok entries) = true
is_read (Err f) = false

said_by : (entry : DirectoryEntry) (entries : List DirectoryEntry) (o : Option (EntryKind × FileId)) → kind_and_id (entry_text entry) ≡ o
    → (r : Result (List DirectoryEntry) FileFault) → (r ≡ Ok entries → AreSaid entries) → with_others entry.name o r ≡ Ok (entry ∷ entries)
    → IsSaid entry × AreSaid entries
unfolding is_read first_of others_of
said_by entry entries None is r others e = absurd (false≢true (ap is_read e))
said_by entry entries (Some p) is (Err f) others e = absurd (false≢true (ap is_read e))
said_by entry entries (Some p) is (Ok es) others e = (
  is ∙ ap (λ (x : DirectoryEntry). Some (x.kind, x.id)) (ap (first_of entry) e),
  others (ap (λ (xs : List DirectoryEntry). Ok xs) (ap others_of e)),
)

said_in : (entries : List DirectoryEntry) → entries_in (entry_pairs entries) ≡ Ok entries → AreSaid entries
said_in [] h = tt
said_in (entry ∷ entries) h =
    said_by entry entries (kind_and_id (entry_text entry)) refl (entries_in (entry_pairs entries)) (λ rest. said_in entries rest) h

-- what was read from its own text
pub read_again : (text : List ℕ) (entries : List DirectoryEntry) → text ≡ all_bytes entries ++ codes "END\n" → length text < 2 ^ 64
    → entries_of text ≡ Ok entries → entries_in (entry_pairs entries) ≡ Ok entries
unfolding entries_of
read_again text entries e small read =
    let whole : dump (entry_pairs entries) ≡ text = sym e in
    let again = dump_again (entry_pairs entries) (omega (arith, small, ap length e)) in
    sym (ap (λ (r : Result (List DumpPair) FileFault). r >>= λ pairs. entries_in pairs) again) ∙ (ap entries_of whole ∙ read)

-- entries of a text that is what is written for them
pub known_again : (text lengths : List ℕ) (entries : List DirectoryEntry) → text ≡ all_bytes entries ++ codes "END\n" → lengths ≡ lengths_of entries
    → length text < 2 ^ 64 → entries_of text ≡ Ok entries → IsKnown text lengths entries
known_again text lengths entries e lengths_are small read =
    record { text_is = e; lengths_are = lengths_are; said = read_again text entries e small read }

pub known_same : (text other lengths other_lengths : List ℕ) (entries others : List DirectoryEntry) → IsKnown other other_lengths others
    → text ≡ other → lengths ≡ other_lengths → entries ≡ others → IsKnown text lengths entries
known_same text other lengths other_lengths entries others known same same_lengths same_entries =
    subst (λ t. IsKnown t lengths entries) (sym same) (subst (λ l. IsKnown other l entries) (sym same_lengths)
    (subst (λ es. IsKnown other other_lengths es) (sym same_entries) known))

-- ---- parts

pub cut_front : (n m : ℕ) (bytes : List ℕ) → n ≤ m → take n (take m bytes) ≡ take n bytes
cut_front n m bytes le = take-take n m bytes le

pub cut_whole : (n m : ℕ) (bytes : List ℕ) → bytes ≡ take n (take m bytes) ++ drop n (take m bytes) ++ drop m bytes
cut_whole n m bytes = sym (ap (λ t. t ++ drop m bytes) (take-append-drop n (take m bytes)) ∙ take-append-drop m bytes)

pub total_more : (ns : List ℕ) (i d : ℕ) → i < length ns → total (take (i + 1) ns) ≡ total (take i ns) + get_or ns i d
total_more [] i d lt = absurd (omega arith)
total_more (n ∷ ns) zero d lt = omega arith
total_more (n ∷ ns) (suc i) d lt =
    let next : suc i + 1 ≡ suc (i + 1) = omega arith in
    ap (λ k. total (take k (n ∷ ns))) next ∙ omega (arith, total_more ns i d (omega arith))

pub total_back : (ns : List ℕ) (i j d : ℕ) → j ≡ i + 1 → i < length ns → total (drop i ns) ≡ get_or ns i d + total (drop j ns)
total_back [] i j d e lt = absurd (omega arith)
total_back (n ∷ ns) zero j d e lt = ap (λ k. n + total (drop k (n ∷ ns))) (sym e)
total_back (n ∷ ns) (suc i) zero d e lt = absurd (omega arith)
total_back (n ∷ ns) (suc i) (suc j) d e lt = total_back ns i j d (omega arith) (omega arith)

pub bytes-append : (xs ys : List DirectoryEntry) → all_bytes (xs ++ ys) ≡ all_bytes xs ++ all_bytes ys
bytes-append xs ys = ap (flat_map pair_bytes) (map-append entry_pair xs ys) ∙ flat_map-append pair_bytes (entry_pairs xs) (entry_pairs ys)

length_bytes : (entries : List DirectoryEntry) → length (all_bytes entries) ≡ total (lengths_of entries)
length_bytes [] = refl
length_bytes (entry ∷ entries) = length-append (entry_bytes entry) (all_bytes entries) ∙ ap (λ n. length (entry_bytes entry) + n) (length_bytes entries)

lengths-drop : (n : ℕ) (entries : List DirectoryEntry) → lengths_of (drop n entries) ≡ drop n (lengths_of entries)
lengths-drop zero entries = refl
lengths-drop (suc n) [] = refl
lengths-drop (suc n) (entry ∷ entries) = lengths-drop n entries

said-append : (xs ys : List DirectoryEntry) → AreSaid xs → AreSaid ys → AreSaid (xs ++ ys)
said-append [] ys first second = second
said-append (x ∷ xs) ys first second = (first.0, said-append xs ys first.1 second)

said-take : (n : ℕ) (xs : List DirectoryEntry) → AreSaid xs → AreSaid (take n xs)
said-take zero xs said = tt
said-take (suc n) [] said = tt
said-take (suc n) (x ∷ xs) said = (said.0, said-take n xs said.1)

said-drop : (n : ℕ) (xs : List DirectoryEntry) → AreSaid xs → AreSaid (drop n xs)
said-drop zero xs said = said
said-drop (suc n) [] said = tt
said-drop (suc n) (x ∷ xs) said = said-drop n xs said.1

-- the text with other entries in place of those from one place up to another
pub spliced : (old text part lengths new_lengths : List ℕ) (entries new : List DirectoryEntry) (front end begin tail : ℕ)
    → IsKnown old lengths entries → IsKnown (part ++ codes "END\n") new_lengths new
    → begin ≡ total (take front lengths) → tail ≡ total (drop end lengths) + 4
    → text ≡ take begin old ++ part ++ drop (length old - tail) old
    → IsKnown text (take front lengths ++ new_lengths ++ drop end lengths) (take front entries ++ new ++ drop end entries)
spliced old text part lengths new_lengths entries new front end begin tail known part_known begins tails joined =
    let last = codes "END\n" in
    let whole = joined ∙ append_assoc (take begin old) part (drop (length old - tail) old) in
    let four : length last ≡ 4 = refl in
    let said = said_in entries known.said in
    let first = take front entries in
    let back = drop end entries in
    let bytes_of = λ (n : ℕ).
    ap (λ t. t ++ last) (ap all_bytes (sym (take-append-drop n entries)) ∙ bytes-append (take n entries) (drop n entries))
    ∙ append_assoc (all_bytes (take n entries)) (all_bytes (drop n entries)) last in
    let first_lengths : lengths_of first ≡ take front lengths =
    sym (take-map (λ (e : DirectoryEntry). length (entry_bytes e)) front entries) ∙ ap (take front) (sym known.lengths_are) in
    let back_lengths : lengths_of back ≡ drop end lengths = lengths-drop end entries ∙ ap (drop end) (sym known.lengths_are) in
    let first_long : length (all_bytes first) ≡ begin = length_bytes first ∙ ap total first_lengths ∙ sym begins in
    let back_long : length (all_bytes back) ≡ total (drop end lengths) = length_bytes back ∙ ap total back_lengths in
    let head : take begin old ≡ all_bytes first =
    ap (take begin) (known.text_is ∙ bytes_of front) ∙ take_at (all_bytes first) (all_bytes (drop front entries) ++ last) begin first_long in
    let old_is : old ≡ all_bytes (take end entries) ++ (all_bytes back ++ last) = known.text_is ∙ bytes_of end in
    let before_back : length (all_bytes (take end entries)) ≡ length old - tail =
    omega (
      arith,
      ap length old_is,
      length-append (all_bytes (take end entries)) (all_bytes back ++ last),
      length-append (all_bytes back) last,
      back_long,
      tails,
      four,
    ) in
    let tail_is : drop (length old - tail) old ≡ all_bytes back ++ last =
    ap (drop (length old - tail)) old_is ∙ drop_at (all_bytes (take end entries)) (all_bytes back ++ last) (length old - tail) before_back in
    let part_is : part ≡ all_bytes new = append_cancel_right part (all_bytes new) last part_known.text_is in record {
      text_is =
          whole ∙ ap (λ t. t ++ (part ++ drop (length old - tail) old)) head ∙ ap (λ t. all_bytes first ++ (t ++ drop (length old - tail) old)) part_is
          ∙ ap (λ t. all_bytes first ++ (all_bytes new ++ t)) tail_is
          ∙ ap (λ t. all_bytes first ++ t) (sym (append_assoc (all_bytes new) (all_bytes back) last))
          ∙ sym (append_assoc (all_bytes first) (all_bytes new ++ all_bytes back) last)
          ∙ ap (λ t. t ++ last) (sym (append_assoc (all_bytes first) (all_bytes new) (all_bytes back)))
          ∙ ap (λ t. t ++ all_bytes back ++ last) (sym (bytes-append first new))
          ∙ ap (λ t. t ++ last) (sym (bytes-append (first ++ new) back));
      lengths_are =
          sym (map-append (λ (e : DirectoryEntry). length (entry_bytes e)) (first ++ new) back
          ∙ ap (λ t. t ++ lengths_of back) (map-append (λ (e : DirectoryEntry). length (entry_bytes e)) first new)
          ∙ ap (λ t. t ++ lengths_of new ++ lengths_of back) first_lengths
          ∙ ap (λ t. take front lengths ++ t ++ lengths_of back) (sym part_known.lengths_are)
          ∙ ap (λ t. take front lengths ++ new_lengths ++ t) back_lengths);
      said = in_said (first ++ new ++ back)
          (said-append (first ++ new) back (said-append first new (said-take front entries said) (said_in new part_known.said)) (said-drop end entries said));
    }
