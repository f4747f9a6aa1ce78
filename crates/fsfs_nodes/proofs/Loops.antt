-- Reading one after the other, as a loop does.
use Rattle.std.proofs.Common.{◌≡◌, ℕ, suc, ◌-◌, ◌+◌, ◌≤◌, ◌<◌, List, [], ◌∷◌, ◌++◌, length, drop, get_or, Option, Some, None, Result, Ok, Err, refl, sym, ap}
use Rattle.std.proofs.{Common.{◌∙◌, append_assoc, arith}, lemmas.List.{append-nil, drop_more}}
use Rattle.fsfs_text.specs.{declared.fault.FileFault.FileFault, declared.fault.FileFault.TheVariants.{Truncated, BadLine}, Reading.{or_bad, ◌>>=◌}}
use Rattle.fsfs_text.specs.{Splits.line_at, declared.pair.DumpPair.DumpPair, declared.id.FileId.FileId}
use Rattle.fsfs_nodes.specs.{declared.entries.EntryKind.EntryKind, declared.entries.DirectoryEntry.DirectoryEntry}
use Rattle.fsfs_nodes.specs.Headers.{Line, name_value, before, with_others, block_within}
use Rattle.fsfs_nodes.specs.Entries as entries

-- ---- the lines of a node revision

abbrev Lines : Type 0
Lines = Result (List Line) FileFault

-- what was read before, and what is still read
abbrev pub lines_behind : List Line → Lines → Lines
lines_behind front (Ok lines) = Ok (front ++ lines)
lines_behind front (Err f) = Err f

behind-before : (front : List Line) (line : Line) (read : Lines) → lines_behind front (before line read) ≡ lines_behind (front ++ line ∷ []) read
behind-before front line (Ok lines) = ap (λ (x : List Line). Ok x) (sym (append_assoc front (line ∷ []) lines))
behind-before front line (Err f) = refl

abbrev from_line : ℕ → List ℕ × List ℕ → Lines
from_line n line = with_others line.0 (block_within n line.1)

block_within-step : (n count i : ℕ) (bytes : List ℕ) → count - i ≡ suc n → block_within (count - i) bytes ≡ (line_at bytes >>= from_line n)
unfolding block_within
block_within-step n count i bytes e = rw e refl

with_others-some : (line : List ℕ) (others : Lines) → (line ≡ [] → ⊥) → with_others line others ≡ (or_bad (name_value line) >>= λ first. before first others)
with_others-some [] others ne = absurd (ne refl)
with_others-some (b ∷ line) others ne = refl

module _ (front : List Line) (count i : ℕ) (rest : List ℕ) (total : Lines) (lt : i < count)
    (so_far : lines_behind front (block_within (count - i) rest) ≡ total) where
  step : lines_behind front (line_at rest >>= from_line (count - (i + 1))) ≡ total
  step = ap (lines_behind front) (sym (block_within-step (count - (i + 1)) count i rest (omega arith))) ∙ so_far

  pub no_line : (f : FileFault) → line_at rest ≡ Err f → total ≡ Err f
  no_line f e = sym step ∙ ap (λ (r : Result (List ℕ × List ℕ) FileFault). lines_behind front (r >>= from_line (count - (i + 1)))) e

  at_line : (line after : List ℕ) → line_at rest ≡ Ok (line, after) → total ≡ lines_behind front (with_others line (block_within (count - (i + 1)) after))
  at_line line after e = sym step ∙ ap (λ (r : Result (List ℕ × List ℕ) FileFault). lines_behind front (r >>= from_line (count - (i + 1)))) e

  pub at_end : (line after : List ℕ) → line_at rest ≡ Ok (line, after) → line ≡ [] → total ≡ Ok front
  at_end line after e none =
      at_line line after e ∙ ap (λ (x : List ℕ). lines_behind front (with_others x (block_within (count - (i + 1)) after))) none
      ∙ ap (λ (x : List Line). Ok x) (append-nil front)

  at_named : (line after : List ℕ) (found : Option Line) → line_at rest ≡ Ok (line, after) → (line ≡ [] → ⊥) → name_value line ≡ found
      → total ≡ lines_behind front (or_bad found >>= λ first. before first (block_within (count - (i + 1)) after))
  at_named line after found e some named =
      at_line line after e ∙ ap (lines_behind front) (with_others-some line (block_within (count - (i + 1)) after) some)
      ∙ ap (λ (o : Option Line). lines_behind front (or_bad o >>= λ first. before first (block_within (count - (i + 1)) after))) named

  pub no_name : (line after : List ℕ) → line_at rest ≡ Ok (line, after) → (line ≡ [] → ⊥) → name_value line ≡ None → total ≡ Err BadLine
  no_name line after e some named = at_named line after None e some named

  pub goes_on : (line after : List ℕ) (found : Line) → line_at rest ≡ Ok (line, after) → (line ≡ [] → ⊥) → name_value line ≡ Some found
      → lines_behind (front ++ found ∷ []) (block_within (count - (i + 1)) after) ≡ total
  goes_on line after found e some named = sym (at_named line after (Some found) e some named ∙ behind-before front found (block_within (count - (i + 1)) after))

pub runs_out : (front : List Line) (count i : ℕ) (rest : List ℕ) (total : Lines) → count ≤ i → lines_behind front (block_within (count - i) rest) ≡ total → total ≡ Err Truncated
unfolding block_within
runs_out front count i rest total le so_far =
    let none : count - i ≡ 0 = omega arith in
    sym so_far ∙ rw none refl

-- ---- the entries of a directory

abbrev Found : Type 0
Found = Result (List DirectoryEntry) FileFault

abbrev pub entries_behind : List DirectoryEntry → Found → Found
entries_behind front (Ok found) = Ok (front ++ found)
entries_behind front (Err f) = Err f

entries_behind-before : (front : List DirectoryEntry) (entry : DirectoryEntry) (read : Found) → entries_behind front (entries.before entry read) ≡ entries_behind (front ++ entry ∷ []) read
entries_behind-before front entry (Ok found) = ap (λ (x : List DirectoryEntry). Ok x) (sym (append_assoc front (entry ∷ []) found))
entries_behind-before front entry (Err f) = refl

module _ (front : List DirectoryEntry) (pairs : List DumpPair) (i : ℕ) (pair : DumpPair) (total : Found) (lt : i < length pairs) (here : pair ≡ get_or pairs i pair)
    (so_far : entries_behind front (entries.entries_in (drop i pairs)) ≡ total) where
  at_entry : (said : Option (EntryKind × FileId)) → entries.kind_and_id pair.value ≡ said → total ≡ entries_behind front (entries.with_others pair.key said (entries.entries_in (drop (i + 1) pairs)))
  at_entry said e =
      sym so_far
      ∙ ap (λ (x : List DumpPair). entries_behind front (entries.entries_in x)) (drop_more pairs i pair lt ∙ ap (λ (p : DumpPair). p ∷ drop (i + 1) pairs) (sym here))
      ∙ ap (λ (o : Option (EntryKind × FileId)). entries_behind front (entries.with_others pair.key o (entries.entries_in (drop (i + 1) pairs)))) e

  pub no_entry : entries.kind_and_id pair.value ≡ None → total ≡ Err BadLine
  no_entry e = at_entry None e

  pub next_entry : (kind : EntryKind) (id : FileId) → entries.kind_and_id pair.value ≡ Some (kind, id)
      → entries_behind (front ++ (record { name = pair.key; kind = kind; id = id }) ∷ []) (entries.entries_in (drop (i + 1) pairs)) ≡ total
  next_entry kind id e = sym (at_entry (Some (kind, id)) e ∙ entries_behind-before front (record { name = pair.key; kind = kind; id = id }) (entries.entries_in (drop (i + 1) pairs)))
