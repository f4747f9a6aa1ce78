-- Windows: five integers, then the instructions, then the new data.
use Rattle.std.specs.Prelude.{ℕ, ◌+◌, ◌-◌, List, length, take, drop, Some, None, Result, Ok, Err, nat_lt, ◌==◌, ◌&&◌, if◌then◌else◌}
use Rattle.svndiff0.specs.{declared.fault.DiffFault.DiffFault, declared.fault.DiffFault.TheVariants.{ViewBeyondBase, LengthsDisagree}}
use Rattle.svndiff0.specs.{declared.instruction.Instruction.Instruction, declared.window.Head.Head, Read.{Read, ◌>>=◌}, declared.window.TheConstants.LIMIT}
use Rattle.svndiff0.specs.{Integer.{integer_at, bounded_at}, Instruction.{instructions_of, total, new_total, target_of}}

-- the longest text, and the longest section
abbrev pub limit : ℕ
limit = LIMIT

-- the five integers, behind so many bytes of text
unfoldable pub head_at : ℕ → List ℕ → Read Head
head_at before bytes = do
  offset ← integer_at bytes
  view ← integer_at offset.1
  target ← bounded_at (limit - before) view.1
  section ← bounded_at limit target.1
  fresh ← bounded_at limit section.1
  Ok (Some (record { offset = offset.0; view = view.0; target = target.0; section = section.0; new_data = fresh.0 }, fresh.1))

-- the instructions give the target view where they have its length and take just the new data
abbrev pub judged : Head → List ℕ → List ℕ → Result (List Instruction) DiffFault
    → Result (List ℕ) DiffFault
judged head view fresh (Err f) = Err f
judged head view fresh (Ok is) =
    if (total is == head.target) && (new_total is == length fresh) then Ok (target_of view fresh is)
    else Err LengthsDisagree

-- what was judged, and the bytes behind it
abbrev pub and_rest : Result (List ℕ) DiffFault → List ℕ → Read (List ℕ)
and_rest (Err f) rest = Err f
and_rest (Ok target) rest = Ok (Some (target, rest))

-- behind the five integers the view must lie in the base, and then the window's bytes are waited
-- for
unfoldable pub body_at : List ℕ → Head → List ℕ → Read (List ℕ)
body_at base head bytes =
    if nat_lt (length base) (head.offset + head.view) then Err ViewBeyondBase
    else if nat_lt (length bytes) (head.section + head.new_data) then Ok None
    else and_rest
    (judged head (take head.view (drop head.offset base))
    (take head.new_data (drop head.section bytes))
    (instructions_of head.view (take head.section bytes)))
    (drop (head.section + head.new_data) bytes)

-- a window's target view
unfoldable pub window_at : List ℕ → ℕ → List ℕ → Read (List ℕ)
window_at base before bytes = do
  head ← head_at before bytes
  body_at base head.0 head.1
