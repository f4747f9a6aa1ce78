-- What a document is and which text it has, in the words of the format, without reading.
use Rattle.std.specs.{Prelude.{◌≡◌, ◌⊎◌, ℕ, ◌+◌, ◌-◌, ◌*◌, ◌≤◌, ◌<◌, List, [], ◌∷◌, ◌++◌, length, take, drop}, List.flat_map}
use Rattle.svndiff0.specs.{declared.instruction.Instruction.Instruction, declared.instruction.Instruction.TheVariants.{SourceCopy, NewData}}
use Rattle.svndiff0.specs.{Instruction.{total, new_total, target_of}, Window.limit, Document.header}

-- groups of seven bits, behind those of m, stand for n: all but the last have the high bit
abbrev pub AreGroups : ℕ → List ℕ → ℕ → Type 0
AreGroups m [] n = ⊥
AreGroups m (b ∷ []) n = (b < 128) × (n ≡ 128 * m + b)
AreGroups m (b ∷ c ∷ bs) n = (128 ≤ b) × AreGroups (128 * m + (b - 128)) (c ∷ bs) n

abbrev pub IsInteger : List ℕ → ℕ → Type 0
IsInteger bytes n = AreGroups 0 bytes n × (length bytes ≤ 9)

-- the low six bits are the length, or they are zero and an integer follows; it isn't zero
abbrev pub IsLength : ℕ → List ℕ → ℕ → Type 0
IsLength low bytes n = (0 < n) × (((n ≡ low) × (bytes ≡ [])) ⊎ ((low ≡ 0) × IsInteger bytes n))

-- a source copy within the view: a length, and an offset
pub record IsCopy (view offset n : ℕ) (bytes : List ℕ) : Type 0 where
  pub low : ℕ
  pub size : List ℕ
  pub place : List ℕ
  pub kind : low < 64
  pub is_size : IsLength low size n
  pub is_place : IsInteger place offset
  pub within : offset + n ≤ view
  pub whole : bytes ≡ low ∷ (size ++ place)

-- new data: a length
pub record IsNewData (n : ℕ) (bytes : List ℕ) : Type 0 where
  pub low : ℕ
  pub size : List ℕ
  pub kind : low < 64
  pub is_size : IsLength low size n
  pub whole : bytes ≡ (128 + low) ∷ size

abbrev pub IsInstruction : ℕ → Instruction → List ℕ → Type 0
IsInstruction view (SourceCopy offset n) bytes = IsCopy view offset n bytes
IsInstruction view (NewData n) bytes = IsNewData n bytes

-- one after another
pub record JoinedBytes (First Rest : List ℕ → Type 0) (bytes : List ℕ) : Type 0 where
  pub front : List ℕ
  pub rest : List ℕ
  pub first : First front
  pub others : Rest rest
  pub whole : bytes ≡ front ++ rest

abbrev pub AreInstructions : ℕ → List Instruction → List ℕ → Type 0
AreInstructions view [] bytes = bytes ≡ []
AreInstructions view (i ∷ is) bytes =
    JoinedBytes (IsInstruction view i) (λ rest. AreInstructions view is rest) bytes

-- five integers
pub record AreIntegers (offset view target section fresh : ℕ) (bytes : List ℕ) : Type 0 where
  pub first : List ℕ
  pub second : List ℕ
  pub third : List ℕ
  pub fourth : List ℕ
  pub fifth : List ℕ
  pub is_offset : IsInteger first offset
  pub is_view : IsInteger second view
  pub is_target : IsInteger third target
  pub is_section : IsInteger fourth section
  pub is_fresh : IsInteger fifth fresh
  pub whole : bytes ≡ first ++ (second ++ (third ++ (fourth ++ fifth)))

-- a window over the base, behind so many bytes of text, and its target view
pub record IsWindow (base : List ℕ) (before : ℕ) (target bytes : List ℕ) : Type 0 where
  pub offset : ℕ
  pub view : ℕ
  pub size : ℕ
  pub is : List Instruction
  pub head : List ℕ
  pub section : List ℕ
  pub fresh : List ℕ
  pub integers : AreIntegers offset view size (length section) (length fresh) head
  pub in_base : offset + view ≤ length base
  pub text_fits : size ≤ limit - before
  pub section_fits : length section ≤ limit
  pub fresh_fits : length fresh ≤ limit
  pub instructions : AreInstructions view is section
  pub all_given : total is ≡ size
  pub all_taken : new_total is ≡ length fresh
  pub gives : target ≡ target_of (take view (drop offset base)) fresh is
  pub whole : bytes ≡ head ++ (section ++ fresh)

-- windows with these target views
abbrev pub AreWindows : List ℕ → ℕ → List (List ℕ) → List ℕ → Type 0
AreWindows base before [] bytes = bytes ≡ []
AreWindows base before (t ∷ ts) bytes =
    JoinedBytes (IsWindow base before t) (λ rest. AreWindows base (before + length t) ts rest) bytes

-- the header and windows, whose target views are the text
pub record IsDocument (base document text : List ℕ) : Type 0 where
  pub targets : List (List ℕ)
  pub windows : List ℕ
  pub are_windows : AreWindows base 0 targets windows
  pub whole : document ≡ header ++ windows
  pub gives : text ≡ flat_map (λ t. t) targets
