-- What the bytes ahead of the scanner are, where it comes to the end of an item and the bytes behind that meet Q.
use Rattle.std.proofs.Common.{◌≡◌, ℕ, zero, suc, ◌≤◌, ◌⊎◌, List, [], ◌∷◌, ◌++◌, length, IsTrue, refl, sym, ap, ◌∙◌, subst, append_assoc}
use Rattle.items.specs.{declared.scan.Lex.Lex, Word.{EachPasses, IsSpace, IsDigit, is_word_byte}}
use Rattle.items.specs.{Values.{ItemValue, ItemValues, none, more, Limits, IsWithin, AreWithin}, Spelling.{value_behind, Spaced, IsBody, AreSpelled}}
use Rattle.items.specs.declared.scan.Lex.TheVariants as lexes

-- the other items of a list, its end, and then P
pub record Inside (P : List ℕ → Type 0) (l : Limits) (d : ℕ) (bytes : List ℕ) : Type 0 where
  pub items : ItemValues
  pub inner : List ℕ
  pub gap : List ℕ
  pub last : ℕ
  pub rest : List ℕ
  pub spelled : AreSpelled items inner
  pub within : AreWithin l d items
  pub spaces : EachPasses IsSpace gap
  pub ends : IsSpace last
  pub goes : P rest
  pub whole : bytes ≡ inner ++ (gap ++ (41 ∷ last ∷ rest))

-- behind an item in d lists
abbrev pub After : (List ℕ → Type 0) → Limits → ℕ → List ℕ → Type 0
After Q l zero bytes = Q bytes
After Q l (suc d) bytes = Inside (After Q l d) l (suc d) bytes

-- an item, and then Q
pub record First (Q : List ℕ → Type 0) (l : Limits) (bytes : List ℕ) : Type 0 where
  pub item : ItemValue
  pub front : List ℕ
  pub rest : List ℕ
  pub spelled : Spaced (λ body. IsBody item body) front
  pub within : IsWithin l 0 item
  pub goes : Q rest
  pub whole : bytes ≡ front ++ rest

-- between items
abbrev pub Gaps : (List ℕ → Type 0) → Limits → ℕ → List ℕ → Type 0
Gaps Q l zero bytes = First Q l bytes
Gaps Q l (suc d) bytes = Inside (After Q l d) l (suc d) bytes

-- behind a body
pub record Ends (Q : List ℕ → Type 0) (l : Limits) (d : ℕ) (bytes : List ℕ) : Type 0 where
  pub last : ℕ
  pub rest : List ℕ
  pub ends : IsSpace last
  pub goes : After Q l d rest
  pub whole : bytes ≡ last ∷ rest

-- behind a `(`
pub record Opened (Q : List ℕ → Type 0) (l : Limits) (d : ℕ) (bytes : List ℕ) : Type 0 where
  pub opening : ℕ
  pub rest : List ℕ
  pub opens : IsSpace opening
  pub goes : Gaps Q l d rest
  pub whole : bytes ≡ opening ∷ rest

-- in a word
pub record Letters (Q : List ℕ → Type 0) (l : Limits) (d : ℕ) (bytes : List ℕ) : Type 0 where
  pub letters : List ℕ
  pub tail : List ℕ
  pub each : EachPasses (λ c. IsTrue (is_word_byte c)) letters
  pub goes : Ends Q l d tail
  pub whole : bytes ≡ letters ++ tail

-- in a string, before so many bytes
pub record Strings (Q : List ℕ → Type 0) (l : Limits) (d k : ℕ) (bytes : List ℕ) : Type 0 where
  pub string : List ℕ
  pub tail : List ℕ
  pub count : length string ≡ k
  pub goes : Ends Q l d tail
  pub whole : bytes ≡ string ++ tail

-- behind a count, a colon
pub record Colon (Q : List ℕ → Type 0) (l : Limits) (d k : ℕ) (bytes : List ℕ) : Type 0 where
  pub rest : List ℕ
  pub most : k ≤ l.string
  pub goes : Strings Q l d k rest
  pub whole : bytes ≡ 58 ∷ rest

-- in a number, or a string's count
pub record Digits (Q : List ℕ → Type 0) (l : Limits) (d n : ℕ) (bytes : List ℕ) : Type 0 where
  pub digits : List ℕ
  pub tail : List ℕ
  pub each : EachPasses IsDigit digits
  pub most : n ≤ l.number → value_behind n digits ≤ l.number
  pub goes : Ends Q l d tail ⊎ Colon Q l d (value_behind n digits) tail
  pub whole : bytes ≡ digits ++ tail

abbrev pub Goes : (List ℕ → Type 0) → Limits → ℕ → Lex → List ℕ → Type 0
Goes Q l d lexes.Gap bytes = Gaps Q l d bytes
Goes Q l d lexes.Open bytes = Opened Q l d bytes
Goes Q l d lexes.Word bytes = Letters Q l d bytes
Goes Q l d (lexes.Number n) bytes = Digits Q l d n bytes
Goes Q l d (lexes.Tail k) bytes = Strings Q l d k bytes

spaced-space : (Body : List ℕ → Type 0) (b : ℕ) (bytes : List ℕ) → IsSpace b → Spaced Body bytes → Spaced Body (b ∷ bytes)
spaced-space Body b bytes h p = record { gap = b ∷ p.gap; body = p.body; last = p.last; spaces = (h, p.spaces); middle = p.middle; ends = p.ends; whole = ap (λ x. b ∷ x) p.whole }

inside-space : (P : List ℕ → Type 0) (l : Limits) (d b : ℕ) (bytes : List ℕ) (items : ItemValues) (inner gap : List ℕ) (last : ℕ) (rest : List ℕ)
    → AreSpelled items inner → AreWithin l d items → EachPasses IsSpace gap → IsSpace last → P rest → bytes ≡ inner ++ (gap ++ (41 ∷ last ∷ rest)) → IsSpace b → Inside P l d (b ∷ bytes)
inside-space P l d b bytes none inner gap last rest spelled within spaces ends goes whole h =
    record { items = none; inner = []; gap = b ∷ gap; last = last; rest = rest; spelled = refl; within = within; spaces = (h, spaces); ends = ends; goes = goes; whole = ap (λ x. b ∷ x) (whole ∙ ap (λ x. x ++ (gap ++ (41 ∷ last ∷ rest))) spelled) }
inside-space P l d b bytes (more t ts) inner gap last rest spelled within spaces ends goes whole h =
    let joined : AreSpelled (more t ts) (b ∷ inner) = record { front = b ∷ spelled.front; rest = spelled.rest; first = spaced-space (λ body. IsBody t body) b spelled.front h spelled.first; others = spelled.others; whole = ap (λ x. b ∷ x) spelled.whole } in
    record { items = more t ts; inner = b ∷ inner; gap = gap; last = last; rest = rest; spelled = joined; within = within; spaces = spaces; ends = ends; goes = goes; whole = ap (λ x. b ∷ x) whole }

pub gap-space : (Q : List ℕ → Type 0) (l : Limits) (d b : ℕ) (bytes : List ℕ) → IsSpace b → Gaps Q l d bytes → Gaps Q l d (b ∷ bytes)
gap-space Q l zero b bytes h p =
    record { item = p.item; front = b ∷ p.front; rest = p.rest; spelled = spaced-space (λ body. IsBody p.item body) b p.front h p.spelled; within = p.within; goes = p.goes; whole = ap (λ x. b ∷ x) p.whole }
gap-space Q l (suc d) b bytes h p = inside-space (After Q l d) l (suc d) b bytes p.items p.inner p.gap p.last p.rest p.spelled p.within p.spaces p.ends p.goes p.whole h

next : (Q : List ℕ → Type 0) (l : Limits) (d : ℕ) (t : ItemValue) (front rest : List ℕ) → Spaced (λ body. IsBody t body) front → IsWithin l d t → After Q l d rest → Gaps Q l d (front ++ rest)
next Q l zero t front rest p w a = record { item = t; front = front; rest = rest; spelled = p; within = w; goes = a; whole = refl }
next Q l (suc d) t front rest p w a =
    let joined : AreSpelled (more t a.items) (front ++ a.inner) = record { front = front; rest = a.inner; first = p; others = a.spelled; whole = refl } in
    record { items = more t a.items; inner = front ++ a.inner; gap = a.gap; last = a.last; rest = a.rest; spelled = joined; within = (w, a.within); spaces = a.spaces; ends = a.ends; goes = a.goes; whole = ap (λ x. front ++ x) a.whole ∙ sym (append_assoc front a.inner (a.gap ++ (41 ∷ a.last ∷ a.rest))) }

-- a body, and what lies behind it
pub next-body : (Q : List ℕ → Type 0) (l : Limits) (d : ℕ) (t : ItemValue) (body tail bytes : List ℕ) → IsBody t body → IsWithin l d t → Ends Q l d tail → bytes ≡ body ++ tail → Gaps Q l d bytes
next-body Q l d t body tail bytes b w e h =
    let front : List ℕ = body ++ (e.last ∷ []) in
    let spaced : Spaced (λ x. IsBody t x) front = record { gap = []; body = body; last = e.last; spaces = tt; middle = b; ends = e.ends; whole = refl } in
    let same : front ++ e.rest ≡ bytes = append_assoc body (e.last ∷ []) e.rest ∙ ap (λ x. body ++ x) (sym e.whole) ∙ sym h in
    let P : List ℕ → Type 0 = λ x. Gaps Q l d x in
    subst P same (next Q l d t front e.rest spaced w e.goes)
