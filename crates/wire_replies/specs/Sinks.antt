-- What is written to a sink.
use Rattle.std.specs.Prelude.{◌≡◌, ℕ, List, [], ◌++◌, Result, MatchResult}
use Rattle.std.proofs.Common.{sym, ap, ◌∙◌, append-nil, append_assoc}
use Rattle.wire_replies.specs.{Replies.print, declared.reply.Reply.Reply}

-- a part from the front of these bytes was written
pub record WritesPart (writes : List ℕ → Type 0) (bytes : List ℕ) : Type 0 where
  pub part : List ℕ
  pub rest : List ℕ
  pub whole : bytes ≡ part ++ rest
  pub wrote : writes part

-- these bytes were written; or, where there is an error, a part of them from the front
abbrev pub Writes : {T E : Type 0} → Result T E → (List ℕ → Type 0) → List ℕ → Type 0
Writes r writes bytes = MatchResult r (λ _. writes bytes) (λ _. WritesPart writes bytes)

-- so are these replies
abbrev pub Says : {T E : Type 0} → Result T E → (List ℕ → Type 0) → List Reply → Type 0
Says r writes told = Writes r writes (print told)

-- ---- bytes at the end of others

pub appends_nothing : (s : List ℕ) → s ≡ s ++ []
appends_nothing s = sym (append-nil s)

pub appends_more : (s t u first second : List ℕ) → t ≡ s ++ first → u ≡ t ++ second
    → u ≡ s ++ (first ++ second)
appends_more s t u first second x y =
    y ∙ ap (λ (z : List ℕ). z ++ second) x ∙ append_assoc s first second

pub appends_same : (s t : List ℕ) → t ≡ s → t ≡ s ++ []
appends_same s t is = is ∙ appends_nothing s
