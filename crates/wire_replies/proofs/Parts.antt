-- Parts of replies that were written.
use Rattle.std.proofs.Common.{◌≡◌, ℕ, List, [], ◌∷◌, ◌++◌, refl, sym, ap, subst, ◌∙◌, append-nil, append_assoc}
use Rattle.items.specs.Print.{printed}
use Rattle.std.specs.Prelude.{Result, Ok, Err}
use Rattle.wire_replies.specs.{Replies.{reply_item, print}, Sinks.{WritesPart, Says}, declared.reply.Reply.Reply}

pub print-append : (xs ys : List Reply) → print (xs ++ ys) ≡ print xs ++ print ys
print-append [] ys = refl
print-append (x ∷ xs) ys = ap (λ t. printed (reply_item x) ++ t) (print-append xs ys) ∙ sym (append_assoc (printed (reply_item x)) (print xs) (print ys))

-- nothing is a part of anything
pub part_none : (writes : List ℕ → Type 0) (bytes : List ℕ) → writes [] → WritesPart writes bytes
part_none writes bytes w = record { part = []; rest = bytes; whole = refl; wrote = w }

-- all is a part
pub part_all : (writes : List ℕ → Type 0) (bytes : List ℕ) → writes bytes → WritesPart writes bytes
part_all writes bytes w = record { part = bytes; rest = []; whole = sym (append-nil bytes); wrote = w }

-- a part of what comes first is a part of all
pub part_first : (writes : List ℕ → Type 0) (first second : List Reply) → WritesPart writes (print first) → WritesPart writes (print (first ++ second))
part_first writes first second p = record {
  part = p.part;
  rest = p.rest ++ print second;
  whole = print-append first second ∙ ap (λ (x : List ℕ). x ++ print second) p.whole ∙ append_assoc p.part p.rest (print second);
  wrote = p.wrote;
}

module _ {S : Type 0} (writes : S → S → List ℕ → Type 0) (more : (s t u : S) (first second : List ℕ) → writes s t first → writes t u second → writes s u (first ++ second)) where
  -- replies, and then others
  pub both_written : (s t u : S) (first second : List Reply) → writes s t (print first) → writes t u (print second) → writes s u (print (first ++ second))
  both_written s t u first second x y =
      subst (λ (bytes : List ℕ). writes s u bytes) (sym (print-append first second)) (more s t u (print first) (print second) x y)

  -- all of what comes first, and a part of what comes then
  pub part_behind : (s t u : S) (first second : List Reply) → writes s t (print first) → WritesPart (writes t u) (print second) → WritesPart (writes s u) (print (first ++ second))
  part_behind s t u first second x p = record {
    part = print first ++ p.part;
    rest = p.rest;
    whole = print-append first second ∙ ap (λ (y : List ℕ). print first ++ y) p.whole ∙ sym (append_assoc (print first) p.part p.rest);
    wrote = more s t u (print first) p.part x p.wrote;
  }

  -- replies, and then others, as far as they are written
  pub said_behind : {T E : Type 0} (r : Result T E) (s t u : S) (first second : List Reply) → writes s t (print first) → Says r (writes t u) second → Says r
      (writes s u) (first ++ second)
  said_behind (Ok x) s t u first second before said = both_written s t u first second before said
  said_behind (Err e) s t u first second before part = part_behind s t u first second before part
