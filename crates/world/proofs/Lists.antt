-- Revisions that go on, and are as many.
use Rattle.std.proofs.Common.{◌≡◌, ◌<◌, ◌+◌, ℕ, List, [], ◌∷◌, ◌++◌, length, take, drop, refl, sym, ap, subst, arith, length-append, append_assoc, append-nil}
use Rattle.std.proofs.{Common.◌∙◌, Math.Seq.take-append_seam, lemmas.List.take-append-drop}
use Rattle.repo_api.specs.States.{IsBeginning, Revision}

none_more : (more : List Revision) (n : ℕ) → n + length more ≡ n → more ≡ []
none_more [] n is = refl
none_more (r ∷ more) n is = absurd (omega (arith, is))

pub as_many : (old new : List Revision) → IsBeginning old new → length old ≡ length new → old ≡ new
as_many old new begins many =
    let longer : length (old ++ begins.more) ≡ length old + length begins.more =
    length-append old begins.more in
    let none : begins.more ≡ [] =
    none_more begins.more (length old) (sym longer ∙ sym (ap length begins.is) ∙ sym many) in
    sym (append-nil old) ∙ ap (λ xs. old ++ xs) (sym none) ∙ sym begins.is

-- what is cut off from a list where another one ends, if that begins it
pub goes_on : (a b : List Revision) → take (length a) b ≡ a → IsBeginning a b
goes_on a b same = record {
  more = drop (length a) b;
  is = sym (take-append-drop (length a) b) ∙ ap (λ xs. xs ++ drop (length a) b) same;
}

pub begins : (a b : List Revision) → IsBeginning a b → take (length a) b ≡ a
begins a b on = ap (take (length a)) on.is ∙ take-append_seam a on.more

pub begins_itself : (a b : List Revision) → b ≡ a → take (length a) b ≡ a
begins_itself a b same = begins a b (record { more = []; is = same ∙ sym (append-nil a) })

pub begins_on : (a b c : List Revision) → IsBeginning a b → IsBeginning b c → IsBeginning a c
begins_on a b c first next = record {
  more = first.more ++ next.more;
  is = next.is ∙ ap (λ xs. xs ++ next.more) first.is ∙ append_assoc a first.more next.more;
}

pub still_within : (old new : List Revision) → IsBeginning old new → (n : ℕ) → n < length old
    → n < length new
still_within old new begins n within =
    let longer : length (old ++ begins.more) ≡ length old + length begins.more =
    length-append old begins.more in
    subst (λ rs. n < length rs) (sym begins.is) (omega (arith, longer, within))
