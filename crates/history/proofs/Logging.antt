-- Logs in both directions, with a limit.
use Rattle.std.proofs.Common.{◌≡◌, ◌<◌, ℕ, zero, suc, Bool, true, false, List, [], ◌∷◌, ◌++◌, Option, Some, None, arith, refl, sym, ap, ◌∙◌, reverse, take, ◌-◌}
use Rattle.std.proofs.{Common.{Result, Ok, Err, IfOk}, lemmas.List.{append-nil, reverse-append}, lemmas.List.Elements.filter-append}
use Rattle.std.specs.Prelude.{if◌then◌else◌, filter}
use borrow.Author.Tests.{lt-leb}
use Rattle.svnpath.specs.Paths.{PathValue}
use Rattle.repo_api.specs.Histories.{History}
use Rattle.history.specs.{Logs.{revisions_down, revisions_from, is_of_log, oldest_asked, newest_asked}, Walks.{next_then, is_spent, one_less, up_to}}
use Rattle.history.specs.declared.log_ask.LogAsk.{LogAsk}

reverse_first : (n : ℕ) (ns : List ℕ) → reverse (n ∷ ns) ≡ reverse ns ++ n ∷ []
reverse_first n ns = reverse-append (n ∷ []) ns

pub filter-reverse : (test : ℕ → Bool) (ns : List ℕ) → filter test (reverse ns) ≡ reverse (filter test ns)
filter-reverse test [] = refl
filter-reverse test (n ∷ ns) = by (filter-reverse test ns) (test n) refl
  where
    one : (b : Bool) → test n ≡ b → filter test (n ∷ []) ≡ (if b then n ∷ [] else [])
    one b is = ap (λ x. if x then n ∷ [] else []) is

    more : (b : Bool) → test n ≡ b → filter test (n ∷ ns) ≡ (if b then n ∷ filter test ns else filter test ns)
    more b is = ap (λ x. if x then n ∷ filter test ns else filter test ns) is

    both : filter test (reverse ns) ≡ reverse (filter test ns) → filter test (reverse (n ∷ ns)) ≡ reverse (filter test ns) ++ filter test (n ∷ [])
    both rest = ap (filter test) (reverse_first n ns) ∙ filter-append test (reverse ns) (n ∷ []) ∙ ap (λ xs. xs ++ filter test (n ∷ [])) rest

    by : filter test (reverse ns) ≡ reverse (filter test ns) → (b : Bool) → test n ≡ b → filter test (reverse (n ∷ ns)) ≡ reverse (filter test (n ∷ ns))
    by rest true is =
        both rest ∙ ap (λ xs. reverse (filter test ns) ++ xs) (one true is) ∙ sym (reverse_first n (filter test ns)) ∙ ap reverse (sym (more true is))
    by rest false is =
        both rest ∙ ap (λ xs. reverse (filter test ns) ++ xs) (one false is) ∙ append-nil (reverse (filter test ns)) ∙ ap reverse (sym (more false is))

-- and one that rises
pub rising : (h : History) (ask : LogAsk) (paths : List PathValue) → ask.start < ask.end
    → reverse (filter (is_of_log h ask paths) (revisions_down (oldest_asked ask) (suc (newest_asked ask))))
    ≡ filter (is_of_log h ask paths) (revisions_from ask.start ask.end)
rising h ask paths up =
    let low : oldest_asked ask ≡ ask.start = omega (arith, up) in
    let high : newest_asked ask ≡ ask.end = omega (arith, up) in
    ap (λ k. reverse (filter (is_of_log h ask paths) (revisions_down k (suc (newest_asked ask))))) low
    ∙ ap (λ k. reverse (filter (is_of_log h ask paths) (revisions_down ask.start (suc k)))) high
    ∙ sym (filter-reverse (is_of_log h ask paths) (revisions_down ask.start (suc ask.end)))
    ∙ sym (ap (λ b. filter (is_of_log h ask paths) (if b then revisions_down ask.end (suc ask.start) else reverse (revisions_down ask.start (suc ask.end))))
    (lt-leb ask.end ask.start up))

-- at most so many of what comes next and of the rest
limit_then : (left : Option ℕ) (old new : List ℕ) (next : Option ℕ) → is_spent left ≡ false → old ≡ next_then next new
    → up_to left old ≡ next_then next (up_to (one_less left) new)
limit_then None old new None some is = is
limit_then None old new (Some n) some is = is
limit_then (Some zero) old new next some is = cc
limit_then (Some (suc k)) old new None some is = ap (take (suc k)) is
limit_then (Some (suc k)) old new (Some n) some is =
    let fewer : k ≡ suc k - 1 = omega arith in
    ap (take (suc k)) is ∙ ap (λ j. n ∷ take j new) fewer

pub limit_next : {E : Type 0} (left less : Option ℕ) (old new : List ℕ) (r : Result (Option ℕ) E) → is_spent left ≡ false → less ≡ one_less left
    → IfOk r (λ next. old ≡ next_then next new) → IfOk r (λ next. up_to left old ≡ next_then next (up_to less new))
limit_next left less old new (Ok next) some fewer is = limit_then left old new next some is ∙ ap (λ o. next_then next (up_to o new)) (sym fewer)
limit_next left less old new (Err e) some fewer is = is
