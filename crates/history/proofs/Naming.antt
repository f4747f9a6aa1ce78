-- Paths that are named more than once.
use Rattle.std.proofs.Common.{◌≡◌, ◌<◌, ◌+◌, ℕ, Bool, true, false, ◌||◌, List, [], ◌∷◌, ◌++◌, length, take, get_or, map, refl, sym, ap, ◌∙◌, cond}
use Rattle.std.proofs.{lemmas.Bool.false≢true, lemmas.List.Elements.filter_agree, lemmas.List.Folds.{list_any_more, list_any-append}}
use Rattle.std.specs.{BTreeMap.is_at, List.list_any, Prelude.filter}
use Rattle.svnpath.specs.{PathLaws.{at_is_same, same_path_is}, Paths.{path_cmp, PathValue, same_path}}
use Rattle.repo_api.specs.Histories.{History}
use Rattle.history.specs.{Logs.{AreSameNamed, is_among, is_of_log, listed, newest_asked, or_root, place_at}, declared.log_ask.LogAsk.LogAsk}
use Rattle.traces.specs.{Traces.trace, declared.place.Place.Place}

-- the root stands for no path in both
or_root_same : (named paths : List PathValue) → AreSameNamed named paths → AreSameNamed (or_root named) (or_root paths)
or_root_same [] [] same = λ test. refl
or_root_same [] (p ∷ ps) same = absurd (false≢true (same (λ _. true)))
or_root_same (p ∷ ps) [] same = absurd (false≢true (sym (same (λ _. true))))
or_root_same (p ∷ ps) (q ∷ qs) same = same

any_placed : (n : ℕ) (test : Place → Bool) (paths : List PathValue) → list_any test (map (place_at n) paths) ≡ list_any (λ p. test (place_at n p)) paths
any_placed n test [] = refl
any_placed n test (p ∷ ps) = ap (λ b. test (place_at n p) || b) (any_placed n test ps)

-- so a log of the ones is one of the others
pub log_same : (h : History) (ask : LogAsk) (named paths : List PathValue) → AreSameNamed named paths → (n : ℕ) → is_of_log h ask named n ≡ is_of_log h ask paths n
log_same h ask named paths same n =
    any_placed (newest_asked ask) test (or_root named) ∙ or_root_same named paths same (λ p. test (place_at (newest_asked ask) p)) ∙ sym (any_placed (newest_asked ask) test (or_root paths))
  where
    test : Place → Bool
    test at = is_among n (listed h 0 (trace h ask.strict at))

pub logs_same : (h : History) (ask : LogAsk) (named paths : List PathValue) (ns : List ℕ) → AreSameNamed named paths → filter (is_of_log h ask named) ns ≡ filter (is_of_log h ask paths) ns
logs_same h ask named paths ns same = filter_agree (is_of_log h ask named) (is_of_log h ask paths) (log_same h ask named paths same) ns

-- ---- one path more

test_of_seen : (test : PathValue → Bool) (ps : List PathValue) (q : PathValue) → list_any (λ p. same_path p q) ps ≡ true → test q ≡ true → list_any test ps ≡ true
test_of_seen test [] q seen holds = absurd (false≢true seen)
test_of_seen test (p ∷ ps) q seen holds = by (same_path p q) refl seen (λ s. test_of_seen test ps q s holds)
  where
    or_true : (b : Bool) → (b || true) ≡ true
    or_true true = refl
    or_true false = refl

    by : (b : Bool) → same_path p q ≡ b → (b || list_any (λ x. same_path x q) ps) ≡ true → (list_any (λ x. same_path x q) ps ≡ true → list_any test ps ≡ true) → (test p || list_any test ps) ≡ true
    by true same e rest = ap (λ b. b || list_any test ps) (ap test (same_path_is p q same) ∙ holds)
    by false other e rest = ap (λ b. test p || b) (rest e) ∙ or_true (test p)

pub named_new : (named paths : List PathValue) (i : ℕ) (q : PathValue) → i < length paths → q ≡ get_or paths i q → AreSameNamed named (take i paths) → AreSameNamed (named ++ q ∷ []) (take (i + 1) paths)
named_new named paths i q within is same test =
    list_any-append test named (q ∷ [])
    ∙ ap (λ b. b || list_any test (q ∷ [])) (same test)
    ∙ or_false_end (list_any test (take i paths)) (test q)
    ∙ sym (list_any_more test paths i q within ∙ ap (λ p. list_any test (take i paths) || test p) (sym is))
  where
    or_false_end : (a b : Bool) → (a || (b || false)) ≡ (a || b)
    or_false_end true b = refl
    or_false_end false true = refl
    or_false_end false false = refl

pub named_again : (named paths : List PathValue) (i : ℕ) (q : PathValue) → i < length paths → q ≡ get_or paths i q → list_any (λ p. same_path p q) (take i paths) ≡ true → AreSameNamed named (take i paths)
    → AreSameNamed named (take (i + 1) paths)
named_again named paths i q within is seen same test =
    same test ∙ by (test q) refl (list_any test (take i paths)) refl ∙ sym (list_any_more test paths i q within ∙ ap (λ p. list_any test (take i paths) || test p) (sym is))
  where
    by : (b : Bool) → test q ≡ b → (a : Bool) → list_any test (take i paths) ≡ a → a ≡ (a || b)
    by true holds true e = refl
    by true holds false e = absurd (false≢true (sym e ∙ test_of_seen test (take i paths) q seen holds))
    by false fails true e = refl
    by false fails false e = refl

-- what was seen, with one path more
pub seen_with : (paths : List PathValue) (i : ℕ) (key q : PathValue) (old : Bool) → i < length paths → key ≡ get_or paths i key → old ≡ list_any (λ p. same_path p q) (take i paths)
    → cond (is_at (path_cmp key) q) true old ≡ list_any (λ p. same_path p q) (take (i + 1) paths)
seen_with paths i key q old within is was =
    ap (λ b. cond b true old) (at_is_same key q)
    ∙ ap (λ b. cond (same_path key q) true b) was
    ∙ either_way (same_path key q) (list_any (λ p. same_path p q) (take i paths))
    ∙ sym (list_any_more (λ p. same_path p q) paths i key within ∙ ap (λ p. list_any (λ x. same_path x q) (take i paths) || same_path p q) (sym is))
  where
    either_way : (a b : Bool) → cond a true b ≡ (b || a)
    either_way true true = refl
    either_way true false = refl
    either_way false true = refl
    either_way false false = refl
