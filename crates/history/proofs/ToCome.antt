-- What is still to come of several walks.
use Rattle.std.proofs.Common.{◌≡◌, ◌<◌, ◌≤◌, ℕ, suc, Bool, true, false, List, [], ◌∷◌, Option, Some, None, arith, refl, sym, ap, ◌∙◌}
use Rattle.std.specs.Prelude.{◌==◌, ◌&&◌, ◌||◌, filter}
use borrow.Author.Tests.{eqb-false, le-leb, lt-leb}
use Rattle.repo_api.specs.Histories.{History}
use Rattle.traces.specs.{Traces.traced, declared.place.Place.Place}
use Rattle.history.specs.{Logs.{listed, is_among, is_logged, found_from, revisions_down}, Walks.{above_head, above_heads, is_coming, coming}}
use Rattle.history.specs.declared.listed.Listed.{Listed}
use Rattle.history.proofs.{Among.{none_past_head, logged_from}, Downward.{down_same, down_to, down_from, down_first}}

none_past : (h : History) (strict : Bool) (low n : ℕ) (head : Option Listed) → above_head head ≤ n → is_among n (found_from h strict low head) ≡ false
none_past h strict low n None under = refl
none_past h strict low n (Some l) under = none_past_head h strict low n l (omega (arith, under))

-- nothing is to come that is newer than what the walks have found
pub none_newer : (h : History) (strict : Bool) (low n : ℕ) (heads : List (Option Listed)) → above_heads heads ≤ n → is_coming h strict low heads n ≡ false
none_newer h strict low n [] under = refl
none_newer h strict low n (head ∷ heads) under =
    ap (λ b. b || is_coming h strict low heads n) (none_past h strict low n head (omega (arith, under)))
    ∙ none_newer h strict low n heads (omega (arith, under))

-- and the newest that they have found is to come
pub newest_comes : (h : History) (strict : Bool) (low n : ℕ) (heads : List (Option Listed)) → above_heads heads ≡ suc n → is_coming h strict low heads n ≡ true
newest_comes h strict low n [] is = cc
newest_comes h strict low n (None ∷ heads) is = newest_comes h strict low n heads (omega (arith, is))
newest_comes h strict low n (Some l ∷ heads) is = by (newest_comes h strict low n heads) (l.revision == n) refl
  where
    last : (b : Bool) → (b || true) ≡ true
    last true = refl
    last false = refl

    by : (above_heads heads ≡ suc n → is_coming h strict low heads n ≡ true) → (b : Bool) → (l.revision == n) ≡ b
        → (((l.revision == n) || is_among n (listed h low (traced h strict l.next))) || is_coming h strict low heads n) ≡ true
    by rest true same = ap (λ b. (b || is_among n (listed h low (traced h strict l.next))) || is_coming h strict low heads n) same
    by rest false other =
        let past : l.revision ≡ n → ⊥ = eqb-false l.revision n other in
        ap (λ b. (is_among n (found_from h strict low (Some l))) || b) (rest (omega (arith, is, past)))
        ∙ last (is_among n (found_from h strict low (Some l)))

-- the newest of what is to come, and what is to come then
pub comes_then : (h : History) (strict : Bool) (low n : ℕ) (heads next : List (Option Listed)) → above_heads heads ≡ suc n → above_heads next ≤ n
    → ((m : ℕ) → m < n → is_coming h strict low next m ≡ is_coming h strict low heads m)
    → coming h strict low heads ≡ n ∷ coming h strict low next
comes_then h strict low n heads next newest below same =
    ap (λ k. filter (is_coming h strict low heads) (revisions_down 0 k)) newest
    ∙ down_first (is_coming h strict low heads) n (newest_comes h strict low n heads newest)
    ∙ ap (λ ns. n ∷ ns)
    (down_same (is_coming h strict low heads) (is_coming h strict low next) 0 n (λ m from under. sym (same m under))
    ∙ down_to (is_coming h strict low next) (above_heads next) n below (λ m over. none_newer h strict low m next over))

-- what is to come at the beginning
pub comes_first : (h : History) (strict : Bool) (low high : ℕ) (places : List Place) (heads : List (Option Listed)) → above_heads heads ≤ suc high
    → ((n : ℕ) → is_coming h strict low heads n ≡ is_logged h strict low places n)
    → coming h strict low heads ≡ filter (is_logged h strict 0 places) (revisions_down low (suc high))
comes_first h strict low high places heads below same =
    sym (down_to (is_coming h strict low heads) (above_heads heads) (suc high) below (λ m over. none_newer h strict low m heads over))
    ∙ down_from (is_coming h strict low heads) low (suc high)
    (λ n under. same n ∙ logged_from h strict low n places ∙ ap (λ b. b && is_logged h strict 0 places n) (lt-leb low n under))
    ∙ down_same (is_coming h strict low heads) (is_logged h strict 0 places) low (suc high)
    (λ n from under. same n ∙ logged_from h strict low n places ∙ ap (λ b. b && is_logged h strict 0 places n) (le-leb low n from))
