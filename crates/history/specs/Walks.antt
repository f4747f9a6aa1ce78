-- What is still to come of a log that goes out revision by revision.
use Rattle.std.specs.{Prelude.{◌==◌, ◌-◌, false, ◌≡◌, ◌<◌, ◌≤◌, ℕ, suc, Bool, List, [], ◌∷◌, Option, Some, None, filter, take, max, reverse}, List.list_any}
use Rattle.repo_api.specs.Histories.{History}
use Rattle.traces.specs.declared.place.Place.{Place}
use Rattle.history.specs.{Logs.{found_from, is_among, is_logged, revisions_down}, declared.listed.Listed.Listed, declared.walks.Walks.Walks}
use Rattle.history.specs.{declared.coming.Coming.Coming, declared.coming.Coming.TheVariants.{Falling, Rising}, declared.log.Log.Log}

-- one more than the revision that a walk has found
abbrev pub above_head : Option Listed → ℕ
above_head None = 0
above_head (Some l) = suc l.revision

-- one more than the newest revision that the walks have found, 0 where none has found any
abbrev pub above_heads : List (Option Listed) → ℕ
above_heads [] = 0
above_heads (head ∷ heads) = max (above_head head) (above_heads heads)

-- one more than a number, 0 where there is none
abbrev pub one_above : Option ℕ → ℕ
one_above None = 0
one_above (Some n) = suc n

-- whether one of the walks has found the revision, or will find it
abbrev pub is_coming : History → Bool → ℕ → List (Option Listed) → ℕ → Bool
is_coming h strict low heads n =
    list_any (λ head. is_among n (found_from h strict low head)) heads

-- what the walks have found and will find, the newest first, each revision once
abbrev pub coming : History → Bool → ℕ → List (Option Listed) → List ℕ
coming h strict low heads =
    filter (is_coming h strict low heads) (revisions_down 0 (above_heads heads))

-- a walk that has gone on past revision n: what it has found now is below n, and below n it finds the
-- same
pub record IsPast (h : History) (strict : Bool) (low n : ℕ) (head next : Option Listed) : Type 0 where
  pub below : above_head next ≤ n
  pub same : (m : ℕ) → m < n
      → is_among m (found_from h strict low next) ≡ is_among m (found_from h strict low head)

-- and so with all walks
pub record ArePast (h : History) (strict : Bool) (low n : ℕ)
    (heads next : List (Option Listed)) : Type 0 where
  pub below : above_heads next ≤ n
  pub same : (m : ℕ) → m < n → is_coming h strict low next m ≡ is_coming h strict low heads m

-- walks that begin at these places, which are in revision n: what they have found is not above n, and
-- they find what the places' traces list
pub record AreFirst (h : History) (strict : Bool) (low n : ℕ) (places : List Place)
    (heads : List (Option Listed)) : Type 0 where
  pub below : above_heads heads ≤ suc n
  pub same : (m : ℕ) → is_coming h strict low heads m ≡ is_logged h strict low places m

abbrev pub of_walks : History → Walks → List ℕ
of_walks h w = coming h w.strict w.low w.heads.items

-- falling revisions are found as they are asked for; rising ones stand there, the last one first
abbrev pub of_coming : History → Coming → List ℕ
of_coming h (Falling w) = of_walks h w
of_coming h (Rising ns) = reverse ns.items

-- so many of them, or all
abbrev pub up_to : Option ℕ → List ℕ → List ℕ
up_to None ns = ns
up_to (Some n) ns = take n ns

-- none may come any more
abbrev pub is_spent : Option ℕ → Bool
is_spent None = false
is_spent (Some n) = n == 0

-- one fewer may come
abbrev pub one_less : Option ℕ → Option ℕ
one_less None = None
one_less (Some n) = Some (n - 1)

-- what is still to come of a log
abbrev pub to_come : History → Log → List ℕ
to_come h l = up_to l.left (of_coming h l.coming)

-- what comes next, if anything, and then the rest
abbrev pub next_then : Option ℕ → List ℕ → List ℕ
next_then None ns = []
next_then (Some n) ns = n ∷ ns
