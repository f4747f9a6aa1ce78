-- The order of traces and logs.
use Rattle.std.proofs.Common.{◌≡◌, ◌<◌, ◌≤◌, ℕ, zero, suc, Bool, true, false, List, [], ◌∷◌, ◌++◌, Option, Some, None, arith, refl, sym, ap, subst, reverse}
use Rattle.std.proofs.{Common.{take, length, get_or, min}, lemmas.Bool.leb-true, lemmas.List.{reverse-append, get_or-take, length-take}}
use Rattle.std.proofs.lemmas.List.Elements.{All-nil, All-cons, All-head, All-tail, All-same, All-push, All-weaker, All-take, All-filter, filter_passes}
use Rattle.std.proofs.{lemmas.List.Kept.{AllPairs-cons, AllPairs-filter}, lemmas.List.Quantifiers.all_pairs_push}
use Rattle.std.specs.{List.{AllPairs, All}, Prelude.{if◌then◌else◌, filter, nat_le, ◌==◌}}
use borrow.Author.Tests.{eqb-true, le-leb, lt-leb}
use Rattle.repo_api.specs.Histories.{History}
use Rattle.traces.specs.{Traces.{trace_below, next_place}, declared.place.Place.Place}
use Rattle.history.specs.{Logs.{limited, is_of_log, newest_asked, oldest_asked, revisions_down, revisions_from}, Laws.{TracesFall, LogsAreRight}}
use Rattle.history.specs.declared.log_ask.LogAsk.{LogAsk}
use Rattle.history.proofs.Steps.{at_one}

no_pairs : {X : Type 0} (R : X → X → Type 0) → AllPairs R []
no_pairs R i j d before within = absurd (omega arith)

-- the places of a trace below a revision are below it, and fall
pub below : (h : History) (strict : Bool) (k : ℕ) (o : Option Place) → All (λ p. p.revision < k) (trace_below h strict k o)
below h strict zero o = All-nil (λ p. p.revision < zero)
below h strict (suc k) None = All-nil (λ p. p.revision < suc k)
below h strict (suc k) (Some p) = by (λ o. All-weaker (λ q. q.revision < k) (λ q. q.revision < suc k) (λ q lower. omega (arith, lower)) (trace_below h strict k o) (below h strict k o)) (p.revision == k) refl
  where
    by : ((o : Option Place) → All (λ q. q.revision < suc k) (trace_below h strict k o)) → (b : Bool) → (p.revision == k) ≡ b
        → All (λ q. q.revision < suc k) (trace_below h strict (suc k) (Some p))
    by rest true same =
        let is : p.revision ≡ k = eqb-true p.revision k same in
        All-same (λ q. q.revision < suc k) (trace_below h strict (suc k) (Some p)) (p ∷ trace_below h strict k (next_place strict (h k) p)) (at_one h strict k p true same)
        (All-cons (λ q. q.revision < suc k) p (trace_below h strict k (next_place strict (h k) p)) (omega (arith, is)) (rest (next_place strict (h k) p)))
    by rest false past =
        All-same (λ q. q.revision < suc k) (trace_below h strict (suc k) (Some p)) (trace_below h strict k (Some p)) (at_one h strict k p false past) (rest (Some p))

fall : (h : History) (strict : Bool) (k : ℕ) (o : Option Place) → AllPairs (λ p q. q.revision < p.revision) (trace_below h strict k o)
fall h strict zero o = no_pairs (λ p q. q.revision < p.revision)
fall h strict (suc k) None = no_pairs (λ p q. q.revision < p.revision)
fall h strict (suc k) (Some p) = by (λ o. fall h strict k o) (p.revision == k) refl
  where
    Falls : List Place → Type 0
    Falls ps = AllPairs (λ p q. q.revision < p.revision) ps

    by : ((o : Option Place) → AllPairs (λ p q. q.revision < p.revision) (trace_below h strict k o)) → (b : Bool) → (p.revision == k) ≡ b
        → AllPairs (λ p q. q.revision < p.revision) (trace_below h strict (suc k) (Some p))
    by rest true same =
        let is : p.revision ≡ k = eqb-true p.revision k same in
        let P : List Place → Type 0 = λ ps. AllPairs (λ p q. q.revision < p.revision) ps in
        subst P (sym (at_one h strict k p true same))
        (AllPairs-cons (λ p q. q.revision < p.revision) p (trace_below h strict k (next_place strict (h k) p))
        (All-weaker (λ q. q.revision < k) (λ q. q.revision < p.revision) (λ q lower. omega (arith, lower, is)) (trace_below h strict k (next_place strict (h k) p))
        (below h strict k (next_place strict (h k) p)))
        (rest (next_place strict (h k) p)))
    by rest false past =
        let P : List Place → Type 0 = λ ps. AllPairs (λ p q. q.revision < p.revision) ps in
        subst P (sym (at_one h strict k p false past)) (rest (Some p))

pub traces_fall : (h : History) → TracesFall h
traces_fall h strict at = fall h strict (suc at.revision) (Some at)

-- revisions downward
down_between : (low k : ℕ) → All (λ n. (low ≤ n) × (n < k)) (revisions_down low k)
down_between low zero = All-nil (λ n. (low ≤ n) × (n < zero))
down_between low (suc k) =
    by (All-weaker (λ n. (low ≤ n) × (n < k)) (λ n. (low ≤ n) × (n < suc k)) (λ n w. (w.0, omega (arith, w.1))) (revisions_down low k) (down_between low k)) (nat_le low k) refl
  where
    by : All (λ n. (low ≤ n) × (n < suc k)) (revisions_down low k) → (b : Bool) → nat_le low k ≡ b
        → All (λ n. (low ≤ n) × (n < suc k)) (if b then k ∷ revisions_down low k else [])
    by rest true within = All-cons (λ n. (low ≤ n) × (n < suc k)) k (revisions_down low k) (leb-true low k within, omega arith) rest
    by rest false past = All-nil (λ n. (low ≤ n) × (n < suc k))

down_falls : (low k : ℕ) → AllPairs (λ m n. n < m) (revisions_down low k)
down_falls low zero = no_pairs (λ m n. n < m)
down_falls low (suc k) = by (down_falls low k) (nat_le low k)
  where
    by : AllPairs (λ m n. n < m) (revisions_down low k) → (b : Bool) → AllPairs (λ m n. n < m) (if b then k ∷ revisions_down low k else [])
    by rest true =
        AllPairs-cons (λ m n. n < m) k (revisions_down low k)
        (All-weaker (λ n. (low ≤ n) × (n < k)) (λ n. n < k) (λ n w. w.1) (revisions_down low k) (down_between low k)) rest
    by rest false = no_pairs (λ m n. n < m)

-- a list from its end
reversed_all : (P : ℕ → Type 0) (ns : List ℕ) → All P ns → All P (reverse ns)
reversed_all P [] all = All-nil P
reversed_all P (n ∷ ns) all =
    All-same P (reverse (n ∷ ns)) (reverse ns ++ n ∷ []) (reverse-append (n ∷ []) ns)
    (All-push P (reverse ns) n (reversed_all P ns (All-tail P n ns all)) (All-head P n ns all))

later_pairs : {X : Type 0} (R : X → X → Type 0) (x : X) (xs : List X) → AllPairs R (x ∷ xs) → AllPairs R xs
later_pairs R x xs all i j d before within = all (suc i) (suc j) d (omega (arith, before)) (omega (arith, within))

first_pairs : {X : Type 0} (R : X → X → Type 0) (x : X) (xs : List X) → AllPairs R (x ∷ xs) → All (R x) xs
first_pairs R x xs all k d within = all zero (suc k) d (omega arith) (omega (arith, within))

rises_reversed : (ns : List ℕ) → AllPairs (λ m n. n < m) ns → AllPairs (λ m n. m < n) (reverse ns)
rises_reversed [] all = no_pairs (λ m n. m < n)
rises_reversed (n ∷ ns) all =
    let P : List ℕ → Type 0 = λ xs. AllPairs (λ m n. m < n) xs in
    subst P (sym (reverse-append (n ∷ []) ns))
    (all_pairs_push (λ m n. m < n) (reverse ns) n (rises_reversed ns (later_pairs (λ m n. n < m) n ns all))
    (λ k d within. reversed_all (λ m. m < n) ns (first_pairs (λ m n. n < m) n ns all) k d within))

-- the first so many of a list
taken_pairs : (R : ℕ → ℕ → Type 0) (k : ℕ) (ns : List ℕ) → AllPairs R ns → AllPairs R (take k ns)
taken_pairs R k ns all i j d before within =
    let long : length (take k ns) ≡ min k (length ns) = length-take k ns in
    let j_in : j < k = omega (arith, within, long) in
    let i_in : i < k = omega (arith, before, j_in) in
    let P : ℕ → Type 0 = λ m. R m (get_or (take k ns) j d) in
    let Q : ℕ → Type 0 = λ m. R (get_or ns i d) m in
    subst P (sym (get_or-take k ns i d i_in)) (subst Q (sym (get_or-take k ns j d j_in)) (all i j d before (omega (arith, within, long))))

limited_pairs : (R : ℕ → ℕ → Type 0) (limit : ℕ) (ns : List ℕ) → AllPairs R ns → AllPairs R (limited limit ns)
limited_pairs R zero ns all = all
limited_pairs R (suc k) ns all = taken_pairs R (suc k) ns all

limited_all : (P : ℕ → Type 0) (limit : ℕ) (ns : List ℕ) → All P ns → All P (limited limit ns)
limited_all P zero ns all = all
limited_all P (suc k) ns all = All-take P (suc k) ns all

-- the revisions from start to end
from_falls : (start end : ℕ) → end ≤ start → AllPairs (λ m n. n < m) (revisions_from start end)
from_falls start end order =
    let P : List ℕ → Type 0 = λ xs. AllPairs (λ m n. n < m) xs in
    subst P (sym (ap (λ b. if b then revisions_down end (suc start) else reverse (revisions_down start (suc end))) (le-leb end start order))) (down_falls end (suc start))

from_rises : (start end : ℕ) → start < end → AllPairs (λ m n. m < n) (revisions_from start end)
from_rises start end order =
    let P : List ℕ → Type 0 = λ xs. AllPairs (λ m n. m < n) xs in
    subst P (sym (ap (λ b. if b then revisions_down end (suc start) else reverse (revisions_down start (suc end))) (lt-leb end start order)))
    (rises_reversed (revisions_down start (suc end)) (down_falls start (suc end)))

from_between : (ask : LogAsk) → All (λ n. (oldest_asked ask ≤ n) × (n ≤ newest_asked ask)) (revisions_from ask.start ask.end)
from_between ask = by (nat_le ask.end ask.start)
  where
    Between : ℕ → Type 0
    Between n = (oldest_asked ask ≤ n) × (n ≤ newest_asked ask)

    by : (b : Bool) → All (λ n. (oldest_asked ask ≤ n) × (n ≤ newest_asked ask)) (if b then revisions_down ask.end (suc ask.start) else reverse (revisions_down ask.start (suc ask.end)))
    by true =
        All-weaker (λ n. (ask.end ≤ n) × (n < suc ask.start)) (λ n. (oldest_asked ask ≤ n) × (n ≤ newest_asked ask)) (λ n w. (omega (arith, w.0), omega (arith, w.1)))
        (revisions_down ask.end (suc ask.start)) (down_between ask.end (suc ask.start))
    by false =
        reversed_all (λ n. (oldest_asked ask ≤ n) × (n ≤ newest_asked ask)) (revisions_down ask.start (suc ask.end))
        (All-weaker (λ n. (ask.start ≤ n) × (n < suc ask.end)) (λ n. (oldest_asked ask ≤ n) × (n ≤ newest_asked ask)) (λ n w. (omega (arith, w.0), omega (arith, w.1)))
        (revisions_down ask.start (suc ask.end)) (down_between ask.start (suc ask.end)))

pub logs_are_right : (h : History) → LogsAreRight h
logs_are_right h ask paths = record {
  between =
      limited_all (λ n. (oldest_asked ask ≤ n) × (n ≤ newest_asked ask)) ask.limit (filter (is_of_log h ask paths) (revisions_from ask.start ask.end))
      (All-filter (is_of_log h ask paths) (λ n. (oldest_asked ask ≤ n) × (n ≤ newest_asked ask)) (revisions_from ask.start ask.end) (from_between ask));
  falling = λ order.
      limited_pairs (λ m n. n < m) ask.limit (filter (is_of_log h ask paths) (revisions_from ask.start ask.end))
      (AllPairs-filter (λ m n. n < m) (is_of_log h ask paths) (revisions_from ask.start ask.end) (from_falls ask.start ask.end order));
  rising = λ order.
      limited_pairs (λ m n. m < n) ask.limit (filter (is_of_log h ask paths) (revisions_from ask.start ask.end))
      (AllPairs-filter (λ m n. m < n) (is_of_log h ask paths) (revisions_from ask.start ask.end) (from_rises ask.start ask.end order));
  listed =
      limited_all (λ n. is_of_log h ask paths n ≡ true) ask.limit (filter (is_of_log h ask paths) (revisions_from ask.start ask.end))
      (filter_passes (is_of_log h ask paths) (revisions_from ask.start ask.end));
}
