-- Segments that are cut to what lies between two revisions.
use Rattle.std.proofs.Common.{◌≡◌, ◌<◌, ◌≤◌, ◌-◌, ◌+◌, ℕ, zero, suc, Bool, true, false, List, [], ◌∷◌, ◌++◌, Option, Some, None, arith, refl, sym, ap, ◌∙◌, max}
use Rattle.std.proofs.{Common.{min, length, drop}, lemmas.Bool.false≢true, lemmas.List.Elements.{All-head, All-tail, All-weaker}}
use Rattle.std.specs.{List.{All, cons_option}, Prelude.{if◌then◌else◌, is_some, nat_le, nat_lt}}
use borrow.Author.Tests.{lt-leb, lt-ltb, ltb-true}
use Rattle.svnpath.specs.Paths.{PathValue}
use Rattle.repo_api.specs.{Histories.{Changed, History}, declared.change.Source.Source}
use Rattle.traces.specs.Traces.{deciding_change, is_copied, is_copy_by, is_from, IsBelow, next_place, place_by, source_place, trace, trace_below}
use Rattle.traces.specs.declared.place.Place.{Place}
use Rattle.history.specs.Logs.{place_at}
use Rattle.history.proofs.{Orders.below, Passing.trace_undecided, Steps.trace_is}
use Rattle.file_histories.specs.Segments.{cut, cut_to, gap, gap_before, gap_between, is_beginning, left_from, newest, part, segments, segments_from}
use Rattle.file_histories.specs.{Segments.{segments_of, stretch}, declared.segment.Segment.Segment}
use Rattle.file_histories.proofs.Stretches.{goes_on, no_gap}

-- nothing of a segment that ends below the lowest revision is left
cut_below : (low high : ℕ) (s : Segment) → s.last < low → cut_to low high s ≡ None
cut_below low high s lower =
    ap (λ b. if b then Some (part low high s) else None)
    (lt-leb (max s.first low) (min s.last high) (omega (arith, lower)))

cut_away : (low high : ℕ) (s : Segment) (ss : List Segment) → s.last < low → cut low high ss ≡ [] → cut low high (s ∷ ss) ≡ []
cut_away low high s ss lower none = ap (λ o. cons_option o (cut low high ss)) (cut_below low high s lower) ∙ none

gap_away : (low high n m : ℕ) (ss : List Segment) → n ≤ low → cut low high ss ≡ [] → cut low high (gap_between n m ++ ss) ≡ []
gap_away low high n m ss under none = by (nat_lt (suc m) n) refl
  where
    by : (b : Bool) → nat_lt (suc m) n ≡ b → cut low high ((if b then gap n m ∷ [] else []) ++ ss) ≡ []
    by true is =
        let some : suc m < n = ltb-true (suc m) n is in
        cut_away low high (gap n m) ss (omega (arith, under, some)) none
    by false is = none

-- nor of the segments of places that are below it
before_away : (h : History) (low high n : ℕ) (places : List Place) → n ≤ low → All (λ q. q.revision < low) places
    → ((last : ℕ) → last < low → cut low high (segments_of h last places) ≡ [])
    → cut low high (gap_before n places ++ segments_of h (newest places) places) ≡ []
before_away h low high n [] under all away = refl
before_away h low high n (q ∷ places) under all away =
    gap_away low high n q.revision (segments_of h q.revision (q ∷ places)) under
    (away q.revision (All-head (λ r. r.revision < low) q places all))

places_away : (h : History) (low high last : ℕ) (places : List Place) → last < low → All (λ q. q.revision < low) places
    → cut low high (segments_of h last places) ≡ []
places_away h low high last [] lower all = refl
places_away h low high last (at ∷ places) lower all =
    by (is_beginning h at places) (λ l under. places_away h low high l places under rest)
  where
    rest : All (λ q. q.revision < low) places
    rest = All-tail (λ q. q.revision < low) at places all

    here : at.revision < low
    here = All-head (λ q. q.revision < low) at places all

    by : (b : Bool) → ((l : ℕ) → l < low → cut low high (segments_of h l places) ≡ [])
        → cut low high (if b then stretch at.revision last at.path ∷ (gap_before at.revision places ++ segments_of h (newest places) places) else segments_of h last places) ≡ []
    by true away =
        cut_away low high (stretch at.revision last at.path) (gap_before at.revision places ++ segments_of h (newest places) places) lower
        (before_away h low high at.revision places (omega (arith, here)) rest away)
    by false away = away last lower

-- a stretch is cut at the lowest revision, wherever it begins at or below it
cut_at_low : (low high last m n : ℕ) (p : PathValue) → m ≤ low → n ≤ low → cut low high (stretch m last p ∷ []) ≡ cut low high (stretch n last p ∷ [])
cut_at_low low high last m n p one other =
    let same : max m low ≡ max n low = omega (arith, one, other) in
    ap (λ f. cons_option (if nat_le f (min last high) then Some (piece f) else None) []) same
  where
    piece : ℕ → Segment
    piece f = record { first = f; last = min last high; path = Some p }

-- one that begins here, at or below the lowest revision, is the last
ended_at : (h : History) (low high last : ℕ) (p : Place) (places : List Place) → trace h false p ≡ p ∷ places → All (λ q. q.revision < p.revision) places
    → is_beginning h p places ≡ true → p.revision ≤ low
    → cut low high (segments_of h last (trace h false p)) ≡ cut low high (stretch p.revision last p.path ∷ [])
ended_at h low high last p places is all here under =
    ap (λ ps. cut low high (segments_of h last ps)) is
    ∙ ap (λ b. cut low high (if b then stretch p.revision last p.path ∷ (gap_before p.revision places ++ segments_of h (newest places) places) else segments_of h last places)) here
    ∙ ap (cons_option (cut_to low high (stretch p.revision last p.path)))
    (before_away h low high p.revision places under lower (λ l less. places_away h low high l places less lower))
  where
    lower : All (λ q. q.revision < low) places
    lower = All-weaker (λ q. q.revision < p.revision) (λ q. q.revision < low) (λ q less. omega (arith, less, under)) places all

path_ends : (h : History) (low high last : ℕ) (p : PathValue) (n : ℕ) → n ≤ low
    → cut low high (segments_of h last (trace h false (place_at n p))) ≡ cut low high (stretch n last p ∷ [])
path_ends h low high last p zero under = ap (λ ps. cut low high (segments_of h last ps)) (trace_is h false (place_at zero p))
path_ends h low high last p (suc n) under = by (deciding_change (h (suc n)) p) refl (path_ends h low high last p n (omega (arith, under)))
  where
    here : Place
    here = place_at (suc n) p

    places : List Place
    places = trace_below h false (suc n) (next_place false (h (suc n)) here)

    beginning : (o : Option Changed) → deciding_change (h (suc n)) p ≡ o → is_some o ≡ true → is_beginning h here places ≡ true
    beginning None is some = absurd (false≢true some)
    beginning (Some e) is some = by (e.1.source) refl
      where
        by : (s : Option Source) → e.1.source ≡ s → is_beginning h here places ≡ true
        by None made =
            ap (λ o. is_beginning h here (trace_below h false (suc n) (place_by o here))) is
            ∙ ap (λ o. is_beginning h here (trace_below h false (suc n) (source_place o (drop (length e.0) p)))) made
        by (Some s) copied = whichever places
          where
            brought : is_copied (h (suc n)) p ≡ true
            brought = ap is_copy_by is ∙ ap is_from copied

            whichever : (ps : List Place) → is_beginning h here ps ≡ true
            whichever [] = refl
            whichever (q ∷ ps) = brought

    by : (o : Option Changed) → deciding_change (h (suc n)) p ≡ o
        → cut low high (segments_of h last (trace h false (place_at n p))) ≡ cut low high (stretch n last p ∷ [])
        → cut low high (segments_of h last (trace h false here)) ≡ cut low high (stretch (suc n) last p ∷ [])
    by None is rest =
        ap (cut low high) (goes_on h last here (place_at n p) (trace_undecided h false p n is) (ap is_copy_by is))
        ∙ rest ∙ cut_at_low low high last n (suc n) p (omega (arith, under)) under
    by (Some e) is rest =
        ended_at h low high last here places (trace_is h false here) (below h false (suc n) (next_place false (h (suc n)) here))
        (beginning (Some e) is refl) under

-- at or below the lowest revision a stretch is all that is left of the segments
pub ends_low : (h : History) (low high last : ℕ) (p : Place) → p.revision ≤ low
    → cut low high (segments_of h last (trace h false p)) ≡ cut low high (stretch p.revision last p.path ∷ segments_from h p.revision None)
ends_low h low high last p under = path_ends h low high last p.path p.revision under

-- a gap comes first
pub gap_first : (h : History) (low high above : ℕ) (p : Place) → suc p.revision < above
    → cut low high (segments_from h above (Some p)) ≡ cut low high (record { first = p.revision + 1; last = above - 1; path = None } ∷ segments_from h p.revision (Some p))
gap_first h low high above p apart =
    let rest = segments_of h p.revision (trace h false p) in
    let next : suc p.revision ≡ p.revision + 1 = omega arith in
    ap (λ b. cut low high ((if b then gap above p.revision ∷ [] else []) ++ rest)) (lt-ltb (suc p.revision) above apart)
    ∙ ap (λ ss. cut low high (gap above p.revision ∷ (ss ++ rest))) (sym (no_gap p.revision p.revision (omega arith)))
    ∙ ap (λ n. cut low high (record { first = n; last = above - 1; path = None } ∷ segments_from h p.revision (Some p))) next

-- none comes first
pub none_first : (h : History) (low high above : ℕ) (p : Place) → above ≤ suc p.revision
    → cut low high (segments_from h above (Some p)) ≡ cut low high (segments_of h p.revision (trace h false p))
none_first h low high above p near = ap (λ ss. cut low high (ss ++ segments_of h p.revision (trace h false p))) (no_gap above p.revision near)

-- how far the trace leads once a gap is told, and once a stretch is
pub less_by_gap : (above : ℕ) (p : Place) → suc p.revision < above → left_from p.revision (Some p) < left_from above (Some p)
less_by_gap above p apart =
    let none : length (gap_between p.revision p.revision) ≡ 0 = ap length (no_gap p.revision p.revision (omega arith)) in
    let one : length (gap_between above p.revision) ≡ 1 =
    ap (λ b. length (if b then gap above p.revision ∷ [] else [])) (lt-ltb (suc p.revision) above apart) in
    omega (arith, none, one)

gap_at_most_one : (n m : ℕ) → length (gap_between n m) ≤ 1
gap_at_most_one n m = by (nat_lt (suc m) n)
  where
    by : (b : Bool) → length (if b then gap n m ∷ [] else []) ≤ 1
    by true = omega arith
    by false = omega arith

pub less_by_stretch : (above n : ℕ) (p : Place) (next : Option Place) → n ≤ p.revision → IsBelow n next → left_from n next < left_from above (Some p)
less_by_stretch above n p None within below = omega arith
less_by_stretch above n p (Some q) within below =
    let few : length (gap_between n q.revision) ≤ 1 = gap_at_most_one n q.revision in
    let lower : q.revision < n = below q refl in
    omega (arith, within, lower, few)

-- a segment of which a part is asked for, and one of which none is
pub part_told : (low high : ℕ) (s part : Segment) (ss : List Segment) (o : Option Segment) → o ≡ cut_to low high s → o ≡ Some part → cut low high (s ∷ ss) ≡ part ∷ cut low high ss
part_told low high s part ss o is some = ap (λ x. cons_option x (cut low high ss)) (sym is ∙ some)

pub none_told : (low high : ℕ) (s : Segment) (ss : List Segment) (o : Option Segment) → o ≡ cut_to low high s → o ≡ None → cut low high (s ∷ ss) ≡ cut low high ss
none_told low high s ss o is none = ap (λ x. cons_option x (cut low high ss)) (sym is ∙ none)

-- what a trace begins with
pub opened : (h : History) (low high : ℕ) (p : Place) → cut low high (segments_from h p.revision (Some p)) ≡ cut low high (segments h p.revision p.path)
opened h low high p = none_first h low high p.revision p (omega arith)
