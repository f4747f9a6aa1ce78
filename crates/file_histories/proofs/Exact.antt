-- Segments leave out no revision, have none twice, and say the path of each.
use Rattle.std.proofs.Common.{◌≡◌, ◌<◌, ◌≤◌, ◌-◌, ◌⊎◌, inl, inr, ℕ, zero, suc, Bool, true, false, List, [], ◌∷◌, ◌++◌, Option, Some, None, arith, refl, sym, ap}
use Rattle.std.proofs.Common.{◌∙◌, subst, length, drop, max, min}
use Rattle.std.specs.{List.cons_option, Prelude.{if◌then◌else◌, nat_le, nat_lt, ◌&&◌}}
use borrow.Author.Tests.{leb-true, leb-false, le-leb, lt-leb, ltb-true, ltb-false}
use Rattle.svnpath.specs.Paths.{PathValue}
use Rattle.repo_api.specs.{Histories.{Changed, History}, declared.change.Source.Source}
use Rattle.traces.specs.{Traces.{deciding_change, is_copied, is_copy_by, is_from, place_by, source_place, trace, trace_below}, declared.place.Place.Place}
use Rattle.history.specs.{Lines.{last_place, line_start}, Locations.location_back, Logs.place_at}
use Rattle.history.proofs.{Ends.{line_goes_on, starts_here_or_below}, Passing.trace_undecided}
use Rattle.history.proofs.Steps.{goes_on_to, is_at, is_past, trace_above, trace_is, trace_passes}
use Rattle.file_histories.specs.{Laws.{AreJoined, AreSegmentsOf, IsCut, told_of}, Segments.{cut, gap, gap_between, part, segments, segments_of, stretch}}
use Rattle.file_histories.specs.declared.segment.Segment.{Segment}
use Rattle.file_histories.proofs.Stretches.{begins_copied, begins_made, goes_on}

module _ (h : History) (P : Place → Type 0)
    (begins : (p : Place) → trace h false p ≡ p ∷ [] → P p)
    (goes : (p : PathValue) (n : ℕ) → trace h false (place_at (suc n) p) ≡ place_at (suc n) p ∷ trace h false (place_at n p)
    → is_copied (h (suc n)) p ≡ false → P (place_at n p) → P (place_at (suc n) p))
    (copied : (p q : Place) → trace h false p ≡ p ∷ trace h false q → is_copied (h p.revision) p.path ≡ true → q.revision < p.revision → P q → P p) where
  -- what holds where a trace begins, and then where a stretch goes on and where a copy leads on, holds at each place
  by_trace : (k : ℕ) (p : PathValue) (n : ℕ) → n < k → P (place_at n p)
  by_trace zero p n less = absurd (omega (arith, less))
  by_trace (suc k) p zero less = begins (place_at zero p) (trace_is h false (place_at zero p))
  by_trace (suc k) p (suc n) less = by (deciding_change (h (suc n)) p) refl (λ q lower. by_trace k q.path q.revision (omega (arith, lower, less)))
    where
      here : Place
      here = place_at (suc n) p

      by : (o : Option Changed) → deciding_change (h (suc n)) p ≡ o → ((q : Place) → q.revision < suc n → P q) → P here
      by None is before = goes p n (trace_undecided h false p n is) (ap is_copy_by is) (before (place_at n p) (omega arith))
      by (Some e) is before = from (e.1.source) refl
        where
          whole : (s : Option Source) → e.1.source ≡ s → trace h false here ≡ here ∷ trace_below h false (suc n) (source_place s (drop (length e.0) p))
          whole s made =
              trace_is h false here
              ∙ ap (λ o. here ∷ trace_below h false (suc n) (place_by o here)) is
              ∙ ap (λ x. here ∷ trace_below h false (suc n) (source_place x (drop (length e.0) p))) made

          from : (s : Option Source) → e.1.source ≡ s → P here
          from None made = begins here (whole None made)
          from (Some s) made = under (nat_lt s.revision (suc n)) refl
            where
              source : Place
              source = record { path = s.path ++ drop (length e.0) p; revision = s.revision }

              under : (b : Bool) → nat_lt s.revision (suc n) ≡ b → P here
              under true is_lower =
                  let lower : s.revision < suc n = ltb-true s.revision (suc n) is_lower in
                  copied here source (whole (Some s) made ∙ ap (λ ps. here ∷ ps) (trace_passes h false (suc n) source lower))
                  (ap is_copy_by is ∙ ap is_from made) lower (before source lower)
              under false is_higher =
                  begins here (whole (Some s) made ∙ ap (λ ps. here ∷ ps) (trace_above h false (suc n) source (ltb-false s.revision (suc n) is_higher)))

-- ---- none is left out, and none is there twice

abbrev Joined : History → Place → Type 0
Joined h p = (last : ℕ) → p.revision ≤ last → AreJoined (suc last) (segments_of h last (trace h false p))

joined_at : (h : History) (p : PathValue) (n : ℕ) → Joined h (place_at n p)
joined_at h p n = by_trace h (Joined h) begins goes copied (suc n) p n (omega arith)
  where
    begins : (q : Place) → trace h false q ≡ q ∷ [] → Joined h q
    begins q is last within = subst (AreJoined (suc last)) (sym (begins_made h last q is)) (refl, within, tt)

    goes : (q : PathValue) (m : ℕ) → trace h false (place_at (suc m) q) ≡ place_at (suc m) q ∷ trace h false (place_at m q)
        → is_copied (h (suc m)) q ≡ false → Joined h (place_at m q) → Joined h (place_at (suc m) q)
    goes q m is uncopied rest last within =
        subst (AreJoined (suc last)) (sym (goes_on h last (place_at (suc m) q) (place_at m q) is uncopied)) (rest last (omega (arith, within)))

    copied : (q r : Place) → trace h false q ≡ q ∷ trace h false r → is_copied (h q.revision) q.path ≡ true → r.revision < q.revision → Joined h r → Joined h q
    copied q r is brought lower rest last within =
        subst (AreJoined (suc last)) (sym (begins_copied h last q r is brought)) (refl, within, by (nat_lt (suc r.revision) q.revision) refl)
      where
        further : AreJoined (suc r.revision) (segments_of h r.revision (trace h false r))
        further = rest r.revision (omega arith)

        by : (b : Bool) → nat_lt (suc r.revision) q.revision ≡ b
            → AreJoined q.revision ((if b then gap q.revision r.revision ∷ [] else []) ++ segments_of h r.revision (trace h false r))
        by true is_apart =
            let apart : suc r.revision < q.revision = ltb-true (suc r.revision) q.revision is_apart in
            (omega (arith, apart), omega (arith, apart), further)
        by false is_near =
            let near : q.revision ≤ suc r.revision = ltb-false (suc r.revision) q.revision is_near in
            let same : suc r.revision ≡ q.revision = omega (arith, near, lower) in
            subst (λ k. AreJoined k (segments_of h r.revision (trace h false r))) same further

-- ---- what they say of a revision

-- what is to be said of a revision up to the last of the first stretch
abbrev wanted : History → Place → ℕ → Option (Option PathValue)
wanted h p n = if nat_le (line_start h p).revision n then Some (if nat_le n p.revision then location_back h p n else Some p.path) else None

-- of the place's own revision and those above
wanted_above : (h : History) (p : Place) (n : ℕ) → (line_start h p).revision ≤ p.revision → p.revision ≤ n → wanted h p n ≡ Some (Some p.path)
wanted_above h p n starts above =
    ap (λ b. if b then Some (if nat_le n p.revision then location_back h p n else Some p.path) else None) (le-leb (line_start h p).revision n (omega (arith, starts, above)))
    ∙ by (nat_le n p.revision) refl
  where
    by : (b : Bool) → nat_le n p.revision ≡ b → Some (if b then location_back h p n else Some p.path) ≡ Some (Some p.path)
    by true is =
        let under : n ≤ p.revision = leb-true n p.revision is in
        ap Some (is_at h n p (omega (arith, under, above)))
    by false is = refl

-- of those below
wanted_below : (h : History) (p : Place) (n : ℕ) → n ≤ p.revision
    → wanted h p n ≡ (if nat_le (line_start h p).revision n then Some (location_back h p n) else None)
wanted_below h p n under =
    ap (λ b. if nat_le (line_start h p).revision n then Some (if b then location_back h p n else Some p.path) else None) (le-leb n p.revision under)

starts_within : (h : History) (p : Place) → (line_start h p).revision ≤ p.revision
starts_within h p = by (starts_here_or_below h p)
  where
    by : (line_start h p ≡ p) ⊎ ((line_start h p).revision < p.revision) → (line_start h p).revision ≤ p.revision
    by (inl here) = let same : (line_start h p).revision ≡ p.revision = ap (λ (q : Place). q.revision) here in omega (arith, same)
    by (inr lower) = omega (arith, lower)

abbrev Says : History → Place → Type 0
Says h p = (last n : ℕ) → p.revision ≤ last → n ≤ last → told_of n (segments_of h last (trace h false p)) ≡ wanted h p n

-- of a stretch and what comes below it
stretch_says : (h : History) (p : Place) (last n : ℕ) (ss : List Segment) → n ≤ last → p.revision ≤ n → told_of n (stretch p.revision last p.path ∷ ss) ≡ Some (Some p.path)
stretch_says h p last n ss upto above =
    ap (λ b. if b && nat_le n last then Some (Some p.path) else told_of n ss) (le-leb p.revision n above)
    ∙ ap (λ b. if b then Some (Some p.path) else told_of n ss) (le-leb n last upto)

stretch_passes : (h : History) (p : Place) (last n : ℕ) (ss : List Segment) → n < p.revision → told_of n (stretch p.revision last p.path ∷ ss) ≡ told_of n ss
stretch_passes h p last n ss under = ap (λ b. if b && nat_le n last then Some (Some p.path) else told_of n ss) (lt-leb p.revision n under)

says_at : (h : History) (p : PathValue) (n : ℕ) → Says h (place_at n p)
says_at h p n = by_trace h (Says h) begins goes copied (suc n) p n (omega arith)
  where
    begins : (q : Place) → trace h false q ≡ q ∷ [] → Says h q
    begins q is last n within upto = ap (told_of n) (begins_made h last q is) ∙ by (nat_le q.revision n) refl
      where
        starts : line_start h q ≡ q
        starts = ap (last_place q) is

        by : (b : Bool) → nat_le q.revision n ≡ b → told_of n (stretch q.revision last q.path ∷ []) ≡ wanted h q n
        by true is_above =
            let above : q.revision ≤ n = leb-true q.revision n is_above in
            stretch_says h q last n [] upto above ∙ sym (wanted_above h q n (starts_within h q) above)
        by false is_under =
            stretch_passes h q last n [] (leb-false q.revision n is_under)
            ∙ sym (ap (λ (s : Place). if nat_le s.revision n then Some (if nat_le n q.revision then location_back h q n else Some q.path) else None) starts
            ∙ ap (λ b. if b then Some (if nat_le n q.revision then location_back h q n else Some q.path) else None) is_under)

    goes : (q : PathValue) (m : ℕ) → trace h false (place_at (suc m) q) ≡ place_at (suc m) q ∷ trace h false (place_at m q)
        → is_copied (h (suc m)) q ≡ false → Says h (place_at m q) → Says h (place_at (suc m) q)
    goes q m is uncopied rest last n within upto =
        ap (told_of n) (goes_on h last (place_at (suc m) q) (place_at m q) is uncopied)
        ∙ rest last n (omega (arith, within)) upto
        ∙ by (nat_le n m) refl
      where
        here : Place
        here = place_at (suc m) q

        before : Place
        before = place_at m q

        by : (b : Bool) → nat_le n m ≡ b → wanted h before n ≡ wanted h here n
        by true is_under =
            let under : n ≤ m = leb-true n m is_under in
            wanted_below h before n under
            ∙ ap (λ o. if nat_le (line_start h before).revision n then Some o else None) (goes_on_to h n here before is (omega (arith, under)))
            ∙ ap (λ (s : Place). if nat_le s.revision n then Some (location_back h here n) else None) (sym (line_goes_on h here before is))
            ∙ sym (wanted_below h here n (omega (arith, under)))
        by false is_above =
            let above : m < n = leb-false n m is_above in
            wanted_above h before n (starts_within h before) (omega (arith, above)) ∙ sym (wanted_above h here n (starts_within h here) (omega (arith, above)))

    copied : (q r : Place) → trace h false q ≡ q ∷ trace h false r → is_copied (h q.revision) q.path ≡ true → r.revision < q.revision → Says h r → Says h q
    copied q r is brought lower rest last n within upto =
        ap (told_of n) (begins_copied h last q r is brought) ∙ by (nat_le q.revision n) refl
      where
        below : List Segment
        below = segments_of h r.revision (trace h false r)

        same_start : line_start h q ≡ line_start h r
        same_start = line_goes_on h q r is

        -- below the copy
        right_below : n < q.revision → told_of n (gap_between q.revision r.revision ++ below) ≡ (if nat_le (line_start h r).revision n then Some (location_back h r n) else None)
        right_below under = maybe (nat_lt (suc r.revision) q.revision) refl
          where
            here : n ≤ r.revision → told_of n below ≡ (if nat_le (line_start h r).revision n then Some (location_back h r n) else None)
            here upto_source = rest r.revision n (omega arith) upto_source ∙ wanted_below h r n upto_source

            Right : List Segment → Type 0
            Right front = told_of n (front ++ below) ≡ (if nat_le (line_start h r).revision n then Some (location_back h r n) else None)

            in_gap : suc r.revision < q.revision → (b : Bool) → nat_le (suc r.revision) n ≡ b → Right (gap q.revision r.revision ∷ [])
            in_gap apart true is_higher =
                let past : r.revision < n = leb-true (suc r.revision) n is_higher in
                ap (λ b. if b && nat_le n (q.revision - 1) then Some None else told_of n below) is_higher
                ∙ ap (λ b. if b then Some None else told_of n below) (le-leb n (q.revision - 1) (omega (arith, under)))
                ∙ sym (ap (λ b. if b then Some (location_back h r n) else None) (le-leb (line_start h r).revision n (omega (arith, past, starts_within h r)))
                ∙ ap Some (is_past h n r past))
            in_gap apart false is_under =
                let upto_source : n < suc r.revision = leb-false (suc r.revision) n is_under in
                ap (λ b. if b && nat_le n (q.revision - 1) then Some None else told_of n below) is_under ∙ here (omega (arith, upto_source))

            maybe : (b : Bool) → nat_lt (suc r.revision) q.revision ≡ b
                → Right (if b then gap q.revision r.revision ∷ [] else [])
            maybe true is_apart = in_gap (ltb-true (suc r.revision) q.revision is_apart) (nat_le (suc r.revision) n) refl
            maybe false is_near =
                let near : q.revision ≤ suc r.revision = ltb-false (suc r.revision) q.revision is_near in
                here (omega (arith, near, under))

        by : (b : Bool) → nat_le q.revision n ≡ b → told_of n (stretch q.revision last q.path ∷ (gap_between q.revision r.revision ++ below)) ≡ wanted h q n
        by true is_above =
            let above : q.revision ≤ n = leb-true q.revision n is_above in
            stretch_says h q last n (gap_between q.revision r.revision ++ below) upto above ∙ sym (wanted_above h q n (starts_within h q) above)
        by false is_under =
            let under : n < q.revision = leb-false q.revision n is_under in
            stretch_passes h q last n (gap_between q.revision r.revision ++ below) under
            ∙ right_below under
            ∙ ap (λ o. if nat_le (line_start h r).revision n then Some o else None) (goes_on_to h n q r is under)
            ∙ ap (λ (s : Place). if nat_le s.revision n then Some (location_back h q n) else None) (sym same_start)
            ∙ sym (wanted_below h q n (omega (arith, under)))

pub are_whole : (h : History) (at : Place) → AreSegmentsOf h at (segments h at.revision at.path)
are_whole h at = record {
  joined = joined_at h at.path at.revision at.revision (omega arith);
  told = λ n upto. says_at h at.path at.revision at.revision n (omega arith) upto ∙ wanted_below h at n upto;
}

-- ---- what is cut

-- a part of a segment says the same of what is asked for
max_under : (a b n : ℕ) → nat_le (max a b) n ≡ (nat_le b n && nat_le a n)
max_under a b n = by (nat_le a n) (nat_le b n) refl refl
  where
    by : (x y : Bool) → nat_le a n ≡ x → nat_le b n ≡ y → nat_le (max a b) n ≡ (y && x)
    by true true one other = let p = leb-true a n one in let q = leb-true b n other in le-leb (max a b) n (omega (arith, p, q))
    by false true one other = let p = leb-false a n one in lt-leb (max a b) n (omega (arith, p))
    by true false one other = let q = leb-false b n other in lt-leb (max a b) n (omega (arith, q))
    by false false one other = let q = leb-false b n other in lt-leb (max a b) n (omega (arith, q))

above_min : (a b n : ℕ) → nat_le n (min a b) ≡ (nat_le n b && nat_le n a)
above_min a b n = by (nat_le n a) (nat_le n b) refl refl
  where
    by : (x y : Bool) → nat_le n a ≡ x → nat_le n b ≡ y → nat_le n (min a b) ≡ (y && x)
    by true true one other = let p = leb-true n a one in let q = leb-true n b other in le-leb n (min a b) (omega (arith, p, q))
    by false true one other = let p = leb-false n a one in lt-leb n (min a b) (omega (arith, p))
    by true false one other = let q = leb-false n b other in lt-leb n (min a b) (omega (arith, q))
    by false false one other = let q = leb-false n b other in lt-leb n (min a b) (omega (arith, q))

pub is_cut : (low high : ℕ) (ss : List Segment) → IsCut low high ss (cut low high ss)
is_cut low high [] n = nothing (nat_le low n && nat_le n high)
  where
    nothing : (b : Bool) → None ≡ (if b then told_of n [] else None)
    nothing true = refl
    nothing false = refl
is_cut low high (s ∷ ss) n = by (nat_le (max s.first low) (min s.last high)) refl (is_cut low high ss n)
  where
    told : Option (Option PathValue)
    told = told_of n ss

    first_of : (f l a b : Bool) → (if (a && f) && (b && l) then Some s.path else (if a && b then told else None)) ≡ (if a && b then (if f && l then Some s.path else told) else None)
    first_of f l false b = refl
    first_of f l true false = outer f
      where
        outer : (f : Bool) → (if f && false then Some s.path else None) ≡ None
        outer true = refl
        outer false = refl
    first_of true true true true = refl
    first_of true false true true = refl
    first_of false l true true = refl

    by : (c : Bool) → nat_le (max s.first low) (min s.last high) ≡ c → told_of n (cut low high ss) ≡ (if nat_le low n && nat_le n high then told else None)
        → told_of n (cons_option (if c then Some (part low high s) else None) (cut low high ss))
        ≡ (if nat_le low n && nat_le n high then told_of n (s ∷ ss) else None)
    by true is rest =
        ap (λ o. if nat_le (max s.first low) n && nat_le n (min s.last high) then Some s.path else o) rest
        ∙ ap (λ b. if b && nat_le n (min s.last high) then Some s.path else (if nat_le low n && nat_le n high then told else None)) (max_under s.first low n)
        ∙ ap (λ b. if (nat_le low n && nat_le s.first n) && b then Some s.path else (if nat_le low n && nat_le n high then told else None)) (above_min s.last high n)
        ∙ first_of (nat_le s.first n) (nat_le n s.last) (nat_le low n) (nat_le n high)
    by false is rest = rest ∙ none_of (nat_le s.first n) (nat_le n s.last) (nat_le low n) (nat_le n high) refl refl refl refl
      where
        empty : min s.last high < max s.first low
        empty = leb-false (max s.first low) (min s.last high) is

        none_of : (f l a b : Bool) → nat_le s.first n ≡ f → nat_le n s.last ≡ l → nat_le low n ≡ a → nat_le n high ≡ b
            → (if a && b then told else None) ≡ (if a && b then (if f && l then Some s.path else told) else None)
        none_of true true true true f_is l_is a_is b_is =
            let f = leb-true s.first n f_is in
            let l = leb-true n s.last l_is in
            let a = leb-true low n a_is in
            let b = leb-true n high b_is in
            absurd (omega (arith, empty, f, l, a, b))
        none_of true false true true f_is l_is a_is b_is = refl
        none_of false l true true f_is l_is a_is b_is = refl
        none_of f l true false f_is l_is a_is b_is = refl
        none_of f l false b f_is l_is a_is b_is = refl
