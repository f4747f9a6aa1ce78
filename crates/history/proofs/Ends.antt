-- Where lines of history begin, and how a walk back finds it.
use Rattle.std.proofs.Common.{◌≡◌, ◌≤◌, ◌<◌, ◌⊎◌, inl, inr, ℕ, zero, suc, Bool, true, false, List, [], ◌∷◌, Option, Some, arith, refl, sym, ap, ◌∙◌, subst}
use Rattle.std.proofs.{Common.eq-eqb, lemmas.Bool.{false≢true, and_from, and_parts}, lemmas.List.Elements.{All-head, All-tail}}
use Rattle.std.specs.{List.All, Prelude.◌==◌}
use borrow.Author.Tests.{eqb-true, eqb-false}
use Rattle.svnpath.specs.{PathLaws.{same_path_is, same_path_refl}, Paths.{PathValue, same_path}}
use Rattle.repo_api.specs.Histories.{History, IsQuiet, IsQuietSince}
use Rattle.traces.specs.{Traces.{next_place, trace, traced, trace_below}, declared.place.Place.Place}
use Rattle.history.specs.{Logs.place_at, Lines.{AreTheseTwo, is_one_line, last_place, line_start, same_place}}
use Rattle.history.proofs.{Orders.below, Passing.{never, trace_earlier}, Steps.trace_is}

-- two places that are one
pub same_place_is : (a b : Place) → same_place a b ≡ true → a ≡ b
same_place_is a b same =
    let both = and_parts (a.revision == b.revision) (same_path a.path b.path) same in
    let revision : a.revision ≡ b.revision = eqb-true a.revision b.revision both.0 in
    let path : a.path ≡ b.path = same_path_is a.path b.path both.1 in
    λ i. record { path = path i; revision = revision i }

same_place_refl : (a : Place) → same_place a a ≡ true
same_place_refl a = and_from (a.revision == a.revision) (same_path a.path a.path) (eq-eqb a.revision a.revision refl) (same_path_refl a.path)

pub is_same : (a b : Place) → a ≡ b → same_place a b ≡ true
is_same a b same = subst (λ c. same_place a c ≡ true) same (same_place_refl a)

turned : (a b : Place) → same_place a b ≡ same_place b a
turned a b = by (same_place a b) (same_place b a) refl refl
  where
    by : (x y : Bool) → same_place a b ≡ x → same_place b a ≡ y → x ≡ y
    by true true one other = refl
    by false false one other = refl
    by true false one other = absurd (false≢true (sym other ∙ is_same b a (sym (same_place_is a b one))))
    by false true one other = absurd (false≢true (sym one ∙ is_same a b (sym (same_place_is b a other))))

-- a walk goes on: the line of a place is that of the place before
pub line_goes_on : (h : History) (p next : Place) → trace h false p ≡ p ∷ traced h false (Some next) → line_start h p ≡ line_start h next
line_goes_on h p next is =
    ap (last_place p) is ∙ ap (last_place p) (trace_is h false next) ∙ sym (ap (last_place next) (trace_is h false next))

-- quiet revisions are passed over
pub line_since : (h : History) (p : PathValue) (k n : ℕ) → k ≤ n → IsQuietSince h p k n → line_start h (place_at n p) ≡ line_start h (place_at k p)
line_since h p k zero within quiet =
    let same : zero ≡ k = omega (arith, within) in
    ap (λ m. line_start h (place_at m p)) same
line_since h p k (suc n) within quiet = by (λ lower. line_since h p k n lower (λ m after upto. quiet m after (omega (arith, upto)))) (k == suc n) refl
  where
    by : (k ≤ n → line_start h (place_at n p) ≡ line_start h (place_at k p)) → (b : Bool) → (k == suc n) ≡ b
        → line_start h (place_at (suc n) p) ≡ line_start h (place_at k p)
    by rest true same = ap (λ m. line_start h (place_at m p)) (sym (eqb-true k (suc n) same))
    by rest false other =
        let past : k ≡ suc n → ⊥ = eqb-false k (suc n) other in
        let now : IsQuiet (h (suc n)) p = quiet (suc n) (omega (arith, within, past)) (omega arith) in
        line_goes_on h (place_at (suc n) p) (place_at n p) (trace_earlier h false p n now) ∙ rest (omega (arith, within, past))

-- of a place that is settled
pub line_settled : (h : History) (at : Place) (k : ℕ) → k ≤ at.revision → IsQuietSince h at.path k at.revision → line_start h at ≡ line_start h (place_at k at.path)
line_settled h at k within quiet = line_since h at.path k at.revision within quiet

-- of a place before which there is another
pub line_from : (h : History) (p next : Place) (before : Option Place) → before ≡ Some next → line_start h p ≡ last_place p (traced h false before) → line_start h p ≡ line_start h next
line_from h p next before is line =
    line ∙ ap (λ o. last_place p (traced h false o)) is ∙ ap (last_place p) (trace_is h false next) ∙ sym (ap (last_place next) (trace_is h false next))

-- the last of places that are all alike
last_within : (P : Place → Type 0) (p : Place) (ps : List Place) → P p → All P ps → P (last_place p ps)
last_within P p [] first all = first
last_within P p (q ∷ ps) first all = last_within P q ps (All-head P q ps all) (All-tail P q ps all)

-- a line begins at the place itself, or in an older revision
pub starts_here_or_below : (h : History) (p : Place) → (line_start h p ≡ p) ⊎ ((line_start h p).revision < p.revision)
starts_here_or_below h p =
    by (trace_below h false p.revision (next_place false (h p.revision) p)) (below h false p.revision (next_place false (h p.revision) p)) (ap (last_place p) (trace_is h false p))
  where
    by : (ps : List Place) → All (λ q. q.revision < p.revision) ps → line_start h p ≡ last_place p ps → (line_start h p ≡ p) ⊎ ((line_start h p).revision < p.revision)
    by [] all is = inl is
    by (q ∷ ps) all is =
        let lower : (last_place q ps).revision < p.revision =
        last_within (λ r. r.revision < p.revision) q ps (All-head (λ r. r.revision < p.revision) q ps all) (All-tail (λ r. r.revision < p.revision) q ps all) in
        let same : (line_start h p).revision ≡ (last_place q ps).revision = ap (λ (r : Place). r.revision) is in
        inr (omega (arith, lower, same))

-- where the line of the later of two places begins there, the other, if it is another place, is of another line
apart_where_one_starts : (h : History) (earlier later : Place) → earlier.revision ≤ later.revision → same_place earlier later ≡ false → line_start h later ≡ later
    → is_one_line h earlier later ≡ false
apart_where_one_starts h earlier later order other starts =
    never (is_one_line h earlier later) (λ one. by (same_place_is (line_start h earlier) (line_start h later) one ∙ starts) (starts_here_or_below h earlier))
  where
    by : line_start h earlier ≡ later → (line_start h earlier ≡ earlier) ⊎ ((line_start h earlier).revision < earlier.revision) → ⊥
    by meets (inl here) = false≢true (sym other ∙ is_same earlier later (sym here ∙ meets))
    by meets (inr lower) =
        let same : (line_start h earlier).revision ≡ later.revision = ap (λ (r : Place). r.revision) meets in
        omega (arith, lower, same, order)

-- the same of two places in either order
one_line_of_two : (h : History) (a b c d : Place) → AreTheseTwo a b c d → is_one_line h a b ≡ is_one_line h c d
one_line_of_two h a b c d (inl same) = ap (λ p. is_one_line h p b) same.0 ∙ ap (is_one_line h c) same.1
one_line_of_two h a b c d (inr other) =
    ap (λ p. is_one_line h p b) other.0 ∙ ap (is_one_line h d) other.1 ∙ turned (line_start h d) (line_start h c)

same_place_of_two : (a b c d : Place) → AreTheseTwo a b c d → same_place a b ≡ same_place c d
same_place_of_two a b c d (inl same) = ap (λ p. same_place p b) same.0 ∙ ap (same_place c) same.1
same_place_of_two a b c d (inr other) = ap (λ p. same_place p b) other.0 ∙ ap (same_place d) other.1 ∙ turned d c

-- the later of two places is walked back
pub two_go_on : (h : History) (earlier later a b next : Place) → AreTheseTwo earlier later a b → line_start h later ≡ line_start h next
    → (one : Bool) → is_one_line h a b ≡ one → is_one_line h earlier next ≡ one
two_go_on h earlier later a b next two line one is =
    ap (same_place (line_start h earlier)) (sym line) ∙ one_line_of_two h earlier later a b two ∙ is

-- until its line begins
pub two_are_apart : (h : History) (earlier later a b : Place) → AreTheseTwo earlier later a b → earlier.revision ≤ later.revision → same_place a b ≡ false
    → line_start h later ≡ later → (one : Bool) → is_one_line h a b ≡ one → false ≡ one
two_are_apart h earlier later a b two order other starts one is =
    sym (apart_where_one_starts h earlier later order (same_place_of_two earlier later a b two ∙ other) starts)
    ∙ one_line_of_two h earlier later a b two ∙ is

-- or until the two meet
pub two_meet : (h : History) (a b : Place) → same_place a b ≡ true → (one : Bool) → is_one_line h a b ≡ one → true ≡ one
two_meet h a b same one is =
    sym (is_same (line_start h a) (line_start h b) (ap (line_start h) (same_place_is a b same))) ∙ is
