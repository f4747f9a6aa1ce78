-- Lines of what is beneath a place: where nothing beneath was made, they go back as its own does.
use Rattle.std.proofs.Common.{◌≡◌, ◌≤◌, ◌<◌, ◌⊎◌, inl, inr, ℕ, Bool, true, false, ◌&&◌, ◌||◌, not, arith, get_or, List, [], ◌∷◌, ◌++◌, length, drop, reverse}
use Rattle.std.proofs.{Common.{Option, Some, None, refl, sym, ap, ◌∙◌, subst}, lemmas.Bool.{false≢true, and_from, and_parts}, lemmas.List.append_assoc}
use Rattle.std.proofs.lemmas.List.Elements.{All-head, All-tail}
use Rattle.std.specs.{List.{All, find, list_any}, Prelude.{◌==◌, ◌-◌, if◌then◌else◌}, Ordering.nat_cmp, BTreeMap.is_at}
use Rattle.std.specs.Cmp.Lexicographic.{slice_cmp, texts_ties}
use Rattle.svnpath.specs.PathLaws.{rest_append, same_component_is, same_component_refl, under_append, under_is}
use Rattle.svnpath.specs.Paths.{Component, is_at_or_under, PathValue, same_component}
use Rattle.repo_api.specs.{Histories.{Changed, History, IsQuietSince}, Readings.is_name_among}
use Rattle.traces.specs.{Traces.{decides, earlier, makes, place_before, place_by, source_place, trace_below}, declared.place.Place.Place}
use Rattle.history.specs.Logs.{place_at}
use Rattle.history.specs.Lines.{AreOneLineBeneath, AreOneLineBeside, AreTheseTwo, is_beside, is_one_line, line_start, makes_beside, place_beneath, same_place}
use Rattle.history.proofs.{Ends.{is_same, line_goes_on, line_since, same_place_is}, Passing.{each_fails, reversed}, Steps.{trace_is, trace_passes}}

-- ---- paths

-- of two paths at or above a third, one is at or above the other
comparable : (p x rest : PathValue) → is_at_or_under (p ++ rest) x ≡ true → (is_at_or_under p x ≡ true) ⊎ (is_at_or_under x p ≡ true)
comparable [] x rest up = inr (under_append [] x)
comparable (c ∷ p) [] rest up = inl refl
comparable (c ∷ p) (d ∷ x) rest up =
    let both = and_parts (same_component d c) (is_at_or_under (p ++ rest) x) up in
    let turned : same_component c d ≡ true = subst (λ y. same_component y d ≡ true) (same_component_is d c both.0) (same_component_refl d) in
    by turned both.0 (comparable p x rest both.1)
  where
    by : same_component c d ≡ true → same_component d c ≡ true → (is_at_or_under p x ≡ true) ⊎ (is_at_or_under x p ≡ true) → (is_at_or_under (c ∷ p) (d ∷ x) ≡ true) ⊎ (is_at_or_under (d ∷ x) (c ∷ p) ≡ true)
    by one other (inl above) = inl (and_from (same_component d c) (is_at_or_under p x) other above)
    by one other (inr beneath) = inr (and_from (same_component c d) (is_at_or_under x p) one beneath)

more_under : (p x rest : PathValue) → is_at_or_under p x ≡ true → is_at_or_under (p ++ rest) x ≡ true
more_under p x rest up =
    subst (λ y. is_at_or_under y x ≡ true) (sym (ap (λ y. y ++ rest) (under_is p x up) ∙ append_assoc x (drop (length x) p) rest)) (under_append x (drop (length x) p ++ rest))

left_more : (p x rest : PathValue) → is_at_or_under p x ≡ true → drop (length x) (p ++ rest) ≡ drop (length x) p ++ rest
left_more p x rest up =
    ap (drop (length x)) (ap (λ y. y ++ rest) (under_is p x up) ∙ append_assoc x (drop (length x) p) rest)
    ∙ rest_append x (drop (length x) p ++ rest)

-- ---- one revision

-- what is at or under a path beneath another is beneath it as that is
front_under : (p rest d : PathValue) → is_at_or_under (p ++ rest) (p ++ d) ≡ true → is_at_or_under rest d ≡ true
front_under [] rest d up = up
front_under (c ∷ p) rest d up = front_under p rest d (and_parts (same_component c c) (is_at_or_under (p ++ rest) (p ++ d)) up).1

-- a path that begins with a name
pub beside_first : (names : List Component) (path : PathValue) (name : Component) → 1 ≤ length path → name ≡ get_or path 0 name → is_beside names path ≡ not (is_name_among names name)
beside_first names [] name long is = absurd (omega (long, arith))
beside_first names (first ∷ rest) name long is = ap (λ x. not (is_name_among names x)) (sym is)

-- a name that is found in a set of names is among them
pub contained_among : (names : List Component) (name : Component) → list_any (is_at (slice_cmp nat_cmp name)) names ≡ is_name_among names name
contained_among [] name = refl
contained_among (n ∷ names) name =
    ap (λ b. b || list_any (is_at (slice_cmp nat_cmp name)) names) (sym (texts_ties name n))
    ∙ ap (λ b. same_component name n || b) (contained_among names name)

-- of a path beside the names, what is at or above it is beside them too, but for the empty path
beside_above : (names : List Component) (rest d : PathValue) → is_at_or_under rest d ≡ true → is_beside names rest ≡ true → is_beside names d ≡ true
beside_above names rest [] up beside = refl
beside_above names [] (n ∷ d) up beside = absurd (false≢true up)
beside_above names (m ∷ rest) (n ∷ d) up beside =
    ap (λ x. not (is_name_among names x)) (same_component_is n m (and_parts (same_component n m) (is_at_or_under rest d) up).0) ∙ beside

-- what makes nothing beneath a path by other names decides of what is beneath by such a name as of the path
decides_beside : (names : List Component) (p rest : PathValue) (e : Changed) → is_beside names rest ≡ true → makes_beside names p e ≡ false → decides (p ++ rest) e ≡ decides p e
decides_beside names p rest e beside none = by (makes e.1.action) (is_at_or_under p e.0) (is_at_or_under (p ++ rest) e.0) refl refl none
  where
    by : (m a b : Bool) → is_at_or_under p e.0 ≡ a → is_at_or_under (p ++ rest) e.0 ≡ b
        → (m && is_at_or_under e.0 p && not a && is_beside names (drop (length p) e.0)) ≡ false → (m && b) ≡ (m && a)
    by false a b one more h = refl
    by true true true one more h = refl
    by true false false one more h = refl
    by true true false one more h = absurd (false≢true (sym more ∙ more_under p e.0 rest one))
    by true false true one more h = among (comparable p e.0 rest more)
      where
        among : (is_at_or_under p e.0 ≡ true) ⊎ (is_at_or_under e.0 p ≡ true) → true ≡ false
        among (inl above) = absurd (false≢true (sym one ∙ above))
        among (inr beneath) =
            let other : is_beside names (drop (length p) e.0) ≡ true =
            beside_above names rest (drop (length p) e.0) (front_under p rest (drop (length p) e.0) (subst (λ x. is_at_or_under (p ++ rest) x ≡ true) (under_is e.0 p beneath) more)) beside in
            absurd (false≢true (sym h ∙ ap (λ u. u && true && is_beside names (drop (length p) e.0)) beneath ∙ other))

-- so what decides of the path leads what is beneath it along
led_beneath : (names : List Component) (changes : List Changed) (at next : Place) (rest : PathValue) → is_beside names rest ≡ true → All (λ e. makes_beside names at.path e ≡ false) changes
    → place_by (find (decides at.path) changes) at ≡ Some next → place_by (find (decides (at.path ++ rest)) changes) (place_beneath at rest) ≡ Some (place_beneath next rest)
led_beneath names [] at next rest beside none is = by (at.revision == 0) is
  where
    by : (b : Bool) → (if b then None else Some (record { path = at.path; revision = at.revision - 1 })) ≡ Some next
        → (if b then None else Some (record { path = at.path ++ rest; revision = at.revision - 1 })) ≡ Some (place_beneath next rest)
    by true h = absurd (cc h)
    by false h =
        let same : record { path = at.path; revision = at.revision - 1 } ≡ next = cc h in
        ap (λ (x : Place). Some (place_beneath x rest)) same
led_beneath names (e ∷ changes) at next rest beside none is =
    by (led_beneath names changes at next rest beside (All-tail (λ x. makes_beside names at.path x ≡ false) e changes none)) (decides at.path e) refl
  where
    decided : Bool → PathValue → Option Changed
    decided b p = if b then Some e else find (decides p) changes

    same : decides (at.path ++ rest) e ≡ decides at.path e
    same = decides_beside names at.path rest e beside (All-head (λ x. makes_beside names at.path x ≡ false) e changes none)

    sources : decides at.path e ≡ true → place_by (Some e) at ≡ Some next → place_by (Some e) (place_beneath at rest) ≡ Some (place_beneath next rest)
    sources d = from e.1.source
      where
        up : is_at_or_under at.path e.0 ≡ true
        up = (and_parts (makes e.1.action) (is_at_or_under at.path e.0) d).1

        from : (s : _) → source_place s (drop (length e.0) at.path) ≡ Some next → source_place s (drop (length e.0) (at.path ++ rest)) ≡ Some (place_beneath next rest)
        from None h = absurd (cc h)
        from (Some s) h =
            let there : record { path = s.path ++ drop (length e.0) at.path; revision = s.revision } ≡ next = cc h in
            ap (λ r. Some (record { path = s.path ++ r; revision = s.revision })) (left_more at.path e.0 rest up)
            ∙ ap (λ r. Some (record { path = r; revision = s.revision })) (sym (append_assoc s.path (drop (length e.0) at.path) rest))
            ∙ ap (λ (x : Place). Some (place_beneath x rest)) there

    by : (place_by (find (decides at.path) changes) at ≡ Some next → place_by (find (decides (at.path ++ rest)) changes) (place_beneath at rest) ≡ Some (place_beneath next rest))
        → (b : Bool) → decides at.path e ≡ b → place_by (decided (decides (at.path ++ rest) e) (at.path ++ rest)) (place_beneath at rest) ≡ Some (place_beneath next rest)
    by later true d =
        ap (λ b. place_by (decided b (at.path ++ rest)) (place_beneath at rest)) (same ∙ d)
        ∙ sources d (sym (ap (λ b. place_by (decided b at.path) at) d) ∙ is)
    by later false d =
        ap (λ b. place_by (decided b (at.path ++ rest)) (place_beneath at rest)) (same ∙ d)
        ∙ later (sym (ap (λ b. place_by (decided b at.path) at) d) ∙ is)

before_beneath : (names : List Component) (changes : List Changed) (at next : Place) (rest : PathValue) → is_beside names rest ≡ true → list_any (makes_beside names at.path) changes ≡ false
    → place_before changes at ≡ Some next → place_before changes (place_beneath at rest) ≡ Some (place_beneath next rest)
before_beneath names changes at next rest beside none is =
    led_beneath names (reverse changes) at next rest beside (reversed (λ e. makes_beside names at.path e ≡ false) changes (each_fails (makes_beside names at.path) changes none)) is

-- ---- lines

pub lines_step : (names : List Component) (h : History) (at next : Place) → list_any (makes_beside names at.path) (h at.revision) ≡ false → place_before (h at.revision) at ≡ Some next
    → next.revision < at.revision → AreOneLineBeside names h at next
lines_step names h at next none is lower rest beside =
    line_goes_on h (place_beneath at rest) (place_beneath next rest)
    (trace_is h false (place_beneath at rest)
    ∙ ap (λ o. place_beneath at rest ∷ trace_below h false at.revision o) (before_beneath names (h at.revision) at next rest beside none is)
    ∙ ap (λ ps. place_beneath at rest ∷ ps) (trace_passes h false at.revision (place_beneath next rest) lower))

-- of a place that is settled
pub lines_settled : (h : History) (at : Place) (k : ℕ) → k ≤ at.revision → IsQuietSince h at.path k at.revision → AreOneLineBeneath h at (place_at k at.path)
lines_settled h at k within quiet rest = line_since h (at.path ++ rest) k at.revision within (λ m after upto. record {
  beneath = λ e there under. (quiet m after upto).beneath e there (higher e.0 under);
  above = λ e there over. either e.0 (comparable at.path e.0 rest over) ((quiet m after upto).above e there) ((quiet m after upto).beneath e there);
})
  where
    higher : (x : PathValue) → is_at_or_under x (at.path ++ rest) ≡ true → is_at_or_under x at.path ≡ true
    higher x under =
        subst (λ y. is_at_or_under y at.path ≡ true) (sym (under_is x (at.path ++ rest) under ∙ append_assoc at.path rest (drop (length (at.path ++ rest)) x)))
        (under_append at.path (rest ++ drop (length (at.path ++ rest)) x))

    either : (x : PathValue) → (is_at_or_under at.path x ≡ true) ⊎ (is_at_or_under x at.path ≡ true) → (is_at_or_under at.path x ≡ true → ⊥) → (is_at_or_under x at.path ≡ true → ⊥) → ⊥
    either x (inl up) above beneath = above up
    either x (inr low) above beneath = beneath low

-- all beneath two places is beside whatever names
pub lines_beside : (names : List Component) (h : History) (a b : Place) → AreOneLineBeneath h a b → AreOneLineBeside names h a b
lines_beside names h a b one rest beside = one rest

-- and beside no names is all
pub lines_all : (h : History) (a b : Place) → AreOneLineBeside [] h a b → AreOneLineBeneath h a b
lines_all h a b one [] = one [] refl
lines_all h a b one (name ∷ rest) = one (name ∷ rest) refl

module _ (names : List Component) (h : History) where
  pub lines_refl : (a : Place) → AreOneLineBeside names h a a
  lines_refl a rest beside = refl

  pub lines_turned : (a b : Place) → AreOneLineBeside names h a b → AreOneLineBeside names h b a
  lines_turned a b one rest beside = sym (one rest beside)

  pub lines_joined : (a b c : Place) → AreOneLineBeside names h a b → AreOneLineBeside names h b c → AreOneLineBeside names h a c
  lines_joined a b c one other rest beside = one rest beside ∙ other rest beside

  -- the same of two places in either order
  pub lines_of_two : (a b c d : Place) → AreTheseTwo a b c d → AreOneLineBeside names h a b → AreOneLineBeside names h c d
  lines_of_two a b c d (inl same) one = subst (λ x. AreOneLineBeside names h x d) same.0 (subst (AreOneLineBeside names h a) same.1 one)
  lines_of_two a b c d (inr other) one = lines_turned d c (subst (λ x. AreOneLineBeside names h x c) other.0 (subst (AreOneLineBeside names h a) other.1 one))

-- places whose lines begin at one place
pub one_line_met : (h : History) (a b : Place) → line_start h a ≡ line_start h b → is_one_line h a b ≡ true
one_line_met h a b one = is_same (line_start h a) (line_start h b) one

module _ (names : List Component) (h : History) where
  -- two places that are one
  pub lines_met : (a b : Place) → same_place a b ≡ true → AreOneLineBeside names h a b
  lines_met a b same = subst (AreOneLineBeside names h a) (same_place_is a b same) (lines_refl names h a)

  -- the later of two places is walked back
  pub lines_go_on : (earlier later a b next : Place) → AreTheseTwo earlier later a b → AreOneLineBeside names h later next → AreOneLineBeside names h earlier next
      → AreOneLineBeside names h a b
  lines_go_on earlier later a b next two back one =
      lines_of_two names h earlier later a b two (lines_joined names h earlier next later one (lines_turned names h later next back))

  -- and from where two have settled to where they were
  pub lines_from : (a b c d : Place) → AreOneLineBeneath h a c → AreOneLineBeneath h b d → AreOneLineBeside names h c d → AreOneLineBeside names h a b
  lines_from a b c d first second one =
      lines_joined names h a d b (lines_joined names h a c d (lines_beside names h a c first) one) (lines_turned names h b d (lines_beside names h b d second))
