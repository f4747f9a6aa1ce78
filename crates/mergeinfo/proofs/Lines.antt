-- The first line of a value, and what is after it.
use Rattle.std.proofs.{Common.{◌≡◌, ℕ, ◌<◌, Bool, true, false, cond, List, [], ◌∷◌, length, Option, Some, None, refl, sym, ap, ◌∙◌, arith}, lemmas.Bool.ne_eqb}
use Rattle.std.proofs.lemmas.List.Splits.{slice_split-cons_yes, slice_split-cons_no, length-slice_split}
use Rattle.std.specs.{List.{slice_split, onto_first}, Option.unwrap_or}
use Rattle.fsfs_text.specs.Splits.{split_once, in_front}
use Rattle.mergeinfo.specs.Texts.{is_feed, lines_in, lines_of, without_comma}

-- the value is cut at its first line feed
pub record IsCut (value line rest : List ℕ) : Type 0 where
  pub parts : slice_split is_feed value ≡ line ∷ slice_split is_feed rest
  pub shorter : length rest < length value

some_same : (p q : List ℕ × List ℕ) → Some p ≡ Some q → p ≡ q
some_same p q e = ap (λ o. unwrap_or o p) e

cut_first : (b : ℕ) (value line rest : List ℕ) → ((front back : List ℕ) → split_once 10 value ≡ Some (front, back) → IsCut value front back)
    → (t : Bool) → is_feed b ≡ t → (o : Option (List ℕ × List ℕ)) → split_once 10 value ≡ o → cond t (Some ([], value)) (in_front b o) ≡ Some (line, rest) → IsCut (b ∷ value) line rest
cut_first b value line rest deeper true is o found e =
    let same : ([], value) ≡ (line, rest) = some_same ([], value) (line, rest) e in
    let line_is : [] ≡ line = ap (λ p. p.0) same in
    let rest_is : value ≡ rest = ap (λ p. p.1) same in
    record {
      parts = slice_split-cons_yes is_feed b value is ∙ ap (λ x. x ∷ slice_split is_feed value) line_is ∙ ap (λ x. line ∷ slice_split is_feed x) rest_is;
      shorter = omega (arith, ap length rest_is);
    }
cut_first b value line rest deeper false is None found e = absurd cc
cut_first b value line rest deeper false is (Some p) found e =
    let same : (b ∷ p.0, p.1) ≡ (line, rest) = some_same (b ∷ p.0, p.1) (line, rest) e in
    let line_is : b ∷ p.0 ≡ line = ap (λ q. q.0) same in
    let rest_is : p.1 ≡ rest = ap (λ q. q.1) same in
    let under : IsCut value p.0 p.1 = deeper p.0 p.1 found in
    record {
      parts =
          slice_split-cons_no is_feed b value is ∙ ap (onto_first b) under.parts
          ∙ ap (λ x. x ∷ slice_split is_feed p.1) line_is ∙ ap (λ x. line ∷ slice_split is_feed x) rest_is;
      shorter = omega (arith, ap length rest_is, under.shorter);
    }

pub cut : (value line rest : List ℕ) → split_once 10 value ≡ Some (line, rest) → IsCut value line rest
cut [] line rest e = absurd cc
cut (b ∷ value) line rest e = cut_first b value line rest (λ front back found. cut value front back found) (is_feed b) refl (split_once 10 value) refl e

uncut_first : (b : ℕ) (value : List ℕ) → (split_once 10 value ≡ None → slice_split is_feed value ≡ value ∷ [])
    → (t : Bool) → is_feed b ≡ t → (o : Option (List ℕ × List ℕ)) → split_once 10 value ≡ o → cond t (Some ([], value)) (in_front b o) ≡ None → slice_split is_feed (b ∷ value) ≡ (b ∷ value) ∷ []
uncut_first b value deeper true is o found e = absurd cc
uncut_first b value deeper false is None found e = slice_split-cons_no is_feed b value is ∙ ap (onto_first b) (deeper found)
uncut_first b value deeper false is (Some p) found e = absurd cc

pub uncut : (value : List ℕ) → split_once 10 value ≡ None → slice_split is_feed value ≡ value ∷ []
uncut [] e = refl
uncut (b ∷ value) e = uncut_first b value (λ found. uncut value found) (is_feed b) refl (split_once 10 value) refl e

lines_in-more : (line : List ℕ) (parts : List (List ℕ)) → 0 < length parts → lines_in (line ∷ parts) ≡ without_comma line ∷ lines_in parts
lines_in-more line [] some = absurd (omega arith)
lines_in-more line (next ∷ parts) some = refl

pub lines_first : (value line rest shown : List ℕ) → Some (line, rest) ≡ split_once 10 value → shown ≡ without_comma line → lines_of value ≡ shown ∷ lines_of rest
lines_first value line rest shown found is =
    ap lines_in (cut value line rest (sym found)).parts
    ∙ lines_in-more line (slice_split is_feed rest) (omega (arith, length-slice_split is_feed rest))
    ∙ ap (λ x. x ∷ lines_of rest) (sym is)

pub lines_shorter : (value line rest : List ℕ) → Some (line, rest) ≡ split_once 10 value → length rest < length value
lines_shorter value line rest found = (cut value line rest (sym found)).shorter

pub lines_only : (value : List ℕ) → None ≡ split_once 10 value → 0 < length value → lines_of value ≡ value ∷ lines_of []
lines_only value found some = ap lines_in (uncut value (sym found)) ∙ alone value some
  where
    alone : (value : List ℕ) → 0 < length value → lines_in (value ∷ []) ≡ value ∷ []
    alone [] some = absurd (omega arith)
    alone (b ∷ value) some = ap (λ t. cond t [] ((b ∷ value) ∷ [])) (ne_eqb (length (b ∷ value)) 0 (λ e. omega (arith, e, some)))
