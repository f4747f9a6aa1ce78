-- Texts cut at their slashes.
use borrow.Author.Tests.{ltb-true, ltb-false}
use Rattle.std.proofs.Common.{◌≡◌, ℕ, ◌+◌, ◌≤◌, List, [], ◌∷◌, Bool, true, false, cond, length, map, take, drop, Some, None, Result, Ok, refl, sym, ap, ◌∙◌}
use Rattle.std.proofs.{Common.arith, lemmas.Bool.Decides.nat_tests, lemmas.List.map-id, lemmas.List.Elements.All-from_get_or}
use Rattle.std.proofs.{lemmas.List.Splits.{slice_split_first, slice_split_none}, lemmas.List.Sums.fails_before_first}
use Rattle.std.specs.{List.{slice_split, position, position_or_len}, Prelude.{◌==◌, nat_lt}}
use Rattle.svnpath.proofs.BeneathLemmas.{beneath_nothing}
use Rattle.svnpath.specs.{Components.beneath, Paths.PathValue, Spelled.read_part, Texts.{is_slash, components_of}}
use Rattle.svnpath.specs.{declared.component.Spelling.TheVariants.Plain, declared.fault.PathFault.PathFault}

pub components_of_empty : (text : List ℕ) → (length text == 0) ≡ true → components_of text ≡ []
components_of_empty [] e = refl
components_of_empty (b ∷ text) e = grind (arith, nat_tests)

-- a plain text spells its components as they are
pub components_of_plain : (text : List ℕ) → (length text == 0) ≡ false → components_of text ≡ map (read_part Plain) (slice_split is_slash text)
components_of_plain [] e = cc
components_of_plain (b ∷ text) e = sym (map-id (slice_split is_slash (b ∷ text)))

pub beneath_plain : (path above : PathValue) (text : List ℕ) (r : Result PathValue PathFault) → above ≡ path → (length text == 0) ≡ false
    → beneath above (map (read_part Plain) (slice_split is_slash text)) ≡ r → beneath path (components_of text) ≡ r
beneath_plain path above text r same some h =
    ap (beneath path) (components_of_plain text some)
    ∙ ap (λ p. beneath p (map (read_part Plain) (slice_split is_slash text))) (sym same)
    ∙ h

pub beneath_empty : (path above : PathValue) (text : List ℕ) → above ≡ path → (length text == 0) ≡ true → beneath path (components_of text) ≡ Ok above
beneath_empty path above text same none =
    ap (beneath path) (components_of_empty text none) ∙ beneath_nothing path ∙ ap (λ p. Ok p) (sym same)

-- a text with a slash, cut at the first
pub slice_split_at_slash : (text : List ℕ) (end : ℕ) → position is_slash text ≡ Some end → slice_split is_slash text ≡ take end text ∷ slice_split is_slash (drop (end + 1) text)
slice_split_at_slash text end e =
    by (nat_lt (position_or_len is_slash text) (length text)) refl
  where
    by : (b : Bool) → nat_lt (position_or_len is_slash text) (length text) ≡ b → slice_split is_slash text ≡ take end text ∷ slice_split is_slash (drop (end + 1) text)
    by true within =
        let at_end : position_or_len is_slash text ≡ end = cc (sym (ap (λ b. cond b (Some (position_or_len is_slash text)) None) within) ∙ e) in
        slice_split_first is_slash text 0 (ltb-true _ _ within) ∙ ap (λ n. take n text ∷ slice_split is_slash (drop (n + 1) text)) at_end
    by false past = cc (sym (ap (λ b. cond b (Some (position_or_len is_slash text)) None) past) ∙ e)

-- a text without one
pub slice_split_no_slash : (text : List ℕ) → position is_slash text ≡ None → slice_split is_slash text ≡ text ∷ []
slice_split_no_slash text e =
    by (nat_lt (position_or_len is_slash text) (length text)) refl
  where
    by : (b : Bool) → nat_lt (position_or_len is_slash text) (length text) ≡ b → slice_split is_slash text ≡ text ∷ []
    by true within = cc (sym (ap (λ b. cond b (Some (position_or_len is_slash text)) None) within) ∙ e)
    by false past =
        let over : length text ≤ position_or_len is_slash text = ltb-false _ _ past in
        slice_split_none is_slash text (All-from_get_or (λ x. is_slash x ≡ false) text 0 (λ i within. fails_before_first is_slash text i 0 (omega arith)))
