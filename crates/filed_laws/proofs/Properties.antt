-- Properties that fit are read again.
use Rattle.std.proofs.Common.{◌≡◌, ◌<◌, ◌^◌, inl, inr, List, [], ◌∷◌, ◌++◌, length, map, Option, Some, None, Result, Ok, Err, refl, sym, ap, subst, ◌∙◌}
use Rattle.std.proofs.{Common.{append_assoc, append-nil, if◌then◌else◌}, lemmas.Map.Keys.{sorted_head, sorted_tail}}
use Rattle.std.specs.{BTreeMap.insert_entry, Cmp.Lexicographic.{nat_list_cmp_total, slice_cmp}, List.AllByRecursion, List.Sorted.IsStrictlySortedBy}
use Rattle.std.specs.{Map.keys_of, Ordering.{is_eq, match_ordering, nat_cmp, ordering_reverse}, declared.cmp.Ordering.Ordering}
use Rattle.std.specs.{declared.cmp.Ordering.TheVariants.{Less, Greater}, Prelude.ℕ, Result.result_ok}
use Rattle.repo_api.specs.Properties.{PropertyList}
use Rattle.fsfs_text.specs.{Reading.◌>>=◌, declared.fault.FileFault.FileFault, declared.fault.FileFault.TheVariants.BadLine, declared.pair.DumpPair.DumpPair}
use Rattle.fsfs_text.specs.declared.representation.Representation.{Representation}
use Rattle.fsfs_text.proofs.DumpsAgain.{dump_again}
use Rattle.fsfs_text.specs.Maybe as maybe
use Rattle.fsfs_nodes.specs.{Properties.{judged, properties_bytes, properties_of, row_pair}, Rows.{rows_of, value_at, with_new, with_rows}}
use Rattle.filed_trees.specs.Pieces.{RevisionBytes, properties_in}
use Rattle.filed_writing.specs.{Pieces.{Before, properties_dump}, Blocks.PropertiesFit}
use Rattle.filed_laws.proofs.{Dumps.same_dump, Given.Given}

abbrev pub by_name : List ℕ → List ℕ → Ordering
by_name = slice_cmp nat_cmp

-- each of these keys is before the name
abbrev AreInFront : List ℕ → PropertyList → Type 0
AreInFront name [] = Unit {0}
AreInFront name (p ∷ ps) = (by_name name p.0 ≡ Greater) × AreInFront name ps

at_key : (P : List ℕ → Type 0) (done : PropertyList) (p : List ℕ × List ℕ) (more : PropertyList)
    → AllByRecursion P (keys_of (done ++ p ∷ more)) → P p.0
at_key P [] p more all = all.0
at_key P (e ∷ done) p more all = at_key P done p more all.1

in_front : (done : PropertyList) (p : List ℕ × List ℕ) (more : PropertyList) → IsStrictlySortedBy by_name (keys_of (done ++ p ∷ more))
    → AreInFront p.0 done
in_front [] p more rise = tt
in_front (e ∷ done) p more rise =
    let keys : List (List ℕ) = keys_of (done ++ p ∷ more) in
    let less : by_name e.0 p.0 ≡ Less = at_key (λ k. by_name e.0 k ≡ Less) done p more (sorted_head by_name e.0 keys rise) in
    (nat_list_cmp_total.antisymm p.0 e.0 ∙ ap ordering_reverse less, in_front done p more (sorted_tail by_name e.0 keys rise))

none_yet : (done : PropertyList) (name : List ℕ) → AreInFront name done → value_at name done ≡ None
none_yet [] name front = refl
none_yet (e ∷ done) name front =
    ap (λ o. if is_eq o then Some e.1 else value_at name done) front.0 ∙ none_yet done name front.1

put_last : (done : PropertyList) (name value : List ℕ) → AreInFront name done → insert_entry by_name done name value ≡ done ++ (name, value) ∷ []
put_last [] name value front = refl
put_last (e ∷ done) name value front =
    ap (λ o. match_ordering o ((name, value) ∷ e ∷ done) ((e.0, value) ∷ done) (e ∷ insert_entry by_name done name value)) front.0
    ∙ ap (λ l. e ∷ l) (put_last done name value front.1)

rows_again : (done more : PropertyList) → IsStrictlySortedBy by_name (keys_of (done ++ more)) → with_rows done (map row_pair more) ≡ Ok (done ++ more)
rows_again done [] rise = ap (λ (l : PropertyList). Ok l) (sym (append-nil done))
rows_again done (p ∷ more) rise =
    let front = in_front done p more rise in
    ap (λ o. with_new done (row_pair p) o >>= λ so_far. with_rows so_far (map row_pair more)) (none_yet done p.0 front)
    ∙ ap (λ l. with_rows l (map row_pair more)) (put_last done p.0 p.1 front)
    ∙ rows_again (done ++ p ∷ []) more (subst (λ (l : PropertyList). IsStrictlySortedBy by_name (keys_of l)) (sym (append_assoc done (p ∷ []) more)) rise)
    ∙ ap (λ (l : PropertyList). Ok l) (append_assoc done (p ∷ []) more)

-- they are read again
pub properties_again : (list : PropertyList) → PropertiesFit list → length (properties_bytes list) < 2 ^ 64 → properties_of (properties_bytes list) ≡ Ok list
unfolding properties_of rows_of
properties_again list fit short =
    ap (λ (r : Result (List DumpPair) FileFault). (r >>= λ pairs. with_rows [] pairs) >>= λ rows. judged rows) (dump_again (map row_pair list) short)
    ∙ ap (λ (r : Result PropertyList FileFault). r >>= λ rows. judged rows) (rows_again [] list fit.rise)
    ∙ ap (λ t. if t then Ok list else Err BadLine) fit.each

-- ---- what a line gives

same_rows : (old list : PropertyList) → map row_pair old ≡ map row_pair list → old ≡ list
same_rows [] [] e = refl
same_rows [] (q ∷ list) e = absurd (cc e)
same_rows (p ∷ old) [] e = absurd (cc e)
same_rows (p ∷ old) (q ∷ list) e =
    let first : row_pair p ≡ row_pair q = cc e in
    let later : map row_pair old ≡ map row_pair list = cc e in
    let rest = same_rows old list later in
    λ i. ((first i).key, (first i).value) ∷ rest i

-- the dump of properties is that of no others
same_properties : (old list : PropertyList) → properties_dump old ≡ properties_dump list → old ≡ list
same_properties [] [] e = refl
same_properties [] (q ∷ qs) e = absurd (cc e)
same_properties (p ∷ ps) [] e = absurd (cc e)
same_properties (p ∷ ps) (q ∷ qs) e = same_rows (p ∷ ps) (q ∷ qs) (same_dump (map row_pair (p ∷ ps)) (map row_pair (q ∷ qs)) e)

pub some_dump : (list : PropertyList) → PropertiesFit list → (properties_dump list ≡ [] → ⊥) → length (properties_dump list) < 2 ^ 64
    → properties_of (properties_dump list) ≡ Ok list
some_dump [] fit some short = absurd (some refl)
some_dump (p ∷ ps) fit some short = properties_again (p ∷ ps) fit short

-- a line that gives them gives the properties
pub properties_given : (fs : RevisionBytes) (list : PropertyList) (before : Option Before) (line : Option Representation) → PropertiesFit list
    → ((p : Before) → before ≡ Some p → (old : PropertyList) × (p.0 ≡ properties_dump old) × (properties_in fs p.1 ≡ Some old))
    → Given fs (properties_dump list) before line → properties_in fs line ≡ Some list
properties_given fs list before line fit kept (inl none) =
    ap (properties_in fs) none.1 ∙ ap (λ (l : PropertyList). Some l) (same_properties [] list (sym none.0))
properties_given fs list before line fit kept (inr (inl new)) =
    ap (properties_in fs) new.1
    ∙ ap (λ (o : Option (List ℕ)). maybe.◌>>=◌ o (λ body. result_ok (properties_of body))) new.2
    ∙ ap result_ok (some_dump list fit new.3 new.4)
properties_given fs list before line fit kept (inr (inr old)) =
    let was = kept old.0 old.1 in
    ap (properties_in fs) old.3 ∙ was.2 ∙ ap (λ (l : PropertyList). Some l) (same_properties was.0 list (sym was.1 ∙ old.2))
