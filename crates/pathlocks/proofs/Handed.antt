-- The ordered set of the tokens that were handed in.
use Rattle.std.proofs.Common.{◌≡◌, ℕ, Bool, true, false, ◌||◌, List, [], ◌∷◌, refl, sym, ap, ◌∙◌}
use Rattle.std.specs.{BTreeSet.insert_key, Cmp.eq_by_cmp_equiv, Cmp.Lexicographic.{slice_cmp, texts_ties, nat_list_cmp_total}, List.list_any}
use Rattle.std.specs.{Ordering.{nat_cmp, is_eq, match_ordering}, declared.cmp.Ordering.Ordering, declared.cmp.Ordering.TheVariants.{Less, Equal, Greater}}
use Rattle.svnpath.specs.{PathLaws.same_component_is, Paths.same_component}
use Rattle.pathlocks.specs.Handed.{is_lent}
use denote.Ref.{Bor}

abbrev lent_cmp : Bor (List ℕ) → Bor (List ℕ) → Ordering
lent_cmp x y = slice_cmp nat_cmp x.now y.now

or_swap : (a b : Bool) → (a || b) ≡ (b || a)
or_swap true true = refl
or_swap true false = refl
or_swap false true = refl
or_swap false false = refl

or_twice : (a b : Bool) → (a || b) ≡ ((a || b) || a)
or_twice true b = refl
or_twice false true = refl
or_twice false false = refl

or_behind : (a b c : Bool) → (a || (b || c)) ≡ ((a || b) || c)
or_behind true b c = refl
or_behind false b c = refl

-- what an insertion adds
pub among_inserted : (ks : List (Bor (List ℕ))) (k : Bor (List ℕ)) (token : List ℕ) → is_lent (insert_key lent_cmp ks k) token ≡ (is_lent ks token || same_component k.now token)
among_inserted [] k token = or_swap (same_component k.now token) false
among_inserted (x ∷ ks) k token = by (lent_cmp k x) refl (among_inserted ks k token)
  where
    by : (o : Ordering) → lent_cmp k x ≡ o → is_lent (insert_key lent_cmp ks k) token ≡ (is_lent ks token || same_component k.now token)
        → is_lent (match_ordering o (k ∷ x ∷ ks) (x ∷ ks) (x ∷ insert_key lent_cmp ks k)) token ≡ ((same_component x.now token || is_lent ks token) || same_component k.now token)
    by Less is rest = or_swap (same_component k.now token) (same_component x.now token || is_lent ks token)
    by Equal is rest =
        or_twice (same_component x.now token) (is_lent ks token)
        ∙ ap (λ t. (same_component x.now token || is_lent ks token) || same_component t token) (sym (same_component_is k.now x.now (texts_ties k.now x.now ∙ ap is_eq is)))
    by Greater is rest =
        ap (λ b. same_component x.now token || b) rest ∙ or_behind (same_component x.now token) (is_lent ks token) (same_component k.now token)

pub found_among : (ks : List (Bor (List ℕ))) (token : List ℕ) → list_any (λ k. is_eq (slice_cmp nat_cmp token k.now)) ks ≡ is_lent ks token
found_among [] token = refl
found_among (k ∷ ks) token = λ i. ((eq_by_cmp_equiv nat_list_cmp_total).symm token k.now ∙ sym (texts_ties k.now token)) i || found_among ks token i
