-- A merge as loops over paths make it.
use Rattle.std.proofs.{Common.{◌≡◌, ℕ, Bool, true, false, ◌||◌, Option, Some, None, is_some, refl, sym, ap, ◌∙◌}, lemmas.Bool.false≢true}
use Rattle.std.specs.{BTreeMap.is_at, Prelude.if◌then◌else◌, Option.option_or}
use Rattle.svnpath.specs.{PathLaws.at_is, Paths.{path_cmp, PathValue, same_path}}
use Rattle.repo_api.specs.{Merge.{is_untouched, merged_entry}, Trees.Tree, declared.entry.Entry.Entry}
use Rattle.revision_data.proofs.Seen.{at_is_same_back}

or_twice : (a : Bool) (l o : Option Entry) → option_or (if a then l else None) (option_or l o) ≡ option_or l o
or_twice true None o = refl
or_twice true (Some e) o = refl
or_twice false l o = refl

-- one path more
pub put_more : (t : Tree) (k q : PathValue) (rest : Bool) (o out new : Option Entry) → o ≡ t k → new ≡ (if same_path k q then option_or o out else out)
    → option_or (if rest then t q else None) new ≡ option_or (if is_at (path_cmp q) k || rest then t q else None) out
put_more t k q rest o out new is put =
    ap (option_or (if rest then t q else None)) (put ∙ ap (λ b. if b then option_or o out else out) (sym (at_is_same_back q k))) ∙ by (is_at (path_cmp q) k) refl
  where
    by : (b : Bool) → is_at (path_cmp q) k ≡ b → option_or (if rest then t q else None) (if b then option_or o out else out) ≡ option_or (if b || rest then t q else None) out
    by true same = ap (λ l. option_or (if rest then t q else None) (option_or l out)) (is ∙ ap t (sym (at_is q k same))) ∙ or_twice rest (t q) out
    by false other = refl

-- all that the merge has stands in the transaction or in the youngest revision
pub put_both : (n : ℕ) (p : PathValue) (a s t : Option Entry)
    → option_or (if is_some t then merged_entry n p a s t else None) (option_or (if is_some s then merged_entry n p a s t else None) None) ≡ merged_entry n p a s t
put_both n p a s t = by s t (merged_entry n p a s t) (merged_there n p a s t)
  where
    merged_there : (n : ℕ) (p : PathValue) (a s t : Option Entry) → (is_some s || is_some t) ≡ false → merged_entry n p a s t ≡ None
    merged_there n p a None None h = either (is_untouched a None)
      where
        either : (b : Bool) → ◌≡◌ {A = Option Entry} (if b then None else None) None
        either true = refl
        either false = refl
    merged_there n p a None (Some t) h = absurd (false≢true (sym h))
    merged_there n p a (Some s) t h = absurd (false≢true (sym h))

    by : (s t m : Option Entry) → ((is_some s || is_some t) ≡ false → m ≡ None)
        → option_or (if is_some t then m else None) (option_or (if is_some s then m else None) None) ≡ m
    by None None m gone = sym (gone refl)
    by None (Some t) None gone = refl
    by None (Some t) (Some m) gone = refl
    by (Some s) None None gone = refl
    by (Some s) None (Some m) gone = refl
    by (Some s) (Some t) None gone = refl
    by (Some s) (Some t) (Some m) gone = refl
