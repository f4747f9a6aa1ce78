-- What a transaction has left is as it was.
use Rattle.std.proofs.{Common.{◌≡◌, ℕ, Bool, true, false, ◌&&◌, ◌||◌, Option, Some, None, option_map, refl, sym, ap, ◌∙◌}, lemmas.Bool.false≢true}
use Rattle.std.specs.Prelude.{if◌then◌else◌}
use Rattle.repo_api.specs.{Edits.touched, Marks.{AreMarked, has_open_own, IsTransactionOf, own_of, shown}, Merge.{has_open_last, is_untouched}}
use Rattle.repo_api.specs.{Properties.PropertyList, Trees.{is_open_mark, same_mark, Tree}, declared.entry.Content.Content, declared.entry.Entry.Entry}
use Rattle.repo_api.specs.{declared.entry.Mark.Mark, declared.entry.Mark.TheVariants.{Open, Made}}
use Rattle.repo_laws.proofs.Naming.{same_mark_is}
use Rattle.treemerge.specs.Merges.{IsTold}

both : (a b : Bool) → (a && b) ≡ true → (a ≡ true) × (b ≡ true)
both true b h = (refl, h)
both false b h = absurd (false≢true h)

abbrev or_last : Content × PropertyList → Option (Content × PropertyList) → Content × PropertyList
or_last d None = d
or_last d (Some x) = x

open_is : (m : Mark) → is_open_mark m ≡ true → m ≡ Open
open_is Open h = refl
open_is (Made r p) h = absurd (false≢true h)

-- with marks that name what they mark
pub told : (trees : ℕ → Tree) (base : ℕ) (s : Tree) → AreMarked trees → IsTransactionOf trees (trees base) s → IsTold (trees base) s
told trees base s marked txn q left = by (trees base q) (s q) refl refl left
  where
    looks : (x y : Entry) (m : Mark) → trees base q ≡ Some x → s q ≡ Some y → x.own ≡ m → y.own ≡ m → ◌≡◌ {A = Content × PropertyList} (x.content, x.properties) (y.content, y.properties)
    looks x y Open is_x is_y own_x own_y =
        absurd (false≢true (sym ((marked.closed base q).0) ∙ ap has_open_own is_x ∙ ap is_open_mark own_x))
    looks x y (Made n at) is_x is_y own_x own_y = ap (or_last (x.content, x.properties))
        (ap shown (sym is_x)
        ∙ (marked.named base).by_own q n at (ap own_of is_x ∙ ap (λ (m : Mark). Some m) own_x)
        ∙ sym (txn.named.by_own q n at (ap own_of is_y ∙ ap (λ (m : Mark). Some m) own_y))
        ∙ ap shown is_y)

    ends : (x y : Entry) → ◌≡◌ {A = Content × PropertyList} (x.content, x.properties) (y.content, y.properties) → x.own ≡ y.own → (b : Bool) → is_open_mark y.last ≡ b
        → (same_mark x.last y.last || b) ≡ true → Some y ≡ (if b then Some (touched x) else Some x)
    ends x y look own true opened h i = Some (record { content = (sym look i).0; properties = (sym look i).1; own = sym own i; last = open_is y.last opened i })
    ends x y look own false closed h i = Some (record { content = (sym look i).0; properties = (sym look i).1; own = sym own i; last = sym (same_mark_is x.last y.last (or_false (same_mark x.last y.last) h)) i })
      where
        or_false : (b : Bool) → (b || false) ≡ true → b ≡ true
        or_false true e = refl
        or_false false e = absurd (false≢true e)

    by : (o p : Option Entry) → trees base q ≡ o → s q ≡ p → is_untouched o p ≡ true → p ≡ (if has_open_last p then option_map touched o else o)
    by None None is_o is_p h = refl
    by None (Some y) is_o is_p h = absurd (false≢true h)
    by (Some x) None is_o is_p h = absurd (false≢true h)
    by (Some x) (Some y) is_o is_p h =
        let halves = both (same_mark x.own y.own) (same_mark x.last y.last || is_open_mark y.last) h in
        let own = same_mark_is x.own y.own halves.0 in
        ends x y (looks x y y.own is_o is_p own refl) own (is_open_mark y.last) refl halves.1
