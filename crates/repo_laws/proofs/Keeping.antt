-- What keeps a tree a tree.
use Rattle.std.proofs.Common.{◌≡◌, ◌≤◌, ℕ, Bool, true, false, List, [], ◌∷◌, ◌++◌, drop, length, Option, Some, None, option_map, is_some, refl, sym, ap, subst}
use Rattle.std.proofs.{Common.{append_assoc, arith, lit≤, ◌∙◌}, lemmas.Bool.false≢true, lemmas.List.Elements.{Contains-get_or, Contains-append_right}}
use Rattle.std.specs.{Prelude.{if◌then◌else◌, IsSome, IsSomeAnd, IsTrue, Contains}, Option.unwrap_or}
use Rattle.svnpath.specs.{Components.IsRightPath, PathLaws.{parent_child, same_path_is, under_append, under_is}}
use Rattle.svnpath.specs.{Paths.{Component, is_at_or_under, PathValue, same_path}, Texts.parent}
use Rattle.repo_api.specs.Edits.{added, deleted, new_entry, revised, touched, touched_above, with_open_mark, with_text}
use Rattle.repo_api.specs.Trees.{content_text, HasDirectory, HasFile, is_directory, is_directory_content, IsTree, text_of, Tree}
use Rattle.repo_api.specs.{declared.limits.TheConstants.TEXT_LIMIT, declared.entry.Entry.Entry, declared.entry.Content.Content}
use Rattle.repo_api.specs.declared.entry.Content.TheVariants.{Directory, File}

abbrev pub IsDirectoryAt : Option Entry → Type 0
IsDirectoryAt o = IsSomeAnd o (λ e. IsTrue (is_directory e))

-- an entry that is renewed with its content stays what it was
pub renewed_directory : (f : Entry → Entry) → ((e : Entry) → (f e).content ≡ e.content) → (o : Option Entry) → IsDirectoryAt o → IsDirectoryAt (option_map f o)
renewed_directory f same None h = h
renewed_directory f same (Some e) h = ap is_directory_content (same e) ∙ h

pub some_renewed : (f : Entry → Entry) (o : Option Entry) → IsSome (option_map f o) → IsSome o
some_renewed f None h = h
some_renewed f (Some e) h = refl

-- a text that keeps the limit, if there is one
abbrev pub IsShort : Option (List ℕ) → Type 0
IsShort o = (text : List ℕ) → o ≡ Some text → length text ≤ TEXT_LIMIT

-- an entry that is renewed with its content keeps its text
pub text_renewed : (f : Entry → Entry) → ((e : Entry) → (f e).content ≡ e.content) → (o : Option Entry) → text_of (option_map f o) ≡ text_of o
text_renewed f same None = refl
text_renewed f same (Some e) = ap content_text (same e)

-- what answers the same everywhere is the same
pub tree_by_paths : (t u : Tree) → ((p : PathValue) → t p ≡ u p) → IsTree t → IsTree u
tree_by_paths t u same is = subst IsTree (λ i p. same p i) is

pub touched_directory : (above : Bool) (o : Option Entry) → IsDirectoryAt o → IsDirectoryAt (if above then option_map touched o else o)
touched_directory true o h = renewed_directory touched (λ e. refl) o h
touched_directory false o h = h

pub some_touched : (above : Bool) (o : Option Entry) → IsSome (if above then option_map touched o else o) → IsSome o
some_touched true o h = some_renewed touched o h
some_touched false o h = h

pub text_touched : (above : Bool) (o : Option Entry) → text_of (if above then option_map touched o else o) ≡ text_of o
text_touched true o = text_renewed touched (λ e. refl) o
text_touched false o = refl

pub same_parent : (p q : PathValue) (c d : Component) → p ++ c ∷ [] ≡ q ++ d ∷ [] → p ≡ q
same_parent p q c d same = some_is (sym (parent_child p c) ∙ ap parent same ∙ parent_child q d)
  where
    some_is : ◌≡◌ {A = Option PathValue} (Some p) (Some q) → p ≡ q
    some_is e = ap (λ o. unwrap_or o p) e

-- a directory stays one where something is added, and where that is a directory if one stood there
added_directory : (t : Tree) (p q : PathValue) (content : Content) → (HasDirectory t p → IsTrue (is_directory_content content)) → HasDirectory t q → HasDirectory (added t p content) q
added_directory t p q content keeps h = by (same_path p q) refl
  where
    by : (b : Bool) → same_path p q ≡ b → IsDirectoryAt (if b then Some (new_entry content) else touched_above p t q)
    by true same = keeps (subst (HasDirectory t) (sym (same_path_is p q same)) h)
    by false same = touched_directory (is_at_or_under p q) (t q) h

added_parents : (t : Tree) (p q : PathValue) (c d : Component) (content : Content) → IsTree t → HasDirectory t p → IsSome (added t (p ++ c ∷ []) content (q ++ d ∷ [])) → HasDirectory t q
added_parents t p q c d content is has = by (same_path (p ++ c ∷ []) (q ++ d ∷ [])) refl
  where
    by : (b : Bool) → same_path (p ++ c ∷ []) (q ++ d ∷ []) ≡ b → IsSome (if b then Some (new_entry content) else touched_above (p ++ c ∷ []) t (q ++ d ∷ [])) → HasDirectory t q
    by true same some = subst (HasDirectory t) (same_parent p q c d (same_path_is (p ++ c ∷ []) (q ++ d ∷ []) same)) has
    by false same some = is.parents q d (some_touched (is_at_or_under (p ++ c ∷ []) (q ++ d ∷ [])) (t (q ++ d ∷ [])) some)

added_finite : (t : Tree) (p q : PathValue) (content : Content) (ps : List PathValue) → (IsSome (t q) → Contains ps q) → IsSome (added t p content q) → Contains (p ∷ ps) q
added_finite t p q content ps all = by (same_path p q) refl
  where
    by : (b : Bool) → same_path p q ≡ b → IsSome (if b then Some (new_entry content) else touched_above p t q) → Contains (p ∷ ps) q
    by true same some = subst (Contains (p ∷ ps)) (same_path_is p q same) (Contains-get_or (p ∷ ps) 0 p (omega arith))
    by false same some = Contains-append_right (p ∷ []) ps q (all (some_touched (is_at_or_under p q) (t q) some))

added_right : (t : Tree) (p q : PathValue) (content : Content) → IsRightPath p → (IsSome (t q) → IsRightPath q) → IsSome (added t p content q) → IsRightPath q
added_right t p q content right others = by (same_path p q) refl
  where
    by : (b : Bool) → same_path p q ≡ b → IsSome (if b then Some (new_entry content) else touched_above p t q) → IsRightPath q
    by true same some = subst IsRightPath (same_path_is p q same) right
    by false same some = others (some_touched (is_at_or_under p q) (t q) some)

added_short : (t : Tree) (p q : PathValue) (content : Content) → IsShort (content_text content) → IsShort (text_of (t q)) → IsShort (text_of (added t p content q))
added_short t p q content new others = by (same_path p q)
  where
    by : (b : Bool) → IsShort (text_of (if b then Some (new_entry content) else touched_above p t q))
    by true = new
    by false = λ text h. others text (sym (text_touched (is_at_or_under p q) (t q)) ∙ h)

-- what is added to a directory
added_tree : (t : Tree) (p : PathValue) (c : Component) (content : Content) → (HasDirectory t (p ++ c ∷ []) → IsTrue (is_directory_content content)) → IsShort (content_text content) → IsTree t → HasDirectory t p → IsRightPath (p ++ c ∷ []) → IsTree (added t (p ++ c ∷ []) content)
added_tree t p c content keeps new is has right = record {
  root = added_directory t (p ++ c ∷ []) [] content keeps is.root;
  parents = λ q d some. added_directory t (p ++ c ∷ []) q content keeps (added_parents t p q c d content is has some);
  finite = ((p ++ c ∷ []) ∷ is.finite.0, λ q some. added_finite t (p ++ c ∷ []) q content is.finite.0 (is.finite.1 q) some);
  right = λ q some. added_right t (p ++ c ∷ []) q content right (is.right q) some;
  short = λ q. added_short t (p ++ c ∷ []) q content new (is.short q);
}

pub no_text : IsShort None
no_text text h = absurd (false≢true (ap is_some h))

empty_text : IsShort (Some [])
empty_text text h = subst (λ (o : Option (List ℕ)). length (unwrap_or o []) ≤ TEXT_LIMIT) h (lit≤ tt)

pub directory_tree : (t : Tree) (p : PathValue) (c : Component) → IsTree t → HasDirectory t p → IsRightPath (p ++ c ∷ []) → IsTree (added t (p ++ c ∷ []) Directory)
directory_tree t p c = added_tree t p c Directory (λ h. refl) no_text

pub file_tree : (t : Tree) (p : PathValue) (c : Component) → IsTree t → HasDirectory t p → t (p ++ c ∷ []) ≡ None → IsRightPath (p ++ c ∷ []) → IsTree (added t (p ++ c ∷ []) (File []))
file_tree t p c is has none = added_tree t p c (File []) (λ h. absurd (subst IsDirectoryAt none h)) empty_text is has

-- a directory stays one where an entry is changed that goes on to be one if it was
revised_directory : (t : Tree) (p q : PathValue) (f : Entry → Entry) → (HasDirectory t p → IsDirectoryAt (option_map (λ e. with_open_mark (f e)) (t p))) → HasDirectory t q → HasDirectory (revised t p f) q
revised_directory t p q f keeps h = by (same_path p q) refl
  where
    by : (b : Bool) → same_path p q ≡ b → IsDirectoryAt (if b then option_map (λ e. with_open_mark (f e)) (t q) else touched_above p t q)
    by true same = subst (λ r. IsDirectoryAt (option_map (λ e. with_open_mark (f e)) (t r))) (same_path_is p q same) (keeps (subst (HasDirectory t) (sym (same_path_is p q same)) h))
    by false same = touched_directory (is_at_or_under p q) (t q) h

some_revised : (t : Tree) (p q : PathValue) (f : Entry → Entry) → IsSome (revised t p f q) → IsSome (t q)
some_revised t p q f = by (same_path p q)
  where
    by : (b : Bool) → IsSome (if b then option_map (λ e. with_open_mark (f e)) (t q) else touched_above p t q) → IsSome (t q)
    by true some = some_renewed (λ e. with_open_mark (f e)) (t q) some
    by false some = some_touched (is_at_or_under p q) (t q) some

revised_short : (t : Tree) (p q : PathValue) (f : Entry → Entry) → IsShort (text_of (option_map (λ e. with_open_mark (f e)) (t p))) → IsShort (text_of (t q)) → IsShort (text_of (revised t p f q))
revised_short t p q f new others = by (same_path p q) refl
  where
    by : (b : Bool) → same_path p q ≡ b → IsShort (text_of (if b then option_map (λ e. with_open_mark (f e)) (t q) else touched_above p t q))
    by true same = subst (λ (r : PathValue). IsShort (text_of (option_map (λ e. with_open_mark (f e)) (t r)))) (same_path_is p q same) new
    by false same = λ text h. others text (sym (text_touched (is_at_or_under p q) (t q)) ∙ h)

revised_tree : (t : Tree) (p : PathValue) (f : Entry → Entry) → (HasDirectory t p → IsDirectoryAt (option_map (λ e. with_open_mark (f e)) (t p))) → IsShort (text_of (option_map (λ e. with_open_mark (f e)) (t p))) → IsTree t → IsTree (revised t p f)
revised_tree t p f keeps new is = record {
  root = revised_directory t p [] f keeps is.root;
  parents = λ q d some. revised_directory t p q f keeps (is.parents q d (some_revised t p (q ++ d ∷ []) f some));
  finite = (is.finite.0, λ q some. is.finite.1 q (some_revised t p q f some));
  right = λ q some. is.right q (some_revised t p q f some);
  short = λ q. revised_short t p q f new (is.short q);
}

-- a property of an entry
pub property_tree : (t : Tree) (p : PathValue) (f : Entry → Entry) → ((e : Entry) → (f e).content ≡ e.content) → IsTree t → IsTree (revised t p f)
property_tree t p f same is =
    revised_tree t p f (renewed_directory (λ e. with_open_mark (f e)) same (t p))
    (λ text h. is.short p text (sym (text_renewed (λ e. with_open_mark (f e)) same (t p)) ∙ h)) is

no_directory : (o : Option Entry) → IsSomeAnd o (λ e. is_directory e ≡ false) → IsDirectoryAt o → ⊥
no_directory None file h = file
no_directory (Some e) file h = false≢true (sym file ∙ h)

written_short : (text : List ℕ) (o : Option Entry) → length text ≤ TEXT_LIMIT → IsShort (text_of (option_map (λ e. with_open_mark (with_text text e)) o))
written_short text None short other h = no_text other h
written_short text (Some e) short other h = subst (λ (x : Option (List ℕ)). length (unwrap_or x []) ≤ TEXT_LIMIT) h short

-- the text of a file
pub text_tree : (t : Tree) (p : PathValue) (text : List ℕ) → IsTree t → HasFile t p → length text ≤ TEXT_LIMIT → IsTree (revised t p (with_text text))
text_tree t p text is file short = revised_tree t p (with_text text) (λ h. absurd (no_directory (t p) file h)) (written_short text (t p) short) is

-- what isn't under the path of a delete stays
outside_directory : (t : Tree) (p q : PathValue) → is_at_or_under q p ≡ false → HasDirectory t q → HasDirectory (deleted t p) q
outside_directory t p q outside h = subst (λ b. IsDirectoryAt (if b then None else touched_above p t q)) (sym outside) (touched_directory (is_at_or_under p q) (t q) h)

some_outside : (t : Tree) (p q : PathValue) → IsSome (deleted t p q) → (is_at_or_under q p ≡ false) × IsSome (t q)
some_outside t p q = by (is_at_or_under q p) refl
  where
    by : (b : Bool) → is_at_or_under q p ≡ b → IsSome (if b then None else touched_above p t q) → (is_at_or_under q p ≡ false) × IsSome (t q)
    by true under some = absurd (false≢true some)
    by false outside some = (outside, some_touched (is_at_or_under p q) (t q) some)

text_outside : (t : Tree) (p q : PathValue) → IsShort (text_of (t q)) → IsShort (text_of (deleted t p q))
text_outside t p q others = by (is_at_or_under q p)
  where
    by : (b : Bool) → IsShort (text_of (if b then None else touched_above p t q))
    by true = no_text
    by false = λ text h. others text (sym (text_touched (is_at_or_under p q) (t q)) ∙ h)

pub root_outside : (p : PathValue) (c : Component) → is_at_or_under [] (p ++ c ∷ []) ≡ false
root_outside [] c = refl
root_outside (d ∷ p) c = refl

-- what is under a path has all that is under it there
pub parent_outside : (p q : PathValue) (d : Component) → is_at_or_under (q ++ d ∷ []) p ≡ false → is_at_or_under q p ≡ false
parent_outside p q d outside = by (is_at_or_under q p) refl
  where
    by : (b : Bool) → is_at_or_under q p ≡ b → b ≡ false
    by true under =
        absurd (false≢true (sym outside ∙ ap (λ r. is_at_or_under (r ++ d ∷ []) p) (under_is q p under) ∙ ap (λ r. is_at_or_under r p) (append_assoc p (drop (length p) q) (d ∷ [])) ∙ under_append p (drop (length p) q ++ d ∷ [])))
    by false under = refl

-- a delete below the root
pub deleted_tree : (t : Tree) (p : PathValue) (c : Component) → IsTree t → IsTree (deleted t (p ++ c ∷ []))
deleted_tree t p c is = record {
  root = outside_directory t (p ++ c ∷ []) [] (root_outside p c) is.root;
  parents = λ q d some.
      let out = some_outside t (p ++ c ∷ []) (q ++ d ∷ []) some in
      outside_directory t (p ++ c ∷ []) q (parent_outside (p ++ c ∷ []) q d out.0) (is.parents q d out.1);
  finite = (is.finite.0, λ q some. is.finite.1 q (some_outside t (p ++ c ∷ []) q some).1);
  right = λ q some. is.right q (some_outside t (p ++ c ∷ []) q some).1;
  short = λ q. text_outside t (p ++ c ∷ []) q (is.short q);
}
