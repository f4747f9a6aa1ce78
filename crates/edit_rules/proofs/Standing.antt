-- What is open in an edit, and what stands where.
use Rattle.std.proofs.Common.{◌≡◌, ◌⊎◌, inl, inr, append-nil, ℕ, zero, suc, ◌+◌, ◌==◌, Bool, true, false, cond, not, ◌&&◌, is_some, List, [], ◌∷◌, ◌++◌, drop}
use Rattle.std.proofs.{Common.{length, Option, Some, None, option_map, refl, sym, ap, subst, ◌∙◌, arith}, lemmas.Bool.eqb-true, lemmas.List.length-drop}
use Rattle.std.proofs.lemmas.List.Elements.{All-nil, All-cons, All-head, All-tail}
use Rattle.std.specs.{Prelude.{if◌then◌else◌, IsSome, IsSomeAnd, nat_le, Result, Ok, option_and_then, slice_get}, List.{All, filter}}
use Rattle.std.specs.{BTreeMap.{insert_entry, is_at}, Map.{lookup, remove_entry, set_value}, FinMap.{get, get-empty}, Cmp.Lexicographic.slice_cmp}
use Rattle.std.specs.{Ordering.{nat_cmp, match_ordering}, declared.cmp.Ordering.Ordering, declared.cmp.Ordering.TheVariants.{Less, Equal, Greater}}
use Rattle.svnpath.specs.PathLaws.{rest_append, same_path_is, same_path_refl, under_is, under_itself}
use Rattle.svnpath.specs.{Paths.{Component, is_at_or_under, path_cmp, PathValue, same_path}, declared.fault.PathFault.PathFault}
use Rattle.refusals.specs.declared.Refusal.{Refusal}
use Rattle.refusals.specs.declared.Refusal.TheVariants as refusals
use Rattle.repo_api.specs.Edits.{added, begun, copied, copy_of, grafted, new_entry, revised, touched, touched_above, with_open_mark, with_text}
use Rattle.repo_api.specs.{Kinds.{content_kind, kind_at, kind_of}, RightEdits.HasParent, Soundness.AreTrees}
use Rattle.repo_api.specs.States.{RepoState, Revision, tree_at, tree_in, tree_of, trees_in, youngest}
use Rattle.repo_api.specs.{Trees.{HasDirectory, HasFile, is_directory, is_directory_content, IsTree, Tree}, declared.change.Source.Source}
use Rattle.repo_api.specs.{declared.entry.Entry.Entry, declared.entry.Content.Content}
use Rattle.repo_api.specs.declared.entry.Content.TheVariants as contents
use Rattle.edit_rules.specs.{Tokens.{Tokens, opened_under, path_of, directory_path, directory_of, is_within, is_placed}, Edits.EditState, Refusing.first}
use Rattle.edit_rules.specs.Refusing.{unless, directory_refusal, add_refusal, age_refusal, file_refusal, place_refusal, parent_refusal, source_kind_refusal}
use Rattle.edit_rules.specs.{Refusing.{depth_refusal, source_refusal, begin_delta_refusal}, Soundness.StandsIn, declared.opened.Opened.Opened}
use Rattle.edit_rules.specs.declared.opened.Opened.TheVariants.{Directory, File}

-- ---- what is open

-- what holds of each thing that is open
abbrev pub OfOpened : (Opened → Type 0) → List ℕ × Opened → Type 0
OfOpened P e = P e.1

pub all_inserted : (P : Opened → Type 0) (cmp : List ℕ → List ℕ → Ordering) (es : Tokens) (k : List ℕ) (o : Opened) → P o → All (OfOpened P) es → All (OfOpened P) (insert_entry cmp es k o)
all_inserted P cmp [] k o here all = All-cons (OfOpened P) (k, o) [] here (All-nil (OfOpened P))
all_inserted P cmp (e ∷ es) k o here all = by (cmp k e.0) (all_inserted P cmp es k o here (All-tail (OfOpened P) e es all))
  where
    by : (r : Ordering) → All (OfOpened P) (insert_entry cmp es k o) → All (OfOpened P) (match_ordering r ((k, o) ∷ e ∷ es) ((e.0, o) ∷ es) (e ∷ insert_entry cmp es k o))
    by Less later = All-cons (OfOpened P) (k, o) (e ∷ es) here all
    by Equal later = All-cons (OfOpened P) (e.0, o) es here (All-tail (OfOpened P) e es all)
    by Greater later = All-cons (OfOpened P) e (insert_entry cmp es k o) (All-head (OfOpened P) e es all) later

pub all_removed : (P : Opened → Type 0) (test : List ℕ → Bool) (es : Tokens) → All (OfOpened P) es → All (OfOpened P) (remove_entry test es)
all_removed P test [] all = all
all_removed P test (e ∷ es) all = by (test e.0) (all_removed P test es (All-tail (OfOpened P) e es all))
  where
    by : (b : Bool) → All (OfOpened P) (remove_entry test es) → All (OfOpened P) (cond b es (e ∷ remove_entry test es))
    by true later = All-tail (OfOpened P) e es all
    by false later = All-cons (OfOpened P) e (remove_entry test es) (All-head (OfOpened P) e es all) later

pub all_changed : (P : Opened → Type 0) (test : List ℕ → Bool) (es : Tokens) (o : Opened) → P o → All (OfOpened P) es → All (OfOpened P) (set_value test es o)
all_changed P test [] o here all = all
all_changed P test (e ∷ es) o here all = by (test e.0) (all_changed P test es o here (All-tail (OfOpened P) e es all))
  where
    by : (b : Bool) → All (OfOpened P) (set_value test es o) → All (OfOpened P) (cond b ((e.0, o) ∷ es) (e ∷ set_value test es o))
    by true later = All-cons (OfOpened P) (e.0, o) es here (All-tail (OfOpened P) e es all)
    by false later = All-cons (OfOpened P) e (set_value test es o) (All-head (OfOpened P) e es all) later

-- what holds of those that are kept
pub all_kept : (P Q : List ℕ × Opened → Type 0) (keep : List ℕ × Opened → Bool) → ((e : List ℕ × Opened) → keep e ≡ true → P e → Q e) → (es : Tokens) → All P es → All Q (filter keep es)
all_kept P Q keep holds [] all = All-nil Q
all_kept P Q keep holds (e ∷ es) all = by (keep e) refl (all_kept P Q keep holds es (All-tail P e es all))
  where
    by : (b : Bool) → keep e ≡ b → All Q (filter keep es) → All Q (cond b (e ∷ filter keep es) (filter keep es))
    by true kept later = All-cons Q e (filter keep es) (holds e kept (All-head P e es all)) later
    by false kept later = later

-- one that is new, of which Q holds, or another one, of which P does
abbrev pub IsNewOr : (Opened → Type 0) → (Opened → Type 0) → (List ℕ → Bool) → List ℕ × Opened → Type 0
IsNewOr P Q test e = Q e.1 ⊎ ((test e.0 ≡ false) × P e.1)

missing_first : (test : List ℕ → Bool) (e : List ℕ × Opened) (es : Tokens) → lookup test (e ∷ es) ≡ None → (test e.0 ≡ false) × (lookup test es ≡ None)
missing_first test e es none = by (test e.0) refl none
  where
    by : (b : Bool) → test e.0 ≡ b → cond b (Some e.1) (lookup test es) ≡ None → (test e.0 ≡ false) × (lookup test es ≡ None)
    by true t n = cc
    by false t n = (t, n)

all_other : (P Q : Opened → Type 0) (test : List ℕ → Bool) (es : Tokens) → lookup test es ≡ None → All (OfOpened P) es → All (IsNewOr P Q test) es
all_other P Q test [] none all = All-nil (IsNewOr P Q test)
all_other P Q test (e ∷ es) none all =
    let m = missing_first test e es none in
    All-cons (IsNewOr P Q test) e es (inr (m.0, All-head (OfOpened P) e es all)) (all_other P Q test es m.1 (All-tail (OfOpened P) e es all))

pub all_with_new : (P Q : Opened → Type 0) (cmp : List ℕ → List ℕ → Ordering) (es : Tokens) (k : List ℕ) (o : Opened) → lookup (is_at (cmp k)) es ≡ None → Q o → All (OfOpened P) es → All (IsNewOr P Q (is_at (cmp k))) (insert_entry cmp es k o)
all_with_new P Q cmp [] k o none here all = All-cons (IsNewOr P Q (is_at (cmp k))) (k, o) [] (inl here) (All-nil (IsNewOr P Q (is_at (cmp k))))
all_with_new P Q cmp (e ∷ es) k o none here all = by (cmp k e.0) (all_with_new P Q cmp es k o m.1 here (All-tail (OfOpened P) e es all))
  where
    test : List ℕ → Bool
    test = is_at (cmp k)

    m : (is_at (cmp k) e.0 ≡ false) × (lookup (is_at (cmp k)) es ≡ None)
    m = missing_first (is_at (cmp k)) e es none

    rest : All (IsNewOr P Q (is_at (cmp k))) es
    rest = all_other P Q (is_at (cmp k)) es m.1 (All-tail (OfOpened P) e es all)

    old : IsNewOr P Q (is_at (cmp k)) e
    old = inr (m.0, All-head (OfOpened P) e es all)

    by : (r : Ordering) → All (IsNewOr P Q (is_at (cmp k))) (insert_entry cmp es k o) → All (IsNewOr P Q (is_at (cmp k))) (match_ordering r ((k, o) ∷ e ∷ es) ((e.0, o) ∷ es) (e ∷ insert_entry cmp es k o))
    by Less later = All-cons (IsNewOr P Q (is_at (cmp k))) (k, o) (e ∷ es) (inl here) (All-cons (IsNewOr P Q (is_at (cmp k))) e es old rest)
    by Equal later = All-cons (IsNewOr P Q (is_at (cmp k))) (e.0, o) es (inl here) rest
    by Greater later = All-cons (IsNewOr P Q (is_at (cmp k))) e (insert_entry cmp es k o) old later

abbrev IfFound : (Opened → Type 0) → Option Opened → Type 0
IfFound P None = Unit {0}
IfFound P (Some o) = P o

all_found : (P : Opened → Type 0) (test : List ℕ → Bool) (es : Tokens) → All (OfOpened P) es → IfFound P (lookup test es)
all_found P test [] all = tt
all_found P test (e ∷ es) all = by (test e.0) (all_found P test es (All-tail (OfOpened P) e es all))
  where
    by : (b : Bool) → IfFound P (lookup test es) → IfFound P (cond b (Some e.1) (lookup test es))
    by true later = All-head (OfOpened P) e es all
    by false later = later

pub found_under : (P : Opened → Type 0) (tokens : Tokens) (token : List ℕ) (o : Opened) → All (OfOpened P) tokens → opened_under tokens token ≡ Some o → P o
found_under P tokens token o all at = subst (IfFound P) at (all_found P (is_at (slice_cmp nat_cmp token)) tokens all)

-- ---- one name beneath a directory

abbrev IsBeneath : PathValue → PathValue → Type 0
IsBeneath d p = (c : Component) × (p ≡ d ++ c ∷ [])

alone : (r : List Component) → length r ≡ 1 → (c : Component) × (r ≡ c ∷ [])
alone [] e = absurd (omega (arith, e))
alone (c ∷ []) e = (c, refl)
alone (c ∷ d ∷ r) e = absurd (omega (arith, e))

pub both_true : (a b : Bool) → a && b ≡ true → (a ≡ true) × (b ≡ true)
both_true true true e = (refl, refl)
both_true true false e = cc
both_true false b e = cc

beneath : (d p : PathValue) → is_at_or_under p d && (length p == length d + 1) ≡ true → IsBeneath d p
beneath d p within =
    let both = both_true (is_at_or_under p d) (length p == length d + 1) within in
    let long : length p ≡ length d + 1 = eqb-true (length p) (length d + 1) both.1 in
    let rest = alone (drop (length d) p) (omega (arith, length-drop (length d) p)) in
    (rest.0, under_is p d both.0 ∙ ap (λ (r : List Component). d ++ r) rest.1)

within_found : (t : Tree) (o : Option Opened) (p : PathValue) → IfFound (StandsIn t) o → is_within (option_and_then directory_path o) p ≡ true → HasParent t p
within_found t None p found within = cc
within_found t (Some (Directory d)) p found within =
    let b = beneath d.path p within in
    record { directory = d.path; is_directory = found; name = b.0; is = b.1 }
within_found t (Some (File d delta)) p found within = cc

-- ---- what stands where

-- a directory stands there, or a file, by the flag
abbrev pub StandsAs : Bool → Option Entry → Type 0
StandsAs kind o = IsSomeAnd o (λ e. is_directory e ≡ kind)

opened_stands : (t u : Tree) (o : Opened) → ((kind : Bool) → StandsAs kind (t (path_of o)) → StandsAs kind (u (path_of o))) → StandsIn t o → StandsIn u o
opened_stands t u (Directory d) keeps h = keeps true h
opened_stands t u (File p delta) keeps h = (keeps false h.0, h.1)

pub stays_same : (t u : Tree) → ((p : PathValue) → t p ≡ u p) → (o : Opened) → StandsIn t o → StandsIn u o
stays_same t u same o h = opened_stands t u o (λ kind s. subst (StandsAs kind) (same (path_of o)) s) h

stays_touched : (kind above : Bool) (o : Option Entry) → StandsAs kind o → StandsAs kind (if above then option_map touched o else o)
stays_touched kind true None h = h
stays_touched kind true (Some e) h = h
stays_touched kind false o h = h

pub stays_begun : (t : Tree) (p : PathValue) → HasDirectory t p → HasDirectory (begun t) p
stays_begun t p h = stays_touched true (is_at_or_under [] p) (t p) h

-- what stands elsewhere than at a path where nothing did stays
pub stays_added : (t : Tree) (p : PathValue) (content : Content) → t p ≡ None → (o : Opened) → StandsIn t o → StandsIn (added t p content) o
stays_added t p content none o h = opened_stands t (added t p content) o (λ kind. at_path kind (path_of o)) h
  where
    at_path : (kind : Bool) (q : PathValue) → StandsAs kind (t q) → StandsAs kind (added t p content q)
    at_path kind q s = by (same_path p q) refl
      where
        by : (b : Bool) → same_path p q ≡ b → StandsAs kind (if b then Some (new_entry content) else touched_above p t q)
        by true same = absurd (subst (StandsAs kind) (ap t (sym (same_path_is p q same)) ∙ none) s)
        by false same = stays_touched kind (is_at_or_under p q) (t q) s

pub new_stands : (t : Tree) (p : PathValue) (content : Content) → StandsAs (is_directory_content content) (added t p content p)
new_stands t p content = subst (λ (b : Bool). StandsAs (is_directory_content content) (if b then Some (new_entry content) else touched_above p t p)) (sym (same_path_refl p)) refl

-- an entry that is changed and stays what it was
pub stays_revised : (t : Tree) (p : PathValue) (f : Entry → Entry) → ((kind : Bool) → StandsAs kind (t p) → StandsAs kind (option_map (λ e. with_open_mark (f e)) (t p))) → (o : Opened) → StandsIn t o → StandsIn (revised t p f) o
stays_revised t p f keeps o h = opened_stands t (revised t p f) o (λ kind. at_path kind (path_of o)) h
  where
    at_path : (kind : Bool) (q : PathValue) → StandsAs kind (t q) → StandsAs kind (revised t p f q)
    at_path kind q s = by (same_path p q) refl
      where
        by : (b : Bool) → same_path p q ≡ b → StandsAs kind (if b then option_map (λ e. with_open_mark (f e)) (t q) else touched_above p t q)
        by true same =
            let is : p ≡ q = same_path_is p q same in
            subst (λ (r : PathValue). StandsAs kind (option_map (λ e. with_open_mark (f e)) (t r))) is (keeps kind (subst (λ (r : PathValue). StandsAs kind (t r)) (sym is) s))
        by false same = stays_touched kind (is_at_or_under p q) (t q) s

pub stays_renewed : (f : Entry → Entry) → ((e : Entry) → (f e).content ≡ e.content) → (kind : Bool) (o : Option Entry) → StandsAs kind o → StandsAs kind (option_map (λ e. with_open_mark (f e)) o)
stays_renewed f same kind None h = h
stays_renewed f same kind (Some e) h = ap is_directory_content (same e) ∙ h

pub stays_written : (text : List ℕ) (kind : Bool) (o : Option Entry) → StandsAs false o → StandsAs kind o → StandsAs kind (option_map (λ e. with_open_mark (with_text text e)) o)
stays_written text kind None file h = h
stays_written text kind (Some e) file h = sym file ∙ h

-- what is neither at the path of a graft nor under it stays
pub stays_outside : (t part : Tree) (p : PathValue) (o : Opened) → not (is_at_or_under (path_of o) p) ≡ true → StandsIn t o → StandsIn (grafted t p part) o
stays_outside t part p o kept h = opened_stands t (grafted t p part) o (λ kind. by kind (path_of o) (is_at_or_under (path_of o) p) kept) h
  where
    by : (kind : Bool) (q : PathValue) (b : Bool) → not b ≡ true → StandsAs kind (t q) → StandsAs kind (if b then part (drop (length p) q) else touched_above p t q)
    by kind q true kept s = cc
    by kind q false kept s = stays_touched kind (is_at_or_under p q) (t q) s

-- the top of what is copied is what its source is
stays_opened : (kind : Bool) (o : Option Entry) → StandsAs kind o → StandsAs kind (option_map with_open_mark o)
stays_opened kind None h = h
stays_opened kind (Some e) h = h

pub copy_stands : (source : Tree) (from : PathValue) (t : Tree) (p : PathValue) (kind : Bool) → StandsAs kind (source from) → StandsAs kind (copied source from t p p)
copy_stands source from t p kind h =
    subst (λ (b : Bool). StandsAs kind (if b then copy_of source from (drop (length p) p) else touched_above p t p)) (sym (under_itself p))
    (subst (λ (r : PathValue). StandsAs kind (copy_of source from r)) (sym nothing_more) (stays_opened kind (source from) h))
  where
    nothing_more : drop (length p) p ≡ []
    nothing_more = ap (drop (length p)) (sym (append-nil p)) ∙ rest_append p []

-- ---- what the refusals say

directory_content : (x : Content) → directory_refusal (content_kind x) ≡ None → is_directory_content x ≡ true
directory_content contents.Directory e = refl
directory_content (contents.File text) e = cc

pub directory_there : (o : Option Entry) → directory_refusal (kind_of o) ≡ None → StandsAs true o
directory_there None e = cc
directory_there (Some x) e = directory_content x.content e

pub first_none : (a b : Option Refusal) → first a b ≡ None → (a ≡ None) × (b ≡ None)
first_none None b e = (refl, e)
first_none (Some r) b e = cc

file_content : (x : Content) (age : Option Refusal) → file_refusal (content_kind x) age ≡ None → is_directory_content x ≡ false
file_content contents.Directory age e = cc (first_none age (Some refusals.NotAFile) e).1
file_content (contents.File text) age e = refl

pub file_there : (o : Option Entry) (age : Option Refusal) → file_refusal (kind_of o) age ≡ None → StandsAs false o
file_there None age e = cc
file_there (Some x) age e = file_content x.content age e

no_content : (x : Content) → add_refusal (content_kind x) ≡ None → ⊥
no_content contents.Directory e = cc
no_content (contents.File text) e = cc

pub nothing_there : (o : Option Entry) → add_refusal (kind_of o) ≡ None → o ≡ None
nothing_there None e = refl
nothing_there (Some x) e = absurd (no_content x.content e)

-- what has to hold does
pub holds : (b : Bool) (r : Refusal) → unless b r ≡ None → b ≡ true
holds true r e = refl
holds false r e = cc

-- where a directory stands in a revision's tree there is such a revision, and so its tree is a tree
pub tree_there : (rs : List Revision) (n : ℕ) (p : PathValue) → AreTrees rs → directory_refusal (kind_of (get (tree_in (slice_get rs n)) p)) ≡ None → IsTree (tree_of (tree_in (slice_get rs n)))
tree_there [] n p trees e = cc (ap (λ (o : Option Entry). directory_refusal (kind_of o)) (get-empty path_cmp p))
tree_there (r ∷ rs) zero p trees e = trees.0
tree_there (r ∷ rs) (suc n) p trees e = tree_there rs n p trees.1 e

pub stands_some : (kind : Bool) (o : Option Entry) → StandsAs kind o → IsSome o
stands_some kind None h = absurd h
stands_some kind (Some e) h = refl

-- what is copied stands there, and is of the kind that is added
source_stands : (is_file : Bool) (o : Option Entry) → source_kind_refusal is_file (kind_of o) ≡ None → StandsAs (not is_file) o
source_stands true o e = file_there o (age_refusal None None) e
source_stands false o e = directory_there o e

pub named_none : (judged : Result PathValue PathFault → Option Refusal) (path : Result PathValue PathFault) (p : PathValue) → path ≡ Ok p → judged path ≡ None → judged (Ok p) ≡ None
named_none judged path p named none = subst (λ (r : Result PathValue PathFault). judged r ≡ None) named none

-- the parent's directory stands, where the path is one name beneath it
parent_there : (t : Tree) (tokens : Tokens) (parent : List ℕ) (p : PathValue) → All (OfOpened (StandsIn t)) tokens → is_within (directory_of tokens parent) p ≡ true → HasParent t p
parent_there t tokens parent p all within =
    within_found t (opened_under tokens parent) p (all_found (StandsIn t) (is_at (slice_cmp nat_cmp parent)) tokens all) within

pub placed_there : (t : Tree) (old : EditState) (parent token : List ℕ) (p : PathValue) → All (OfOpened (StandsIn t)) old.tokens → place_refusal old parent token p ≡ None → HasParent t p
placed_there t old parent token p all none =
    let has = both_true (is_some old.txn) (is_placed old.tokens parent token p) (holds (is_some old.txn && is_placed old.tokens parent token p) refusals.MalformedData none) in
    let within = both_true (not (is_some (opened_under old.tokens token))) (is_within (directory_of old.tokens parent) p) has.1 in
    parent_there t old.tokens parent p all within.1

pub beneath_there : (t : Tree) (old : EditState) (parent : List ℕ) (p : PathValue) → All (OfOpened (StandsIn t)) old.tokens → parent_refusal old parent p ≡ None → HasParent t p
beneath_there t old parent p all none =
    let has = both_true (is_some old.txn) (is_within (directory_of old.tokens parent) p) (holds (is_some old.txn && is_within (directory_of old.tokens parent) p) refusals.MalformedData none) in
    parent_there t old.tokens parent p all has.1

-- what stands is a file, where a text delta may begin
pub begins_at : (t : Tree) (e : EditState) (checksum : Option (List ℕ)) (o : Opened) → begin_delta_refusal e checksum (Some o) ≡ None → StandsIn t o → HasFile t (path_of o)
begins_at t e checksum (Directory d) none h = cc
begins_at t e checksum (File p delta) none h = h.0

-- the token of what is added is new
pub new_token : (old : EditState) (parent token : List ℕ) (p : PathValue) → place_refusal old parent token p ≡ None → opened_under old.tokens token ≡ None
new_token old parent token p none =
    let has = both_true (is_some old.txn) (is_placed old.tokens parent token p) (holds (is_some old.txn && is_placed old.tokens parent token p) refusals.MalformedData none) in
    missing (opened_under old.tokens token) (both_true (not (is_some (opened_under old.tokens token))) (is_within (directory_of old.tokens parent) p) has.1).0
  where
    missing : (o : Option Opened) → not (is_some o) ≡ true → o ≡ None
    missing None e = refl
    missing (Some o) e = cc

-- neither the kind of the source nor what lies beneath it is refused
pub right_source : (c : RepoState) (is_file : Bool) (p : PathValue) (source : Source) → source_refusal c is_file p source ≡ None
    → StandsAs (not is_file) (trees_in c.revisions source.revision source.path) × (depth_refusal c source p ≡ None)
right_source c is_file p source none =
    let later = first_none (unless (nat_le source.revision (youngest c)) refusals.NoSuchRevision) (first (source_kind_refusal is_file (kind_at c source.revision source.path)) (depth_refusal c source p)) none in
    let kind = first_none (source_kind_refusal is_file (kind_at c source.revision source.path)) (depth_refusal c source p) later.1 in
    (source_stands is_file (get (tree_at c source.revision) source.path) kind.0, kind.1)
