-- A copy as a loop over the entries of its source makes it.
use Rattle.std.proofs.Common.{◌≡◌, Bool, true, false, ◌||◌, ◌&&◌, List, [], ◌∷◌, ◌++◌, length, drop, Option, Some, None, is_some, option_map, refl, sym, ap}
use Rattle.std.proofs.{Common.◌∙◌, lemmas.Bool.false≢true, lemmas.List.append-nil}
use Rattle.std.specs.{Prelude.if◌then◌else◌, Option.option_or, List.list_any, Map.keys_of}
use Rattle.svnpath.specs.PathLaws.{rest_append, same_path-append, same_path_is, same_path_refl, under_append, under_is}
use Rattle.svnpath.specs.Paths.{is_at_or_under, PathValue, same_path}
use Rattle.repo_api.specs.{Edits.{copy_of, with_open_mark}, Trees.Tree, declared.entry.Entry.Entry}
use Rattle.revision_data.specs.Found.{found}
use Rattle.flat_entries.specs.Copies.{copied_entry}
use Rattle.flat_trees.specs.EntryChanges.{landed}
use Rattle.flat_trees.proofs.Anys.{any_at, found_key}

-- where the copy of the entry at k goes
abbrev pub target : PathValue → PathValue → PathValue → PathValue
target from to k = to ++ drop (length from) k

-- whether the entry at k is copied to q
abbrev pub lands : PathValue → PathValue → PathValue → PathValue → Bool
lands from to q k = is_at_or_under k from && same_path (target from to k) q

-- what is copied, by what is left of its path
copied_rest : (s : Tree) (from r k : PathValue) (v : Entry) → k ≡ from ++ r → s k ≡ Some v → copy_of s from r ≡ Some (copied_entry (same_path k from) v)
copied_rest s from [] k v is here =
    ap (option_map with_open_mark) (ap s (sym top) ∙ here) ∙ ap (λ b. Some (copied_entry b v)) (sym (ap (λ p. same_path p from) top ∙ same_path_refl from))
  where
    top : k ≡ from
    top = is ∙ append-nil from
copied_rest s from (c ∷ r) k v is here =
    ap s (sym is) ∙ here
    ∙ ap (λ b. Some (copied_entry b v)) (sym (ap (λ p. same_path p from) is ∙ ap (same_path (from ++ c ∷ r)) (sym (append-nil from)) ∙ same_path-append from (c ∷ r) []))

if_true : {X : Type 0} (b : Bool) (x y : X) → b ≡ true → (if b then x else y) ≡ x
if_true true x y h = refl
if_true false x y h = absurd (false≢true h)

-- an entry lands as a copy
pub lands_as : (s : Tree) (from to k q : PathValue) (v : Entry) → is_at_or_under k from ≡ true → s k ≡ Some v → same_path (target from to k) q ≡ true
    → landed s from to q ≡ Some (copied_entry (same_path k from) v)
lands_as s from to k q v under here same =
    ap (landed s from to) (sym (same_path_is (target from to k) q same))
    ∙ if_true (is_at_or_under (target from to k) to) (copy_of s from (drop (length to) (target from to k))) None (under_append to (drop (length from) k))
    ∙ ap (copy_of s from) (rest_append to (drop (length from) k))
    ∙ copied_rest s from (drop (length from) k) k v (under_is k from under) here

-- and what is landed was copied from a key
landed_key : (s : Tree) (from r : PathValue) → is_some (copy_of s from r) ≡ true → is_some (s (from ++ r)) ≡ true
landed_key s from [] some = ap (λ p. is_some (s p)) (append-nil from) ∙ mapped (s from) some
  where
    mapped : (o : Option Entry) → is_some (option_map with_open_mark o) ≡ true → is_some o ≡ true
    mapped None h = h
    mapped (Some e) h = refl
landed_key s from (c ∷ r) some = some

pub lands_some : (es : List (PathValue × Entry)) (from to q : PathValue) → is_some (landed (found es) from to q) ≡ true → list_any (lands from to q) (keys_of es) ≡ true
lands_some es from to q some = by (is_at_or_under q to) refl some
  where
    rest : PathValue
    rest = drop (length to) q

    there : is_at_or_under q to ≡ true → same_path (target from to (from ++ rest)) q ≡ true
    there under = ap (λ r. same_path (to ++ r) q) (rest_append from rest) ∙ ap (λ p. same_path p q) (sym (under_is q to under)) ∙ same_path_refl q

    by : (b : Bool) → is_at_or_under q to ≡ b → is_some (if b then copy_of (found es) from rest else None) ≡ true → list_any (lands from to q) (keys_of es) ≡ true
    by true under h =
        any_at (lands from to q) (keys_of es) (from ++ rest) (sym (found_key es (from ++ rest)) ∙ landed_key (found es) from rest h)
        (ap (λ b. b && same_path (target from to (from ++ rest)) q) (under_append from rest) ∙ there under)
    by false under h = absurd (false≢true h)

-- ---- the loop
pub start_copy : (es : List (PathValue × Entry)) (from to q : PathValue) (o : Option Entry)
    → option_or (if list_any (lands from to q) (keys_of es) then landed (found es) from to q else None) o ≡ option_or (landed (found es) from to q) o
start_copy es from to q o = by (list_any (lands from to q) (keys_of es)) refl (landed (found es) from to q) refl
  where
    by : (b : Bool) → list_any (lands from to q) (keys_of es) ≡ b → (l : Option Entry) → landed (found es) from to q ≡ l → option_or (if b then l else None) o ≡ option_or l o
    by true any l is = refl
    by false any None is = refl
    by false any (Some e) is = absurd (false≢true (sym any ∙ lands_some es from to q (ap is_some is)))

or_twice : (a : Bool) (l o : Option Entry) → option_or (if a then l else None) (option_or l o) ≡ option_or l o
or_twice true None o = refl
or_twice true (Some e) o = refl
or_twice false l o = refl

-- one entry that is copied
pub copy_more : (s : Tree) (from to k q : PathValue) (v : Entry) (rest : Bool) (out new : Option Entry) → is_at_or_under k from ≡ true → s k ≡ Some v
    → new ≡ (if same_path (target from to k) q then Some (copied_entry (same_path k from) v) else out)
    → option_or (if rest then landed s from to q else None) new ≡ option_or (if lands from to q k || rest then landed s from to q else None) out
copy_more s from to k q v rest out new under here is =
    ap (option_or (if rest then landed s from to q else None)) is ∙ by (same_path (target from to k) q) refl
    ∙ ap (λ b. option_or (if (b && same_path (target from to k) q) || rest then landed s from to q else None) out) (sym under)
  where
    by : (b : Bool) → same_path (target from to k) q ≡ b
        → option_or (if rest then landed s from to q else None) (if b then Some (copied_entry (same_path k from) v) else out)
        ≡ option_or (if b || rest then landed s from to q else None) out
    by true same =
        let at = lands_as s from to k q v under here same in
        ap (λ l. option_or (if rest then landed s from to q else None) (option_or l out)) (sym at) ∙ or_twice rest (landed s from to q) out
    by false same = refl
