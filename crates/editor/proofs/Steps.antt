-- The steps of an edit: what is put in, and what is taken out again.
use Rattle.std.proofs.Common.{◌≡◌, ℕ, Bool, true, false, cond, not, ◌&&◌, List, [], ◌∷◌, Option, Some, None, is_some, Ok, refl, ap, subst, ◌∙◌}
use Rattle.std.specs.{Prelude.{Result, Err, MatchResult, OnOk}, BTreeMap.{insert_entry, is_at}, Map.{lookup, remove_entry}}
use Rattle.std.specs.{Cmp.Lexicographic.{slice_cmp, nat_list_cmp_total}, Ordering.{nat_cmp, match_ordering, is_eq, ordering_reverse}}
use Rattle.std.specs.{declared.cmp.Ordering.Ordering, declared.cmp.Ordering.TheVariants.{Less, Equal, Greater}}
use Rattle.svnpath.specs.Paths.{PathValue}
use Rattle.repo_api.specs.{States.{IsBegun, IsEdited, RepoState, TxnState}, declared.change.Source.Source, declared.edit.EditOp.EditOp}
use Rattle.refusals.specs.declared.Refusal.{Refusal}
use Rattle.refusals.specs.declared.Refusal.TheVariants as refusals
use Rattle.edit_rules.specs.{declared.opened.Opened.Opened, declared.opened.Opened.TheVariants.Directory}
use Rattle.edit_rules.specs.{Editor.{added_opened, Closes, Edits, opened_directory, Opens, OpensRoot}, Edits.EditState}
use Rattle.edit_rules.specs.Refusing.{first, parent_refusal, place_refusal, unless}
use Rattle.edit_rules.specs.Tokens.{directory_of, is_placed, is_within, opened_under, path_of, Tokens, with_token, without_token}

pub on_ok : {T E : Type 0} {P Q : Type 0} (X : Type 0) (r : Result T E) → (P → Q) → MatchResult r (λ _. P) (λ _. X) → OnOk r Q
on_ok X (Ok x) f p = f p
on_ok X (Err e) f x = tt

-- an edit that is made, with what is open then
pub made : (c : RepoState) (now old : EditState) (op : EditOp) (before after : TxnState) (wanted tokens : Tokens) → now ≡ old → now.txn ≡ Some before → IsEdited c.revisions before op after → tokens ≡ wanted
    → Edits c old op wanted (record now { txn = Some after; tokens = tokens })
made c now old op before after wanted tokens same had edited is =
    subst (λ (o : EditState). Edits c o op wanted (record now { txn = Some after; tokens = tokens })) same
    (record { before = before; had = had; after = after; edited = edited; is = ap (λ (ts : Tokens). record now { txn = Some after; tokens = ts }) is })

-- an edit that is made, once something else is open
pub reopened : (c : RepoState) (old mid now : EditState) (op op' : EditOp) (ts tokens wanted : Tokens) → Edits c old op ts mid → now ≡ mid → op ≡ op' → tokens ≡ wanted
    → Edits c old op' wanted (record now { tokens = tokens })
reopened c old mid now op op' ts tokens wanted h same is_op is =
    record {
      before = h.before;
      had = h.had;
      after = h.after;
      edited = subst (λ (o : EditOp). IsEdited c.revisions h.before o h.after) is_op h.edited;
      is = (λ i. record (same i) { tokens = is i }) ∙ ap (λ (e : EditState). record e { tokens = wanted }) h.is;
    }

pub opens : (c : RepoState) (now old : EditState) (revision : Option ℕ) (token key : List ℕ) (copy : PathValue) (txn : TxnState) (tokens : Tokens) → now ≡ old → key ≡ token → copy ≡ now.path → IsBegun c txn
    → tokens ≡ with_token now.tokens key (Directory (opened_directory copy revision false)) → OpensRoot c old revision token (record now { txn = Some txn; tokens = tokens })
opens c now old revision token key copy txn tokens same is_key is_path begun put =
    subst (λ (o : EditState). OpensRoot c o revision token (record now { txn = Some txn; tokens = tokens })) same
    (record { txn = txn; begun = begun; is = ap (λ (ts : Tokens). record now { txn = Some txn; tokens = ts }) (put ∙ (λ i. with_token now.tokens (is_key i) (Directory (opened_directory (is_path i) revision false)))) })

-- ---- what is taken out again

by_ordering : {K X : Type 0} (cmp : K → K → Ordering) (e : K × X) (es : List (K × X)) (k : K) (v : X) (o : Ordering) → cmp k k ≡ Equal → cmp k e.0 ≡ o → lookup (is_at (cmp k)) (e ∷ es) ≡ None → remove_entry (is_at (cmp k)) (insert_entry cmp es k v) ≡ es → remove_entry (is_at (cmp k)) (match_ordering o ((k, v) ∷ e ∷ es) ((e.0, v) ∷ es) (e ∷ insert_entry cmp es k v)) ≡ e ∷ es
by_ordering cmp e es k v Less same o none rest = ap (λ (r : Ordering). cond (is_eq r) (e ∷ es) ((k, v) ∷ remove_entry (is_at (cmp k)) (e ∷ es))) same
by_ordering cmp e es k v Equal same o none rest = cc (ap (λ (r : Ordering). cond (is_eq r) (Some e.1) (lookup (is_at (cmp k)) es)) o)
by_ordering cmp e es k v Greater same o none rest = ap (λ (r : Ordering). cond (is_eq r) (insert_entry cmp es k v) (e ∷ remove_entry (is_at (cmp k)) (insert_entry cmp es k v))) o ∙ ap (λ (rs : List _). e ∷ rs) rest

none_after : {K X : Type 0} (test : K → Bool) (e : K × X) (es : List (K × X)) (b : Bool) → test e.0 ≡ b → cond b (Some e.1) (lookup test es) ≡ None → lookup test es ≡ None
none_after test e es true t none = cc
none_after test e es false t none = none

pub taken_out : {K X : Type 0} (cmp : K → K → Ordering) (k : K) (v : X) → cmp k k ≡ Equal → (es : List (K × X)) → lookup (is_at (cmp k)) es ≡ None → remove_entry (is_at (cmp k)) (insert_entry cmp es k v) ≡ es
taken_out cmp k v same [] none = ap (λ (r : Ordering). cond (is_eq r) [] ((k, v) ∷ [])) same
taken_out cmp k v same (e ∷ es) none =
    by_ordering cmp e es k v (cmp k e.0) same refl none
    (taken_out cmp k v same es (none_after (is_at (cmp k)) e es (is_at (cmp k) e.0) refl none))

same_both_ways : (o : Ordering) → o ≡ ordering_reverse o → o ≡ Equal
same_both_ways Less e = cc
same_both_ways Equal e = refl
same_both_ways Greater e = cc

same_token : (token : List ℕ) → slice_cmp nat_cmp token token ≡ Equal
same_token token = same_both_ways (slice_cmp nat_cmp token token) (nat_list_cmp_total.antisymm token token)

-- an edit that is made once an entry is open for it
pub opened_edit : (c : RepoState) (old mid new : EditState) (op : EditOp) (token : List ℕ) (opened : Opened) → Opens old token opened mid → Edits c mid op mid.tokens new → Edits c old op (with_token old.tokens token opened) new
opened_edit c old mid new op token opened is h =
    let e : Edits c (record old { tokens = with_token old.tokens token opened }) op (with_token old.tokens token opened) new = subst (λ (m : EditState). Edits c m op m.tokens new) is h in
    record { before = e.before; had = e.had; after = e.after; edited = e.edited; is = e.is }

-- an entry that is opened under a new token and closed again
pub closed_again : (old mid after back : EditState) (token key : List ℕ) (opened : Opened) → opened_under old.tokens token ≡ None → Opens old token opened mid → after ≡ mid → key ≡ token → Closes after key back → back ≡ old
closed_again old mid after back token key opened none is same is_key closed =
    closed ∙ (λ i. record ((same ∙ is) i) { tokens = without_token ((same ∙ is) i).tokens (is_key i) })
    ∙ ap (λ (ts : Tokens). record old { tokens = ts }) (taken_out (slice_cmp nat_cmp) token opened (same_token token) old.tokens none)

-- ---- what a judgement says

both : (a b : Bool) → unless (a && b) refusals.MalformedData ≡ None → (a ≡ true) × (b ≡ true)
both true true e = (refl, refl)
both true false e = cc
both false b e = cc

pub none_first : (a b : Option Refusal) → first a b ≡ None → (a ≡ None) × (b ≡ None)
none_first None b e = (refl, e)
none_first (Some r) b e = cc

not_some : {A : Type 0} (o : Option A) (b : Bool) → not (is_some o) && b ≡ true → o ≡ None
not_some None b e = refl
not_some (Some x) b e = cc

-- a place that is not refused
pub record IsPlaced (e : EditState) (parent token : List ℕ) (p : PathValue) : Type 0 where
  pub has_txn : is_some e.txn ≡ true
  pub is_new : opened_under e.tokens token ≡ None
  pub placed : is_placed e.tokens parent token p ≡ true

pub placed : (e : EditState) (parent token : List ℕ) (p : PathValue) → place_refusal e parent token p ≡ None → IsPlaced e parent token p
placed e parent token p none =
    let b = both (is_some e.txn) (is_placed e.tokens parent token p) none in
    record { has_txn = b.0; is_new = not_some (opened_under e.tokens token) (is_within (directory_of e.tokens parent) p) b.1; placed = b.1 }

pub placed_first : (e : EditState) (parent token : List ℕ) (p : PathValue) (rest : Option Refusal) → first (place_refusal e parent token p) rest ≡ None → IsPlaced e parent token p
placed_first e parent token p rest none = placed e parent token p (none_first (place_refusal e parent token p) rest none).0

-- a parent that is not refused is open in a transaction
pub has_txn : (e : EditState) (parent : List ℕ) (p : PathValue) → parent_refusal e parent p ≡ None → is_some e.txn ≡ true
has_txn e parent p none = (both (is_some e.txn) (is_within (directory_of e.tokens parent) p) none).0

-- what is added is open at its path
pub path_of_added : (is_file : Bool) (p : PathValue) (source : Source) → path_of (added_opened is_file p (Some source)) ≡ p
path_of_added true p source = refl
path_of_added false p source = refl
