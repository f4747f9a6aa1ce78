-- A commit that is judged by one rule after another.
use Rattle.std.proofs.{Common.{rules, tests, refl, ◌≡◌, ◌<◌, Bool, true, false, Option, Some, None, is_some, length, sym, ap}, lemmas.Bool.false≢true}
use Rattle.std.specs.{Option.option_or, Prelude.{if◌then◌else◌, nat_le}}
use Rattle.refusals.specs.declared.Refusal.{Refusal}
use Rattle.refusals.specs.declared.Refusal.TheVariants as refusals
use Rattle.repo_api.specs.{declared.limits.TheConstants.REVISION_LIMIT, Commits.{commit_refusal, limit_refusal}, Locking.check_refusal, MergedMaps.has_conflict}
use Rattle.repo_api.specs.{States.{RepoState, tree_at, TxnState, youngest}, declared.ask.CommitAsk.CommitAsk}

last_none : (found : Bool) (r : Refusal) (o n : Option Refusal) → (if found then Some r else option_or o n) ≡ None → n ≡ None
last_none true r o n h = absurd (false≢true (sym (ap is_some h)))
last_none false r (Some s) n h = absurd (false≢true (sym (ap is_some h)))
last_none false r None n h = h

-- there is a number left for what is not refused
pub under_limit : (c : RepoState) (ask : CommitAsk) (t : TxnState) → commit_refusal c ask t ≡ None → length c.revisions < REVISION_LIMIT
under_limit c ask t none =
    by (nat_le REVISION_LIMIT (length c.revisions)) refl
    (last_none (has_conflict (tree_at c t.base) t.tree (tree_at c (youngest c))) refusals.Conflict (check_refusal c.locks t.changes ask.author ask.tokens) (limit_refusal c) none)
  where
    by : (y : Bool) → nat_le REVISION_LIMIT (length c.revisions) ≡ y → ◌≡◌ {A = Option Refusal} (if y then Some refusals.NotSupported else None) None → length c.revisions < REVISION_LIMIT
    by true e h = absurd (false≢true (sym (ap is_some h)))
    by false e h = search (rules, tests)
