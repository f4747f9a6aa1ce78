-- The steps of a text delta.
use Rattle.std.proofs.Common.{◌≡◌, ℕ, List, [], Option, Some, None, Ok, ap, subst, ◌∙◌}
use Rattle.svnpath.specs.Paths.{PathValue}
use Rattle.svndiff0.specs.{Applying.Applying, Document.{read_document, outcome}}
use Rattle.repo_api.specs.{States.{RepoState, TxnState}, declared.edit.EditOp.EditOp}
use Rattle.repo_api.specs.declared.edit.EditOp.TheVariants as edits
use Rattle.edit_rules.specs.{declared.opened.Opened.Opened, declared.opened.Opened.TheVariants.File}
use Rattle.edit_rules.specs.{declared.opened.DeltaState.TheVariants.{NotBegun, Reading, Ended}, Editor.{BeginsDelta, Edits, EndsDelta, IsReadFor, unread}}
use Rattle.edit_rules.specs.{Edits.{EditState, file_text, open_in}, Refusing.open_under, Tokens.{opened_under, Tokens, with_change}}
use Rattle.editor.proofs.Steps.{reopened}

-- what is open in a transaction is open
pub under : (txn : Option TxnState) (tokens : Tokens) (token : List ℕ) (o : Opened) → open_in txn tokens token ≡ Some o → opened_under tokens token ≡ Some o
under None tokens token o is = cc
under (Some t) tokens token o is = is

pub is_unread : (a : Applying) (text : List ℕ) → a.base ≡ text → a.reading ≡ read_document a.base [] → a ≡ unread text
is_unread a text is_base is_read =
    let is_reading : a.reading ≡ read_document text [] = is_read ∙ ap (λ (b : List ℕ). read_document b []) is_base in
    λ i. record { base = is_base i; reading = is_reading i }

pub begins : (known : Type 0) (now old : EditState) (token : List ℕ) (p : PathValue) (a : Applying) (base : List ℕ) (tokens : Tokens) → now ≡ old
    → open_under old token ≡ Some (File p NotBegun)
    → (opened_under now.tokens token ≡ Some (File p NotBegun) → tokens ≡ with_change now.tokens token (File p (Reading a))) → a ≡ unread base
    → IsReadFor known (file_text old p) base → BeginsDelta known old token (record now { tokens = tokens })
begins known now old token p a base tokens same is change is_new read =
    subst (λ (o : EditState). open_under o token ≡ Some (File p NotBegun) → IsReadFor known (file_text o p) base → BeginsDelta known o token (record now { tokens = tokens })) same here is read
  where
    here : open_under now token ≡ Some (File p NotBegun) → IsReadFor known (file_text now p) base → BeginsDelta known now token (record now { tokens = tokens })
    here stands is_read =
        let is_under = under now.txn now.tokens token (File p NotBegun) stands in (
          File p NotBegun,
          is_under,
          (
            base,
            is_read,
            ap (λ (ts : Tokens). record now { tokens = ts }) (change is_under ∙ (λ i. with_change now.tokens token (File p (Reading (is_new i))))),
          ),
        )

pub ends : (c : RepoState) (old mid now : EditState) (op : EditOp) (token : List ℕ) (p : PathValue) (a : Applying) (text : List ℕ) (tokens : Tokens) → open_under old token ≡ Some (File p (Reading a))
    → outcome a.reading ≡ Ok text → op ≡ edits.SetText p text → Edits c old op old.tokens mid → now ≡ mid
    → (opened_under now.tokens token ≡ Some (File p (Reading a)) → tokens ≡ with_change now.tokens token (File p Ended))
    → EndsDelta c old token (record now { tokens = tokens })
ends c old mid now op token p a text tokens is has_text is_op h same change =
    let is_under = under old.txn old.tokens token (File p (Reading a)) is in
    let is_tokens : now.tokens ≡ old.tokens = ap (λ (e : EditState). e.tokens) (same ∙ h.is) in
    let changed = change (ap (λ (ts : Tokens). opened_under ts token) is_tokens ∙ is_under) in (
      p,
      a,
      is_under,
      (text, has_text, reopened c old mid now op (edits.SetText p text) old.tokens tokens (with_change old.tokens token (File p Ended)) h same is_op (changed ∙ (λ i. with_change (is_tokens i) token (File p Ended)))),
    )
