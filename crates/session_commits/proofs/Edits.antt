-- The end of an edit.
use Rattle.std.proofs.Common.{◌≡◌, ℕ, List, [], ◌∷◌, Bool, true, false, Option, Some, None, refl, sym, ap, subst, inl, inr, length}
use Rattle.std.specs.Prelude.{Result, Ok, Err, if◌then◌else◌, option_map}
use Rattle.dates.specs.Dates.{IsDateText}
use Rattle.svnpath.specs.Paths.{PathValue}
use Rattle.refusals.specs.declared.Refusal.{Refusal}
use Rattle.refusals.specs.declared.Refusal.TheVariants as refusals
use Rattle.repo_api.specs.{Accepted.{Accepted, changed}, Accepted.Accepted.Commits, Commits.{IsRefusedAt, commit_refusal, committed as with_commit}}
use Rattle.repo_api.specs.{States.{RepoState, TxnState}, declared.ask.CommitAsk.CommitAsk, declared.fault.ChangeFault.ChangeFault}
use Rattle.repo_api.specs.declared.fault.ChangeFault.TheVariants as change_faults
use Rattle.wire_edits.specs.{declared.editing.EditorCommand.EditorCommand, declared.editing.EditorCommand.TheVariants.{TargetRevision, OpenRoot, DeleteEntry}}
use Rattle.wire_edits.specs.declared.editing.EditorCommand.TheVariants.{AddDirectory, AddFile, OpenDirectory, OpenFile, AbsentDirectory, AbsentFile}
use Rattle.wire_edits.specs.declared.editing.EditorCommand.TheVariants.{ChangeDirectoryProperty, ChangeFileProperty, ApplyTextDelta, TextDeltaChunk}
use Rattle.wire_edits.specs.declared.editing.EditorCommand.TheVariants.{TextDeltaEnd, CloseDirectory, CloseFile, CloseEdit, AbortEdit}
use Rattle.wire_replies.specs.declared.reply.Reply.TheVariants as replies
use Rattle.edit_rules.specs.Editor.{finished}
use Rattle.access.specs.{Changing.{CommitsAt, wants_release}, Points.{AccessRules, content_of, Point}, Refused.IfRefusal, declared.access.Committed.Committed}
use Rattle.access.specs.{declared.access.Released.Released, declared.access.Released.TheVariants.{Settled, NoMemory, StoreFailed}}
use Rattle.machine.specs.{Answers.{Answer, behind, change_answer, refuses, says, Step}, Answers.Verdict.{NotWritten, Unknown, Written}, Machine.CloseStep}
use Rattle.machine.specs.Machine.{CommandStep, commit_ask, CommitStep, EditingStep, ending_of, IsReleaseOf, MachineEdit, made_answer, Release, release_fails}
use Rattle.machine.specs.Machine.{unreleased_answer, UnreleasedClose, UnreleasedEnd}
use Rattle.machine.specs.{Machine.Release.{InDoubt, NotReleased, Released as FreedThere, Stays as StayThere}, Stages.Stage, Steps.EffectAt}
use Rattle.machine.specs.{declared.commit_parameters.CommitParameters.CommitParameters, declared.env.Env.Env, declared.ending.Ending.Ending}
use Rattle.machine.specs.{declared.ending.Ending.TheVariants.{Commits as ToCommit, GivesUp}, declared.phase.Phase.TheVariants.{Serving, Ended}}
use Rattle.machine.specs.declared.phase.Client.{Client}
use Rattle.session_replies.specs.Telling.{fault_answer}
use Rattle.session_replies.proofs.Steps.{AnsweredIfAnyWith, Leads, leads_by, only_says, stepped, SteppedInPartWith, unparted, not_asked}
use Rattle.session_commits.specs.Telling.{commit_answer}

-- ---- the end of an edit

-- an edit that cannot be committed
pub closes_by : (rules : AccessRules) (env : Env) (edit : MachineEdit) (p : Point) (r : Refusal) → rules.between p p → finished edit.editor ≡ Err r
    → Leads rules (CloseStep env edit.client edit.asked (finished edit.editor)) p p env
    (Serving edit.client) (replies.Failure r None ∷ [])
closes_by rules env edit p r stays is =
    let said = says env (Serving edit.client) (replies.Failure r None ∷ []) in
    let step = subst (λ (x : Result TxnState Refusal). CloseStep env edit.client edit.asked x p.halted (content_of p) said) (sym is) refl in
    only_says stays step

-- an edit that is given up
pub aborts : (known : Type 0) (rules : AccessRules) (env : Env) (edit : MachineEdit) (command : EditorCommand) (p : Point) → rules.between p p → ending_of command ≡ Some GivesUp
    → Leads rules (EditingStep known env edit (Ok command)) p p env (Serving edit.client) (replies.Success ∷ [])
aborts known rules env edit command p stays is =
    let said = says env (Serving edit.client) (replies.Success ∷ []) in
    let step = subst (λ (e : Option Ending). CommandStep known env edit command e p.halted (content_of p) said) (sym is) refl in
    only_says stays step

-- what a commit is asked to record, at its moment
pub record IsAsked (env : Env) (client : Client) (asked : CommitParameters) (date : List ℕ) (ask : CommitAsk) : Type 0 where
  pub dated : IsDateText env.moment date
  pub same : ask ≡ commit_ask client asked date

module _ {env : Env} {client : Client} {asked : CommitParameters} {date : List ℕ} {ask : CommitAsk} (is : IsAsked env client asked date ask)
    (rules : AccessRules) (t : TxnState) (p q : Point) where
  -- the end of the edit, at a point, and the part of it that may happen alone
  abbrev Closes : Step
  Closes = CloseStep env client asked (Ok t)

  abbrev Stays : Step
  Stays = UnreleasedClose env client asked (Ok t)

  -- what the commit has come to
  abbrev Came : Result Committed ChangeFault → Type 0
  Came r = (at : Point) × rules.between p at × CommitsAt rules ask t at r q

  -- it is dated, and judged as what is asked to be recorded
  closes : (at : Point) (h : Bool) (r : Option Refusal) (a : Answer) → at.halted ≡ h → commit_refusal (content_of at) ask t ≡ r
      → CommitStep h env (content_of at) client ask t r a → Closes at.halted (content_of at) a
  closes at h r a halts judged step =
      let c = content_of at in
      let here = subst (λ (o : Option Refusal). CommitStep h env c client ask t o a) (sym judged) step in
      let now = subst (λ (b : Bool). CommitStep b env c client ask t (commit_refusal c ask t) a) (sym halts) here in
      (date, is.dated, subst (λ (x : CommitAsk). CommitStep at.halted env c client x t (commit_refusal c x t) a) is.same now)

  module _ (counts : (x : Point) (e : Accepted) (y : Point) → rules.adds x e y
      → (content_of y ≡ changed (content_of x) e) × (y.halted ≡ x.halted) × (y.failures ≡ x.failures) × (y.pending ≡ x.pending))
      (n : ℕ) (author : Option (List ℕ)) (author_is : author ≡ client.user) where
    -- one that is written, and told so
    made : (at mid : Point) (release : Release) → rules.between p at → at.halted ≡ false → commit_refusal (content_of at) ask t ≡ None
        → n ≡ length (content_of at).revisions → rules.adds at (Commits ask t) mid → IsReleaseOf (wants_release ask (content_of mid)) release
        → EffectAt rules at (made_answer env (content_of at) client ask t release).effect q
        → Leads rules Closes p q env (if release_fails release then Ended else Serving client)
        (replies.Success ∷ replies.NoLogin ∷ replies.CommitInfo n date author (release_fails release) ∷ [])
    made at mid release later going accepted number added wanted moves =
        let a = made_answer env (content_of at) client ask t release in
        let there = subst (λ (x : RepoState). IsReleaseOf (wants_release ask x) release) (counts at (Commits ask t) mid added).0 wanted in
        let dated : ask.date ≡ date = ap (λ (x : CommitAsk). x.date) is.same in
        record {
          answer = a;
          happens = record { at = at; later = later; step_is = closes at false None a going accepted (Written, (release, there, refl)); moves = moves };
          phase_is = refl;
          env_is = refl;
          told_is = cc (number, author_is, dated);
        }

    -- one that is written, whatever became of the locks
    pub committed : (released : Released) → Came (Ok (record { revision = n; released = released }))
        → {E : Type 0} (r : Result Stage E) (env' : Env) (writes : List ℕ → Type 0)
        → AnsweredIfAnyWith r env' writes (commit_answer env client date author n released) → SteppedInPartWith r env' writes rules p q Closes Stays
    committed Settled (at, later, (going, accepted, (number, (mid, added, inl (wants, freed))))) r env' writes said =
        unparted rules Closes Stays p q writes r env' (stepped (made at mid FreedThere later going accepted number added (subst (λ (b : Bool). IsReleaseOf b FreedThere) (sym wants) tt)
        (q, (mid, added, (q, freed, refl)), refl)) writes r env' said)
    committed Settled (at, later, (going, accepted, (number, (mid, added, inr (stay, same))))) r env' writes said =
        unparted rules Closes Stays p q writes r env' (stepped (made at mid StayThere later going accepted number added (subst (λ (b : Bool). IsReleaseOf b StayThere) (sym stay) tt)
        (mid, (mid, added, refl), same)) writes r env' said)
    committed StoreFailed (at, later, (going, accepted, (number, (mid, added, (wants, inl fails))))) r env' writes said =
        unparted rules Closes Stays p q writes r env' (stepped (made at mid NotReleased later going accepted number added (subst (λ (b : Bool). IsReleaseOf b NotReleased) (sym wants) tt)
        (mid, (mid, added, refl), fails)) writes r env' said)
    committed StoreFailed (at, later, (going, accepted, (number, (mid, added, (wants, inr halt))))) r env' writes said =
        unparted rules Closes Stays p q writes r env' (stepped (made at mid InDoubt later going accepted number added (subst (λ (b : Bool). IsReleaseOf b InDoubt) (sym wants) tt)
        (mid, (mid, added, refl), halt)) writes r env' said)
    committed NoMemory came (Ok phase') env' writes said = absurd said
    committed NoMemory (at, later, (going, accepted, (number, (mid, added, (wants, same))))) (Err e) env' writes said =
        let c = content_of at in
        let there = subst (λ (x : RepoState). wants_release ask x ≡ true) (counts at (Commits ask t) mid added).0 wants in
        let same_ask = is.same in
        inr (
          unreleased_answer env ask t,
          record {
            at = at;
            later = later;
            step_is = record {
              txn = t;
              txn_is = refl;
              date = date;
              is_date = is.dated;
              running = going;
              accepted = subst (λ (x : CommitAsk). commit_refusal c x t ≡ None) same_ask accepted;
              wanted = subst (λ (x : CommitAsk). wants_release x (with_commit c x t) ≡ true) same_ask there;
              is = ap (λ (x : CommitAsk). unreleased_answer env x t) same_ask;
            };
            moves = (mid, (mid, added, refl), same);
          },
          said,
        )

  -- one that is refused, or not written, or lacks memory
  led : (at : Point) (a : Answer) → rules.between p at → Closes at.halted (content_of at) a → EffectAt rules at a.effect q → Leads rules Closes p q a.env
      a.phase a.replies
  led at a later step_is moves = leads_by a at later step_is moves

  pub not_committed : (fault : ChangeFault) (path : Option PathValue) → Came (Err fault) → IfRefusal fault (IsRefusedAt (content_of q) ask t path)
      → {E : Type 0} (r : Result Stage E) (env' : Env) (writes : List ℕ → Type 0)
      → AnsweredIfAnyWith r env' writes (option_map (behind []) (fault_answer env client path fault)) → SteppedInPartWith r env' writes rules p q Closes Stays
  not_committed (change_faults.Refused why) path (at, later, (going, refused, stays)) place r env' writes said =
      let a = refuses env client why path in
      let there = subst (λ (x : Point). IsRefusedAt (content_of x) ask t path) stays place in
      unparted rules Closes Stays p q writes r env' (stepped (led at a later (closes at false (Some why) a going refused (path, there, refl)) (at, refl, stays)) writes r env' said)
  not_committed change_faults.StoreFailed path (at, later, (going, accepted, fails)) place r env' writes said =
      let a = change_answer env client (Commits ask t) [] NotWritten in
      unparted rules Closes Stays p q writes r env' (stepped (led at a later (closes at false None a going accepted (NotWritten, refl)) (at, refl, fails)) writes r env' said)
  not_committed change_faults.Halted path (at, later, inl (stopped, stays)) place r env' writes said =
      let a = says env Ended (replies.Failure refusals.StoreFailed None ∷ []) in
      unparted rules Closes Stays p q writes r env' (stepped (led at a later (closes at true (commit_refusal (content_of at) ask t) a stopped refl refl) (at, refl, stays)) writes r env' said)
  not_committed change_faults.Halted path (at, later, inr (going, accepted, halts)) place r env' writes said =
      let a = change_answer env client (Commits ask t) [] (Unknown (Commits ask t)) in
      unparted rules Closes Stays p q writes r env' (stepped (led at a later (closes at false None a going accepted (Unknown (Commits ask t), (refl, refl))) (at, refl, halts)) writes r env' said)
  not_committed change_faults.NoMemory path came place (Ok phase') env' writes said = absurd said
  not_committed change_faults.NoMemory path came place (Err e) env' writes said = inl (not_asked came said)

-- ---- the command that ends an edit by its commit

close_edit : (command : EditorCommand) → ending_of command ≡ Some ToCommit → command ≡ CloseEdit
close_edit (TargetRevision revision) is = cc
close_edit (OpenRoot revision token) is = cc
close_edit (DeleteEntry entry) is = cc
close_edit (AddDirectory entry) is = cc
close_edit (AddFile entry) is = cc
close_edit (OpenDirectory entry) is = cc
close_edit (OpenFile entry) is = cc
close_edit (AbsentDirectory entry) is = cc
close_edit (AbsentFile entry) is = cc
close_edit (ChangeDirectoryProperty change) is = cc
close_edit (ChangeFileProperty change) is = cc
close_edit (ApplyTextDelta token checksum) is = cc
close_edit (TextDeltaChunk token bytes) is = cc
close_edit (TextDeltaEnd token) is = cc
close_edit (CloseDirectory token) is = cc
close_edit (CloseFile token checksum) is = cc
close_edit CloseEdit is = refl
close_edit AbortEdit is = cc

pub ends_so : (env : Env) (edit : MachineEdit) (command : EditorCommand) → ending_of command ≡ Some ToCommit → (at : Point) (a : Answer)
    → UnreleasedClose env edit.client edit.asked (finished edit.editor) at.halted (content_of at) a → UnreleasedEnd env edit (Ok command) at.halted
    (content_of at) a
ends_so env edit command is at a closed = (ap Ok (close_edit command is), closed)
