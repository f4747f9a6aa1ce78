-- Changes that were asked for, and the steps that they are.
use Rattle.std.proofs.Common.{◌≡◌, ℕ, List, [], ◌∷◌, ◌++◌, Bool, true, false, Option, Some, None, refl, sym, subst, inl, inr}
use Rattle.std.specs.Prelude.{Result, Ok, Err, option_map}
use Rattle.repo_api.specs.{declared.fault.ChangeFault.ChangeFault, Accepted.Accepted, States.RepoState}
use Rattle.refusals.specs.declared.Refusal.{Refusal}
use Rattle.refusals.specs.declared.Refusal.TheVariants as refusals
use Rattle.repo_api.specs.declared.fault.ChangeFault.TheVariants as change_faults
use Rattle.wire_replies.specs.declared.reply.Reply.{Reply}
use Rattle.wire_replies.specs.declared.reply.Reply.TheVariants as replies
use Rattle.access.specs.{Changing.ReplacesAt, Points.{AccessRules, content_of, Point}}
use Rattle.machine.specs.Answers.{Answer, Behind, behind, change_answer, ChangeStep, failure_at, path_of_change, refuses, says, Step, Verdict}
use Rattle.machine.specs.{Answers.Verdict.{NotWritten, Unknown, Written}, Stages.Stage, Steps.{EffectAt, StepAt}, declared.env.Env.Env}
use Rattle.machine.specs.{declared.phase.Client.Client, declared.phase.Phase.TheVariants.{Serving, Ended}}
use Rattle.session_replies.specs.Telling.{fault_answer}
use Rattle.session_replies.proofs.Steps.{AnsweredIfAnyWith, Leads, leads_by, leads_behind, stepped, SteppedWith, not_asked}

-- ---- a change that was asked for

-- what the rules say of a change at a repository, and what it is answered by what the store says
module _ (refusal : RepoState → Option Refusal) (e : Accepted) (env : Env) (client : Client) (told : List Reply) (answer : Verdict → Answer)
    (rules : AccessRules) (p q : Point) where
  abbrev Judged : Step
  Judged halts c a = ChangeStep halts env client (refusal c) e answer a

  abbrev ChangeLeads : Env → Stage → List Reply → Type 0
  ChangeLeads env' phase own = Leads rules (Behind told Judged) p q env' phase (told ++ own)

  -- what it has led to
  abbrev Came : Result (Unit {0}) ChangeFault → Type 0
  Came r = (at : Point) × rules.between p at × ReplacesAt rules (refusal (content_of at)) e at r q

  judged : (at : Point) (h : Bool) (r : Option Refusal) (a : Answer) → at.halted ≡ h → refusal (content_of at) ≡ r
      → ChangeStep h env client r e answer a → Judged at.halted (content_of at) a
  judged at h r a halts says_so step =
      let here = subst (λ (o : Option Refusal). ChangeStep h env client o e answer a) (sym says_so) step in
      subst (λ (b : Bool). ChangeStep b env client (refusal (content_of at)) e answer a) (sym halts) here

  led : (a : Answer) (at : Point) → rules.between p at → Judged at.halted (content_of at) a → EffectAt rules at a.effect q → ChangeLeads a.env a.phase a.replies
  led a at later step_is moves = leads_behind told (leads_by a at later step_is moves)

  pub made : (env' : Env) (own : List Reply) (x : Unit {0}) → answer Written ≡ change_answer env' client e own Written → Came (Ok x)
      → ChangeLeads env' (Serving client) own
  made env' own x is (at, later, (going, accepted, added)) =
      let a = change_answer env' client e own Written in
      led a at later (judged at false None a going accepted (Written, tt, sym is)) (q, (q, added, refl), refl)

  refused : (r : Refusal) → Came (Err (change_faults.Refused r))
      → ChangeLeads env (Serving client) (failure_at client.is_of_today r (path_of_change e) ∷ [])
  refused r (at, later, (going, is_refused, stays)) =
      let a = refuses env client r (path_of_change e) in
      led a at later (judged at false (Some r) a going is_refused refl) (at, refl, stays)

  -- one at which the store failed before it had changed anything
  failed : answer NotWritten ≡ change_answer env client e [] NotWritten → Came (Err change_faults.StoreFailed)
      → ChangeLeads env (Serving client) (replies.Failure refusals.StoreFailed None ∷ [])
  failed is (at, later, (going, accepted, fails)) =
      let a = change_answer env client e [] NotWritten in
      led a at later (judged at false None a going accepted (NotWritten, tt, sym is)) (at, refl, fails)

  -- one after a halt, or one of which nobody knows whether it is written
  halted : answer (Unknown e) ≡ change_answer env client e [] (Unknown e) → Came (Err change_faults.Halted)
      → ChangeLeads env Ended (replies.Failure refusals.StoreFailed None ∷ [])
  halted is (at, later, inl (stopped, stays)) =
      let a = says env Ended (replies.Failure refusals.StoreFailed None ∷ []) in
      led a at later (judged at true (refusal (content_of at)) a stopped refl refl) (at, refl, stays)
  halted is (at, later, inr (going, accepted, halts)) =
      let a = change_answer env client e [] (Unknown e) in
      led a at later (judged at false None a going accepted (Unknown e, refl, sym is)) (at, refl, halts)

  -- one that was not made, and why is told
  pub not_made : {E : Type 0} (fault : ChangeFault) (r : Result Stage E) (env' : Env) (writes : List ℕ → Type 0)
      → answer NotWritten ≡ change_answer env client e [] NotWritten
      → answer (Unknown e) ≡ change_answer env client e [] (Unknown e) → Came (Err fault)
      → AnsweredIfAnyWith r env' writes (option_map (behind told) (fault_answer env client (path_of_change e) fault)) → SteppedWith r env' writes rules p q (Behind told Judged)
  not_made (change_faults.Refused why) r env' writes fails halts came said = stepped (refused why came) writes r env' said
  not_made change_faults.StoreFailed r env' writes fails halts came said = stepped (failed fails came) writes r env' said
  not_made change_faults.Halted r env' writes fails halts came said = stepped (halted halts came) writes r env' said
  not_made change_faults.NoMemory (Ok x) env' writes fails halts came said = absurd said
  not_made change_faults.NoMemory (Err e) env' writes fails halts came said = not_asked came said

-- ---- a step that is another's too

module _ (rules : AccessRules) (told : List Reply) (step step' : Step) (p q : Point)
    (is : (at : Point) (a : Answer) → step at.halted (content_of at) a → step' at.halted (content_of at) a) where
  behind_is : (at : Point) (a : Answer) → Behind told step at.halted (content_of at) a → Behind told step' at.halted (content_of at) a
  behind_is at a (b, own, same) = (b, is at b own, same)

  at_is : (a : Answer) → StepAt rules (Behind told step) p a q → StepAt rules (Behind told step') p a q
  at_is a s = record { at = s.at; later = s.later; step_is = behind_is s.at a s.step_is; moves = s.moves }

  pub stepped_is : {E : Type 0} (r : Result Stage E) (env' : Env) (writes : List ℕ → Type 0)
      → SteppedWith r env' writes rules p q (Behind told step) → SteppedWith r env' writes rules p q (Behind told step')
  stepped_is (Ok phase') env' writes s = record {
    answer = s.answer;
    happens = at_is s.answer s.happens;
    phase_after = s.phase_after;
    env_after = s.env_after;
    written = s.written;
  }
  stepped_is (Err e) env' writes (inl nothing) = inl nothing
  stepped_is (Err e) env' writes (inr (a, s, part)) = inr (a, at_is a s, part)
