use Rattle.std.proofs.Common.{◌≡◌, ℕ, ◌∷◌, ◌++◌, [], List, true, false, true≢false, Err, refl, ap, sym, subst, ◌∙◌}
use Rattle.access.specs.{Changing.{IsFailure, IsHalt}, Points.HasRisen}
use Rattle.repo_api.specs.States.{RepoState}
use Rattle.published.specs.{Changes.IsRight, Events.{Event, Known, accepted_by, knowing, point_of, state_of, told_in}, Events.Event.{Fails, Makes}}
use Rattle.published.specs.{Files.Agrees, Moments.added}
use Rattle.published.proofs.Histories.{next_state, state_more, state_still}
use Rattle.archives.specs.{Archives.{IsNext, SaveLeaves}, Publishing.BothContain, declared.archive.SaveFault.SaveFault}
use Rattle.archives.specs.declared.archive.SaveFault.TheVariants.{Device, Halted, NoMemory}
use Rattle.keepers.specs.Standing.{Standing, standing, IsSteady, StopLeaves, now_of}
use Rattle.keepers.proofs.Keeping.{agrees_made, failed_steady, failure_told, halt_told, made_at, made_steady, running_now, still_steady}
use Rattle.keepers.proofs.Stopping.{still, stop_left}
use Rattle.keepers.proofs.keeper.Keeper.settle.Goals as goal

pub returns-in-Err-clause-stop : goal.returns-in-Err-clause-stop
returns-in-Err-clause-stop g c =
    let kept = g.S.Files.kept in
    let e = accepted_by g.R.Repository.txn_state c.args.asked in
    let shown = g.T.Carries.carried_value c.self.inside.publisher.desk.writer.desk.shown.value in
    let here = standing c.self.inside.publisher.history (g.R.Repository.content c.self.inside.repository) shown c.self.inside.archive in
    let stays = c.in-Err.ensures in
    subst (λ (k : Standing g.row.S.Denot). StopLeaves kept g.S.Archive.leaves (e ∷ []) c.args.self.now k)
    (λ i. standing (sym stays.history i) (g.R.Repository.content c.self.inside.repository) (g.T.Carries.carried_value (sym stays.desk i).shown.value) c.self.inside.archive)
    (subst (λ (k : Standing g.row.S.Denot). StopLeaves kept g.S.Archive.leaves (e ∷ []) k here) c.self.view_is
    (still kept g.S.Archive.leaves g.S.Archive.stands g.met.S.Archive.stays here c.self.invariant (e ∷ [])))

pub show_change-requires-clause-saved : goal.show_change-requires-clause-saved
show_change-requires-clause-saved g c =
    let kept = g.S.Files.kept in
    let e = accepted_by g.R.Repository.txn_state c.args.asked in
    let list = c.self.inside.publisher.history in
    let same : c.make_ready.new.self.history ≡ list = c.in-Ok.ensures.history in
    let asks : c.in-Ok.ready.asked ≡ c.args.asked = c.in-Ok.ensures.ready.asked_is in
    let content = g.R.Repository.content c.self.inside.repository in
    let running : (kept c.self.inside.archive).halted ≡ false = ap (λ (k : Standing g.row.S.Denot). (kept k.archive).halted) c.self.view_is ∙ c.requires.ready.0 in
    let next = subst (λ (k : Standing g.row.S.Denot). IsNext k.content e (g.R.Repository.content c.args.made.0)) (sym c.self.view_is) c.requires.next in
    let right : IsRight (state_of list) e = subst (λ (x : RepoState). IsRight x e) c.self.invariant.content next.right in
    let writes = subst (λ (k : Standing g.row.S.Denot). g.S.Archive.writes k.archive c.args.made.1 e) (sym c.self.view_is) c.requires.writes in
    let left = c.in-Ok-save.ensures.saved e writes in
    subst (λ (l : List Event). Agrees (kept c.save.new.self) l) (λ i. sym same i ++ Makes c.seat.inside.author.number (accepted_by g.R.Repository.txn_state (sym asks i)) ∷ [])
    (agrees_made (kept c.self.inside.archive) (kept c.save.new.self) list c.seat.inside.author.number e c.self.invariant.begun c.self.invariant.agrees running left.0 left.1 left.2)

pub show_change-requires-clause-ready : goal.show_change-requires-clause-ready
show_change-requires-clause-ready g c =
    let kept = g.S.Files.kept in
    let e = accepted_by g.R.Repository.txn_state c.args.asked in
    let list = c.self.inside.publisher.history in
    let same : c.make_ready.new.self.history ≡ list = c.in-Ok.ensures.history in
    let asks : c.in-Ok.ready.asked ≡ c.args.asked = c.in-Ok.ensures.ready.asked_is in
    let content = g.R.Repository.content c.self.inside.repository in
    let running : (kept c.self.inside.archive).halted ≡ false = ap (λ (k : Standing g.row.S.Denot). (kept k.archive).halted) c.self.view_is ∙ c.requires.ready.0 in
    let next = subst (λ (k : Standing g.row.S.Denot). IsNext k.content e (g.R.Repository.content c.args.made.0)) (sym c.self.view_is) c.requires.next in
    let right : IsRight (state_of list) e = subst (λ (x : RepoState). IsRight x e) c.self.invariant.content next.right in
    let writes = subst (λ (k : Standing g.row.S.Denot). g.S.Archive.writes k.archive c.args.made.1 e) (sym c.self.view_is) c.requires.writes in
    let there = next_state list c.seat.inside.author.number e content (g.R.Repository.content c.args.made.0) c.self.invariant.begun c.self.invariant.content next.made in
    subst (λ (l : List Event). BothContain g.R.Repository.content (state_of l) c.in-Ok.ready.next) (λ i. sym same i ++ Makes c.seat.inside.author.number (accepted_by g.R.Repository.txn_state (sym asks i)) ∷ [])
    (c.in-Ok.ensures.ready.next_first ∙ there, c.in-Ok.ensures.ready.next_second ∙ there)

pub invariant_of-self-in-Ok-save : goal.invariant_of-self-in-Ok-save
invariant_of-self-in-Ok-save g c =
    let kept = g.S.Files.kept in
    let e = accepted_by g.R.Repository.txn_state c.args.asked in
    let list = c.self.inside.publisher.history in
    let same : c.make_ready.new.self.history ≡ list = c.in-Ok.ensures.history in
    let asks : c.in-Ok.ready.asked ≡ c.args.asked = c.in-Ok.ensures.ready.asked_is in
    let grown : c.show_change.new.self.history ≡ list ++ Makes c.seat.inside.author.number e ∷ [] =
    c.show_change.ensures.list ∙ (λ i. same i ++ Makes c.seat.inside.author.number (accepted_by g.R.Repository.txn_state (asks i)) ∷ []) in
    let content = g.R.Repository.content c.self.inside.repository in
    let running : (kept c.self.inside.archive).halted ≡ false = ap (λ (k : Standing g.row.S.Denot). (kept k.archive).halted) c.self.view_is ∙ c.requires.ready.0 in
    let next = subst (λ (k : Standing g.row.S.Denot). IsNext k.content e (g.R.Repository.content c.args.made.0)) (sym c.self.view_is) c.requires.next in
    let right : IsRight (state_of list) e = subst (λ (x : RepoState). IsRight x e) c.self.invariant.content next.right in
    let writes = subst (λ (k : Standing g.row.S.Denot). g.S.Archive.writes k.archive c.args.made.1 e) (sym c.self.view_is) c.requires.writes in
    let n = c.seat.inside.author.number in
    let left = c.in-Ok-save.ensures.saved e writes in
    let longer = c.show_change.new.self.history in
    let is = grown in
    let stood : g.R.Repository.content c.args.made.0 ≡ state_of longer =
    next_state list n e content (g.R.Repository.content c.args.made.0) c.self.invariant.begun c.self.invariant.content next.made ∙ ap (λ (l : List Event). state_of l) (sym is) in
    made_steady kept g.S.Archive.stands (standing list content (g.T.Carries.carried_value c.self.inside.publisher.desk.writer.desk.shown.value) c.self.inside.archive) c.self.invariant running n e
    c.save.new.self (g.met.S.Archive.saves c.save.new.self) longer (g.R.Repository.content c.args.made.0) (g.T.Carries.carried_value c.show_change.new.self.desk.writer.desk.shown.value)
    is c.show_change.ensures.right stood c.show_change.ensures.shown
    (agrees_made (kept c.self.inside.archive) (kept c.save.new.self) list n e c.self.invariant.begun c.self.invariant.agrees running left.0 left.1 left.2) left.1

pub invariant_of-self-in-Err-NoMemory : goal.invariant_of-self-in-Err-NoMemory
invariant_of-self-in-Err-NoMemory g c =
    let kept = g.S.Files.kept in
    let e = accepted_by g.R.Repository.txn_state c.args.asked in
    let list = c.self.inside.publisher.history in
    let back : c.put_back.new.self.history ≡ list = c.put_back.ensures.history ∙ c.in-Ok.ensures.history in
    let shown = g.T.Carries.carried_value c.put_back.new.self.desk.writer.desk.shown.value in
    let content = g.R.Repository.content c.self.inside.repository in
    let running : (kept c.self.inside.archive).halted ≡ false = ap (λ (k : Standing g.row.S.Denot). (kept k.archive).halted) c.self.view_is ∙ c.requires.ready.0 in
    let next = subst (λ (k : Standing g.row.S.Denot). IsNext k.content e (g.R.Repository.content c.args.made.0)) (sym c.self.view_is) c.requires.next in
    let right : IsRight (state_of list) e = subst (λ (x : RepoState). IsRight x e) c.self.invariant.content next.right in
    let writes = subst (λ (k : Standing g.row.S.Denot). g.S.Archive.writes k.archive c.args.made.1 e) (sym c.self.view_is) c.requires.writes in
    subst (λ (l : List Event). IsSteady kept g.S.Archive.stands (standing l content shown c.save.new.self)) (sym back)
    (still_steady kept g.S.Archive.stands (standing list content (g.T.Carries.carried_value c.self.inside.publisher.desk.writer.desk.shown.value) c.self.inside.archive) c.self.invariant running c.args.seat.now.number e
    c.save.new.self (g.met.S.Archive.saves c.save.new.self) shown
    (ap (λ d. g.T.Carries.carried_value d.writer.desk.shown.value) c.put_back.ensures.desk ∙ ap (λ d. g.T.Carries.carried_value d.shown.value) c.in-Ok.ensures.desk)
    (subst (λ (f : SaveFault). SaveLeaves e (kept c.self.inside.archive) (Err f) (kept c.save.new.self)) c.in-Err-NoMemory.field-0-is (c.in-Err-NoMemory.ensures.saved e writes)))

pub invariant_of-self-in-Err-Device : goal.invariant_of-self-in-Err-Device
invariant_of-self-in-Err-Device g c =
    let kept = g.S.Files.kept in
    let e = accepted_by g.R.Repository.txn_state c.args.asked in
    let list = c.self.inside.publisher.history in
    let same : c.make_ready.new.self.history ≡ list = c.in-Ok.ensures.history in
    let asks : c.in-Ok.ready.asked ≡ c.args.asked = c.in-Ok.ensures.ready.asked_is in
    let grown : c.show_failure.new.self.history ≡ list ++ Fails c.seat.inside.author.number e (kept c.save.new.self).halted (kept c.save.new.self).failures ∷ [] =
    c.show_failure.ensures.list ∙ (λ i. same i ++ Fails c.seat.inside.author.number (accepted_by g.R.Repository.txn_state (asks i)) (kept c.save.new.self).halted (kept c.save.new.self).failures ∷ []) in
    let content = g.R.Repository.content c.self.inside.repository in
    let running : (kept c.self.inside.archive).halted ≡ false = ap (λ (k : Standing g.row.S.Denot). (kept k.archive).halted) c.self.view_is ∙ c.requires.ready.0 in
    let next = subst (λ (k : Standing g.row.S.Denot). IsNext k.content e (g.R.Repository.content c.args.made.0)) (sym c.self.view_is) c.requires.next in
    let right : IsRight (state_of list) e = subst (λ (x : RepoState). IsRight x e) c.self.invariant.content next.right in
    let writes = subst (λ (k : Standing g.row.S.Denot). g.S.Archive.writes k.archive c.args.made.1 e) (sym c.self.view_is) c.requires.writes in
    let n = c.seat.inside.author.number in
    let left = subst (λ (f : SaveFault). SaveLeaves e (kept c.self.inside.archive) (Err f) (kept c.save.new.self)) c.in-Err-Device.field-0-is (c.in-Err-Device.ensures.saved e writes) in
    failed_steady kept g.S.Archive.stands (standing list content (g.T.Carries.carried_value c.self.inside.publisher.desk.writer.desk.shown.value) c.self.inside.archive) c.self.invariant running n e
    c.save.new.self (g.met.S.Archive.saves c.save.new.self) c.show_failure.new.self.history (g.T.Carries.carried_value c.show_failure.new.self.desk.writer.desk.shown.value)
    grown c.show_failure.ensures.right c.show_failure.ensures.shown (λ _. left.0) right.accepted
    (g.met.S.Archive.rests c.self.inside.archive c.save.new.self _ (c.in-Err-Device.ensures.stop e writes))

pub invariant_of-self-in-Err-Halted : goal.invariant_of-self-in-Err-Halted
invariant_of-self-in-Err-Halted g c =
    let kept = g.S.Files.kept in
    let e = accepted_by g.R.Repository.txn_state c.args.asked in
    let list = c.self.inside.publisher.history in
    let same : c.make_ready.new.self.history ≡ list = c.in-Ok.ensures.history in
    let asks : c.in-Ok.ready.asked ≡ c.args.asked = c.in-Ok.ensures.ready.asked_is in
    let grown : c.show_failure-in-Err-Halted.new.self.history ≡ list ++ Fails c.seat.inside.author.number e (kept c.save.new.self).halted (kept c.save.new.self).failures ∷ [] =
    c.show_failure-in-Err-Halted.ensures.list ∙ (λ i. same i ++ Fails c.seat.inside.author.number (accepted_by g.R.Repository.txn_state (asks i)) (kept c.save.new.self).halted (kept c.save.new.self).failures ∷ []) in
    let content = g.R.Repository.content c.self.inside.repository in
    let running : (kept c.self.inside.archive).halted ≡ false = ap (λ (k : Standing g.row.S.Denot). (kept k.archive).halted) c.self.view_is ∙ c.requires.ready.0 in
    let next = subst (λ (k : Standing g.row.S.Denot). IsNext k.content e (g.R.Repository.content c.args.made.0)) (sym c.self.view_is) c.requires.next in
    let right : IsRight (state_of list) e = subst (λ (x : RepoState). IsRight x e) c.self.invariant.content next.right in
    let writes = subst (λ (k : Standing g.row.S.Denot). g.S.Archive.writes k.archive c.args.made.1 e) (sym c.self.view_is) c.requires.writes in
    let n = c.seat.inside.author.number in
    let left = subst (λ (f : SaveFault). SaveLeaves e (kept c.self.inside.archive) (Err f) (kept c.save.new.self)) c.in-Err-Halted.field-0-is (c.in-Err-Halted.ensures.saved e writes) in
    failed_steady kept g.S.Archive.stands (standing list content (g.T.Carries.carried_value c.self.inside.publisher.desk.writer.desk.shown.value) c.self.inside.archive) c.self.invariant running n e
    c.save.new.self (g.met.S.Archive.saves c.save.new.self) c.show_failure-in-Err-Halted.new.self.history (g.T.Carries.carried_value c.show_failure-in-Err-Halted.new.self.desk.writer.desk.shown.value)
    grown c.show_failure-in-Err-Halted.ensures.right c.show_failure-in-Err-Halted.ensures.shown (λ h. absurd (true≢false (sym left.1 ∙ h))) right.accepted
    (g.met.S.Archive.rests c.self.inside.archive c.save.new.self _ (c.in-Err-Halted.ensures.stop e writes))

pub returns-in-Ok-save-clause-point : goal.returns-in-Ok-save-clause-point
returns-in-Ok-save-clause-point g c =
    let e = accepted_by g.R.Repository.txn_state c.args.asked in
    let n = c.args.seat.now.number in
    let list = c.self.inside.publisher.history in
    let same : c.make_ready.new.self.history ≡ list = c.in-Ok.ensures.history in
    let asks : c.in-Ok.ready.asked ≡ c.args.asked = c.in-Ok.ensures.ready.asked_is in
    let grown : c.show_change.new.self.history ≡ list ++ Makes c.seat.inside.author.number e ∷ [] =
    c.show_change.ensures.list ∙ (λ i. same i ++ Makes c.seat.inside.author.number (accepted_by g.R.Repository.txn_state (asks i)) ∷ []) in
    made_at n c.seat.inside.author.number c.self.inside.publisher.history c.show_change.new.self.history e (ap (λ (k : Known). k.number) c.seat.view_is) c.self.invariant.begun grown
    ∙ ap (λ (k : Standing g.row.S.Denot). added (now_of n k) e) c.self.view_is

pub returns-in-Err-Device-clause-point : goal.returns-in-Err-Device-clause-point
returns-in-Err-Device-clause-point g c =
    let kept = g.S.Files.kept in
    let e = accepted_by g.R.Repository.txn_state c.args.asked in
    let list = c.self.inside.publisher.history in
    let same : c.make_ready.new.self.history ≡ list = c.in-Ok.ensures.history in
    let asks : c.in-Ok.ready.asked ≡ c.args.asked = c.in-Ok.ensures.ready.asked_is in
    let grown : c.show_failure.new.self.history ≡ list ++ Fails c.seat.inside.author.number e (kept c.save.new.self).halted (kept c.save.new.self).failures ∷ [] =
    c.show_failure.ensures.list ∙ (λ i. same i ++ Fails c.seat.inside.author.number (accepted_by g.R.Repository.txn_state (asks i)) (kept c.save.new.self).halted (kept c.save.new.self).failures ∷ []) in
    let content = g.R.Repository.content c.self.inside.repository in
    let running : (kept c.self.inside.archive).halted ≡ false = ap (λ (k : Standing g.row.S.Denot). (kept k.archive).halted) c.self.view_is ∙ c.requires.ready.0 in
    let next = subst (λ (k : Standing g.row.S.Denot). IsNext k.content e (g.R.Repository.content c.args.made.0)) (sym c.self.view_is) c.requires.next in
    let right : IsRight (state_of list) e = subst (λ (x : RepoState). IsRight x e) c.self.invariant.content next.right in
    let writes = subst (λ (k : Standing g.row.S.Denot). g.S.Archive.writes k.archive c.args.made.1 e) (sym c.self.view_is) c.requires.writes in
    let n = c.args.seat.now.number in
    let left = subst (λ (f : SaveFault). SaveLeaves e (kept c.self.inside.archive) (Err f) (kept c.save.new.self)) c.in-Err-Device.field-0-is (c.in-Err-Device.ensures.saved e writes) in
    let new = kept c.save.new.self in
    let number : c.seat.inside.author.number ≡ n = ap (λ (k : Known). k.number) c.seat.view_is in
    let risen : HasRisen (told_in list).failures new.failures = subst (λ (m : ℕ). HasRisen m new.failures) c.self.invariant.agrees.failures left.2 in
    let is : c.show_failure.new.self.history ≡ list ++ Fails n e new.halted new.failures ∷ [] = grown ∙ ap (λ (m : ℕ). list ++ Fails m e new.halted new.failures ∷ []) number in
    let there = failure_told n list e new.halted new.failures c.self.invariant.begun (running_now kept g.S.Archive.stands _ c.self.invariant running) risen (left.1 ∙ running) in
    subst (λ (k : Standing g.row.S.Denot). IsFailure (now_of n k) (point_of (knowing n c.show_failure.new.self.history))) c.self.view_is
    (subst (λ (l : List Event). IsFailure (point_of (knowing n list)) (point_of (knowing n l))) (sym is) there)

pub returns-in-Err-Halted-clause-point : goal.returns-in-Err-Halted-clause-point
returns-in-Err-Halted-clause-point g c =
    let kept = g.S.Files.kept in
    let e = accepted_by g.R.Repository.txn_state c.args.asked in
    let list = c.self.inside.publisher.history in
    let same : c.make_ready.new.self.history ≡ list = c.in-Ok.ensures.history in
    let asks : c.in-Ok.ready.asked ≡ c.args.asked = c.in-Ok.ensures.ready.asked_is in
    let grown : c.show_failure-in-Err-Halted.new.self.history ≡ list ++ Fails c.seat.inside.author.number e (kept c.save.new.self).halted (kept c.save.new.self).failures ∷ [] =
    c.show_failure-in-Err-Halted.ensures.list ∙ (λ i. same i ++ Fails c.seat.inside.author.number (accepted_by g.R.Repository.txn_state (asks i)) (kept c.save.new.self).halted (kept c.save.new.self).failures ∷ []) in
    let content = g.R.Repository.content c.self.inside.repository in
    let running : (kept c.self.inside.archive).halted ≡ false = ap (λ (k : Standing g.row.S.Denot). (kept k.archive).halted) c.self.view_is ∙ c.requires.ready.0 in
    let next = subst (λ (k : Standing g.row.S.Denot). IsNext k.content e (g.R.Repository.content c.args.made.0)) (sym c.self.view_is) c.requires.next in
    let right : IsRight (state_of list) e = subst (λ (x : RepoState). IsRight x e) c.self.invariant.content next.right in
    let writes = subst (λ (k : Standing g.row.S.Denot). g.S.Archive.writes k.archive c.args.made.1 e) (sym c.self.view_is) c.requires.writes in
    let n = c.args.seat.now.number in
    let left = subst (λ (f : SaveFault). SaveLeaves e (kept c.self.inside.archive) (Err f) (kept c.save.new.self)) c.in-Err-Halted.field-0-is (c.in-Err-Halted.ensures.saved e writes) in
    let new = kept c.save.new.self in
    let number : c.seat.inside.author.number ≡ n = ap (λ (k : Known). k.number) c.seat.view_is in
    let risen : HasRisen (told_in list).failures new.failures = subst (λ (m : ℕ). HasRisen m new.failures) c.self.invariant.agrees.failures left.2 in
    let is : c.show_failure-in-Err-Halted.new.self.history ≡ list ++ Fails n e new.halted new.failures ∷ [] = grown ∙ ap (λ (m : ℕ). list ++ Fails m e new.halted new.failures ∷ []) number in
    let there = halt_told n list e new.halted new.failures c.self.invariant.begun (running_now kept g.S.Archive.stands _ c.self.invariant running) risen (left.1) in
    subst (λ (k : Standing g.row.S.Denot). IsHalt e (now_of n k) (point_of (knowing n c.show_failure-in-Err-Halted.new.self.history))) c.self.view_is
    (subst (λ (l : List Event). IsHalt e (point_of (knowing n list)) (point_of (knowing n l))) (sym is) there)

pub returns-in-Ok-save-clause-stop : goal.returns-in-Ok-save-clause-stop
returns-in-Ok-save-clause-stop g c =
    let kept = g.S.Files.kept in
    let e = accepted_by g.R.Repository.txn_state c.args.asked in
    let list = c.self.inside.publisher.history in
    let same : c.make_ready.new.self.history ≡ list = c.in-Ok.ensures.history in
    let asks : c.in-Ok.ready.asked ≡ c.args.asked = c.in-Ok.ensures.ready.asked_is in
    let grown : c.show_change.new.self.history ≡ list ++ Makes c.seat.inside.author.number e ∷ [] =
    c.show_change.ensures.list ∙ (λ i. same i ++ Makes c.seat.inside.author.number (accepted_by g.R.Repository.txn_state (asks i)) ∷ []) in
    let content = g.R.Repository.content c.self.inside.repository in
    let running : (kept c.self.inside.archive).halted ≡ false = ap (λ (k : Standing g.row.S.Denot). (kept k.archive).halted) c.self.view_is ∙ c.requires.ready.0 in
    let next = subst (λ (k : Standing g.row.S.Denot). IsNext k.content e (g.R.Repository.content c.args.made.0)) (sym c.self.view_is) c.requires.next in
    let right : IsRight (state_of list) e = subst (λ (x : RepoState). IsRight x e) c.self.invariant.content next.right in
    let writes = subst (λ (k : Standing g.row.S.Denot). g.S.Archive.writes k.archive c.args.made.1 e) (sym c.self.view_is) c.requires.writes in
    let now = c.args.self.now in
    let longer = c.show_change.new.self.history in
    subst (λ (k : Standing g.row.S.Denot). StopLeaves kept g.S.Archive.leaves (e ∷ []) k (standing longer now.content now.shown c.save.new.self)) c.self.view_is
    (stop_left kept g.S.Archive.leaves (standing list now.content now.shown c.self.inside.archive) (standing longer now.content now.shown c.save.new.self) e (e ∷ []) running
    (c.self.invariant.agrees.content running) right.accepted ([], refl) (ap (λ (l : List Event). state_of l) grown ∙ state_more list c.seat.inside.author.number e c.self.invariant.begun) (c.in-Ok-save.ensures.stop e writes))

pub returns-in-Err-NoMemory-clause-stop : goal.returns-in-Err-NoMemory-clause-stop
returns-in-Err-NoMemory-clause-stop g c =
    let kept = g.S.Files.kept in
    let e = accepted_by g.R.Repository.txn_state c.args.asked in
    let list = c.self.inside.publisher.history in
    let content = g.R.Repository.content c.self.inside.repository in
    let running : (kept c.self.inside.archive).halted ≡ false = ap (λ (k : Standing g.row.S.Denot). (kept k.archive).halted) c.self.view_is ∙ c.requires.ready.0 in
    let next = subst (λ (k : Standing g.row.S.Denot). IsNext k.content e (g.R.Repository.content c.args.made.0)) (sym c.self.view_is) c.requires.next in
    let right : IsRight (state_of list) e = subst (λ (x : RepoState). IsRight x e) c.self.invariant.content next.right in
    let writes = subst (λ (k : Standing g.row.S.Denot). g.S.Archive.writes k.archive c.args.made.1 e) (sym c.self.view_is) c.requires.writes in
    let now = c.args.self.now in
    let longer = c.put_back.new.self.history in
    let back : longer ≡ list = c.put_back.ensures.history ∙ c.in-Ok.ensures.history in
    subst (λ (k : Standing g.row.S.Denot). StopLeaves kept g.S.Archive.leaves (e ∷ []) k (standing longer now.content now.shown c.save.new.self)) c.self.view_is
    (stop_left kept g.S.Archive.leaves (standing list now.content now.shown c.self.inside.archive) (standing longer now.content now.shown c.save.new.self) e [] running
    (c.self.invariant.agrees.content running) right.accepted (e ∷ [], refl) (ap (λ (l : List Event). state_of l) back) (c.in-Err-NoMemory.ensures.stop e writes))

pub returns-in-Err-Device-clause-stop : goal.returns-in-Err-Device-clause-stop
returns-in-Err-Device-clause-stop g c =
    let kept = g.S.Files.kept in
    let e = accepted_by g.R.Repository.txn_state c.args.asked in
    let list = c.self.inside.publisher.history in
    let same : c.make_ready.new.self.history ≡ list = c.in-Ok.ensures.history in
    let asks : c.in-Ok.ready.asked ≡ c.args.asked = c.in-Ok.ensures.ready.asked_is in
    let grown : c.show_failure.new.self.history ≡ list ++ Fails c.seat.inside.author.number e (kept c.save.new.self).halted (kept c.save.new.self).failures ∷ [] =
    c.show_failure.ensures.list ∙ (λ i. same i ++ Fails c.seat.inside.author.number (accepted_by g.R.Repository.txn_state (asks i)) (kept c.save.new.self).halted (kept c.save.new.self).failures ∷ []) in
    let content = g.R.Repository.content c.self.inside.repository in
    let running : (kept c.self.inside.archive).halted ≡ false = ap (λ (k : Standing g.row.S.Denot). (kept k.archive).halted) c.self.view_is ∙ c.requires.ready.0 in
    let next = subst (λ (k : Standing g.row.S.Denot). IsNext k.content e (g.R.Repository.content c.args.made.0)) (sym c.self.view_is) c.requires.next in
    let right : IsRight (state_of list) e = subst (λ (x : RepoState). IsRight x e) c.self.invariant.content next.right in
    let writes = subst (λ (k : Standing g.row.S.Denot). g.S.Archive.writes k.archive c.args.made.1 e) (sym c.self.view_is) c.requires.writes in
    let now = c.args.self.now in
    let longer = c.show_failure.new.self.history in
    subst (λ (k : Standing g.row.S.Denot). StopLeaves kept g.S.Archive.leaves (e ∷ []) k (standing longer now.content now.shown c.save.new.self)) c.self.view_is
    (stop_left kept g.S.Archive.leaves (standing list now.content now.shown c.self.inside.archive) (standing longer now.content now.shown c.save.new.self) e [] running
    (c.self.invariant.agrees.content running) right.accepted (e ∷ [], refl) (ap (λ (l : List Event). state_of l) grown ∙ state_still list c.seat.inside.author.number e (kept c.save.new.self).halted (kept c.save.new.self).failures c.self.invariant.begun) (c.in-Err-Device.ensures.stop e writes))

pub returns-in-Err-Halted-clause-stop : goal.returns-in-Err-Halted-clause-stop
returns-in-Err-Halted-clause-stop g c =
    let kept = g.S.Files.kept in
    let e = accepted_by g.R.Repository.txn_state c.args.asked in
    let list = c.self.inside.publisher.history in
    let same : c.make_ready.new.self.history ≡ list = c.in-Ok.ensures.history in
    let asks : c.in-Ok.ready.asked ≡ c.args.asked = c.in-Ok.ensures.ready.asked_is in
    let grown : c.show_failure-in-Err-Halted.new.self.history ≡ list ++ Fails c.seat.inside.author.number e (kept c.save.new.self).halted (kept c.save.new.self).failures ∷ [] =
    c.show_failure-in-Err-Halted.ensures.list ∙ (λ i. same i ++ Fails c.seat.inside.author.number (accepted_by g.R.Repository.txn_state (asks i)) (kept c.save.new.self).halted (kept c.save.new.self).failures ∷ []) in
    let content = g.R.Repository.content c.self.inside.repository in
    let running : (kept c.self.inside.archive).halted ≡ false = ap (λ (k : Standing g.row.S.Denot). (kept k.archive).halted) c.self.view_is ∙ c.requires.ready.0 in
    let next = subst (λ (k : Standing g.row.S.Denot). IsNext k.content e (g.R.Repository.content c.args.made.0)) (sym c.self.view_is) c.requires.next in
    let right : IsRight (state_of list) e = subst (λ (x : RepoState). IsRight x e) c.self.invariant.content next.right in
    let writes = subst (λ (k : Standing g.row.S.Denot). g.S.Archive.writes k.archive c.args.made.1 e) (sym c.self.view_is) c.requires.writes in
    let now = c.args.self.now in
    let longer = c.show_failure-in-Err-Halted.new.self.history in
    subst (λ (k : Standing g.row.S.Denot). StopLeaves kept g.S.Archive.leaves (e ∷ []) k (standing longer now.content now.shown c.save.new.self)) c.self.view_is
    (stop_left kept g.S.Archive.leaves (standing list now.content now.shown c.self.inside.archive) (standing longer now.content now.shown c.save.new.self) e [] running
    (c.self.invariant.agrees.content running) right.accepted (e ∷ [], refl) (ap (λ (l : List Event). state_of l) grown ∙ state_still list c.seat.inside.author.number e (kept c.save.new.self).halted (kept c.save.new.self).failures c.self.invariant.begun) (c.in-Err-Halted.ensures.stop e writes))
