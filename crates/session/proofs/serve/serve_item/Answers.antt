use Rattle.std.proofs.Common.{refl}
use Rattle.items.specs.View.{value_of}
use Rattle.commands.specs.Logins.{client_greeting}
use Rattle.wire_edits.specs.Editing.{ends_edit}
use Rattle.machine.specs.{Hearing.Input.Whole, Logins.greeting_answer, Machine.{InputStep, skipping_answer}, Reports.driven_answer}
use Rattle.machine.specs.declared.phase.Phase.TheVariants.{Greeted, Skipping, Driven}
use Rattle.reporter.specs.Reporting.{client_answer}
use Rattle.session_replies.proofs.Steps.{only_says, told_all, said, unparted}
use Rattle.session.proofs.Answered.{greeting_nothing, skipping_nothing, driven_nothing}
use Rattle.session.proofs.serve.serve_item.Goals as goal

pub returns-in-Greeted : goal.returns-in-Greeted
returns-in-Greeted g c =
    let s = c.args.options.now in
    let env = c.args.turn.now.env in
    let item = value_of c.args.item.now in
    let p = g.A.RepoAccess.point c.args.access.now in
    let stays = g.met.A.RepoAccess.stays p in
    let a = greeting_answer s env (client_greeting item) in
    let nothing = greeting_nothing s env (client_greeting item) in
    rw c.in-Greeted.is (unparted _ _ _ _ _ _ _ _ (said g.A.RepoAccess.rules (InputStep s env Greeted (Whole item)) p p a stays refl nothing _ c.greeting_item.result
    _ c.greeting_item.ensures))

pub returns-in-LoggingIn : goal.returns-in-LoggingIn
returns-in-LoggingIn g c = rw c.in-LoggingIn.is (unparted _ _ _ _ _ _ c.login_item.result _ c.login_item.ensures)

pub returns-in-Challenged : goal.returns-in-Challenged
returns-in-Challenged g c = rw c.in-Challenged.is (unparted _ _ _ _ _ _ c.challenge_item.result _ c.challenge_item.ensures)

pub returns-in-Serving : goal.returns-in-Serving
returns-in-Serving g c = rw c.in-Serving.is (unparted _ _ _ _ _ _ c.main_item.result _ c.main_item.ensures)

pub edit_input-requires-clause-rests : goal.edit_input-requires-clause-rests
edit_input-requires-clause-rests g c = (rw c.in-Editing.is at c.requires.rests).rests

pub edit_input-requires-clause-sound : goal.edit_input-requires-clause-sound
edit_input-requires-clause-sound g c = (rw c.in-Editing.is at c.requires.rests).sound

pub returns-in-Editing : goal.returns-in-Editing
returns-in-Editing g c = rw c.in-Editing.is c.edit_input.ensures

pub returns-in-Skipping : goal.returns-in-Skipping
returns-in-Skipping g c =
    let s = c.args.options.now in
    let env = c.args.turn.now.env in
    let client = c.in-Skipping.client in
    let item = value_of c.args.item.now in
    let p = g.A.RepoAccess.point c.args.access.now in
    let stays = g.met.A.RepoAccess.stays p in
    let a = skipping_answer env client (ends_edit item) in
    let nothing = skipping_nothing env client (ends_edit item) in
    rw c.in-Skipping.is (unparted _ _ _ _ _ _ _ _ (said g.A.RepoAccess.rules (InputStep s env (Skipping client) (Whole item)) p p a stays refl nothing _
    c.skipped_item.result _ c.skipped_item.ensures))

pub returns-in-Reporting : goal.returns-in-Reporting
returns-in-Reporting g c = rw c.in-Reporting.is (unparted _ _ _ _ _ _ c.report_item.result _ c.report_item.ensures)

pub returns-in-Driven : goal.returns-in-Driven
returns-in-Driven g c =
    let s = c.args.options.now in
    let env = c.args.turn.now.env in
    let client = c.in-Driven.client in
    let item = value_of c.args.item.now in
    let p = g.A.RepoAccess.point c.args.access.now in
    let stays = g.met.A.RepoAccess.stays p in
    let a = driven_answer env client (client_answer item) in
    let nothing = driven_nothing env client (client_answer item) in
    rw c.in-Driven.is (unparted _ _ _ _ _ _ _ _ (said g.A.RepoAccess.rules (InputStep s env (Driven client) (Whole item)) p p a stays refl nothing _
    c.driven_item.result _ c.driven_item.ensures))

pub returns-in-Ended : goal.returns-in-Ended
returns-in-Ended g c =
    rw c.in-Ended.is (told_all (only_says (g.met.A.RepoAccess.stays _) refl) _ _ _
    (record { phase_after = refl; env_after = refl; written = g.met.S.ReplySink.nothing c.args.turn.now.out }))
