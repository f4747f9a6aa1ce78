use Rattle.std.proofs.Common.{◌≡◌, Some, None, sym, ap, ◌∙◌}
use Rattle.machine.specs.{Machine.ending_of, declared.ending.Ending.TheVariants.{Commits, GivesUp}}
use Rattle.session_replies.proofs.Steps.{stepped, unparted, parted}
use Rattle.session_commits.proofs.Edits.{aborts, ends_so}
use Rattle.session_commits.proofs.edit.edit_command.Goals as goal

pub returns-in-Some-Commits : goal.returns-in-Some-Commits
returns-in-Some-Commits g c =
    let is : ending_of c.args.command.now ≡ Some Commits = sym c.ending_of.ensures ∙ c.in-Some-Commits.is ∙ ap Some c.in-Some-Commits.field-0-is in
    rw is (parted _ _ _ _ _ _ _ (ends_so _ c.args.edit c.args.command.now is) c.commit_edit.result _ c.commit_edit.ensures)

pub returns-in-Some-GivesUp : goal.returns-in-Some-GivesUp
returns-in-Some-GivesUp g c =
    let is : ending_of c.args.command.now ≡ Some GivesUp = sym c.ending_of.ensures ∙ c.in-Some-GivesUp.is ∙ ap Some c.in-Some-GivesUp.field-0-is in
    unparted _ _ _ _ _ _ _ _ (stepped (aborts (g.S.Texts.is_honest _) _ _ c.args.edit c.args.command.now _ (g.met.A.RepoAccess.stays _) is) _ c.abort.result _ c.abort.ensures)

pub returns-in-None : goal.returns-in-None
returns-in-None g c =
    let is : ending_of c.args.command.now ≡ None = sym c.ending_of.ensures ∙ c.in-None.is in
    rw is (unparted _ _ _ _ _ _ c.apply_command.result _ c.apply_command.ensures)
