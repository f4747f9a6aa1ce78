use Rattle.std.proofs.Common.{◌∙◌, ap}
use Rattle.items.specs.Print.{printed}
use Rattle.wire_replies.specs.Replies.{reply_item}
use Rattle.wire_replies.proofs.Constants.{appended, printed-greeting, printed-no_login, printed-not_offered, printed-login_failed, printed-finish_replay}
use Rattle.wire_replies.proofs.reply.Reply.write.Goals as goal

pub returns-in-Greeting : goal.returns-in-Greeting
returns-in-Greeting c =
    let call = c.extend_from_slice in
    appended call.result _ _ _ _ call.ensures.items (ap (λ r. printed (reply_item r)) c.in-Greeting.is ∙ printed-greeting)

pub returns-in-NoLogin : goal.returns-in-NoLogin
returns-in-NoLogin c =
    let call = c.extend_from_slice-in-NoLogin in
    appended call.result _ _ _ _ call.ensures.items (ap (λ r. printed (reply_item r)) c.in-NoLogin.is ∙ printed-no_login)

pub returns-in-MechanismNotOffered : goal.returns-in-MechanismNotOffered
returns-in-MechanismNotOffered c =
    let call = c.extend_from_slice-in-MechanismNotOffered in
    appended call.result _ _ _ _ call.ensures.items (ap (λ r. printed (reply_item r)) c.in-MechanismNotOffered.is ∙ printed-not_offered)

pub returns-in-LoginFailed : goal.returns-in-LoginFailed
returns-in-LoginFailed c =
    let call = c.extend_from_slice-in-LoginFailed in
    appended call.result _ _ _ _ call.ensures.items (ap (λ r. printed (reply_item r)) c.in-LoginFailed.is ∙ printed-login_failed)

pub returns-in-FinishReplay : goal.returns-in-FinishReplay
returns-in-FinishReplay c =
    let call = c.extend_from_slice-in-FinishReplay in
    appended call.result _ _ _ _ call.ensures.items (ap (λ r. printed (reply_item r)) c.in-FinishReplay.is ∙ printed-finish_replay)
