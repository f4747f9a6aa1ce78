use Rattle.std.proofs.{Common.{◌≡◌, ◌++◌, arith, codes, rules}, lemmas.Grind.common_steps}
use Rattle.std.specs.Fmt.{decimal}
use Rattle.items.specs.Print.{printed}
use Rattle.wire_replies.specs.{Replies.reply_item, declared.reply.Reply.TheVariants.Revision}
use Rattle.wire_replies.proofs.Constants.{appended_last}
use Rattle.wire_replies.proofs.reply.append_revision.Goals as goal

pub returns : goal.returns
returns c =
    let text : c.as_bytes.result.now ≡ decimal c.args.n = search rules in
    let wanted : printed (reply_item (Revision c.args.n)) ≡ codes "( success ( " ++ (c.as_bytes.result.now ++ codes " ) ) ") = grind (arith, common_steps, text) in
    appended_last c.extend_from_slice-3.result _ _ _ _ _ _ _ _ c.in_ok-extend_from_slice.ensures.items c.in_ok-extend_from_slice-2.ensures.items
    c.extend_from_slice-3.ensures.items wanted
