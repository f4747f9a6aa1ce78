use Rattle.std.proofs.Common.{ap, ◌∙◌}
use Rattle.world.specs.Whole.{world_content}
use Rattle.filed_repository.proofs.Taken.{first_next, ok_then, ok_both}
use Rattle.filed_repository.proofs.creating.unread.Goals as goal

pub returns-clause-read : goal.returns-clause-read
returns-clause-read c =
    ok_then c.unread.result (λ made read. (
      read.0,
      λ uuid date files same first. read.1 uuid date files (c.in_ok-share.ensures ∙ same) first,
    )) c.unread.ensures.read

pub returns-clause-next : goal.returns-clause-next
returns-clause-next c =
    let new = c.args.world.now in
    ok_both c.unread.result (λ made is read uuid date same.
    first_next made.world.held.value new.held.value made.world.locks.value new.locks.value made.tables
    uuid date (ap world_content is ∙ c.in_ok-share.ensures) same read.0)
    c.unread.ensures.world c.unread.ensures.read
