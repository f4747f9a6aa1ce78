use Rattle.std.proofs.Common.{sym, ap, ◌∙◌}
use Rattle.std.specs.Prelude.{option_copied}
use Rattle.repo_api.specs.Kinds.{created_of}
use Rattle.noderevs.specs.Held.{node_at}
use Rattle.txntree.specs.Spots.{flat, change_spot}
use Rattle.txntree.proofs.{Sharing.unchanged_entry, Walking.{gone_spot, nothing_there}}
use Rattle.txntree.proofs.open.+made.Goals as goal

pub Change::made_at-returns-in-Gone : goal.Change::made_at-returns-in-Gone
Change::made_at-returns-in-Gone t c =
    let look = node_at c.args.nodes.now in
    sym (ap created_of
    (ap (λ x. flat look (change_spot x) c.args.path.now) c.in-Gone.is ∙ ap (λ s. flat look s c.args.path.now) gone_spot ∙ nothing_there look c.args.path.now))

pub OpenNode::made_at-returns : goal.OpenNode::made_at-returns
OpenNode::made_at-returns t c =
    let look = node_at c.args.nodes.now in
    c.made.ensures
    ∙ ap created_of (sym (unchanged_entry look c.args.self.now c.args.path.now c.in-Some.rest.now c.in-Some.name.now c.kid.result c.in-Some.ensures.cases.0
    (sym c.get.ensures.value ∙ ap option_copied c.in_default-get.is) c.kid.ensures))
