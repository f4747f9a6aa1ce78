use Rattle.std.proofs.Common.{option_map, sym, ap, ◌∙◌}
use Rattle.std.specs.Prelude.{option_copied}
use Rattle.noderevs.specs.Held.{node_at}
use Rattle.txntree.specs.Spots.{flat, change_spot}
use Rattle.txntree.proofs.{Sharing.unchanged_entry, Walking.{gone_spot, nothing_there}}
use Rattle.txntree.proofs.open.+content.Goals as goal

pub Change::content_at-returns-in-Gone : goal.Change::content_at-returns-in-Gone
Change::content_at-returns-in-Gone t c =
    let look = node_at c.args.nodes.now in
    sym (ap (option_map (λ e. e.content))
    (ap (λ x. flat look (change_spot x) c.args.path.now) c.in-Gone.is ∙ ap (λ s. flat look s c.args.path.now) gone_spot ∙ nothing_there look c.args.path.now))

pub OpenNode::content_at-returns : goal.OpenNode::content_at-returns
OpenNode::content_at-returns t c =
    let look = node_at c.args.nodes.now in
    c.content.ensures
    ∙ ap (option_map (λ e. e.content)) (sym (unchanged_entry look c.args.self.now c.args.path.now c.in-Some.rest.now c.in-Some.name.now c.kid.result c.in-Some.ensures.cases.0
    (sym c.get.ensures.value ∙ ap option_copied c.in_default-get.is) c.kid.ensures))
