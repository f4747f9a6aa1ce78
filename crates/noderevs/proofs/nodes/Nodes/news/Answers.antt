use Rattle.std.proofs.Common.{◌≡◌, ◌⊎◌, map, Some, option_and_then, sym, ap, ◌∙◌}
use Rattle.std.specs.{FinMap.get, List.{All, Contains}, Map.Iter.deref, Prelude.option_copied}
use Rattle.svnpath.specs.Paths.{Component}
use Rattle.noderevs.specs.{Held.node_at, declared.node_rev.NodeId.NodeId}
use Rattle.noderevs.proofs.Beside.{if_both, news_of, all_news}
use Rattle.noderevs.proofs.nodes.Nodes.news.Goals as goal

pub returns-in-Some : goal.returns-in-Some
returns-in-Some c =
    let look = node_at c.args.self.now in
    let kids = c.args.kids.now in
    let there : option_and_then look c.args.before ≡ Some c.in-Some.node.now = sym (sym (ap option_copied c.in-Some.is) ∙ c.held.ensures) in
    if_both c.unlike.result (λ list. All (λ e. get kids e.0 ≡ Some e.1) (map deref list.items))
    (λ list. (name : Component) (kid : NodeId) → get kids name ≡ Some kid → (get c.in-Some.node.now.kids name ≡ Some kid) ⊎ Contains (map deref list.items) (name, kid)) _
    (λ list from others. news_of look kids c.args.before c.in-Some.node.now (map deref list.items) there from others)
    c.unlike.ensures.from c.unlike.ensures.others

pub returns-in-None : goal.returns-in-None
returns-in-None c =
    let look = node_at c.args.self.now in
    let kids = c.args.kids.now in
    if_both c.unlike-in-None.result (λ list. All (λ e. get kids e.0 ≡ Some e.1) (map deref list.items))
    (λ list. (name : Component) (kid : NodeId) → get kids name ≡ Some kid → (get c.new-none.result name ≡ Some kid) ⊎ Contains (map deref list.items) (name, kid)) _
    (λ list from others. all_news look kids c.new-none.result c.args.before (map deref list.items) c.new-none.ensures from others)
    c.unlike-in-None.ensures.from c.unlike-in-None.ensures.others
