use Rattle.std.proofs.{Common.{◌≡◌, map, sym, ap, ◌∙◌, option_and_then}, lemmas.Result.IfOk-weaker}
use Rattle.std.specs.{FinMap.keys, Map.Iter.deref, Prelude.{option_copied, slice_get}}
use Rattle.repo_api.specs.{Readings.names_in, States.tree_in}
use Rattle.shared_revisions.specs.Contents.{revisions_of}
use Rattle.noderevs.specs.Held.{node_at}
use Rattle.shared_revisions.proofs.Named.{names_held, names_missing}
use Rattle.shared_revisions.proofs.held.Held.names.Goals as goal

pub returns-in-Some : goal.returns-in-Some
returns-in-Some c =
    let look = node_at c.args.self.now.nodes in
    let in_tree = names_held c.args.self.now c.args.revision c.args.path.now c.in-Some.node.now
    (ap (option_and_then look) (sym c.find.ensures) ∙ sym c.held.ensures
    ∙ ap option_copied c.in-Some.is) c.names.ensures.ordered in
    IfOk-weaker c.names.result (λ names. map deref names.items ≡ keys c.in-Some.node.now.kids)
    (λ names. map deref names.items
    ≡ names_in (tree_in (slice_get (revisions_of c.args.self.now) c.args.revision)) c.args.path.now)
    (λ names is. is ∙ in_tree) c.names.ensures.names

pub returns-in-None : goal.returns-in-None
returns-in-None c =
    let look = node_at c.args.self.now.nodes in
    ap (map deref) c.new.ensures.items
    ∙ names_missing c.args.self.now c.args.revision c.args.path.now
    (ap (option_and_then look) (sym c.find.ensures) ∙ sym c.held.ensures
    ∙ ap option_copied c.in-None.is)
