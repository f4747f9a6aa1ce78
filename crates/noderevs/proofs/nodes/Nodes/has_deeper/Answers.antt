use Rattle.std.proofs.Common.{◌≡◌, Some, None, option_and_then, sym, ap, ◌∙◌}
use Rattle.std.specs.Prelude.{option_copied}
use Rattle.noderevs.specs.{Held.node_at, Views.find_id}
use Rattle.noderevs.proofs.{Finding.tree_under, Heights.{low_at, none_deeper_at, none_at, not_less, less_is_false}}
use Rattle.noderevs.proofs.nodes.Nodes.has_deeper.Goals as goal

pub returns-in-Some-clause-yes : goal.returns-in-Some-clause-yes
returns-in-Some-clause-yes c = λ shallow.
    let look = node_at c.args.self.now in
    let at = find_id look c.args.path.now c.args.root in
    let there : option_and_then look at ≡ Some c.in-Some.node.now = sym (sym (ap option_copied c.in-Some.is) ∙ c.held.ensures ∙ ap (option_and_then look) (c.find_in.ensures ∙ ap (λ p. find_id look p c.args.root) c.components.ensures)) in
    let le = low_at look c.args.self.now.high c.args.names at c.in-Some.node.now there (λ rest lt. sym (tree_under look c.args.root c.args.path.now rest) ∙ shallow rest lt) in
    less_is_false c.args.names c.in-Some.node.now.height le

pub returns-in-Some-clause-no : goal.returns-in-Some-clause-no
returns-in-Some-clause-no c = λ no rest lt.
    let look = node_at c.args.self.now in
    let at = find_id look c.args.path.now c.args.root in
    let there : option_and_then look at ≡ Some c.in-Some.node.now = sym (sym (ap option_copied c.in-Some.is) ∙ c.held.ensures ∙ ap (option_and_then look) (c.find_in.ensures ∙ ap (λ p. find_id look p c.args.root) c.components.ensures)) in
    tree_under look c.args.root c.args.path.now rest
    ∙ none_deeper_at look c.args.self.now.kids c.args.self.now.high rest c.args.names at c.in-Some.node.now there (not_less c.args.names c.in-Some.node.now.height no) c.requires lt

pub returns-in-None-clause-no : goal.returns-in-None-clause-no
returns-in-None-clause-no c = λ no rest lt.
    let look = node_at c.args.self.now in
    let at = find_id look c.args.path.now c.args.root in
    let none : option_and_then look at ≡ None = sym (sym (ap option_copied c.in-None.is) ∙ c.held.ensures ∙ ap (option_and_then look) (c.find_in.ensures ∙ ap (λ p. find_id look p c.args.root) c.components.ensures)) in
    tree_under look c.args.root c.args.path.now rest ∙ none_at look at none rest
