use Rattle.std.proofs.{Common.{◌≡◌, ⊎_elim, inl, sym, ap, arith, ◌∙◌}, lemmas.Option.{none-some, slice_get_past}}
use Rattle.repo_api.specs.Marks.{shown}
use Rattle.noderevs.proofs.Finding.{nothing_under}
use Rattle.noderevs.specs.{Held.{blocks_of, count, node_at, root_at}, Views.shared_tree}
use Rattle.std.specs.Prelude.{option_map}
use Rattle.block_rules.specs.Rules.{shown_by}
use Rattle.block_rules.proofs.next_block.NextBlock.names_own.Goals as goal

pub returns-then-node-count : goal.returns-then-node-count
returns-then-node-count c =
    let nodes = c.args.self.nodes.now in
    let here : c.args.node.now.own.rev ≡ count nodes = c.if-node-count.true ∙ c.count.ensures in
    let no_root = ap (root_at nodes) here
    ∙ ap (option_map (λ b. b.root)) (slice_get_past (blocks_of nodes) (count nodes) (omega arith)) in
    let nothing = ap (λ o. shown (shared_tree (node_at nodes) o c.args.node.now.own.path)) no_root
    ∙ ap shown (nothing_under (node_at nodes) c.args.node.now.own.path) in (
      λ yes. inl (here, c.is_same_path.ensures.0 yes),
      λ own. c.is_same_path.ensures.1
          (⊎_elim (λ made. made.1) (λ there. absurd (none-some (shown_by c.args.node.now) (sym nothing ∙ there))) own),
    )
