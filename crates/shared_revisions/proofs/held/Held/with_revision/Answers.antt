use Rattle.std.proofs.{Common.{◌≡◌, ◌<◌, ◌+◌, length, refl, sym, ap, subst, arith, ◌∙◌}, lemmas.List.length_push}
use Rattle.noderevs.specs.{Held.{blocks_of, trees_of}, Nodes.{node_in, root_in}}
use Rattle.shared_revisions.specs.{Contents.block_tree, Placed.ArePlaced, Rising.RisesButAt}
use Rattle.shared_revisions.proofs.{OneMore.{grown, grown_is}, Placing.placed_pushed, Rising.rises_but_last, Seen.held_many}
use Rattle.shared_revisions.proofs.held.Held.with_revision.Goals as goal

pub with_block-requires-clause-room : goal.with_block-requires-clause-room
with_block-requires-clause-room c =
    subst (λ n. n < 262144) (held_many c.args.self.now ∙ sym c.args.self.now.even) c.requires.room

pub with_one_more-requires : goal.with_one_more-requires
with_one_more-requires c = subst (λ n. n < 262144) (held_many c.args.self.now) c.requires.room

pub with_one_more-requires-2 : goal.with_one_more-requires-2
with_one_more-requires-2 c =
    subst (λ n. n < 262144) (held_many c.args.self.now ∙ sym c.args.self.now.all) c.requires.room

pub rising_from-rising_from-requires-clause-place : goal.rising_from-rising_from-requires-clause-place
rising_from-rising_from-requires-clause-place c =
    let old = c.args.self.now in
    let at : c.count.result ≡ length old.properties =
    c.count.ensures ∙ held_many old ∙ sym old.all in
    let more : length c.in_ok-properties.properties ≡ length old.properties + 1 =
    ap length c.in_ok-properties.ensures ∙ length_push old.properties c.args.properties in
    omega (arith, at, more)

pub rising_from-rising_from-requires-clause-others :
    goal.rising_from-rising_from-requires-clause-others
rising_from-rising_from-requires-clause-others c =
    let old = c.args.self.now in
    let at : c.count.result ≡ length old.properties =
    c.count.ensures ∙ held_many old ∙ sym old.all in
    subst (λ k. RisesButAt c.in_ok-properties.properties k old.rising_from) (sym at)
    (rises_but_last old.properties c.in_ok-properties.properties c.args.properties old.rising_from
    c.in_ok-properties.ensures old.rising)

pub invariant_of-result : goal.invariant_of-result
invariant_of-result c =
    let old = c.args.self.now in
    let more : length c.in_ok-changes.changes ≡ length old.changes + 1 =
    ap length c.in_ok-changes.ensures ∙ length_push old.changes c.args.changes in
    record {
      even = ap length c.in_ok-nodes.ensures.blocks ∙ length_push (blocks_of old.nodes) c.args.block
          ∙ ap (λ n. n + 1) old.even ∙ sym more;
      all = ap length c.in_ok-properties.ensures ∙ length_push old.properties c.args.properties
          ∙ ap (λ n. n + 1) old.all ∙ sym more;
      begun = subst (λ n. 0 < n) (sym more) (omega arith);
      placed =
          subst (λ bs. ArePlaced (node_in bs) (root_in bs)) (sym c.in_ok-nodes.ensures.blocks)
          (placed_pushed
          (blocks_of old.nodes)
          c.args.block old.nodes.kids old.nodes.roots old.placed c.requires.placed);
      shown =
          grown (trees_of old.nodes)
          (trees_of c.in_ok-nodes.nodes) old.changes c.in_ok-changes.changes c.args.changes
          (block_tree old.nodes c.args.block) c.in_ok-changes.ensures
          (λ k within. c.in_ok-nodes.ensures.stays k (subst (λ n. k < n) (sym old.even) within))
          (λ q. ap (λ n. trees_of c.in_ok-nodes.nodes n q) (sym old.even)
          ∙ c.in_ok-nodes.ensures.tree q)
          c.requires.tree old.shown;
      rising = c.rising_from-rising_from.ensures;
    }

pub returns : goal.returns
returns c =
    let old = c.args.self.now in record {
      blocks = c.in_ok-nodes.ensures.blocks;
      changes = c.in_ok-changes.ensures;
      revisions = λ m is.
          grown_is (trees_of old.nodes)
          (trees_of c.in_ok-nodes.nodes) old.changes c.in_ok-changes.changes c.args.changes
          (block_tree old.nodes c.args.block) c.in_ok-changes.ensures
          (λ k within. c.in_ok-nodes.ensures.stays k (subst (λ n. k < n) (sym old.even) within))
          (λ q. ap (λ n. trees_of c.in_ok-nodes.nodes n q) (sym old.even)
          ∙ c.in_ok-nodes.ensures.tree q)
          old.shown _ m is;
      uuid = refl;
      lists = c.in_ok-properties.ensures;
    }
