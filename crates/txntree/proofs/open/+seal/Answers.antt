use Rattle.std.proofs.{Common.{◌∷◌, Some, refl, sym, ap, subst, ◌∙◌}, lemmas.Map.Iter.{rest_more, rest_all}}
use Rattle.std.specs.{Map.Iter.deref_pair, Cmp.Lexicographic.slice_cmp, Ordering.nat_cmp, List.Sorted.IsStrictlySortedBy, Map.keys_of}
use Rattle.repo_api.specs.declared.entry.Mark.TheVariants.{Made}
use Rattle.noderevs.specs.{Heights.IsHeight, Held.node_at, Nodes.with_block}
use Rattle.txntree.specs.{Changes.first_of, Spots.change_spot, Sealing.{IsSealedAs, IsSealing}}
use Rattle.txntree.proofs.{Changes.{first_gone, first_here, sorted_rest}, Front.after_front, High.after_high, Walking.{is_spot, gone_spot}}
use Rattle.txntree.proofs.Seals.{after_as, after_closed, after_grows, begins, goes_on, gone_as, grown_then}
use Rattle.txntree.proofs.open.+seal.Goals as goal

pub Change::sealed-returns-in-Gone-clause-ok : goal.Change::sealed-returns-in-Gone-clause-ok
Change::sealed-returns-in-Gone-clause-ok t c =
    gone_as (node_at c.args.nodes.now) c.args.rev c.args.path c.args.block.now.items (change_spot c.args.self.now) (ap change_spot c.in-Gone.is ∙ gone_spot)

pub Change::sealed-returns-in_ok-id-in-Is-clause-ok : goal.Change::sealed-returns-in_ok-id-in-Is-clause-ok
Change::sealed-returns-in_ok-id-in-Is-clause-ok t c =
    subst (λ s. IsSealedAs (node_at c.args.nodes.now) c.args.rev c.args.path c.args.block.now.items c.sealed.new.block.items s (Some c.in_ok-id-in-Is.id))
    (sym (ap change_spot c.in-Is.is ∙ is_spot c.in-Is.node)) c.in_ok-id-in-Is.ensures.ok

pub OpenNode::sealed-loop-name-init : goal.OpenNode::sealed-loop-name-init
OpenNode::sealed-loop-name-init t c =
    let gives = c.into_iter-name-iterator.ensures.into_iter_gives in (
      subst (λ es. IsStrictlySortedBy (slice_cmp nat_cmp) (keys_of es)) (sym gives.0) gives.5,
      begins (node_at c.args.nodes.now) c.args.rev c.args.path c.args.self.now c.args.block.now.items (first_of c.into_iter-name-iterator.result) c.in_ok-kids.kids
          (λ n. ap (λ es. first_of es n) gives.0) c.in_ok-kids.ensures,
    )

pub OpenNode::sealed-loop-name-preserved : goal.OpenNode::sealed-loop-name-preserved
OpenNode::sealed-loop-name-preserved t c =
    let look = node_at c.args.nodes.now in
    let name = c.in-Some.name.now in
    let change = c.in-Some.change.now in
    let turn = rest_more deref_pair c.loop-name.name-iterator c.next.new.self c.next.result (c.in-Some.name, c.in-Some.change) c.in-Some.is c.next.ensures.steps in
    let sorted = subst (λ es. IsStrictlySortedBy (slice_cmp nat_cmp) (keys_of es)) turn c.loop-name.invariant.0 in (
      sorted_rest (name, change) c.next.new.self sorted,
      goes_on look c.args.rev c.args.path c.in_ok-below.below c.args.self.now c.args.block.now.items c.loop-name.block.items c.sealed.new.block.items
          (first_of ((name, change) ∷ c.next.new.self)) (first_of c.next.new.self) c.loop-name.kids c.set_entry.new.kids name change c.in_ok-id.id
          (subst (λ es. IsSealing look c.args.rev c.args.path c.args.self.now c.args.block.now.items c.loop-name.block.items (first_of es) c.loop-name.kids) turn c.loop-name.invariant.1)
          (first_here name change c.next.new.self) (first_gone name change c.next.new.self sorted)
          c.in_ok-below.ensures
          c.sealed.ensures.grown c.in_ok-id.ensures.ok c.in_ok-set_entry.ensures,
    )

pub OpenNode::sealed-returns-clause-grown : goal.OpenNode::sealed-returns-clause-grown
OpenNode::sealed-returns-clause-grown t c =
    let look = node_at c.args.nodes.now in
    let so = c.loop-name.invariant.1 in record {
      grows = after_grows c.append.result look c.args.rev c.args.block.now.items c.loop-name.block.items c.append.new.block.items _ c.append.ensures.ok c.append.ensures.err so.grown.grows;
      closed = λ closed before block.
          after_closed c.append.result look c.args.rev c.loop-name.block.items c.append.new.block.items _ c.append.ensures.ok c.append.ensures.err
          (so.grown.closed closed before block) (so.there closed before);
      high = λ closed before block high.
          after_high c.append.result look c.args.rev c.loop-name.block.items c.append.new.block.items _ c.append.ensures.ok c.append.ensures.err
          (so.grown.closed closed before block) (so.there closed before)
          (subst (λ b. IsHeight (with_block look c.args.rev b) c.loop-name.kids c.in_ok-height.height) c.deref.ensures.value c.in_ok-height.ensures)
          (so.grown.high closed before block high);
      front = λ closed before block front.
          after_front c.append.result look c.args.rev c.loop-name.block.items c.append.new.block.items _ c.append.ensures.ok c.append.ensures.err
          (so.there closed before) (so.grown.front closed before block front);
    }

pub OpenNode::sealed-returns-clause-ok : goal.OpenNode::sealed-returns-clause-ok
OpenNode::sealed-returns-clause-ok t c =
    let rest = rest_all deref_pair c.loop-name.name-iterator c.next.new.self c.next.result c.in-None.is c.next.ensures.steps in
    after_as c.append.result (node_at c.args.nodes.now) c.args.rev c.args.path c.args.self.now c.args.block.now.items c.loop-name.block.items c.append.new.block.items
    (first_of c.loop-name.name-iterator) c.loop-name.kids _ c.append.ensures.ok c.append.ensures.id c.loop-name.invariant.1
    (λ n. ap (λ es. first_of es n) rest) refl
    (λ id here i. Some (record { content = c.in_ok-content.ensures i; properties = c.in_ok-properties.ensures i; own = c.in_ok-own.ensures i; last = Made (here i) c.args.path }))

pub OpenNode::sealed-returns-in_err-id-clause-grown : goal.OpenNode::sealed-returns-in_err-id-clause-grown
OpenNode::sealed-returns-in_err-id-clause-grown t c =
    grown_then (node_at c.args.nodes.now) c.args.rev c.args.block.now.items c.loop-name.block.items c.sealed.new.block.items c.loop-name.invariant.1.grown c.sealed.ensures.grown

pub OpenNode::sealed-returns-in_err-set_entry-clause-grown : goal.OpenNode::sealed-returns-in_err-set_entry-clause-grown
OpenNode::sealed-returns-in_err-set_entry-clause-grown t c =
    grown_then (node_at c.args.nodes.now) c.args.rev c.args.block.now.items c.loop-name.block.items c.sealed.new.block.items c.loop-name.invariant.1.grown c.sealed.ensures.grown
