use Rattle.std.proofs.{Common.{◌≡◌, ◌<◌, ◌+◌, ◌++◌, ◌∷◌, [], List, length, take, Option, Some, slice_get, ap, subst, arith, refl, ◌∙◌}, Math.Seq.take-length}
use Rattle.std.proofs.{lemmas.List.length-append, lemmas.Option.slice_get_read}
use Rattle.svnpath.specs.Paths.{PathValue}
use Rattle.noderevs.specs.declared.node_rev.NodeId.{NodeId}
use Rattle.filed_writing.specs.Trails.{made_at}
use Rattle.block_rules.proofs.Steps.{one_more}
use Rattle.filed_writing.proofs.trail.Trail.follow.Goals as goal

pub loop-self-init : goal.loop-self-init
loop-self-init c =
    (c.turn_to.ensures.known (made_at c.args.revision) c.requires.trail, ap (λ b. b.now) c.turn_to.ensures.path, c.turn_to.ensures.bound)

pub next-next-requires-clause-trail : goal.next-next-requires-clause-trail
next-next-requires-clause-trail c = c.loop-self.invariant.0

pub next-next-requires-clause-more : goal.next-next-requires-clause-more
next-next-requires-clause-more c =
    omega (arith, c.loop-self-test.true, c.len.ensures, c.loop-self.self.way.ids.ok.0, ap (λ (p : PathValue). length p) c.loop-self.invariant.1)

pub loop-self-smaller : goal.loop-self-smaller
loop-self-smaller c =
    let more : length c.push.new.self.items ≡ length c.loop-self.self.way.ids.items + 1 =
    ap (λ (l : List (Option NodeId)). length l) c.in_ok-push.ensures.items ∙ length-append c.loop-self.self.way.ids.items (c.next-next.result ∷ []) in
    omega (arith, more, c.loop-self-test.true, c.len.ensures, c.loop-self.self.way.ids.ok.0)

pub loop-self-preserved : goal.loop-self-preserved
loop-self-preserved c =
    let r = c.args.revision in
    let ids : List (Option NodeId) = c.loop-self.self.way.ids.items in
    let path : PathValue = c.loop-self.self.way.path.now in
    let grown : c.push.new.self.items ≡ ids ++ c.next-next.result ∷ [] = c.in_ok-push.ensures.items in
    let more : length c.push.new.self.items ≡ length ids + 1 =
    ap (λ (l : List (Option NodeId)). length l) grown ∙ length-append ids (c.next-next.result ∷ []) in (
      (λ depth id at. one_more (λ d. made_at r (take d path)) ids c.next-next.result c.loop-self.invariant.0 c.next-next.ensures depth id
          (subst (λ items. slice_get items depth ≡ Some id) grown at)),
      c.loop-self.invariant.1,
      omega (arith, more, c.loop-self-test.true, c.len.ensures, c.loop-self.self.way.ids.ok.0),
    )

pub returns-in_err-push-clause-trail : goal.returns-in_err-push-clause-trail
returns-in_err-push-clause-trail c depth id at =
    c.loop-self.invariant.0 depth id (subst (λ items. slice_get items depth ≡ Some id) c.in_err-push.ensures.items at)

pub returns-clause-trail : goal.returns-clause-trail
returns-clause-trail c = c.loop-self.invariant.0

pub returns-clause-found : goal.returns-clause-found
returns-clause-found c =
    let r = c.args.revision in
    let path : PathValue = c.args.path.now in
    let ids : List (Option NodeId) = c.loop-self.self.way.ids.items in
    let id : Option NodeId = c.index.result.now in
    let inside : length path < length ids = omega (arith, c.loop-self-test.false, c.len.ensures, c.loop-self.self.way.ids.ok.0) in
    c.loop-self.invariant.0 (length path) id (slice_get_read ids (length ids) (length path) id refl inside c.index.ensures)
    ∙ ap (λ p. made_at r (take (length path) p)) c.loop-self.invariant.1
    ∙ ap (made_at r) (take-length path)
