use Rattle.std.proofs.{Common.{◌≡◌, ◌<◌, ◌+◌, ◌++◌, ◌∷◌, [], List, length, take, Option, Some, slice_get, ap, subst, arith, refl, ◌∙◌}, Math.Seq.take-length}
use Rattle.std.proofs.{lemmas.List.length-append, lemmas.Option.slice_get_read}
use Rattle.svnpath.specs.Paths.{PathValue}
use Rattle.noderevs.specs.declared.node_rev.NodeId.{NodeId}
use Rattle.block_rules.specs.Ways.{id_at}
use Rattle.block_rules.proofs.Steps.{one_more}
use Rattle.block_rules.proofs.way.Way.find.Goals as goal

pub loop-self-init : goal.loop-self-init
loop-self-init c =
    (c.turn_to.ensures.known c.args.tree c.requires.way, ap (λ b. b.now) c.turn_to.ensures.path, c.turn_to.ensures.bound)

pub next-next-requires-clause-way : goal.next-next-requires-clause-way
next-next-requires-clause-way c = c.loop-self.invariant.0

pub next-next-requires-clause-more : goal.next-next-requires-clause-more
next-next-requires-clause-more c =
    omega (arith, c.loop-self-test.true, c.len.ensures, c.loop-self.self.ids.ok.0, ap (λ (p : PathValue). length p) c.loop-self.invariant.1)

pub loop-self-smaller : goal.loop-self-smaller
loop-self-smaller c =
    let more : length c.push.new.self.items ≡ length c.loop-self.self.ids.items + 1 =
    ap (λ (l : List (Option NodeId)). length l) c.in_ok-push.ensures.items ∙ length-append c.loop-self.self.ids.items (c.next-next.result ∷ []) in
    omega (arith, more, c.loop-self-test.true, c.len.ensures, c.loop-self.self.ids.ok.0)

pub loop-self-preserved : goal.loop-self-preserved
loop-self-preserved c =
    let tree = c.args.tree in
    let ids : List (Option NodeId) = c.loop-self.self.ids.items in
    let path : PathValue = c.loop-self.self.path.now in
    let grown : c.push.new.self.items ≡ ids ++ c.next-next.result ∷ [] = c.in_ok-push.ensures.items in
    let more : length c.push.new.self.items ≡ length ids + 1 =
    ap (λ (l : List (Option NodeId)). length l) grown ∙ length-append ids (c.next-next.result ∷ []) in (
      (λ depth id at. one_more (λ d. id_at tree (take d path)) ids c.next-next.result c.loop-self.invariant.0 c.next-next.ensures depth id
          (subst (λ items. slice_get items depth ≡ Some id) grown at)),
      c.loop-self.invariant.1,
      omega (arith, more, c.loop-self-test.true, c.len.ensures, c.loop-self.self.ids.ok.0),
    )

pub returns-in_err-push-clause-way : goal.returns-in_err-push-clause-way
returns-in_err-push-clause-way c depth id at =
    c.loop-self.invariant.0 depth id (subst (λ items. slice_get items depth ≡ Some id) c.in_err-push.ensures.items at)

pub returns-clause-way : goal.returns-clause-way
returns-clause-way c = c.loop-self.invariant.0

pub returns-clause-path : goal.returns-clause-path
returns-clause-path c = c.loop-self.invariant.1

pub returns-clause-whole : goal.returns-clause-whole
returns-clause-whole c =
    omega (arith, c.loop-self-test.false, c.len.ensures, c.loop-self.self.ids.ok.0, c.loop-self.invariant.2)

pub returns-clause-found : goal.returns-clause-found
returns-clause-found c =
    let tree = c.args.tree in
    let path : PathValue = c.args.path.now in
    let ids : List (Option NodeId) = c.loop-self.self.ids.items in
    let id : Option NodeId = c.index.result.now in
    let inside : length path < length ids = omega (arith, c.loop-self-test.false, c.len.ensures, c.loop-self.self.ids.ok.0) in
    c.loop-self.invariant.0 (length path) id (slice_get_read ids (length ids) (length path) id refl inside c.index.ensures)
    ∙ ap (λ p. id_at tree (take (length path) p)) c.loop-self.invariant.1
    ∙ ap (id_at tree) (take-length path)
