use Rattle.std.proofs.{Common.{◌≡◌, ◌<◌, suc, [], List, length, take, Option, None, get_or, sym, ap, arith, ◌∙◌}, lemmas.List.get_or_default}
use Rattle.std.proofs.lemmas.Option.{slice_get-get_or}
use Rattle.svnpath.specs.Paths.{Component, PathValue}
use Rattle.noderevs.specs.{Held.node_at, Nodes.kid_at, declared.node_rev.NodeId.NodeId}
use Rattle.filed_writing.specs.Trails.{here_at}
use Rattle.filed_writing.proofs.Coming.{here_next}
use Rattle.filed_writing.proofs.way.Way.next.Goals as goal

pub returns-in-Some : goal.returns-in-Some
returns-in-Some c =
    let r = c.args.revision in
    let path : PathValue = c.args.self.now.path.now in
    let ids : List (Option NodeId) = c.args.self.now.ids.items in
    let above = c.in-Some.above in
    let name : Component = get_or path above [] in
    let one = c.in-Some.ensures in
    let more : length ids ≡ suc above = omega (arith, one.0, one.1, c.len.ensures, c.args.self.now.ids.ok.0) in
    let inside : above < length path = omega (arith, more, c.requires.more) in
    c.entry.ensures
    ∙ ap (λ i. kid_at (node_at r.nodes.now) i name) (c.requires.way above (get_or ids above None) (slice_get-get_or ids above None (omega (arith, more))))
    ∙ sym (here_next r path above (length ids) name more inside (get_or_default path above [] name inside))

pub returns-in-None : goal.returns-in-None
returns-in-None c =
    let r = c.args.revision in
    let path : PathValue = c.args.self.now.path.now in
    let ids : List (Option NodeId) = c.args.self.now.ids.items in
    let none : length ids ≡ 0 = omega (arith, c.in-None.ensures, c.len.ensures, c.args.self.now.ids.ok.0) in
    c.root.ensures ∙ sym (ap (λ d. here_at r (take d path)) none)
