use Rattle.std.proofs.{Common.{◌≡◌, ◌<◌, suc, [], List, length, take, Option, None, get_or, sym, ap, arith, ◌∙◌}, lemmas.List.get_or_default}
use Rattle.std.proofs.lemmas.Option.{slice_get-get_or}
use Rattle.svnpath.specs.Paths.{Component, PathValue}
use Rattle.repo_api.specs.Histories.{Changed}
use Rattle.revision_data.specs.Found.{found}
use Rattle.noderevs.specs.{Held.node_at, Nodes.kid_at, declared.node_rev.NodeId.NodeId}
use Rattle.filed_writing.specs.{Origins.{put_by, root_before}, Trails.made_at}
use Rattle.filed_writing.proofs.{Coming.made_next, trail.Trail.next.Goals.{in-Some, in-None}}
use Rattle.filed_writing.proofs.trail.Trail.next.Goals as goal

pub returns : goal.returns
returns c =
    let r = c.args.revision in
    let nodes = r.nodes.now in
    let changes : List Changed = r.changes.now in
    let path : PathValue = c.args.self.now.way.path.now in
    let ids : List (Option NodeId) = c.args.self.now.way.ids.items in
    let kept = c.match-checked_sub.kept in
    let depth : c.len-depth.result ≡ length ids = omega (arith, c.len-depth.ensures, c.args.self.now.way.ids.ok.0) in
    let put : c.put_by.result ≡ put_by nodes (found changes (take (length ids) path)) kept =
    c.put_by.ensures ∙ ap (λ o. put_by nodes o kept) (c.change_near.ensures c.requires.sorted)
    ∙ ap (λ d. put_by nodes (found changes (take d path)) kept) depth in
    elim c.match-checked_sub.branch [
      | in-Some w ↦
          let above = w.in-Some.above in
          let name : Component = get_or path above [] in
          let one = w.in-Some.ensures in
          let more : length ids ≡ suc above = omega (arith, one.0, one.1, depth) in
          let inside : above < length path = omega (arith, more, c.requires.more) in
          let known : get_or ids above None ≡ made_at r (take above path) =
          c.requires.trail above (get_or ids above None) (slice_get-get_or ids above None (omega (arith, more))) in
          put
          ∙ ap (λ k. put_by nodes (found changes (take (length ids) path)) k)
          (w.kept-is ∙ w.entry-kept.ensures ∙ ap (λ i. kid_at (node_at nodes) i name) known)
          ∙ sym (made_next r path above (length ids) name more inside (get_or_default path above [] name inside))
      | in-None w ↦
          let none : length ids ≡ 0 = omega (arith, w.in-None.ensures, depth) in
          put
          ∙ ap (λ k. put_by nodes (found changes (take (length ids) path)) k) (w.kept-is ∙ w.root_before-kept.ensures)
          ∙ ap (λ d. put_by nodes (found changes (take d path)) (root_before nodes r.number)) none
          ∙ sym (ap (λ d. made_at r (take d path)) none)
    ]
