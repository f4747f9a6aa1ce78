use Rattle.std.proofs.{Common.{◌≡◌, [], List, length, Option, None, get_or, sym, refl, ◌∙◌}, lemmas.List.get_or_default}
use Rattle.std.proofs.lemmas.Option.{get_or_from_slice_get, slice_get_read}
use Rattle.svnpath.specs.Paths.{PathValue}
use Rattle.noderevs.specs.{Held.node_at, Nodes.kid_at, declared.node_rev.NodeId.NodeId}
use Rattle.filed_writing.proofs.way.Way.entry.Goals as goal

pub returns : goal.returns
returns c =
    let look = node_at c.args.nodes.now in
    let path : PathValue = c.args.self.now.path.now in
    let ids : List (Option NodeId) = c.args.self.now.ids.items in
    let depth = c.args.depth in
    let id : Option NodeId = c.index.result.now in
    let name = c.index-self-depth.result in
    let id_is : get_or ids depth None ≡ id =
    get_or_from_slice_get ids depth id None (slice_get_read ids (length ids) depth id refl c.requires.known c.index.ensures) in
    let name_is : get_or path depth [] ≡ get_or path depth name = get_or_default path depth [] name c.requires.named in
    c.kid.ensures ∙ sym (λ i. kid_at look (id_is i) (name_is i))
