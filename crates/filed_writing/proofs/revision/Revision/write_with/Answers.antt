use Rattle.std.proofs.Common.{◌≡◌, ◌++◌, length, ap, ◌∙◌, rules}
use Rattle.std.specs.{Prelude.option_map, Arc.arc_value}
use Rattle.fsfs_nodes.specs.declared.node.FileNode.{FileNode}
use Rattle.fsfs.specs.Files.{Piece, piece_bytes}
use Rattle.filed_writing.specs.{Bodies.{before_of, brought_by}, Drafts.{came_from, comes_of, copy_from}, Layout.{lines_of, piece_of}}
use Rattle.filed_writing.specs.Pieces.{Before, brings, dump_before, piece_by, properties_dump, properties_kept, properties_of}
use Rattle.filed_writing.proofs.Pieces.{if_ok, pair_lines}
use Rattle.filed_writing.proofs.revision.Revision.write_with.Goals as goal

pub returns : goal.returns
returns c =
    let out = c.args.out.now.items in
    let came = option_map came_from c.args.draft.origin.predecessor in
    let text = brought_by c.args.text in
    let new = brought_by c.of-properties.result in
    let value : c.in_ok-dump.dump ≡ properties_dump (arc_value c.args.draft.node.now.properties) = search rules in
    let before : option_map before_of c.line_before.result ≡ option_map {U = Before} (λ b. (dump_before b, properties_kept b)) came =
    c.line_before.ensures ∙ pair_lines c.in_ok-before.before came c.properties_line.result c.in_ok-before.ensures c.properties_line.ensures in
    let properties : new ≡ properties_of c.args.draft.node.now came =
    c.of-properties.ensures ∙ (λ i. brings (value i) (before i)) in
    let lines = c.in_ok-lines.lines in
    let lines_are : lines ≡ lines_of c.args.self c.args.draft.node.now (comes_of c.args.draft.origin) (copy_from c.args.draft.root) = c.in_ok-lines.ensures in
    let made : Piece = piece_by (length out) lines text new in
    let piece : made ≡ piece_of c.args.self (length out) c.args.draft.node.now (comes_of c.args.draft.origin) (copy_from c.args.draft.root) text =
    λ i. piece_by (length out) (lines_are i) text (properties i) in
    if_ok c.write_node.result (λ node is.
    let node_is : node ≡ made.node = is.0 in (
      node_is ∙ ap (λ (p : Piece). p.node) piece,
      is.1 ∙ ap (λ (n : FileNode). out ++ piece_bytes (record { text = text.new; properties = new.new; node = n })) node_is
          ∙ ap (λ (p : Piece). out ++ piece_bytes p) piece,
    )) c.write_node.ensures
