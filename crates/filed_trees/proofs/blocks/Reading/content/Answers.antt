use Rattle.std.proofs.Common.{ap, subst, ◌∙◌}
use Rattle.std.specs.Arc.{arc_value}
use Rattle.noderevs.specs.Nodes.{kid_named}
use Rattle.filed_trees.specs.Comparing.{IsBody, tables_of}
use Rattle.filed_trees.proofs.{Entering.nothing_named, Kept.{directory_content, file_content}}
use Rattle.filed_trees.proofs.blocks.Reading.content.Goals as goal

pub returns-in_ok-text-in-File-clause-content : goal.returns-in_ok-text-in-File-clause-content
returns-in_ok-text-in-File-clause-content c = λ files came was.
    let line = c.args.piece.now.node.text in
    let body = subst (λ k. IsBody files line k c.in_ok-body.body) c.earlier_text-kept.ensures
    (c.in_ok-body.ensures.body files (λ l body at same new. came l body at (same ∙ c.revision.ensures) new)) in
    let text = c.in_ok-text-in-File.ensures.1 files line body was in
    file_content files (tables_of c.args.self.places) c.args.piece.now.node (arc_value c.in_ok-text-in-File.field-0) c.new.result
    text.0 c.in-File.is text.1.0 text.1.1 (λ n. ap (λ m. kid_named m n) c.new.ensures ∙ nothing_named n)

pub returns-in_ok-kids-in-Directory-clause-content : goal.returns-in_ok-kids-in-Directory-clause-content
returns-in_ok-kids-in-Directory-clause-content c = λ files came was.
    let line = c.args.piece.now.node.text in
    let body = subst (λ k. IsBody files line k c.in_ok-body.body) c.earlier_text-kept.ensures
    (c.in_ok-body.ensures.body files (λ l body at same new. came l body at (same ∙ c.revision.ensures) new)) in
    directory_content files (tables_of c.args.self.places) c.args.piece.now.node (arc_value c.in_ok-content-in-Directory.content)
    c.in_ok-kids-in-Directory.field-0 c.in-Directory.is c.in_ok-content-in-Directory.ensures
    (c.in_ok-kids-in-Directory.ensures.1 files line body was)
