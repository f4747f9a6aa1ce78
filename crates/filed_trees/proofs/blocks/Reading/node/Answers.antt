use Rattle.filed_trees.proofs.{Compared.{compared_filed, was_filed}, Judged.no_part, Asked.{is_before, readable_content, readable_properties}}
use Rattle.filed_trees.specs.{Readable.{IsKept, IsReadableSoFar, IsTabled, ReadsWhere}, Comparing.{IsReadFrom, tables_of}}
use Rattle.std.specs.Prelude.{is_some}
use Rattle.std.proofs.Common.{rules, ◌≡◌, Some, Err, refl, sym, ap, subst, ◌∙◌}
use Rattle.filed_trees.proofs.blocks.Reading.node.Goals as goal

pub returns-in_err-earlier-clause-read : goal.returns-in_err-earlier-clause-read
returns-in_err-earlier-clause-read c = λ files for last.
    let places = c.args.self.places in
    let right = IsReadableSoFar files places c.args.piece.now in
    let fault = c.in_err-earlier.field-0.0 in
    let is : c.from_residual-in_err-earlier.result ≡ Err fault = search rules in
    subst (λ r. ReadsWhere r right (IsReadFrom files places c.args.piece.now)) (sym is)
    (no_part fault (λ (r : right). r.before) (c.in_err-earlier.ensures.finds files c.args.self.changes.now for))

pub returns-in_err-properties-clause-read : goal.returns-in_err-properties-clause-read
returns-in_err-properties-clause-read c = λ files for last.
    let places = c.args.self.places in
    let piece = c.args.piece.now in
    let earlier = c.in_ok-earlier.earlier in
    let right = IsReadableSoFar files places piece in
    let fault = c.in_err-properties.field-0.0 in
    let before = is_before files places c.args.self.changes.now for piece.node piece.node.predecessor earlier refl c.in_ok-earlier.ensures.earlier in
    let is : c.from_residual-in_err-properties.result ≡ Err fault = search rules in
    subst (λ r. ReadsWhere r right (IsReadFrom files places c.args.piece.now)) (sym is)
    (no_part fault (readable_properties files places.tables.now (IsTabled (tables_of places)) piece earlier before)
    (c.in_err-properties.ensures.judges last.properties_here))

pub returns-in_err-content-clause-read : goal.returns-in_err-content-clause-read
returns-in_err-content-clause-read c = λ files for last.
    let places = c.args.self.places in
    let piece = c.args.piece.now in
    let earlier = c.in_ok-earlier.earlier in
    let right = IsReadableSoFar files places piece in
    let fault = c.in_err-content.field-0.0 in
    let before = is_before files places c.args.self.changes.now for piece.node piece.node.predecessor earlier refl c.in_ok-earlier.ensures.earlier in
    let is : c.from_residual-in_err-content.result ≡ Err fault = search rules in
    subst (λ r. ReadsWhere r right (IsReadFrom files places c.args.piece.now)) (sym is)
    (no_part fault (readable_content files places.tables.now (IsTabled (tables_of places)) piece earlier before)
    (c.in_err-content.ensures.judges last.text_here))

pub returns-clause-read : goal.returns-clause-read
returns-clause-read c = λ files for last.
    let places = c.args.self.places in
    let piece = c.args.piece.now in
    let rows = c.args.self.changes.now in
    let e = c.in_ok-earlier.earlier in
    let before = is_before files places rows for piece.node piece.node.predecessor e refl c.in_ok-earlier.ensures.earlier in
    let was = was_filed files places rows for piece.node.predecessor e c.in_ok-earlier.ensures.earlier in
    let content = c.in_ok-content.ensures.judges last.text_here in
    let properties = c.in_ok-properties.ensures.judges last.properties_here in (
      record {
        path = ap is_some c.in_ok-read.ensures;
        before = c.in_ok-earlier.ensures.finds files rows for;
        text = subst (IsKept piece.node.text piece.text) (sym before.text) content.text;
        kind = λ some none. before.from piece.node.kind (content.kind some none);
        entries = content.entries;
        properties = subst (IsKept piece.node.properties piece.properties) (sym before.properties) properties.kept;
        list = properties.list;
      },
      compared_filed files places rows for piece (record {
        path = c.in_ok-path.path;
        own = c.in_ok-own.own;
        content = c.in_ok-content.content;
        properties = c.in_ok-properties.properties;
        kids = c.in_ok-content.kids;
        height = c.in_ok-height.height;
      }) e last (c.in_ok-read.ensures ∙ ap Some (sym c.in_ok-path.ensures.path)) c.in_ok-earlier.ensures.earlier
          (c.in_ok-own.ensures piece.node.predecessor c.in_ok-earlier.ensures.earlier)
          (c.in_ok-content.ensures.content files last.text was)
          (c.in_ok-properties.ensures.properties files last.properties was),
    )
