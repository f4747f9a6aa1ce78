use Rattle.std.proofs.Common.{ap, refl}
use Rattle.std.specs.Prelude.{codes, decimal}
use Rattle.wire_replies.specs.Replies.{uuid_text}
use Rattle.wire_replies.proofs.Made.{if_made}
use Rattle.session_reads.proofs.Values.{one_more, one_optional}
use Rattle.session_reads.proofs.entries.with_revision.Goals as goal

pub returns : goal.returns
returns g c =
    let content = g.R.Repository.content c.args.view.now in
    let number = one_more (codes "svn:entry:committed-rev") c.decimal_text-number.result c.args.properties c.in_ok-properties.properties c.args.properties _ (decimal c.args.revision)
    refl c.decimal_text-number.ensures refl c.in_ok-properties.ensures in
    let uuid = one_more (codes "svn:entry:uuid") c.uuid_text-uuid.result _ c.in_ok-properties-2.properties _ _ (uuid_text content.uuid)
    number c.uuid_text-uuid.ensures (ap uuid_text c.uuid.ensures) c.in_ok-properties-2.ensures in
    let date = one_optional (codes "svn:entry:committed-date") c.date_of-date.result _ c.in_ok-properties-3.properties _ _
    uuid c.date_of-date.ensures c.in_ok-properties-3.ensures in
    if_made c.with_optional-2.result _ _
    (λ more told. one_optional (codes "svn:entry:last-author") c.author_of.result _ more _ _ date c.author_of.ensures told)
    c.with_optional-2.ensures
