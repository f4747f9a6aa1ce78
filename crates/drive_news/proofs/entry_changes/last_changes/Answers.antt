use Rattle.std.proofs.Common.{[], ◌∷◌, ◌++◌, Some, ap, ◌∙◌, option_map}
use Rattle.std.specs.Prelude.{codes, decimal}
use Rattle.wire_replies.specs.Replies.{uuid_text}
use Rattle.wire_replies.proofs.Made.{if_made}
use Rattle.drive_news.specs.Parts.{revision_property, stale_changes}
use Rattle.drive_news.proofs.Parts.{one_more}
use Rattle.drive_news.proofs.entry_changes.last_changes.Goals as goal

pub returns : goal.returns
returns g c =
    let content = g.R.Repository.content c.args.view.now in
    let number = one_more (codes "svn:entry:committed-rev") c.number_text-number.result _ c.in_ok-changes.changes [] (option_map decimal c.args.created)
    c.new-changes.ensures c.number_text-number.ensures c.in_ok-changes.ensures in
    let date = one_more (codes "svn:entry:committed-date") c.revision_property-date.result _ c.in_ok-changes-2.changes _ (revision_property content (codes "svn:date") c.args.created)
    number c.revision_property-date.ensures c.in_ok-changes-2.ensures in
    let author = one_more (codes "svn:entry:last-author") c.revision_property-author.result _ c.in_ok-changes-3.changes _ (revision_property content (codes "svn:author") c.args.created)
    date c.revision_property-author.ensures c.in_ok-changes-3.ensures in
    let uuid = one_more (codes "svn:entry:uuid") c.uuid_told-uuid.result _ c.in_ok-changes-4.changes _ (Some (uuid_text c.uuid.result))
    author c.uuid_told-uuid.ensures c.in_ok-changes-4.ensures in
    if_made c.with_stale.result _ _
    (λ more told. told ∙ ap (λ xs. xs ++ stale_changes c.args.is_stale) uuid
    ∙ ap (λ n. (codes "svn:entry:committed-rev", option_map decimal c.args.created)
    ∷ (codes "svn:entry:committed-date", revision_property content (codes "svn:date") c.args.created)
    ∷ (codes "svn:entry:last-author", revision_property content (codes "svn:author") c.args.created)
    ∷ (codes "svn:entry:uuid", Some (uuid_text n)) ∷ stale_changes c.args.is_stale) c.uuid.ensures)
    c.with_stale.ensures
