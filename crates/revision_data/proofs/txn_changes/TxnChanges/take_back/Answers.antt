use Rattle.std.proofs.Common.{None, sym, ap, ◌∙◌}
use Rattle.std.specs.Prelude.{if◌then◌else◌}
use Rattle.svnpath.specs.Paths.{same_path}
use Rattle.repo_api.specs.StateLaws.{get_path}
use Rattle.revision_data.specs.{Found.found, Prepared.path_of}
use Rattle.revision_data.proofs.{Noted.{taken_back, left_alone}, Seen.seen_at}
use Rattle.revision_data.proofs.txn_changes.TxnChanges.take_back.Goals as goal

pub returns-then-note : goal.returns-then-note
returns-then-note c = λ before prepared.
    let old = c.self.inside.changes.entries in
    taken_back before c.args.self.now _ c.args.op.now c.args.note prepared c.if-note.true (λ q.
    get_path c.take_out.new.entries.entries q ∙ c.take_out.ensures q
    ∙ ap (λ k. if same_path k q then None else found old q) c.path_of.ensures
    ∙ ap (λ o. if same_path (path_of c.args.op.now) q then None else o)
    (sym (seen_at old c.args.self.now q c.self.view_is)))

pub returns : goal.returns
returns c = λ before prepared.
    left_alone before c.args.self.now c.args.op.now c.args.note prepared c.if-note.false
