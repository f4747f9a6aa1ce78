use Rattle.std.proofs.{Common.{[], sym, append-nil, ◌∙◌}, lemmas.Result.IfOk-weaker}
use Rattle.seat_rows.proofs.Begun.{youngest_tree, begun_tree}
use Rattle.seat_rows.proofs.commits.begin.Goals as goal

pub returns-in-Directory : goal.returns-in-Directory
returns-in-Directory g c =
    let view = g.R.Repository.content c.args.view in
    let base = youngest_tree view _ _ c.requires.0 c.youngest.ensures c.in-Directory.ensures in
    IfOk-weaker c.begin.result _ _
    (λ txn b. (
      record { more = []; is = sym b.shown ∙ sym (append-nil _) },
      begun_tree c.beginnings_are_trees.ensures c.same_entries_make_a_tree.ensures view base (g.R.Repository.txn_state txn) b,
      c.transactions_begin_marked.ensures view (g.R.Repository.txn_state txn) c.requires.1 base b,
    ))
    c.begin.ensures
