use Rattle.std.proofs.Common.{rules, ◌≡◌, Some, cond, ap, length, ◌∙◌}
use Rattle.svnpath.specs.{PathLaws.at_is_same, Paths.same_path}
use Rattle.reporter.specs.Finding.{place_of}
use Rattle.reporter.proofs.index.GraftIndex.note.Goals as goal

pub returns-in-Ok-clause-ok : goal.returns-in-Ok-clause-ok
returns-in-Ok-clause-ok c = record {
  newest = λ q.
      let old = place_of c.args.self.now.newest.entries q in
      let place : c.len-place.result ≡ length c.args.self.now.older.items = search rules in
      c.in-Ok.ensures.updates.0 q
      ∙ ap (λ b. cond b (Some c.len-place.result) old) (at_is_same c.in_ok-key.key q)
      ∙ ap (λ k. cond (same_path k q) (Some c.len-place.result) old) c.in_ok-key.ensures.cases
      ∙ ap (λ n. cond (same_path c.args.path.now q) (Some n) old) place;
  older = search rules;
}
