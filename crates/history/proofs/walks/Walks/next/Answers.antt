use Rattle.std.proofs.Common.{◌∙◌, sym, ap}
use Rattle.repo_api.specs.Histories.{history_of}
use Rattle.history.specs.Walks.{above_heads, is_coming}
use Rattle.history.proofs.ToCome.{comes_then}
use Rattle.history.proofs.walks.Walks.next.Goals as goal

pub returns-clause-ok : goal.returns-clause-ok
returns-clause-ok g c =
    comes_then (history_of (g.R.Repository.content c.args.repository.now)) c.args.self.now.strict c.args.self.now.low c.in-Some.newest c.args.self.now.heads.items
    c.in_ok-self.field-0.items (sym (c.in-Some.ensures ∙ ap above_heads c.as_slice.ensures.value)) c.in_ok-self.ensures.below
    (λ m under.
    c.in_ok-self.ensures.same m under
    ∙ ap (λ v. is_coming (history_of (g.R.Repository.content c.args.repository.now)) c.args.self.now.strict c.args.self.now.low v.items m) c.replace-heads.ensures.value)
