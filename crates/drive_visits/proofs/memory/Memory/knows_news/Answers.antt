use Rattle.std.proofs.Common.{sym, ◌∙◌}
use Rattle.drive_visits.proofs.Remembering.{news_known}
use Rattle.drive_visits.proofs.memory.Memory.knows_news.Goals as goal

pub returns-in-Some : goal.returns-in-Some
returns-in-Some g c = λ under t so. news_known t c.args.self.now c.args.path.now c.in-Some.news c.in-Some.is (sym c.is_at_or_under.ensures.value ∙ under) so
