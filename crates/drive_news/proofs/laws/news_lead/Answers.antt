use Rattle.reporter.specs.Targets.{old_tree, new_tree, stale_in}
use Rattle.drive_news.proofs.Leading.{news_lead_over}
use Rattle.drive_news.proofs.laws.news_lead.Goals as goal

pub returns : goal.returns
returns c = λ state report. news_lead_over state report.ask.purpose (stale_in state report) (old_tree state report) (new_tree state report)
