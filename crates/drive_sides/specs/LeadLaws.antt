-- What entries are told leads from one tree of a drive to the other.
use Rattle.repo_api.specs.States.{RepoState}
use Rattle.reporter.specs.{Sent.seen_by, Targets.{WholeReport, old_tree, new_tree, stale_in}}
use Rattle.drive_news.proofs.Leading.{news_lead_over}
use Rattle.drive_news.specs.News.{own_steps_of}
use Rattle.drive_visits.specs.Walks.{LeadsOver}

pub news_leads : (c : RepoState) (report : WholeReport)
    → LeadsOver (seen_by report.ask.purpose) (old_tree c report) (new_tree c report)
    (own_steps_of c report)
news_leads c report =
    news_lead_over c report.ask.purpose (stale_in c report) (old_tree c report)
    (new_tree c report)
