-- What is told of the root.
use Rattle.std.proofs.Common.{◌≡◌, false, [], sym, ap, ◌∙◌, if◌then◌else◌}
use Rattle.svnpath.specs.Paths.{same_path}
use Rattle.repo_api.specs.States.{RepoState}
use Rattle.drive_rules.specs.Steps.EntryKind.{DirectoryKind}
use Rattle.reporter.specs.Targets.{WholeReport}
use Rattle.drive_news.specs.declared.news.News.{News}
use Rattle.drive_sending.specs.{Commands.{news_commands, news_told, root_commands}, Tokens.token_of}

-- without a target the root is told its news
pub root_told : (c : RepoState) (report : WholeReport) (news : News) → report.ask.target ≡ [] → news ≡ news_told c report report.ask.target false
    → news_commands report.ask.purpose DirectoryKind (token_of DirectoryKind 0) [] news ≡ root_commands c report
root_told c report news none is =
    ap (news_commands report.ask.purpose DirectoryKind (token_of DirectoryKind 0) []) (is ∙ ap (λ t. news_told c report t false) none)
    ∙ sym (ap (λ b. if b then news_commands report.ask.purpose DirectoryKind (token_of DirectoryKind 0) [] (news_told c report [] false) else []) (ap (λ t. same_path t []) none))
