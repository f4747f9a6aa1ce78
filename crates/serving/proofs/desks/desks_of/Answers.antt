use Rattle.std.proofs.Common.{sym, subst}
use Rattle.std.specs.Prelude.{All}
use Rattle.access.specs.Points.{content_of}
use Rattle.published.specs.Events.{Known, point_of}
use Rattle.repo_api.specs.Soundness.{AreSound}
use Rattle.keepers.specs.Standing.{HaveSeenOpening}
use Rattle.serving.proofs.Mapped.{all_mapped}
use Rattle.serving.proofs.desks.desks_of.Goals as goal

pub returns-clause-opened : goal.returns-clause-opened
returns-clause-opened g c =
    subst
    (HaveSeenOpening (g.F.Repository.content c.args.stored.repository) (g.S.Store.failed c.args.stored.saves.store))
    (sym c.in_ok-desks.ensures) c.in_ok-repository.ensures.opened.0

pub returns-clause-sound : goal.returns-clause-sound
returns-clause-sound g c =
    all_mapped (λ (s : Known). AreSound (content_of (point_of s)).revisions) c.in_ok-desks.desks.items (λ d. d.seat)
    (subst (All (λ (s : Known). AreSound (content_of (point_of s)).revisions)) (sym c.in_ok-desks.ensures) c.in_ok-repository.ensures.opened.1)
