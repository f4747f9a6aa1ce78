use Rattle.std.proofs.{Common.{◌≡◌, ◌∙◌, sym, subst, rules, [], ◌∷◌}, lemmas.Option.slice_get-get_or}
use Rattle.access.specs.Points.{content_of}
use Rattle.published.specs.{Events.{Known, knowing, point_of}, Events.Event.Opened}
use Rattle.repo_api.specs.Soundness.{AreSound}
use Rattle.keepers.specs.Standing.{HaveSeenOpening}
use Rattle.filed_archive.proofs.sharing.share.Goals as goal

pub returns-in_ok-open-in-Ok-clause-opened : goal.returns-in_ok-open-in-Ok-clause-opened
returns-in_ok-open-in-Ok-clause-opened g c =
    let same : g.F.Repository.content c.in-Ok.repository ≡ g.F.Repository.content c.args.stored.repository = search rules in
    let opened : HaveSeenOpening (g.F.Repository.content c.args.stored.repository) (g.S.Store.failed c.args.stored.saves.store) _ = λ n seat there.
    c.in_ok-open-in-Ok.ensures n seat there
    ∙ (λ i. knowing n (Opened (same i) (g.S.Store.failed (c.new-archive.ensures.saves i).store) ∷ [])) in
    (opened, λ k d less. subst (λ (s : Known). AreSound (content_of (point_of s)).revisions) (sym (opened k _ (slice_get-get_or _ k d less))) c.requires.sound)
