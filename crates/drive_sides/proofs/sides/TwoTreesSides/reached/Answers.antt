use Rattle.std.proofs.{Common.{◌∙◌, ap, sym, ⊎_elim}, lemmas.Bool.false≢true}
use Rattle.svnpath.specs.{PathLaws.same_path_refl, Paths.same_path}
use Rattle.drive_sides.proofs.sides.TwoTreesSides.reached.Goals as goal

pub child_place-requires-clause-child : goal.child_place-requires-clause-child
child_place-requires-clause-child g c =
    ⊎_elim (λ same. absurd (false≢true (sym c.if-eq.false ∙ c.eq.ensures ∙ ap (λ q. same_path q c.args.from.now.path) same ∙ same_path_refl c.args.from.now.path))) (λ child. child) c.requires.near
