use Rattle.std.proofs.Common.{◌≡◌, true, sym, subst, ◌∙◌}
use Rattle.svnpath.specs.{PathLaws.{same_path_is, same_path_refl}, Paths.same_path}
use Rattle.block_rules.proofs.kids.is_same_path.Goals as goal

pub returns : goal.returns
returns c = (
  λ e. same_path_is c.args.path.now c.args.other.now (sym c.eq.ensures ∙ e),
  λ same. c.eq.ensures ∙ subst (λ q. same_path c.args.path.now q ≡ true) same (same_path_refl c.args.path.now),
)
