use Rattle.flatrepo.proofs.repository.conflict_in.Goals as goal

pub returns : goal.returns
returns c = rw (c.tree-base.ensures, c.tree-newest.ensures, c.youngest.ensures) at c.conflict.ensures
