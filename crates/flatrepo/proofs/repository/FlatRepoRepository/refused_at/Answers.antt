use Rattle.flatrepo.proofs.repository.FlatRepoRepository.refused_at.Goals as goal

pub returns : goal.returns
returns c = rw (c.deref.ensures, c.deref-2.ensures) at c.refused_at.ensures
