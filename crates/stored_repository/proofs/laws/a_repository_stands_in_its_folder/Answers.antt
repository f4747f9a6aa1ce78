use Rattle.stored_repository.proofs.Alone.{alone, stands}
use Rattle.stored_repository.proofs.laws.a_repository_stands_in_its_folder.Goals as goal

pub returns-clause-stands : goal.returns-clause-stands
returns-clause-stands g c =
    stands g.F.Repository.content g.F.Filed.is_of g.F.Filed.stands_for g.met.F.Filed.is_state g.met.F.Filed.one_state

pub returns-clause-alone : goal.returns-clause-alone
returns-clause-alone g c =
    alone g.F.Repository.content g.F.Filed.is_of g.F.Filed.stands_for g.met.F.Filed.is_state g.met.F.Filed.one_state
