use Rattle.std.proofs.{Common.sym, lemmas.Bool.false≢true}
use Rattle.fsfs_nodes.proofs.Names.{no_uuid}
use Rattle.fsfs_nodes.proofs.identity.parse_uuid.Goals as goal

pub returns-in-Err : goal.returns-in-Err
returns-in-Err c = sym (no_uuid c.args.line.now (λ named. false≢true (c.in-Err.ensures.ok.1 named)))
