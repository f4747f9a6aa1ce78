-- A record owns nothing, so threads may share it.
use denote.Param.Send.{IsSync, part_keyless}
use Rattle.store_files.specs.contracts.record.Record.{the_row}
use Rattle.store_files.proofs.record.Record.TheSendSync.Send.{send}

pub sync : IsSync the_row
sync = record { shared = λ d b o κ q. part_keyless the_row send q d b o }
