-- What a line can say.
use Rattle.std.specs.Prelude.{◌≡◌, ◌<◌, ◌^◌, length, IfSome}
use Rattle.hex.specs.Hex.{IsBytes}
use Rattle.fsfs_text.specs.{declared.id.IdPart.IdPart, declared.id.FileId.FileId, declared.representation.Representation.Representation}

pub record PartFits (part : IdPart) : Type 0 where
  pub number : part.number < 2 ^ 128
  pub revision : IfSome part.revision (λ revision. revision < 2 ^ 32)

pub record IdFits (id : FileId) : Type 0 where
  pub node : PartFits id.node
  pub copy : PartFits id.copy
  pub revision : id.revision < 2 ^ 32
  pub offset : id.offset < 2 ^ 64

pub record RepresentationFits (representation : Representation) : Type 0 where
  pub revision : representation.revision < 2 ^ 32
  pub offset : representation.offset < 2 ^ 64
  pub size : representation.size < 2 ^ 64
  pub whole : length representation.digest ≡ 16
  pub bytes : IsBytes representation.digest
  pub length : representation.length < 2 ^ 64
