-- The number and the text of each refusal, and whether a message says a path with it.
use Rattle.std.specs.Prelude.{ℕ, Bool, true, false, List, codes}
use Rattle.refusals.specs.declared.Refusal.{Refusal}
use Rattle.refusals.specs.declared.Refusal.TheVariants as refusals

abbrev pub refusal_number : Refusal → ℕ
refusal_number refusals.NotADate = 125005
refusal_number refusals.NotDeleted = 150003
refusal_number refusals.StoreFailed = 160000
refusal_number refusals.BadPath = 160005
refusal_number refusals.NoSuchRevision = 160006
refusal_number refusals.NotFound = 160013
refusal_number refusals.NotADirectory = 160016
refusal_number refusals.NotAFile = 160017
refusal_number refusals.AlreadyExists = 160020
refusal_number refusals.Conflict = 160024
refusal_number refusals.OutOfDate = 160028
refusal_number refusals.NoUser = 160034
refusal_number refusals.AlreadyLocked = 160035
refusal_number refusals.BadLockToken = 160037
refusal_number refusals.NotTheLockOwner = 160039
refusal_number refusals.NoSuchLock = 160040
refusal_number refusals.LockOutOfDate = 160042
refusal_number refusals.PreviousValueDiffers = 160049
refusal_number refusals.RevisionPropertiesClosed = 165006
refusal_number refusals.NotAuthorized = 170001
refusal_number refusals.BadSvndiff = 185001
refusal_number refusals.NotSupported = 200007
refusal_number refusals.ChecksumMismatch = 200014
refusal_number refusals.UnknownCommand = 210001
refusal_number refusals.MalformedData = 210004
refusal_number refusals.NoSuchRepository = 210005
refusal_number refusals.EditAborted = 210008

abbrev pub refusal_text : Refusal → List ℕ
refusal_text refusals.NotADate = codes "not a date"
refusal_text refusals.NotDeleted = codes "not deleted"
refusal_text refusals.StoreFailed = codes "store failed"
refusal_text refusals.BadPath = codes "bad path"
refusal_text refusals.NoSuchRevision = codes "no such revision"
refusal_text refusals.NotFound = codes "not found"
refusal_text refusals.NotADirectory = codes "not a directory"
refusal_text refusals.NotAFile = codes "not a file"
refusal_text refusals.AlreadyExists = codes "already exists"
refusal_text refusals.Conflict = codes "conflict"
refusal_text refusals.OutOfDate = codes "out of date"
refusal_text refusals.NoUser = codes "no user"
refusal_text refusals.AlreadyLocked = codes "already locked"
refusal_text refusals.BadLockToken = codes "bad lock token"
refusal_text refusals.NotTheLockOwner = codes "not the lock owner"
refusal_text refusals.NoSuchLock = codes "no such lock"
refusal_text refusals.LockOutOfDate = codes "lock out of date"
refusal_text refusals.PreviousValueDiffers = codes "previous value differs"
refusal_text refusals.RevisionPropertiesClosed = codes "revision properties are closed"
refusal_text refusals.NotAuthorized = codes "not authorized"
refusal_text refusals.BadSvndiff = codes "bad svndiff"
refusal_text refusals.NotSupported = codes "not supported"
refusal_text refusals.ChecksumMismatch = codes "checksum mismatch"
refusal_text refusals.UnknownCommand = codes "unknown command"
refusal_text refusals.MalformedData = codes "malformed data"
refusal_text refusals.NoSuchRepository = codes "no such repository"
refusal_text refusals.EditAborted = codes "edit aborted"

-- whether the message of a refusal says the path at which a command is refused
abbrev pub says_path : Refusal → Bool
says_path refusals.NotFound = true
says_path refusals.NotADirectory = true
says_path refusals.NotAFile = true
says_path refusals.AlreadyExists = true
says_path refusals.Conflict = true
says_path refusals.OutOfDate = true
says_path refusals.NoUser = true
says_path refusals.AlreadyLocked = true
says_path refusals.BadLockToken = true
says_path refusals.NotTheLockOwner = true
says_path refusals.NoSuchLock = true
says_path refusals.LockOutOfDate = true
says_path _ = false
