-- Replies, worked by hand from the rules of the protocol.
use Rattle.std.specs.{Prelude.None, Fmt.digits}
use Rattle.std.proofs.Common.{◌≡◌, true, false, List, ℕ, [], ◌∷◌, ◌++◌, Some, codes, refl}
use Rattle.repo_api.specs.declared.change.Action.TheVariants as actions
use Rattle.repo_api.specs.declared.entry.NodeKind.TheVariants as kinds
use Rattle.wire_replies.specs.{Replies.{contents, print}, declared.entries.NodeInfo.NodeInfo, declared.histories.LoggedChange.LoggedChange}
use Rattle.wire_replies.specs.declared.reply.Reply.TheVariants.{Success, FileInfo, DirectoryInfo, Stat, RevisionProperty, LogEntry, Location, FileRevision}
use Rattle.wire_replies.specs.declared.reply.Reply.TheVariants.{ReplayedProperties, FinishReplay, Done, Failures}

-- ---- what is known of a path

pub file_of : List ℕ → NodeInfo
file_of author =
    record {
      kind = kinds.File;
      size = 6;
      has_properties = false;
      created = 1;
      date = Some (codes "1970-01-01T00:00:01.000000Z");
      author = Some author;
    }

pub stat_row : print (Stat (Some (file_of (codes "alice"))) ∷ [])
    ≡ codes "( success ( ( ( file 6 false 1 ( 27:1970-01-01T00:00:01.000000Z ) ( 5:alice ) ) ) ) ) "
unfolding digits file_of
stat_row = refl

pub stat_none_row : print (Stat None ∷ []) ≡ codes "( success ( ( ) ) ) "
stat_none_row = refl

pub directory_row : print (DirectoryInfo (record { revision = 1; properties = []; entries = (codes "a", file_of (codes "bob")) ∷ [] }) ∷ [])
    ≡ codes "( success ( 1 ( ) ( ( 1:a file 6 false 1 ( 27:1970-01-01T00:00:01.000000Z ) ( 3:bob ) ) ) ) ) "
unfolding digits file_of
directory_row = refl

-- ---- a file with its text

pub file_row : print (FileInfo (record { digest = Some (codes "b1946ac92492d2347c6235b4d2611184"); revision = 1; properties = [] }) ∷ contents (codes "hello\n") ++ Success ∷ [])
    ≡ codes "( success ( ( 32:b1946ac92492d2347c6235b4d2611184 ) 1 ( ) ) ) 6:hello\n 0: ( success ( ) ) "
unfolding digits
file_row = refl

pub empty_row : print (contents []) ≡ codes "0: "
unfolding digits
empty_row = refl

-- ---- properties of revisions

pub property_row : print (RevisionProperty (Some (codes "first")) ∷ []) ≡ codes "( success ( ( 5:first ) ) ) "
unfolding digits
property_row = refl

pub no_property_row : print (RevisionProperty None ∷ []) ≡ codes "( success ( ( ) ) ) "
no_property_row = refl

-- ---- histories

pub copied : LoggedChange
copied =
    record {
      path = codes "branch" ∷ [];
      kind = kinds.Directory;
      change = record {
        action = actions.Add;
        text = false;
        properties = false;
        source = Some (record { revision = 3; path = codes "trunk" ∷ [] });
      };
    }

pub changed : LoggedChange
changed =
    record {
      path = codes "branch" ∷ codes "f" ∷ [];
      kind = kinds.File;
      change = record { action = actions.Modify; text = true; properties = false; source = None };
    }

pub log_row : print (LogEntry (record { changes = copied ∷ changed ∷ []; revision = 4; author = Some (codes "alice"); date = Some (codes "1970-01-01T00:00:04.000000Z"); message = Some (codes "copy") }) ∷ [])
    ≡ codes "( ( ( 7:/branch A ( 6:/trunk 3 ) ( 3:dir false false ) ) ( 9:/branch/f M ( ) ( 4:file true false ) ) ) 4 ( 5:alice ) ( 27:1970-01-01T00:00:04.000000Z ) ( 4:copy ) ) "
unfolding digits copied changed
log_row = refl

pub first_log_row : print (LogEntry (record { changes = []; revision = 0; author = None; date = Some (codes "1970-01-01T00:00:00.000000Z"); message = None }) ∷ Done ∷ [])
    ≡ codes "( ( ) 0 ( ) ( 27:1970-01-01T00:00:00.000000Z ) ( ) ) done "
unfolding digits
first_log_row = refl

pub locations_row : print (Location 4 (codes "branch" ∷ codes "g" ∷ []) ∷ Location 3 (codes "trunk" ∷ codes "g" ∷ []) ∷ Done ∷ [])
    ≡ codes "( 4 9:/branch/g ) ( 3 8:/trunk/g ) done "
unfolding digits
locations_row = refl

-- ---- a revision of a file, before its text

pub file_revision_row : print (FileRevision (record { path = codes "trunk" ∷ codes "f" ∷ []; revision = 5; properties = (codes "svn:log", codes "copy") ∷ []; changes = (codes "a", Some (codes "1")) ∷ (codes "b", None) ∷ [] }) ∷ [])
    ≡ codes "( 8:/trunk/f 5 ( ( 7:svn:log 4:copy ) ) ( ( 1:a ( 1:1 ) ) ( 1:b ( ) ) ) false ) "
unfolding digits
file_revision_row = refl

-- ---- a revision that is replayed

pub replay_row : print (ReplayedProperties ((codes "svn:log", codes "copy") ∷ []) ∷ FinishReplay ∷ [])
    ≡ codes "( revprops ( ( 7:svn:log 4:copy ) ) ) ( finish-replay ( ) ) "
unfolding digits
replay_row = refl

-- ---- failures of several links

pub failures_row : print (Failures (record { number = 155017; message = codes "Checksum mismatch"; file = codes "up.c"; line = 12 } ∷ record { number = 155000; message = codes "A/f"; file = []; line = 0 } ∷ []) ∷ [])
    ≡ codes "( failure ( ( 155017 17:Checksum mismatch 4:up.c 12 ) ( 155000 3:A/f 0: 0 ) ) ) "
unfolding digits
failures_row = refl
