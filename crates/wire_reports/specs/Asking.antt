-- What an update, a switch, a status or a diff asks for, as the items that spell it.
use Rattle.std.specs.{Prelude.{ℕ, Bool, true, false, List, Option, Some, None}, Option.option_map_or}
use Rattle.items.specs.Values.{ItemValues, none, more}
use Rattle.wire_forms.specs.Forms.{◌>>=◌, string_first, flag_first, revision_first}
use Rattle.wire_reports.specs.{Depths.{depth_first, depth_at_end}, declared.asking.DiffRequest.DiffRequest, declared.asking.DriveRequest.DriveRequest}
use Rattle.wire_reports.specs.declared.depth_word.DepthWord.{DepthWord}

-- what the first of these items says, if it is the word `true` or `false`, and this otherwise
abbrev pub flag_or : Bool → ItemValues → Bool
flag_or otherwise items =
    option_map_or (λ (first : Bool × ItemValues). first.0) (flag_first items) otherwise

-- what stands behind the first item, if there is one
abbrev pub after_first : ItemValues → ItemValues
after_first none = none
after_first (more item rest) = rest

-- `? depth send-copyfrom ignore-ancestry`: nothing, or the depth, and whether ancestry is ignored.
-- No copies are sent, whatever is said of them; where nothing is said of ancestry it counts.
abbrev pub update_at_end : ItemValues → Option (Option DepthWord × Bool)
update_at_end none = Some (None, false)
update_at_end items = do
  (depth, rest) ← depth_first items
  (copies, rest) ← flag_first rest
  Some (Some depth, flag_or false rest)

-- `( [ rev ] target recurse ? depth send-copyfrom ignore-ancestry )`
abbrev pub update : ItemValues → Option DriveRequest
update params = do
  (revision, rest) ← revision_first params
  (target, rest) ← string_first rest
  (recurse, rest) ← flag_first rest
  (depth, ignores_ancestry) ← update_at_end rest
  Some (record {
    revision = revision;
    target = target;
    recurse = recurse;
    depth = depth;
    ignores_ancestry = ignores_ancestry;
  })

-- `? depth send-copyfrom ignore-ancestry`: nothing, or the depth, and whether ancestry is ignored.
-- A client that says nothing of ancestry ignores it in a switch.
abbrev pub switch_at_end : ItemValues → Option (Option DepthWord × Bool)
switch_at_end none = Some (None, true)
switch_at_end items = do
  (depth, rest) ← depth_first items
  Some (Some depth, flag_or true (after_first rest))

-- `( [ rev ] target recurse url ? depth send-copyfrom ignore-ancestry )`: what is asked for, and
-- the URL
abbrev pub switch : ItemValues → Option (DriveRequest × List ℕ)
switch params = do
  (revision, rest) ← revision_first params
  (target, rest) ← string_first rest
  (recurse, rest) ← flag_first rest
  (url, rest) ← string_first rest
  (depth, ignores_ancestry) ← switch_at_end rest
  Some (
    record {
      revision = revision;
      target = target;
      recurse = recurse;
      depth = depth;
      ignores_ancestry = ignores_ancestry;
    },
    url,
  )

-- `? [ rev ]`: nothing, or a list with a revision, if there is one; and what stands behind it
abbrev pub revision_behind : ItemValues → Option (Option ℕ × ItemValues)
revision_behind none = Some (None, none)
revision_behind items = revision_first items

-- `( target recurse ? [ rev ] ? depth )`: ancestry counts
abbrev pub status : ItemValues → Option DriveRequest
status params = do
  (target, rest) ← string_first params
  (recurse, rest) ← flag_first rest
  (revision, rest) ← revision_behind rest
  depth ← depth_at_end rest
  Some (record {
    revision = revision;
    target = target;
    recurse = recurse;
    depth = depth;
    ignores_ancestry = false;
  })

-- `? text-deltas ? depth`: nothing, or whether texts are sent, and a depth, if there is one. Where
-- nothing is said of texts they are sent.
abbrev pub diff_at_end : ItemValues → Option (Bool × Option DepthWord)
diff_at_end none = Some (true, None)
diff_at_end items = do
  (sends_texts, rest) ← flag_first items
  depth ← depth_at_end rest
  Some (sends_texts, depth)

-- `( [ rev ] target recurse ignore-ancestry url ? text-deltas ? depth )`
abbrev pub diff : ItemValues → Option DiffRequest
diff params = do
  (revision, rest) ← revision_first params
  (target, rest) ← string_first rest
  (recurse, rest) ← flag_first rest
  (ignores_ancestry, rest) ← flag_first rest
  (url, rest) ← string_first rest
  (sends_texts, depth) ← diff_at_end rest
  Some (record {
    drive = record {
      revision = revision;
      target = target;
      recurse = recurse;
      depth = depth;
      ignores_ancestry = ignores_ancestry;
    };
    url = url;
    sends_texts = sends_texts;
  })
