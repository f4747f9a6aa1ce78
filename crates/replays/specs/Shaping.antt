-- What becomes of an entry in a revision that is replayed.
use Rattle.std.specs.{Prelude.{ℕ, ◌-◌, false, not, ◌&&◌, [], Option, Some, None, is_some}, Option.option_or}
use Rattle.svnpath.specs.Paths.{PathValue}
use Rattle.repo_api.specs.{Histories.history_of, Kinds.{is_present, kind_at}, States.RepoState, declared.change.Change.Change, declared.entry.NodeKind.NodeKind}
use Rattle.repo_api.specs.declared.entry.NodeKind.TheVariants as kinds
use Rattle.traces.specs.declared.place.Place.{Place}
use Rattle.replays.specs.{Places.{change_in, followed, has_text, kept, kind_there, place_in, source_in}, declared.ask.ReplayAsk.ReplayAsk}
use Rattle.replays.specs.declared.places.Shape.{Shape}

-- What becomes of an entry that is to be of this kind, that the list has so, and that the client had
-- here: it is deleted where it was there and is not kept.
abbrev pub shape_by : RepoState → ReplayAsk → NodeKind → Option Change → Option Place → Shape
shape_by c ask kind change had =
    let stays = kept c change kind had in
    record {
      kind = kind;
      goes = is_present (kind_there c had) && not (is_some stays);
      source = followed c ask kind (source_in change);
      kept = stays;
      is_listed = is_some change;
      has_text = has_text change;
    }

-- what becomes of the entry at a path of a revision
abbrev pub shape_at : RepoState → ReplayAsk → ℕ → Option Place → PathValue → Shape
shape_at c ask r had q = shape_by c ask (kind_at c r q) (change_in (history_of c r) q) had

-- the root is kept
abbrev pub root_shape : ℕ → Option Change → Shape
root_shape r change = record {
  kind = kinds.Directory;
  goes = false;
  source = None;
  kept = Some (place_in (r - 1) []);
  is_listed = is_some change;
  has_text = has_text change;
}

-- where the client has the entry once it was opened or added, if it has anything of it
abbrev pub base_of : Shape → Option Place
base_of shape = option_or shape.source shape.kept
