-- The commands of an entry, by what becomes of it.
use Rattle.std.proofs.Common.{◌≡◌, ℕ, suc, Bool, true, false, ◌||◌, not, List, [], ◌∷◌, ◌++◌, Option, is_some, refl, sym, ap, ◌∙◌, append-nil, append_assoc}
use Rattle.std.proofs.{Common.if◌then◌else◌, lemmas.Bool.false≢true}
use Rattle.std.specs.Prelude.{Err, IfOk, None, Ok, Result}
use Rattle.svnpath.specs.{Paths.PathValue, declared.component.TheConstants.DEPTH_LIMIT}
use Rattle.repo_api.specs.{Histories.history_of, Kinds.{is_directory_kind, is_present}, States.RepoState}
use Rattle.traces.specs.declared.place.Place.{Place}
use Rattle.wire_edits.specs.{declared.editing.EditorCommand.EditorCommand, declared.editing.EditorCommand.TheVariants.OpenRoot}
use Rattle.replays.specs.Commands.{add_command, close_command, delete_command, is_empty, open_command, own_commands, token_of}
use Rattle.replays.specs.Edits.{below, body_of, entry_commands, Inside, inside_commands, is_named, root_commands, standing_commands}
use Rattle.replays.specs.{Places.{change_in, is_in_part, place_in}, Shaping.{base_of, root_shape, shape_at}, declared.ask.ReplayAsk.ReplayAsk}
use Rattle.replays.specs.declared.places.Shape.{Shape}
use Rattle.replays.proofs.Quiet.{entry_of}

pub chosen : {X : Type 0} (b : Bool) (x y : X) → b ≡ true → (if b then x else y) ≡ x
chosen b x y is = ap (λ t. if t then x else y) is

pub passed : {X : Type 0} (b : Bool) (x y : X) → b ≡ false → (if b then x else y) ≡ y
passed b x y is = ap (λ t. if t then x else y) is

-- whether there are commands
abbrev pub some_said : List EditorCommand → Bool
some_said xs = not (is_empty xs)

module _ (c : RepoState) (ask : ReplayAsk) (r : ℕ) (q : PathValue) (inside : Inside) where
  -- what comes before an entry that is to be there
  abbrev pub gone_of : Shape → List EditorCommand
  gone_of shape = if shape.goes then delete_command q ∷ [] else []

  abbrev come_of : Shape → List EditorCommand
  come_of shape = if is_present shape.kind then standing_commands c ask r shape q inside else []

  entry_said : (had : Option Place) (shape : Shape) → is_in_part ask q ≡ true → shape ≡ shape_at c ask r had q
      → entry_commands c ask r had q inside ≡ gone_of shape ++ come_of shape
  entry_said had shape part is =
      ap (entry_of c ask r q inside) (sym is) ∙ chosen (is_in_part ask q) (gone_of shape ++ come_of shape) [] part

  -- an entry that is to be there, behind what goes
  pub entry_there : (had : Option Place) (shape : Shape) → is_in_part ask q ≡ true → shape ≡ shape_at c ask r had q → is_present shape.kind ≡ true
      → entry_commands c ask r had q inside ≡ gone_of shape ++ standing_commands c ask r shape q inside
  entry_there had shape part is there =
      entry_said had shape part is ∙ ap (λ xs. gone_of shape ++ xs) (chosen (is_present shape.kind) (standing_commands c ask r shape q inside) [] there)

  -- ---- an entry that is to be there

  -- the client keeps nothing: it is added
  pub standing_added : (shape : Shape) → is_some shape.kept ≡ false
      → standing_commands c ask r shape q inside ≡ add_command (is_directory_kind shape.kind) q shape.source ∷ inside_commands c ask r shape q inside
  standing_added shape new =
      passed (is_some shape.kept)
      (if is_named c ask r shape q inside then open_command (is_directory_kind shape.kind) q ∷ inside_commands c ask r shape q inside else [])
      (add_command (is_directory_kind shape.kind) q shape.source ∷ inside_commands c ask r shape q inside) new

  -- the client keeps it: it is opened where it is named
  pub standing_kept : (shape : Shape) → is_some shape.kept ≡ true
      → standing_commands c ask r shape q inside ≡ (if is_named c ask r shape q inside then open_command (is_directory_kind shape.kind) q ∷ inside_commands c ask r shape q inside else [])
  standing_kept shape kept =
      chosen (is_some shape.kept)
      (if is_named c ask r shape q inside then open_command (is_directory_kind shape.kind) q ∷ inside_commands c ask r shape q inside else [])
      (add_command (is_directory_kind shape.kind) q shape.source ∷ inside_commands c ask r shape q inside) kept

  -- ---- what is told of it

  abbrev pub own_of : Shape → List EditorCommand
  own_of shape = own_commands c ask (is_directory_kind shape.kind) shape.has_text (base_of shape) (place_in r q)

  pub inside_file : (shape : Shape) → is_directory_kind shape.kind ≡ false → inside_commands c ask r shape q inside ≡ own_of shape ++ close_command c false (place_in r q) ∷ []
  inside_file shape is =
      ap (λ b. (own_of shape ++ (if b then inside (base_of shape) q else [])) ++ close_command c b (place_in r q) ∷ []) is
      ∙ ap (λ xs. xs ++ close_command c false (place_in r q) ∷ []) (append-nil (own_of shape))

  pub inside_directory : (shape : Shape) → is_directory_kind shape.kind ≡ true
      → inside_commands c ask r shape q inside ≡ own_of shape ++ (inside (base_of shape) q ++ close_command c true (place_in r q) ∷ [])
  inside_directory shape is =
      ap (λ b. (own_of shape ++ (if b then inside (base_of shape) q else [])) ++ close_command c b (place_in r q) ∷ []) is
      ∙ append_assoc (own_of shape) (inside (base_of shape) q) (close_command c true (place_in r q) ∷ [])

  -- ---- whether it is named

  unlisted : (shape : Shape) → shape.is_listed ≡ false → is_named c ask r shape q inside ≡ some_said (body_of c ask r shape q inside)
  unlisted shape out = ap (λ b. b || some_said (body_of c ask r shape q inside)) out

  then_said : (xs ys : List EditorCommand) → some_said xs ≡ false → some_said (xs ++ ys) ≡ some_said ys
  then_said [] ys h = refl
  then_said (x ∷ xs) ys h = absurd (false≢true (sym h))

  abbrev beneath_of : Shape → List EditorCommand
  beneath_of shape = if is_directory_kind shape.kind then inside (base_of shape) q else []

  -- a directory of which nothing is told itself is named where something is said beneath it
  named_beneath : (shape : Shape) → shape.is_listed ≡ false → some_said (own_of shape) ≡ false → is_directory_kind shape.kind ≡ true
      → is_named c ask r shape q inside ≡ some_said (inside (base_of shape) q)
  named_beneath shape out own directory =
      unlisted shape out ∙ then_said (own_of shape) (beneath_of shape) own ∙ ap some_said (chosen (is_directory_kind shape.kind) (inside (base_of shape) q) [] directory)

-- ---- what calls found

module _ {E : Type 0} (found : Result Bool E) (c : RepoState) (ask : ReplayAsk) (r levels n : ℕ) (had place : Option Place) (from q : PathValue)
    (as_deep : levels ≡ n) (is_place : had ≡ place) (is_path : from ≡ q) where
  -- whether something is said of an entry, by what is known of it
  pub found_entry : IfOk found (λ has. has ≡ some_said (entry_commands c ask r had from (below levels c ask r)))
      → IfOk found (λ has. has ≡ some_said (entry_commands c ask r place q (below n c ask r)))
  found_entry is = by found is
    where
      by : (f : Result Bool E) → IfOk f (λ has. has ≡ some_said (entry_commands c ask r had from (below levels c ask r)))
          → IfOk f (λ has. has ≡ some_said (entry_commands c ask r place q (below n c ask r)))
      by (Ok has) so =
          so ∙ ap (λ k. some_said (entry_commands c ask r had from (below k c ask r))) as_deep
          ∙ ap (λ at. some_said (entry_commands c ask r at from (below n c ask r))) is_place
          ∙ ap (λ p. some_said (entry_commands c ask r place p (below n c ask r))) is_path
      by (Err e) so = tt

  -- whether a directory is named
  pub found_beneath : (shape : Shape) → place ≡ base_of shape → shape.is_listed ≡ false → some_said (own_of c ask r q (below n c ask r) shape) ≡ false
      → is_directory_kind shape.kind ≡ true → IfOk found (λ has. has ≡ some_said (below levels c ask r had from))
      → IfOk found (λ named. named ≡ is_named c ask r shape q (below n c ask r))
  found_beneath shape base out own directory is = by found is
    where
      by : (f : Result Bool E) → IfOk f (λ has. has ≡ some_said (below levels c ask r had from)) → IfOk f (λ named. named ≡ is_named c ask r shape q (below n c ask r))
      by (Ok has) so =
          so ∙ ap (λ k. some_said (below k c ask r had from)) as_deep
          ∙ ap (λ at. some_said (below n c ask r at from)) (is_place ∙ base)
          ∙ ap (λ p. some_said (below n c ask r (base_of shape) p)) is_path
          ∙ sym (named_beneath c ask r q (below n c ask r) shape out own directory)
      by (Err e) so = tt

-- ---- the root

abbrev root_of : RepoState → ReplayAsk → ℕ → Shape → PathValue → ℕ → List EditorCommand
root_of c ask r shape path levels =
    if is_named c ask r shape path (below levels c ask r)
    then OpenRoot None (token_of true 0) ∷ inside_commands c ask r shape path (below levels c ask r)
    else []

module _ (c : RepoState) (ask : ReplayAsk) (r : ℕ) (shape : Shape) (path : PathValue) (levels : ℕ) (at_root : path ≡ []) (deep : levels ≡ suc DEPTH_LIMIT)
    (is : shape ≡ root_shape r (change_in (history_of c r) [])) where
  root_is : root_commands c ask r ≡ root_of c ask r shape path levels
  root_is =
      sym (ap (λ s. root_of c ask r s path levels) is
      ∙ ap (λ p. root_of c ask r (root_shape r (change_in (history_of c r) [])) p levels) at_root
      ∙ ap (λ n. root_of c ask r (root_shape r (change_in (history_of c r) [])) [] n) deep)

  pub root_opened : is_named c ask r shape path (below levels c ask r) ≡ true
      → root_commands c ask r ≡ OpenRoot None (token_of true 0) ∷ inside_commands c ask r shape path (below levels c ask r)
  root_opened named =
      root_is ∙ chosen (is_named c ask r shape path (below levels c ask r)) (OpenRoot None (token_of true 0) ∷ inside_commands c ask r shape path (below levels c ask r)) [] named

  pub root_silent : is_named c ask r shape path (below levels c ask r) ≡ false → root_commands c ask r ≡ []
  root_silent silent =
      root_is ∙ passed (is_named c ask r shape path (below levels c ask r)) (OpenRoot None (token_of true 0) ∷ inside_commands c ask r shape path (below levels c ask r)) [] silent
