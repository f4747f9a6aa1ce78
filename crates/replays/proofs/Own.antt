-- What is told of an entry itself, as it is written.
use Rattle.std.proofs.Common.{◌≡◌, ℕ, Bool, true, false, not, ◌&&◌, List, [], ◌∷◌, ◌++◌, length, map, Option, Some, None, refl, sym, ap, subst, ◌∙◌}
use Rattle.std.specs.Prelude.{is_some, Result}
use Rattle.repo_api.specs.{Kinds.text_at, States.RepoState}
use Rattle.traces.specs.declared.place.Place.{Place}
use Rattle.file_histories.specs.Differing.{differing}
use Rattle.wire_replies.specs.Sinks.{WritesPart, Writes}
use Rattle.replays.specs.Commands.{changes_sent, is_empty, own_commands, properties_there, property_command, text_there, text_told_commands, token_of}
use Rattle.replays.specs.{Commands.told_if_other, Sending.command_bytes, declared.ask.ReplayAsk.ReplayAsk}
use Rattle.replays.proofs.Written.{first_part, sent_behind}

-- the changes of properties that are to be sent, and the text
abbrev pub due_changes : RepoState → ReplayAsk → Option Place → Place → List (List ℕ × Option (List ℕ))
due_changes c ask base at = changes_sent ask.sends_deltas (differing (properties_there c base) (properties_there c (Some at)))

abbrev pub due_text : RepoState → Bool → Option Place → Place → Option (List ℕ)
due_text c listed base at = told_if_other listed (text_there c base) (text_at c at.revision at.path)

own_is : (c : RepoState) (ask : ReplayAsk) (d e listed : Bool) (base : Option Place) (at : Place) (token : List ℕ) (changes : List (List ℕ × Option (List ℕ))) (told : Option (List ℕ))
    → d ≡ e → token ≡ token_of e (length at.path) → changes ≡ due_changes c ask base at → told ≡ due_text c listed base at
    → map (property_command d token) changes ++ text_told_commands ask.sends_deltas token (text_there c base) told ≡ own_commands c ask e listed base at
own_is c ask d e listed base at token changes told kind named differ text = λ i.
    map (property_command (kind i) (named i)) (differ i) ++ text_told_commands ask.sends_deltas (named i) (text_there c base) (text i)

module _ {S : Type 0} (writes : S → S → List ℕ → Type 0) (more : (s t u : S) (first second : List ℕ) → writes s t first → writes t u second → writes s u (first ++ second)) where
  -- the changes were written, and the text as far as it was
  pub own_sent : {T E : Type 0} (r : Result T E) (s t u : S) (c : RepoState) (ask : ReplayAsk) (d e listed : Bool) (base : Option Place) (at : Place) (token : List ℕ)
      (changes : List (List ℕ × Option (List ℕ))) (told : Option (List ℕ)) (before : List ℕ) → d ≡ e → token ≡ token_of e (length at.path) → changes ≡ due_changes c ask base at
      → told ≡ due_text c listed base at → before ≡ text_there c base → writes s t (command_bytes (map (property_command d token) changes))
      → Writes r (writes t u) (command_bytes (text_told_commands ask.sends_deltas token before told))
      → Writes r (writes s u) (command_bytes (own_commands c ask e listed base at))
  own_sent r s t u c ask d e listed base at token changes told before kind named differ text had first second =
      subst (λ xs. Writes r (writes s u) (command_bytes xs)) (own_is c ask d e listed base at token changes told kind named differ text)
      (sent_behind writes more r s t u (map (property_command d token) changes) (text_told_commands ask.sends_deltas token (text_there c base) told) first
      (subst (λ b. Writes r (writes t u) (command_bytes (text_told_commands ask.sends_deltas token b told))) had second))

  -- a part of the changes was written
  pub own_part : (s t : S) (c : RepoState) (ask : ReplayAsk) (d e listed : Bool) (base : Option Place) (at : Place) (token : List ℕ) (changes : List (List ℕ × Option (List ℕ)))
      → d ≡ e → token ≡ token_of e (length at.path) → changes ≡ due_changes c ask base at → WritesPart (writes s t) (command_bytes (map (property_command d token) changes))
      → WritesPart (writes s t) (command_bytes (own_commands c ask e listed base at))
  own_part s t c ask d e listed base at token changes kind named differ part =
      subst (λ xs. WritesPart (writes s t) (command_bytes xs))
      (own_is c ask d e listed base at token changes (due_text c listed base at) kind named differ refl)
      (first_part (writes s t) (map (property_command d token) changes) (text_told_commands ask.sends_deltas token (text_there c base) (due_text c listed base at)) part)

-- ---- whether anything is told

pub empty_append : {A : Type 0} (xs ys : List A) → is_empty (xs ++ ys) ≡ (is_empty xs && is_empty ys)
empty_append [] ys = refl
empty_append (x ∷ xs) ys = refl

pub empty_map : {A B : Type 0} (f : A → B) (xs : List A) → is_empty (map f xs) ≡ is_empty xs
empty_map f [] = refl
empty_map f (x ∷ xs) = refl

empty_told : (sends : Bool) (token before : List ℕ) (told : Option (List ℕ)) → is_empty (text_told_commands sends token before told) ≡ not (is_some told)
empty_told sends token before None = refl
empty_told true token before (Some text) = refl
empty_told false token before (Some text) = refl

own_empty : (c : RepoState) (ask : ReplayAsk) (d listed : Bool) (base : Option Place) (at : Place)
    → is_empty (own_commands c ask d listed base at) ≡ (is_empty (due_changes c ask base at) && not (is_some (due_text c listed base at)))
own_empty c ask d listed base at =
    empty_append (map (property_command d (token_of d (length at.path))) (due_changes c ask base at))
    (text_told_commands ask.sends_deltas (token_of d (length at.path)) (text_there c base) (due_text c listed base at))
    ∙ (λ i. empty_map (property_command d (token_of d (length at.path))) (due_changes c ask base at) i
    && empty_told ask.sends_deltas (token_of d (length at.path)) (text_there c base) (due_text c listed base at) i)

not_both : (a : Bool) → not (a && false) ≡ true
not_both true = refl
not_both false = refl

first_alone : (a : Bool) → (a && true) ≡ a
first_alone true = refl
first_alone false = refl

-- where a text is told, something is
pub news_by_text : (c : RepoState) (ask : ReplayAsk) (d listed : Bool) (base : Option Place) (at : Place) (told : Option (List ℕ)) → told ≡ due_text c listed base at → is_some told ≡ true
    → true ≡ not (is_empty (own_commands c ask d listed base at))
news_by_text c ask d listed base at told text some =
    sym (ap not (own_empty c ask d listed base at)
    ∙ ap (λ b. not (is_empty (due_changes c ask base at) && not b)) (ap is_some (sym text) ∙ some)
    ∙ not_both (is_empty (due_changes c ask base at)))

-- where none is, changes of properties tell
pub news_by_changes : (c : RepoState) (ask : ReplayAsk) (d listed : Bool) (base : Option Place) (at : Place) (told : Option (List ℕ)) (changes : List (List ℕ × Option (List ℕ)))
    → told ≡ due_text c listed base at → is_some told ≡ false → changes ≡ due_changes c ask base at → not (is_empty changes) ≡ not (is_empty (own_commands c ask d listed base at))
news_by_changes c ask d listed base at told changes text none differ =
    sym (ap not (own_empty c ask d listed base at)
    ∙ ap (λ b. not (is_empty (due_changes c ask base at) && not b)) (ap is_some (sym text) ∙ none)
    ∙ ap not (first_alone (is_empty (due_changes c ask base at)))
    ∙ ap (λ xs. not (is_empty xs)) (sym differ))
