-- Each text follows from the one before.
use Rattle.std.proofs.{Common.{◌≡◌, ◌≤◌, ℕ, Bool, true, false, List, [], ◌∷◌, length, map, Option, Some, None, refl, ap, ◌∙◌}, lemmas.Bool.false≢true}
use Rattle.std.specs.{Prelude.Ok, List.concat}
use Rattle.svnpath.specs.PathLaws.{same_component_is}
use Rattle.svndiff0.specs.{Document.document_text, Window.limit}
use Rattle.repo_api.specs.{Kinds.text_at, Properties.is_same_value, States.RepoState}
use Rattle.traces.specs.declared.place.Place.{Place}
use Rattle.wire_replies.specs.declared.reply.Reply.TheVariants.{Chunk}
use Rattle.text_deltas.specs.Deltas.{delta_chunks}
use Rattle.wire_deltas.specs.Texts.{text_or_empty}
use Rattle.machine.specs.{FileTexts.{chunk_bytes, Follows, FollowInTurn, text_after}, Histories.{delta_told, has_text_of, text_before}}

same_value : (a b : Option (List ℕ)) → is_same_value a b ≡ true → a ≡ b
same_value None None h = refl
same_value None (Some b) h = absurd (false≢true h)
same_value (Some a) None h = absurd (false≢true h)
same_value (Some a) (Some b) h = ap (λ x. Some x) (same_component_is a b h)

-- the text is the one before
same_text : (c : RepoState) (before : Option Place) (at : Place) → has_text_of c before at ≡ true → text_before c before ≡ text_before c (Some at)
same_text c None at h = absurd (false≢true h)
same_text c (Some before) at h = ap text_or_empty (same_value (text_at c before.revision before.path) (text_at c at.revision at.path) h)

-- the strings of a delta
strings : (chunks : List (List ℕ)) → map chunk_bytes (map Chunk chunks) ≡ chunks
strings [] = refl
strings (bytes ∷ chunks) = ap (λ cs. bytes ∷ cs) (strings chunks)

-- a delta gives each text that is short enough
abbrev AreGiven : Type 0
AreGiven = (before text : List ℕ) → length text ≤ limit → document_text before (concat (delta_chunks before text)) ≡ Ok text

follows : AreGiven → (c : RepoState) (before : Option Place) (at : Place) → Follows c before at
follows given c before at = by (has_text_of c before at) refl
  where
    by : (b : Bool) → has_text_of c before at ≡ b → length (text_before c (Some at)) ≤ limit
        → text_after (text_before c before) (delta_told (has_text_of c before at) (text_before c before) (text_before c (Some at))) ≡ Ok (text_before c (Some at))
    by true is within =
        ap (λ b. text_after (text_before c before) (delta_told b (text_before c before) (text_before c (Some at)))) is
        ∙ ap (λ t. Ok t) (same_text c before at is)
    by false is within =
        ap (λ b. text_after (text_before c before) (delta_told b (text_before c before) (text_before c (Some at)))) is
        ∙ ap (λ cs. document_text (text_before c before) (concat cs)) (strings (delta_chunks (text_before c before) (text_before c (Some at))))
        ∙ given (text_before c before) (text_before c (Some at)) within

pub follow_in_turn : AreGiven → (c : RepoState) (before : Option Place) (places : List Place) → FollowInTurn c before places
follow_in_turn given c before [] = tt
follow_in_turn given c before (at ∷ places) = (follows given c before at, follow_in_turn given c (Some at) places)
