-- What a writer's commands say: the properties of what is open, a text, and an entry from its opening to its close.
use Rattle.std.proofs.Common.{◌≡◌, ℕ, true, false, not, List, [], ◌∷◌, ◌++◌, map, Option, Some, None, refl, ap, ◌∙◌, subst, if◌then◌else◌}
use Rattle.std.proofs.lemmas.List.{append-nil, append_assoc}
use Rattle.std.specs.Prelude.{Ok}
use Rattle.svnpath.specs.{PathLaws.same_component_refl, Paths.PathValue}
use Rattle.svndiff0.specs.Document.{document_text}
use Rattle.wire_forms.specs.Forms.{is_name}
use Rattle.wire_edits.specs.{declared.editing.EditorCommand.EditorCommand, declared.editing.EditorCommand.TheVariants.ChangeDirectoryProperty}
use Rattle.wire_edits.specs.declared.editing.EditorCommand.TheVariants.{ChangeFileProperty, ApplyTextDelta, TextDeltaChunk, TextDeltaEnd, CloseDirectory}
use Rattle.drive_rules.specs.{Steps.{EntryKind, Step}, Steps.EntryKind.{DirectoryKind, FileKind}, Steps.Step.{PropertyAt, TextAt}}
use Rattle.drive_rules.proofs.Joined.{and_both}
use Rattle.reporter.specs.declared.ask.Purpose.{Purpose}
use Rattle.reporter.specs.Saying.{OpenEntry, TextState, Says, steps_said, same_kind, is_sent_delta, text_received, enters_entry, is_in_place, is_open_token}
use Rattle.reporter.specs.Saying.TextState.{Unchanged, Receiving, Received}
use Rattle.reporter.proofs.Joining.{says_append}

same_kinds : (k : EntryKind) → same_kind k k ≡ true
same_kinds DirectoryKind = refl
same_kinds FileKind = refl

-- a property of what is open
abbrev pub property_command : EntryKind → List ℕ → List ℕ × Option (List ℕ) → EditorCommand
property_command DirectoryKind token c = ChangeDirectoryProperty (record { token = token; name = c.0; value = c.1 })
property_command FileKind token c = ChangeFileProperty (record { token = token; name = c.0; value = c.1 })

reads_property : (purpose : Purpose) (top : PathValue) (base : PathValue → List ℕ) (h : OpenEntry) (hs : List OpenEntry) (c : List ℕ × Option (List ℕ)) (k : EntryKind) → same_kind k h.kind ≡ true
    → steps_said purpose top base (h ∷ hs) (property_command k h.token c) ≡ Some (PropertyAt h.path c.0 c.1 ∷ [], h ∷ hs)
reads_property purpose top base h hs c DirectoryKind e = ap (λ b. if b then Some (PropertyAt h.path c.0 c.1 ∷ [], h ∷ hs) else None) (and_both (is_name h.token h.token) (same_kind DirectoryKind h.kind) (same_component_refl h.token) e)
reads_property purpose top base h hs c FileKind e = ap (λ b. if b then Some (PropertyAt h.path c.0 c.1 ∷ [], h ∷ hs) else None) (and_both (is_name h.token h.token) (same_kind FileKind h.kind) (same_component_refl h.token) e)

pub says_properties : (purpose : Purpose) (top : PathValue) (base : PathValue → List ℕ) (h : OpenEntry) (hs : List OpenEntry) (cs : List (List ℕ × Option (List ℕ)))
    → Says purpose top base (h ∷ hs) (map (property_command h.kind h.token) cs) (map (λ c. PropertyAt h.path c.0 c.1) cs) (h ∷ hs)
says_properties purpose top base h hs [] = (refl, refl)
says_properties purpose top base h hs (c ∷ cs) =
    (PropertyAt h.path c.0 c.1 ∷ [], h ∷ hs, map (λ d. PropertyAt h.path d.0 d.1) cs, reads_property purpose top base h hs c h.kind (same_kinds h.kind), says_properties purpose top base h hs cs, refl)

-- ---- a text

abbrev pub joined_bytes : List (List ℕ) → List ℕ
joined_bytes [] = []
joined_bytes (b ∷ bs) = b ++ joined_bytes bs

abbrev pub with_state : OpenEntry → TextState → OpenEntry
with_state h state = record h { state = state }

says_chunks : (purpose : Purpose) (top : PathValue) (base : PathValue → List ℕ) (h : OpenEntry) (hs : List OpenEntry) (before : List ℕ) (bs : List (List ℕ)) → same_kind FileKind h.kind ≡ true
    → Says purpose top base (with_state h (Receiving before) ∷ hs) (map (λ b. TextDeltaChunk h.token b) bs) [] (with_state h (Receiving (before ++ joined_bytes bs)) ∷ hs)
says_chunks purpose top base h hs before [] file = (refl, ap (λ bytes. with_state h (Receiving bytes) ∷ hs) (append-nil before))
says_chunks purpose top base h hs before (b ∷ bs) file = (
  [],
  with_state h (Receiving (before ++ b)) ∷ hs,
  [],
  ap (λ x. if x then Some ([], with_state h (Receiving (before ++ b)) ∷ hs) else None) (and_both (is_name h.token h.token) (same_kind FileKind h.kind) (same_component_refl h.token) file),
  subst (λ bytes. Says purpose top base (with_state h (Receiving (before ++ b)) ∷ hs) (map (λ c. TextDeltaChunk h.token c) bs) [] (with_state h (Receiving bytes) ∷ hs)) (append_assoc before b (joined_bytes bs)) (says_chunks purpose top base h hs (before ++ b) bs file),
  refl,
)

-- a delta in any pieces, of a document that has the text over what the client has
pub says_text : (purpose : Purpose) (top : PathValue) (base : PathValue → List ℕ) (h : OpenEntry) (hs : List OpenEntry) (pieces : List (List ℕ)) (text : List ℕ) → same_kind FileKind h.kind ≡ true → is_sent_delta purpose (joined_bytes pieces) ≡ true → document_text h.base (joined_bytes pieces) ≡ Ok text
    → Says purpose top base (with_state h Unchanged ∷ hs) (ApplyTextDelta h.token None ∷ (map (λ b. TextDeltaChunk h.token b) pieces ++ TextDeltaEnd h.token ∷ [])) (TextAt h.path text ∷ []) (with_state h (Received text) ∷ hs)
says_text purpose top base h hs pieces text file sent is = (
  [],
  with_state h (Receiving []) ∷ hs,
  TextAt h.path text ∷ [],
  ap (λ x. if x then Some ([], with_state h (Receiving []) ∷ hs) else None) (and_both (is_name h.token h.token) (same_kind FileKind h.kind) (same_component_refl h.token) file),
  says_append purpose top base (with_state h (Receiving []) ∷ hs) (with_state h (Receiving (joined_bytes pieces)) ∷ hs) (with_state h (Received text) ∷ hs) (map (λ b. TextDeltaChunk h.token b) pieces) (TextDeltaEnd h.token ∷ []) [] (TextAt h.path text ∷ [])
      (says_chunks purpose top base h hs [] pieces file) (
        TextAt h.path text ∷ [],
        with_state h (Received text) ∷ hs,
        [],
        ap (λ x. if x then (if is_sent_delta purpose (joined_bytes pieces) then text_received (document_text h.base (joined_bytes pieces)) (with_state h (Receiving (joined_bytes pieces))) hs else None) else None) (and_both (is_name h.token h.token) (same_kind FileKind h.kind) (same_component_refl h.token) file)
            ∙ ap (λ x. if x then text_received (document_text h.base (joined_bytes pieces)) (with_state h (Receiving (joined_bytes pieces))) hs else None) sent
            ∙ ap (λ r. text_received r (with_state h (Receiving (joined_bytes pieces))) hs) is,
        (refl, refl),
        refl,
      ),
  refl,
)

-- ---- an entry

pub reads_entry : (top : PathValue) (hs : List OpenEntry) (p : PathValue) (parent token base : List ℕ) (kind : EntryKind) (step : Step) → is_in_place top hs p parent ≡ true → is_open_token token hs ≡ false
    → enters_entry top hs p parent token kind base step ≡ Some (step ∷ [], record { token = token; path = p; kind = kind; base = base; state = Unchanged } ∷ hs)
reads_entry top hs p parent token base kind step fit new =
    ap (λ x. if x then Some (step ∷ [], record { token = token; path = p; kind = kind; base = base; state = Unchanged } ∷ hs) else None)
    (and_both (is_in_place top hs p parent) (not (is_open_token token hs)) fit (ap not new))

pub reads_close : (purpose : Purpose) (top : PathValue) (base : PathValue → List ℕ) (h : OpenEntry) (hs : List OpenEntry) → same_kind DirectoryKind h.kind ≡ true → steps_said purpose top base (h ∷ hs) (CloseDirectory h.token) ≡ Some ([], hs)
reads_close purpose top base h hs dir = ap (λ x. if x then Some ([], hs) else None) (and_both (is_name h.token h.token) (same_kind DirectoryKind h.kind) (same_component_refl h.token) dir)
