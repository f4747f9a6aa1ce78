-- What the commands of one entry say.
use Rattle.std.proofs.Common.{◌≡◌, ◌≤◌, ℕ, true, false, List, [], ◌∷◌, ◌++◌, append-nil, length, map, Option, Some, None, refl, sym, ap, ◌∙◌, subst}
use Rattle.std.proofs.Common.{if◌then◌else◌}
use Rattle.std.specs.{List.concat, Prelude.Ok}
use Rattle.svnpath.specs.{PathLaws.same_component_refl, Paths.PathValue}
use Rattle.svndiff0.specs.{Document.{header, document_text}, Window.limit}
use Rattle.text_deltas.specs.Deltas.{delta_chunks}
use Rattle.wire_deltas.specs.Texts.{text_commands}
use Rattle.reporter.specs.{Sent.or_no_text, Saying.{OpenEntry, Says, same_kind, sends_texts, is_base_checksum, is_sent_checksum, is_sent_delta, file_closed}}
use Rattle.reporter.specs.{Saying.TextState.Received, declared.ask.Purpose.Purpose, declared.ask.Purpose.TheVariants.{Update, Switch, Status, Diff, Summary}}
use Rattle.wire_forms.specs.Forms.{is_name}
use Rattle.wire_edits.specs.declared.editing.EditorCommand.TheVariants.{CloseFile}
use Rattle.drive_rules.specs.{Steps.EntryKind, Steps.EntryKind.{DirectoryKind, FileKind}, Steps.Step.TextAt}
use Rattle.drive_rules.proofs.Joined.{and_both}
use Rattle.drive_visits.specs.Own.{property_steps, text_steps}
use Rattle.reporter.proofs.{Joining.says_append, Writing.{says_properties, says_text, joined_bytes, with_state}}
use Rattle.drive_news.specs.{News.news_steps, declared.news.News.News}
use Rattle.drive_sending.specs.{Commands.{digits_of, checksum_sent, IsSentOver, news_commands, property_command, sent_commands}, Tokens.token_of}
use Rattle.drive_sending.proofs.Tokens.{entry_at, open_directories}

-- the strings of a delta, one after another, give the text over the text before
abbrev pub GiveTexts : Type 0
GiveTexts = (before text : List ℕ) → length text ≤ limit → document_text before (concat (delta_chunks before text)) ≡ Ok text

strings_joined : (strings : List (List ℕ)) → joined_bytes strings ≡ concat strings
strings_joined [] = refl
strings_joined (b ∷ bs) = ap (λ rest. b ++ rest) (strings_joined bs)

given_again : GiveTexts → (base text : List ℕ) → length text ≤ limit → document_text base (joined_bytes (delta_chunks base text)) ≡ Ok text
given_again give base text short = ap (document_text base) (strings_joined (delta_chunks base text)) ∙ give base text short

-- the checksum is right
nothing_sent : (purpose : Purpose) → checksum_sent purpose None ≡ None
nothing_sent Update = refl
nothing_sent Switch = refl
nothing_sent Status = refl
nothing_sent Diff = refl
nothing_sent Summary = refl

right_checksum : (purpose : Purpose) (text : List ℕ) → is_sent_checksum purpose text (checksum_sent purpose (Some text)) ≡ true
right_checksum Update text = same_component_refl (digits_of text)
right_checksum Switch text = same_component_refl (digits_of text)
right_checksum Status text = refl
right_checksum Diff text = same_component_refl (digits_of text)
right_checksum Summary text = refl

-- a drive without texts sends none
abbrev pub IsTextSent : Purpose → Option (List ℕ) → Type 0
IsTextSent purpose text = sends_texts purpose ≡ false → or_no_text text ≡ []

delta_sent : (purpose : Purpose) (base text : List ℕ) → IsTextSent purpose (Some text) → is_sent_delta purpose (joined_bytes (delta_chunks base text)) ≡ true
delta_sent Update base text sent = refl
delta_sent Switch base text sent = refl
delta_sent Status base text sent = ap (λ t. is_name (joined_bytes (delta_chunks base t)) header) (sent refl)
delta_sent Diff base text sent = refl
delta_sent Summary base text sent = ap (λ t. is_name (joined_bytes (delta_chunks base t)) header) (sent refl)

-- a directory has no text, so what is told of it is the same over every text
pub same_over : (purpose : Purpose) (kind : EntryKind) (token base other : List ℕ) (news : News) → (kind ≡ FileKind → base ≡ other)
    → news_commands purpose kind token base news ≡ news_commands purpose kind token other news
same_over purpose DirectoryKind token base other news same = refl
same_over purpose FileKind token base other news same = ap (λ b. news_commands purpose FileKind token b news) (same refl)

-- so is what is told of a file none of whose text is sent
pub sent_over : (purpose : Purpose) (kind : EntryKind) (token base other : List ℕ) (news : News) → IsSentOver news base other
    → news_commands purpose kind token base news ≡ news_commands purpose kind token other news
sent_over purpose DirectoryKind token base other news same = refl
sent_over purpose FileKind token base other news same =
    ap (λ cs. map (property_command FileKind token) news.changes ++ (cs ++ CloseFile token (checksum_sent purpose news.text) ∷ [])) (by news.text refl)
  where
    by : (text : Option (List ℕ)) → news.text ≡ text → sent_commands token base text ≡ sent_commands token other text
    by None is = refl
    by (Some text) is = ap (λ b. text_commands token (delta_chunks b text)) (same text is)

-- what is open once an entry was told its news: a directory, and no file
abbrev pub after_entry : EntryKind → PathValue → List PathValue → List PathValue
after_entry DirectoryKind p ds = p ∷ ds
after_entry FileKind p ds = ds

module _ (top : PathValue) (base : PathValue → List ℕ) (purpose : Purpose) where
  closes : (h : OpenEntry) (hs : List OpenEntry) (checksum : Option (List ℕ)) → same_kind FileKind h.kind ≡ true → file_closed purpose checksum h.state h hs ≡ Some ([], hs)
      → Says purpose top base (h ∷ hs) (CloseFile h.token checksum ∷ []) [] hs
  closes h hs checksum file closed = (
    [],
    hs,
    [],
    ap (λ x. if x then file_closed purpose checksum h.state h hs else None) (and_both (is_name h.token h.token) (same_kind FileKind h.kind) (same_component_refl h.token) file) ∙ closed,
    (refl, refl),
    refl,
  )

  says_end : GiveTexts → (count : ℕ) (p : PathValue) (own : List ℕ) (hs : List OpenEntry) (text : Option (List ℕ)) → length (or_no_text text) ≤ limit → IsTextSent purpose text
      → Says purpose top base (entry_at FileKind count p own ∷ hs) (sent_commands (token_of FileKind count) own text ++ CloseFile (token_of FileKind count) (checksum_sent purpose text) ∷ []) (text_steps p text) hs
  says_end give count p own hs None short sent =
      closes (entry_at FileKind count p own) hs (checksum_sent purpose None) refl
      (ap (λ o. if is_base_checksum purpose own o then Some ([], hs) else None) (nothing_sent purpose))
  says_end give count p own hs (Some text) short sent =
      says_append purpose top base (entry_at FileKind count p own ∷ hs) (with_state (entry_at FileKind count p own) (Received text) ∷ hs) hs
      (sent_commands (token_of FileKind count) own (Some text)) (CloseFile (token_of FileKind count) (checksum_sent purpose (Some text)) ∷ []) (TextAt p text ∷ []) []
      (says_text purpose top base (entry_at FileKind count p own) hs (delta_chunks own text) text refl (delta_sent purpose own text sent) (given_again give own text short))
      (closes (with_state (entry_at FileKind count p own) (Received text)) hs (checksum_sent purpose (Some text)) refl
      (ap (λ x. if x then Some ([], hs) else None) (right_checksum purpose text)))

  -- an entry that was entered is told its news
  pub says_news : GiveTexts → (kind : EntryKind) (ds : List PathValue) (p : PathValue) (own : List ℕ) (news : News) → (kind ≡ DirectoryKind → own ≡ []) → (kind ≡ DirectoryKind → news.text ≡ None)
      → length (or_no_text news.text) ≤ limit → IsTextSent purpose news.text
      → Says purpose top base (entry_at kind (length ds) p own ∷ open_directories ds) (news_commands purpose kind (token_of kind (length ds)) own news) (news_steps p news) (open_directories (after_entry kind p ds))
  says_news give DirectoryKind ds p own news bare silent short sent =
      subst (λ b. Says purpose top base (entry_at DirectoryKind (length ds) p b ∷ open_directories ds) (news_commands purpose DirectoryKind (token_of DirectoryKind (length ds)) own news) (news_steps p news) (open_directories (p ∷ ds)))
      (sym (bare refl))
      (subst (λ s. Says purpose top base (entry_at DirectoryKind (length ds) p [] ∷ open_directories ds) (news_commands purpose DirectoryKind (token_of DirectoryKind (length ds)) own news) s (open_directories (p ∷ ds)))
      (sym (ap (λ t. property_steps p news.changes ++ text_steps p t) (silent refl) ∙ append-nil (property_steps p news.changes)))
      (says_properties purpose top base (entry_at DirectoryKind (length ds) p []) (open_directories ds) news.changes))
  says_news give FileKind ds p own news bare silent short sent =
      says_append purpose top base (entry_at FileKind (length ds) p own ∷ open_directories ds) (entry_at FileKind (length ds) p own ∷ open_directories ds) (open_directories ds)
      (map (property_command FileKind (token_of FileKind (length ds))) news.changes)
      (sent_commands (token_of FileKind (length ds)) own news.text ++ CloseFile (token_of FileKind (length ds)) (checksum_sent purpose news.text) ∷ [])
      (property_steps p news.changes) (text_steps p news.text)
      (says_properties purpose top base (entry_at FileKind (length ds) p own) (open_directories ds) news.changes)
      (says_end give (length ds) p own (open_directories ds) news.text short sent)
