-- What the commands of a plan say.
use Rattle.std.proofs.Common.{arith, ◌≡◌, ◌≤◌, ◌+◌, ◌-◌, ℕ, Bool, true, false, ◌&&◌, List, [], ◌∷◌, ◌++◌, length, Option, Some, None, option_map, refl, sym, ap}
use Rattle.std.proofs.{Common.{◌∙◌, subst, if◌then◌else◌}, lemmas.Bool.false≢true, lemmas.List.Elements.{All-head, All-tail}}
use Rattle.std.proofs.lemmas.Option.{none-some, same_Some}
use Rattle.std.specs.Prelude.{All, option_and_then}
use Rattle.svnpath.specs.{PathLaws.same_component_refl, Paths.PathValue}
use Rattle.svndiff0.specs.Window.{limit}
use Rattle.repo_api.specs.{States.RepoState, Trees.{content_text, is_directory_content, text_of, Tree}, declared.entry.Content.Content}
use Rattle.repo_api.specs.{declared.entry.Content.TheVariants.{Directory, File}, declared.entry.Entry.Entry}
use Rattle.wire_forms.specs.Forms.{is_name}
use Rattle.wire_edits.specs.declared.editing.EditorCommand.{EditorCommand}
use Rattle.drive_rules.specs.{Places.is_in_directory, Steps.{EntryKind, Step}, Steps.EntryKind.{DirectoryKind, FileKind}, Steps.Step.{AddAt, DeleteAt, OpenAt}}
use Rattle.drive_rules.proofs.Joined.{and_front}
use Rattle.drive_visits.specs.{Nesting.{stands_as, walk}, Visits.{entry_kind, kind_if, plan_steps, Visit}, Visits.Visit.{Open, Add, Delete, Close}}
use Rattle.reporter.specs.{Targets.{WholeReport, old_tree, new_tree}, declared.ask.Purpose.Purpose}
use Rattle.reporter.specs.declared.ask.Purpose.TheVariants.{Update, Switch, Status, Diff, Summary}
use Rattle.reporter.specs.{Saying.{Says, steps_said, is_in_place, when, is_open_token}, Sent.{base_of, or_no_text}}
use Rattle.reporter.specs.Saying as saying
use Rattle.reporter.proofs.{Joining.says_append, Writing.{reads_entry, reads_close}}
use Rattle.drive_news.specs.{News.{news_at, news_steps, steps_if, own_steps_of, other_text, text_sent, old_entry}, declared.news.News.News}
use Rattle.drive_sending.specs.Commands.{open_command, add_command, opened_entry, added_entry, news_commands, news_told, or_no_news, text_had, plan_commands}
use Rattle.drive_sending.specs.{Commands.deeper_by, Tokens.token_of}
use Rattle.drive_sending.proofs.{Spelled.IsSpelledPath, Sending.{IsTellable, IsSendable}, Tokens.{entry_at, open_directories, grown, none_open}}
use Rattle.drive_sending.proofs.Entries.{GiveTexts, IsTextSent, after_entry, same_over, says_news}

-- ---- where a walk goes on

-- a walk goes on from what is open after the visit
goes_on : (b : Bool) (mid : List PathValue) (rest : List PathValue → Option (List PathValue)) (end : List PathValue)
    → option_and_then rest (if b then Some mid else None) ≡ Some end → (b ≡ true) × (rest mid ≡ Some end)
goes_on true mid rest end e = (refl, e)
goes_on false mid rest end e = absurd (none-some end e)

by_kind : (b : Bool) (p : PathValue) (ds : List PathValue) → (if b then p ∷ ds else ds) ≡ after_entry (kind_if b) p ds
by_kind true p ds = refl
by_kind false p ds = refl

shrunk : (l n : ℕ) → l ≡ n + 1 → n ≡ l - 1
shrunk l n e = omega (arith, e)

-- ---- news

pub steps_told : (p : PathValue) (o : Option News) → steps_if p o ≡ news_steps p (or_no_news o)
steps_told p None = refl
steps_told p (Some news) = refl

pub nothing_short : length (or_no_text None) ≤ limit
nothing_short = omega arith

sent_short : (purpose : Purpose) (text : List ℕ) → length text ≤ limit → length (text_sent purpose text) ≤ limit
sent_short Update text short = short
sent_short Switch text short = short
sent_short Status text short = nothing_short
sent_short Diff text short = short
sent_short Summary text short = nothing_short

told_short : (purpose : Purpose) (old : Option (List ℕ)) (text : Option (List ℕ)) → length (or_no_text text) ≤ limit → length (or_no_text (option_map (text_sent purpose) (other_text old text))) ≤ limit
told_short purpose old None short = nothing_short
told_short purpose None (Some text) short = sent_short purpose text short
told_short purpose (Some before) (Some text) short = by (is_name before text)
  where
    by : (b : Bool) → length (or_no_text (option_map (text_sent purpose) (if b then None else Some text))) ≤ limit
    by true = nothing_short
    by false = sent_short purpose text short

nothing_told : (o : Option (List ℕ)) → or_no_text (option_map (λ (text : List ℕ). []) o) ≡ []
nothing_told None = refl
nothing_told (Some t) = refl

told_sent : (purpose : Purpose) (old : Option (List ℕ)) (text : Option (List ℕ)) → IsTextSent purpose (option_map (text_sent purpose) (other_text old text))
told_sent Update old text none = absurd (false≢true (sym none))
told_sent Switch old text none = absurd (false≢true (sym none))
told_sent Status old text none = nothing_told (other_text old text)
told_sent Diff old text none = absurd (false≢true (sym none))
told_sent Summary old text none = nothing_told (other_text old text)

abbrev is_directory_kind : EntryKind → Bool
is_directory_kind DirectoryKind = true
is_directory_kind FileKind = false

silent : (purpose : Purpose) (old : Option (List ℕ)) (content : Content) → kind_if (is_directory_content content) ≡ DirectoryKind → option_map (text_sent purpose) (other_text old (content_text content)) ≡ None
silent purpose old Directory e = refl
silent purpose old (File text) e = absurd (false≢true (ap is_directory_kind e))

module _ (c : RepoState) (report : WholeReport) where
  abbrev Top : PathValue
  Top = report.ask.target

  abbrev Base : PathValue → List ℕ
  Base = base_of (old_tree c report)

  abbrev New : Tree
  New = new_tree c report

  news_short : (p : PathValue) (anew : Bool) (e : Option Entry) → length (or_no_text (text_of e)) ≤ limit → length (or_no_text (or_no_news (option_map (news_at c report p anew) e)).text) ≤ limit
  news_short p anew None short = nothing_short
  news_short p anew (Some e) short = told_short report.ask.purpose (text_of (old_entry anew (old_tree c report) p)) (content_text e.content) short

  news_sent : (p : PathValue) (anew : Bool) (e : Option Entry) → IsTextSent report.ask.purpose (or_no_news (option_map (news_at c report p anew) e)).text
  news_sent p anew None = λ none. refl
  news_sent p anew (Some e) = told_sent report.ask.purpose (text_of (old_entry anew (old_tree c report) p)) (content_text e.content)

  pub news_silent : (p : PathValue) (anew : Bool) (e : Option Entry) → entry_kind e ≡ DirectoryKind → (or_no_news (option_map (news_at c report p anew) e)).text ≡ None
  news_silent p anew None is = refl
  news_silent p anew (Some e) is = silent report.ask.purpose (text_of (old_entry anew (old_tree c report) p)) e.content is

  -- ---- what is entered

  placed : (d : PathValue) (ds : List PathValue) (p : PathValue) → is_in_directory Top d p ≡ true → is_in_place Top (open_directories (d ∷ ds)) p (token_of DirectoryKind (length ds)) ≡ true
  placed d ds p inside = ap (λ b. (b && true) && is_in_directory Top d p) (same_component_refl (token_of DirectoryKind (length ds))) ∙ inside

  new_token : (kind : EntryKind) (d : PathValue) (ds : List PathValue) → is_open_token (token_of kind (length ds + 1)) (open_directories (d ∷ ds)) ≡ false
  new_token kind d ds = none_open kind (length ds + 1) (d ∷ ds) (omega (arith, grown d ds))

  -- the text that the client has of what is opened
  abbrev base_at : EntryKind → PathValue → List ℕ
  base_at DirectoryKind p = []
  base_at FileKind p = Base p

  bare : (kind : EntryKind) (p : PathValue) → kind ≡ DirectoryKind → base_at kind p ≡ []
  bare DirectoryKind p e = refl
  bare FileKind p e = absurd (false≢true (ap is_directory_kind e))

  based : (kind : EntryKind) (p : PathValue) → kind ≡ FileKind → base_at kind p ≡ Base p
  based DirectoryKind p e = absurd (false≢true (ap is_directory_kind (sym e)))
  based FileKind p e = refl

  reads_open : (kind : EntryKind) (d : PathValue) (ds : List PathValue) (p : PathValue) → is_in_directory Top d p ≡ true → IsSpelledPath p
      → steps_said report.ask.purpose Top Base (open_directories (d ∷ ds)) (open_command kind (opened_entry c report (length ds) p kind))
      ≡ Some (OpenAt p kind ∷ [], entry_at kind (length ds + 1) p (base_at kind p) ∷ open_directories (d ∷ ds))
  reads_open DirectoryKind d ds p inside spelled =
      ap (λ q. saying.enters_entry Top (open_directories (d ∷ ds)) q (token_of DirectoryKind (length ds)) (token_of DirectoryKind (length ds + 1)) DirectoryKind [] (OpenAt q DirectoryKind)) spelled
      ∙ reads_entry Top (open_directories (d ∷ ds)) p (token_of DirectoryKind (length ds)) (token_of DirectoryKind (length ds + 1)) [] DirectoryKind (OpenAt p DirectoryKind)
      (placed d ds p inside) (new_token DirectoryKind d ds)
  reads_open FileKind d ds p inside spelled =
      ap (λ q. saying.enters_entry Top (open_directories (d ∷ ds)) q (token_of DirectoryKind (length ds)) (token_of FileKind (length ds + 1)) FileKind (Base q) (OpenAt q FileKind)) spelled
      ∙ reads_entry Top (open_directories (d ∷ ds)) p (token_of DirectoryKind (length ds)) (token_of FileKind (length ds + 1)) (Base p) FileKind (OpenAt p FileKind)
      (placed d ds p inside) (new_token FileKind d ds)

  reads_add : (kind : EntryKind) (d : PathValue) (ds : List PathValue) (p : PathValue) → is_in_directory Top d p ≡ true → IsSpelledPath p
      → steps_said report.ask.purpose Top Base (open_directories (d ∷ ds)) (add_command kind (added_entry (length ds) p kind))
      ≡ Some (AddAt p kind ∷ [], entry_at kind (length ds + 1) p [] ∷ open_directories (d ∷ ds))
  reads_add DirectoryKind d ds p inside spelled =
      ap (λ q. saying.enters_entry Top (open_directories (d ∷ ds)) q (token_of DirectoryKind (length ds)) (token_of DirectoryKind (length ds + 1)) DirectoryKind [] (AddAt q DirectoryKind)) spelled
      ∙ reads_entry Top (open_directories (d ∷ ds)) p (token_of DirectoryKind (length ds)) (token_of DirectoryKind (length ds + 1)) [] DirectoryKind (AddAt p DirectoryKind)
      (placed d ds p inside) (new_token DirectoryKind d ds)
  reads_add FileKind d ds p inside spelled =
      ap (λ q. saying.enters_entry Top (open_directories (d ∷ ds)) q (token_of DirectoryKind (length ds)) (token_of FileKind (length ds + 1)) FileKind [] (AddAt q FileKind)) spelled
      ∙ reads_entry Top (open_directories (d ∷ ds)) p (token_of DirectoryKind (length ds)) (token_of FileKind (length ds + 1)) [] FileKind (AddAt p FileKind)
      (placed d ds p inside) (new_token FileKind d ds)

  -- the visits say their steps, from what is open before to what is open after them
  abbrev SaysPlan : List PathValue → ℕ → List Visit → List PathValue → Type 0
  SaysPlan ds around vs end = Says report.ask.purpose Top Base (open_directories ds) (plan_commands c report around vs) (plan_steps (own_steps_of c report) vs) (open_directories end)

  -- an entry, and what comes behind it
  with_entry : GiveTexts → (kind : EntryKind) (first : EditorCommand) (step : Step) (own base : List ℕ) (news : News) (d : PathValue) (ds : List PathValue) (p : PathValue) (vs : List Visit) (end : List PathValue)
      → steps_said report.ask.purpose Top Base (open_directories (d ∷ ds)) first ≡ Some (step ∷ [], entry_at kind (length ds + 1) p own ∷ open_directories (d ∷ ds))
      → (kind ≡ FileKind → own ≡ base) → (kind ≡ DirectoryKind → own ≡ []) → (kind ≡ DirectoryKind → news.text ≡ None) → length (or_no_text news.text) ≤ limit
      → IsTextSent report.ask.purpose news.text
      → SaysPlan (after_entry kind p (d ∷ ds)) (deeper_by kind (length ds)) vs end
      → Says report.ask.purpose Top Base (open_directories (d ∷ ds))
      ((first ∷ news_commands report.ask.purpose kind (token_of kind (length ds + 1)) base news) ++ plan_commands c report (deeper_by kind (length ds)) vs)
      ((step ∷ news_steps p news) ++ plan_steps (own_steps_of c report) vs) (open_directories end)
  with_entry give kind first step own base news d ds p vs end said same bare quiet short sent rest =
      says_append report.ask.purpose Top Base (open_directories (d ∷ ds)) (open_directories (after_entry kind p (d ∷ ds))) (open_directories end)
      (first ∷ news_commands report.ask.purpose kind (token_of kind (length ds + 1)) base news) (plan_commands c report (deeper_by kind (length ds)) vs)
      (step ∷ news_steps p news) (plan_steps (own_steps_of c report) vs)
      (step ∷ [], entry_at kind (length ds + 1) p own ∷ open_directories (d ∷ ds), news_steps p news, said, inner, refl) rest
    where
      inner : Says report.ask.purpose Top Base (entry_at kind (length ds + 1) p own ∷ open_directories (d ∷ ds)) (news_commands report.ask.purpose kind (token_of kind (length ds + 1)) base news) (news_steps p news) (open_directories (after_entry kind p (d ∷ ds)))
      inner =
          subst (λ n. Says report.ask.purpose Top Base (entry_at kind n p own ∷ open_directories (d ∷ ds)) (news_commands report.ask.purpose kind (token_of kind n) base news) (news_steps p news) (open_directories (after_entry kind p (d ∷ ds))))
          (grown d ds)
          (subst (λ (cs : List EditorCommand). Says report.ask.purpose Top Base (entry_at kind (length (d ∷ ds)) p own ∷ open_directories (d ∷ ds)) cs (news_steps p news) (open_directories (after_entry kind p (d ∷ ds))))
          (same_over report.ask.purpose kind (token_of kind (length (d ∷ ds))) own base news same)
          (says_news Top Base report.ask.purpose give kind (d ∷ ds) p own news bare quiet short sent))

  -- what comes behind an entry: below a directory, or beside a file
  goes_below : (kind : EntryKind) (d : PathValue) (ds : List PathValue) (p : PathValue) (vs : List Visit) (end : List PathValue)
      → (walk New Top (p ∷ d ∷ ds) vs ≡ Some end → SaysPlan (p ∷ d ∷ ds) (length (d ∷ ds)) vs end)
      → (walk New Top (d ∷ ds) vs ≡ Some end → SaysPlan (d ∷ ds) (length ds) vs end)
      → walk New Top (after_entry kind p (d ∷ ds)) vs ≡ Some end
      → SaysPlan (after_entry kind p (d ∷ ds)) (deeper_by kind (length ds)) vs end
  goes_below DirectoryKind d ds p vs end deep flat w = subst (λ n. SaysPlan (p ∷ d ∷ ds) n vs end) (grown d ds) (deep w)
  goes_below FileKind d ds p vs end deep flat w = flat w

  pub says_plan : GiveTexts → (vs : List Visit) (d : PathValue) (ds end : List PathValue) → All (IsSendable New) vs
      → walk New Top (d ∷ ds) vs ≡ Some end → SaysPlan (d ∷ ds) (length ds) vs end
  says_plan give [] d ds end sendable walked = (refl, ap open_directories (sym (same_Some (d ∷ ds) end walked)))
  says_plan give (Open p directory ∷ vs) d ds end sendable walked =
      let kind = kind_if directory in
      let tellable : IsTellable New p directory = All-head (IsSendable New) (Open p directory) vs sendable in
      let on = goes_on (is_in_directory Top d p && stands_as directory (New p)) (if directory then p ∷ d ∷ ds else d ∷ ds) (λ mid. walk New Top mid vs) end walked in
      subst (λ s. Says report.ask.purpose Top Base (open_directories (d ∷ ds)) (plan_commands c report (length ds) (Open p directory ∷ vs)) ((OpenAt p kind ∷ s) ++ plan_steps (own_steps_of c report) vs) (open_directories end))
      (sym (steps_told p (option_map (news_at c report p false) (New p))))
      (with_entry give kind (open_command kind (opened_entry c report (length ds) p kind)) (OpenAt p kind) (base_at kind p) (text_had c report p false) (news_told c report p false) d ds p vs end
      (reads_open kind d ds p (and_front (is_in_directory Top d p) (stands_as directory (New p)) on.0) tellable.spelled)
      (based kind p) (bare kind p) (λ is. news_silent p false (New p) (tellable.kind ∙ is)) (news_short p false (New p) tellable.short) (news_sent p false (New p))
      (goes_below kind d ds p vs end
      (λ w. says_plan give vs p (d ∷ ds) end (All-tail (IsSendable New) (Open p directory) vs sendable) w)
      (λ w. says_plan give vs d ds end (All-tail (IsSendable New) (Open p directory) vs sendable) w)
      (ap (λ mid. walk New Top mid vs) (sym (by_kind directory p (d ∷ ds))) ∙ on.1)))
  says_plan give (Add p directory ∷ vs) d ds end sendable walked =
      let kind = kind_if directory in
      let tellable : IsTellable New p directory = All-head (IsSendable New) (Add p directory) vs sendable in
      let on = goes_on (is_in_directory Top d p && stands_as directory (New p)) (if directory then p ∷ d ∷ ds else d ∷ ds) (λ mid. walk New Top mid vs) end walked in
      subst (λ s. Says report.ask.purpose Top Base (open_directories (d ∷ ds)) (plan_commands c report (length ds) (Add p directory ∷ vs)) ((AddAt p kind ∷ s) ++ plan_steps (own_steps_of c report) vs) (open_directories end))
      (sym (steps_told p (option_map (news_at c report p true) (New p))))
      (with_entry give kind (add_command kind (added_entry (length ds) p kind)) (AddAt p kind) [] (text_had c report p true) (news_told c report p true) d ds p vs end
      (reads_add kind d ds p (and_front (is_in_directory Top d p) (stands_as directory (New p)) on.0) tellable.spelled)
      (λ _. refl) (λ _. refl) (λ is. news_silent p true (New p) (tellable.kind ∙ is)) (news_short p true (New p) tellable.short) (news_sent p true (New p))
      (goes_below kind d ds p vs end
      (λ w. says_plan give vs p (d ∷ ds) end (All-tail (IsSendable New) (Add p directory) vs sendable) w)
      (λ w. says_plan give vs d ds end (All-tail (IsSendable New) (Add p directory) vs sendable) w)
      (ap (λ mid. walk New Top mid vs) (sym (by_kind directory p (d ∷ ds))) ∙ on.1)))
  says_plan give (Delete p ∷ vs) d ds end sendable walked =
      let spelled : IsSpelledPath p = All-head (IsSendable New) (Delete p) vs sendable in
      let on = goes_on (is_in_directory Top d p) (d ∷ ds) (λ mid. walk New Top mid vs) end walked in (
        DeleteAt p ∷ [],
        open_directories (d ∷ ds),
        plan_steps (own_steps_of c report) vs,
        ap (λ q. when (is_in_place Top (open_directories (d ∷ ds)) q (token_of DirectoryKind (length ds))) (DeleteAt q ∷ []) (open_directories (d ∷ ds))) spelled
            ∙ ap (λ b. when b (DeleteAt p ∷ []) (open_directories (d ∷ ds))) (placed d ds p on.0),
        says_plan give vs d ds end (All-tail (IsSendable New) (Delete p) vs sendable) on.1,
        refl,
      )
  says_plan give (Close ∷ vs) d [] end sendable walked = absurd (none-some end walked)
  says_plan give (Close ∷ vs) d (e ∷ ds) end sendable walked = (
    [],
    open_directories (e ∷ ds),
    plan_steps (own_steps_of c report) vs,
    reads_close report.ask.purpose Top Base (entry_at DirectoryKind (length (e ∷ ds)) d []) (open_directories (e ∷ ds)) refl,
    subst (λ n. SaysPlan (e ∷ ds) n vs end) (shrunk (length (e ∷ ds)) (length ds) (grown e ds))
        (says_plan give vs e ds end (All-tail (IsSendable New) Close vs sendable) walked),
    refl,
  )
