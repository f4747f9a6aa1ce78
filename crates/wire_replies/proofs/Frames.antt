-- The bytes of replies that are written in parts: what comes before, the parts, and what comes behind.
use Rattle.std.proofs.Common.{◌≡◌, ◌∙◌, ℕ, List, [], ◌∷◌, ◌++◌, refl, ap, codes, append-nil}
use Rattle.svnpath.specs.{Paths.PathValue, Texts.path_text}
use Rattle.repo_api.specs.{Properties.PropertyList, declared.lock.Lock.Lock}
use Rattle.items.specs.{Print.{printed, row_printed}, Values.{both, ItemValues, list, more, number, only, string}}
use Rattle.wire_replies.specs.Parts.{directory_end, directory_head, file_head, file_revision_place, log_end, log_head}
use Rattle.wire_replies.specs.Replies.{change_trees, entry_trees, lock_trees, optional_string_trees, print, property_change_trees, property_trees, success}
use Rattle.wire_replies.specs.declared.file_revisions.FileRevision.{FileRevision as FileRevisionValue}
use Rattle.wire_replies.specs.{declared.entries.DirectoryInfo.DirectoryInfo as DirectoryInfoValue, declared.entries.FileInfo.FileInfo as FileInfoValue}
use Rattle.wire_replies.specs.{declared.histories.LogEntry.LogEntry as LogEntryValue, declared.histories.LogFacts.LogFacts}
use Rattle.wire_replies.specs.declared.reply.Reply.TheVariants.{DirectoryInfo, FileInfo, FileRevision, Locks, LogEntry, Properties}

-- the lists that a reply of success ends with are closed
closed : (row : List ℕ) → (((row ++ codes ") ") ++ []) ++ codes ") ") ++ [] ≡ row ++ codes ") ) "
closed [] = refl
closed (x ∷ row) = ap (λ t. x ∷ t) (closed row)

-- so are they behind one list more
closed_behind : (row : List ℕ) → ((row ++ codes ") ") ++ []) ++ codes ") ) " ≡ row ++ codes ") ) ) "
closed_behind [] = refl
closed_behind (x ∷ row) = ap (λ t. x ∷ t) (closed_behind row)

success_printed : (params : ItemValues) → printed (success params) ++ [] ≡ codes "( success ( " ++ (row_printed params ++ codes ") ) ")
success_printed params = ap (λ t. codes "( success ( " ++ t) (closed (row_printed params))

pub locks_printed : (ls : List (PathValue × Lock)) → print (Locks ls ∷ []) ≡ codes "( success ( ( " ++ (row_printed (lock_trees ls) ++ codes ") ) ) ")
locks_printed ls =
    success_printed (only (list (lock_trees ls))) ∙ ap (λ t. codes "( success ( ( " ++ t) (closed_behind (row_printed (lock_trees ls)))

pub properties_printed : (ps : PropertyList) → print (Properties ps ∷ []) ≡ codes "( success ( " ++ (printed (list (property_trees ps)) ++ codes ") ) ")
properties_printed ps =
    success_printed (only (list (property_trees ps))) ∙ ap (λ t. codes "( success ( " ++ (t ++ codes ") ) ")) (append-nil (printed (list (property_trees ps))))

-- three parts and an end, of which the third is the body
third_closed : (a b row end : List ℕ) → (a ++ (b ++ (row ++ []))) ++ end ≡ (a ++ b) ++ (row ++ end)
third_closed [] [] row end = ap (λ t. t ++ end) (append-nil row)
third_closed [] (x ∷ b) row end = ap (λ t. x ∷ t) (third_closed [] b row end)
third_closed (x ∷ a) b row end = ap (λ t. x ∷ t) (third_closed a b row end)

pub file_printed : (info : FileInfoValue)
    → print (FileInfo info ∷ []) ≡ file_head info.digest info.revision ++ (printed (list (property_trees info.properties)) ++ codes ") ) ")
file_printed info =
    success_printed (more (list (optional_string_trees info.digest)) (both (number info.revision) (list (property_trees info.properties))))
    ∙ ap (λ t. codes "( success ( " ++ t)
    (third_closed (printed (list (optional_string_trees info.digest))) (printed (number info.revision)) (printed (list (property_trees info.properties)))
    (codes ") ) "))

-- three parts and an end, of which the third is a list
list_closed : (a b row : List ℕ) → (a ++ (b ++ ((codes "( " ++ (row ++ codes ") ")) ++ []))) ++ codes ") ) " ≡ (a ++ (b ++ codes "( ")) ++ (row ++ directory_end)
list_closed [] [] row = ap (λ t. codes "( " ++ t) (closed_behind row)
list_closed [] (x ∷ b) row = ap (λ t. x ∷ t) (list_closed [] b row)
list_closed (x ∷ a) b row = ap (λ t. x ∷ t) (list_closed a b row)

pub directory_printed : (info : DirectoryInfoValue)
    → print (DirectoryInfo info ∷ []) ≡ directory_head info.revision info.properties ++ (row_printed (entry_trees info.entries) ++ directory_end)
directory_printed info =
    success_printed (more (number info.revision) (both (list (property_trees info.properties)) (list (entry_trees info.entries))))
    ∙ ap (λ t. codes "( success ( " ++ t)
    (list_closed (printed (number info.revision)) (printed (list (property_trees info.properties))) (row_printed (entry_trees info.entries)))

-- what a log says of a revision after its changes, and the end of it
facts_closed : (n a d m : List ℕ) → ((n ++ (a ++ (d ++ (m ++ [])))) ++ codes ") ") ++ [] ≡ n ++ (a ++ (d ++ (m ++ codes ") ")))
facts_closed [] [] [] [] = refl
facts_closed [] [] [] (x ∷ m) = ap (λ t. x ∷ t) (facts_closed [] [] [] m)
facts_closed [] [] (x ∷ d) m = ap (λ t. x ∷ t) (facts_closed [] [] d m)
facts_closed [] (x ∷ a) d m = ap (λ t. x ∷ t) (facts_closed [] a d m)
facts_closed (x ∷ n) a d m = ap (λ t. x ∷ t) (facts_closed n a d m)

log_closed : (row n a d m : List ℕ) → (((row ++ codes ") ") ++ (n ++ (a ++ (d ++ (m ++ []))))) ++ codes ") ") ++ []
    ≡ row ++ (codes ") " ++ (n ++ (a ++ (d ++ (m ++ codes ") ")))))
log_closed [] n a d m = ap (λ t. codes ") " ++ t) (facts_closed n a d m)
log_closed (x ∷ row) n a d m = ap (λ t. x ∷ t) (log_closed row n a d m)

abbrev pub facts_of : LogEntryValue → LogFacts
facts_of entry = record { revision = entry.revision; author = entry.author; date = entry.date; message = entry.message }

pub log_printed : (entry : LogEntryValue) → print (LogEntry entry ∷ []) ≡ log_head ++ (row_printed (change_trees entry.changes) ++ log_end (facts_of entry))
log_printed entry =
    ap (λ t. codes "( ( " ++ t)
    (log_closed (row_printed (change_trees entry.changes)) (printed (number entry.revision)) (printed (list (optional_string_trees entry.author)))
    (printed (list (optional_string_trees entry.date))) (printed (list (optional_string_trees entry.message))))

-- what is said of a revision of a file: four parts, and the end
revision_closed : (path n ps cs : List ℕ) → ((path ++ (n ++ (ps ++ (cs ++ codes "false ")))) ++ codes ") ") ++ []
    ≡ ((path ++ n) ++ ps) ++ (cs ++ codes "false ) ")
revision_closed [] [] [] [] = refl
revision_closed [] [] [] (x ∷ cs) = ap (λ t. x ∷ t) (revision_closed [] [] [] cs)
revision_closed [] [] (x ∷ ps) cs = ap (λ t. x ∷ t) (revision_closed [] [] ps cs)
revision_closed [] (x ∷ n) ps cs = ap (λ t. x ∷ t) (revision_closed [] n ps cs)
revision_closed (x ∷ path) n ps cs = ap (λ t. x ∷ t) (revision_closed path n ps cs)

pub file_revision_printed : (told : FileRevisionValue)
    → print (FileRevision told ∷ [])
    ≡ (file_revision_place told.path told.revision ++ printed (list (property_trees told.properties)))
    ++ (printed (list (property_change_trees told.changes)) ++ codes "false ) ")
file_revision_printed told =
    ap (λ t. codes "( " ++ t)
    (revision_closed (printed (string (path_text told.path))) (printed (number told.revision))
    (printed (list (property_trees told.properties))) (printed (list (property_change_trees told.changes))))
