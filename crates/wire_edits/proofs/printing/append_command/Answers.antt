-- each command is sent as the item of its form
use Rattle.std.proofs.Common.{sym, subst}
use Rattle.items.specs.Print.{AppendsItem}
use Rattle.wire_edits.specs.{Printing.command_item, declared.editing.EditorCommand.EditorCommand}
use Rattle.wire_edits.proofs.printing.append_command.Goals as goal

-- src/printing.rt:30:1
pub returns-in-OpenRoot : goal.returns-in-OpenRoot
returns-in-OpenRoot c =
    let sent = c.append_root in
    subst (λ (x : EditorCommand). AppendsItem sent.result c.args.out.now (command_item x) sent.new.out) (sym c.in-OpenRoot.is) sent.ensures

-- src/printing.rt:30:1
pub returns-in-DeleteEntry : goal.returns-in-DeleteEntry
returns-in-DeleteEntry c =
    let sent = c.append_deleted in
    subst (λ (x : EditorCommand). AppendsItem sent.result c.args.out.now (command_item x) sent.new.out) (sym c.in-DeleteEntry.is) sent.ensures

-- src/printing.rt:30:1
pub returns-in-AddFile : goal.returns-in-AddFile
returns-in-AddFile c =
    let sent = c.append_added-in-AddFile in
    subst (λ (x : EditorCommand). AppendsItem sent.result c.args.out.now (command_item x) sent.new.out) (sym c.in-AddFile.is) sent.ensures

-- src/printing.rt:30:1
pub returns-in-OpenDirectory : goal.returns-in-OpenDirectory
returns-in-OpenDirectory c =
    let sent = c.append_opened in
    subst (λ (x : EditorCommand). AppendsItem sent.result c.args.out.now (command_item x) sent.new.out) (sym c.in-OpenDirectory.is) sent.ensures

-- src/printing.rt:30:1
pub returns-in-OpenFile : goal.returns-in-OpenFile
returns-in-OpenFile c =
    let sent = c.append_opened-in-OpenFile in
    subst (λ (x : EditorCommand). AppendsItem sent.result c.args.out.now (command_item x) sent.new.out) (sym c.in-OpenFile.is) sent.ensures

-- src/printing.rt:30:1
pub returns-in-AbsentDirectory : goal.returns-in-AbsentDirectory
returns-in-AbsentDirectory c =
    let sent = c.append_absent in
    subst (λ (x : EditorCommand). AppendsItem sent.result c.args.out.now (command_item x) sent.new.out) (sym c.in-AbsentDirectory.is) sent.ensures

-- src/printing.rt:30:1
pub returns-in-AbsentFile : goal.returns-in-AbsentFile
returns-in-AbsentFile c =
    let sent = c.append_absent-in-AbsentFile in
    subst (λ (x : EditorCommand). AppendsItem sent.result c.args.out.now (command_item x) sent.new.out) (sym c.in-AbsentFile.is) sent.ensures

-- src/printing.rt:30:1
pub returns-in-ChangeDirectoryProperty : goal.returns-in-ChangeDirectoryProperty
returns-in-ChangeDirectoryProperty c =
    let sent = c.append_property in
    subst (λ (x : EditorCommand). AppendsItem sent.result c.args.out.now (command_item x) sent.new.out) (sym c.in-ChangeDirectoryProperty.is) sent.ensures

-- src/printing.rt:30:1
pub returns-in-ChangeFileProperty : goal.returns-in-ChangeFileProperty
returns-in-ChangeFileProperty c =
    let sent = c.append_property-in-ChangeFileProperty in
    subst (λ (x : EditorCommand). AppendsItem sent.result c.args.out.now (command_item x) sent.new.out) (sym c.in-ChangeFileProperty.is) sent.ensures

-- src/printing.rt:30:1
pub returns-in-TextDeltaChunk : goal.returns-in-TextDeltaChunk
returns-in-TextDeltaChunk c =
    let sent = c.append_chunk in
    subst (λ (x : EditorCommand). AppendsItem sent.result c.args.out.now (command_item x) sent.new.out) (sym c.in-TextDeltaChunk.is) sent.ensures

-- src/printing.rt:30:1
pub returns-in-TextDeltaEnd : goal.returns-in-TextDeltaEnd
returns-in-TextDeltaEnd c =
    let sent = c.append_token in
    subst (λ (x : EditorCommand). AppendsItem sent.result c.args.out.now (command_item x) sent.new.out) (sym c.in-TextDeltaEnd.is) sent.ensures

-- src/printing.rt:30:1
pub returns-in-CloseDirectory : goal.returns-in-CloseDirectory
returns-in-CloseDirectory c =
    let sent = c.append_token-in-CloseDirectory in
    subst (λ (x : EditorCommand). AppendsItem sent.result c.args.out.now (command_item x) sent.new.out) (sym c.in-CloseDirectory.is) sent.ensures
