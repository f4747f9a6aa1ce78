-- What commands make of a mirror, one after another.
use Rattle.std.proofs.Common.{◌≡◌, ℕ, Bool, true, false, List, [], ◌∷◌, ◌++◌, map, Option, Some, None, option_map, refl, sym, ap, ◌∙◌, append-nil, append_assoc}
use Rattle.std.proofs.Common.{if◌then◌else◌}
use Rattle.std.specs.{List.concat, Prelude.{option_and_then, Ok}}
use Rattle.hex.specs.Hex.{encode_lower}
use Rattle.md5.specs.Md5.{md5}
use Rattle.svnpath.specs.{PathLaws.{same_component_refl, same_path_refl}, Paths.{PathValue, same_component, same_path}}
use Rattle.svndiff0.specs.Document.{document_text}
use Rattle.repo_api.specs.{Trees.Tree, declared.entry.Content.TheVariants.File}
use Rattle.wire_edits.specs.declared.editing.EditorCommand.{EditorCommand}
use Rattle.wire_edits.specs.declared.editing.EditorCommand.TheVariants.{ApplyTextDelta, TextDeltaChunk, TextDeltaEnd, CloseDirectory, CloseFile}
use Rattle.wire_deltas.specs.Texts.{text_commands}
use Rattle.replays.specs.Commands.{property_command}
use Rattle.replays.specs.Mirrors.{all_mirrored, closes_file, ends_delta, Mirror, mirrored, Node, Nodes, Opened, sets_text, text_at, with_node, with_value}
use Rattle.replays.proofs.Values.{with_values}

-- ---- commands one after another

-- commands lead from one mirror to another
abbrev pub Leads : (ℕ → Tree) → Mirror → List EditorCommand → Mirror → Type 0
Leads trees m commands n = all_mirrored trees m commands ≡ Some n

all_append : (trees : ℕ → Tree) (xs ys : List EditorCommand) (m : Mirror)
    → all_mirrored trees m (xs ++ ys) ≡ option_and_then (λ n. all_mirrored trees n ys) (all_mirrored trees m xs)
all_append trees [] ys m = refl
all_append trees (x ∷ xs) ys m = by (mirrored trees m x) (λ n. all_append trees xs ys n)
  where
    by : (o : Option Mirror) → ((n : Mirror) → all_mirrored trees n (xs ++ ys) ≡ option_and_then (λ k. all_mirrored trees k ys) (all_mirrored trees n xs))
        → option_and_then (λ n. all_mirrored trees n (xs ++ ys)) o
        ≡ option_and_then (λ n. all_mirrored trees n ys) (option_and_then (λ n. all_mirrored trees n xs) o)
    by None rest = refl
    by (Some n) rest = rest n

pub leads_on : (trees : ℕ → Tree) (xs ys : List EditorCommand) (m n o : Mirror) → Leads trees m xs n → Leads trees n ys o → Leads trees m (xs ++ ys) o
leads_on trees xs ys m n o first second = all_append trees xs ys m ∙ ap (option_and_then (λ k. all_mirrored trees k ys)) first ∙ second

pub leads_first : (trees : ℕ → Tree) (x : EditorCommand) (ys : List EditorCommand) (m n o : Mirror) → mirrored trees m x ≡ Some n → Leads trees n ys o → Leads trees m (x ∷ ys) o
leads_first trees x ys m n o first second = ap (option_and_then (λ k. all_mirrored trees k ys)) first ∙ second

pub leads_one : (trees : ℕ → Tree) (x : EditorCommand) (m n : Mirror) → mirrored trees m x ≡ Some n → Leads trees m (x ∷ []) n
leads_one trees x m n first = leads_first trees x [] m n n first refl

-- ---- what is open

-- a tree, with an entry open, and others beneath it
abbrev pub upon : Nodes → List ℕ → PathValue → Option (List ℕ) → List Opened → Mirror
upon t token p delta os = record { tree = t; opened = record { token = token; path = p; delta = delta } ∷ os }

named : {A : Type 0} (token : List ℕ) (x : Option A) → (if same_component token token then x else None) ≡ x
named token x = ap (λ b. if b then x else None) (same_component_refl token)

-- ---- properties

pub property_set : (trees : ℕ → Tree) (t : Nodes) (token : List ℕ) (p : PathValue) (delta : Option (List ℕ)) (os : List Opened) (d : Bool) (change : List ℕ × Option (List ℕ))
    → mirrored trees (upon t token p delta os) (property_command d token change)
    ≡ Some (upon (with_node p (option_map (with_value change.0 change.1) (t p)) t) token p delta os)
property_set trees t token p delta os true change = named token _
property_set trees t token p delta os false change = named token _

-- the tree in which changes were set at a path
abbrev pub all_set : PathValue → List (List ℕ × Option (List ℕ)) → Nodes → Nodes
all_set p [] t = t
all_set p (change ∷ changes) t = all_set p changes (with_node p (option_map (with_value change.0 change.1) (t p)) t)

pub properties_set : (trees : ℕ → Tree) (t : Nodes) (token : List ℕ) (p : PathValue) (delta : Option (List ℕ)) (os : List Opened) (d : Bool) (changes : List (List ℕ × Option (List ℕ)))
    → Leads trees (upon t token p delta os) (map (property_command d token) changes) (upon (all_set p changes t) token p delta os)
properties_set trees t token p delta os d [] = refl
properties_set trees t token p delta os d (change ∷ changes) =
    leads_first trees (property_command d token change) (map (property_command d token) changes) (upon t token p delta os)
    (upon (with_node p (option_map (with_value change.0 change.1) (t p)) t) token p delta os) (upon (all_set p (change ∷ changes) t) token p delta os)
    (property_set trees t token p delta os d change)
    (properties_set trees (with_node p (option_map (with_value change.0 change.1) (t p)) t) token p delta os d changes)

pub node_here : (p : PathValue) (o : Option Node) (t : Nodes) → with_node p o t p ≡ o
node_here p o t = ap (λ b. if b then o else t p) (same_path_refl p)

pub node_there : (p q : PathValue) (o : Option Node) (t : Nodes) → same_path p q ≡ false → with_node p o t q ≡ t q
node_there p q o t other = ap (λ b. if b then o else t q) other

pub all_here : (p : PathValue) (changes : List (List ℕ × Option (List ℕ))) (t : Nodes) (node : Node) → t p ≡ Some node → all_set p changes t p ≡ Some (with_values changes node)
all_here p [] t node is = is
all_here p (change ∷ changes) t node is =
    all_here p changes (with_node p (option_map (with_value change.0 change.1) (t p)) t) (with_value change.0 change.1 node)
    (node_here p (option_map (with_value change.0 change.1) (t p)) t ∙ ap (option_map (with_value change.0 change.1)) is)

pub all_there : (p q : PathValue) (changes : List (List ℕ × Option (List ℕ))) (t : Nodes) → same_path p q ≡ false → all_set p changes t q ≡ t q
all_there p q [] t other = refl
all_there p q (change ∷ changes) t other =
    all_there p q changes (with_node p (option_map (with_value change.0 change.1) (t p)) t) other
    ∙ node_there p q (option_map (with_value change.0 change.1) (t p)) t other

-- ---- texts

delta_begun : (trees : ℕ → Tree) (t : Nodes) (token : List ℕ) (p : PathValue) (delta : Option (List ℕ)) (os : List Opened)
    → mirrored trees (upon t token p delta os) (ApplyTextDelta token None) ≡ Some (upon t token p (Some []) os)
delta_begun trees t token p delta os = named token _

chunk_kept : (trees : ℕ → Tree) (t : Nodes) (token : List ℕ) (p : PathValue) (before bytes : List ℕ) (os : List Opened)
    → mirrored trees (upon t token p (Some before) os) (TextDeltaChunk token bytes) ≡ Some (upon t token p (Some (before ++ bytes)) os)
chunk_kept trees t token p before bytes os = named token _

chunks_kept : (trees : ℕ → Tree) (t : Nodes) (token : List ℕ) (p : PathValue) (before : List ℕ) (chunks : List (List ℕ)) (os : List Opened)
    → Leads trees (upon t token p (Some before) os) (map (TextDeltaChunk token) chunks) (upon t token p (Some (before ++ concat chunks)) os)
chunks_kept trees t token p before [] os = ap (λ xs. Some (upon t token p (Some xs) os)) (sym (append-nil before))
chunks_kept trees t token p before (bytes ∷ chunks) os =
    leads_first trees (TextDeltaChunk token bytes) (map (TextDeltaChunk token) chunks) (upon t token p (Some before) os) (upon t token p (Some (before ++ bytes)) os)
    (upon t token p (Some (before ++ concat (bytes ∷ chunks))) os) (chunk_kept trees t token p before bytes os)
    (chunks_kept trees t token p (before ++ bytes) chunks os ∙ ap (λ xs. Some (upon t token p (Some xs) os)) (append_assoc before bytes (concat chunks)))

-- a text comes to stand where a file stands
abbrev pub with_text : PathValue → List ℕ → Nodes → Nodes
with_text p text t = with_node p (option_map (λ (node : Node). (File text, node.1)) (t p)) t

delta_ended : (trees : ℕ → Tree) (t : Nodes) (token : List ℕ) (p : PathValue) (document before text : List ℕ) (os : List Opened) → text_at t p ≡ Some before
    → document_text before document ≡ Ok text → mirrored trees (upon t token p (Some document) os) (TextDeltaEnd token) ≡ Some (upon (with_text p text t) token p None os)
delta_ended trees t token p document before text os had read =
    named token _
    ∙ ap (λ o. ends_delta (upon t token p (Some document) os) (record { token = token; path = p; delta = Some document }) os o (Some document)) had
    ∙ ap (sets_text (upon t token p (Some document) os) (record { token = token; path = p; delta = Some document }) os) read

-- a delta leads to its text
pub text_set : (trees : ℕ → Tree) (t : Nodes) (token : List ℕ) (p : PathValue) (delta : Option (List ℕ)) (before text : List ℕ) (chunks : List (List ℕ)) (os : List Opened)
    → text_at t p ≡ Some before → document_text before (concat chunks) ≡ Ok text
    → Leads trees (upon t token p delta os) (text_commands token chunks) (upon (with_text p text t) token p None os)
text_set trees t token p delta before text chunks os had read =
    leads_first trees (ApplyTextDelta token None) (map (TextDeltaChunk token) chunks ++ TextDeltaEnd token ∷ []) (upon t token p delta os) (upon t token p (Some []) os)
    (upon (with_text p text t) token p None os) (delta_begun trees t token p delta os)
    (leads_on trees (map (TextDeltaChunk token) chunks) (TextDeltaEnd token ∷ []) (upon t token p (Some []) os) (upon t token p (Some (concat chunks)) os)
    (upon (with_text p text t) token p None os) (chunks_kept trees t token p [] chunks os)
    (leads_one trees (TextDeltaEnd token) (upon t token p (Some (concat chunks)) os) (upon (with_text p text t) token p None os)
    (delta_ended trees t token p (concat chunks) before text os had read)))

-- ---- closes

pub directory_closed : (trees : ℕ → Tree) (t : Nodes) (token : List ℕ) (p : PathValue) (delta : Option (List ℕ)) (os : List Opened)
    → mirrored trees (upon t token p delta os) (CloseDirectory token) ≡ Some (record { tree = t; opened = os })
directory_closed trees t token p delta os = named token _

pub file_closed : (trees : ℕ → Tree) (t : Nodes) (token : List ℕ) (p : PathValue) (delta : Option (List ℕ)) (os : List Opened) (text : List ℕ) → text_at t p ≡ Some text
    → mirrored trees (upon t token p delta os) (CloseFile token (Some (encode_lower (md5 text)))) ≡ Some (record { tree = t; opened = os })
file_closed trees t token p delta os text is =
    let digits = encode_lower (md5 text) in
    named token _
    ∙ ap (λ o. closes_file (upon t token p delta os) os o (Some digits)) is
    ∙ ap (λ b. if b then Some (record { tree = t; opened = os }) else None) (same_component_refl digits)
