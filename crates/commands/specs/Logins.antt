-- What a client sends before its first command.
use Rattle.std.specs.Prelude.{ℕ, Bool, true, false, ◌||◌, List, Option, Some, None, ok_or, Result, codes, if◌then◌else◌}
use Rattle.items.specs.Values.{ItemValue, ItemValues, list, more, none, number, string, word}
use Rattle.wire_forms.specs.Forms.{◌>>=◌, is_name, items_in, word_first, number_first, string_first, list_first, optional_string}
use Rattle.wire_forms.specs.{declared.fault.CommandFault.CommandFault, declared.fault.CommandFault.TheVariants.BadParameters}
use Rattle.commands.specs.{declared.login.ClientGreeting.ClientGreeting, declared.login.AuthResponse.AuthResponse}

-- each is a word
abbrev pub are_words : ItemValues → Bool
are_words none = true
are_words (more (word w) rest) = are_words rest
are_words (more _ rest) = false

-- the word is among them
abbrev pub has_word : List ℕ → ItemValues → Bool
has_word name none = false
has_word name (more (word w) rest) = is_name w name || has_word name rest
has_word name (more _ rest) = has_word name rest

-- `? ra-client ( ? client )`: nothing, or both; the client, if the list has one
abbrev pub optional_client : ItemValues → Option (Option (List ℕ))
optional_client none = Some None
optional_client items = do
  (_, rest) ← string_first items
  (client, _) ← list_first rest
  optional_string client

-- `( version ( capability ... ) url ? ra-client ( ? client ) )`
abbrev pub greeting : ItemValue → Option ClientGreeting
greeting item = do
  items ← items_in item
  (version, rest) ← number_first items
  (capabilities, rest) ← list_first rest
  (url, rest) ← string_first rest
  _ ← optional_client rest
  let edit_pipeline = has_word (codes "edit-pipeline") capabilities
  let mergeinfo = has_word (codes "mergeinfo") capabilities
  if are_words capabilities
      then Some (record { version = version; edit_pipeline = edit_pipeline; mergeinfo = mergeinfo; url = url })
      else None

-- the client's answer to the greeting that an item is, or why it is none
abbrev pub client_greeting : ItemValue → Result ClientGreeting CommandFault
client_greeting item = ok_or (greeting item) BadParameters

-- `( mechanism [ token ] )`
abbrev pub response : ItemValue → Option AuthResponse
response item = do
  items ← items_in item
  (mechanism, rest) ← word_first items
  (token, _) ← list_first rest
  token ← optional_string token
  Some (record { mechanism = mechanism; token = token })

-- the choice of a mechanism that an item is, or why it is none
abbrev pub auth_response : ItemValue → Result AuthResponse CommandFault
auth_response item = ok_or (response item) BadParameters

-- the answer to a challenge that an item is: a string
abbrev pub challenge_answer : ItemValue → Option (List ℕ)
challenge_answer (word w) = None
challenge_answer (number n) = None
challenge_answer (string s) = Some s
challenge_answer (list items) = None
