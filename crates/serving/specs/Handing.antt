-- What a server hands to its sessions.
use Rattle.std.specs.{Prelude.◌≡◌, Int.{from_le_bytes, w128}}
use Rattle.rand_core.specs.Stream.{Stream, fill_bytes, next_u64}
use Rattle.machine.specs.declared.env.Env.{Env}

-- The number for tokens and the nonce are what a generator answers next: the number of 16 bytes, and
-- then a word. Nothing is known of the moment, which a clock shows.
abbrev pub HandsIn : Stream → Env → Stream → Type 0
HandsIn old env new =
    let drawn = fill_bytes 16 old in
    (env.token ≡ from_le_bytes w128 drawn.0) × ((env.nonce, new) ≡ next_u64 drawn.1)
