-- Where the host is asked: the flat machine that waits, and what a reply makes of it.
use Rattle.std.specs.Prelude.{◌≡◌, ℕ, List, [], ◌∷◌, ◌++◌, length, Option, Some, option_and_then, option_to_list}
use Rattle.host_port.specs.declared.reply.Reply.{Reply}
use Rattle.wasm_form.specs.declared.parts.Parts.{Parts}
use Rattle.code_map.specs.declared.body_map.BodyMap.{BodyMap}
use Rattle.tree_machine.specs.Config.{Config, bytes_of, with_bytes}
use Rattle.tree_machine.specs.Point.{settle}
use Rattle.tree_machine.specs.Replies.{write_text, write_word, replied}
use Rattle.tree_machine.specs.Typed.{IsTyped}
use Rattle.flat_machine.specs.Flat.{Flat}
use Rattle.flat_machine.specs.Tells.{Tells}
use Rattle.flat_machine.specs.Mapping.{Waits, PlacesMapped, Follows}

-- the flat machine stands for this configuration, and the maps of the bodies lead it on once the function at work has
-- been given so many results
pub record FollowsGiven (m : Parts) (maps : List BodyMap) (given : ℕ) (flat : Flat) (c : Config) : Type 0 where
  pub tells : Tells m flat c
  pub waits : Waits c.frames
  pub mapped : PlacesMapped m maps given (flat.place ∷ flat.callers) c.frames

-- the bytes of a memory after a reply: the text is written first, and then the word
abbrev pub replied_bytes : Reply → (bytes : List ℕ) → Option (List ℕ)
replied_bytes reply bytes = option_and_then (write_word reply.word) (write_text reply.text bytes)

-- the machine with these bytes in its memory, and with the result, if there is one, on top
abbrev pub resume : (result : Option ℕ) → (bytes : List ℕ) → Flat → Flat
resume result bytes flat =
    record flat { values = option_to_list result ++ flat.values; memory = with_bytes bytes flat.memory }

-- The run goes on from the reply, and the machine with the reply stands for a typed configuration at the same point of
-- it. The memory is as large as before.
pub record Resumes (m : Parts) (maps : List BodyMap) (flat : Flat) (c : Config) (reply : Reply) : Type 0 where
  pub bytes : List ℕ
  pub written : replied_bytes reply (bytes_of flat.memory) ≡ Some bytes
  pub size : length bytes ≡ length (bytes_of flat.memory)
  pub to : Config
  pub goes_on : replied m c reply ≡ Some (settle m to)
  pub typed : IsTyped m [] to
  pub follows : Follows m maps (resume reply.result bytes flat) to
