use Rattle.std.specs.Prelude.{ℕ, ◌+◌, ◌&&◌, List, [], ◌++◌, take, Option, Some, None, Bool, true, false, not, nat_eq, if◌then◌else◌}
use Rattle.std.specs.Option.{option_map_or}
use Rattle.host_port.specs.declared.request.Request.{Request}
use Rattle.host_port.specs.declared.reply.Reply.{Reply}
use Rattle.host_port.specs.declared.reply.Word.{Word}
use Rattle.host_port.specs.declared.reply.Text.{Text}
use Rattle.world_rules.specs.declared.entry.Side.{Side}
use Rattle.world_rules.specs.Views.{answer_in, is_pending}
use Rattle.world_rules.specs.Calls.{HostCall, call_of, arg}
use Rattle.world_rules.specs.Calls as CallIs

-- What was read from a stream and written to it, and how often it failed, was empty or made its holder wait.

-- the bytes of all finished reads, and of all finished writes; the replies 1; the replies 0 with count 0 although bytes
-- were asked for; the gives in which the stream could not answer yet
pub record Streamed : Type 0 where
  pub taken : List ℕ
  pub put : List ℕ
  pub faults : ℕ
  pub empties : ℕ
  pub waits : ℕ

-- a stream that was just opened
abbrev pub nothing_streamed : Streamed
nothing_streamed = record { taken = []; put = []; faults = 0; empties = 0; waits = 0 }

-- the number of a word, and the bytes of a text; without them 0, and none
abbrev pub word_value : Option Word → ℕ
word_value word = option_map_or (λ (w : Word). w.value) word 0

abbrev pub text_bytes : Option Text → List ℕ
text_bytes text = option_map_or (λ (t : Text). t.bytes) text []

-- a reply has this result
abbrev pub has_result : ℕ → Reply → Bool
has_result n reply = option_map_or (λ (result : ℕ). nat_eq result n) reply.result false

-- one more where it is so
abbrev pub one_if : Bool → ℕ → ℕ
one_if true n = n + 1
one_if false n = n

-- a reply 0 with count 0, although bytes were asked for (the third argument is how many)
abbrev pub is_empty_answer : Request → Reply → Bool
is_empty_answer request reply = has_result 0 reply && nat_eq (word_value reply.word) 0 && not (nat_eq (arg request 2) 0)

-- the counts after an answer to a read or a write
abbrev pub counted : Request → Reply → Streamed → Streamed
counted request reply s = record s {
  faults = one_if (has_result 1 reply) s.faults;
  empties = one_if (is_empty_answer request reply) s.empties;
}

-- a finished read gives its text; a finished write takes as many of the offered bytes as its word tells
abbrev pub bytes_read : Reply → List ℕ
bytes_read reply = if has_result 0 reply then text_bytes reply.text else []

abbrev pub bytes_written : Request → Reply → List ℕ
bytes_written request reply = if has_result 0 reply then take (word_value reply.word) request.first else []

-- a stream after an answer to a call
abbrev pub after_answer : HostCall → Request → Reply → Streamed → Streamed
after_answer CallIs.ReadStream request reply s =
    record (counted request reply s) { taken = s.taken ++ bytes_read reply }
after_answer CallIs.WriteStream request reply s =
    record (counted request reply s) { put = s.put ++ bytes_written request reply }
after_answer _ request reply s = s

-- a stream after a call that it could not answer yet
abbrev pub after_pending : HostCall → Streamed → Streamed
after_pending CallIs.ReadStream s = record s { waits = s.waits + 1 }
after_pending CallIs.WriteStream s = record s { waits = s.waits + 1 }
after_pending _ s = s

-- a stream after what came beside a call
abbrev pub after_side : HostCall → Request → Side → Streamed → Streamed
after_side call request side s =
    option_map_or (λ (reply : Reply). after_answer call request reply s) (answer_in side) (if is_pending side
    then after_pending call s else s)

-- STREAMED. What was streamed on each stream, after a give with this request and this side; a read or a write names its
-- stream first.
abbrev pub streamed_by : Option HostCall → Request → Side → (ℕ → Streamed) → ℕ → Streamed
streamed_by None request side streamed handle = streamed handle
streamed_by (Some call) request side streamed handle =
    if nat_eq handle (arg request 0) then after_side call request side (streamed handle) else streamed handle
