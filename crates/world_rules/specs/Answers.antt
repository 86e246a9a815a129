use Rattle.std.specs.Prelude.{ℕ, List, Some, None}
use Rattle.host_port.specs.declared.reply.Reply.{Reply}

-- The replies that rules give.

-- nothing
abbrev pub empty_reply : Reply
empty_reply = record { result = None; word = None; text = None }

-- a number
abbrev pub number_reply : ℕ → Reply
number_reply n = record { result = Some n; word = None; text = None }

-- a number, and eight bytes written at this address
abbrev pub written_reply : (result addr value : ℕ) → Reply
written_reply result addr value =
    record { result = Some result; word = Some (record { addr = addr; width = 8; value = value }); text = None }

-- the count of bytes that are written at this address
abbrev pub text_reply : (count addr : ℕ) → List ℕ → Reply
text_reply count addr bytes =
    record { result = Some count; word = None; text = Some (record { addr = addr; bytes = bytes }) }
