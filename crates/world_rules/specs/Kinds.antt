use Rattle.std.specs.Prelude.{ℕ, ◌++◌, sum_by, Bool, false, Option, option_map}
use Rattle.std.specs.Option.{option_map_or, option_and_then}
use Rattle.host_port.specs.declared.request.Request.{Request}
use Rattle.host_port.specs.declared.reply.Reply.{Reply}
use Rattle.host_port.specs.declared.row.Kind.{Kind}
use Rattle.host_port.specs.declared.row.MayCome.{MayCome}
use Rattle.host_port.specs.Rows.{Row}
use Rattle.host_port.specs.HostTable.{Area, known_row_of, is_local_kind, areas_read_by, areas_written_by}
use Rattle.host_port.specs.Forms.{IsResult, KeepsCount, IsText, IsWord}

-- What the row of a call says of a request. The rules hold for every call that the host table knows, served or not.

-- the row of the call that a request asks for
abbrev pub row_for : Request → Option Row
row_for request = known_row_of request.ask.call

-- who performs it
abbrev pub kind_of : Request → Option Kind
kind_of request = option_map (λ (row : Row). row.kind) (row_for request)

-- the turn itself answers it
abbrev pub is_local : Request → Bool
is_local request = is_local_kind (kind_of request)

-- what may come beside it in an entry
abbrev pub may_come : Request → Option MayCome
may_come request = option_map (λ (row : Row). row.may_come) (row_for request)

-- the world may refuse memory to it, and then answers 12
abbrev pub is_refusable : Request → Bool
is_refusable request = option_map_or (λ (row : Row). row.refusable) (row_for request) false

-- how many bytes the areas have that it reads or writes
abbrev pub area_bytes : Request → ℕ
area_bytes request =
    sum_by (λ (area : Area). area.len)
    (areas_read_by (row_for request) request.ask ++ areas_written_by (row_for request) request.ask)

-- a reply has the form of the call: its result is one that the call may give, a count among them no more than was
-- asked for, and it writes what the call writes with that result
pub record HasRowForm (request : Request) (reply : Reply) : Type 0 where
  pub result : IsResult (option_map (λ (row : Row). row.results) (row_for request)) reply.result
  pub count : KeepsCount (option_map (λ (row : Row). row.results) (row_for request)) request.ask.args reply.result
  pub text : IsText (option_and_then (λ (row : Row). row.text)
      (row_for request)) request.ask.args reply.result reply.text
  pub word : IsWord (option_and_then (λ (row : Row). row.word)
      (row_for request)) request.ask.args reply.result reply.text reply.word
