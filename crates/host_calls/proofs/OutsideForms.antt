-- The answers of the calls of the outside have the form of their call, and may stand beside it.
use Rattle.std.proofs.Common.{◌≡◌, ◌≢◌, inl, inr, ℕ, ◌+◌, ◌<◌, ◌≤◌, ◌^◌, ◌&&◌, Bool, true, false, cond, nat_le, nat_eq, length, List, [], slice_index, All, Option, Some, arith, refl, sym, ap, subst, ◌∙◌}
use Rattle.std.proofs.lemmas.Bool.Decides.{nat_tests, eqb_tells}
use Rattle.host_port.specs.declared.ask.Ask.{Ask}
use Rattle.host_port.specs.declared.reply.Reply.{Reply}
use Rattle.host_port.specs.declared.request.Request.{Request}
use Rattle.host_port.specs.declared.row.MayCome.{MayCome}
use Rattle.host_port.specs.Areas.{request_of, first_bytes, bytes_at, text_fits, word_fits}
use Rattle.host_port.specs.Forms.{HasParts}
use Rattle.host_port.specs.HostTable.{Row, all_rows, is_served, known_row_of, row_of, areas_read}
use Rattle.host_port.specs.NetworkRows.{tcp_bind, tcp_local_port, tcp_accept, tcp_connect, tcp_read, tcp_write}
use Rattle.host_port.proofs.Requests.{fit_is, read_is, all_fit}
use Rattle.world_rules.specs.declared.entry.Side.{Side}
use Rattle.world_rules.specs.declared.entry.Side.TheVariants as SideIs
use Rattle.world_rules.specs.Answers.{number_reply, written_reply}
use Rattle.world_rules.specs.Calls.{HostCall, call_of, call_numbered}
use Rattle.world_rules.specs.Calls as CallIs
use Rattle.world_rules.specs.Kinds.{HasRowForm, may_come}
use Rattle.world_rules.specs.Part.{Part}
use Rattle.world_rules.specs.World.{World}
use Rattle.world_rules.specs.Allowed.{SideFits, AnswerFits, OwnAnswerFits, PendingFits, handles_full, listeners_full}
use Rattle.host_calls.specs.OutsideSteps.{moved_reply, count_reply}

-- NUMBERS

pub same_number : (n : ℕ) → nat_eq n n ≡ true
same_number n = elim (eqb_tells n n) as (λ _. nat_eq n n ≡ true) [ inl same ↦ same.0 | inr other ↦ absurd (other.1 refl) ]

pub differs : (a b : ℕ) → a ≢ b → nat_eq a b ≡ false
differs a b ne = elim (eqb_tells a b) as (λ _. nat_eq a b ≡ false) [ inl same ↦ absurd (ne same.1) | inr other ↦ other.0 ]

pub not_same : (a b : ℕ) → nat_eq a b ≡ false → a ≡ b → ⊥
not_same a b e same = grind (arith, nat_tests)

pub is_same : (a b : ℕ) → nat_eq a b ≡ true → a ≡ b
is_same a b e = grind (arith, nat_tests)

-- ROWS

pub bind_known : known_row_of 27 ≡ Some tcp_bind
unfolding known_row_of all_rows
bind_known = refl

pub local_port_known : known_row_of 28 ≡ Some tcp_local_port
unfolding known_row_of all_rows
local_port_known = refl

pub accept_known : known_row_of 29 ≡ Some tcp_accept
unfolding known_row_of all_rows
accept_known = refl

pub connect_known : known_row_of 30 ≡ Some tcp_connect
unfolding known_row_of all_rows
connect_known = refl

pub read_known : known_row_of 31 ≡ Some tcp_read
unfolding known_row_of all_rows
read_known = refl

pub write_known : known_row_of 32 ≡ Some tcp_write
unfolding known_row_of all_rows
write_known = refl

bind_row : row_of 27 ≡ Some tcp_bind
unfolding row_of all_rows is_served
bind_row = refl

read_row : row_of 31 ≡ Some tcp_read
unfolding row_of all_rows is_served
read_row = refl

write_row : row_of 32 ≡ Some tcp_write
unfolding row_of all_rows is_served
write_row = refl

-- BESIDE

-- a request for the call of this row and name
pub record IsFor (request : Request) (row : Row) (name : HostCall) : Type 0 where
  pub row_is : known_row_of request.ask.call ≡ Some row
  pub named : call_of request ≡ Some name

for_call : (request : Request) (call : ℕ) (row : Row) (name : HostCall) → request.ask.call ≡ call → known_row_of call ≡ Some row → call_numbered call ≡ Some name → IsFor request row name
for_call request call row name called is named = record { row_is = ap known_row_of called ∙ is; named = ap call_numbered called ∙ named }

pub bind_for : (request : Request) → request.ask.call ≡ 27 → IsFor request tcp_bind CallIs.Bind
bind_for request called = for_call request 27 tcp_bind CallIs.Bind called bind_known refl

pub local_port_for : (request : Request) → request.ask.call ≡ 28 → IsFor request tcp_local_port CallIs.LocalPort
local_port_for request called = for_call request 28 tcp_local_port CallIs.LocalPort called local_port_known refl

pub accept_for : (request : Request) → request.ask.call ≡ 29 → IsFor request tcp_accept CallIs.Accept
accept_for request called = for_call request 29 tcp_accept CallIs.Accept called accept_known refl

pub connect_for : (request : Request) → request.ask.call ≡ 30 → IsFor request tcp_connect CallIs.Connect
connect_for request called = for_call request 30 tcp_connect CallIs.Connect called connect_known refl

pub read_for : (request : Request) → request.ask.call ≡ 31 → IsFor request tcp_read CallIs.ReadStream
read_for request called = for_call request 31 tcp_read CallIs.ReadStream called read_known refl

pub write_for : (request : Request) → request.ask.call ≡ 32 → IsFor request tcp_write CallIs.WriteStream
write_for request called = for_call request 32 tcp_write CallIs.WriteStream called write_known refl

form_by : (request : Request) (reply : Reply) (row : Row) → known_row_of request.ask.call ≡ Some row → HasParts (Some row.results) row.text row.word request.ask.args reply → HasRowForm request reply
form_by request reply row is parts = record {
  result = rw is parts.result;
  count = rw is parts.count;
  text = rw is parts.text_is;
  word = rw is parts.word_is;
}

beside_by : (request : Request) (row : Row) → known_row_of request.ask.call ≡ Some row → may_come request ≡ Some row.may_come
beside_by request row is = rw is refl

side_by : (request : Request) (row : Row) (name : HostCall) → IsFor request row name → (part : Part) (side : Side) → ((w : World) (pid : ℕ) → SideFits (Some row.may_come) w pid part request side) →
    (w : World) (pid : ℕ) → SideFits (may_come request) w pid part request side
side_by request row name is part side fits w pid = subst (λ (m : Option MayCome). SideFits m w pid part request side) (sym (beside_by request row is.row_is)) (fits w pid)

answer_by : (request : Request) (row : Row) (name : HostCall) → IsFor request row name → (part : Part) (reply : Reply) → HasParts (Some row.results) row.text row.word request.ask.args reply →
    OwnAnswerFits (Some name) part request reply → AnswerFits part request reply
answer_by request row name is part reply parts own = record {
  form = form_by request reply row is.row_is parts;
  own = subst (λ (call : Option HostCall). OwnAnswerFits call part request reply) (sym is.named) own;
}

pending_by : (request : Request) (row : Row) (name : HostCall) → IsFor request row name → (part : Part) → PendingFits (Some name) part request → PendingFits (call_of request) part request
pending_by request row name is part fits = subst (λ (call : Option HostCall). PendingFits call part request) (sym is.named) fits

abbrev pub Beside : Part → Request → Side → Type 0
Beside part request side = (w : World) (pid : ℕ) → SideFits (may_come request) w pid part request side

module _ (request : Request) (part : Part) where
  -- BIND

  bind_plain : (n : ℕ) → HasParts (Some tcp_bind.results) tcp_bind.text tcp_bind.word request.ask.args (number_reply n) → nat_eq n 0 ≡ false → nat_eq n 2 ≡ listeners_full part →
      IsFor request tcp_bind CallIs.Bind → Beside part request (SideIs.Answer (number_reply n))
  bind_plain n parts nonzero full is =
      side_by request tcp_bind CallIs.Bind is part (SideIs.Answer (number_reply n))
      (λ w pid. answer_by request tcp_bind CallIs.Bind is part (number_reply n) parts (record { full = full; number = λ zero. absurd (cc) }))

  pub bind_failed : listeners_full part ≡ false → IsFor request tcp_bind CallIs.Bind → Beside part request (SideIs.Answer (number_reply 1))
  bind_failed full is = bind_plain 1 (record { result = (1, omega arith, refl); count = tt; text_is = refl; word_is = refl }) refl (sym full) is

  pub bind_full : listeners_full part ≡ true → IsFor request tcp_bind CallIs.Bind → Beside part request (SideIs.Answer (number_reply 2))
  bind_full full is = bind_plain 2 (record { result = (2, omega arith, refl); count = tt; text_is = refl; word_is = refl }) refl (sym full) is

  pub bind_starved : listeners_full part ≡ false → IsFor request tcp_bind CallIs.Bind → Beside part request (SideIs.Answer (number_reply 12))
  bind_starved full is = bind_plain 12 (record { result = (3, omega arith, refl); count = tt; text_is = refl; word_is = refl }) refl (sym full) is

  pub bind_done : (addr : ℕ) → addr ≡ slice_index request.ask.args 2 → part.next_listener < 2 ^ 64 → listeners_full part ≡ false → IsFor request tcp_bind CallIs.Bind →
      Beside part request (SideIs.Answer (written_reply 0 addr part.next_listener))
  bind_done addr at small full is =
      side_by request tcp_bind CallIs.Bind is part (SideIs.Answer (written_reply 0 addr part.next_listener))
      (λ w pid. answer_by request tcp_bind CallIs.Bind is part (written_reply 0 addr part.next_listener)
      (record { result = (0, omega arith, refl); count = tt; text_is = refl; word_is = record { addr = at; width = refl; fits = small; value = tt } })
      (record { full = sym full; number = λ zero. refl }))

  -- LOCAL PORT

  pub port_told : (port : ℕ) → port < 65536 → IsFor request tcp_local_port CallIs.LocalPort → Beside part request (SideIs.Answer (number_reply port))
  port_told port small is =
      side_by request tcp_local_port CallIs.LocalPort is part (SideIs.Answer (number_reply port))
      (λ w pid. answer_by request tcp_local_port CallIs.LocalPort is part (number_reply port)
      (record { result = omega arith; count = tt; text_is = refl; word_is = refl }) tt)

  -- ACCEPT

  accept_plain : (n : ℕ) → HasParts (Some tcp_accept.results) tcp_accept.text tcp_accept.word request.ask.args (number_reply n) → nat_eq n 0 ≡ false → nat_eq n 2 ≡ handles_full part →
      IsFor request tcp_accept CallIs.Accept → Beside part request (SideIs.Answer (number_reply n))
  accept_plain n parts nonzero full is =
      side_by request tcp_accept CallIs.Accept is part (SideIs.Answer (number_reply n))
      (λ w pid. answer_by request tcp_accept CallIs.Accept is part (number_reply n) parts (record { full = full; unopened = nonzero }))

  pub accept_failed : handles_full part ≡ false → IsFor request tcp_accept CallIs.Accept → Beside part request (SideIs.Answer (number_reply 1))
  accept_failed full is = accept_plain 1 (record { result = (1, omega arith, refl); count = tt; text_is = refl; word_is = refl }) refl (sym full) is

  pub accept_full : handles_full part ≡ true → IsFor request tcp_accept CallIs.Accept → Beside part request (SideIs.Answer (number_reply 2))
  accept_full full is = accept_plain 2 (record { result = (2, omega arith, refl); count = tt; text_is = refl; word_is = refl }) refl (sym full) is

  pub accept_starved : handles_full part ≡ false → IsFor request tcp_accept CallIs.Accept → Beside part request (SideIs.Answer (number_reply 12))
  accept_starved full is = accept_plain 12 (record { result = (3, omega arith, refl); count = tt; text_is = refl; word_is = refl }) refl (sym full) is

  pub accept_pending : handles_full part ≡ false → IsFor request tcp_accept CallIs.Accept → Beside part request SideIs.Pending
  accept_pending full is =
      side_by request tcp_accept CallIs.Accept is part SideIs.Pending (λ w pid. pending_by request tcp_accept CallIs.Accept is part full)

  pub accept_opened : handles_full part ≡ false → IsFor request tcp_accept CallIs.Accept → Beside part request SideIs.Opened
  accept_opened full is = side_by request tcp_accept CallIs.Accept is part SideIs.Opened (λ w pid. full)

  -- CONNECT

  connect_plain : (n : ℕ) → HasParts (Some tcp_connect.results) tcp_connect.text tcp_connect.word request.ask.args (number_reply n) → nat_eq n 0 ≡ false → nat_eq n 2 ≡ handles_full part →
      IsFor request tcp_connect CallIs.Connect → Beside part request (SideIs.Answer (number_reply n))
  connect_plain n parts nonzero full is =
      side_by request tcp_connect CallIs.Connect is part (SideIs.Answer (number_reply n))
      (λ w pid. answer_by request tcp_connect CallIs.Connect is part (number_reply n) parts (record { full = full; unopened = nonzero }))

  pub connect_failed : handles_full part ≡ false → IsFor request tcp_connect CallIs.Connect → Beside part request (SideIs.Answer (number_reply 1))
  connect_failed full is = connect_plain 1 (record { result = (1, omega arith, refl); count = tt; text_is = refl; word_is = refl }) refl (sym full) is

  pub connect_full : handles_full part ≡ true → IsFor request tcp_connect CallIs.Connect → Beside part request (SideIs.Answer (number_reply 2))
  connect_full full is = connect_plain 2 (record { result = (2, omega arith, refl); count = tt; text_is = refl; word_is = refl }) refl (sym full) is

  pub connect_starved : handles_full part ≡ false → IsFor request tcp_connect CallIs.Connect → Beside part request (SideIs.Answer (number_reply 12))
  connect_starved full is = connect_plain 12 (record { result = (3, omega arith, refl); count = tt; text_is = refl; word_is = refl }) refl (sym full) is

  pub connect_opened : handles_full part ≡ false → IsFor request tcp_connect CallIs.Connect → Beside part request SideIs.Opened
  connect_opened full is = side_by request tcp_connect CallIs.Connect is part SideIs.Opened (λ w pid. full)

  -- READ

  pub read_failed : (slice_index request.ask.args 2 ≡ 0 → ⊥) → IsFor request tcp_read CallIs.ReadStream → Beside part request (SideIs.Answer (number_reply 1))
  read_failed some is =
      side_by request tcp_read CallIs.ReadStream is part (SideIs.Answer (number_reply 1))
      (λ w pid. answer_by request tcp_read CallIs.ReadStream is part (number_reply 1)
      (record { result = (1, omega arith, refl); count = tt; text_is = refl; word_is = refl }) (λ none. absurd (some none)))

  pub read_pending : (slice_index request.ask.args 2 ≡ 0 → ⊥) → IsFor request tcp_read CallIs.ReadStream → Beside part request SideIs.Pending
  read_pending some is =
      side_by request tcp_read CallIs.ReadStream is part SideIs.Pending (λ w pid. pending_by request tcp_read CallIs.ReadStream is part (omega (arith, some)))

  pub read_done : (addr count_addr : ℕ) (bytes : List ℕ) → addr ≡ slice_index request.ask.args 1 → count_addr ≡ slice_index request.ask.args 3 → All (λ b. b < 2 ^ 8) bytes →
      length bytes ≤ slice_index request.ask.args 2 → length bytes ≤ 65536 → IsFor request tcp_read CallIs.ReadStream → Beside part request (SideIs.Answer (moved_reply addr bytes count_addr))
  read_done addr count_addr bytes at count_at octets within few is =
      let reply = moved_reply addr bytes count_addr in
      side_by request tcp_read CallIs.ReadStream is part (SideIs.Answer reply)
      (λ w pid. answer_by request tcp_read CallIs.ReadStream is part reply
      (record {
        result = (0, omega arith, refl);
        count = tt;
        text_is = record { octets = octets; addr = at; within = within; most = few; counted = tt };
        word_is = record { addr = count_at; width = refl; fits = omega arith; value = refl };
      })
      (λ none. record { result = refl; count = omega arith }))

  -- WRITE

  pub write_failed : (slice_index request.ask.args 2 ≡ 0 → ⊥) → IsFor request tcp_write CallIs.WriteStream → Beside part request (SideIs.Answer (number_reply 1))
  write_failed some is =
      side_by request tcp_write CallIs.WriteStream is part (SideIs.Answer (number_reply 1))
      (λ w pid. answer_by request tcp_write CallIs.WriteStream is part (number_reply 1)
      (record { result = (1, omega arith, refl); count = tt; text_is = refl; word_is = refl }) (λ none. absurd (some none)))

  pub write_pending : (slice_index request.ask.args 2 ≡ 0 → ⊥) → IsFor request tcp_write CallIs.WriteStream → Beside part request SideIs.Pending
  write_pending some is =
      side_by request tcp_write CallIs.WriteStream is part SideIs.Pending (λ w pid. pending_by request tcp_write CallIs.WriteStream is part (omega (arith, some)))

  pub write_done : (count count_addr : ℕ) → count_addr ≡ slice_index request.ask.args 3 → count ≤ slice_index request.ask.args 2 → count ≤ 65536 → IsFor request tcp_write CallIs.WriteStream →
      Beside part request (SideIs.Answer (count_reply count count_addr))
  write_done count count_addr at within few is =
      let reply = count_reply count count_addr in
      side_by request tcp_write CallIs.WriteStream is part (SideIs.Answer reply)
      (λ w pid. answer_by request tcp_write CallIs.WriteStream is part reply
      (record {
        result = (0, omega arith, refl);
        count = tt;
        text_is = refl;
        word_is = record { addr = at; width = refl; fits = omega arith; value = (within, few) };
      })
      (λ none. record { result = refl; count = omega arith }))

-- AREAS

pub both_true : (a b : Bool) → (a && b) ≡ true → (a ≡ true) × (b ≡ true)
both_true true true e = (refl, refl)
both_true true false e = absurd (cc)
both_true false b e = absurd (cc)

le_true : (a b : ℕ) → nat_le a b ≡ true → a ≤ b
le_true a b e = grind (arith, nat_tests)

module _ (memory : List ℕ) (ask : Ask) (fits : (request_of memory ask).fits ≡ true) where
  all_fits : (call : ℕ) (row : Row) → ask.call ≡ call → row_of call ≡ Some row → all_fit memory ask.args row.reads row.text row.word ≡ true
  all_fits call row called is = sym (fit_is memory ask row (ap row_of called ∙ is)) ∙ fits

  -- where a bind writes the number
  pub bind_id : ask.call ≡ 27 → slice_index ask.args 2 ≤ length memory
  bind_id called =
      let end : slice_index ask.args 2 + 8 ≤ length memory = le_true _ _ (all_fits 27 tcp_bind called bind_row) in
      omega arith

  -- where a read writes the bytes, and their count
  pub read_address : ask.call ≡ 31 → slice_index ask.args 1 ≤ length memory
  read_address called =
      let both = both_true (text_fits memory ask.args tcp_read.text) (word_fits memory ask.args tcp_read.word) (all_fits 31 tcp_read called read_row) in
      let end : slice_index ask.args 1 + slice_index ask.args 2 ≤ length memory = le_true (slice_index ask.args 1 + slice_index ask.args 2) (length memory) both.0 in
      omega arith

  pub read_count : ask.call ≡ 31 → slice_index ask.args 3 ≤ length memory
  read_count called =
      let both = both_true (text_fits memory ask.args tcp_read.text) (word_fits memory ask.args tcp_read.word) (all_fits 31 tcp_read called read_row) in
      let end : slice_index ask.args 3 + 4 ≤ length memory = le_true (slice_index ask.args 3 + 4) (length memory) both.1 in
      omega arith

  -- the area that a write reads, and where it writes the count
  pub write_within : ask.call ≡ 32 → slice_index ask.args 1 + slice_index ask.args 2 ≤ length memory
  write_within called = le_true _ _ (both_true _ _ (all_fits 32 tcp_write called write_row)).0

  pub write_count : ask.call ≡ 32 → slice_index ask.args 3 ≤ length memory
  write_count called =
      let both = both_true _ (word_fits memory ask.args tcp_write.word) (all_fits 32 tcp_write called write_row) in
      let end : slice_index ask.args 3 + 4 ≤ length memory = le_true (slice_index ask.args 3 + 4) (length memory) both.1 in
      omega arith

  -- the bytes of a write
  pub write_first : ask.call ≡ 32 → (request_of memory ask).first ≡ bytes_at memory (record { addr = slice_index ask.args 1; len = slice_index ask.args 2 })
  write_first called =
      ap (λ (b : Bool). cond b (first_bytes memory (areas_read ask)) []) fits ∙ ap (first_bytes memory) (read_is ask tcp_write (ap row_of called ∙ write_row))
