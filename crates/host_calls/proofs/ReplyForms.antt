-- The reply to a local call has the form of the call, and may be given to the engine.
use Rattle.std.proofs.Common.{◌≡◌, ℕ, ◌+◌, ◌-◌, ◌<◌, ◌≤◌, ◌^◌, ◌&&◌, Bool, true, false, cond, nat_le, nat_lt, is_some, min, take, drop, length, List, [], slice_index, All, IfSome, Option, Some, None, arith, refl, sym, ap, subst, ◌∙◌, if◌then◌else◌}
use Rattle.std.specs.Option.{option_map_or}
use Rattle.std.proofs.lemmas.Bool.Decides.{nat_tests}
use Rattle.std.proofs.lemmas.List.{length-take}
use Rattle.std.proofs.lemmas.Option.{some_pair_parts}
use Rattle.host_port.specs.declared.ask.Ask.{Ask}
use Rattle.host_port.specs.declared.reply.Reply.{Reply}
use Rattle.host_port.specs.declared.reply.Text.{Text}
use Rattle.host_port.specs.declared.request.Request.{Request}
use Rattle.host_port.specs.declared.start.Start.{Start}
use Rattle.host_port.specs.Areas.{areas_fit, request_of, first_bytes, fits_in}
use Rattle.host_port.specs.Forms.{HasParts, HasForm}
use Rattle.host_port.specs.Rows.{Row}
use Rattle.host_port.specs.MessageRows.{create_data, write_data, read_data, seek_data, data_size, get_tag, push_tcp_stream, take_tcp_stream}
use Rattle.host_port.specs.NetworkRows.{drop_tcp_stream, drop_tcp_listener}
use Rattle.host_port.specs.ProcessRows.{process_id}
use Rattle.host_port.specs.PrintRows.{print}
use Rattle.host_port.specs.HostTable as Served
use Rattle.host_port.specs.HostTable.{all_rows, is_served, row_of, areas_of, areas_read, are_sound, area_read}
use Rattle.host_port.specs.Standing.{Phase, Owing}
use Rattle.host_port.specs.Steps.{IsAnswerable}
use Rattle.host_port.proofs.HostLaws.{create_data-row, process_id-row, results_by, text_by, word_by, areas_by, read_by}
use Rattle.world_rules.specs.declared.halt.HostFault.{HostFault}
use Rattle.world_rules.specs.declared.halt.HostFault.TheVariants as FaultIs
use Rattle.world_rules.specs.Answers.{empty_reply, number_reply, text_reply}
use Rattle.world_rules.specs.Calls.{HostCall, call_of, call_numbered, arg}
use Rattle.world_rules.specs.Calls as CallIs
use Rattle.world_rules.specs.Kinds.{is_local}
use Rattle.world_rules.specs.Part.{Part, Scratch, slots_of, handle_at}
use Rattle.world_rules.specs.Judge.{Judgement, Fit, Overdrawn, Faulty, judge, judgement_of, fault_of, own_fault, unless, needs_handle, push_fault, take_fault, cost_of, charged}
use Rattle.world_rules.specs.Local.{local, local_reply, local_part, answer_of, if_fit, reply_from, written_bytes, read_bytes}
use Rattle.host_calls.proofs.Apart.{or_none, unless_so, needed}
use Rattle.host_calls.proofs.Served.{by_served, local_row}

-- the rows of the local calls that are served
write_data-row : row_of 1 ≡ Some write_data
unfolding row_of all_rows is_served
write_data-row = refl

read_data-row : row_of 2 ≡ Some read_data
unfolding row_of all_rows is_served
read_data-row = refl

seek_data-row : row_of 3 ≡ Some seek_data
unfolding row_of all_rows is_served
seek_data-row = refl

data_size-row : row_of 4 ≡ Some data_size
unfolding row_of all_rows is_served
data_size-row = refl

get_tag-row : row_of 5 ≡ Some get_tag
unfolding row_of all_rows is_served
get_tag-row = refl

push_tcp_stream-row : row_of 6 ≡ Some push_tcp_stream
unfolding row_of all_rows is_served
push_tcp_stream-row = refl

take_tcp_stream-row : row_of 7 ≡ Some take_tcp_stream
unfolding row_of all_rows is_served
take_tcp_stream-row = refl

drop_tcp_stream-row : row_of 33 ≡ Some drop_tcp_stream
unfolding row_of all_rows is_served
drop_tcp_stream-row = refl

drop_tcp_listener-row : row_of 34 ≡ Some drop_tcp_listener
unfolding row_of all_rows is_served
drop_tcp_listener-row = refl

print-row : row_of 35 ≡ Some print
unfolding row_of all_rows is_served
print-row = refl

-- JUDGED FIT

fit_parts : (fits within : Bool) (fault : Option HostFault) → (if fits then (if within then judgement_of fault else Overdrawn) else Faulty FaultIs.BadPointer) ≡ Fit →
    (fits ≡ true) × (fault ≡ None)
fit_parts true true None is = (refl, refl)
fit_parts true true (Some fault) is = absurd (cc)
fit_parts true false fault is = absurd (cc)
fit_parts false within fault is = absurd (cc)

pub fit_fits : (start : Start) (part : Part) (request : Request) → judge start part request ≡ Fit → request.fits ≡ true
fit_fits start part request fit = (fit_parts request.fits (nat_le (part.traffic + cost_of request) start.limits.traffic) (fault_of (call_of request) part request) fit).0

fit_faultless : (start : Start) (part : Part) (request : Request) → judge start part request ≡ Fit → fault_of (call_of request) part request ≡ None
fit_faultless start part request fit = (fit_parts request.fits (nat_le (part.traffic + cost_of request) start.limits.traffic) (fault_of (call_of request) part request) fit).1

-- ANSWERED

if_fit_answer : (own : Bool) (judgement : Judgement) (answer : Option (Reply × Part)) (reply : Reply) (after : Part) → (if own then if_fit judgement answer else None) ≡ Some (reply, after) →
    answer ≡ Some (reply, after)
if_fit_answer true Fit answer reply after is = is
if_fit_answer true Overdrawn answer reply after is = absurd (cc)
if_fit_answer true (Faulty fault) answer reply after is = absurd (cc)
if_fit_answer false judgement answer reply after is = absurd (cc)

-- the reply of a local call is the one that its name gives
answered_by : (name : HostCall) (start : Start) (part : Part) (request : Request) (reply : Reply) (after : Part) → call_of request ≡ Some name → local start part request ≡ Some (reply, after) →
    reply ≡ local_reply name start part request
answered_by name start part request reply after named is =
    let given = if_fit_answer (is_local request) (judge start part request) (answer_of (call_of request) start part request) reply after is in
    let called : answer_of (Some name) start part request ≡ Some (reply, after) = subst (λ (call : Option HostCall). answer_of call start part request ≡ Some (reply, after)) named given in
    sym (some_pair_parts (local_reply name start part request) reply (local_part name start (charged request part) request) after called).0

-- the fault that a fit request doesn't have
faultless : (name : HostCall) (start : Start) (part : Part) (request : Request) → call_of request ≡ Some name → judge start part request ≡ Fit → own_fault name part request ≡ None
faultless name start part request named fit = subst (λ (call : Option HostCall). fault_of call part request ≡ None) named (fit_faultless start part request fit)

-- FORMS

-- a reply with the parts that its row says has the form of its call
form_by : (ask : Ask) (reply : Reply) (row : Row) → row_of ask.call ≡ Some row → HasParts (Some row.results) row.text row.word ask.args reply → HasForm ask reply
form_by ask reply row is parts = record {
  result = rw (results_by ask.call row is) parts.result;
  count = rw (results_by ask.call row is) parts.count;
  writes = record { text_is = rw (text_by ask.call row is) parts.text_is; word_is = rw (word_by ask.call row is) parts.word_is };
}

-- a call that gives nothing
nothing_given : (ask : Ask) (reply : Reply) → reply ≡ empty_reply → HasParts (Some Served.NoResult) None None ask.args reply
nothing_given ask reply is = rw is (record { result = refl; count = tt; text_is = refl; word_is = refl })

-- a call that gives a number
number_given : (ask : Ask) (reply : Reply) (n : ℕ) → reply ≡ number_reply n → IfSome reply.result (λ r. r < 2 ^ 64) → HasParts (Some Served.AnyI64) None None ask.args reply
number_given ask reply n is small =
    let bound : n < 2 ^ 64 = rw is at small in
    rw is (record { result = bound; count = tt; text_is = refl; word_is = refl })

size_given : (ask : Ask) (reply : Reply) (scratch : Option Scratch) → unless (is_some scratch) FaultIs.NoMessage ≡ None → (told : Scratch → ℕ) →
    reply ≡ reply_from scratch (λ s. number_reply (told s)) → IfSome reply.result (λ r. r < 2 ^ 64) → HasParts (Some Served.AnyI64) None None ask.args reply
size_given ask reply None needed told is small = absurd (cc)
size_given ask reply (Some scratch) needed told is small = number_given ask reply (told scratch) is small

-- a place, which is one of 64
place_given : (ask : Ask) (reply : Reply) (n : ℕ) → reply ≡ number_reply n → n ≤ 63 → HasParts (Some (Served.UpTo 63)) None None ask.args reply
place_given ask reply n is few = rw is (record { result = few; count = tt; text_is = refl; word_is = refl })

lt_true : (a b : ℕ) → nat_lt a b ≡ true → a < b
lt_true a b e = grind (arith, nat_tests)

few_slots : (n : ℕ) → unless (nat_lt n 64) FaultIs.PlacesFull ≡ None → n ≤ 63
few_slots n none = let less = lt_true n 64 (unless_so (nat_lt n 64) FaultIs.PlacesFull none) in omega (arith, less)

push_few : (part : Part) (handle : ℕ) → push_fault part handle ≡ None → length (slots_of part.scratch) ≤ 63
push_few part handle none = few_slots (length (slots_of part.scratch)) (or_none (needs_handle part handle) (unless (nat_lt (length (slots_of part.scratch)) 64) FaultIs.PlacesFull) (needed part _
    none).1).1

-- the number of a stream that was there
handle_given : (ask : Ask) (reply : Reply) (o : Option ℕ) → is_some o ≡ true → reply ≡ option_map_or number_reply o empty_reply → IfSome reply.result (λ r. r < 2 ^ 64) →
    HasParts (Some Served.AnyI64) None None ask.args reply
handle_given ask reply None there is small = absurd (cc)
handle_given ask reply (Some n) there is small = number_given ask reply n is small

take_there : (part : Part) (place : ℕ) → take_fault part place ≡ None → is_some (handle_at (slots_of part.scratch) place) ≡ true
take_there part place none =
    unless_so (is_some (handle_at (slots_of part.scratch) place)) FaultIs.EmptyPlace
    (or_none (unless (is_some (handle_at (slots_of part.scratch) place)) FaultIs.EmptyPlace) _ (needed part _ none).1).0

least_both : (a b n : ℕ) → n ≡ min a b → (n ≤ a) × (n ≤ b)
least_both a b n is = (omega arith, omega arith)

-- how many bytes were written
write_given : (request : Request) (reply : Reply) (scratch : Option Scratch) → unless (is_some scratch) FaultIs.NoMessage ≡ None → length request.first ≤ slice_index request.ask.args 1 →
    reply ≡ reply_from scratch (λ s. number_reply (length (written_bytes s request))) →
    HasParts (Some write_data.results) None None request.ask.args reply
write_given request reply None needed within is = absurd (cc)
write_given request reply (Some scratch) needed within is =
    let room = 1048576 - length scratch.message.bytes in
    let count = length (written_bytes scratch request) in
    let both = least_both room (length request.first) count (length-take room request.first) in
    let one : count ≤ room = both.0 in
    let two : count ≤ length request.first = both.1 in
    rw is (record { result = omega arith; count = omega arith; text_is = refl; word_is = refl })

-- the bytes that were read
read_given : (request : Request) (reply : Reply) (scratch : Option Scratch) → unless (is_some scratch) FaultIs.NoMessage ≡ None → slice_index request.ask.args 1 ≤ 4294967295 →
    reply ≡ reply_from scratch (λ s. text_reply (length (read_bytes s request)) (arg request 0) (read_bytes s request)) →
    IfSome reply.text (λ (text : Text). All (λ b. b < 2 ^ 8) text.bytes) →
    HasParts (Some read_data.results) read_data.text None request.ask.args reply
read_given request reply None needed few is octets = absurd (cc)
read_given request reply (Some scratch) needed few is octets =
    let most = slice_index request.ask.args 1 in
    let rest = drop scratch.read_place scratch.message.bytes in
    let both = least_both most (length rest) (length (read_bytes scratch request)) (length-take most rest) in
    let one : length (read_bytes scratch request) ≤ most = both.0 in
    let bytes : All (λ b. b < 2 ^ 8) (read_bytes scratch request) = rw is at octets in
    rw is (record {
      result = omega arith;
      count = one;
      text_is = record { octets = bytes; addr = refl; within = one; most = omega arith; counted = refl };
      word_is = refl;
    })

-- AREAS

abbrev IsAskedAt : List ℕ → Request → Type 0
IsAskedAt memory request = request ≡ request_of memory request.ask

fits_there : (memory : List ℕ) (request : Request) → IsAskedAt memory request → request.fits ≡ true → areas_fit memory request.ask ≡ true
fits_there memory request bytes fits = ap (λ (r : Request). r.fits) (sym bytes) ∙ fits

first_there : (memory : List ℕ) (request : Request) → IsAskedAt memory request → request.fits ≡ true → request.first ≡ first_bytes memory (areas_read request.ask)
first_there memory request bytes fits =
    ap (λ (r : Request). r.first) bytes ∙ ap (λ (b : Bool). cond b (first_bytes memory (areas_read request.ask)) []) (fits_there memory request bytes fits)

-- a write has no more bytes than it says
written_within : (memory : List ℕ) (request : Request) → IsAskedAt memory request → request.fits ≡ true → row_of request.ask.call ≡ Some write_data →
    length request.first ≤ slice_index request.ask.args 1
written_within memory request bytes fits row =
    let args = request.ask.args in
    let first = first_there memory request bytes fits ∙ ap (first_bytes memory) (read_by request.ask write_data row) in
    let rest = drop (slice_index args 0) memory in
    let both = least_both (slice_index args 1) (length rest) (length (take (slice_index args 1) rest)) (length-take (slice_index args 1) rest) in
    subst (λ (xs : List ℕ). length xs ≤ slice_index args 1) (sym first) both.0

both_true : (a b : Bool) → (a && b) ≡ true → (a ≡ true) × (b ≡ true)
both_true true true e = (refl, refl)
both_true true false e = absurd (cc)
both_true false b e = absurd (cc)

le_true : (a b : ℕ) → nat_le a b ≡ true → a ≤ b
le_true a b e = grind (arith, nat_tests)

-- a read asks for no more bytes than the memory has
read_within : (memory : List ℕ) (request : Request) → IsAskedAt memory request → request.fits ≡ true → row_of request.ask.call ≡ Some read_data →
    slice_index request.ask.args 1 ≤ length memory
read_within memory request bytes fits row =
    let args = request.ask.args in
    let area : Served.Area = record { addr = slice_index args 0; len = slice_index args 1 } in
    let there = both_true (are_sound request.ask) _ (fits_there memory request bytes fits) in
    let fit : (fits_in memory area && true) ≡ true = rw (areas_by request.ask read_data row) at there.1 in
    let one : slice_index args 0 + slice_index args 1 ≤ length memory = le_true _ _ (both_true (fits_in memory area) true fit).0 in
    omega arith

-- ALL

-- a local call that was answered, at a memory with few bytes; the numbers of the reply are those of the code
pub record IsAnsweredLocal (memory : List ℕ) (start : Start) (part : Part) (request : Request) (reply : Reply) (after : Part) : Type 0 where
  pub bytes : IsAskedAt memory request
  pub small : length memory ≤ 67108864
  pub fit : judge start part request ≡ Fit
  pub answered : local start part request ≡ Some (reply, after)
  pub result : IfSome reply.result (λ r. r < 2 ^ 64)
  pub octets : IfSome reply.text (λ (text : Text). All (λ b. b < 2 ^ 8) text.bytes)

module _ (memory : List ℕ) (start : Start) (part : Part) (request : Request) (reply : Reply) (after : Part) (is : IsAnsweredLocal memory start part request reply after) where
  -- the reply, and the row, of a call of this number and name
  named : (number : ℕ) (name : HostCall) → call_numbered number ≡ Some name → request.ask.call ≡ number → call_of request ≡ Some name
  named number name numbered called = ap call_numbered called ∙ numbered

  replied : (number : ℕ) (name : HostCall) → call_numbered number ≡ Some name → request.ask.call ≡ number → reply ≡ local_reply name start part request
  replied number name numbered called = answered_by name start part request reply after (named number name numbered called) is.answered

  needs : (number : ℕ) (name : HostCall) → call_numbered number ≡ Some name → request.ask.call ≡ number → own_fault name part request ≡ None
  needs number name numbered called = faultless name start part request (named number name numbered called) is.fit

  row_at : (number : ℕ) (row : Row) → row_of number ≡ Some row → request.ask.call ≡ number → row_of request.ask.call ≡ Some row
  row_at number row there called = ap row_of called ∙ there

  -- what is to show of each served call
  abbrev FormAt : ℕ → Type 0
  FormAt number = request.ask.call ≡ number → Served.is_local number ≡ true → HasForm request.ask reply

  create_data_form : FormAt 0
  create_data_form called own =
      form_by request.ask reply create_data (row_at 0 create_data create_data-row called) (nothing_given request.ask reply (replied 0 CallIs.CreateData refl called))

  write_data_form : FormAt 1
  write_data_form called own =
      let row = row_at 1 write_data write_data-row called in
      form_by request.ask reply write_data row
      (write_given request reply part.scratch (needs 1 CallIs.WriteData refl called)
      (written_within memory request is.bytes (fit_fits start part request is.fit) row) (replied 1 CallIs.WriteData refl called))

  read_data_form : FormAt 2
  read_data_form called own =
      let row = row_at 2 read_data read_data-row called in
      let within = read_within memory request is.bytes (fit_fits start part request is.fit) row in
      let small = is.small in
      let few : slice_index request.ask.args 1 ≤ 4294967295 = omega arith in
      form_by request.ask reply read_data row
      (read_given request reply part.scratch (needs 2 CallIs.ReadData refl called) few (replied 2 CallIs.ReadData refl called) is.octets)

  seek_data_form : FormAt 3
  seek_data_form called own =
      form_by request.ask reply seek_data (row_at 3 seek_data seek_data-row called) (nothing_given request.ask reply (replied 3 CallIs.SeekData refl called))

  data_size_form : FormAt 4
  data_size_form called own =
      form_by request.ask reply data_size (row_at 4 data_size data_size-row called)
      (size_given request.ask reply part.scratch (needs 4 CallIs.DataSize refl called) (λ (s : Scratch). length s.message.bytes) (replied 4 CallIs.DataSize refl called) is.result)

  get_tag_form : FormAt 5
  get_tag_form called own =
      form_by request.ask reply get_tag (row_at 5 get_tag get_tag-row called)
      (size_given request.ask reply part.scratch (needs 5 CallIs.GetTag refl called) (λ (s : Scratch). s.message.tag) (replied 5 CallIs.GetTag refl called) is.result)

  process_id_form : FormAt 10
  process_id_form called own =
      form_by request.ask reply process_id (row_at 10 process_id process_id-row called) (number_given request.ask reply start.pid (replied 10 CallIs.ProcessId refl called) is.result)

  print_form : FormAt 35
  print_form called own =
      form_by request.ask reply print (row_at 35 print print-row called) (nothing_given request.ask reply (replied 35 CallIs.Print refl called))

  push_form : FormAt 6
  push_form called own =
      form_by request.ask reply push_tcp_stream (row_at 6 push_tcp_stream push_tcp_stream-row called)
      (place_given request.ask reply (length (slots_of part.scratch)) (replied 6 CallIs.PushStream refl called) (push_few part (arg request 0) (needs 6 CallIs.PushStream refl called)))

  take_form : FormAt 7
  take_form called own =
      form_by request.ask reply take_tcp_stream (row_at 7 take_tcp_stream take_tcp_stream-row called)
      (handle_given request.ask reply (handle_at (slots_of part.scratch) (arg request 0)) (take_there part (arg request 0) (needs 7 CallIs.TakeStream refl called))
      (replied 7 CallIs.TakeStream refl called) is.result)

  drop_stream_form : FormAt 33
  drop_stream_form called own =
      form_by request.ask reply drop_tcp_stream (row_at 33 drop_tcp_stream drop_tcp_stream-row called) (nothing_given request.ask reply (replied 33 CallIs.DropStream refl called))

  drop_listener_form : FormAt 34
  drop_listener_form called own =
      form_by request.ask reply drop_tcp_listener (row_at 34 drop_tcp_listener drop_tcp_listener-row called) (nothing_given request.ask reply (replied 34 CallIs.DropListener refl called))

  foreign_form : (number : ℕ) → Served.is_local number ≡ false → FormAt number
  foreign_form number foreign called own = let no : ⊥ = cc in absurd no

  send-foreign : Served.is_local 8 ≡ false
  unfolding row_of all_rows is_served
  send-foreign = refl

  receive-foreign : Served.is_local 9 ≡ false
  unfolding row_of all_rows is_served
  receive-foreign = refl

  sleep_ms-foreign : Served.is_local 17 ≡ false
  unfolding row_of all_rows is_served
  sleep_ms-foreign = refl

  bind-foreign : Served.is_local 27 ≡ false
  unfolding row_of all_rows is_served
  bind-foreign = refl

  local_port-foreign : Served.is_local 28 ≡ false
  unfolding row_of all_rows is_served
  local_port-foreign = refl

  accept-foreign : Served.is_local 29 ≡ false
  unfolding row_of all_rows is_served
  accept-foreign = refl

  connect-foreign : Served.is_local 30 ≡ false
  unfolding row_of all_rows is_served
  connect-foreign = refl

  read_stream-foreign : Served.is_local 31 ≡ false
  unfolding row_of all_rows is_served
  read_stream-foreign = refl

  write_stream-foreign : Served.is_local 32 ≡ false
  unfolding row_of all_rows is_served
  write_stream-foreign = refl

  reply_form : Served.is_local request.ask.call ≡ true → HasForm request.ask reply
  reply_form own =
      by_served FormAt (
        create_data_form,
        (
          write_data_form,
          (
            read_data_form,
            (
              seek_data_form,
              (
                data_size_form,
                (
                  get_tag_form,
                  (
                    push_form,
                    (
                      take_form,
                      (
                        foreign_form 8 send-foreign,
                        (
                          foreign_form 9 receive-foreign,
                          (
                            process_id_form,
                            (
                              foreign_form 17 sleep_ms-foreign,
                              (
                                foreign_form 27 bind-foreign,
                                (
                                  foreign_form 28 local_port-foreign,
                                  (
                                    foreign_form 29 accept-foreign,
                                    (
                                      foreign_form 30 connect-foreign,
                                      (
                                        foreign_form 31 read_stream-foreign,
                                        (
                                          foreign_form 32 write_stream-foreign,
                                          (
                                            drop_stream_form,
                                            (
                                              drop_listener_form,
                                              (print_form, tt),
                                            ),
                                          ),
                                        ),
                                      ),
                                    ),
                                  ),
                                ),
                              ),
                            ),
                          ),
                        ),
                      ),
                    ),
                  ),
                ),
              ),
            ),
          ),
        ),
      )
      request.ask.call (local_row request.ask.call own) refl own

  -- it may be given to the engine that owes it
  pub local_answerable : (phase : Phase) → phase ≡ Owing request.ask → Served.is_local request.ask.call ≡ true → IsAnswerable phase memory reply
  local_answerable phase owed own = record {
    ask = request.ask;
    owed = owed;
    fits = fits_there memory request is.bytes (fit_fits start part request is.fit);
    form = reply_form own;
  }
