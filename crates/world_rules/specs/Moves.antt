use Rattle.std.specs.Prelude.{ℕ, zero, suc, ◌+◌, ◌&&◌, ◌||◌, List, [], ◌∷◌, ◌++◌, Option, None, Some, Bool, true, false, nat_eq, nat_lt, option_map, if◌then◌else◌}
use Rattle.std.specs.Option.{option_map_or}

-- The places of stream handles, and the moves between them. A handle is the number of a stream. Where a handle stands
-- is read off the moves alone; no table, message or mailbox is looked at.

-- where a handle stands: in a process's table, at a slot of its scratch message, at a slot of a message in a mailbox,
-- or closed
pub data Place : Type 0 where
  Table : (pid : ℕ) → Place
  Scratch : (pid slot : ℕ) → Place
  Mail : (pid message slot : ℕ) → Place
  Closed : Place

-- what moves handles: the next number is drawn to a table; a push; a take; a send takes all of the sender's scratch
-- message into the message of that number; a receive takes that message into the receiver's scratch area; one handle
-- is shut; a new scratch message shuts the old one's; a doom shuts the mailbox's; an end shuts the table's, the
-- scratch message's and the mailbox's
pub data Move : Type 0 where
  Opened : (handle pid : ℕ) → Move
  Pushed : (handle pid slot : ℕ) → Move
  Taken : (pid slot : ℕ) → Move
  Sent : (from to message : ℕ) → Move
  Received : (pid message : ℕ) → Move
  Shut : (handle : ℕ) → Move
  ShutScratch : (pid : ℕ) → Move
  ShutMail : (pid : ℕ) → Move
  ShutAll : (pid : ℕ) → Move

-- the place of each handle that was drawn
abbrev pub Owners : Type 0
Owners = ℕ → Option Place

-- MOVING BY PLACE

-- out of the slot of the scratch message of `pid`, into its table
abbrev pub after_taken : ℕ → ℕ → Place → Place
after_taken pid slot (Table other) = Table other
after_taken pid slot (Scratch other place) =
    if nat_eq other pid && nat_eq place slot then Table pid else Scratch other place
after_taken pid slot (Mail other message place) = Mail other message place
after_taken pid slot Closed = Closed

-- out of the scratch area of `from` into message `number` of `to`, the slot kept
abbrev pub after_sent : ℕ → ℕ → ℕ → Place → Place
after_sent from to number (Table pid) = Table pid
after_sent from to number (Scratch pid slot) = if nat_eq pid from then Mail to number slot else Scratch pid slot
after_sent from to number (Mail pid message slot) = Mail pid message slot
after_sent from to number Closed = Closed

-- out of message `number` in the mailbox of `pid` into its scratch area, the slot kept
abbrev pub after_received : ℕ → ℕ → Place → Place
after_received pid number (Table other) = Table other
after_received pid number (Scratch other slot) = Scratch other slot
after_received pid number (Mail other message slot) =
    if nat_eq other pid && nat_eq message number then Scratch pid slot else Mail other message slot
after_received pid number Closed = Closed

-- the place is in the table, in the scratch message, or in the mailbox of `pid`
abbrev pub is_in_table : ℕ → Place → Bool
is_in_table pid (Table other) = nat_eq other pid
is_in_table pid (Scratch other slot) = false
is_in_table pid (Mail other message slot) = false
is_in_table pid Closed = false

abbrev pub is_in_scratch : ℕ → Place → Bool
is_in_scratch pid (Table other) = false
is_in_scratch pid (Scratch other slot) = nat_eq other pid
is_in_scratch pid (Mail other message slot) = false
is_in_scratch pid Closed = false

abbrev pub is_in_mail : ℕ → Place → Bool
is_in_mail pid (Table other) = false
is_in_mail pid (Scratch other slot) = false
is_in_mail pid (Mail other message slot) = nat_eq other pid
is_in_mail pid Closed = false

-- a handle at this place is shut by the move
abbrev pub shuts : Move → ℕ → Place → Bool
shuts (Opened drawn pid) handle place = false
shuts (Pushed pushed pid slot) handle place = false
shuts (Taken pid slot) handle place = false
shuts (Sent from to message) handle place = false
shuts (Received pid message) handle place = false
shuts (Shut shut) handle place = nat_eq handle shut
shuts (ShutScratch pid) handle place = is_in_scratch pid place
shuts (ShutMail pid) handle place = is_in_mail pid place
shuts (ShutAll pid) handle place = is_in_table pid place || is_in_scratch pid place || is_in_mail pid place

-- where a move takes a handle that stands at a place
abbrev pub after_move : Move → ℕ → Place → Place
after_move (Opened drawn pid) handle place = place
after_move (Pushed pushed pid slot) handle place = if nat_eq handle pushed then Scratch pid slot else place
after_move (Taken pid slot) handle place = after_taken pid slot place
after_move (Sent from to message) handle place = after_sent from to message place
after_move (Received pid message) handle place = after_received pid message place
after_move (Shut shut) handle place = if nat_eq handle shut then Closed else place
after_move (ShutScratch pid) handle place = if is_in_scratch pid place then Closed else place
after_move (ShutMail pid) handle place = if is_in_mail pid place then Closed else place
after_move (ShutAll pid) handle place = if shuts (ShutAll pid) handle place then Closed else place

-- where each handle is after a move; the number that it draws is in the table
abbrev pub moved : Move → Owners → Owners
moved (Opened drawn pid) owners handle = if nat_eq handle drawn then Some (Table pid) else owners handle
moved move owners handle = option_map (after_move move handle) (owners handle)

-- THE ORDER OF CLOSING

-- of two places of one process: the table is before the scratch message, and that before the mailbox; slots are by
-- rising number, and messages by rising number and then by slot
abbrev pub is_before : Place → Place → Bool
is_before (Table pid) (Scratch other slot) = true
is_before (Table pid) (Mail other message slot) = true
is_before (Scratch pid slot) (Scratch other slot') = nat_lt slot slot'
is_before (Scratch pid slot) (Mail other message slot') = true
is_before (Mail pid message slot) (Mail other message' slot') =
    nat_lt message message' || (nat_eq message message' && nat_lt slot slot')
is_before _ _ = false

-- of two handles that stand somewhere, the first one's place is before the other's
abbrev pub stands_before : Owners → ℕ → ℕ → Bool
stands_before owners first second =
    option_map_or (λ (a : Place). option_map_or (λ (b : Place). is_before a b) (owners second) false)
    (owners first) false

-- a handle among others that are in their order: behind those that do not come after it
abbrev pub put_in_order : Owners → ℕ → List ℕ → List ℕ
put_in_order owners handle [] = handle ∷ []
put_in_order owners handle (other ∷ others) =
    if stands_before owners handle other then handle ∷ other ∷ others else (other ∷ put_in_order owners handle others)

-- the handles below a number that pass a test, by rising place, and at one place by rising number
abbrev pub in_order : Owners → ℕ → (ℕ → Bool) → List ℕ
in_order owners zero test = []
in_order owners (suc handle) test =
    if test handle then put_in_order owners handle (in_order owners handle test) else in_order owners handle test

-- the handle stands at a place that the move shuts
abbrev pub is_shut_by : Owners → Move → ℕ → Bool
is_shut_by owners move handle = option_map_or (shuts move handle) (owners handle) false

-- THE FOLD

-- where each handle stands; how many numbers were drawn; the handles that were closed, in the order of their closing
pub record Handled : Type 0 where
  pub owner : Owners
  pub drawn : ℕ
  pub closed : List ℕ

-- one number more is drawn where a stream is opened
abbrev pub drawn_by : Move → ℕ → ℕ
drawn_by (Opened handle pid) drawn = drawn + 1
drawn_by move drawn = drawn

-- CLOSING. The handles at the places that a move shuts, by rising place and then by rising number.
abbrev pub closing : Handled → Move → List ℕ
closing handled move = in_order handled.owner handled.drawn (is_shut_by handled.owner move)

-- one move
abbrev pub after_one : Handled → Move → Handled
after_one handled move = record {
  owner = moved move handled.owner;
  drawn = drawn_by move handled.drawn;
  closed = handled.closed ++ closing handled move;
}

-- the moves one after another; nothing but the moves is looked at
abbrev pub handled_after : Handled → List Move → Handled
handled_after handled [] = handled
handled_after handled (move ∷ moves) = handled_after (after_one handled move) moves

-- at first no number is drawn
abbrev pub handled : List Move → Handled
handled moves = handled_after (record { owner = λ _. None; drawn = 0; closed = [] }) moves
