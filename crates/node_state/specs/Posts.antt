use Rattle.std.specs.Prelude.{◌≡◌, ◌≢◌, ℕ, ◌+◌, ◌-◌, ◌<◌, ◌≤◌, ◌^◌, List, [], ◌∷◌, ◌++◌, Option, Some, None, max, min, slice_index, false, true, if◌then◌else◌}
use Rattle.std.specs.Option.{option_map_or}
use Rattle.host_port.specs.declared.ask.Ask.{Ask}
use Rattle.world_rules.specs.declared.entry.Side.{Side}
use Rattle.world_rules.specs.declared.entry.Side.TheVariants as SideIs
use Rattle.world_rules.specs.Mail.{MailItem, Letter, message_count, most_messages, pick, unpicked}
use Rattle.world_rules.specs.Part.{Part, Scratch, Message, scratch_handles}
use Rattle.world_rules.specs.Settled.{settled, SentOff, Delivered}
use Rattle.world_rules.specs.Calls.{HostCall, call_numbered}
use Rattle.world_rules.specs.Calls as CallIs
use Rattle.world_rules.specs.Views.{clock_in, is_opened}
use Rattle.world_rules.specs.Time.{is_positive}
use Rattle.node_state.specs.declared.outcome.Post.{Post}
use Rattle.node_state.specs.declared.outcome.Post.TheVariants.{Put, Nobody, Full, Refused}
use Rattle.node_state.specs.declared.outcome.Receipt.{Receipt}
use Rattle.node_state.specs.declared.outcome.Receipt.TheVariants as Receive

-- What a send, a receive and a sleep do to a mailbox, to the part of the process and to its deadline, and an opened
-- stream to the numbers that are drawn.

-- SEND

-- the scratch message is put behind the others, under this number
pub record PutsBehind (mail : List MailItem) (part : Part) (number : ℕ) (mail_after : List MailItem) (part_after : Part)
    : Type 0 where
  pub scratch : Scratch
  pub was : part.scratch ≡ Some scratch
  pub behind : mail_after ≡ mail ++ Letter number scratch.message ∷ []
  pub left : part_after ≡ settled part SentOff

-- both stay as they were
pub record StayBoth (mail : List MailItem) (part : Part) (mail_after : List MailItem) (part_after : Part)
    : Type 0 where
  pub mail_stays : mail_after ≡ mail
  pub part_stays : part_after ≡ part

-- what becomes of a message that the process `pid` sends to the number `to`, where it alone can be live: it is put
-- exactly where that is its own number, the mailbox isn't full, and memory isn't refused; else all stays
abbrev pub Posts : (to pid number : ℕ) → List MailItem → Part → List MailItem → Part → Post → Type 0
Posts to pid number mail part mail_after part_after Put =
    (to ≡ pid) × (message_count mail < most_messages) × PutsBehind mail part number mail_after part_after
Posts to pid number mail part mail_after part_after Nobody =
    (to ≢ pid) × StayBoth mail part mail_after part_after
Posts to pid number mail part mail_after part_after Full =
    (to ≡ pid) × (most_messages ≤ message_count mail) × StayBoth mail part mail_after part_after
Posts to pid number mail part mail_after part_after Refused =
    (to ≡ pid) × (message_count mail < most_messages) × StayBoth mail part mail_after part_after

-- the reply to a send
abbrev pub code_of : Post → ℕ
code_of Put = 0
code_of Nobody = 1
code_of Full = 2
code_of Refused = 12

-- what a send is recorded beside
abbrev pub side_of : Post → Side
side_of Put = SideIs.Nothing
side_of Nobody = SideIs.Nothing
side_of Full = SideIs.Nothing
side_of Refused = SideIs.NoMemory

-- how many sends were answered 0
abbrev pub sends_after : Post → ℕ → ℕ
sends_after Put n = n + 1
sends_after Nobody n = n
sends_after Full n = n
sends_after Refused n = n

-- RECEIVE

-- the first wanted message is taken out of the mailbox, and becomes the scratch message; no signals come yet
pub record TakesWanted (tags : List ℕ) (mail : List MailItem) (part : Part) (mail_after : List MailItem)
    (part_after : Part) : Type 0 where
  pub number : ℕ
  pub message : Message
  pub found : pick tags mail ≡ Some (Letter number message)
  pub left : mail_after ≡ unpicked tags mail
  pub held : part_after ≡ settled part (Delivered (Letter number message))

-- what becomes of a receive of these tags, which would wait so many milliseconds
abbrev pub Receives : (tags : List ℕ) (ms : ℕ) → List MailItem → Part → List MailItem → Part → Receipt → Type 0
Receives tags ms mail part mail_after part_after Receive.Delivered = TakesWanted tags mail part mail_after part_after
Receives tags ms mail part mail_after part_after Receive.TimedOut =
    (pick tags mail ≡ None) × (ms ≡ 0) × StayBoth mail part mail_after part_after
Receives tags ms mail part mail_after part_after Receive.Waits =
    (pick tags mail ≡ None) × (ms ≢ 0) × StayBoth mail part mail_after part_after

-- the reply to a receive that doesn't wait
abbrev pub receipt_code : Receipt → ℕ
receipt_code Receive.Delivered = 0
receipt_code Receive.TimedOut = 9027
receipt_code Receive.Waits = 9027

-- the streams that it closes: those of the old scratch message, where another message is delivered
abbrev pub receipt_closings : Receipt → Part → List ℕ
receipt_closings Receive.Delivered part = scratch_handles part
receipt_closings Receive.TimedOut part = []
receipt_closings Receive.Waits part = []

-- OPENED

-- where the number of an opened stream is written, by the ask of an accept or of a connect
abbrev pub id_in : Option HostCall → List ℕ → ℕ
id_in (Some CallIs.Accept) args = slice_index args 1
id_in _ args = slice_index args 2

abbrev pub id_of : Ask → ℕ
id_of ask = id_in (call_numbered ask.call) ask.args

-- how many stream numbers were drawn, after a give with this side; and the number that it draws
abbrev pub drawn_beside : Side → ℕ → ℕ
drawn_beside side drawn = if is_opened side then drawn + 1 else drawn

abbrev pub opened_number : Side → ℕ → List ℕ
opened_number side drawn = if is_opened side then drawn ∷ [] else []

-- TIME

-- the time after a clock told this
abbrev pub time_at : (time now : ℕ) → ℕ
time_at time now = max time now

-- the time after what came beside a Give
abbrev pub time_beside : Side → (time : ℕ) → ℕ
time_beside side time = option_map_or (λ (now : ℕ). time_at time now) (clock_in side) time

-- the deadline of a wait of so many milliseconds that begins at this time: none without an end
abbrev pub deadline_of : (time ms : ℕ) → Option ℕ
deadline_of time ms = if is_positive ms then Some (min (time + ms) (2 ^ 64 - 1)) else None
