use Rattle.std.specs.Prelude.{◌≡◌, ℕ, List, [], ◌∷◌, Option, Some, None, true, codes, map}
use Rattle.host_port.specs.declared.start.Start.{Start}
use Rattle.host_port.specs.declared.call.Call.{Call}
use Rattle.host_port.specs.declared.request.Request.{Request}
use Rattle.world_rules.specs.declared.entry.Entry.{Entry}
use Rattle.world_rules.specs.declared.entry.Entry.TheVariants as EntryIs
use Rattle.world_rules.specs.declared.entry.Side.{Side}
use Rattle.world_rules.specs.declared.entry.Side.TheVariants as SideIs
use Rattle.world_rules.specs.declared.halt.Halt.{Halt}
use Rattle.world_rules.specs.declared.halt.Halt.TheVariants as HaltIs
use Rattle.world_rules.specs.declared.life.Birth.{Birth}
use Rattle.world_rules.specs.declared.life.Birth.TheVariants.{Born}
use Rattle.world_rules.specs.World.{World, first_world}
use Rattle.world_rules.specs.Told.{all_after}

-- Words for small journals.

-- two numbers are the same
abbrev pub AreSame : ℕ → ℕ → Type 0
AreSame a b = a ≡ b

-- how a process of this number starts, with the limits that are the default
abbrev pub start_of : ℕ → Start
start_of pid = record {
  pid = pid;
  «module» = 0;
  entry = codes "_start";
  params = [];
  limits = record { pages = 64; fuel = 1000000000; traffic = 67108864 };
}

abbrev pub born_of : ℕ → Birth
born_of pid = Born (start_of pid)

-- a request that reads these areas, all of them in the memory
abbrev pub request : ℕ → List ℕ → List ℕ → List ℕ → Request
request call args first second = record { ask = record { call = call; args = args }; fits = true; first = first; second = second }

-- a request that reads nothing
abbrev pub plain : ℕ → List ℕ → Request
plain call args = request call args [] []

-- a call that was answered with a number, and one that was answered with nothing
abbrev pub numbered : Request → ℕ → Call
numbered request n = record { request = request; reply = record { result = Some n; word = None; text = None } }

abbrev pub silent : Request → Call
silent request = record { request = request; reply = record { result = None; word = None; text = None } }

-- an i64 of -1
abbrev pub minus_one : ℕ
minus_one = 0xFFFFFFFFFFFFFFFF

-- the requests of the calls that the journals have

-- a tag of at most 255, as a receive reads it
abbrev pub tag_bytes : ℕ → List ℕ
tag_bytes tag = tag ∷ 0 ∷ 0 ∷ 0 ∷ 0 ∷ 0 ∷ 0 ∷ 0 ∷ []

abbrev pub create_data : ℕ → Request
create_data tag = plain 0 (tag ∷ 0 ∷ [])

abbrev pub push_stream : ℕ → Request
push_stream handle = plain 6 (handle ∷ [])

abbrev pub take_stream : ℕ → Request
take_stream place = plain 7 (place ∷ [])

abbrev pub send : ℕ → Request
send pid = plain 8 (pid ∷ [])

abbrev pub receive_any : ℕ → Request
receive_any ms = request 9 (0 ∷ 0 ∷ ms ∷ []) [] []

abbrev pub receive_tag : ℕ → ℕ → Request
receive_tag tag ms = request 9 (0 ∷ 1 ∷ ms ∷ []) (tag_bytes tag) []

-- spawn with this link, the caller's own limits, module 0, `_start`, no parameters, the number written at 100
abbrev pub spawn_linked : ℕ → Request
spawn_linked tag = request 12 (tag ∷ minus_one ∷ 0 ∷ 0 ∷ 6 ∷ 0 ∷ 0 ∷ 100 ∷ []) (codes "_start") []

abbrev pub kill : ℕ → Request
kill pid = plain 13 (pid ∷ [])

abbrev pub link : ℕ → ℕ → Request
link tag pid = plain 14 (tag ∷ pid ∷ [])

abbrev pub die_when_link_dies : ℕ → Request
die_when_link_dies x = plain 16 (x ∷ [])

abbrev pub sleep_ms : ℕ → Request
sleep_ms ms = plain 17 (ms ∷ [])

abbrev pub connect : Request
connect = plain 30 (0 ∷ 0 ∷ 200 ∷ [])

-- a read of 64 bytes at 300, the count at 400
abbrev pub read_stream : ℕ → Request
read_stream handle = plain 31 (handle ∷ 300 ∷ 64 ∷ 400 ∷ [])

-- ENTRIES

abbrev pub take_by : ℕ → ℕ → Entry
take_by worker pid = EntryIs.Take worker pid

-- a process asks, with nothing beside
abbrev pub asks_by : (worker pid : ℕ) → List Call → (fuel : ℕ) → Request → Entry
asks_by worker pid calls fuel request = EntryIs.Give worker pid calls fuel (HaltIs.Asks request) SideIs.Nothing

-- worker 0 takes a process, and it asks so, with this beside
abbrev pub turn_beside : Side → ℕ → List Call → ℕ → Request → List Entry
turn_beside side pid calls fuel request = EntryIs.Take 0 pid ∷ EntryIs.Give 0 pid calls fuel (HaltIs.Asks request) side ∷ []

abbrev pub turn : ℕ → List Call → ℕ → Request → List Entry
turn pid calls fuel request = turn_beside SideIs.Nothing pid calls fuel request

-- worker 0 takes a process, and its turn ends so
abbrev pub turn_ends : ℕ → ℕ → Halt → List Entry
turn_ends pid fuel halt = EntryIs.Take 0 pid ∷ EntryIs.Give 0 pid [] fuel halt SideIs.Nothing ∷ []

-- the world after these entries
abbrev pub world_after : List Birth → List Entry → World
world_after births entries = all_after births (first_world births) entries

-- the results of a process's calls, in order
abbrev pub results : World → ℕ → List (Option ℕ)
results w pid = map (λ (call : Call). call.reply.result) (w.process pid).calls
