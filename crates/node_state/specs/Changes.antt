use Rattle.std.specs.Prelude.{◌≡◌, ◌≢◌, ℕ, ◌+◌, List, [], ◌∷◌, ◌++◌, Option, Some, None, Bool, true, false, cond}
use Rattle.host_port.specs.declared.start.Start.{Start}
use Rattle.world_rules.specs.declared.entry.Entry.{Entry}
use Rattle.world_rules.specs.declared.halt.End.{End}
use Rattle.world_rules.specs.declared.life.Ended.{Ended as EndMemory}
use Rattle.world_rules.specs.Book.{Book}
use Rattle.world_rules.specs.Mail.{MailItem}
use Rattle.world_rules.specs.Part.{no_part}
use Rattle.node_state.specs.Slots.{Slot, Nobody, Home, Away, struck, closings_at}
use Rattle.node_state.specs.Held.{Held}

-- What an entry does to the journal, and to what a node holds.

-- the journal has this entry more, in a reserved place, and these ends
pub record Records (old new : Book) (entry : Entry) (ends : List EndMemory) : Type 0 where
  pub entries : new.entries ≡ old.entries ++ entry ∷ []
  pub births : new.births ≡ old.births
  pub ends_are : new.ends ≡ old.ends ++ ends
  pub entry_room : new.entry_room + 1 ≡ old.entry_room

-- the slot, the mailbox and the deadline of one number are these; those of all others stay
pub record ChangesOne {E : Type 0} (was is : Held E) (pid : ℕ) (slot : Slot E) (mail : List MailItem)
    (deadline : Option ℕ) : Type 0 where
  pub slot_is : is.slots pid ≡ slot
  pub mail_is : is.mail pid ≡ mail
  pub deadline_is : is.deadlines pid ≡ deadline
  pub other_slots : (other : ℕ) → other ≢ pid → is.slots other ≡ was.slots other
  pub other_mail : (other : ℕ) → other ≢ pid → is.mail other ≡ was.mail other
  pub other_deadlines : (other : ℕ) → other ≢ pid → is.deadlines other ≡ was.deadlines other

-- what is counted is this: the sends that were answered 0, the time, and the Pending gives and early Ticks in a row;
-- and the run goes on as it did
pub record Counts {E : Type 0} (was is : Held E) (sends time row : ℕ) : Type 0 where
  pub sends_are : is.sends ≡ sends
  pub time_is : is.time ≡ time
  pub row_is : is.row ≡ row
  pub over : is.over ≡ was.over

-- so many stream numbers were drawn, and these streams were closed besides
pub record Closes {E : Type 0} (was is : Held E) (streams : ℕ) (more : List ℕ) : Type 0 where
  pub streams_are : is.streams ≡ streams
  pub closed_are : is.closed ≡ was.closed ++ more

-- TAKE. The process at the front of the ready list leaves the list and its home.
pub record TakesFront {E : Type 0} (was is : Held E) (pid worker : ℕ) : Type 0 where
  pub front : was.ready ≡ pid ∷ is.ready
  pub change : ChangesOne was is pid (Away worker) (was.mail pid) (was.deadlines pid)
  pub counts : Counts was is was.sends was.time was.row
  pub out : is.out ≡ was.out + 1
  pub closes : Closes was is was.streams []

-- GIVE. The process that was out has this slot, this mailbox and this deadline; it goes behind the ready list where it
-- is ready.
pub record GivesBack {E : Type 0} (was is : Held E) (pid : ℕ) (slot : Slot E) (is_ready : Bool) (mail : List MailItem)
    (deadline : Option ℕ) : Type 0 where
  pub change : ChangesOne was is pid slot mail deadline
  pub ready : is.ready ≡ was.ready ++ cond is_ready (pid ∷ []) []
  pub out : is.out + 1 ≡ was.out

-- TICK. The process that waited is at home again, behind the ready list.
pub record WakesOne {E : Type 0} (was is : Held E) (pid : ℕ) (slot : Slot E) : Type 0 where
  pub change : ChangesOne was is pid slot (was.mail pid) None
  pub ready : is.ready ≡ was.ready ++ pid ∷ []
  pub out : is.out ≡ was.out
  pub closes : Closes was is was.streams []

-- an early TICK. Nobody is woken.
pub record WakesNone {E : Type 0} (was is : Held E) : Type 0 where
  pub slots : (pid : ℕ) → is.slots pid ≡ was.slots pid
  pub mail : (pid : ℕ) → is.mail pid ≡ was.mail pid
  pub deadlines : (pid : ℕ) → is.deadlines pid ≡ was.deadlines pid
  pub ready : is.ready ≡ was.ready
  pub out : is.out ≡ was.out
  pub closes : Closes was is was.streams []

-- END OF ALL. The end has come to process 1, whose mailbox is empty and which waits no longer; its streams are closed
-- as far as a worker doesn't have them; nobody is ready, the row is broken, and the run is over.
pub record EndsAll {E : Type 0} (was is : Held E) (end : End) : Type 0 where
  pub change : ChangesOne was is 1 (struck end (was.slots 1)) [] None
  pub ready : is.ready ≡ []
  pub sends : is.sends ≡ was.sends
  pub time : is.time ≡ was.time
  pub row : is.row ≡ 0
  pub over : is.over ≡ true
  pub out : is.out ≡ was.out
  pub closes : Closes was is was.streams (closings_at (was.slots 1) (was.mail 1))

-- FIRST. Process 1 is at home with this engine, and nothing else has happened.
pub record HoldsFirst {E : Type 0} (held : Held E) (engine : E) (start : Start) : Type 0 where
  pub slot : held.slots 1 ≡ Home (record { engine = engine; start = start; part = no_part; fuel = 0; owed = None })
  pub other_slots : (pid : ℕ) → pid ≢ 1 → held.slots pid ≡ Nobody
  pub mail : (pid : ℕ) → held.mail pid ≡ []
  pub deadlines : (pid : ℕ) → held.deadlines pid ≡ None
  pub ready : held.ready ≡ 1 ∷ []
  pub sends : held.sends ≡ 0
  pub time : held.time ≡ 0
  pub row : held.row ≡ 0
  pub over : held.over ≡ false
  pub out : held.out ≡ 0
  pub streams : held.streams ≡ 0
  pub closed : held.closed ≡ []
