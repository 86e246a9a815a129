use Rattle.std.specs.Prelude.{◌≡◌, ℕ, ◌<◌, ◌≤◌, ◌&&◌, List, [], ◌∷◌, Some, None, Bool, true, false, nat_eq, nat_lt, nat_le}
use Rattle.world_rules.specs.Mail.{message_count, most_messages}
use Rattle.world_rules.specs.Streams.{one_if}
use Rattle.world_rules.specs.World.{World, Process, Stage, Unborn, Ready, Out, Waiting, Doomed, Ended, is_live, is_ready, is_waiting}
use Rattle.world_rules.specs.Touches.{nobody}

-- When the state of a run is sound. Each world that a journal tells is.

-- a number was drawn for a process
abbrev pub is_drawn : World → ℕ → Bool
is_drawn w pid = nat_lt 0 pid && nat_le pid w.numbers_drawn

-- a process was born, and has ended or not
abbrev pub is_born : Stage → Bool
is_born Unborn = false
is_born Ready = true
is_born (Out worker) = true
is_born (Waiting request) = true
is_born (Doomed worker end) = true
is_born (Ended end) = true

-- how many times a number is in a list
abbrev pub times : ℕ → List ℕ → ℕ
times number [] = 0
times number (first ∷ rest) = one_if (nat_eq number first) (times number rest)

-- a number is below each of these; and each of these is below those that follow it
abbrev pub AllAbove : ℕ → List ℕ → Type 0
AllAbove low [] = Unit {0}
AllAbove low (first ∷ rest) = (low < first) × AllAbove low rest

abbrev pub Rise : List ℕ → Type 0
Rise [] = Unit {0}
Rise (first ∷ rest) = AllAbove first rest × Rise rest

-- one process is in order: its start has its own number; it has a deadline only while it waits; its mailbox holds at
-- most 1,024 messages; and the streams of its table rise
pub record IsInOrder (pid : ℕ) (p : Process) : Type 0 where
  pub own : is_born p.stage ≡ true → p.start.pid ≡ pid
  pub deadline : is_waiting p.stage ≡ false → p.deadline ≡ None
  pub mail : message_count p.mail ≤ most_messages
  pub handles : Rise p.part.handles

-- the processes are in order: where no number was drawn nobody is; where one was drawn a process was born; each is in
-- order; where the run is over nobody lives; and names and links are of live processes alone
pub record AreInOrder (w : World) : Type 0 where
  pub undrawn : (pid : ℕ) → is_drawn w pid ≡ false → w.process pid ≡ nobody
  pub drawn : (pid : ℕ) → is_drawn w pid ≡ true → is_born (w.process pid).stage ≡ true
  pub each : (pid : ℕ) → IsInOrder pid (w.process pid)
  pub over : w.over ≡ true → (pid : ℕ) → is_live (w.process pid).stage ≡ false
  pub names : (name : List ℕ) (pid : ℕ) → w.names name ≡ Some pid → is_live (w.process pid).stage ≡ true
  pub links : (a b tag : ℕ) → w.links a b ≡ Some tag →
      (is_live (w.process a).stage ≡ true) × (is_live (w.process b).stage ≡ true)

-- each ready process is in the ready list once, and no other process is in it
abbrev pub IsReadyList : World → Type 0
IsReadyList w = (pid : ℕ) → times pid w.ready ≡ one_if (is_ready (w.process pid).stage) 0

-- SOUND
pub record IsSound (w : World) : Type 0 where
  pub ready : IsReadyList w
  pub processes : AreInOrder w
