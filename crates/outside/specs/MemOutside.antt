-- An outside in memory: what each of its calls does.
use Rattle.std.specs.Prelude.{◌≡◌, ℕ, Bool, List, [], ◌∷◌, All, MatchBool}
use Rattle.outside.specs.declared.outside.AcceptStep.{AcceptStep}
use Rattle.outside.specs.declared.outside.AcceptStep.TheVariants as accept
use Rattle.outside.specs.declared.outside.MakeStep.{MakeStep}
use Rattle.outside.specs.declared.outside.MakeStep.TheVariants as make
use Rattle.outside.specs.declared.mem_listener.Offer.{Offer}
use Rattle.outside.specs.declared.mem_listener.Offer.TheVariants.{Stream, Wait}
use Rattle.outside.specs.Causes.{counted, is_full, is_listed}
use Rattle.outside.specs.MemStream.{Line, IsNew}
use Rattle.outside.specs.MemListener.{Desk, IsUp}

-- the listeners that binds and the streams that connects are still to be given, the numbers of the calls that are to
-- fail and of the next call, the time in milliseconds, and the counts
pub record Stock : Type 0 where
  pub listeners : List Desk
  pub streams : List Line
  pub fails : List ℕ
  pub calls : ℕ
  pub time : ℕ
  pub faults : ℕ
  pub waits : ℕ
  pub rests : ℕ

-- what an outside starts with: it is time 0, no call was made and no count raised
abbrev pub new_stock : List Desk → List Line → List ℕ → Stock
new_stock listeners streams fails = record {
  listeners = listeners;
  streams = streams;
  fails = fails;
  calls = 0;
  time = 0;
  faults = 0;
  waits = 0;
  rests = 0;
}

-- each listener is up, and each stream is new
pub record AllAreNew (listeners : List Desk) (streams : List Line) : Type 0 where
  pub listeners_up : All IsUp listeners
  pub streams_new : All IsNew streams

-- after a rest: the clock moved by one and the rest is counted, up to the ends of their type
abbrev pub rested : Stock → Stock
rested stock = record stock { time = counted stock.time; rests = counted stock.rests }

-- a bind, an accept or a connect, which are counted together, begins
abbrev pub begun : Stock → Stock
begun stock = record stock { calls = counted stock.calls }

-- the next bind, accept or connect is to fail
abbrev pub fails_next : Stock → Bool
fails_next stock = is_listed stock.fails stock.calls

-- the time and the rests stand
pub record TimeStays (old new : Stock) : Type 0 where
  pub time : new.time ≡ old.time
  pub rests : new.rests ≡ old.rests

-- after a fault
abbrev pub faulted : Stock → Stock
faulted stock = record stock { faults = counted stock.faults }

-- after a wait
abbrev pub waited : Stock → Stock
waited stock = record stock { waits = counted stock.waits }

-- nothing is made: the call fails and counts a fault, or wants memory where that count stands at its end
pub record MakesNone {T : Type 0} (old : Stock) (step : MakeStep T) (new : Stock) : Type 0 where
  pub step_is : MatchBool (is_full old.faults) (step ≡ make.NoMemory) (step ≡ make.Failed)
  pub new_is : new ≡ faulted old

-- a bind gives the next listener, or makes none where none is left
abbrev pub BindsNext : List Desk → Stock → MakeStep Desk → Stock → Type 0
BindsNext [] old step new = MakesNone old step new
BindsNext (desk ∷ listeners) old step new = (step ≡ make.Done desk) × (new ≡ record old { listeners = listeners })

-- a connect gives the next stream, or makes none where none is left
abbrev pub ConnectsNext : List Line → Stock → MakeStep Line → Stock → Type 0
ConnectsNext [] old step new = MakesNone old step new
ConnectsNext (line ∷ streams) old step new = (step ≡ make.Done line) × (new ≡ record old { streams = streams })

-- a bind makes none where its number is listed
abbrev pub Binds : Stock → MakeStep Desk → Stock → Type 0
Binds old step new =
    MatchBool (fails_next old) (MakesNone (begun old) step new) (BindsNext old.listeners (begun old) step new)

-- a connect makes none where its number is listed
abbrev pub Connects : Stock → MakeStep Line → Stock → Type 0
Connects old step new =
    MatchBool (fails_next old) (MakesNone (begun old) step new) (ConnectsNext old.streams (begun old) step new)

-- an accept fails and counts a fault, or wants memory where that count stands at its end; the listener stays
pub record AcceptFails (old : Stock) (desk : Desk) (step : AcceptStep Line) (new : Stock) (after : Desk) : Type 0 where
  pub step_is : MatchBool (is_full old.faults) (step ≡ accept.NoMemory) (step ≡ accept.Failed)
  pub new_is : new ≡ faulted old
  pub after_is : after ≡ desk

-- an accept finds nobody and counts a wait, or wants memory where that count stands at its end
pub record FindsNobody (old : Stock) (step : AcceptStep Line) (new : Stock) : Type 0 where
  pub step_is : MatchBool (is_full old.waits) (step ≡ accept.NoMemory) (step ≡ accept.NotReady)
  pub new_is : new ≡ waited old

-- what an accept finds by the offers of its listener, and which of them are left
abbrev pub AcceptsNext : List Offer → Stock → AcceptStep Line → Stock → (left : List Offer) → Type 0
AcceptsNext [] old step new left = FindsNobody old step new × (left ≡ [])
AcceptsNext (Wait ∷ offers) old step new left = FindsNobody old step new × (left ≡ offers)
AcceptsNext (Stream line ∷ offers) old step new left = (step ≡ accept.Done line) × (new ≡ old) × (left ≡ offers)

-- an accept fails where its number is listed
abbrev pub Accepts : Stock → Desk → AcceptStep Line → Stock → Desk → Type 0
Accepts old desk step new after =
    MatchBool (fails_next old) (AcceptFails (begun old) desk step new after)
    (AcceptsNext desk.offers (begun old) step new after.offers)
