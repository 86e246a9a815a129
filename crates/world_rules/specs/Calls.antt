use Rattle.std.specs.Prelude.{ℕ, List, [], ◌∷◌, slice_get, slice_index, Option}
use Rattle.host_port.specs.declared.request.Request.{Request}

-- The host calls by their names. The rules speak of names alone.

pub data HostCall : Type 0 where
  CreateData : HostCall
  WriteData : HostCall
  ReadData : HostCall
  SeekData : HostCall
  DataSize : HostCall
  GetTag : HostCall
  PushStream : HostCall
  TakeStream : HostCall
  Send : HostCall
  Receive : HostCall
  ProcessId : HostCall
  Exists : HostCall
  Spawn : HostCall
  Kill : HostCall
  Link : HostCall
  Unlink : HostCall
  DieWhenLinkDies : HostCall
  SleepMs : HostCall
  CreateConfig : HostCall
  DropConfig : HostCall
  SetMaxMemory : HostCall
  SetMaxFuel : HostCall
  GetMaxMemory : HostCall
  GetMaxFuel : HostCall
  RegistryPut : HostCall
  RegistryGet : HostCall
  RegistryRemove : HostCall
  Bind : HostCall
  LocalPort : HostCall
  Accept : HostCall
  Connect : HostCall
  ReadStream : HostCall
  WriteStream : HostCall
  DropStream : HostCall
  DropListener : HostCall
  Print : HostCall

-- the calls in the order of their numbers, from 0
abbrev pub all_calls : List HostCall
all_calls =
    CreateData ∷ WriteData ∷ ReadData ∷ SeekData ∷ DataSize ∷ GetTag ∷ PushStream ∷ TakeStream ∷ Send ∷ Receive
    ∷ ProcessId ∷ Exists ∷ Spawn ∷ Kill ∷ Link ∷ Unlink ∷ DieWhenLinkDies ∷ SleepMs
    ∷ CreateConfig ∷ DropConfig ∷ SetMaxMemory ∷ SetMaxFuel ∷ GetMaxMemory ∷ GetMaxFuel
    ∷ RegistryPut ∷ RegistryGet ∷ RegistryRemove
    ∷ Bind ∷ LocalPort ∷ Accept ∷ Connect ∷ ReadStream ∷ WriteStream ∷ DropStream ∷ DropListener ∷ Print ∷ []

-- the call of this number, if there is one
abbrev pub call_numbered : ℕ → Option HostCall
call_numbered number = slice_get all_calls number

-- the call that a request asks for
abbrev pub call_of : Request → Option HostCall
call_of request = call_numbered request.ask.call

-- an argument of a request, counted from 0
abbrev pub arg : Request → ℕ → ℕ
arg request place = slice_index request.ask.args place
