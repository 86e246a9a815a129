use Rattle.std.specs.Prelude.{List, length, map}
use Rattle.plain_part.specs.Configs.{config_at}
use Rattle.plain_part.specs.declared.part.PlainPart.{PlainPart}
use Rattle.plain_part.specs.declared.mail_item.MailItem as Kept
use Rattle.plain_part.specs.declared.mail_item.MailItem.TheVariants as kept
use Rattle.plain_part.specs.declared.calls.HostCall as Coded
use Rattle.plain_part.specs.declared.calls.HostCall.TheVariants as call
use Rattle.world_rules.specs.Calls.{HostCall}
use Rattle.world_rules.specs.Calls as CallIs
use Rattle.plain_part.specs.declared.judge.Judgement as Judged
use Rattle.plain_part.specs.declared.judge.Judgement.TheVariants as judged
use Rattle.world_rules.specs.Judge.{Judgement, Fit, Overdrawn, Faulty}
use Rattle.world_rules.specs.Part.{Part}
use Rattle.world_rules.specs.Mail.{MailItem, Letter, Signal}

-- What the code's structures show of the rules' own.

-- the part that is shown
abbrev pub shown_part : PlainPart → Part
shown_part plain = record {
  scratch = plain.scratch;
  handles = plain.handles.items;
  listeners = plain.listeners.items;
  next_listener = plain.next_listener;
  configs = config_at plain.configs.items;
  next_config = length plain.configs.items;
  traffic = plain.traffic;
}

-- the item of a mailbox that is shown
abbrev pub shown_item : Kept.MailItem → MailItem
shown_item (kept.Letter number message) = Letter number message
shown_item (kept.Signal tag) = Signal tag

-- the items of a mailbox
abbrev pub shown_mail : List Kept.MailItem → List MailItem
shown_mail items = map shown_item items

-- the call of the rules that a call of the code is
abbrev pub shown_call : Coded.HostCall → HostCall
shown_call call.CreateData = CallIs.CreateData
shown_call call.WriteData = CallIs.WriteData
shown_call call.ReadData = CallIs.ReadData
shown_call call.SeekData = CallIs.SeekData
shown_call call.DataSize = CallIs.DataSize
shown_call call.GetTag = CallIs.GetTag
shown_call call.PushStream = CallIs.PushStream
shown_call call.TakeStream = CallIs.TakeStream
shown_call call.Send = CallIs.Send
shown_call call.Receive = CallIs.Receive
shown_call call.ProcessId = CallIs.ProcessId
shown_call call.Exists = CallIs.Exists
shown_call call.Spawn = CallIs.Spawn
shown_call call.Kill = CallIs.Kill
shown_call call.Link = CallIs.Link
shown_call call.Unlink = CallIs.Unlink
shown_call call.DieWhenLinkDies = CallIs.DieWhenLinkDies
shown_call call.SleepMs = CallIs.SleepMs
shown_call call.CreateConfig = CallIs.CreateConfig
shown_call call.DropConfig = CallIs.DropConfig
shown_call call.SetMaxMemory = CallIs.SetMaxMemory
shown_call call.SetMaxFuel = CallIs.SetMaxFuel
shown_call call.GetMaxMemory = CallIs.GetMaxMemory
shown_call call.GetMaxFuel = CallIs.GetMaxFuel
shown_call call.RegistryPut = CallIs.RegistryPut
shown_call call.RegistryGet = CallIs.RegistryGet
shown_call call.RegistryRemove = CallIs.RegistryRemove
shown_call call.Bind = CallIs.Bind
shown_call call.LocalPort = CallIs.LocalPort
shown_call call.Accept = CallIs.Accept
shown_call call.Connect = CallIs.Connect
shown_call call.ReadStream = CallIs.ReadStream
shown_call call.WriteStream = CallIs.WriteStream
shown_call call.DropStream = CallIs.DropStream
shown_call call.DropListener = CallIs.DropListener
shown_call call.Print = CallIs.Print

-- the judgement of the rules that a judgement of the code is
abbrev pub shown_judgement : Judged.Judgement → Judgement
shown_judgement judged.Fit = Fit
shown_judgement judged.Overdrawn = Overdrawn
shown_judgement (judged.Faulty fault) = Faulty fault
