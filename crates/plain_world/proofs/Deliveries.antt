use Rattle.std.proofs.Common.{◌≡◌, ℕ, List, [], ◌∷◌, Option, Some, None, true, false, cond, refl, ap, sym, ◌∙◌}
use Rattle.host_port.specs.declared.request.Request.{Request}
use Rattle.world_rules.specs.Calls.{HostCall, call_of, CreateData, WriteData, ReadData, SeekData, DataSize, GetTag, PushStream, TakeStream, Send, Receive, ProcessId, Exists, Spawn, Kill, Link, Unlink, DieWhenLinkDies, SleepMs, CreateConfig, DropConfig, SetMaxMemory, SetMaxFuel, GetMaxMemory, GetMaxFuel, RegistryPut, RegistryGet, RegistryRemove, Bind, LocalPort, Accept, Connect, ReadStream, WriteStream, DropStream, DropListener, Print}
use Rattle.world_rules.specs.Mail.{MailItem, tag_of, tags_in, is_wanted, pick, unpicked}
use Rattle.world_rules.specs.World.{World, Process, Stage, Unborn, Ready, Out, Waiting, Doomed, Ended, with_process}
use Rattle.world_rules.specs.Changes.{posted}
use Rattle.world_rules.specs.Receive.{wanted_item, without_wanted, delivered, delivered_or, unmet, receive_performed, woken_from, woken, arrived}
use Rattle.plain_world.specs.Awaited.{receive_in, awaited_in}
use Rattle.plain_world.proofs.Places.{same_function}

-- What a receive finds, and what an arrival wakes.

-- a list in which nothing is wanted stays
unpicked_none : (tags : List ℕ) (mail : List MailItem) → pick tags mail ≡ None → unpicked tags mail ≡ mail
unpicked_none tags [] none = refl
unpicked_none tags (item ∷ mail) none =
    elim (is_wanted tags (tag_of item)) as (λ b. cond b (Some item) (pick tags mail) ≡ None → cond b mail (item ∷ unpicked tags mail) ≡ item ∷ mail) [
      | true ↦ λ e. absurd cc
      | false ↦ λ e. ap (λ rest. item ∷ rest) (unpicked_none tags mail e)
    ] none

-- so does the world
pub without_none : (w : World) (pid : ℕ) (request : Request) → wanted_item w pid request ≡ None → without_wanted w pid request ≡ w
without_none w pid request none =
    ap (λ (mail : List MailItem). with_process w pid (record (w.process pid) { mail = mail })) (unpicked_none (tags_in request.first) (w.process pid).mail none)
    ∙ ap (λ (processes : ℕ → Process). record w { process = processes }) (sym (same_function w.process pid (w.process pid) refl))

-- a receive that finds nothing, and one that finds an item
pub received-nothing : (w left new : World) (pid : ℕ) (request : Request) → None ≡ wanted_item w pid request → left ≡ without_wanted w pid request → new ≡ unmet left pid request → new ≡ receive_performed w pid request
received-nothing w left new pid request none out done =
    done
    ∙ ap (λ (v : World). unmet v pid request) (out ∙ without_none w pid request (sym none))
    ∙ ap (λ (found : Option MailItem). delivered_or (unmet w pid request) w pid request found) none

pub received-item : (w left new : World) (pid : ℕ) (request : Request) (item : MailItem) → Some item ≡ wanted_item w pid request → left ≡ without_wanted w pid request → new ≡ delivered left pid request item → new ≡ receive_performed w pid request
received-item w left new pid request item some out done =
    done
    ∙ ap (λ (v : World). delivered v pid request item) out
    ∙ ap (λ (found : Option MailItem). delivered_or (unmet w pid request) w pid request found) some

-- what is woken by an item that was put into the mailbox, where it waits for this request, or for none
abbrev woken_for : Option Request → World → ℕ → World
woken_for None w pid = w
woken_for (Some request) w pid = delivered_or w w pid request (wanted_item w pid request)

woken_from-receive : (call : Option HostCall) (w : World) (pid : ℕ) (request : Request) → woken_from call w pid request ≡ woken_for (receive_in call request) w pid
woken_from-receive None w pid request = refl
woken_from-receive (Some CreateData) w pid request = refl
woken_from-receive (Some WriteData) w pid request = refl
woken_from-receive (Some ReadData) w pid request = refl
woken_from-receive (Some SeekData) w pid request = refl
woken_from-receive (Some DataSize) w pid request = refl
woken_from-receive (Some GetTag) w pid request = refl
woken_from-receive (Some PushStream) w pid request = refl
woken_from-receive (Some TakeStream) w pid request = refl
woken_from-receive (Some Send) w pid request = refl
woken_from-receive (Some Receive) w pid request = refl
woken_from-receive (Some ProcessId) w pid request = refl
woken_from-receive (Some Exists) w pid request = refl
woken_from-receive (Some Spawn) w pid request = refl
woken_from-receive (Some Kill) w pid request = refl
woken_from-receive (Some Link) w pid request = refl
woken_from-receive (Some Unlink) w pid request = refl
woken_from-receive (Some DieWhenLinkDies) w pid request = refl
woken_from-receive (Some SleepMs) w pid request = refl
woken_from-receive (Some CreateConfig) w pid request = refl
woken_from-receive (Some DropConfig) w pid request = refl
woken_from-receive (Some SetMaxMemory) w pid request = refl
woken_from-receive (Some SetMaxFuel) w pid request = refl
woken_from-receive (Some GetMaxMemory) w pid request = refl
woken_from-receive (Some GetMaxFuel) w pid request = refl
woken_from-receive (Some RegistryPut) w pid request = refl
woken_from-receive (Some RegistryGet) w pid request = refl
woken_from-receive (Some RegistryRemove) w pid request = refl
woken_from-receive (Some Bind) w pid request = refl
woken_from-receive (Some LocalPort) w pid request = refl
woken_from-receive (Some Accept) w pid request = refl
woken_from-receive (Some Connect) w pid request = refl
woken_from-receive (Some ReadStream) w pid request = refl
woken_from-receive (Some WriteStream) w pid request = refl
woken_from-receive (Some DropStream) w pid request = refl
woken_from-receive (Some DropListener) w pid request = refl
woken_from-receive (Some Print) w pid request = refl

woken-awaited : (stage : Stage) (w : World) (pid : ℕ) → woken stage w pid ≡ woken_for (awaited_in stage) w pid
woken-awaited Unborn w pid = refl
woken-awaited Ready w pid = refl
woken-awaited (Out worker) w pid = refl
woken-awaited (Waiting request) w pid = woken_from-receive (call_of request) w pid request
woken-awaited (Doomed worker end) w pid = refl
woken-awaited (Ended end) w pid = refl

arrived-for : (w there : World) (to : ℕ) (item : MailItem) (awaited : Option Request) → awaited ≡ awaited_in (w.process to).stage → there ≡ posted w to item → woken_for awaited there to ≡ arrived w to item
arrived-for w there to item awaited is put_in =
    ap (λ (a : Option Request). woken_for a there to) is
    ∙ ap (λ (v : World). woken_for (awaited_in (w.process to).stage) v to) put_in
    ∙ sym (woken-awaited (w.process to).stage (posted w to item) to)

-- an item arrives at a process that waits in no receive; in one that doesn't want it; and in one that wants it
pub arrived-unawaited : (w there : World) (to : ℕ) (item : MailItem) → None ≡ awaited_in (w.process to).stage → there ≡ posted w to item → there ≡ arrived w to item
arrived-unawaited w there to item is put_in = arrived-for w there to item None is put_in

pub arrived-unwanted : (w there left : World) (to : ℕ) (item : MailItem) (request : Request) → Some request ≡ awaited_in (w.process to).stage → there ≡ posted w to item → None ≡ wanted_item there to request → left ≡ without_wanted there to request → left ≡ arrived w to item
arrived-unwanted w there left to item request is put_in none out =
    out ∙ without_none there to request (sym none)
    ∙ ap (λ (found : Option MailItem). delivered_or there there to request found) none
    ∙ arrived-for w there to item (Some request) is put_in

pub arrived-wanted : (w there left new : World) (to : ℕ) (item found : MailItem) (request : Request) → Some request ≡ awaited_in (w.process to).stage → there ≡ posted w to item → Some found ≡ wanted_item there to request → left ≡ without_wanted there to request → new ≡ delivered left to request found → new ≡ arrived w to item
arrived-wanted w there left new to item found request is put_in some out done =
    done
    ∙ ap (λ (v : World). delivered v to request found) out
    ∙ ap (λ (o : Option MailItem). delivered_or there there to request o) some
    ∙ arrived-for w there to item (Some request) is put_in
