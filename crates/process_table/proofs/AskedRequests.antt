use Rattle.std.proofs.Common.{◌≡◌, ◌≤◌, ℕ, ◌+◌, ◌*◌, ◌%◌, ◌&&◌, List, [], ◌∷◌, length, take, drop, min, Option, Some, None, IsSome, Bool, true, false, cond, is_some, nat_le, slice_index}
use Rattle.std.proofs.Common.{length-take, length-drop, refl, arith, sym, ◌∙◌, ap, subst}
use Rattle.std.proofs.lemmas.Bool.Decides.{nat_tests}
use Rattle.host_port.specs.declared.ask.Ask.{Ask}
use Rattle.host_port.specs.declared.call.Call.{Call}
use Rattle.host_port.specs.declared.request.Request.{Request}
use Rattle.host_port.specs.HostTable.{Area, areas_of, areas_read, are_sound}
use Rattle.host_port.specs.Areas.{areas_fit, fits_in, bytes_at, first_bytes, request_of}
use Rattle.host_port.proofs.HostLaws.{receive-areas, receive-reads, receive-sound}
use Rattle.message_scratch.specs.Messages as Kept
use Rattle.world_rules.specs.declared.entry.Side.{Side}
use Rattle.world_rules.specs.declared.halt.Halt.TheVariants.{Asks}
use Rattle.world_rules.specs.declared.halt.HostFault.{HostFault}
use Rattle.world_rules.specs.declared.halt.HostFault.TheVariants.{BadPointer, NoMessage}
use Rattle.world_rules.specs.declared.life.Birth.{Birth}
use Rattle.world_rules.specs.Calls.{HostCall, call_of}
use Rattle.world_rules.specs.Judge.{Judgement, Fit, Overdrawn, Faulty, judgement_of, fault_of, unless}
use Rattle.world_rules.specs.Lives.{Setting}
use Rattle.world_rules.specs.Settled.{settled, ListenerBound}
use Rattle.world_rules.specs.Rules.{part_after_turn}
use Rattle.resource_table.specs.Handles.{numbers_of}
use Rattle.world_rules.specs.Local.{part_after}
use Rattle.world_rules.specs.Part.{Part, Scratch}
use Rattle.world_rules.specs.Views.{Given}
use Rattle.world_rules.specs.World.{World, Process}
use Rattle.node_state.specs.Seats.{Meaning}
use Rattle.node_state.specs.Fits.{TurnFits, give_of, is_bound}
use Rattle.process_table.proofs.ServedCalls.{own-turn}
use Rattle.node_laws.proofs.HostRows.{send-called}
use Rattle.node_laws.proofs.Requests.{asked-fits}
use Rattle.host_calls.specs.declared.proc.Proc.{Proc}
use Rattle.host_calls.specs.Shown.{seat_of, shown_part, shown_scratch, brought_by}

-- What is known of a request that a turn asks for.

fit_faultless : (fits within : Bool) (fault : Option HostFault) → cond fits (cond within (judgement_of fault) Overdrawn) (Faulty BadPointer) ≡ Fit → fault ≡ None
fit_faultless true true None e = refl
fit_faultless true true (Some fault) e = let h : ⊥ = cc in absurd h
fit_faultless true false fault e = let h : ⊥ = cc in absurd h
fit_faultless false within fault e = let h : ⊥ = cc in absurd h

message_there : {S : Type 0} (kept : Option (Kept.Scratch S)) (scratch : Option Scratch) → shown_scratch kept ≡ scratch → unless (is_some scratch) NoMessage ≡ None → IsSome kept
message_there (Some kept) scratch same none = refl
message_there None scratch same none =
    let e : unless false NoMessage ≡ None = subst (λ (s : Option Scratch). unless (is_some s) NoMessage ≡ None) (sym same) none in
    let h : ⊥ = cc in absurd h

bound_scratch : (b : Bool) (part : Part) → (cond b (settled part ListenerBound) part).scratch ≡ part.scratch
bound_scratch true part = refl
bound_scratch false part = refl

-- who asks for a send has a scratch message
pub sender-has : {E O P S L : Type 0} {engines : Meaning E P} {setting : Setting P} (births : List Birth) (w : World) (worker pid : ℕ) (proc : Proc E O P S L) (calls : List Call) (request : Request)
    (side : Side) → request.ask.call ≡ 8
    → TurnFits engines setting births w worker pid (brought_by proc calls (Asks request) side) → IsSome proc.scratch
sender-has {setting = setting} births w worker pid proc calls request side call fits =
    let p : Process = w.process pid in
    let give : Given = give_of worker pid (brought_by proc calls (Asks request) side) in
    let after : Part = part_after p.start p.part calls in
    let t = (own-turn setting births w p give request p.owed refl fits.allowed.turn fits.turn).0 in
    let none : fault_of (call_of request) after request ≡ None = fit_faultless request.fits _ (fault_of (call_of request) after request) t.halted.judged in
    let here : unless (is_some after.scratch) NoMessage ≡ None = subst (λ (c : Option HostCall). fault_of c after request ≡ None) (send-called request call) none in
    message_there proc.scratch after.scratch (ap (λ (part : Part). part.scratch) fits.seated.part ∙ bound_scratch (is_bound (call_of request) side) (part_after_turn p give)) here

-- TAGS

and_right : (a b : Bool) → (a && (b && true)) ≡ true → b ≡ true
and_right true true e = refl
and_right true false e = e
and_right false b e = absurd (cc)

eights : (n k : ℕ) → k ≡ 8 * n → k % 8 ≡ 0
eights n k e = omega (arith, e)

taken_whole : (memory : List ℕ) (area : Area) (n : ℕ) → area.len ≡ 8 * n → nat_le (area.addr + area.len) (length memory) ≡ true → length (bytes_at memory area) % 8 ≡ 0
taken_whole memory area n whole within =
    let fits : area.addr + area.len ≤ length memory = grind (arith, nat_tests, within) in
    let all : length (bytes_at memory area) ≡ area.len = simp (length-take, length-drop) (omega (arith, fits)) in
    eights n (length (bytes_at memory area)) (all ∙ whole)

-- the bytes that a receive reads are whole tags
tags_read : (memory : List ℕ) (ask : Ask) → ask.call ≡ 9 → areas_fit memory ask ≡ true → length (request_of memory ask).first % 8 ≡ 0
tags_read memory ask call fits =
    let area : Area = record { addr = slice_index ask.args 0; len = 8 * slice_index ask.args 1 } in
    let within : nat_le (area.addr + area.len) (length memory) ≡ true = and_right (are_sound ask) (fits_in memory area) (rw (receive-areas ask call) at fits) in
    rw (fits, receive-reads ask call) (taken_whole memory area (slice_index ask.args 1) refl within)

pub tags-whole : {E O P S L : Type 0} {engines : Meaning E P} {setting : Setting P} (births : List Birth) (w : World) (worker pid : ℕ) (proc : Proc E O P S L) (calls : List Call) (request : Request)
    (side : Side) → request.ask.call ≡ 9
    → TurnFits engines setting births w worker pid (brought_by proc calls (Asks request) side) → length request.first % 8 ≡ 0
tags-whole {engines = engines} births w worker pid proc calls request side call fits =
    let memory : List ℕ = engines.memory proc.engine in
    let is = fits.phase.0.bytes in
    let there : areas_fit memory request.ask ≡ true = ap (λ (r : Request). r.fits) (sym is) ∙ asked-fits births w worker pid (seat_of proc) calls request side (numbers_of proc.shed) fits in
    subst (λ (r : Request). length r.first % 8 ≡ 0) (sym is) (tags_read memory request.ask call there)
