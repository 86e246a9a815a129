-- What came beside the ask of a turn, of the whole process.
use Rattle.std.proofs.Common.{◌≡◌, ◌≢◌, ℕ, ◌+◌, ◌≤◌, Bool, true, false, if◌then◌else◌, List, [], ◌++◌, length, All, Contains, Option, Some, None, IfSome, IsSome, option_map, refl, sym, ◌∙◌, ap, subst, arith}
use Rattle.host_port.specs.declared.ask.Ask.{Ask}
use Rattle.host_port.specs.declared.request.Request.{Request}
use Rattle.host_port.specs.Areas.{request_of}
use Rattle.host_port.specs.HostTable.{row_of}
use Rattle.host_port.specs.HostTable as Served
use Rattle.resource_table.specs.Handles.{Handle, numbers_of}
use Rattle.resource_table.specs.Steps.{Told, IsShut}
use Rattle.world_rules.specs.declared.entry.Side.{Side}
use Rattle.world_rules.specs.declared.entry.Side.TheVariants as SideIs
use Rattle.world_rules.specs.declared.halt.Halt.{Halt}
use Rattle.world_rules.specs.declared.halt.Halt.TheVariants as HaltIs
use Rattle.world_rules.specs.Calls.{call_of}
use Rattle.world_rules.specs.Views.{answer_in, clock_in, want_of, wanted_in}
use Rattle.world_rules.specs.Kinds.{kind_of, may_come}
use Rattle.world_rules.specs.Judge.{fault_of}
use Rattle.world_rules.specs.Sound.{times}
use Rattle.world_rules.specs.World.{World, first_world}
use Rattle.node_state.specs.Seats.{IsAsked, IsOwed, part_handles}
use Rattle.node_state.specs.Fits.{is_outside, kept_ask, with_bound}
use Rattle.node_state.specs.Streaming.{streamed_beside}
use Rattle.host_calls.specs.declared.proc.Proc.{Proc}
use Rattle.host_calls.specs.Shown.{shown_part, hands_of, streams_by}
use Rattle.host_calls.specs.Steps.{AreInOrder, HandsOver}
use Rattle.host_calls.specs.Outsides.{IsOutStep, IsTimeOf}
use Rattle.host_calls.specs.Brings.{StreamsMayCome, HandsBack}
use Rattle.host_calls.specs.Turning.{KeepsStreams, HasCome, IsTimeFor}
use Rattle.host_calls.proofs.Served.{kept_ask_is, no_kept_ask, time_fits}
use Rattle.host_calls.proofs.Comes.{outside_answers, fits_answer, time_none, asked_bound, unbound, owed_bound}
use Rattle.host_calls.proofs.Streamings.{nothing_by, clock_by, open_all, streams_none, streams_beside}
use Rattle.host_calls.proofs.Given.{AsksNothing, CameBeside}

if_kept : (b : Bool) (ask : Ask) (Q : Ask → Type 0) → Q ask → IfSome (if b then Some ask else None) Q
if_kept true ask Q is = is
if_kept false ask Q is = tt

-- nothing is wanted after a turn that asks nothing and owed nothing
pub none_wanted : (halt : Halt) (owed : Option Request) → AsksNothing halt → owed ≡ None → wanted_in (want_of halt) owed ≡ None
none_wanted HaltIs.Slice owed none unowed = refl
none_wanted (HaltIs.Asks request) owed none unowed = absurd (none request refl)
none_wanted HaltIs.Done owed none unowed = refl
none_wanted (HaltIs.Trap trap) owed none unowed = refl
none_wanted (HaltIs.Spent spent) owed none unowed = refl
none_wanted (HaltIs.Host fault request) owed none unowed = refl
none_wanted HaltIs.NoMemory owed none unowed = refl
none_wanted HaltIs.Again owed none unowed = unowed

module _ {E O P S L : Type 0} (tells : Told S) where
  -- the outside was asked, and the ask is kept
  pub come_outside : (memory : List ℕ) (ask : Ask) (old mid : Proc E O P S L) (side : Side) (arrived : Option S) → is_outside (kind_of (request_of memory ask)) ≡ true →
      IsOutStep tells (request_of memory ask) old mid side arrived → HasCome tells (request_of memory ask) old (record mid { owed = Some ask }) side arrived
  come_outside memory ask old mid side arrived outside step = record {
    beside = λ row w pid. step.beside w pid;
    part = step.part;
    owed = λ row. sym (kept_ask_is (request_of memory ask) outside);
    others = step.others;
    streamed = step.streamed;
    arrived_so = step.opened;
    fresh = step.fresh;
    unrefused =
        (fits_answer (may_come (request_of memory ask)) (first_world []) 0 (shown_part old) (request_of memory ask) side (outside_answers (request_of memory ask) outside)
        (step.beside (first_world []) 0)).1;
  }

  pub time_outside : (clock : Option ℕ) (memory : List ℕ) (ask : Ask) (old mid : Proc E O P S L) (side : Side) (arrived : Option S) → is_outside (kind_of (request_of memory ask)) ≡ true →
      IsOutStep tells (request_of memory ask) old mid side arrived → IsTimeOf clock side
  time_outside clock memory ask old mid side arrived outside step =
      time_none clock side
      (fits_answer (may_come (request_of memory ask)) (first_world []) 0 (shown_part old) (request_of memory ask) side (outside_answers (request_of memory ask) outside)
      (step.beside (first_world []) 0)).0

  -- the time came, or nothing
  pub come_time : (clock : Option ℕ) (memory : List ℕ) (ask : Ask) (p : Proc E O P S L) (side : Side) → IsTimeFor clock ask.call side → is_outside (Served.kind_of ask.call) ≡ false →
      p.owed ≡ None → HasCome tells (request_of memory ask) p p side None
  come_time clock memory ask p SideIs.Nothing is isnt unowed = record {
    beside = λ row w pid. time_fits clock (request_of memory ask) SideIs.Nothing is isnt row w pid (shown_part p);
    part = sym (unbound (request_of memory ask) SideIs.Nothing (shown_part p) refl);
    owed = λ row. unowed ∙ sym (no_kept_ask (request_of memory ask) isnt row);
    others = λ handle apart there. there;
    streamed = λ streamed open_before.
        open_all tells streamed (streamed_beside (Some (request_of memory ask)) SideIs.Nothing streamed) (hands_of p)
        (nothing_by (call_of (request_of memory ask)) (request_of memory ask) streamed) open_before;
    arrived_so = refl;
    fresh = tt;
    unrefused = λ e. cc;
  }
  come_time clock memory ask p (SideIs.Clock now) is isnt unowed = record {
    beside = λ row w pid. time_fits clock (request_of memory ask) (SideIs.Clock now) is isnt row w pid (shown_part p);
    part = sym (unbound (request_of memory ask) (SideIs.Clock now) (shown_part p) refl);
    owed = λ row. unowed ∙ sym (no_kept_ask (request_of memory ask) isnt row);
    others = λ handle apart there. there;
    streamed = λ streamed open_before.
        open_all tells streamed (streamed_beside (Some (request_of memory ask)) (SideIs.Clock now) streamed) (hands_of p)
        (clock_by (call_of (request_of memory ask)) (request_of memory ask) now streamed) open_before;
    arrived_so = refl;
    fresh = tt;
    unrefused = λ e. cc;
  }
  come_time clock memory ask p SideIs.Pending is isnt unowed = absurd is
  come_time clock memory ask p (SideIs.Answer reply) is isnt unowed = absurd is
  come_time clock memory ask p SideIs.Opened is isnt unowed = absurd is
  come_time clock memory ask p SideIs.NoMemory is isnt unowed = absurd is

  -- what a give wants to know of it
  module _ (memory : List ℕ) (ask : Ask) (old new : Proc E O P S L) (side : Side) (arrived : Option S) (asked : IsAsked memory (shown_part old) ask)
      (came : HasCome tells (request_of memory ask) old new side arrived) where
    pub asked_after : IsAsked memory (shown_part new) ask
    asked_after = asked_bound memory (shown_part old) (shown_part new) ask side came.part asked

    pub tries_after : IsSome (row_of ask.call) → IfSome new.owed (IsAsked memory (shown_part new))
    tries_after row =
        subst (λ (o : Option Ask). IfSome o (IsAsked memory (shown_part new))) (sym (came.owed row))
        (if_kept (is_outside (kind_of (request_of memory ask))) ask (IsAsked memory (shown_part new)) asked_after)

    pub pending_after : IsSome (row_of ask.call) → World → side ≡ SideIs.Pending → IfSome new.owed (IsOwed memory (shown_part new))
    pending_after row w pending =
        subst (λ (o : Option Ask). IfSome o (IsOwed memory (shown_part new))) (sym (came.owed row))
        (if_kept (is_outside (kind_of (request_of memory ask))) ask (IsOwed memory (shown_part new))
        (owed_bound memory (shown_part old) (shown_part new) ask side came.part asked w 0 (came.beside row w 0) pending))

    pub came_beside : CameBeside (shown_part old) (request_of memory ask) side memory (shown_part new) new.owed
    came_beside = record {
      beside = came.beside;
      part_is = came.part;
      owed_is = came.owed;
      tries = tries_after;
      pending = pending_after;
      unrefused = came.unrefused;
    }

  -- THE STREAMS

  pub handed_from : (begin mid : Proc E O P S L) → begin.shed ≡ [] → KeepsStreams tells begin mid → HandsOver tells (hands_of begin) [] (hands_of mid) mid.shed
  handed_from begin mid blank keeps = subst (λ (s : List (Handle S)). HandsOver tells (hands_of begin) s (hands_of mid) mid.shed) blank keeps.handed

  pub apart_from : (begin mid : Proc E O P S L) → begin.shed ≡ [] → AreInOrder begin → KeepsStreams tells begin mid →
      (k : ℕ) → times k (numbers_of mid.shed) + times k (part_handles (shown_part mid)) ≤ 1
  apart_from begin mid blank order keeps k =
      around (times k (numbers_of mid.shed)) (times k (part_handles (shown_part mid))) (times k (numbers_of begin.shed)) (times k (part_handles (shown_part begin)))
      (ap (λ (s : List (Handle S)). times k (numbers_of s)) blank) (order.once.once k) (keeps.apart k)
    where
      around : (a b c d : ℕ) → c ≡ 0 → d ≤ 1 → a + b ≤ c + d → a + b ≤ 1
      around a b c d x y z = omega (arith, x, y, z)

  -- a turn that asked nothing
  pub streams_plain : (begin mid : Proc E O P S L) (halt : Halt) (owed : Option Request) → begin.shed ≡ [] → KeepsStreams tells begin mid → AsksNothing halt → owed ≡ None →
      StreamsMayCome tells (wanted_in (want_of halt) owed) SideIs.Nothing (hands_of begin) (streams_by mid None)
  streams_plain begin mid halt owed blank keeps none unowed =
      subst (λ (o : Option Request). StreamsMayCome tells o SideIs.Nothing (hands_of begin) (streams_by mid None)) (sym (none_wanted halt owed none unowed))
      (streams_none tells (hands_of begin) (hands_of mid) mid.shed (handed_from begin mid blank keeps))

  -- a turn beside whose ask something came
  pub streams_asked : (begin mid new : Proc E O P S L) (memory : List ℕ) (ask : Ask) (side : Side) (arrived : Option S) → begin.shed ≡ [] → AreInOrder begin → KeepsStreams tells begin mid →
      new.shed ≡ mid.shed → IsAsked memory (shown_part mid) ask → HasCome tells (request_of memory ask) mid new side arrived →
      StreamsMayCome tells (Some (request_of memory ask)) side (hands_of begin) (streams_by new arrived)
  streams_asked begin mid new memory ask side arrived blank order keeps same asked came =
      rw same
      (streams_beside tells (hands_of begin) (hands_of mid) mid.shed (handed_from begin mid blank keeps) (shown_part mid) (request_of memory ask) side (hands_of new) arrived
      (apart_from begin mid blank order keeps) asked.faultless came.streamed came.arrived_so came.fresh)

  -- THE VERY STREAMS

  shut_from : (begin mid : Proc E O P S L) → begin.shed ≡ [] → KeepsStreams tells begin mid → (handle : Handle S) → Contains mid.shed handle →
      ∥ ((before : Handle S) × Contains (hands_of begin) before × IsShut tells before handle) ∥₁
  shut_from begin mid blank keeps handle there =
      let handed = handed_from begin mid blank keeps in
      handed.shut handle (subst (λ (s : List (Handle S)). Contains s handle) handed.behind there)

  pub back_plain : (begin mid : Proc E O P S L) (wanted : Option Request) → begin.shed ≡ [] → KeepsStreams tells begin mid → HandsBack tells wanted (hands_of begin) (streams_by mid None)
  back_plain begin mid wanted blank keeps = record {
    in_hand = λ handle apart there. keeps.handed.in_hand handle there;
    shut = shut_from begin mid blank keeps;
  }

  pub back_asked : (begin mid new : Proc E O P S L) (request : Request) (side : Side) (arrived : Option S) → begin.shed ≡ [] → KeepsStreams tells begin mid → new.shed ≡ mid.shed →
      HasCome tells request mid new side arrived → HandsBack tells (Some request) (hands_of begin) (streams_by new arrived)
  back_asked begin mid new request side arrived blank keeps same came = record {
    in_hand = λ handle apart there. keeps.handed.in_hand handle (came.others handle apart there);
    shut = λ handle there. shut_from begin mid blank keeps handle (subst (λ (s : List (Handle S)). Contains s handle) same there);
  }
