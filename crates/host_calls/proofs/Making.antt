-- What an answered call makes of a process: which streams stay in hand, which are closed, and which part is left.
use Rattle.std.proofs.Common.{◌≡◌, ℕ, suc, ◌+◌, ◌≤◌, Bool, true, false, List, [], ◌∷◌, ◌++◌, length, length-append, take, drop, Option, Some, None, option_map, is_some, cond, zero, ltb, refl, ap, ap₂, sym, subst, ◌∙◌, arith}
use Rattle.std.specs.List.{Contains, filter}
use Rattle.host_port.specs.declared.start.Start.{Start}
use Rattle.host_port.specs.declared.ask.Ask.{Ask}
use Rattle.host_port.specs.declared.request.Request.{Request}
use Rattle.message_scratch.specs.Messages as Kept
use Rattle.message_scratch.specs.Messages.{blank_message, unread}
use Rattle.message_scratch.specs.Changes.{fitting, with_bytes, after_read, after_seek, after_push, after_take, is_within}
use Rattle.resource_table.specs.Handles.{Handle, IsRising, numbers_of, handle_of, with_handle, without_handle}
use Rattle.resource_table.specs.Steps.{Told, Sheds}
use Rattle.resource_table.proofs.Closings.{sheds_none}
use Rattle.resource_table.proofs.Tables.{lacks_from_none}
use Rattle.world_rules.specs.Calls.{HostCall, call_of, arg}
use Rattle.world_rules.specs.Calls as CallIs
use Rattle.world_rules.specs.Handles.{local_closings}
use Rattle.world_rules.specs.Judge.{own_fault, cost_of, charged}
use Rattle.world_rules.specs.Local.{local_part}
use Rattle.world_rules.specs.Part.{Part, slots_of, handles_in}
use Rattle.world_rules.specs.Sound.{times}
use Rattle.node_state.specs.Seats.{IsOnce, part_handles}
use Rattle.host_calls.specs.Listening.{without_listener}
use Rattle.host_calls.specs.Shown.{shown_scratch, shown_part, part_with, hands_of}
use Rattle.host_calls.specs.Steps.{AreInOrder, HandsOver, is_answered, listeners_after}
use Rattle.host_calls.specs.Answering.{Makes, Creates, Pushes, Takes, DropsStream}
use Rattle.host_calls.specs.declared.proc.Proc.{Proc}
use Rattle.host_calls.proofs.Numbering.{contains_one, times-append, times-contains, times-most}
use Rattle.host_calls.proofs.Faults.{push_fits}
use Rattle.host_calls.proofs.Handing.{IsFrom, from_same, from_push, from_take, from_drop, from_create, from_as, from_times, hands_over, room_stays, shed_numbers, numbers_of-parts}
use Rattle.host_calls.proofs.Moving.{IsIn, found_in, taken_out, parted, handles_in-push, handles_in-taken, handles_in-left}
use Rattle.host_calls.proofs.Showing.{shown_handles, part_written, part_read, part_sought, part_pushed, part_taken, part_dropped, part_unbound}

module _ {E O P S L : Type 0} where
  -- the numbers of those in hand
  pub hand_numbers : (proc : Proc E O P S L) (traffic : ℕ) →
      numbers_of (hands_of proc) ≡ part_handles (part_with proc.scratch proc.table proc.listeners traffic)
  hand_numbers proc traffic =
      numbers_of-parts proc.table (Kept.handles_in (Kept.slots_of proc.scratch))
      ∙ ap (λ (ns : List ℕ). numbers_of proc.table ++ ns) (shown_handles proc.scratch)

  -- THE RECORDS OF A MOVE

  pub pushed_as : (old : Proc E O P S L) (handle : ℕ) (moved : Handle S) (scratch : Option (Kept.Scratch S)) (table : List (Handle S)) →
      IsRising old.table → handle_of handle old.table ≡ Some moved → scratch ≡ option_map (after_push moved) old.scratch →
      table ≡ without_handle handle old.table → Pushes handle old (record old { scratch = scratch; table = table })
  pushed_as old handle moved scratch table rises found pushed left = record {
    rises = rises;
    moved = moved;
    found = found;
    is = ap₂ (λ (s : Option (Kept.Scratch S)) (t : List (Handle S)). record old { scratch = s; table = t }) pushed left;
  }

  pub stays_as : (old : Proc E O P S L) (scratch : Option (Kept.Scratch S)) (table : List (Handle S)) →
      scratch ≡ old.scratch → table ≡ old.table → record old { scratch = scratch; table = table } ≡ old
  stays_as old scratch table same_scratch same_table =
      ap₂ (λ (s : Option (Kept.Scratch S)) (t : List (Handle S)). record old { scratch = s; table = t }) same_scratch same_table

  pub taken_as : (old : Proc E O P S L) (place : ℕ) (moved : Handle S) (scratch : Option (Kept.Scratch S)) (table : List (Handle S)) →
      IsRising old.table → (Contains (numbers_of old.table) moved.number → ⊥) → Kept.handle_at (Kept.slots_of old.scratch) place ≡ Some moved →
      scratch ≡ option_map (after_take place) old.scratch → table ≡ with_handle moved old.table →
      Takes place old (record old { scratch = scratch; table = table })
  taken_as old place moved scratch table rises other found left put = record {
    moved = moved;
    found = found;
    rises = rises;
    other = other;
    is = ap₂ (λ (s : Option (Kept.Scratch S)) (t : List (Handle S)). record old { scratch = s; table = t }) left put;
  }

  pub dropped_as : (tells : Told S) (old : Proc E O P S L) (handle : ℕ) (moved : Handle S) (table shed : List (Handle S)) →
      IsRising old.table → handle_of handle old.table ≡ Some moved → table ≡ without_handle handle old.table →
      Sheds tells (moved ∷ []) old.shed shed → DropsStream tells handle old (record old { table = table; shed = shed })
  dropped_as tells old handle moved table shed rises found left sheds = record {
    rises = rises;
    moved = moved;
    found = found;
    shed = sheds;
    is = ap (λ (t : List (Handle S)). record old { table = t; shed = shed }) left;
  }

module _ {E O P S L : Type 0} (tells : Told S) (request : Request) (old : Proc E O P S L) where
  -- what is known of the process after a call
  pub record IsMade (call : HostCall) (new : Proc E O P S L) : Type 0 where
    pub engine : new.engine ≡ old.engine
    pub start : new.start ≡ old.start
    pub fuel : new.fuel ≡ old.fuel
    pub owed : new.owed ≡ old.owed
    pub listeners : new.listeners ≡ listeners_after (Some call) request old.listeners
    pub closed : List (Handle S)
    pub from : IsFrom (hands_of old) (hands_of new) closed
    pub sheds : Sheds tells closed old.shed new.shed
    pub closings : numbers_of closed ≡ local_closings (Some call) (shown_part old) request
    pub part : (traffic : ℕ) → part_with new.scratch new.table new.listeners traffic
        ≡ local_part call old.start (part_with old.scratch old.table old.listeners traffic) request

  made_as : (call : HostCall) (new is : Proc E O P S L) → new ≡ is → IsMade call is → IsMade call new
  made_as call new is same made = subst (λ (p : Proc E O P S L). IsMade call p) (sym same) made

  -- a call that changes the bytes of the scratch message alone
  keeps_slots : (call : HostCall) (scratch : Option (Kept.Scratch S)) → Kept.slots_of scratch ≡ Kept.slots_of old.scratch →
      local_closings (Some call) (shown_part old) request ≡ [] → listeners_after (Some call) request old.listeners ≡ old.listeners →
      ((traffic : ℕ) → part_with scratch old.table old.listeners traffic
      ≡ local_part call old.start (part_with old.scratch old.table old.listeners traffic) request) →
      IsMade call (record old { scratch = scratch })
  keeps_slots call scratch slots none stay part = record {
    engine = refl;
    start = refl;
    fuel = refl;
    owed = refl;
    listeners = sym stay;
    closed = [];
    from = from_as (hands_of old) (old.table ++ Kept.handles_in (Kept.slots_of scratch)) (hands_of old) (hands_of old) [] refl
        (ap (λ (slots : Kept.Slots S). old.table ++ Kept.handles_in slots) slots) (from_same (hands_of old));
    sheds = sheds_none tells old.shed;
    closings = sym none;
    part = part;
  }

  slots_written : (scratch : Option (Kept.Scratch S)) →
      Kept.slots_of (option_map (λ (s : Kept.Scratch S). with_bytes (fitting request.first s) s) scratch) ≡ Kept.slots_of scratch
  slots_written None = refl
  slots_written (Some s) = refl

  slots_read : (n : ℕ) (scratch : Option (Kept.Scratch S)) → Kept.slots_of (option_map (after_read n) scratch) ≡ Kept.slots_of scratch
  slots_read n None = refl
  slots_read n (Some s) = refl

  slots_sought : (n : ℕ) (scratch : Option (Kept.Scratch S)) → Kept.slots_of (option_map (after_seek n) scratch) ≡ Kept.slots_of scratch
  slots_sought n None = refl
  slots_sought n (Some s) = either (is_within n s)
    where
      either : (b : Bool) → Kept.slots_of (Some (cond b (record s { read_place = n }) s)) ≡ s.message.slots
      either true = refl
      either false = refl

  made_create : (new : Proc E O P S L) → Creates tells (arg request 0) old new → IsMade CallIs.CreateData new
  made_create new is = made_as CallIs.CreateData new (record old { scratch = Some (unread (blank_message (arg request 0))); shed = new.shed }) is.is (record {
    engine = refl;
    start = refl;
    fuel = refl;
    owed = refl;
    listeners = refl;
    closed = Kept.handles_in (Kept.slots_of old.scratch);
    from = from_create old.table (Kept.handles_in (Kept.slots_of old.scratch));
    sheds = is.shed;
    closings = shown_handles old.scratch;
    part = λ traffic. refl;
  })

  slots_pushed : (scratch : Option (Kept.Scratch S)) (moved : Handle S) → is_some (shown_scratch scratch) ≡ true →
      Kept.handles_in (Kept.slots_of (option_map (after_push moved) scratch)) ≡ Kept.handles_in (Kept.slots_of scratch) ++ moved ∷ []
  slots_pushed None moved some = absurd cc
  slots_pushed (Some s) moved some = handles_in-push s.message.slots moved

  made_push : (new : Proc E O P S L) → own_fault CallIs.PushStream (shown_part old) request ≡ None →
      Pushes (arg request 0) old new → IsMade CallIs.PushStream new
  made_push new fit is =
      let at = found_in (arg request 0) old.table is.moved is.found in
      let slots = Kept.handles_in (Kept.slots_of old.scratch) in
      let table : List (Handle S) = without_handle (arg request 0) old.table in
      let scratch : Option (Kept.Scratch S) = option_map (after_push is.moved) old.scratch in
      let some = (push_fits (shown_part old) (arg request 0) fit).0 in
      made_as CallIs.PushStream new (record old { scratch = scratch; table = table }) is.is (record {
        engine = refl;
        start = refl;
        fuel = refl;
        owed = refl;
        listeners = refl;
        closed = [];
        from = from_as (old.table ++ slots) (table ++ Kept.handles_in (Kept.slots_of scratch))
            ((at.lower ++ is.moved ∷ at.higher) ++ slots) ((at.lower ++ at.higher) ++ (slots ++ is.moved ∷ [])) []
            (ap (λ (t : List (Handle S)). t ++ slots) at.is)
            (ap₂ (λ (t u : List (Handle S)). t ++ u) (taken_out (arg request 0) old.table is.moved is.rises at) (slots_pushed old.scratch is.moved some))
            (from_push at.lower is.moved at.higher slots);
        sheds = sheds_none tells old.shed;
        closings = refl;
        part = λ traffic. part_pushed old.scratch old.table old.listeners traffic old.start request is.moved at.number;
      })

  slots_left : (scratch : Option (Kept.Scratch S)) (place : ℕ) → Kept.handles_in (Kept.slots_of (option_map (after_take place) scratch))
      ≡ Kept.handles_in (take place (Kept.slots_of scratch)) ++ Kept.handles_in (drop (suc place) (Kept.slots_of scratch))
  slots_left None zero = refl
  slots_left None (suc place) = refl
  slots_left (Some s) place = handles_in-left s.message.slots place

  made_take : (new : Proc E O P S L) → Takes (arg request 0) old new → IsMade CallIs.TakeStream new
  made_take new is =
      let slots = Kept.slots_of old.scratch in
      let place = arg request 0 in
      let lower : List (Handle S) = filter (λ (h : Handle S). ltb h.number is.moved.number) old.table in
      let higher : List (Handle S) = filter (λ (h : Handle S). ltb is.moved.number h.number) old.table in
      let front : List (Handle S) = Kept.handles_in (take place slots) in
      let back : List (Handle S) = Kept.handles_in (drop (suc place) slots) in
      let table : List (Handle S) = with_handle is.moved old.table in
      let scratch : Option (Kept.Scratch S) = option_map (after_take place) old.scratch in
      made_as CallIs.TakeStream new (record old { scratch = scratch; table = table }) is.is (record {
        engine = refl;
        start = refl;
        fuel = refl;
        owed = refl;
        listeners = refl;
        closed = [];
        from = from_as (old.table ++ Kept.handles_in slots) (table ++ Kept.handles_in (Kept.slots_of scratch))
            ((lower ++ higher) ++ (front ++ is.moved ∷ back)) ((lower ++ is.moved ∷ higher) ++ (front ++ back)) []
            (ap₂ (λ (t u : List (Handle S)). t ++ u)
            (parted is.moved.number old.table is.rises (lacks_from_none is.moved.number old.table is.other)) (handles_in-taken slots place is.moved is.found))
            (ap (λ (u : List (Handle S)). table ++ u) (slots_left old.scratch place))
            (from_take lower is.moved higher front back);
        sheds = sheds_none tells old.shed;
        closings = refl;
        part = λ traffic. part_taken old.scratch old.table old.listeners traffic old.start request is.moved is.found;
      })

  made_drop : (new : Proc E O P S L) → DropsStream tells (arg request 0) old new → IsMade CallIs.DropStream new
  made_drop new is =
      let at = found_in (arg request 0) old.table is.moved is.found in
      let slots = Kept.handles_in (Kept.slots_of old.scratch) in
      let table : List (Handle S) = without_handle (arg request 0) old.table in
      made_as CallIs.DropStream new (record old { table = table; shed = new.shed }) is.is (record {
        engine = refl;
        start = refl;
        fuel = refl;
        owed = refl;
        listeners = refl;
        closed = is.moved ∷ [];
        from = from_as (old.table ++ slots) (table ++ slots)
            ((at.lower ++ is.moved ∷ at.higher) ++ slots) ((at.lower ++ at.higher) ++ slots) (is.moved ∷ [])
            (ap (λ (t : List (Handle S)). t ++ slots) at.is)
            (ap (λ (t : List (Handle S)). t ++ slots) (taken_out (arg request 0) old.table is.moved is.rises at))
            (from_drop at.lower is.moved at.higher slots);
        sheds = is.shed;
        closings = ap (λ (n : ℕ). n ∷ []) at.number;
        part = λ traffic. part_dropped old.scratch old.table old.listeners traffic old.start request;
      })

  made_unbound : (new : Proc E O P S L) → new ≡ record old { listeners = without_listener (arg request 0) old.listeners } →
      IsMade CallIs.DropListener new
  made_unbound new is =
      made_as CallIs.DropListener new (record old { listeners = without_listener (arg request 0) old.listeners }) is (record {
        engine = refl;
        start = refl;
        fuel = refl;
        owed = refl;
        listeners = refl;
        closed = [];
        from = from_same (hands_of old);
        sheds = sheds_none tells old.shed;
        closings = refl;
        part = λ traffic. part_unbound old.scratch old.table old.listeners traffic old.start request;
      })

  -- MADE. All that is known after a call that is answered.
  pub made : (call : HostCall) (new : Proc E O P S L) → is_answered call ≡ true → own_fault call (shown_part old) request ≡ None →
      Makes tells call request old new → IsMade call new
  made CallIs.CreateData new answered fit is = made_create new is
  made CallIs.WriteData new answered fit is =
      made_as CallIs.WriteData new (record old { scratch = option_map (λ (s : Kept.Scratch S). with_bytes (fitting request.first s) s) old.scratch }) is
      (keeps_slots CallIs.WriteData (option_map (λ (s : Kept.Scratch S). with_bytes (fitting request.first s) s) old.scratch) (slots_written old.scratch) refl refl
      (λ traffic. part_written old.scratch old.table old.listeners traffic old.start request))
  made CallIs.ReadData new answered fit is =
      made_as CallIs.ReadData new (record old { scratch = option_map (after_read (arg request 1)) old.scratch }) is
      (keeps_slots CallIs.ReadData (option_map (after_read (arg request 1)) old.scratch) (slots_read (arg request 1) old.scratch) refl refl
      (λ traffic. part_read old.scratch old.table old.listeners traffic old.start request))
  made CallIs.SeekData new answered fit is =
      made_as CallIs.SeekData new (record old { scratch = option_map (after_seek (arg request 0)) old.scratch }) is
      (keeps_slots CallIs.SeekData (option_map (after_seek (arg request 0)) old.scratch) (slots_sought (arg request 0) old.scratch) refl refl
      (λ traffic. part_sought old.scratch old.table old.listeners old.traffic traffic old.start request fit))
  made CallIs.DataSize new answered fit is = made_as CallIs.DataSize new old is (keeps_slots CallIs.DataSize old.scratch refl refl refl (λ traffic. refl))
  made CallIs.GetTag new answered fit is = made_as CallIs.GetTag new old is (keeps_slots CallIs.GetTag old.scratch refl refl refl (λ traffic. refl))
  made CallIs.PushStream new answered fit is = made_push new fit is
  made CallIs.TakeStream new answered fit is = made_take new is
  made CallIs.ProcessId new answered fit is = made_as CallIs.ProcessId new old is (keeps_slots CallIs.ProcessId old.scratch refl refl refl (λ traffic. refl))
  made CallIs.DropStream new answered fit is = made_drop new is
  made CallIs.DropListener new answered fit is = made_unbound new is
  made CallIs.Print new answered fit is = made_as CallIs.Print new old is (keeps_slots CallIs.Print old.scratch refl refl refl (λ traffic. refl))
  made _ new answered fit is = absurd cc

  -- WHAT FOLLOWS, where the cost is added too

  pub made_order : (call : HostCall) (new : Proc E O P S L) (traffic : ℕ) → IsMade call new → AreInOrder old →
      AreInOrder (record new { traffic = traffic })
  made_order call new traffic made order = record {
    once = record {
      once = λ handle.
          let fewer = from_times (hands_of old) (hands_of new) made.closed handle made.from in
          let now = ap (times handle) (hand_numbers new traffic) in
          let was = ap (times handle) (hand_numbers old old.traffic) in
          let before = order.once.once handle in
          omega (arith, fewer, now, was, before);
    };
    room = room_stays tells (hands_of old) (hands_of new) made.closed old.shed new.shed made.from made.sheds order.room;
  }

  pub made_handed : (call : HostCall) (new : Proc E O P S L) → IsMade call new →
      HandsOver tells (hands_of old) old.shed (hands_of new) new.shed
  made_handed call new made = hands_over tells (hands_of old) (hands_of new) made.closed old.shed new.shed made.from made.sheds

  pub made_closed : (call : HostCall) (new : Proc E O P S L) → IsMade call new → call_of request ≡ Some call →
      numbers_of new.shed ≡ numbers_of old.shed ++ local_closings (call_of request) (shown_part old) request
  made_closed call new made at =
      shed_numbers tells made.closed old.shed new.shed made.sheds
      ∙ ap (λ (ns : List ℕ). numbers_of old.shed ++ ns) made.closings
      ∙ ap (λ (o : Option HostCall). numbers_of old.shed ++ local_closings o (shown_part old) request) (sym at)

  pub made_listeners : (call : HostCall) (new : Proc E O P S L) → IsMade call new → call_of request ≡ Some call →
      new.listeners ≡ listeners_after (call_of request) request old.listeners
  made_listeners call new made at =
      made.listeners ∙ ap (λ (o : Option HostCall). listeners_after o request old.listeners) (sym at)

  pub made_part : (call : HostCall) (new : Proc E O P S L) (traffic : ℕ) → IsMade call new → traffic ≡ old.traffic + cost_of request →
      part_with new.scratch new.table new.listeners traffic ≡ local_part call old.start (charged request (shown_part old)) request
  made_part call new traffic made cost =
      ap (λ (n : ℕ). part_with new.scratch new.table new.listeners n) cost ∙ made.part (old.traffic + cost_of request)

-- a stream in a slot isn't in the table
contains_once : (numbers others : List ℕ) (n : ℕ) → Contains numbers n → Contains others n → 2 ≤ times n (numbers ++ others)
contains_once numbers others n left right =
    let whole = times-append n numbers others in
    let one = times-contains n numbers left in
    let two = times-contains n others right in
    omega (arith, whole, one, two)

module _ {S : Type 0} where
  numbers_length : (hs : List (Handle S)) → length (numbers_of hs) ≡ length hs
  numbers_length [] = refl
  numbers_length (h ∷ hs) = ap suc (numbers_length hs)

  number_there : (xs : List (Handle S)) (h : Handle S) (ys : List (Handle S)) → Contains (numbers_of (xs ++ h ∷ ys)) h.number
  number_there xs h ys =
      subst (λ (ns : List ℕ). Contains ns h.number) (sym (numbers_of-parts xs (h ∷ ys)))
      (contains_one (numbers_of xs) h.number (numbers_of ys))

module _ {E O P S L : Type 0} where
  pub in_slot_alone : (proc : Proc E O P S L) (place : ℕ) (moved : Handle S) → IsOnce (shown_part proc) →
      Kept.handle_at (Kept.slots_of proc.scratch) place ≡ Some moved → Contains (numbers_of proc.table) moved.number → ⊥
  in_slot_alone proc place moved once found there =
      let slots = Kept.slots_of proc.scratch in
      let here : Contains (numbers_of (Kept.handles_in slots)) moved.number =
      subst (λ (hs : List (Handle S)). Contains (numbers_of hs) moved.number) (sym (handles_in-taken slots place moved found))
      (number_there (Kept.handles_in (take place slots)) moved (Kept.handles_in (drop (suc place) slots))) in
      let shown : Contains (handles_in (slots_of (shown_scratch proc.scratch))) moved.number =
      subst (λ (ns : List ℕ). Contains ns moved.number) (shown_handles proc.scratch) here in
      let twice = contains_once (numbers_of proc.table) (handles_in (slots_of (shown_scratch proc.scratch))) moved.number there shown in
      let most = once.once moved.number in
      omega (arith, twice, most)

  -- a process with no message, an empty shed and at most one stream is in order
  pub few_in_order : (proc : Proc E O P S L) → proc.scratch ≡ None → length proc.table ≤ 1 → proc.shed ≡ [] → AreInOrder proc
  few_in_order proc none few empty = record {
    once = record {
      once = λ handle.
          let here = ap (λ (s : Option (Kept.Scratch S)). times handle (numbers_of proc.table ++ handles_in (slots_of (shown_scratch s)))) none in
          let parts = times-append handle (numbers_of proc.table) [] in
          let most = times-most handle (numbers_of proc.table) in
          let same = numbers_length proc.table in
          omega (arith, here, parts, most, same, few);
    };
    room =
        let shed = ap length empty in
        let here = ap (λ (s : Option (Kept.Scratch S)). length (proc.table ++ Kept.handles_in (Kept.slots_of s))) none in
        let parts = length-append proc.table [] in
        omega (arith, shed, here, parts, few);
  }
