use Rattle.std.proofs.Common.{◌≡◌, ◌<◌, ◌≤◌, ◌+◌, ◌-◌, ℕ, refl, arith, sym, ap, subst, ◌∙◌, true, [], IfSome, length, vec_len, vec_capacity, slice_get, slice_set, ◌++◌}
use Rattle.std.proofs.lemmas.Option.{slice_get_read}
use Rattle.std.specs.Option.{option_to_list}
use Rattle.std.specs.Vec.{with_item}
use Rattle.resource_table.specs.Steps.{told}
use Rattle.resource_table.proofs.Closings.{sheds_length}
use Rattle.node_state.specs.Seats.{meaning}
use Rattle.node_mirror.specs.Slots.{is_live_slot}
use Rattle.process_store.specs.Holds.{hands_at, place_at, slot_in, slot_of, streams_of}
use Rattle.process_store.specs.Keeps.{HasShedAll, IsVacant, is_present}
use Rattle.process_store.specs.Telling.{AddsLast}
use Rattle.process_store.proofs.Sets.{IsSet, is_at, is_set, is_set_once, is_within, read_here, read_through, sum_has}
use Rattle.process_store.proofs.Passing.{passes_stay, stood_at}
use Rattle.process_store.proofs.Emptying.{passes_emptied}
use Rattle.process_store.proofs.Striking.{Strikes, live_present, nothing_last, present_by, present_few, sheds_both, struck_becomes, struck_keeps, struck_room}
use Rattle.process_store.proofs.store.Store.strike.Goals as goal

pub returns-then-not-is_live-clause-last : goal.returns-then-not-is_live-clause-last
returns-then-not-is_live-clause-last g c =
    nothing_last _ c.args.pid (place_at c.args.self.now c.args.pid) c.args.journal.now
    (ap (λ ps. is_live_slot (slot_in (slice_get ps c.args.pid))) (sym c.deref.ensures.value) ∙ sym c.is_live.ensures ∙ c.if-not-is_live.true)

pub returns-then-not-is_live-clause-streams : goal.returns-then-not-is_live-clause-streams
returns-then-not-is_live-clause-streams g c =
    let old = c.args.self.now in
    passes_stay _ old old refl refl refl

pub index_mut-requires : goal.index_mut-requires
index_mut-requires g c =
    let old = c.args.self.now in
    let pid = c.args.pid in
    let live : is_live_slot (slot_in (slice_get old.places.items pid)) ≡ true =
    ap (λ ps. is_live_slot (slot_in (slice_get ps pid))) (sym c.deref.ensures.value) ∙ sym c.is_live.ensures ∙ c.if-not-is_live.false in
    let within = is_within (λ o. is_live_slot (slot_in o) ≡ true) old.places.items pid live (λ none. let h : ⊥ = cc in h) in
    let l = old.places.ok.0 in
    omega (arith, within, l)

pub strike_at-struck-requires-clause-ends : goal.strike_at-struck-requires-clause-ends
strike_at-struck-requires-clause-ends g c κs within-all =
    let old = c.args.self.now in
    let pid = c.args.pid in
    let live : is_live_slot (slot_in (slice_get old.places.items pid)) ≡ true =
    ap (λ ps. is_live_slot (slot_in (slice_get ps pid))) (sym c.deref.ensures.value) ∙ sym c.is_live.ensures ∙ c.if-not-is_live.false in
    let within = is_within (λ o. is_live_slot (slot_in o) ≡ true) old.places.items pid live (λ none. let h : ⊥ = cc in h) in
    let was = c.replace-place.result in
    let there = slice_get_read old.places.items (length old.places.items) pid was refl within
    (read_through old.places.items pid was c.index_mut.result.now was c.replace-place.ensures.value c.index_mut.ensures.value refl) in
    let found : IsSet old.places.items (slice_set old.places.items pid was) pid was was = record { within = within; there = there; set = refl } in
    let lives : is_live_slot (slot_of was) ≡ true = ap (λ o. is_live_slot (slot_in o)) (sym there) ∙ live in
    let has = sum_has found is_present in
    let present = present_by was ∙ live_present (slot_of was) lives in
    let unended = c.requires.keeps.unended in
    let room = c.requires.room in
    omega (arith, has, present, unended, room)

pub strike_at-struck-requires-clause-shed : goal.strike_at-struck-requires-clause-shed
strike_at-struck-requires-clause-shed g c κs within-all =
    let old = c.args.self.now in
    let pid = c.args.pid in
    let live : is_live_slot (slot_in (slice_get old.places.items pid)) ≡ true =
    ap (λ ps. is_live_slot (slot_in (slice_get ps pid))) (sym c.deref.ensures.value) ∙ sym c.is_live.ensures ∙ c.if-not-is_live.false in
    let within = is_within (λ o. is_live_slot (slot_in o) ≡ true) old.places.items pid live (λ none. let h : ⊥ = cc in h) in
    let was = c.replace-place.result in
    let there = slice_get_read old.places.items (length old.places.items) pid was refl within
    (read_through old.places.items pid was c.index_mut.result.now was c.replace-place.ensures.value c.index_mut.ensures.value refl) in
    let found : IsSet old.places.items (slice_set old.places.items pid was) pid was was = record { within = within; there = there; set = refl } in
    let lives : is_live_slot (slot_of was) ≡ true = ap (λ o. is_live_slot (slot_in o)) (sym there) ∙ live in
    is_at found HasShedAll c.requires.keeps.sheds

pub strike_at-struck-requires-clause-room : goal.strike_at-struck-requires-clause-room
strike_at-struck-requires-clause-room g c κs within-all =
    let old = c.args.self.now in
    let pid = c.args.pid in
    let live : is_live_slot (slot_in (slice_get old.places.items pid)) ≡ true =
    ap (λ ps. is_live_slot (slot_in (slice_get ps pid))) (sym c.deref.ensures.value) ∙ sym c.is_live.ensures ∙ c.if-not-is_live.false in
    let within = is_within (λ o. is_live_slot (slot_in o) ≡ true) old.places.items pid live (λ none. let h : ⊥ = cc in h) in
    let was = c.replace-place.result in
    let there = slice_get_read old.places.items (length old.places.items) pid was refl within
    (read_through old.places.items pid was c.index_mut.result.now was c.replace-place.ensures.value c.index_mut.ensures.value refl) in
    let found : IsSet old.places.items (slice_set old.places.items pid was) pid was was = record { within = within; there = there; set = refl } in
    let lives : is_live_slot (slot_of was) ≡ true = ap (λ o. is_live_slot (slot_in o)) (sym there) ∙ live in
    let hands = sum_has found (λ place. length (hands_at place)) in
    let few = c.requires.keeps.few in
    let room = c.requires.keeps.closed_room in
    let l = old.closed.ok.0 in
    omega (arith, hands, few, room, l)

pub set_place-requires-clause-within : goal.set_place-requires-clause-within
set_place-requires-clause-within g c κs within-all =
    let old = c.args.self.now in
    let pid = c.args.pid in
    let live : is_live_slot (slot_in (slice_get old.places.items pid)) ≡ true =
    ap (λ ps. is_live_slot (slot_in (slice_get ps pid))) (sym c.deref.ensures.value) ∙ sym c.is_live.ensures ∙ c.if-not-is_live.false in
    let within = is_within (λ o. is_live_slot (slot_in o) ≡ true) old.places.items pid live (λ none. let h : ⊥ = cc in h) in
    let l = old.places.ok.0 in
    omega (arith, within, l)

pub set_place-requires-clause-vacant : goal.set_place-requires-clause-vacant
set_place-requires-clause-vacant g c κs within-all =
    let old = c.args.self.now in
    let pid = c.args.pid in
    let live : is_live_slot (slot_in (slice_get old.places.items pid)) ≡ true =
    ap (λ ps. is_live_slot (slot_in (slice_get ps pid))) (sym c.deref.ensures.value) ∙ sym c.is_live.ensures ∙ c.if-not-is_live.false in
    let within = is_within (λ o. is_live_slot (slot_in o) ≡ true) old.places.items pid live (λ none. let h : ⊥ = cc in h) in
    let was = c.replace-place.result in
    let there = slice_get_read old.places.items (length old.places.items) pid was refl within
    (read_through old.places.items pid was c.index_mut.result.now was c.replace-place.ensures.value c.index_mut.ensures.value refl) in
    let dest = c.replace-place.new.dest in
    let emptied : IsSet old.places.items (slice_set old.places.items pid dest) pid was dest = record { within = within; there = there; set = refl } in
    subst (λ o. IfSome o IsVacant) (sym (read_here emptied)) (subst IsVacant (sym c.replace-place.ensures.after) tt)

pub index_mut-requires-2 : goal.index_mut-requires-2
index_mut-requires-2 g c =
    let old = c.args.self.now in
    let pid = c.args.pid in
    let live : is_live_slot (slot_in (slice_get old.places.items pid)) ≡ true =
    ap (λ ps. is_live_slot (slot_in (slice_get ps pid))) (sym c.deref.ensures.value) ∙ sym c.is_live.ensures ∙ c.if-not-is_live.false in
    let within = is_within (λ o. is_live_slot (slot_in o) ≡ true) old.places.items pid live (λ none. let h : ⊥ = cc in h) in
    let long = c.requires.keeps.mail in
    let l = old.mail.ok.0 in
    omega (arith, within, long, l)

pub close_mail-requires-clause-room : goal.close_mail-requires-clause-room
close_mail-requires-clause-room g c κs within-all =
    let old = c.args.self.now in
    let pid = c.args.pid in
    let live : is_live_slot (slot_in (slice_get old.places.items pid)) ≡ true =
    ap (λ ps. is_live_slot (slot_in (slice_get ps pid))) (sym c.deref.ensures.value) ∙ sym c.is_live.ensures ∙ c.if-not-is_live.false in
    let within = is_within (λ o. is_live_slot (slot_in o) ≡ true) old.places.items pid live (λ none. let h : ⊥ = cc in h) in
    let was = c.replace-place.result in
    let there = slice_get_read old.places.items (length old.places.items) pid was refl within
    (read_through old.places.items pid was c.index_mut.result.now was c.replace-place.ensures.value c.index_mut.ensures.value refl) in
    let found : IsSet old.places.items (slice_set old.places.items pid was) pid was was = record { within = within; there = there; set = refl } in
    let lives : is_live_slot (slot_of was) ≡ true = ap (λ o. is_live_slot (slot_in o)) (sym there) ∙ live in
    let inside : pid < length old.mail.items = let long = c.requires.keeps.mail in omega (arith, within, long) in
    let mailed : IsSet old.mail.items (with_item old.mail pid c.replace-mail.new.dest).items pid c.replace-mail.result c.replace-mail.new.dest =
    is_set_once old.mail.items (with_item old.mail pid c.replace-mail.new.dest).items pid c.replace-mail.result c.index_mut-2.result.now c.replace-mail.result c.replace-mail.new.dest inside
    c.replace-mail.ensures.value c.index_mut-2.ensures.value refl refl in
    let hands = sum_has found (λ place. length (hands_at place)) in
    let few = c.requires.keeps.few in
    let room = c.requires.keeps.closed_room in
    let l = old.closed.ok.0 in
    let mails = sum_has mailed (λ mail. length (streams_of mail)) in
    let shut = sheds_length _ (hands_at was) old.closed.items c.strike_at-struck.new.closed.items c.strike_at-struck.ensures.closed in
    let capacity = c.strike_at-struck.ensures.capacity in
    let next = c.strike_at-struck.new.closed.ok.0 in
    omega (arith, hands, mails, few, room, l, shut, capacity, next)

pub overflow_sub-self : goal.overflow_sub-self
overflow_sub-self g c =
    let few = present_few c.strike_at-struck.result in
    let same = c.present_count-left.ensures in
    omega (arith, few, same)

pub overflow_sub-self-2 : goal.overflow_sub-self-2
overflow_sub-self-2 g c =
    let old = c.args.self.now in
    let pid = c.args.pid in
    let live : is_live_slot (slot_in (slice_get old.places.items pid)) ≡ true =
    ap (λ ps. is_live_slot (slot_in (slice_get ps pid))) (sym c.deref.ensures.value) ∙ sym c.is_live.ensures ∙ c.if-not-is_live.false in
    let within = is_within (λ o. is_live_slot (slot_in o) ≡ true) old.places.items pid live (λ none. let h : ⊥ = cc in h) in
    let was = c.replace-place.result in
    let there = slice_get_read old.places.items (length old.places.items) pid was refl within
    (read_through old.places.items pid was c.index_mut.result.now was c.replace-place.ensures.value c.index_mut.ensures.value refl) in
    let found : IsSet old.places.items (slice_set old.places.items pid was) pid was was = record { within = within; there = there; set = refl } in
    let lives : is_live_slot (slot_of was) ≡ true = ap (λ o. is_live_slot (slot_in o)) (sym there) ∙ live in
    let has = sum_has found is_present in
    let present = present_by was ∙ live_present (slot_of was) lives in
    let unended = c.requires.keeps.unended in
    omega (arith, has, present, unended)

pub returns-clause-keeps : goal.returns-clause-keeps
returns-clause-keeps g c =
    let old = c.args.self.now in
    let pid = c.args.pid in
    let live : is_live_slot (slot_in (slice_get old.places.items pid)) ≡ true =
    ap (λ ps. is_live_slot (slot_in (slice_get ps pid))) (sym c.deref.ensures.value) ∙ sym c.is_live.ensures ∙ c.if-not-is_live.false in
    let within = is_within (λ o. is_live_slot (slot_in o) ≡ true) old.places.items pid live (λ none. let h : ⊥ = cc in h) in
    let was = c.replace-place.result in
    let there = slice_get_read old.places.items (length old.places.items) pid was refl within
    (read_through old.places.items pid was c.index_mut.result.now was c.replace-place.ensures.value c.index_mut.ensures.value refl) in
    let found : IsSet old.places.items (slice_set old.places.items pid was) pid was was = record { within = within; there = there; set = refl } in
    let lives : is_live_slot (slot_of was) ≡ true = ap (λ o. is_live_slot (slot_in o)) (sym there) ∙ live in
    let inside : pid < length old.mail.items = let long = c.requires.keeps.mail in omega (arith, within, long) in
    let mailed : IsSet old.mail.items (with_item old.mail pid c.replace-mail.new.dest).items pid c.replace-mail.result c.replace-mail.new.dest =
    is_set_once old.mail.items (with_item old.mail pid c.replace-mail.new.dest).items pid c.replace-mail.result c.index_mut-2.result.now c.replace-mail.result c.replace-mail.new.dest inside
    c.replace-mail.ensures.value c.index_mut-2.ensures.value refl refl in
    let is = c.strike_at-struck.result in
    let from = c.replace-mail.result in
    let to = c.replace-mail.new.dest in
    let tells = told g.O.Stream.Stream.taken g.O.Stream.Stream.put g.O.Stream.Stream.faults g.O.Stream.Stream.waits g.O.Stream.Stream.empties g.O.Stream.Stream.down in
    let new = record old {
      places = c.set_place.new.places;
      mail = with_item old.mail pid to;
      queue = c.clear_deadline.new.self;
      names = c.remove_process.new.self;
      unended = old.unended - (1 - c.present_count-left.result);
      closed = c.close_mail.new.closed;
      shed = c.close_mail.new.shed;
    } in
    let placed : IsSet old.places.items new.places.items pid was is = is_set old.places.items new.places.items pid was c.index_mut.result.now was _ is within c.replace-place.ensures.value
    c.index_mut.ensures.value refl c.set_place.ensures.items in
    let strikes : Strikes tells old new pid c.args.end was is from to = record {
      emptied = record {
        placed = placed;
        mailed = mailed;
        vacant = c.strike_at-struck.ensures.vacant;
        empty = ap (λ m. m.items) c.replace-mail.ensures.after ∙ c.new.ensures.items;
        closed = sheds_both tells (hands_at was) (streams_of from) old.closed.items c.strike_at-struck.new.closed.items c.close_mail.new.closed.items c.strike_at-struck.ensures.closed
            c.close_mail.ensures.closed;
      };
      live = lives;
      slot = c.strike_at-struck.ensures.slot;
      unended = ap (λ (n : ℕ). old.unended - (1 - n)) c.present_count-left.ensures;
      shed = c.close_mail.ensures.shed;
      listed = ap (λ ready. (ready ++ old.came.items) ++ option_to_list old.giver) c.clear_deadline.ensures.ready;
      room = c.clear_deadline.ensures.room;
      came_room = refl;
      dates = c.clear_deadline.ensures.deadlines;
      names = c.remove_process.ensures;
      capacity = c.close_mail.ensures.capacity ∙ c.strike_at-struck.ensures.capacity;
      links = refl;
      births = refl;
      out = refl;
      sends = refl;
      time = refl;
      row = refl;
      over = refl;
      streams = refl;
    } in
    struck_keeps tells old new pid c.args.end was is from to c.requires.keeps strikes

pub returns-clause-held : goal.returns-clause-held
returns-clause-held g c =
    let old = c.args.self.now in
    let pid = c.args.pid in
    let live : is_live_slot (slot_in (slice_get old.places.items pid)) ≡ true =
    ap (λ ps. is_live_slot (slot_in (slice_get ps pid))) (sym c.deref.ensures.value) ∙ sym c.is_live.ensures ∙ c.if-not-is_live.false in
    let within = is_within (λ o. is_live_slot (slot_in o) ≡ true) old.places.items pid live (λ none. let h : ⊥ = cc in h) in
    let was = c.replace-place.result in
    let there = slice_get_read old.places.items (length old.places.items) pid was refl within
    (read_through old.places.items pid was c.index_mut.result.now was c.replace-place.ensures.value c.index_mut.ensures.value refl) in
    let found : IsSet old.places.items (slice_set old.places.items pid was) pid was was = record { within = within; there = there; set = refl } in
    let lives : is_live_slot (slot_of was) ≡ true = ap (λ o. is_live_slot (slot_in o)) (sym there) ∙ live in
    let inside : pid < length old.mail.items = let long = c.requires.keeps.mail in omega (arith, within, long) in
    let mailed : IsSet old.mail.items (with_item old.mail pid c.replace-mail.new.dest).items pid c.replace-mail.result c.replace-mail.new.dest =
    is_set_once old.mail.items (with_item old.mail pid c.replace-mail.new.dest).items pid c.replace-mail.result c.index_mut-2.result.now c.replace-mail.result c.replace-mail.new.dest inside
    c.replace-mail.ensures.value c.index_mut-2.ensures.value refl refl in
    let is = c.strike_at-struck.result in
    let from = c.replace-mail.result in
    let to = c.replace-mail.new.dest in
    let tells = told g.O.Stream.Stream.taken g.O.Stream.Stream.put g.O.Stream.Stream.faults g.O.Stream.Stream.waits g.O.Stream.Stream.empties g.O.Stream.Stream.down in
    let new = record old {
      places = c.set_place.new.places;
      mail = with_item old.mail pid to;
      queue = c.clear_deadline.new.self;
      names = c.remove_process.new.self;
      unended = old.unended - (1 - c.present_count-left.result);
      closed = c.close_mail.new.closed;
      shed = c.close_mail.new.shed;
    } in
    let placed : IsSet old.places.items new.places.items pid was is = is_set old.places.items new.places.items pid was c.index_mut.result.now was _ is within c.replace-place.ensures.value
    c.index_mut.ensures.value refl c.set_place.ensures.items in
    let strikes : Strikes tells old new pid c.args.end was is from to = record {
      emptied = record {
        placed = placed;
        mailed = mailed;
        vacant = c.strike_at-struck.ensures.vacant;
        empty = ap (λ m. m.items) c.replace-mail.ensures.after ∙ c.new.ensures.items;
        closed = sheds_both tells (hands_at was) (streams_of from) old.closed.items c.strike_at-struck.new.closed.items c.close_mail.new.closed.items c.strike_at-struck.ensures.closed
            c.close_mail.ensures.closed;
      };
      live = lives;
      slot = c.strike_at-struck.ensures.slot;
      unended = ap (λ (n : ℕ). old.unended - (1 - n)) c.present_count-left.ensures;
      shed = c.close_mail.ensures.shed;
      listed = ap (λ ready. (ready ++ old.came.items) ++ option_to_list old.giver) c.clear_deadline.ensures.ready;
      room = c.clear_deadline.ensures.room;
      came_room = refl;
      dates = c.clear_deadline.ensures.deadlines;
      names = c.remove_process.ensures;
      capacity = c.close_mail.ensures.capacity ∙ c.strike_at-struck.ensures.capacity;
      links = refl;
      births = refl;
      out = refl;
      sends = refl;
      time = refl;
      row = refl;
      over = refl;
      streams = refl;
    } in
    struck_becomes tells old new pid c.args.end is from to c.requires.keeps was strikes

pub returns-clause-last : goal.returns-clause-last
returns-clause-last g c =
    let old = c.args.self.now in
    let pid = c.args.pid in
    let live : is_live_slot (slot_in (slice_get old.places.items pid)) ≡ true =
    ap (λ ps. is_live_slot (slot_in (slice_get ps pid))) (sym c.deref.ensures.value) ∙ sym c.is_live.ensures ∙ c.if-not-is_live.false in
    let within = is_within (λ o. is_live_slot (slot_in o) ≡ true) old.places.items pid live (λ none. let h : ⊥ = cc in h) in
    let was = c.replace-place.result in
    let there = slice_get_read old.places.items (length old.places.items) pid was refl within
    (read_through old.places.items pid was c.index_mut.result.now was c.replace-place.ensures.value c.index_mut.ensures.value refl) in
    let found : IsSet old.places.items (slice_set old.places.items pid was) pid was was = record { within = within; there = there; set = refl } in
    let lives : is_live_slot (slot_of was) ≡ true = ap (λ o. is_live_slot (slot_in o)) (sym there) ∙ live in
    subst (λ slot. AddsLast {E = g.row.E.Denot} {P = g.row.E-Program.Denot} (meaning g.E.Engine.stands g.E.Engine.phase g.E.Engine.memory) pid slot c.args.journal.now
    c.strike_at-struck.new.journal) (sym (ap slot_in there)) c.strike_at-struck.ensures.last

pub returns-clause-room : goal.returns-clause-room
returns-clause-room g c =
    let old = c.args.self.now in
    let pid = c.args.pid in
    let live : is_live_slot (slot_in (slice_get old.places.items pid)) ≡ true =
    ap (λ ps. is_live_slot (slot_in (slice_get ps pid))) (sym c.deref.ensures.value) ∙ sym c.is_live.ensures ∙ c.if-not-is_live.false in
    let within = is_within (λ o. is_live_slot (slot_in o) ≡ true) old.places.items pid live (λ none. let h : ⊥ = cc in h) in
    let was = c.replace-place.result in
    let there = slice_get_read old.places.items (length old.places.items) pid was refl within
    (read_through old.places.items pid was c.index_mut.result.now was c.replace-place.ensures.value c.index_mut.ensures.value refl) in
    let found : IsSet old.places.items (slice_set old.places.items pid was) pid was was = record { within = within; there = there; set = refl } in
    let lives : is_live_slot (slot_of was) ≡ true = ap (λ o. is_live_slot (slot_in o)) (sym there) ∙ live in
    let inside : pid < length old.mail.items = let long = c.requires.keeps.mail in omega (arith, within, long) in
    let mailed : IsSet old.mail.items (with_item old.mail pid c.replace-mail.new.dest).items pid c.replace-mail.result c.replace-mail.new.dest =
    is_set_once old.mail.items (with_item old.mail pid c.replace-mail.new.dest).items pid c.replace-mail.result c.index_mut-2.result.now c.replace-mail.result c.replace-mail.new.dest inside
    c.replace-mail.ensures.value c.index_mut-2.ensures.value refl refl in
    let is = c.strike_at-struck.result in
    let from = c.replace-mail.result in
    let to = c.replace-mail.new.dest in
    let tells = told g.O.Stream.Stream.taken g.O.Stream.Stream.put g.O.Stream.Stream.faults g.O.Stream.Stream.waits g.O.Stream.Stream.empties g.O.Stream.Stream.down in
    let new = record old {
      places = c.set_place.new.places;
      mail = with_item old.mail pid to;
      queue = c.clear_deadline.new.self;
      names = c.remove_process.new.self;
      unended = old.unended - (1 - c.present_count-left.result);
      closed = c.close_mail.new.closed;
      shed = c.close_mail.new.shed;
    } in
    let placed : IsSet old.places.items new.places.items pid was is = is_set old.places.items new.places.items pid was c.index_mut.result.now was _ is within c.replace-place.ensures.value
    c.index_mut.ensures.value refl c.set_place.ensures.items in
    let strikes : Strikes tells old new pid c.args.end was is from to = record {
      emptied = record {
        placed = placed;
        mailed = mailed;
        vacant = c.strike_at-struck.ensures.vacant;
        empty = ap (λ m. m.items) c.replace-mail.ensures.after ∙ c.new.ensures.items;
        closed = sheds_both tells (hands_at was) (streams_of from) old.closed.items c.strike_at-struck.new.closed.items c.close_mail.new.closed.items c.strike_at-struck.ensures.closed
            c.close_mail.ensures.closed;
      };
      live = lives;
      slot = c.strike_at-struck.ensures.slot;
      unended = ap (λ (n : ℕ). old.unended - (1 - n)) c.present_count-left.ensures;
      shed = c.close_mail.ensures.shed;
      listed = ap (λ ready. (ready ++ old.came.items) ++ option_to_list old.giver) c.clear_deadline.ensures.ready;
      room = c.clear_deadline.ensures.room;
      came_room = refl;
      dates = c.clear_deadline.ensures.deadlines;
      names = c.remove_process.ensures;
      capacity = c.close_mail.ensures.capacity ∙ c.strike_at-struck.ensures.capacity;
      links = refl;
      births = refl;
      out = refl;
      sends = refl;
      time = refl;
      row = refl;
      over = refl;
      streams = refl;
    } in
    struck_room _ tells old new pid c.args.end was is from to c.args.journal.now c.strike_at-struck.new.journal c.requires.keeps strikes c.strike_at-struck.ensures.last c.requires.room

pub returns-clause-streams : goal.returns-clause-streams
returns-clause-streams g c =
    let old = c.args.self.now in
    let pid = c.args.pid in
    let live : is_live_slot (slot_in (slice_get old.places.items pid)) ≡ true =
    ap (λ ps. is_live_slot (slot_in (slice_get ps pid))) (sym c.deref.ensures.value) ∙ sym c.is_live.ensures ∙ c.if-not-is_live.false in
    let within = is_within (λ o. is_live_slot (slot_in o) ≡ true) old.places.items pid live (λ none. let h : ⊥ = cc in h) in
    let was = c.replace-place.result in
    let there = slice_get_read old.places.items (length old.places.items) pid was refl within
    (read_through old.places.items pid was c.index_mut.result.now was c.replace-place.ensures.value c.index_mut.ensures.value refl) in
    let found : IsSet old.places.items (slice_set old.places.items pid was) pid was was = record { within = within; there = there; set = refl } in
    let lives : is_live_slot (slot_of was) ≡ true = ap (λ o. is_live_slot (slot_in o)) (sym there) ∙ live in
    let inside : pid < length old.mail.items = let long = c.requires.keeps.mail in omega (arith, within, long) in
    let mailed : IsSet old.mail.items (with_item old.mail pid c.replace-mail.new.dest).items pid c.replace-mail.result c.replace-mail.new.dest =
    is_set_once old.mail.items (with_item old.mail pid c.replace-mail.new.dest).items pid c.replace-mail.result c.index_mut-2.result.now c.replace-mail.result c.replace-mail.new.dest inside
    c.replace-mail.ensures.value c.index_mut-2.ensures.value refl refl in
    let is = c.strike_at-struck.result in
    let from = c.replace-mail.result in
    let to = c.replace-mail.new.dest in
    let tells = told g.O.Stream.Stream.taken g.O.Stream.Stream.put g.O.Stream.Stream.faults g.O.Stream.Stream.waits g.O.Stream.Stream.empties g.O.Stream.Stream.down in
    let new = record old {
      places = c.set_place.new.places;
      mail = with_item old.mail pid to;
      queue = c.clear_deadline.new.self;
      names = c.remove_process.new.self;
      unended = old.unended - (1 - c.present_count-left.result);
      closed = c.close_mail.new.closed;
      shed = c.close_mail.new.shed;
    } in
    let placed : IsSet old.places.items new.places.items pid was is = is_set old.places.items new.places.items pid was c.index_mut.result.now was _ is within c.replace-place.ensures.value
    c.index_mut.ensures.value refl c.set_place.ensures.items in
    let strikes : Strikes tells old new pid c.args.end was is from to = record {
      emptied = record {
        placed = placed;
        mailed = mailed;
        vacant = c.strike_at-struck.ensures.vacant;
        empty = ap (λ m. m.items) c.replace-mail.ensures.after ∙ c.new.ensures.items;
        closed = sheds_both tells (hands_at was) (streams_of from) old.closed.items c.strike_at-struck.new.closed.items c.close_mail.new.closed.items c.strike_at-struck.ensures.closed
            c.close_mail.ensures.closed;
      };
      live = lives;
      slot = c.strike_at-struck.ensures.slot;
      unended = ap (λ (n : ℕ). old.unended - (1 - n)) c.present_count-left.ensures;
      shed = c.close_mail.ensures.shed;
      listed = ap (λ ready. (ready ++ old.came.items) ++ option_to_list old.giver) c.clear_deadline.ensures.ready;
      room = c.clear_deadline.ensures.room;
      came_room = refl;
      dates = c.clear_deadline.ensures.deadlines;
      names = c.remove_process.ensures;
      capacity = c.close_mail.ensures.capacity ∙ c.strike_at-struck.ensures.capacity;
      links = refl;
      births = refl;
      out = refl;
      sends = refl;
      time = refl;
      row = refl;
      over = refl;
      streams = refl;
    } in
    passes_emptied strikes.emptied [] (λ h has. stood_at old [] pid was h there has)
