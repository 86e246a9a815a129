use Rattle.std.proofs.Common.{◌≡◌, ◌<◌, ◌≤◌, ◌+◌, ◌-◌, ◌++◌, refl, arith, ap, ◌∙◌, length, length-append, slice_get, slice_set}
use Rattle.std.specs.Vec.{with_item}
use Rattle.resource_table.specs.Handles.{numbers_of}
use Rattle.resource_table.specs.Steps.{told}
use Rattle.resource_table.proofs.Closings.{sheds_length}
use Rattle.node_state.specs.Seats.{part_handles}
use Rattle.node_state.specs.Streaming.{arrived_as}
use Rattle.node_mirror.specs.Slots.{Gone}
use Rattle.node_mirror.specs.Steps.{back, gone}
use Rattle.host_calls.specs.Shown.{hands_of, shown_part}
use Rattle.process_store.specs.declared.place.Place.TheVariants as PlaceIs
use Rattle.process_store.specs.Holds.{held_of, kept_of, streams_of}
use Rattle.process_store.specs.Keeps.{is_out, is_present}
use Rattle.process_store.proofs.Sets.{IsSet, is_set_once, sum_has, within_of}
use Rattle.process_store.proofs.Showing.{becomes}
use Rattle.process_store.proofs.Emptying.{passes_emptied}
use Rattle.process_store.proofs.Returning.{Returns, arrived_numbers, fated_out, fated_place, few_arrived, returned_keeps, returned_room, returned_shows, sheds_behind, stood_arrived}
use Rattle.process_store.proofs.store.Store.bring_doomed.Goals as goal

pub ended-requires : goal.ended-requires
ended-requires g c =
    let old = c.args.self.now in
    let pid = c.args.proc.start.pid in
    let worker = c.requires.fated.0 in
    let end = c.requires.fated.1 in
    let was = PlaceIs.Fated worker end in
    let there = fated_place (slice_get old.places.items pid) worker end c.requires.fated.2 in
    let within = within_of old.places.items pid was there in
    let found : IsSet old.places.items (slice_set old.places.items pid was) pid was was = record { within = within; there = there; set = refl } in
    let has = sum_has found is_present in
    let unended = c.requires.keeps.unended in
    let room = c.requires.room in
    omega (arith, has, unended, room)

pub set_place-requires-clause-within : goal.set_place-requires-clause-within
set_place-requires-clause-within g c κs within-all =
    let old = c.args.self.now in
    let pid = c.args.proc.start.pid in
    let worker = c.requires.fated.0 in
    let end = c.requires.fated.1 in
    let was = PlaceIs.Fated worker end in
    let there = fated_place (slice_get old.places.items pid) worker end c.requires.fated.2 in
    let within = within_of old.places.items pid was there in
    let l = old.places.ok.0 in
    omega (arith, within, l)

pub index_mut-requires : goal.index_mut-requires
index_mut-requires g c =
    let old = c.args.self.now in
    let pid = c.args.proc.start.pid in
    let worker = c.requires.fated.0 in
    let end = c.requires.fated.1 in
    let was = PlaceIs.Fated worker end in
    let there = fated_place (slice_get old.places.items pid) worker end c.requires.fated.2 in
    let within = within_of old.places.items pid was there in
    let long = c.requires.keeps.mail in
    let l = old.mail.ok.0 in
    omega (arith, within, long, l)

pub close_mail-requires-clause-room : goal.close_mail-requires-clause-room
close_mail-requires-clause-room g c κs within-all =
    let old = c.args.self.now in
    let pid = c.args.proc.start.pid in
    let worker = c.requires.fated.0 in
    let end = c.requires.fated.1 in
    let was = PlaceIs.Fated worker end in
    let there = fated_place (slice_get old.places.items pid) worker end c.requires.fated.2 in
    let within = within_of old.places.items pid was there in
    let found : IsSet old.places.items (slice_set old.places.items pid was) pid was was = record { within = within; there = there; set = refl } in
    let inside : pid < length old.mail.items = let long = c.requires.keeps.mail in omega (arith, within, long) in
    let mailed : IsSet old.mail.items (with_item old.mail pid c.replace-mail.new.dest).items pid c.replace-mail.result c.replace-mail.new.dest =
    is_set_once old.mail.items (with_item old.mail pid c.replace-mail.new.dest).items pid c.replace-mail.result c.index_mut.result.now c.replace-mail.result c.replace-mail.new.dest inside
    c.replace-mail.ensures.value c.index_mut.ensures.value refl refl in
    let out = sum_has found is_out in
    let outs = c.requires.keeps.out in
    let few = c.requires.few in
    let room = c.requires.keeps.closed_room in
    let l = old.closed.ok.0 in
    let all = ap length c.close_all.ensures.closed ∙ length-append old.closed.items c.args.proc.shed in
    let all-capacity = c.close_all.ensures.capacity in
    let all-len = c.close_all.new.closed.ok.0 in
    let one = few_arrived old.streams c.args.arrived in
    let came = sheds_length _ (arrived_as old.streams c.args.arrived) c.close_all.new.closed.items c.close_arrived-self.new.closed.items c.close_arrived-self.ensures.closed in
    let came-capacity = c.close_arrived-self.ensures.capacity in
    let came-len = c.close_arrived-self.new.closed.ok.0 in
    let mails = sum_has mailed (λ mail. length (streams_of mail)) in
    let hands = sheds_length _ (hands_of c.args.proc) c.close_arrived-self.new.closed.items c.close_proc.new.closed.items c.close_proc.ensures.closed in
    let hands-capacity = c.close_proc.ensures.capacity in
    let hands-len = c.close_proc.new.closed.ok.0 in
    omega (arith, out, outs, few, room, l, all, all-capacity, all-len, one, came, came-capacity, came-len, mails, hands, hands-capacity, hands-len)

pub close_arrived-self-requires-clause-room : goal.close_arrived-self-requires-clause-room
close_arrived-self-requires-clause-room g c κs within-all =
    let old = c.args.self.now in
    let pid = c.args.proc.start.pid in
    let worker = c.requires.fated.0 in
    let end = c.requires.fated.1 in
    let was = PlaceIs.Fated worker end in
    let there = fated_place (slice_get old.places.items pid) worker end c.requires.fated.2 in
    let within = within_of old.places.items pid was there in
    let found : IsSet old.places.items (slice_set old.places.items pid was) pid was was = record { within = within; there = there; set = refl } in
    let out = sum_has found is_out in
    let outs = c.requires.keeps.out in
    let few = c.requires.few in
    let room = c.requires.keeps.closed_room in
    let l = old.closed.ok.0 in
    let all = ap length c.close_all.ensures.closed ∙ length-append old.closed.items c.args.proc.shed in
    let all-capacity = c.close_all.ensures.capacity in
    let all-len = c.close_all.new.closed.ok.0 in
    omega (arith, out, outs, few, room, l, all, all-capacity, all-len)

pub close_proc-requires-clause-room : goal.close_proc-requires-clause-room
close_proc-requires-clause-room g c κs within-all =
    let old = c.args.self.now in
    let pid = c.args.proc.start.pid in
    let worker = c.requires.fated.0 in
    let end = c.requires.fated.1 in
    let was = PlaceIs.Fated worker end in
    let there = fated_place (slice_get old.places.items pid) worker end c.requires.fated.2 in
    let within = within_of old.places.items pid was there in
    let found : IsSet old.places.items (slice_set old.places.items pid was) pid was was = record { within = within; there = there; set = refl } in
    let out = sum_has found is_out in
    let outs = c.requires.keeps.out in
    let few = c.requires.few in
    let room = c.requires.keeps.closed_room in
    let l = old.closed.ok.0 in
    let all = ap length c.close_all.ensures.closed ∙ length-append old.closed.items c.args.proc.shed in
    let all-capacity = c.close_all.ensures.capacity in
    let all-len = c.close_all.new.closed.ok.0 in
    let one = few_arrived old.streams c.args.arrived in
    let came = sheds_length _ (arrived_as old.streams c.args.arrived) c.close_all.new.closed.items c.close_arrived-self.new.closed.items c.close_arrived-self.ensures.closed in
    let came-capacity = c.close_arrived-self.ensures.capacity in
    let came-len = c.close_arrived-self.new.closed.ok.0 in
    omega (arith, out, outs, few, room, l, all, all-capacity, all-len, one, came, came-capacity, came-len)

pub overflow_sub-self : goal.overflow_sub-self
overflow_sub-self g c =
    let old = c.args.self.now in
    let pid = c.args.proc.start.pid in
    let worker = c.requires.fated.0 in
    let end = c.requires.fated.1 in
    let was = PlaceIs.Fated worker end in
    let there = fated_place (slice_get old.places.items pid) worker end c.requires.fated.2 in
    let within = within_of old.places.items pid was there in
    let found : IsSet old.places.items (slice_set old.places.items pid was) pid was was = record { within = within; there = there; set = refl } in
    let has = sum_has found is_present in
    let unended = c.requires.keeps.unended in
    omega (arith, has, unended)

pub overflow_sub-self-2 : goal.overflow_sub-self-2
overflow_sub-self-2 g c =
    let old = c.args.self.now in
    let pid = c.args.proc.start.pid in
    let worker = c.requires.fated.0 in
    let end = c.requires.fated.1 in
    let was = PlaceIs.Fated worker end in
    let there = fated_place (slice_get old.places.items pid) worker end c.requires.fated.2 in
    let within = within_of old.places.items pid was there in
    let found : IsSet old.places.items (slice_set old.places.items pid was) pid was was = record { within = within; there = there; set = refl } in
    let has = sum_has found is_out in
    let out = c.requires.keeps.out in
    omega (arith, has, out)

pub returns-clause-keeps : goal.returns-clause-keeps
returns-clause-keeps g c =
    let old = c.args.self.now in
    let pid = c.args.proc.start.pid in
    let worker = c.requires.fated.0 in
    let end = c.requires.fated.1 in
    let was = PlaceIs.Fated worker end in
    let there = fated_place (slice_get old.places.items pid) worker end c.requires.fated.2 in
    let within = within_of old.places.items pid was there in
    let inside : pid < length old.mail.items = let long = c.requires.keeps.mail in omega (arith, within, long) in
    let mailed : IsSet old.mail.items (with_item old.mail pid c.replace-mail.new.dest).items pid c.replace-mail.result c.replace-mail.new.dest =
    is_set_once old.mail.items (with_item old.mail pid c.replace-mail.new.dest).items pid c.replace-mail.result c.index_mut.result.now c.replace-mail.result c.replace-mail.new.dest inside
    c.replace-mail.ensures.value c.index_mut.ensures.value refl refl in
    let from = c.replace-mail.result in
    let to = c.replace-mail.new.dest in
    let hs = (arrived_as old.streams c.args.arrived) ++ hands_of c.args.proc in
    let tells = told g.O.Stream.Stream.taken g.O.Stream.Stream.put g.O.Stream.Stream.faults g.O.Stream.Stream.waits g.O.Stream.Stream.empties g.O.Stream.Stream.down in
    let new = record old {
      places = c.set_place.new.places;
      mail = with_item old.mail pid to;
      names = c.remove_process.new.self;
      unended = old.unended - 1;
      out = old.out - 1;
      closed = c.close_mail.new.closed;
      shed = c.close_mail.new.shed;
      streams = c.close_arrived-self.result;
      time = c.args.time;
    } in
    let returns : Returns tells old new pid was from to c.args.proc.shed hs = record {
      emptied = record {
        placed = record { within = within; there = there; set = c.set_place.ensures.items };
        mailed = mailed;
        vacant = tt;
        empty = ap (λ m. m.items) c.replace-mail.ensures.after ∙ c.new.ensures.items;
        closed = sheds_behind tells hs (streams_of from) (old.closed.items ++ c.args.proc.shed) (old.closed.items ++ c.args.proc.shed) c.close_proc.new.closed.items c.close_mail.new.closed.items refl
            (sheds_behind tells (arrived_as old.streams c.args.arrived) (hands_of c.args.proc) (old.closed.items ++ c.args.proc.shed) c.close_all.new.closed.items
            c.close_arrived-self.new.closed.items c.close_proc.new.closed.items
            c.close_all.ensures.closed c.close_arrived-self.ensures.closed c.close_proc.ensures.closed) c.close_mail.ensures.closed;
      };
      was_out = fated_out worker end;
      unended = refl;
      out = refl;
      shed_is = c.close_mail.ensures.shed;
      queue = refl;
      came = refl;
      giver = refl;
      names = c.remove_process.ensures;
      capacity = c.close_mail.ensures.capacity ∙ c.close_proc.ensures.capacity ∙ c.close_arrived-self.ensures.capacity ∙ c.close_all.ensures.capacity;
      links = refl;
      births = refl;
      sends = refl;
      row = refl;
      over = refl;
      drawn = let a = c.close_arrived-self.ensures.next in let b = few_arrived old.streams c.args.arrived in omega (arith, a, b);
      few = let a = c.requires.few in let b = c.close_arrived-self.ensures.next in let d = length-append (arrived_as old.streams c.args.arrived) (hands_of c.args.proc) in omega (arith, a, b, d);
    } in
    returned_keeps tells old new pid was from to c.args.proc.shed hs c.requires.keeps returns

pub returns-clause-held : goal.returns-clause-held
returns-clause-held g c =
    let old = c.args.self.now in
    let pid = c.args.proc.start.pid in
    let worker = c.requires.fated.0 in
    let end = c.requires.fated.1 in
    let was = PlaceIs.Fated worker end in
    let there = fated_place (slice_get old.places.items pid) worker end c.requires.fated.2 in
    let within = within_of old.places.items pid was there in
    let inside : pid < length old.mail.items = let long = c.requires.keeps.mail in omega (arith, within, long) in
    let mailed : IsSet old.mail.items (with_item old.mail pid c.replace-mail.new.dest).items pid c.replace-mail.result c.replace-mail.new.dest =
    is_set_once old.mail.items (with_item old.mail pid c.replace-mail.new.dest).items pid c.replace-mail.result c.index_mut.result.now c.replace-mail.result c.replace-mail.new.dest inside
    c.replace-mail.ensures.value c.index_mut.ensures.value refl refl in
    let from = c.replace-mail.result in
    let to = c.replace-mail.new.dest in
    let hs = (arrived_as old.streams c.args.arrived) ++ hands_of c.args.proc in
    let tells = told g.O.Stream.Stream.taken g.O.Stream.Stream.put g.O.Stream.Stream.faults g.O.Stream.Stream.waits g.O.Stream.Stream.empties g.O.Stream.Stream.down in
    let new = record old {
      places = c.set_place.new.places;
      mail = with_item old.mail pid to;
      names = c.remove_process.new.self;
      unended = old.unended - 1;
      out = old.out - 1;
      closed = c.close_mail.new.closed;
      shed = c.close_mail.new.shed;
      streams = c.close_arrived-self.result;
      time = c.args.time;
    } in
    let returns : Returns tells old new pid was from to c.args.proc.shed hs = record {
      emptied = record {
        placed = record { within = within; there = there; set = c.set_place.ensures.items };
        mailed = mailed;
        vacant = tt;
        empty = ap (λ m. m.items) c.replace-mail.ensures.after ∙ c.new.ensures.items;
        closed = sheds_behind tells hs (streams_of from) (old.closed.items ++ c.args.proc.shed) (old.closed.items ++ c.args.proc.shed) c.close_proc.new.closed.items c.close_mail.new.closed.items refl
            (sheds_behind tells (arrived_as old.streams c.args.arrived) (hands_of c.args.proc) (old.closed.items ++ c.args.proc.shed) c.close_all.new.closed.items
            c.close_arrived-self.new.closed.items c.close_proc.new.closed.items
            c.close_all.ensures.closed c.close_arrived-self.ensures.closed c.close_proc.ensures.closed) c.close_mail.ensures.closed;
      };
      was_out = fated_out worker end;
      unended = refl;
      out = refl;
      shed_is = c.close_mail.ensures.shed;
      queue = refl;
      came = refl;
      giver = refl;
      names = c.remove_process.ensures;
      capacity = c.close_mail.ensures.capacity ∙ c.close_proc.ensures.capacity ∙ c.close_arrived-self.ensures.capacity ∙ c.close_all.ensures.capacity;
      links = refl;
      births = refl;
      sends = refl;
      row = refl;
      over = refl;
      drawn = let a = c.close_arrived-self.ensures.next in let b = few_arrived old.streams c.args.arrived in omega (arith, a, b);
      few = let a = c.requires.few in let b = c.close_arrived-self.ensures.next in let d = length-append (arrived_as old.streams c.args.arrived) (hands_of c.args.proc) in omega (arith, a, b, d);
    } in
    becomes new (record (gone (back (held_of old) pid Gone c.args.time (numbers_of c.args.proc.shed ++ numbers_of (arrived_as old.streams c.args.arrived))) pid (part_handles (shown_part
    c.args.proc))) {
      streams = old.streams + length (arrived_as old.streams c.args.arrived);
    }) (returned_shows tells old new pid was from to c.args.proc.shed hs c.requires.keeps returns (part_handles (shown_part c.args.proc)) (numbers_of c.args.proc.shed ++ numbers_of
    (arrived_as old.streams c.args.arrived)) c.args.time
    (old.streams + length (arrived_as old.streams c.args.arrived)) refl c.close_arrived-self.ensures.next (arrived_numbers tells old new pid was from to c.args.proc.shed hs c.requires.keeps
    returns c.args.proc (arrived_as old.streams c.args.arrived) refl))

pub returns-clause-room : goal.returns-clause-room
returns-clause-room g c =
    let old = c.args.self.now in
    let pid = c.args.proc.start.pid in
    let worker = c.requires.fated.0 in
    let end = c.requires.fated.1 in
    let was = PlaceIs.Fated worker end in
    let there = fated_place (slice_get old.places.items pid) worker end c.requires.fated.2 in
    let within = within_of old.places.items pid was there in
    let inside : pid < length old.mail.items = let long = c.requires.keeps.mail in omega (arith, within, long) in
    let mailed : IsSet old.mail.items (with_item old.mail pid c.replace-mail.new.dest).items pid c.replace-mail.result c.replace-mail.new.dest =
    is_set_once old.mail.items (with_item old.mail pid c.replace-mail.new.dest).items pid c.replace-mail.result c.index_mut.result.now c.replace-mail.result c.replace-mail.new.dest inside
    c.replace-mail.ensures.value c.index_mut.ensures.value refl refl in
    let from = c.replace-mail.result in
    let to = c.replace-mail.new.dest in
    let hs = (arrived_as old.streams c.args.arrived) ++ hands_of c.args.proc in
    let tells = told g.O.Stream.Stream.taken g.O.Stream.Stream.put g.O.Stream.Stream.faults g.O.Stream.Stream.waits g.O.Stream.Stream.empties g.O.Stream.Stream.down in
    let new = record old {
      places = c.set_place.new.places;
      mail = with_item old.mail pid to;
      names = c.remove_process.new.self;
      unended = old.unended - 1;
      out = old.out - 1;
      closed = c.close_mail.new.closed;
      shed = c.close_mail.new.shed;
      streams = c.close_arrived-self.result;
      time = c.args.time;
    } in
    let returns : Returns tells old new pid was from to c.args.proc.shed hs = record {
      emptied = record {
        placed = record { within = within; there = there; set = c.set_place.ensures.items };
        mailed = mailed;
        vacant = tt;
        empty = ap (λ m. m.items) c.replace-mail.ensures.after ∙ c.new.ensures.items;
        closed = sheds_behind tells hs (streams_of from) (old.closed.items ++ c.args.proc.shed) (old.closed.items ++ c.args.proc.shed) c.close_proc.new.closed.items c.close_mail.new.closed.items refl
            (sheds_behind tells (arrived_as old.streams c.args.arrived) (hands_of c.args.proc) (old.closed.items ++ c.args.proc.shed) c.close_all.new.closed.items
            c.close_arrived-self.new.closed.items c.close_proc.new.closed.items
            c.close_all.ensures.closed c.close_arrived-self.ensures.closed c.close_proc.ensures.closed) c.close_mail.ensures.closed;
      };
      was_out = fated_out worker end;
      unended = refl;
      out = refl;
      shed_is = c.close_mail.ensures.shed;
      queue = refl;
      came = refl;
      giver = refl;
      names = c.remove_process.ensures;
      capacity = c.close_mail.ensures.capacity ∙ c.close_proc.ensures.capacity ∙ c.close_arrived-self.ensures.capacity ∙ c.close_all.ensures.capacity;
      links = refl;
      births = refl;
      sends = refl;
      row = refl;
      over = refl;
      drawn = let a = c.close_arrived-self.ensures.next in let b = few_arrived old.streams c.args.arrived in omega (arith, a, b);
      few = let a = c.requires.few in let b = c.close_arrived-self.ensures.next in let d = length-append (arrived_as old.streams c.args.arrived) (hands_of c.args.proc) in omega (arith, a, b, d);
    } in
    returned_room tells old new pid was from to c.args.proc.shed hs c.requires.keeps returns c.args.journal.now c.ended.new.self c.last_of.result c.ended.ensures c.requires.room

pub returns-clause-streams : goal.returns-clause-streams
returns-clause-streams g c =
    let old = c.args.self.now in
    let pid = c.args.proc.start.pid in
    let worker = c.requires.fated.0 in
    let end = c.requires.fated.1 in
    let was = PlaceIs.Fated worker end in
    let there = fated_place (slice_get old.places.items pid) worker end c.requires.fated.2 in
    let within = within_of old.places.items pid was there in
    let inside : pid < length old.mail.items = let long = c.requires.keeps.mail in omega (arith, within, long) in
    let mailed : IsSet old.mail.items (with_item old.mail pid c.replace-mail.new.dest).items pid c.replace-mail.result c.replace-mail.new.dest =
    is_set_once old.mail.items (with_item old.mail pid c.replace-mail.new.dest).items pid c.replace-mail.result c.index_mut.result.now c.replace-mail.result c.replace-mail.new.dest inside
    c.replace-mail.ensures.value c.index_mut.ensures.value refl refl in
    let from = c.replace-mail.result in
    let to = c.replace-mail.new.dest in
    let hs = (arrived_as old.streams c.args.arrived) ++ hands_of c.args.proc in
    let tells = told g.O.Stream.Stream.taken g.O.Stream.Stream.put g.O.Stream.Stream.faults g.O.Stream.Stream.waits g.O.Stream.Stream.empties g.O.Stream.Stream.down in
    let new = record old {
      places = c.set_place.new.places;
      mail = with_item old.mail pid to;
      names = c.remove_process.new.self;
      unended = old.unended - 1;
      out = old.out - 1;
      closed = c.close_mail.new.closed;
      shed = c.close_mail.new.shed;
      streams = c.close_arrived-self.result;
      time = c.args.time;
    } in
    let returns : Returns tells old new pid was from to c.args.proc.shed hs = record {
      emptied = record {
        placed = record { within = within; there = there; set = c.set_place.ensures.items };
        mailed = mailed;
        vacant = tt;
        empty = ap (λ m. m.items) c.replace-mail.ensures.after ∙ c.new.ensures.items;
        closed = sheds_behind tells hs (streams_of from) (old.closed.items ++ c.args.proc.shed) (old.closed.items ++ c.args.proc.shed) c.close_proc.new.closed.items c.close_mail.new.closed.items refl
            (sheds_behind tells (arrived_as old.streams c.args.arrived) (hands_of c.args.proc) (old.closed.items ++ c.args.proc.shed) c.close_all.new.closed.items
            c.close_arrived-self.new.closed.items c.close_proc.new.closed.items
            c.close_all.ensures.closed c.close_arrived-self.ensures.closed c.close_proc.ensures.closed) c.close_mail.ensures.closed;
      };
      was_out = fated_out worker end;
      unended = refl;
      out = refl;
      shed_is = c.close_mail.ensures.shed;
      queue = refl;
      came = refl;
      giver = refl;
      names = c.remove_process.ensures;
      capacity = c.close_mail.ensures.capacity ∙ c.close_proc.ensures.capacity ∙ c.close_arrived-self.ensures.capacity ∙ c.close_all.ensures.capacity;
      links = refl;
      births = refl;
      sends = refl;
      row = refl;
      over = refl;
      drawn = let a = c.close_arrived-self.ensures.next in let b = few_arrived old.streams c.args.arrived in omega (arith, a, b);
      few = let a = c.requires.few in let b = c.close_arrived-self.ensures.next in let d = length-append (arrived_as old.streams c.args.arrived) (hands_of c.args.proc) in omega (arith, a, b, d);
    } in
    passes_emptied returns.emptied (hands_of c.args.proc ++ arrived_as old.streams c.args.arrived) (λ h has. stood_arrived (kept_of old) (hands_of c.args.proc) (arrived_as old.streams
    c.args.arrived) h has)
