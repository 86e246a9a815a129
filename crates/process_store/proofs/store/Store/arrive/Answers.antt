use Rattle.std.proofs.Common.{◌≡◌, ◌<◌, ◌∙◌, refl, arith, sym, ap, subst, ◌∷◌, ◌++◌, [], None, Some, true, length, length-append, slice_set, IfSome}
use Rattle.std.proofs.lemmas.Option.{slice_get_read}
use Rattle.std.specs.FinMap.{get}
use Rattle.std.specs.Option.{option_to_list}
use Rattle.std.specs.Vec.{with_item}
use Rattle.host_calls.specs.Shown.{seat_of, shown_part}
use Rattle.message_scratch.specs.Messages as Kept
use Rattle.node_state.specs.Seats.{meaning}
use Rattle.resource_table.specs.Handles.{numbers_of}
use Rattle.resource_table.specs.Steps.{told}
use Rattle.resource_table.proofs.Closings.{sheds_length}
use Rattle.world_rules.specs.Mail.{message_count, tag_of}
use Rattle.world_rules.specs.Part.{scratch_handles}
use Rattle.world_rules.specs.Receive.{arrived}
use Rattle.world_rules.specs.Settled.{Delivered, settled}
use Rattle.node_mirror.specs.Slots.{is_live_slot}
use Rattle.node_mirror.specs.Steps.{posted, woken}
use Rattle.process_store.specs.declared.place.Place.TheVariants as PlaceIs
use Rattle.process_store.specs.Holds.{Becomes, hands_at, held_of, item_of, item_streams, items_in, kept_of, place_at, slot_in, slot_of}
use Rattle.process_store.specs.Keeps.{HasShedAll, IsVacant, is_absent, listed_of}
use Rattle.process_store.specs.Performing.{MayBeWoken}
use Rattle.process_store.specs.Telling.{wakes_for}
use Rattle.process_store.proofs.Arriving.{Puts, came_listed, gives_before, gone_after, none_woken, not_full, of_three, put_becomes, put_keeps, put_passes, unwoken, woken_by}
use Rattle.process_store.proofs.Emptying.{date_gone, date_other, numbers_scratch, undated_by}
use Rattle.process_store.proofs.Keeping.{settled_keeps, links_stay, lists_more}
use Rattle.process_store.proofs.Listing.{but_more, came_more}
use Rattle.process_store.proofs.Passing.{stood_mail, stood_pool}
use Rattle.process_store.proofs.Receiving.{Comes, came_count, came_numbers, came_seat, hands_few, passes_item, shed_closed, told_reply}
use Rattle.process_store.proofs.Sets.{IsSet, get_set_same, is_at, is_set, is_within, read_through, sum_has, sum_set}
use Rattle.process_store.proofs.Showing.{becomes, numbers_set, replaced_same, slots_set}
use Rattle.process_store.proofs.StrikingAll.{mirrors_becomes}
use Rattle.process_store.proofs.store.Store.arrive.Goals as goal

pub put_reserved-requires-clause-not_full : goal.put_reserved-requires-clause-not_full
put_reserved-requires-clause-not_full g c counts =
    let old = c.args.self.now in
    let to = c.args.to in
    let within = is_within (λ o. is_live_slot (slot_in o) ≡ true) old.places.items to c.requires.live (λ none. let h : ⊥ = cc in h) in
    let long = c.requires.keeps.mail in
    let inside : to < length old.mail.items = omega (arith, within, long) in
    let box = c.index_mut.result.now in
    let box_there = slice_get_read old.mail.items (length old.mail.items) to box refl inside c.index_mut.ensures.value in
    not_full box.items (subst (λ o. message_count (items_in o) < 1024) box_there (c.requires.counted counts))

pub returns-then-not-wakes-clause-keeps : goal.returns-then-not-wakes-clause-keeps
returns-then-not-wakes-clause-keeps g c =
    let old = c.args.self.now in
    let to = c.args.to in
    let within = is_within (λ o. is_live_slot (slot_in o) ≡ true) old.places.items to c.requires.live (λ none. let h : ⊥ = cc in h) in
    let long = c.requires.keeps.mail in
    let inside : to < length old.mail.items = omega (arith, within, long) in
    let box = c.index_mut.result.now in
    let box_there = slice_get_read old.mail.items (length old.mail.items) to box refl inside c.index_mut.ensures.value in
    let after = c.put_reserved.new.self in
    let puts : Puts old (record old { mail = with_item old.mail to after }) to box after c.args.item = record {
      mailed = record { within = inside; there = box_there; set = refl };
      behind = c.put_reserved.ensures.items;
      used = c.put_reserved.ensures.used;
    } in
    put_keeps (with_item old.mail to after) puts c.requires.keeps c.requires.place c.requires.few

pub returns-then-not-wakes-clause-mirrors : goal.returns-then-not-wakes-clause-mirrors
returns-then-not-wakes-clause-mirrors g c setting w ends m =
    let old = c.args.self.now in
    let to = c.args.to in
    let within = is_within (λ o. is_live_slot (slot_in o) ≡ true) old.places.items to c.requires.live (λ none. let h : ⊥ = cc in h) in
    let long = c.requires.keeps.mail in
    let inside : to < length old.mail.items = omega (arith, within, long) in
    let box = c.index_mut.result.now in
    let box_there = slice_get_read old.mail.items (length old.mail.items) to box refl inside c.index_mut.ensures.value in
    let after = c.put_reserved.new.self in
    let puts : Puts old (record old { mail = with_item old.mail to after }) to box after c.args.item = record {
      mailed = record { within = inside; there = box_there; set = refl };
      behind = c.put_reserved.ensures.items;
      used = c.put_reserved.ensures.used;
    } in
    let index_there = slice_get_read old.places.items (length old.places.items) to c.index.result.now refl within c.index.ensures in
    let wakes_is = ap (λ o. wakes_for g.E.Engine.memory (slot_in o) (tag_of (item_of c.args.item))) index_there
    ∙ ap (λ t. wakes_for g.E.Engine.memory (slot_of c.index.result.now) t) (sym c.its_tag.ensures.shown) ∙ sym c.wakes.ensures in
    let it = item_of c.args.item in
    let laws = c.an_arrival_mirrors.ensures in
    let held = held_of old in
    mirrors_becomes (meaning g.E.Engine.stands g.E.Engine.phase g.E.Engine.memory) setting (arrived w to it) (record old { mail = with_item old.mail to after }) (posted held to it) ends
    (put_becomes (with_item old.mail to after) puts)
    (of_three (unwoken g.E.Engine.phase g.E.Engine.memory (place_at old to) (tag_of it) c.requires.waits (wakes_is ∙ c.if-not-wakes.true))
    (λ x. laws.unwanted setting w held ends to x.0 x.1 it m x.2 x.3 x.4 c.requires.counted)
    (λ x. laws.sleeps setting w held ends to x.0 x.1 it m x.2 x.3 c.requires.counted)
    (λ x. laws.awake setting w held ends to it m c.requires.live x c.requires.counted))

pub returns-then-not-wakes-clause-streams : goal.returns-then-not-wakes-clause-streams
returns-then-not-wakes-clause-streams g c =
    let old = c.args.self.now in
    let to = c.args.to in
    let within = is_within (λ o. is_live_slot (slot_in o) ≡ true) old.places.items to c.requires.live (λ none. let h : ⊥ = cc in h) in
    let long = c.requires.keeps.mail in
    let inside : to < length old.mail.items = omega (arith, within, long) in
    let box = c.index_mut.result.now in
    let box_there = slice_get_read old.mail.items (length old.mail.items) to box refl inside c.index_mut.ensures.value in
    let after = c.put_reserved.new.self in
    let puts : Puts old (record old { mail = with_item old.mail to after }) to box after c.args.item = record {
      mailed = record { within = inside; there = box_there; set = refl };
      behind = c.put_reserved.ensures.items;
      used = c.put_reserved.ensures.used;
    } in
    put_passes (with_item old.mail to after) puts _

pub index_mut-requires-2 : goal.index_mut-requires-2
index_mut-requires-2 g c =
    let old = c.args.self.now in
    let to = c.args.to in
    let within = is_within (λ o. is_live_slot (slot_in o) ≡ true) old.places.items to c.requires.live (λ none. let h : ⊥ = cc in h) in
    let l = old.places.ok.0 in
    omega (arith, within, l)

pub unreachable-requires : goal.unreachable-requires
unreachable-requires g c =
    let old = c.args.self.now in
    let to = c.args.to in
    let within = is_within (λ o. is_live_slot (slot_in o) ≡ true) old.places.items to c.requires.live (λ none. let h : ⊥ = cc in h) in
    let index_there = slice_get_read old.places.items (length old.places.items) to c.index.result.now refl within c.index.ensures in
    let wakes_is = ap (λ o. wakes_for g.E.Engine.memory (slot_in o) (tag_of (item_of c.args.item))) index_there
    ∙ ap (λ t. wakes_for g.E.Engine.memory (slot_of c.index.result.now) t) (sym c.its_tag.ensures.shown) ∙ sym c.wakes.ensures in
    let there = slice_get_read old.places.items (length old.places.items) to c.replace-place.result refl within
    (read_through old.places.items to c.replace-place.result c.index_mut-2.result.now c.replace-place.result c.replace-place.ensures.value c.index_mut-2.ensures.value refl) in
    none_woken g.E.Engine.memory c.replace-place.result (tag_of (item_of c.args.item))
    (sym (ap (λ o. wakes_for g.E.Engine.memory (slot_in o) (tag_of (item_of c.args.item))) there) ∙ wakes_is ∙ c.if-not-wakes.false) c.in_default.not-Asleep

pub close_all-requires-clause-room : goal.close_all-requires-clause-room
close_all-requires-clause-room g c κs inside =
    let old = c.args.self.now in
    let to = c.args.to in
    let within = is_within (λ o. is_live_slot (slot_in o) ≡ true) old.places.items to c.requires.live (λ none. let h : ⊥ = cc in h) in
    let was = PlaceIs.Asleep c.in-Asleep.proc c.in-Asleep.field-1 in
    let there = slice_get_read old.places.items (length old.places.items) to was refl within
    (read_through old.places.items to c.replace-place.result c.index_mut-2.result.now was c.replace-place.ensures.value c.index_mut-2.ensures.value c.in-Asleep.is) in
    let few = hands_few old to was c.requires.keeps there in
    let shut = sheds_length _ (Kept.handles_in (Kept.slots_of c.in-Asleep.proc.scratch)) old.shed c.deliver-code.new.shed c.deliver-code.ensures.shed in
    let both = length-append c.in-Asleep.proc.table (Kept.handles_in (Kept.slots_of c.in-Asleep.proc.scratch)) in
    let empty = ap length c.requires.keeps.shed in
    let l = old.closed.ok.0 in
    omega (arith, few, shut, both, empty, l)

pub answer-requires : goal.answer-requires
answer-requires g c =
    let old = c.args.self.now in
    let to = c.args.to in
    let within = is_within (λ o. is_live_slot (slot_in o) ≡ true) old.places.items to c.requires.live (λ none. let h : ⊥ = cc in h) in
    let index_there = slice_get_read old.places.items (length old.places.items) to c.index.result.now refl within c.index.ensures in
    let wakes_is = ap (λ o. wakes_for g.E.Engine.memory (slot_in o) (tag_of (item_of c.args.item))) index_there
    ∙ ap (λ t. wakes_for g.E.Engine.memory (slot_of c.index.result.now) t) (sym c.its_tag.ensures.shown) ∙ sym c.wakes.ensures in
    let was = PlaceIs.Asleep c.in-Asleep.proc c.in-Asleep.field-1 in
    let there = slice_get_read old.places.items (length old.places.items) to was refl within
    (read_through old.places.items to c.replace-place.result c.index_mut-2.result.now was c.replace-place.ensures.value c.index_mut-2.ensures.value c.in-Asleep.is) in
    let woken_is = woken_by g.E.Engine.memory (seat_of c.in-Asleep.proc) c.in-Asleep.field-1 (tag_of (item_of c.args.item))
    (sym (ap (λ o. wakes_for g.E.Engine.memory (slot_in o) (tag_of (item_of c.args.item))) there) ∙ wakes_is ∙ c.if-not-wakes.false) in
    let it = item_of c.args.item in
    let may = subst (λ o. MayBeWoken g.E.Engine.phase g.E.Engine.memory (slot_in o)) there c.requires.waits in
    rw (c.number_reply.ensures ∙ told_reply it c.deliver-code.result c.deliver-code.ensures.code) (may.delivered it woken_is.0)

pub set_place-requires-clause-within : goal.set_place-requires-clause-within
set_place-requires-clause-within g c κs inside =
    let old = c.args.self.now in
    let to = c.args.to in
    let within = is_within (λ o. is_live_slot (slot_in o) ≡ true) old.places.items to c.requires.live (λ none. let h : ⊥ = cc in h) in
    let l = old.places.ok.0 in
    omega (arith, within, l)

pub set_place-requires-clause-vacant : goal.set_place-requires-clause-vacant
set_place-requires-clause-vacant g c κs inside =
    let old = c.args.self.now in
    let to = c.args.to in
    let within = is_within (λ o. is_live_slot (slot_in o) ≡ true) old.places.items to c.requires.live (λ none. let h : ⊥ = cc in h) in
    subst (λ o. IfSome o IsVacant) (sym (get_set_same old.places.items to c.replace-place.new.dest within ∙ ap Some c.replace-place.ensures.after)) tt

pub push_reserved-requires : goal.push_reserved-requires
push_reserved-requires g c =
    let old = c.args.self.now in
    let to = c.args.to in
    let within = is_within (λ o. is_live_slot (slot_in o) ≡ true) old.places.items to c.requires.live (λ none. let h : ⊥ = cc in h) in
    let was = PlaceIs.Asleep c.in-Asleep.proc c.in-Asleep.field-1 in
    let there = slice_get_read old.places.items (length old.places.items) to was refl within
    (read_through old.places.items to c.replace-place.result c.index_mut-2.result.now was c.replace-place.ensures.value c.index_mut-2.ensures.value c.in-Asleep.is) in
    let found : IsSet old.places.items (slice_set old.places.items to was) to was was = record { within = within; there = there; set = refl } in
    let has = sum_has found is_absent in
    let room = c.requires.keeps.came_room in
    let a = length-append (old.queue.ready ++ old.came.items) (option_to_list old.giver) in
    let b = length-append old.queue.ready old.came.items in
    let l = old.came.ok.0 in
    omega (arith, has, room, a, b, l)

pub returns-clause-keeps : goal.returns-clause-keeps
returns-clause-keeps g c =
    let old = c.args.self.now in
    let to = c.args.to in
    let within = is_within (λ o. is_live_slot (slot_in o) ≡ true) old.places.items to c.requires.live (λ none. let h : ⊥ = cc in h) in
    let tells_of = told g.O.Stream.Stream.taken g.O.Stream.Stream.put g.O.Stream.Stream.faults g.O.Stream.Stream.waits g.O.Stream.Stream.empties g.O.Stream.Stream.down in
    let proc = c.in-Asleep.proc in
    let new = record old { places = c.set_place.new.places; queue = c.clear_deadline.new.self; came = c.push_reserved.new.self; closed = c.close_all.new.closed; shed = c.close_all.new.shed } in
    let was = PlaceIs.Asleep proc c.in-Asleep.field-1 in
    let is = PlaceIs.Home (record proc { engine = c.answer.new.self; scratch = c.deliver-code.new.scratch }) in
    let placed : IsSet old.places.items new.places.items to was is = is_set old.places.items c.set_place.new.places.items to c.replace-place.result c.index_mut-2.result.now was _ is within
    c.replace-place.ensures.value c.index_mut-2.ensures.value c.in-Asleep.is c.set_place.ensures.items in
    let comes : Comes tells_of old new to was is proc.table (Kept.handles_in (Kept.slots_of proc.scratch)) c.args.item = record {
      placed = placed;
      had = refl;
      has = ap (λ hs. proc.table ++ hs) c.deliver-code.ensures.streams;
      closed = shed_closed tells_of (Kept.handles_in (Kept.slots_of proc.scratch)) old.shed c.deliver-code.new.shed old.closed.items c.close_all.new.closed.items c.requires.keeps.shed
          c.deliver-code.ensures.shed c.close_all.ensures.closed;
    } in
    let giver = option_to_list old.giver in
    let joined = came_listed old.queue.ready new.queue.ready old.came.items new.came.items giver to c.clear_deadline.ensures.ready c.push_reserved.ensures.items in
    let but = but_more to (old.queue.ready ++ old.came.items) giver (listed_of old) (listed_of new) refl joined in
    let more = came_more to (old.queue.ready ++ old.came.items) giver (listed_of old) (listed_of new) refl joined in
    let longer = but.long in
    let count = came_count comes in
    let hands = sum_set placed (λ place. length (hands_at place)) in
    let few = c.requires.few in
    let capacity = c.close_all.ensures.capacity in
    let closed_room = c.requires.keeps.closed_room in
    settled_keeps old new to was is c.requires.keeps (record {
      placed = placed;
      mail = refl;
      shed = c.close_all.ensures.shed;
      sheds = is_at placed HasShedAll c.requires.keeps.sheds;
      unended = refl;
      out = refl;
      listed = lists_more old new to was is c.requires.keeps placed.there but more (λ listed. listed) tt;
      long = omega (arith, longer, more);
      room = let r = c.clear_deadline.ensures.room in omega (arith, r);
      came_room = let r = c.push_reserved.ensures.capacity in omega (arith, r);
      dates = λ q differs. ap (λ dates. get dates q) c.clear_deadline.ensures.deadlines ∙ date_other old.queue.deadlines to q differs;
      dated = λ deadline at. let none = ap (λ dates. get dates to) c.clear_deadline.ensures.deadlines ∙ date_gone old.queue.deadlines to in let h : ⊥ = cc in absurd h;
      closed_room = omega (arith, capacity, closed_room);
      links_room = links_stay old new to was is c.requires.keeps placed refl refl (λ live. live);
      links_of = λ a b tag at. at;
    }) (omega (arith, count, hands, few))

pub returns-clause-mirrors : goal.returns-clause-mirrors
returns-clause-mirrors g c setting w ends m =
    let old = c.args.self.now in
    let to = c.args.to in
    let within = is_within (λ o. is_live_slot (slot_in o) ≡ true) old.places.items to c.requires.live (λ none. let h : ⊥ = cc in h) in
    let tells_of = told g.O.Stream.Stream.taken g.O.Stream.Stream.put g.O.Stream.Stream.faults g.O.Stream.Stream.waits g.O.Stream.Stream.empties g.O.Stream.Stream.down in
    let proc = c.in-Asleep.proc in
    let new = record old { places = c.set_place.new.places; queue = c.clear_deadline.new.self; came = c.push_reserved.new.self; closed = c.close_all.new.closed; shed = c.close_all.new.shed } in
    let was = PlaceIs.Asleep proc c.in-Asleep.field-1 in
    let is = PlaceIs.Home (record proc { engine = c.answer.new.self; scratch = c.deliver-code.new.scratch }) in
    let placed : IsSet old.places.items new.places.items to was is = is_set old.places.items c.set_place.new.places.items to c.replace-place.result c.index_mut-2.result.now was _ is within
    c.replace-place.ensures.value c.index_mut-2.ensures.value c.in-Asleep.is c.set_place.ensures.items in
    let index_there = slice_get_read old.places.items (length old.places.items) to c.index.result.now refl within c.index.ensures in
    let wakes_is = ap (λ o. wakes_for g.E.Engine.memory (slot_in o) (tag_of (item_of c.args.item))) index_there
    ∙ ap (λ t. wakes_for g.E.Engine.memory (slot_of c.index.result.now) t) (sym c.its_tag.ensures.shown) ∙ sym c.wakes.ensures in
    let comes : Comes tells_of old new to was is proc.table (Kept.handles_in (Kept.slots_of proc.scratch)) c.args.item = record {
      placed = placed;
      had = refl;
      has = ap (λ hs. proc.table ++ hs) c.deliver-code.ensures.streams;
      closed = shed_closed tells_of (Kept.handles_in (Kept.slots_of proc.scratch)) old.shed c.deliver-code.new.shed old.closed.items c.close_all.new.closed.items c.requires.keeps.shed
          c.deliver-code.ensures.shed c.close_all.ensures.closed;
    } in
    let there = slice_get_read old.places.items (length old.places.items) to was refl within
    (read_through old.places.items to c.replace-place.result c.index_mut-2.result.now was c.replace-place.ensures.value c.index_mut-2.ensures.value c.in-Asleep.is) in
    let woken_is = woken_by g.E.Engine.memory (seat_of c.in-Asleep.proc) c.in-Asleep.field-1 (tag_of (item_of c.args.item))
    (sym (ap (λ o. wakes_for g.E.Engine.memory (slot_in o) (tag_of (item_of c.args.item))) there) ∙ wakes_is ∙ c.if-not-wakes.false) in
    let it = item_of c.args.item in
    let seat = came_seat proc c.answer.new.self c.deliver-code.new.scratch it c.deliver-code.ensures.scratch in
    let reply = told_reply it c.deliver-code.result c.deliver-code.ensures.code in
    let seated = record (seat_of proc) { engine = c.answer.new.self; part = settled (shown_part proc) (Delivered it) } in
    mirrors_becomes (meaning g.E.Engine.stands g.E.Engine.phase g.E.Engine.memory) setting (arrived w to it) new (woken (held_of old) to seated (shown_part proc)) ends
    (subst (λ s. Becomes new (woken (held_of old) to s (shown_part proc))) seat
    (becomes new (woken (held_of old) to (seat_of (record proc { engine = c.answer.new.self; scratch = c.deliver-code.new.scratch })) (shown_part proc)) (record {
      slots = slots_set old new to was is placed;
      mail = replaced_same (held_of old).mail to ((held_of old).mail to) refl;
      deadlines = λ q. ap (λ dates. get dates q) c.clear_deadline.ensures.deadlines ∙ undated_by old.queue.deadlines to None refl q;
      names = λ name. refl;
      numbers = numbers_set old new to was is placed;
      births = refl;
      unended = refl;
      out = refl;
      sends = refl;
      time = refl;
      row = refl;
      over = refl;
      streams = refl;
      closed = came_numbers comes ∙ ap (λ ns. numbers_of old.closed.items ++ ns) (numbers_scratch proc.scratch);
    })))
    (c.an_arrival_mirrors.ensures.wakes setting w (held_of old) ends to (seat_of proc) c.in-Asleep.field-1 it c.answer.new.self m (ap slot_in there) woken_is.0 woken_is.1 c.requires.counted
    (record { running = c.answer.ensures.phase; stands = rw (c.number_reply.ensures ∙ reply) at c.answer.ensures.stands }))

pub returns-clause-gives_stay : goal.returns-clause-gives_stay
returns-clause-gives_stay g c =
    let old = c.args.self.now in
    let to = c.args.to in
    let within = is_within (λ o. is_live_slot (slot_in o) ≡ true) old.places.items to c.requires.live (λ none. let h : ⊥ = cc in h) in
    let tells_of = told g.O.Stream.Stream.taken g.O.Stream.Stream.put g.O.Stream.Stream.faults g.O.Stream.Stream.waits g.O.Stream.Stream.empties g.O.Stream.Stream.down in
    let proc = c.in-Asleep.proc in
    let new = record old { places = c.set_place.new.places; queue = c.clear_deadline.new.self; came = c.push_reserved.new.self; closed = c.close_all.new.closed; shed = c.close_all.new.shed } in
    let was = PlaceIs.Asleep proc c.in-Asleep.field-1 in
    let is = PlaceIs.Home (record proc { engine = c.answer.new.self; scratch = c.deliver-code.new.scratch }) in
    let placed : IsSet old.places.items new.places.items to was is = is_set old.places.items c.set_place.new.places.items to c.replace-place.result c.index_mut-2.result.now was _ is within
    c.replace-place.ensures.value c.index_mut-2.ensures.value c.in-Asleep.is c.set_place.ensures.items in
    gives_before old new to was is placed (λ gives. let h : ⊥ = cc in h)

pub returns-clause-stay_gone : goal.returns-clause-stay_gone
returns-clause-stay_gone g c =
    let old = c.args.self.now in
    let to = c.args.to in
    let within = is_within (λ o. is_live_slot (slot_in o) ≡ true) old.places.items to c.requires.live (λ none. let h : ⊥ = cc in h) in
    let tells_of = told g.O.Stream.Stream.taken g.O.Stream.Stream.put g.O.Stream.Stream.faults g.O.Stream.Stream.waits g.O.Stream.Stream.empties g.O.Stream.Stream.down in
    let proc = c.in-Asleep.proc in
    let new = record old { places = c.set_place.new.places; queue = c.clear_deadline.new.self; came = c.push_reserved.new.self; closed = c.close_all.new.closed; shed = c.close_all.new.shed } in
    let was = PlaceIs.Asleep proc c.in-Asleep.field-1 in
    let is = PlaceIs.Home (record proc { engine = c.answer.new.self; scratch = c.deliver-code.new.scratch }) in
    let placed : IsSet old.places.items new.places.items to was is = is_set old.places.items c.set_place.new.places.items to c.replace-place.result c.index_mut-2.result.now was _ is within
    c.replace-place.ensures.value c.index_mut-2.ensures.value c.in-Asleep.is c.set_place.ensures.items in
    gone_after old new to was is placed (λ gone. let h : ⊥ = cc in h)

pub returns-clause-streams : goal.returns-clause-streams
returns-clause-streams g c =
    let old = c.args.self.now in
    let to = c.args.to in
    let within = is_within (λ o. is_live_slot (slot_in o) ≡ true) old.places.items to c.requires.live (λ none. let h : ⊥ = cc in h) in
    let tells_of = told g.O.Stream.Stream.taken g.O.Stream.Stream.put g.O.Stream.Stream.faults g.O.Stream.Stream.waits g.O.Stream.Stream.empties g.O.Stream.Stream.down in
    let proc = c.in-Asleep.proc in
    let new = record old { places = c.set_place.new.places; queue = c.clear_deadline.new.self; came = c.push_reserved.new.self; closed = c.close_all.new.closed; shed = c.close_all.new.shed } in
    let was = PlaceIs.Asleep proc c.in-Asleep.field-1 in
    let is = PlaceIs.Home (record proc { engine = c.answer.new.self; scratch = c.deliver-code.new.scratch }) in
    let placed : IsSet old.places.items new.places.items to was is = is_set old.places.items c.set_place.new.places.items to c.replace-place.result c.index_mut-2.result.now was _ is within
    c.replace-place.ensures.value c.index_mut-2.ensures.value c.in-Asleep.is c.set_place.ensures.items in
    let comes : Comes tells_of old new to was is proc.table (Kept.handles_in (Kept.slots_of proc.scratch)) c.args.item = record {
      placed = placed;
      had = refl;
      has = ap (λ hs. proc.table ++ hs) c.deliver-code.ensures.streams;
      closed = shed_closed tells_of (Kept.handles_in (Kept.slots_of proc.scratch)) old.shed c.deliver-code.new.shed old.closed.items c.close_all.new.closed.items c.requires.keeps.shed
          c.deliver-code.ensures.shed c.close_all.ensures.closed;
    } in
    passes_item comes (item_streams c.args.item) (λ h has. stood_pool (kept_of old) (item_streams c.args.item) h has) (λ q h has. stood_mail (kept_of old) (item_streams c.args.item) q h has)
