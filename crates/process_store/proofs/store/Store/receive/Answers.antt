use Rattle.std.proofs.Common.{◌≡◌, ◌<◌, ◌∙◌, refl, arith, sym, ap, subst, ◌++◌, [], None, Some, length, length-append, sum_by, slice_set, IfSome}
use Rattle.std.proofs.lemmas.Option.{slice_get_read}
use Rattle.std.specs.Vec.{with_item}
use Rattle.host_calls.specs.Shown.{seat_of, shown_part}
use Rattle.message_scratch.specs.Messages as Kept
use Rattle.resource_table.specs.Handles.{numbers_of}
use Rattle.resource_table.specs.Steps.{told}
use Rattle.resource_table.proofs.Closings.{sheds_length}
use Rattle.tagged_mailbox.specs.Mail.{reserved}
use Rattle.world_rules.specs.Answers.{number_reply}
use Rattle.world_rules.specs.Mail.{pick, tags_in, unpicked}
use Rattle.world_rules.specs.Part.{scratch_handles}
use Rattle.world_rules.specs.Receive.{delivery_reply}
use Rattle.world_rules.specs.Settled.{Delivered, settled}
use Rattle.node_mirror.specs.Slots.{Home}
use Rattle.node_mirror.specs.Steps.{closing, replaced, with_one}
use Rattle.process_store.specs.declared.place.Place.TheVariants as PlaceIs
use Rattle.process_store.specs.Holds.{Becomes, hands_at, held_of, item_of, items_in, kept_of, place_at, slot_in, slot_of, streams_of}
use Rattle.process_store.specs.Keeps.{StoreKeeps, HasShedAll, IsVacant}
use Rattle.process_store.specs.PassOn.{PassesOn}
use Rattle.process_store.specs.Telling.{MayBeTold}
use Rattle.process_store.proofs.Emptying.{numbers_scratch}
use Rattle.process_store.proofs.Keeping.{moved_keeps, lists_stay}
use Rattle.process_store.proofs.Passing.{passes_stay, stood_mail}
use Rattle.process_store.proofs.Receiving.{Comes, came_count, came_numbers, came_seat, found_item, hands_few, item_stood, left_items, links_boxed, lives_before, mail_stood, may_deliver, none_giving, passes_item}
use Rattle.process_store.proofs.Receiving.{shed_closed, store_stays, streams_left, told_reply}
use Rattle.process_store.proofs.Sets.{IsSet, get_set_same, is_at, is_set, is_within, length_set, read_set, read_through, sum_set}
use Rattle.process_store.proofs.Showing.{becomes, numbers_set, replaced_same, slots_set, undated}
use Rattle.process_store.proofs.Telling.{may_be_told, tells}
use Rattle.process_store.proofs.store.Store.receive.Goals as goal

pub returns-in_default-clause-keeps : goal.returns-in_default-clause-keeps
returns-in_default-clause-keeps g c =
    let old = c.args.self.now in
    let same = store_stays old c.args.pid c.args.tags.now c.index_mut.result.now c.pick.new.self c.index_mut.ensures.value c.in_default.ensures.picked c.pick.ensures.left c.pick.ensures.places in
    subst StoreKeeps (sym same) c.requires.keeps

pub returns-in_default-clause-none : goal.returns-in_default-clause-none
returns-in_default-clause-none g c nothing =
    let old = c.args.self.now in
    let pid = c.args.pid in
    let within = is_within (λ o. MayBeTold g.E.Engine.phase g.E.Engine.memory (slot_in o) (number_reply 0)) old.places.items pid c.requires.message (λ none. none) in
    let long = c.requires.keeps.mail in
    let inside : pid < length old.mail.items = omega (arith, within, long) in
    let there = slice_get_read old.mail.items (length old.mail.items) pid c.index_mut.result.now refl inside c.index_mut.ensures.value in
    ap (λ o. pick (tags_in c.args.tags.now) (items_in o)) there ∙ found_item c.args.tags.now c.index_mut.result.now None c.requires.whole c.in_default.ensures.picked

pub returns-in_default-clause-stays : goal.returns-in_default-clause-stays
returns-in_default-clause-stays g c nothing =
    let old = c.args.self.now in
    let same = store_stays old c.args.pid c.args.tags.now c.index_mut.result.now c.pick.new.self c.index_mut.ensures.value c.in_default.ensures.picked c.pick.ensures.left c.pick.ensures.places in
    same

pub returns-in_default-clause-streams : goal.returns-in_default-clause-streams
returns-in_default-clause-streams g c =
    let old = c.args.self.now in
    let same = store_stays old c.args.pid c.args.tags.now c.index_mut.result.now c.pick.new.self c.index_mut.ensures.value c.in_default.ensures.picked c.pick.ensures.left c.pick.ensures.places in
    subst (λ s. PassesOn (told g.O.Stream.Stream.taken g.O.Stream.Stream.put g.O.Stream.Stream.faults g.O.Stream.Stream.waits g.O.Stream.Stream.empties g.O.Stream.Stream.down) (kept_of old) (kept_of s) [] [])
    (sym same) (passes_stay _ old old refl refl refl)

pub index_mut-requires-2 : goal.index_mut-requires-2
index_mut-requires-2 g c =
    let old = c.args.self.now in
    let pid = c.args.pid in
    let within = is_within (λ o. MayBeTold g.E.Engine.phase g.E.Engine.memory (slot_in o) (number_reply 0)) old.places.items pid c.requires.message (λ none. none) in
    let l = old.places.ok.0 in
    omega (arith, within, l)

pub unreachable-requires : goal.unreachable-requires
unreachable-requires g c =
    let old = c.args.self.now in
    let pid = c.args.pid in
    let within = is_within (λ o. MayBeTold g.E.Engine.phase g.E.Engine.memory (slot_in o) (number_reply 0)) old.places.items pid c.requires.message (λ none. none) in
    let there = slice_get_read old.places.items (length old.places.items) pid c.replace-place.result refl within
    (read_through old.places.items pid c.replace-place.result c.index_mut-2.result.now c.replace-place.result c.replace-place.ensures.value c.index_mut-2.ensures.value refl) in
    none_giving g.E.Engine.phase g.E.Engine.memory (number_reply 0) c.replace-place.result
    (subst (λ o. MayBeTold g.E.Engine.phase g.E.Engine.memory (slot_in o) (number_reply 0)) there c.requires.message) c.in_default-place.not-Giving

pub close_all-requires-clause-room : goal.close_all-requires-clause-room
close_all-requires-clause-room g c κs inside =
    let old = c.args.self.now in
    let pid = c.args.pid in
    let within = is_within (λ o. MayBeTold g.E.Engine.phase g.E.Engine.memory (slot_in o) (number_reply 0)) old.places.items pid c.requires.message (λ none. none) in
    let was = PlaceIs.Giving c.in-Giving.proc c.in-Giving.field-1 in
    let there = slice_get_read old.places.items (length old.places.items) pid was refl within
    (read_through old.places.items pid c.replace-place.result c.index_mut-2.result.now was c.replace-place.ensures.value c.index_mut-2.ensures.value c.in-Giving.is) in
    let few = hands_few old pid was c.requires.keeps there in
    let shut = sheds_length _ (Kept.handles_in (Kept.slots_of c.in-Giving.proc.scratch)) old.shed c.deliver-code.new.shed c.deliver-code.ensures.shed in
    let both = length-append c.in-Giving.proc.table (Kept.handles_in (Kept.slots_of c.in-Giving.proc.scratch)) in
    let empty = ap length c.requires.keeps.shed in
    let l = old.closed.ok.0 in
    omega (arith, few, shut, both, empty, l)

pub answer-requires : goal.answer-requires
answer-requires g c =
    let old = c.args.self.now in
    let pid = c.args.pid in
    let within = is_within (λ o. MayBeTold g.E.Engine.phase g.E.Engine.memory (slot_in o) (number_reply 0)) old.places.items pid c.requires.message (λ none. none) in
    let was = PlaceIs.Giving c.in-Giving.proc c.in-Giving.field-1 in
    let there = slice_get_read old.places.items (length old.places.items) pid was refl within
    (read_through old.places.items pid c.replace-place.result c.index_mut-2.result.now was c.replace-place.ensures.value c.index_mut-2.ensures.value c.in-Giving.is) in
    let it = item_of c.in-Some.item in
    let phase = g.E.Engine.phase in
    let memory = g.E.Engine.memory in
    let seat = seat_of c.in-Giving.proc in
    rw (c.number_reply.ensures ∙ told_reply it c.deliver-code.result c.deliver-code.ensures.code)
    (may_deliver (phase c.in-Giving.proc.engine) (memory c.in-Giving.proc.engine) it
    (may_be_told phase memory (place_at old pid) (number_reply 0) seat c.in-Giving.field-1 (ap slot_in there) c.requires.message)
    (may_be_told phase memory (place_at old pid) (number_reply 1) seat c.in-Giving.field-1 (ap slot_in there) c.requires.signal))

pub set_place-requires-clause-within : goal.set_place-requires-clause-within
set_place-requires-clause-within g c κs inside =
    let old = c.args.self.now in
    let pid = c.args.pid in
    let within = is_within (λ o. MayBeTold g.E.Engine.phase g.E.Engine.memory (slot_in o) (number_reply 0)) old.places.items pid c.requires.message (λ none. none) in
    let l = old.places.ok.0 in
    omega (arith, within, l)

pub set_place-requires-clause-vacant : goal.set_place-requires-clause-vacant
set_place-requires-clause-vacant g c κs inside =
    let old = c.args.self.now in
    let pid = c.args.pid in
    let within = is_within (λ o. MayBeTold g.E.Engine.phase g.E.Engine.memory (slot_in o) (number_reply 0)) old.places.items pid c.requires.message (λ none. none) in
    subst (λ o. IfSome o IsVacant) (sym (get_set_same old.places.items pid c.replace-place.new.dest within ∙ ap Some c.replace-place.ensures.after)) tt

pub returns-clause-keeps : goal.returns-clause-keeps
returns-clause-keeps g c =
    let old = c.args.self.now in
    let pid = c.args.pid in
    let within = is_within (λ o. MayBeTold g.E.Engine.phase g.E.Engine.memory (slot_in o) (number_reply 0)) old.places.items pid c.requires.message (λ none. none) in
    let long = c.requires.keeps.mail in
    let inside : pid < length old.mail.items = omega (arith, within, long) in
    let tells_of = told g.O.Stream.Stream.taken g.O.Stream.Stream.put g.O.Stream.Stream.faults g.O.Stream.Stream.waits g.O.Stream.Stream.empties g.O.Stream.Stream.down in
    let proc = c.in-Giving.proc in
    let box = c.index_mut.result.now in
    let after = c.pick.new.self in
    let new = record old { places = c.set_place.new.places; mail = with_item old.mail pid after; closed = c.close_all.new.closed; shed = c.close_all.new.shed } in
    let was = PlaceIs.Giving proc c.in-Giving.field-1 in
    let is = PlaceIs.Home (record proc { engine = c.answer.new.self; scratch = c.deliver-code.new.scratch }) in
    let placed : IsSet old.places.items new.places.items pid was is = is_set old.places.items c.set_place.new.places.items pid c.replace-place.result c.index_mut-2.result.now was _ is within
    c.replace-place.ensures.value c.index_mut-2.ensures.value c.in-Giving.is c.set_place.ensures.items in
    let mailed : IsSet old.mail.items new.mail.items pid box after =
    record { within = inside; there = slice_get_read old.mail.items (length old.mail.items) pid box refl inside c.index_mut.ensures.value; set = refl } in
    let comes : Comes tells_of old new pid was is proc.table (Kept.handles_in (Kept.slots_of proc.scratch)) c.in-Some.item = record {
      placed = placed;
      had = refl;
      has = ap (λ hs. proc.table ++ hs) c.deliver-code.ensures.streams;
      closed = shed_closed tells_of (Kept.handles_in (Kept.slots_of proc.scratch)) old.shed c.deliver-code.new.shed old.closed.items c.close_all.new.closed.items c.requires.keeps.shed
          c.deliver-code.ensures.shed c.close_all.ensures.closed;
    } in
    let none = undated old pid was c.requires.keeps placed.there (λ waits. waits) in
    let count = came_count comes in
    let mails = sum_set mailed (λ mail. length (streams_of mail)) in
    let left = streams_left old new pid c.args.tags.now box after c.in-Some.item mailed c.pick.ensures.left c.in-Some.ensures.picked in
    let capacity = c.close_all.ensures.capacity in
    let closed_room = c.requires.keeps.closed_room in
    moved_keeps old new pid was is c.requires.keeps (record {
      placed = placed;
      mail = length_set mailed;
      shed = c.close_all.ensures.shed;
      sheds = is_at placed HasShedAll c.requires.keeps.sheds;
      unended = refl;
      out = refl;
      listed = lists_stay old new pid was is c.requires.keeps placed.there refl (λ listed. listed) (λ here. here);
      long = omega arith;
      room = omega arith;
      came_room = omega arith;
      dates = λ q differs. refl;
      dated = λ deadline at. let h : ⊥ = cc in absurd h;
      few = omega (arith, count, mails, left);
      closed_room = omega (arith, capacity, closed_room);
      links_room = links_boxed old new pid box after c.requires.keeps mailed refl (lives_before old new pid was is placed (λ live. live)) (λ tag room. let p = ap (λ ps. reserved ps tag) c.pick.ensures.places in omega (arith, p, room));
      links_of = λ a b tag at. at;
    })

pub returns-clause-found : goal.returns-clause-found
returns-clause-found g c delivered =
    let old = c.args.self.now in
    let pid = c.args.pid in
    let within = is_within (λ o. MayBeTold g.E.Engine.phase g.E.Engine.memory (slot_in o) (number_reply 0)) old.places.items pid c.requires.message (λ none. none) in
    let long = c.requires.keeps.mail in
    let inside : pid < length old.mail.items = omega (arith, within, long) in
    let tells_of = told g.O.Stream.Stream.taken g.O.Stream.Stream.put g.O.Stream.Stream.faults g.O.Stream.Stream.waits g.O.Stream.Stream.empties g.O.Stream.Stream.down in
    let proc = c.in-Giving.proc in
    let box = c.index_mut.result.now in
    let after = c.pick.new.self in
    let new = record old { places = c.set_place.new.places; mail = with_item old.mail pid after; closed = c.close_all.new.closed; shed = c.close_all.new.shed } in
    let was = PlaceIs.Giving proc c.in-Giving.field-1 in
    let is = PlaceIs.Home (record proc { engine = c.answer.new.self; scratch = c.deliver-code.new.scratch }) in
    let placed : IsSet old.places.items new.places.items pid was is = is_set old.places.items c.set_place.new.places.items pid c.replace-place.result c.index_mut-2.result.now was _ is within
    c.replace-place.ensures.value c.index_mut-2.ensures.value c.in-Giving.is c.set_place.ensures.items in
    let mailed : IsSet old.mail.items new.mail.items pid box after =
    record { within = inside; there = slice_get_read old.mail.items (length old.mail.items) pid box refl inside c.index_mut.ensures.value; set = refl } in
    let comes : Comes tells_of old new pid was is proc.table (Kept.handles_in (Kept.slots_of proc.scratch)) c.in-Some.item = record {
      placed = placed;
      had = refl;
      has = ap (λ hs. proc.table ++ hs) c.deliver-code.ensures.streams;
      closed = shed_closed tells_of (Kept.handles_in (Kept.slots_of proc.scratch)) old.shed c.deliver-code.new.shed old.closed.items c.close_all.new.closed.items c.requires.keeps.shed
          c.deliver-code.ensures.shed c.close_all.ensures.closed;
    } in
    let none = undated old pid was c.requires.keeps placed.there (λ waits. waits) in
    let it = item_of c.in-Some.item in
    let tags = tags_in c.args.tags.now in
    let left = unpicked tags ((held_of old).mail pid) in
    let left_is : items_in (Some after) ≡ left = left_items c.args.tags.now box after c.requires.whole c.pick.ensures.left ∙ ap (λ o. unpicked tags (items_in o)) (sym mailed.there) in
    let seat = came_seat proc c.answer.new.self c.deliver-code.new.scratch it c.deliver-code.ensures.scratch in
    let reply = told_reply it c.deliver-code.result c.deliver-code.ensures.code in (
      it,
      ap (λ o. pick tags (items_in o)) mailed.there ∙ found_item c.args.tags.now box (Some c.in-Some.item) c.requires.whole c.in-Some.ensures.picked,
      tells _ (place_at old pid) (delivery_reply it)
          (λ seat engine. Becomes new (closing (with_one (held_of old) pid (Home (record seat { engine = engine; part = settled seat.part (Delivered it) })) left None) (scratch_handles seat.part)))
          (seat_of proc) c.in-Giving.field-1 c.answer.new.self (ap slot_in placed.there) (record { running = c.answer.ensures.phase; stands = rw (c.number_reply.ensures ∙ reply) at c.answer.ensures.stands })
          (subst (λ s. Becomes new (closing (with_one (held_of old) pid (Home s) left None) (scratch_handles (shown_part proc)))) seat
          (becomes new (closing (with_one (held_of old) pid (slot_of is) left None) (scratch_handles (shown_part proc))) (record {
            slots = slots_set old new pid was is placed;
            mail = λ q. read_set mailed items_in q ∙ ap (λ items. replaced (held_of old).mail pid items q) left_is;
            deadlines = replaced_same (held_of old).deadlines pid None none;
            names = λ name. refl;
            numbers = numbers_set old new pid was is placed;
            births = refl;
            unended = refl;
            out = refl;
            sends = refl;
            time = refl;
            row = refl;
            over = refl;
            streams = refl;
            closed = came_numbers comes ∙ ap (λ ns. numbers_of old.closed.items ++ ns) (numbers_scratch proc.scratch);
          }))),
    )

pub returns-clause-streams : goal.returns-clause-streams
returns-clause-streams g c =
    let old = c.args.self.now in
    let pid = c.args.pid in
    let within = is_within (λ o. MayBeTold g.E.Engine.phase g.E.Engine.memory (slot_in o) (number_reply 0)) old.places.items pid c.requires.message (λ none. none) in
    let long = c.requires.keeps.mail in
    let inside : pid < length old.mail.items = omega (arith, within, long) in
    let tells_of = told g.O.Stream.Stream.taken g.O.Stream.Stream.put g.O.Stream.Stream.faults g.O.Stream.Stream.waits g.O.Stream.Stream.empties g.O.Stream.Stream.down in
    let proc = c.in-Giving.proc in
    let box = c.index_mut.result.now in
    let after = c.pick.new.self in
    let new = record old { places = c.set_place.new.places; mail = with_item old.mail pid after; closed = c.close_all.new.closed; shed = c.close_all.new.shed } in
    let was = PlaceIs.Giving proc c.in-Giving.field-1 in
    let is = PlaceIs.Home (record proc { engine = c.answer.new.self; scratch = c.deliver-code.new.scratch }) in
    let placed : IsSet old.places.items new.places.items pid was is = is_set old.places.items c.set_place.new.places.items pid c.replace-place.result c.index_mut-2.result.now was _ is within
    c.replace-place.ensures.value c.index_mut-2.ensures.value c.in-Giving.is c.set_place.ensures.items in
    let mailed : IsSet old.mail.items new.mail.items pid box after =
    record { within = inside; there = slice_get_read old.mail.items (length old.mail.items) pid box refl inside c.index_mut.ensures.value; set = refl } in
    let comes : Comes tells_of old new pid was is proc.table (Kept.handles_in (Kept.slots_of proc.scratch)) c.in-Some.item = record {
      placed = placed;
      had = refl;
      has = ap (λ hs. proc.table ++ hs) c.deliver-code.ensures.streams;
      closed = shed_closed tells_of (Kept.handles_in (Kept.slots_of proc.scratch)) old.shed c.deliver-code.new.shed old.closed.items c.close_all.new.closed.items c.requires.keeps.shed
          c.deliver-code.ensures.shed c.close_all.ensures.closed;
    } in
    passes_item comes [] (λ h has. stood_mail (kept_of old) [] pid h (item_stood old new pid c.args.tags.now box after c.in-Some.item mailed c.pick.ensures.left c.in-Some.ensures.picked h has))
    (λ q h has. stood_mail (kept_of old) [] q h (mail_stood old new pid c.args.tags.now box after c.in-Some.item mailed c.pick.ensures.left q h has))
