use Rattle.std.proofs.Common.{◌≡◌, ◌∙◌, refl, arith, sym, ap, subst, None, Some, length, sum_by, ◌+◌, Contains, IfSome}
use Rattle.host_calls.specs.Shown.{seat_of}
use Rattle.world_rules.specs.Answers.{number_reply}
use Rattle.world_rules.specs.Mail as MailIs
use Rattle.world_rules.specs.Settled.{settled, SentOff}
use Rattle.node_mirror.specs.Steps.{home}
use Rattle.process_store.specs.declared.place.Place.TheVariants as PlaceIs
use Rattle.process_store.specs.Holds.{Becomes, held_of, hands_at, hands_in, item_of, item_streams, streams_by, slot_in, place_at}
use Rattle.process_store.specs.Keeps.{HasShedAll, IsVacant}
use Rattle.process_store.specs.Telling.{MayBeTold}
use Rattle.process_store.proofs.Sets.{get_set_same, is_set, is_within, is_at, read_through, sum_set}
use Rattle.std.proofs.lemmas.Option.{slice_get_read}
use Rattle.process_store.proofs.Showing.{becomes, replaced_same, slots_set, numbers_set, undated}
use Rattle.process_store.proofs.Keeping.{moved_keeps, lists_stay, links_stay}
use Rattle.process_store.proofs.Passing.{passes_moved}
use Rattle.process_store.proofs.Sending.{sent_few, sent_from, sent_kept, sent_message, sent_seat}
use Rattle.process_store.proofs.Telling.{tells, same_seat, may_be_told}
use Rattle.process_store.proofs.store.Store.send_off.Goals as goal

pub set_place-requires-clause-within : goal.set_place-requires-clause-within
set_place-requires-clause-within g c =
    let within = is_within (λ o. MayBeTold g.E.Engine.phase g.E.Engine.memory (slot_in o) (number_reply 0)) c.args.self.now.places.items c.args.pid c.requires.giving (λ none. none) in
    let l = c.args.self.now.places.ok.0 in
    omega (arith, within, l)

pub returns-clause-keeps : goal.returns-clause-keeps
returns-clause-keeps g c =
    let old = c.args.self.now in
    let new = record old { places = c.set_place.new.places; sends = old.sends + 1 } in
    let was = PlaceIs.Giving c.in-Giving.proc c.in-Giving.field-1 in
    let is = PlaceIs.Home (record c.in-Giving.proc { engine = c.answer.new.self; scratch = c.let_go.new.self }) in
    let within = is_within (λ o. MayBeTold g.E.Engine.phase g.E.Engine.memory (slot_in o) (number_reply 0)) old.places.items c.args.pid c.requires.giving (λ none. none) in
    let placed = is_set old.places.items c.set_place.new.places.items c.args.pid c.replace-place.result c.index_mut.result.now was _ is within c.replace-place.ensures.value c.index_mut.ensures.value
    c.in-Giving.is c.set_place.ensures.items in
    let few = sent_few c.in-Giving.proc.table c.in-Some.message c.in-Giving.proc.scratch c.let_go.new.self c.let_go.ensures.left c.in-Some.ensures.given in
    moved_keeps old new c.args.pid was is c.requires.keeps (record {
      placed = placed;
      mail = refl;
      shed = c.requires.keeps.shed;
      sheds = is_at placed HasShedAll c.requires.keeps.sheds;
      unended = refl;
      out = refl;
      listed = lists_stay old new c.args.pid was is c.requires.keeps placed.there refl (λ listed. listed) (λ here. here);
      long = omega arith;
      room = omega arith;
      came_room = omega arith;
      dates = λ q differs. refl;
      dated = λ deadline at. let none = undated old c.args.pid was c.requires.keeps placed.there (λ waits. waits) in let h : ⊥ = cc in absurd h;
      few = omega (arith, few);
      closed_room = c.requires.keeps.closed_room;
      links_room = links_stay old new c.args.pid was is c.requires.keeps placed refl refl (λ live. live);
      links_of = λ a b tag at. at;
    })

pub returns-clause-held : goal.returns-clause-held
returns-clause-held g c =
    let old = c.args.self.now in
    let new = record old { places = c.set_place.new.places; sends = old.sends + 1 } in
    let proc = c.in-Giving.proc in
    let was = PlaceIs.Giving proc c.in-Giving.field-1 in
    let is = PlaceIs.Home (record proc { engine = c.answer.new.self; scratch = c.let_go.new.self }) in
    let within = is_within (λ o. MayBeTold g.E.Engine.phase g.E.Engine.memory (slot_in o) (number_reply 0)) old.places.items c.args.pid c.requires.giving (λ none. none) in
    let placed = is_set old.places.items c.set_place.new.places.items c.args.pid c.replace-place.result c.index_mut.result.now was _ is within c.replace-place.ensures.value c.index_mut.ensures.value
    c.in-Giving.is c.set_place.ensures.items in
    let none = undated old c.args.pid was c.requires.keeps placed.there (λ waits. waits) in
    let seat = sent_seat proc c.answer.new.self c.let_go.new.self c.let_go.ensures.left in
    tells _ (place_at old c.args.pid) (number_reply 0) (λ seat engine. Becomes new (record (home (held_of old) c.args.pid (record seat { engine = engine; part = settled seat.part SentOff })) { sends = old.sends + 1 }))
    (seat_of proc) c.in-Giving.field-1 c.answer.new.self (ap slot_in placed.there)
    (record { running = c.answer.ensures.phase; stands = rw c.number_reply.ensures at c.answer.ensures.stands })
    (subst (λ s. Becomes new (record (home (held_of old) c.args.pid s) { sends = old.sends + 1 })) seat
    (becomes new (record (home (held_of old) c.args.pid (seat_of (record proc { engine = c.answer.new.self; scratch = c.let_go.new.self }))) { sends = old.sends + 1 }) (record {
      slots = slots_set old new c.args.pid was is placed;
      mail = replaced_same (held_of old).mail c.args.pid ((held_of old).mail c.args.pid) refl;
      deadlines = replaced_same (held_of old).deadlines c.args.pid None none;
      names = λ name. refl;
      numbers = numbers_set old new c.args.pid was is placed;
      births = refl;
      unended = refl;
      out = refl;
      sends = refl;
      time = refl;
      row = refl;
      over = refl;
      streams = refl;
      closed = refl;
    })))

pub returns-clause-item : goal.returns-clause-item
returns-clause-item g c seat ask at =
    let old = c.args.self.now in
    let proc = c.in-Giving.proc in
    let was = PlaceIs.Giving proc c.in-Giving.field-1 in
    let is = PlaceIs.Home (record proc { engine = c.answer.new.self; scratch = c.let_go.new.self }) in
    let within = is_within (λ o. MayBeTold g.E.Engine.phase g.E.Engine.memory (slot_in o) (number_reply 0)) old.places.items c.args.pid c.requires.giving (λ none. none) in
    let placed = is_set old.places.items c.set_place.new.places.items c.args.pid c.replace-place.result c.index_mut.result.now was _ is within c.replace-place.ensures.value c.index_mut.ensures.value
    c.in-Giving.is c.set_place.ensures.items in
    let same = same_seat (place_at old c.args.pid) (seat_of proc) seat c.in-Giving.field-1 ask (ap slot_in placed.there) at in
    let had = sent_message proc.scratch c.in-Some.message c.in-Some.ensures.given in
    (had.0, ap (λ s. s.part.scratch) (sym same) ∙ had.1, c.of_letter.ensures.item ∙ ap (λ m. MailIs.Letter old.sends m) had.2)

pub returns-clause-from : goal.returns-clause-from
returns-clause-from g c handle has =
    let old = c.args.self.now in
    let proc = c.in-Giving.proc in
    let was = PlaceIs.Giving proc c.in-Giving.field-1 in
    let is = PlaceIs.Home (record proc { engine = c.answer.new.self; scratch = c.let_go.new.self }) in
    let within = is_within (λ o. MayBeTold g.E.Engine.phase g.E.Engine.memory (slot_in o) (number_reply 0)) old.places.items c.args.pid c.requires.giving (λ none. none) in
    let placed = is_set old.places.items c.set_place.new.places.items c.args.pid c.replace-place.result c.index_mut.result.now was _ is within c.replace-place.ensures.value c.index_mut.ensures.value
    c.in-Giving.is c.set_place.ensures.items in
    subst (λ o. Contains (hands_in o) handle) (sym placed.there)
    (sent_from proc.table c.in-Some.message proc.scratch c.in-Some.ensures.given handle (subst (λ letter. Contains (streams_by letter) handle) c.of_letter.ensures.letter has))

pub returns-clause-few : goal.returns-clause-few
returns-clause-few g c =
    let old = c.args.self.now in
    let proc = c.in-Giving.proc in
    let was = PlaceIs.Giving proc c.in-Giving.field-1 in
    let is = PlaceIs.Home (record proc { engine = c.answer.new.self; scratch = c.let_go.new.self }) in
    let within = is_within (λ o. MayBeTold g.E.Engine.phase g.E.Engine.memory (slot_in o) (number_reply 0)) old.places.items c.args.pid c.requires.giving (λ none. none) in
    let placed = is_set old.places.items c.set_place.new.places.items c.args.pid c.replace-place.result c.index_mut.result.now was _ is within c.replace-place.ensures.value c.index_mut.ensures.value
    c.in-Giving.is c.set_place.ensures.items in
    let few = sent_few proc.table c.in-Some.message proc.scratch c.let_go.new.self c.let_go.ensures.left c.in-Some.ensures.given in
    let item = ap (λ letter. length (streams_by letter)) c.of_letter.ensures.letter in
    let sums = sum_set placed (λ place. length (hands_at place)) in
    omega (arith, few, item, sums)

pub returns-clause-streams : goal.returns-clause-streams
returns-clause-streams g c =
    let old = c.args.self.now in
    let new = record old { places = c.set_place.new.places; sends = old.sends + 1 } in
    let proc = c.in-Giving.proc in
    let was = PlaceIs.Giving proc c.in-Giving.field-1 in
    let is = PlaceIs.Home (record proc { engine = c.answer.new.self; scratch = c.let_go.new.self }) in
    let within = is_within (λ o. MayBeTold g.E.Engine.phase g.E.Engine.memory (slot_in o) (number_reply 0)) old.places.items c.args.pid c.requires.giving (λ none. none) in
    let placed = is_set old.places.items c.set_place.new.places.items c.args.pid c.replace-place.result c.index_mut.result.now was _ is within c.replace-place.ensures.value c.index_mut.ensures.value
    c.in-Giving.is c.set_place.ensures.items in
    passes_moved _ old new c.args.pid was is placed (λ handle has. sent_kept proc.table c.in-Some.message proc.scratch c.let_go.new.self c.let_go.ensures.left handle has) refl refl

pub answer-requires : goal.answer-requires
answer-requires g c =
    let old = c.args.self.now in
    let was = PlaceIs.Giving c.in-Giving.proc c.in-Giving.field-1 in
    let within = is_within (λ o. MayBeTold g.E.Engine.phase g.E.Engine.memory (slot_in o) (number_reply 0)) old.places.items c.args.pid c.requires.giving (λ none. none) in
    let there = slice_get_read old.places.items (length old.places.items) c.args.pid was refl within
    (read_through old.places.items c.args.pid c.replace-place.result c.index_mut.result.now was c.replace-place.ensures.value c.index_mut.ensures.value c.in-Giving.is) in
    rw c.number_reply.ensures (may_be_told g.E.Engine.phase g.E.Engine.memory (place_at old c.args.pid) (number_reply 0) (seat_of c.in-Giving.proc) c.in-Giving.field-1 (ap slot_in there) c.requires.giving)

pub set_place-requires-clause-vacant : goal.set_place-requires-clause-vacant
set_place-requires-clause-vacant g c κs inside =
    let old = c.args.self.now in
    let within = is_within (λ o. MayBeTold g.E.Engine.phase g.E.Engine.memory (slot_in o) (number_reply 0)) old.places.items c.args.pid c.requires.giving (λ none. none) in
    subst (λ o. IfSome o IsVacant) (sym (get_set_same old.places.items c.args.pid c.replace-place.new.dest within ∙ ap Some c.replace-place.ensures.after)) tt
