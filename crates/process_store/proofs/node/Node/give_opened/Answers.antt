use Rattle.std.proofs.Common.{◌≡◌, ◌≤◌, ◌<◌, ◌∷◌, [], ℕ, ◌+◌, ◌-◌, ◌++◌, map, length, Some, None, Err, refl, arith, ◌∙◌, sym, ap, subst, append-nil, inl}
use Rattle.std.proofs.lemmas.List.{length-map}
use Rattle.std.specs.Arc.{arc_value}
use Rattle.resource_table.specs.Steps.{told}
use Rattle.resource_table.specs.Handles.{numbers_of, with_handle}
use Rattle.world_rules.specs.declared.entry.Side.TheVariants.{Opened}
use Rattle.world_rules.specs.Answers.{written_reply}
use Rattle.world_rules.specs.Told.{told as told_world}
use Rattle.node_state.specs.Fits.{entry_of, give_of}
use Rattle.node_state.specs.Posts.{id_of}
use Rattle.node_state.specs.Streaming.{arrived_as}
use Rattle.host_calls.specs.Shown.{brought_by, hands_of, seat_of, streams_by}
use Rattle.process_store.specs.Holds.{held_of, kept_of}
use Rattle.process_store.proofs.NodeStanding.{given_back, records_one}
use Rattle.process_store.proofs.GivingBack.{give_place, home_keeps, is_away_slot, row_broken, streams_few}
use Rattle.process_store.proofs.GivingOutside.{cast_small, opened_answerable, outside_birth, table_new}
use Rattle.process_store.proofs.GivingOpened.{opened_mirrors, opened_more, opened_passes}
use Rattle.process_store.proofs.Streamings.{fits_crowded}
use Rattle.process_store.proofs.node.Node.give_opened.Goals as goal

pub unreachable-requires : goal.unreachable-requires
unreachable-requires g c =
    let brought = brought_by c.args.proc c.args.calls c.args.halt Opened in
    let opened = c.outside_replies_fit.ensures.opened _ _ _ c.args.worker c.args.proc.start.pid brought
    (fits_crowded _ _ c.self.inside.journal c.args.worker c.args.proc.start.pid brought c.self.invariant.stands.run (rw (← c.self.view_is) at c.requires.comes.fits)) refl in
    let owed = opened.1 in
    let none = c.in_default.is in
    let e = sym none ∙ owed in
    cc

pub overflow_cast-id_of : goal.overflow_cast-id_of
overflow_cast-id_of g c =
    let brought = brought_by c.args.proc c.args.calls c.args.halt Opened in
    let opened = c.outside_replies_fit.ensures.opened _ _ _ c.args.worker c.args.proc.start.pid brought
    (fits_crowded _ _ c.self.inside.journal c.args.worker c.args.proc.start.pid brought c.self.invariant.stands.run (rw (← c.self.view_is) at c.requires.comes.fits)) refl in
    let small = cast_small c.args.proc.owed opened.0 c.in-Some.ask c.id_of.result c.pages-pages.result _ opened.1 c.in-Some.is opened.2 c.id_of.ensures c.pages-pages.ensures.whole c.pages-pages.ensures.few in
    omega (arith, small)

pub answer-requires : goal.answer-requires
answer-requires g c =
    let brought = brought_by c.args.proc c.args.calls c.args.halt Opened in
    let opened = c.outside_replies_fit.ensures.opened _ _ _ c.args.worker c.args.proc.start.pid brought
    (fits_crowded _ _ c.self.inside.journal c.args.worker c.args.proc.start.pid brought c.self.invariant.stands.run (rw (← c.self.view_is) at c.requires.comes.fits)) refl in
    let room = c.self.invariant.keeps.closed_room in
    let small = c.self.inside.store.closed.small in
    let number = c.streams-number.ensures in
    opened_answerable _ _ c.args.proc.owed opened.0 c.in-Some.ask c.streams-number.result c.written_reply.result opened.1 c.in-Some.is opened.3 (omega (arith, room, small, number))
    (c.written_reply.ensures ∙ ap (λ (n : ℕ). written_reply 0 n c.streams-number.result) c.id_of.ensures)

pub put-requires-clause-new : goal.put-requires-clause-new
put-requires-clause-new g c κs within = λ has.
    table_new _ _ _ c.streams-number.result (c.self.invariant.stands.mirrors.streams ∙ sym c.streams-number.ensures)
    (c.streams_stand_once.ensures.undrawn _ c.self.inside.journal _ c.args.worker c.args.proc.start.pid (brought_by c.args.proc c.args.calls c.args.halt Opened) c.self.invariant.stands
    (rw (← c.self.view_is) at c.requires.comes.fits)) (rw c.of.ensures at has)

pub unreachable-requires-in-Err : goal.unreachable-requires-in-Err
unreachable-requires-in-Err g c =
    let place = c.streams_stand_once.ensures.place _ c.self.inside.journal _ c.args.worker c.args.proc.start.pid (brought_by c.args.proc c.args.calls c.args.halt Opened) c.self.invariant.stands
    (rw (← c.self.view_is) at c.requires.comes.fits) refl in
    let count = length-map c.args.proc.table (λ h. h.number) in
    let full = c.put.ensures.full.0 (c.in-Err.is ∙ ap (λ h. Err h) c.in-Err.ensures.back) in
    omega (arith, place, count, full)

pub add-requires : goal.add-requires
add-requires g c = give_place c.self.inside.journal c.self.inside.store c.self.inside.spare c.args.proc.start.pid c.args.worker c.self.invariant (rw (← c.self.view_is) at c.requires.out)

pub bring_home-requires-clause-away : goal.bring_home-requires-clause-away
bring_home-requires-clause-away g c κs within =
    (c.args.worker, is_away_slot c.self.inside.journal c.self.inside.store c.self.inside.spare c.args.proc.start.pid c.args.worker c.self.invariant (rw (← c.self.view_is) at c.requires.out))

pub bring_home-requires-clause-few : goal.bring_home-requires-clause-few
bring_home-requires-clause-few g c κs within =
    let few = streams_few c.streams_are_few.ensures.given c.self.inside.journal c.self.inside.store c.self.inside.spare c.args.worker c.args.proc
    (brought_by c.args.proc c.args.calls c.args.halt Opened) c.self.invariant (rw (← c.self.view_is) at c.requires.comes.fits) refl refl in
    let more = opened_more c.args.proc (record c.args.proc { engine = c.answer.new.self; owed = None; table = c.put.new.self }) (record { number = c.streams-number.result; stream = c.args.stream })
    (rw c.of.ensures at c.in-Ok.ensures.ok) refl in
    omega (arith, few, more)

pub invariant_of-self : goal.invariant_of-self
invariant_of-self g c =
    let i = c.self.inside in
    let pid = c.args.proc.start.pid in
    let brought = brought_by c.args.proc c.args.calls c.args.halt Opened in
    let proc = record c.args.proc { engine = c.answer.new.self; owed = None; table = c.put.new.self } in
    let out = rw (← c.self.view_is) at c.requires.out in
    let fits = rw (← c.self.view_is) at c.requires.comes.fits in
    let old = i.journal in
    let new = c.add.new.self in
    let number = c.streams-number.ensures in
    let table = rw c.of.ensures at c.in-Ok.ensures.ok in
    let told_is : c.written_reply.result ≡ written_reply 0 (id_of c.in-Some.ask) i.store.streams =
    c.written_reply.ensures ∙ ap (λ (n : ℕ). written_reply 0 n c.streams-number.result) c.id_of.ensures ∙ ap (λ (n : ℕ). written_reply 0 (id_of c.in-Some.ask) n) number in
    home_keeps g.E.Engine.begin g.E.Engine.at (map arc_value i.programs.items) old new i.live i.idle i.store c.bring_home.new.self c.set_row.new.self c.requeue.new.self i.spare 0
    (seat_of proc) 1 (hands_of c.args.proc ++ arrived_as (told_world old).streams (Some c.args.stream)) c.args.proc.shed c.args.worker pid brought (streams_by c.args.proc (Some c.args.stream))
    c.a_give_is_allowed.ensures.brought c.an_entry_stands.ensures c.streams_pass_on.ensures.given c.self.invariant out fits (rw (← c.self.view_is) at c.requires.comes.came)
    (outside_birth old c.args.worker pid brought refl c.self.invariant.stands.run fits) c.add.ensures
    (record {
      becomes = c.bring_home.ensures.held;
      passes = opened_passes _ (kept_of i.store) (kept_of c.bring_home.new.self) c.args.proc proc (record { number = c.streams-number.result; stream = c.args.stream })
          (record { number = (told_world old).streams; stream = c.args.stream }) table
          (ap (λ (n : ℕ). record { number = n; stream = c.args.stream }) (c.self.invariant.stands.mirrors.streams ∙ sym number)) refl c.bring_home.ensures.streams;
      rooms = c.bring_home.ensures.rooms;
      rows = c.set_row.ensures.row;
      settles = c.requeue.ensures.held;
      kept = c.requeue.ensures.kept;
      keeps = c.requeue.ensures.keeps;
      came = c.requeue.ensures.came;
      giver = c.requeue.ensures.giver;
      capacity = c.requeue.ensures.rooms;
    })
    refl refl (omega arith) c.bring_home.ensures.queue c.bring_home.ensures.giver c.requeue.ensures.ready
    (sym (row_broken (told_world old) (give_of c.args.worker pid brought) c.args.worker out refl))
    (opened_mirrors _ _ _ (held_of i.store) old.ends c.args.proc proc c.answer.new.self c.args.stream
    (subst (λ (n : ℕ). c.put.new.self ≡ with_handle (record { number = n; stream = c.args.stream }) c.args.proc.table) number table) refl
    (c.an_opening_mirrors.ensures _ old (held_of i.store) new.births pid c.args.worker brought c.in-Some.ask c.answer.new.self c.self.invariant.stands
    (is_away_slot old i.store i.spare pid c.args.worker c.self.invariant out) refl c.in-Some.is fits
    (record { running = c.answer.ensures.phase; stands = rw told_is at c.answer.ensures.stands })))

pub returns : goal.returns
returns g c =
    let i = c.self.inside in
    rw (← c.self.view_is) (given_back g.E.Engine.begin g.E.Engine.at (map arc_value i.programs.items) i.journal c.add.new.self i.live i.idle i.store c.requeue.new.self i.spare c.args.worker
    c.args.proc.start.pid (brought_by c.args.proc c.args.calls c.args.halt Opened) Opened [] (invariant_of-self g c) ∣ inl refl ∣₁
    (records_one i.journal c.add.new.self (entry_of c.args.worker c.args.proc.start.pid (brought_by c.args.proc c.args.calls c.args.halt Opened) Opened) c.add.ensures))
