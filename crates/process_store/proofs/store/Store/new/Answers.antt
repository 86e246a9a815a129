use Rattle.std.proofs.Common.{◌≤◌, refl, arith, vec_capacity}
use Rattle.process_store.proofs.Beginning.{store_begins}
use Rattle.process_store.proofs.store.Store.new.Goals as goal

pub returns : goal.returns
returns g c =
    let h = c.in_ok-places.ensures in
    let wide = c.in-Ok.ensures.capacity in
    let came_room : 2 ≤ vec_capacity c.in-Ok.came = omega (arith, wide) in
    record {
      begins = store_begins _ h.proc (record {
        places = h.places;
        mail = h.mail;
        ready = c.in_ok-queue.ensures.ready;
        deadlines = c.in_ok-queue.ensures.deadlines;
        room = c.in_ok-queue.ensures.room;
        came = c.in-Ok.ensures.items;
        came_room = came_room;
        giver = refl;
        names = c.new.ensures;
        minded = c.in_ok-links.ensures.processes;
        tags = c.in_ok-links.ensures.tags;
        signals = c.in_ok-links.ensures.signals;
        births = refl;
        unended = refl;
        out = refl;
        sends = refl;
        time = refl;
        row = refl;
        over = refl;
        streams = refl;
        closed = c.new-2.ensures.items;
        shed = h.shed;
      }) c.args.engine c.args.start h.engine_is h.start_is h.has;
    }
