use Rattle.std.proofs.Common.{◌≡◌, ◌≤◌, ◌+◌, ◌∙◌, refl, arith, sym, append-nil, length, []}
use Rattle.node_state.specs.Seats.{meaning}
use Rattle.process_store.specs.Holds.{kept_of, place_at}
use Rattle.process_store.proofs.Passing.{passes_stay, passes_then_stays}
use Rattle.process_store.proofs.StrikingAll.{counts_struck, ends_more, stays_more, stays_same, strikes_begin, strikes_end, strikes_go_on}
use Rattle.process_store.proofs.store.Store.strike_all.Goals as goal

pub loop-pid-init : goal.loop-pid-init
loop-pid-init g c =
    let old = c.args.self.now in
    record {
      some = omega arith;
      most = c.requires.keeps.some;
      keeps = c.requires.keeps;
      room = c.requires.room;
      struck_are = strikes_begin (meaning g.E.Engine.stands g.E.Engine.phase g.E.Engine.memory) old c.args.journal.now c.args.end;
      stays = stays_same c.args.journal.now;
      numbers = refl;
      giver = refl;
      came = refl;
      links = refl;
      ready = refl;
      out = refl;
      drawn = refl;
      births = refl;
      ends = ([], sym (append-nil c.args.journal.now.ends));
      rooms = refl;
      streams = passes_stay _ old old refl refl refl;
    }

pub strike-requires-clause-keeps : goal.strike-requires-clause-keeps
strike-requires-clause-keeps g c κs within = c.loop-pid.invariant.keeps

pub strike-requires-clause-room : goal.strike-requires-clause-room
strike-requires-clause-room g c κs within = c.loop-pid.invariant.room

pub loop-pid-preserved : goal.loop-pid-preserved
loop-pid-preserved g c =
    let old = c.args.self.now in
    let i = c.loop-pid.invariant in
    let e = c.strike.ensures in
    record {
      some = let a = i.some in omega (arith, a);
      most = let test = c.loop-pid-test.true in let count = c.len-count.ensures in let l = old.places.ok.0 in omega (arith, test, count, l);
      keeps = e.keeps;
      room = e.room;
      struck_are = strikes_go_on (meaning g.E.Engine.stands g.E.Engine.phase g.E.Engine.memory) old c.loop-pid.self c.strike.new.self c.args.journal.now c.loop-pid.journal
          c.strike.new.journal c.args.end c.loop-pid.pid i.some i.struck_are e.held e.last;
      stays = stays_more (meaning g.E.Engine.stands g.E.Engine.phase g.E.Engine.memory) c.args.journal.now c.loop-pid.journal c.strike.new.journal c.loop-pid.pid (place_at c.loop-pid.self
          c.loop-pid.pid) i.stays e.last;
      numbers = e.numbers ∙ i.numbers;
      giver = e.giver ∙ i.giver;
      came = e.came ∙ i.came;
      links = e.links ∙ i.links;
      ready = e.ready ∙ i.ready;
      out = (counts_struck c.loop-pid.self c.strike.new.self c.loop-pid.pid c.args.end e.held).out ∙ i.out;
      drawn = (counts_struck c.loop-pid.self c.strike.new.self c.loop-pid.pid c.args.end e.held).drawn ∙ i.drawn;
      births = (counts_struck c.loop-pid.self c.strike.new.self c.loop-pid.pid c.args.end e.held).births ∙ i.births;
      ends = ends_more c.args.journal.now.ends (meaning g.E.Engine.stands g.E.Engine.phase g.E.Engine.memory) c.loop-pid.journal c.strike.new.journal c.loop-pid.pid
          (place_at c.loop-pid.self c.loop-pid.pid) i.ends e.last;
      rooms = e.rooms ∙ i.rooms;
      streams = passes_then_stays _ (kept_of old) (kept_of c.loop-pid.self) (kept_of c.strike.new.self) [] [] i.streams e.streams;
    }

pub returns-clause-mirrors : goal.returns-clause-mirrors
returns-clause-mirrors g c =
    let old = c.args.self.now in
    let i = c.loop-pid.invariant in
    let whole : length old.places.items ≡ c.loop-pid.pid =
    let test = c.loop-pid-test.false in let count = c.len-count.ensures in let l = old.places.ok.0 in let most = i.most in omega (arith, test, count, l, most) in
    strikes_end (meaning g.E.Engine.stands g.E.Engine.phase g.E.Engine.memory) old c.loop-pid.self c.args.journal.now c.loop-pid.journal c.args.end c.loop-pid.pid i.struck_are i.some whole

pub returns-clause-keeps : goal.returns-clause-keeps
returns-clause-keeps g c = c.loop-pid.invariant.keeps

pub returns-clause-journal : goal.returns-clause-journal
returns-clause-journal g c = c.loop-pid.invariant.stays

pub returns-clause-room : goal.returns-clause-room
returns-clause-room g c = c.loop-pid.invariant.room

pub returns-clause-numbers : goal.returns-clause-numbers
returns-clause-numbers g c = c.loop-pid.invariant.numbers

pub returns-clause-giver : goal.returns-clause-giver
returns-clause-giver g c = c.loop-pid.invariant.giver

pub returns-clause-came : goal.returns-clause-came
returns-clause-came g c = c.loop-pid.invariant.came

pub returns-clause-links : goal.returns-clause-links
returns-clause-links g c = c.loop-pid.invariant.links

pub returns-clause-ready : goal.returns-clause-ready
returns-clause-ready g c = c.loop-pid.invariant.ready

pub returns-clause-rooms : goal.returns-clause-rooms
returns-clause-rooms g c = c.loop-pid.invariant.rooms

pub returns-clause-streams : goal.returns-clause-streams
returns-clause-streams g c = c.loop-pid.invariant.streams

pub returns-clause-out : goal.returns-clause-out
returns-clause-out g c = c.loop-pid.invariant.out

pub returns-clause-drawn : goal.returns-clause-drawn
returns-clause-drawn g c = c.loop-pid.invariant.drawn

pub returns-clause-births : goal.returns-clause-births
returns-clause-births g c = c.loop-pid.invariant.births

pub returns-clause-ends : goal.returns-clause-ends
returns-clause-ends g c = c.loop-pid.invariant.ends
