use Rattle.std.proofs.Common.{◌≡◌, List, [], ◌∷◌, ◌++◌, ◌∙◌, ap, refl, rules, arith}
use Rattle.host_port.specs.declared.call.Call.{Call}
use Rattle.resource_table.specs.Handles.{numbers_of}
use Rattle.resource_table.specs.Steps.{told}
use Rattle.world_rules.specs.Local.{local}
use Rattle.host_calls.specs.Shown.{seat_of, shown_part}
use Rattle.node_state.specs.Seats.{meaning}
use Rattle.host_calls.proofs.Keeping.{keeps_fields, keeps_both, keeps_call}
use Rattle.host_calls.proofs.Meets.{EngineLaws, IsMet, meets_no_memory, meets_answer}
use Rattle.host_calls.proofs.ReplyForms.{IsAnsweredLocal, local_answerable}
use Rattle.host_calls.proofs.whole_turn.answer.Goals as goal

pub returns-in_default-clause-goes : goal.returns-in_default-clause-goes
returns-in_default-clause-goes g c =
    let engines = meaning g.E.Engine.stands g.E.Engine.phase g.E.Engine.memory in
    let laws = g.met.E.Engine g.world.𝓛 g.world.𝓜 g.world.𝓡 ((λ s x. x), (λ x. x), (λ x. x), λ x. x) in
    let used : EngineLaws engines g.E.Engine.at g.E.Engine.may_ask = record { shows = laws.shows_memory; owes = laws.owes_its_ask; keeps = laws.keeps_to_fuel; asks = laws.asks_what_it_may } in
    let seat = seat_of c.args.proc.now in
    let asked : IsMet engines seat c.args.request = record { owed = c.requires.way.phase; bytes = c.requires.bytes } in
    rw (c.reserve.ensures.items)
    (meets_no_memory engines g.E.Engine.at g.E.Engine.may_ask used seat (numbers_of c.args.proc.now.shed) c.args.calls.now.items c.args.request asked)

pub returns-in_default-perform-clause-goes : goal.returns-in_default-perform-clause-goes
returns-in_default-perform-clause-goes g c =
    let engines = meaning g.E.Engine.stands g.E.Engine.phase g.E.Engine.memory in
    let laws = g.met.E.Engine g.world.𝓛 g.world.𝓜 g.world.𝓡 ((λ s x. x), (λ x. x), (λ x. x), λ x. x) in
    let used : EngineLaws engines g.E.Engine.at g.E.Engine.may_ask = record { shows = laws.shows_memory; owes = laws.owes_its_ask; keeps = laws.keeps_to_fuel; asks = laws.asks_what_it_may } in
    let seat = seat_of c.args.proc.now in
    let asked : IsMet engines seat c.args.request = record { owed = c.requires.way.phase; bytes = c.requires.bytes } in
    let kept = rw c.in_default-perform.is at c.perform.ensures.err in
    rw (kept, c.reserve.ensures.items)
    (meets_no_memory engines g.E.Engine.at g.E.Engine.may_ask used seat (numbers_of c.args.proc.now.shed) c.args.calls.now.items c.args.request asked)

pub answer-requires : goal.answer-requires
answer-requires g c =
    let proc = c.args.proc.now in
    let given : local proc.start (shown_part proc) c.args.request ≡ _ = rw c.in-Ok-perform.is at c.perform.ensures.reply in
    let pushed = c.as_slice.ensures.value ∙ c.push_reserved.ensures.items in
    let replied : c.last_reply.result.now ≡ c.in-Ok-perform.reply =
    c.last_reply.ensures c.reserve.new.self.items (record { request = c.args.request; reply = c.in-Ok-perform.reply }) pushed in
    let whole = c.pages-pages.ensures.whole in
    let few = c.pages-pages.ensures.few in
    let memory = g.E.Engine.memory proc.engine in
    let is : IsAnsweredLocal memory proc.start (shown_part proc) c.args.request c.in-Ok-perform.reply (shown_part c.perform.new.proc) = record {
      bytes = c.requires.bytes;
      small = omega arith;
      fit = c.requires.fit;
      answered = given;
      result = search rules;
      octets = c.written-written.ensures;
    } in
    rw (c.perform.ensures.engine, replied)
    (local_answerable memory proc.start (shown_part proc) c.args.request c.in-Ok-perform.reply (shown_part c.perform.new.proc) is (g.E.Engine.phase proc.engine) c.requires.way.phase
    c.requires.local)

pub returns-clause-goes : goal.returns-clause-goes
returns-clause-goes g c =
    let engines = meaning g.E.Engine.stands g.E.Engine.phase g.E.Engine.memory in
    let laws = g.met.E.Engine g.world.𝓛 g.world.𝓜 g.world.𝓡 ((λ s x. x), (λ x. x), (λ x. x), λ x. x) in
    let used : EngineLaws engines g.E.Engine.at g.E.Engine.may_ask = record { shows = laws.shows_memory; owes = laws.owes_its_ask; keeps = laws.keeps_to_fuel; asks = laws.asks_what_it_may } in
    let proc = c.args.proc.now in
    let seat = seat_of proc in
    let call : Call = record { request = c.args.request; reply = c.in-Ok-perform.reply } in
    let asked : IsMet engines seat c.args.request = record { owed = c.requires.way.phase; bytes = c.requires.bytes } in
    let given = rw c.in-Ok-perform.is at c.perform.ensures.reply in
    let closed = rw c.in-Ok-perform.is at c.perform.ensures.closed in
    let items : c.push_reserved.new.self.items ≡ c.args.calls.now.items ++ call ∷ [] = c.push_reserved.ensures.items ∙ ap (λ (cs : List Call). cs ++ call ∷ []) c.reserve.ensures.items in
    let replied : c.last_reply.result.now ≡ c.in-Ok-perform.reply =
    c.last_reply.ensures c.reserve.new.self.items call (c.as_slice.ensures.value ∙ c.push_reserved.ensures.items) in
    rw (items, c.perform.ensures.start, c.perform.ensures.fuel, c.perform.ensures.owed)
    (meets_answer engines g.E.Engine.at g.E.Engine.may_ask used seat (numbers_of proc.shed) c.args.calls.now.items c.args.request asked
    c.answer.new.self (shown_part c.perform.new.proc) (numbers_of c.perform.new.proc.shed) c.in-Ok-perform.reply c.requires.way given closed c.answer.ensures.phase
    (λ program start calls fuel there. rw (← c.perform.ensures.engine, ← replied)
    (c.answer.ensures.stands program start calls fuel c.args.request.ask (rw c.perform.ensures.engine c.requires.way.phase) (rw c.perform.ensures.engine there))))

pub returns-clause-streams : goal.returns-clause-streams
returns-clause-streams g c =
    let proc = c.args.proc.now in
    let mid = c.perform.new.proc in
    let given = rw c.in-Ok-perform.is at c.perform.ensures.reply in
    let closed = rw c.in-Ok-perform.is at c.perform.ensures.closed in
    keeps_both (told g.O.Stream.Stream.taken g.O.Stream.Stream.put g.O.Stream.Stream.faults g.O.Stream.Stream.waits g.O.Stream.Stream.empties g.O.Stream.Stream.down) proc mid (record mid {
      engine = c.answer.new.self;
    })
    (keeps_call (told g.O.Stream.Stream.taken g.O.Stream.Stream.put g.O.Stream.Stream.faults g.O.Stream.Stream.waits g.O.Stream.Stream.empties g.O.Stream.Stream.down) proc mid c.args.request
    c.in-Ok-perform.reply c.perform.ensures.order c.perform.ensures.handed given closed)
    (keeps_fields (told g.O.Stream.Stream.taken g.O.Stream.Stream.put g.O.Stream.Stream.faults g.O.Stream.Stream.waits g.O.Stream.Stream.empties g.O.Stream.Stream.down) mid (record mid {
      engine
          = c.answer.new.self;
    }) c.perform.ensures.order refl refl refl)
