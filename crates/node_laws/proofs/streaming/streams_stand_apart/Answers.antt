use Rattle.world_rules.specs.Told.{told}
use Rattle.node_laws.proofs.Programs.{run-told}
use Rattle.node_laws.proofs.Apart.{hands-once, closed-room, brought-room, brought-once, brought-undrawn, brought-place}
use Rattle.node_laws.proofs.streaming.streams_stand_apart.Goals as goal

pub returns-clause-once : goal.returns-clause-once
returns-clause-once g c = λ setting book held pid stands.
    let is = run-told setting book stands.run in
    hands-once (told book) (c.sound.ensures.all_told book is) (c.placed.ensures.all_told book is) pid

pub returns-clause-room : goal.returns-clause-room
returns-clause-room g c = λ setting book held pid stands.
    let is = run-told setting book stands.run in
    closed-room (told book) (c.sound.ensures.all_told book is) (c.placed.ensures.all_told book is) pid

pub returns-clause-room_given : goal.returns-clause-room_given
returns-clause-room_given g c = λ setting book held worker pid brought stands fits.
    let is = run-told setting book stands.run in
    brought-room _ setting book.births (told book) worker pid brought (c.sound.ensures.all_told book is) (c.placed.ensures.all_told book is) fits

pub returns-clause-once_given : goal.returns-clause-once_given
returns-clause-once_given g c = λ setting book held worker pid brought stands fits.
    let is = run-told setting book stands.run in
    brought-once _ setting book.births (told book) worker pid brought (c.sound.ensures.all_told book is) (c.placed.ensures.all_told book is) fits

pub returns-clause-undrawn : goal.returns-clause-undrawn
returns-clause-undrawn g c = λ setting book held worker pid brought stands fits.
    let is = run-told setting book stands.run in
    brought-undrawn _ setting book.births (told book) worker pid brought (c.sound.ensures.all_told book is) (c.placed.ensures.all_told book is) fits

pub returns-clause-place : goal.returns-clause-place
returns-clause-place g c = λ setting book held worker pid brought stands fits is.
    brought-place _ setting book.births (told book) worker pid brought fits is
