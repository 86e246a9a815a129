use Rattle.node_laws.proofs.Programs.{run-told}
use Rattle.process_store.proofs.StreamCounts.{streams_few}
use Rattle.process_store.proofs.streaming.streams_are_few.Goals as goal

pub returns : goal.returns
returns g c = record {
  given = λ setting book store worker pid brought hands shed stands owned fits in_hand closed_now.
      let is = run-told setting book stands.run in
      streams_few _ setting book store worker pid brought hands shed (c.sound.ensures.all_told book is) (c.placed.ensures.all_told book is) stands owned fits in_hand closed_now;
}
