use Rattle.std.proofs.Common.{◌≡◌, length}
use Rattle.body_reader.proofs.Pieces.{Gathers}
use Rattle.body_reader.proofs.part.read_items.Given as goal

abbrev pub invariant-loop : goal.invariant-loop
invariant-loop g l = record {
  gathers : Gathers g.T.Part.spells l.fn.cursor l.cursor l.items;
  counted : length l.items ≡ l.counter;
}
