use Rattle.std.proofs.Common.{refl, sym, arith}
use Rattle.flat_stepper.proofs.Running.{text_at, map_at}
use Rattle.flat_stepper.proofs.body.fetch.Goals as goal

pub returns : goal.returns
returns c = record {
  text = c.index-as_slice-at.result;
  text_is = text_at c.args.parts.now.bodies c.as_slice.result.now c.args.at.body c.index-as_slice-at.result c.as_slice.ensures c.requires.body c.index-as_slice-at.is;
  code_is = sym c.as_slice-3.ensures;
  mapped = record {
    found = c.index-as_slice-at-2.result;
    is = map_at c.args.map.now.bodies c.as_slice-2.result.now c.args.at.body c.index-as_slice-at-2.result c.as_slice-2.ensures (omega arith) c.index-as_slice-at-2.is;
    slots = sym c.as_slice-4.ensures;
    targets = sym c.as_slice-5.ensures;
    tables = sym c.as_slice-6.ensures;
  };
  base_is = refl;
  outer_is = refl;
}
