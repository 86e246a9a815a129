use Rattle.wasm_form.proofs.Rematching.{short_globals, short_elements, short_segments, short_bodies}
use Rattle.wasm_form.proofs.matched.with_matches.Goals as goal

pub matched-requires : goal.matched-requires
matched-requires c = short_globals c.args.parts.globals c.requires.globals

pub matched-requires-2 : goal.matched-requires-2
matched-requires-2 c = short_elements c.args.parts.elements c.requires.elements

pub matched-requires-3 : goal.matched-requires-3
matched-requires-3 c = short_segments c.args.parts.segments c.requires.segments

pub matched-requires-4 : goal.matched-requires-4
matched-requires-4 c = short_bodies c.args.parts.bodies c.requires.bodies
