use Rattle.std.proofs.Common.{sym, ◌∙◌, ap}
use Rattle.std.specs.Prelude.{option_map, slice_get}
use Rattle.std.proofs.lemmas.Option.{slice_get-map}
use Rattle.plain_part.specs.Shown.{shown_call}
use Rattle.plain_part.proofs.calls.call_numbered.Goals as goal

pub returns : goal.returns
returns c =
    ap (option_map shown_call) (c.at_place.ensures ∙ ap (slice_get c.calls.result.now) c.from.ensures)
    ∙ sym (slice_get-map shown_call c.calls.result.now c.args.number)
    ∙ ap (λ calls. slice_get calls c.args.number) c.calls.ensures
