use Rattle.std.proofs.Common.{refl, ap, sym, ◌∙◌, arith, ◌<◌, length, Option}
use Rattle.std.specs.Option.{option_map_or}
use Rattle.std.proofs.lemmas.Option.{slice_get_read}
use Rattle.std.proofs.lemmas.Result.{on_ok_weaker}
use Rattle.world_rules.specs.Streams.{Streamed, nothing_streamed, after_side}
use Rattle.plain_part.specs.Shown.{shown_call}
use Rattle.plain_world.proofs.Streaming.{streamed-changed}
use Rattle.plain_world.proofs.streams.stream_on.Goals as goal

pub returns : goal.returns
returns c =
    let within : c.args.handle < length c.fill.new.streamed.items = omega (arith, c.in-Some.ensures, c.in_ok-fill.ensures.long) in
    let change = after_side (shown_call c.args.call) c.args.request.now c.args.side.now in
    let there = slice_get_read c.fill.new.streamed.items (length c.fill.new.streamed.items) c.args.handle c.index_mut-on.result.now refl within c.index_mut-on.ensures.value in
    on_ok_weaker c.after_side.result (λ one.
    streamed-changed c.args.streamed.now.items c.fill.new.streamed.items _ c.args.handle change c.after_side.new.self within
    c.in_ok-fill.ensures.same refl (one ∙ ap change (sym (ap (λ (o : Option Streamed). option_map_or (λ (x : Streamed). x) o nothing_streamed) there)))) c.after_side.ensures
