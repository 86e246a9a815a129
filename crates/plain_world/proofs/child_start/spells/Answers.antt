use Rattle.std.proofs.Common.{List, sym, ◌∙◌, subst}
use Rattle.host_port.specs.TypedValue.{TypedValue}
use Rattle.spawn_config.specs.Spelling.{Spells}
use Rattle.spawn_config.proofs.Unique.{one_list}
use Rattle.plain_world.proofs.child_start.spells.Goals as goal

pub returns-in-Ok : goal.returns-in-Ok
returns-in-Ok c = (
  λ same. subst (λ (params : List TypedValue). Spells c.args.bytes.now params)
      (sym c.as_slice.ensures ∙ c.are_same_params.ensures.0 same) c.in-Ok.ensures.ok,
  λ spelled. c.are_same_params.ensures.1
      (c.as_slice.ensures ∙ one_list c.args.bytes.now c.in-Ok.spelled c.args.params.now c.in-Ok.ensures.ok spelled),
)
