use Rattle.std.proofs.Common.{refl}
use Rattle.code_map.proofs.Stepping.{end_steps, end_nowhere}
use Rattle.code_map.proofs.pass.Pass.end.Goals as goal

pub returns-in_default : goal.returns-in_default
returns-in_default c s pool matches i q =
    end_nowhere s pool matches i c.args.self.now _ c.requires.room q c.in_ok-mark.ensures c.in_default.ensures.0 c.in_default.ensures.1 refl refl

pub returns : goal.returns
returns c s pool matches i q =
    end_steps s pool matches i c.in-Some.inside c.args.self.now _ c.requires.room q c.in_ok-mark.ensures c.in-Some.ensures refl c.height_after-self.ensures
