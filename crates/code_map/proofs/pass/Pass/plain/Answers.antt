use Rattle.code_map.proofs.Stepping.{plain_steps}
use Rattle.code_map.proofs.pass.Pass.plain.Goals as goal

pub returns : goal.returns
returns c pool matches =
    plain_steps c.args.signatures.now pool matches c.args.instr c.branch-target.result c.args.self.now c.mark.new.self c.height_after-self.result c.requires.room c.requires.sort
    c.in_ok-mark.ensures c.branch-target.ensures
    c.height_after-self.ensures.after c.height_after-self.ensures.bound
