use Rattle.kept_world.proofs.WhatWorkersTake.{stays_taken}
use Rattle.kept_world.proofs.laws.brings.Goals as goal

pub returns : goal.returns
returns c = stays_taken c.sound.ensures.kept
