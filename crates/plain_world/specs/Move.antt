use Rattle.plain_world.specs.declared.moves.PlainMove.{PlainMove}
use Rattle.plain_world.specs.declared.moves.PlainMove.TheVariants as Plain
use Rattle.world_rules.specs.Moves.{Move, Opened, Pushed, Taken, Sent, Received, Shut, ShutScratch, ShutMail, ShutAll}

-- what moved handles
abbrev pub shown_move : PlainMove → Move
shown_move (Plain.Opened handle pid) = Opened handle pid
shown_move (Plain.Pushed handle pid slot) = Pushed handle pid slot
shown_move (Plain.Taken pid slot) = Taken pid slot
shown_move (Plain.Sent from to message) = Sent from to message
shown_move (Plain.Received pid message) = Received pid message
shown_move (Plain.Shut handle) = Shut handle
shown_move (Plain.ShutScratch pid) = ShutScratch pid
shown_move (Plain.ShutMail pid) = ShutMail pid
shown_move (Plain.ShutAll pid) = ShutAll pid
