use Rattle.host_port.proofs.FormLaws.{has_form, has_parts, no_form}
use Rattle.host_port.proofs.form.has_form.Goals as goal

pub returns-in-Some : goal.returns-in-Some
returns-in-Some c = (
  λ yes. has_form c.args.ask.now c.args.reply.now c.in-Some.row.now c.in-Some.ensures (c.has_parts.ensures.0 yes),
  λ form. c.has_parts.ensures.1 (has_parts c.args.ask.now c.args.reply.now c.in-Some.row.now c.in-Some.ensures form),
)

pub returns-in-None : goal.returns-in-None
returns-in-None c = (λ yes. absurd (cc), λ form. absurd (no_form c.args.ask.now c.args.reply.now c.in-None.ensures form))
