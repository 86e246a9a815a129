use Rattle.std.proofs.Common.{refl, arith, sym, ◌∙◌, ap, map, List, ◌++◌}
use Rattle.std.proofs.lemmas.Grind.{common_steps}
use Rattle.message_scratch.specs.Messages.{handles_in, slots_of}
use Rattle.std.specs.List.{flat_map}
use Rattle.process_table.specs.Letters.{Letter}
use Rattle.process_table.specs.Holds.{letter_of}
use Rattle.process_table.proofs.Mailboxes.{letters-count, puts-behind, puts-streams}
use Rattle.process_table.proofs.mailbox.put_message.Goals as goal

pub returns-then-full-clause-posts : goal.returns-then-full-clause-posts
returns-then-full-clause-posts g c = λ part.
    let count = letters-count c.args.mail.now.items in
    (grind (arith, common_steps), grind (arith, common_steps, count), record { mail_stays = refl; part_stays = refl })

pub returns-then-number-eq18446744073709551615-clause-posts : goal.returns-then-number-eq18446744073709551615-clause-posts
returns-then-number-eq18446744073709551615-clause-posts g c = λ part.
    let count = letters-count c.args.mail.now.items in
    (grind (arith, common_steps), grind (arith, common_steps, count), record { mail_stays = refl; part_stays = refl })

pub returns-then-is_err-clause-posts : goal.returns-then-is_err-clause-posts
returns-then-is_err-clause-posts g c = λ part.
    let count = letters-count c.args.mail.now.items in
    (grind (arith, common_steps), grind (arith, common_steps, count), record { mail_stays = ap (λ xs. map letter_of xs) c.reserve.ensures.items; part_stays = refl })

pub returns-then-is_err-clause-streams : goal.returns-then-is_err-clause-streams
returns-then-is_err-clause-streams g c = ap (λ xs. flat_map (λ letter. handles_in letter.message.slots) xs ++ handles_in (slots_of c.args.scratch.now)) c.reserve.ensures.items

pub returns-clause-posts : goal.returns-clause-posts
returns-clause-posts g c = λ part.
    let count = letters-count c.args.mail.now.items in (
      grind (arith, common_steps),
      grind (arith, common_steps, count),
      puts-behind part c.args.mail.now c.put_reserved.new.self c.args.scratch.now c.let_go.new.self c.args.number c.in-Some-let_go.message c.in-Some-let_go.ensures.given
          (rw (c.reserve.ensures.items, c.of.ensures) at c.put_reserved.ensures.items) c.let_go.ensures.left,
    )

pub returns-clause-streams : goal.returns-clause-streams
returns-clause-streams g c =
    puts-streams c.args.mail.now c.put_reserved.new.self c.args.scratch.now c.let_go.new.self c.args.number c.in-Some-let_go.message c.in-Some-let_go.ensures.given
    (rw (c.reserve.ensures.items, c.of.ensures) at c.put_reserved.ensures.items) c.let_go.ensures.left
