use Rattle.std.proofs.Common.{refl, arith, sym, ◌∙◌, ap, map, List, length, subst, ◌++◌, Contains, ◌≡◌, []}
use Rattle.std.proofs.lemmas.Grind.{common_steps}
use Rattle.std.specs.List.{flat_map}
use Rattle.message_scratch.specs.Messages.{handles_in, slots_of}
use Rattle.process_table.specs.Letters.{Letter}
use Rattle.process_table.specs.Holds.{letter_of}
use Rattle.process_table.proofs.Mailboxes.{takes-wanted, finds-none, left-whole, picked-streams, scratch-few}
use Rattle.process_table.proofs.mailbox.take_wanted.Goals as goal

pub returns-then-ms-eq0-clause-receives : goal.returns-then-ms-eq0-clause-receives
returns-then-ms-eq0-clause-receives g c = λ part. (
  finds-none c.args.tags.now c.args.mail.now c.requires.whole c.in_default.ensures.picked,
  grind (arith, common_steps),
  record
      { mail_stays = ap (map letter_of) (c.pick.ensures.left ∙ left-whole c.args.tags.now c.args.mail.now.items c.in_default.ensures.picked); part_stays = refl },
)

pub returns-then-ms-eq0-clause-streams : goal.returns-then-ms-eq0-clause-streams
returns-then-ms-eq0-clause-streams g c =
    (ap (flat_map (λ letter. handles_in letter.message.slots)) (c.pick.ensures.left ∙ left-whole c.args.tags.now c.args.mail.now.items c.in_default.ensures.picked), refl, refl)

pub returns-else-ms-eq0-clause-receives : goal.returns-else-ms-eq0-clause-receives
returns-else-ms-eq0-clause-receives g c = λ part. (
  finds-none c.args.tags.now c.args.mail.now c.requires.whole c.in_default.ensures.picked,
  grind (arith, common_steps),
  record
      { mail_stays = ap (map letter_of) (c.pick.ensures.left ∙ left-whole c.args.tags.now c.args.mail.now.items c.in_default.ensures.picked); part_stays = refl },
)

pub returns-else-ms-eq0-clause-streams : goal.returns-else-ms-eq0-clause-streams
returns-else-ms-eq0-clause-streams g c =
    (ap (flat_map (λ letter. handles_in letter.message.slots)) (c.pick.ensures.left ∙ left-whole c.args.tags.now c.args.mail.now.items c.in_default.ensures.picked), refl, refl)

pub hold-requires-clause-room : goal.hold-requires-clause-room
hold-requires-clause-room g c =
    let few = scratch-few c.args.scratch.now c.size-size.ensures.bounds in
    let empty = ap length c.requires.empty in
    omega (arith, few, empty)

pub returns-clause-receives : goal.returns-clause-receives
returns-clause-receives g c = λ part.
    takes-wanted part c.args.tags.now c.args.mail.now c.pick.new.self c.args.scratch.now c.hold.new.self c.in-Some.letter c.requires.whole c.in-Some.ensures.picked c.pick.ensures.left
    (rw c.into_message.ensures at c.hold.ensures.scratch)

pub returns-clause-streams : goal.returns-clause-streams
returns-clause-streams g c = (
  λ h has. picked-streams c.args.tags.now c.args.mail.now.items c.in-Some.letter c.in-Some.ensures.picked h
      (rw (c.hold.ensures.scratch, c.pick.ensures.left, c.into_message.ensures) at has),
  c.hold.ensures.shed,
)
