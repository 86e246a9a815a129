use Rattle.std.proofs.Common.{ℕ, Bool, eqb, ◌||◌, drop, ap, sym, ◌∙◌}
use Rattle.std.specs.List.{list_any}
use Rattle.std.proofs.lemmas.List.{take_rest}
use Rattle.tagged_mailbox.specs.Pick.{is_named}
use Rattle.tagged_mailbox.proofs.Tags.{tags_in-long, other_tag}
use Rattle.tagged_mailbox.proofs.wanted.is_named.Goals as goal

pub loop-left-preserved : goal.loop-left-preserved
loop-left-preserved c =
    let long = tags_in-long c.loop-left.left.now c.in-len8-up.len_at_least in
    let other = other_tag c.from_le_bytes.result _ c.args.tag c.from_le_bytes.ensures c.if-from_le_bytes-tag.false in
    c.loop-left.invariant
    ∙ ap (list_any (λ (named : ℕ). eqb named c.args.tag)) long
    ∙ ap (λ (b : Bool). b || is_named (drop 8 c.loop-left.left.now) c.args.tag) other
    ∙ ap (λ s. is_named s c.args.tag) (sym (take_rest c.loop-left.left.now 8))
