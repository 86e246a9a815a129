use Rattle.std.proofs.Common.{◌≢◌, ◌∙◌, ap, sym, take, nat_eq, List, ℕ}
use Rattle.std.specs.List.{list_any}
use Rattle.std.specs.Int.{from_le_bytes, w64}
use Rattle.world_rules.specs.Mail.{tags_in}
use Rattle.plain_world.proofs.WantedTags.{any-next}
use Rattle.plain_world.proofs.wanted.is_wanted_by.Goals as goal

pub loop-rest-preserved : goal.loop-rest-preserved
loop-rest-preserved c =
    let differs : c.args.tag ≢ from_le_bytes w64 (take 8 c.loop-rest.rest.now) =
    λ e. c.if-tag_in-tag.false (c.tag_in.ensures ∙ ap (λ (xs : List ℕ). from_le_bytes w64 xs) c.split_at.ensures.front ∙ sym e) in (
      c.loop-rest.invariant.0,
      c.loop-rest.invariant.1
          ∙ any-next c.loop-rest.rest.now c.args.tag c.loop-rest-test.true differs
          ∙ ap (λ (xs : List ℕ). list_any (nat_eq c.args.tag) (tags_in xs)) (sym c.split_at.ensures.back),
    )
