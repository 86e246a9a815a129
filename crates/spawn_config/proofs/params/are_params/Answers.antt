use Rattle.std.proofs.Common.{ℕ, ◌<◌, List, [], ◌∷◌, ◌++◌, length, refl, sym, ◌∙◌, subst, rules}
use Rattle.host_port.specs.TypedValue.{TypedValue}
use Rattle.spawn_config.proofs.Reading.{Reads, reads_start, reads_more, bad_short, bad_piece}
use Rattle.spawn_config.proofs.params.are_params.Goals as goal

pub loop-left-init : goal.loop-left-init
loop-left-init c = ([], reads_start c.args.bytes.now [] refl)

pub returns-then-left-lt-PARAM_LEN-clause-bad : goal.returns-then-left-lt-PARAM_LEN-clause-bad
returns-then-left-lt-PARAM_LEN-clause-bad c =
    let some : 0 < length c.loop-left.left.now = search rules in
    bad_short c.args.bytes.now c.loop-left.invariant.0 c.loop-left.left.now c.loop-left.invariant.1 some
    c.if-left-lt-PARAM_LEN.true

pub returns-in-None-clause-bad : goal.returns-in-None-clause-bad
returns-in-None-clause-bad c =
    let some : 0 < length c.loop-left.left.now = search rules in
    bad_piece c.args.bytes.now c.loop-left.invariant.0 c.loop-left.left.now c.loop-left.invariant.1 some
    (λ p is. c.in-None.ensures p (c.split_at.ensures.front ∙ is))

pub loop-left-preserved : goal.loop-left-preserved
loop-left-preserved c =
    let more = reads_more c.args.bytes.now c.loop-left.invariant.0 c.loop-left.left.now c.in-Some.field-0
    c.loop-left.invariant.1 c.if-left-lt-PARAM_LEN.false
    (sym c.split_at.ensures.front ∙ c.in-Some.ensures.0) c.in-Some.ensures.1 in (
      c.loop-left.invariant.0 ++ c.in-Some.field-0 ∷ [],
      subst (λ (s : List ℕ). Reads c.args.bytes.now (c.loop-left.invariant.0 ++ c.in-Some.field-0 ∷ []) s)
          (sym c.split_at.ensures.back) more,
    )
