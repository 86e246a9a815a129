use Rattle.std.proofs.Common.{ℕ, ◌<◌, ◌≤◌, List, [], ◌∷◌, ◌++◌, length, sym, ◌∙◌, subst, rules}
use Rattle.host_port.specs.TypedValue.{TypedValue}
use Rattle.spawn_config.proofs.Reading.{Reads, reads_more, long_enough, bad_piece}
use Rattle.spawn_config.proofs.params.decode_params.Goals as goal

pub split_at-requires : goal.split_at-requires
split_at-requires c =
    let some : 0 < length c.loop-left.left.now = search rules in
    long_enough c.args.bytes.now c.loop-left.params c.loop-left.left.now c.loop-left.invariant
    c.if-not-are_params.ensures.are some

pub unreachable-requires : goal.unreachable-requires
unreachable-requires c =
    let some : 0 < length c.loop-left.left.now = search rules in
    let are = c.if-not-are_params.ensures.are in
    bad_piece c.args.bytes.now c.loop-left.params c.loop-left.left.now c.loop-left.invariant some
    (λ p is. c.in-None.ensures p (c.split_at.ensures.front ∙ is)) are.0 are.1.spelled

pub loop-left-preserved : goal.loop-left-preserved
loop-left-preserved c =
    let long : 17 ≤ length c.loop-left.left.now =
    long_enough c.args.bytes.now c.loop-left.params c.loop-left.left.now c.loop-left.invariant
    c.if-not-are_params.ensures.are (search rules) in
    let more = reads_more c.args.bytes.now c.loop-left.params c.loop-left.left.now c.in-Some.param
    c.loop-left.invariant long
    (sym c.split_at.ensures.front ∙ c.in-Some.ensures.0) c.in-Some.ensures.1 in
    subst (λ (ps : List TypedValue). Reads c.args.bytes.now ps c.split_at.result.1.now)
    (sym c.in_ok-push-in-Some.ensures.ok)
    (subst (λ (s : List ℕ). Reads c.args.bytes.now (c.loop-left.params ++ c.in-Some.param ∷ []) s)
    (sym c.split_at.ensures.back) more)
