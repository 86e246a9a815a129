use Rattle.std.proofs.Common.{◌≡◌, ℕ, ◌∙◌, arith, rules, ap, sym, ◌+◌, take, get_or, length, subst, List}
use Rattle.body_validator.specs.Locals.{count_of}
use Rattle.body_validator.proofs.Runs.{one_run_more, run_within, no_run, one_end_more}
use Rattle.body_validator.proofs.locals.Locals.new.Goals as goal

pub overflow_add-end : goal.overflow_add-end
overflow_add-end c =
    omega (arith, run_within c.args.runs.now c.loop-run.run-index no_run c.loop-run-test.true, c.loop-run.invariant.end_is, c.requires)

pub loop-run-preserved : goal.loop-run-preserved
loop-run-preserved c =
    let e : c.loop-run.end + (get_or c.args.runs.now c.loop-run.run-index no_run).count ≡ count_of (take (c.loop-run.run-index + 1) c.args.runs.now) =
    ap (λ (n : ℕ). n + (get_or c.args.runs.now c.loop-run.run-index no_run).count) c.loop-run.invariant.end_is ∙ sym (one_run_more c.args.runs.now c.loop-run.run-index no_run c.loop-run-test.true)
    in
    record {
      end_is = e;
      length_is = ap length c.in_ok-push.ensures.items ∙ search rules;
      each = λ k h.
          subst (λ (l : List ℕ). get_or l k 0 ≡ count_of (take (k + 1) c.args.runs.now)) (sym c.in_ok-push.ensures.items)
          (one_end_more c.args.runs.now c.loop-run.ends.items c.loop-run.run-index _ e c.loop-run.invariant.length_is c.loop-run.invariant.each k h);
    }

pub invariant_of-result : goal.invariant_of-result
invariant_of-result c =
    record { length_is = omega (arith, c.loop-run.invariant.length_is); each = λ k h. c.loop-run.invariant.each k (omega (arith, h)) }
