use Rattle.std.proofs.Common.{ℕ, ◌≡◌, None, refl, arith}
use Rattle.code_map.specs.Callees.{IsClass}
use Rattle.code_map.proofs.Pushed.{pushed, pushed_count}
use Rattle.code_map.proofs.classes.classes_of.Goals as goal

pub loop-index-preserved : goal.loop-index-preserved
loop-index-preserved c = record {
  count = pushed_count c.loop-index.classes c.push.new.self c.in_ok-class_of.field-0 c.loop-index.index c.loop-index.invariant.count c.in_ok-push.ensures.ok;
  each = pushed (λ (k x : ℕ). IsClass c.args.types.now k x) c.loop-index.classes c.push.new.self c.in_ok-class_of.field-0 c.loop-index.index c.loop-index.invariant.count
      c.loop-index.invariant.each c.in_ok-class_of.ensures.class
      c.in_ok-push.ensures.ok;
  firsts = c.in_ok-class_of.ensures.after;
}
