use Rattle.std.proofs.Common.{ℕ}
use Rattle.code_map.specs.declared.body_map.BodyMap.{BodyMap}
use Rattle.code_map.specs.Maps.{IsBodyMap}
use Rattle.code_map.proofs.Pushed.{pushed, pushed_count}
use Rattle.code_map.proofs.map.map_bodies.Goals as goal

pub loop-place-preserved : goal.loop-place-preserved
loop-place-preserved c = record {
  count = pushed_count c.loop-place.maps c.push.new.self c.in_ok-map.map c.loop-place.place c.loop-place.invariant.count c.in_ok-push.ensures.ok;
  each = pushed (λ (k : ℕ) (x : BodyMap). IsBodyMap c.args.parts.now k x) c.loop-place.maps c.push.new.self c.in_ok-map.map c.loop-place.place c.loop-place.invariant.count
      c.loop-place.invariant.each c.in_ok-map.ensures
      c.in_ok-push.ensures.ok;
}
