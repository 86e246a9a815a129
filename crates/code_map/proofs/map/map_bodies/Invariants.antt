use Rattle.std.proofs.Common.{◌≡◌, ℕ, length, Some}
use Rattle.std.specs.Prelude.{slice_get}
use Rattle.code_map.specs.declared.body_map.BodyMap.{BodyMap}
use Rattle.code_map.specs.Maps.{IsBodyMap}
use Rattle.code_map.proofs.map.map_bodies.Given as goal

abbrev pub invariant-loop-place : goal.invariant-loop-place
invariant-loop-place l = record {
  count : length l.maps ≡ l.place;
  each : (place : ℕ) (map : BodyMap) → slice_get l.maps place ≡ Some map → IsBodyMap l.fn.parts place map;
}
