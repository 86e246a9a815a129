-- Runs of the flat machine are put together of moves and of runs.
use Rattle.std.proofs.Common.{◌≡◌, ℕ, zero, suc, ◌+◌, inl, inr, arith, refl, subst}
use Rattle.wasm_form.specs.declared.parts.Parts.{Parts}
use Rattle.code_map.specs.declared.map.CodeMap.{CodeMap}
use Rattle.flat_machine.specs.Flat.{Flat}
use Rattle.flat_machine.specs.Moves.{Executes, Passes, move}
use Rattle.flat_machine.specs.Runs.{RunsIn, Runs, IsSafe}

module _ (m : Parts) (map : CodeMap) where
  joined_in : (first : ℕ) (a b : ℕ) (more : ℕ) (from mid to : Flat) → RunsIn m map first a from mid → RunsIn m map more b mid to → Runs m map (a + b) from to
  joined_in first a b zero from mid to one (none, same) =
      let count : a ≡ a + b = omega arith in
      (first, subst (λ (n : ℕ). RunsIn m map first n from to) count (subst (λ (x : Flat). RunsIn m map first a from x) same one))
  joined_in first a b (suc more) from mid to one (last_from, before, last, count, run, by) =
      let rest = joined_in first a before more from mid last_from one run in
      (suc rest.0, (last_from, a + before, last, omega arith, rest.1, by))

  -- one run, and then another
  pub runs_joined : (a b : ℕ) (from mid to : Flat) → Runs m map a from mid → Runs m map b mid to → Runs m map (a + b) from to
  runs_joined a b from mid to one two = joined_in one.0 a b two.0 from mid to one.1 two.1

  pub runs_nothing : (flat : Flat) → Runs m map 0 flat flat
  runs_nothing flat = (zero, (refl, refl))

  pub runs_executed : (from to : Flat) → move m map from ≡ Executes to → Runs m map 1 from to
  runs_executed from to is = (suc zero, (from, 0, 1, omega arith, (refl, refl), inl (refl, is)))

  pub runs_passed : (from to : Flat) → move m map from ≡ Passes to → Runs m map 0 from to
  runs_passed from to is = (suc zero, (from, 0, 0, omega arith, (refl, refl), inr (refl, is)))

  pub safe_on : (executed : ℕ) (from to : Flat) → IsSafe m map from → Runs m map executed from to → IsSafe m map to
  safe_on executed from to safe run more last then = safe (executed + more) last (runs_joined executed more from to last run then)
