use Rattle.std.proofs.Common.{◌≡◌, ℕ, ◌≤◌, map, get_or}
use Rattle.std.specs.List.{AllWithin}
use Rattle.wasm_form.specs.Matching.{IsTree}
use Rattle.wasm_form.proofs.matched.match_each.Given as goal

abbrev pub invariant-loop-i : goal.invariant-loop-i
invariant-loop-i g l = record {
  bare : map g.T.HasExpr.bare l.items ≡ map g.T.HasExpr.bare l.initial.items;
  rest : (k : ℕ) (d : g.row.T.Denot) → l.i ≤ k → get_or l.items k d ≡ get_or l.initial.items k d;
  done : AllWithin (λ x. IsTree (g.T.HasExpr.expr_of x)) l.items 0 l.i;
}
