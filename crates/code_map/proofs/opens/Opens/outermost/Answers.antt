use Rattle.std.proofs.Common.{◌≡◌, ℕ, ◌+◌, ◌-◌, List, length, Option, Some, ap, ◌∙◌, arith}
use Rattle.std.specs.Prelude.{slice_get}
use Rattle.std.proofs.lemmas.List.{length-map}
use Rattle.code_map.specs.declared.target.Target.{Target}
use Rattle.code_map.specs.declared.opens.Open.{Open}
use Rattle.code_map.specs.Left.{labels_in, label_of}
use Rattle.code_map.proofs.opens.Opens.outermost.Goals as goal

outermost_is : (opens : List Open) (k n label : ℕ) (r : Option Target) (t : Target) → r ≡ slice_get (labels_in opens) k → k ≡ n - 1 → n ≡ length opens → length (labels_in opens) ≡ label + 1
    → slice_get (labels_in opens) label ≡ Some t → r ≡ Some t
outermost_is opens k n label r t e f g h is =
    let same : k ≡ label = omega (arith, f, g, h, length-map opens label_of) in
    e ∙ ap (λ j. slice_get (labels_in opens) j) same ∙ is

pub returns : goal.returns
returns c label t h is = outermost_is c.args.self.now c.saturating_sub.result c.len.result label c.label.result t c.label.ensures c.saturating_sub.ensures c.len.ensures h is
