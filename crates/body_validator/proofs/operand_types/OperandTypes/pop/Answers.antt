use Rattle.std.proofs.Common.{rules, sym, ◌∙◌}
use Rattle.std.proofs.lemmas.List.{nil_from_length}
use Rattle.body_validator.proofs.Covering.{last_taken, any_taken}
use Rattle.body_validator.proofs.operand_types.OperandTypes.pop.Goals as goal
use Rattle.body_validator.proofs.operand_types.OperandTypes.pop.Goals.{in-None, in-Some}

pub returns-clause-yes : goal.returns-clause-yes
returns-clause-yes c h = elim c.match-pop.branch [
  | in-None w ↦ any_taken _ c.self.inside.places.items c.pop.new.self.items _ (sym c.self.view_is) (nil_from_length _ (search (rules, w.in-None.ensures.cases))) (nil_from_length _ (search (rules, w.in-None.ensures.cases))) (sym w.result-is ∙ h)
  | in-Some w ↦ last_taken _ c.self.inside.places.items c.pop.new.self.items _ _ _ (sym c.self.view_is) c.pop.ensures.items w.in-Some.is
]
