use Rattle.std.proofs.Common.{◌≡◌, sym, subst, ◌∙◌, List}
use Rattle.std.specs.List.{Contains}
use Rattle.resource_table.specs.Handles.{Handle, numbers_of}
use Rattle.resource_table.specs.Places.{StandsAt}
use Rattle.resource_table.proofs.Tables.{has_answer, stands_contains}
use Rattle.resource_table.proofs.resources.Resources.has.Goals as goal

pub returns : goal.returns
returns g c =
    let ys = c.deref.result.now in
    let same : ys ≡ c.args.self.now = c.deref.ensures.value ∙ c.self.view_is in
    let answer = has_answer c.place_of.result c.is_some.result (Contains (numbers_of ys) c.args.h) (StandsAt c.args.h ys)
    c.is_some.ensures c.place_of.ensures (λ place at. stands_contains c.args.h place ys at) in
    let P : List (Handle g.row.S.Denot) → Type 0 = λ zs. Contains (numbers_of zs) c.args.h in
    (λ yes. subst P same (answer.0 yes), λ there. answer.1 (subst P (sym same) there))
