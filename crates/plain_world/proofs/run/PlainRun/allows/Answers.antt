use Rattle.std.proofs.Common.{List, None, ◌↔◌, IsTrue, IfOk, sym, subst}
use Rattle.std.proofs.lemmas.Result.{IfOk-weaker}
use Rattle.world_rules.specs.declared.entry.Entry.{Entry}
use Rattle.world_rules.specs.declared.life.Birth.{Birth}
use Rattle.world_rules.specs.Allowed.{Allowed}
use Rattle.world_rules.specs.Book.{Book}
use Rattle.world_rules.specs.Told.{told}
use Rattle.world_rules.specs.World.{World}
use Rattle.plain_world.specs.Shown.{shown_world}
use Rattle.plain_world.proofs.RunLaws.{allowed_told, told_allowed}
use Rattle.plain_world.proofs.run.PlainRun.allows.Goals as goal

pub returns : goal.returns
returns c =
    let births : List Birth = c.self.inside.births.items in
    let entries : List Entry = c.self.inside.entries.items in
    let entry : Entry = c.args.entry.now in
    let w : World = shown_world c.self.inside.world in
    let P : Book → Type 0 = λ book. IfOk c.allows.result (λ allowed. IsTrue allowed ↔ Allowed None book.births (told book) entry) in
    let Q : List Birth → Type 0 = λ bs. Allowed None bs w entry in
    subst P c.self.view_is
    (IfOk-weaker c.allows.result _ _
    (λ allowed same. (
      λ yes. allowed_told births entries entry w c.self.invariant (subst Q c.as_slice.ensures.value (same.0 yes)),
      λ may. same.1 (subst Q (sym c.as_slice.ensures.value) (told_allowed births entries entry w c.self.invariant may)),
    ))
    c.allows.ensures)
