use Rattle.std.proofs.Common.{◌≡◌, ℕ, ◌-◌, true, false, arith, refl, sym, subst}
use Rattle.linear_memory.specs.Contents.{HasPages}
use Rattle.straight_code.proofs.Effects.{grow_done, grow_refused}
use Rattle.straight_code.proofs.memory_size.grow_top.Goals as goal

pub returns-in-Some : goal.returns-in-Some
returns-in-Some c =
    grow_done c.args.memory.now c.grow.new.self c.args.values.now c.args.sp (c.args.sp - 1) c.from.result (omega (arith, c.requires.takes.one)) c.requires.within
    (subst (λ (n : ℕ). HasPages c.args.memory.now n) (sym c.from.ensures) c.pages-before.ensures) (c.in-Some.ensures.room.0 refl) c.in-Some.ensures.grown

pub returns-in-None : goal.returns-in-None
returns-in-None c =
    grow_refused c.args.memory.now c.grow.new.self c.args.values.now c.args.sp (c.args.sp - 1) _ (omega (arith, c.requires.takes.one)) c.requires.within
    c.pages-before.ensures (λ h. let e : false ≡ true = c.in-None.ensures.room.1 h in absurd (cc)) c.in-None.ensures.refused
