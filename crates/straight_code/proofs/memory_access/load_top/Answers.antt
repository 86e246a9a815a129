use Rattle.std.proofs.Common.{◌≡◌, ℕ, ◌+◌, ◌-◌, true, false, arith, refl, ap}
use Rattle.std.specs.Prelude.{slice_index}
use Rattle.straight_code.proofs.Effects.{load_done_by, load_fails_by}
use Rattle.straight_code.proofs.memory_access.load_top.Goals as goal

pub returns-in-Some-clause-value : goal.returns-in-Some-clause-value
returns-in-Some-clause-value c =
    load_done_by c.args.code c.args.offset c.args.memory.now.bytes c.args.values.now c.args.sp (c.args.sp - 1) _ _ _ _ (omega (arith, c.requires.takes.one))
    c.requires.within (ap (λ (k : ℕ). slice_index c.args.values.now (c.args.sp - 1) + k) c.from.ensures)
    c.access_width.ensures (c.in-Some.ensures.inside.0 refl) c.in-Some.ensures.value c.extended.ensures

pub returns-in-None-clause-trap : goal.returns-in-None-clause-trap
returns-in-None-clause-trap c =
    load_fails_by c.args.code c.args.offset c.args.memory.now.bytes c.args.values.now c.args.sp (c.args.sp - 1) _ _ (omega (arith, c.requires.takes.one))
    (ap (λ (k : ℕ). slice_index c.args.values.now (c.args.sp - 1) + k) c.from.ensures)
    c.access_width.ensures (λ h. let e : false ≡ true = c.in-None.ensures.inside.1 h in absurd (cc))
