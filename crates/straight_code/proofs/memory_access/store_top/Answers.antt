use Rattle.std.proofs.Common.{◌≡◌, ℕ, ◌+◌, ◌-◌, true, false, arith, refl, ap}
use Rattle.std.specs.Prelude.{slice_index}
use Rattle.straight_code.proofs.Effects.{store_done_by, store_fails_by}
use Rattle.straight_code.proofs.memory_access.store_top.Goals as goal

pub returns-then-store-clause-stored : goal.returns-then-store-clause-stored
returns-then-store-clause-stored c =
    let two = c.requires.takes.two in
    store_done_by c.args.code c.args.offset c.args.memory.now c.store.new.self c.args.values.now c.args.sp (c.args.sp - 2) (c.args.sp - 1) _ _
    (omega (arith, two)) (omega (arith, two)) (ap (λ (k : ℕ). slice_index c.args.values.now (c.args.sp - 2) + k) c.from.ensures)
    c.access_width.ensures (c.if-store.ensures.inside.0 refl) c.if-store.ensures.stored

pub returns-else-store-clause-trap : goal.returns-else-store-clause-trap
returns-else-store-clause-trap c =
    let two = c.requires.takes.two in
    store_fails_by c.args.code c.args.offset c.args.memory.now c.args.values.now c.args.sp (c.args.sp - 2) (c.args.sp - 1) _ _
    (omega (arith, two)) (omega (arith, two)) (ap (λ (k : ℕ). slice_index c.args.values.now (c.args.sp - 2) + k) c.from.ensures)
    c.access_width.ensures (λ h. let e : false ≡ true = c.if-store.ensures.inside.1 h in absurd (cc))
