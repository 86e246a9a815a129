use Rattle.std.proofs.Common.{◌≡◌, ◌+◌, ◌*◌, ◌^◌, ◌<◌, ◌≤◌, ℕ, ◌-◌, List, arith}
use Rattle.std.proofs.Math.Pow.{pow_mono}
use Rattle.std.proofs.lemmas.Result.{err_from_is_err_and}
use Rattle.leb_read.proofs.Causes.{wrong_first, later}
use Rattle.leb_read.proofs.Unsigned.{last_byte, read_longer, fits}
use Rattle.leb_read.specs.Numbers.{SpellsUnsigned}
use Rattle.leb_read.specs.Reading.{MayEndUnsigned}
use Rattle.leb_read.proofs.number.+unsigned.Goals as goal

pub returns-then-first-last_bits : goal.returns-then-first-last_bits
returns-then-first-last_bits t c =
    let low : 2 ^ c.args.last_bits ≤ 2 ^ 7 = pow_mono {i = c.args.last_bits} {j = 7} (omega arith) in
    let same : 2 ^ c.args.last_bits ≤ 2 ^ (7 * c.args.more + c.args.last_bits) = pow_mono {i = c.args.last_bits} {j = 7 * c.args.more + c.args.last_bits} (omega arith) in
    last_byte _ _ _ _ _ c.in-Some.ensures.cases.0 c.from.ensures (omega arith) (omega arith)

pub returns-else-first-last_bits : goal.returns-else-first-last_bits
returns-else-first-last_bits t c =
    let low : 2 ^ c.args.last_bits ≤ 2 ^ 7 = pow_mono {i = c.args.last_bits} {j = 7} (omega arith) in
    wrong_first (MayEndUnsigned c.args.last_bits) _ _ _ _ c.in-Some.ensures.cases.0 (omega arith) (λ h. omega (arith, h))

pub returns-then-first-lt128 : goal.returns-then-first-lt128
returns-then-first-lt128 t c =
    let room : 2 ^ 7 ≤ 2 ^ (7 * c.args.more + c.args.last_bits) = pow_mono {i = 7} {j = 7 * c.args.more + c.args.last_bits} (omega arith) in
    last_byte _ _ _ _ _ c.in-Some.ensures.cases.0 c.from-then-first-lt128.ensures (omega arith) (omega arith)

pub returns-in_err-high : goal.returns-in_err-high
returns-in_err-high t c =
    let p = err_from_is_err_and c.from_residual.result c.from_residual.ensures.1 in
    rw (p.1, p.2) (later _ _ _ _ _ _ _ c.in-Some.ensures.cases.0 (omega arith) (omega arith) c.in_err-high.ensures)

-- the bits above a byte that continues are at most 57
pub room : (more last_bits v : ℕ) (s : List ℕ) → (more ≡ 0 → ⊥) → 7 * more + last_bits ≤ 64 → SpellsUnsigned (7 * (more - 1) + last_bits) s v → 2 ^ 7 * v + 2 ^ 7 ≤ 2 ^ 64
room more last_bits v s some at_most h =
    let low : v < 2 ^ (7 * (more - 1) + last_bits) = fits (7 * (more - 1) + last_bits) v s h in
    let small : 2 ^ (7 * (more - 1) + last_bits) ≤ 2 ^ 57 = pow_mono {i = 7 * (more - 1) + last_bits} {j = 57} (omega arith) in
    omega arith

pub overflow_mul-result : goal.overflow_mul-result
overflow_mul-result t c =
    omega (arith, room _ _ _ _ c.if-more-eq0.false c.requires.fits c.in_ok-high.ensures.1)

pub overflow_add-result : goal.overflow_add-result
overflow_add-result t c =
    let byte = rw c.in-Some.ensures.cases.0 at c.type_inv.bytes 0 in
    omega (arith, byte, c.from-2.ensures, room _ _ _ _ c.if-more-eq0.false c.requires.fits c.in_ok-high.ensures.1)

pub returns : goal.returns
returns t c =
    let byte = rw c.in-Some.ensures.cases.0 at c.type_inv.bytes 0 in
    read_longer _ _ _ _ _ _ _ _ c.in-Some.ensures.cases.0 (omega arith) (omega arith) (omega arith) (omega (arith, byte)) c.from-2.ensures c.in_ok-high.ensures
