use Rattle.std.proofs.Common.{◌+◌, ◌*◌, [], ◌∷◌, refl, arith}
use Rattle.std.proofs.lemmas.Int.{ints}
use Rattle.std.proofs.lemmas.Result.{err_from_is_err_and}
use Rattle.leb_read.proofs.Causes.{wrong_first, later}
use Rattle.leb_read.proofs.Signed.{last_byte, wider, read_longer, same64, above}
use Rattle.leb_read.specs.Numbers.{SpellsSigned}
use Rattle.leb_read.specs.Reading.{MayEndSigned}
use Rattle.leb_read.proofs.number.+signed.Goals as goal

pub returns-in-Some-last_signed : goal.returns-in-Some-last_signed
returns-in-Some-last_signed t c =
    last_byte _ _ _ _ _ _ _ c.in-Some.ensures.cases.0 (omega arith) (same64 c.args.last_bits _ (c.in-Some.field-0-0.now ∷ []) (omega arith) (omega arith) c.in-Some-last_signed.ensures) c.in-Some-last_signed.ensures

pub returns-in-None : goal.returns-in-None
returns-in-None t c =
    wrong_first (MayEndSigned c.args.last_bits) _ _ _ _ c.in-Some.ensures.cases.0 (omega arith) c.in-None.ensures

pub returns-then-first-lt128 : goal.returns-then-first-lt128
returns-then-first-lt128 t c =
    let wide : SpellsSigned (7 * c.args.more + c.args.last_bits) (c.in-Some.field-0-0.now ∷ []) c.sign_extended.result = wider _ _ _ (omega arith) c.sign_extended.ensures in
    last_byte _ _ _ _ _ _ _ c.in-Some.ensures.cases.0 refl (same64 (7 * c.args.more + c.args.last_bits) _ (c.in-Some.field-0-0.now ∷ []) (omega arith) (omega arith) wide) wide

pub returns-in_err-high : goal.returns-in_err-high
returns-in_err-high t c =
    let p = err_from_is_err_and c.from_residual.result c.from_residual.ensures.1 in
    rw (p.1, p.2) (later _ _ _ _ _ _ _ c.in-Some.ensures.cases.0 (omega arith) (omega arith) c.in_err-high.ensures)

pub overflow_mul-result : goal.overflow_mul-result
overflow_mul-result t c =
    let a = above _ _ _ _ c.if-more-eq0.false c.requires.some c.requires.fits c.in_ok-high.ensures.1 in
    omega (arith, ints, a.low, a.high)

pub overflow_add-result : goal.overflow_add-result
overflow_add-result t c =
    let byte = rw c.in-Some.ensures.cases.0 at c.type_inv.bytes 0 in
    let a = above _ _ _ _ c.if-more-eq0.false c.requires.some c.requires.fits c.in_ok-high.ensures.1 in
    omega (arith, ints, byte, a.low, a.high, c.from.ensures)

pub returns : goal.returns
returns t c =
    let byte = rw c.in-Some.ensures.cases.0 at c.type_inv.bytes 0 in
    let a = above _ _ _ _ c.if-more-eq0.false c.requires.some c.requires.fits c.in_ok-high.ensures.1 in
    read_longer _ _ _ _ _ _ _ _ c.in-Some.ensures.cases.0 (omega arith) (omega arith) (omega arith) (omega (arith, byte)) (omega (arith, ints, byte, a.low, a.high, c.from.ensures)) c.in_ok-high.ensures
