use Rattle.std.proofs.Common.{arith}
use Rattle.body_validator.proofs.Types.{copied_some}
use Rattle.code_map.specs.Counts.{IsNarrow}
use Rattle.code_map.proofs.Counting.{type_at}
use Rattle.code_map.proofs.signatures.Signatures.call_indirect.Goals as goal

pub overflow_add-result : goal.overflow_add-result
overflow_add-result c =
    let found = copied_some c.type_at.result _ c.in-Some.ty c.in-Some.is c.type_at.ensures in
    let narrow = type_at IsNarrow c.args.self.now.types.now c.in-Index.index c.in-Some.ty.now c.requires found in
    omega (arith, c.len.ensures, narrow.params)
