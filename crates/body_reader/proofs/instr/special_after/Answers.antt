use Rattle.std.proofs.Common.{refl, sym, append-nil, Option}
use Rattle.wasm_form.specs.declared.value_type.ValType.{ValType}
use Rattle.body_reader.specs.Items.{OpenItem}
use Rattle.body_reader.proofs.Pieces.{read_seen}
use Rattle.body_reader.proofs.Marks.{opener}
use Rattle.body_reader.proofs.instr.special_after.Goals as goal

pub returns-then-is_opener : goal.returns-then-is_opener
returns-then-is_opener c =
    let is = c.is_opener.ensures.0 c.if-is_opener.true in
    (OpenItem c.args.code c.in_ok-ty.ty, read_seen _ _ (λ (r : Option ValType). OpenItem c.args.code r) _ _ _ (opener c.args.code is) c.in_ok-ty.ensures, refl, sym (append-nil _))
