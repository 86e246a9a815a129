use Rattle.std.proofs.Common.{refl, sym, append-nil}
use Rattle.std.proofs.lemmas.Result.{err_from_is_err_and}
use Rattle.wasm_form.specs.declared.instr.Imm.{Imm}
use Rattle.body_reader.specs.Items.{PlainItem}
use Rattle.body_reader.proofs.Pieces.{read_seen, none_seen}
use Rattle.body_reader.proofs.Marks.{plain}
use Rattle.body_reader.proofs.Single.{item_refused}
use Rattle.body_reader.proofs.instr.instr_after.Goals as goal

pub returns-in_ok-imm-in-Some : goal.returns-in_ok-imm-in-Some
returns-in_ok-imm-in-Some c =
    let kind = plain c.args.code c.in-Some.kind (sym c.in-Some.ensures) in
    (PlainItem (record { code = c.args.code; imm = c.in_ok-imm-in-Some.imm }), read_seen _ _ (λ (i : Imm). PlainItem (record { code = c.args.code; imm = i })) _ _ _ kind c.in_ok-imm-in-Some.ensures, refl, sym (append-nil _))

pub returns-in_err-imm-in-Some : goal.returns-in_err-imm-in-Some
returns-in_err-imm-in-Some c =
    let kind = plain c.args.code c.in-Some.kind (sym c.in-Some.ensures) in
    let p = err_from_is_err_and c.from_residual.result c.from_residual.ensures.1 in
    item_refused _ _ _ _ _ _ _ _ p.1 p.2 (λ m. none_seen _ _ (λ (i : Imm). PlainItem (record { code = c.args.code; imm = i })) c.args.cursor.now kind (c.in_err-imm-in-Some.ensures m))
