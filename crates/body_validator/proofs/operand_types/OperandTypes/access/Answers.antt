use Rattle.std.proofs.Common.{subst}
use Rattle.wasm_form.specs.Typing.{listed_type, Applies}
use Rattle.body_validator.specs.Covering.{IsImage, IsStuck}
use Rattle.body_validator.proofs.Rules.{only_image, only_stuck, none_stuck}
use Rattle.body_validator.proofs.Codes.{access_kind}
use Rattle.body_validator.proofs.Types.{access_only, access_no_mem, access_no_memory, access_unaligned, not_both, width_fits, fits_width}
use Rattle.body_validator.proofs.operand_types.OperandTypes.access.Goals as goal

pub returns-in_default-clause-no : goal.returns-in_default-clause-no
returns-in_default-clause-no c e context is = none_stuck context c.args.instr _ (access_no_mem context c.args.instr c.requires.access c.in_default.not-Mem)

pub returns-then-not-has_memory-clause-no : goal.returns-then-not-has_memory-clause-no
returns-then-not-has_memory-clause-no c e context is =
    none_stuck context c.args.instr _ (access_no_memory context c.args.instr c.requires.access (λ m. not_both _ (is.1 m) c.if-not-has_memory.true))

pub returns-then-not-is_aligned-clause-no : goal.returns-then-not-is_aligned-clause-no
returns-then-not-is_aligned-clause-no c e context is =
    none_stuck context c.args.instr _
    (access_unaligned context c.args.instr c.in-Mem.align c.in-Mem.offset c.requires.access c.in-Mem.is (λ a. not_both _ (c.is_aligned.ensures.1 (fits_width c.in-Mem.align c.args.row.now c.args.instr.code c.requires.row c.requires.code a)) c.if-not-is_aligned.true))

pub returns-clause-yes : goal.returns-clause-yes
returns-clause-yes c e context is =
    only_image context c.args.instr (listed_type c.args.instr.code) c.args.self.now c.listed.new.self
    (access_only context c.args.instr c.in-Mem.align c.in-Mem.offset c.requires.access c.in-Mem.is
    (width_fits c.in-Mem.align c.args.row.now c.args.instr.code c.requires.row c.requires.code (c.is_aligned.ensures.0 c.if-not-is_aligned.false))
    (is.0 c.if-not-has_memory.false) (access_kind c.args.instr.code c.requires.access))
    (subst (λ t. IsImage (Applies (listed_type t)) c.args.self.now c.listed.new.self) c.requires.code (c.listed.ensures.yes e))

pub returns-clause-no : goal.returns-clause-no
returns-clause-no c e context is =
    only_stuck context c.args.instr (listed_type c.args.instr.code) c.args.self.now
    (access_only context c.args.instr c.in-Mem.align c.in-Mem.offset c.requires.access c.in-Mem.is
    (width_fits c.in-Mem.align c.args.row.now c.args.instr.code c.requires.row c.requires.code (c.is_aligned.ensures.0 c.if-not-is_aligned.false))
    (is.0 c.if-not-has_memory.false) (access_kind c.args.instr.code c.requires.access))
    (subst (λ t. IsStuck (Applies (listed_type t)) c.args.self.now) c.requires.code (c.listed.ensures.no e))
