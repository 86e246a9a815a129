-- A few instructions.
use Rattle.wasm_form.specs.declared.instr.Instr.{Instr}
use Rattle.wasm_form.specs.declared.instr.Imm.TheVariants as imm

abbrev pub br_0 : Instr
br_0 = record { code = 0x0C; imm = imm.Index 0 }

abbrev pub i32_add : Instr
i32_add = record { code = 0x6A; imm = imm.None }

abbrev pub drop : Instr
drop = record { code = 0x1A; imm = imm.None }

abbrev pub i64_const_1 : Instr
i64_const_1 = record { code = 0x42; imm = imm.I64 1 }

abbrev pub i32_eqz : Instr
i32_eqz = record { code = 0x45; imm = imm.None }
