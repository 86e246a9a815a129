-- Which rule of typing the instruction with a code has.
use Rattle.std.specs.Prelude.{ℕ, nat_le, if◌then◌else◌}
use Rattle.wasm_ops.specs.declared.instruction.Kind.{Kind}
use Rattle.wasm_ops.specs.declared.instruction.Kind.TheVariants as kinds
use Rattle.wasm_ops.specs.Table.{kind_of}
use Rattle.body_validator.specs.declared.rule.Rule.{Rule}
use Rattle.body_validator.specs.declared.rule.Rule.TheVariants as rules

-- of those that neither are integer operations nor load and store, by rising codes
unfoldable pub control_rule : (code : ℕ) → Rule
control_rule code =
    if nat_le code 0x00 then rules.Leaves  -- unreachable
    else if nat_le code 0x01 then rules.Nop
    else if nat_le code 0x0B then rules.Untyped  -- block, loop, if, else, end
    else if nat_le code 0x0C then rules.Leaves  -- br
    else if nat_le code 0x0D then rules.BranchIf
    else if nat_le code 0x0E then rules.Untyped  -- br_table
    else if nat_le code 0x0F then rules.Leaves  -- return
    else if nat_le code 0x10 then rules.Call
    else if nat_le code 0x11 then rules.CallIndirect
    else if nat_le code 0x19 then rules.Untyped
    else if nat_le code 0x1B then rules.Parametric  -- drop, select
    else if nat_le code 0x1F then rules.Untyped
    else if nat_le code 0x22 then rules.Local  -- local.get, local.set, local.tee
    else if nat_le code 0x24 then rules.Global  -- global.get, global.set
    else if nat_le code 0x3E then rules.Untyped
    else if nat_le code 0x40 then rules.MemorySize  -- memory.size, memory.grow
    else if nat_le code 0x42 then rules.Constant  -- i32.const, i64.const
    else rules.Untyped

abbrev pub rule_by : Kind → (code : ℕ) → Rule
rule_by kinds.Control code = control_rule code
rule_by kinds.Plain code = rules.Operation
rule_by kinds.Load code = rules.Access
rule_by kinds.Store code = rules.Access
rule_by kinds.Float code = rules.Untyped

-- the rule of the instruction with this code
unfoldable pub rule_of : (code : ℕ) → Rule
rule_of code = rule_by (kind_of code) code
