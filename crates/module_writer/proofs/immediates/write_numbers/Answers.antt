use Rattle.std.proofs.Common.{refl, arith}
use Rattle.module_writer.proofs.Appending.{appends_nothing, pushed_as, appends_as, appends_both, appends_at}
use Rattle.module_writer.proofs.LineBytes.{table_numbers, f32_numbers, f64_numbers}
use Rattle.module_writer.proofs.immediates.write_numbers.Goals as goal

pub returns-in-None : goal.returns-in-None
returns-in-None c = appends_at _ _ _ _ _ _ c.in-None.is (appends_nothing _ _ _ _ refl refl)

pub returns-in_ok-push-in-Block : goal.returns-in_ok-push-in-Block
returns-in_ok-push-in-Block c = appends_at _ _ _ _ _ _ c.in-Block.is (pushed_as _ _ _ _ _ _ c.in_ok-push-in-Block.ensures.items c.block_byte_of.ensures refl)

pub returns-in_ok-write_u32-in-Index : goal.returns-in_ok-write_u32-in-Index
returns-in_ok-write_u32-in-Index c = appends_at _ _ _ _ _ _ c.in-Index.is (appends_as _ _ _ _ _ _ _ _ c.in_ok-write_u32-in-Index.ensures (λ s h. h) (omega arith))

pub returns-in_ok-write_s32-in-I32 : goal.returns-in_ok-write_s32-in-I32
returns-in_ok-write_s32-in-I32 c = appends_at _ _ _ _ _ _ c.in-I32.is (appends_as _ _ _ _ _ _ _ _ c.in_ok-write_s32-in-I32.ensures (λ s h. h) (omega arith))

pub returns-in_ok-write_s64-in-I64 : goal.returns-in_ok-write_s64-in-I64
returns-in_ok-write_s64-in-I64 c = appends_at _ _ _ _ _ _ c.in-I64.is (appends_as _ _ _ _ _ _ _ _ c.in_ok-write_s64-in-I64.ensures (λ s h. h) (omega arith))

pub write_table-requires : goal.write_table-requires
write_table-requires c = table_numbers _ _ _ _ _ c.in-Table.is c.requires

pub returns-in_ok-write_table-in-Table : goal.returns-in_ok-write_table-in-Table
returns-in_ok-write_table-in-Table c = appends_at _ _ _ _ _ _ c.in-Table.is (appends_as _ _ _ _ _ _ _ _ c.in_ok-write_table-in-Table.ensures (λ s h. h) (omega arith))

pub returns-in_ok-write_u32-in-Mem-2 : goal.returns-in_ok-write_u32-in-Mem-2
returns-in_ok-write_u32-in-Mem-2 c =
    appends_at _ _ _ _ _ _ c.in-Mem.is
    (appends_both _ _ _ _ _ _ _ _ _ _ _ _ c.in_ok-write_u32-in-Mem.ensures c.in_ok-write_u32-in-Mem-2.ensures (λ s t h k. (s, t, h, k, refl)) (omega arith))

pub returns-in_ok-extend_from_slice-in-F32 : goal.returns-in_ok-extend_from_slice-in-F32
returns-in_ok-extend_from_slice-in-F32 c = f32_numbers _ _ _ _ _ _ c.in-F32.is (omega arith) c.to_le_bytes.ensures c.in_ok-extend_from_slice-in-F32.ensures.items

pub returns-in_ok-extend_from_slice-in-F64 : goal.returns-in_ok-extend_from_slice-in-F64
returns-in_ok-extend_from_slice-in-F64 c = f64_numbers _ _ _ _ _ _ c.in-F64.is (omega arith) c.to_le_bytes-in-F64.ensures c.in_ok-extend_from_slice-in-F64.ensures.items
