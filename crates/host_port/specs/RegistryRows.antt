-- The host calls of names of processes.
use Rattle.std.specs.Prelude.{List, [], ◌∷◌, Some, None, true, false, codes}
use Rattle.wasm_ops.specs.declared.num.Num.TheVariants.{I32, I64}
use Rattle.host_port.specs.declared.row.MayCome.TheVariants as comes
use Rattle.host_port.specs.Rows.{Row, World, OneArea, Name, OnlyWith, Eight, AnyValue, NoResult, OneOf}

-- 24, put(name, len, pid): 0 where the name now stands for the process, 1 where no such process lives, 12 for want of
-- memory
abbrev pub registry_put : Row
registry_put = record {
  call = 24;
  import_module = codes "lunatic::registry";
  import_name = codes "put";
  params = I32 ∷ I32 ∷ I64 ∷ [];
  result = Some I32;
  kind = World;
  reads = OneArea (record { addr = 0; length = 1; holds = Name });
  text = None;
  word = None;
  may_come = comes.Nothing;
  results = OneOf (0 ∷ 1 ∷ 12 ∷ []);
  refusable = true;
}

-- 25, get(name, len, id): 0 with the number of the process at `id`, 1 where the name is not there
abbrev pub registry_get : Row
registry_get = record {
  call = 25;
  import_module = codes "lunatic::registry";
  import_name = codes "get";
  params = I32 ∷ I32 ∷ I32 ∷ [];
  result = Some I32;
  kind = World;
  reads = OneArea (record { addr = 0; length = 1; holds = Name });
  text = None;
  word = Some (record { addr = 2; width = Eight; when = OnlyWith 0; value = AnyValue });
  may_come = comes.Nothing;
  results = OneOf (0 ∷ 1 ∷ []);
  refusable = false;
}

-- 26, remove(name, len): takes the name out
abbrev pub registry_remove : Row
registry_remove = record {
  call = 26;
  import_module = codes "lunatic::registry";
  import_name = codes "remove";
  params = I32 ∷ I32 ∷ [];
  result = None;
  kind = World;
  reads = OneArea (record { addr = 0; length = 1; holds = Name });
  text = None;
  word = None;
  may_come = comes.Nothing;
  results = NoResult;
  refusable = false;
}

-- the rows of these calls
abbrev pub registry_rows : List Row
registry_rows =
    registry_put ∷ registry_get ∷ registry_remove ∷ []
