-- The host calls of the configs with which processes are spawned.
use Rattle.std.specs.Prelude.{List, [], ◌∷◌, Some, None, false, codes}
use Rattle.wasm_ops.specs.declared.num.Num.TheVariants.{I64}
use Rattle.host_port.specs.declared.row.MayCome.TheVariants as comes
use Rattle.host_port.specs.Rows.{Row, Local, NoArea, NoResult, AnyI64}

-- 18, create_config(): a new config, with the limits of the process; its number
abbrev pub create_config : Row
create_config = record {
  call = 18;
  import_module = codes "lunatic::process";
  import_name = codes "create_config";
  params = [];
  result = Some I64;
  kind = Local;
  reads = NoArea;
  text = None;
  word = None;
  may_come = comes.Nothing;
  results = AnyI64;
  refusable = false;
}

-- 19, drop_config(config): removes it
abbrev pub drop_config : Row
drop_config = record {
  call = 19;
  import_module = codes "lunatic::process";
  import_name = codes "drop_config";
  params = I64 ∷ [];
  result = None;
  kind = Local;
  reads = NoArea;
  text = None;
  word = None;
  may_come = comes.Nothing;
  results = NoResult;
  refusable = false;
}

-- 20, config_set_max_memory(config, pages): at most the limit of the process
abbrev pub config_set_max_memory : Row
config_set_max_memory = record {
  call = 20;
  import_module = codes "lunatic::process";
  import_name = codes "config_set_max_memory";
  params = I64 ∷ I64 ∷ [];
  result = None;
  kind = Local;
  reads = NoArea;
  text = None;
  word = None;
  may_come = comes.Nothing;
  results = NoResult;
  refusable = false;
}

-- 21, config_set_max_fuel(config, fuel): at most the limit of the process
abbrev pub config_set_max_fuel : Row
config_set_max_fuel = record {
  call = 21;
  import_module = codes "lunatic::process";
  import_name = codes "config_set_max_fuel";
  params = I64 ∷ I64 ∷ [];
  result = None;
  kind = Local;
  reads = NoArea;
  text = None;
  word = None;
  may_come = comes.Nothing;
  results = NoResult;
  refusable = false;
}

-- 22, config_get_max_memory(config): its pages
abbrev pub config_get_max_memory : Row
config_get_max_memory = record {
  call = 22;
  import_module = codes "lunatic::process";
  import_name = codes "config_get_max_memory";
  params = I64 ∷ [];
  result = Some I64;
  kind = Local;
  reads = NoArea;
  text = None;
  word = None;
  may_come = comes.Nothing;
  results = AnyI64;
  refusable = false;
}

-- 23, config_get_max_fuel(config): its fuel
abbrev pub config_get_max_fuel : Row
config_get_max_fuel = record {
  call = 23;
  import_module = codes "lunatic::process";
  import_name = codes "config_get_max_fuel";
  params = I64 ∷ [];
  result = Some I64;
  kind = Local;
  reads = NoArea;
  text = None;
  word = None;
  may_come = comes.Nothing;
  results = AnyI64;
  refusable = false;
}

-- the rows of these calls
abbrev pub config_rows : List Row
config_rows =
    create_config ∷ drop_config ∷ config_set_max_memory ∷ config_set_max_fuel ∷ config_get_max_memory
    ∷ config_get_max_fuel ∷ []
