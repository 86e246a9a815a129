-- The host calls of the output.
use Rattle.std.specs.Prelude.{List, [], ◌∷◌, None, false, codes}
use Rattle.wasm_ops.specs.declared.num.Num.TheVariants.{I32}
use Rattle.host_port.specs.declared.row.MayCome.TheVariants as comes
use Rattle.host_port.specs.Rows.{Row, Local, OneArea, Plain, NoResult}

-- 35, print(ptr, len): the bytes go to the output
abbrev pub print : Row
print = record {
  call = 35;
  import_module = codes "profile";
  import_name = codes "print";
  params = I32 ∷ I32 ∷ [];
  result = None;
  kind = Local;
  reads = OneArea (record { addr = 0; length = 1; holds = Plain });
  text = None;
  word = None;
  may_come = comes.Nothing;
  results = NoResult;
  refusable = false;
}

-- the rows of these calls
abbrev pub print_rows : List Row
print_rows =
    print ∷ []
