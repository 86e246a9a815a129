-- The host calls of processes and their links.
use Rattle.std.specs.Prelude.{List, [], ◌∷◌, Some, None, true, false, codes}
use Rattle.wasm_ops.specs.declared.num.Num.TheVariants.{I32, I64}
use Rattle.host_port.specs.declared.row.MayCome.TheVariants as comes
use Rattle.host_port.specs.Rows.{Row, Local, World, NoArea, TwoAreas, Plain, Name, OnlyWith, Eight, AnyValue, NoResult, OneOf, AnyI64}

-- 10, process_id(): the number of the process
abbrev pub process_id : Row
process_id = record {
  call = 10;
  import_module = codes "lunatic::process";
  import_name = codes "process_id";
  params = [];
  result = Some I64;
  kind = Local;
  reads = NoArea;
  text = None;
  word = None;
  may_come = comes.Nothing;
  results = AnyI64;
  refusable = false;
}

-- 11, exists(pid): 1 where a live process has the number, else 0
abbrev pub exists : Row
exists = record {
  call = 11;
  import_module = codes "lunatic::process";
  import_name = codes "exists";
  params = I64 ∷ [];
  result = Some I32;
  kind = World;
  reads = NoArea;
  text = None;
  word = None;
  may_come = comes.Nothing;
  results = OneOf (0 ∷ 1 ∷ []);
  refusable = false;
}

-- 12, spawn(link, config, module, f, flen, p, plen, id): 0 with the number of the child at `id`, 1 where it cannot
-- start, 2 where as many live as may, 3 where no numbers are left, 12 for want of memory
abbrev pub spawn : Row
spawn = record {
  call = 12;
  import_module = codes "lunatic::process";
  import_name = codes "spawn";
  params = I64 ∷ I64 ∷ I64 ∷ I32 ∷ I32 ∷ I32 ∷ I32 ∷ I32 ∷ [];
  result = Some I32;
  kind = World;
  reads = TwoAreas (record { addr = 3; length = 4; holds = Name }) (record { addr = 5; length = 6; holds = Plain });
  text = None;
  word = Some (record { addr = 7; width = Eight; when = OnlyWith 0; value = AnyValue });
  may_come = comes.Nothing;
  results = OneOf (0 ∷ 1 ∷ 2 ∷ 3 ∷ 12 ∷ []);
  refusable = true;
}

-- 13, kill(pid): ends the process of this number
abbrev pub kill : Row
kill = record {
  call = 13;
  import_module = codes "lunatic::process";
  import_name = codes "kill";
  params = I64 ∷ [];
  result = None;
  kind = World;
  reads = NoArea;
  text = None;
  word = None;
  may_come = comes.Nothing;
  results = NoResult;
  refusable = false;
}

-- 14, link(tag, pid): 0 where the two are linked, 1 where the other is the caller or no process, 12 for want of memory
abbrev pub link : Row
link = record {
  call = 14;
  import_module = codes "lunatic::process";
  import_name = codes "link";
  params = I64 ∷ I64 ∷ [];
  result = Some I32;
  kind = World;
  reads = NoArea;
  text = None;
  word = None;
  may_come = comes.Nothing;
  results = OneOf (0 ∷ 1 ∷ 12 ∷ []);
  refusable = true;
}

-- 15, unlink(pid): removes the link
abbrev pub unlink : Row
unlink = record {
  call = 15;
  import_module = codes "lunatic::process";
  import_name = codes "unlink";
  params = I64 ∷ [];
  result = None;
  kind = World;
  reads = NoArea;
  text = None;
  word = None;
  may_come = comes.Nothing;
  results = NoResult;
  refusable = false;
}

-- 16, die_when_link_dies(x): 0 asks for signals, any other number for dying with links
abbrev pub die_when_link_dies : Row
die_when_link_dies = record {
  call = 16;
  import_module = codes "lunatic::process";
  import_name = codes "die_when_link_dies";
  params = I32 ∷ [];
  result = None;
  kind = World;
  reads = NoArea;
  text = None;
  word = None;
  may_come = comes.Nothing;
  results = NoResult;
  refusable = false;
}

-- 17, sleep_ms(ms): waits
abbrev pub sleep_ms : Row
sleep_ms = record {
  call = 17;
  import_module = codes "lunatic::process";
  import_name = codes "sleep_ms";
  params = I64 ∷ [];
  result = None;
  kind = World;
  reads = NoArea;
  text = None;
  word = None;
  may_come = comes.Clock;
  results = NoResult;
  refusable = false;
}

-- the rows of these calls
abbrev pub process_rows : List Row
process_rows =
    process_id ∷ exists ∷ spawn ∷ kill ∷ link ∷ unlink ∷ die_when_link_dies ∷ sleep_ms ∷ []
