-- The host calls of the scratch message, and sending and receiving it.
use Rattle.std.specs.Prelude.{List, [], ◌∷◌, Some, None, true, false, codes}
use Rattle.wasm_ops.specs.declared.num.Num.TheVariants.{I32, I64}
use Rattle.host_port.specs.declared.row.MayCome.TheVariants as comes
use Rattle.host_port.specs.Rows.{Row, Local, World, NoArea, OneArea, Plain, Tags, Always, NoResult, OneOf, UpTo, Count, AnyI64}

-- 0, create_data(tag, size): a new scratch message; the size is ignored
abbrev pub create_data : Row
create_data = record {
  call = 0;
  import_module = codes "lunatic::message";
  import_name = codes "create_data";
  params = I64 ∷ I64 ∷ [];
  result = None;
  kind = Local;
  reads = NoArea;
  text = None;
  word = None;
  may_come = comes.Nothing;
  results = NoResult;
  refusable = false;
}

-- 1, write_data(ptr, len): appends bytes to the scratch message, and gives how many
abbrev pub write_data : Row
write_data = record {
  call = 1;
  import_module = codes "lunatic::message";
  import_name = codes "write_data";
  params = I32 ∷ I32 ∷ [];
  result = Some I32;
  kind = Local;
  reads = OneArea (record { addr = 0; length = 1; holds = Plain });
  text = None;
  word = None;
  may_come = comes.Nothing;
  results = Count 1 1048576;
  refusable = false;
}

-- 2, read_data(ptr, len): copies bytes of the scratch message from its read place, and gives how many
abbrev pub read_data : Row
read_data = record {
  call = 2;
  import_module = codes "lunatic::message";
  import_name = codes "read_data";
  params = I32 ∷ I32 ∷ [];
  result = Some I32;
  kind = Local;
  reads = NoArea;
  text = Some (record {
    addr = 0;
    length = 1;
    most = 4294967295;
    when = Always;
    counted = true;
  });
  word = None;
  may_come = comes.Nothing;
  results = Count 1 4294967295;
  refusable = false;
}

-- 3, seek_data(at): sets the read place of the scratch message
abbrev pub seek_data : Row
seek_data = record {
  call = 3;
  import_module = codes "lunatic::message";
  import_name = codes "seek_data";
  params = I64 ∷ [];
  result = None;
  kind = Local;
  reads = NoArea;
  text = None;
  word = None;
  may_come = comes.Nothing;
  results = NoResult;
  refusable = false;
}

-- 4, data_size(): how many bytes the scratch message has
abbrev pub data_size : Row
data_size = record {
  call = 4;
  import_module = codes "lunatic::message";
  import_name = codes "data_size";
  params = [];
  result = Some I64;
  kind = Local;
  reads = NoArea;
  text = None;
  word = None;
  may_come = comes.Nothing;
  results = AnyI64;
  refusable = false;
}

-- 5, get_tag(): the tag of the scratch message
abbrev pub get_tag : Row
get_tag = record {
  call = 5;
  import_module = codes "lunatic::message";
  import_name = codes "get_tag";
  params = [];
  result = Some I64;
  kind = Local;
  reads = NoArea;
  text = None;
  word = None;
  may_come = comes.Nothing;
  results = AnyI64;
  refusable = false;
}

-- 6, push_tcp_stream(handle): moves a stream into the next place of the scratch message, one of 64, and gives the place
abbrev pub push_tcp_stream : Row
push_tcp_stream = record {
  call = 6;
  import_module = codes "lunatic::message";
  import_name = codes "push_tcp_stream";
  params = I64 ∷ [];
  result = Some I64;
  kind = Local;
  reads = NoArea;
  text = None;
  word = None;
  may_come = comes.Nothing;
  results = UpTo 63;
  refusable = false;
}

-- 7, take_tcp_stream(place): moves a stream out of the scratch message, and gives its number
abbrev pub take_tcp_stream : Row
take_tcp_stream = record {
  call = 7;
  import_module = codes "lunatic::message";
  import_name = codes "take_tcp_stream";
  params = I64 ∷ [];
  result = Some I64;
  kind = Local;
  reads = NoArea;
  text = None;
  word = None;
  may_come = comes.Nothing;
  results = AnyI64;
  refusable = false;
}

-- 8, send(pid): 0 where it was sent, 1 where no such process lives, 2 where its mailbox is full, 12 for want of memory
abbrev pub send : Row
send = record {
  call = 8;
  import_module = codes "lunatic::message";
  import_name = codes "send";
  params = I64 ∷ [];
  result = Some I32;
  kind = World;
  reads = NoArea;
  text = None;
  word = None;
  may_come = comes.Nothing;
  results = OneOf (0 ∷ 1 ∷ 2 ∷ 12 ∷ []);
  refusable = true;
}

-- 9, receive(tags, count, ms): reads `count` tags of eight bytes; 0 for a message, 1 for a signal, 9027 where the time
-- is up
abbrev pub receive : Row
receive = record {
  call = 9;
  import_module = codes "lunatic::message";
  import_name = codes "receive";
  params = I32 ∷ I32 ∷ I64 ∷ [];
  result = Some I32;
  kind = World;
  reads = OneArea (record { addr = 0; length = 1; holds = Tags });
  text = None;
  word = None;
  may_come = comes.Clock;
  results = OneOf (0 ∷ 1 ∷ 9027 ∷ []);
  refusable = false;
}

-- the rows of these calls
abbrev pub message_rows : List Row
message_rows =
    create_data ∷ write_data ∷ read_data ∷ seek_data ∷ data_size ∷ get_tag ∷ push_tcp_stream ∷ take_tcp_stream
    ∷ send ∷ receive ∷ []
