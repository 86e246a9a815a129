-- The host calls of streams and listeners.
use Rattle.std.specs.Prelude.{List, [], ◌∷◌, Some, None, true, false, codes}
use Rattle.wasm_ops.specs.declared.num.Num.TheVariants.{I32, I64}
use Rattle.host_port.specs.declared.row.MayCome.TheVariants as comes
use Rattle.host_port.specs.Rows.{Row, Local, Outside, NoArea, OneArea, Plain, OnlyWith, Four, Eight, AnyValue, LengthOfText, AtMost, NoResult, OneOf, UpTo}

-- 27, tcp_bind(ip, port, id): 0 with the number of the listener at `id`, 1 where it failed, 2 where 16 are there, 12
-- for want of memory
abbrev pub tcp_bind : Row
tcp_bind = record {
  call = 27;
  import_module = codes "lunatic::networking";
  import_name = codes "tcp_bind";
  params = I32 ∷ I32 ∷ I32 ∷ [];
  result = Some I32;
  kind = Outside;
  reads = NoArea;
  text = None;
  word = Some (record { addr = 2; width = Eight; when = OnlyWith 0; value = AnyValue });
  may_come = comes.Answer false false;
  results = OneOf (0 ∷ 1 ∷ 2 ∷ 12 ∷ []);
  refusable = false;
}

-- 28, tcp_local_port(listener): its port
abbrev pub tcp_local_port : Row
tcp_local_port = record {
  call = 28;
  import_module = codes "lunatic::networking";
  import_name = codes "tcp_local_port";
  params = I64 ∷ [];
  result = Some I32;
  kind = Outside;
  reads = NoArea;
  text = None;
  word = None;
  may_come = comes.Answer false false;
  results = UpTo 65535;
  refusable = false;
}

-- 29, tcp_accept(listener, id): 0 with the number of the stream at `id`, 1 where it failed, 2 where 256 are there, 12
-- for want of memory
abbrev pub tcp_accept : Row
tcp_accept = record {
  call = 29;
  import_module = codes "lunatic::networking";
  import_name = codes "tcp_accept";
  params = I64 ∷ I32 ∷ [];
  result = Some I32;
  kind = Outside;
  reads = NoArea;
  text = None;
  word = Some (record { addr = 1; width = Eight; when = OnlyWith 0; value = AnyValue });
  may_come = comes.Answer true true;
  results = OneOf (0 ∷ 1 ∷ 2 ∷ 12 ∷ []);
  refusable = false;
}

-- 30, tcp_connect(ip, port, id): 0 with the number of the stream at `id`, 1 where it failed, 2 where 256 are there, 12
-- for want of memory
abbrev pub tcp_connect : Row
tcp_connect = record {
  call = 30;
  import_module = codes "lunatic::networking";
  import_name = codes "tcp_connect";
  params = I32 ∷ I32 ∷ I32 ∷ [];
  result = Some I32;
  kind = Outside;
  reads = NoArea;
  text = None;
  word = Some (record { addr = 2; width = Eight; when = OnlyWith 0; value = AnyValue });
  may_come = comes.Answer false true;
  results = OneOf (0 ∷ 1 ∷ 2 ∷ 12 ∷ []);
  refusable = false;
}

-- 31, tcp_read(stream, ptr, len, n): 0 with the bytes at `ptr`, at most 65,536, and their count at `n`; 1 where it
-- failed
abbrev pub tcp_read : Row
tcp_read = record {
  call = 31;
  import_module = codes "lunatic::networking";
  import_name = codes "tcp_read";
  params = I64 ∷ I32 ∷ I32 ∷ I32 ∷ [];
  result = Some I32;
  kind = Outside;
  reads = NoArea;
  text = Some (record {
    addr = 1;
    length = 2;
    most = 65536;
    when = OnlyWith 0;
    counted = false;
  });
  word = Some (record { addr = 3; width = Four; when = OnlyWith 0; value = LengthOfText });
  may_come = comes.Answer true false;
  results = OneOf (0 ∷ 1 ∷ []);
  refusable = false;
}

-- 32, tcp_write(stream, ptr, len, n): 0 with the count of the bytes that were written at `n`, at most 65,536; 1 where
-- it failed
abbrev pub tcp_write : Row
tcp_write = record {
  call = 32;
  import_module = codes "lunatic::networking";
  import_name = codes "tcp_write";
  params = I64 ∷ I32 ∷ I32 ∷ I32 ∷ [];
  result = Some I32;
  kind = Outside;
  reads = OneArea (record { addr = 1; length = 2; holds = Plain });
  text = None;
  word = Some (record { addr = 3; width = Four; when = OnlyWith 0; value = AtMost 2 65536 });
  may_come = comes.Answer true false;
  results = OneOf (0 ∷ 1 ∷ []);
  refusable = false;
}

-- 33, drop_tcp_stream(stream): closes it
abbrev pub drop_tcp_stream : Row
drop_tcp_stream = record {
  call = 33;
  import_module = codes "lunatic::networking";
  import_name = codes "drop_tcp_stream";
  params = I64 ∷ [];
  result = None;
  kind = Local;
  reads = NoArea;
  text = None;
  word = None;
  may_come = comes.Nothing;
  results = NoResult;
  refusable = false;
}

-- 34, drop_tcp_listener(listener): shuts it
abbrev pub drop_tcp_listener : Row
drop_tcp_listener = record {
  call = 34;
  import_module = codes "lunatic::networking";
  import_name = codes "drop_tcp_listener";
  params = I64 ∷ [];
  result = None;
  kind = Local;
  reads = NoArea;
  text = None;
  word = None;
  may_come = comes.Nothing;
  results = NoResult;
  refusable = false;
}

-- the rows of these calls
abbrev pub network_rows : List Row
network_rows =
    tcp_bind ∷ tcp_local_port ∷ tcp_accept ∷ tcp_connect ∷ tcp_read ∷ tcp_write ∷ drop_tcp_stream
    ∷ drop_tcp_listener ∷ []
