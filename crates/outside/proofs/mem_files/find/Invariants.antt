use Rattle.std.proofs.Common.{◌≡◌, map, drop, string_bytes}
use Rattle.outside.specs.MemFiles.{contents_of}
use Rattle.outside.proofs.mem_files.find.Given as goal

abbrev pub invariant-loop-known : goal.invariant-loop-known
invariant-loop-known l =
    contents_of (map (λ file. (string_bytes file.0, file.1.items)) l.files) l.name
    ≡ contents_of (map (λ file. (string_bytes file.0, file.1.items)) (drop l.known-index l.files)) l.name
