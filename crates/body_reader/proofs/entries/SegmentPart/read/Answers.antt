use Rattle.std.proofs.lemmas.Result.{err_from_is_err_and}
use Rattle.body_reader.proofs.Pieces.{read_both, none_second, refused}
use Rattle.body_reader.proofs.Fields.{segment, both, none_both}
use Rattle.body_reader.proofs.entries.SegmentPart.read.Goals as goal

pub returns : goal.returns
returns c =
    read_both _ _ _ _ _ _ _ _ _ (segment c.in_ok-memory.memory) c.in_ok-memory.ensures (read_both _ _ _ _ _ _ _ _ _ (both _ _ c.in_ok-offset.offset) c.in_ok-offset.ensures c.in_ok-bytes.ensures)

pub returns-in_err-offset : goal.returns-in_err-offset
returns-in_err-offset c =
    let p = err_from_is_err_and c.from_residual-in_err-offset.result c.from_residual-in_err-offset.ensures.1 in
    refused _ _ _ _ _ _ p.1 p.2 (λ m. none_second _ _ _ _ _ _ _ (segment c.in_ok-memory.memory) c.in_ok-memory.ensures (none_both _ _ _ (c.in_err-offset.ensures m)))

pub returns-in_err-bytes : goal.returns-in_err-bytes
returns-in_err-bytes c =
    let p = err_from_is_err_and c.from_residual-in_err-bytes.result c.from_residual-in_err-bytes.ensures.1 in
    refused _ _ _ _ _ _ p.1 p.2 (λ m. none_second _ _ _ _ _ _ _ (segment c.in_ok-memory.memory) c.in_ok-memory.ensures (none_second _ _ _ _ _ _ _ (both _ _ c.in_ok-offset.offset) c.in_ok-offset.ensures (c.in_err-bytes.ensures m)))
