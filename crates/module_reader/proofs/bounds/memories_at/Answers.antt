use Rattle.std.proofs.lemmas.Result.{err_from_is_err_and}
use Rattle.body_reader.proofs.Pieces.{read_seen, none_seen, refused}
use Rattle.module_reader.proofs.Boxed.{memories_seen}
use Rattle.module_reader.proofs.bounds.memories_at.Goals as goal

pub returns : goal.returns
returns c = rw (c.in_ok-bounds.ensures, c.as_slice.ensures) (read_seen _ _ _ _ _ _ memories_seen c.in_ok-types.ensures)

pub returns-in_err-types : goal.returns-in_err-types
returns-in_err-types c =
    let p = err_from_is_err_and c.from_residual.result c.from_residual.ensures.1 in
    refused _ _ _ _ _ _ p.1 p.2 (λ m. none_seen _ _ _ c.args.cursor.now memories_seen (c.in_err-types.ensures m))
