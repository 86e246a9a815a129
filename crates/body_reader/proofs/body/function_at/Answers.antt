use Rattle.std.proofs.Common.{◌≡◌, ◌<◌, ◌^◌, [], true, false}
use Rattle.std.proofs.lemmas.Result.{err_from_is_err_and}
use Rattle.body_reader.proofs.Pieces.{read_both, none_first, none_second, refused}
use Rattle.body_reader.proofs.Bodies.{function, few, none_after, too_many, locals_of}
use Rattle.body_reader.proofs.body.function_at.Goals as goal

pub returns : goal.returns
returns c =
    let less : locals_of c.in_ok-locals.locals < 2 ^ 32 = rw c.as_slice.ensures at (c.are_few.ensures.0 c.if-not-are_few.false) in
    read_both _ _ _ _ _ _ _ _ _ (function c.in_ok-locals.locals) c.in_ok-locals.ensures (few c.in_ok-locals.locals _ _ _ less c.in_ok-expr.ensures)

pub returns-in_err-locals : goal.returns-in_err-locals
returns-in_err-locals c =
    let p = err_from_is_err_and c.from_residual.result c.from_residual.ensures.1 in
    refused _ _ _ _ _ _ p.1 p.2 (λ m. none_first _ _ _ _ _ c.args.cursor.now (function []) (c.in_err-locals.ensures m))

pub returns-then-not-are_few : goal.returns-then-not-are_few
returns-then-not-are_few c m =
    none_second _ _ _ _ _ _ _ (function c.in_ok-locals.locals) c.in_ok-locals.ensures (too_many c.in_ok-locals.locals _ (λ less. let yes : c.are_few.result ≡ true = c.are_few.ensures.1 (rw c.as_slice.ensures less) in let no : c.are_few.result ≡ false = c.if-not-are_few.true in cc))

pub returns-in_err-expr : goal.returns-in_err-expr
returns-in_err-expr c =
    let p = err_from_is_err_and c.from_residual-in_err-expr.result c.from_residual-in_err-expr.ensures.1 in
    refused _ _ _ _ _ _ p.1 p.2 (λ m. none_second _ _ _ _ _ _ _ (function c.in_ok-locals.locals) c.in_ok-locals.ensures (none_after c.in_ok-locals.locals _ (c.in_err-expr.ensures m)))
