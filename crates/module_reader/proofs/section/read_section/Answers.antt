use Rattle.std.proofs.lemmas.Result.{err_from_is_err_and}
use Rattle.body_reader.proofs.Pieces.{refused_with}
use Rattle.module_reader.proofs.section.read_section.Goals as goal

pub returns-in_err-parts-in-Types : goal.returns-in_err-parts-in-Types
returns-in_err-parts-in-Types c =
    let p = err_from_is_err_and c.from_residual.result c.from_residual.ensures.1 in
    rw c.in-Types.is (refused_with _ _ _ _ _ p.1 p.2 (λ m q. c.in_err-parts-in-Types.ensures m q.types))

pub returns-in_err-parts-in-Imports : goal.returns-in_err-parts-in-Imports
returns-in_err-parts-in-Imports c =
    let p = err_from_is_err_and c.from_residual-in_err-parts-in-Imports.result c.from_residual-in_err-parts-in-Imports.ensures.1 in
    rw c.in-Imports.is (refused_with _ _ _ _ _ p.1 p.2 (λ m q. c.in_err-parts-in-Imports.ensures m q.imports))

pub returns-in_err-parts-in-Functions : goal.returns-in_err-parts-in-Functions
returns-in_err-parts-in-Functions c =
    let p = err_from_is_err_and c.from_residual-in_err-parts-in-Functions.result c.from_residual-in_err-parts-in-Functions.ensures.1 in
    rw c.in-Functions.is (refused_with _ _ _ _ _ p.1 p.2 (λ m q. c.in_err-parts-in-Functions.ensures m q.functions))

pub returns-in_err-parts-in-Tables : goal.returns-in_err-parts-in-Tables
returns-in_err-parts-in-Tables c =
    let p = err_from_is_err_and c.from_residual-in_err-parts-in-Tables.result c.from_residual-in_err-parts-in-Tables.ensures.1 in
    rw c.in-Tables.is (refused_with _ _ _ _ _ p.1 p.2 (λ m q. c.in_err-parts-in-Tables.ensures m q.tables))

pub returns-in_err-parts-in-Memories : goal.returns-in_err-parts-in-Memories
returns-in_err-parts-in-Memories c =
    let p = err_from_is_err_and c.from_residual-in_err-parts-in-Memories.result c.from_residual-in_err-parts-in-Memories.ensures.1 in
    rw c.in-Memories.is (refused_with _ _ _ _ _ p.1 p.2 (λ m q. c.in_err-parts-in-Memories.ensures m q.memories))

pub returns-in_err-parts-in-Globals : goal.returns-in_err-parts-in-Globals
returns-in_err-parts-in-Globals c =
    let p = err_from_is_err_and c.from_residual-in_err-parts-in-Globals.result c.from_residual-in_err-parts-in-Globals.ensures.1 in
    rw c.in-Globals.is (refused_with _ _ _ _ _ p.1 p.2 (λ m q. c.in_err-parts-in-Globals.ensures m q.globals))

pub returns-in_err-parts-in-Exports : goal.returns-in_err-parts-in-Exports
returns-in_err-parts-in-Exports c =
    let p = err_from_is_err_and c.from_residual-in_err-parts-in-Exports.result c.from_residual-in_err-parts-in-Exports.ensures.1 in
    rw c.in-Exports.is (refused_with _ _ _ _ _ p.1 p.2 (λ m q. c.in_err-parts-in-Exports.ensures m q.exports))

pub returns-in_err-parts-in-Start : goal.returns-in_err-parts-in-Start
returns-in_err-parts-in-Start c =
    let p = err_from_is_err_and c.from_residual-in_err-parts-in-Start.result c.from_residual-in_err-parts-in-Start.ensures.1 in
    rw c.in-Start.is (refused_with _ _ _ _ _ p.1 p.2 (λ m q. c.in_err-parts-in-Start.ensures m q.start))

pub returns-in_err-parts-in-Elements : goal.returns-in_err-parts-in-Elements
returns-in_err-parts-in-Elements c =
    let p = err_from_is_err_and c.from_residual-in_err-parts-in-Elements.result c.from_residual-in_err-parts-in-Elements.ensures.1 in
    rw c.in-Elements.is (refused_with _ _ _ _ _ p.1 p.2 (λ m q. c.in_err-parts-in-Elements.ensures m q.elements))

pub returns-in_err-parts-in-Bodies : goal.returns-in_err-parts-in-Bodies
returns-in_err-parts-in-Bodies c =
    let p = err_from_is_err_and c.from_residual-in_err-parts-in-Bodies.result c.from_residual-in_err-parts-in-Bodies.ensures.1 in
    rw c.in-Bodies.is (refused_with _ _ _ _ _ p.1 p.2 (λ m q. c.in_err-parts-in-Bodies.ensures m q.bodies))

pub returns-in_err-parts-in-Segments : goal.returns-in_err-parts-in-Segments
returns-in_err-parts-in-Segments c =
    let p = err_from_is_err_and c.from_residual-in_err-parts-in-Segments.result c.from_residual-in_err-parts-in-Segments.ensures.1 in
    rw c.in-Segments.is (refused_with _ _ _ _ _ p.1 p.2 (λ m q. c.in_err-parts-in-Segments.ensures m q.segments))
