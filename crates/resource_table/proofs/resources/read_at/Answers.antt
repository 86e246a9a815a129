use Rattle.std.proofs.Common.{◌≡◌, ◌<◌, length, get_or, rules}
use Rattle.resource_table.proofs.Tables.{changes}
use Rattle.resource_table.proofs.resources.read_at.Goals as goal

pub returns-clause-read : goal.returns-clause-read
returns-clause-read g c =
    let xs = c.args.handles.now.items in
    let before = c.index_mut.result.now in
    let read : before ≡ get_or xs c.args.place before = search rules in
    let lt : c.args.place < length xs = search rules in
    changes xs c.args.place before c.read.new.self _ lt read c.read.ensures.number c.read.ensures.read
