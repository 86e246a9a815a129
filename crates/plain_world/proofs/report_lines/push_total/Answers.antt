use Rattle.std.proofs.Common.{string_bytes, codes, ◌∷◌, []}
use Rattle.std.specs.Fmt.{decimal}
use Rattle.plain_world.proofs.ReportPieces.{three_fields}
use Rattle.plain_world.proofs.report_lines.push_total.Goals as goal

pub returns : goal.returns
returns c = three_fields c.args.text.now.items (string_bytes c.new-line.result) (string_bytes c.push_field.new.text)
    (string_bytes c.push_field-2.new.text) (string_bytes c.push_field-3.new.text) (string_bytes c.push_str.new.self)
    c.extend_from_slice.new.self.items
    (codes "total processes ") (decimal c.args.processes) (codes " messages ") (decimal c.args.messages)
    (codes " streams ") (decimal c.args.streams) (10 ∷ [])
    c.new-line.ensures.bytes c.in_ok-push_field.ensures c.in_ok-push_field-2.ensures c.in_ok-push_field-3.ensures
    c.in_ok-push_str.ensures.bytes (rw (← c.as_bytes.ensures.value) c.in_ok-extend_from_slice.ensures.items)
