use Rattle.std.proofs.Common.{sym, subst}
use Rattle.code_map.specs.Counts.{Count}
use Rattle.code_map.proofs.Counting.{control_counted, call_counted, indirect_counted}
use Rattle.code_map.proofs.signatures.Signatures.control.Goals as goal

pub returns-then-instr-eq16-clause-counted : goal.returns-then-instr-eq16-clause-counted
returns-then-instr-eq16-clause-counted c = call_counted c.args.self.now c.requires.narrow c.args.instr c.requires.kind c.call.result c.if-instr-eq16.true c.call.ensures.counted

pub returns-then-instr-eq17-clause-counted : goal.returns-then-instr-eq17-clause-counted
returns-then-instr-eq17-clause-counted c = indirect_counted c.args.self.now c.requires.narrow c.args.instr c.requires.kind c.call_indirect.result c.if-instr-eq17.true c.call_indirect.ensures.counted

pub returns-clause-counted : goal.returns-clause-counted
returns-clause-counted c m context ty are inside typed =
    subst (λ k. Count k ty) (sym c.by_code.ensures.is) (control_counted context c.args.instr ty c.requires.kind c.if-instr-eq16.false c.if-instr-eq17.false typed)
