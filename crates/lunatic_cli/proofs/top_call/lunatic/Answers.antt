use Rattle.std.proofs.Common.{map}
use Rattle.lunatic_cli.specs.declared.words.Asked.TheVariants.{Run, Check}
use Rattle.lunatic_cli.proofs.Asked.{asked_is, asked_unread}
use Rattle.lunatic_cli.proofs.Outsides.{falls-refl, goes-refl}
use Rattle.lunatic_cli.proofs.top_call.lunatic.Goals as goal

-- the file is read as the words say

pub returns-in-Ok-Run-clause-unread_told : goal.returns-in-Ok-Run-clause-unread_told
returns-in-Ok-Run-clause-unread_told g c =
    let asked = asked_is _ c.read_words.result c.in-Ok-Run.field-0 (Run c.in-Ok-Run.name c.in-Ok-Run.options) c.read_words.ensures.told c.in-Ok-Run.is c.in-Ok-Run.field-0-is in
    asked_unread _ _ _ _ _ _ _ asked c.as_str.ensures c.run_call.ensures.unread_told

pub returns-in-Ok-Check-clause-unread_told : goal.returns-in-Ok-Check-clause-unread_told
returns-in-Ok-Check-clause-unread_told g c =
    let asked = asked_is _ c.read_words.result c.in-Ok-Check.field-0 (Check c.in-Ok-Check.name) c.read_words.ensures.told c.in-Ok-Check.is c.in-Ok-Check.field-0-is in
    rw c.of_check.ensures.status (asked_unread _ _ _ c.check_call.result.status _ _ _ asked c.as_str-in-Ok-Check.ensures c.check_call.ensures.unread_told)

-- where nothing ran the outsides are as they were: a check

pub returns-in-Ok-Check-clause-clocks : goal.returns-in-Ok-Check-clause-clocks
returns-in-Ok-Check-clause-clocks g c = goes-refl (map g.O.Outside.clock c.args.outsides.now.items)

pub returns-in-Ok-Check-clause-faults : goal.returns-in-Ok-Check-clause-faults
returns-in-Ok-Check-clause-faults g c = falls-refl (map g.O.Outside.faults c.args.outsides.now.items)

pub returns-in-Ok-Check-clause-waits : goal.returns-in-Ok-Check-clause-waits
returns-in-Ok-Check-clause-waits g c = falls-refl (map g.O.Outside.waits c.args.outsides.now.items)

pub returns-in-Ok-Check-clause-rests : goal.returns-in-Ok-Check-clause-rests
returns-in-Ok-Check-clause-rests g c = falls-refl (map g.O.Outside.rests c.args.outsides.now.items)

-- words that are refused

pub returns-in-Err-Words-clause-clocks : goal.returns-in-Err-Words-clause-clocks
returns-in-Err-Words-clause-clocks g c = goes-refl (map g.O.Outside.clock c.args.outsides.now.items)

pub returns-in-Err-Words-clause-faults : goal.returns-in-Err-Words-clause-faults
returns-in-Err-Words-clause-faults g c = falls-refl (map g.O.Outside.faults c.args.outsides.now.items)

pub returns-in-Err-Words-clause-waits : goal.returns-in-Err-Words-clause-waits
returns-in-Err-Words-clause-waits g c = falls-refl (map g.O.Outside.waits c.args.outsides.now.items)

pub returns-in-Err-Words-clause-rests : goal.returns-in-Err-Words-clause-rests
returns-in-Err-Words-clause-rests g c = falls-refl (map g.O.Outside.rests c.args.outsides.now.items)

-- no memory to read the words

pub returns-in-Err-NoMemory-clause-clocks : goal.returns-in-Err-NoMemory-clause-clocks
returns-in-Err-NoMemory-clause-clocks g c = goes-refl (map g.O.Outside.clock c.args.outsides.now.items)

pub returns-in-Err-NoMemory-clause-faults : goal.returns-in-Err-NoMemory-clause-faults
returns-in-Err-NoMemory-clause-faults g c = falls-refl (map g.O.Outside.faults c.args.outsides.now.items)

pub returns-in-Err-NoMemory-clause-waits : goal.returns-in-Err-NoMemory-clause-waits
returns-in-Err-NoMemory-clause-waits g c = falls-refl (map g.O.Outside.waits c.args.outsides.now.items)

pub returns-in-Err-NoMemory-clause-rests : goal.returns-in-Err-NoMemory-clause-rests
returns-in-Err-NoMemory-clause-rests g c = falls-refl (map g.O.Outside.rests c.args.outsides.now.items)
