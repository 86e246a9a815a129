use Rattle.std.proofs.Common.{map}
use Rattle.lunatic_cli.specs.Headline.{tellings_of}
use Rattle.lunatic_cli.proofs.Completions.{module_completes, judged_is_read}
use Rattle.lunatic_cli.proofs.Outsides.{falls-refl, goes-refl}
use Rattle.lunatic_cli.proofs.RunFile.{headline-of, blank-closed, refused-run, refused-unrun}
use Rattle.lunatic_cli.proofs.Told.{runs-read, begun-told, unbegun-refused, stalled-by, stalls-by, idled-by, idles-by, starved-by}
use Rattle.lunatic_cli.proofs.run_file.run_call.Goals as goal

-- an accepted module

pub returns-in-Ok-clause-headline : goal.returns-in-Ok-clause-headline
returns-in-Ok-clause-headline g c three four five eight =
    headline-of _ _ c.args.options.now c.in-Ok.valid.parts _ c.run.result c.in-Ok.ensures.accepted (rw c.in-Ok.ensures.silent at c.run.ensures.runs) three five eight

pub returns-in-Ok-clause-ends : goal.returns-in-Ok-clause-ends
returns-in-Ok-clause-ends g c =
    let run = rw c.in-Ok.ensures.silent at c.run.ensures.runs in
    rw c.run.ensures.verdict (record { module_of_file = c.in-Ok.valid.parts; file = c.in-Ok.ensures.accepted; run = run })

pub returns-in-Ok-clause-stalled : goal.returns-in-Ok-clause-stalled
returns-in-Ok-clause-stalled g c stall = stalled-by c.args.options.now c.in-Ok.valid.parts _ c.run.result c.run.ensures.runs stall (c.run.ensures.one_cause stall)

pub returns-in-Ok-clause-stalls : goal.returns-in-Ok-clause-stalls
returns-in-Ok-clause-stalls g c six = stalls-by c.args.options.now c.in-Ok.valid.parts _ c.run.result c.run.ensures.runs six

pub returns-in-Ok-clause-idled : goal.returns-in-Ok-clause-idled
returns-in-Ok-clause-idled g c idle = idled-by c.args.options.now c.in-Ok.valid.parts _ c.run.result c.run.ensures.runs idle

pub returns-in-Ok-clause-idles : goal.returns-in-Ok-clause-idles
returns-in-Ok-clause-idles g c seven = idles-by c.args.options.now c.in-Ok.valid.parts _ c.run.result c.run.ensures.runs seven

pub returns-in-Ok-clause-starved : goal.returns-in-Ok-clause-starved
returns-in-Ok-clause-starved g c starve = starved-by c.args.options.now c.in-Ok.valid.parts _ c.run.result c.run.ensures.runs starve

pub returns-in-Ok-clause-closed_blank : goal.returns-in-Ok-clause-closed_blank
returns-in-Ok-clause-closed_blank g c blank = blank-closed c.args.options.now c.in-Ok.valid.parts _ c.run.result c.run.ensures.runs blank

pub returns-in-Ok-clause-refused : goal.returns-in-Ok-clause-refused
returns-in-Ok-clause-refused g c = refused-run c.run.result.verdict c.run.result.start c.run.result.status c.run.ensures.verdict c.run.ensures.refused

pub returns-in-Ok-clause-completes : goal.returns-in-Ok-clause-completes
returns-in-Ok-clause-completes g c files lacks sink =
    let stayed = rw (← c.in-Ok.ensures.silent) at sink in
    module_completes c.accepted_alone.ensures c.one_module.ensures _ _ c.args.options.now c.in-Ok.valid.parts c.run.result.status c.in-Ok.ensures.accepted
    (record {
      begun = λ begun. begun-told c.args.options.now c.in-Ok.valid.parts _ c.run.result _ _ c.run.ensures.runs c.run.ensures.unwritten stayed begun;
      returned = λ returns. c.run.ensures.returned returns stayed;
      unbegun = λ why unbegun. unbegun-refused c.args.options.now c.in-Ok.valid.parts _ c.run.result why c.run.ensures.runs unbegun;
    })

pub returns-in-Ok-clause-unread_told : goal.returns-in-Ok-clause-unread_told
returns-in-Ok-clause-unread_told g c =
    judged_is_read _ _ c.in-Ok.ensures.accepted.bytes _ _ _ c.in-Ok.ensures.accepted.is_content (runs-read c.args.options.now c.in-Ok.valid.parts _ c.run.result c.run.ensures.runs)

-- nothing ran

pub returns-in-Err-clause-ends : goal.returns-in-Err-clause-ends
returns-in-Err-clause-ends g c =
    c.in-Err.ensures.ends c.args.options.now
    (tellings_of g.O.Outside.clock g.O.Outside.faults g.O.Outside.waits g.O.Outside.rests c.args.outsides.now.items c.args.outsides.now.items)

pub returns-in-Err-clause-refused : goal.returns-in-Err-clause-refused
returns-in-Err-clause-refused g c =
    refused-unrun c.in-Err.finish.verdict c.in-Err.finish.start c.in-Err.finish.status c.in-Err.ensures.unaccepted c.in-Err.ensures.unstarted c.in-Err.ensures.refused

pub returns-in-Err-clause-clocks : goal.returns-in-Err-clause-clocks
returns-in-Err-clause-clocks g c = goes-refl (map g.O.Outside.clock c.args.outsides.now.items)

pub returns-in-Err-clause-faults : goal.returns-in-Err-clause-faults
returns-in-Err-clause-faults g c = falls-refl (map g.O.Outside.faults c.args.outsides.now.items)

pub returns-in-Err-clause-waits : goal.returns-in-Err-clause-waits
returns-in-Err-clause-waits g c = falls-refl (map g.O.Outside.waits c.args.outsides.now.items)

pub returns-in-Err-clause-rests : goal.returns-in-Err-clause-rests
returns-in-Err-clause-rests g c = falls-refl (map g.O.Outside.rests c.args.outsides.now.items)
