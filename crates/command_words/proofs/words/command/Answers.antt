use Rattle.std.proofs.Common.{◌∙◌, ◌∷◌, ap, sym, map, string_bytes}
use Rattle.command_words.proofs.Sounds.{run_told, check_told, gen_told, solo_told}
use Rattle.command_words.proofs.Askings.{no_command}
use Rattle.command_words.proofs.words.command.Goals as goal

pub returns-in-run-clause-sound : goal.returns-in-run-clause-sound
returns-in-run-clause-sound c = run_told (map string_bytes c.in-Some.rest.now) c.run.result c.run.ensures

pub returns-in-check-clause-sound : goal.returns-in-check-clause-sound
returns-in-check-clause-sound c = check_told (map string_bytes c.in-Some.rest.now) c.check.result c.check.ensures

pub returns-in-gen-clause-sound : goal.returns-in-gen-clause-sound
returns-in-gen-clause-sound c = gen_told (map string_bytes c.in-Some.rest.now) c.generate.result c.generate.ensures

pub returns-in-solo-clause-sound : goal.returns-in-solo-clause-sound
returns-in-solo-clause-sound c = solo_told (map string_bytes c.in-Some.rest.now) c.solo.result c.solo.ensures

pub returns-in_default-as_str-clause-told : goal.returns-in_default-as_str-clause-told
returns-in_default-as_str-clause-told c = λ w. no_command (map string_bytes c.args.words.now) (map string_bytes c.in-Some.rest.now) c.as_str.result.now
    (ap (map string_bytes) c.in-Some.ensures.cases.0 ∙ ap (λ first. first ∷ map string_bytes c.in-Some.rest.now) (sym c.as_str.ensures.value))
    c.in_default-as_str.not-run c.in_default-as_str.not-check c.in_default-as_str.not-gen c.in_default-as_str.not-solo
