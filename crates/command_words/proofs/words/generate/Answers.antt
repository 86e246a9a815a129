use Rattle.std.proofs.Common.{arith, map, string_bytes, []}
use Rattle.std.proofs.lemmas.Grind.{common_steps}
use Rattle.command_words.specs.Said.{understood}
use Rattle.command_words.proofs.Askings.{gen_many}
use Rattle.command_words.proofs.words.generate.Goals as goal
use Rattle.command_words.proofs.words.generate.Goals.{in_default-texts-via-then-texts-lt1, in_default-texts-via-else-texts-lt1+else-texts-lt2}

pub returns-in_default-texts : goal.returns-in_default-texts
returns-in_default-texts c = λ w. gen_many (understood [] (map string_bytes c.args.words.now)) c.in_ok-matches.matches c.in-Some.texts.now c.in_ok-matches.ensures c.in-Some.ensures
    (λ one. elim c.in_default-texts.branch [ in_default-texts-via-then-texts-lt1 w ↦ grind (arith, common_steps) | in_default-texts-via-else-texts-lt1+else-texts-lt2 w ↦ grind (arith, common_steps) ])
