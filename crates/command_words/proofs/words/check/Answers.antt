use Rattle.std.proofs.Common.{arith, map, string_bytes, [], List, ℕ, Bor, get_or}
use Rattle.std.proofs.lemmas.Grind.{common_steps}
use Rattle.command_words.specs.Said.{understood}
use Rattle.command_words.proofs.Askings.{check_many, check_is, one_text}
use Rattle.command_words.proofs.words.check.Goals as goal
use Rattle.command_words.proofs.words.check.Goals.{in_default-texts-via-then-texts-lt1, in_default-texts-via-else-texts-lt1+else-texts-lt2}

pub returns-in_default-texts : goal.returns-in_default-texts
returns-in_default-texts c = λ w. check_many (understood [] (map string_bytes c.args.words.now)) c.in_ok-matches.matches c.in-Some.texts.now c.in_ok-matches.ensures c.in-Some.ensures
    (λ one. elim c.in_default-texts.branch [ in_default-texts-via-then-texts-lt1 w ↦ grind (arith, common_steps) | in_default-texts-via-else-texts-lt1+else-texts-lt2 w ↦ grind (arith, common_steps) ])

pub returns : goal.returns
returns c =
    let d : Bor (List ℕ) = record { ref_ptr = (0, 0); now = [] } in
    check_is (understood [] (map string_bytes c.args.words.now)) c.in_ok-matches.matches c.in-Some.texts.now (get_or c.in-Some.texts.now 0 d).now c.in_ok-name.name
    c.in_ok-matches.ensures c.in-Some.ensures (one_text c.in-Some.texts.now d (omega arith)) (grind (arith, common_steps)) c.in_ok-name.ensures
