use Rattle.std.proofs.Common.{arith, map, string_bytes, [], List, ℕ, Bor, get_or, drop, take, length, ◌-◌, subst, sym}
use Rattle.command_words.specs.Table.{Row, names_in, solo_table}
use Rattle.command_words.specs.Said.{understood}
use Rattle.command_words.proofs.Askings.{Said-found, first_text, solo_is}
use Rattle.command_words.proofs.words.solo.Goals as goal

pub returns : goal.returns
returns c =
    let d : Bor (List ℕ) = record { ref_ptr = (0, 0); now = [] } in
    let words = map string_bytes c.args.words.now in
    let found = subst (λ (rows : List Row). Said-found (understood (names_in rows) words) c.in_ok-matches.matches) c.solo_rows.ensures c.in_ok-matches.ensures in
    solo_is (understood (names_in solo_table) words) c.in_ok-matches.matches c.in-Some.texts.now (take (length c.in-Some.texts.now - 1) (drop 1 c.in-Some.texts.now))
    (get_or c.in-Some.texts.now 0 d).now c.in-Some-number_between.pid c.in_ok-names.names c.in_ok-options.options found c.in-Some.ensures (first_text c.in-Some.texts.now d (omega arith))
    (sym c.in-Some-number_between.ensures) c.in_ok-names.ensures c.in_ok-options.ensures
