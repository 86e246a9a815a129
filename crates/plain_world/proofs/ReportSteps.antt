use Rattle.std.proofs.Common.{◌≡◌, ℕ, zero, suc, ◌+◌, List, [], ◌∷◌, ◌++◌, length, drop, append_assoc, append-nil, Some, None, refl, sym, ◌∙◌, ap, arith}
use Rattle.std.specs.List.{slice_get}
use Rattle.host_port.specs.declared.start.Start.{Start}
use Rattle.world_rules.specs.declared.entry.Entry.{Entry}
use Rattle.world_rules.specs.declared.life.Birth.{Birth}
use Rattle.world_rules.specs.declared.life.Birth.TheVariants.{Born}
use Rattle.world_rules.specs.declared.life.Ended.{Ended}
use Rattle.world_rules.specs.World.{World, Process, Exit, first_start, first_world}
use Rattle.world_rules.specs.Rules.{next}
use Rattle.world_rules.specs.Told.{all_after}
use Rattle.world_rules.specs.Views.{deed_of}
use Rattle.world_rules.specs.Report.{printed, local_calls, end_line, end_lines, lines_of, entry_lines, total_line, report_text}
use Rattle.world_rules.specs.laws.ToldLaws.{told_all}
use Rattle.plain_world.specs.Journal.{book_of}

-- How a report comes about, step by step.

-- what stands at a place comes first where the items before it are left out
pub drop_at : {X : Type 0} (xs : List X) (i : ℕ) (x : X) → slice_get xs i ≡ Some x → drop i xs ≡ x ∷ drop (i + 1) xs
drop_at [] i x there = cc
drop_at (y ∷ xs) zero x there = let same : y ≡ x = cc in ap (λ z. z ∷ xs) same
drop_at (y ∷ xs) (suc i) x there =
    let more : suc i + 1 ≡ suc (i + 1) = omega arith in rw more (drop_at xs i x there)

-- nothing is left behind a place where nothing stands
pub drop_none : {X : Type 0} (xs : List X) (i : ℕ) → slice_get xs i ≡ None → drop i xs ≡ []
drop_none [] zero none = refl
drop_none [] (suc i) none = refl
drop_none (y ∷ xs) zero none = cc
drop_none (y ∷ xs) (suc i) none = drop_none xs i none

-- no memory is left, and no end line
pub no_memories : (processes : ℕ → Process) (exits : List Exit) → end_lines processes exits [] ≡ []
no_memories processes [] = refl
no_memories processes (exit ∷ exits) = refl

-- where no end is left to write, all is written
pub all_written : (text rest whole : List ℕ) → text ++ rest ≡ whole → rest ≡ [] → text ≡ whole
all_written text rest whole so_far none = sym (append-nil text) ∙ ap (λ (bytes : List ℕ). text ++ bytes) (sym none) ∙ so_far

-- one end more is written
pub one_end_more : (processes : ℕ → Process) (exits : List Exit) (ends : List Ended) (i : ℕ) (exit : Exit) (memory : Ended)
    (text more whole : List ℕ) → slice_get exits i ≡ Some exit → slice_get ends i ≡ Some memory →
    text ++ end_lines processes (drop i exits) (drop i ends) ≡ whole →
    more ≡ text ++ end_line exit (processes exit.pid).fuel memory →
    more ++ end_lines processes (drop (i + 1) exits) (drop (i + 1) ends) ≡ whole
one_end_more processes exits ends i exit memory text more whole at of so_far is =
    ap (λ (bytes : List ℕ). bytes ++ end_lines processes (drop (i + 1) exits) (drop (i + 1) ends)) is
    ∙ append_assoc text (end_line exit (processes exit.pid).fuel memory) (end_lines processes (drop (i + 1) exits) (drop (i + 1) ends))
    ∙ sym (λ k. text ++ end_lines processes (drop_at exits i exit at k) (drop_at ends i memory of k))
    ∙ so_far

-- how far a report has come: what is still to be written, and the world in which it comes
pub record IsReported (births : List Birth) (w : World) (text : List ℕ) (entries rest : List Entry) (ends : List Ended) : Type 0 where
  pub written : text ++ entry_lines births w rest ends ≡ entry_lines births (first_world births) entries ends
  pub after : all_after births w rest ≡ all_after births (first_world births) entries

-- nothing is written
pub reported-none : (births : List Birth) (start : Start) (w : World) (text : List ℕ) (entries : List Entry) (ends : List Ended) →
    start ≡ first_start births → w ≡ first_world (Born start ∷ []) → text ≡ [] →
    IsReported births w text entries entries ends
reported-none births start w text entries ends first begins none =
    let same : w ≡ first_world births = begins ∙ ap (λ (s : Start). first_world (Born s ∷ [])) first in record {
      written = λ k. none k ++ entry_lines births (same k) entries ends;
      after = λ k. all_after births (same k) entries;
    }

-- the world goes along an entry, and its lines are written
pub reported-more : (births : List Birth) (w later : World) (text printed_too more : List ℕ) (entries : List Entry) (entry : Entry)
    (rest : List Entry) (ends : List Ended) (n : ℕ) → IsReported births w text entries (entry ∷ rest) ends →
    n ≡ length w.exits → later ≡ next births w entry →
    printed_too ≡ text ++ printed (local_calls (deed_of entry)) →
    more ≡ printed_too ++ end_lines later.process (drop n later.exits) (drop n ends) →
    IsReported births later more entries rest ends
reported-more births w later text printed_too more entries entry rest ends n r count goes prints writes =
    let P : ℕ → World → List ℕ = λ m v. end_lines v.process (drop m v.exits) (drop m ends) in
    let now : List ℕ = printed (local_calls (deed_of entry)) in
    let lines : more ≡ text ++ lines_of births w entry ends =
    writes ∙ (λ k. prints k ++ P (count k) (goes k)) ∙ append_assoc text now (P (length w.exits) (next births w entry)) in record {
      written =
          (λ k. lines k ++ entry_lines births (goes k) rest ends)
          ∙ append_assoc text (lines_of births w entry ends) (entry_lines births (next births w entry) rest ends)
          ∙ r.written;
      after = ap (λ (v : World). all_after births v rest) goes ∙ r.after;
    }

-- with no entry left, the last line completes the report
pub reported-all : (births : List Birth) (w : World) (text whole : List ℕ) (entries : List Entry) (ends : List Ended) →
    IsReported births w text entries [] ends → whole ≡ text ++ total_line w → whole ≡ report_text (book_of births entries ends)
reported-all births w text whole entries ends r is =
    let lines : text ≡ entry_lines births (first_world births) entries ends = sym (append-nil text) ∙ r.written in
    is ∙ (λ k. lines k ++ total_line (r.after k))
    ∙ ap (λ (v : World). entry_lines births (first_world births) entries ends ++ total_line v)
    (sym (told_all (book_of births entries ends)))
