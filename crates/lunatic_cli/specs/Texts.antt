-- The lines that are written where nothing ran. Each ends with a line feed. The report of a run is the journal's
-- (`report_text`).
use Rattle.std.specs.Prelude.{ℕ, List, [], ◌++◌, codes}
use Rattle.std.specs.Fmt.{decimal}
use Rattle.host_port.specs.declared.start.StartRefusal.{StartRefusal}
use Rattle.host_port.specs.declared.start.StartRefusal.TheVariants as refusal
use Rattle.module_validator.specs.declared.answer.Place.TheVariants.{Rule, Function}
use Rattle.module_validator.specs.declared.answer.Verdict.{Verdict}
use Rattle.module_validator.specs.declared.answer.Verdict.TheVariants as verdict

-- the words are refused
abbrev pub words_line : List ℕ
words_line = codes "refused: words\n"

-- the module file is refused
abbrev pub file_line : List ℕ
file_line = codes "refused: file 0\n"

-- the module is accepted
abbrev pub accepted_line : List ℕ
accepted_line = codes "accepted\n"

-- a line with a number at its end
abbrev pub numbered_line : List ℕ → ℕ → List ℕ
numbered_line text number = text ++ decimal number ++ codes "\n"

-- the line of a verdict
abbrev pub verdict_line : Verdict → List ℕ
verdict_line verdict.Malformed = codes "refused: module 0 malformed\n"
verdict_line (verdict.Outside rule) = numbered_line (codes "refused: module 0 outside rule ") rule
verdict_line (verdict.Invalid (Rule rule)) = numbered_line (codes "refused: module 0 invalid rule ") rule
verdict_line (verdict.Invalid (Function place)) = numbered_line (codes "refused: module 0 invalid function ") place
verdict_line verdict.Accepted = accepted_line

-- the line of a start that is refused; for want of memory nothing is written
abbrev pub start_line : StartRefusal → List ℕ
start_line refusal.NoExport = codes "refused: entry\n"
start_line refusal.BadParams = codes "refused: parameters\n"
start_line refusal.PagesOver = codes "refused: pages\n"
start_line refusal.SegmentOut = codes "refused: segment\n"
start_line refusal.NoMemory = []
