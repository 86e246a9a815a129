-- A module that bytes spell has fewer bodies than a place can name.
use Rattle.std.proofs.Common.{◌≡◌, ℕ, ◌<◌, ◌^◌, List, [], length, Option, Some, None, ap, arith}
use Rattle.std.specs.Prelude.{MatchOption}
use Rattle.leb_read.proofs.Unsigned.{fits}
use Rattle.wasm_form.specs.declared.body.Body.{Body}
use Rattle.wasm_form.specs.declared.parts.Parts.{Parts}
use Rattle.wasm_form.specs.Sections.{SpellsBodies}
use Rattle.wasm_form.specs.Modules.{Section, IsSpelled}

few : (found : Option Section) (bodies : List Body) → MatchOption found (bodies ≡ []) (λ s. SpellsBodies s.contents bodies) → length bodies < 2 ^ 32
few None bodies h = omega (arith, ap length h)
few (Some s) bodies h = fits 32 (length bodies) h.0 h.2

pub few_bodies : (m : Parts) → IsSpelled m → length m.bodies < 2 ^ 32
few_bodies m h = few _ m.bodies h.spelled.bodies
