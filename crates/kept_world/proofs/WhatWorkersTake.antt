-- A worker brings back what it took.
use Rattle.std.specs.Prelude.{◌≡◌, ℕ, ◌+◌, List, [], ◌∷◌, Option, Bool, true, false, ◌&&◌, nat_lt, nat_le, refl}
use Rattle.std.proofs.Common.{◌∙◌, ap, arith}
use Rattle.std.proofs.lemmas.Bool.Decides.{nat_tests}
use Rattle.world_rules.specs.declared.entry.Entry.{Entry}
use Rattle.world_rules.specs.declared.life.Birth.{Birth}
use Rattle.world_rules.specs.World.{World, Process, core_of, is_away}
use Rattle.world_rules.specs.Spawn.{next_number}
use Rattle.world_rules.specs.Rules.{next}
use Rattle.world_rules.specs.Births.{Terms}
use Rattle.world_rules.specs.Allowed.{Allowed}
use Rattle.world_rules.specs.Told.{all_after, AllAllowed}
use Rattle.world_rules.specs.Sound.{IsSound}
use Rattle.world_rules.specs.laws.CarryLaws.{IsFresh, carry}
use Rattle.kept_world.specs.Kept.{NoneGives}

-- the next number of a sound world is nobody's
fresh : (w : World) → IsSound w → IsFresh w
fresh w is = ap (λ (p : Process). is_away p.stage) (is.processes.undrawn (next_number w) (not_drawn w.numbers_drawn))
  where
    not_le : (n : ℕ) → nat_le (n + 1) n ≡ false
    not_le n = grind (arith, nat_tests)

    no_right : (a b : Bool) → b ≡ false → (a && b) ≡ false
    no_right true b e = e
    no_right false b e = refl

    not_drawn : (n : ℕ) → (nat_lt 0 (n + 1) && nat_le (n + 1) n) ≡ false
    not_drawn n = no_right (nat_lt 0 (n + 1)) (nat_le (n + 1) n) (not_le n)

abbrev pub KeepsSound : Type 0
KeepsSound =
    (terms : Option Terms) (births : List Birth) (w : World) (entry : Entry) → IsSound w → Allowed terms births w entry → IsSound (next births w entry)

pub stays_taken : KeepsSound → (terms : Option Terms) (births : List Birth) (w : World) (entries : List Entry) (pid : ℕ) → IsSound w → is_away (w.process pid).stage ≡ true
    → AllAllowed terms births w entries → NoneGives pid entries → core_of ((all_after births w entries).process pid) ≡ core_of (w.process pid)
stays_taken keeps terms births w [] pid sound away allowed none = refl
stays_taken keeps terms births w (entry ∷ entries) pid sound away allowed none =
    let step = carry births w entry pid (fresh w sound) none.0 away in
    stays_taken keeps terms births (next births w entry) entries pid (keeps terms births w entry sound allowed.0) step.1 allowed.1 none.1 ∙ step.0
