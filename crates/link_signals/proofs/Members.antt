-- A closed list of members that all fall is the set of those who fall.
use Rattle.std.proofs.Common.{◌≡◌, ℕ, zero, suc, Bool, true, false, ◌||◌, eqb, List, [], ◌∷◌, Contains, refl, ap, sym, ◌∙◌, arith}
use Rattle.std.proofs.lemmas.Bool.Decides.{nat_tests}
use Rattle.link_signals.specs.Links.{Processes, Tags}
use Rattle.link_signals.specs.Fall.{IsLinked, DiesWithLinks, Falls, begins, spreads, is_among}

-- a list of members that no link makes grow
abbrev pub IsClosed : Processes → Tags → List ℕ → Type 0
IsClosed processes tags members = (member pid : ℕ) → Contains members member → IsLinked tags member pid → DiesWithLinks processes pid → Contains members pid

-- a closed list that holds the first process holds everyone who falls
pub complete : (processes : Processes) (tags : Tags) (first : ℕ) (members : List ℕ) → Contains members first → IsClosed processes tags members
    → (pid : ℕ) → Falls processes tags first pid → Contains members pid
complete processes tags first members head closed pid begins = head
complete processes tags first members head closed pid (spreads member next falls linked dies) =
    closed member pid (complete processes tags first members head closed member falls) linked dies

-- the test and the fact
pub among_Contains : (members : List ℕ) (pid : ℕ) → is_among members pid ≡ true → Contains members pid
among_Contains [] pid e = absurd cc
among_Contains (x ∷ xs) pid e =
    elim (eqb x pid) as (λ b. eqb x pid ≡ b → (b || is_among xs pid) ≡ true → Contains (x ∷ xs) pid) [
      | true ↦ λ t _. let same : x ≡ pid = grind (arith, nat_tests) in (0, omega arith, same)
      | false ↦ λ t rest. let h = among_Contains xs pid rest in (suc h.0, omega (arith, h.1), h.2)
    ] refl e

pub Contains_among : (members : List ℕ) (pid : ℕ) → Contains members pid → is_among members pid ≡ true
Contains_among [] pid (k, lt, e) = absurd (omega arith)
Contains_among (x ∷ xs) pid (zero, lt, e) =
    let same : x ≡ pid = e in
    let test : eqb x pid ≡ true = grind (arith, nat_tests) in
    ap (λ b. b || is_among xs pid) test
Contains_among (x ∷ xs) pid (suc k, lt, e) =
    let rest = Contains_among xs pid (k, omega arith, e) in
    elim (eqb x pid) as (λ b. (b || is_among xs pid) ≡ true) [ true ↦ refl | false ↦ rest ]

pub decides : (members : List ℕ) (pid : ℕ) (b : Bool) → b ≡ is_among members pid → (b ≡ true → Contains members pid) × (Contains members pid → b ≡ true)
decides members pid b is = (λ t. among_Contains members pid (sym is ∙ t), λ h. is ∙ Contains_among members pid h)
