-- The same bytes have one verdict at most.
use Rattle.std.proofs.Common.{◌≡◌, ℕ, ◌<◌, ◌⊎◌, inl, inr, List, refl, sym, ap, subst, arith, ◌∙◌}
use Rattle.wasm_form.specs.declared.parts.Parts.{Parts}
use Rattle.wasm_form.specs.Modules.{Spells}
use Rattle.wasm_form.specs.Profile.{Host}
use Rattle.wasm_form.specs.Verdict.{Verdict, Malformed, Outside, InvalidRule, InvalidFunction, Accepted, IsOutside, BreaksRule, BreaksFunction, IsVerdictOn, IsVerdict}

-- of two numbers neither of which is the lesser
same_number : (a b : ℕ) → ¬ a < b → ¬ b < a → a ≡ b
same_number a b h k = grind (arith, h, k)

one_outside : (host : Host) (m : Parts) (a b : ℕ) → IsOutside host m a → IsOutside host m b → a ≡ b
one_outside host m a b x y =
    same_number a b (λ less. x.broken (y.least x.rule (subst (λ n. n < b) (sym x.numbered) less)))
    (λ less. y.broken (x.least y.rule (subst (λ n. n < a) (sym y.numbered) less)))

one_rule : (host : Host) (m : Parts) (a b : ℕ) → BreaksRule host m a → BreaksRule host m b → a ≡ b
one_rule host m a b x y =
    same_number a b (λ less. x.broken (y.least x.rule (subst (λ n. n < b) (sym x.numbered) less)))
    (λ less. y.broken (x.least y.rule (subst (λ n. n < a) (sym y.numbered) less)))

one_function : (host : Host) (m : Parts) (a b : ℕ) → BreaksFunction host m a → BreaksFunction host m b → a ≡ b
one_function host m a b x y = same_number a b (λ less. x.broken (y.least a less)) (λ less. y.broken (x.least b less))

-- a module has one verdict at most
one_on : (host : Host) (m : Parts) (v w : Verdict) → IsVerdictOn host m v → IsVerdictOn host m w → v ≡ w
one_on host m Malformed w x y = absurd x
one_on host m (Outside a) Malformed x y = absurd y
one_on host m (Outside a) (Outside b) x y = ap Outside (one_outside host m a b x y)
one_on host m (Outside a) (InvalidRule b) x y = absurd (x.broken (y.inside x.rule))
one_on host m (Outside a) (InvalidFunction b) x y = absurd (x.broken (y.inside x.rule))
one_on host m (Outside a) Accepted x y = absurd (x.broken (y.inside x.rule))
one_on host m (InvalidRule a) Malformed x y = absurd y
one_on host m (InvalidRule a) (Outside b) x y = absurd (y.broken (x.inside y.rule))
one_on host m (InvalidRule a) (InvalidRule b) x y = ap InvalidRule (one_rule host m a b x y)
one_on host m (InvalidRule a) (InvalidFunction b) x y = absurd (x.broken (y.rules x.rule))
one_on host m (InvalidRule a) Accepted x y = absurd (x.broken (y.valid.rules x.rule))
one_on host m (InvalidFunction a) Malformed x y = absurd y
one_on host m (InvalidFunction a) (Outside b) x y = absurd (y.broken (x.inside y.rule))
one_on host m (InvalidFunction a) (InvalidRule b) x y = absurd (y.broken (x.rules y.rule))
one_on host m (InvalidFunction a) (InvalidFunction b) x y = ap InvalidFunction (one_function host m a b x y)
one_on host m (InvalidFunction a) Accepted x y = absurd (x.broken (y.valid.functions a x.there))
one_on host m Accepted Malformed x y = absurd y
one_on host m Accepted (Outside b) x y = absurd (y.broken (x.inside y.rule))
one_on host m Accepted (InvalidRule b) x y = absurd (y.broken (x.valid.rules y.rule))
one_on host m Accepted (InvalidFunction b) x y = absurd (y.broken (x.valid.functions b y.there))
one_on host m Accepted Accepted x y = refl

-- the verdict on bytes is Malformed, and they spell no module, or is the verdict on the module that they spell
by_module : (host : Host) (bytes : List ℕ) (v : Verdict) → IsVerdict host bytes v
    → ((v ≡ Malformed) × ((m : Parts) → ¬ Spells bytes m)) ⊎ ((m : Parts) × Spells bytes m × IsVerdictOn host m v)
by_module host bytes Malformed h = inl (refl, h)
by_module host bytes (Outside a) h = inr h
by_module host bytes (InvalidRule a) h = inr h
by_module host bytes (InvalidFunction a) h = inr h
by_module host bytes Accepted h = inr h

-- the same bytes have one verdict at most, where they spell one module at most
pub one_verdict : (host : Host) (bytes : List ℕ) (v w : Verdict) → ((m n : Parts) → Spells bytes m → Spells bytes n → m ≡ n) → IsVerdict host bytes v → IsVerdict host bytes w → v ≡ w
one_verdict host bytes v w one x y = at (by_module host bytes v x) (by_module host bytes w y)
  where
    at : ((v ≡ Malformed) × ((m : Parts) → ¬ Spells bytes m)) ⊎ ((m : Parts) × Spells bytes m × IsVerdictOn host m v)
        → ((w ≡ Malformed) × ((m : Parts) → ¬ Spells bytes m)) ⊎ ((m : Parts) × Spells bytes m × IsVerdictOn host m w) → v ≡ w
    at (inl p) (inl q) = p.0 ∙ sym q.0
    at (inl p) (inr q) = absurd (p.1 q.0 q.1)
    at (inr p) (inl q) = absurd (q.1 p.0 p.1)
    at (inr p) (inr q) = one_on host q.0 v w (subst (λ m. IsVerdictOn host m v) (one p.0 q.0 p.1 q.1) p.2) q.2
