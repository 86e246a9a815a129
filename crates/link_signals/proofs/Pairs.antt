-- The order of pairs of numbers is total, and tells them apart.
use Rattle.std.proofs.Common.{◌≡◌, ℕ, Ordering, refl}
use Rattle.std.specs.declared.cmp.Ordering.TheVariants.{Less, Equal, Greater}
use Rattle.std.specs.Ordering.{nat_cmp, ordering_then}
use Rattle.std.specs.Cmp.{IsTotalOrder, nat_cmp_total}
use Rattle.std.specs.FinMap.{IsAntisymmetric, nat_cmp-IsAntisymmetric}
use Rattle.std.proofs.lemmas.Cmp.{then_total, on_total}
use Rattle.link_signals.specs.Links.{pair_cmp}

pub pair_total : IsTotalOrder pair_cmp
pair_total = then_total (on_total (λ (p : ℕ × ℕ). p.0) nat_cmp_total) (on_total (λ (p : ℕ × ℕ). p.1) nat_cmp_total)

both_equal : (a b : Ordering) → ordering_then a b ≡ Equal → (a ≡ Equal) × (b ≡ Equal)
both_equal Less b e = absurd cc
both_equal Equal b e = (refl, e)
both_equal Greater b e = absurd cc

pub pair_apart : IsAntisymmetric pair_cmp
pair_apart x y e =
    let both = both_equal (nat_cmp x.0 y.0) (nat_cmp x.1 y.1) e in
    let a = nat_cmp-IsAntisymmetric x.0 y.0 both.0 in
    let b = nat_cmp-IsAntisymmetric x.1 y.1 both.1 in
    λ i. (a i, b i)
