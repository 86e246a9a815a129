use Rattle.std.proofs.Common.{◌≡◌, ◌≤◌, ◌^◌, ◌⊎◌, ℕ, arith}
use Rattle.std.proofs.Math.Pow.{pow_mono}
use Rattle.body_validator.proofs.memory.is_aligned.Goals as goal

above : (n width : ℕ) → 4 ≤ n → (width ≡ 1) ⊎ (width ≡ 2) ⊎ (width ≡ 4) ⊎ (width ≡ 8) → 2 ^ n ≤ width → ⊥
above n width h w a = let p : 2 ^ 4 ≤ 2 ^ n = pow_mono h in let q : 16 ≤ 2 ^ n = p in omega arith

pub returns-in_default : goal.returns-in_default
returns-in_default c = (λ t. absurd (cc t), λ a. absurd (above c.args.align c.args.width (omega arith) c.requires a))
