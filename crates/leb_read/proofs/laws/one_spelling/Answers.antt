use Rattle.std.proofs.Common.{◌≡◌, List, ℕ, subst, arith}
use Rattle.leb_read.specs.Numbers.{SpellsUnsigned, SpellsSigned}
use Rattle.leb_read.proofs.Shapes.{one_front}
use Rattle.leb_read.proofs.Unsigned.{ended as unsigned_ended, one_value as unsigned_value}
use Rattle.leb_read.proofs.Signed.{ended as signed_ended, one_value as signed_value}
use Rattle.leb_read.proofs.laws.one_spelling.Goals as goal

pub returns-clause-unsigned : goal.returns-clause-unsigned
returns-clause-unsigned c N a b x y v w h k e =
    let same : a ≡ b = one_front N N (λ _. Unit {0}) (λ _. Unit {0}) a b x y (unsigned_ended N N v a (omega arith) h) (unsigned_ended N N w b (omega arith) k) e in
    (same, unsigned_value N v w b (subst (λ (s : List ℕ). SpellsUnsigned N s v) same h) k)

pub returns-clause-signed : goal.returns-clause-signed
returns-clause-signed c N a b x y v w h k e =
    let same : a ≡ b = one_front N N (λ _. Unit {0}) (λ _. Unit {0}) a b x y (signed_ended N N v a (omega arith) h) (signed_ended N N w b (omega arith) k) e in
    (same, signed_value N v w b (subst (λ (s : List ℕ). SpellsSigned N s v) same h) k)
