use Rattle.std.proofs.Common.{length, sym, ap, ◌∙◌, subst, arith}
use Rattle.std.specs.List.{Contains}
use Rattle.log_lock.specs.Words.{EachFrom, IsNewPass, knowledge}
use Rattle.tally_log.proofs.Amounts.{contains_next}
use Rattle.tally_log.proofs.tests.sixty_four_passes_join_into_the_first.Goals as goal

pub loop-pass-preserved : goal.loop-pass-preserved
loop-pass-preserved g c =
    let i = c.loop-pass.invariant in
    let count = c.loop-pass.count in
    let e = c.in-Some-next.ensures in
    let h = subst (EachFrom (IsNewPass c.in-Ok.lock 7 64) count) e i.3 in
    let long = ap length e in
    let sum = i.2 in
    let knows = c.join-all.ensures.knows in (
      c.join-all.ensures.lock,
      ap (λ k. k.count) knows ∙ i.1,
      omega (arith, sum, long),
      h.1,
      λ k lt. subst (λ ns. Contains ns k) (sym (ap (λ v. v.numbers) knows))
          (contains_next (knowledge c.loop-pass.all).numbers (knowledge c.in-Some-next.pass).numbers count k
          (ap (λ v. v.numbers) h.0.1) lt (i.4 k)),
    )
