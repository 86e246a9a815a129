-- Fronts of a text that are written piece by piece.
use Rattle.std.proofs.Common.{◌≡◌, ◌≢◌, ℕ, ◌+◌, ◌-◌, ◌<◌, ◌≤◌, inl, inr, List, ◌++◌, length, take, drop, Option, Some, None, refl, ap, sym, ◌∙◌, append_assoc, arith, length-drop}
use Rattle.std.proofs.lemmas.Bool.{cases_lt}
use Rattle.std.proofs.lemmas.List.{take_all}
use Rattle.std.proofs.Math.Seq.{take-add}
use Rattle.std.specs.Io.KnownBytes.{append_known}
use Rattle.outside.specs.Sinks.{TakesFirst}

-- what a loop has written: the first bytes of the text, with a count that is what it was
pub record FrontWritten (text : List ℕ) (done : ℕ) (old new : Option (List ℕ)) (before now : ℕ) : Type 0 where
  pub within : done ≤ length text
  pub front : new ≡ append_known old (take done text)
  pub later : before ≤ now
  pub stayed : now ≤ before

-- the first bytes, and then the next ones
append_known-more : (known : Option (List ℕ)) (text : List ℕ) (i n : ℕ) →
    append_known (append_known known (take i text)) (take n (drop i text)) ≡ append_known known (take (i + n) text)
append_known-more None text i n = refl
append_known-more (Some bytes) text i n =
    ap Some (append_assoc bytes (take i text) (take n (drop i text)) ∙ ap (λ more. bytes ++ more) (sym (take-add i n text)))

-- what is left of a text is all of it from here on
rest_is_drop : (text : List ℕ) (done : ℕ) → take (length text - done) (drop done text) ≡ drop done text
rest_is_drop text done = take_all (length text - done) (drop done text) (omega (arith, length-drop done text))

-- a write of what is left of the text goes on with it
pub front_goes_on : (text : List ℕ) (done n : ℕ) (old mid new : Option (List ℕ)) (before between now : ℕ) →
    FrontWritten text done old mid before between →
    TakesFirst (take (length text - done) (drop done text)) mid new n → between ≤ now → now ≤ between →
    FrontWritten text (done + n) old new before now
front_goes_on text done n old mid new before between now front taken later stayed =
    let takes : TakesFirst (drop done text) mid new n = rw rest_is_drop at taken in
    record {
      within = omega (arith, length-drop done text, front.within, takes.within);
      front = takes.appended ∙ ap (λ known. append_known known (take n (drop done text))) front.front ∙ append_known-more old text done n;
      later = omega (arith, front.later, later);
      stayed = omega (arith, front.stayed, stayed);
    }

-- a write that took some bytes counted no fault
pub some-stayed : (before now n size : ℕ) → (before < now → (n ≡ 0) × (0 < size)) → n ≢ 0 → now ≤ before
some-stayed before now n size only some = elim (cases_lt before now) [ inl rose ↦ absurd (some (only rose).0) | inr within ↦ within ]
