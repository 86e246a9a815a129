-- What is written with its size before it.
use Rattle.std.proofs.Common.{◌≡◌, ℕ, suc, ◌^◌, ◌<◌, List, [], ◌∷◌, ◌++◌, length, length-append, append_assoc, append-nil, true, false, eqb, Some, arith, refl, ap, subst, sym, ◌∙◌}
use Rattle.std.proofs.lemmas.Bool.Decides.{nat_tests}
use Rattle.leb_read.proofs.Unsigned.{fits}
use Rattle.wasm_form.specs.Values.{SpellsU32, SpellsVector, SpellsSized}
use Rattle.wasm_form.specs.Least.{least_unsigned, least_vector, least_sized, least_section, least_start}
use Rattle.wasm_form.proofs.LeastParts.{AtLeast}
use Rattle.module_writer.specs.Writing.{HasSpelling, Appends}
use Rattle.module_writer.specs.SectionParts.{SpellsPart, SpellsStartPart}
use Rattle.module_writer.proofs.Appending.{one}

pub appends_sized : {A : Type 0} (S : List ℕ → A → Type 0) (f : A → ℕ) (x : A) (n : ℕ) (old mid new : List ℕ) → Appends SpellsU32 least_unsigned n old mid → Appends S f x mid new → n ≡ f x
    → Appends (SpellsSized S) (λ y. least_sized (f y)) x old new
appends_sized S f x n old mid new a b e =
    record {
      bytes = a.bytes ++ b.bytes;
      spells = (a.bytes, b.bytes, subst (λ (k : ℕ). SpellsU32 a.bytes k) (e ∙ sym b.long) a.spells, b.spells, refl);
      long = omega (arith, a.long, b.long, ap least_unsigned e, length-append a.bytes b.bytes);
      added = b.added ∙ ap (λ (l : List ℕ). l ++ b.bytes) a.added ∙ append_assoc old a.bytes b.bytes;
    }

-- what is spelled with its size has a size of 32 bits
pub size_fits : {A : Type 0} (S : List ℕ → A → Type 0) (f : A → ℕ) (x : A) → AtLeast S f → HasSpelling (SpellsSized S) x → f x < 2 ^ 32
size_fits S f x law h =
    omega (arith, law.at x h.spells.1 h.spells.3, fits 32 (length h.spells.1) h.spells.0 h.spells.2)

-- the section of some items
pub section_vector : {A : Type 0} (id : ℕ) (S : List ℕ → A → Type 0) (xs : List A) → eqb (length xs) 0 ≡ false → HasSpelling (SpellsPart id S) xs → HasSpelling (SpellsSized (SpellsVector S)) xs
section_vector id S [] e h = absurd (cc)
section_vector id S (x ∷ xs) e h = record { bytes = h.spells.0; spells = h.spells.1 }

pub section_contents : {A : Type 0} (id : ℕ) (S : List ℕ → A → Type 0) (xs : List A) → eqb (length xs) 0 ≡ false → HasSpelling (SpellsPart id S) xs → HasSpelling (SpellsVector S) xs
section_contents id S xs e h =
    let v : HasSpelling (SpellsSized (SpellsVector S)) xs = section_vector id S xs e h in
    record { bytes = v.spells.1; spells = v.spells.3 }

pub no_section : {A : Type 0} (id : ℕ) (S : List ℕ → A → Type 0) (f : A → ℕ) (xs : List A) (old : List ℕ) → eqb (length xs) 0 ≡ true → Appends (SpellsPart id S) (least_section f) xs old old
no_section id S f [] old e = record { bytes = []; spells = refl; long = refl; added = sym (append-nil old) }
no_section id S f (x ∷ xs) old e = let none : suc (length xs) ≡ 0 = grind (arith, nat_tests) in absurd (omega arith)

pub section_of : {A : Type 0} (id : ℕ) (S : List ℕ → A → Type 0) (f : A → ℕ) (xs : List A) (n : ℕ) (old one two new : List ℕ) → eqb (length xs) 0 ≡ false → one ≡ old ++ id ∷ []
    → Appends SpellsU32 least_unsigned n one two → Appends (SpellsVector S) (least_vector f) xs two new → n ≡ least_vector f xs → Appends (SpellsPart id S) (least_section f) xs old new
section_of id S f [] n old one two new e byte a b size = absurd (cc)
section_of id S f (x ∷ xs) n old one two new e byte a b size =
    let s : Appends (SpellsSized (SpellsVector S)) (λ ys. least_sized (least_vector f ys)) (x ∷ xs) one new = appends_sized (SpellsVector S) (least_vector f) (x ∷ xs) n one two new a b size in
    record {
      bytes = id ∷ s.bytes;
      spells = (s.bytes, s.spells, refl);
      long = omega (arith, s.long);
      added = s.added ∙ ap (λ (l : List ℕ). l ++ s.bytes) byte ∙ append_assoc old (id ∷ []) s.bytes;
    }

pub start_section : (function n : ℕ) (old one two new : List ℕ) → one ≡ old ++ 0x08 ∷ [] → Appends SpellsU32 least_unsigned n one two → Appends SpellsU32 least_unsigned function two new
    → n ≡ least_unsigned function → Appends SpellsStartPart least_start (Some function) old new
start_section function n old one two new byte a b size =
    let s : Appends (SpellsSized SpellsU32) (λ k. least_sized (least_unsigned k)) function one new = appends_sized SpellsU32 least_unsigned function n one two new a b size in
    record {
      bytes = 0x08 ∷ s.bytes;
      spells = (s.bytes, s.spells, refl);
      long = omega (arith, s.long);
      added = s.added ∙ ap (λ (l : List ℕ). l ++ s.bytes) byte ∙ append_assoc old (0x08 ∷ []) s.bytes;
    }
