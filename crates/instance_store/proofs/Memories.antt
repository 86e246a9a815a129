-- The memory with which an instance begins.
use Rattle.std.proofs.Common.{◌≡◌, ℕ, ◌*◌, ◌≤◌, arith, List, [], ◌∷◌, length, Option, Some, None, refl, sym, ap, subst, ◌∙◌}
use Rattle.std.specs.Prelude.{⊤, All, MatchOption, slice_get}
use Rattle.std.specs.List.{fold}
use Rattle.std.proofs.lemmas.List.{length-replicate}
use Rattle.std.proofs.lemmas.List.Elements.{All-get_or}
use Rattle.linear_memory.specs.Contents.{page_size}
use Rattle.wasm_form.specs.declared.types.Bounds.{Bounds}
use Rattle.wasm_form.specs.declared.parts.Segment.{Segment}
use Rattle.wasm_form.specs.declared.parts.Parts.{Parts}
use Rattle.wasm_form.specs.Context.{memories_of}
use Rattle.wasm_form.specs.Validity.{IsLimits}
use Rattle.tree_machine.specs.Begin.{least_pages}
use Rattle.tree_machine.specs.Config.{bytes_of}
use Rattle.tree_machine.specs.Instantiation.{most_pages, memory_with, new_memory, put_segment, first_memory}

none_stays : (segments : List Segment) → None ≡ fold put_segment None segments
none_stays [] = refl
none_stays (s ∷ rest) = none_stays rest

-- without a memory nothing is written
pub no_memory : (m : Parts) (limit : ℕ) → None ≡ slice_get (memories_of m) 0 → None ≡ first_memory limit m
no_memory m limit none =
    none_stays m.segments ∙ ap (λ (o : Option Bounds). fold put_segment (memory_with limit o) m.segments) none

-- the bytes with which a memory begins
pub bytes_at_first : (m : Parts) (limit : ℕ) → length (bytes_of (new_memory limit m)) ≡ least_pages (slice_get (memories_of m) 0) * page_size
bytes_at_first m limit = of_bounds (slice_get (memories_of m) 0)
  where
    of_bounds : (o : Option Bounds) → length (bytes_of (memory_with limit o)) ≡ least_pages o * page_size
    of_bounds None = omega arith
    of_bounds (Some bounds) = length-replicate (bounds.min * page_size) 0

below_most : (limit least : ℕ) (max : Option ℕ) → MatchOption max ⊤ (λ max. least ≤ max) → least ≤ limit → least ≤ most_pages limit max
below_most limit least None ordered within = within
below_most limit least (Some max) ordered within = omega (arith, ordered)

first_holds : (P : Bounds → Type 0) (bounds : Bounds) (list : List Bounds) → All P list → Some bounds ≡ slice_get list 0 → P bounds
first_holds P bounds [] all is = absurd (cc)
first_holds P bounds (b ∷ rest) all is =
    let same : b ≡ bounds = cc in
    subst P same (All-get_or P (b ∷ rest) 0 b (omega arith) all)

-- the minimum of the memory is not above the most pages that it may have
pub least_below_most : (m : Parts) (limit : ℕ) (bounds : Bounds) → All IsLimits (memories_of m) → Some bounds ≡ slice_get (memories_of m) 0
    → least_pages (slice_get (memories_of m) 0) ≤ limit → bounds.min ≤ most_pages limit bounds.max
least_below_most m limit bounds all is within =
    below_most limit bounds.min bounds.max (first_holds IsLimits bounds (memories_of m) all is)
    (subst (λ (o : Option Bounds). least_pages o ≤ limit) (sym is) within)
