-- What one instruction more makes of what is left, by its kind.
use Rattle.std.proofs.Common.{◌≡◌, ◌≢◌, ℕ, ◌+◌, ◌-◌, ◌^◌, ◌<◌, ◌≤◌, ◌⊎◌, inl, inr, List, [], ◌∷◌, ◌++◌, length, map, take, drop, Option, Some, None, refl, sym, ap, subst, ◌∙◌, arith, append_assoc, length-append}
use Rattle.std.specs.Prelude.{slice_get}
use Rattle.std.proofs.lemmas.List.{length-map}
use Rattle.wasm_form.specs.declared.value_type.ValType.{ValType}
use Rattle.wasm_form.specs.declared.instr.Instr.{Instr}
use Rattle.wasm_form.specs.declared.instr.Imm.TheVariants as imm
use Rattle.wasm_form.specs.declared.expr.Match.{Match}
use Rattle.wasm_form.specs.declared.parts.Parts.{Parts}
use Rattle.wasm_form.specs.declared.sort.Sort.{Sort}
use Rattle.wasm_form.specs.declared.sort.Sort.TheVariants as sort
use Rattle.wasm_form.specs.Trees.{Code, Empty, Then, TableOf, BlockOf, LoopOf, IfOf, IfElseOf, size, labels_of, matches_of, match_of, else_match_of, block_instr, loop_instr, if_instr}
use Rattle.wasm_form.specs.Matching.{sort_of}
use Rattle.body_validator.specs.Levels.{Level, level, other_labels, left_labels, Stands}
use Rattle.body_validator.proofs.Seen.{Seen, SeesPlain, SeesTable, SeesBlock, SeesLoop, SeesIf, SeesIfElse, SeesElse, SeesEnd, seen, sort_end, sort_else, sort_block, sort_loop, sort_if, sort_table}
use Rattle.body_validator.proofs.Advancing.{plain_seen, table_seen, block_seen, if_seen, else_seen, end_seen}
use Rattle.code_map.specs.declared.target.Target.{Target}
use Rattle.code_map.specs.declared.body_map.BodyMap.{BodyMap}
use Rattle.code_map.specs.declared.opens.Open.{Open}
use Rattle.code_map.specs.declared.pass.Pass.{Pass}
use Rattle.code_map.specs.Flows.{MayBranch, GoesOn}
use Rattle.code_map.specs.Targets.{gives_value, HasTarget, HasTable}
use Rattle.code_map.specs.Mapped.{Mapped, block_label, loop_label, skipped}
use Rattle.code_map.specs.Left.{labels_in, after_end, ClosesMapped, LeftMapped, closing_matches, left_matches}
use Rattle.code_map.specs.Marks.{Marks, MarksTable, target_at}
use Rattle.code_map.specs.Steps.{IsLeft, Leads, Advances, Begins, opening, skips_to}
use Rattle.code_map.proofs.Growing.{drops, marked_slots, table_slots, has_target, has_table}
use Rattle.code_map.proofs.Sizes.{inside_left, both_left}

pub left_after : (pool : List ℕ) (matches : List Match) (i : Instr) (left : List Instr) (levels next : List Level) (old new : Pass) → IsLeft pool matches (i ∷ left) levels old
    → Stands pool left next → length new.map.slots ≡ length old.map.slots + 1 → drop new.matched matches ≡ left_matches next (length new.map.slots)
    → length new.map.tables + length (left_labels next) ≤ length old.map.tables + length (left_labels levels) + 1 → IsLeft pool matches left next new
left_after pool matches i left levels next old new is s e m r =
    record { stands = s; matched = m; room = omega (arith, is.room, r, e); short = omega (arith, is.short, e) }

-- an instruction of no sort stands nowhere
pub none_seen : (pool : List ℕ) (i : Instr) (left : List Instr) (levels : List Level) → sort_of i ≡ None → Stands pool (i ∷ left) levels → ⊥
none_seen pool i left levels q s = at (seen pool i left levels s)
  where
    some : (t : Sort) → sort_of i ≡ Some t → ⊥
    some t p = let e : None ≡ Some t = sym q ∙ p in absurd (cc e)

    at : Seen pool i left levels → ⊥
    at (SeesPlain rest other ls e p st) = some sort.Plain p
    at (SeesTable labels last rest other ls first e h w t st) = some (sort.Table first (length labels)) (ap sort_of h ∙ sort_table first (length labels) last)
    at (SeesBlock r a b other ls e h st) = some sort.Block (ap sort_of h ∙ sort_block r)
    at (SeesLoop r a b other ls e h st) = some sort.Block (ap sort_of h ∙ sort_loop r)
    at (SeesIf r a b other ls e h st) = some sort.If (ap sort_of h ∙ sort_if r)
    at (SeesIfElse r a d b other ls e h st) = some sort.If (ap sort_of h ∙ sort_if r)
    at (SeesElse d ls e h st) = some sort.Else (ap sort_of h ∙ sort_else)
    at (SeesEnd ls e h st) = some sort.End (ap sort_of h ∙ sort_end)

-- plain instructions

then_matches : (i : Instr) (rest : Code) (other : Option Code) (ls : List Level) (pc next : ℕ) → next ≡ pc + 1
    → left_matches (level (Then i rest) other ∷ ls) pc ≡ left_matches (level rest other ∷ ls) next
then_matches i rest other ls pc next e =
    let place : pc + (1 + size rest) ≡ pc + 1 + size rest = omega arith in
    ap (λ k. matches_of (pc + 1) rest ++ closing_matches other (λ n. left_matches ls n) k) place ∙ ap (λ k. left_matches (level rest other ∷ ls) k) (sym e)

then_mapped : (m : Parts) (map : BodyMap) (i : Instr) (rest : Code) (other : Option Code) (ls : List Level) (opens : List Open) (pc next h h' : ℕ) → next ≡ pc + 1
    → ((label : ℕ) (t : Target) → MayBranch (length (labels_in opens)) i label → slice_get (labels_in opens) label ≡ Some t → HasTarget map pc t)
    → ((after : ℕ) → GoesOn m i h after → h' ≡ after)
    → LeftMapped m map (level rest other ∷ ls) opens next h' → LeftMapped m map (level (Then i rest) other ∷ ls) opens pc h
then_mapped m map i rest other ls [] pc next h h' e branch goes x = tt
then_mapped m map i rest other ls (o ∷ os) pc next h h' e branch goes x =
    let labels : List Target = labels_in (o ∷ os) in
    let y : LeftMapped m map (level rest other ∷ ls) (o ∷ os) (pc + 1) h' = subst (λ k. LeftMapped m map (level rest other ∷ ls) (o ∷ os) k h') e x in
    let place : pc + 1 + size rest ≡ pc + (1 + size rest) = omega arith in (
      (branch, λ after g. subst (λ k. Mapped m map labels (pc + 1) k rest) (goes after g) y.0),
      subst (λ k. ClosesMapped m map o labels other (λ n. LeftMapped m map ls os n (after_end o)) k) place y.1,
    )

pub plain_advances : (m : Parts) (pool : List ℕ) (matches : List Match) (i : Instr) (t : Option Target) (old new : Pass) → sort_of i ≡ Some sort.Plain
    → Marks t old.map new.map → new.opens ≡ old.opens → new.matched ≡ old.matched
    → ((label : ℕ) (x : Target) → MayBranch (length (labels_in old.opens)) i label → slice_get (labels_in old.opens) label ≡ Some x → t ≡ Some x)
    → ((after : ℕ) → GoesOn m i old.height after → new.height ≡ after) → Advances m pool matches i old new
plain_advances m pool matches i t old new q marks opens matched branch goes left levels is =
    let x = plain_seen pool i left levels q is.stands in
    let rest : Code = x.0 in
    let other : Option Code = x.1 in
    let ls : List Level = x.2 in
    let here : IsLeft pool matches (i ∷ left) (level (Then i rest) other ∷ ls) old = subst (λ k. IsLeft pool matches (i ∷ left) k old) x.3 is in
    let slots : length new.map.slots ≡ length old.map.slots + 1 = marked_slots t old.map new.map marks in (
      level rest other ∷ ls,
      left_after pool matches i left (level (Then i rest) other ∷ ls) (level rest other ∷ ls) old new here x.4 slots
          (ap (λ k. drop k matches) matched ∙ here.matched ∙ then_matches i rest other ls (length old.map.slots) (length new.map.slots) slots)
          (omega (arith, ap length marks.tables)),
      λ map e to.
          subst (λ k. LeftMapped m map k old.opens (length old.map.slots) old.height) (sym x.3)
          (then_mapped m map i rest other ls old.opens (length old.map.slots) (length new.map.slots) old.height new.height slots
          (λ label u b g. has_target u old.map new.map map (subst (λ o. Marks o old.map new.map) (branch label u b g) marks) e) goes
          (subst (λ k. LeftMapped m map (level rest other ∷ ls) k (length new.map.slots) new.height) opens to)),
    )

-- br_table

table_matches : (labels : List ℕ) (last : ℕ) (rest : Code) (other : Option Code) (ls : List Level) (pc next : ℕ) → next ≡ pc + 1
    → left_matches (level (TableOf labels last rest) other ∷ ls) pc ≡ left_matches (level rest other ∷ ls) next
table_matches labels last rest other ls pc next e =
    let place : pc + (1 + size rest) ≡ pc + 1 + size rest = omega arith in
    ap (λ k. matches_of (pc + 1) rest ++ closing_matches other (λ n. left_matches ls n) k) place ∙ ap (λ k. left_matches (level rest other ∷ ls) k) (sym e)

table_mapped : (m : Parts) (map : BodyMap) (labels : List ℕ) (last : ℕ) (rest : Code) (other : Option Code) (ls : List Level) (opens : List Open) (pc next h h' : ℕ) → next ≡ pc + 1
    → HasTable map pc (labels_in opens) (labels ++ last ∷ [])
    → LeftMapped m map (level rest other ∷ ls) opens next h' → LeftMapped m map (level (TableOf labels last rest) other ∷ ls) opens pc h
table_mapped m map labels last rest other ls [] pc next h h' e has x = tt
table_mapped m map labels last rest other ls (o ∷ os) pc next h h' e has x =
    let y : LeftMapped m map (level rest other ∷ ls) (o ∷ os) (pc + 1) h' = subst (λ k. LeftMapped m map (level rest other ∷ ls) (o ∷ os) k h') e x in
    let place : pc + 1 + size rest ≡ pc + (1 + size rest) = omega arith in
    (has, subst (λ k. ClosesMapped m map o (labels_in (o ∷ os)) other (λ n. LeftMapped m map ls os n (after_end o)) k) place y.1)

pub table_advances : (m : Parts) (pool : List ℕ) (matches : List Match) (i : Instr) (first count from many final : ℕ) (found : List ℕ) (old new : Pass) → sort_of i ≡ Some (sort.Table first count)
    → i.imm ≡ imm.Table from many final → found ≡ take count (drop first pool) → MarksTable (labels_in old.opens) (found ++ final ∷ []) old.map new.map
    → new.opens ≡ old.opens → new.matched ≡ old.matched → Advances m pool matches i old new
table_advances m pool matches i first count from many final found old new q im fo marks opens matched left levels is =
    let x = table_seen pool i left levels first count q is.stands in
    let labels : List ℕ = x.0 in
    let last : ℕ = x.1 in
    let rest : Code = x.2 in
    let other : Option Code = x.3 in
    let ls : List Level = x.4 in
    let here : IsLeft pool matches (i ∷ left) (level (TableOf labels last rest) other ∷ ls) old = subst (λ k. IsLeft pool matches (i ∷ left) k old) x.5 is in
    let slots : length new.map.slots ≡ length old.map.slots + 1 = table_slots (labels_in old.opens) (found ++ final ∷ []) old.map new.map marks in
    let one : imm.Table from many final ≡ imm.Table first count last = sym im ∙ x.6 in
    let fl : final ≡ last = cc in
    let same : found ++ final ∷ [] ≡ labels ++ last ∷ [] = ap (λ k. k ++ final ∷ []) (fo ∙ x.8) ∙ ap (λ k. labels ++ k ∷ []) fl in
    let more : List ℕ = labels_of rest ++ (other_labels other ++ left_labels ls) in
    let marks' : MarksTable (labels_in old.opens) (labels ++ last ∷ []) old.map new.map = subst (λ k. MarksTable (labels_in old.opens) k old.map new.map) same marks in (
      level rest other ∷ ls,
      left_after pool matches i left (level (TableOf labels last rest) other ∷ ls) (level rest other ∷ ls) old new here x.9 slots
          (ap (λ k. drop k matches) matched ∙ here.matched ∙ table_matches labels last rest other ls (length old.map.slots) (length new.map.slots) slots)
          (tables labels last more (labels_in old.opens) ((labels ++ labels_of rest) ++ (other_labels other ++ left_labels ls)) (ap length (append_assoc labels (labels_of rest)
          (other_labels other ++ left_labels ls))) marks'),
      λ map e to.
          subst (λ k. LeftMapped m map k old.opens (length old.map.slots) old.height) (sym x.5)
          (table_mapped m map labels last rest other ls old.opens (length old.map.slots) (length new.map.slots) old.height new.height slots
          (has_table (labels_in old.opens) (labels ++ last ∷ []) old.map new.map marks' map e)
          (subst (λ k. LeftMapped m map (level rest other ∷ ls) k (length new.map.slots) new.height) opens to)),
    )
  where
    tables : (labels : List ℕ) (last : ℕ) (more : List ℕ) (ts : List Target) (all : List ℕ) → length all ≡ length (labels ++ more) → MarksTable ts (labels ++ last ∷ []) old.map new.map
        → length new.map.tables + length more ≤ length old.map.tables + length all + 1
    tables labels last more ts all e h =
        omega (
          arith,
          ap length h.tables,
          length-append old.map.tables (map (target_at ts) (labels ++ last ∷ [])),
          length-map (labels ++ last ∷ []) (target_at ts),
          length-append labels
              (last ∷ []),
          length-append labels more,
          e,
        )

-- block, loop and if: a list begins inside, and the one around it goes on behind its end

inner_matches : (pc at : ℕ) (a b : Code) (other : Option Code) (ls : List Level) → at ≡ pc + (2 + size a + size b)
    → (matches_of (pc + 1) a ++ matches_of (pc + 2 + size a) b) ++ closing_matches other (λ n. left_matches ls n) at ≡ left_matches (level a None ∷ level b other ∷ ls) (pc + 1)
inner_matches pc at a b other ls e =
    let one : at ≡ pc + 1 + size a + 1 + size b = omega arith in
    let two : pc + 2 + size a ≡ pc + 1 + size a + 1 = omega arith in
    let Z : ℕ → List Match = λ k. closing_matches other (λ n. left_matches ls n) k in
    append_assoc (matches_of (pc + 1) a) (matches_of (pc + 2 + size a) b) (Z at)
    ∙ ap (λ k. matches_of (pc + 1) a ++ (matches_of k b ++ Z at)) two ∙ ap (λ k. matches_of (pc + 1) a ++ (matches_of (pc + 1 + size a + 1) b ++ Z k)) one

closes : (m : Parts) (map : BodyMap) (o : Open) (os : List Open) (other : Option Code) (ls : List Level) (p q : ℕ) → p ≡ q
    → ClosesMapped m map o (labels_in (o ∷ os)) other (λ n. LeftMapped m map ls os n (after_end o)) p → ClosesMapped m map o (labels_in (o ∷ os)) other (λ n. LeftMapped m map ls os n (after_end o)) q
closes m map o os other ls p q e x = subst (λ k. ClosesMapped m map o (labels_in (o ∷ os)) other (λ n. LeftMapped m map ls os n (after_end o)) k) e x

block_mapped : (m : Parts) (map : BodyMap) (r : Option ValType) (a b : Code) (other : Option Code) (ls : List Level) (opens : List Open) (pc h : ℕ) (n : Open)
    → n ≡ opening (block_label (labels_in opens) (pc + 1 + size a) h r) (gives_value r)
    → LeftMapped m map (level a None ∷ level b other ∷ ls) (n ∷ opens) (pc + 1) h → LeftMapped m map (level (BlockOf r a b) other ∷ ls) opens pc h
block_mapped m map r a b other ls [] pc h n e x = tt
block_mapped m map r a b other ls (o ∷ os) pc h n e x =
    let y = subst (λ k. LeftMapped m map (level a None ∷ level b other ∷ ls) (k ∷ o ∷ os) (pc + 1) h) e x in
    ((y.0, y.1.0), closes m map o os other ls (pc + 1 + size a + 1 + size b) (pc + (2 + size a + size b)) (omega arith) y.1.1)

loop_mapped : (m : Parts) (map : BodyMap) (r : Option ValType) (a b : Code) (other : Option Code) (ls : List Level) (opens : List Open) (pc h : ℕ) (n : Open)
    → n ≡ opening (loop_label (labels_in opens) pc h) (gives_value r)
    → LeftMapped m map (level a None ∷ level b other ∷ ls) (n ∷ opens) (pc + 1) h → LeftMapped m map (level (LoopOf r a b) other ∷ ls) opens pc h
loop_mapped m map r a b other ls [] pc h n e x = tt
loop_mapped m map r a b other ls (o ∷ os) pc h n e x =
    let y = subst (λ k. LeftMapped m map (level a None ∷ level b other ∷ ls) (k ∷ o ∷ os) (pc + 1) h) e x in
    ((y.0, y.1.0), closes m map o os other ls (pc + 1 + size a + 1 + size b) (pc + (2 + size a + size b)) (omega arith) y.1.1)

if_mapped : (m : Parts) (map : BodyMap) (r : Option ValType) (a b : Code) (other : Option Code) (ls : List Level) (opens : List Open) (pc h : ℕ) (n : Open)
    → n ≡ opening (block_label (labels_in opens) (pc + 1 + size a) (h - 1) r) (gives_value r) → HasTarget map pc (skipped (labels_in opens) (pc + 1 + size a) (h - 1))
    → LeftMapped m map (level a None ∷ level b other ∷ ls) (n ∷ opens) (pc + 1) (h - 1) → LeftMapped m map (level (IfOf r a b) other ∷ ls) opens pc h
if_mapped m map r a b other ls [] pc h n e has x = tt
if_mapped m map r a b other ls (o ∷ os) pc h n e has x =
    let y = subst (λ k. LeftMapped m map (level a None ∷ level b other ∷ ls) (k ∷ o ∷ os) (pc + 1) (h - 1)) e x in
    ((has, y.0, y.1.0), closes m map o os other ls (pc + 1 + size a + 1 + size b) (pc + (2 + size a + size b)) (omega arith) y.1.1)

if_else_mapped : (m : Parts) (map : BodyMap) (r : Option ValType) (a d b : Code) (other : Option Code) (ls : List Level) (opens : List Open) (pc h : ℕ) (n : Open)
    → n ≡ opening (block_label (labels_in opens) (pc + 1 + size a + 1 + size d) (h - 1) r) (gives_value r) → HasTarget map pc (skipped (labels_in opens) (pc + 1 + size a + 1) (h - 1))
    → LeftMapped m map (level a (Some d) ∷ level b other ∷ ls) (n ∷ opens) (pc + 1) (h - 1) → LeftMapped m map (level (IfElseOf r a d b) other ∷ ls) opens pc h
if_else_mapped m map r a d b other ls [] pc h n e has x = tt
if_else_mapped m map r a d b other ls (o ∷ os) pc h n e has x =
    let y = subst (λ k. LeftMapped m map (level a (Some d) ∷ level b other ∷ ls) (k ∷ o ∷ os) (pc + 1) (h - 1)) e x in (
      (has, y.0, y.1.0, y.1.1, y.1.2.0),
      closes m map o os other ls (pc + 1 + size a + 1 + size d + 1 + size b) (pc + (3 + size a + size d + size b)) (omega arith) y.1.2.1,
    )

-- what is seen of a block or a loop, and of an if
abbrev BlockSeen : List ℕ → Instr → List Instr → List Level → Type 0
BlockSeen pool i left levels =
    ((r : Option ValType) × (a : Code) × (b : Code) × (other : Option Code) × (ls : List Level) × (levels ≡ level (BlockOf r a b) other ∷ ls) × (i ≡ block_instr r)
    × Stands pool left (level a None ∷ level b other ∷ ls))
    ⊎ ((r : Option ValType) × (a : Code) × (b : Code) × (other : Option Code) × (ls : List Level) × (levels ≡ level (LoopOf r a b) other ∷ ls) × (i ≡ loop_instr r)
    × Stands pool left (level a None ∷ level b other ∷ ls))

abbrev IfSeen : List ℕ → Instr → List Instr → List Level → Type 0
IfSeen pool i left levels =
    ((r : Option ValType) × (a : Code) × (b : Code) × (other : Option Code) × (ls : List Level) × (levels ≡ level (IfOf r a b) other ∷ ls) × (i ≡ if_instr r)
    × Stands pool left (level a None ∷ level b other ∷ ls))
    ⊎ ((r : Option ValType) × (a : Code) × (d : Code) × (b : Code) × (other : Option Code) × (ls : List Level) × (levels ≡ level (IfElseOf r a d b) other ∷ ls) × (i ≡ if_instr r)
    × Stands pool left (level a (Some d) ∷ level b other ∷ ls))

-- the places found are those of the list that begins, and what is left after it stands as before
module _ (pool : List ℕ) (matches : List Match) (i : Instr) (left : List Instr) (levels : List Level) (old new : Pass) (n : Open) (t : Option Target) (found : Match)
    (is : IsLeft pool matches (i ∷ left) levels old) (there : slice_get matches old.matched ≡ Some found) (begins : Begins n t old new) where
  pub begun_slots : length new.map.slots ≡ length old.map.slots + 1
  begun_slots = marked_slots t old.map new.map begins.map

  pub found_is : (first : Match) (next : List Level) → left_matches levels (length old.map.slots) ≡ first ∷ left_matches next (length old.map.slots + 1) → found ≡ first
  found_is first next e =
      let d = drops old.matched matches first (left_matches next (length old.map.slots + 1)) (is.matched ∙ e) in
      let f : Some found ≡ Some first = sym there ∙ d.0 in
      cc

  pub begun_left : (first : Match) (next : List Level) → left_matches levels (length old.map.slots) ≡ first ∷ left_matches next (length old.map.slots + 1) → Stands pool left next
      → length (left_labels next) ≡ length (left_labels levels) → IsLeft pool matches left next new
  begun_left first next e st labels =
      let d = drops old.matched matches first (left_matches next (length old.map.slots + 1)) (is.matched ∙ e) in
      left_after pool matches i left levels next old new is st begun_slots
      (ap (λ k. drop k matches) begins.matched ∙ d.1 ∙ ap (λ k. left_matches next k) (sym begun_slots)) (omega (arith, ap length begins.map.tables, labels))

  -- what is mapped at the new pass is mapped after the list has begun
  pub begun_mapped : (m : Parts) (map : BodyMap) (next : List Level) (h : ℕ) → n.label.height ≡ h → LeftMapped m map next new.opens (length new.map.slots) new.height
      → LeftMapped m map next (n ∷ old.opens) (length old.map.slots + 1) h
  begun_mapped m map next h e x =
      subst (λ k. LeftMapped m map next (n ∷ old.opens) (length old.map.slots + 1) k) (begins.height ∙ e)
      (subst (λ k. LeftMapped m map next (n ∷ old.opens) k new.height) begun_slots (subst (λ k. LeftMapped m map next k (length new.map.slots) new.height) begins.opens x))

inner_labels : (a b : Code) (other : Option Code) (ls : List Level) → length (left_labels (level a None ∷ level b other ∷ ls)) ≡ length ((labels_of a ++ labels_of b) ++
    (other_labels other ++ left_labels ls))
inner_labels a b other ls = ap length (sym (append_assoc (labels_of a) (labels_of b) (other_labels other ++ left_labels ls)))

both_matches : (pc at : ℕ) (a d b : Code) (other : Option Code) (ls : List Level) → at ≡ pc + (3 + size a + size d + size b)
    → (matches_of (pc + 1) a ++ (matches_of (pc + 2 + size a) d ++ matches_of (pc + 3 + size a + size d) b)) ++ closing_matches other (λ n. left_matches ls n) at
    ≡ left_matches (level a (Some d) ∷ level b other ∷ ls) (pc + 1)
both_matches pc at a d b other ls e =
    let A : List Match = matches_of (pc + 1) a in
    let Z : ℕ → List Match = λ k. closing_matches other (λ n. left_matches ls n) k in
    let one : pc + 2 + size a ≡ pc + 1 + size a + 1 = omega arith in
    let two : pc + 3 + size a + size d ≡ pc + 1 + size a + 1 + size d + 1 = omega arith in
    let three : at ≡ pc + 1 + size a + 1 + size d + 1 + size b = omega arith in
    append_assoc A (matches_of (pc + 2 + size a) d ++ matches_of (pc + 3 + size a + size d) b) (Z at)
    ∙ ap (λ k. A ++ k) (append_assoc (matches_of (pc + 2 + size a) d) (matches_of (pc + 3 + size a + size d) b) (Z at))
    ∙ ap (λ k. A ++ (matches_of k d ++ (matches_of (pc + 3 + size a + size d) b ++ Z at))) one
    ∙ ap (λ k. A ++ (matches_of (pc + 1 + size a + 1) d ++ (matches_of k b ++ Z at))) two
    ∙ ap (λ k. A ++ (matches_of (pc + 1 + size a + 1) d ++ (matches_of (pc + 1 + size a + 1 + size d + 1) b ++ Z k))) three

both_labels : (a d b : Code) (other : Option Code) (ls : List Level)
    → length (left_labels (level a (Some d) ∷ level b other ∷ ls)) ≡ length ((labels_of a ++ (labels_of d ++ labels_of b)) ++ (other_labels other ++ left_labels ls))
both_labels a d b other ls =
    let Z : List ℕ = other_labels other ++ left_labels ls in
    ap length (sym (append_assoc (labels_of a) (labels_of d ++ labels_of b) Z ∙ ap (λ k. labels_of a ++ k) (append_assoc (labels_of d) (labels_of b) Z)))

module _ (m : Parts) (pool : List ℕ) (matches : List Match) (i : Instr) (found : Match) (g : Option ValType) (n : Open) (old new : Pass)
    (there : slice_get matches old.matched ≡ Some found) (im : i.imm ≡ imm.Block g) where
  same_result : (r : Option ValType) → i.imm ≡ imm.Block r → g ≡ r
  same_result r e = let f : imm.Block g ≡ imm.Block r = sym im ∙ e in cc

  pub block_advances : sort_of i ≡ Some sort.Block → Begins n None old new
      → (i.code ≡ 0x03 → n ≡ opening (loop_label (labels_in old.opens) (length old.map.slots) old.height) (gives_value g))
      → (i.code ≢ 0x03 → found.end + 1 < 2 ^ 32 → n ≡ opening (block_label (labels_in old.opens) found.end old.height g) (gives_value g)) → Advances m pool matches i old new
  block_advances q begins loops blocks left levels is = cases (block_seen pool i left levels q is.stands)
    where
      cases : BlockSeen pool i left levels
          → (next : List Level) × IsLeft pool matches left next new × Leads m levels old next new
      cases (inl (r, a, b, other, ls, e, ii, st)) =
          let next : List Level = level a None ∷ level b other ∷ ls in
          let whole : List Level = level (BlockOf r a b) other ∷ ls in
          let here : IsLeft pool matches (i ∷ left) whole old = subst (λ k. IsLeft pool matches (i ∷ left) k old) e is in
          let first : Match = match_of (length old.map.slots) (size a) in
          let me : left_matches whole (length old.map.slots) ≡ first ∷ left_matches next (length old.map.slots + 1) =
          ap (λ l. first ∷ l) (inner_matches (length old.map.slots) (length old.map.slots + (2 + size a + size b)) a b other ls refl)
          in
          let f : found ≡ first = found_is pool matches i left whole old new n None found here there begins first next me in
          let other_code : i.code ≢ 0x03 = λ z. let w : i.code ≡ 0x02 = ap (λ (j : Instr). j.code) ii in absurd (omega (arith, z, w)) in
          let end : found.end ≡ length old.map.slots + 1 + size a = ap (λ (k : Match). k.end) f in
          let fits : found.end + 1 < 2 ^ 32 = omega (arith, here.short, end, inside_left pool left a (level b other ∷ ls) st) in
          let gr : g ≡ r = same_result r (ap (λ (j : Instr). j.imm) ii) in
          let label : n ≡ opening (block_label (labels_in old.opens) (length old.map.slots + 1 + size a) old.height r) (gives_value r) =
          blocks other_code fits ∙ ap (λ k. opening (block_label (labels_in old.opens) k old.height g) (gives_value g)) end
          ∙ ap (λ k. opening (block_label (labels_in old.opens) (length old.map.slots + 1 + size a) old.height k) (gives_value k)) gr
          in (
            next,
            begun_left pool matches i left whole old new n None found here there begins first next me st (inner_labels a b other ls),
            λ map x to. subst (λ k. LeftMapped m map k old.opens (length old.map.slots) old.height) (sym e)
                (block_mapped m map r a b other ls old.opens (length old.map.slots) old.height n label
                (begun_mapped pool matches i left whole old new n None found here there begins m map next old.height (ap (λ (o : Open). o.label.height) label) to)),
          )
      cases (inr (r, a, b, other, ls, e, ii, st)) =
          let next : List Level = level a None ∷ level b other ∷ ls in
          let whole : List Level = level (LoopOf r a b) other ∷ ls in
          let here : IsLeft pool matches (i ∷ left) whole old = subst (λ k. IsLeft pool matches (i ∷ left) k old) e is in
          let first : Match = match_of (length old.map.slots) (size a) in
          let me : left_matches whole (length old.map.slots) ≡ first ∷ left_matches next (length old.map.slots + 1) =
          ap (λ l. first ∷ l) (inner_matches (length old.map.slots) (length old.map.slots + (2 + size a + size b)) a b other ls refl)
          in
          let gr : g ≡ r = same_result r (ap (λ (j : Instr). j.imm) ii) in
          let label : n ≡ opening (loop_label (labels_in old.opens) (length old.map.slots) old.height) (gives_value r) =
          loops (ap (λ (j : Instr). j.code) ii) ∙ ap (λ k. opening (loop_label (labels_in old.opens) (length old.map.slots) old.height) (gives_value k)) gr
          in (
            next,
            begun_left pool matches i left whole old new n None found here there begins first next me st (inner_labels a b other ls),
            λ map x to. subst (λ k. LeftMapped m map k old.opens (length old.map.slots) old.height) (sym e)
                (loop_mapped m map r a b other ls old.opens (length old.map.slots) old.height n label
                (begun_mapped pool matches i left whole old new n None found here there begins m map next old.height (ap (λ (o : Open). o.label.height) label) to)),
          )

  pub if_advances : (t : Target) → sort_of i ≡ Some sort.If → Begins n (Some t) old new
      → (found.end + 1 < 2 ^ 32 → n ≡ opening (block_label (labels_in old.opens) found.end (old.height - 1) g) (gives_value g))
      → (skips_to found < 2 ^ 32 → t ≡ skipped (labels_in old.opens) (skips_to found) (old.height - 1)) → Advances m pool matches i old new
  if_advances t q begins opened skips left levels is = cases (if_seen pool i left levels q is.stands)
    where
      cases : IfSeen pool i left levels
          → (next : List Level) × IsLeft pool matches left next new × Leads m levels old next new
      cases (inl (r, a, b, other, ls, e, ii, st)) =
          let next : List Level = level a None ∷ level b other ∷ ls in
          let whole : List Level = level (IfOf r a b) other ∷ ls in
          let here : IsLeft pool matches (i ∷ left) whole old = subst (λ k. IsLeft pool matches (i ∷ left) k old) e is in
          let first : Match = match_of (length old.map.slots) (size a) in
          let me : left_matches whole (length old.map.slots) ≡ first ∷ left_matches next (length old.map.slots + 1) =
          ap (λ l. first ∷ l) (inner_matches (length old.map.slots) (length old.map.slots + (2 + size a + size b)) a b other ls refl)
          in
          let f : found ≡ first = found_is pool matches i left whole old new n (Some t) found here there begins first next me in
          let end : found.end ≡ length old.map.slots + 1 + size a = ap (λ (k : Match). k.end) f in
          let skip : skips_to found ≡ length old.map.slots + 1 + size a = ap skips_to f in
          let fits : found.end + 1 < 2 ^ 32 = omega (arith, here.short, end, inside_left pool left a (level b other ∷ ls) st) in
          let low : skips_to found < 2 ^ 32 = omega (arith, fits, end, skip) in
          let gr : g ≡ r = same_result r (ap (λ (j : Instr). j.imm) ii) in
          let label : n ≡ opening (block_label (labels_in old.opens) (length old.map.slots + 1 + size a) (old.height - 1) r) (gives_value r) =
          opened fits ∙ ap (λ k. opening (block_label (labels_in old.opens) k (old.height - 1) g) (gives_value g)) end
          ∙ ap (λ k. opening (block_label (labels_in old.opens) (length old.map.slots + 1 + size a) (old.height - 1) k) (gives_value k)) gr
          in
          let target : t ≡ skipped (labels_in old.opens) (length old.map.slots + 1 + size a) (old.height - 1) =
          skips low ∙ ap (λ k. skipped (labels_in old.opens) k (old.height - 1)) skip
          in (
            next,
            begun_left pool matches i left whole old new n (Some t) found here there begins first next me st (inner_labels a b other ls),
            λ map x to. subst (λ k. LeftMapped m map k old.opens (length old.map.slots) old.height) (sym e)
                (if_mapped m map r a b other ls old.opens (length old.map.slots) old.height n label
                (subst (λ k. HasTarget map (length old.map.slots) k) target (has_target t old.map new.map map begins.map x))
                (begun_mapped pool matches i left whole old new n (Some t) found here there begins m map next (old.height - 1) (ap (λ (o : Open). o.label.height) label) to)),
          )
      cases (inr (r, a, d, b, other, ls, e, ii, st)) =
          let next : List Level = level a (Some d) ∷ level b other ∷ ls in
          let whole : List Level = level (IfElseOf r a d b) other ∷ ls in
          let here : IsLeft pool matches (i ∷ left) whole old = subst (λ k. IsLeft pool matches (i ∷ left) k old) e is in
          let first : Match = else_match_of (length old.map.slots) (size a) (size d) in
          let me : left_matches whole (length old.map.slots) ≡ first ∷ left_matches next (length old.map.slots + 1) =
          ap (λ l. first ∷ l) (both_matches (length old.map.slots) (length old.map.slots + (3 + size a + size d + size b)) a d b other ls refl)
          in
          let f : found ≡ first = found_is pool matches i left whole old new n (Some t) found here there begins first next me in
          let end : found.end ≡ length old.map.slots + 1 + size a + 1 + size d =
          let z : length old.map.slots + 2 + size a + size d ≡ length old.map.slots + 1 + size a + 1 + size d = omega arith in
          ap (λ (k : Match). k.end) f ∙ z
          in
          let skip : skips_to found ≡ length old.map.slots + 1 + size a + 1 = ap skips_to f in
          let fits : found.end + 1 < 2 ^ 32 = omega (arith, here.short, end, both_left pool left a d (level b other ∷ ls) st) in
          let low : skips_to found < 2 ^ 32 = omega (arith, fits, end, skip) in
          let gr : g ≡ r = same_result r (ap (λ (j : Instr). j.imm) ii) in
          let label : n ≡ opening (block_label (labels_in old.opens) (length old.map.slots + 1 + size a + 1 + size d) (old.height - 1) r) (gives_value r) =
          opened fits ∙ ap (λ k. opening (block_label (labels_in old.opens) k (old.height - 1) g) (gives_value g)) end
          ∙ ap (λ k. opening (block_label (labels_in old.opens) (length old.map.slots + 1 + size a + 1 + size d) (old.height - 1) k) (gives_value k)) gr
          in
          let target : t ≡ skipped (labels_in old.opens) (length old.map.slots + 1 + size a + 1) (old.height - 1) =
          skips low ∙ ap (λ k. skipped (labels_in old.opens) k (old.height - 1)) skip
          in (
            next,
            begun_left pool matches i left whole old new n (Some t) found here there begins first next me st (both_labels a d b other ls),
            λ map x to. subst (λ k. LeftMapped m map k old.opens (length old.map.slots) old.height) (sym e)
                (if_else_mapped m map r a d b other ls old.opens (length old.map.slots) old.height n label
                (subst (λ k. HasTarget map (length old.map.slots) k) target (has_target t old.map new.map map begins.map x))
                (begun_mapped pool matches i left whole old new n (Some t) found here there begins m map next (old.height - 1) (ap (λ (o : Open). o.label.height) label) to)),
          )

-- else and end

else_mapped : (m : Parts) (map : BodyMap) (d : Code) (ls : List Level) (opens : List Open) (pc next h h' : ℕ) → next ≡ pc + 1
    → ((t : Target) → slice_get (labels_in opens) 0 ≡ Some t → HasTarget map pc t × (h' ≡ t.height))
    → LeftMapped m map (level d None ∷ ls) opens next h' → LeftMapped m map (level Empty (Some d) ∷ ls) opens pc h
else_mapped m map d ls [] pc next h h' e has x = tt
else_mapped m map d ls (o ∷ os) pc next h h' e has x =
    let here = has o.label refl in
    let y : LeftMapped m map (level d None ∷ ls) (o ∷ os) (pc + 1) o.label.height =
    subst (λ k. LeftMapped m map (level d None ∷ ls) (o ∷ os) (pc + 1) k) here.1 (subst (λ k. LeftMapped m map (level d None ∷ ls) (o ∷ os) k h') e x)
    in
    let place : pc ≡ pc + 0 = omega arith in
    (tt, closes m map o os (Some d) ls pc (pc + 0) place (here.0, y.0, y.1))

pub else_advances : (m : Parts) (pool : List ℕ) (matches : List Match) (i : Instr) (t : Option Target) (old new : Pass) → sort_of i ≡ Some sort.Else
    → Marks t old.map new.map → new.opens ≡ old.opens → new.matched ≡ old.matched → t ≡ slice_get (labels_in old.opens) 0
    → ((x : Target) → t ≡ Some x → new.height ≡ x.height) → Advances m pool matches i old new
else_advances m pool matches i t old new q marks opens matched found height left levels is =
    let x = else_seen pool i left levels q is.stands in
    let d : Code = x.0 in
    let ls : List Level = x.1 in
    let whole : List Level = level Empty (Some d) ∷ ls in
    let next : List Level = level d None ∷ ls in
    let here : IsLeft pool matches (i ∷ left) whole old = subst (λ k. IsLeft pool matches (i ∷ left) k old) x.2 is in
    let slots : length new.map.slots ≡ length old.map.slots + 1 = marked_slots t old.map new.map marks in
    let place : length old.map.slots + 0 ≡ length old.map.slots = omega arith in (
      next,
      left_after pool matches i left whole next old new here x.3 slots
          (ap (λ k. drop k matches) matched ∙ here.matched ∙ ap (λ k. closing_matches (Some d) (λ n. left_matches ls n) k) place ∙ ap (λ k. left_matches next k) (sym slots))
          (omega (arith, ap length marks.tables)),
      λ map e to.
          subst (λ k. LeftMapped m map k old.opens (length old.map.slots) old.height) (sym x.2)
          (else_mapped m map d ls old.opens (length old.map.slots) (length new.map.slots) old.height new.height slots
          (λ u g. (has_target u old.map new.map map (subst (λ o. Marks o old.map new.map) (found ∙ g) marks) e, height u (found ∙ g)))
          (subst (λ k. LeftMapped m map next k (length new.map.slots) new.height) opens to)),
    )

end_mapped : (m : Parts) (map : BodyMap) (ls : List Level) (o : Open) (os : List Open) (pc next h h' : ℕ) → next ≡ pc + 1 → h' ≡ after_end o
    → LeftMapped m map ls os next h' → LeftMapped m map (level Empty None ∷ ls) (o ∷ os) pc h
end_mapped m map ls o os pc next h h' e a x =
    let place : pc ≡ pc + 0 = omega arith in
    (tt, closes m map o os None ls pc (pc + 0) place (subst (λ k. LeftMapped m map ls os (pc + 1) k) a (subst (λ k. LeftMapped m map ls os k h') e x)))

pub end_left : (pool : List ℕ) (matches : List Match) (i : Instr) (left : List Instr) (ls : List Level) (old new : Pass) → Marks None old.map new.map → new.matched ≡ old.matched
    → IsLeft pool matches (i ∷ left) (level Empty None ∷ ls) old → Stands pool left ls → IsLeft pool matches left ls new
end_left pool matches i left ls old new marks matched here st =
    let slots : length new.map.slots ≡ length old.map.slots + 1 = marked_slots None old.map new.map marks in
    let place : length old.map.slots + 0 + 1 ≡ length new.map.slots = omega (arith, slots) in
    left_after pool matches i left (level Empty None ∷ ls) ls old new here st slots (ap (λ k. drop k matches) matched ∙ here.matched ∙ ap (λ k. left_matches ls k) place)
    (omega (arith, ap length marks.tables))

pub end_advances : (m : Parts) (pool : List ℕ) (matches : List Match) (i : Instr) (o : Open) (old new : Pass) → sort_of i ≡ Some sort.End
    → Marks None old.map new.map → old.opens ≡ o ∷ new.opens → new.matched ≡ old.matched → new.height ≡ after_end o → Advances m pool matches i old new
end_advances m pool matches i o old new q marks opens matched height left levels is =
    let x = end_seen pool i left levels q is.stands in
    let ls : List Level = x.0 in
    let whole : List Level = level Empty None ∷ ls in
    let here : IsLeft pool matches (i ∷ left) whole old = subst (λ k. IsLeft pool matches (i ∷ left) k old) x.1 is in (
      ls,
      end_left pool matches i left ls old new marks matched here x.2,
      λ map e to.
          subst (λ k. LeftMapped m map k old.opens (length old.map.slots) old.height) (sym x.1)
          (subst (λ k. LeftMapped m map whole k (length old.map.slots) old.height) (sym opens)
          (end_mapped m map ls o new.opens (length old.map.slots) (length new.map.slots) old.height new.height (marked_slots None old.map new.map marks) height to)),
    )

-- an end where no list has begun
pub end_nothing : (m : Parts) (pool : List ℕ) (matches : List Match) (i : Instr) (old new : Pass) → sort_of i ≡ Some sort.End
    → Marks None old.map new.map → old.opens ≡ [] → new.matched ≡ old.matched → Advances m pool matches i old new
end_nothing m pool matches i old new q marks none matched left levels is =
    let x = end_seen pool i left levels q is.stands in
    let ls : List Level = x.0 in
    let whole : List Level = level Empty None ∷ ls in
    let here : IsLeft pool matches (i ∷ left) whole old = subst (λ k. IsLeft pool matches (i ∷ left) k old) x.1 is in (
      ls,
      end_left pool matches i left ls old new marks matched here x.2,
      λ map e to.
          subst (λ k. LeftMapped m map k old.opens (length old.map.slots) old.height) (sym x.1)
          (subst (λ k. LeftMapped m map whole k (length old.map.slots) old.height) (sym none) tt),
    )

-- a block, a loop and an if have their places and their results, and a br_table its labels

block_there : (pool : List ℕ) (matches : List Match) (i : Instr) (left : List Instr) (levels : List Level) (pass : Pass) → IsLeft pool matches (i ∷ left) levels pass → sort_of i ≡ Some sort.Block
    → ((found : Match) × (slice_get matches pass.matched ≡ Some found)) × ((g : Option ValType) × (i.imm ≡ imm.Block g))
block_there pool matches i left levels pass is q = cases (block_seen pool i left levels q is.stands)
  where
    there : (a b : Code) (other : Option Code) (ls : List Level) (whole : Code) (r : Option ValType) → levels ≡ level whole other ∷ ls → i.imm ≡ imm.Block r
        → left_matches (level whole other ∷ ls) (length pass.map.slots) ≡ match_of (length pass.map.slots) (size a) ∷ left_matches (level a None ∷ level b other ∷ ls) (length pass.map.slots + 1)
        → ((found : Match) × (slice_get matches pass.matched ≡ Some found)) × ((g : Option ValType) × (i.imm ≡ imm.Block g))
    there a b other ls whole r e im me =
        let first : Match = match_of (length pass.map.slots) (size a) in
        let d = drops pass.matched matches first (left_matches (level a None ∷ level b other ∷ ls) (length pass.map.slots + 1))
        (is.matched ∙ ap (λ k. left_matches k (length pass.map.slots)) e ∙ me)
        in
        ((first, d.0), (r, im))

    cases : BlockSeen pool i left levels
        → ((found : Match) × (slice_get matches pass.matched ≡ Some found)) × ((g : Option ValType) × (i.imm ≡ imm.Block g))
    cases (inl (r, a, b, other, ls, e, ii, st)) =
        there a b other ls (BlockOf r a b) r e (ap (λ (j : Instr). j.imm) ii)
        (ap (λ l. match_of (length pass.map.slots) (size a) ∷ l) (inner_matches (length pass.map.slots) (length pass.map.slots + (2 + size a + size b)) a b other ls refl))
    cases (inr (r, a, b, other, ls, e, ii, st)) =
        there a b other ls (LoopOf r a b) r e (ap (λ (j : Instr). j.imm) ii)
        (ap (λ l. match_of (length pass.map.slots) (size a) ∷ l) (inner_matches (length pass.map.slots) (length pass.map.slots + (2 + size a + size b)) a b other ls refl))

if_there : (pool : List ℕ) (matches : List Match) (i : Instr) (left : List Instr) (levels : List Level) (pass : Pass) → IsLeft pool matches (i ∷ left) levels pass → sort_of i ≡ Some sort.If
    → ((found : Match) × (slice_get matches pass.matched ≡ Some found)) × ((g : Option ValType) × (i.imm ≡ imm.Block g))
if_there pool matches i left levels pass is q = cases (if_seen pool i left levels q is.stands)
  where
    cases : IfSeen pool i left levels
        → ((found : Match) × (slice_get matches pass.matched ≡ Some found)) × ((g : Option ValType) × (i.imm ≡ imm.Block g))
    cases (inl (r, a, b, other, ls, e, ii, st)) =
        let first : Match = match_of (length pass.map.slots) (size a) in
        let me = ap (λ l. first ∷ l) (inner_matches (length pass.map.slots) (length pass.map.slots + (2 + size a + size b)) a b other ls refl) in
        let d = drops pass.matched matches first (left_matches (level a None ∷ level b other ∷ ls) (length pass.map.slots + 1))
        (is.matched ∙ ap (λ k. left_matches k (length pass.map.slots)) e ∙ me)
        in
        ((first, d.0), (r, ap (λ (j : Instr). j.imm) ii))
    cases (inr (r, a, d, b, other, ls, e, ii, st)) =
        let first : Match = else_match_of (length pass.map.slots) (size a) (size d) in
        let me = ap (λ l. first ∷ l) (both_matches (length pass.map.slots) (length pass.map.slots + (3 + size a + size d + size b)) a d b other ls refl) in
        let f = drops pass.matched matches first (left_matches (level a (Some d) ∷ level b other ∷ ls) (length pass.map.slots + 1))
        (is.matched ∙ ap (λ k. left_matches k (length pass.map.slots)) e ∙ me)
        in
        ((first, f.0), (r, ap (λ (j : Instr). j.imm) ii))

pub block_places : (pool : List ℕ) (matches : List Match) (i : Instr) (left : List Instr) (levels : List Level) (pass : Pass) → IsLeft pool matches (i ∷ left) levels pass
    → sort_of i ≡ Some sort.Block → slice_get matches pass.matched ≡ None → ⊥
block_places pool matches i left levels pass is q n =
    let h = (block_there pool matches i left levels pass is q).0 in let e : None ≡ Some h.0 = sym n ∙ h.1 in absurd (cc e)

pub block_result : (pool : List ℕ) (matches : List Match) (i : Instr) (left : List Instr) (levels : List Level) (pass : Pass) → IsLeft pool matches (i ∷ left) levels pass
    → sort_of i ≡ Some sort.Block → ((g : Option ValType) → i.imm ≡ imm.Block g → ⊥) → ⊥
block_result pool matches i left levels pass is q n = let h = (block_there pool matches i left levels pass is q).1 in n h.0 h.1

pub if_places : (pool : List ℕ) (matches : List Match) (i : Instr) (left : List Instr) (levels : List Level) (pass : Pass) → IsLeft pool matches (i ∷ left) levels pass
    → sort_of i ≡ Some sort.If → slice_get matches pass.matched ≡ None → ⊥
if_places pool matches i left levels pass is q n =
    let h = (if_there pool matches i left levels pass is q).0 in let e : None ≡ Some h.0 = sym n ∙ h.1 in absurd (cc e)

pub if_result : (pool : List ℕ) (matches : List Match) (i : Instr) (left : List Instr) (levels : List Level) (pass : Pass) → IsLeft pool matches (i ∷ left) levels pass
    → sort_of i ≡ Some sort.If → ((g : Option ValType) → i.imm ≡ imm.Block g → ⊥) → ⊥
if_result pool matches i left levels pass is q n = let h = (if_there pool matches i left levels pass is q).1 in n h.0 h.1

pub table_numbers : (pool : List ℕ) (matches : List Match) (i : Instr) (first count : ℕ) (left : List Instr) (levels : List Level) (pass : Pass) → IsLeft pool matches (i ∷ left) levels pass
    → sort_of i ≡ Some (sort.Table first count) → ((a b l : ℕ) → i.imm ≡ imm.Table a b l → ⊥) → ⊥
table_numbers pool matches i first count left levels pass is q n = let x = table_seen pool i left levels first count q is.stands in n first count x.1 x.6

pub table_labels : (pool : List ℕ) (matches : List Match) (i : Instr) (first count : ℕ) (left : List Instr) (levels : List Level) (pass : Pass) → IsLeft pool matches (i ∷ left) levels pass
    → sort_of i ≡ Some (sort.Table first count) → length pool < first + count → ⊥
table_labels pool matches i first count left levels pass is q n = let x = table_seen pool i left levels first count q is.stands in omega (arith, x.7, n)
