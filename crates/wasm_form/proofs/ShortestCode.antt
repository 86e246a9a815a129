-- Instructions that are a tree are spelled by as many bytes as their least length says.
use Rattle.std.proofs.Common.{◌≡◌, ℕ, zero, suc, ◌+◌, ◌^◌, ◌<◌, List, [], ◌∷◌, ◌++◌, length, length-append, sum_by, All, Bool, true, false, cond, eqb, Option, Some, None, arith, refl, ap, subst, sym}
use Rattle.std.proofs.lemmas.List.Sums.{sum_by-cons, sum_by-append}
use Rattle.std.proofs.lemmas.List.Elements.{All-nil, All-cons, All-head, All-tail, All-append}
use Rattle.std.proofs.lemmas.Nat.{from_le_bytes-to_le_bytes_4, from_le_bytes-to_le_bytes_8}
use Rattle.std.specs.Int.{byte_at, bytes_low_first, to_le_bytes, w32, w64}
use Rattle.wasm_form.specs.Values.{SpellsU32, SpellsVector}
use Rattle.wasm_form.specs.Types.{SpellsBlockType}
use Rattle.wasm_form.specs.Instructions.{immediates_of, fits, SpellsImmediates, SpellsPlain}
use Rattle.wasm_form.specs.Trees.{Code, Empty, Then, TableOf, BlockOf, LoopOf, IfOf, IfElseOf, SpellsTable, SpellsCode, SpellsExpr, flat, labels_of, end_instr, else_instr, block_instr, loop_instr, if_instr, table_instr}
use Rattle.wasm_form.specs.Matching.{sort_of, sort_at, special_sort, IsPlain, HasPlain, IsTree}
use Rattle.wasm_form.specs.Least.{least_unsigned, least_vector, least_imm, zero_byte, least_instr, least_expr}
use Rattle.wasm_form.specs.Ranges.{IsU32, IsOctet, HasImmRange, HasInstrRange, HasExprRange}
use Rattle.wasm_form.specs.declared.value_type.ValType.{ValType}
use Rattle.wasm_form.specs.declared.value_type.ValType.TheVariants.{I32, I64, F32, F64}
use Rattle.wasm_form.specs.declared.instr.Instr.{Instr}
use Rattle.wasm_form.specs.declared.instr.Imm.{Imm}
use Rattle.wasm_form.specs.declared.instr.Imm.TheVariants as imm
use Rattle.wasm_form.specs.declared.immediates.Immediates.{Immediates}
use Rattle.wasm_form.specs.declared.immediates.Immediates.TheVariants as kind
use Rattle.wasm_form.specs.declared.sort.Sort.{Sort}
use Rattle.wasm_form.specs.declared.sort.Sort.TheVariants as sort
use Rattle.wasm_form.specs.declared.expr.Expr.{Expr}
use Rattle.wasm_form.proofs.Octets.{octets_by, octets_cons}
use Rattle.wasm_form.proofs.LeastNumbers.{Spelling, shortest_unsigned, shortest_s32, shortest_s64}
use Rattle.wasm_form.proofs.LeastParts.{least_code, closed, table_bytes, block_bytes, loop_bytes, if_bytes, else_byte, end_byte}
use Rattle.wasm_form.proofs.Shortest.{as_long, join, lead, shortest_block_type, shortest_numbers}

-- instructions
low_byte : (i n : ℕ) → byte_at i n < 2 ^ 8
low_byte zero n = omega arith
low_byte (suc i) n = omega arith

low_bytes : (k i n : ℕ) → All IsOctet (bytes_low_first i k n)
low_bytes zero i n = All-nil IsOctet
low_bytes (suc k) i n = octets_cons (byte_at i n) (bytes_low_first (suc i) k n) (low_byte i n) (low_bytes k (suc i) n)

shortest_immediates : (k : Immediates) (i : Imm) → fits k i ≡ true → HasImmRange i → Spelling (SpellsImmediates k) i (least_imm i + zero_byte (Some k))
shortest_immediates kind.Bare imm.None e h = record { bytes = []; octets = octets_by [] refl; spells = (refl, refl); long = refl }
shortest_immediates kind.Index (imm.Index n) e h =
    let u : Spelling SpellsU32 n (least_unsigned n) = shortest_unsigned n h in
    record { bytes = u.bytes; octets = u.octets; spells = (n, u.spells, refl); long = omega (arith, u.long) }
shortest_immediates kind.TypeAndZero (imm.Index n) e h =
    let u : Spelling SpellsU32 n (least_unsigned n) = shortest_unsigned n h in
    record {
      bytes = u.bytes ++ 0x00 ∷ [];
      octets = All-append IsOctet u.bytes (0x00 ∷ []) u.octets (octets_by (0x00 ∷ []) refl);
      spells = (u.bytes, n, u.spells, refl, refl);
      long = omega (arith, u.long, length-append u.bytes (0x00 ∷ []));
    }
shortest_immediates kind.Zero imm.None e h = record { bytes = 0x00 ∷ []; octets = octets_by (0x00 ∷ []) refl; spells = (refl, refl); long = refl }
shortest_immediates kind.Memory (imm.Mem align offset) e h =
    let a : Spelling SpellsU32 align (least_unsigned align) = shortest_unsigned align h.0 in
    let o : Spelling SpellsU32 offset (least_unsigned offset) = shortest_unsigned offset h.1 in
    record {
      bytes = a.bytes ++ o.bytes;
      octets = All-append IsOctet a.bytes o.bytes a.octets o.octets;
      spells = (a.bytes, o.bytes, align, offset, a.spells, o.spells, refl, refl);
      long = omega (arith, a.long, o.long, length-append a.bytes o.bytes);
    }
shortest_immediates kind.S32 (imm.I32 bits) e h =
    let s = shortest_s32 bits h in
    record { bytes = s.2.bytes; octets = s.2.octets; spells = (s.0, s.2.spells, ap (λ (n : ℕ). imm.I32 n) s.1); long = omega (arith, s.2.long) }
shortest_immediates kind.S64 (imm.I64 bits) e h =
    let s = shortest_s64 bits h in
    record { bytes = s.2.bytes; octets = s.2.octets; spells = (s.0, s.2.spells, ap (λ (n : ℕ). imm.I64 n) s.1); long = omega (arith, s.2.long) }
shortest_immediates kind.F32 (imm.F32 bits) e h =
    record {
      bytes = to_le_bytes w32 bits;
      octets = low_bytes 4 0 bits;
      spells = (refl, ap (λ (n : ℕ). imm.F32 n) (sym (from_le_bytes-to_le_bytes_4 bits h)));
      long = refl;
    }
shortest_immediates kind.F64 (imm.F64 bits) e h =
    record {
      bytes = to_le_bytes w64 bits;
      octets = low_bytes 8 0 bits;
      spells = (refl, ap (λ (n : ℕ). imm.F64 n) (sym (from_le_bytes-to_le_bytes_8 bits h)));
      long = refl;
    }
shortest_immediates k i e h = absurd (cc)

-- which instructions are plain
two : (a b : Bool) (x y z : Sort) → (x ≡ z → ⊥) → (y ≡ z → ⊥) → cond a (Some x) (cond b (Some y) None) ≡ Some z → ⊥
two true b x y z p q e = p (cc)
two false true x y z p q e = q (cc)
two false false x y z p q e = absurd (cc)

three : (a b c : Bool) (x y w z : Sort) → (x ≡ z → ⊥) → (y ≡ z → ⊥) → (w ≡ z → ⊥) → cond a (Some x) (cond b (Some y) (cond c (Some w) None)) ≡ Some z → ⊥
three true b c x y w z p q r e = p (cc)
three false true c x y w z p q r e = q (cc)
three false false true x y w z p q r e = r (cc)
three false false false x y w z p q r e = absurd (cc)

one : (a : Bool) (x z : Sort) → (x ≡ z → ⊥) → cond a (Some x) None ≡ Some z → ⊥
one true x z p e = p (cc)
one false x z p e = absurd (cc)

not_special : (code : ℕ) (i : Imm) → special_sort code i ≡ Some sort.Plain → ⊥
not_special code imm.None e = two (eqb code 0x05) (eqb code 0x0B) sort.Else sort.End sort.Plain (λ h. absurd (cc)) (λ h. absurd (cc)) e
not_special code (imm.Block r) e = three (eqb code 0x02) (eqb code 0x03) (eqb code 0x04) sort.Block sort.Block sort.If sort.Plain (λ h. absurd (cc)) (λ h. absurd (cc)) (λ h. absurd (cc)) e
not_special code (imm.Table first count last) e = one (eqb code 0x0E) (sort.Table first count) sort.Plain (λ h. absurd (cc)) e
not_special code i e = absurd (cc)

if_fits : (b : Bool) → cond b (Some sort.Plain) None ≡ Some sort.Plain → b ≡ true
if_fits true e = refl
if_fits false e = absurd (cc)

kind_of : (o : Option Immediates) (code : ℕ) (i : Imm) → sort_at o code i ≡ Some sort.Plain → (k : Immediates) × (o ≡ Some k) × (fits k i ≡ true)
kind_of None code i e = absurd (not_special code i e)
kind_of (Some k) code i e = (k, refl, if_fits (fits k i) e)

plain_kind : (i : Instr) → IsPlain i → (k : Immediates) × (immediates_of i.code ≡ Some k) × (fits k i.imm ≡ true)
unfolding sort_of
plain_kind i h = kind_of (immediates_of i.code) i.code i.imm h

shortest_plain : (i : Instr) → IsPlain i → HasInstrRange i → Spelling SpellsPlain i (least_instr i)
shortest_plain i plain h =
    let k : (k : Immediates) × (immediates_of i.code ≡ Some k) × (fits k i.imm ≡ true) = plain_kind i plain in
    let zero : zero_byte (immediates_of i.code) ≡ zero_byte (Some k.0) = ap zero_byte k.1 in
    as_long SpellsPlain i (1 + (least_imm i.imm + zero_byte (Some k.0))) (least_instr i) (omega (arith, zero))
    (lead i.code (SpellsImmediates k.0) SpellsPlain i.imm i (least_imm i.imm + zero_byte (Some k.0)) h.0 (λ s p. (k.0, s, k.1, p, refl)) (shortest_immediates k.0 i.imm k.2 h.1))

pub all_front : {A : Type 0} (P : A → Type 0) (xs ys : List A) → All P (xs ++ ys) → All P xs
all_front P [] ys h = All-nil P
all_front P (x ∷ xs) ys h = All-cons P x xs (All-head P x (xs ++ ys) h) (all_front P xs ys (All-tail P x (xs ++ ys) h))

pub all_back : {A : Type 0} (P : A → Type 0) (xs ys : List A) → All P (xs ++ ys) → All P ys
all_back P [] ys h = h
all_back P (x ∷ xs) ys h = all_back P xs ys (All-tail P x (xs ++ ys) h)

-- a block, loop or if without else
shortest_block : (b : ℕ) (r : Option ValType) (c inside rest : Code) (m n : ℕ) → b < 2 ^ 8
    → ((ty inner more : List ℕ) → SpellsBlockType ty r → SpellsCode inner inside → SpellsCode more rest → SpellsCode (b ∷ (ty ++ (inner ++ 0x0B ∷ more))) c)
    → Spelling SpellsCode inside m → Spelling SpellsCode rest n → Spelling SpellsCode c (3 + m + n)
shortest_block b r c inside rest m n low whole i o =
    let t : Spelling SpellsBlockType r 1 = shortest_block_type r in
    let tail : List ℕ = i.bytes ++ 0x0B ∷ o.bytes in
    let octets : All IsOctet tail = All-append IsOctet i.bytes (0x0B ∷ o.bytes) i.octets (octets_cons 0x0B o.bytes (omega arith) o.octets) in
    record {
      bytes = b ∷ (t.bytes ++ tail);
      octets = octets_cons b (t.bytes ++ tail) low (All-append IsOctet t.bytes tail t.octets octets);
      spells = whole t.bytes i.bytes o.bytes t.spells i.spells o.spells;
      long = omega (arith, t.long, i.long, o.long, length-append t.bytes tail, length-append i.bytes (0x0B ∷ o.bytes));
    }

shortest_table : (labels : List ℕ) (last : ℕ) → All IsU32 labels → IsU32 last → least_vector least_unsigned labels < 2 ^ 32
    → Spelling (λ s (x : ℕ). SpellsTable s labels last) 0 (1 + (least_vector least_unsigned labels + least_unsigned last))
shortest_table labels last all low few =
    let S : List ℕ → ℕ → Type 0 = λ s x. SpellsTable (0x0E ∷ s) labels last in
    lead 0x0E S (λ s (x : ℕ). SpellsTable s labels last) 0 0 (least_vector least_unsigned labels + least_unsigned last) (omega arith) (λ s h. h)
    (join (SpellsVector SpellsU32) SpellsU32 S labels last 0 (least_vector least_unsigned labels) (least_unsigned last) (λ s t h k. (s, t, h, k, refl))
    (shortest_numbers labels all few) (shortest_unsigned last low))

-- the same, by what its instructions and labels say
shortest_around : (byte : ℕ) (i : Instr) (r : Option ValType) (c a b : Code) (f : ℕ) → byte < 2 ^ 8 → least_instr i ≡ 2
    → ((ty inner more : List ℕ) → SpellsBlockType ty r → SpellsCode inner a → SpellsCode more b → SpellsCode (byte ∷ (ty ++ (inner ++ 0x0B ∷ more))) c)
    → All HasInstrRange (i ∷ (flat f a ++ end_instr ∷ flat (f + length (labels_of a)) b)) → All IsU32 (labels_of a ++ labels_of b)
    → sum_by least_instr (i ∷ (flat f a ++ end_instr ∷ flat (f + length (labels_of a)) b)) + sum_by least_unsigned (labels_of a ++ labels_of b) < 2 ^ 32
    → (All HasInstrRange (flat f a) → All IsU32 (labels_of a) → least_code f a < 2 ^ 32 → Spelling SpellsCode a (least_code f a))
    → (All HasInstrRange (flat (f + length (labels_of a)) b) → All IsU32 (labels_of b) → least_code (f + length (labels_of a)) b < 2 ^ 32
    → Spelling SpellsCode b (least_code (f + length (labels_of a)) b))
    → Spelling SpellsCode c (sum_by least_instr (i ∷ (flat f a ++ end_instr ∷ flat (f + length (labels_of a)) b)) + sum_by least_unsigned (labels_of a ++ labels_of b))
shortest_around byte i r c a b f low two whole is ls few inside rest =
    let g : ℕ = f + length (labels_of a) in
    let text : sum_by least_instr (i ∷ (flat f a ++ end_instr ∷ flat g b)) ≡ least_instr i + (sum_by least_instr (flat f a) + (least_instr end_instr + sum_by least_instr (flat g b))) =
    closed i end_instr (flat f a) (flat g b) in
    let names : sum_by least_unsigned (labels_of a ++ labels_of b) ≡ sum_by least_unsigned (labels_of a) + sum_by least_unsigned (labels_of b) = sum_by-append least_unsigned (labels_of a) (labels_of b) in
    let end : least_instr end_instr ≡ 1 = end_byte in
    let body : All HasInstrRange (flat f a ++ end_instr ∷ flat g b) = All-tail HasInstrRange i (flat f a ++ end_instr ∷ flat g b) is in
    let after : All HasInstrRange (flat g b) = All-tail HasInstrRange end_instr (flat g b) (all_back HasInstrRange (flat f a) (end_instr ∷ flat g b) body) in
    let sa : Spelling SpellsCode a (least_code f a) = inside (all_front HasInstrRange (flat f a) (end_instr ∷ flat g b) body) (all_front IsU32 (labels_of a) (labels_of b) ls) (omega (arith, text, names)) in
    let sb : Spelling SpellsCode b (least_code g b) = rest after (all_back IsU32 (labels_of a) (labels_of b) ls) (omega (arith, text, names)) in
    as_long SpellsCode c (3 + least_code f a + least_code g b) (sum_by least_instr (i ∷ (flat f a ++ end_instr ∷ flat g b)) + sum_by least_unsigned (labels_of a ++ labels_of b)) (omega (arith, text, names, end, two))
    (shortest_block byte r c a b (least_code f a) (least_code g b) low whole sa sb)

-- the instructions of a tree, where f labels are pooled before them
shortest_code : (c : Code) (f : ℕ) → HasPlain c → All HasInstrRange (flat f c) → All IsU32 (labels_of c) → least_code f c < 2 ^ 32 → Spelling SpellsCode c (least_code f c)
shortest_code Empty f p is ls few = record { bytes = []; octets = All-nil IsOctet; spells = refl; long = refl }
shortest_code (Then i rest) f p is ls few =
    let sum : sum_by least_instr (i ∷ flat f rest) ≡ least_instr i + sum_by least_instr (flat f rest) = sum_by-cons least_instr i (flat f rest) in
    let r : Spelling SpellsCode rest (least_code f rest) = shortest_code rest f p.1 (All-tail HasInstrRange i (flat f rest) is) ls (omega (arith, sum)) in
    as_long SpellsCode (Then i rest) (least_instr i + least_code f rest) (least_code f (Then i rest)) (omega (arith, sum))
    (join SpellsPlain SpellsCode SpellsCode i rest (Then i rest) (least_instr i) (least_code f rest) (λ s t h k. (s, t, h, k, refl))
    (shortest_plain i p.0 (All-head HasInstrRange i (flat f rest) is)) r)
shortest_code (TableOf labels last rest) f p is ls few =
    let g : ℕ = f + length labels in
    let first : Instr = table_instr f (length labels) last in
    let sum : sum_by least_instr (first ∷ flat g rest) ≡ least_instr first + sum_by least_instr (flat g rest) = sum_by-cons least_instr first (flat g rest) in
    let names : sum_by least_unsigned (labels ++ labels_of rest) ≡ sum_by least_unsigned labels + sum_by least_unsigned (labels_of rest) = sum_by-append least_unsigned labels (labels_of rest) in
    let size : least_instr first ≡ 1 + (least_unsigned (length labels) + least_unsigned last) = table_bytes f (length labels) last in
    let range : HasInstrRange first = All-head HasInstrRange first (flat g rest) is in
    let r : Spelling SpellsCode rest (least_code g rest) =
    shortest_code rest g p (All-tail HasInstrRange first (flat g rest) is) (all_back IsU32 labels (labels_of rest) ls) (omega (arith, sum, names, size)) in
    let t : Spelling (λ s (x : ℕ). SpellsTable s labels last) 0 (1 + (least_vector least_unsigned labels + least_unsigned last)) =
    shortest_table labels last (all_front IsU32 labels (labels_of rest) ls) range.1.1 (omega (arith, sum, names, size)) in
    as_long SpellsCode (TableOf labels last rest) (1 + (least_vector least_unsigned labels + least_unsigned last) + least_code g rest) (least_code f (TableOf labels last rest)) (omega (arith, sum, names, size))
    (join (λ s (x : ℕ). SpellsTable s labels last) SpellsCode SpellsCode 0 rest (TableOf labels last rest) (1 + (least_vector least_unsigned labels + least_unsigned last)) (least_code g rest)
    (λ s t h k. (s, t, h, k, refl)) t r)
shortest_code (BlockOf r a b) f p is ls few =
    shortest_around 0x02 (block_instr r) r (BlockOf r a b) a b f (omega arith) (block_bytes r) (λ s t u h k l. (s, t, u, h, k, l, refl)) is ls few
    (λ x y z. shortest_code a f p.0 x y z) (λ x y z. shortest_code b (f + length (labels_of a)) p.1 x y z)
shortest_code (LoopOf r a b) f p is ls few =
    shortest_around 0x03 (loop_instr r) r (LoopOf r a b) a b f (omega arith) (loop_bytes r) (λ s t u h k l. (s, t, u, h, k, l, refl)) is ls few
    (λ x y z. shortest_code a f p.0 x y z) (λ x y z. shortest_code b (f + length (labels_of a)) p.1 x y z)
shortest_code (IfOf r a b) f p is ls few =
    shortest_around 0x04 (if_instr r) r (IfOf r a b) a b f (omega arith) (if_bytes r) (λ s t u h k l. (s, t, u, h, k, l, refl)) is ls few
    (λ x y z. shortest_code a f p.0 x y z) (λ x y z. shortest_code b (f + length (labels_of a)) p.1 x y z)
shortest_code (IfElseOf r a d b) f p is ls few =
    let fa : ℕ = f + length (labels_of a) in
    let fd : ℕ = f + length (labels_of a) + length (labels_of d) in
    let inner : List Instr = flat fa d ++ end_instr ∷ flat fd b in
    let text : sum_by least_instr (flat f (IfElseOf r a d b)) ≡ least_instr (if_instr r) + (sum_by least_instr (flat f a) + (least_instr else_instr + sum_by least_instr inner)) =
    closed (if_instr r) else_instr (flat f a) inner in
    let second : sum_by least_instr inner ≡ sum_by least_instr (flat fa d) + sum_by least_instr (end_instr ∷ flat fd b) = sum_by-append least_instr (flat fa d) (end_instr ∷ flat fd b) in
    let last : sum_by least_instr (end_instr ∷ flat fd b) ≡ least_instr end_instr + sum_by least_instr (flat fd b) = sum_by-cons least_instr end_instr (flat fd b) in
    let names : sum_by least_unsigned (labels_of a ++ (labels_of d ++ labels_of b)) ≡ sum_by least_unsigned (labels_of a) + sum_by least_unsigned (labels_of d ++ labels_of b) =
    sum_by-append least_unsigned (labels_of a) (labels_of d ++ labels_of b) in
    let more : sum_by least_unsigned (labels_of d ++ labels_of b) ≡ sum_by least_unsigned (labels_of d) + sum_by least_unsigned (labels_of b) = sum_by-append least_unsigned (labels_of d) (labels_of b) in
    let body : All HasInstrRange (flat f a ++ else_instr ∷ inner) = All-tail HasInstrRange (if_instr r) (flat f a ++ else_instr ∷ inner) is in
    let others : All HasInstrRange inner = All-tail HasInstrRange else_instr inner (all_back HasInstrRange (flat f a) (else_instr ∷ inner) body) in
    let rest : All HasInstrRange (flat fd b) = All-tail HasInstrRange end_instr (flat fd b) (all_back HasInstrRange (flat fa d) (end_instr ∷ flat fd b) others) in
    let ks : All IsU32 (labels_of d ++ labels_of b) = all_back IsU32 (labels_of a) (labels_of d ++ labels_of b) ls in
    let one : least_instr else_instr ≡ 1 = else_byte in
    let end : least_instr end_instr ≡ 1 = end_byte in
    let two : least_instr (if_instr r) ≡ 2 = if_bytes r in
    let sa : Spelling SpellsCode a (least_code f a) =
    shortest_code a f p.0 (all_front HasInstrRange (flat f a) (else_instr ∷ inner) body) (all_front IsU32 (labels_of a) (labels_of d ++ labels_of b) ls) (omega (arith, text, second, last, names, more)) in
    let sd : Spelling SpellsCode d (least_code fa d) =
    shortest_code d fa p.1 (all_front HasInstrRange (flat fa d) (end_instr ∷ flat fd b) others) (all_front IsU32 (labels_of d) (labels_of b) ks) (omega (arith, text, second, last, names, more)) in
    let sb : Spelling SpellsCode b (least_code fd b) =
    shortest_code b fd p.2 rest (all_back IsU32 (labels_of d) (labels_of b) ks) (omega (arith, text, second, last, names, more)) in
    let t : Spelling SpellsBlockType r 1 = shortest_block_type r in
    let from_end : List ℕ = 0x0B ∷ sb.bytes in
    let from_else : List ℕ = 0x05 ∷ (sd.bytes ++ from_end) in
    let o_end : All IsOctet from_end = octets_cons 0x0B sb.bytes (omega arith) sb.octets in
    let o_else : All IsOctet from_else = octets_cons 0x05 (sd.bytes ++ from_end) (omega arith) (All-append IsOctet sd.bytes from_end sd.octets o_end) in
    record {
      bytes = 0x04 ∷ (t.bytes ++ (sa.bytes ++ from_else));
      octets = octets_cons 0x04 (t.bytes ++ (sa.bytes ++ from_else)) (omega arith)
          (All-append IsOctet t.bytes (sa.bytes ++ from_else) t.octets (All-append IsOctet sa.bytes from_else sa.octets o_else));
      spells = (t.bytes, sa.bytes, sd.bytes, sb.bytes, t.spells, sa.spells, sd.spells, sb.spells, refl);
      long = omega (
        arith,
        text,
        second,
        last,
        names,
        more,
        one,
        end,
        two,
        t.long,
        sa.long,
        sd.long,
        sb.long,
        length-append t.bytes (sa.bytes ++ from_else),
        length-append sa.bytes from_else,
        length-append sd.bytes from_end,
      );
    }

pub shortest_expr : (e : Expr) → IsTree e → HasExprRange e → least_expr e < 2 ^ 32 → Spelling SpellsExpr e (least_expr e)
shortest_expr e h range few =
    let tree : Code = h.0 in
    let text : sum_by least_instr e.code ≡ sum_by least_instr (flat 0 tree ++ end_instr ∷ []) = ap (λ (l : List Instr). sum_by least_instr l) h.2.code in
    let names : sum_by least_unsigned e.labels ≡ sum_by least_unsigned (labels_of tree) = ap (λ (l : List ℕ). sum_by least_unsigned l) h.2.labels in
    let split : sum_by least_instr (flat 0 tree ++ end_instr ∷ []) ≡ sum_by least_instr (flat 0 tree) + sum_by least_instr (end_instr ∷ []) = sum_by-append least_instr (flat 0 tree) (end_instr ∷ []) in
    let last : sum_by least_instr (end_instr ∷ []) ≡ 1 = omega (arith, sum_by-cons least_instr end_instr [], end_byte) in
    let is : All HasInstrRange (flat 0 tree) = all_front HasInstrRange (flat 0 tree) (end_instr ∷ []) (subst (λ (l : List Instr). All HasInstrRange l) h.2.code range.0) in
    let ls : All IsU32 (labels_of tree) = subst (λ (l : List ℕ). All IsU32 l) h.2.labels range.1 in
    let c : Spelling SpellsCode tree (least_code 0 tree) = shortest_code tree 0 h.1 is ls (omega (arith, text, names, split, last)) in
    record {
      bytes = c.bytes ++ 0x0B ∷ [];
      octets = All-append IsOctet c.bytes (0x0B ∷ []) c.octets (octets_by (0x0B ∷ []) refl);
      spells = (tree, c.bytes, c.spells, refl, h.2);
      long = omega (arith, text, names, split, last, c.long, length-append c.bytes (0x0B ∷ []));
    }
