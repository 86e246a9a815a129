-- The pieces of types and of what stands in sections.
use Rattle.std.proofs.Common.{◌≡◌, ℕ, ◌<◌, List, [], ◌∷◌, ◌++◌, length, length-append, append_assoc, false, Option, Some, None, Result, Ok, Err, MatchResult, IfOk, arith, refl, ap, subst, sym, ◌∙◌}
use Rattle.std.specs.Str.{IsUtf8}
use Rattle.leb_read.specs.Place.{Place, Passes}
use Rattle.wasm_form.specs.Values.{SpellsU32, SpellsVector, SpellsBytes, SpellsName}
use Rattle.wasm_form.specs.Types.{SpellsValType, SpellsFuncType, SpellsMinMax, SpellsLimits, SpellsTableType, SpellsMutability, SpellsGlobalType}
use Rattle.wasm_form.specs.Trees.{SpellsExpr}
use Rattle.wasm_form.specs.Sections.{SpellsImported, SpellsImport, SpellsGlobal, SpellsExportKind, SpellsExport, SpellsElement, SpellsSegment}
use Rattle.wasm_form.specs.declared.value_type.ValType.{ValType}
use Rattle.wasm_form.specs.declared.value_type.ValType.TheVariants.{I32, I64, F32, F64}
use Rattle.wasm_form.specs.declared.types.Bounds.{Bounds}
use Rattle.wasm_form.specs.declared.types.GlobalType.{GlobalType}
use Rattle.wasm_form.specs.declared.parts.Imported.{Imported}
use Rattle.wasm_form.specs.declared.parts.Imported.TheVariants as imported
use Rattle.body_reader.specs.Reading.{NoFront, ReadsOnly, Answers}
use Rattle.body_reader.specs.declared.fault.ReadFault.{ReadFault}
use Rattle.body_reader.specs.declared.fault.ReadFault.TheVariants.{Malformed}
use Rattle.body_reader.proofs.Pieces.{Parts, Seen, read_both, none_second}
use Rattle.body_reader.proofs.Forms.{ByteIs}
use Rattle.body_reader.proofs.Bodies.{same_front}

tail_is : (m n : ℕ) (s t : List ℕ) → m ∷ s ≡ n ∷ t → s ≡ t
tail_is m n s t e = cc

head_is : (m n : ℕ) (s t : List ℕ) → m ∷ s ≡ n ∷ t → m ≡ n
head_is m n s t e = cc

-- one piece and another, as a pair
abbrev pub Both : {A B : Type 0} → (S : List ℕ → A → Type 0) → (T : List ℕ → B → Type 0) → List ℕ → A × B → Type 0
Both S T bytes p = (s : List ℕ) × (t : List ℕ) × S s p.0 × T t p.1 × (bytes ≡ s ++ t)

pub both : {A B : Type 0} (S : List ℕ → A → Type 0) (T : List ℕ → B → Type 0) (a : A) → Parts S T (Both S T) (λ x y. (x, y)) a
both S T a = record { put = λ s t b h k. (s, t, h, k, refl); split = λ u w h. (h.0, h.1, w.0, w.1, h.2, h.4, λ _. h.3, refl) }

-- this very byte, and then a value
pub led : {A : Type 0} (b : ℕ) (U : List ℕ → A → Type 0) → ((u : List ℕ) (w : A) → U u w → (s : List ℕ) × (u ≡ b ∷ s)) → Parts (ByteIs b) (λ s. U (b ∷ s)) U (λ _ v. v) tt
led {A} b U begins =
    record {
      put = λ s t v h k. subst (λ (l : List ℕ). U l v) (ap (λ (l : List ℕ). l ++ t) (sym h)) k;
      split = λ u w h. let s = begins u w h in (b ∷ [], s.0, tt, w, refl, s.1, λ _. subst (λ (l : List ℕ). U l w) s.1 h, refl);
    }

-- a byte that tells the rest, and then the rest
pub told : {A : Type 0} (b : ℕ) (U : List ℕ → A → Type 0) → ((u : List ℕ) (w : A) → U u w → (n : ℕ) × (s : List ℕ) × (u ≡ n ∷ s)) → Parts (λ s n. s ≡ n ∷ []) (λ s. U (b ∷ s)) U (λ _ v. v) b
told {A} b U begins =
    record {
      put = λ s t v h k. subst (λ (l : List ℕ). U l v) (ap (λ (l : List ℕ). l ++ t) (sym h)) k;
      split = λ u w h.
          let s = begins u w h in
          (s.0 ∷ [], s.1, s.0, w, refl, s.2, λ e. subst (λ (l : List ℕ). U l w) (s.2 ∙ ap (λ (n : ℕ). n ∷ s.1) e) h, refl);
    }

-- what the rest answers, the whole answers
pub answers_both : {A B C : Type 0} (S : List ℕ → A → Type 0) (T : List ℕ → B → Type 0) (U : List ℕ → C → Type 0) (mk : A → B → C) (a : A) (old mid new : Place) (r : Result B ReadFault) (q : Result C ReadFault)
    → Parts S T U mk a → ReadsOnly S old mid a → Answers T mid new r → ((b : B) → r ≡ Ok b → q ≡ Ok (mk a b)) → ((e : ReadFault) → r ≡ Err e → q ≡ Err e) → Answers U old new q
answers_both {A} {B} {C} S T U mk a old mid new (Ok b) q parts h k ok err =
    subst (λ (x : Result C ReadFault). Answers U old new x) (sym (ok b refl)) (read_both S T U mk a b old mid new parts h k)
answers_both {A} {B} {C} S T U mk a old mid new (Err e) q parts h k ok err =
    let none : Answers U old new (Err e) = λ m. none_second S T U mk a old mid parts h (k m) in
    subst (λ (x : Result C ReadFault). Answers U old new x) (sym (err e refl)) none

pub answers_same : {A C : Type 0} (S : List ℕ → A → Type 0) (T U : List ℕ → C → Type 0) (a : A) (old mid new : Place) (r : Result C ReadFault)
    → Parts S T U (λ _ v. v) a → ReadsOnly S old mid a → Answers T mid new r → Answers U old new r
answers_same S T U a old mid new r parts h k = answers_both S T U (λ _ v. v) a old mid new r r parts h k (λ b e. e) (λ x e. e)

-- types
pub func_type : (params : List ValType) → Parts (SpellsVector SpellsValType) (SpellsVector SpellsValType) (λ s. SpellsFuncType (0x60 ∷ s)) (λ p r. record { params = p; results = r }) params
func_type params =
    record { put = λ s t r h k. (s, t, h, k, refl); split = λ u w h. (h.0, h.1, w.params, w.results, h.2, tail_is 0x60 0x60 u (h.0 ++ h.1) h.4, λ _. h.3, refl) }

pub func_type_led : Parts (ByteIs 0x60) (λ s. SpellsFuncType (0x60 ∷ s)) SpellsFuncType (λ _ v. v) tt
func_type_led = led 0x60 SpellsFuncType (λ u w h. (h.0 ++ h.1, h.4))

pub table_type : Parts (ByteIs 0x70) SpellsLimits SpellsTableType (λ _ v. v) tt
table_type = record { put = λ s t v h k. (t, k, ap (λ (l : List ℕ). l ++ t) h); split = λ u w h. (0x70 ∷ [], h.0, tt, w, refl, h.2, λ _. h.1, refl) }

min_max_begins : (u : List ℕ) (min : ℕ) (max : Option ℕ) → SpellsMinMax u min max → (n : ℕ) × (s : List ℕ) × (u ≡ n ∷ s)
min_max_begins u min None h = (0x00, h.0, h.2)
min_max_begins u min (Some max) h = (0x01, h.0 ++ h.1, h.4)

pub limits_told : (b : ℕ) → Parts (λ s n. s ≡ n ∷ []) (λ s. SpellsLimits (b ∷ s)) SpellsLimits (λ _ v. v) b
limits_told b = told b SpellsLimits (λ u w h. min_max_begins u w.min w.max h)

abbrev bounds : ℕ → Option ℕ → Bounds
bounds a m = record { min = a; max = m }

pub both_limits : (min : ℕ) → Parts SpellsU32 SpellsU32 (λ s. SpellsLimits (0x01 ∷ s)) (λ a b. record { min = a; max = Some b }) min
both_limits min = record { put = λ s t b h k. (s, t, h, k, refl); split = λ u w h. split u w.min w.max h }
  where
    split : (u : List ℕ) (a : ℕ) (m : Option ℕ) → SpellsMinMax (0x01 ∷ u) a m
        → (s : List ℕ) × (t : List ℕ) × (x : ℕ) × (y : ℕ) × SpellsU32 s x × (u ≡ s ++ t) × (x ≡ min → SpellsU32 t y) × (bounds a m ≡ bounds x (Some y))
    split u a None h = absurd (omega (arith, head_is 0x01 0x00 u h.0 h.2))
    split u a (Some b) h = (h.0, h.1, a, b, h.2, tail_is 0x01 0x01 u (h.0 ++ h.1) h.4, λ _. h.3, refl)

pub global_type : (ty : ValType) → Parts SpellsValType SpellsMutability SpellsGlobalType (λ t m. record { ty = t; mutable = m }) ty
global_type ty = record { put = λ s t b h k. (s, t, h, k, refl); split = λ u w h. (h.0, h.1, w.ty, w.mutable, h.2, h.4, λ _. h.3, refl) }

-- entries
pub global : (ty : GlobalType) → Parts SpellsGlobalType SpellsExpr SpellsGlobal (λ t e. record { ty = t; init = e }) ty
global ty = record { put = λ s t b h k. (s, t, h, k, refl); split = λ u w h. (h.0, h.1, w.ty, w.init, h.2, h.4, λ _. h.3, refl) }

pub export : (name : List ℕ) → Parts SpellsName (Both SpellsExportKind SpellsU32) SpellsExport (λ n p. record { name = n; kind = p.0; index = p.1 }) name
export name =
    record {
      put = λ s t p h k. (s, k.0, k.1, h, k.2, k.3, ap (λ (l : List ℕ). s ++ l) k.4);
      split = λ u w h. (h.0, h.1 ++ h.2, w.name, (w.kind, w.index), h.3, h.6, λ _. (h.1, h.2, h.4, h.5, refl), refl);
    }

pub import : (m : List ℕ) → Parts SpellsName (Both SpellsName SpellsImported) SpellsImport (λ n p. record { «module» = n; name = p.0; what = p.1 }) m
import m =
    record {
      put = λ s t p h k. (s, k.0, k.1, h, k.2, k.3, ap (λ (l : List ℕ). s ++ l) k.4);
      split = λ u w h. (h.0, h.1 ++ h.2, w.«module», (w.name, w.what), h.3, h.6, λ _. (h.1, h.2, h.4, h.5, refl), refl);
    }

pub element : (table : ℕ) → Parts SpellsU32 (Both SpellsExpr (SpellsVector SpellsU32)) SpellsElement (λ n p. record { table = n; offset = p.0; functions = p.1 }) table
element table =
    record {
      put = λ s t p h k. (s, k.0, k.1, h, k.2, k.3, ap (λ (l : List ℕ). s ++ l) k.4);
      split = λ u w h. (h.0, h.1 ++ h.2, w.table, (w.offset, w.functions), h.3, h.6, λ _. (h.1, h.2, h.4, h.5, refl), refl);
    }

pub segment : (memory : ℕ) → Parts SpellsU32 (Both SpellsExpr SpellsBytes) SpellsSegment (λ n p. record { memory = n; offset = p.0; bytes = p.1 }) memory
segment memory =
    record {
      put = λ s t p h k. (s, k.0, k.1, h, k.2, k.3, ap (λ (l : List ℕ). s ++ l) k.4);
      split = λ u w h. (h.0, h.1 ++ h.2, w.memory, (w.offset, w.bytes), h.3, h.6, λ _. (h.1, h.2, h.4, h.5, refl), refl);
    }

-- what is imported
imported_begins : (u : List ℕ) (w : Imported) → SpellsImported u w → (n : ℕ) × (s : List ℕ) × (u ≡ n ∷ s)
imported_begins u (imported.Function ty) h = (0x00, h.0, h.2)
imported_begins u (imported.Table bounds) h = (0x01, h.0, h.2)
imported_begins u (imported.Memory bounds) h = (0x02, h.0, h.2)
imported_begins u (imported.Global global) h = (0x03, h.0, h.2)

pub imported_told : (b : ℕ) → Parts (λ s n. s ≡ n ∷ []) (λ s. SpellsImported (b ∷ s)) SpellsImported (λ _ v. v) b
imported_told b = told b SpellsImported imported_begins

pub imported_table : (b : ℕ) → b ≡ 0x01 → Seen SpellsTableType (λ s. SpellsImported (b ∷ s)) (λ v. imported.Table v)
imported_table b is = record { put = λ s v h. (s, h, ap (λ (n : ℕ). n ∷ s) is); back = back }
  where
    back : (u : List ℕ) (w : Imported) → SpellsImported (b ∷ u) w → (x : Bounds) × SpellsTableType u x × (w ≡ imported.Table x)
    back u (imported.Table v) h = (v, subst (λ (l : List ℕ). SpellsTableType l v) (sym (tail_is b 0x01 u h.0 h.2)) h.1, refl)
    back u (imported.Function v) h = absurd (omega (arith, is, head_is b 0x00 u h.0 h.2))
    back u (imported.Memory v) h = absurd (omega (arith, is, head_is b 0x02 u h.0 h.2))
    back u (imported.Global v) h = absurd (omega (arith, is, head_is b 0x03 u h.0 h.2))

pub imported_memory : (b : ℕ) → b ≡ 0x02 → Seen SpellsLimits (λ s. SpellsImported (b ∷ s)) (λ v. imported.Memory v)
imported_memory b is = record { put = λ s v h. (s, h, ap (λ (n : ℕ). n ∷ s) is); back = back }
  where
    back : (u : List ℕ) (w : Imported) → SpellsImported (b ∷ u) w → (x : Bounds) × SpellsLimits u x × (w ≡ imported.Memory x)
    back u (imported.Memory v) h = (v, subst (λ (l : List ℕ). SpellsLimits l v) (sym (tail_is b 0x02 u h.0 h.2)) h.1, refl)
    back u (imported.Function v) h = absurd (omega (arith, is, head_is b 0x00 u h.0 h.2))
    back u (imported.Table v) h = absurd (omega (arith, is, head_is b 0x01 u h.0 h.2))
    back u (imported.Global v) h = absurd (omega (arith, is, head_is b 0x03 u h.0 h.2))

pub imported_global : (b : ℕ) → b ≡ 0x03 → Seen SpellsGlobalType (λ s. SpellsImported (b ∷ s)) (λ v. imported.Global v)
imported_global b is = record { put = λ s v h. (s, h, ap (λ (n : ℕ). n ∷ s) is); back = back }
  where
    back : (u : List ℕ) (w : Imported) → SpellsImported (b ∷ u) w → (x : GlobalType) × SpellsGlobalType u x × (w ≡ imported.Global x)
    back u (imported.Global v) h = (v, subst (λ (l : List ℕ). SpellsGlobalType l v) (sym (tail_is b 0x03 u h.0 h.2)) h.1, refl)
    back u (imported.Function v) h = absurd (omega (arith, is, head_is b 0x00 u h.0 h.2))
    back u (imported.Table v) h = absurd (omega (arith, is, head_is b 0x01 u h.0 h.2))
    back u (imported.Memory v) h = absurd (omega (arith, is, head_is b 0x02 u h.0 h.2))

-- names and bytes
abbrev pub Exact : ℕ → List ℕ → List ℕ → Type 0
Exact n t v = (t ≡ v) × (length v ≡ n)

pub counted : (n : ℕ) → Parts SpellsU32 (Exact n) SpellsBytes (λ _ v. v) n
counted n =
    record {
      put = λ s t v h k. (s, subst (λ (m : ℕ). SpellsU32 s m) (sym k.1) h, ap (λ (l : List ℕ). s ++ l) k.0);
      split = λ u w h. (h.0, w, length w, w, h.1, h.2, λ e. (refl, e), refl);
    }

pub name_of : (old new : Place) (v : List ℕ) → IsUtf8 v → ReadsOnly SpellsBytes old new v → ReadsOnly SpellsName old new v
name_of old new v text h = record { spelling = h.spelling; spells = (h.spells, text); passes = h.passes; only = λ w s rest k here. h.only w s rest k.0 here }

pub no_bytes : (bytes : List ℕ) → NoFront SpellsBytes bytes → NoFront SpellsName bytes
no_bytes bytes none v s rest k here = none v s rest k.0 here

pub no_text : (old new : Place) (v : List ℕ) → (IsUtf8 v → ⊥) → ReadsOnly SpellsBytes old new v → NoFront SpellsName old.left
no_text old new v wrong h w s rest k here = wrong (subst IsUtf8 (h.only w s rest k.0 here).1 k.1)

-- a value type is a byte
pub no_val_type : (bytes : List ℕ) → NoFront (λ s b. s ≡ b ∷ []) bytes → NoFront SpellsValType bytes
no_val_type bytes none I32 s rest k here = none 0x7F s rest k here
no_val_type bytes none I64 s rest k here = none 0x7E s rest k here
no_val_type bytes none F32 s rest k here = none 0x7D s rest k here
no_val_type bytes none F64 s rest k here = none 0x7C s rest k here

-- where the first of two isn't there, neither are both
pub none_both : {A B : Type 0} (S : List ℕ → A → Type 0) (T : List ℕ → B → Type 0) (bytes : List ℕ) → NoFront S bytes → NoFront (Both S T) bytes
none_both S T bytes none w s rest k here = none w.0 k.0 (k.1 ++ rest) k.2 (here ∙ ap (λ (l : List ℕ). l ++ rest) k.4 ∙ append_assoc k.0 k.1 rest)

pub some_type : GlobalType
some_type = record { ty = I32; mutable = false }

-- exactly so many bytes
pub exactly : (n : ℕ) (old new : Place) (v : List ℕ) → length v ≡ n → Passes old new v → ReadsOnly (Exact n) old new v
exactly n old new v count p =
    record {
      spelling = v;
      spells = (refl, count);
      passes = p;
      only = λ w s rest k here.
          let same : s ≡ v = same_front s v rest new.left (omega (arith, k.1, count, ap (λ (l : List ℕ). length l) k.0)) (sym here ∙ p.left) in
          (same, sym k.0 ∙ same);
    }

pub too_few : (n : ℕ) (bytes : List ℕ) → length bytes < n → NoFront (Exact n) bytes
too_few n bytes few v s rest k here =
    omega (arith, k.1, ap (λ (l : List ℕ). length l) k.0, ap (λ (l : List ℕ). length l) here, length-append s rest)

-- the bytes, wherever they are kept
pub bytes_answer : {R : Type 0} (now : R → List ℕ) (n : ℕ) (old mid new : Place) (r : Result R ReadFault) → ReadsOnly SpellsU32 old mid n
    → IfOk r (λ b. (length (now b) ≡ n) × Passes mid new (now b)) → (r ≡ Err Malformed → length mid.left < n)
    → MatchResult r (λ b. ReadsOnly SpellsBytes old new (now b)) (λ e. e ≡ Malformed → NoFront SpellsBytes old.left)
bytes_answer now n old mid new (Ok b) h k f =
    read_both SpellsU32 (Exact n) SpellsBytes (λ _ v. v) n (now b) old mid new (counted n) h (exactly n mid new (now b) k.0 k.1)
bytes_answer now n old mid new (Err e) h k f =
    λ m. none_second SpellsU32 (Exact n) SpellsBytes (λ _ v. v) n old mid (counted n) h (too_few n mid.left (f (ap Err m)))
