-- Bodies: a size, and in exactly so many bytes the locals and the expression.
use Rattle.std.proofs.Common.{◌≡◌, ℕ, ◌^◌, ◌<◌, List, [], ◌∷◌, ◌++◌, length, length-append, append-nil, sum_by, Result, arith, refl, ap, subst, sym, ◌∙◌}
use Rattle.std.proofs.lemmas.Result.{MatchResult-weaker}
use Rattle.leb_read.specs.Place.{Place, Passes}
use Rattle.wasm_form.specs.Values.{SpellsU32, SpellsVector, SpellsSized}
use Rattle.wasm_form.specs.Trees.{SpellsExpr}
use Rattle.wasm_form.specs.Sections.{SpellsRun, SpellsFunction}
use Rattle.wasm_form.specs.declared.body.LocalRun.{LocalRun}
use Rattle.wasm_form.specs.declared.expr.Expr.{Expr}
use Rattle.body_reader.specs.Reading.{NoFront, ReadsOnly, Answers, AnswersWhole}
use Rattle.body_reader.specs.declared.fault.ReadFault.{ReadFault}
use Rattle.body_reader.proofs.Pieces.{Parts, read_both, none_second}

abbrev pub locals_of : List LocalRun → ℕ
locals_of runs = sum_by (λ run. run.count) runs

-- an expression after these locals
abbrev pub After : List LocalRun → List ℕ → Expr → Type 0
After runs s e = SpellsExpr s e × (locals_of runs < 2 ^ 32)

pub function : (runs : List LocalRun) → Parts (SpellsVector SpellsRun) (After runs) SpellsFunction (λ locals expr. record { locals = locals; expr = expr }) runs
function runs =
    record {
      put = λ s t e h k. (s, t, h, k.0, k.1, refl);
      split = λ u w h. (h.0, h.1, w.locals, w.expr, h.2, h.5, λ e. (h.3, subst (λ (l : List LocalRun). locals_of l < 2 ^ 32) e h.4), refl);
    }

pub few : (runs : List LocalRun) (old new : Place) (e : Expr) → locals_of runs < 2 ^ 32 → ReadsOnly SpellsExpr old new e → ReadsOnly (After runs) old new e
few runs old new e less h = record { spelling = h.spelling; spells = (h.spells, less); passes = h.passes; only = λ w s rest k here. h.only w s rest k.0 here }

pub none_after : (runs : List LocalRun) (bytes : List ℕ) → NoFront SpellsExpr bytes → NoFront (After runs) bytes
none_after runs bytes none e s rest k here = none e s rest k.0 here

pub too_many : (runs : List LocalRun) (bytes : List ℕ) → (locals_of runs < 2 ^ 32 → ⊥) → NoFront (After runs) bytes
too_many runs bytes many e s rest k here = many k.1

-- the whole of the bytes
pub all_read : {A : Type 0} (S : List ℕ → A → Type 0) (bytes : List ℕ) (old new : Place) (v : A) → old.left ≡ bytes → new.left ≡ [] → ReadsOnly S old new v → S bytes v × ((w : A) → S bytes w → w ≡ v)
all_read {A} S bytes old new v from to h =
    let whole : h.spelling ≡ bytes = sym (append-nil h.spelling) ∙ ap (λ (l : List ℕ). h.spelling ++ l) (sym to) ∙ sym h.passes.left ∙ from in
    (subst (λ (l : List ℕ). S l v) whole h.spells, λ w k. (h.only w bytes [] k (from ∙ sym (append-nil bytes))).1)

pub none_read : {A : Type 0} (S : List ℕ → A → Type 0) (bytes : List ℕ) (old : Place) → old.left ≡ bytes → NoFront S old.left → (v : A) → S bytes v → ⊥
none_read S bytes old from none v k = none v bytes [] k (from ∙ sym (append-nil bytes))

pub not_all : {A : Type 0} (S : List ℕ → A → Type 0) (bytes : List ℕ) (old new : Place) (v : A) → old.left ≡ bytes → 0 < length new.left → ReadsOnly S old new v → (w : A) → S bytes w → ⊥
not_all S bytes old new v from more h w k =
    let same : bytes ≡ h.spelling = (h.only w bytes [] k (from ∙ sym (append-nil bytes))).0 in
    let left : bytes ≡ h.spelling ++ new.left = sym from ∙ h.passes.left in
    omega (arith, ap (λ (l : List ℕ). length l) same, ap (λ (l : List ℕ). length l) left, length-append h.spelling new.left)

pub same_front : (s t x y : List ℕ) → length s ≡ length t → s ++ x ≡ t ++ y → s ≡ t
same_front [] [] x y n e = refl
same_front [] (b ∷ t) x y n e = absurd (omega arith)
same_front (a ∷ s) [] x y n e = absurd (omega arith)
same_front (a ∷ s) (b ∷ t) x y n e =
    let rest : s ≡ t = same_front s t x y (omega arith) (cc) in
    cc

-- so many bytes that are a value
abbrev pub Filled : {A : Type 0} → (S : List ℕ → A → Type 0) → ℕ → List ℕ → A → Type 0
Filled S n s v = S s v × (length s ≡ n)

pub sized : {A : Type 0} (S : List ℕ → A → Type 0) (n : ℕ) → Parts SpellsU32 (Filled S n) (SpellsSized S) (λ _ v. v) n
sized {A} S n =
    record {
      put = λ s t v h k. (s, t, subst (λ (m : ℕ). SpellsU32 s m) (sym k.1) h, k.0, refl);
      split = λ u w h. (h.0, h.1, length h.1, w, h.2, h.4, λ e. (h.3, e), refl);
    }

pub too_short : {A : Type 0} (S : List ℕ → A → Type 0) (n : ℕ) (bytes : List ℕ) → length bytes < n → NoFront (Filled S n) bytes
too_short S n bytes few v s rest k here = omega (arith, k.1, ap (λ (l : List ℕ). length l) here, length-append s rest)

-- what the sized contents answer, the whole answers
pub sized_answers : {A : Type 0} (S : List ℕ → A → Type 0) (n : ℕ) (old mid new : Place) (contents : List ℕ) (r : Result A ReadFault) → ReadsOnly SpellsU32 old mid n
    → length contents ≡ n → Passes mid new contents → AnswersWhole S contents r → Answers (SpellsSized S) old new r
sized_answers {A} S n old mid new contents r h count p k =
    MatchResult-weaker r k
    (λ v q. read_both SpellsU32 (Filled S n) (SpellsSized S) (λ _ w. w) n v old mid new (sized S n) h
    (record {
      spelling = contents;
      spells = (q.0, count);
      passes = p;
      only = λ w s rest f here.
          let same : s ≡ contents = same_front s contents rest new.left (f.1 ∙ sym count) (sym here ∙ p.left) in
          (same, q.1 w (subst (λ (l : List ℕ). S l w) same f.0));
    }))
    (λ e q m. none_second SpellsU32 (Filled S n) (SpellsSized S) (λ _ w. w) n old mid (sized S n) h
    (λ w s rest f here.
    let same : s ≡ contents = same_front s contents rest new.left (f.1 ∙ sym count) (sym here ∙ p.left) in
    q m w (subst (λ (l : List ℕ). S l w) same f.0)))
