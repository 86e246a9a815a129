-- What reading one instruction answers, from what its pieces answer.
use Rattle.std.proofs.Common.{◌≡◌, ℕ, ◌≤◌, List, [], ◌∷◌, ◌++◌, length, length-append, Result, Ok, Err, arith, ap, subst, sym, ◌∙◌}
use Rattle.std.proofs.lemmas.Result.{MatchResult-weaker}
use Rattle.leb_read.specs.Place.{Place}
use Rattle.wasm_form.specs.Values.{SpellsU32, SpellsVector}
use Rattle.wasm_form.specs.Trees.{table_instr}
use Rattle.wasm_form.specs.declared.instr.Instr.{Instr}
use Rattle.body_reader.specs.Reading.{NoFront, ReadsOnly}
use Rattle.body_reader.specs.Items.{Item, TableItem, SpellsItem, AnswersItem}
use Rattle.body_reader.specs.declared.fault.ReadFault.{ReadFault}
use Rattle.body_reader.specs.declared.fault.ReadFault.TheVariants.{Malformed}
use Rattle.body_reader.proofs.Pieces.{read_both, none_second}
use Rattle.body_reader.proofs.Marks.{code_first, table, vector_bytes}

pub item_refused : (S : List ℕ → Item → Type 0) (old new : Place) (pool pool' : List ℕ) (r : Result Instr ReadFault) (y e : ReadFault) → r ≡ Err y → y ≡ e
    → (e ≡ Malformed → NoFront S old.left) → AnswersItem S old new pool pool' r
item_refused S old new pool pool' r y e is same none =
    let no : AnswersItem S old new pool pool' (Err y) = λ m. none (sym same ∙ m) in
    subst (λ (q : Result Instr ReadFault). AnswersItem S old new pool pool' q) (sym is) no

-- its code, and what follows
pub item_after : (code : ℕ) (old mid new : Place) (pool pool' : List ℕ) (r : Result Instr ReadFault) → ReadsOnly (λ s b. s ≡ b ∷ []) old mid code
    → AnswersItem (λ s. SpellsItem (code ∷ s)) mid new pool pool' r → AnswersItem SpellsItem old new pool pool' r
item_after code old mid new pool pool' r h k =
    MatchResult-weaker r k
    (λ i p. (p.0, read_both (λ s b. s ≡ b ∷ []) (λ s. SpellsItem (code ∷ s)) SpellsItem (λ _ item. item) code p.0 old mid new (code_first code) h p.1, p.2, p.3))
    (λ e p m. none_second (λ s b. s ≡ b ∷ []) (λ s. SpellsItem (code ∷ s)) SpellsItem (λ _ item. item) code old mid (code_first code) h (p m))

-- a br_table's labels and default
pub table_item : (old mid new : Place) (pool pool' labels : List ℕ) (last count first : ℕ) (i : Instr) → ReadsOnly (SpellsVector SpellsU32) old mid labels → ReadsOnly SpellsU32 mid new last
    → pool' ≡ pool ++ labels → first ≡ length pool → count ≡ length labels → i ≡ table_instr first count last
    → AnswersItem (λ s. SpellsItem (0x0E ∷ s)) old new pool pool' (Ok i)
table_item old mid new pool pool' labels last count first i h k grown f c is = (
  TableItem labels last,
  read_both (SpellsVector SpellsU32) SpellsU32 (λ s. SpellsItem (0x0E ∷ s)) (λ ls n. TableItem ls n) labels last old mid new (table labels) h k,
  is ∙ ap (λ (n : ℕ). table_instr n count last) f ∙ ap (λ (n : ℕ). table_instr (length pool) n last) c,
  grown,
)

-- a vector has no more labels than there are bytes
pub no_more : (old new : Place) (labels : List ℕ) → ReadsOnly (SpellsVector SpellsU32) old new labels → length labels ≤ length old.left
no_more old new labels h =
    omega (arith, vector_bytes labels h.spelling h.spells, ap (λ (l : List ℕ). length l) h.passes.left, length-append h.spelling new.left)
