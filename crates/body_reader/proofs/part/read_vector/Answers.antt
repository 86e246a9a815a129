use Rattle.std.proofs.Common.{ℕ, List, length, refl, sym, subst}
use Rattle.std.proofs.lemmas.Result.{err_from_is_err_and, MatchResult-weaker}
use Rattle.wasm_form.specs.Values.{SpellsU32, SpellsVector}
use Rattle.body_reader.proofs.Pieces.{Parts, ItemsOf, read_both, none_first, none_second, refused}
use Rattle.body_reader.proofs.part.read_vector.Goals as goal

-- a vector is its number and so many items
vector : {A : Type 0} (S : List ℕ → A → Type 0) (n : ℕ) → Parts SpellsU32 (ItemsOf S n) (SpellsVector S) (λ _ xs. xs) n
vector {A} S n =
    record {
      put = λ s t xs h k. (s, t, subst (λ (m : ℕ). SpellsU32 s m) (sym k.1) h, k.0, refl);
      split = λ u w h. (h.0, h.1, length w, w, h.2, h.4, λ e. (h.3, e), refl);
    }

pub returns : goal.returns
returns g c =
    MatchResult-weaker c.read_items.result c.read_items.ensures
    (λ xs k. read_both _ _ _ (λ _ ys. ys) _ _ _ _ _ (vector g.T.Part.spells c.in_ok-count.count) c.in_ok-count.ensures k)
    (λ e k m. none_second _ _ _ (λ _ ys. ys) _ _ _ (vector g.T.Part.spells c.in_ok-count.count) c.in_ok-count.ensures (k m))

pub returns-in_err-count : goal.returns-in_err-count
returns-in_err-count g c =
    let p = err_from_is_err_and c.from_residual.result c.from_residual.ensures.1 in
    refused _ _ _ _ _ _ p.1 p.2 (λ m. none_first _ _ _ (λ _ ys. ys) 0 c.args.cursor.now (vector g.T.Part.spells 0) (c.in_err-count.ensures m))
