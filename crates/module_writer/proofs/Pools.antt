-- Where the labels of instructions are pooled.
use Rattle.std.proofs.Common.{◌≡◌, ℕ, ◌+◌, ◌≤◌, List, ◌++◌, length, length-append, append_assoc, take, drop, arith, ap, sym, ◌∙◌}
use Rattle.std.proofs.Math.Seq.{drop-append_seam, take-append_seam}
use Rattle.module_writer.specs.Lines.{labels_at}

-- from the place on, the pool has these labels
pub record Pooled (pool : List ℕ) (place : ℕ) (labels : List ℕ) : Type 0 where
  pub before : List ℕ
  pub after : List ℕ
  pub here : length before ≡ place
  pub whole : pool ≡ before ++ (labels ++ after)

pub first_labels : (pool : List ℕ) (f : ℕ) (a b : List ℕ) → Pooled pool f (a ++ b) → Pooled pool f a
first_labels pool f a b h =
    record {
      before = h.before;
      after = b ++ h.after;
      here = h.here;
      whole = h.whole ∙ ap (λ (l : List ℕ). h.before ++ l) (append_assoc a b h.after);
    }

pub other_labels : (pool : List ℕ) (f : ℕ) (a b : List ℕ) → Pooled pool f (a ++ b) → Pooled pool (f + length a) b
other_labels pool f a b h =
    record {
      before = h.before ++ a;
      after = h.after;
      here = omega (arith, h.here, length-append h.before a);
      whole = h.whole ∙ ap (λ (l : List ℕ). h.before ++ l) (append_assoc a b h.after) ∙ sym (append_assoc h.before a (b ++ h.after));
    }

pub labels_are : (pool : List ℕ) (f : ℕ) (a : List ℕ) → Pooled pool f a → labels_at pool f (length a) ≡ a
labels_are pool f a h =
    let rest : drop f pool ≡ a ++ h.after =
    ap (λ (n : ℕ). drop n pool) (sym h.here) ∙ ap (λ (l : List ℕ). drop (length h.before) l) h.whole ∙ drop-append_seam h.before (a ++ h.after) in
    ap (λ (l : List ℕ). take (length a) l) rest ∙ take-append_seam a h.after

pub labels_fit : (pool : List ℕ) (f : ℕ) (a : List ℕ) → Pooled pool f a → f + length a ≤ length pool
labels_fit pool f a h =
    omega (arith, h.here, ap (λ (l : List ℕ). length l) h.whole, length-append h.before (a ++ h.after), length-append a h.after)
