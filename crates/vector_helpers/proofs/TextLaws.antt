-- Texts read one byte, one blank or one pair of digits further.
use Rattle.std.proofs.Common.{◌≡◌, ℕ, zero, suc, ◌+◌, ◌*◌, ◌%◌, ◌<◌, ◌≤◌, List, [], ◌∷◌, ◌++◌, length, get_or, drop, set, refl, ◌∙◌, add-zero, zero-add, add-one, arith, length-append, drop_of_length-le, drop-cons, eq-eqb, ne_eqb}
use lib.Seq.{set_at, append_snoc}
use Rattle.base.specs.Bytes.{written}
use Rattle.vector_helpers.specs.Text.{before_mark, end_from, digit_value, spelled, decimal_from}

module _ (text : List ℕ) (i mark : ℕ) where
  pub mark-here : i < length text → get_or text i 0 ≡ mark → end_from text i mark ≡ i
  unfolding end_from before_mark
  mark-here h e = rw (drop-cons text i 0 h, eq-eqb (get_or text i 0) mark e) (add-zero i)

  pub mark-later : i < length text → (get_or text i 0 ≡ mark → ⊥) → end_from text i mark ≡ end_from text (i + 1) mark
  unfolding end_from before_mark
  mark-later h e = rw (drop-cons text i 0 h, ne_eqb (get_or text i 0) mark e, add-one i) (omega arith)

  pub mark-nowhere : length text ≤ i → end_from text i mark ≡ i
  unfolding end_from before_mark
  mark-nowhere h = rw (drop_of_length-le text h) (add-zero i)

pub length-spelled : (text : List ℕ) (k : ℕ) → length (spelled text k) ≡ k
unfolding spelled
length-spelled text zero = refl
length-spelled text (suc k) = length-append (spelled text k) _ ∙ rw (length-spelled text k) (add-one k)

pub spelled_none : (text out : List ℕ) → out ≡ written out 0 (spelled text 0)
unfolding spelled written
spelled_none text out = refl

-- one pair more
pub spelled-more : (text out₀ out : List ℕ) (i high low : ℕ) → i < length out₀ → out ≡ written out₀ 0 (spelled text i)
    → high ≡ digit_value (get_or text (2 * i) 0) → low ≡ digit_value (get_or text (2 * i + 1) 0)
    → set out i (16 * high + low) ≡ written out₀ 0 (spelled text (i + 1))
unfolding spelled written
spelled-more text out₀ out i high low h e f g =
    let n : length (spelled text i) ≡ i = length-spelled text i in
    let m : length (spelled text i ++ (16 * high + low) ∷ []) ≡ suc i = length-append (spelled text i) ((16 * high + low) ∷ []) ∙ rw n (add-one i) in
    rw (e, add-one i, ← f, ← g, zero-add, zero-add, n, m, drop-cons out₀ i 0 h)
    (set_at (spelled text i) (get_or out₀ i 0) (drop (suc i) out₀) (16 * high + low) i n ∙ simp append_snoc)

pub decimal-more : (text : List ℕ) (i value next x : ℕ) → i < length text → x ≡ get_or text i 0
    → next ≡ 10 * (value % 100000000000000000) + x % 16 → decimal_from value (drop i text) ≡ decimal_from next (drop (i + 1) text)
unfolding decimal_from
decimal-more text i value next x h e f = rw (drop-cons text i 0 h, add-one i, f, e)

pub decimal-all : (text : List ℕ) (i value : ℕ) → length text ≤ i → decimal_from value (drop i text) ≡ value
unfolding decimal_from
decimal-all text i value h = rw (drop_of_length-le text h)
