-- What is printed on an input: 17, or the plan of its first 202 numbers.
use mathlib.Core.Path.{◌≡◌, refl, sym, ap, ap₂, ◌∙◌}
use Prim.Native.Nat.{ℕ, ◌+◌, ◌≤◌, ◌<◌}
use native.Mathlib.Omega.{arith}
use mathlib.Core.Bool.{Bool, true, false, not, true≢false}
use mathlib.Core.List.{List, [], ◌∷◌}
use lib.Dec.{ltb, leb, eqb}
use lib.ListN.{length, get_or, take, drop}
use lib.Seq.{take_all, get_or-take, length-take-le}
use borrow.Author.Tests.{lt-ltb, le-ltb, le-leb, lt-leb, leb-true, leb-false, eq-eqb, ne_eqb}
use Rattle.base.specs.Choice.{pick, both, every}
use Rattle.base.specs.Bytes.{written}
use Rattle.base.specs.Limits.{max_depth, max_challenges, max_input}
use Rattle.base.proofs.ChoiceLaws.{both_first, both-second}
use Rattle.base.specs.Row.{either, outside}
use Rattle.chain.specs.PlanRow.{plan_row}
use Rattle.base.proofs.Ranges.{above-range}
use Rattle.decimal.specs.Numbers.{max_numbers, readable, fits, numbers}
use Rattle.planning.specs.Input.{unreadable}
use Rattle.planning.specs.Output.{refused_text, answer_text, plan_text, printed, max_output}
use Rattle.decimal.specs.Steps.{all_fit, Wrote}

bad : (a r e f : Bool) → both r f ≡ false → either a (either (not r) (either e (not f))) ≡ true
bad true r e f h = refl
bad false false e f h = refl
bad false true true f h = refl
bad false true false false h = refl
bad false true false true h = absurd (true≢false h)

none : (a r e f : Bool) → e ≡ true → either a (either (not r) (either e (not f))) ≡ true
none true r e f h = refl
none false false e f h = refl
none false true e f h = rw h

module _ (bytes : List ℕ) where
  pub long-input : max_input < length bytes → unreadable bytes ≡ true
  unfolding unreadable
  long-input h = rw (lt-ltb max_input (length bytes) h)

  pub bad-input : all_fit false 0 bytes ≡ false → unreadable bytes ≡ true
  unfolding unreadable all_fit numbers
  bad-input h = bad (ltb max_input (length bytes)) (every readable bytes) (eqb (length (numbers bytes)) 0) (every fits (numbers bytes)) h

  pub no_number : length (numbers bytes) ≡ 0 → unreadable bytes ≡ true
  unfolding unreadable
  no_number h =
      none (ltb max_input (length bytes)) (every readable bytes) (eqb (length (numbers bytes)) 0) (every fits (numbers bytes))
      (eq-eqb (length (numbers bytes)) 0 h)

  pub good-input : length bytes ≤ max_input → all_fit false 0 bytes ≡ true → 0 < length (numbers bytes) → unreadable bytes ≡ false
  unfolding unreadable all_fit numbers
  good-input h a k =
      rw (
        le-ltb max_input (length bytes) h,
        both_first (every readable bytes) (every fits (numbers bytes)) a,
        both-second (every readable bytes) (every fits (numbers bytes)) a,
        ne_eqb (length (numbers bytes)) 0 (omega arith),
      )

-- more than 200 leaves are refused whichever they are
too_many : (n : ℕ) (zs : List ℕ) → max_challenges < length zs → plan_text n zs ≡ pick (outside 1 max_depth n) (refused_text 1) (refused_text 8)
unfolding plan_text plan_row
too_many n zs h = rw (above-range 0 max_challenges (length zs) h) (go (outside 1 max_depth n))
  where
    go : (d : Bool) → answer_text n zs (pick d 1 8) ≡ pick d (refused_text 1) (refused_text 8)
    go true = refl
    go false = refl

cut : (n : ℕ) (ys : List ℕ) → plan_text n (take (max_challenges + 1) ys) ≡ plan_text n ys
cut n ys = go (leb (length ys) (max_challenges + 1)) refl
  where
    go : (b : Bool) → leb (length ys) (max_challenges + 1) ≡ b → plan_text n (take (max_challenges + 1) ys) ≡ plan_text n ys
    go true e = ap (plan_text n) (take_all (max_challenges + 1) ys (leb-true (length ys) (max_challenges + 1) e))
    go false e =
        let h : (max_challenges + 1) < length ys = leb-false (length ys) (max_challenges + 1) e in
        too_many n (take (max_challenges + 1) ys) (omega (arith, length-take-le (max_challenges + 1) ys (omega arith)))
        ∙ sym (too_many n ys (omega arith))

cut-rest : (n : ℕ) (xs : List ℕ) → plan_text n (drop 1 (take max_numbers xs)) ≡ plan_text n (drop 1 xs)
cut-rest n [] = refl
cut-rest n (x ∷ ys) = cut n ys

pub plan-printed : (bytes ys d e : List ℕ) (x m : ℕ) → x ∷ ys ≡ take max_numbers (numbers bytes) → unreadable bytes ≡ false
    → Wrote d 0 (plan_text x ys) e m → Wrote d 0 (printed bytes) e m
unfolding printed
plan-printed bytes ys d e x m t u w =
    let first : x ≡ get_or (numbers bytes) 0 0 = ap (λ (l : List ℕ). get_or l 0 0) t ∙ get_or-take max_numbers (numbers bytes) 0 0 (omega arith) in
    let text : plan_text x ys ≡ plan_text (get_or (numbers bytes) 0 0) (drop 1 (numbers bytes)) =
    ap₂ plan_text first (ap (λ (l : List ℕ). drop 1 l) t) ∙ cut-rest (get_or (numbers bytes) 0 0) (numbers bytes) in
    rw u (rw text at w)

pub input-printed : (bytes d e : List ℕ) (m : ℕ) → unreadable bytes ≡ true → Wrote d 0 (refused_text 17) e m → Wrote d 0 (printed bytes) e m
unfolding printed
input-printed bytes d e m u w = rw u w

abbrev Answered : List ℕ → List ℕ → List ℕ → ℕ → Type 0
Answered bytes d e m =
    (m ≡ pick (leb max_output (length d)) (length (printed bytes)) 0) × (e ≡ pick (leb max_output (length d)) (written d 0 (printed bytes)) d)

pub answered : (bytes d e : List ℕ) (m : ℕ) → max_output ≤ length d → Wrote d 0 (printed bytes) e m → Answered bytes d e m
answered bytes d e m h w = rw (le-leb max_output (length d) h) (omega (arith, w.next), w.out)

pub no_room : (bytes d : List ℕ) → length d < max_output → Answered bytes d d 0
no_room bytes d h = rw (lt-leb max_output (length d) h) (refl, refl)
