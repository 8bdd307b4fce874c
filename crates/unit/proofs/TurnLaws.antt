-- W-208: what one turn does to a unit that is not refused, and the turns of a call.
use mathlib.Core.Path.{◌≡◌, refl, sym, ap, subst, ◌∙◌}
use mathlib.Core.Bool.{Bool, true, false}
use mathlib.Core.Logic.{◌⊎◌, inl, inr}
use mathlib.Core.List.{List}
use Prim.Native.Nat.{ℕ, zero, suc, ◌+◌, ◌-◌, ◌≤◌, ◌<◌}
use native.Mathlib.Omega.{arith}
use lib.Dec.{eqb}
use lib.ListN.{length, drop}
use lib.Seq.{get_or-set_same, get_or-set_other}
use borrow.Author.Tests.{ltb-true, lt-ltb, eqb-true, eqb-false, ne_eqb}
use Rattle.base.proofs.ChoiceLaws.{lt-or-le}
use Rattle.base.proofs.Copying.{length-written}
use Rattle.base.proofs.WrittenLaws.{written-here, written_apart, drop-written}
use Rattle.machine.specs.Machines as machines
use Rattle.machine.specs.Machines.{Goes}
use Rattle.tree.specs.Store.{store_size}
use Rattle.run.specs.declared.Run.{Run}
use Rattle.run.specs.Rows.{continue_row}
use Rattle.run.specs.Steps as alone
use Rattle.run.specs.Steps.{Stamped, stamped, run_machine}
use Rattle.run_theory.proofs.GoesOn.{After, after-steps, still-goes, goes-possible, not-refused}
use Rattle.unit.specs.Runs.{run_at, left_of, unfinished, sum_of, size_of, store_from, part_from, outside_run}
use Rattle.unit.specs.Rows.{unit_row}
use Rattle.unit.specs.Turns.{Carried, own_of, next_run, served, turned, unit_machine, turns, turn_blocks}
use Rattle.unit.proofs.SumLaws.{sum-next, sum-grows, some-term, sum_to-same, sum_to-less}
use Rattle.unit.proofs.RowLaws.{Sound, sound, sound-row, RunGoes, fits, present, own-length, own-goes}
use Rattle.unit.proofs.NextLaws.{first_holds, first_found}

-- two numbers are equal or not
pub same_or_not : (j i : ℕ) → (j ≡ i) ⊎ (j ≡ i → ⊥)
same_or_not j i = cases (eqb j i) refl
  where
    cases : (t : Bool) → eqb j i ≡ t → (j ≡ i) ⊎ (j ≡ i → ⊥)
    cases true e = inl (eqb-true j i e)
    cases false e = inr (eqb-false j i e)

-- a run's one step
pub one-step : (t : Stamped) → alone.steps 1 t ≡ alone.stepped t
unfolding machines.steps run_machine
one-step t = refl

-- stores that lie one behind the other
pub stores_apart : (runs : List Run) (j i : ℕ) → 1 ≤ j → j < i → store_from runs j + size_of (run_at runs j) ≤ store_from runs i
stores_apart runs j i some before =
    omega (arith, sum-next (λ k. size_of (run_at runs k)) j some, sum-grows (λ k. size_of (run_at runs k)) j (i - 1) (omega arith))

-- ---- one label of run i
module _ (s : Carried) (ok : Sound s) (i : ℕ) (among : (1 ≤ i) × (i ≤ s.unit.count)) (un : unfinished (run_at s.unit.runs i) ≡ true) where
  abbrev runs : List Run
  runs = s.unit.runs

  abbrev runs' : List Run
  runs' = (served i s).unit.runs

  abbrev next : Stamped
  next = alone.stepped (own_of s i)

  goes : RunGoes runs (length s.store) i
  goes = ok.each i among.0 among.1

  left-some : 0 < left_of (run_at runs i)
  left-some = ltb-true 0 (left_of (run_at runs i)) un

  pub step_after : After 1 (own_of s i) next
  step_after = subst (λ t. After 1 (own_of s i) t) (one-step (own_of s i)) (after-steps (own_of s i) (own-goes s i goes) 1 left-some)

  step-goes : continue_row next.run (length next.store) ≡ 0
  step-goes =
      subst (λ (t : Stamped). continue_row t.run (length t.store) ≡ 0) (one-step (own_of s i))
      (still-goes (own_of s i) (own-goes s i goes) 1 left-some)

  next-length : length next.store ≡ size_of (run_at runs i)
  next-length = step_after.room ∙ own-length s i goes

  next_fits : store_from runs i + length next.store ≤ length s.store
  next_fits = omega (arith, next-length, fits runs (length s.store) i goes)

  -- the runs
  pub served-run : run_at runs' i ≡ next.run
  unfolding served
  served-run = get_or-set_same runs (i - 1) next.run outside_run (present runs (length s.store) i goes)

  pub served-other : (j : ℕ) → 1 ≤ j → (j ≡ i → ⊥) → run_at runs' j ≡ run_at runs j
  unfolding served
  served-other j some other =
      get_or-set_other runs (i - 1) (j - 1) next.run outside_run (λ (e : j - 1 ≡ i - 1). other (omega (arith, among.0)))

  -- what a turn leaves as it is of every run
  kept : (of : Run → ℕ) → of next.run ≡ of (run_at runs i) → (j : ℕ) → 1 ≤ j → of (run_at runs' j) ≡ of (run_at runs j)
  kept of same j some = cases (same_or_not j i)
    where
      cases : (j ≡ i) ⊎ (j ≡ i → ⊥) → of (run_at runs' j) ≡ of (run_at runs j)
      cases (inl e) = rw e (ap of served-run ∙ same)
      cases (inr other) = ap of (served-other j some other)

  pub served-memory : (j : ℕ) → 1 ≤ j → (run_at runs' j).memory ≡ (run_at runs j).memory
  served-memory = kept (λ run. run.memory) step_after.memory

  pub served-from : (j : ℕ) → store_from runs' j ≡ store_from runs j
  served-from j =
      sum_to-same (λ k. size_of (run_at runs' k)) (λ k. size_of (run_at runs k)) (j - 1)
      (λ k some few. ap store_size (served-memory k some))

  pub served-length : length (served i s).store ≡ length s.store
  unfolding served
  served-length = length-written s.store (store_from runs i) next.store next_fits

  -- its own part of the slice, the others' parts, and what lies behind the last
  own-part : part_from (store_from runs i) (run_at runs i).memory (served i s).store ≡ next.store
  unfolding served
  own-part = written-here s.store next.store (store_from runs i) next_fits (size_of (run_at runs i)) next-length

  pub served-own : own_of (served i s) i ≡ next
  served-own =
      let part : part_from (store_from runs' i) (run_at runs' i).memory (served i s).store ≡ next.store =
      rw (served-from i, served-memory i among.0) own-part in
      λ k. stamped (served-run k) (part k)

  apart_from : (j : ℕ) → 1 ≤ j → (j ≡ i → ⊥)
      → (store_from runs j + size_of (run_at runs j) ≤ store_from runs i) ⊎ (store_from runs i + length next.store ≤ store_from runs j)
  apart_from j some other = cases (lt-or-le j i)
    where
      cases : (j < i) ⊎ (i ≤ j)
          → (store_from runs j + size_of (run_at runs j) ≤ store_from runs i) ⊎ (store_from runs i + length next.store ≤ store_from runs j)
      cases (inl before) = inl (stores_apart runs j i some before)
      cases (inr behind) = inr (omega (arith, next-length, stores_apart runs i j among.0 (omega (arith, other))))

  other-part : (j : ℕ) → 1 ≤ j → (j ≡ i → ⊥)
      → part_from (store_from runs j) (run_at runs j).memory (served i s).store ≡ part_from (store_from runs j) (run_at runs j).memory s.store
  unfolding served
  other-part j some other =
      written_apart s.store next.store (store_from runs i) next_fits (store_from runs j) (size_of (run_at runs j)) (apart_from j some other)

  pub served-own-other : (j : ℕ) → 1 ≤ j → (j ≡ i → ⊥) → own_of (served i s) j ≡ own_of s j
  served-own-other j some other =
      let part : part_from (store_from runs' j) (run_at runs' j).memory (served i s).store ≡ (own_of s j).store =
      rw (served-from j, served-memory j some) (other-part j some other) in
      λ k. stamped (served-other j some other k) (part k)

  pub served-behind : drop (store_from runs (s.unit.count + 1)) (served i s).store ≡ drop (store_from runs (s.unit.count + 1)) s.store
  unfolding served
  served-behind =
      drop-written s.store next.store (store_from runs i) (store_from runs (s.unit.count + 1)) next_fits
      (omega (arith, next-length, stores_apart runs i (s.unit.count + 1) among.0 (omega (arith, among.1))))

  -- a call is not refused then, and one label less remains
  goes_then : (j : ℕ) → 1 ≤ j → j ≤ s.unit.count → RunGoes runs' (length (served i s).store) j
  goes_then j some few = cases (same_or_not j i)
    where
      cases : (j ≡ i) ⊎ (j ≡ i → ⊥) → RunGoes runs' (length (served i s).store) j
      cases (inl e) =
          rw (e, served-run, served-from i, served-length)
          (not-refused next.run (length s.store - store_from runs i)
          (goes-possible next.run (length next.store) step-goes)
          (omega (arith, next-length, next_fits, ap store_size step_after.memory)))
      cases (inr other) = rw (served-other j some other, served-from j, served-length) (ok.each j some few)

  pub served-sound : Sound (served i s)
  unfolding served
  served-sound = record { some = ok.some; named = among; each = goes_then }

  pub less-left : left_of (run_at runs i) ≡ left_of (run_at runs' i) + 1
  less-left = rw (served-run, step_after.depth, step_after.made) (omega (arith, left-some))

  pub served-left : sum_of left_of runs s.unit.count ≡ sum_of left_of runs' s.unit.count + 1
  served-left =
      sum_to-less (λ j. left_of (run_at runs j)) (λ j. left_of (run_at runs' j)) s.unit.count i among.0 among.1 less-left
      (λ j some few other. ap left_of (sym (served-other j some other)))

-- ---- whose turn it is
abbrev pub all_left : Carried → ℕ
all_left s = sum_of left_of s.unit.runs s.unit.count

module _ (s : Carried) (ok : Sound s) where
  next-holds : 1 ≤ next_run s.unit
      → (unfinished (run_at s.unit.runs (next_run s.unit)) ≡ true) × ((1 ≤ next_run s.unit) × (next_run s.unit ≤ s.unit.count))
  unfolding next_run
  next-holds found =
      first_holds (λ i. unfinished (run_at s.unit.runs i)) s.unit.count ok.some.0 s.unit.count s.unit.last _ refl found

  next-found : 0 < all_left s → 1 ≤ next_run s.unit
  unfolding next_run
  next-found more =
      some-term (λ i. left_of (run_at s.unit.runs i)) s.unit.count more (1 ≤ next_run s.unit)
      (λ j a b left.
      first_found (λ i. unfinished (run_at s.unit.runs i)) s.unit.count ok.some.0 s.unit.last j ok.named (a, b)
      (lt-ltb 0 (left_of (run_at s.unit.runs j)) left))

  pub next-some : 0 < all_left s
      → ((1 ≤ next_run s.unit) × (next_run s.unit ≤ s.unit.count)) × (unfinished (run_at s.unit.runs (next_run s.unit)) ≡ true)
  next-some more = let (a, b) = next-holds (next-found more) in (b, a)

  -- ---- one turn
  pub turned-is : 0 < all_left s → turned s ≡ served (next_run s.unit) s
  unfolding turned
  turned-is more = rw (ne_eqb (next_run s.unit) 0 (λ (e : next_run s.unit ≡ 0). omega (arith, next-found more)))

  pub turn-costs : 0 < all_left s → turn_blocks s ≡ alone.step_blocks (own_of s (next_run s.unit))
  unfolding turn_blocks
  turn-costs more = rw (ne_eqb (next_run s.unit) 0 (λ (e : next_run s.unit ≡ 0). omega (arith, next-found more)))

  pub turned-sound : 0 < all_left s → Sound (turned s)
  turned-sound more =
      let (among, un) = next-some more in
      rw (turned-is more) (served-sound s ok (next_run s.unit) among un)

  pub turned_left : 0 < all_left s → all_left s ≡ all_left (turned s) + 1
  unfolding served
  turned_left more =
      let (among, un) = next-some more in
      rw (turned-is more) (served-left s ok (next_run s.unit) among un)

-- ---- the turns of a call
pub record Reached (s : Carried) (k : ℕ) : Type 0 where
  pub still : Sound (turns k s)
  pub left : all_left (turns k s) ≡ all_left s - k

next-reached : (s : Carried) (k : ℕ) → k < all_left s → Reached s k → Reached s (suc k)
unfolding machines.steps unit_machine
next-reached s k few r =
    let more : 0 < all_left (turns k s) = omega (arith, r.left) in
    record {
      still = turned-sound (turns k s) r.still more;
      left = omega (arith, r.left, turned_left (turns k s) r.still more);
    }

pub reached : (s : Carried) → Sound s → (k : ℕ) → k ≤ all_left s → Reached s k
unfolding machines.steps
reached s ok zero few = record { still = ok; left = omega arith }
reached s ok (suc k) few = next-reached s k few (reached s ok k (omega arith))

pub sound-after : (s : Carried) → Sound s → (k : ℕ) → k ≤ all_left s → Sound (turns k s)
sound-after s ok k few = (reached s ok k few).still

pub unit-goes : (s : Carried) → unit_row s.unit (length s.store) ≡ 0 → Goes unit_machine s (sum_of left_of s.unit.runs s.unit.count)
unfolding unit_machine
unit-goes s e =
    record {
      done = λ k few. sound-row (turns k s) (sound-after s (sound s e) k few);
      left = λ k few. (reached s (sound s e) k few).left;
    }
