-- W-208: 'Each run's root and store are those it would have alone; only how far it has come depends on its neighbours.' After k turns each
-- run and its part of the slice are what as many steps of it alone give as it was served; the labels served add up to k, their blocks to the
-- unit's blocks, and nothing else changes.
use mathlib.Core.Path.{◌≡◌, refl, sym, ap, ◌∙◌}
use mathlib.Core.Bool.{true, false}
use mathlib.Core.Logic.{◌⊎◌, inl, inr}
use Prim.Native.Nat.{ℕ, zero, suc, ◌+◌, ◌-◌, ◌≤◌, ◌<◌}
use native.Mathlib.Omega.{arith}
use lib.ListN.{length, drop, length-set}
use borrow.Author.Tests.{ltb-true, ltb-false}
use Rattle.machine.specs.Machines as machines
use Rattle.machine.specs.Machines.{readings}
use Rattle.machine.proofs.StepLaws.{step-last, no_step, cost-last}
use Rattle.run.specs.Steps as alone
use Rattle.run.specs.Steps.{run_machine, step_blocks}
use Rattle.run_theory.proofs.GoesOn.{After, after-steps}
use Rattle.unit.specs.Runs.{run_at, left_of, unfinished, sum_to, store_from}
use Rattle.unit.specs.Turns.{Carried, own_of, next_run, served, unit_machine, turns, turn_blocks, blocks_over}
use Rattle.unit.proofs.SumLaws.{none-sum, term_fits, sum-change}
use Rattle.unit.proofs.RowLaws.{Sound, own-goes}
use Rattle.unit.proofs.TurnLaws.{all_left, sound-after, reached, next-some, turned-is, turn-costs, same_or_not, served-own, served-own-other}
use Rattle.unit.proofs.TurnLaws.{served-from, served-other, served-length, served-behind}
use Rattle.unit_theory.specs.Served.{served_by, times, last_named}
use Rattle.unit_theory.proofs.NameLaws.{times_none, times-same, times-other, last_none, last_one}

-- the labels that run i got of k turns
abbrev pub got : Carried → ℕ → ℕ → ℕ
got s k i = times i (served_by k s)

pub record Shared (s : Carried) (k : ℕ) : Type 0 where
  pub own : (i : ℕ) → (1 ≤ i) × (i ≤ s.unit.count) → own_of (turns k s) i ≡ alone.steps (got s k i) (own_of s i)
  pub most : (i : ℕ) → (1 ≤ i) × (i ≤ s.unit.count) → got s k i ≤ left_of (run_at s.unit.runs i)
  pub sum : sum_to (got s k) s.unit.count ≡ k
  pub blocks : blocks_over k s ≡ sum_to (λ i. alone.blocks_over (got s k i) (own_of s i)) s.unit.count
  pub name : (turns k s).unit.last ≡ last_named s.unit.last (served_by k s)
  pub count : (turns k s).unit.count ≡ s.unit.count
  pub from : (i : ℕ) → store_from (turns k s).unit.runs i ≡ store_from s.unit.runs i
  pub size : length (turns k s).unit.runs ≡ length s.unit.runs
  pub beyond : (i : ℕ) → s.unit.count < i → run_at (turns k s).unit.runs i ≡ run_at s.unit.runs i
  pub room : length (turns k s).store ≡ length s.store
  pub behind :
      drop (store_from s.unit.runs (s.unit.count + 1)) (turns k s).store ≡ drop (store_from s.unit.runs (s.unit.count + 1)) s.store

none-shared : (s : Carried) → Shared s 0
unfolding machines.steps readings machines.cost_of
none-shared s =
    record {
      own = λ i among. rw (times_none i);
      most = λ i among. omega (arith, times_none i);
      sum = none-sum (got s 0) s.unit.count (λ i some few. times_none i);
      blocks =
          sym (none-sum (λ i. alone.blocks_over (got s 0 i) (own_of s i)) s.unit.count
          (λ i some few. rw (times_none i)));
      name = sym (last_none s.unit.last);
      count = refl;
      from = λ i. refl;
      size = refl;
      beyond = λ i over. refl;
      room = refl;
      behind = refl;
    }

-- ---- one turn more
module _ (s : Carried) (ok : Sound s) (k : ℕ) (few : k < all_left s) (h : Shared s k) where
  abbrev before : Carried
  before = turns k s

  abbrev name-next : ℕ
  name-next = next_run before.unit

  still : Sound before
  still = sound-after s ok k (omega arith)

  remain : 0 < all_left before
  remain = omega (arith, (reached s ok k (omega arith)).left)

  next-among : (1 ≤ name-next) × (name-next ≤ before.unit.count)
  next-among = (next-some before still remain).0

  next-within : (1 ≤ name-next) × (name-next ≤ s.unit.count)
  next-within = (next-among.0, omega (arith, next-among.1, h.count))

  next-goes : unfinished (run_at before.unit.runs name-next) ≡ true
  next-goes = (next-some before still remain).1

  turn_is : turns (suc k) s ≡ served name-next before
  unfolding machines.steps unit_machine
  turn_is = turned-is before still remain

  got-next : got s (suc k) name-next ≡ got s k name-next + 1
  unfolding readings
  got-next = times-same name-next (served_by k s) name-next refl

  got_other : (i : ℕ) → (i ≡ name-next → ⊥) → got s (suc k) i ≡ got s k i
  unfolding readings
  got_other i other = times-other i (served_by k s) name-next (λ (e : name-next ≡ i). other (sym e))

  -- the run that it served, and the others
  own-next : own_of (served name-next before) name-next ≡ alone.steps (got s (suc k) name-next) (own_of s name-next)
  unfolding run_machine
  own-next =
      served-own before still name-next next-among next-goes
      ∙ ap alone.stepped (h.own name-next next-within)
      ∙ sym (step-last run_machine (got s k name-next) (own_of s name-next))
      ∙ ap (λ (j : ℕ). alone.steps j (own_of s name-next)) (sym got-next)

  own-then : (i : ℕ) → (1 ≤ i) × (i ≤ s.unit.count) → own_of (turns (suc k) s) i ≡ alone.steps (got s (suc k) i) (own_of s i)
  own-then i among = cases (same_or_not i name-next)
    where
      cases : (i ≡ name-next) ⊎ (i ≡ name-next → ⊥) → own_of (turns (suc k) s) i ≡ alone.steps (got s (suc k) i) (own_of s i)
      cases (inl e) = rw e (ap (λ t. own_of t name-next) turn_is ∙ own-next)
      cases (inr other) =
          ap (λ t. own_of t i) turn_is
          ∙ served-own-other before still name-next next-among next-goes i among.0 other
          ∙ h.own i among
          ∙ ap (λ (j : ℕ). alone.steps j (own_of s i)) (sym (got_other i other))

  after-got : (i : ℕ) → (1 ≤ i) × (i ≤ s.unit.count) → After (got s k i) (own_of s i) (own_of before i)
  after-got i among =
      rw (h.own i among)
      (after-steps (own_of s i) (own-goes s i (ok.each i among.0 among.1)) (got s k i) (h.most i among))

  most-next : got s (suc k) name-next ≤ left_of (run_at s.unit.runs name-next)
  most-next =
      let a : After (got s k name-next) (own_of s name-next) (own_of before name-next) = after-got name-next next-within in
      let some : 0 < left_of (run_at before.unit.runs name-next) = ltb-true 0 (left_of (run_at before.unit.runs name-next)) next-goes in
      omega (arith, got-next, rw (a.depth, a.made) at some)

  most-then : (i : ℕ) → (1 ≤ i) × (i ≤ s.unit.count) → got s (suc k) i ≤ left_of (run_at s.unit.runs i)
  most-then i among = cases (same_or_not i name-next)
    where
      cases : (i ≡ name-next) ⊎ (i ≡ name-next → ⊥) → got s (suc k) i ≤ left_of (run_at s.unit.runs i)
      cases (inl e) = rw e most-next
      cases (inr other) = rw (got_other i other) (h.most i among)

  -- sums
  sum_then : sum_to (got s (suc k)) s.unit.count ≡ suc k
  sum_then =
      omega (
        arith,
        h.sum,
        got-next,
        sum-change (got s (suc k)) (got s k) s.unit.count name-next next-within.0 next-within.1
            (λ j some among other. got_other j other),
      )

  cost-next :
      alone.blocks_over (got s (suc k) name-next) (own_of s name-next) ≡ alone.blocks_over (got s k name-next) (own_of s name-next) + turn_blocks before
  cost-next =
      ap (λ (j : ℕ). alone.blocks_over j (own_of s name-next)) got-next
      ∙ cost-last run_machine step_blocks (got s k name-next) (own_of s name-next)
      ∙ ap (λ (more : ℕ). alone.blocks_over (got s k name-next) (own_of s name-next) + more)
      (ap step_blocks (sym (h.own name-next next-within)) ∙ sym (turn-costs before still remain))

  blocks-then : blocks_over (suc k) s ≡ sum_to (λ i. alone.blocks_over (got s (suc k) i) (own_of s i)) s.unit.count
  unfolding machines.cost_of
  blocks-then =
      omega (
        arith,
        h.blocks,
        cost-next,
        sum-change
            (λ i. alone.blocks_over (got s (suc k) i) (own_of s i)) (λ i. alone.blocks_over (got s k i) (own_of s i)) s.unit.count name-next
            next-within.0 next-within.1
            (λ j some among other. ap (λ (n : ℕ). alone.blocks_over n (own_of s j)) (got_other j other)),
      )

  -- what it leaves as it was
  name-then : (turns (suc k) s).unit.last ≡ last_named s.unit.last (served_by (suc k) s)
  unfolding readings served
  name-then = ap (λ (t : Carried). t.unit.last) turn_is ∙ sym (last_one s.unit.last (served_by k s) name-next)

  count-then : (turns (suc k) s).unit.count ≡ s.unit.count
  unfolding served
  count-then = ap (λ (t : Carried). t.unit.count) turn_is ∙ h.count

  from_then : (i : ℕ) → store_from (turns (suc k) s).unit.runs i ≡ store_from s.unit.runs i
  from_then i =
      ap (λ (t : Carried). store_from t.unit.runs i) turn_is
      ∙ served-from before still name-next next-among next-goes i
      ∙ h.from i

  size-then : length (turns (suc k) s).unit.runs ≡ length s.unit.runs
  unfolding served
  size-then =
      ap (λ (t : Carried). length t.unit.runs) turn_is
      ∙ length-set before.unit.runs (name-next - 1) _
      ∙ h.size

  beyond-then : (i : ℕ) → s.unit.count < i → run_at (turns (suc k) s).unit.runs i ≡ run_at s.unit.runs i
  beyond-then i over =
      ap (λ (t : Carried). run_at t.unit.runs i) turn_is
      ∙ served-other before still name-next next-among next-goes i (omega arith) (λ (e : i ≡ name-next). omega (arith, next-within.1))
      ∙ h.beyond i over

  room-then : length (turns (suc k) s).store ≡ length s.store
  room-then =
      ap (λ (t : Carried). length t.store) turn_is
      ∙ served-length before still name-next next-among next-goes
      ∙ h.room

  end_same : store_from before.unit.runs (before.unit.count + 1) ≡ store_from s.unit.runs (s.unit.count + 1)
  end_same = ap (λ (n : ℕ). store_from before.unit.runs (n + 1)) h.count ∙ h.from (s.unit.count + 1)

  behind-then :
      drop (store_from s.unit.runs (s.unit.count + 1)) (turns (suc k) s).store
      ≡ drop (store_from s.unit.runs (s.unit.count + 1)) s.store
  behind-then =
      ap (λ (t : Carried). drop (store_from s.unit.runs (s.unit.count + 1)) t.store) turn_is
      ∙ ap (λ (at : ℕ). drop at (served name-next before).store) (sym end_same)
      ∙ served-behind before still name-next next-among next-goes
      ∙ ap (λ (at : ℕ). drop at before.store) end_same
      ∙ h.behind

  next-shared : Shared s (suc k)
  next-shared =
      record {
        own = own-then;
        most = most-then;
        sum = sum_then;
        blocks = blocks-then;
        name = name-then;
        count = count-then;
        from = from_then;
        size = size-then;
        beyond = beyond-then;
        room = room-then;
        behind = behind-then;
      }

pub shared : (s : Carried) → Sound s → (k : ℕ) → k ≤ all_left s → Shared s k
shared s ok zero few = none-shared s
shared s ok (suc k) few = next-shared s ok k few (shared s ok k (omega arith))

-- ---- after k turns, of one run
module _ (s : Carried) (ok : Sound s) (k : ℕ) (few : k ≤ all_left s) (i : ℕ) (among : (1 ≤ i) × (i ≤ s.unit.count)) where
  pub after-turns : After (got s k i) (own_of s i) (own_of (turns k s) i)
  after-turns =
      rw ((shared s ok k few).own i among)
      (after-steps (own_of s i) (own-goes s i (ok.each i among.0 among.1)) (got s k i) ((shared s ok k few).most i among))

  -- the labels that remain of it
  pub left_after : left_of (run_at (turns k s).unit.runs i) ≡ left_of (run_at s.unit.runs i) - got s k i
  left_after = rw (after-turns.depth, after-turns.made) (omega arith)

  -- a finished run is passed over
  pub finished-got : unfinished (run_at s.unit.runs i) ≡ false → got s k i ≡ 0
  finished-got e = omega (arith, (shared s ok k few).most i among, ltb-false 0 (left_of (run_at s.unit.runs i)) e)

  pub finished-own : unfinished (run_at s.unit.runs i) ≡ false → own_of (turns k s) i ≡ own_of s i
  finished-own e =
      (shared s ok k few).own i among
      ∙ ap (λ (j : ℕ). alone.steps j (own_of s i)) (finished-got e)
      ∙ no_step run_machine (own_of s i)

-- when none remains each run got all of its labels
pub got-all : (s : Carried) → Sound s → (i : ℕ) → (1 ≤ i) × (i ≤ s.unit.count) → got s (all_left s) i ≡ left_of (run_at s.unit.runs i)
got-all s ok i among =
    let all : ℕ = all_left s in
    let h : Shared s all = shared s ok all (omega arith) in
    omega (
      arith,
      h.most i among,
      left_after s ok all (omega arith) i among,
      (reached s ok all (omega arith)).left,
      term_fits (λ j. left_of (run_at (turns all s).unit.runs j)) (turns all s).unit.count i among.0 (omega (arith, among.1, h.count)),
    )
