-- An opening's calls: when a start and a continuation are not refused, and any cut of budgets carries it to its end.
use mathlib.Core.Path.{◌≡◌, refl, ap, ◌∙◌}
use Prim.Native.Nat.{ℕ, ◌-◌, ◌^◌, ◌≤◌, ◌<◌, min}
use native.Mathlib.Nat.{sub_self}
use native.Mathlib.Omega.{arith}
use mathlib.Core.Bool.{Bool, true}
use mathlib.Core.List.{List, ◌∷◌, ◌++◌}
use lib.Dec.{leb}
use lib.ListN.{length, drop}
use borrow.Author.Tests.{ltb-false, leb-true, leb-false, not-false, le-ltb, le-leb, lt-leb}
use Rattle.base.specs.Choice.{both}
use Rattle.base.specs.Limits.{max_edition, max_depth, max_memory}
use Rattle.base.proofs.ChoiceLaws.{both_first, both-second}
use Rattle.base.specs.Row.{no_edition}
use Rattle.base.proofs.Ranges.{within, range-of}
use Rattle.base.proofs.RowLaws.{NoneHolds, none-holds}
use Rattle.machine.specs.Machines.{Goes}
use Rattle.machine.specs.Calls.{total, after_calls}
use Rattle.machine.proofs.CallLaws.{calls-state}
use Rattle.tree.specs.Store.{store_size}
use Rattle.tree.specs.Openings.{opening_nodes, opening_size}
use Rattle.opening.specs.declared.Opening.{Opening}
use Rattle.run.specs.Rows.{start_checks}
use Rattle.opening.specs.Rows.{nodes_anew, leaf_checks, open_row, reopen_row}
use Rattle.opening_places.specs.Places.{copied_all}
use Rattle.opening.specs.Steps.{new_opening, started, started_out, Open, steps, advanced, opening_machine}
use Rattle.run_theory.specs.Reached.{labels_of}
use Rattle.run_theory.specs.Openings.{HoldsLabels, Openable, opening_after, out_after, new_open, open_after}
use Rattle.run_theory.proofs.OpeningRun.{opening-start, opening-reached, length-after, opening-done}

-- ---- the rows
module _ (edition n m leaf store out : ℕ) where
  pub open-fits : Openable edition n m leaf store out → open_row edition n m leaf store out ≡ 0
  unfolding open_row
  open-fits fits =
      rw (
        within 1 max_edition edition fits.exists,
        le-leb 1 n fits.depth.0,
        le-leb n max_depth fits.depth.1,
        le-ltb (min n max_memory) m fits.memory,
        le-ltb store (store_size m) fits.store_fits,
        lt-leb (2 ^ n) leaf fits.position,
        le-ltb out (opening_size n) fits.out_fits,
      )

  pub fits-open : open_row edition n m leaf store out ≡ 0 → Openable edition n m leaf store out
  unfolding open_row
  fits-open e =
      let row : List (Bool × ℕ) = (no_edition edition, 12) ∷ start_checks n m store ++ leaf_checks n leaf out in
      let (known, none) : NoneHolds row = none-holds row refl e in
      let depth : both (leb 1 n) (leb n max_depth) ≡ true = not-false (both (leb 1 n) (leb n max_depth)) none.0 in
      record {
        exists = range-of 1 max_edition edition known;
        depth =
            (leb-true 1 n (both_first (leb 1 n) (leb n max_depth) depth), leb-true n max_depth (both-second (leb 1 n) (leb n max_depth) depth));
        memory = ltb-false (min n max_memory) m none.1.0;
        store_fits = ltb-false store (store_size m) none.1.1.0;
        position = leb-false (2 ^ n) leaf none.1.1.1.0;
        out_fits = ltb-false out (opening_size n) none.1.1.1.1.0;
      }

module _ (o : Opening) (store out : ℕ) where
  pub reopen-fits :
      Openable o.edition o.depth o.memory o.leaf store out → o.made ≤ nodes_anew o.depth o.memory
      → reopen_row o store out ≡ 0
  unfolding reopen_row
  reopen-fits fits few =
      rw (
        within 1 max_edition o.edition fits.exists,
        le-leb 1 o.depth fits.depth.0,
        le-leb o.depth max_depth fits.depth.1,
        le-ltb (min o.depth max_memory) o.memory fits.memory,
        le-ltb (nodes_anew o.depth o.memory) o.made few,
        lt-leb (2 ^ o.depth) o.leaf fits.position,
        le-ltb store (store_size o.memory) fits.store_fits,
        le-ltb out (opening_size o.depth) fits.out_fits,
      )

-- ---- the start
pub started-fits :
    (edition : ℕ) (statement : List ℕ) (n m leaf store out : ℕ) → Openable edition n m leaf store out
    → started edition statement n m leaf store out ≡ new_opening edition statement n m leaf
unfolding started
started-fits edition statement n m leaf store out fits = rw (open-fits edition n m leaf store out fits)

pub started_out-fits :
    (edition n m leaf : ℕ) (store out : List ℕ) → Openable edition n m leaf (length store) (length out)
    → started_out edition n m leaf store out ≡ copied_all n m leaf store out
unfolding started_out
started_out-fits edition n m leaf store out fits = rw (open-fits edition n m leaf (length store) (length out) fits)

-- ---- the calls
module _
    (edition : ℕ) (statement : List ℕ) (n m leaf : ℕ) (store out : List ℕ) (fits : Openable edition n m leaf (length store) (length out)) where
  memory-le : m ≤ n
  memory-le = omega arith

  -- no call is refused
  pub opening-goes-on :
      (k : ℕ) → k ≤ nodes_anew n m
      → reopen_row (opening_after edition statement n m leaf k) (length store) (length (out_after edition statement n m leaf k out)) ≡ 0
  opening-goes-on k few =
      rw (length-after edition statement n m leaf out fits.depth.0 memory-le fits.out_fits k few)
      (reopen-fits (opening_after edition statement n m leaf k) (length store) (length out) fits few)

  module _ (holds : HoldsLabels edition statement n m store) where
    reached :
        (k : ℕ) → k ≤ nodes_anew n m → steps store k (new_open edition statement n m leaf store out) ≡ open_after edition statement n m leaf k out
    reached = opening-reached edition statement n m leaf store out holds fits.depth.1 memory-le fits.position

    -- what remains falls by one with each label: the laws of calls hold of it
    pub opening-goes : Goes (opening_machine store) (new_open edition statement n m leaf store out) (nodes_anew n m)
    unfolding opening_machine
    opening-goes =
        record {
          done = λ k few. rw (reached k few) (opening-goes-on k few);
          left =
              λ k few. ap (λ (s : Open). nodes_anew s.opening.depth s.opening.memory - s.opening.made) (reached k few);
        }

    -- any cut of budgets makes their sum of labels, up to all there are
    pub opening-calls :
        (budgets : List ℕ)
        → after_calls (advanced store) (new_open edition statement n m leaf store out) budgets
        ≡ open_after edition statement n m leaf (min (total budgets) (nodes_anew n m)) out
    opening-calls budgets =
        calls-state (opening_machine store) (new_open edition statement n m leaf store out) (nodes_anew n m) opening-goes budgets
        ∙ reached (min (total budgets) (nodes_anew n m)) (omega arith)

    -- budgets that suffice end at the tree's opening of the leaf
    pub opening-carried :
        (budgets : List ℕ) → nodes_anew n m ≤ total budgets
        → (after_calls (advanced store) (new_open edition statement n m leaf store out) budgets).out
        ≡ labels_of edition statement n (opening_nodes n leaf) ++ drop (opening_size n) out
    opening-carried budgets enough =
        let all : min (total budgets) (nodes_anew n m) ≡ nodes_anew n m = omega arith in
        ap (λ (s : Open). s.out) (opening-calls budgets)
        ∙ rw all (opening-done edition statement n m leaf out fits.depth.0 memory-le fits.out_fits)

-- with all levels in the store nothing is labelled anew, and the start alone gives the opening
pub none-anew : (n : ℕ) → nodes_anew n n ≡ 0
none-anew n = rw (sub_self n)

pub opening-copied :
    (edition : ℕ) (statement : List ℕ) (n leaf : ℕ) (store out : List ℕ) → HoldsLabels edition statement n n store → 1 ≤ n → leaf < 2 ^ n
    → opening_size n ≤ length out
    → copied_all n n leaf store out ≡ labels_of edition statement n (opening_nodes n leaf) ++ drop (opening_size n) out
opening-copied edition statement n leaf store out holds deep inside fits =
    ap (λ (s : Open). s.out) (opening-start edition statement n n leaf store holds inside out (omega arith))
    ∙ rw none-anew at (opening-done edition statement n n leaf out deep (omega arith) fits)
