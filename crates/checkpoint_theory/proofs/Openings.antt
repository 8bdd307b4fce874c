-- The openings behind a checkpoint: those of the tree's file are all taken, with an opening that was cut off behind them, and none is taken that
-- is not right.
use mathlib.Core.Path.{◌≡◌, refl, sym, ap, ◌∙◌}
use mathlib.Core.Bool.{Bool, true, false}
use mathlib.Core.List.{List, ◌++◌, append_assoc}
use mathlib.Core.Logic.{⊎_elim}
use Prim.Native.Nat.{ℕ, zero, suc, ◌+◌, ◌-◌, ◌*◌, ◌≤◌, ◌<◌}
use native.Mathlib.Nat.{zero-add, add-zero, mul_comm, mul-le-mul_right}
use native.Mathlib.Omega.{arith}
use borrow.Author.Tests.{le-leb, lt-leb}
use lib.ListN.{length, take, drop, length-append, length-drop}
use lib.Seq.{take-append-le, drop-append-le}
use Rattle.base.specs.Choice.{pick}
use Rattle.base.specs.Limits.{max_depth, max_challenges, IsCount}
use Rattle.base.specs.Bytes.{joined}
use Rattle.base.specs.Row.{outside, either}
use Rattle.base.proofs.BytesLaws.{joined_at}
use Rattle.base.proofs.ChoiceLaws.{lt-or-le}
use Rattle.base.proofs.Ranges.{within}
use Rattle.tree.specs.Openings.{opening_size}
use Rattle.tree.specs.Walk.{nodes_in}
use Rattle.run.specs.declared.Run.{Run}
use Rattle.run.specs.Steps.{Stamped, steps}
use Rattle.run_theory.specs.Runs.{at_start}
use Rattle.run_theory.proofs.StartLaws.{levels-fit}
use Rattle.file_head.specs.Challenge.{challenge_leaf}
use Rattle.file_head.proofs.Leaves.{challenge_leaf-small}
use Rattle.check_theory.specs.TreeFile.{root_of, challenged_opening, tree_openings}
use Rattle.check_theory.proofs.RowLaws.{right-done}
use Rattle.check_theory.proofs.TreeFile.{opening-right, openings-count, openings-at, openings-size, openings-length}
use Rattle.writing_theory.proofs.Finished.{finished-root}
use Rattle.checkpoint.specs.Layout.{checkpoint_of}
use Rattle.checkpoint.specs.Reading.{run_found, count_found, size_found}
use Rattle.checkpoint.specs.Openings.{opening_in, is_right, right_after, openings_taken}
use Rattle.checkpoint_theory.specs.OnTheWay.{OnTheWay, on_disk}
use Rattle.checkpoint_theory.proofs.Resuming.{resumed-on-the-way}

-- ---- each opening that is taken is right
module _ (edition : ℕ) (statement root : List ℕ) (n : ℕ) (bytes : List ℕ) where
  taken-by : (t : Bool) (done i rest : ℕ) → is_right edition statement root n bytes (done + 1) ≡ t → done < i → i ≤ done + pick t (suc rest) 0
      → (done + 1 < i → i ≤ done + 1 + rest → is_right edition statement root n bytes i ≡ true) → is_right edition statement root n bytes i ≡ true
  taken-by true done i rest here low high later =
      ⊎_elim (λ (more : done + 1 < i). later more (omega arith))
      (λ (first : i ≤ done + 1). let same : i ≡ done + 1 = omega arith in rw same here) (lt-or-le (done + 1) i)
  taken-by false done i rest here low high later = absurd (omega arith)

  after-right : (done left i : ℕ) → done < i → i ≤ done + right_after edition statement root n bytes done left → is_right edition statement root n bytes i ≡ true
  unfolding right_after
  after-right done zero i low high = absurd (omega arith)
  after-right done (suc left) i low high =
      taken-by (is_right edition statement root n bytes (done + 1)) done i (right_after edition statement root n bytes (done + 1) left) refl low high
      (after-right (done + 1) left i)

  by-range : (t : Bool) (i count : ℕ) → 1 ≤ i → i ≤ pick t 0 (right_after edition statement root n bytes 0 count)
      → is_right edition statement root n bytes i ≡ true
  by-range true i count low high = absurd (omega arith)
  by-range false i count low high = after-right 0 count i low (omega arith)

  pub any-openings-right : (t i : ℕ) → 1 ≤ i → i ≤ openings_taken edition statement root n t bytes → is_right edition statement root n bytes i ≡ true
  unfolding openings_taken
  any-openings-right t i = by-range (either (outside 1 max_depth n) (outside 1 max_challenges t)) i t

-- ---- the tree's own openings are taken, and one that was cut off is not
module _ (edition : ℕ) (statement : List ℕ) (n q : ℕ) (shallow : n ≤ max_depth) (cut : List ℕ) (short : length cut < opening_size n) where
  abbrev laid : List ℕ
  laid = joined (tree_openings edition statement n q) ++ cut

  abbrev root : List ℕ
  root = root_of edition statement n

  laid-size : length laid ≡ q * opening_size n + length cut
  laid-size = rw (length-append, openings-length edition statement n q)

  before-cut : (i : ℕ) → 1 ≤ i → i ≤ q → (i - 1) * opening_size n + opening_size n ≤ q * opening_size n
  before-cut i some few =
      let e : i ≡ i - 1 + 1 = omega arith in
      let le : (i - 1 + 1) * opening_size n ≤ q * opening_size n = mul-le-mul_right {m = i - 1 + 1} {n = q} (opening_size n) (omega arith) in
      omega arith

  opening-in : (i : ℕ) → 1 ≤ i → i ≤ q → opening_in n laid i ≡ challenged_opening edition statement n i
  opening-in i some few =
      let w : ℕ = opening_size n in
      let all : List ℕ = joined (tree_openings edition statement n q) in
      let size : length all ≡ q * w = openings-length edition statement n q in
      let fits : (i - 1) * w + w ≤ q * w = before-cut i some few in
      let number : suc (i - 1) ≡ i = omega arith in
      ap (take w) (drop-append-le ((i - 1) * w) all cut (omega arith))
      ∙ take-append-le w (drop ((i - 1) * w) all) cut (rw length-drop (omega arith))
      ∙ ap (λ (at : ℕ). take w (drop at all)) (mul_comm (i - 1) w)
      ∙ joined_at w (tree_openings edition statement n q) (openings-size edition statement n q) (i - 1)
      (omega (arith, openings-count edition statement n q))
      ∙ openings-at edition statement n q (i - 1) (omega arith)
      ∙ ap (challenged_opening edition statement n) number

  right-in : (i : ℕ) → 1 ≤ i → i ≤ q → is_right edition statement root n laid i ≡ true
  right-in i some few =
      let leaf : ℕ = challenge_leaf edition n statement root i in
      let whole : i * opening_size n ≤ length laid =
      omega (arith, laid-size, mul-le-mul_right {m = i} {n = q} (opening_size n) few) in
      rw (
        le-leb (i * opening_size n) (length laid) whole,
        opening-in i some few,
        right-done edition statement n leaf root (challenged_opening edition statement n i)
            (opening-right edition statement n leaf (challenge_leaf-small edition n statement root i (omega arith))),
      )

  cut_off : is_right edition statement root n laid (q + 1) ≡ false
  cut_off = rw (lt-leb ((q + 1) * opening_size n) (length laid) (omega (arith, laid-size)))

  -- from any number of openings on
  count_by : (done rest : ℕ) → done ≤ q → (done < q → done + 1 + rest ≡ q)
      → done + pick (is_right edition statement root n laid (done + 1)) (suc rest) 0 ≡ q
  count_by done rest few later =
      ⊎_elim
      (λ (before : done < q).
      let e : done + suc rest ≡ q = omega (arith, later before) in rw (right-in (done + 1) (omega arith) (omega arith)) e)
      (λ (all : q ≤ done). let same : done ≡ q = omega arith in rw (same, cut_off) (add-zero q))
      (lt-or-le done q)

  all_after : (done left : ℕ) → done ≤ q → q ≤ done + left → done + right_after edition statement root n laid done left ≡ q
  unfolding right_after
  all_after done zero few enough = omega arith
  all_after done (suc left) few enough =
      count_by done (right_after edition statement root n laid (done + 1) left) few
      (λ (before : done < q). all_after (done + 1) left (omega arith) (omega arith))

  openings-taken : (t : ℕ) → 1 ≤ n → IsCount t → q ≤ t → openings_taken edition statement root n t laid ≡ q
  unfolding openings_taken
  openings-taken t some count few =
      rw (within 1 max_depth n (some, shallow), within 1 max_challenges t count)
      (sym (zero-add (right_after edition statement root n laid 0 t)) ∙ all_after 0 t (omega arith) (omega arith))

-- of a run that has made all labels: its first place holds the root's
module _ (run : Run) (store : List ℕ) (way : OnTheWay run store) (all : run.made ≡ nodes_in run.depth) where
  root-held : take 32 run.held ≡ root_of run.edition run.statement run.depth
  root-held =
      let n : ℕ = run.depth in
      ap (λ (s : Stamped). take 32 s.run.held) way.reached
      ∙ ap (λ (k : ℕ). take 32 (steps k (at_start run.edition run.statement n run.memory way.first)).run.held) all
      ∙ finished-root run.edition run.statement n run.memory way.first
      (levels-fit run.edition n run.memory (length way.first) way.startable)

  pub openings-back : (t q : ℕ) → IsCount t → q ≤ t → (cut : List ℕ) → length cut < opening_size run.depth
      → openings_taken run.edition run.statement (take 32 run.held) run.depth t
      (joined (tree_openings run.edition run.statement run.depth q) ++ cut)
      ≡ q
  openings-back t q count few cut short =
      rw root-held
      (openings-taken run.edition run.statement run.depth q way.startable.shallow cut short t way.startable.positive count few)

  -- and so behind its checkpoint on the disk
  pub disk-back : (t q : ℕ) → IsCount t → q ≤ t → (cut : List ℕ) → length cut < opening_size run.depth
      → (bytes : List ℕ) → bytes ≡ on_disk run t store q ++ cut
      → openings_taken (run_found bytes).edition (run_found bytes).statement (take 32 (run_found bytes).held) (run_found bytes).depth (count_found bytes)
      (drop (size_found bytes) bytes)
      ≡ q
  disk-back t q count few cut short bytes is =
      let behind : List ℕ = joined (tree_openings run.edition run.statement run.depth q) ++ cut in
      let parts : bytes ≡ checkpoint_of run t store ++ behind = is ∙ append_assoc (checkpoint_of run t store) _ cut in
      let back = resumed-on-the-way run store way t count behind in
      rw (parts, back.run_back, back.count_back, back.more_back) (openings-back t q count few cut short)
