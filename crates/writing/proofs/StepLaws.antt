-- Labels of the opening under way made one at a time are those made at once, and then the next opening is begun.
use mathlib.Core.Path.{◌≡◌, refl, sym, ap, ◌∙◌}
use mathlib.Core.Logic.{⊎_elim}
use mathlib.Core.Bool.{false}
use mathlib.Core.List.{List}
use Prim.Native.Nat.{ℕ, zero, suc, ◌+◌, ◌-◌, ◌≤◌, ◌<◌}
use native.Mathlib.Nat.{zero-mul}
use native.Mathlib.Omega.{arith}
use borrow.Author.Tests.{eq-eqb, ne_eqb, ltb-false}
use lib.Dec.{ltb}
use lib.ListN.{length}
use Rattle.base.proofs.WrittenLaws.{written-here}
use Rattle.base.proofs.ChoiceLaws.{lt-or-le}
use Rattle.base.proofs.Parts.{part_length}
use Rattle.tree.specs.Openings.{opening_size}
use Rattle.opening.specs.Rows.{nodes_anew}
use Rattle.machine.specs.Machines as machines
use Rattle.machine.proofs.StepLaws.{no_step}
use Rattle.opening.specs.Steps as openings
use Rattle.opening.specs.Names.{open_of}
use Rattle.file_head.specs.Layout.{head_size, opening_from}
use Rattle.writing.specs.declared.Writing.{Writing}
use Rattle.writing.specs.Possible.{Ready, written_of, labelled}
use Rattle.writing.specs.Steps.{Written, part_of, may_follow, followed, stepped, remaining, writing_machine, steps}
use Rattle.writing.proofs.PartLaws.{part-fits, written_same, written-again}
use Rattle.writing.proofs.OpenLaws.{open_more, edition-kept, depth-kept, memory_kept, leaf-kept, made_after, anew-kept, steps-length}

-- nothing follows an opening that is not done, or is the last
pub followed-stays : (store : List ℕ) (left : ℕ) (s : Written) → may_follow s.writing ≡ false → followed store left s ≡ s
unfolding followed
followed-stays store zero s e = refl
followed-stays store (suc left) s e = rw e

module _ (store file : List ℕ) (w : Writing) (ready : Ready w (length store) (length file)) where
  abbrev n : ℕ
  n = w.opening.depth

  abbrev anew : ℕ
  anew = nodes_anew w.opening.depth w.opening.memory

  abbrev from : ℕ
  from = opening_from n (head_size n w.count) w.number

  -- the opening under way with its part
  abbrev start : openings.Open
  start = open_of w.opening (part_of n w.count w.number file)

  abbrev after : ℕ → openings.Open
  after k = openings.steps store k start

  fits : from + opening_size n ≤ length file
  fits = part-fits n w.count w.number ready.room.number.0 ready.room.number.1 (length file) ready.room.file_fits

  part-whole : length start.out ≡ opening_size n
  part-whole = part_length file from (opening_size n) fits

  after-whole : (k : ℕ) → w.opening.made + k ≤ anew → length (after k).out ≡ opening_size n
  after-whole k few = steps-length store start k few ready.room.depth.0 (omega (arith, part-whole)) ∙ part-whole

  labelled-none : labelled store 0 (written_of w file) ≡ written_of w file
  unfolding labelled
  labelled-none = rw (no_step (openings.opening_machine store) start, written_same file from (opening_size n) fits)

  -- one label more, and what it is followed by
  labelled-more :
      (k : ℕ) → w.opening.made + k < anew
      → stepped store (labelled store k (written_of w file)) ≡ followed store w.count (labelled store (suc k) (written_of w file))
  unfolding stepped labelled
  labelled-more k few =
      let now-whole : length (after k).out ≡ opening_size n = after-whole k (omega arith) in
      let then-whole : length (after (suc k)).out ≡ opening_size n = after-whole (suc k) (omega arith) in
      let room : from + length (after k).out ≤ length file = omega (arith, now-whole, fits) in
      rw (
        depth-kept store start k,
        written-here file (after k).out from room (opening_size n) now-whole,
        ← open_more store start k,
        written-again file (after k).out (after (suc k)).out from room (now-whole ∙ sym then-whole),
      )

  -- with labels left nothing follows
  labelled-stays :
      (k left : ℕ) → w.opening.made + k < anew
      → followed store left (labelled store k (written_of w file)) ≡ labelled store k (written_of w file)
  unfolding labelled
  labelled-stays k left few =
      followed-stays store left (labelled store k (written_of w file))
      (rw (ne_eqb (after k).opening.made (nodes_anew (after k).opening.depth (after k).opening.memory)
      (λ e. omega (arith, made_after store start k, anew-kept store start k))))

  -- some labels at once
  pub steps-labelled :
      (k : ℕ) → w.opening.made + suc k ≤ anew
      → steps store (suc k) (written_of w file) ≡ followed store w.count (labelled store (suc k) (written_of w file))
  unfolding machines.steps writing_machine
  steps-labelled zero few =
      ap (stepped store) (sym labelled-none) ∙ labelled-more 0 (omega arith)
  steps-labelled (suc k) few =
      ap (stepped store) (steps-labelled k (omega arith) ∙ labelled-stays (suc k) w.count (omega arith))
      ∙ labelled-more (suc k) (omega arith)

  -- what is known after them
  pub labelled-ready :
      (k : ℕ) → w.opening.made + k ≤ anew → Ready (labelled store k (written_of w file)).writing (length store) (length file)
  unfolding labelled
  labelled-ready k few =
      record {
        room = rw (edition-kept store start k, depth-kept store start k, memory_kept store start k) ready.room;
        position = rw (depth-kept store start k, leaf-kept store start k) ready.position;
        few = omega (arith, made_after store start k, anew-kept store start k);
      }

  pub labelled-remaining :
      (k : ℕ) → w.opening.made + k ≤ anew → remaining (labelled store k (written_of w file)).writing + k ≡ remaining w
  unfolding labelled
  labelled-remaining k few = rw (anew-kept store start k, made_after store start k) (omega arith)

-- an opening that is not followed has labels left, unless none remain
pub under_left :
    (w : Writing) (store file : ℕ) → Ready w store file → may_follow w ≡ false → 1 ≤ remaining w
    → w.opening.made < nodes_anew w.opening.depth w.opening.memory
under_left w store file ready under some =
    ⊎_elim
    (λ more. more)
    (λ done.
    let made : w.opening.made ≡ nodes_anew w.opening.depth w.opening.memory = omega (arith, ready.few) in
    let last : ltb w.number w.count ≡ false = rw (eq-eqb _ _ made) at under in
    let none : w.count - w.number ≡ 0 = omega (arith, ltb-false w.number w.count last) in
    absurd (omega (arith, rw (none, zero-mul) at some)))
    (lt-or-le w.opening.made (nodes_anew w.opening.depth w.opening.memory))
