-- The planning program's input, and calls for which document 01 has no row.
use mathlib.Core.Path.{◌≡◌, refl}
use mathlib.Core.Logic.{inl, inr}
use Prim.Native.Nat.{ℕ, ◌+◌, ◌*◌, ◌^◌, ◌≤◌, ◌<◌}
use native.Mathlib.Omega.{arith}
use mathlib.Core.Bool.{Bool, true, false, not}
use mathlib.Core.List.{List, [], ◌∷◌}
use lib.Dec.{ltb}
use lib.ListN.{length, get_or, drop}
use Rattle.base.proofs.RowLaws.{some-refused}
use Rattle.groups.specs.Groups.{groups_of}
use Rattle.groups.specs.Writing.{put_row, put_count, output_after}
use Rattle.tree.specs.Openings.{opening_size}
use Rattle.chain.specs.PlanRow.{plan_row}
use Rattle.decimal.specs.Numbers.{readable, numbers, fits}
use Rattle.planning.specs.Input.{unreadable}
use Rattle.planning.specs.Output.{places, plan_text, printed}
use Rattle.compare.specs.Comparison.{compare_row, compared}
use Rattle.demands.specs.Rows.{OtherByte, Unreadable}
use Rattle.demands.specs.Demand1.{PlanningProgram, Comparing, WritingNumber}
use Rattle.demands.proofs.Decisions.{Decides, decides-lt, decides_eq, decides-between, decides_not, decides-under, decides-either}
use Rattle.demands.proofs.Decisions.{decides-some, is-first}
use Rattle.demands.proofs.Checks.{exists, depth, count, some_leaf, planning-row}

-- ---- comparing
pub comparing-openings :
    (edition : ℕ) (statement : List ℕ) (n : ℕ) (leaves openings : List ℕ) → Comparing edition statement n leaves openings
unfolding compare_row compared
comparing-openings edition statement n leaves openings =
    let size : ℕ = length leaves * opening_size n in
    record {
      answer =
          is-first
          (exists edition
          ∷ depth n
          ∷ count (length leaves)
          ∷ some_leaf n leaves
          ∷ record {
            test = ltb (length openings) size;
            condition = length openings < size;
            decides = decides-lt (length openings) size;
            number = 10;
          }
          ∷ record {
            test = ltb size (length openings);
            condition = size < length openings;
            decides = decides-lt size (length openings);
            number = 13;
          }
          ∷ []
          );
      refused = λ some. rw (some-refused _ some);
    }

-- ---- a number written
pub writing-number : (out : List ℕ) (at x : ℕ) → WritingNumber out at x
unfolding put_row put_count output_after
writing-number out at x =
    let need : ℕ = at + length (groups_of x) in
    record {
      answer =
          is-first
          (record {
            test = ltb (length out) need;
            condition = length out < need;
            decides = decides-lt (length out) need;
            number = 7;
          }
          ∷ []
          );
      refused = λ some. let no = some-refused _ some in (rw no, rw no);
    }

-- ---- the planning program
decides-byte : (b : ℕ) → Decides (not (readable b)) (OtherByte b)
decides-byte b = decides_not (decides-either (decides-between 48 57 b) (decides-either (decides_eq b 32) (decides_eq b 10)))

decides-unreadable : (bytes : List ℕ) → Decides (unreadable bytes) (Unreadable bytes)
unfolding unreadable
decides-unreadable bytes =
    decides-either (decides-lt 65536 (length bytes))
    (decides-either (decides-some readable OtherByte decides-byte bytes)
    (decides-either (decides_eq (length (numbers bytes)) 0)
    (decides-some fits (λ x. 2 ^ 64 ≤ x) (λ x. decides-under x (2 ^ 64)) (numbers bytes))))

program-by : (bytes : List ℕ) (t : Bool) → unreadable bytes ≡ t → PlanningProgram bytes
unfolding printed plan_text
program-by bytes true e =
    record {
      number = 17;
      answer = inl ((decides-unreadable bytes).yes e, refl);
      refused = λ some. rw e;
      done = λ none. absurd (omega arith);
    }
program-by bytes false e =
    let n : ℕ = get_or (numbers bytes) 0 0 in
    let leaves : List ℕ = drop 1 (numbers bytes) in
    record {
      number = plan_row n leaves places;
      answer = inr ((decides-unreadable bytes).no e, planning-row n leaves places);
      refused = λ some. rw (e, some-refused (plan_row n leaves places) some);
      done = λ none. rw (e, none);
    }

pub planning-program : (input : List ℕ) → PlanningProgram input
planning-program bytes = program-by bytes (unreadable bytes) refl
