-- `planning::answering::answer` meets its contract: one law for each exit.
use Rattle.planning.proofs.InputLaws.{long-input, bad-input, no_number, good-input, plan-printed, input-printed, answered, no_room}
use Rattle.planning.specs.Input.{unreadable}
use Rattle.decimal.proofs.ReadLaws.{kept-all}
use Rattle.decimal.specs.Numbers.{max_numbers, numbers}
use mathlib.Core.Bool.{true}
use mathlib.Core.List.{◌∷◌}
use lib.ListN.{length, length-take, take}
use native.Mathlib.Omega.{arith}
use mathlib.Core.Path.{◌≡◌, sym, ap, ◌∙◌}
use Rattle.planning.proofs.answering.answer.Goals as goal
use Rattle.planning.proofs.answering.answer.Goals.{then-input-gt-MAX_INPUT-via-then-input-gt-MAX_INPUT, then-input-gt-MAX_INPUT-via-else-input-gt-MAX_INPUT+then-not-is_readable}

pub returns-then-out-lt-MAX_OUTPUT : goal.returns-then-out-lt-MAX_OUTPUT
returns-then-out-lt-MAX_OUTPUT c =
    let e = no_room c.args.input.now c.args.out.now c.if-out-lt-MAX_OUTPUT.true in
    record { value = e.0; out_after = e.1 }

pub returns-then-input-gt-MAX_INPUT : goal.returns-then-input-gt-MAX_INPUT
returns-then-input-gt-MAX_INPUT c =
    let bytes = c.args.input.now in
    let bad : unreadable bytes ≡ true =
    elim c.then-input-gt-MAX_INPUT.branch [
      | then-input-gt-MAX_INPUT-via-then-input-gt-MAX_INPUT w ↦ long-input bytes w.if-input-gt-MAX_INPUT.true
      | then-input-gt-MAX_INPUT-via-else-input-gt-MAX_INPUT+then-not-is_readable w ↦ bad-input bytes (sym w.is_readable.ensures ∙ w.if-not-is_readable.true)
    ] in
    let e = answered _ _ _ _ c.if-out-lt-MAX_OUTPUT.false (input-printed bytes _ _ _ bad c.put_refused.ensures) in
    record { value = e.0; out_after = e.1 }

pub read_numbers-numbers-requires : goal.read_numbers-numbers-requires
read_numbers-numbers-requires c = sym c.is_readable.ensures ∙ c.if-not-is_readable.false

pub shared_ref_as_front-split_first : goal.shared_ref_as_front-split_first
shared_ref_as_front-split_first c = omega (arith, c.read_numbers-numbers.ensures.1, length-take max_numbers (numbers c.args.input.now))

pub returns-in-Some : goal.returns-in-Some
returns-in-Some c =
    let rn = c.read_numbers-numbers in
    let bytes = c.args.input.now in
    let kept = kept-all rn.result.list _ _ rn.result.count rn.ensures.0 rn.ensures.1 in
    let all : c.in-Some.depth.now ∷ c.in-Some.leaves.now ≡ take max_numbers (numbers bytes) = sym c.in-Some.ensures.cases.0 ∙ kept in
    let good = good-input bytes c.if-input-gt-MAX_INPUT.false (sym c.is_readable.ensures ∙ c.if-not-is_readable.false)
    (omega (arith, ap length all, length-take max_numbers (numbers bytes))) in
    let e = answered _ _ _ _ c.if-out-lt-MAX_OUTPUT.false (plan-printed bytes _ _ _ _ _ all good c.put_answer.ensures) in
    record { value = e.0; out_after = e.1 }

pub returns-in-None : goal.returns-in-None
returns-in-None c =
    let rn = c.read_numbers-numbers in
    let bytes = c.args.input.now in
    let kept = kept-all rn.result.list _ _ rn.result.count rn.ensures.0 rn.ensures.1 in
    let none = no_number bytes (omega (arith, ap length kept, c.in-None.ensures.cases, length-take max_numbers (numbers bytes))) in
    let e = answered _ _ _ _ c.if-out-lt-MAX_OUTPUT.false (input-printed bytes _ _ _ none c.put_refused-in-None.ensures) in
    record { value = e.0; out_after = e.1 }
