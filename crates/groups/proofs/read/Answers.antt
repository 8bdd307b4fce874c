use mathlib.Core.Path.{◌≡◌, refl, sym, ◌∙◌}
use Prim.Native.Nat.{◌+◌, ◌-◌, ◌<◌, ◌≤◌, ◌%◌, ◌*◌, ◌^◌}
use lib.ListN.{length, get_or}
use native.Mathlib.Omega.{arith}
use borrow.Author.Tests.{eq-eqb, lt-ltb}
use Rattle.std.proofs.lemmas.Grind.{common_steps}
use Rattle.groups.specs.Reading.{value, refused, ended}
use Rattle.groups.proofs.Steps.{read_none, read-end, read-last, read_more, read_whole, read_over, added-below, weight-of-ten}
use Rattle.groups.proofs.Steps.{over-tenth, sum_fits, ended-first, ended-some, next-weight}
use Rattle.groups.proofs.read.Goals as goal
use Rattle.groups.proofs.read.Goals.{In_ok-byte, In_ok-value, else-byte-eq0-via-then-byte-eq0+else-i-gt0, else-byte-eq0-via-else-byte-eq0}

pub returns-in_err-byte : goal.returns-in_err-byte
returns-in_err-byte c =
    let lookup = rw c.in_err-byte.ensures.ok_part at c.get.ensures.lookup in
    let l = c.loop-i in
    let past : length c.args.bytes.now ≤ c.args.at + l.i = omega (arith, lookup.3, c.saturating_add.ensures) in
    let e = read_whole c.args.bytes.now c.args.at c.min-i-end.result _ (refused 10) c.min-i-end.ensures
    (l.invariant.2 ∙ read-end _ _ _ _ _ (c.min-i-end.result - (l.i + 1)) (omega arith) past) in
    grind (arith, common_steps, e)

pub pow-weight-requires : goal.pow-weight-requires
pow-weight-requires c = omega (arith, weight-of-ten c.loop-i.i (omega arith))

-- the byte that was read, and what its group is worth
got : (c : In_ok-byte)
    → (c.args.at + c.loop-i.i < length c.args.bytes.now) × (c.in_ok-byte.field-0.now ≡ get_or c.args.bytes.now (c.args.at + c.loop-i.i) 0)
got c =
    let lookup = rw c.in_ok-byte.ensures.ok_part at c.get.ensures.lookup in
    let same : c.saturating_add.result ≡ c.args.at + c.loop-i.i = omega (arith, lookup.3.0, c.saturating_add.ensures) in
    (rw same at lookup.3.0, rw same at (lookup.3.1 0))

group : (c : In_ok-value)
    → (c.in_ok-value.field-0 < 2 ^ 64) × (c.in_ok-value.field-0 ≡ c.in_ok-byte.field-0.now % 128 * 128 ^ c.loop-i.i)
group c =
    let fits = rw c.in_ok-value.ensures.ok_part at c.checked_mul.ensures in
    let worth = rw (c.from-group.ensures, c.pow-weight.ensures) at fits.1 in
    (omega (arith, fits), worth)

pub returns-in_err-value : goal.returns-in_err-value
returns-in_err-value c =
    let over = rw c.in_err-value.ensures.ok_part at c.checked_mul.ensures in
    let more = rw (c.from-group.ensures, c.pow-weight.ensures) at over in
    let b = got (goal.at.returns-in_err-value c).In_ok-byte in
    let l = c.loop-i in
    let much : 2 ^ 64 ≤ c.in_ok-byte.field-0.now % 128 * 128 ^ l.i = omega arith in
    let nine = over-tenth c.in_ok-byte.field-0.now l.i (omega arith) much in
    let e = read_whole c.args.bytes.now c.args.at c.min-i-end.result _ (refused 11) c.min-i-end.ensures
    (l.invariant.2 ∙ sym (read_over _ _ _ l.value _ _ b.0 b.1 nine (omega arith) much)) in
    grind (arith, common_steps, e)

pub overflow_add-value : goal.overflow_add-value
overflow_add-value c = let g = group (goal.at.overflow_add-value c).In_ok-value in
    omega (arith, sum_fits c.in_ok-byte.field-0.now c.loop-i.value c.loop-i.i (omega arith) c.loop-i.invariant.1 (omega (arith, g)), g.1)

pub returns-then-i-gt0 : goal.returns-then-i-gt0
unfolding ended
returns-then-i-gt0 c =
    let b = got (goal.at.returns-then-i-gt0 c).In_ok-byte in
    let g = group (goal.at.returns-then-i-gt0 c).In_ok-value in
    let l = c.loop-i in
    read_whole _ _ _ _ _ c.min-i-end.ensures
    (l.invariant.2
    ∙ read-last _ _ _ _ _ (c.min-i-end.result - (l.i + 1)) _ _ (omega arith) b.0 b.1 refl c.if-byte-lt128.true
    ∙ rw (eq-eqb _ _ c.if-byte-eq0.true, lt-ltb 0 l.i (omega arith)))

pub returns-then-byte-lt128 : goal.returns-then-byte-lt128
unfolding ended
returns-then-byte-lt128 c =
    let b = got (goal.at.returns-then-byte-lt128 c).In_ok-byte in
    let g = group (goal.at.returns-then-byte-lt128 c).In_ok-value in
    let l = c.loop-i in
    let byte = c.in_ok-byte.field-0.now in
    let fits = sum_fits byte l.value l.i (omega arith) l.invariant.1 (omega (arith, g)) in
    let end = c.args.at + l.i + 1 in
    let x = l.value + byte % 128 * 128 ^ l.i in
    let good : ended byte l.i x end ≡ value x end = elim c.else-byte-eq0.branch [
      | else-byte-eq0-via-then-byte-eq0+else-i-gt0 w ↦ ended-first byte l.i x end (omega (arith, w.if-i-gt0.false)) fits
      | else-byte-eq0-via-else-byte-eq0 w ↦ ended-some byte l.i x end w.if-byte-eq0.false fits
    ] in
    rw g.1
    (read_whole _ _ _ _ _ c.min-i-end.ensures
    (l.invariant.2
    ∙ read-last _ _ _ _ _ (c.min-i-end.result - (l.i + 1)) _ _ (omega arith) b.0 b.1 refl c.if-byte-lt128.true
    ∙ good))

pub loop-i-preserved : goal.loop-i-preserved
loop-i-preserved c =
    let b = got (goal.at.loop-i-preserved c).In_ok-byte in
    let g = group (goal.at.loop-i-preserved c).In_ok-value in
    let l = c.loop-i in
    let place : c.args.at + l.i + 1 ≡ c.args.at + (l.i + 1) = omega arith in
    let next = next-weight (128 ^ l.i) l.i refl in (
      omega arith,
      omega (arith, added-below c.in_ok-byte.field-0.now l.value (128 ^ l.i) l.invariant.1, g.1, next),
      l.invariant.2
          ∙ read_more _ _ _ _ _ (c.min-i-end.result - (l.i + 1)) _ _ (omega arith) b.0 b.1 refl c.if-byte-lt128.false
          ∙ rw (← g.1, place),
    )

pub returns : goal.returns
returns c = read_whole _ _ _ _ _ c.min-i-end.ensures (c.loop-i.invariant.2 ∙ read_none _ _ _ _ _ (omega arith))
