use Rattle.std.proofs.Common.{◌≡◌, ℕ, ◌+◌, ◌<◌, ◌≤◌, ◌++◌, Bool, true, false, Option, Result, Ok, IfOk, unwrap_or, is_some, is_ok, List, length, get_or, drop, take, refl, ◌∙◌, subst, arith, rules}
use Rattle.base.specs.Bytes.{zeros}
use Rattle.decimal.specs.declared.reading.Unreadable.{Unreadable}
use Rattle.decimal.specs.Numbers.{max_numbers, fits, is_digit, numbers, numbers_from}
use Rattle.decimal.specs.Steps.{goes_on, next_value, Wrote, all_fit, ended}
use Rattle.decimal.proofs.ReadLaws.{all_start, all-turn, next_fits, must-go, numbers-turn, numbers-last, first-full, first-all, kept-first}
use Rattle.decimal.proofs.ReadLaws.{kept-behind, ended-short, all-kept}
use Rattle.decimal.proofs.reading.read_numbers.Goals as goal

pub loop-byte-init : goal.loop-byte-init
unfolding numbers
loop-byte-init c = (refl, omega arith, refl, refl, all_start _ ∙ c.requires, refl)

pub unwrap-next-requires : goal.unwrap-next-requires
unwrap-next-requires c =
    let l = c.loop-byte in
    let some : is_ok c.step.result ≡ true =
    c.step.ensures.readable ∙ must-go c.args.input.now l.byte-index _ (unwrap_or l.number 0) c.loop-byte-test.true refl l.invariant.4 in
    search rules

pub push-count-requires : goal.push-count-requires
push-count-requires c = omega (arith, c.loop-byte.invariant.0)

-- a byte b and the number before it, as a step found them
abbrev IsStep : ℕ → ℕ → Option ℕ → Type 0
IsStep b v n = ((is_some n) ≡ is_digit b) × ((unwrap_or n 0) ≡ next_value b v)

-- a turn at the byte at i: those kept and those left are still all numbers, and zeros stand behind those kept
record Turned (bytes list after : List ℕ) (i count r : ℕ) (w : Bool) (v : ℕ) (n : Option ℕ) : Type 0 where
  room : count + length (ended w (is_some n) v) ≤ length list
  all : take r after ++ numbers_from (is_some n) (unwrap_or n 0) (drop (i + 1) bytes) ≡ numbers bytes
  behind : drop r after ≡ drop r (zeros max_numbers)
  fit : fits (unwrap_or n 0) ≡ true
  rest : all_fit true (unwrap_or n 0) (drop (i + 1) bytes) ≡ true

turned : (bytes list after : List ℕ) (i count r : ℕ) (w : Bool) (v : ℕ) (n : Option ℕ) (o : Result (Option ℕ) Unreadable) → i < length bytes
    → (length list ≡ max_numbers) × (count < max_numbers) × (take count list ++ numbers_from w v (drop i bytes) ≡ numbers bytes)
    × (fits v ≡ true) × (all_fit true v (drop i bytes) ≡ true) × (drop count list ≡ drop count (zeros max_numbers))
    → IfOk o (IsStep (get_or bytes i 0) v) → o ≡ Ok n → Wrote list count (ended w (is_some n) v) after r
    → Turned bytes list after i count r w v n
turned bytes list after i count r w v n o h k step e wrote =
    let b = get_or bytes i 0 in
    let is : IsStep b v n = subst (λ (x : Result (Option ℕ) Unreadable). IfOk x (IsStep b v)) e step in
    let on : goes_on b v ≡ true = must-go bytes i b v h refl k.4 in
    let room : count + length (ended w (is_some n) v) ≤ length list = omega (arith, k.0, k.1, ended-short w (is_some n) v) in
    record {
      room = room;
      all = numbers-turn bytes i b v h refl w (is_some n) (unwrap_or n 0) (take count list) (take r after) (numbers bytes) is.0 is.1
          (kept-first list after _ count r wrote room) k.2;
      behind = kept-behind list after _ count r wrote room (zeros max_numbers) k.5;
      fit = next_fits b v (unwrap_or n 0) on is.1;
      rest = all-turn bytes i b v h refl (unwrap_or n 0) k.3 on is.1 ∙ k.4;
    }

pub returns-then-count-ge-MAX_NUMBERS : goal.returns-then-count-ge-MAX_NUMBERS
returns-then-count-ge-MAX_NUMBERS c =
    let l = c.loop-byte in
    let push = c.push-count in
    let t = turned c.args.input.now l.list _ l.byte-index l.count push.result (is_some l.number) (unwrap_or l.number 0) _ _ c.loop-byte-test.true l.invariant
    c.step.ensures.next c.unwrap-next.ensures push.ensures in
    let all =
    first-full push.new.list _ (numbers c.args.input.now) push.result
    (omega (arith, push.ensures.next, t.room, push.auto.list)) (push.auto.list ∙ l.invariant.0) c.if-count-ge-MAX_NUMBERS.true t.all in
    (all-kept push.new.list (zeros max_numbers) _ push.result all.0 all.1 t.behind, all.1)

pub loop-byte-preserved : goal.loop-byte-preserved
loop-byte-preserved c =
    let l = c.loop-byte in
    let push = c.push-count in
    let t = turned c.args.input.now l.list _ l.byte-index l.count push.result (is_some l.number) (unwrap_or l.number 0) _ _ c.loop-byte-test.true l.invariant
    c.step.ensures.next c.unwrap-next.ensures push.ensures in
    (push.auto.list ∙ l.invariant.0, c.if-count-ge-MAX_NUMBERS.false, t.all, t.fit, t.rest, t.behind)

pub push-count-requires-2 : goal.push-count-requires-2
push-count-requires-2 c = omega (arith, c.loop-byte.invariant.0, c.loop-byte.invariant.1)

pub returns : goal.returns
returns c =
    let l = c.loop-byte in
    let bytes = c.args.input.now in
    let push = c.push-count-2 in
    let short = ended-short (is_some l.number) false (unwrap_or l.number 0) in
    let room : l.count + length (ended (is_some l.number) false (unwrap_or l.number 0)) ≤ length l.list = omega (arith, l.invariant.0, l.invariant.1, short) in
    let last =
    numbers-last bytes l.byte-index (unwrap_or l.number 0) (is_some l.number) (take l.count l.list) (take push.result push.new.list)
    (numbers bytes) c.loop-byte-test.false
    (kept-first l.list _ _ l.count _ push.ensures room) l.invariant.2 in
    let all =
    first-all push.new.list (numbers bytes) push.result (omega (arith, push.ensures.next, room, push.auto.list))
    (push.auto.list ∙ l.invariant.0) last in (
      all-kept push.new.list (zeros max_numbers) _ push.result all.0 all.1
          (kept-behind l.list _ _ l.count _ push.ensures room (zeros max_numbers) l.invariant.5),
      all.1,
    )
